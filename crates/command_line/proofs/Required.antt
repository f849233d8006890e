-- An option that must be given has a text where `clap` takes the words.
use Rattle.std.proofs.Common.{zero, suc, ◌≡◌, ◌∙◌, ◌<◌, ◌≤◌, ◌&&◌, ◌||◌, ℕ, Bool, true, false, not, List, [], ◌∷◌, map}
use Rattle.std.proofs.Common.{length, is_some, Option, Some, None, refl, sym, ap, subst, inl, inr, arith, codes}
use Rattle.std.specs.List.{All, slice_index_or, list_any, list_all}
use Rattle.std.specs.Str.{bytes_eq}
use Rattle.std.specs.Prelude.{slice_get, unwrap_or}
use Rattle.std.proofs.lemmas.Slice.Eq.{bytes_eq-Decides}
use Rattle.clap.proofs.CallerLemmas.{required_has_value}
use Rattle.clap.proofs.SimpleLemmas.{is_false, is_nil, plain_fields}
use Rattle.clap.proofs.WalkLemmas.{both}
use Rattle.clap.specs.Facts.{args_of, unwrap_or_range}
use Rattle.clap.specs.Built.{IsPlain, IsPlainArg, IsParsedFrom}
use Rattle.clap.specs.Matches.{found_of, first_value}
use Rattle.clap.specs.Simple.{App, app_of}
use Rattle.clap.specs.Walk.{Rule, Text, rule_of}
use Rattle.clap.specs.declared.builder.arg.Arg.{Arg}
use Rattle.clap.specs.declared.builder.command.Command.{Command}
use Rattle.clap.specs.declared.parser.matches.ArgMatches.{ArgMatches}
use Rattle.command_line.specs.Words.{needed}

-- only the rule at a position has this id
abbrev pub is_only : Text → List Rule → ℕ → Bool
is_only id [] k = true
is_only id (r ∷ rs) zero = not (list_any (λ x. bytes_eq x.id id) rs)
is_only id (r ∷ rs) (suc k) = not (bytes_eq r.id id) && is_only id rs k

-- no rule asks anything of another
abbrev pub is_alone : Rule → Bool
is_alone r = r.is_simple && r.is_free

-- an id that no flag of `clap`'s own has
abbrev pub is_own : Text → Bool
is_own id = not (bytes_eq id []) && (not (bytes_eq id (codes "help")) && not (bytes_eq id (codes "version")))

-- what is asked of the rules and of the id at a position
abbrev pub is_fit : App → Text → ℕ → Bool
is_fit a id k =
    a.top.is_plain && (not a.top.subcommand_negates_reqs &&
    (list_all is_alone a.top.rules && (is_only id a.top.rules k && is_own id)))

differs : (a b : Text) → not (bytes_eq a b) ≡ true → a ≡ b → ⊥
differs a b differ same =
    let is : bytes_eq a b ≡ true = (bytes_eq-Decides a b).1 same in
    let other : bytes_eq a b ≡ false = is_false _ differ in
    let bad : true ≡ false = sym is ∙ other in
    cc

none_later : (id : Text) (xs : List Arg) → list_any (λ x. bytes_eq x.id id) (map rule_of xs) ≡ false
    → (j : ℕ) (e : Arg) → j < length xs → bytes_eq (slice_index_or xs j e).id.now id ≡ true → ⊥
none_later id [] none j e lt same = absurd (omega arith)
none_later id (x ∷ xs) none zero e lt same =
    let bad : true ≡ false = rw same at none in
    cc
none_later id (x ∷ xs) none (suc j) e lt same =
    none_later id xs (rest (bytes_eq x.id.now id) _ none) j e (omega arith) same
  where
    rest : (a b : Bool) → (a || b) ≡ false → b ≡ false
    rest true b e = absurd (let bad : true ≡ false = e in cc)
    rest false b e = e

only : (id : Text) (xs : List Arg) (k : ℕ) → is_only id (map rule_of xs) k ≡ true
    → (j : ℕ) (e : Arg) → j < length xs → bytes_eq (slice_index_or xs j e).id.now id ≡ true → j ≡ k
only id [] k test j e lt same = absurd (omega arith)
only id (x ∷ xs) zero test zero e lt same = refl
only id (x ∷ xs) zero test (suc j) e lt same = absurd (none_later id xs (is_false _ test) j e (omega arith) same)
only id (x ∷ xs) (suc k) test zero e lt same =
    let other : bytes_eq x.id.now id ≡ false = is_false _ (both _ _ test).0 in
    let bad : true ≡ false = sym same ∙ other in
    cc
only id (x ∷ xs) (suc k) test (suc j) e lt same = ap suc (only id xs k (both _ _ test).1 j e (omega arith) same)

nothing : {X : Type 0} (o : Option X) → not (is_some o) ≡ true → o ≡ None
nothing None e = refl
nothing (Some x) e = let bad : false ≡ true = e in cc

-- an argument that is alone is plain, and its value isn't split
alone_facts : (a : Arg) → is_alone (rule_of a) ≡ true → IsPlainArg a × (a.val_delim ≡ None)
alone_facts a e =
    let p = both _ _ e in
    let over = both _ _ p.0 in
    let ifs = both _ _ over.1 in
    let groups = both _ _ ifs.1 in
    let delim = both _ _ groups.1 in
    let exclusive = both _ _ p.1 in
    let conflicts = both _ _ exclusive.1 in
    ((is_false _ exclusive.0, is_nil _ conflicts.0, is_nil _ over.0, is_nil _ groups.0), nothing _ delim.0)

plain_args : (xs : List Arg) → list_all is_alone (map rule_of xs) ≡ true → All IsPlainArg xs
plain_args [] e k d lt = absurd (omega arith)
plain_args (x ∷ xs) e zero d lt = (alone_facts x (both _ _ e).0).0
plain_args (x ∷ xs) e (suc k) d lt = plain_args xs (both _ _ e).1 k d (omega arith)

-- a use has one value where nothing else is said
one_value : 1 ≤ (unwrap_or_range None).start_inclusive
one_value = omega arith

-- the argument that the rule at a position is of
rule_at : (xs : List Arg) (k : ℕ) (r : Rule) → slice_get (map rule_of xs) k ≡ Some r
    → (d : Arg) × (k < length xs) × (rule_of (slice_index_or xs k d) ≡ r)
rule_at [] k r e = let bad : None ≡ Some r = e in cc
rule_at (x ∷ xs) zero r e = (x, omega arith, ap (λ o. unwrap_or o r) e)
rule_at (x ∷ xs) (suc k) r e = let p = rule_at xs k r e in (p.0, omega arith, p.2)

pub required_text : (c : Command) (m : ArgMatches) (a : App) (id : Text) (k : ℕ) → IsParsedFrom c m → app_of c ≡ a
    → slice_get a.top.rules k ≡ Some (needed id) → is_fit a id k ≡ true
    → is_some (first_value (found_of m) id) ≡ true
required_text c m a id k parsed app_is there fit =
    let xs = args_of c in
    let rules : map rule_of xs ≡ a.top.rules = ap (λ (b : App). b.top.rules) app_is in
    let found = rule_at xs k (needed id) (ap (λ rs. slice_get rs k) rules ∙ there) in
    let d = found.0 in
    let arg = slice_index_or xs k d in
    let is : rule_of arg ≡ needed id = found.2 in
    let f = both _ _ fit in
    let g = both _ _ f.1 in
    let h = both _ _ g.1 in
    let i = both _ _ h.1 in
    let n = both _ _ i.1 in
    let o = both _ _ n.1 in
    let alone : list_all is_alone (map rule_of xs) ≡ true = ap (list_all is_alone) rules ∙ h.0 in
    let fields = plain_fields c (ap (λ (b : App). b.top.is_plain) app_is ∙ f.0) in
    let plain : IsPlain c = (plain_args xs alone, fields.groups) in
    let negates = ap (λ (b : App). b.top.subcommand_negates_reqs) app_is ∙ is_false _ g.0 in
    let same : arg.id.now ≡ id = ap (λ (r : Rule). r.id) is in
    let one : is_only id (map rule_of xs) k ≡ true = ap (λ rs. is_only id rs k) rules ∙ i.0 in
    let whole = (alone_facts arg (each xs alone k d found.1)).1 in
    let least : 1 ≤ (unwrap_or_range arg.num_vals).start_inclusive =
    subst (λ range. 1 ≤ (unwrap_or_range range).start_inclusive) (sym (ap (λ (r : Rule). r.range) is)) one_value in
    subst (λ t. is_some (first_value (found_of m) t) ≡ true) same
    (required_has_value c m parsed plain fields.globals negates k d found.1 (ap (λ (r : Rule). r.required) is)
    (ap (λ (r : Rule). r.action) is)
    whole least
    (λ j e lt meets. only id xs k one j e lt (rw same at meets))
    (λ empty. differs id [] n.0 (sym same ∙ empty))
    (λ auto. elim auto [
      | inl e ↦ differs id (codes "help") o.0 (sym same ∙ e)
      | inr e ↦ differs id (codes "version") o.1 (sym same ∙ e)
    ]))
  where
    each : (xs : List Arg) → list_all is_alone (map rule_of xs) ≡ true → (k : ℕ) (d : Arg) → k < length xs
        → is_alone (rule_of (slice_index_or xs k d)) ≡ true
    each [] e k d lt = absurd (omega arith)
    each (x ∷ xs) e zero d lt = (both _ _ e).0
    each (x ∷ xs) e (suc k) d lt = each xs (both _ _ e).1 k d (omega arith)
