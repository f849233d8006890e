-- A place holds the first row that is offered for it.
use Rattle.std.proofs.Common.{◌≡◌, ◌≢◌, ◌<◌, ◌+◌, ◌*◌, ◌==◌, ◌&&◌, ℕ, Bool, true, false, not, cond, List, [], ◌∷◌}
use Rattle.std.proofs.Common.{Option, Some, None, is_some, length, get_or, refl, sym, ap, ◌∙◌, subst, rules, arith}
use Rattle.std.proofs.Common.{if◌then◌else◌}
use Rattle.std.proofs.Math.ListN.{set}
use Rattle.std.specs.List.{find}
use Rattle.std.specs.Option.{option_or}
use Rattle.std.proofs.lemmas.List.{length-set, get_or-set_same, get_or-set_other}
use Rattle.std.proofs.lemmas.Bool.Decides.{nat_tests}
use Rattle.std.proofs.lemmas.Bool.{and_parts, eqb-true, ltb-true}
use Rattle.collector.specs.Row.{RowData}
use Rattle.collector.specs.Places.{PlacesData, place_of, row_at}
use Rattle.collector.specs.Offers.{belongs, is_open, after_offer, IsSameSize, offered}
use Rattle.collector.specs.Laws.{is_for}

eq_false : (a b : ℕ) → (a == b) ≡ false → b ≢ a
eq_false a b h = λ e. grind (arith, nat_tests)

pub in_range : (a b n k : ℕ) → a < n → b < k → a * k + b < n * k
in_range a b n k low right = search rules

pub belongs_in : (p : PlacesData) (row : RowData) → belongs p row ≡ true →
    (row.scenario < p.scenarios) × (row.origin < p.origins)
belongs_in p row h = let a = and_parts _ _ h in let b = and_parts _ _ a.1 in let c = and_parts _ _ b.1 in
    (ltb-true _ _ b.0, ltb-true _ _ c.0)

pub same_length : (p : PlacesData) (row : RowData) → length (after_offer p row).rows ≡ length p.rows
same_length p row = go (belongs p row && is_open p row)
  where
    go : (b : Bool) → length (if b then record p {
      rows =
          set p.rows (place_of p row.scenario row.origin) (Some row);
    } else p).rows ≡ length p.rows
    go true = length-set p.rows (place_of p row.scenario row.origin) (Some row)
    go false = refl

-- an offer changes no more than the places
pub same_test : (p : PlacesData) (row : RowData) (k : ℕ) → is_for (after_offer p row) k ≡ is_for p k
same_test p row k = go (belongs p row && is_open p row)
  where
    go : (b : Bool) → is_for
        (if b then record p { rows = set p.rows (place_of p row.scenario row.origin) (Some row) } else p) k ≡ is_for p k
    go true = refl
    go false = refl

pub same_sizes : (p : PlacesData) (row : RowData) → IsSameSize p (after_offer p row)
same_sizes p row = go (belongs p row && is_open p row)
  where
    go : (b : Bool) → IsSameSize p
        (if b then record p { rows = set p.rows (place_of p row.scenario row.origin) (Some row) } else p)
    go true = record { scenarios = refl; origins = refl; width = refl; shares = refl; limits = refl }
    go false = record { scenarios = refl; origins = refl; width = refl; shares = refl; limits = refl }

-- the place of one row
offer_at : (p : PlacesData) (row : RowData) (k : ℕ) → length p.rows ≡ p.scenarios * p.origins
    → row_at (after_offer p row) k ≡ option_or (row_at p k) (cond (is_for p k row) (Some row) None)
offer_at p row k size = go (belongs p row) (is_open p row) (place_of p row.scenario row.origin == k) refl refl refl
  where
    none : (o : Option RowData) → option_or o None ≡ o
    none None = refl
    none (Some x) = refl

    full : (o q : Option RowData) → not (is_some o) ≡ false → option_or o q ≡ o
    full None q h = cc
    full (Some x) q h = refl

    empty : (o q : Option RowData) → not (is_some o) ≡ true → option_or o q ≡ q
    empty None q h = refl
    empty (Some x) q h = cc

    go : (a b e : Bool) → belongs p row ≡ a → is_open p row ≡ b → (place_of p row.scenario row.origin == k) ≡ e
        → row_at (if a && b then record p {
          rows =
              set p.rows (place_of p row.scenario row.origin) (Some row);
        } else p) k
        ≡ option_or (row_at p k) (cond (a && e) (Some row) None)
    go false b e in_is open_is here = sym (none (row_at p k))
    go true false false in_is open_is here = sym (none (row_at p k))
    go true false true in_is open_is here =
        let same = eqb-true _ _ here in
        sym (full (row_at p k) (Some row) (ap (λ j. not (is_some (row_at p j))) (sym same) ∙ open_is))
    go true true true in_is open_is here =
        let same = eqb-true _ _ here in
        let range = belongs_in p row in_is in
        let there : place_of p row.scenario row.origin < length p.rows =
        subst (λ n. place_of p row.scenario row.origin < n) (sym size) (in_range _ _ _ _ range.0 range.1) in
        ap (λ j. get_or (set p.rows (place_of p row.scenario row.origin) (Some row)) j None) (sym same)
        ∙ get_or-set_same p.rows (place_of p row.scenario row.origin) (Some row) None there
        ∙ sym (empty (row_at p k) (Some row) (ap (λ j. not (is_some (row_at p j))) (sym same) ∙ open_is))
    go true true false in_is open_is here =
        get_or-set_other p.rows (place_of p row.scenario row.origin) k (Some row) None (eq_false _ _ here)
        ∙ sym (none (row_at p k))

join : (o : Option RowData) (b : Bool) (row : RowData) (q : Option RowData) →
    option_or (option_or o (cond b (Some row) None)) q ≡ option_or o (cond b (Some row) q)
join None true row q = refl
join None false row q = refl
join (Some x) true row q = refl
join (Some x) false row q = refl

pub offered_at : (rows : List RowData) (p : PlacesData) (k : ℕ) → length p.rows ≡ p.scenarios * p.origins
    → row_at (offered p rows) k ≡ option_or (row_at p k) (find (is_for p k) rows)
offered_at [] p k size = last (row_at p k)
  where
    last : (o : Option RowData) → o ≡ option_or o None
    last None = refl
    last (Some x) = refl
offered_at (row ∷ rows) p k size =
    let sizes = same_sizes p row in
    let more = offered_at rows (after_offer p row) k (same_length p row ∙ size
    ∙ sym (λ i. sizes.scenarios i * sizes.origins i)) in
    more
    ∙ (λ i. option_or (offer_at p row k size i) (find (same_test p row k i) rows))
    ∙ join (row_at p k) (is_for p k row) row (find (is_for p k) rows)

-- the sizes stay
pub offered_sizes : (rows : List RowData) (p : PlacesData) → IsSameSize p (offered p rows)
offered_sizes [] p = record { scenarios = refl; origins = refl; width = refl; shares = refl; limits = refl }
offered_sizes (row ∷ rows) p =
    let one = same_sizes p row in let more = offered_sizes rows (after_offer p row) in
    record {
      scenarios = more.scenarios ∙ one.scenarios;
      origins = more.origins ∙ one.origins;
      width = more.width ∙ one.width;
      shares = more.shares ∙ one.shares;
      limits = more.limits ∙ one.limits;
    }

pub offered_length : (rows : List RowData) (p : PlacesData) → length (offered p rows).rows ≡ length p.rows
offered_length [] p = refl
offered_length (row ∷ rows) p = offered_length rows (after_offer p row) ∙ same_length p row
