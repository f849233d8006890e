-- What `clap` says of the command of a study.
use Rattle.std.proofs.Common.{◌≡◌, ◌∙◌, ◌<◌, ◌+◌, ℕ, Bool, zero, suc, List, [], ◌∷◌, map, take, length, true, false}
use Rattle.std.proofs.Common.{Some, refl, sym, ap, ap₂, subst, arith, codes}
use Rattle.std.specs.List.{slice_index_or}
use Rattle.std.specs.Prelude.{slice_get}
use Rattle.std.proofs.lemmas.Bool.{false_from_ne_true}
use Rattle.clap.proofs.OnLiterals.{clap_on_literals}
use Rattle.clap.specs.Words.{App, Row, Rule, Text, AddsArg, app_of, rule_of, with_rule, is_simple, is_simple_and_free}
use Rattle.clap.specs.Words.{matches_of, takes, fault_of, HasKind}
use Rattle.clap.specs.declared.builder.arg.Arg.{Arg}
use Rattle.clap.specs.declared.builder.command.Command.{Command}
use Rattle.clap.specs.declared.error.Error.{Error}
use Rattle.table_records.specs.Faults.{IsFirst}
use Rattle.studies.specs.declared.settings.Settings.{Settings}
use Rattle.command_line.specs.declared.option_text.OptionText.{OptionText}
use Rattle.command_line.specs.declared.task.Opt.{Opt}
use Rattle.command_line.specs.declared.task.Task.{Task}
use Rattle.command_line.proofs.Required.{is_fit}
use Rattle.command_line.specs.Words.{study_app, needed, rule_in, with_rules, is_conversation, is_reported, IsAsked}
use Rattle.command_line.specs.Words.{bad_options}

pub study_simple : is_simple study_app ≡ true
unfolding clap_on_literals
study_simple = refl

pub study_free : is_simple_and_free study_app ≡ true
unfolding clap_on_literals
study_free = refl

pub feed_there : slice_get study_app.top.rules 0 ≡ Some (needed (codes "feed"))
feed_there = refl

pub feed_fit : is_fit study_app (codes "feed") 0 ≡ true
feed_fit = refl

-- a command with one more argument
pub added : (old next : Command) (arg : Arg) (rule : Rule) (app : App) → AddsArg old arg next → arg.global ≡ false →
    rule_of arg ≡ rule → app_of old ≡ app
    → app_of next ≡ with_rule app rule
added old next arg rule app adds local is was = adds.shape local ∙ ap₂ with_rule was is

-- the options up to one, and that one
next : (a : App) (must : Bool) (xs : List OptionText) (i : ℕ) (d : OptionText) → i < length xs
    → with_rules a (map (rule_in must) (take (suc i) xs))
    ≡ with_rule (with_rules a (map (rule_in must) (take i xs))) (rule_in must (slice_index_or xs i d))
next a must [] i d few = absurd (omega arith)
next a must (x ∷ xs) zero d few = refl
next a must (x ∷ xs) (suc i) d few = next (with_rule a (rule_in must x)) must xs i d (omega arith)

pub next_rule : (a : App) (must : Bool) (xs : List OptionText) (i : ℕ) (d : OptionText) → i < length xs
    → with_rules a (map (rule_in must) (take (i + 1) xs))
    ≡ with_rule (with_rules a (map (rule_in must) (take i xs))) (rule_in must (slice_index_or xs i d))
next_rule a must xs i d few =
    subst (λ n. with_rules a (map (rule_in must) (take n xs))
    ≡ with_rule (with_rules a (map (rule_in must) (take i xs))) (rule_in must (slice_index_or xs i d))) (suc_is i)
    (next a must xs i d few)
  where
    suc_is : (n : ℕ) → suc n ≡ n + 1
    suc_is n = omega arith

-- the facts of a command are those of the study's
pub same_rows : (a b : App) (words : List Text) (rows : List Row) → a ≡ b → rows ≡ matches_of a words →
    rows ≡ matches_of b words
same_rows a b words rows is e = e ∙ ap (λ (x : App). matches_of x words) is

pub same_faults : (a b : App) (words : List Text) → a ≡ b → fault_of a words ≡ [] → fault_of b words ≡ []
same_faults a b words is e = ap (λ (x : App). fault_of x words) (sym is) ∙ e

pub same_kind : (a b : App) (words : List Text) (e : Error) → a ≡ b → HasKind (fault_of a words) e →
    HasKind (fault_of b words) e
same_kind a b words e is h = subst (λ (x : App). HasKind (fault_of x words) e) is h

-- what isn't taken
pub not_taken : (a b : App) (words : List Text) → a ≡ b → (takes a words ≡ true → ⊥) → takes b words ≡ false
not_taken a b words is refused = false_from_ne_true _ (λ e. refused (ap (λ (x : App). takes x words) is ∙ e))

-- what the texts of a command say, the texts of the study's say
pub same_settings : (a b : List Row) (s : Settings) → a ≡ b → IsAsked a s → IsAsked b s
same_settings a b s is h = subst (λ rows. IsAsked rows s) is h

pub same_report : (a b : List Row) (t : Task) → a ≡ b → t.report ≡ is_reported a → t.report ≡ is_reported b
same_report a b t is h = h ∙ ap is_reported is

pub same_ask : (a b : List Row) (t : Task) → a ≡ b → t.asks ≡ is_conversation a → t.asks ≡ is_conversation b
same_ask a b t is h = h ∙ ap is_conversation is

pub same_bad : (a b : List Row) (o : Opt) → a ≡ b → IsFirst o (bad_options a) → IsFirst o (bad_options b)
same_bad a b o is h = subst (λ rows. IsFirst o (bad_options rows)) is h
