use Rattle.std.proofs.Common.{◌≡◌, ◌∙◌, ◌-◌, ℕ, List, Some, None, ap, codes, cond, drop, false, length, nat_eq, refl}
use Rattle.std.proofs.Common.{sym, take, true}
use Rattle.std.proofs.lemmas.Str.Ascii.{trim_ascii_is}
use Rattle.std.specs.Str.{IsTrimAscii}
use Rattle.table_records.specs.Fields.{number_of}
use lib.Pointwise.{pointwise}
use Rattle.console.specs.Memory as spec
use Rattle.console.proofs.memory.kilobytes.Goals as goal

trimmed_is : (s r : List ℕ) → IsTrimAscii s r → r ≡ spec.trimmed s
trimmed_is s r h = trim_ascii_is s r (spec.from_start s) refl h

abbrev unit : List ℕ
unit = codes "kB"

-- where the text without white space ends with the unit
some_kilobytes : (text t digits n : List ℕ) → IsTrimAscii text t →
    pointwise nat_eq (drop (length t - length unit) t) unit ≡ true → digits ≡ take (length t - length unit) t →
    IsTrimAscii digits n → spec.bytes_of (number_of n) ≡ spec.kilobytes_of text
some_kilobytes text t digits n at_text ends rest at_digits =
    let found : spec.before_suffix unit t ≡ Some digits =
    ap (λ b. cond b (Some (take (length t - length unit) t)) None) ends ∙ ap Some (sym rest) in
    ap (λ x. spec.bytes_of (number_of x)) (trimmed_is digits n at_digits)
    ∙ (ap spec.bytes_before (sym found)
    ∙ ap (λ x. spec.bytes_before (spec.before_suffix unit x)) (trimmed_is text t at_text))

-- where it doesn't
no_kilobytes : (text t : List ℕ) → IsTrimAscii text t →
    pointwise nat_eq (drop (length t - length unit) t) unit ≡ false → None ≡ spec.kilobytes_of text
no_kilobytes text t at_text other =
    let none : spec.before_suffix unit t ≡ None =
    ap (λ b. cond b (Some (take (length t - length unit) t)) None) other in
    ap spec.bytes_before (sym none)
    ∙ ap (λ x. spec.bytes_before (spec.before_suffix unit x)) (trimmed_is text t at_text)

pub returns-in-Some-clause-figure : goal.returns-in-Some-clause-figure
returns-in-Some-clause-figure c =
    c.bytes_of.ensures.bytes ∙ (ap spec.bytes_of c.number.ensures
    ∙ some_kilobytes c.args.text.now c.trim_ascii.result.now c.in-Some.digits.now c.trim_ascii-in-Some.result.now
    c.trim_ascii.ensures.value c.in-Some.ensures.cases.0 c.in-Some.ensures.cases.1 c.trim_ascii-in-Some.ensures.value)

pub returns-in-None-clause-figure : goal.returns-in-None-clause-figure
returns-in-None-clause-figure c =
    no_kilobytes c.args.text.now c.trim_ascii.result.now c.trim_ascii.ensures.value c.in-None.ensures.cases
