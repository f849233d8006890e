use Rattle.std.proofs.Common.{◌≡◌, ◌<◌, ◌≤◌, ◌++◌, ◌∷◌, [], ℕ, List, length, map, take, nat_lt, true, false}
use Rattle.std.proofs.Common.{ap, sym, ◌∙◌, arith, refl, string_bytes}
use Rattle.std.proofs.lemmas.Bool.Decides.{nat_tests}
use Rattle.std.proofs.lemmas.List.{take_all, append-nil}
use Rattle.console.specs.Lines as spec
use Rattle.console.proofs.lines.shown.Goals as goal
use Rattle.console.proofs.lines.shown.Goals.{then-bytes-gt-MOST_SHOWN+in_ok-push_str, else-bytes-gt-MOST_SHOWN}

-- where the first sixty are all
short : (bytes : List ℕ) → length bytes ≤ 60 → map spec.shown_byte bytes ≡ spec.shown_of bytes
short bytes few =
    let none : nat_lt 60 (length bytes) ≡ false = grind (arith, nat_tests) in
    rw (none, take_all 60 bytes few) (sym (append-nil (map spec.shown_byte bytes)))

-- where there are more
long : (bytes : List ℕ) → 60 < length bytes → map spec.shown_byte (take 60 bytes) ++ 46 ∷ 46 ∷ [] ≡ spec.shown_of bytes
long bytes more =
    let some : nat_lt 60 (length bytes) ≡ true = grind (arith, nat_tests) in
    rw some refl

pub returns : goal.returns
returns c = elim c.if-bytes-gt-MOST_SHOWN.branch [
  | then-bytes-gt-MOST_SHOWN+in_ok-push_str w ↦
      let m : c.min.result ≡ 60 = omega (arith, c.min.ensures, w.if-bytes-gt-MOST_SHOWN.true) in
      let all : string_bytes c.loop-byte.text ≡ map spec.shown_byte (take 60 c.args.bytes.now) =
      c.loop-byte.invariant ∙ ap (map spec.shown_byte) (take_all c.loop-byte.byte-index
      (take c.min.result c.args.bytes.now) c.loop-byte-test.false ∙ ap (λ n. take n c.args.bytes.now) m) in
      rw w.text-is (w.in_ok-push_str.ensures.bytes ∙ (ap (λ t. t ++ 46 ∷ 46 ∷ []) all
      ∙ long c.args.bytes.now w.if-bytes-gt-MOST_SHOWN.true))
  | else-bytes-gt-MOST_SHOWN w ↦
      let m : c.min.result ≡ length c.args.bytes.now = omega (arith, c.min.ensures, w.if-bytes-gt-MOST_SHOWN.false) in
      let all : string_bytes c.loop-byte.text ≡ map spec.shown_byte c.args.bytes.now =
      c.loop-byte.invariant ∙ ap (map spec.shown_byte) (take_all c.loop-byte.byte-index
      (take c.min.result c.args.bytes.now) c.loop-byte-test.false
      ∙ take_all c.min.result c.args.bytes.now (omega (arith, m))) in
      rw w.text-is (all ∙ short c.args.bytes.now w.if-bytes-gt-MOST_SHOWN.false)
]
