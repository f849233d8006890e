use Rattle.std.proofs.Common.{arith, append-nil, [], subst, ◌≡◌, ◌-◌, ◌≤◌, length, take, drop, List, ℕ, Option}
use Rattle.std.proofs.Common.{length-drop}
use Rattle.std.proofs.lemmas.List.{take_all}
use Rattle.std.proofs.Math.Seq.{take-add}
use Rattle.std.proofs.KnownBytes.{Appends-trans, Appends-kept}
use Rattle.std.specs.Io.KnownBytes.{Appends}
use Rattle.matrix_text.proofs.Prefixes.{first_out, part_out}
use Rattle.matrix_text.proofs.output.put_all.Goals as goal

pub loop-sent-preserved : goal.loop-sent-preserved
loop-sent-preserved g c =
    let bytes = c.args.bytes.now in
    let sent = c.loop-sent.sent in
    let n = c.in-Ok.taken in
    let cut : take (length bytes - sent) (drop sent bytes) ≡ drop sent bytes =
    take_all (length bytes - sent) (drop sent bytes) (omega (arith, length-drop sent bytes)) in
    let bound : n ≤ length (take (length bytes - sent) (drop sent bytes)) = c.in-Ok.ensures.bound in
    let fits : n ≤ length (drop sent bytes) = subst (λ (l : List ℕ). n ≤ length l) cut bound in
    let one : Appends (g.W.Write.contents c.loop-sent.w) (g.W.Write.contents c.write.new.self)
    (take n (take (length bytes - sent) (drop sent bytes))) = c.in-Ok.ensures.bytes in
    record {
      bound = omega (arith, length-drop sent bytes);
      out = rw (take-add sent n bytes) (Appends-trans _ _ _ _ _ c.loop-sent.invariant.out
          (subst (λ (l : List ℕ). Appends (g.W.Write.contents c.loop-sent.w) (g.W.Write.contents c.write.new.self)
          (take n l)) cut one));
    }

-- what was out stays out where a write takes nothing
still_out : (a b c : Option (List ℕ)) (text rest : List ℕ) (n : ℕ) → n ≡ 0 → Appends a b text →
    Appends b c (take n rest) → Appends a c text
still_out a b c text rest n none h more =
    let nothing : Appends b c [] = subst (λ (k : ℕ). Appends b c (take k rest)) none more in
    subst (λ (l : List ℕ). Appends a c l) (append-nil text) (Appends-trans a b c text [] h nothing)

pub returns-in-Ok-eq0-clause-err : goal.returns-in-Ok-eq0-clause-err
returns-in-Ok-eq0-clause-err g c =
    let rest = take (length c.args.bytes.now - c.loop-sent.sent) (drop c.loop-sent.sent c.args.bytes.now) in
    first_out _ _ c.args.bytes.now c.loop-sent.sent
    (still_out _ _ _ (take c.loop-sent.sent c.args.bytes.now) rest c.in-Ok-eq0.field-0 (omega arith)
    c.loop-sent.invariant.out c.in-Ok-eq0.ensures.bytes)

pub returns-in-Ok-eq0-clause-cut : goal.returns-in-Ok-eq0-clause-cut
returns-in-Ok-eq0-clause-cut g c =
    let rest = take (length c.args.bytes.now - c.loop-sent.sent) (drop c.loop-sent.sent c.args.bytes.now) in
    part_out _ _ c.args.bytes.now c.loop-sent.sent (omega arith)
    (still_out _ _ _ (take c.loop-sent.sent c.args.bytes.now) rest c.in-Ok-eq0.field-0 (omega arith)
    c.loop-sent.invariant.out c.in-Ok-eq0.ensures.bytes)

pub returns-in-Err-clause-err : goal.returns-in-Err-clause-err
returns-in-Err-clause-err g c =
    first_out _ _ c.args.bytes.now c.loop-sent.sent
    (Appends-kept _ _ _ _ c.loop-sent.invariant.out c.in-Err.ensures.bytes)

pub returns-in-Err-clause-cut : goal.returns-in-Err-clause-cut
returns-in-Err-clause-cut g c =
    part_out _ _ c.args.bytes.now c.loop-sent.sent (omega arith)
    (Appends-kept _ _ _ _ c.loop-sent.invariant.out c.in-Err.ensures.bytes)
