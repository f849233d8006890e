use Rattle.std.proofs.Common.{arith, append-nil, [], subst, ◌≡◌, ◌-◌, ◌≤◌, length, take, drop, List, ℕ}
use Rattle.std.proofs.Common.{length-drop}
use Rattle.std.proofs.lemmas.List.{take_all}
use Rattle.std.proofs.Math.Seq.{take-add}
use Rattle.std.proofs.KnownBytes.{Appends-trans, Appends-kept}
use Rattle.std.specs.Io.KnownBytes.{Appends}
use Rattle.matrix_text.proofs.Prefixes.{part_out}
use Rattle.outputs.proofs.output.put_whole.Goals as goal

pub loop-sent-preserved : goal.loop-sent-preserved
loop-sent-preserved g c =
    let bytes = c.args.bytes.now in
    let sent = c.loop-sent.sent in
    let n = c.in-Ok.taken in
    let cut : take (length bytes - sent) (drop sent bytes) ≡ drop sent bytes =
    take_all (length bytes - sent) (drop sent bytes) (omega (arith, length-drop sent bytes)) in
    let bound : n ≤ length (take (length bytes - sent) (drop sent bytes)) = c.in-Ok.ensures.bound in
    let fits : n ≤ length (drop sent bytes) = subst (λ (l : List ℕ). n ≤ length l) cut bound in
    let one : Appends (g.W.Write.contents c.loop-sent.w) (g.W.Write.contents c.put.new.self)
    (take n (take (length bytes - sent) (drop sent bytes))) = c.in-Ok.ensures.bytes in
    record {
      bound = omega (arith, length-drop sent bytes);
      out = rw (take-add sent n bytes) (Appends-trans _ _ _ _ _ c.loop-sent.invariant.out
          (subst (λ (l : List ℕ). Appends (g.W.Write.contents c.loop-sent.w) (g.W.Write.contents c.put.new.self)
          (take n l)) cut one));
    }

-- what was out stays out where a call takes nothing
pub returns-in-Ok-eq0-clause-cut : goal.returns-in-Ok-eq0-clause-cut
returns-in-Ok-eq0-clause-cut g c =
    let bytes = c.args.bytes.now in
    let out = take c.loop-sent.sent bytes in
    let rest = take (length bytes - c.loop-sent.sent) (drop c.loop-sent.sent bytes) in
    let first = g.W.Write.contents c.args.w.now in
    let old = g.W.Write.contents c.loop-sent.w in
    let new = g.W.Write.contents c.put.new.self in
    let none : c.in-Ok-eq0.field-0 ≡ 0 = c.in-Ok-eq0.field-0-test in
    let nothing : Appends old new [] = subst (λ (k : ℕ). Appends old new (take k rest)) none c.in-Ok-eq0.ensures.bytes in
    part_out _ _ bytes c.loop-sent.sent (omega arith)
    (subst (λ (l : List ℕ). Appends first new l) (append-nil out)
    (Appends-trans first old new out [] c.loop-sent.invariant.out nothing))

pub returns-in-Err-clause-cut : goal.returns-in-Err-clause-cut
returns-in-Err-clause-cut g c =
    part_out _ _ c.args.bytes.now c.loop-sent.sent (omega arith)
    (Appends-kept _ _ _ _ c.loop-sent.invariant.out c.in-Err.ensures.bytes)
