-- What the program's gates say of a lease, in a run and in a conversation.
-- "Every lease is worked at." (The program's own rule.)
use Rattle.std.specs.Prelude.{◌≡◌, ⊤}
use Rattle.workers.specs.Held.{Decides, WasTold}
use Rattle.workers.specs.declared.gates.Verdict.TheVariants.{Work}

-- what the program's gates decide: every lease is worked at. So none is lost, and no worker vanishes
abbrev pub works_at_each : Decides
works_at_each lease verdict = verdict ≡ Work

-- no promise depends on what they were told of a lease
abbrev pub told_anything : WasTold
told_anything lease settled = ⊤
