-- The words that tell a fault.
use Rattle.std.specs.Prelude.{ℕ, List, codes}
use Rattle.workers.specs.declared.faults.RunFault.{RunFault}
use Rattle.workers.specs.declared.faults.RunFault.TheVariants.{Memory, Spawn, Unfinished}

abbrev pub words_of : RunFault → List ℕ
words_of Memory = codes "out of memory"
words_of Spawn = codes "no worker started"
words_of (Unfinished scenario origin) = codes "unfinished"
