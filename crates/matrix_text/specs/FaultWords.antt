-- The words that tell a fault.
use Rattle.std.specs.Prelude.{ℕ, List, codes}
use Rattle.matrix_text.specs.declared.faults.TextFault.{TextFault}
use Rattle.matrix_text.specs.declared.faults.TextFault.TheVariants.{Write, Memory}

abbrev pub words_of : TextFault → List ℕ
words_of Write = codes "write fault"
words_of Memory = codes "out of memory"
