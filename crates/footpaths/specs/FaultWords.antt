-- The words of a fault.
use Rattle.std.specs.Prelude.{ℕ, List, codes}
use Rattle.footpaths.specs.declared.faults.FootFault.{FootFault}
use Rattle.footpaths.specs.declared.faults.FootFault.TheVariants.{TooMany, Memory}

abbrev pub words_of : FootFault → List ℕ
words_of TooMany = codes "too many footpaths"
words_of Memory = codes "out of memory"
