-- Footpaths that are accepted are never refused, and a network that is accepted only for want of memory.
use Rattle.std.proofs.Common.{◌≡◌, ℕ, length, refl, subst}
use Rattle.timetable.specs.declared.faults.NetFault.{NetFault}
use Rattle.timetable.specs.declared.faults.NetFault.TheVariants.{Memory, StopRange, TimesGoBack, TooLarge}
use Rattle.timetable.specs.Faults.{IsFeetFault, IsNetFault}
use Rattle.timetable.specs.Footpaths.{AreFeet, FeetData, FeetInRange}
use Rattle.timetable.specs.Networks.{IsNet, Net}

pub no_feet_fault : (fault : NetFault) (stops : ℕ) (feet : FeetData) → AreFeet feet → length feet.walks ≡ stops →
    IsFeetFault fault stops feet → ⊥
no_feet_fault StopRange stops feet ok lists_count h = h (subst (λ n. FeetInRange n feet) lists_count ok.in_range)
no_feet_fault TimesGoBack stops feet ok lists_count h = h
no_feet_fault TooLarge stops feet ok lists_count h = h.1 ok.within
no_feet_fault Memory stops feet ok lists_count h = h

pub net_fault : (fault : NetFault) (n : Net) → IsNet n → IsNetFault fault n → fault ≡ Memory
net_fault StopRange n ok h = absurd (h ok.in_range)
net_fault TimesGoBack n ok h = absurd (h.1 ok.rise)
net_fault TooLarge n ok h = absurd (h.2 ok.within)
net_fault Memory n ok h = refl
