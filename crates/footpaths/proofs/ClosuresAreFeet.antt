-- Closed footpaths, with the change times, are footpaths as a network asks for them.
use Rattle.std.proofs.Common.{◌≡◌, ◌≤◌, ℕ, List, All, ap, arith, length, subst, sym, slice_get, Some}
use Rattle.timetable.specs.declared.limits.TheConstants.{MOST_CHANGE_SECONDS}
use Rattle.timetable.specs.declared.trips.StopNo.{StopNo}
use Rattle.timetable.specs.Footpaths.{FeetData, FeetInRange, FeetWithin}
use Rattle.timetable.specs.Faults.{IsFeetFault}
use Rattle.timetable.specs.declared.faults.NetFault.{NetFault}
use Rattle.timetable.specs.declared.faults.NetFault.TheVariants.{StopRange, TimesGoBack, TooLarge, Memory}
use Rattle.footpaths.specs.Direct.{DirectLists, AreDirect}
use Rattle.footpaths.specs.Chains.{Foot}
use Rattle.footpaths.specs.Closure.{IsClosure}
use Rattle.footpaths.proofs.ClosedRows.{chain_end}

foot_at : (direct : DirectLists) (limit : ℕ) (feet : FeetData) → IsClosure direct limit feet →
    (a : ℕ) (row : List (StopNo × ℕ)) → slice_get feet.walks a ≡ Some row → (k : ℕ) (x : StopNo × ℕ) →
    slice_get row k ≡ Some x → Foot direct.pairs limit a x.0.0 x.1
foot_at direct limit feet h a row e k x f = h.closed.least a x.0.0 x.1 (row, k, e, f)

in_range : (direct : DirectLists) (limit stops : ℕ) (feet : FeetData) → AreDirect direct → stops ≡ direct.stops →
    IsClosure direct limit feet → FeetInRange stops feet
in_range direct limit stops feet given same h = record {
  walks = record {
    lists = let c = h.closed.lists in omega (arith, c, same);
    rows = λ a row e. record {
      targets = λ k x f.
          let foot = foot_at direct limit feet h a row e k x f in
          let t = chain_end direct a x.0.0 x.1 given foot.least.holds in
          (omega (arith, t, same), λ s. foot.other (sym s));
      ascending = h.closed.ascending a row e;
    };
  };
  changes = let c = ap length h.closed.changes in omega (arith, c, given.each, same);
}

within : (direct : DirectLists) (limit : ℕ) (feet : FeetData) → AreDirect direct → limit ≤ 7200 →
    IsClosure direct limit feet → FeetWithin feet
within direct limit feet given low h = record {
  walks = record {
    stops = let c = h.closed.lists in let few = given.stops in omega (arith, c, few);
    rows = λ a row e k x f. let w = (foot_at direct limit feet h a row e k x f).within in omega (arith, w, low);
    pairs = h.few;
  };
  changes = subst (All (λ seconds. seconds ≤ MOST_CHANGE_SECONDS)) (sym h.closed.changes) given.short;
}

-- so they aren't refused
pub no_fault : (direct : DirectLists) (limit stops : ℕ) (feet : FeetData) (fault : NetFault) → AreDirect direct →
    stops ≡ direct.stops → limit ≤ 7200 → IsClosure direct limit feet → IsFeetFault fault stops feet → ⊥
no_fault direct limit stops feet StopRange given same low h f = f (in_range direct limit stops feet given same h)
no_fault direct limit stops feet TimesGoBack given same low h f = f
no_fault direct limit stops feet TooLarge given same low h f = f.1 (within direct limit feet given low h)
no_fault direct limit stops feet Memory given same low h f = f
