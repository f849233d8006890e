use Rattle.std.proofs.Common.{◌≡◌, ◌≤◌, ◌++◌, ℕ, List, length, take}
use Rattle.to_here.specs.Front.{IsFront}
use Rattle.to_here.proofs.front.advance.Given as goal

-- the front of the deadlines that were visited, and of those before them
abbrev pub invariant-loop-j : goal.invariant-loop-j
invariant-loop-j l =
    record {
      within : l.front ≤ l.window.minutes;
      minutes : length l.durations ≡ l.window.minutes;
      front : (before labels_before : List ℕ) → IsFront l.window before labels_before l.fn.front l.fn.durations →
          IsFront l.window (before ++ take l.j l.deadlines) (labels_before ++ take l.j l.labels) l.front l.durations;
    }
