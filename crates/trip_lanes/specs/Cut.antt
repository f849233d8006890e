-- Times as labels tell them: counted from a base, and no further than a cap.
use Rattle.std.specs.Prelude.{ℕ, ◌-◌, min}

-- how long after the base a time is, or the cap where it is that long or longer; 0 before the base
abbrev pub cut : ℕ → ℕ → ℕ → ℕ
cut base cap time = min (time - base) cap
