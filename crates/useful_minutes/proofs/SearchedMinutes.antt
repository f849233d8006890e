-- Which minutes are searched, minute by minute.
use Rattle.std.proofs.Common.{◌≡◌, ℕ, zero, suc, ◌+◌, ◌-◌, ◌*◌, ◌<◌, ◌≤◌, ◌⊎◌, inl, inr, List, [], ◌∷◌, ◌++◌, Bool}
use Rattle.std.proofs.Common.{length, slice_index, sym, ◌∙◌, ap, subst, arith}
use Rattle.std.proofs.lemmas.Bool.{cases_lt}
use Rattle.std.proofs.lemmas.List.{length_push, get_or_append_left, get_or-append-add}
use Rattle.useful_minutes.specs.Boarding.{Catches}
use Rattle.useful_minutes.specs.Marks.{CoversAll, IsMarked}
use Rattle.useful_minutes.specs.Plan.{AreMinutes, HasMarked, StandsIn, IsPlan, SkipsNothing, SearchesAll}
use Rattle.useful_minutes.specs.Orders.{AreSteps}
use Rattle.timetable.specs.Networks.{Net}

-- what stood in a list stands there yet when something was added, and then that
pub before : (xs : List ℕ) (x j : ℕ) → j < length xs → slice_index (xs ++ x ∷ []) j ≡ slice_index xs j
before xs x j l = get_or_append_left xs (x ∷ []) 0 j l

pub behind : (xs : List ℕ) (x j : ℕ) → j ≡ length xs → slice_index (xs ++ x ∷ []) j ≡ x
behind xs x j e =
    let zero : j ≡ length xs + 0 = omega (arith, e) in
    ap (λ (i : ℕ). slice_index (xs ++ x ∷ []) i) zero ∙ get_or-append-add xs (x ∷ []) 0 0

-- the minutes before m that are searched, and from when on one is taken even if it isn't marked
pub record Picked (marks : List Bool) (m gap next : ℕ) (searched : List ℕ) : Type 0 where
  pub within : (j : ℕ) → j < length searched → slice_index searched j < m
  pub ascends : (j : ℕ) → j + 1 < length searched → slice_index searched j < slice_index searched (j + 1)
  pub near : (j : ℕ) → j + 1 < length searched →
      (slice_index searched (j + 1) ≤ slice_index searched j + 8) ⊎ (length marks ≤ 128)
  pub next_is : 0 < length searched → next ≡ slice_index searched (length searched - 1) + gap
  pub soon : 0 < length searched → m ≤ next
  pub marked : (x : ℕ) → x < m → IsMarked marks x →
      (j : ℕ) × (j < length searched) × (slice_index searched j ≡ x)
  pub last : 0 < m → m ≡ length marks →
      (0 < length searched) × (slice_index searched (length searched - 1) + 1 ≡ m)

pub picked_more : (marks : List Bool) (m gap next : ℕ) (searched : List ℕ) → 0 < gap →
    (gap ≤ 8) ⊎ (length marks ≤ 128) → Picked marks m gap next searched →
    Picked marks (m + 1) gap (m + gap) (searched ++ m ∷ [])
picked_more marks m gap next searched some_gap few h =
    let long = length_push searched m in
    let old : (j : ℕ) → j < length searched → slice_index (searched ++ m ∷ []) j ≡ slice_index searched j =
    before searched m in
    let new : (j : ℕ) → j ≡ length searched → slice_index (searched ++ m ∷ []) j ≡ m = behind searched m in
    record {
      within = λ j l. elim (cases_lt j (length searched)) [
        | inl lt ↦ let a = old j lt in let b = h.within j lt in omega (arith, a, b)
        | inr ge ↦ let a = new j (omega (arith, ge, l, long)) in omega (arith, a)
      ];
      ascends = λ j l. elim (cases_lt (j + 1) (length searched)) [
        | inl lt ↦ let a = old j (omega (arith, lt)) in let b = old (j + 1) lt in let c = h.ascends j lt in
            omega (arith, a, b, c)
        | inr ge ↦
            let a = old j (omega (arith, ge, l, long)) in
            let b = new (j + 1) (omega (arith, ge, l, long)) in
            let c = h.within j (omega (arith, ge, l, long)) in
            omega (arith, a, b, c)
      ];
      near = λ j l. elim (cases_lt (j + 1) (length searched)) [
        | inl lt ↦
            let a = old j (omega (arith, lt)) in
            let b = old (j + 1) lt in
            elim (h.near j lt) [ inl c ↦ inl (omega (arith, a, b, c)) | inr short ↦ inr short ]
        | inr ge ↦
            let a = old j (omega (arith, ge, l, long)) in
            let b = new (j + 1) (omega (arith, ge, l, long)) in
            let some : 0 < length searched = omega (arith, ge, l, long) in
            let e : length searched - 1 ≡ j = omega (arith, ge, l, long) in
            let c = h.soon some in
            let d : next ≡ slice_index searched j + gap =
            h.next_is some ∙ ap (λ (i : ℕ). slice_index searched i + gap) e in
            elim few [ inl f ↦ inl (omega (arith, a, b, c, d, f)) | inr short ↦ inr short ]
      ];
      next_is = λ _. let a = new (length (searched ++ m ∷ []) - 1) (omega (arith, long)) in omega (arith, a);
      soon = λ _. omega (arith, some_gap);
      marked = λ x l is. elim (cases_lt x m) [
        | inl lt ↦
            let f = h.marked x lt is in
            (f.0, omega (arith, f.1, long), old f.0 f.1 ∙ f.2)
        | inr ge ↦ (length searched, omega (arith, long), new (length searched) (omega arith) ∙ omega (arith, ge, l))
      ];
      last = λ _ e. (
        omega (arith, long),
        let a = new (length (searched ++ m ∷ []) - 1) (omega (arith, long)) in
            omega (arith, a),
      );
    }

pub picked_same : (marks : List Bool) (m gap next : ℕ) (searched : List ℕ) → Picked marks m gap next searched →
    (IsMarked marks m → ⊥) → (m + 1 ≡ length marks → ⊥) → m < next → Picked marks (m + 1) gap next searched
picked_same marks m gap next searched h unmarked more soon =
    record {
      within = λ j l. let a = h.within j l in omega (arith, a);
      ascends = h.ascends;
      near = h.near;
      next_is = h.next_is;
      soon = λ _. omega (arith, soon);
      marked = λ x l is. elim (cases_lt x m) [
        | inl lt ↦ h.marked x lt is
        | inr ge ↦ let e : x ≡ m = omega (arith, ge, l) in absurd (unmarked (rw e at is))
      ];
      last = λ _ e. absurd (more e);
    }

-- the minutes so far have their stand-ins, and the one at this position is that of the minute before, if there is any
pub record StoodIn (searched : List ℕ) (m at : ℕ) (positions waits : List ℕ) : Type 0 where
  pub long : length positions ≡ m
  pub too : length waits ≡ m
  pub each : (x : ℕ) → x < m → StandsIn searched x (slice_index positions x) (slice_index waits x)
  pub within : at < length searched
  pub reached : m ≤ slice_index searched at + 1
  pub passed : (i : ℕ) → i < at → slice_index searched i < m

-- minutes that ascend are no less than their positions
pub no_less : (searched : List ℕ) → ((j : ℕ) → j + 1 < length searched →
    slice_index searched j < slice_index searched (j + 1)) → (j : ℕ) → j < length searched → j ≤ slice_index searched j
no_less searched ascends zero l = omega arith
no_less searched ascends (suc j) l =
    let low = no_less searched ascends j (omega (arith, l)) in
    let up = ascends j (omega (arith, l)) in
    let e : suc j ≡ j + 1 = omega arith in
    let same = ap (λ (i : ℕ). slice_index searched i) e in
    omega (arith, low, up, same)

-- the position that a minute's stand-in has, given that of the minute before
pub stood_next : (minutes : ℕ) (searched : List ℕ) → AreMinutes minutes searched → (m at : ℕ) → m < minutes →
    at < length searched → m ≤ slice_index searched at + 1 → slice_index searched at < m →
    (at + 1 < length searched) × (m ≤ slice_index searched (at + 1)) × (m ≡ slice_index searched at + 1)
stood_next minutes searched are m at l within reached less =
    let more : at + 1 < length searched = elim (cases_lt (at + 1) (length searched)) [
      | inl lt ↦ lt
      | inr ge ↦
          let e : length searched - 1 ≡ at = omega (arith, ge, within) in
          let last : slice_index searched at + 1 ≡ minutes =
          ap (λ (i : ℕ). slice_index searched i + 1) (sym e) ∙ are.last in
          absurd (omega (arith, last, less, l))
    ] in
    let up = are.ascends at more in
    (more, omega (arith, up, reached, less), omega (arith, reached, less))

pub stood_more : (searched : List ℕ) (m at : ℕ) (positions waits : List ℕ) (wait : ℕ) → length positions ≡ m →
    length waits ≡ m → ((x : ℕ) → x < m → StandsIn searched x (slice_index positions x) (slice_index waits x)) →
    at < length searched → m ≤ slice_index searched at → ((i : ℕ) → i < at → slice_index searched i < m) →
    wait ≡ 60 * (slice_index searched at - m) →
    StoodIn searched (m + 1) at (positions ++ at ∷ []) (waits ++ wait ∷ [])
stood_more searched m at positions waits wait long too each within no_earlier passed waits_so =
    record {
      long = omega (arith, length_push positions at, long);
      too = omega (arith, length_push waits wait, too);
      each = λ x l. elim (cases_lt x m) [
        | inl lt ↦
            let p = before positions at x (omega (arith, lt, long)) in
            let w = before waits wait x (omega (arith, lt, too)) in
            subst (λ (j : ℕ). StandsIn searched x j (slice_index (waits ++ wait ∷ []) x)) (sym p)
            (subst (λ (s : ℕ). StandsIn searched x (slice_index positions x) s) (sym w) (each x lt))
        | inr ge ↦
            let e : x ≡ m = omega (arith, ge, l) in
            let p = behind positions at x (omega (arith, e, long)) in
            let w = behind waits wait x (omega (arith, e, too)) in
            subst (λ (j : ℕ). StandsIn searched x j (slice_index (waits ++ wait ∷ []) x)) (sym p)
            (subst (λ (s : ℕ). StandsIn searched x at s) (sym w) (record {
              within = within;
              no_earlier = omega (arith, e, no_earlier);
              first = λ i below. let a = passed i below in omega (arith, a, e);
              waits = rw e waits_so;
            }))
      ];
      within = within;
      reached = omega (arith, no_earlier);
      passed = λ i below. let a = passed i below in omega (arith, a);
    }

-- what lies some positions on is later by a minute for each at least, and not far, unless the window is short
pub no_sooner : (minutes : ℕ) (searched : List ℕ) → AreMinutes minutes searched → (x l : ℕ) →
    x + l < length searched → (slice_index searched x + l ≤ slice_index searched (x + l))
    × ((slice_index searched (x + l) ≤ slice_index searched x + 8 * l) ⊎ (minutes ≤ 128))
no_sooner minutes searched are x zero within =
    let e : x + zero ≡ x = omega arith in
    let same = ap (λ (i : ℕ). slice_index searched i) e in
    (omega (arith, same), inl (omega (arith, same)))
no_sooner minutes searched are x (suc l) within =
    let e : x + suc l ≡ x + l + 1 = omega arith in
    let same = ap (λ (i : ℕ). slice_index searched i) e in
    let h = no_sooner minutes searched are x l (omega (arith, within)) in
    let up = are.ascends (x + l) (omega (arith, within)) in (
      omega (arith, same, h.0, up),
      elim h.1 [
        | inr short ↦ inr short
        | inl low ↦ elim (are.near (x + l) (omega (arith, within))) [
          | inl near ↦ inl (omega (arith, same, low, near))
          | inr short ↦ inr short
        ]
      ],
    )

-- from one lane to the next the position stays, or goes on by one
pub plan_steps : (minutes lanes : ℕ) (searched positions waits : List ℕ) →
    IsPlan minutes lanes searched positions waits → AreSteps positions
plan_steps minutes lanes searched positions waits plan =
    let step : (m : ℕ) → m + 1 < length positions → (slice_index positions m ≤ slice_index positions (m + 1))
    × (slice_index positions (m + 1) ≤ slice_index positions m + 1) =
    λ m l. elim (cases_lt (m + 1) minutes) [
      | inl lt ↦
          let s = plan.each m (omega (arith, lt)) in
          let t = plan.each (m + 1) lt in
          let i = slice_index positions m in
          let j = slice_index positions (m + 1) in
          let up : i ≤ j = elim (cases_lt j i) [
            | inl less ↦ let a = s.first j less in let b = t.no_earlier in absurd (omega (arith, a, b))
            | inr ge ↦ ge
          ] in
          let one : j ≤ i + 1 = elim (cases_lt (i + 1) j) [
            | inl more ↦
                let a = t.first (i + 1) more in
                let b = plan.are.ascends i (let w = t.within in omega (arith, more, w)) in
                let d = s.no_earlier in
                absurd (omega (arith, a, b, d))
            | inr ge ↦ ge
          ] in
          (up, one)
      | inr ge ↦
          let next = plan.past (m + 1) ge (omega (arith, l, plan.long)) in
          elim (cases_lt m minutes) [
            | inr past ↦ let same = plan.past m past (omega (arith, l, plan.long)) in (
              omega (arith, same, next),
              omega (arith, same, next),
            )
            | inl last ↦
                let s = plan.each m last in
                let i = slice_index positions m in
                let w = s.within in
                let end : length searched ≤ i + 1 = elim (cases_lt (i + 1) (length searched)) [
                  | inl more ↦
                      let a = plan.are.ascends i more in
                      let b = plan.are.within (i + 1) more in
                      let d = s.no_earlier in
                      absurd (omega (arith, a, b, d, ge))
                  | inr all ↦ all
                ] in
                (omega (arith, next, w), omega (arith, next, end))
          ]
    ] in
    record { rise = λ m l. (step m l).0; by_one = λ m l. (step m l).1 }

-- there are no more of them than minutes
pub few_searched : (minutes : ℕ) (searched : List ℕ) → AreMinutes minutes searched → length searched ≤ minutes
few_searched minutes searched are =
    let l : length searched - 1 < length searched = omega (arith, are.some) in
    let low = no_less searched are.ascends (length searched - 1) l in
    let high = are.within (length searched - 1) l in
    omega (arith, low, high)

-- who departs sooner catches what a later departure does
pub catches_sooner : (n : Net) (origin sooner later trip j : ℕ) → sooner ≤ later → Catches n origin later trip j →
    Catches n origin sooner trip j
catches_sooner n origin sooner later trip j le c =
    record {
      t = c.t;
      on = c.on;
      seconds = c.seconds;
      runs = c.runs;
      here = c.here;
      rides_on = c.rides_on;
      may_board = c.may_board;
      near = c.near;
      in_time = let l = c.in_time in omega (arith, l, le);
    }

-- waiting for the minute that stands in misses nothing: the minute that covers a ride is no sooner, or it is searched
pub skips_nothing : (n : Net) (origin first minutes : ℕ) (marks : List Bool) (searched positions waits : List ℕ)
    (lanes : ℕ) → length marks ≡ minutes → CoversAll n origin first marks → HasMarked marks searched →
    IsPlan minutes lanes searched positions waits → SkipsNothing n origin first minutes searched positions
skips_nothing n origin first minutes marks searched positions waits lanes long covers has plan m l trip i k ride =
    elim (covers trip i k m ride) [
      | inr soon ↦ inr soon
      | inl u ↦
          let s = plan.each m l in
          let j = slice_index positions m in
          let to = slice_index searched j in
          let time = first + 60 * to in
          let later = u.no_sooner in
          elim (cases_lt u.minute to) [
            | inl soon ↦
                let below = plan.are.within j s.within in
                let within : u.minute < length marks = omega (arith, soon, below, long) in
                let found = has u.minute within (u.noted within) in
                elim (cases_lt found.0 j) [
                  | inl lt ↦ let before = s.first found.0 lt in absurd (omega (arith, before, found.2, later))
                  | inr ge ↦
                      let e : j + (found.0 - j) ≡ found.0 = omega (arith, ge) in
                      let after = no_sooner minutes searched plan.are j (found.0 - j) (omega (arith, e, found.1)) in
                      let same = ap (λ (k : ℕ). slice_index searched k) e in
                      absurd (omega (arith, after.0, same, found.2, soon))
                ]
            | inr late ↦ inl (
              u.j,
              u.before,
              catches_sooner n origin time (first + 60 * u.minute) trip u.j (omega (arith, late)) u.catches,
            )
          ]
    ]

-- where each minute is searched, it stands in for itself
pub searches_all : (minutes lanes : ℕ) (marks : List Bool) (searched positions waits : List ℕ) →
    length marks ≡ minutes → ((m : ℕ) → m < minutes → IsMarked marks m) → HasMarked marks searched →
    IsPlan minutes lanes searched positions waits → SearchesAll minutes searched positions
searches_all minutes lanes marks searched positions waits long all has plan m l =
    let s = plan.each m l in
    let j = slice_index positions m in
    let up = s.no_earlier in
    let found = has m (omega (arith, l, long)) (all m l) in
    elim (cases_lt found.0 j) [
      | inl lt ↦ let before = s.first found.0 lt in absurd (omega (arith, before, found.2))
      | inr ge ↦
          let e : j + (found.0 - j) ≡ found.0 = omega (arith, ge) in
          let after = no_sooner minutes searched plan.are j (found.0 - j) (omega (arith, e, found.1)) in
          let same = ap (λ (i : ℕ). slice_index searched i) e in
          omega (arith, after.0, same, found.2, up)
    ]

pub all_skip_nothing : (n : Net) (origin first minutes : ℕ) (searched positions : List ℕ) →
    SearchesAll minutes searched positions → SkipsNothing n origin first minutes searched positions
all_skip_nothing n origin first minutes searched positions all m l trip j i ride =
    let same = all m l in
    inl (
      j,
      ride.later,
      catches_sooner n origin (first + 60 * slice_index searched (slice_index positions m))
          (first + 60 * m) trip j (omega (arith, same)) ride.on,
    )

-- as many searched minutes as the window has are all of them
pub searched_whole : (minutes : ℕ) (searched : List ℕ) → AreMinutes minutes searched → minutes ≤ length searched →
    (m : ℕ) → m < minutes → slice_index searched m ≡ m
searched_whole minutes searched are many m l =
    let low = no_less searched are.ascends m (omega (arith, l, many)) in
    let e : m + (length searched - 1 - m) ≡ length searched - 1 = omega (arith, l, many) in
    let after = no_sooner minutes searched are m (length searched - 1 - m) (omega (arith, e, are.some)) in
    let same = ap (λ (i : ℕ). slice_index searched i) e in
    let last = are.last in
    omega (arith, low, after.0, same, last, many, l)
