-- What is taken back is what was there before.
use Rattle.std.proofs.Common.{◌≡◌, ◌<◌, ◌+◌, ◌-◌, ◌*◌, ◌++◌, [], ◌∷◌, ℕ, List, Bool, true, false, Option, Some, None}
use Rattle.std.proofs.Common.{length, get_or, take, arith, sym, ap, ◌∙◌, refl, subst, not, ◌&&◌, nat_lt, unwrap_or}
use Rattle.std.proofs.Common.{if◌then◌else◌, length-append}
use Rattle.std.proofs.Math.ListN.{set}
use Rattle.std.specs.List.{slice_get}
use Rattle.std.specs.Option.{option_map_or}
use Rattle.std.proofs.lemmas.List.{set-set, set-get_or, get_or-set_same, length-set, take_at}
use Rattle.std.proofs.lemmas.Option.{slice_get_within, get_or_from_slice_get, slice_get-get_or, slice_get_read}
use Rattle.std.proofs.lemmas.Option.{unwrap_or-slice_get}
use Rattle.std.proofs.lemmas.Bool.{not-true}
use Rattle.std.proofs.Math.Nat.{mod-lt}
use Rattle.work_book.specs.Seat.{SeatState, has_drawn, with_drawn, with_kept, as_lost, without_last_drawn}
use Rattle.work_book.specs.Seat.{without_last_kept, as_present}
use Rattle.work_book.specs.Book.{BookState, IsBook, acts, seat_has, job_of, is_marked, on_seat}
use Rattle.work_book.specs.Steps.{lease_of, answer_of, after}
use Rattle.work_book.specs.TakenBack.{taken_back, HasStepped}
use Rattle.work_book.proofs.DrawnBelow.{some_jobs}
use Rattle.work_book.specs.declared.steps.Step.{Step}
use Rattle.work_book.specs.declared.steps.Step.TheVariants.{Draw, Look, Settle, Loss}
use Rattle.work_book.specs.declared.steps.Answer.{Answer}
use Rattle.work_book.specs.declared.steps.Answer.TheVariants as answer

-- a change of a seat that acts, and one that undoes it, leave the seats
seats_back : (book : BookState) (seat : ℕ) (f g : SeatState → SeatState) →
    ((s : SeatState) → s.lost ≡ false → g (f s) ≡ s) → acts book seat ≡ true
    → (on_seat (on_seat book seat f) seat g).seats ≡ book.seats
seats_back book seat f g undone acting = go (slice_get book.seats seat) refl acting
  where
    go : (o : Option SeatState) → slice_get book.seats seat ≡ o →
        option_map_or (λ (s : SeatState). not s.lost) o false ≡ true
        → (on_seat (record book { seats = option_map_or (λ (s : SeatState). set book.seats seat (f s)) o book.seats })
        seat g).seats ≡ book.seats
    go None e h = cc
    go (Some s) e h =
        let here = slice_get_within book.seats seat s e in
        let there : seat < length (set book.seats seat (f s)) =
        subst (λ (n : ℕ). seat < n) (sym (length-set book.seats seat (f s))) here in
        let now : slice_get (set book.seats seat (f s)) seat ≡ Some (f s) =
        slice_get-get_or (set book.seats seat (f s)) seat s there
        ∙ ap (λ (t : SeatState). Some t) (get_or-set_same book.seats seat (f s) s here) in
        ap (λ (o : Option SeatState). option_map_or (λ (t : SeatState). set (set book.seats seat (f s)) seat (g t)) o
        (set book.seats seat (f s))) now
        ∙ set-set book.seats seat (f s) (g (f s))
        ∙ ap (λ (t : SeatState). set book.seats seat t) (undone s (not-true s.lost h)
        ∙ sym (get_or_from_slice_get book.seats seat s s e))
        ∙ set-get_or book.seats seat s

without_pushed : (xs : List ℕ) (x : ℕ) → take (length (xs ++ x ∷ []) - 1) (xs ++ x ∷ []) ≡ xs
without_pushed xs x = take_at xs (x ∷ []) (length (xs ++ x ∷ []) - 1) (let n = length-append xs (x ∷ []) in
    one (length xs) _ n)
  where
    one : (n m : ℕ) → m ≡ n + 1 → n ≡ m - 1
    one n m e = omega arith

undrawn : (n : ℕ) (s : SeatState) → without_last_drawn (with_drawn n s) ≡ s
undrawn n s = ap (λ (xs : List ℕ). record s { drawn = xs }) (without_pushed s.drawn n)

unkept : (job : ℕ) (s : SeatState) → without_last_kept (with_kept job s) ≡ s
unkept job s = ap (λ (xs : List ℕ). record s { kept = xs }) (without_pushed s.kept job)

unlost : (s : SeatState) → s.lost ≡ false → as_present (as_lost s) ≡ s
unlost s h = ap (λ (b : Bool). record s { lost = b }) (sym h)

-- a mark that was open is open again
marks_back : (marks : List Bool) (job : ℕ) → unwrap_or (slice_get marks job) false ≡ false →
    set (set marks job true) job false ≡ marks
marks_back marks job unset =
    set-set marks job true false
    ∙ ap (λ (b : Bool). set marks job b) (sym unset ∙ unwrap_or-slice_get marks job false)
    ∙ set-get_or marks job false

pub step_back : (book : BookState) (step : Step) → taken_back (after book step) step (answer_of book step) ≡ book
step_back book (Draw seat) = go (acts book seat) (nat_lt book.next (book.jobs * book.tries)) refl
  where
    go : (a b : Bool) → acts book seat ≡ a
        → taken_back (if a && b then record (on_seat book seat (with_drawn book.next)) {
          next =
              book.next + 1;
        } else book) (Draw seat)
        (if a then (if b then answer.Lease (lease_of book book.next) else answer.Nothing) else answer.Refused) ≡ book
    go true true e = ap (λ (seats : List SeatState). record book { seats = seats })
        (seats_back book seat (with_drawn book.next) without_last_drawn (λ s h. undrawn book.next s) e)
    go true false e = refl
    go false b e = refl
step_back book (Look seat job) = refl
step_back book (Settle seat number) = go (acts book seat) (seat_has book seat number)
    (is_marked book (job_of book number)) refl refl
  where
    go : (a b m : Bool) → acts book seat ≡ a → is_marked book (job_of book number) ≡ m
        → taken_back (if a && (b && not m) then record (on_seat book seat (with_kept (job_of book number))) {
          marks =
              set book.marks (job_of book number) true;
        } else book) (Settle seat number)
        (if a && b then (if m then answer.Double else answer.Kept) else answer.Refused) ≡ book
    go true true true e u = refl
    go true true false e u =
        let seats = seats_back book seat (with_kept (job_of book number)) without_last_kept
        (λ s h. unkept (job_of book number) s) e in
        let marks = marks_back book.marks (job_of book number) u in
        λ i. record book { seats = seats i; marks = marks i }
    go true false m e u = refl
    go false b m e u = refl
step_back book (Loss seat) = go (acts book seat) refl
  where
    go : (a : Bool) → acts book seat ≡ a → taken_back (if a then on_seat book seat as_lost else book) (Loss seat)
        (if a then answer.Lost else answer.Refused) ≡ book
    go true e = ap (λ (seats : List SeatState). record book { seats = seats })
        (seats_back book seat as_lost as_present unlost e)
    go false e = refl

-- what a step that was answered so lets take back
abbrev pub MayTakeBack : BookState → Step → Answer → Type 0
MayTakeBack book (Draw seat) (answer.Lease lease) = seat < length book.seats
MayTakeBack book (Settle seat number) answer.Kept =
    (seat < length book.seats) × (0 < book.jobs) × (job_of book number < length book.marks)
MayTakeBack book (Loss seat) answer.Lost = seat < length book.seats
MayTakeBack book step answer = Unit {0}

-- a seat that acts is there, also after it was changed
acts_there : (book : BookState) (seat : ℕ) (f : SeatState → SeatState) → acts book seat ≡ true →
    seat < length (on_seat book seat f).seats
acts_there book seat f acting = go (slice_get book.seats seat) refl acting
  where
    go : (o : Option SeatState) → slice_get book.seats seat ≡ o →
        option_map_or (λ (s : SeatState). not s.lost) o false ≡ true
        → seat < length (option_map_or (λ (s : SeatState). set book.seats seat (f s)) o book.seats)
    go None e h = cc
    go (Some s) e h = subst (λ (n : ℕ). seat
        < n) (sym (length-set book.seats seat (f s))) (slice_get_within book.seats seat s e)

step_may : (book : BookState) (step : Step) → IsBook book → MayTakeBack (after book step) step (answer_of book step)
step_may book (Draw seat) is = go (acts book seat) (nat_lt book.next (book.jobs * book.tries)) refl
  where
    go : (a b : Bool) → acts book seat ≡ a
        → MayTakeBack (if a && b then record (on_seat book seat (with_drawn book.next)) {
          next =
              book.next + 1;
        } else book) (Draw seat)
        (if a then (if b then answer.Lease (lease_of book book.next) else answer.Nothing) else answer.Refused)
    go true true e = acts_there book seat (with_drawn book.next) e
    go true false e = tt
    go false b e = tt
step_may book (Look seat job) is = go (acts book seat && nat_lt job book.jobs)
  where
    go : (a : Bool) → MayTakeBack book (Look seat job) (if a then answer.Mark (is_marked book job) else answer.Refused)
    go true = tt
    go false = tt
step_may book (Settle seat number) is = go (acts book seat) (seat_has book seat number)
    (is_marked book (job_of book number)) refl refl
  where
    there : seat_has book seat number ≡ true → 0 < book.jobs
    there h = holder (slice_get book.seats seat) refl h
      where
        holder : (o : Option SeatState) → slice_get book.seats seat ≡ o →
            option_map_or (has_drawn number) o false ≡ true → 0 < book.jobs
        holder None e h = cc
        holder (Some s) e h = some_jobs book number seat s is (slice_get_within book.seats seat s e)
            (sym (get_or_from_slice_get book.seats seat s s e)) h

    go : (a b m : Bool) → acts book seat ≡ a → seat_has book seat number ≡ b
        → MayTakeBack (if a && (b && not m) then record (on_seat book seat (with_kept (job_of book number))) {
          marks =
              set book.marks (job_of book number) true;
        } else book) (Settle seat number)
        (if a && b then (if m then answer.Double else answer.Kept) else answer.Refused)
    go true true true e h = tt
    go true true false e h =
        let some = there h in
        let marks = length-set book.marks (job_of book number) true ∙ is.marks in (
          acts_there book seat (with_kept (job_of book number)) e,
          some,
          subst (λ (n : ℕ). job_of book number < n) (sym marks) (mod-lt number some),
        )
    go true false m e h = tt
    go false b m e h = tt
step_may book (Loss seat) is = go (acts book seat) refl
  where
    go : (a : Bool) → acts book seat ≡ a → MayTakeBack (if a then on_seat book seat as_lost else book) (Loss seat)
        (if a then answer.Lost else answer.Refused)
    go true e = acts_there book seat as_lost e
    go false e = tt

may_take_back : (before : BookState) (step : Step) (told : Answer) (now : BookState) → HasStepped before step told now →
    MayTakeBack now step told
may_take_back before step told now h =
    subst (λ (b : BookState). MayTakeBack b step told) (sym h.led)
    (subst (λ (a : Answer). MayTakeBack (after before step) step a) (sym h.told) (step_may before step h.book))

-- the same, where the book, the step and its answer are known by other names
pub may_at : (before : BookState) (step : Step) (told : Answer) (now seen : BookState) (s : Step) (t : Answer) →
    HasStepped before step told now → seen ≡ now → step ≡ s → told ≡ t → MayTakeBack seen s t
may_at before step told now seen s t h e f g =
    subst (λ (b : BookState). MayTakeBack b s t) (sym e)
    (subst (λ (x : Step). MayTakeBack now x t) f
    (subst (λ (a : Answer). MayTakeBack now step a) g (may_take_back before step told now h)))

pub same_back : (now seen : BookState) (step s : Step) (told t : Answer) → seen ≡ now → step ≡ s → told ≡ t →
    taken_back seen s t ≡ taken_back now step told
same_back now seen step s told t e f g =
    sym (ap (λ (b : BookState). taken_back b step told) (sym e) ∙ ap (λ (x : Step). taken_back seen x told) f
    ∙ ap (λ (a : Answer). taken_back seen s a) g)

pub taken_back_is : (before : BookState) (step : Step) (told : Answer) (now : BookState) →
    HasStepped before step told now → taken_back now step told ≡ before
taken_back_is before step told now h = (λ i. taken_back (h.led i) step (h.told i)) ∙ step_back before step

-- a seat that was written is the seat changed
pub written_seat : (book : BookState) (seat : ℕ) (f : SeatState → SeatState) (v w : SeatState) →
    seat < length book.seats → v ≡ get_or book.seats seat v → w ≡ f v
    → set book.seats seat w ≡ (on_seat book seat f).seats
written_seat book seat f v w here at is =
    ap (λ (s : SeatState). set book.seats seat s) is
    ∙ sym (ap (λ (o : Option SeatState). option_map_or (λ (s : SeatState). set book.seats seat (f s)) o book.seats)
    (slice_get_read book.seats (length book.seats) seat v refl here at))
