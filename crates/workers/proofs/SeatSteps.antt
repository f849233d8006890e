-- What a draw, and a settle, of seat 0 change.
use Rattle.std.proofs.Common.{◌≡◌, ◌≢◌, ◌<◌, ◌≤◌, ◌+◌, ◌*◌, ◌%◌, ◌==◌, ◌&&◌, ◌||◌, ◌∷◌, [], ℕ, Bool, true, false, not}
use Rattle.std.proofs.Common.{List, refl, sym, ap, ◌∙◌, nat_lt, if◌then◌else◌}
use Rattle.std.proofs.Math.ListN.{set}
use Rattle.std.proofs.lemmas.List.{get_or-set_other}
use Rattle.std.proofs.lemmas.List.Folds.{list_any-append}
use Rattle.std.proofs.lemmas.Option.{unwrap_or-slice_get}
use Rattle.std.proofs.lemmas.Bool.{and_from, or_right, lt-ltb, ltb-false, ltb-true, eq-eqb}
use Rattle.work_book.specs.Seat.{SeatState, with_drawn, with_kept}
use Rattle.work_book.specs.Book.{BookState, acts, seat_has, job_of, is_marked, on_seat}
use Rattle.work_book.specs.Steps.{lease_of, answer_of, after}
use Rattle.work_book.specs.declared.lease.Lease.{Lease}
use Rattle.work_book.specs.declared.steps.Step.TheVariants.{Draw, Settle}
use Rattle.work_book.specs.declared.steps.Answer.TheVariants as answer

-- a seat acts after a change of its lists
acts_on : (book : BookState) (f : SeatState → SeatState) → ((v : SeatState) → (f v).lost ≡ v.lost) →
    acts book 0 ≡ true → acts (on_seat book 0 f) 0 ≡ true
acts_on book f same h = go book.seats h
  where
    go : (seats : List SeatState) → acts (record book { seats = seats }) 0 ≡ true →
        acts (on_seat (record book { seats = seats }) 0 f) 0 ≡ true
    go [] h = cc
    go (v ∷ vs) h = ap not (same v) ∙ h

-- a seat has the number that it draws
has_on : (book : BookState) (n : ℕ) → acts book 0 ≡ true → seat_has (on_seat book 0 (with_drawn n)) 0 n ≡ true
has_on book n h = go book.seats h
  where
    go : (seats : List SeatState) → acts (record book { seats = seats }) 0 ≡ true →
        seat_has (on_seat (record book { seats = seats }) 0 (with_drawn n)) 0 n ≡ true
    go [] h = cc
    go (v ∷ vs) h = list_any-append (λ drawn. drawn == n) v.drawn (n ∷ [])
        ∙ or_right _ _ (ap (λ b. b || false) (eq-eqb n n refl))

-- a book after a draw of seat 0
pub record IsDrawn (old new : BookState) : Type 0 where
  pub jobs : new.jobs ≡ old.jobs
  pub tries : new.tries ≡ old.tries
  pub next : new.next ≡ old.next + 1
  pub marks : new.marks ≡ old.marks
  pub seat : acts new 0 ≡ true
  pub has : seat_has new 0 old.next ≡ true

pub drew : (book : BookState) → acts book 0 ≡ true → book.next < book.jobs * book.tries →
    IsDrawn book (after book (Draw 0))
drew book seat low = go (acts book 0 && nat_lt book.next (book.jobs * book.tries)) (and_from _ _ seat (lt-ltb _ _ low))
  where
    go : (b : Bool) → b ≡ true → IsDrawn book
        (if b then record (on_seat book 0 (with_drawn book.next)) { next = book.next + 1 } else book)
    go true e = record {
      jobs = refl;
      tries = refl;
      next = refl;
      marks = refl;
      seat = acts_on book (with_drawn book.next) (λ v. refl) seat;
      has = has_on book book.next seat;
    }
    go false e = cc

-- a lease is of the next number, which is below all
pub leased : (book : BookState) (lease : Lease) → answer_of book (Draw 0) ≡ answer.Lease lease →
    (book.next < book.jobs * book.tries) × (lease.number ≡ book.next) × (lease.job ≡ book.next % book.jobs)
leased book lease h = go (acts book 0) (nat_lt book.next (book.jobs * book.tries)) refl h
  where
    go : (a b : Bool) → nat_lt book.next (book.jobs * book.tries) ≡ b
        → (if a then (if b then answer.Lease (lease_of book book.next) else answer.Nothing) else answer.Refused)
        ≡ answer.Lease lease
        → (book.next < book.jobs * book.tries) × (lease.number ≡ book.next) × (lease.job ≡ book.next % book.jobs)
    go true true e h =
        let same : lease_of book book.next ≡ lease = cc in
        (ltb-true _ _ e, sym (ap (λ (l : Lease). l.number) same), sym (ap (λ (l : Lease). l.job) same))
    go true false e h = cc
    go false b e h = cc

-- where no lease is drawn, all numbers are
pub none_left : (book : BookState) → acts book 0 ≡ true →
    ((lease : Lease) → answer_of book (Draw 0) ≢ answer.Lease lease) → book.jobs * book.tries ≤ book.next
none_left book seat none = go (acts book 0) (nat_lt book.next (book.jobs * book.tries)) seat refl none
  where
    go : (a b : Bool) → a ≡ true → nat_lt book.next (book.jobs * book.tries) ≡ b
        → ((lease : Lease) → (if a then (if b then answer.Lease (lease_of book book.next) else answer.Nothing) else
        answer.Refused) ≢ answer.Lease lease)
        → book.jobs * book.tries ≤ book.next
    go true true e h none = absurd (none (lease_of book book.next) refl)
    go true false e h none = ltb-false _ _ h
    go false b e h none = cc

-- a book after seat 0 settled the job of a number
pub record IsSettled (old new : BookState) (number : ℕ) : Type 0 where
  pub jobs : new.jobs ≡ old.jobs
  pub tries : new.tries ≡ old.tries
  pub next : new.next ≡ old.next
  pub seat : acts new 0 ≡ true
  pub others : (job : ℕ) → job ≢ job_of old number → is_marked new job ≡ is_marked old job

pub settled : (book : BookState) (number : ℕ) → acts book 0 ≡ true →
    IsSettled book (after book (Settle 0 number)) number
settled book number seat = go _
  where
    go : (b : Bool) → IsSettled book (if b then record (on_seat book 0 (with_kept (job_of book number))) {
      marks =
          set book.marks (job_of book number) true;
    } else book) number
    go true = record {
      jobs = refl;
      tries = refl;
      next = refl;
      seat = acts_on book (with_kept (job_of book number)) (λ v. refl) seat;
      others = λ job other.
          unwrap_or-slice_get (set book.marks (job_of book number) true) job false
          ∙ get_or-set_other book.marks (job_of book number) job true false other
          ∙ sym (unwrap_or-slice_get book.marks job false);
    }
    go false = record { jobs = refl; tries = refl; next = refl; seat = seat; others = λ job other. refl }

-- an open job whose number the seat has is kept
pub keeps : (book : BookState) (number : ℕ) → acts book 0 ≡ true → seat_has book 0 number ≡ true →
    is_marked book (job_of book number) ≡ false
    → answer_of book (Settle 0 number) ≡ answer.Kept
keeps book number seat has mark = go (acts book 0 && seat_has book 0 number) (is_marked book (job_of book number))
    (and_from _ _ seat has) mark
  where
    go : (a b : Bool) → a ≡ true → b ≡ false →
        (if a then (if b then answer.Double else answer.Kept) else answer.Refused) ≡ answer.Kept
    go true false h k = refl
    go true true h k = cc
    go false b h k = cc
