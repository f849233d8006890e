-- How often a job stands in a list.
use Rattle.std.proofs.Common.{◌≡◌, ◌==◌, ℕ, ◌+◌, ◌<◌, ◌≤◌, List, [], ◌∷◌, ◌++◌, ◌⊎◌, inl, inr, refl, ap, arith}
use Rattle.std.proofs.Common.{if◌then◌else◌}
use Rattle.std.specs.List.{All}
use Rattle.std.proofs.lemmas.List.Elements.{All-head, All-tail}
use Rattle.std.proofs.lemmas.List.Sums.{sum_by-cons, sum_by-append}
use Rattle.std.proofs.Math.Decide.{dec_lt}
use Rattle.std.proofs.lemmas.Bool.Decides.{nat_tests}
use Rattle.workers.specs.Held.{count_in}

-- 1 where two jobs are the same
abbrev pub same : ℕ → ℕ → ℕ
same x job = if x == job then 1 else 0

pub count_append : (job : ℕ) (xs ys : List ℕ) → count_in job (xs ++ ys) ≡ count_in job xs + count_in job ys
count_append job xs ys = sum_by-append (λ y. if y == job then 1 else 0) xs ys

pub count_cons : (job x : ℕ) (xs : List ℕ) → count_in job (x ∷ xs) ≡ same x job + count_in job xs
count_cons job x xs = sum_by-cons (λ y. if y == job then 1 else 0) x xs

same_self : (job : ℕ) → same job job ≡ 1
same_self job = grind (arith, nat_tests)

pub same_some : (x job : ℕ) → 0 < same x job → x ≡ job
same_some x job h = grind (arith, nat_tests)

-- the only job of a list
pub count_one : (job x : ℕ) → 0 < count_in job (x ∷ []) → x ≡ job
count_one job x h = let a = count_cons job x [] in same_some x job (omega arith)

pub some_in : (job : ℕ) (xs ys : List ℕ) → 0 < count_in job (xs ++ ys) → (0 < count_in job xs) ⊎ (0 < count_in job ys)
some_in job xs ys h = let e = count_append job xs ys in go (dec_lt 0 (count_in job xs)) e
  where
    go : Dec (0 < count_in job xs) → count_in job (xs ++ ys) ≡ count_in job xs + count_in job ys →
        (0 < count_in job xs) ⊎ (0 < count_in job ys)
    go (yes p) e = inl p
    go (no p) e = inr (omega arith)

pub count_more : (job : ℕ) (xs ys : List ℕ) → 0 < count_in job xs → 0 < count_in job (xs ++ ys)
count_more job xs ys h = let a = count_append job xs ys in omega arith

pub count_last : (job : ℕ) (xs ys : List ℕ) → 0 < count_in job ys → 0 < count_in job (xs ++ ys)
count_last job xs ys h = let a = count_append job xs ys in omega arith

-- a job that was put last stands in a list
pub last_in : (job : ℕ) (xs now : List ℕ) → now ≡ xs ++ job ∷ [] → 0 < count_in job now
last_in job xs now e =
    let all = ap (count_in job) e in
    let parts = count_append job xs (job ∷ []) in
    let one = count_cons job job [] in
    let same_job = same_self job in
    omega arith

-- one more than the last number of a list, and 0 where there is none
abbrev pub past_last : List ℕ → ℕ
past_last [] = 0
past_last (x ∷ []) = x + 1
past_last (x ∷ y ∷ ys) = past_last (y ∷ ys)

pub past_last_push : (xs : List ℕ) (n : ℕ) → past_last (xs ++ n ∷ []) ≡ n + 1
past_last_push [] n = refl
past_last_push (x ∷ []) n = refl
past_last_push (x ∷ y ∷ ys) n = past_last_push (y ∷ ys) n

pub past_last_le : (xs : List ℕ) (n : ℕ) → All (λ x. x < n) xs → past_last xs ≤ n
past_last_le [] n h = omega arith
past_last_le (x ∷ []) n h = let a : x < n = All-head (λ x. x < n) x [] h in omega arith
past_last_le (x ∷ y ∷ ys) n h = past_last_le (y ∷ ys) n (All-tail (λ x. x < n) x (y ∷ ys) h)
