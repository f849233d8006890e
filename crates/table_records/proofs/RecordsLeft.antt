-- What a read of one record does to the list of those that are left.
use Rattle.std.proofs.Common.{Bor, ◌≡◌, ◌≤◌, ◌<◌, ◌+◌, ◌∷◌, ◌++◌, ◌==◌, ◌||◌, ◌&&◌, ℕ, zero, suc, Bool, true, false}
use Rattle.std.proofs.Common.{List, [], length, Option, Some, None, refl, ap, subst, arith, inl, inr, if◌then◌else◌}
use Rattle.csv.specs.Machine.{Read, after_end, ends_at_end, fields_after, field_after, in_field, start_field}
use Rattle.csv.specs.Machine.{start_record, is_end, next_record, step}
use Rattle.csv.specs.declared.parser.Action.{Action}
use Rattle.csv.specs.declared.parser.Action.TheVariants as act
use Rattle.csv.specs.declared.parser.State.{State}
use Rattle.csv.specs.declared.parser.State.TheVariants as st
use Rattle.csv.specs.declared.reader.Reader.{Reader}
use Rattle.csv.specs.Reading.{NextIs, ReadRecord, ReadsNext, default_config, records_from, records_next}
use Rattle.csv.specs.Reading.{buffered_of, strip_bom}
use Rattle.std.specs.Prelude.{option_map, not}
use Rattle.table_records.specs.Records.{IsBetween, IsPlain, bytes_left, records_after}
use Rattle.table_records.specs.Table.{Gives}

-- where a byte ends a record, no record is begun after it
Sound : State × Action → Type 0
Sound p = is_end p.1 ≡ true → IsBetween p.0

sound_if : (b : Bool) (x y : State × Action) → Sound x → Sound y → Sound (if b then x else y)
sound_if true x y a b = a
sound_if false x y a b = b

end_sound : (c : ℕ) → Sound (after_end default_config.terminator c, act.EndRecord)
unfolding Sound
end_sound c e = by (c == 13)
  where
    by : (b : Bool) → IsBetween (if b then st.AfterCr else st.StartRecord)
    by true = inr refl
    by false = inl refl

field_sound : (c : ℕ) → Sound (in_field default_config c)
unfolding Sound
field_sound c = sound_if (c == 44) _ _ (λ e. cc e) (sound_if ((c == 13) || (c == 10)) _ _ (end_sound c) (λ e. cc e))

start_sound : (c : ℕ) → Sound (start_field default_config c)
unfolding Sound
start_sound c = sound_if (c == 34) _ _ (λ e. cc e) (field_sound c)

record_sound : (c : ℕ) → Sound (start_record default_config c)
unfolding Sound
record_sound c = sound_if ((c == 13) || (c == 10)) _ _ (λ e. cc e) (start_sound c)

step_sound : (s : State) (c : ℕ) → Sound (step default_config s c)
unfolding Sound
step_sound st.StartRecord c = record_sound c
step_sound st.StartField c = start_sound c
step_sound st.InField c = field_sound c
step_sound st.InQuoted c = sound_if (c == 34) _ _ (λ e. cc e) (λ e. cc e)
step_sound st.InEscape c = λ e. cc e
step_sound st.AfterQuote c = sound_if (c == 34) _ _ (λ e. cc e) (field_sound c)
step_sound st.InComment c = sound_if (c == 10) _ _ (λ e. cc e) (λ e. cc e)
step_sound st.AfterCr c = sound_if (c == 10) _ _ (λ e. cc e) (record_sound c)

-- what a read leaves
pub record Leaves (xs : List ℕ) (p : Read) : Type 0 where
  pub shorter : length p.2 ≤ length xs
  pub between : IsBetween p.1

next_leaves : (xs : List ℕ) (s : State) (fields : List (List ℕ)) (field : List ℕ) (p : Read)
    → next_record default_config s fields field xs ≡ Some p → Leaves xs p
unfolding next_record Sound
next_leaves [] s fields field p e = by (ends_at_end s) e
  where
    by : (b : Bool) → (if b then Some (fields ++ (field ∷ []), st.StartRecord, []) else None) ≡ Some p → Leaves [] p
    by true h = let q : (fields ++ (field ∷ []), st.StartRecord, []) ≡ p = cc h in
        subst (Leaves []) q (record { shorter = omega arith; between = inl refl })
    by false h = cc h
next_leaves (c ∷ rest) s fields field p e =
    by (is_end (step default_config s c).1) refl e (next_leaves rest (step default_config s c).0 _ _ p)
  where
    by : (b : Bool) → is_end (step default_config s c).1 ≡ b
        → (if b then Some (fields_after (step default_config s c).1 fields field, (step default_config s c).0, rest)
        else next_record default_config (step default_config s c).0
        (fields_after (step default_config s c).1 fields field)
        (field_after (step default_config s c).1 c field) rest) ≡ Some p
        → (next_record default_config (step default_config s c).0
        (fields_after (step default_config s c).1 fields field)
        (field_after (step default_config s c).1 c field) rest ≡ Some p → Leaves rest p)
        → Leaves (c ∷ rest) p
    by true ends h again =
        let q : (fields_after (step default_config s c).1 fields field, (step default_config s c).0, rest) ≡ p = cc h in
        subst (Leaves (c ∷ rest)) q (record { shorter = omega arith; between = step_sound s c ends })
    by false goes h again =
        let more = again h in
        record { shorter = omega (arith, more.shorter); between = more.between }

-- a read that starts between two records takes at least a byte
pub next_shorter : (xs : List ℕ) (s : State) (p : Read) → IsBetween s → next_record default_config s [] [] xs ≡ Some p →
    (length p.2 < length xs) × IsBetween p.1
unfolding next_record Sound
next_shorter [] s p between e = elim between [ inl start ↦ cc (rw start at e) | inr cr ↦ cc (rw cr at e) ]
next_shorter (c ∷ rest) s p between e = by (is_end (step default_config s c).1) refl e
  where
    by : (b : Bool) → is_end (step default_config s c).1 ≡ b
        → (if b then Some (fields_after (step default_config s c).1 [] [], (step default_config s c).0, rest)
        else next_record default_config (step default_config s c).0 (fields_after (step default_config s c).1 [] [])
        (field_after (step default_config s c).1 c []) rest) ≡ Some p
        → (length p.2 < length (c ∷ rest)) × IsBetween p.1
    by true ends h =
        let q : (fields_after (step default_config s c).1 [] [], (step default_config s c).0, rest) ≡ p = cc h in
        subst (λ (z : Read). (length z.2 < length (c ∷ rest)) × IsBetween z.1) q (omega arith, step_sound s c ends)
    by false goes h =
        let more = next_leaves rest (step default_config s c).0 _ _ p h in
        (omega (arith, more.shorter), more.between)

-- more turns than bytes make no difference
records_same : (n m : ℕ) (s : State) (xs : List ℕ) → IsBetween s → length xs < n → length xs < m
    → records_from default_config n s xs ≡ records_from default_config m s xs
unfolding records_from
records_same zero m s xs b h k = absurd (omega arith)
records_same (suc n) zero s xs b h k = absurd (omega arith)
records_same (suc n) (suc m) s xs b h k =
    by (next_record default_config s [] [] xs) refl (λ s2 ys. records_same n m s2 ys)
  where
    by : (o : Option Read) → next_record default_config s [] [] xs ≡ o
        → ((s2 : State) (ys : List ℕ) → IsBetween s2 → length ys < n → length ys < m →
        records_from default_config n s2 ys ≡ records_from default_config m s2 ys)
        → records_next (records_from default_config n) o ≡ records_next (records_from default_config m) o
    by None e again = refl
    by (Some p) e again =
        let (shorter, between) = next_shorter xs s p b e in
        ap (λ (rs : List (List (List ℕ))). p.0 ∷ rs) (again p.1 p.2 between (omega arith) (omega arith))

-- the records from a state, one step unrolled
pub records_step : (s : State) (xs : List ℕ) (p : Read) → IsBetween s → next_record default_config s [] [] xs ≡ Some p
    → records_after s (Some xs) ≡ p.0 ∷ records_after p.1 (Some p.2)
unfolding records_from
records_step s xs p b e =
    let (shorter, between) = next_shorter xs s p b e in
    let one : length xs + 1 ≡ suc (length xs) = omega arith in
    rw (one, e) (ap (λ (rs : List (List (List ℕ))). p.0 ∷ rs)
    (records_same (length xs) (length p.2 + 1) p.1 p.2 between (omega arith) (omega arith)))

pub records_end : (s : State) (xs : List ℕ) → next_record default_config s [] [] xs ≡ None →
    records_after s (Some xs) ≡ []
unfolding records_from
records_end s xs e =
    let one : length xs + 1 ≡ suc (length xs) = omega arith in
    rw (one, e) refl

-- a read of a record takes the first of those that are left
pub found_record : (s s2 : State) (fields : List (List ℕ)) (xs : List ℕ) (k : Option (List ℕ)) → IsBetween s
    → ReadsNext default_config s (Some xs) k true fields s2
    → Gives (records_after s (Some xs)) true fields (records_after s2 k) × IsBetween s2
found_record s s2 fields xs None b h = absurd h
found_record s s2 fields xs (Some ys) b h = by (next_record default_config s [] [] xs) refl h
  where
    by : (o : Option Read) → next_record default_config s [] [] xs ≡ o → NextIs o true fields s2 ys
        → Gives (records_after s (Some xs)) true fields (records_after s2 (Some ys)) × IsBetween s2
    by None e n = cc n
    by (Some p) e n =
        let (found, same, state, left) = n in
        rw (records_step s xs p b e, same, state, left) ((refl, refl, refl), (next_shorter xs s p b e).1)

pub no_record : (s s2 : State) (fields : List (List ℕ)) (xs : List ℕ) (k : Option (List ℕ))
    → ReadsNext default_config s (Some xs) k false fields s2 → records_after s (Some xs) ≡ []
no_record s s2 fields xs None h = absurd h
no_record s s2 fields xs (Some ys) h = by (next_record default_config s [] [] xs) refl h
  where
    by : (o : Option Read) → next_record default_config s [] [] xs ≡ o → NextIs o false fields s2 ys →
        records_after s (Some xs) ≡ []
    by None e n = records_end s xs e
    by (Some p) e n = cc n.0

-- the bytes that a reader of a slice has left are known, unless it failed
known_bytes : (a : Reader (Bor (List ℕ))) → a.failed ≡ false → (xs : List ℕ) × (bytes_left a ≡ Some xs)
known_bytes a goes = rw goes (by (not a.bom_checked && (a.at == 0) && (a.filled == 0)))
  where
    by : (b : Bool) → (xs : List ℕ) × ((if b then option_map strip_bom (Some a.rdr.now) else buffered_of
        (Some a.rdr.now) a) ≡ Some xs)
    by true = (_, refl)
    by false = (_, refl)

-- what a read of a plain reader does
pub read_step : (a b : Reader (Bor (List ℕ))) (found : Bool) (fields : List (List ℕ)) → IsPlain a →
    ReadRecord (λ s. Some s.now) a b found fields
    → Gives (records_after a.state (bytes_left a)) found fields
    (if not found then [] else records_after b.state (bytes_left b)) × (found ≡ true → IsBetween b.state)
read_step a b true fields plain r =
    let (xs, here) = known_bytes a plain.goes in
    let h = found_record a.state b.state fields xs _ plain.between (rw (plain.config, here) at r.0) in
    (rw (here, r.1) h.0, λ _. h.1)
read_step a b false fields plain r =
    let (xs, here) = known_bytes a plain.goes in
    (rw (here, no_record a.state b.state fields xs _ (rw (plain.config, here) at r.0)) (refl, refl), λ e. cc e)
