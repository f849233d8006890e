-- The first fault of several files: that of the first file that has one.
use Rattle.std.proofs.Common.{◌≡◌, List, [], ◌++◌, refl}
use Rattle.trip_events.proofs.EventFacts.{no_parts}
use Rattle.table_records.specs.Faults.{Tells}
use Rattle.table_records.specs.declared.fault.FeedFault.{FeedFault}
use Rattle.table_records.proofs.FaultFacts.{tells_more}

-- a fault of the first file
pub first_of_three : (e : FeedFault) (a b c : List FeedFault) → Tells e a → Tells e (a ++ b ++ c)
first_of_three e a b c t = tells_more e (a ++ b) c (tells_more e a b t)

pub first_of_four : (e : FeedFault) (a b c d : List FeedFault) → Tells e a → Tells e (a ++ b ++ c ++ d)
first_of_four e a b c d t = tells_more e (a ++ b ++ c) d (first_of_three e a b c t)

pub first_of_five : (e : FeedFault) (a b c d f : List FeedFault) → Tells e a → Tells e (a ++ b ++ c ++ d ++ f)
first_of_five e a b c d f t = tells_more e (a ++ b ++ c ++ d) f (first_of_four e a b c d t)

-- a fault of a later file, where none before it has one
pub second_of_five : (e : FeedFault) (a b c d f : List FeedFault) → a ≡ [] → Tells e b → Tells e (a ++ b ++ c ++ d ++ f)
second_of_five e a b c d f no_a t = rw no_a (first_of_four e b c d f t)

pub third_of_five : (e : FeedFault) (a b c d f : List FeedFault) → a ≡ [] → b ≡ [] → Tells e c →
    Tells e (a ++ b ++ c ++ d ++ f)
third_of_five e a b c d f no_a no_b t = rw (no_a, no_b) (first_of_three e c d f t)

pub fourth_of_five : (e : FeedFault) (a b c d f : List FeedFault) → a ≡ [] → b ≡ [] → c ≡ [] → Tells e d →
    Tells e (a ++ b ++ c ++ d ++ f)
fourth_of_five e a b c d f no_a no_b no_c t = rw (no_a, no_b, no_c) (tells_more e d f t)

pub fifth_of_five : (e : FeedFault) (a b c d f : List FeedFault) → a ≡ [] → b ≡ [] → c ≡ [] → d ≡ [] → Tells e f →
    Tells e (a ++ b ++ c ++ d ++ f)
fifth_of_five e a b c d f no_a no_b no_c no_d t = rw (no_a, no_b, no_c, no_d) t

-- where none has a fault, all have none
pub none_of_five : (a b c d f : List FeedFault) → a ≡ [] → b ≡ [] → c ≡ [] → d ≡ [] → f ≡ [] →
    a ++ b ++ c ++ d ++ f ≡ []
none_of_five a b c d f no_a no_b no_c no_d no_f = rw (no_a, no_b, no_c, no_d, no_f) refl

-- where all have no fault, each has none
pub none_each : (a b c d f : List FeedFault) → a ++ b ++ c ++ d ++ f ≡ [] → (b ≡ []) × (c ≡ []) × (f ≡ [])
none_each a b c d f none =
    let (first, no_f) = no_parts (a ++ b ++ c ++ d) f none in
    let (second, _) = no_parts (a ++ b ++ c) d first in
    let (third, no_c) = no_parts (a ++ b) c second in
    let (_, no_b) = no_parts a b third in (no_b, no_c, no_f)
