use Rattle.std.proofs.Common.{ltb, ltb-true, ltb-false, arith, rules}
use Rattle.std.proofs.lemmas.List.Sorted.{IsPartitionPoint-from_clause, IsPartitionedBy-ltb}
use Rattle.trip_events.specs.declared.trip_times.StopTime.{StopTime}
use Rattle.trip_events.proofs.TripTimeFacts.{rises}
use Rattle.trip_events.proofs.trip_times.count_below.Goals as goal

pub returns-clause-below : goal.returns-clause-below
returns-clause-below c =
    let xs = c.args.trip_times.now.items in
    let parted = IsPartitionedBy-ltb (λ (s : StopTime). s.sequence) xs c.args.sequence (rises 0 xs c.requires) in
    let point = IsPartitionPoint-from_clause (λ (s : StopTime). ltb s.sequence c.args.sequence) _ _
    c.partition_point.ensures.partitioned parted (λ a r q k. search rules) in
    λ k d lt. ltb-true _ _ (point.0 k d (omega arith) lt)

pub returns-clause-from : goal.returns-clause-from
returns-clause-from c =
    let xs = c.args.trip_times.now.items in
    let parted = IsPartitionedBy-ltb (λ (s : StopTime). s.sequence) xs c.args.sequence (rises 0 xs c.requires) in
    let point = IsPartitionPoint-from_clause (λ (s : StopTime). ltb s.sequence c.args.sequence) _ _
    c.partition_point.ensures.partitioned parted (λ a r q k. search rules) in
    λ k d le lt. ltb-false _ _ (point.1 k d le lt)
