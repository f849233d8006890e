-- The trip of a run that a scenario keeps.
use Rattle.std.proofs.Common.{◌≡◌, ◌∙◌, ℕ, ℤ, true, [], ◌∷◌, Option, Some, length, refl}
use Rattle.std.specs.List.{list_all}
use Rattle.std.proofs.lemmas.List.{length-map}
use Rattle.gtfs_tables.specs.declared.trip.FeedTrip.{FeedTrip}
use Rattle.service_days.specs.Instances.{has_rows, instance_events}
use Rattle.service_days.specs.declared.run.Run.{Run}
use Rattle.scenarios.specs.Edits.{keeps_of}
use Rattle.scenarios.specs.Networks.{is_event_on_axis, kept_trip, moved_trip, stays, sum_of}
use Rattle.scenarios.specs.ScenarioData.{ScenarioData}
use Rattle.scenarios.proofs.MovedEvents.{same_length}

-- it has as many events as the feed's trip
pub as_many : (t : FeedTrip) (number : ℕ) (z : ℤ) → length (moved_trip t number z).events ≡ length t.events
as_many t number z = length-map (instance_events t) _ ∙ same_length (has_rows t) t.events

module _ (scenario : ScenarioData) (run : Run) (o : Option FeedTrip) (t : FeedTrip) (is : o
    ≡ Some t) (keeps : keeps_of scenario.edits run.trip t.route ≡ true) where
  pub kept : kept_trip scenario run o ≡ moved_trip t run.trip (sum_of scenario run) ∷ []
  kept = rw (is, keeps) refl

  pub stays_by_events : stays scenario run o ≡ list_all (is_event_on_axis (sum_of scenario run)) (instance_events t)
  stays_by_events = rw (is, keeps) refl
