-- The faults of a record of a scenario's file, each explained by a check.
use Rattle.std.proofs.Common.{◌≡◌, ◌++◌, ℕ, Bool, true, false, List, [], ◌∷◌, Option, Some, None, inl, inr, refl}
use Rattle.std.specs.Prelude.{is_none, slice_get}
use Rattle.std.proofs.lemmas.List.Elements.{All-append, All-cons, All-nil}
use Rattle.table_records.specs.Columns.{column, field}
use Rattle.gtfs_tables.specs.Feed.{FeedData}
use Rattle.scenarios.specs.Checks.{AreExplained, IsExplained, refuses}
use Rattle.scenarios.specs.EditRows.{EditRow, action_faults, route_faults, shift_faults, trip_faults}
use Rattle.scenarios.specs.Faults.{when}
use Rattle.scenarios.specs.declared.checks.EditCheck.{EditCheck}
use Rattle.scenarios.specs.declared.edit_rows.Action.{Action}
use Rattle.scenarios.specs.declared.edit_rows.Action.TheVariants as action
use Rattle.scenarios.specs.declared.faults.ScenarioWhat.{ScenarioWhat}
use Rattle.scenarios.specs.declared.faults.ScenarioWhat.TheVariants as what

module _ {feed : FeedData} {table : List EditCheck} {header fields : List (List ℕ)} where
  one : {w : ScenarioWhat} → IsExplained feed table header fields w → AreExplained feed table header fields (w ∷ [])
  one {w = w} told = record {
    each = All-cons (IsExplained feed table header fields) w [] told
        (All-nil (IsExplained feed table header fields));
  }

  -- the fault of one check, where it finds one
  pub only : {bad : Bool} {w : ScenarioWhat} → (bad ≡ true → IsExplained feed table header fields w) →
      AreExplained feed table header fields (when bad w)
  only {bad = true} told = one (told refl)
  only {bad = false} told = record { each = All-nil (IsExplained feed table header fields) }

  pub both : {xs ys : List ScenarioWhat} → AreExplained feed table header fields xs →
      AreExplained feed table header fields ys → AreExplained feed table header fields (xs ++ ys)
  both {xs = xs} {ys = ys} some more = record
      { each = All-append (IsExplained feed table header fields) xs ys some.each more.each }

  pub by_limit : (bad : Bool) → bad ≡ true → IsExplained feed table header fields what.TooMany
  by_limit bad is = record { by = inl refl }

  -- a fault of a field, by the check at a position
  pub by_check : {w : ScenarioWhat} {c : EditCheck} (i : ℕ) → slice_get table i ≡ Some c → c.2 ≡ w →
      refuses feed c.1 (field fields (column header c.0.now)) ≡ true
      → IsExplained feed table header fields w
  by_check {c = c} i at same bad = record { by = inr (c, (i, at), record { what = same; refused = bad }) }

  -- those of a record with an action, or with none
  pub by_action : (r : EditRow) (o : Option Action) →
      (is_none o ≡ true → IsExplained feed table header fields what.UnknownAction)
      → AreExplained feed table header fields (route_faults feed r.id) →
      AreExplained feed table header fields (trip_faults feed r.id)
      → AreExplained feed table header fields (shift_faults feed r.id r.seconds) →
      AreExplained feed table header fields (action_faults feed r o)
  by_action r None unknown route trip shift = one (unknown refl)
  by_action r (Some action.RemoveRoute) unknown route trip shift = route
  by_action r (Some action.RemoveTrip) unknown route trip shift = trip
  by_action r (Some action.ShiftTrip) unknown route trip shift = shift
