-- The rows of a whole are those of its parts.
use Rattle.std.proofs.Common.{◌≡◌, ◌<◌, ◌≤◌, ◌+◌, ◌-◌, ◌*◌, ◌++◌, ℕ, zero, suc, List, [], ◌∷◌, length, take, drop}
use Rattle.std.proofs.Common.{get_or, append_assoc, refl, sym, ap, ◌∙◌, subst, arith}
use Rattle.std.specs.List.{slice_get, All, AllZip, flat_map}
use Rattle.std.proofs.lemmas.List.{same_lists, length-drop, length-take-le, length-append, length-map, get_or-take}
use Rattle.std.proofs.lemmas.List.{get_or-drop, get_or-map, drop-drop, drop_all, take-append-drop}
use Rattle.std.proofs.lemmas.Nat.{row_fits}
use Rattle.std.proofs.lemmas.Option.{slice_get-get_or}
use Rattle.timetable.specs.declared.trips.StopNo.{StopNo}
use Rattle.timetable.specs.Networks.{Net}
use Rattle.collector.specs.Row.{CellsData, RowData}
use Rattle.collector.specs.Places.{MatrixData}
use Rattle.workers.specs.Study.{StudyData}
use Rattle.workers.specs.Rows.{IsRowOf}
use Rattle.workers.specs.Matrices.{IsMatrix}
use Rattle.workers.specs.Laws.{IsPartOf, given_in, WholesHaveTheRowsOfTheirParts}
use Rattle.workers.proofs.Unique.{same_given}

-- a row that gives this
abbrev giving : List CellsData → RowData
giving given = record { study = 0; scenario = 0; origin = 0; shares = given }

module _ (s : StudyData) (m : MatrixData) (is : IsMatrix s m) (scenario : ℕ) (low : scenario < length s.networks) where
  in_scenarios : scenario < m.scenarios
  in_scenarios = subst (λ n. scenario < n) (sym is.scenarios) low

  -- the rows of a scenario are all there
  enough : scenario * m.origins + m.origins ≤ length m.rows
  enough =
      let count = is.count in
      let fits = row_fits scenario m.origins m.scenarios m.origins in_scenarios (omega arith) in
      omega arith

  pub length_given : length (given_in scenario m) ≡ m.origins
  length_given =
      let dropped = length-drop (scenario * m.origins) m.rows in
      let room = enough in
      length-map (take m.origins (drop (scenario * m.origins) m.rows)) (λ (row : RowData). row.shares)
      ∙ length-take-le m.origins (drop (scenario * m.origins) m.rows) (omega arith)

  -- the row of an origin in the scenario
  abbrev row_of : ℕ → RowData → RowData
  row_of origin e = get_or m.rows (scenario * m.origins + origin) e

  pub given_at : (origin : ℕ) (d : List CellsData) → origin < m.origins →
      get_or (given_in scenario m) origin d ≡ (row_of origin (giving d)).shares
  given_at origin d below =
      let e : RowData = giving d in
      let rows : List RowData = take m.origins (drop (scenario * m.origins) m.rows) in
      let dropped = length-drop (scenario * m.origins) m.rows in
      let room = enough in
      let long = length-take-le m.origins (drop (scenario * m.origins) m.rows) (omega arith) in
      get_or-map (λ (row : RowData). row.shares) rows origin e d (omega arith)
      ∙ ap (λ (row : RowData). row.shares) (get_or-take m.origins (drop (scenario * m.origins) m.rows) origin e below
      ∙ get_or-drop (scenario * m.origins) m.rows origin e)

  pub is_row_of : (origin : ℕ) (e : RowData) → origin < m.origins → IsRowOf s scenario origin (row_of origin e)
  is_row_of origin e below =
      let room = enough in
      is.rows scenario origin (row_of origin e) in_scenarios below
      (slice_get-get_or m.rows (scenario * m.origins + origin) e (omega arith))

in_front : (own after : List StopNo) (origin : ℕ) → origin < length own →
    slice_get (own ++ after) origin ≡ slice_get own origin
in_front [] after origin below = absurd (omega arith)
in_front (x ∷ own) after zero below = refl
in_front (x ∷ own) after (suc origin) below = in_front own after origin (omega arith)

-- the origin of a part stands in the whole behind those of the parts before it
origin_behind : (before own after : List StopNo) (origin k : ℕ) → k ≡ length before + origin → origin < length own
    → slice_get (before ++ (own ++ after)) k ≡ slice_get own origin
origin_behind [] own after origin k is below =
    ap (λ n. slice_get (own ++ after) n) (omega arith) ∙ in_front own after origin below
origin_behind (x ∷ before) own after origin zero is below = absurd (omega arith)
origin_behind (x ∷ before) own after origin (suc k) is below =
    origin_behind before own after origin k (omega arith) below

module _ (whole : StudyData) (m : MatrixData) (is : IsMatrix whole m) (scenario : ℕ) (low : scenario
    < length whole.networks) where
  abbrev given : List (List CellsData)
  given = given_in scenario m

  -- what a part gives stands in the whole behind what the parts before it give
  part_given : (part : StudyData) (w : MatrixData) (before after : List StopNo) → IsPartOf whole part → IsMatrix part w
      → whole.origins ≡ before ++ (part.origins ++ after) →
      take w.origins (drop (length before) given) ≡ given_in scenario w
  part_given part w before after of_whole is_part origins =
      let low_part : scenario < length part.networks =
      subst (λ (n : List Net). scenario < length n) (sym of_whole.networks) low in
      let all : length given ≡ m.origins = length_given whole m is scenario low in
      let own : length (given_in scenario w) ≡ w.origins = length_given part w is_part scenario low_part in
      let as_many : m.origins ≡ length whole.origins = is.origins in
      let as_many_own : w.origins ≡ length part.origins = is_part.origins in
      let joined : length whole.origins ≡ length before + length (part.origins ++ after) =
      ap (λ (o : List StopNo). length o) origins ∙ length-append before (part.origins ++ after) in
      let joined_own : length (part.origins ++ after) ≡ length part.origins + length after =
      length-append part.origins after in
      let dropped : length (drop (length before) given) ≡ length given - length before =
      length-drop (length before) given in
      let long : length (take w.origins (drop (length before) given)) ≡ w.origins =
      length-take-le w.origins (drop (length before) given) (omega arith) in
      same_lists (take w.origins (drop (length before) given)) (given_in scenario w) (long ∙ sym own) (λ origin d below.
      let there : origin < w.origins = omega arith in
      let behind : length before + origin < m.origins = omega arith in
      let here : get_or (take w.origins (drop (length before) given)) origin d
      ≡ (row_of whole m is scenario low (length before + origin) (giving d)).shares =
      get_or-take w.origins (drop (length before) given) origin d there ∙ get_or-drop (length before) given origin d
      ∙ given_at whole m is scenario low (length before + origin) d behind in
      let stop : slice_get whole.origins (length before + origin) ≡ slice_get part.origins origin =
      ap (λ (o : List StopNo). slice_get o (length before + origin)) origins
      ∙ origin_behind before part.origins after origin (length before + origin) refl (omega arith) in
      here
      ∙ same_given whole part scenario scenario (length before + origin) origin _ _ (sym of_whole.opportunities)
      (sym of_whole.query)
      (ap (λ (n : List Net). slice_get n scenario) (sym of_whole.networks)) stop
      (is_row_of whole m is scenario low (length before + origin) (giving d) behind)
      (is_row_of part w is_part scenario low_part origin (giving d) there)
      ∙ sym (given_at part w is_part scenario low_part origin d there))

  pub parts_given : (parts : List StudyData) (matrices : List MatrixData) (before : List StopNo) →
      All (λ part. IsPartOf whole part) parts
      → AllZip IsMatrix parts matrices → whole.origins ≡ before ++ flat_map (λ (part : StudyData). part.origins) parts
      → drop (length before) given ≡ flat_map (λ matrix. given_in scenario matrix) matrices
  parts_given [] [] before of_whole are origins =
      let all : length given ≡ m.origins = length_given whole m is scenario low in
      let as_many : m.origins ≡ length whole.origins = is.origins in
      let joined : length whole.origins ≡ length before + 0 =
      ap (λ (o : List StopNo). length o) origins ∙ length-append before [] in
      drop_all (length before) given (omega arith)
  parts_given [] (w ∷ ws) before of_whole are origins = absurd are
  parts_given (part ∷ parts) [] before of_whole are origins = absurd are
  parts_given (part ∷ parts) (w ∷ ws) before of_whole are origins =
      let after : List StopNo = flat_map (λ (p : StudyData). p.origins) parts in
      let first : take w.origins (drop (length before) given) ≡ given_in scenario w =
      part_given part w before after (of_whole 0 part (omega arith)) are.0 origins in
      let further : length (before ++ part.origins) ≡ length before + w.origins =
      length-append before part.origins ∙ ap (λ n. length before + n) (sym are.0.origins) in
      let behind : drop w.origins (drop (length before) given) ≡ drop (length (before ++ part.origins)) given =
      drop-drop w.origins (length before) given ∙ ap (λ n. drop n given) (sym further) in
      let rest = parts_given parts ws (before ++ part.origins) (λ k d below. of_whole (suc k) d (omega arith)) are.1
      (origins ∙ sym (append_assoc before part.origins after)) in
      sym (take-append-drop w.origins (drop (length before) given))
      ∙ ap (λ l. l ++ drop w.origins (drop (length before) given)) first
      ∙ ap (λ l. given_in scenario w ++ l) (behind ∙ rest)

pub whole_given : WholesHaveTheRowsOfTheirParts
whole_given whole parts m matrices scenario are is are_matrices low =
    parts_given whole m is scenario low parts matrices [] are.parts_are are_matrices are.origins
