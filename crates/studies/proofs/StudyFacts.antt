-- What each stage of a study tells is told of the files, and what it makes is made of them.
use Rattle.std.proofs.Common.{◌≡◌, ◌⊎◌, ◌≤◌, ◌<◌, ◌+◌, ◌*◌, ◌∙◌, ℕ, suc, List, [], ◌∷◌, All, Result, Ok, Err, ap, subst}
use Rattle.std.proofs.Common.{sym, refl, inl, inr, length, arith}
use Rattle.std.specs.Prelude.{IfErr, IfOk}
use Rattle.std.specs.Result.{IsErrAnd}
use Rattle.std.proofs.lemmas.List.{length-map}
use Rattle.std.proofs.lemmas.Result.{err_from_is_err_and}
use Rattle.std.proofs.lemmas.List.Elements.{All-cons, All-nil}
use Rattle.table_records.proofs.FaultFacts.{tells_more}
use Rattle.table_records.specs.Faults.{IsFirst}
use Rattle.table_records.specs.Faults as records
use Rattle.table_records.specs.declared.fault.FeedFault.{FeedFault}
use Rattle.timetable.specs.declared.faults.NetFault.{NetFault}
use Rattle.timetable.specs.declared.trips.StopNo.{StopNo}
use Rattle.timetable.specs.Footpaths.{FeetData}
use Rattle.timetable.specs.Networks.{Net}
use Rattle.gtfs_tables.specs.Feed.{FeedData, day_number}
use Rattle.gtfs_tables.specs.Files.{feed_faults}
use Rattle.service_days.specs.declared.fault.DayFault.{DayFault}
use Rattle.service_days.specs.declared.fault.DayFault.TheVariants as day
use Rattle.service_days.specs.declared.run.Run.{Run}
use Rattle.service_days.specs.Instances as days
use Rattle.service_days.specs.Instances.{IsRun}
use Rattle.footpaths.specs.Direct.{DirectLists}
use Rattle.footpaths.specs.Walks.{direct_faults}
use Rattle.footpaths.specs.declared.faults.FootFault.{FootFault}
use Rattle.footpaths.specs.declared.faults.FootFault.TheVariants as foot
use Rattle.footpaths.specs.Closure.{IsClosure, IsFootFault, HasTooMany}
use Rattle.scenarios.specs.ScenarioData.{ScenarioData}
use Rattle.scenarios.specs.Files.{scenario_in}
use Rattle.scenarios.specs.Networks.{net_of}
use Rattle.rounds.specs.Window.{Fits}
use Rattle.collector.specs.Places.{MatrixData}
use Rattle.workers.specs.Matrices.{IsMatrix}
use Rattle.workers.specs.Study.{Query, StudyData, StudyFits}
use Rattle.workers.specs.declared.study.TheConstants.{MOST_SCENARIOS}
use Rattle.matrix_text.specs.Text.{LabelData, matrix_text}
use Rattle.studies.specs.declared.fault.StudyFault.{StudyFault}
use Rattle.studies.specs.declared.fault.StudyFault.TheVariants as fault
use Rattle.studies.specs.declared.settings.Settings.TheInside.{Inside}
use Rattle.studies.specs.Inputs.{InputFiles}
use Rattle.studies.specs.declared.parts.NetworkParts.{NetworkParts}
use Rattle.studies.specs.declared.parts.Tables.{Tables}
use Rattle.studies.specs.NamedFile.{NamedBytes}
use Rattle.studies.specs.Names.{name_faults, names_of}
use Rattle.studies.specs.Ready.{AreReady}
use Rattle.studies.specs.Settings.{SettingsData, SettingsFit, query_of, window_of}
use Rattle.studies.specs.Parts.{destinations_in, direct_in, edit_faults, feed_in, labels_in}
use Rattle.studies.specs.Parts.{network_faults, networks_of, opportunities_in, origins_in, own_faults}
use Rattle.studies.specs.Parts.{point_faults, runs_in, scenarios_in, study_in, table_faults}
use Rattle.work_book.specs.declared.rule.View.{View}
use Rattle.work_book.specs.declared.shared.Board.{Board}
use Rattle.work_book.specs.Views.{first_view}
use Rattle.workers.specs.Held.{Decides, WasTold}
use Rattle.workers.specs.Jobs.{jobs_of}
use Rattle.workers.specs.Outcomes.{IsByGate, IsFaultOf, IsFaultOfNew}
use Rattle.workers.specs.declared.faults.RunFault.{RunFault}
use Rattle.studies.specs.Stages.{AreNetworkParts, AreTables, IsFeedOf, TellsEdits, TellsNames, TellsNetworks}
use Rattle.studies.specs.Stages.{TellsTables, TellsText}
use Rattle.studies.specs.Study.{AreDated, AreEdited, AreNamed, AreNetworks, AreRead, AreWalked, IsFaultOfRun}
use Rattle.studies.specs.Study.{IsStudyText, Means, Tells, TellsBy}
use Rattle.studies.proofs.FirstOfLists.{first_left, first_right, none_of_both, tells_right}

-- settings, by their fields
abbrev pub seen : Inside → SettingsData
seen s = record {
  date = s.date;
  back = s.back;
  ahead = s.ahead;
  first = s.first;
  minutes = s.minutes;
  rides = s.rides;
  walk = s.walk;
  shares = s.shares.items;
  withins = s.withins.items;
  workers = s.workers;
  tries = s.tries;
}

-- what holds of a fault holds of what a `?` returns of it
pub err_by : {T E : Type 0} (P : E → Type 0) (r : Result T E) (x : E) → IsErrAnd r (λ e. e ≡ x) → P x → IfErr r P
err_by P r x h told = let (e, is, same) = err_from_is_err_and r h in rw (is, same) told

module _ (i : InputFiles) (s : SettingsData) where
  pub names_told : (e : StudyFault) → TellsNames e i.scenarios → Tells e i s
  names_told fault.Scenarios h = inr h
  names_told (fault.Name k) h = inr h
  names_told _ h = absurd h

  pub are_named : (length i.scenarios < MOST_SCENARIOS) × (name_faults i.scenarios ≡ []) → AreNamed i
  are_named good = record { few = good.0; names = good.1 }

  pub feed_told : (e : FeedFault) → AreNamed i → records.Tells e (feed_faults i.feed) → Tells (fault.Feed e) i s
  feed_told e named h = elim h [
    | inl m ↦ inl m
    | inr f ↦ inr (named, first_left e (feed_faults i.feed) (own_faults i (feed_in i)) f)
  ]

  pub is_feed : (feed held : FeedData) → held ≡ feed → feed_faults i.feed ≡ [] → feed ≡ feed_in i → IsFeedOf i held
  is_feed feed held same none is = record { faultless = none; feed_is = same ∙ is }

  pub own_told : (e : FeedFault) (feed : FeedData) → AreNamed i → IsFeedOf i feed →
      records.Tells e (own_faults i feed) → Tells (fault.Feed e) i s
  own_told e feed named is h =
      elim h [
        | inl m ↦ inl m
        | inr f ↦ inr (
          named,
          first_right e (feed_faults i.feed) (own_faults i (feed_in i)) is.faultless
              (subst (λ (d : FeedData). IsFirst e (own_faults i d)) is.feed_is f),
        )
      ]

  no_table_faults : (feed : FeedData) → IsFeedOf i feed → own_faults i feed ≡ [] → table_faults i ≡ []
  no_table_faults feed is none =
      none_of_both (feed_faults i.feed) (own_faults i (feed_in i)) is.faultless
      (subst (λ (d : FeedData). own_faults i d ≡ []) is.feed_is none)

  pub are_read : (feed : FeedData) → AreNamed i → IsFeedOf i feed → direct_faults feed i.footpaths ≡ [] →
      point_faults i feed ≡ [] → AreRead i
  are_read feed named is walked none = record {
    named = named;
    tables = no_table_faults feed is
        (none_of_both (direct_faults feed i.footpaths) (point_faults i feed) walked none);
  }

  pub direct_told : (e : FeedFault) (feed : FeedData) → AreNamed i → IsFeedOf i feed →
      records.Tells e (direct_faults feed i.footpaths) → Tells (fault.Feed e) i s
  direct_told e feed named is h =
      own_told e feed named is (tells_more e (direct_faults feed i.footpaths) (point_faults i feed) h)

  pub tables_told : (e : StudyFault) (feed : FeedData) → AreNamed i → IsFeedOf i feed →
      direct_faults feed i.footpaths ≡ [] → TellsTables e i feed → Tells e i s
  tables_told (fault.Feed e) feed named is walked h =
      own_told e feed named is (tells_right e (direct_faults feed i.footpaths) (point_faults i feed) walked h)
  tables_told fault.Memory feed named is walked h = inl h
  tables_told _ feed named is walked h = absurd h

  pub are_edited : (feed : FeedData) → AreRead i → feed ≡ feed_in i → edit_faults feed 0 i.scenarios ≡ [] → AreEdited i
  are_edited feed read is none = record {
    read = read;
    edits = subst (λ (d : FeedData). edit_faults d 0 i.scenarios ≡ []) is none;
  }

  pub edits_told : (e : StudyFault) (feed : FeedData) → AreRead i → feed ≡ feed_in i → TellsEdits e feed i.scenarios →
      Tells e i s
  edits_told (fault.Scenario k e) feed read is h =
      elim h [
        | inl m ↦ inl m
        | inr f ↦ inr (
          read,
          subst (λ (d : FeedData). IsFirst (k, e) (edit_faults d 0 i.scenarios)) is f,
        )
      ]
  edits_told fault.Memory feed read is h = inl h
  edits_told _ feed read is h = absurd h

  pub days_told : (e : DayFault) (feed : FeedData) → AreEdited i → feed ≡ feed_in i
      → (e ≡ day.Memory) ⊎ IsFirst e (days.day_faults feed (day_number s.date) s.back s.ahead) →
      Tells (fault.Days e) i s
  days_told e feed edited is h =
      elim h [
        | inl m ↦ inl m
        | inr f ↦ inr (
          edited,
          subst (λ (d : FeedData). IsFirst e
              (days.day_faults d (day_number s.date) s.back s.ahead)) is f,
        )
      ]

  pub are_dated : (feed : FeedData) → AreEdited i → feed ≡ feed_in i →
      days.day_faults feed (day_number s.date) s.back s.ahead ≡ [] → AreDated i s
  are_dated feed edited is none = record {
    edited = edited;
    days = subst (λ (d : FeedData). days.day_faults d (day_number s.date) s.back s.ahead ≡ []) is none;
  }

  pub feet_told : (e : FootFault) (direct : DirectLists) → AreDated i s → direct ≡ direct_in i →
      IsFootFault e direct s.walk → Tells (fault.Feet e) i s
  feet_told foot.TooMany direct dated is h =
      inr (dated, refl, subst (λ (d : DirectLists). HasTooMany d.pairs s.walk) is h)
  feet_told foot.Memory direct dated is h = inl refl

  pub are_walked : (direct : DirectLists) (feet : FeetData) → AreDated i s → direct ≡ direct_in i →
      IsClosure direct s.walk feet → AreWalked i s feet
  are_walked direct feet dated is closed =
      record { dated = dated; walks = subst (λ (d : DirectLists). IsClosure d s.walk feet) is closed }

  pub text_told : {V : Type 0} (decides : Decides) (was_told : WasTold) (r : Result V StudyFault) → IfErr r TellsText →
      IfErr r (λ e. TellsBy decides was_told e i s)
  text_told decides was_told (Ok v) h = h
  text_told decides was_told (Err (fault.Text e)) h = inl h
  text_told decides was_told (Err fault.Memory) h = inl h
  text_told decides was_told (Err _) h = absurd h

one_first : (n : ℕ) → suc n ≡ n + 1
one_first n = omega arith

-- there is a scenario for each file, and one more
pub scenario_count : (i : InputFiles) → length (scenarios_in i) ≡ length i.scenarios + 1
scenario_count i =
    let scenario : NamedBytes → ScenarioData = λ f. scenario_in f.name f.bytes (feed_in i) in
    ap suc (length-map i.scenarios scenario) ∙ one_first (length i.scenarios)

-- networks of these parts, as they are of the files
module _ (i : InputFiles) (s : SettingsData) (feed : FeedData) (p : NetworkParts) (runs : List Run)
    (scenarios : List ScenarioData)
    (feed_is : feed ≡ feed_in i) (parts : AreNetworkParts i s p) (runs_are : runs
    ≡ p.runs.items) (scenarios_are : scenarios ≡ p.scenarios.items) where
  faults_in : network_faults feed runs 0 scenarios ≡ network_faults (feed_in i) (runs_in i s) 0 (scenarios_in i)
  faults_in =
      ap (λ (d : FeedData). network_faults d runs 0 scenarios) feed_is
      ∙ ap (λ (r : List Run). network_faults (feed_in i) r 0 scenarios) (runs_are ∙ parts.runs_are)
      ∙ ap (λ (x : List ScenarioData). network_faults (feed_in i) (runs_in i s) 0 x) (scenarios_are
      ∙ parts.scenarios_are)

  networks_in : networks_of feed runs p.feet scenarios ≡ networks_of (feed_in i) (runs_in i s) p.feet (scenarios_in i)
  networks_in =
      ap (λ (d : FeedData). networks_of d runs p.feet scenarios) feed_is
      ∙ ap (λ (r : List Run). networks_of (feed_in i) r p.feet scenarios) (runs_are ∙ parts.runs_are)
      ∙ ap (λ (x : List ScenarioData). networks_of (feed_in i) (runs_in i s) p.feet x) (scenarios_are
      ∙ parts.scenarios_are)

  pub few_scenarios : length scenarios ≤ MOST_SCENARIOS
  few_scenarios =
      let count : length scenarios ≡ length i.scenarios + 1 =
      ap (λ (l : List ScenarioData). length l) (scenarios_are ∙ parts.scenarios_are) ∙ scenario_count i in
      let few : length i.scenarios < MOST_SCENARIOS = parts.walked.dated.edited.read.named.few in
      omega (arith, count, few)

  pub runs_of_feed : All (IsRun feed) runs
  runs_of_feed = subst (λ (l : List Run). All (IsRun feed) l) (sym runs_are)
      (subst (λ (d : FeedData). All (IsRun d) p.runs.items) (sym feed_is) parts.of_feed)

  pub feet_for_stops : length p.feet.walks ≡ length feed.stops
  feet_for_stops = parts.walked.walks.closed.lists ∙ sym (ap (λ (d : FeedData). length d.stops) feed_is)

  pub networks_told : (e : StudyFault) → TellsNetworks e feed runs scenarios → Tells e i s
  networks_told (fault.Net k e) h = elim h [
    | inl m ↦ inl m
    | inr f ↦ inr (p.feet, parts.walked, subst (λ (l : List (ℕ × NetFault)). IsFirst (k, e) l) faults_in f)
  ]
  networks_told fault.Memory h = inl h
  networks_told _ h = absurd h

  pub networks_made : (networks : List Net) → network_faults feed runs 0 scenarios ≡ [] →
      networks ≡ networks_of feed runs p.feet scenarios → AreNetworks i s networks
  networks_made networks none is = record {
    feet = p.feet;
    walked = parts.walked;
    faultless = sym faults_in ∙ none;
    networks_are = is ∙ networks_in;
  }

-- a study of these parts
abbrev pub study_with : Query → List Net → List StopNo → List ℕ → StudyData
study_with query networks origins opportunities = record {
  number = 0;
  networks = networks;
  origins = origins;
  opportunities = opportunities;
  query = query;
}

-- the study that is computed is the one that the files mean
study_is : (i : InputFiles) (s : SettingsData) (networks : List Net) (origins : List StopNo) (opportunities : List ℕ)
    (query : Query)
    → origins ≡ origins_in i → opportunities ≡ opportunities_in i → query ≡ query_of s (destinations_in i) →
    study_with query networks origins opportunities ≡ study_in i s networks
study_is i s networks origins opportunities query p q asked =
    ap (λ (x : List StopNo). study_with query networks x opportunities) p
    ∙ ap (λ (x : List ℕ). study_with query networks (origins_in i) x) q
    ∙ ap (λ (x : Query). study_with x networks (origins_in i) (opportunities_in i)) asked

-- the files mean the study of these networks
pub means : (i : InputFiles) (s : SettingsData) (t : Tables) (networks : List Net)
    (origins : List StopNo) (opportunities : List ℕ) (query : Query)
    → AreTables i (feed_in i) t → AreNetworks i s networks → origins ≡ t.origins.items →
    opportunities ≡ t.opportunities.items → query ≡ query_of s t.destinations.items
    → Means i s (study_with query networks origins opportunities)
means i s t networks origins opportunities query are made p q asked = record {
  networks = networks;
  made = made;
  study_is = study_is i s networks origins opportunities query (p ∙ are.origins_are) (q ∙ are.opportunities_are)
      (asked ∙ ap (λ (l : List StopNo). query_of s l) are.destinations_are);
}

pub text_made : {V : Type 0} (items : V →
    List ℕ) (r : Result V StudyFault) (i : InputFiles) (s : SettingsData) (study : StudyData) (matrix : MatrixData)
    → Means i s study → IsMatrix study matrix → IfOk r (λ v. items v ≡ matrix_text (labels_in i s) matrix) →
    IfOk r (λ v. IsStudyText i s (items v))
text_made items (Ok v) i s study matrix means is_matrix text =
    record { study = study; matrix = matrix; means = means; is_matrix = is_matrix; text_is = text }
text_made items (Err e) i s study matrix means is_matrix text = text

-- there is a network for each scenario
pub network_count : (i : InputFiles) (s : SettingsData) (networks : List Net) → AreNetworks i s networks →
    length networks ≡ length i.scenarios + 1
network_count i s networks made =
    let network : ScenarioData → Net = λ x. net_of (feed_in i) x (runs_in i s) made.feet in
    ap length made.networks_are ∙ length-map (scenarios_in i) network ∙ scenario_count i

-- each network has the feed's stops
pub network_stops : (i : InputFiles) (s : SettingsData) (networks : List Net) → AreNetworks i s networks →
    All (λ n. n.stops ≡ length (feed_in i).stops) networks
network_stops i s networks made =
    subst (All (λ (n : Net). n.stops ≡ length (feed_in i).stops)) (sym made.networks_are) (of_all (scenarios_in i))
  where
    of_all : (xs : List ScenarioData) → All (λ (n : Net). n.stops
        ≡ length (feed_in i).stops) (networks_of (feed_in i) (runs_in i s) made.feet xs)
    of_all [] = All-nil (λ (n : Net). n.stops ≡ length (feed_in i).stops)
    of_all (x ∷ xs) =
        All-cons (λ (n : Net). n.stops ≡ length (feed_in i).stops) (net_of (feed_in i) x (runs_in i s) made.feet)
        (networks_of (feed_in i) (runs_in i s) made.feet xs) refl (of_all xs)

-- the window of settings that fit is on the axis
window_fits : (s : SettingsData) → SettingsFit s → Fits (window_of s)
window_fits s fits = record {
  some = fits.some_minutes;
  few = omega (arith, fits.one_day);
  on_axis = λ m lt. omega (arith, lt, fits.one_day, fits.back);
}

-- the study is within the limits
pub study_fits : (i : InputFiles) (s : SettingsData) (t : Tables) (networks : List Net)
    (origins : List StopNo) (opportunities : List ℕ) (query : Query)
    → SettingsFit s → length (feed_in i).stops ≤ 65535 → AreTables i (feed_in i) t → AreNetworks i s networks →
    origins ≡ t.origins.items → opportunities ≡ t.opportunities.items
    → query ≡ query_of s t.destinations.items
    → StudyFits (study_with query networks origins opportunities)
study_fits i s t networks origins opportunities query fits limit tables made p q asked =
    let stop_count = length (feed_in i).stops in
    let count : length networks ≡ length i.scenarios + 1 = network_count i s networks made in
    let few_files : length i.scenarios < MOST_SCENARIOS = made.walked.dated.edited.read.named.few in
    let stops : length opportunities ≡ stop_count = ap length q ∙ tables.count in
    let some : length origins ≡ length t.origins.items = ap length p in
    let few : length t.origins.items ≤ stop_count = tables.few_origins in
    let few_named : length t.destinations.items ≤ stop_count = tables.few_destinations in
    subst (λ (x : Query). StudyFits (study_with x networks origins opportunities)) (sym asked)
    (record {
      few_networks = omega (arith, count, few_files);
      stops = subst (λ (n : ℕ). All (λ (x : Net). x.stops ≡ n) networks) (sym stops) (network_stops i s networks made);
      few_origins = omega (arith, some, few, limit);
      origins = subst (λ (n : ℕ). All (λ (o : StopNo). o.0 < n) origins) (sym stops)
          (subst (λ (l : List StopNo). All (λ (o : StopNo). o.0 < stop_count) l) (sym p) tables.in_range);
      few_destinations = omega (arith, few_named, limit);
      destinations = subst (λ (n : ℕ). All (λ (o : StopNo). o.0 < n) t.destinations.items) (sym stops)
          tables.destinations_in_range;
      window = window_fits s fits;
      some_rides = fits.some_rides;
      few_rides = fits.few_rides;
      shares = fits.shares;
      limits = fits.withins;
    })

-- labels of these parts
abbrev pub labels_with : List (List ℕ) → List StopNo → List ℕ → List ℕ → List StopNo → List (List ℕ) → LabelData
labels_with names origins shares limits destinations stops =
    record {
      scenarios = names;
      origins = origins;
      shares = shares;
      limits = limits;
      destinations = destinations;
      stops = stops;
    }

-- labels of the same parts are the same
pub labels_are : {names other_names : List (List ℕ)} {origins other_origins : List StopNo}
    {shares other_shares limits other_limits : List ℕ} {destinations other_destinations : List StopNo}
    {stops other_stops : List (List ℕ)}
    → names ≡ other_names → origins ≡ other_origins → shares ≡ other_shares → limits ≡ other_limits →
    destinations ≡ other_destinations → stops ≡ other_stops
    → labels_with names origins shares limits destinations stops
    ≡ labels_with other_names other_origins other_shares other_limits other_destinations other_stops
labels_are {names} {other_names} {origins} {other_origins} {shares} {other_shares} {limits} {other_limits}
    {destinations} {other_destinations} {stops} {other_stops} p q r t v u =
    ap (λ (x : List (List ℕ)). labels_with x origins shares limits destinations stops) p
    ∙ ap (λ (x : List StopNo). labels_with other_names x shares limits destinations stops) q
    ∙ ap (λ (x : List ℕ). labels_with other_names other_origins x limits destinations stops) r
    ∙ ap (λ (x : List ℕ). labels_with other_names other_origins other_shares x destinations stops) t
    ∙ ap (λ (x : List StopNo). labels_with other_names other_origins other_shares other_limits x stops) v
    ∙ ap (λ (x : List (List ℕ)). labels_with other_names other_origins other_shares other_limits other_destinations x) u

-- what is ready is so by any other way to its parts
pub ready_with : (i : InputFiles) (s : SettingsData) {stops other_stops names other_names : List (List ℕ)}
    {t other : Tables} {networks other_networks : List Net}
    → other_stops ≡ stops → other_names ≡ names → other ≡ t → other_networks ≡ networks →
    AreReady i s stops names t networks → AreReady i s other_stops other_names other other_networks
ready_with i s p q r v h = record {
  stops_are = p ∙ h.stops_are;
  names_are = q ∙ h.names_are;
  tables_are = subst (λ (x : Tables). AreTables i (feed_in i) x) (sym r) h.tables_are;
  networks_are = subst (λ (l : List Net). AreNetworks i s l) (sym v) h.networks_are;
}

-- there is a name for each scenario
pub name_count : (files : List NamedBytes) → length (names_of files) ≡ length files + 1
name_count files =
    let name : NamedBytes → List ℕ = λ f. f.name in
    ap suc (length-map files name) ∙ one_first (length files)

-- what a run of workers tells
pub run_told : (decides : Decides) (was_told : WasTold) (i : InputFiles) (s : SettingsData) (study : StudyData)
    (e : RunFault) → Means i s study
    → IsFaultOfNew study decides was_told s.workers s.tries e → IsFaultOfRun decides was_told e i s
run_told decides was_told i s study e means h = record { study = study; means = means; why = h }

-- the fault of a run over a new board
pub run_fault : (r : Result MatrixData RunFault) (s : StudyData) (decides : Decides) (was_told : WasTold)
    (board : Board) (v : View) (workers tries : ℕ)
    → board.jobs ≡ jobs_of s → board.tries ≡ tries →
    IfErr r (λ e. IsFaultOf s decides was_told board workers (first_view (jobs_of s * tries)) v e)
    → IfErr r (λ e. IsByGate s decides was_told board.tries e)
    → IfErr r (λ e. IsFaultOfNew s decides was_told workers tries e)
run_fault (Ok m) s decides was_told board v workers tries jobs tries_are h by_gate = h
run_fault (Err e) s decides was_told board v workers tries jobs tries_are h by_gate =
    inr (record {
      board = board;
      jobs = jobs;
      tries_are = tries_are;
      view = v;
      why = h;
      by_gate = subst (λ (n : ℕ). IsByGate s decides was_told n e) tries_are by_gate;
    })
