-- What is kept of a study, with a question's files and settings in place of its own.
use Rattle.std.proofs.Common.{◌≡◌, ◌∙◌, ℕ, List, [], ap, subst, sym}
use Rattle.footpaths.specs.Walks.{direct_faults}
use Rattle.gtfs_tables.specs.Feed.{FeedData}
use Rattle.studies.specs.declared.fault.StudyFault.{StudyFault}
use Rattle.studies.specs.declared.kept.Kept.{Kept}
use Rattle.studies.specs.declared.parts.Tables.{Tables}
use Rattle.studies.specs.declared.question.Question.{Question}
use Rattle.studies.specs.Answers.{IsQuestion, asked_files}
use Rattle.studies.specs.Inputs.{InputFiles, inputs_of}
use Rattle.studies.specs.Kept.{IsKept, lasting_files, lasting_settings}
use Rattle.studies.specs.Names.{names_of}
use Rattle.studies.specs.Parts.{point_faults}
use Rattle.studies.specs.Ready.{AreReady}
use Rattle.studies.specs.Settings.{SettingsData}
use Rattle.studies.specs.Stages.{AreTables, IsFeedOf, TellsTables}
use Rattle.studies.specs.Study.{AreNetworks, Tells}
use Rattle.studies.proofs.Lasting.{asked_networks, still_named, still_walked}
use Rattle.studies.proofs.StudyFacts.{tables_told}

module _ (k : Kept) (q : Question) (kept : IsKept k) (is : IsQuestion k.settings.now q) where
  abbrev pub files : InputFiles
  files = asked_files (inputs_of k.inputs) q

  abbrev pub settings : SettingsData
  settings = q.settings.now

  made : AreNetworks (lasting_files files) (lasting_settings settings) k.networks.items
  made = subst (λ (s : SettingsData). AreNetworks (lasting_files files) s k.networks.items) (sym is.lasting)
      kept.networks

  pub is_its_feed : (feed : FeedData) → feed ≡ k.feed.value → IsFeedOf files feed
  is_its_feed feed same = record { faultless = kept.feed.faultless; feed_is = same ∙ kept.feed.feed_is }

  pub question_told : (e : StudyFault) (feed : FeedData) → feed ≡ k.feed.value → TellsTables e files feed →
      Tells e files settings
  question_told e feed same h =
      let its = is_its_feed feed same in
      tables_told files settings e feed (still_named files settings k.networks.items made) its
      (subst (λ (d : FeedData). direct_faults d files.footpaths ≡ []) (sym its.feed_is)
      (still_walked files settings k.networks.items made)) h

  pub question_networks : (feed : FeedData) → feed ≡ k.feed.value → point_faults files feed ≡ [] →
      AreNetworks files settings k.networks.items
  question_networks feed same none =
      let its = is_its_feed feed same in
      asked_networks files settings k.networks.items made
      (subst (λ (d : FeedData). point_faults files d ≡ []) its.feed_is none)

  -- what is kept is ready for the question, with its tables
  pub question_ready : (feed : FeedData) {i : InputFiles} {names : List (List ℕ)} {t : Tables} → feed ≡ k.feed.value →
      i ≡ files → point_faults i feed ≡ [] → names ≡ names_of i.scenarios → AreTables i feed t →
      AreReady files settings feed.stops names t k.networks.items
  question_ready feed {i} {names} {t} same is_asked none named tables =
      let feed_is = same ∙ kept.feed.feed_is in
      record {
        stops_are = ap (λ (d : FeedData). d.stops) feed_is;
        names_are = named ∙ ap (λ (i : InputFiles). names_of i.scenarios) is_asked;
        tables_are = subst (λ (d : FeedData). AreTables files d t) feed_is
            (subst (λ (i : InputFiles). AreTables i feed t) is_asked tables);
        networks_are = question_networks feed same (subst (λ (i : InputFiles). point_faults i feed ≡ []) is_asked none);
      }
