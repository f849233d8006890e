-- What no question changes of a study, and what a question adds to it.
use Rattle.std.proofs.Common.{◌≡◌, List, [], refl}
use Rattle.gtfs_tables.specs.Files.{feed_faults}
use Rattle.timetable.specs.Networks.{Net}
use Rattle.footpaths.specs.Walks.{direct_faults}
use Rattle.studies.specs.Inputs.{InputFiles}
use Rattle.studies.specs.Kept.{lasting_files, lasting_settings}
use Rattle.studies.specs.Parts.{feed_in, own_faults, point_faults}
use Rattle.studies.specs.Settings.{SettingsData}
use Rattle.studies.specs.Study.{AreNamed, AreNetworks}
use Rattle.studies.proofs.FirstOfLists.{none_left, none_of_both, none_right}

module _ (i : InputFiles) (s : SettingsData) (networks : List Net) where
  -- networks of a study are those of its lasting files and settings
  pub lasting : AreNetworks i s networks → AreNetworks (lasting_files i) (lasting_settings s) networks
  lasting made =
      let edited = made.walked.dated.edited in
      let feed = feed_in i in
      let own : own_faults i feed ≡ [] = none_right (feed_faults i.feed) (own_faults i feed) edited.read.tables in
      let walked : direct_faults feed i.footpaths ≡ [] =
      none_left (direct_faults feed i.footpaths) (point_faults i feed) own in
      record {
        feet = made.feet;
        walked = record {
          dated = record {
            edited = record {
              read = record {
                named = record { few = edited.read.named.few; names = edited.read.named.names };
                tables = none_of_both (feed_faults i.feed) (own_faults (lasting_files i) feed)
                    (none_left (feed_faults i.feed) (own_faults i feed) edited.read.tables)
                    (none_of_both (direct_faults feed i.footpaths) [] walked refl);
              };
              edits = edited.edits;
            };
            days = made.walked.dated.days;
          };
          walks = made.walked.walks;
        };
        faultless = made.faultless;
        networks_are = made.networks_are;
      }

  module _ (made : AreNetworks (lasting_files i) (lasting_settings s) networks) where
    -- the scenarios of files that are kept are named
    pub still_named : AreNamed i
    still_named =
        let named = made.walked.dated.edited.read.named in
        record { few = named.few; names = named.names }

    own_lasting : own_faults (lasting_files i) (feed_in i) ≡ []
    own_lasting = none_right (feed_faults i.feed) (own_faults (lasting_files i) (feed_in i))
        made.walked.dated.edited.read.tables

    -- ... and their footpaths have no fault
    pub still_walked : direct_faults (feed_in i) i.footpaths ≡ []
    still_walked = none_left (direct_faults (feed_in i) i.footpaths) [] own_lasting

    -- the lasting files with tables of a question that have no fault
    pub asked_networks : point_faults i (feed_in i) ≡ [] → AreNetworks i s networks
    asked_networks none =
        let edited = made.walked.dated.edited in
        record {
          feet = made.feet;
          walked = record {
            dated = record {
              edited = record {
                read = record {
                  named = still_named;
                  tables = none_of_both (feed_faults i.feed) (own_faults i (feed_in i))
                      (none_left (feed_faults i.feed) (own_faults (lasting_files i) (feed_in i)) edited.read.tables)
                      (none_of_both (direct_faults (feed_in i) i.footpaths) (point_faults i (feed_in i)) still_walked
                      none);
                };
                edits = edited.edits;
              };
              days = made.walked.dated.days;
            };
            walks = made.walked.walks;
          };
          faultless = made.faultless;
          networks_are = made.networks_are;
        }
