use Rattle.std.proofs.Common.{◌++◌, IfErr, inl, map, option_map, string_bytes, subst}
use Rattle.std.proofs.lemmas.Result.{IfErr-weaker, err_from_is_err_and}
use Rattle.studies.specs.FeedFiles.{files_read}
use Rattle.program.specs.Files.{IsFeedIn, IsWhyUnread, feed_asks, own_asks, scenario_asks}
use Rattle.program.proofs.FirstUnread.{after, before, feed_read, own_read}
use Rattle.program.proofs.reading.read_files.Goals as goal

pub returns-in_err-read_feed_files-clause-unread : goal.returns-in_err-read_feed_files-clause-unread
returns-in_err-read_feed_files-clause-unread g c =
    let finds = g.D.Disk.finds c.args.disk.now in
    let task = c.args.task.now in
    let why = subst (λ folder. IsWhyUnread finds (feed_asks folder) c.in_err-read_feed_files.field-0.0)
    c.as_str.ensures.value c.in_err-read_feed_files.ensures.unread in
    let exit = err_from_is_err_and c.from_residual.result c.from_residual.ensures.1 in
    rw (exit.1, exit.2) (before finds (feed_asks (string_bytes task.feed)) _ _ why)

pub returns-in_err-files-clause-unread : goal.returns-in_err-files-clause-unread
returns-in_err-files-clause-unread g c =
    let finds = g.D.Disk.finds c.args.disk.now in
    let task = c.args.task.now in
    let feed = subst (λ folder. IsFeedIn finds folder (files_read c.read_feed_files.new.files)) c.as_str.ensures.value
    c.in_ok-read_feed_files.ensures.files in
    let scenarios = scenario_asks (map string_bytes task.scenarios.items) in
    let destinations = own_asks (option_map string_bytes task.destinations) in
    let opportunities = own_asks (option_map string_bytes task.opportunities) in
    let origins = own_asks (option_map string_bytes task.origins) in
    let footpaths = own_asks (option_map string_bytes task.footpaths) in
    let exit = err_from_is_err_and c.from_residual-in_err-files.result c.from_residual-in_err-files.ensures.1 in
    rw (exit.1, exit.2)
    (after finds (feed_asks (string_bytes task.feed))
    (footpaths ++ (origins ++ (opportunities ++ (destinations ++ scenarios)))) _ (feed_read finds _ _ feed)
    (before finds footpaths (origins ++ (opportunities ++ (destinations ++ scenarios))) _
    (inl c.in_err-files.ensures.unread)))

pub returns-in_err-files-2-clause-unread : goal.returns-in_err-files-2-clause-unread
returns-in_err-files-2-clause-unread g c =
    let finds = g.D.Disk.finds c.args.disk.now in
    let task = c.args.task.now in
    let feed = subst (λ folder. IsFeedIn finds folder (files_read c.read_feed_files.new.files)) c.as_str.ensures.value
    c.in_ok-read_feed_files.ensures.files in
    let scenarios = scenario_asks (map string_bytes task.scenarios.items) in
    let destinations = own_asks (option_map string_bytes task.destinations) in
    let opportunities = own_asks (option_map string_bytes task.opportunities) in
    let origins = own_asks (option_map string_bytes task.origins) in
    let footpaths = own_asks (option_map string_bytes task.footpaths) in
    let exit = err_from_is_err_and c.from_residual-in_err-files-2.result c.from_residual-in_err-files-2.ensures.1 in
    rw (exit.1, exit.2)
    (after finds (feed_asks (string_bytes task.feed))
    (footpaths ++ (origins ++ (opportunities ++ (destinations ++ scenarios)))) _ (feed_read finds _ _ feed)
    (after finds footpaths (origins ++ (opportunities ++ (destinations ++ scenarios))) _
    (own_read finds _ _ c.in_ok-files.ensures.file)
    (before finds origins (opportunities ++ (destinations ++ scenarios)) _ (inl c.in_err-files-2.ensures.unread))))

pub returns-in_err-files-3-clause-unread : goal.returns-in_err-files-3-clause-unread
returns-in_err-files-3-clause-unread g c =
    let finds = g.D.Disk.finds c.args.disk.now in
    let task = c.args.task.now in
    let feed = subst (λ folder. IsFeedIn finds folder (files_read c.read_feed_files.new.files)) c.as_str.ensures.value
    c.in_ok-read_feed_files.ensures.files in
    let scenarios = scenario_asks (map string_bytes task.scenarios.items) in
    let destinations = own_asks (option_map string_bytes task.destinations) in
    let opportunities = own_asks (option_map string_bytes task.opportunities) in
    let origins = own_asks (option_map string_bytes task.origins) in
    let footpaths = own_asks (option_map string_bytes task.footpaths) in
    let exit = err_from_is_err_and c.from_residual-in_err-files-3.result c.from_residual-in_err-files-3.ensures.1 in
    rw (exit.1, exit.2)
    (after finds (feed_asks (string_bytes task.feed))
    (footpaths ++ (origins ++ (opportunities ++ (destinations ++ scenarios)))) _ (feed_read finds _ _ feed)
    (after finds footpaths (origins ++ (opportunities ++ (destinations ++ scenarios))) _
    (own_read finds _ _ c.in_ok-files.ensures.file)
    (after finds origins (opportunities ++ (destinations ++ scenarios)) _
    (own_read finds _ _ c.in_ok-files-2.ensures.file)
    (before finds opportunities (destinations ++ scenarios) _ (inl c.in_err-files-3.ensures.unread)))))

pub returns-in_err-files-4-clause-unread : goal.returns-in_err-files-4-clause-unread
returns-in_err-files-4-clause-unread g c =
    let finds = g.D.Disk.finds c.args.disk.now in
    let task = c.args.task.now in
    let feed = subst (λ folder. IsFeedIn finds folder (files_read c.read_feed_files.new.files)) c.as_str.ensures.value
    c.in_ok-read_feed_files.ensures.files in
    let scenarios = scenario_asks (map string_bytes task.scenarios.items) in
    let destinations = own_asks (option_map string_bytes task.destinations) in
    let opportunities = own_asks (option_map string_bytes task.opportunities) in
    let origins = own_asks (option_map string_bytes task.origins) in
    let footpaths = own_asks (option_map string_bytes task.footpaths) in
    let exit = err_from_is_err_and c.from_residual-in_err-files-4.result c.from_residual-in_err-files-4.ensures.1 in
    rw (exit.1, exit.2)
    (after finds (feed_asks (string_bytes task.feed))
    (footpaths ++ (origins ++ (opportunities ++ (destinations ++ scenarios)))) _ (feed_read finds _ _ feed)
    (after finds footpaths (origins ++ (opportunities ++ (destinations ++ scenarios))) _
    (own_read finds _ _ c.in_ok-files.ensures.file)
    (after finds origins (opportunities ++ (destinations ++ scenarios)) _
    (own_read finds _ _ c.in_ok-files-2.ensures.file)
    (after finds opportunities (destinations ++ scenarios) _ (own_read finds _ _ c.in_ok-files-3.ensures.file)
    (before finds destinations scenarios _ (inl c.in_err-files-4.ensures.unread))))))

pub returns-clause-unread : goal.returns-clause-unread
returns-clause-unread g c =
    let finds = g.D.Disk.finds c.args.disk.now in
    let task = c.args.task.now in
    let feed = subst (λ folder. IsFeedIn finds folder (files_read c.read_feed_files.new.files)) c.as_str.ensures.value
    c.in_ok-read_feed_files.ensures.files in
    let scenarios = scenario_asks (map string_bytes task.scenarios.items) in
    let destinations = own_asks (option_map string_bytes task.destinations) in
    let opportunities = own_asks (option_map string_bytes task.opportunities) in
    let origins = own_asks (option_map string_bytes task.origins) in
    let footpaths = own_asks (option_map string_bytes task.footpaths) in
    let unread = subst (λ paths. IfErr c.scenario_files.result
    (IsWhyUnread finds (scenario_asks (map string_bytes paths)))) c.as_slice.ensures.value
    c.scenario_files.ensures.unread in
    IfErr-weaker c.scenario_files.result _ _
    (λ why u. after finds (feed_asks (string_bytes task.feed))
    (footpaths ++ (origins ++ (opportunities ++ (destinations ++ scenarios)))) _ (feed_read finds _ _ feed)
    (after finds footpaths (origins ++ (opportunities ++ (destinations ++ scenarios))) _
    (own_read finds _ _ c.in_ok-files.ensures.file)
    (after finds origins (opportunities ++ (destinations ++ scenarios)) _
    (own_read finds _ _ c.in_ok-files-2.ensures.file)
    (after finds opportunities (destinations ++ scenarios) _ (own_read finds _ _ c.in_ok-files-3.ensures.file)
    (after finds destinations scenarios _ (own_read finds _ _ c.in_ok-files-4.ensures.file) u)))))
    unread
