use Rattle.std.proofs.Common.{drop, take}
use Rattle.std.proofs.lemmas.Result.{err_from_is_err_and}
use Rattle.program.specs.Files.{feed_asks}
use Rattle.program.proofs.FirstUnread.{after, before}
use Rattle.program.proofs.reading.read_feed_files.Goals as goal

pub returns-in_err-files-4-clause-unread : goal.returns-in_err-files-4-clause-unread
returns-in_err-files-4-clause-unread g c =
    let finds = g.D.Disk.finds c.args.disk.now in
    let asks = feed_asks c.args.folder.now in
    let exit = err_from_is_err_and c.from_residual-in_err-files-4.result c.from_residual-in_err-files-4.ensures.1 in
    rw (exit.1, exit.2)
    (after finds (take 3 asks) (drop 3 asks) _ (
      (_, c.in_ok-files.ensures.file),
      ((_, c.in_ok-files-2.ensures.file), ((_, c.in_ok-files-3.ensures.file), tt)),
    )
    (before finds (take 1 (drop 3 asks)) (drop 4 asks) _ c.in_err-files-4.ensures.unread))

pub returns-in_err-files-5-clause-unread : goal.returns-in_err-files-5-clause-unread
returns-in_err-files-5-clause-unread g c =
    let finds = g.D.Disk.finds c.args.disk.now in
    let asks = feed_asks c.args.folder.now in
    let exit = err_from_is_err_and c.from_residual-in_err-files-5.result c.from_residual-in_err-files-5.ensures.1 in
    rw (exit.1, exit.2)
    (after finds (take 4 asks) (drop 4 asks) _ (
      (_, c.in_ok-files.ensures.file),
      (
        (_, c.in_ok-files-2.ensures.file),
        (
          (_, c.in_ok-files-3.ensures.file),
          ((_, c.in_ok-files-4.ensures.file), tt),
        ),
      ),
    )
    (before finds (take 1 (drop 4 asks)) (drop 5 asks) _ c.in_err-files-5.ensures.unread))

pub returns-in_err-files-6-clause-unread : goal.returns-in_err-files-6-clause-unread
returns-in_err-files-6-clause-unread g c =
    let finds = g.D.Disk.finds c.args.disk.now in
    let asks = feed_asks c.args.folder.now in
    let exit = err_from_is_err_and c.from_residual-in_err-files-6.result c.from_residual-in_err-files-6.ensures.1 in
    rw (exit.1, exit.2)
    (after finds (take 5 asks) (drop 5 asks) _ (
      (_, c.in_ok-files.ensures.file),
      (
        (_, c.in_ok-files-2.ensures.file),
        (
          (_, c.in_ok-files-3.ensures.file),
          ((_, c.in_ok-files-4.ensures.file), ((_, c.in_ok-files-5.ensures.file), tt)),
        ),
      ),
    )
    (before finds (take 1 (drop 5 asks)) (drop 6 asks) _ c.in_err-files-6.ensures.unread))

pub returns-in_err-files-7-clause-unread : goal.returns-in_err-files-7-clause-unread
returns-in_err-files-7-clause-unread g c =
    let finds = g.D.Disk.finds c.args.disk.now in
    let asks = feed_asks c.args.folder.now in
    let exit = err_from_is_err_and c.from_residual-in_err-files-7.result c.from_residual-in_err-files-7.ensures.1 in
    rw (exit.1, exit.2)
    (after finds (take 6 asks) (drop 6 asks) _ (
      (_, c.in_ok-files.ensures.file),
      (
        (_, c.in_ok-files-2.ensures.file),
        (
          (_, c.in_ok-files-3.ensures.file),
          (
            (_, c.in_ok-files-4.ensures.file),
            (
              (_, c.in_ok-files-5.ensures.file),
              ((_, c.in_ok-files-6.ensures.file), tt),
            ),
          ),
        ),
      ),
    )
    (before finds (take 1 (drop 6 asks)) (drop 7 asks) _ c.in_err-files-7.ensures.unread))

pub returns-in_err-files-8-clause-unread : goal.returns-in_err-files-8-clause-unread
returns-in_err-files-8-clause-unread g c =
    let finds = g.D.Disk.finds c.args.disk.now in
    let asks = feed_asks c.args.folder.now in
    let exit = err_from_is_err_and c.from_residual-in_err-files-8.result c.from_residual-in_err-files-8.ensures.1 in
    rw (exit.1, exit.2)
    (after finds (take 7 asks) (drop 7 asks) _ (
      (_, c.in_ok-files.ensures.file),
      (
        (_, c.in_ok-files-2.ensures.file),
        (
          (_, c.in_ok-files-3.ensures.file),
          (
            (_, c.in_ok-files-4.ensures.file),
            (
              (_, c.in_ok-files-5.ensures.file),
              ((_, c.in_ok-files-6.ensures.file), ((_, c.in_ok-files-7.ensures.file), tt)),
            ),
          ),
        ),
      ),
    )
    c.in_err-files-8.ensures.unread)

pub returns-clause-files : goal.returns-clause-files
returns-clause-files g c =
    record {
      stops = c.in_ok-files.ensures.file;
      routes = c.in_ok-files-2.ensures.file;
      calendar = c.in_ok-files-3.ensures.file;
      calendar_dates = c.in_ok-files-4.ensures.file;
      trips = c.in_ok-files-5.ensures.file;
      stop_times = c.in_ok-files-6.ensures.file;
      frequencies = c.in_ok-files-7.ensures.file;
      transfers = c.in_ok-files-8.ensures.file;
    }
