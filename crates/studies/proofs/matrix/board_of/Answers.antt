use Rattle.std.proofs.Common.{◌≡◌, ◌*◌, ◌∙◌, ap, rules, sym}
use Rattle.work_book.specs.Views.{first_view}
use Rattle.workers.specs.Jobs.{jobs_of}
use Rattle.workers.specs.Study.{study_of}
use Rattle.studies.specs.Settings.{SettingsData}
use Rattle.studies.proofs.matrix.board_of.Goals as goal

pub returns-clause-tries : goal.returns-clause-tries
returns-clause-tries c =
    c.in_ok-board.ensures.size.1 ∙ ap (λ (x : SettingsData). x.tries) c.settings.view_is

pub returns-clause-seat : goal.returns-clause-seat
returns-clause-seat c =
    let s = study_of c.args.study.now in
    let asked = c.settings.inside in
    let jobs : c.in_ok-board.board.jobs ≡ jobs_of s = search rules in
    c.in_ok-board.ensures.seat.1
    ∙ ap (λ n. first_view (n * asked.tries)) (sym c.in_ok-board.ensures.size.0 ∙ jobs)
    ∙ ap (λ (x : SettingsData). first_view (jobs_of s * x.tries)) c.settings.view_is
