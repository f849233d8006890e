use Rattle.collector.proofs.Fair.{run_of_book, drawn_once, kept_once, nothing_at_last}
use Rattle.collector.proofs.laws.core_runs_are_fair.Goals as goal

pub returns-clause-alone : goal.returns-clause-alone
returns-clause-alone c = run_of_book

pub returns-clause-drawn : goal.returns-clause-drawn
returns-clause-drawn c = drawn_once

pub returns-clause-kept : goal.returns-clause-kept
returns-clause-kept c = kept_once

pub returns-clause-nothing : goal.returns-clause-nothing
returns-clause-nothing c = nothing_at_last
