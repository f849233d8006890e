mod SearchByHalves
mod DrawnBelow
mod StepsKeepBooks
mod StepsTakenBack
mod RunsTakenBack
pub mod StepsAreFair
pub mod NothingIsLast
mod SumsOverViews
mod RuleAsSums
mod SplitsAndJoinsKeepTheRule
mod DrawsKeepTheRule
mod SettlesKeepTheRule
mod NewAndClosedBoards
mod RunsOfOneSeat
mod ClosedBoards
