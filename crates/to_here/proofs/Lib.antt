pub mod CutLabels
pub mod UntilServed
pub mod FrontsGrow
pub mod RowFinished
pub mod RowSearched
pub mod BatchTaken
