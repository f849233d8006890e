pub mod Required
pub mod StudyCommand
pub mod Slashes
pub mod ListedNumbers
pub mod QuestionCommand
