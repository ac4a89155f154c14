-- Sets of positions in a word: what each function's answer says.
pub mod Member
pub mod Ascending
pub mod With
pub mod Count
pub mod First
pub mod Last
pub mod BothEnds
pub mod Union
pub mod AfterClass
