pub mod Counting
pub mod Taken
pub mod Marks
pub mod Turns
pub mod Going
pub mod Carried
pub mod Explored
pub mod Complete
