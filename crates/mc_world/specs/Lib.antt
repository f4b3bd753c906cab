-- A world as its callers see it, and its steps; and the story that its journals tell.
pub mod Errors
pub mod World
pub mod Calls
pub mod Steps
pub mod Story
