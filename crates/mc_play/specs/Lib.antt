-- What a run of a script over a film does: which script and which film the words name, how it ends and why, and what it
-- leaves in the journal and in the text.
pub mod Texts
pub mod Asked
pub mod Opening
pub mod Run
pub mod Completing
pub mod Generating
pub mod Summing
