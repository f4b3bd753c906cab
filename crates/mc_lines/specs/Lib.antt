-- What the calls of a demuxer behind a script add to its journal, and what the lines of the script leave.
pub mod Calls
pub mod Nexts
pub mod Lines
pub mod Runs
pub mod Films
pub mod Machines
