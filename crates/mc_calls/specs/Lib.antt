-- Each call of a demuxer has a clause `value`, by the definition here that bears its name (`Seeks`, `Selects`, `Asks`,
-- `Finds`, `Feeds`, `Fails`, `Reads`, `Shows`). It fixes the answer and what is left: by which steps of the cache (`Goes`,
-- `Switches`, `PutsStarts`, `PutsPart`, `Gives`), with which records, and that all else stays. Only room is left open: how much
-- of it a call makes. A clause `grows` says that what was written bears the caller's number (`Grew`); a clause `demux`, that a
-- demuxer is left (`IsDemux`); and a clause `film`: whatever film the demuxer stands for (`StandsFor`), it stands for it
-- afterwards, where what it was handed is of that film (`AreStartsOf`, `IsPartOf`). What an outcome has to be is `BringsStarts`,
-- `BringsPart` and `BringsFailure`. What a demuxer that stands for a film tells, holds and does next follows from its journal
-- (`status_by`, `cached_by`, `job_by`).
pub mod State
pub mod Jobs
pub mod Demuxers
pub mod Keeping
pub mod Records
pub mod Trimming
pub mod Settling
pub mod Feeding
pub mod Finding
pub mod Readings
pub mod Seeking
pub mod Selecting
pub mod Outcomes
pub mod Asking
pub mod Wanting
pub mod Film
pub mod Opening
pub mod Viewing
pub mod Shows
pub mod Marks
pub mod ByJournal
pub mod Cached
pub mod Tied
