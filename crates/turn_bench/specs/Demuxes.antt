-- Calls of a demuxer behind a lock.
use Rattle.mc_journal.specs.declared.record.DemuxRecord.{DemuxRecord}

-- whatever the call's record is
abbrev pub Any : DemuxRecord → Type 0
Any r = Unit {0}
