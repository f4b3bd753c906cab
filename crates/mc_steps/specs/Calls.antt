-- A demuxer's journal as the steps of a world have it.
use Rattle.std.specs.Prelude.{List, reverse}
use Rattle.mc_journal.specs.declared.record.DemuxRecord.{DemuxRecord}
use Rattle.mc_calls.specs.State.{DemuxState}

-- its newest record first
abbrev pub newest_first : DemuxState → List DemuxRecord
newest_first d = reverse d.journal
