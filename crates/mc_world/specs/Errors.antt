-- The refusals of a demuxer and of a core, as a world's.
use Rattle.mc_calls.specs.declared.answer.DemuxError.{DemuxError}
use Rattle.mc_calls.specs.declared.answer.DemuxError.TheVariants as demux
use Rattle.mc_core.specs.declared.core_error.CoreError.{CoreError}
use Rattle.mc_core.specs.declared.core_error.CoreError.TheVariants as core
use Rattle.mc_world.specs.declared.moves.WorldError.{WorldError}
use Rattle.mc_world.specs.declared.moves.WorldError.TheVariants as world

abbrev pub demux_error : DemuxError → WorldError
demux_error (demux.Refused why) = world.Demux why
demux_error demux.JournalFull = world.JournalFull
demux_error demux.NoMemory = world.NoMemory

abbrev pub core_error : CoreError → WorldError
core_error core.UnknownClient = world.UnknownClient
core_error core.NameTaken = world.NameTaken
core_error core.TooMany = world.TooMany
core_error core.BadSize = world.BadSize
core_error core.JournalFull = world.JournalFull
core_error core.NoMemory = world.NoMemory
