use Rattle.std.proofs.Common.{◌≡◌, map, take}
use Rattle.mc_index.specs.Fronts.{leads_of}
use Rattle.mc_index.specs.Entries.{unread}
use Rattle.mc_index.proofs.index.lead_tracks.Given as goal

abbrev pub invariant-loop-track : goal.invariant-loop-track
invariant-loop-track l = l.leads.items ≡ map unread (leads_of (take l.track-index l.tracks))
