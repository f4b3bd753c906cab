-- What an entry says of its tracks.
use Rattle.std.specs.Prelude.{ℕ, ◌==◌, Bool, true, ◌&&◌, if◌then◌else◌, List, map, Option, Some, None, ℤ, int_le}
use Rattle.mc_walk.specs.declared.front.BlockMark.{BlockMark}
use Rattle.mc_walk.specs.Parts.{mark}
use Rattle.mc_cursor.specs.declared.head.HeadChunk.{HeadChunk}
use Rattle.mc_index.specs.declared.entry.Point.{Point}
use Rattle.mc_index.specs.declared.entry.LastSync.{LastSync}

-- a track of which nothing is read
abbrev pub unread : ℕ → LastSync
unread track = record { track = track; point = None }

-- a track's last sync point, once one of some track was read
abbrev pub noted : ℕ → Point → LastSync → LastSync
noted track point l = if track == l.track then record { track = l.track; point = Some point } else l

-- no sync point, or one at a time or before it
abbrev pub is_upto : ℤ → Option Point → Bool
is_upto t None = true
is_upto t (Some p) = int_le p.time t

-- the mark of a block element whose first packet is a sync point
abbrev pub key_of : Option BlockMark → Option BlockMark
key_of None = None
key_of (Some b) = if b.key then Some b else None

-- its time and mark, by the head that ends with it
abbrev pub key_point : HeadChunk → BlockMark → Point
key_point k b = record { time = b.time; mark = mark b.pos k.to.level }

-- that of a track
abbrev pub track_point : ℕ → HeadChunk → Option BlockMark → Option Point
track_point track k None = None
track_point track k (Some b) = if b.track == track && b.key then Some (key_point k b) else None

-- the tracks, once a head was read
abbrev pub noted_by : HeadChunk → Option BlockMark → List LastSync → List LastSync
noted_by k None ls = ls
noted_by k (Some b) ls = map (noted b.track (key_point k b)) ls
