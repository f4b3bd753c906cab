-- Which film an index stands for: what it holds is what the film's heads say up to its marks.
use Rattle.std.specs.Prelude.{◌≡◌, ℕ, ◌<◌, ◌≤◌, List, length, map, All, Option}
use Rattle.std.specs.Option.{option_map}
use Rattle.mc_packet.specs.declared.packet.Packet.{Packet}
use Rattle.mc_outside.specs.Shelf.{Files, Opened, content_of}
use Rattle.mc_walk.specs.declared.plan.Plan.{Plan}
use Rattle.mc_cursor.specs.declared.cursor.Cursor.{Cursor}
use Rattle.mc_cursor.specs.Reads.{Told as IfTold}
use Rattle.mc_cursor.specs.Standing.{plan_for, file_of, StandsFor}
use Rattle.mc_journal.specs.Films.{last, syncs}
use Rattle.mc_index.specs.declared.entry.Point.{Point}
use Rattle.mc_index.specs.declared.entry.LastSync.{LastSync}
use Rattle.mc_index.specs.declared.entry.Entry.{Entry}
use Rattle.mc_index.specs.declared.index.Index.{Index}
use Rattle.mc_index.specs.Fronts.{Front, leads_of}
use Rattle.mc_filmed.specs.Marks.{mark_at}

-- a film whose Segment was found within it
abbrev pub IsPlan : Plan → Type 0
IsPlan plan = (0 < plan.opening) × (plan.opening ≤ length plan.octets)

-- a sync point in short: its time, and the mark at its block
abbrev pub point_of : Plan → Packet → Point
point_of plan p = record { time = p.time; mark = mark_at plan p.pos.block }

-- the last sync point of a track among packets
abbrev pub last_point : Plan → List Packet → ℕ → Option Point
last_point plan packets track = option_map (point_of plan) (last (syncs track packets))

abbrev pub last_sync : Plan → List Packet → ℕ → LastSync
last_sync plan packets track = record { track = track; point = last_point plan packets track }

-- an entry: the film was read up to its mark, before which each video and audio track has its last sync point there
pub record IsEntry (plan : Plan) (e : Entry) : Type 0 where
  pub packets : List Packet
  pub read : Front plan e.blocks e.mark packets
  pub tracks : e.tracks.items ≡ map (last_sync plan packets) (leads_of plan.tracks)

-- an index stands for a film where the place to which it has scanned and all of its entries are so
pub record IsIndexOf (plan : Plan) (x : Index) : Type 0 where
  pub front : IsEntry plan x.front
  pub entries : All (IsEntry plan) x.entries.items

-- a fact of the octets of a told film, for which a cursor and an index stand
abbrev pub OfFilm : Option (List ℕ) → Cursor → Index → (List ℕ → Type 0) → Type 0
OfFilm content c x fact = IfTold content (λ octets. StandsFor octets c → IsIndexOf (plan_for octets c) x → fact octets)

-- a cursor and an index stand for the same film
abbrev pub StandFor : List ℕ → Cursor → Index → Type 0
StandFor octets c x = StandsFor octets c × IsIndexOf (plan_for octets c) x

-- ---- the same over a shelf, whose members are named once

-- a fact of the told octets for which a cursor and an index stand
abbrev pub OnOctets : {S : Type 0} → (S → Option Files) → (S → Opened) → S → Cursor → Index → (List ℕ → Type 0) → Type 0
OnOctets files opened shelf c x fact = OfFilm (content_of files opened shelf (file_of c)) c x fact

-- a fact of the plan by which the cursor walks over them
abbrev pub OnPlan : {S : Type 0} → (S → Option Files) → (S → Opened) → S → Cursor → Index → (Plan → Type 0) → Type 0
OnPlan files opened shelf c x fact = OnOctets files opened shelf c x (λ octets. fact (plan_for octets c))

-- the cursor and the index that come after stand for them too
abbrev pub StayOn : {S : Type 0} → (S → Option Files) → (S → Opened) → S → Cursor → Index → Cursor → Index → Type 0
StayOn files opened shelf c x c' x' = OnOctets files opened shelf c x (λ octets. StandFor octets c' x')
