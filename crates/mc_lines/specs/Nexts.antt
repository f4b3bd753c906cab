-- What is seen at the heads of tracks, and what a drain does first.
use Rattle.std.specs.Prelude.{◌≡◌, ℕ, ◌≤◌, nat_lt, true, false, if◌then◌else◌, Option, Some, None, IfSome}
use Rattle.mc_packet.specs.declared.choice.Choice.{Choice}
use Rattle.mc_packet.specs.declared.choice.Kind.{Kind}
use Rattle.mc_packet.specs.declared.choice.Kind.TheVariants.{Video, Audio, Sub}
use Rattle.mc_journal.specs.Films.{rank}
use Rattle.mc_lines.specs.declared.next.Next.{Next}
use Rattle.mc_lines.specs.declared.next.Next.TheVariants.{Give, Tell, Turn}
use Rattle.mc_lines.specs.declared.next.Sight.{Sight}
use Rattle.mc_lines.specs.declared.next.Sight.TheVariants.{Packet, Finish, Wait}
use Rattle.mc_journal.specs.Drives.{OfEach}
use Rattle.mc_packet.specs.Choices.{track_of}
use Rattle.mc_lines.specs.Calls.{Ahead}

-- of two that are seen, the one that is served first: the lesser place, else the lesser number
abbrev pub chosen : Sight → Sight → Sight
chosen (Packet i j p) (Packet k l q) = if nat_lt (rank q) (rank p) then Packet k l q else Packet i j p
chosen (Packet i j p) (Finish k l) = Packet i j p
chosen (Packet i j p) Wait = Packet i j p
chosen (Finish i j) (Packet k l q) = Packet k l q
chosen (Finish i j) (Finish k l) = if nat_lt l j then Finish k l else Finish i j
chosen (Finish i j) Wait = Finish i j
chosen Wait b = b

-- what a read of the track, if there is one, would answer
abbrev pub Sees : Ahead → Kind → Option ℕ → Sight → Type 0
Sees w kind None s = s ≡ Wait
Sees w kind (Some k) (Packet i j p) = (i ≡ kind) × (j ≡ k) × (w.front k ≡ Some (rank p))
Sees w kind (Some k) (Finish i j) = (i ≡ kind) × (j ≡ k) × (w.front k ≡ None) × (w.tells k ≡ true)
Sees w kind (Some k) Wait = (w.front k ≡ None) × (w.tells k ≡ false)

-- of the tracks that are left, the packet at the least head; where there is none, the track of the least number whose end or
-- failure can be told; else a turn
abbrev pub IsNextBy : Ahead → Choice → Next → Type 0
IsNextBy w left (Give kind k) = (track_of left kind ≡ Some k) × ((place : ℕ) × (w.front k ≡ Some place) × OfEach left (λ j. IfSome (w.front j) (λ other. place ≤ other)))
IsNextBy w left (Tell kind k) = (track_of left kind ≡ Some k) × OfEach left (λ j. w.front j ≡ None) × (w.tells k ≡ true) × OfEach left (λ j. w.tells j ≡ true → k ≤ j)
IsNextBy w left Turn = OfEach left (λ j. w.front j ≡ None) × OfEach left (λ j. w.tells j ≡ false)

-- without a kind's track
abbrev pub without : Choice → Kind → Choice
without set Video = record { video = None; audio = set.audio; sub = set.sub }
without set Audio = record { video = set.video; audio = None; sub = set.sub }
without set Sub = record { video = set.video; audio = set.audio; sub = None }
