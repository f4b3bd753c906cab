-- Where the packets of two queues differ in place or time.
use Rattle.std.specs.Prelude.{◌≡◌, ℕ, ◌<◌, ◌≤◌, ◌==◌, nat_lt, Bool, false, ◌&&◌, if◌then◌else◌, List, [], ◌∷◌, drop, length, ℤ, int_le, Option, Some, None}
use Rattle.std.specs.List.{find}
use Rattle.std.specs.Option.{option_map}
use Rattle.mc_packet.specs.declared.packet.Packet.{Packet}
use Rattle.mc_packet.specs.declared.packet.Pos.{Pos}
use Rattle.mc_journal.specs.Films.{rank}
use Rattle.mc_queue.specs.declared.differences.Difference.{Difference}
use Rattle.mc_queue.specs.Places.{place, before, is_before}

-- ---- by the time at each place

-- the time of the packet that stands at a place
abbrev pub time_at : ℕ → List Packet → Option ℤ
time_at x ps = option_map (λ p. p.time) (find (λ p. place p == x) ps)

-- at each place from one up to, but without, another both have a packet with one time, or neither has one
abbrev pub Agree : ℕ → ℕ → List Packet → List Packet → Type 0
Agree from to ps qs = (x : ℕ) → from ≤ x → x < to → time_at x ps ≡ time_at x qs

-- the first place of them at which that is not so, and the time that each has there
pub record Differ (from to : ℕ) (ps qs : List Packet) (at : Pos) (ours other : Option ℤ) : Type 0 where
  pub begins : from ≤ rank at
  pub ends : rank at < to
  pub ours_is : ours ≡ time_at (rank at) ps
  pub other_is : other ≡ time_at (rank at) qs
  pub two : ours ≡ other → ⊥
  pub first : Agree from (rank at) ps qs

-- what a comparison answers: nothing where they agree, else the first place at which they differ
abbrev pub Tells : ℕ → ℕ → List Packet → List Packet → Option Difference → Type 0
Tells from to ps qs None = Agree from to ps qs
Tells from to ps qs (Some d) = Differ from to ps qs d.pos d.ours d.other

-- ---- the same found head by head, for lists in rising order

abbrev pub Head : Type 0
Head = Pos × ℤ

-- the place and time of a packet, if it stands before the end
abbrev pub head_by : ℕ → Option Packet → Option Head
head_by end None = None
head_by end (Some p) = if is_before end p then Some (p.pos, p.time) else None

-- the place and time of the first packet, if it stands before the end
abbrev pub head_upto : ℕ → List Packet → Option Head
head_upto end [] = None
head_upto end (p ∷ ps) = head_by end (Some p)

abbrev pub same_heads : Head → Head → Bool
same_heads a b = (rank a.0 == rank b.0) && (int_le a.1 b.1 && int_le b.1 a.1)

abbrev pub are_same : Option Head → Option Head → Bool
are_same (Some a) (Some b) = same_heads a b
are_same a b = false

abbrev pub only_ours : Pos → ℤ → Difference
only_ours p time = record { pos = p; ours = Some time; other = None }

abbrev pub only_other : Pos → ℤ → Difference
only_other q at = record { pos = q; ours = None; other = Some at }

abbrev pub of_two : Pos → ℤ → Pos → ℤ → Difference
of_two p time q at =
    if nat_lt (rank p) (rank q) then only_ours p time
    else (if nat_lt (rank q) (rank p) then only_other q at else record { pos = p; ours = Some time; other = Some at })

-- what is told of heads that are not the same
abbrev pub told_of : Option Head → Option Head → Option Difference
told_of None None = None
told_of (Some a) None = Some (only_ours a.0 a.1)
told_of None (Some b) = Some (only_other b.0 b.1)
told_of (Some a) (Some b) = Some (of_two a.0 a.1 b.0 b.1)

abbrev pub difference_of : ℕ → List Packet → List Packet → Option Difference
difference_of end [] qs = told_of None (head_upto end qs)
difference_of end (p ∷ ps) [] = told_of (head_upto end (p ∷ ps)) None
difference_of end (p ∷ ps) (q ∷ qs) =
    if are_same (head_upto end (p ∷ ps)) (head_upto end (q ∷ qs)) then difference_of end ps qs
    else told_of (head_upto end (p ∷ ps)) (head_upto end (q ∷ qs))

-- the same from one place up to another, of all packets of two queues
abbrev pub differ_from : ℕ → ℕ → List Packet → List Packet → Option Difference
differ_from from to ps qs = difference_of to (drop (length (before from ps)) ps) (drop (length (before from qs)) qs)
