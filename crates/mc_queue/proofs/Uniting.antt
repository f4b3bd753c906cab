-- What two queues that meet are together.
use Rattle.std.proofs.Common.{◌≡◌, ℕ, ◌+◌, ◌^◌, ◌<◌, ◌≤◌, List, ◌++◌, length, take, drop, arith, ap, subst, sym, ◌∙◌, inl, inr}
use Rattle.std.specs.Prelude.{nat_le}
use Rattle.std.proofs.lemmas.Bool.{cases_Bool, leb-true, leb-false}
use Rattle.mc_packet.specs.declared.packet.Packet.{Packet}
use Rattle.mc_packet.specs.declared.packet.Pos.{Pos}
use Rattle.mc_journal.specs.Films.{rank}
use Rattle.mc_queue.specs.Places.{weights, Rise, before}
use Rattle.mc_journal.specs.Views.{from_place}
use Rattle.mc_queue.specs.Queue.{QueueState}
use Rattle.mc_queue.specs.Union.{Meet, earlier, later, in_front, behind_all, united}
use Rattle.mc_queue.proofs.Rising.{rise_earlier, rise_later, rise_bounds, rise_append, rise_from, rise_before, take_before, drop_before_is, weights_of_two, less_weight_outside}

pub earlier_least : (a b : Pos) → (rank (earlier a b) ≤ rank a) × (rank (earlier a b) ≤ rank b)
earlier_least a b = elim (cases_Bool (nat_le (rank a) (rank b))) [
  | inl y ↦ let l = leb-true (rank a) (rank b) y in rw y (omega arith, l)
  | inr n ↦ let l = leb-false (rank a) (rank b) n in rw n (omega arith, omega arith)
]

pub later_greatest : (a b : Pos) → (rank a ≤ rank (later a b)) × (rank b ≤ rank (later a b))
later_greatest a b = elim (cases_Bool (nat_le (rank a) (rank b))) [
  | inl y ↦ let l = leb-true (rank a) (rank b) y in rw y (l, omega arith)
  | inr n ↦ let l = leb-false (rank a) (rank b) n in rw n (omega arith, omega arith)
]

-- the packets in front of a place that begin at one or behind it begin at the earlier of both
front_rises : (track to : ℕ) (a b : Pos) (ps : List Packet) → Rise track (rank b) to ps → Rise track (rank (earlier a b)) (rank a) (before (rank a) ps)
front_rises track to a b ps r =
    let e = earlier_least a b in
    rise_before track (rank (earlier a b)) to (rank a) ps e.0 (rise_earlier track (rank b) (rank (earlier a b)) to ps e.1 r)

rear_rises : (track from : ℕ) (a b : Pos) (ps : List Packet) → Rise track from (rank b) ps → Rise track (rank a) (rank (later a b)) (from_place (rank a) ps)
rear_rises track from a b ps r =
    let l = later_greatest a b in
    rise_from track from (rank (later a b)) (rank a) ps l.0 (rise_later track from (rank b) (rank (later a b)) ps l.1 r)

pub record United (q o : QueueState) : Type 0 where
  pub order : rank q.from ≤ rank q.to
  pub front_is : take (length (before (rank q.from) o.packets)) o.packets ≡ in_front q o
  pub rear_is : drop (length (before (rank q.to) o.packets)) o.packets ≡ behind_all q o
  pub weight_is : weights (united q o) ≡ weights q.packets + (weights (in_front q o) + weights (behind_all q o))
  pub light : weights (in_front q o) + weights (behind_all q o) ≤ weights o.packets
  pub rise : Rise q.track (rank (earlier q.from o.from)) (rank (later q.to o.to)) (united q o)

pub unites : (q o : QueueState) → Rise q.track (rank q.from) (rank q.to) q.packets → Rise o.track (rank o.from) (rank o.to) o.packets → Meet q o → United q o
unites q o r s m =
    let b = rise_bounds q.track (rank q.from) (rank q.to) q.packets r in
    let s' : Rise q.track (rank o.from) (rank o.to) o.packets = subst (λ t. Rise t (rank o.from) (rank o.to) o.packets) m.one_track s in
    let w = weights_of_two (in_front q o) (q.packets ++ behind_all q o) in
    let v = weights_of_two q.packets (behind_all q o) in
    record {
      order = b;
      front_is = take_before q.track (rank o.from) (rank o.to) (rank q.from) o.packets s';
      rear_is = drop_before_is q.track (rank o.from) (rank o.to) (rank q.to) o.packets s';
      weight_is = omega arith;
      light = less_weight_outside (rank q.from) (rank q.to) o.packets b;
      rise = rise_append q.track (rank (earlier q.from o.from)) (rank q.from) (rank (later q.to o.to)) (in_front q o) (q.packets ++ behind_all q o)
          (front_rises q.track (rank o.to) q.from o.from o.packets s')
          (rise_append q.track (rank q.from) (rank q.to) (rank (later q.to o.to)) q.packets (behind_all q o) r (rear_rises q.track (rank o.from) q.to o.to o.packets s'));
    }

abbrev state : ℕ → Pos → Pos → List Packet → ℕ → QueueState
state track from to ps spare = record { track = track; from = from; to = to; packets = ps; spare = spare }

-- what is said of the values that a call was handed is said of those that it sees
pub unites_seen : (q o q' o' : QueueState) → q ≡ q' → o ≡ o' → Rise q.track (rank q.from) (rank q.to) q.packets → Rise o.track (rank o.from) (rank o.to) o.packets → Meet q' o' → United q o
unites_seen q o q' o' e f r s m = unites q o r s (subst (λ (a : QueueState). Meet a o) (sym e) (subst (λ (b : QueueState). Meet q' b) (sym f) m))

pub fits_seen : (q o q' o' : QueueState) → q ≡ q' → o ≡ o' → weights q'.packets + weights o'.packets < 2 ^ 64 → weights q.packets + weights o.packets < 2 ^ 64
fits_seen q o q' o' e f l = subst (λ (a : QueueState). weights a.packets + weights o.packets < 2 ^ 64) (sym e) (subst (λ (b : QueueState). weights q'.packets + weights b.packets < 2 ^ 64) (sym f) l)

pub record Absorbed (q o : QueueState) (from to : Pos) (new : List Packet) : Type 0 where
  pub all : new ≡ united q o
  pub weight_is : weights new ≡ weights q.packets + (weights (in_front q o) + weights (behind_all q o))
  pub fits : weights new < 2 ^ 64
  pub rise : Rise q.track (rank from) (rank to) new

pub absorbed : (q o : QueueState) → United q o → weights q.packets + weights o.packets < 2 ^ 64 → (from to : Pos) → from ≡ earlier q.from o.from → to ≡ later q.to o.to → (new : List Packet)
    → new ≡ take (length (before (rank q.from) o.packets)) o.packets ++ (q.packets ++ drop (length (before (rank q.to) o.packets)) o.packets) → Absorbed q o from to new
absorbed q o u l from to e f new n =
    let a : new ≡ united q o = n ∙ ap (λ ps. ps ++ (q.packets ++ drop (length (before (rank q.to) o.packets)) o.packets)) u.front_is ∙ ap (λ ps. in_front q o ++ (q.packets ++ ps)) u.rear_is in
    let w = ap (λ ps. weights ps) a ∙ u.weight_is in
    let m = u.light in
    let g = u.rise in
    let h = subst (λ (p : Pos). Rise q.track (rank p) (rank (later q.to o.to)) (united q o)) (sym e) g in
    let i = subst (λ (p : Pos). Rise q.track (rank from) (rank p) (united q o)) (sym f) h in
    record { all = a; weight_is = w; fits = omega arith; rise = subst (λ ps. Rise q.track (rank from) (rank to) ps) (sym a) i }

pub state_is : (track : ℕ) (from from' to to' : Pos) (ps ps' : List Packet) (spare : ℕ) → from ≡ from' → to ≡ to' → ps ≡ ps' → state track from to ps spare ≡ state track from' to' ps' spare
state_is track from from' to to' ps ps' spare e f g = λ i. state track (e i) (f i) (g i) spare
