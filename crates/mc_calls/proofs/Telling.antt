-- What a read of a track rests on: the end that is cached, the packet that is given, and room.
use Rattle.std.proofs.Common.{◌≡◌, ℕ, ◌*◌, ◌^◌, ◌≤◌, ◌<◌, true, false, Option, Some, None, List, [], ◌∷◌, refl, ap, sym, subst, ◌∙◌, inl, inr, arith, length}
use Rattle.std.specs.Prelude.{if◌then◌else◌, is_some, nat_le, Ok}
use Rattle.std.proofs.lemmas.Bool.{cases_Bool}
use Rattle.std.proofs.lemmas.List.Sums.{sum_by-cons}
use Rattle.mc_packet.specs.declared.packet.Packet.{Packet}
use Rattle.mc_packet.specs.declared.choice.Choice.{Choice}
use Rattle.mc_packet.specs.declared.cache.Heads.{Heads}
use Rattle.mc_packet.specs.declared.walk.Ending.{Ending}
use Rattle.mc_journal.specs.declared.record.DemuxRecord.{DemuxRecord}
use Rattle.mc_packet.specs.Choices.{has}
use Rattle.mc_journal.specs.Films.{Film}
use Rattle.mc_queue.specs.Places.{weight_of as packet_weight, weights}
use Rattle.mc_queue.specs.Queue.{QueueState}
use Rattle.mc_range.specs.Range.{RangeState, count, queue_of, weight_in, IsRoomier, Roomier}
use Rattle.mc_cache.specs.Cache.{CacheState, count_in, count_of, ending_in, ranges_of, weight_of, weight_in as weight_in_range}
use Rattle.mc_cache.specs.Pruning.{ahead_in}
use Rattle.mc_cache.specs.Changing.{IsSameButRoom, RoomierIn}
use Rattle.mc_calls.specs.declared.answer.Reading.{Reading}
use Rattle.mc_calls.specs.declared.answer.Reading.TheVariants.{Gave, NotYet, End, Overfull, Fault, Wanting, Unselected}
use Rattle.mc_calls.specs.declared.waiting.Failure.{Failure}
use Rattle.mc_calls.specs.declared.waiting.Failure.TheVariants.{Failed, Starved}
use Rattle.mc_calls.specs.declared.waiting.Target.{Target}
use Rattle.mc_calls.specs.State.{DemuxState, next_in, end_in, forward_of}
use Rattle.mc_calls.specs.Demuxers.{IsDemux, IsPlaced}
use Rattle.mc_calls.specs.Keeping.{IsAsBefore, IsRoomy}
use Rattle.mc_calls.specs.Readings.{Gives, Reads, ReadsWith, ended_after, heads_after, past, past_packets, reading_by, reading_of, record_of}
use Rattle.mc_calls.specs.Film.{StandsFor}
use Rattle.mc_calls.specs.Records.{HasRoom}
use Rattle.mc_calls.proofs.Answering.{gives_keep, told_of}
use Rattle.mc_calls.proofs.Readers.{ahead_moved, placed_moved}

-- ---- the end

no_queue : (o : Option QueueState) (e : Option Ending) → is_some o ≡ false → (if is_some o then e else None) ≡ None
no_queue o e h = rw h refl

a_queue : (o : Option QueueState) (e : Option Ending) → is_some o ≡ true → e ≡ (if is_some o then e else None)
a_queue o e h = rw h refl

pub end_waits : (set : Choice) (heads : Heads) (waiting : Choice) (seeking : Option Target) (current : Option RangeState) (track : ℕ)
    → IsPlaced set heads waiting seeking current → has waiting track ≡ true → None ≡ end_in track current
end_waits set heads waiting (Some s) None track p w = refl
end_waits set heads waiting (Some s) (Some r) track p w = absurd (let e = p.0 in cc)
end_waits set heads waiting None None track p w = refl
end_waits set heads waiting None (Some r) track p w = sym (no_queue (queue_of track r.queues) r.ending (p.0.blank track w))

pub end_comes : (set : Choice) (heads : Heads) (waiting : Choice) (seeking : Option Target) (current : Option RangeState) (track : ℕ)
    → IsPlaced set heads waiting seeking current → has set track ≡ true → has waiting track ≡ false → ending_in current ≡ end_in track current
end_comes set heads waiting (Some s) None track p sel w = refl
end_comes set heads waiting (Some s) (Some r) track p sel w = absurd (let e = p.0 in cc)
end_comes set heads waiting None None track p sel w = refl
end_comes set heads waiting None (Some r) track p sel w = a_queue (queue_of track r.queues) r.ending (p.0.queued track sel w)

-- ---- the packet

no_packet : (o : Option Ending) (f : Option Failure) (forward max : ℕ) (p : Packet) → past_packets o f forward max ≡ Gave p → ⊥
no_packet (Some e) f forward max p h = cc
no_packet None (Some (Failed before after)) forward max p h = cc
no_packet None (Some Starved) forward max p h = cc
no_packet None None forward max p h = elim (cases_Bool (nat_le max forward)) [
  | inl y ↦ let g : Overfull forward max ≡ Gave p = rw y at h in cc
  | inr n ↦ let g : NotYet ≡ Gave p = rw n at h in cc
]

by_packet : (o : Option Packet) (e : Option Ending) (f : Option Failure) (forward max : ℕ) (p : Packet) → reading_by o e f forward max ≡ Gave p → o ≡ Some p
by_packet None e f forward max p h = absurd (no_packet e f forward max p h)
by_packet (Some q) e f forward max p h = let same : q ≡ p = cc in ap (λ (x : Packet). Some x) same

pub gave_from : (d : DemuxState) (track : ℕ) (p : Packet) → reading_of track d ≡ Gave p → (has d.set track ≡ true) × (next_in d.set d.heads track d.cache.current ≡ Some p)
gave_from d track p h = elim (cases_Bool (has d.set track)) [
  | inl y ↦
      let g : reading_by (next_in d.set d.heads track d.cache.current) (end_in track d.cache.current) d.failure (forward_of d) d.cache.limits.forward ≡ Gave p = rw y at h in
      (y, by_packet (next_in d.set d.heads track d.cache.current) (end_in track d.cache.current) d.failure (forward_of d) d.cache.limits.forward p g)
  | inr n ↦ absurd (let g : Unselected ≡ Gave p = rw n at h in cc)
]

pub read_placed : (d : DemuxState) (track : ℕ) (reading : Reading) → IsDemux d → reading ≡ reading_of track d
    → IsPlaced d.set (heads_after track reading d) d.waiting d.seeking d.cache.current
read_placed d track (Gave p) i e =
    let g = gave_from d track p (sym e) in placed_moved d.set d.heads track (past p.pos) d.waiting d.seeking d.cache.current g.0 i.placed
read_placed d track NotYet i e = i.placed
read_placed d track (End ending) i e = i.placed
read_placed d track (Overfull forward max) i e = i.placed
read_placed d track (Fault before after) i e = i.placed
read_placed d track Wanting i e = i.placed
read_placed d track Unselected i e = i.placed

pub read_ahead : (d : DemuxState) (track : ℕ) (reading : Reading) → reading ≡ reading_of track d
    → ahead_in (heads_after track reading d) d.cache.current ≤ forward_of d
read_ahead d track (Gave p) e = let g = gave_from d track p (sym e) in ahead_moved d.set d.heads track p d.cache.current g.1
read_ahead d track NotYet e = omega arith
read_ahead d track (End ending) e = omega arith
read_ahead d track (Overfull forward max) e = omega arith
read_ahead d track (Fault before after) e = omega arith
read_ahead d track Wanting e = omega arith
read_ahead d track Unselected e = omega arith

-- ---- room

many : (ps : List Packet) → length ps * 64 ≤ weights ps
many [] = omega arith
many (p ∷ ps) = let more = many ps in let all = sum_by-cons packet_weight p ps in omega arith

many_in : (o : Option QueueState) → count o * 64 ≤ weight_in o
many_in None = omega arith
many_in (Some q) = many q.packets

many_of : (rs : List RangeState) → count_of rs * 64 ≤ weight_of rs
many_of [] = omega arith
many_of (r ∷ rs) =
    let v = many_in r.queues.video in
    let a = many_in r.queues.audio in
    let s = many_in r.queues.sub in
    let more = many_of rs in
    let counts = sum_by-cons count_in r rs in
    let weighs = sum_by-cons weight_in_range r rs in
    omega arith

pub few_held : (d : DemuxState) → IsDemux d → count_of (ranges_of d.cache) < 2 ^ 60
few_held d i =
    let m = many_of (ranges_of d.cache) in
    let w = i.weight in
    let f = i.limits.forward in
    let b = i.limits.back in
    omega arith

roomier_self : (o : Option QueueState) → Roomier o o
roomier_self None = refl
roomier_self (Some q) = (refl, omega arith)

same_range : (r : RangeState) → IsRoomier r r
same_range r = record {
  set_is = refl;
  queues = record { video = roomier_self r.queues.video; audio = roomier_self r.queues.audio; sub = roomier_self r.queues.sub };
  mark_is = refl;
  ending_is = refl;
}

roomier_in : (o : Option RangeState) → RoomierIn o o
roomier_in None = refl
roomier_in (Some r) = same_range r

pub same_cache : (c : CacheState) → IsSameButRoom c c
same_cache c = record {
  limits_is = refl;
  current = roomier_in c.current;
  others_is = refl;
  places = omega arith;
  start_room = omega arith;
  join_room = omega arith;
}

pub roomy_before : (old new : DemuxState) → IsRoomy old new → IsAsBefore old new
roomy_before old new r =
    let e : new.cache ≡ old.cache = ap (λ (d : DemuxState). d.cache) r.changed in
    record {
      changed = r.changed ∙ ap (λ (c : CacheState). record old { cache = c; spare = new.spare }) (sym e);
      cache_is = subst (λ (c : CacheState). IsSameButRoom old.cache c) (sym e) (same_cache old.cache);
      roomier = r.roomier;
    }

pub before_self : (d : DemuxState) → IsAsBefore d d
before_self d = record { changed = refl; cache_is = same_cache d.cache; roomier = omega arith }

-- ---- an answer with its record

same_gives : (old new : DemuxState) (by n : ℕ) (own : DemuxRecord) (heads : Heads) (ended : Choice) → Gives by own heads ended (record old { spare = n }) new → Gives by own heads ended old new
same_gives old new by n own heads ended k = record { trims = k.trims; changed = k.changed; limits_are = k.limits_are; wrote = k.wrote }

gives_room : (old new : DemuxState) (by track n : ℕ) (own : DemuxRecord) (x : Reading)
    → Gives by own (heads_after track x (record old { spare = n })) (ended_after track x (record old { spare = n })) (record old { spare = n }) new
    → Gives by own (heads_after track x old) (ended_after track x old) old new
gives_room old new by track n own (Gave p) k = same_gives old new by n own (heads_after track (Gave p) old) old.ended k
gives_room old new by track n own NotYet k = same_gives old new by n own old.heads old.ended k
gives_room old new by track n own (End ending) k = same_gives old new by n own old.heads (ended_after track (End ending) old) k
gives_room old new by track n own (Overfull forward max) k = same_gives old new by n own old.heads old.ended k
gives_room old new by track n own (Fault before after) k = same_gives old new by n own old.heads old.ended k
gives_room old new by track n own Wanting k = same_gives old new by n own old.heads old.ended k
gives_room old new by track n own Unselected k = same_gives old new by n own old.heads old.ended k

pub roomy_gives : (old mid new : DemuxState) (by track : ℕ) (reading : Reading) (own : DemuxRecord) → IsRoomy old mid
    → Gives by own (heads_after track reading mid) (ended_after track reading mid) mid new → Gives by own (heads_after track reading old) (ended_after track reading old) old new
roomy_gives old mid new by track reading own r g =
    gives_room old new by track mid.spare own reading
    (subst (λ (x : DemuxState). Gives by own (heads_after track reading x) (ended_after track reading x) x new) r.changed g)

pub tell_keeps : (film : Film) (old new : DemuxState) (by track : ℕ) (reading : Reading) (own : DemuxRecord) → IsDemux old → reading ≡ reading_of track old
    → record_of by track reading ≡ Some own → Gives by own (heads_after track reading old) (ended_after track reading old) old new → StandsFor film old → StandsFor film new
tell_keeps film old new by track reading own i e r g s =
    let t = told_of film old by track own s i (subst (λ (x : Reading). record_of by track x ≡ Some own) e r) in
    let h = subst (λ (x : Reading). Gives by own (heads_after track x old) (ended_after track x old) old new) e g in
    gives_keep film old new by own (heads_after track (reading_of track old) old) (ended_after track (reading_of track old) old) i
    (read_placed old track (reading_of track old) i refl) s t h

-- ---- a read

pub read_told : (old new : DemuxState) (by track : ℕ) (reading : Reading) (own : DemuxRecord) → HasRoom old.journal → reading ≡ reading_of track old
    → Some own ≡ record_of by track reading → Gives by own (heads_after track reading old) (ended_after track reading old) old new → Reads by track old (Ok reading) new
read_told old new by track reading own h e r g =
    (h, e, subst (λ (o : Option DemuxRecord). ReadsWith by track reading o old new) r g)

pub read_untold : (old : DemuxState) (by track : ℕ) (reading : Reading) → HasRoom old.journal → reading ≡ reading_of track old
    → None ≡ record_of by track reading → Reads by track old (Ok reading) old
read_untold old by track reading h e r = (h, e, subst (λ (o : Option DemuxRecord). ReadsWith by track reading o old old) r refl)
