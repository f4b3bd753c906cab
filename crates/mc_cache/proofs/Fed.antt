-- A range that is fed weighs at most so much more as the part's packets.
use Rattle.std.proofs.Common.{◌≡◌, ℕ, ◌+◌, ◌≤◌, ◌==◌, Bool, true, false, List, [], ◌∷◌, Option, Some, None, refl, ap, ◌∙◌, arith, inl, inr}
use Rattle.std.specs.Prelude.{Result, Ok, Err, OnOk, OnErr}
use Rattle.std.specs.List.{filter}
use Rattle.std.specs.declared.alloc.AllocError.{AllocError}
use Rattle.std.proofs.lemmas.Bool.{cases_Bool, eqb-true}
use Rattle.std.proofs.lemmas.List.Sums.{sum_by-cons}
use Rattle.mc_packet.specs.declared.packet.Packet.{Packet}
use Rattle.mc_packet.specs.declared.packet.Pos.{Pos}
use Rattle.mc_packet.specs.declared.walk.Chunk.{Chunk}
use Rattle.mc_journal.specs.Films.{rank}
use Rattle.mc_queue.specs.Places.{weight_of as weight_of_packet, weights}
use Rattle.mc_queue.specs.Queue.{QueueState}
use Rattle.mc_queue.proofs.Rising.{less_weight_from, weights_of_two}
use Rattle.mc_range.specs.Range.{RangeState, IsRange, place_at, weight_in as weight_of_queue}
use Rattle.mc_range.specs.Growing.{AreApart, ExtendsIn, IsFed, lacks_room, news, of_track}
use Rattle.mc_range.proofs.Owners.{all_apart}
use Rattle.mc_cache.specs.Cache.{weight_in}

-- packets that pass one of three tests weigh no more than all
three : (f g h : Packet → Bool) → ((p : Packet) → f p ≡ true → g p ≡ false) → ((p : Packet) → f p ≡ true → h p ≡ false) → ((p : Packet) → g p ≡ true → h p ≡ false)
    → (ps : List Packet) → weights (filter f ps) + (weights (filter g ps) + weights (filter h ps)) ≤ weights ps
three f g h fg fh gh [] = omega arith
three f g h fg fh gh (p ∷ ps) =
    let more = three f g h fg fh gh ps in
    let all = sum_by-cons weight_of_packet p ps in
    elim (cases_Bool (f p)) [
      | inl y ↦
          let b = fg p y in
          let c = fh p y in
          let e = sum_by-cons weight_of_packet p (filter f ps) in
          rw (y, b, c) (omega arith)
      | inr n ↦ elim (cases_Bool (g p)) [
        | inl y ↦
            let c = gh p y in
            let e = sum_by-cons weight_of_packet p (filter g ps) in
            rw (n, y, c) (omega arith)
        | inr m ↦ elim (cases_Bool (h p)) [
          | inl y ↦ let e = sum_by-cons weight_of_packet p (filter h ps) in rw (n, m, y) (omega arith)
          | inr k ↦ rw (n, m, k) (omega arith)
        ]
      ]
    ]

abbrev test_of : Option QueueState → Packet → Bool
test_of None p = false
test_of (Some q) p = p.track == q.track

excludes : (a b : Option QueueState) → AreApart a b → (p : Packet) → test_of a p ≡ true → test_of b p ≡ false
excludes None b o p y = absurd (cc)
excludes (Some a) None o p y = refl
excludes (Some a) (Some b) o p y = let e = eqb-true p.track a.track y in rw e o

grown : (upto : Pos) (ps : List Packet) (old new : Option QueueState) → ExtendsIn upto ps old new → weight_of_queue new ≤ weight_of_queue old + weights (filter (test_of old) ps)
grown upto ps None new e = rw e (omega arith)
grown upto ps (Some o) None e = absurd e
grown upto ps (Some o) (Some n) e =
    let w : weights n.packets ≡ weights o.packets + weights (news ps o) = ap (λ (q : QueueState). weights q.packets) e.grown ∙ weights_of_two o.packets (news ps o) in
    let l : weights (news ps o) ≤ weights (of_track o.track ps) = less_weight_from (rank o.to) (of_track o.track ps) in
    omega arith

pub fed_weighs : (chunk : Chunk) (old new : RangeState) → IsRange old → IsFed chunk old new → weight_in new ≤ weight_in old + weights chunk.packets
fed_weighs chunk old new i f =
    let a = all_apart old i in
    let v = grown (place_at chunk.to.pos) chunk.packets old.queues.video new.queues.video f.queues.video in
    let u = grown (place_at chunk.to.pos) chunk.packets old.queues.audio new.queues.audio f.queues.audio in
    let s = grown (place_at chunk.to.pos) chunk.packets old.queues.sub new.queues.sub f.queues.sub in
    let all = three (test_of old.queues.video) (test_of old.queues.audio) (test_of old.queues.sub)
    (excludes old.queues.video old.queues.audio a.video_audio) (excludes old.queues.video old.queues.sub a.video_sub) (excludes old.queues.audio old.queues.sub a.audio_sub) chunk.packets in
    omega arith

pub fed_or_same : (chunk : Chunk) (old new : RangeState) (result : Result (Option ℕ) AllocError) → IsRange old → OnOk result (IsFed chunk old new) → OnErr result ((new ≡ old) × (lacks_room chunk.packets old.queues ≡ true))
    → weight_in new ≤ weight_in old + weights chunk.packets
fed_or_same chunk old new (Ok x) i o e = fed_weighs chunk old new i o
fed_or_same chunk old new (Err x) i o e = let z : weight_in new ≡ weight_in old = ap (λ r. weight_in r) e.0 in omega arith
