-- What a loop has copied so far, and what is left.
use Rattle.std.proofs.Common.{get_or, ◌≡◌, ℕ, ◌+◌, ◌<◌, true, Option, Some, None, List, [], ◌∷◌, ◌++◌, append_assoc, append-nil, refl, ap, sym, ◌∙◌, arith, length}
use Rattle.std.specs.Prelude.{nat_le, take, drop}
use Rattle.std.specs.List.{prefix_len}
use Rattle.std.proofs.lemmas.Bool.Decides.{nat_tests}
use Rattle.std.proofs.lemmas.List.{drop_more}
use Rattle.mc_packet.specs.declared.packet.Packet.{Packet}
use Rattle.mc_packet.specs.declared.packet.Pos.{Pos}
use Rattle.mc_journal.specs.Films.{rank}
use Rattle.mc_journal.specs.Views.{from_place}
use Rattle.mc_queue.specs.Queue.{QueueState}
use Rattle.mc_range.specs.Range.{RangeState, queue_of}
use Rattle.mc_range.specs.Serving.{packets_in}
use Rattle.mc_cache.specs.Cache.{CacheState, IsCache, first_in}
use Rattle.mc_calls.specs.Cached.{held_in, is_earlier, merged}
use Rattle.mc_calls.specs.Readings.{past}
use Rattle.mc_calls.specs.State.{ahead}
use Rattle.mc_calls.specs.Wanting.{held_from}
use Rattle.mc_calls.proofs.Giving.{rank-past}
use Rattle.mc_calls.proofs.Nearness.{held_none, held_step}

-- ---- a track's queue

abbrev start : Pos
start = record { block = 0; lane = 0 }

all_from : (ps : List Packet) → from_place 0 ps ≡ ps
all_from [] = refl
all_from (p ∷ ps) = let y : nat_le 0 (rank p.pos) ≡ true = grind (arith, nat_tests) in rw y (ap (λ qs. p ∷ qs) (all_from ps))

rank_zero : rank start ≡ 0
unfolding rank
rank_zero = refl

queue_all : (o : Option QueueState) → ahead o (Some start) ≡ packets_in o
queue_all None = refl
queue_all (Some q) = ap (λ n. from_place n q.packets) rank_zero ∙ all_from q.packets

by_start : (o : Option RangeState) (k : ℕ) → held_from k start o ≡ held_in k o
by_start None k = refl
by_start (Some r) k = queue_all (queue_of k r.queues)

pub copies_begin : (c : CacheState) (k : ℕ) (ps : List Packet) → ps ≡ [] → ps ++ held_from k start c.current ≡ held_in k c.current
copies_begin c k ps e = rw e (by_start c.current k)

pub copies_one : (c : CacheState) (k : ℕ) (at next : Pos) (p q : Packet) (ps new all : List Packet) → IsCache c → Some p ≡ first_in k at c.current → next ≡ past p.pos
    → q ≡ p → new ≡ ps ++ q ∷ [] → ps ++ held_from k at c.current ≡ all → new ++ held_from k next c.current ≡ all
copies_one c k at next p q ps new all i e n copied pushed so =
    ap (λ (xs : List Packet). xs ++ held_from k next c.current) (pushed ∙ ap (λ (x : Packet). ps ++ x ∷ []) copied)
    ∙ append_assoc ps (p ∷ []) (held_from k next c.current) ∙ ap (λ qs. ps ++ qs) (sym (held_step c k at next p i (sym e) (ap rank n ∙ rank-past p.pos))) ∙ so

by_none : (ps qs all : List Packet) → qs ≡ [] → ps ++ qs ≡ all → ps ≡ all
by_none ps qs all z so = sym (append-nil ps) ∙ ap (λ xs. ps ++ xs) (sym z) ∙ so

pub copies_all : (c : CacheState) (k : ℕ) (at : Pos) (ps all : List Packet) → None ≡ first_in k at c.current → ps ++ held_from k at c.current ≡ all → ps ≡ all
copies_all c k at ps all e so = by_none ps (held_from k at c.current) all (held_none k at c.current (sym e)) so

-- ---- two lists

-- behind those of the other list that come before it a packet is taken
merges_one : (all rest ps : List Packet) (p : Packet) (whole : List Packet) → all ++ merged is_earlier (p ∷ ps) rest ≡ whole
    → ((all ++ take (prefix_len (λ q. is_earlier q p) rest) rest) ++ p ∷ []) ++ merged is_earlier ps (drop (prefix_len (λ q. is_earlier q p) rest) rest) ≡ whole
merges_one all rest ps p whole so =
    let n = prefix_len (λ q. is_earlier q p) rest in
    let left = merged is_earlier ps (drop n rest) in
    append_assoc (all ++ take n rest) (p ∷ []) left ∙ append_assoc all (take n rest) (p ∷ left) ∙ so

pub merges_step : (ours rest front back : List Packet) (i n : ℕ) (p q : Packet) (all mid new whole : List Packet) → i < length ours → p ≡ get_or ours i p
    → n ≡ prefix_len (λ x. is_earlier x p) rest → front ≡ take n rest → back ≡ drop n rest → mid ≡ all ++ front → q ≡ p → new ≡ mid ++ q ∷ []
    → all ++ merged is_earlier (drop i ours) rest ≡ whole → new ++ merged is_earlier (drop (i + 1) ours) back ≡ whole
merges_step ours rest front back i n p q all mid new whole l item count first last put copied pushed so =
    let ps = drop (i + 1) ours in
    let m = prefix_len (λ x. is_earlier x p) rest in
    let split : drop i ours ≡ p ∷ ps = drop_more ours i p l ∙ ap (λ (x : Packet). x ∷ ps) (sym item) in
    let before : all ++ merged is_earlier (p ∷ ps) rest ≡ whole = ap (λ (xs : List Packet). all ++ merged is_earlier xs rest) (sym split) ∙ so in
    let taken : mid ≡ all ++ take m rest = put ∙ ap (λ (xs : List Packet). all ++ xs) (first ∙ ap (λ k. take k rest) count) in
    let left : back ≡ drop m rest = last ∙ ap (λ k. drop k rest) count in
    let grown : new ≡ (all ++ take m rest) ++ p ∷ [] = pushed ∙ ap (λ (x : Packet). mid ++ x ∷ []) copied ∙ ap (λ (xs : List Packet). xs ++ p ∷ []) taken in
    ap (λ (xs : List Packet). xs ++ merged is_earlier ps back) grown ∙ ap (λ (xs : List Packet). ((all ++ take m rest) ++ p ∷ []) ++ merged is_earlier ps xs) left
    ∙ merges_one all rest ps p whole before
