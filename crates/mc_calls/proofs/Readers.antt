-- An answer with a record leaves a demuxer, and one that stands for the film.
use Rattle.std.proofs.Common.{◌≡◌, ℕ, ◌+◌, ◌≤◌, ◌<◌, true, Option, Some, None, List, [], ◌∷◌, ◌++◌, ap, sym, subst, ◌∙◌, inl, inr, arith, ◌==◌, length, length-append}
use Rattle.std.specs.Prelude.{is_some, IfSome, IsSomeAnd}
use Rattle.std.specs.List.{find}
use Rattle.std.proofs.lemmas.Bool.{cases_Bool, eqb-true}
use Rattle.std.proofs.lemmas.Bool.Decides.{nat_tests}
use Rattle.mc_packet.specs.declared.packet.Packet.{Packet}
use Rattle.mc_packet.specs.declared.packet.Pos.{Pos}
use Rattle.mc_packet.specs.declared.choice.Choice.{Choice}
use Rattle.mc_packet.specs.declared.cache.Heads.{Heads}
use Rattle.mc_packet.specs.declared.cache.Limits.{Limits}
use Rattle.mc_packet.specs.declared.walk.Ending.{Ending}
use Rattle.mc_packet.specs.declared.walk.Mark.{Mark}
use Rattle.mc_journal.specs.declared.record.DemuxRecord.{DemuxRecord}
use Rattle.mc_packet.specs.Choices.{is_track, has}
use Rattle.mc_journal.specs.Films.{rank}
use Rattle.mc_queue.specs.Places.{is_from, weights}
use Rattle.mc_journal.specs.Views.{from_place}
use Rattle.mc_queue.specs.Queue.{QueueState}
use Rattle.mc_queue.proofs.Rests.{from_again}
use Rattle.mc_queue.proofs.Rising.{less_weight_from}
use Rattle.mc_range.specs.Range.{RangeState, queue_of}
use Rattle.mc_range.specs.Cutting.{weight_ahead}
use Rattle.mc_cache.specs.Cache.{CacheState, IsCache, ending_in, mark_in, ranges_of, weight_of}
use Rattle.mc_cache.specs.Pruning.{ahead_in, back_of}
use Rattle.mc_calls.specs.declared.job.Job.{Job}
use Rattle.mc_calls.specs.declared.job.Job.TheVariants.{SeekTo, Refresh, Resume, Read, Idle}
use Rattle.mc_calls.specs.declared.waiting.Target.{Target}
use Rattle.mc_calls.specs.State.{DemuxState, first_at, head_of, next_in, forward_of}
use Rattle.mc_calls.specs.Demuxers.{AreLimits, IsDemux, IsKept, IsPlaced, KeepsJob, HaveHeads, heaviest}
use Rattle.mc_calls.specs.Readings.{past, with_head}
use Rattle.mc_calls.specs.Trimming.{Trims}
use Rattle.mc_calls.proofs.Giving.{rank-past, moved_same, moved_other}
use Rattle.mc_calls.proofs.Awaited.{less_await}
use Rattle.mc_calls.proofs.Trimmed.{trimmed}

-- ---- it is a demuxer

same_current : (o n : Option RangeState) (P : Mark → Option Ending → Type 0) → mark_in n ≡ mark_in o → ending_in n ≡ ending_in o
    → IsSomeAnd o (λ r. P r.mark r.ending) → IsSomeAnd n (λ r. P r.mark r.ending)
same_current None n P m e h = absurd h
same_current (Some r) None P m e h = absurd (cc)
same_current (Some r) (Some q) P m e h =
    let same : q.mark ≡ r.mark = some q.mark r.mark m in
    subst (λ (x : Option Ending). P q.mark x) (sym e) (subst (λ (x : Mark). P x r.ending) (sym same) h)
  where
    some : (a b : Mark) → Some a ≡ Some b → a ≡ b
    some a b e = cc

still_kept : (old : DemuxState) (heads : Heads) (ended : Choice) (c : CacheState) (j : List DemuxRecord) (spare : ℕ) (job : Job)
    → mark_in c.current ≡ mark_in old.cache.current → ending_in c.current ≡ ending_in old.cache.current
    → ahead_in heads c.current ≤ forward_of old → c.limits ≡ old.cache.limits
    → IsKept old job → IsKept (record old { cache = c; heads = heads; ended = ended; journal = j; spare = spare }) job
still_kept old heads ended c j spare (SeekTo n set t dir) m e a l k = k
still_kept old heads ended c j spare (Refresh n added lead at) m e a l k = k
still_kept old heads ended c j spare (Resume n mark) m e a l k =
    let less = k.3 in
    let below : ahead_in heads c.current < old.cache.limits.forward = omega arith in
    (k.0, same_current old.cache.current c.current (λ x y. (x ≡ mark) × (y ≡ None)) m e k.1, k.2, subst (λ (x : Limits). ahead_in heads c.current < x.forward) (sym l) below)
still_kept old heads ended c j spare (Read n) m e a l k =
    let less = k.3 in
    let below : ahead_in heads c.current < old.cache.limits.forward = omega arith in
    (k.0, same_current old.cache.current c.current (λ x y. y ≡ None) m e k.1, k.2, subst (λ (x : Limits). ahead_in heads c.current < x.forward) (sym l) below)
still_kept old heads ended c j spare Idle m e a l k = k

keeps_job : (old : DemuxState) (heads : Heads) (ended : Choice) (c : CacheState) (j : List DemuxRecord) (spare : ℕ) (o : Option Job)
    → mark_in c.current ≡ mark_in old.cache.current → ending_in c.current ≡ ending_in old.cache.current
    → ahead_in heads c.current ≤ forward_of old → c.limits ≡ old.cache.limits → 2 ≤ spare
    → IfSome o (KeepsJob old) → IfSome o (KeepsJob (record old { cache = c; heads = heads; ended = ended; journal = j; spare = spare }))
keeps_job old heads ended c j spare None m e a l r k = tt
keeps_job old heads ended c j spare (Some job) m e a l r k =
    record { is = still_kept old heads ended c j spare job m e a l k.is; some = k.some; sound = k.sound; room = r }

longer : (xs j drops : List DemuxRecord) (x : DemuxRecord) → j ≡ (xs ++ x ∷ []) ++ drops → length xs ≤ length j
longer xs j drops x e =
    let one = ap (λ (l : List DemuxRecord). length l) e in
    let two = length-append (xs ++ x ∷ []) drops in
    let three = length-append xs (x ∷ []) in
    omega arith

trans_le : (a b d : ℕ) → a ≤ b → b ≤ d → a ≤ d
trans_le a b d l h = omega arith

weight_all : (old : DemuxState) (c : CacheState) → c.limits ≡ old.cache.limits → weight_of (ranges_of c) ≤ weight_of (ranges_of old.cache)
    → weight_of (ranges_of old.cache) ≤ old.cache.limits.forward + old.cache.limits.back + heaviest → weight_of (ranges_of c) ≤ c.limits.forward + c.limits.back + heaviest
weight_all old c e l h =
    subst (λ (x : Limits). weight_of (ranges_of c) ≤ x.forward + x.back + heaviest) (sym e)
    (trans_le (weight_of (ranges_of c)) (weight_of (ranges_of old.cache)) (old.cache.limits.forward + old.cache.limits.back + heaviest) l h)

pub gives_is : (old : DemuxState) (by : ℕ) (own : DemuxRecord) (heads : Heads) (ended : Choice) (c : CacheState) (j : List DemuxRecord) (spare : ℕ) → IsDemux old
    → IsPlaced old.set heads old.waiting old.seeking old.cache.current → ahead_in heads old.cache.current ≤ forward_of old
    → Trims by heads old.cache (old.journal ++ own ∷ []) c j → IsCache c → back_of heads c ≤ c.limits.back → 2 ≤ spare
    → IsDemux (record old { cache = c; heads = heads; ended = ended; journal = j; spare = spare })
gives_is old by own heads ended c j spare i p a t ic w r =
    let d = trimmed by old.set heads old.waiting old.seeking old.cache (old.journal ++ own ∷ []) c j t in
    let lim = d.limits_are in
    let ahead = d.ahead in
    let less : ahead_in heads c.current ≤ forward_of old = omega arith in
    let light = d.lighter in
    let n = longer old.journal j d.drops own d.grows in
    let m = i.numbered in
    let heavy = i.weight in
    let all = weight_all old c lim light heavy in
    record {
      cache = ic;
      limits = subst (λ (l : Limits). AreLimits l) (sym lim) i.limits;
      distinct = i.distinct;
      known = i.known;
      sets = d.sets i.sets;
      placed = d.placed p;
      waits = less_await old.set old.waiting old.cache.others c.others i.waits d.alone;
      numbered = omega arith;
      kept = keeps_job old heads ended c j spare old.kept d.mark_is d.ending_is less lim r i.kept;
      within = w;
      weight = all;
    }

-- ---- the head past a packet

place_moved : (set : Choice) (heads : Heads) (track : ℕ) (place : Pos) (r : RangeState) → has set track ≡ true → HaveHeads set heads r → HaveHeads set (with_head set track place heads) r
place_moved set heads track place r sel h = λ k e. elim (cases_Bool (track == k)) [
  | inl y ↦
      let same : track ≡ k = eqb-true track k y in
      let here : head_of set (with_head set track place heads) k ≡ Some place = subst (λ i. head_of set (with_head set track place heads) i ≡ Some place) same (moved_same set heads track place sel) in
      ap (λ (o : Option Pos). is_some o) here
  | inr n ↦ ap (λ (o : Option Pos). is_some o) (moved_other set heads track k place n) ∙ h k e
]

pub placed_moved : (set : Choice) (heads : Heads) (track : ℕ) (place : Pos) (waiting : Choice) (o : Option Target) (current : Option RangeState) → has set track ≡ true
    → IsPlaced set heads waiting o current → IsPlaced set (with_head set track place heads) waiting o current
placed_moved set heads track place waiting (Some s) current sel p = p
placed_moved set heads track place waiting None None sel p = p
placed_moved set heads track place waiting None (Some r) sel p = (p.0, place_moved set heads track place r sel p.1)

later_lighter : (a b : Pos) (q : Option QueueState) → rank a ≤ rank b → weight_ahead (Some b) q ≤ weight_ahead (Some a) q
later_lighter a b None l = omega arith
later_lighter a b (Some q) l =
    let e = ap weights (from_again (rank a) (rank b) q.packets l) in
    let m = less_weight_from (rank b) (from_place (rank a) q.packets) in
    omega arith

found_from : (n : ℕ) (ps : List Packet) (p : Packet) → find (is_from n) ps ≡ Some p → n ≤ rank p.pos
found_from n [] p e = absurd (cc)
found_from n (x ∷ ps) p e = elim (cases_Bool (is_from n x)) [
  | inl y ↦ let same : Some x ≡ Some p = rw y at e in let is : x ≡ p = cc in let l : n ≤ rank x.pos = grind (arith, nat_tests) in subst (λ (z : Packet). n ≤ rank z.pos) is l
  | inr o ↦ found_from n ps p (rw o at e)
]

head_found : (o : Option QueueState) (hd : Option Pos) (p : Packet) → first_at o hd ≡ Some p → IsSomeAnd hd (λ h. rank h ≤ rank p.pos)
head_found None hd p e = absurd (cc)
head_found (Some q) None p e = absurd (cc)
head_found (Some q) (Some h) p e = found_from (rank h) q.packets p e

kind_lighter : (hd : Option Pos) (p : Packet) (q : Option QueueState) → IsSomeAnd hd (λ h. rank h ≤ rank p.pos) → weight_ahead (Some (past p.pos)) q ≤ weight_ahead hd q
kind_lighter None p q h = absurd h
kind_lighter (Some h) p q l = let e = rank-past p.pos in later_lighter h (past p.pos) q (omega arith)

pub ahead_moved : (set : Choice) (heads : Heads) (track : ℕ) (p : Packet) (current : Option RangeState) → next_in set heads track current ≡ Some p
    → ahead_in (with_head set track (past p.pos) heads) current ≤ ahead_in heads current
ahead_moved set heads track p None e = absurd (cc)
ahead_moved set heads track p (Some r) e =
    let found = head_found (queue_of track r.queues) (head_of set heads track) p e in
    elim (cases_Bool (is_track set.video track)) [
      | inl v ↦ let l = kind_lighter heads.video p r.queues.video (rw v at found) in rw v (omega arith)
      | inr nv ↦ elim (cases_Bool (is_track set.audio track)) [
        | inl a ↦ let l = kind_lighter heads.audio p r.queues.audio (rw (nv, a) at found) in rw (nv, a) (omega arith)
        | inr na ↦ elim (cases_Bool (is_track set.sub track)) [
          | inl b ↦ let l = kind_lighter heads.sub p r.queues.sub (rw (nv, na, b) at found) in rw (nv, na, b) (omega arith)
          | inr nb ↦ rw (nv, na, nb) (omega arith)
        ]
      ]
    ]
