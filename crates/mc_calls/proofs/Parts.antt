-- A part of the film that is taken leaves a demuxer.
use Rattle.std.proofs.Common.{◌≡◌, ℕ, ◌+◌, ◌*◌, ◌^◌, ◌≤◌, ◌<◌, ◌==◌, Bool, true, false, Option, Some, None, List, [], ◌∷◌, ◌++◌, refl, ap, sym, subst, ◌∙◌, inl, inr, arith, length, length-append}
use Rattle.std.specs.Prelude.{if◌then◌else◌, IfSome, IsSomeAnd, sum_by}
use Rattle.std.specs.List.{AllByRecursion}
use Rattle.std.proofs.lemmas.Bool.{cases_Bool, eqb-true}
use Rattle.std.proofs.lemmas.List.Sums.{sum_by-cons, sum_by-append}
use Rattle.mc_packet.specs.declared.packet.Packet.{Packet}
use Rattle.mc_packet.specs.declared.packet.Pos.{Pos}
use Rattle.mc_packet.specs.declared.walk.Chunk.{Chunk}
use Rattle.mc_packet.specs.declared.choice.Choice.{Choice}
use Rattle.mc_journal.specs.declared.record.DemuxRecord.{DemuxRecord}
use Rattle.mc_journal.specs.declared.record.DemuxRecord.TheVariants.{Fed}
use Rattle.mc_calls.specs.Settling.{Settles}
use Rattle.mc_packet.specs.declared.cache.Limits.{Limits}
use Rattle.mc_packet.specs.Shape.{HasShape}
use Rattle.mc_packet.specs.Choices.{nothing}
use Rattle.mc_journal.specs.Films.{rank}
use Rattle.mc_journal.specs.Views.{from_place}
use Rattle.mc_queue.specs.Places.{is_from, weight_of as packet_weight, weights}
use Rattle.mc_queue.specs.Queue.{QueueState}
use Rattle.mc_range.specs.Range.{RangeState, IsRange, count, place_at, weight_in as queue_weight}
use Rattle.mc_range.specs.Growing.{AreApart, ExtendsIn, IsFed, news, of_track, taker}
use Rattle.mc_range.proofs.Owners.{all_apart}
use Rattle.mc_cache.specs.Cache.{CacheState, IsCache, count_in, count_of, in_front, mark_in, ranges_of, weight_in, weight_of}
use Rattle.mc_cache.specs.Changing as changing
use Rattle.mc_cache.specs.Pruning.{back_of}
use Rattle.mc_calls.specs.declared.job.Job.{Job}
use Rattle.mc_calls.specs.declared.job.Job.TheVariants.{SeekTo, Refresh, Resume, Read, Idle}
use Rattle.mc_calls.specs.State.{DemuxState, forward_of}
use Rattle.mc_calls.specs.Demuxers.{AreAwaited, AreLimits, IsDemux, KeepsJob, heaviest}
use Rattle.mc_calls.specs.Outcomes.{PartFits, is_at, took_in}
use Rattle.mc_calls.specs.Feeding.{TakesPart}
use Rattle.mc_calls.proofs.SameTracks.{SameTracks, fed_tracks, placed_same}
use Rattle.mc_calls.proofs.Awaited.{none_await}
use Rattle.mc_calls.proofs.Settled.{longer, settled}

-- ---- what is so where a part is awaited

pub record IsReading (d : DemuxState) : Type 0 where
  pub open_end : IsSomeAnd d.cache.current (λ r. r.ending ≡ None)
  pub none_waits : d.waiting ≡ nothing
  pub below : forward_of d < d.cache.limits.forward
  pub sound : d.failure ≡ None

only_ending : (P : RangeState → Type 0) (o : Option RangeState) → IsSomeAnd o (λ r. P r × (r.ending ≡ None)) → IsSomeAnd o (λ r. r.ending ≡ None)
only_ending P None h = h
only_ending P (Some r) h = h.1

by_job : (d : DemuxState) (chunk : Chunk) (job : Job) → KeepsJob d job → PartFits chunk job → IsReading d
by_job d chunk (SeekTo n set t dir) k f = absurd f
by_job d chunk (Refresh n added lead at) k f = absurd f
by_job d chunk (Resume n mark) k f = record { open_end = only_ending (λ r. r.mark ≡ mark) d.cache.current k.is.1; none_waits = k.is.2; below = k.is.3; sound = k.sound }
by_job d chunk (Read n) k f = record { open_end = k.is.1; none_waits = k.is.2; below = k.is.3; sound = k.sound }
by_job d chunk Idle k f = absurd f

by_kept : (d : DemuxState) (chunk : Chunk) (o : Option Job) → IfSome o (KeepsJob d) → IsSomeAnd o (PartFits chunk) → IsReading d
by_kept d chunk None k f = absurd f
by_kept d chunk (Some job) k f = by_job d chunk job k f

pub is_reading : (d : DemuxState) (chunk : Chunk) → IsDemux d → IsSomeAnd d.kept (PartFits chunk) → IsReading d
is_reading d chunk i f = by_kept d chunk d.kept i.kept f

-- ---- how much a part is

sum_of : (ps : List Packet) → weights ps ≡ sum_by (λ (p : Packet). length p.body) ps + 64 * length ps
sum_of [] = omega arith
sum_of (p ∷ ps) =
    let m = sum_of ps in
    let a = sum_by-cons packet_weight p ps in
    let b = sum_by-cons (λ (q : Packet). length q.body) p ps in
    omega arith

pub part_light : (c : Chunk) → HasShape c → weights c.packets ≤ heaviest
part_light c h =
    let e = sum_of c.packets in
    let f = h.few in
    let p = h.payloads in
    omega arith

pub fits : (d : DemuxState) (c : Chunk) → IsDemux d → HasShape c → weight_of (ranges_of d.cache) + weights c.packets < 2 ^ 64
fits d c i h =
    let l = part_light c h in
    let w = i.weight in
    let f = i.limits.forward in
    let b = i.limits.back in
    omega arith

-- ---- what queues take of it

-- the packet is of the queue's track
abbrev hits : Packet → Option QueueState → Bool
hits p None = false
hits p (Some q) = p.track == q.track

abbrev taken : (Packet → ℕ) → Option QueueState → List Packet → ℕ
taken f None ps = 0
taken f (Some q) ps = sum_by f (of_track q.track ps)

taken_one : (f : Packet → ℕ) (o : Option QueueState) (p : Packet) (ps : List Packet) → taken f o (p ∷ ps) ≡ (if hits p o then f p else 0) + taken f o ps
taken_one f None p ps = omega arith
taken_one f (Some q) p ps = elim (cases_Bool (p.track == q.track)) [
  | inl y ↦ rw y (sum_by-cons f p (of_track q.track ps))
  | inr n ↦ rw n (omega arith)
]

hits_one : (p : Packet) (a b : Option QueueState) → AreApart a b → hits p a ≡ true → hits p b ≡ false
hits_one p None b h e = absurd (cc)
hits_one p (Some x) None h e = refl
hits_one p (Some x) (Some y) h e = let s : p.track ≡ x.track = eqb-true p.track x.track e in rw s h

no_news : (f : Packet → ℕ) (a b c : Option QueueState) → taken f a [] + (taken f b [] + taken f c []) ≤ sum_by f []
no_news f None None None = omega arith
no_news f None None (Some r) = omega arith
no_news f None (Some q) None = omega arith
no_news f None (Some q) (Some r) = omega arith
no_news f (Some p) None None = omega arith
no_news f (Some p) None (Some r) = omega arith
no_news f (Some p) (Some q) None = omega arith
no_news f (Some p) (Some q) (Some r) = omega arith

-- one packet more is counted once
one_more : (n a b c s x y z t : ℕ) (u v w : Bool) → (u ≡ true → v ≡ false) → (u ≡ true → w ≡ false) → (v ≡ true → w ≡ false)
    → x ≡ (if u then n else 0) + a → y ≡ (if v then n else 0) + b → z ≡ (if w then n else 0) + c → t ≡ n + s → a + (b + c) ≤ s → x + (y + z) ≤ t
one_more n a b c s x y z t true true w g h l i j k m e = absurd (let f = g refl in cc)
one_more n a b c s x y z t true false true g h l i j k m e = absurd (let f = h refl in cc)
one_more n a b c s x y z t true false false g h l i j k m e = omega arith
one_more n a b c s x y z t false true true g h l i j k m e = absurd (let f = l refl in cc)
one_more n a b c s x y z t false true false g h l i j k m e = omega arith
one_more n a b c s x y z t false false true g h l i j k m e = omega arith
one_more n a b c s x y z t false false false g h l i j k m e = omega arith

taken_all : (f : Packet → ℕ) (a b c : Option QueueState) (ps : List Packet) → AreApart a b → AreApart a c → AreApart b c
    → taken f a ps + (taken f b ps + taken f c ps) ≤ sum_by f ps
taken_all f a b c [] x y z = no_news f a b c
taken_all f a b c (p ∷ ps) x y z =
    one_more (f p) (taken f a ps) (taken f b ps) (taken f c ps) (sum_by f ps) (taken f a (p ∷ ps)) (taken f b (p ∷ ps)) (taken f c (p ∷ ps)) (sum_by f (p ∷ ps))
    (hits p a) (hits p b) (hits p c) (hits_one p a b x) (hits_one p a c y) (hits_one p b c z) (taken_one f a p ps) (taken_one f b p ps) (taken_one f c p ps)
    (sum_by-cons f p ps) (taken_all f a b c ps x y z)

less_from : (f : Packet → ℕ) (n : ℕ) (ps : List Packet) → sum_by f (from_place n ps) ≤ sum_by f ps
less_from f n [] = omega arith
less_from f n (p ∷ ps) =
    let m = less_from f n ps in
    let a = sum_by-cons f p ps in
    let b = sum_by-cons f p (from_place n ps) in
    elim (cases_Bool (is_from n p)) [ inl y ↦ rw y (omega arith) | inr o ↦ rw o (omega arith) ]

-- ---- what they hold then

abbrev total : (Packet → ℕ) → Option QueueState → ℕ
total f None = 0
total f (Some q) = sum_by f q.packets

extended : (f : Packet → ℕ) (upto : Pos) (ps : List Packet) (o n : Option QueueState) → ExtendsIn upto ps o n → total f n ≤ total f o + taken f o ps
extended f upto ps None n e = rw e (omega arith)
extended f upto ps (Some q) None e = absurd e
extended f upto ps (Some q) (Some m) e =
    let is : sum_by f m.packets ≡ sum_by f (q.packets ++ news ps q) = ap (λ (x : QueueState). sum_by f x.packets) e.grown in
    let two = sum_by-append f q.packets (news ps q) in
    let less = less_from f (rank q.to) (of_track q.track ps) in
    omega arith

abbrev total_in : (Packet → ℕ) → RangeState → ℕ
total_in f r = total f r.queues.video + (total f r.queues.audio + total f r.queues.sub)

fed_total : (f : Packet → ℕ) (c : Chunk) (o n : RangeState) → IsRange o → IsFed c o n → total_in f n ≤ total_in f o + sum_by f c.packets
fed_total f c o n i e =
    let v = extended f (place_at c.to.pos) c.packets o.queues.video n.queues.video e.queues.video in
    let a = extended f (place_at c.to.pos) c.packets o.queues.audio n.queues.audio e.queues.audio in
    let s = extended f (place_at c.to.pos) c.packets o.queues.sub n.queues.sub e.queues.sub in
    let p = all_apart o i in
    let t = taken_all f o.queues.video o.queues.audio o.queues.sub c.packets p.video_audio p.video_sub p.audio_sub in
    omega arith

total_weight : (o : Option QueueState) → total packet_weight o ≡ queue_weight o
total_weight None = refl
total_weight (Some q) = refl

ones : (ps : List Packet) → sum_by (λ (p : Packet). 1) ps ≡ length ps
ones [] = omega arith
ones (p ∷ ps) = let m = ones ps in let a = sum_by-cons (λ (q : Packet). 1) p ps in omega arith

total_count : (o : Option QueueState) → total (λ (p : Packet). 1) o ≡ count o
total_count None = refl
total_count (Some q) = ones q.packets

fed_weight : (c : Chunk) (o n : RangeState) → IsRange o → IsFed c o n → weight_in n ≤ weight_in o + weights c.packets
fed_weight c o n i e =
    let t = fed_total packet_weight c o n i e in
    let v = total_weight o.queues.video in
    let a = total_weight o.queues.audio in
    let s = total_weight o.queues.sub in
    let x = total_weight n.queues.video in
    let y = total_weight n.queues.audio in
    let z = total_weight n.queues.sub in
    omega arith

fed_count : (c : Chunk) (o n : RangeState) → IsRange o → IsFed c o n → count_in n ≤ count_in o + length c.packets
fed_count c o n i e =
    let t = fed_total (λ (p : Packet). 1) c o n i e in
    let l = ones c.packets in
    let v = total_count o.queues.video in
    let a = total_count o.queues.audio in
    let s = total_count o.queues.sub in
    let x = total_count n.queues.video in
    let y = total_count n.queues.audio in
    let z = total_count n.queues.sub in
    omega arith

-- ---- the cache that was fed

pub record FedCache (chunk : Chunk) (old new : CacheState) : Type 0 where
  pub same : SameTracks old.current new.current
  pub heavier : weight_of (ranges_of new) ≤ weight_of (ranges_of old) + weights chunk.packets
  pub more : count_of (ranges_of new) ≤ count_of (ranges_of old) + length chunk.packets

fed_current : (chunk : Chunk) (o n : Option RangeState) (rs : List RangeState) → IfSome o IsRange → IsSomeAnd o (λ a. IsSomeAnd n (λ b. IsFed chunk a b))
    → SameTracks o n × (weight_of (in_front n rs) ≤ weight_of (in_front o rs) + weights chunk.packets) × (count_of (in_front n rs) ≤ count_of (in_front o rs) + length chunk.packets)
fed_current chunk None n rs i f = absurd f
fed_current chunk (Some a) None rs i f = absurd f
fed_current chunk (Some a) (Some b) rs i f =
    let w = fed_weight chunk a b i f in
    let c = fed_count chunk a b i f in
    (fed_tracks chunk a b f, omega arith, omega arith)

pub fed_cache : (chunk : Chunk) (old new : CacheState) → IsCache old → changing.Feeds chunk old new → FedCache chunk old new
fed_cache chunk old new i f =
    let e = f.others_is in
    let c = fed_current chunk old.current new.current old.others i.current f.current in
    record {
      same = c.0;
      heavier = subst (λ (rs : List RangeState). weight_of (in_front new.current rs) ≤ weight_of (ranges_of old) + weights chunk.packets) (sym e) c.1;
      more = subst (λ (rs : List RangeState). count_of (in_front new.current rs) ≤ count_of (ranges_of old) + length chunk.packets) (sym e) c.2;
    }

sets_current : (set : Choice) (chunk : Chunk) (o n : Option RangeState) (rs : List RangeState) → IsSomeAnd o (λ a. IsSomeAnd n (λ b. IsFed chunk a b))
    → AllByRecursion (λ r. r.set ≡ set) (in_front o rs) → AllByRecursion (λ r. r.set ≡ set) (in_front n rs)
sets_current set chunk None n rs f a = absurd f
sets_current set chunk (Some x) None rs f a = absurd f
sets_current set chunk (Some x) (Some y) rs f a = (f.set_is ∙ a.0, a.1)

pub fed_sets : (set : Choice) (chunk : Chunk) (old new : CacheState) → changing.Feeds chunk old new → AllByRecursion (λ r. r.set ≡ set) (ranges_of old) → AllByRecursion (λ r. r.set ≡ set) (ranges_of new)
fed_sets set chunk old new f a =
    subst (λ (rs : List RangeState). AllByRecursion (λ r. r.set ≡ set) (in_front new.current rs)) (sym f.others_is) (sets_current set chunk old.current new.current old.others f.current a)

-- ---- all of it

weigh_limits : (old : DemuxState) (fed c : CacheState) (chunk : Chunk) → IsReading old → IsDemux old → HasShape chunk → weight_of (ranges_of fed) ≤ weight_of (ranges_of old.cache) + weights chunk.packets
    → weight_of (ranges_of c) ≤ weight_of (ranges_of fed) → weight_of (ranges_of c) ≤ old.cache.limits.forward + old.cache.limits.back + heaviest
weigh_limits old fed c chunk r i h more less =
    let ahead = r.below in
    let behind = i.within in
    let light = part_light chunk h in
    omega arith

pub part_is : (old : DemuxState) (chunk : Chunk) (own : DemuxRecord) (fed c : CacheState) (j : List DemuxRecord) (spare : ℕ) (b : Bool) → IsDemux old → IsSomeAnd old.kept (PartFits chunk) → HasShape chunk
    → IsCache fed → changing.Feeds chunk old.cache fed → Settles 5 old.heads fed (old.journal ++ own ∷ []) c j → IsCache c → back_of old.heads c ≤ c.limits.back
    → IsDemux (record old { cache = c; number = old.number + 1; kept = None; fed = b; journal = j; spare = spare })
part_is old chunk own fed c j spare b i k h ifed f s ic within =
    let r = is_reading old chunk i k in
    let g = fed_cache chunk old.cache fed i.cache f in
    let d = settled 5 old.set old.heads old.waiting old.seeking fed (old.journal ++ own ∷ []) c j ifed s in
    let lim : c.limits ≡ old.cache.limits = d.limits_are ∙ f.rest.limits_is in
    let n = longer 5 (old.journal ++ own ∷ []) j d.wrote in
    let l = length-append old.journal (own ∷ []) in
    let m = i.numbered in
    let heavy = weigh_limits old fed c chunk r i h g.heavier d.lighter in
    record {
      cache = ic;
      limits = subst (λ (x : Limits). AreLimits x) (sym lim) i.limits;
      distinct = i.distinct;
      known = i.known;
      sets = d.sets (fed_sets old.set chunk old.cache fed f i.sets);
      placed = d.placed (placed_same old.set old.heads old.waiting old.seeking old.cache.current fed.current g.same i.placed);
      waits = subst (λ (w : Choice). AreAwaited old.set w c.others) (sym r.none_waits) (none_await old.set c.others);
      numbered = omega arith;
      kept = tt;
      within = within;
      weight = subst (λ (x : Limits). weight_of (ranges_of c) ≤ x.forward + x.back + heaviest) (sym lim) heavy;
    }

-- ---- how it is said

took_is : (chunk : Chunk) (took : Option ℕ) (o : Option RangeState) → mark_in o ≡ Some chunk.from → IfSome o (λ r. took ≡ taker chunk.packets r.queues) → took ≡ took_in chunk o
took_is chunk took None m t = absurd (cc)
took_is chunk took (Some r) m t = t

takes_part : (v : DemuxState) (chunk : Chunk) (took : Option ℕ) (fed c : CacheState) (j : List DemuxRecord) (spare : ℕ) (b : Bool) → IsCache fed → changing.Feeds chunk v.cache fed
    → Settles 5 v.heads fed (v.journal ++ Fed 5 chunk.from chunk.to took chunk.ending ∷ []) c j → took ≡ took_in chunk v.cache.current → b ≡ is_at chunk.to (mark_in c.current)
    → TakesPart chunk v (record v { cache = c; number = v.number + 1; kept = None; fed = b; journal = j; spare = spare })
takes_part v chunk took fed c j spare b i f s t e = record {
  fed = fed;
  is_cache = i;
  feeds = f;
  settles = subst (λ (x : Option ℕ). Settles 5 v.heads fed (v.journal ++ Fed 5 chunk.from chunk.to x chunk.ending ∷ []) c j) t s;
  changed = ap (λ (x : Bool). let d : DemuxState = record v { cache = c; number = v.number + 1; kept = None; fed = x; journal = j; spare = spare } in d) e;
}

pub takes_now : (v now : DemuxState) (chunk : Chunk) (took : Option ℕ) (fed c : CacheState) (j : List DemuxRecord) (spare : ℕ) (b : Bool) → v ≡ now → mark_in now.cache.current ≡ Some chunk.from
    → IsCache fed → changing.Feeds chunk v.cache fed
    → Settles 5 v.heads fed (v.journal ++ Fed 5 chunk.from chunk.to took chunk.ending ∷ []) c j → IfSome v.cache.current (λ r. took ≡ taker chunk.packets r.queues) → b ≡ is_at chunk.to (mark_in c.current)
    → TakesPart chunk now (record v { cache = c; number = v.number + 1; kept = None; fed = b; journal = j; spare = spare })
takes_now v now chunk took fed c j spare b n m i f s t e =
    let mark : mark_in v.cache.current ≡ Some chunk.from = subst (λ (d : DemuxState). mark_in d.cache.current ≡ Some chunk.from) (sym n) m in
    subst (λ (d : DemuxState). TakesPart chunk d (record v { cache = c; number = v.number + 1; kept = None; fed = b; journal = j; spare = spare })) n
    (takes_part v chunk took fed c j spare b i f s (took_is chunk took v.cache.current mark t) e)
