-- What the outcome of a job rests on once room was made for it, and what is said of it then.
use Rattle.std.proofs.Common.{◌≡◌, ℕ, false, ◌+◌, Option, Some, None, List, [], ◌∷◌, ◌++◌, refl, ap, sym, subst, ◌∙◌, append_assoc, arith}
use Rattle.std.specs.Prelude.{IfSome, IsSomeAnd, reverse}
use Rattle.mc_packet.specs.declared.packet.Packet.{Packet}
use Rattle.mc_packet.specs.declared.cache.Limits.{Limits}
use Rattle.mc_packet.specs.declared.walk.Chunk.{Chunk}
use Rattle.mc_packet.specs.declared.walk.Mark.{Mark}
use Rattle.mc_journal.specs.declared.record.DemuxRecord.{DemuxRecord}
use Rattle.mc_journal.specs.declared.record.DemuxRecord.TheVariants.{Fed, Found}
use Rattle.mc_packet.specs.Choices.{or_else, nothing}
use Rattle.mc_journal.specs.Films.{Film}
use Rattle.mc_queue.specs.Queue.{QueueState}
use Rattle.mc_range.specs.Range.{RangeState, Roomier}
use Rattle.mc_range.specs.Growing.{takes}
use Rattle.mc_cache.specs.Cache.{CacheState, mark_in}
use Rattle.mc_cache.specs.Changing.{IsSameButRoom, RoomierIn}
use Rattle.mc_calls.specs.declared.job.Job.{Job}
use Rattle.mc_calls.specs.State.{DemuxState}
use Rattle.mc_calls.specs.Demuxers.{IsDemux}
use Rattle.mc_calls.specs.Film.{AreStartsOf, Fits, IsPartOf, StandsFor}
use Rattle.mc_calls.specs.Feeding.{PutsPart, TakesPart}
use Rattle.mc_calls.specs.Finding.{PutsStarts, TakesStarts}
use Rattle.mc_calls.specs.Keeping.{IsAsBefore, IsRoomy}
use Rattle.mc_calls.specs.Outcomes.{PartFits, StartsFit, heads_at, is_at, took_in}
use Rattle.mc_calls.specs.Records.{WroteAll}
use Rattle.mc_calls.proofs.FilmParts.{part_keeps}
use Rattle.mc_calls.proofs.FilmRoomy.{roomy_fits}
use Rattle.mc_calls.proofs.Roomy.{mark_roomier}
use Rattle.mc_calls.proofs.Settled.{WritesExtras, extras_both, settled}
use Rattle.mc_calls.proofs.Beginning.{begun}
use Rattle.mc_calls.proofs.FilmBegins.{starts_keep}
use Rattle.mc_calls.proofs.Recalled.{roomy_tied}
use Rattle.mc_cache.proofs.Spare.{roomier_on}
use Rattle.mc_packet.specs.declared.choice.Starts.{Starts}

-- ---- more room

pub same_kept : (P : Job → Type 0) (old mid : DemuxState) → IsAsBefore old mid → IsSomeAnd old.kept P → IsSomeAnd mid.kept P
same_kept P old mid m k = subst (λ (d : DemuxState). IsSomeAnd d.kept P) (sym m.changed) k

pub same_mark : (old mid : DemuxState) (mark : Mark) → IsAsBefore old mid → mark_in old.cache.current ≡ Some mark → mark_in mid.cache.current ≡ Some mark
same_mark old mid mark m e = mark_roomier old.cache.current mid.cache.current m.cache_is.current ∙ e

pub roomy_stands : (film : Film) (old mid : DemuxState) → IsAsBefore old mid → StandsFor film old → StandsFor film mid
roomy_stands film old mid m s =
    let f = roomy_fits film old.cache.limits old.set old.cache mid.cache old.heads old.seeking old.waiting old.switch old.failure old.ended (reverse old.journal) m.cache_is s.fits in
    subst (λ (d : DemuxState). StandsFor film d) (sym m.changed) (record {
      fits = subst (λ (l : Limits). Fits film l old.set mid.cache.current mid.cache.others old.heads old.seeking old.waiting old.switch old.failure old.ended (reverse old.journal)) (sym m.cache_is.limits_is) f;
      still = s.still;
      tied = roomy_tied old mid.cache m.cache_is s.tied;
      known = s.known;
    })

pub roomy_both : (old mid new : DemuxState) → IsRoomy old mid → IsAsBefore mid new → IsAsBefore old new
roomy_both old mid new r b =
    let e : mid.cache ≡ old.cache = ap (λ (d : DemuxState). d.cache) r.changed in
    let more = r.roomier in
    let again = b.roomier in
    record {
      changed = b.changed ∙ ap (λ (d : DemuxState). let x : DemuxState = record d { cache = new.cache; spare = new.spare } in x) r.changed;
      cache_is = subst (λ (c : CacheState). IsSameButRoom c new.cache) e b.cache_is;
      roomier = omega arith;
    }

-- ---- which track takes packets

same_takes : (ps : List Packet) (o n : Option QueueState) → Roomier o n → takes ps n ≡ takes ps o
same_takes ps None n r = ap (λ (x : Option QueueState). takes ps x) r
same_takes ps (Some q) None r = absurd r
same_takes ps (Some q) (Some m) r = ap (λ (x : QueueState). takes ps (Some x)) r.0

three : (a b c x y z : Option ℕ) → a ≡ x → b ≡ y → c ≡ z → or_else a (or_else b c) ≡ or_else x (or_else y z)
three a b c x y z e f g = rw (e, f, g) refl

same_took : (chunk : Chunk) (o n : Option RangeState) → RoomierIn o n → took_in chunk n ≡ took_in chunk o
same_took chunk None n r = ap (λ (x : Option RangeState). took_in chunk x) r
same_took chunk (Some a) None r = absurd r
same_took chunk (Some a) (Some b) r =
    three (takes chunk.packets b.queues.video) (takes chunk.packets b.queues.audio) (takes chunk.packets b.queues.sub) (takes chunk.packets a.queues.video) (takes chunk.packets a.queues.audio)
    (takes chunk.packets a.queues.sub) (same_takes chunk.packets a.queues.video b.queues.video r.queues.video) (same_takes chunk.packets a.queues.audio b.queues.audio r.queues.audio)
    (same_takes chunk.packets a.queues.sub b.queues.sub r.queues.sub)

-- ---- a part that was taken

pub wrote_all : (by : ℕ) (own : DemuxRecord) (old new : List DemuxRecord) → WritesExtras by (old ++ own ∷ []) new → WroteAll by (own ∷ []) old new
wrote_all by own old new w = record { extras = w.extras; grows = w.grows ∙ append_assoc old (own ∷ []) w.extras; are = w.are }

pub fed_on : (old mid new : DemuxState) (chunk : Chunk) → IsAsBefore old mid → TakesPart chunk mid new → PutsPart chunk old new
fed_on old mid new chunk m t =
    let d = settled 5 mid.set mid.heads mid.waiting mid.seeking t.fed (mid.journal ++ Fed 5 chunk.from chunk.to (took_in chunk mid.cache.current) chunk.ending ∷ []) new.cache new.journal t.is_cache t.settles in
    let w = wrote_all 5 (Fed 5 chunk.from chunk.to (took_in chunk mid.cache.current) chunk.ending) mid.journal new.journal d.wrote in
    let journal : mid.journal ≡ old.journal = ap (λ (x : DemuxState). x.journal) m.changed in
    record {
      roomy = mid;
      room = m;
      takes = t;
      changed = t.changed ∙ ap (λ (x : DemuxState). let y : DemuxState = record x {
        cache = new.cache;
        number = x.number + 1;
        kept = None;
        fed = is_at chunk.to (mark_in new.cache.current);
        journal = new.journal;
        spare = new.spare;
      } in y) m.changed;
      limits_are = d.limits_are ∙ t.feeds.rest.limits_is ∙ m.cache_is.limits_is;
      wrote = subst (λ (j : List DemuxRecord). WroteAll 5 (Fed 5 chunk.from chunk.to (took_in chunk old.cache.current) chunk.ending ∷ []) j new.journal) journal
          (subst (λ (o : Option ℕ). WroteAll 5 (Fed 5 chunk.from chunk.to o chunk.ending ∷ []) mid.journal new.journal) (same_took chunk old.cache.current mid.cache.current m.cache_is.current) w);
    }

pub feed_keeps : (film : Film) (old mid new : DemuxState) (chunk : Chunk) → IsAsBefore old mid → IsDemux mid → IsSomeAnd mid.kept (PartFits chunk) → mark_in mid.cache.current ≡ Some chunk.from
    → IsPartOf film chunk → TakesPart chunk mid new → StandsFor film old → StandsFor film new
feed_keeps film old mid new chunk m i k e part t s = part_keeps film mid new chunk i k e part t (roomy_stands film old mid m s)

-- ---- starts that were taken

both_in : (a b c : Option RangeState) → RoomierIn a b → RoomierIn b c → RoomierIn a c
both_in None b c x y = subst (λ (o : Option RangeState). RoomierIn o c) x y
both_in (Some a) None c x y = absurd x
both_in (Some a) (Some b) None x y = absurd y
both_in (Some a) (Some b) (Some c) x y = roomier_on a b c x y

pub before_both : (old mid new : DemuxState) → IsAsBefore old mid → IsAsBefore mid new → IsAsBefore old new
before_both old mid new a b =
    let one = a.roomier in
    let two = b.roomier in
    let x = a.cache_is in
    let y = b.cache_is in
    let xp = x.places in
    let yp = y.places in
    let xs = x.start_room in
    let ys = y.start_room in
    let xj = x.join_room in
    let yj = y.join_room in
    record {
      changed = b.changed ∙ ap (λ (d : DemuxState). let z : DemuxState = record d { cache = new.cache; spare = new.spare } in z) a.changed;
      cache_is = record {
        limits_is = y.limits_is ∙ x.limits_is;
        current = both_in old.cache.current mid.cache.current new.cache.current x.current y.current;
        others_is = y.others_is ∙ x.others_is;
        places = omega arith;
        start_room = omega arith;
        join_room = omega arith;
      };
      roomier = omega arith;
    }

pub found_on : (old mid new : DemuxState) (starts : Starts) → IsAsBefore old mid → IsDemux mid → IsSomeAnd mid.kept (StartsFit starts) → TakesStarts starts mid new → PutsStarts starts old new
found_on old mid new starts m i k t =
    let g = begun mid starts t.begun t.journal i k t.is_cache t.begins in
    let d = settled 5 mid.set (heads_at starts mid.heads) nothing None t.begun t.journal new.cache new.journal t.is_cache t.settles in
    let w = wrote_all 5 (Found 5 starts) mid.journal new.journal (extras_both 5 (mid.journal ++ Found 5 starts ∷ []) t.journal new.journal g.wrote d.wrote) in
    let journal : mid.journal ≡ old.journal = ap (λ (x : DemuxState). x.journal) m.changed in
    record {
      roomy = mid;
      room = m;
      takes = t;
      changed = t.changed ∙ ap (λ (x : DemuxState). let y : DemuxState = record x {
        cache = new.cache;
        heads = heads_at starts x.heads;
        seeking = None;
        waiting = nothing;
        number = x.number + 1;
        kept = None;
        fed = false;
        journal = new.journal;
        spare = new.spare;
      } in y) m.changed;
      limits_are = d.limits_are ∙ g.has.limits_are ∙ m.cache_is.limits_is;
      wrote = subst (λ (j : List DemuxRecord). WroteAll 5 (Found 5 starts ∷ []) j new.journal) journal w;
    }

pub find_keeps : (film : Film) (old mid new : DemuxState) (starts : Starts) → IsAsBefore old mid → IsDemux mid → IsSomeAnd mid.kept (StartsFit starts) → IfSome old.kept (AreStartsOf film starts)
    → TakesStarts starts mid new → StandsFor film old → StandsFor film new
find_keeps film old mid new starts m i k are t s =
    starts_keep film mid new starts i k (subst (λ (d : DemuxState). IfSome d.kept (AreStartsOf film starts)) (sym m.changed) are) t (roomy_stands film old mid m s)
