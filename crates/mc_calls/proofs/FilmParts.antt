-- A part of the film that is taken leaves a demuxer that stands for the film.
use Rattle.std.proofs.Common.{◌≡◌, ℕ, ◌≤◌, ◌<◌, ◌==◌, Bool, true, false, Option, Some, None, List, [], ◌∷◌, ◌++◌, refl, ap, sym, subst, ◌∙◌, inl, inr, arith}
use Rattle.std.specs.Prelude.{is_some, if◌then◌else◌, IfSome, IsSomeAnd, map, reverse, nat_le}
use Rattle.std.specs.List.{AllByRecursion}
use Rattle.std.specs.Option.{option_map}
use Rattle.std.proofs.lemmas.Bool.{cases_Bool, leb-false}
use Rattle.mc_packet.specs.declared.packet.Packet.{Packet}
use Rattle.mc_packet.specs.declared.choice.Choice.{Choice}
use Rattle.mc_packet.specs.declared.cache.Heads.{Heads}
use Rattle.mc_packet.specs.declared.cache.Limits.{Limits}
use Rattle.mc_packet.specs.declared.walk.Chunk.{Chunk}
use Rattle.mc_packet.specs.declared.walk.Mark.{Mark}
use Rattle.mc_journal.specs.declared.record.DemuxRecord.{DemuxRecord}
use Rattle.mc_journal.specs.declared.record.DemuxRecord.TheVariants.{Fed}
use Rattle.mc_packet.specs.Choices.{or_else}
use Rattle.mc_journal.specs.Choices.{kept_of, kept_track}
use Rattle.mc_journal.specs.Films.{Film, rank, first, first_lane, track_of}
use Rattle.mc_journal.specs.Ranges.{Range, within}
use Rattle.mc_journal.specs.Readings.{failed}
use Rattle.mc_journal.specs.Stands.{Stand, stand, fed_range}
use Rattle.mc_journal.specs.Views.{head, from_place}
use Rattle.mc_journal.specs.Used.{is_still, are_told, due, joins_now, gains, gains_in, any_track, taker as takes_in}
use Rattle.mc_journal.proofs.Splitting.{within-cut}
use Rattle.mc_queue.specs.Queue.{QueueState}
use Rattle.mc_range.specs.Range.{RangeState, IsRange, QueueIn, as_range, queue_of, span_of}
use Rattle.mc_range.specs.Growing.{news, taker, takes, track_with}
use Rattle.mc_range.specs.Serving.{HoldsFilm}
use Rattle.mc_range.specs.Filmed.{IsPart}
use Rattle.mc_range.proofs.Telling.{kept_swap, none_within}
use Rattle.mc_range.proofs.Unions.{audio_is, sub_is, video_is}
use Rattle.mc_cache.specs.Cache.{CacheState, in_front, mark_in, ranges_of}
use Rattle.mc_cache.specs.Filmed.{HoldsAll, HoldsIn}
use Rattle.mc_cache.proofs.Standing.{fed_holds, fed_stand}
use Rattle.mc_calls.specs.declared.waiting.Target.{Target}
use Rattle.mc_calls.specs.declared.waiting.Switch.{Switch}
use Rattle.mc_calls.specs.declared.waiting.Failure.{Failure}
use Rattle.mc_calls.specs.State.{DemuxState}
use Rattle.mc_calls.specs.Demuxers.{IsDemux}
use Rattle.mc_calls.specs.Film.{Fits, IsPartOf, PlacesAre, StandsFor, failure_record}
use Rattle.mc_calls.specs.Feeding.{TakesPart}
use Rattle.mc_calls.specs.Outcomes.{PartFits, took_in}
use Rattle.mc_calls.proofs.Failing.{reverse-push}
use Rattle.mc_calls.proofs.FilmJoins.{holds_in}
use Rattle.mc_calls.proofs.FilmSettled.{settle_keeps}
use Rattle.mc_calls.proofs.Parts.{fed_cache, fed_sets, is_reading}
use Rattle.mc_calls.proofs.Quiet.{tidy}
use Rattle.mc_calls.proofs.SameTracks.{placed_same, places_same}
use Rattle.mc_calls.proofs.Settled.{settled}
use Rattle.mc_calls.proofs.Recalled.{part_tied}

-- ---- which track takes packets

film_news : (ps : List Packet) (q : QueueState) (a b : ℕ) (cs : List Packet) → cs ≡ within a b ps → a ≤ rank q.to
    → (news cs q) ≡ within (rank q.to) b (track_of q.track ps)
film_news ps q a b cs e l =
    ap (λ xs. from_place (rank q.to) (track_of q.track xs)) e
    ∙ ap (λ xs. from_place (rank q.to) xs) (kept_swap (λ p. p.track == q.track) _ ps)
    ∙ within-cut a (rank q.to) b (track_of q.track ps) l

track_taken : (track : ℕ) (cs : List Packet) → track_with track cs ≡ (if is_some (first (cs)) then Some track else None)
track_taken track [] = refl
track_taken track (c ∷ cs) = refl

if_gains : (ps : List Packet) (q : QueueState) (b : ℕ) → is_some (first (within (rank q.to) (first_lane b) (track_of q.track ps))) ≡ gains ps b q.track (Some (span_of q))
if_gains ps q b = elim (cases_Bool (nat_le (rank q.to) (first_lane b))) [
  | inl y ↦ rw y refl
  | inr n ↦
      let l : first_lane b < rank q.to = leb-false (rank q.to) (first_lane b) n in
      let one = none_within (rank q.to) (first_lane b) (track_of q.track ps) (omega arith) in
      let two = none_within (rank q.to) (rank q.to) (track_of q.track ps) (omega arith) in
      rw (n, one, two) refl
]

kind_takes : (ps : List Packet) (r : RangeState) (a b : ℕ) (cs : List Packet) (track : Option ℕ) (q : Option QueueState) → cs ≡ within a (first_lane b) ps → a ≡ first_lane r.mark.pos
    → QueueIn track r.mark q → ((k : ℕ) → track ≡ Some k → queue_of k r.queues ≡ q)
    → takes cs q ≡ kept_track (λ k. gains_in ps b (Some (as_range r)) k) track
kind_takes ps r a b cs None None e m i f = refl
kind_takes ps r a b cs None (Some q) e m i f = absurd (let x = i.0 in cc)
kind_takes ps r a b cs (Some k) None e m i f = let x = f k refl in rw x refl
kind_takes ps r a b cs (Some k) (Some q) e m i f =
    let x = f k refl in
    let same : k ≡ q.track = some k q.track i.0 in
    let reach = i.1 in
    let l : a ≤ rank q.to = rw m reach in
    let all : track_with q.track (news cs q) ≡ (if gains ps b q.track (Some (span_of q)) then Some q.track else None) =
    track_taken q.track (news cs q)
    ∙ ap (λ (xs : List Packet). if is_some (first xs) then Some q.track else None) (film_news ps q a (first_lane b) cs e l)
    ∙ ap (λ (t : Bool). if t then Some q.track else None) (if_gains ps q b) in
    rw x (subst (λ (n : ℕ). track_with q.track (news cs q) ≡ (if gains ps b n (Some (span_of q)) then Some n else None)) (sym same) all)
  where
    some : (a b : ℕ) → Some a ≡ Some b → a ≡ b
    some a b e = cc

or_is : (a b c x y z : Option ℕ) → a ≡ x → b ≡ y → c ≡ z → or_else a (or_else b c) ≡ or_else x (or_else y z)
or_is a b c x y z e f g = rw (e, f, g) refl

range_takes : (ps : List Packet) (r : RangeState) (c : Chunk) → IsPart ps c → c.from ≡ r.mark → IsRange r
    → taker c.packets r.queues ≡ any_track (kept_of r.set (gains_in ps c.to.pos (Some (as_range r))))
range_takes ps r c p m i =
    let from : first_lane c.from.pos ≡ first_lane r.mark.pos = ap (λ (x : Mark). first_lane x.pos) m in
    or_is (takes c.packets r.queues.video) (takes c.packets r.queues.audio) (takes c.packets r.queues.sub) _ _ _
    (kind_takes ps r (first_lane c.from.pos) c.to.pos c.packets r.set.video r.queues.video p from i.held.video (λ k e. video_is r k i e))
    (kind_takes ps r (first_lane c.from.pos) c.to.pos c.packets r.set.audio r.queues.audio p from i.held.audio (λ k e. audio_is r k i e))
    (kind_takes ps r (first_lane c.from.pos) c.to.pos c.packets r.set.sub r.queues.sub p from i.held.sub (λ k e. sub_is r k i e))

some_mark : (a b : Mark) → Some a ≡ Some b → a ≡ b
some_mark a b e = cc

took_takes : (ps : List Packet) (set : Choice) (c : Chunk) (o : Option RangeState) → IsPart ps c → mark_in o ≡ Some c.from → IfSome o IsRange → IfSome o (λ r. r.set ≡ set)
    → took_in c o ≡ any_track (kept_of set (gains_in ps c.to.pos (option_map as_range o)))
took_takes ps set c None p m i e = absurd (cc)
took_takes ps set c (Some r) p m i e =
    range_takes ps r c p (sym (some_mark r.mark c.from m)) i ∙ ap (λ (s : Choice). any_track (kept_of s (gains_in ps c.to.pos (Some (as_range r))))) e

-- ---- the record may come

here_is : (c : Chunk) (o : Option RangeState) → IsSomeAnd o (λ r. r.ending ≡ None) → mark_in o ≡ Some c.from
    → IsSomeAnd (option_map as_range o) (λ r. (r.ending ≡ None) × (r.mark ≡ c.from.pos))
here_is c None e m = absurd e
here_is c (Some r) e m = (e, ap (λ (x : Mark). x.pos) (some_mark r.mark c.from m))

pub fed_step : (film : Film) (limits : Limits) (set : Choice) (current : Option RangeState) (others : List RangeState) (heads : Heads)
    (seeking : Option Target) (waiting : Choice) (switch : Switch) (failure : Option Failure) (ended : Choice) (h : List DemuxRecord) (chunk : Chunk)
    (current' : Option RangeState) (others' : List RangeState)
    → Fits film limits set current others heads seeking waiting switch failure ended h → is_still film.packets h ≡ true → failure ≡ None → IsPartOf film chunk
    → IsSomeAnd current (λ r. r.ending ≡ None) → mark_in current ≡ Some chunk.from → IfSome current IsRange → IfSome current (λ r. r.set ≡ set)
    → option_map as_range current' ≡ option_map (fed_range chunk.to.pos chunk.ending) (option_map as_range current) → others' ≡ others
    → IfSome current' (HoldsFilm film.packets) → IfSome current' (PlacesAre set heads (λ track. head film.packets track h))
    → Fits film limits set current' others' heads seeking waiting switch failure ended (Fed 5 chunk.from chunk.to (took_in chunk current) chunk.ending ∷ h)
fed_step film limits set current others heads seeking waiting switch failure ended h chunk current' others' f still sound part open_end mark range own grown same held places =
    let ps = film.packets in
    let well : failed h ≡ false = ap (λ (o : Option DemuxRecord). is_some o) (f.failure_is ∙ ap (λ (o : Option Failure). option_map failure_record o) sound) in
    let here : IsSomeAnd (stand ps h).current (λ r. (r.ending ≡ None) × (r.mark ≡ chunk.from.pos)) =
    subst (λ (o : Option Range). IsSomeAnd o (λ r. (r.ending ≡ None) × (r.mark ≡ chunk.from.pos))) (sym f.current_is) (here_is chunk current open_end mark) in
    let took : took_in chunk current ≡ takes_in ps h chunk.to.pos =
    took_takes ps set chunk current part.packets mark range own
    ∙ ap (λ (o : Option Range). any_track (kept_of set (gains_in ps chunk.to.pos o))) (sym f.current_is)
    ∙ ap (λ (s : Choice). any_track (kept_of s (gains_in ps chunk.to.pos (stand ps h).current))) (sym f.set_is) in
    record {
      film_is = f.film_is;
      used = ((record { sound = well; here = here; onward = part.onward; ends = part.ends }, still, (part.part, took)), f.used);
      set_is = f.set_is;
      current_is = ap (λ (o : Option Range). option_map (fed_range chunk.to.pos chunk.ending) o) f.current_is ∙ sym grown;
      others_are = tidy ps h ∙ f.others_are ∙ sym (ap (λ (rs : List RangeState). map as_range rs) same);
      held = held;
      all_held = subst (λ (rs : List RangeState). AllByRecursion (HoldsFilm ps) rs) (sym same) f.all_held;
      places = places;
      seeks = f.seeks;
      target_is = f.target_is;
      sought_at = f.sought_at;
      waits_are = f.waits_are;
      added_at = f.added_at;
      failure_is = f.failure_is;
      ended_are = f.ended_are;
    }

-- ---- all of it

front_parts : (P : RangeState → Type 0) (o : Option RangeState) (rs : List RangeState) → AllByRecursion P (in_front o rs) → IfSome o P × AllByRecursion P rs
front_parts P None rs h = (tt, h)
front_parts P (Some r) rs h = h

current_holds : (ps : List Packet) (set : Choice) (o : Option RangeState) → IfSome o (HoldsFilm ps) → IfSome o (λ r. r.set ≡ set) → IfSome o (HoldsIn ps set)
current_holds ps set None h e = tt
current_holds ps set (Some r) h e = record { film = h; set_is = e }

pub current_film : (ps : List Packet) (set : Choice) (o : Option RangeState) → IfSome o (HoldsIn ps set) → IfSome o (HoldsFilm ps)
current_film ps set None h = tt
current_film ps set (Some r) h = h.film

pub holds_cache : (film : Film) (limits : Limits) (set : Choice) (c : CacheState) (heads : Heads)
    (seeking : Option Target) (waiting : Choice) (switch : Switch) (failure : Option Failure) (ended : Choice) (h : List DemuxRecord)
    → Fits film limits set c.current c.others heads seeking waiting switch failure ended h → AllByRecursion (λ r. r.set ≡ set) (ranges_of c) → HoldsAll film.packets set c
holds_cache film limits set c heads seeking waiting switch failure ended h f e =
    let p = front_parts (λ r. r.set ≡ set) c.current c.others e in
    record { current = current_holds film.packets set c.current f.held p.0; others = holds_in film.packets set c.others f.all_held p.1 }

from_mark : (c : Chunk) (o : Option RangeState) → mark_in o ≡ Some c.from → IsSomeAnd o (λ r. c.from ≡ r.mark)
from_mark c None m = absurd (cc)
from_mark c (Some r) m = sym (some_mark r.mark c.from m)

pub part_keeps : (film : Film) (old new : DemuxState) (chunk : Chunk) → IsDemux old → IsSomeAnd old.kept (PartFits chunk) → mark_in old.cache.current ≡ Some chunk.from → IsPartOf film chunk
    → TakesPart chunk old new → StandsFor film old → StandsFor film new
part_keeps film old new chunk i k m part t s =
    let ps = film.packets in
    let h = reverse old.journal in
    let own : DemuxRecord = Fed 5 chunk.from chunk.to (took_in chunk old.cache.current) chunk.ending in
    let r = is_reading old chunk i k in
    let e = front_parts (λ r. r.set ≡ old.set) old.cache.current old.cache.others i.sets in
    let all = holds_cache film old.cache.limits old.set old.cache old.heads old.seeking old.waiting old.switch old.failure old.ended h s.fits i.sets in
    let holds = fed_holds ps old.set chunk old.cache t.fed s.fits.film_is.rising part.packets i.cache (from_mark chunk old.cache.current m) all t.feeds in
    let grown = fed_stand chunk old.cache t.fed t.feeds in
    let g = fed_cache chunk old.cache t.fed i.cache t.feeds in
    let fits = fed_step film old.cache.limits old.set old.cache.current old.cache.others old.heads old.seeking old.waiting old.switch old.failure old.ended h chunk t.fed.current t.fed.others
    s.fits s.still r.sound part r.open_end m i.cache.current e.0 (ap (λ (x : Stand). x.current) grown) t.feeds.others_is (current_film ps old.set t.fed.current holds.current)
    (places_same old.set old.heads (λ track. head ps track h) old.cache.current t.fed.current g.same s.fits.places) in
    let push : own ∷ h ≡ reverse (old.journal ++ own ∷ []) = sym (reverse-push old.journal own) in
    let rest = settle_keeps film old.cache.limits old.set old.heads old.seeking old.waiting old.switch old.failure old.ended 5 t.fed (old.journal ++ own ∷ []) new.cache new.journal
    (sym t.feeds.rest.limits_is) t.is_cache (fed_sets old.set chunk old.cache t.fed t.feeds i.sets)
    (placed_same old.set old.heads old.waiting old.seeking old.cache.current t.fed.current g.same i.placed)
    (subst (λ (x : List DemuxRecord). Fits film old.cache.limits old.set t.fed.current t.fed.others old.heads old.seeking old.waiting old.switch old.failure old.ended x) push fits)
    (subst (λ (x : List DemuxRecord). joins_now x ≡ true) push refl) (subst (λ (x : List DemuxRecord). are_told (due ps x) ≡ true) push refl) t.settles in
    let lim = (settled 5 old.set old.heads old.waiting old.seeking t.fed (old.journal ++ own ∷ []) new.cache new.journal t.is_cache t.settles).limits_are ∙ t.feeds.rest.limits_is in
    subst (λ (d : DemuxState). StandsFor film d) (sym t.changed) (record {
      fits = subst (λ (l : Limits). Fits film l old.set new.cache.current new.cache.others old.heads old.seeking old.waiting old.switch old.failure old.ended (reverse new.journal)) (sym lim) rest.fits;
      still = rest.still;
      tied = part_tied old new chunk t s.tied;
      known = s.known;
    })
