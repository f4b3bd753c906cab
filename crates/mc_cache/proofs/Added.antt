-- Over a film's list the tracks that are added one kind behind the other are those that starts found give.
use Rattle.std.proofs.Common.{◌≡◌, ℕ, true, List, Option, Some, None, refl, ap, sym, subst, ◌∙◌, arith, inl, inr}
use Rattle.std.specs.Prelude.{IfSome, IsSomeAnd, if◌then◌else◌, is_some, map, min, nat_lt}
use Rattle.std.specs.Option.{option_map}
use Rattle.std.proofs.lemmas.Bool.{cases_Bool, ltb-true}
use Rattle.mc_packet.specs.declared.choice.Choice.{Choice}
use Rattle.mc_packet.specs.declared.choice.Kind.{Kind}
use Rattle.mc_packet.specs.declared.choice.Kind.TheVariants.{Video, Audio, Sub}
use Rattle.mc_packet.specs.declared.choice.Starts.{Starts}
use Rattle.mc_packet.specs.declared.walk.Ending.{Ending}
use Rattle.mc_packet.specs.declared.walk.Mark.{Mark}
use Rattle.mc_packet.specs.declared.packet.Packet.{Packet}
use Rattle.mc_packet.specs.Choices.{is_track, or_else}
use Rattle.mc_journal.specs.Films.{first_lane}
use Rattle.mc_journal.specs.Ranges.{Range, Span}
use Rattle.mc_journal.specs.Stands.{Stand, add_spans, empty_span, found, span_given}
use Rattle.mc_range.specs.Range.{RangeState, IsRange, as_range}
use Rattle.mc_range.specs.Tracks.{IsAdded, queue_under, selected_under}
use Rattle.mc_range.specs.Filmed.{start_only}
use Rattle.mc_range.proofs.Fed.{range_is}
use Rattle.mc_range.proofs.Retracked.{added_ranges, added_film}
use Rattle.mc_cache.specs.Cache.{CacheState, IsCache, stand_of}
use Rattle.mc_cache.specs.Changing.{AddsTrack, MayAdd}
use Rattle.mc_cache.specs.Filmed.{HoldsAll, HoldsIn}
use Rattle.mc_cache.specs.Placed.{AddsStart, AddsStarts}

-- ---- one kind

one_stand : (ps : List Packet) (set : Choice) (kind : Kind) (track start : ℕ) (mark : Mark) (o n : Option RangeState) (rs : List Range) → IfSome o IsRange → IfSome n IsRange → IfSome o (HoldsIn ps set)
    → IsSomeAnd o (λ r. (selected_under kind r.set ≡ Some track) × (queue_under kind r.queues ≡ None)) → IsSomeAnd o (λ r. IsSomeAnd n (λ q. IsAdded kind track start mark r q))
    → (let s : Stand = record { current = option_map as_range n; others = rs } in s) ≡ found set (start_only kind start mark) (record { current = option_map as_range o; others = rs })
one_stand ps set kind track start mark None n rs i j h m a = absurd m
one_stand ps set kind track start mark (Some r) None rs i j h m a = absurd a
one_stand ps set kind track start mark (Some r) (Some q) rs i j h m a =
    ap (λ (x : Range). let s : Stand = record { current = Some x; others = rs } in s)
    (added_ranges kind track start mark r q i j m.0 m.1 a ∙ ap (λ (s : Choice). add_spans s (start_only kind start mark) (as_range r)) h.set_is)

one_film : (ps : List Packet) (set : Choice) (kind : Kind) (track start : ℕ) (mark : Mark) (o n : Option RangeState) → IfSome n IsRange → IfSome o (HoldsIn ps set)
    → IsSomeAnd o (λ r. (selected_under kind r.set ≡ Some track) × (queue_under kind r.queues ≡ None)) → IsSomeAnd o (λ r. IsSomeAnd n (λ q. IsAdded kind track start mark r q))
    → IfSome n (HoldsIn ps set)
one_film ps set kind track start mark None n j h m a = absurd m
one_film ps set kind track start mark (Some r) None j h m a = absurd a
one_film ps set kind track start mark (Some r) (Some q) j h m a = record { film = added_film ps kind track start mark r q j m.1 a h.film; set_is = a.set_is ∙ h.set_is }

pub added_stand : (ps : List Packet) (set : Choice) (kind : Kind) (track start : ℕ) (mark : Mark) (old new : CacheState) → IsCache old → IsCache new → HoldsAll ps set old
    → MayAdd kind track old → AddsTrack kind track start mark old new → stand_of new ≡ found set (start_only kind start mark) (stand_of old)
added_stand ps set kind track start mark old new i j h m a =
    ap (λ (rs : List RangeState). let s : Stand = record { current = option_map as_range new.current; others = map as_range rs } in s) a.others_is
    ∙ one_stand ps set kind track start mark old.current new.current (map as_range old.others) i.current j.current h.current m a.current

pub added_holds : (ps : List Packet) (set : Choice) (kind : Kind) (track start : ℕ) (mark : Mark) (old new : CacheState) → IsCache new → HoldsAll ps set old
    → MayAdd kind track old → AddsTrack kind track start mark old new → HoldsAll ps set new
added_holds ps set kind track start mark old new j h m a =
    let o = a.others_is in
    record { current = one_film ps set kind track start mark old.current new.current j.current h.current m a.current; others = rw o h.others }

-- ---- two starts found one behind the other are both

abbrev both : Starts → Starts → Starts
both a b = record { video = or_else b.video a.video; audio = or_else b.audio a.audio; sub = or_else b.sub a.sub; mark = b.mark }

map_both : (f : ℕ → Span) (a b : Option ℕ) (x : Option Span) → or_else (option_map f b) (or_else (option_map f a) x) ≡ or_else (option_map f (or_else b a)) x
map_both f a None x = refl
map_both f a (Some n) x = refl

span_both : (set : Choice) (a b : Starts) (x : Option Span) (k : ℕ) → or_else (span_given set b k) (or_else (span_given set a k) x) ≡ or_else (span_given set (both a b) k) x
span_both set a b x k =
    let f : ℕ → Span = λ block. empty_span (first_lane block) in
    elim (cases_Bool (is_track set.video k)) [
      | inl y ↦ rw y (map_both f a.video b.video x)
      | inr n ↦ elim (cases_Bool (is_track set.audio k)) [
        | inl y ↦ rw (n, y) (map_both f a.audio b.audio x)
        | inr m ↦ elim (cases_Bool (is_track set.sub k)) [
          | inl y ↦ rw (n, m, y) (map_both f a.sub b.sub x)
          | inr o ↦ rw (n, m, o) refl
        ]
      ]
    ]

ending_both : (b a r : ℕ) (e : Option Ending) → b ≡ a → (if nat_lt b (min a r) then None else (if nat_lt a r then None else e)) ≡ (if nat_lt b r then None else e)
ending_both b a r e h = elim (cases_Bool (nat_lt b (min a r))) [
  | inl y ↦ let l = ltb-true b (min a r) y in absurd (omega arith)
  | inr n ↦ rw n (ap (λ k. if nat_lt k r then None else e) (sym h))
]

twice : (set : Choice) (a b : Starts) (r : Range) → b.mark.pos ≡ a.mark.pos → add_spans set b (add_spans set a r) ≡ add_spans set (both a b) r
twice set a b r e =
    range_is _ _ _ _ _ _ (λ k. span_both set a b (r.spans k) k)
    (let m : min b.mark.pos (min a.mark.pos r.mark) ≡ min b.mark.pos r.mark = omega arith in m)
    (ending_both b.mark.pos a.mark.pos r.mark r.ending e)

-- ---- one kind behind the other

abbrev after_start : Kind → Choice → Option ℕ → Mark → Stand → Stand
after_start kind set None mark st = st
after_start kind set (Some start) mark st = found set (start_only kind start mark) st

abbrev starts_of : Option ℕ → Option ℕ → Option ℕ → Mark → Starts
starts_of v a s mark = record { video = v; audio = a; sub = s; mark = mark }

abbrev stand_at : Range → List Range → Stand
stand_at r rs = record { current = Some r; others = rs }

chain : (set : Choice) (v a s : Option ℕ) (m : Mark) (r : Range) (rs : List Range) → is_some (or_else v (or_else a s)) ≡ true
    → after_start Sub set s m (after_start Audio set a m (after_start Video set v m (stand_at r rs))) ≡ found set (starts_of v a s m) (stand_at r rs)
chain set None None None m r rs e = absurd (cc)
chain set (Some v) None None m r rs e = refl
chain set None (Some a) None m r rs e = refl
chain set None None (Some s) m r rs e = refl
chain set (Some v) (Some a) None m r rs e = ap (λ x. stand_at x rs) (twice set (start_only Video v m) (start_only Audio a m) r refl)
chain set (Some v) None (Some s) m r rs e = ap (λ x. stand_at x rs) (twice set (start_only Video v m) (start_only Sub s m) r refl)
chain set None (Some a) (Some s) m r rs e = ap (λ x. stand_at x rs) (twice set (start_only Audio a m) (start_only Sub s m) r refl)
chain set (Some v) (Some a) (Some s) m r rs e =
    ap (λ x. stand_at (add_spans set (start_only Sub s m) x) rs) (twice set (start_only Video v m) (start_only Audio a m) r refl)
    ∙ ap (λ x. stand_at x rs) (twice set (both (start_only Video v m) (start_only Audio a m)) (start_only Sub s m) r refl)

chain_on : (set : Choice) (starts : Starts) (c : Option Range) (rs : List Range) → is_some (or_else starts.video (or_else starts.audio starts.sub)) ≡ true → is_some c ≡ true
    → (let s : Stand = record { current = c; others = rs } in after_start Sub set starts.sub starts.mark (after_start Audio set starts.audio starts.mark (after_start Video set starts.video starts.mark s)))
    ≡ found set starts (record { current = c; others = rs })
chain_on set starts None rs e c = absurd (cc)
chain_on set starts (Some r) rs e c = chain set starts.video starts.audio starts.sub starts.mark r rs e

-- a track can be added only to a current range
current_some : (kind : Kind) (set : Choice) (start : ℕ) (mark : Mark) (old new : CacheState) → AddsStart kind set (Some start) mark old new → is_some old.current ≡ true
current_some kind set start mark old new a = by (selected_under kind set) a
  where
    there : (track : ℕ) (c : Option RangeState) → IsSomeAnd c (λ r. (selected_under kind r.set ≡ Some track) × (queue_under kind r.queues ≡ None)) → is_some c ≡ true
    there track None m = absurd m
    there track (Some r) m = refl

    by : (t : Option ℕ) → IsSomeAnd t (λ track. MayAdd kind track old × AddsTrack kind track start mark old new × IsCache new) → is_some old.current ≡ true
    by None a = absurd a
    by (Some track) a = there track old.current a.0

has_current : (set : Choice) (v a s : Option ℕ) (m : Mark) (old x y new : CacheState) → AddsStart Video set v m old x → AddsStart Audio set a m x y → AddsStart Sub set s m y new
    → is_some (or_else v (or_else a s)) ≡ true → is_some old.current ≡ true
has_current set (Some v) a s m old x y new f g h e = current_some Video set v m old x f
has_current set None (Some a) s m old x y new f g h e = subst (λ (c : CacheState). is_some c.current ≡ true) f (current_some Audio set a m x y g)
has_current set None None (Some s) m old x y new f g h e = subst (λ (c : CacheState). is_some c.current ≡ true) (g ∙ f) (current_some Sub set s m y new h)
has_current set None None None m old x y new f g h e = absurd (cc)

record Added (ps : List Packet) (set : Choice) (kind : Kind) (start : Option ℕ) (mark : Mark) (old new : CacheState) : Type 0 where
  cache : IsCache new
  film : HoldsAll ps set new
  stand : stand_of new ≡ after_start kind set start mark (stand_of old)

step : (ps : List Packet) (set : Choice) (kind : Kind) (start : Option ℕ) (mark : Mark) (old new : CacheState) → IsCache old → HoldsAll ps set old → AddsStart kind set start mark old new
    → Added ps set kind start mark old new
step ps set kind None mark old new i h a = record {
  cache = subst (λ (c : CacheState). IsCache c) (sym a) i;
  film = subst (λ (c : CacheState). HoldsAll ps set c) (sym a) h;
  stand = ap (λ (c : CacheState). stand_of c) a;
}
step ps set kind (Some start) mark old new i h a = by (selected_under kind set) a
  where
    by : (t : Option ℕ) → IsSomeAnd t (λ track. MayAdd kind track old × AddsTrack kind track start mark old new × IsCache new) → Added ps set kind (Some start) mark old new
    by None a = absurd a
    by (Some track) a = record {
      cache = a.2;
      film = added_holds ps set kind track start mark old new a.2 h a.0 a.1;
      stand = added_stand ps set kind track start mark old new i a.2 h a.0 a.1;
    }

there_some : (c : Option RangeState) → is_some c ≡ true → is_some (option_map as_range c) ≡ true
there_some None e = e
there_some (Some r) e = refl

pub starts_stand : (ps : List Packet) (set : Choice) (starts : Starts) (old new : CacheState) → IsCache old → HoldsAll ps set old
    → is_some (or_else starts.video (or_else starts.audio starts.sub)) ≡ true → AddsStarts set starts old new → stand_of new ≡ found set starts (stand_of old)
starts_stand ps set starts old new i h e a =
    let x = step ps set Video starts.video starts.mark old a.with_video i h a.video in
    let y = step ps set Audio starts.audio starts.mark a.with_video a.with_audio x.cache x.film a.audio in
    let z = step ps set Sub starts.sub starts.mark a.with_audio new y.cache y.film a.sub in
    let c = has_current set starts.video starts.audio starts.sub starts.mark old a.with_video a.with_audio new a.video a.audio a.sub e in
    z.stand
    ∙ ap (λ s. after_start Sub set starts.sub starts.mark s) y.stand
    ∙ ap (λ s. after_start Sub set starts.sub starts.mark (after_start Audio set starts.audio starts.mark s)) x.stand
    ∙ chain_on set starts (option_map as_range old.current) (map as_range old.others) e (there_some old.current c)

pub starts_holds : (ps : List Packet) (set : Choice) (starts : Starts) (old new : CacheState) → IsCache old → HoldsAll ps set old → AddsStarts set starts old new → HoldsAll ps set new
starts_holds ps set starts old new i h a =
    let x = step ps set Video starts.video starts.mark old a.with_video i h a.video in
    let y = step ps set Audio starts.audio starts.mark a.with_video a.with_audio x.cache x.film a.audio in
    let z = step ps set Sub starts.sub starts.mark a.with_audio new y.cache y.film a.sub in
    z.film
