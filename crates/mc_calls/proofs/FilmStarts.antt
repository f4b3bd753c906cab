-- Starts that are taken leave a demuxer that stands for the film: the record may come.
use Rattle.std.proofs.Common.{◌≡◌, ℕ, ◌≤◌, Bool, true, false, ◌||◌, Option, Some, None, List, ◌∷◌, refl, ap, sym, subst, ◌∙◌, inl, inr}
use Rattle.std.specs.Prelude.{is_some, not, IfSome, IsSomeAnd, map, reverse, ℤ}
use Rattle.std.specs.List.{AllByRecursion}
use Rattle.std.specs.Option.{option_map}
use Rattle.std.proofs.lemmas.Bool.{cases_Bool}
use Rattle.mc_packet.specs.declared.choice.Choice.{Choice}
use Rattle.mc_packet.specs.declared.choice.Starts.{Starts}
use Rattle.mc_packet.specs.declared.cache.Heads.{Heads}
use Rattle.mc_packet.specs.declared.cache.Limits.{Limits}
use Rattle.mc_journal.specs.declared.record.DemuxRecord.{DemuxRecord}
use Rattle.mc_journal.specs.declared.record.DemuxRecord.TheVariants.{Found}
use Rattle.mc_packet.specs.Choices.{AreAtMark, or_else, has, is_empty, nothing, AtMark}
use Rattle.mc_journal.specs.Choices.{kept_of, kept_track, meets, some_of, OnTrack}
use Rattle.mc_journal.specs.Films.{Film, IsRegular, start_of, switch_start}
use Rattle.mc_journal.specs.Readings.{selected, failed, pending, waits, read_from}
use Rattle.mc_journal.specs.Stands.{stand}
use Rattle.mc_journal.specs.Views.{head}
use Rattle.mc_journal.specs.Allowed.{EachStart, MayFind, StartsOf}
use Rattle.mc_journal.specs.Used.{is_still, place_of_starts}
use Rattle.mc_range.specs.Range.{RangeState, as_range}
use Rattle.mc_range.specs.Serving.{HoldsFilm}
use Rattle.mc_calls.specs.declared.job.Job.{Job}
use Rattle.mc_calls.specs.declared.job.Job.TheVariants.{SeekTo, Refresh, Resume, Read, Idle}
use Rattle.mc_calls.specs.declared.waiting.Target.{Target}
use Rattle.mc_calls.specs.declared.waiting.Switch.{Switch}
use Rattle.mc_calls.specs.declared.waiting.Failure.{Failure}
use Rattle.mc_calls.specs.State.{DemuxState}
use Rattle.mc_calls.specs.Demuxers.{IsDemux, KeepsJob}
use Rattle.mc_calls.specs.Film.{AreFilmStarts, AreStartsOf, Fits, PlacesAre, failure_record}
use Rattle.mc_calls.specs.Outcomes.{AreStartsFor, StartsFit}
use Rattle.mc_calls.proofs.Seeking.{has_video, has_audio, has_sub, none_of, not_nothing}
use Rattle.mc_calls.proofs.Starting.{at_mark, no_seek}

-- ---- the readings behind it

pub found_step : (film : Film) (limits : Limits) (set : Choice) (current : Option RangeState) (others : List RangeState) (heads : Heads)
    (seeking : Option Target) (waiting : Choice) (switch : Switch) (failure : Option Failure) (ended : Choice) (h : List DemuxRecord) (starts : Starts)
    (current' : Option RangeState) (others' : List RangeState) (heads' : Heads)
    → Fits film limits set current others heads seeking waiting switch failure ended h → is_still film.packets h ≡ true → MayFind film h starts
    → (IsRegular film.packets film.known → starts.mark ≡ film.mark_at (place_of_starts starts))
    → (stand film.packets (Found 5 starts ∷ h)).current ≡ option_map as_range current' → (stand film.packets (Found 5 starts ∷ h)).others ≡ map as_range others'
    → IfSome current' (HoldsFilm film.packets) → AllByRecursion (HoldsFilm film.packets) others'
    → IfSome current' (PlacesAre set heads' (λ track. head film.packets track (Found 5 starts ∷ h)))
    → Fits film limits set current' others' heads' None nothing switch failure ended (Found 5 starts ∷ h)
found_step film limits set current others heads seeking waiting switch failure ended h starts current' others' heads' f still may marked current_is others_are held all_held places = record {
  film_is = f.film_is;
  used = ((may, still, marked), f.used);
  set_is = f.set_is;
  current_is = current_is;
  others_are = others_are;
  held = held;
  all_held = all_held;
  places = places;
  seeks = refl;
  target_is = tt;
  sought_at = tt;
  waits_are = sym (none_of set (λ track. waits track (Found 5 starts ∷ h)) (λ k e. refl));
  added_at = λ track e. not_nothing track e;
  failure_is = f.failure_is;
  ended_are = f.ended_are;
}

-- ---- the record may come

sought_all : (t : Option ℕ) (b : ℕ → Bool) → is_some t ≡ meets t (λ k. true || b k)
sought_all None b = refl
sought_all (Some k) b = refl

sought_kept : (t : Option ℕ) (b : ℕ → Bool) → is_some (kept_track b t) ≡ meets t b
sought_kept None b = refl
sought_kept (Some k) b = elim (cases_Bool (b k)) [ inl y ↦ rw y refl | inr n ↦ rw n refl ]

some_kept : (v a s : Option ℕ) (b : ℕ → Bool) → not (is_some (or_else (kept_track b s) (or_else (kept_track b v) (kept_track b a)))) ≡ false
    → (meets v b || (meets a b || meets s b)) ≡ true
some_kept v a s b e =
    let x = sought_kept v b in
    let y = sought_kept a b in
    let z = sought_kept s b in
    three (kept_track b v) (kept_track b a) (kept_track b s) (meets v b) (meets a b) (meets s b) x y z e
  where
    three : (v a s : Option ℕ) (p q r : Bool) → is_some v ≡ p → is_some a ≡ q → is_some s ≡ r → not (is_some (or_else s (or_else v a))) ≡ false → (p || (q || r)) ≡ true
    three (Some v) a s true q r x y z e = refl
    three (Some v) a s false q r x y z e = absurd (cc)
    three None (Some a) s true q r x y z e = refl
    three None (Some a) s false true r x y z e = refl
    three None (Some a) s false false r x y z e = absurd (cc)
    three None None (Some s) true q r x y z e = refl
    three None None (Some s) false true r x y z e = refl
    three None None (Some s) false false true x y z e = refl
    three None None (Some s) false false false x y z e = absurd (cc)
    three None None None p q r x y z e = absurd (cc)

least_one : (t s : Option ℕ) (n : ℕ) → AtMark n s → OnTrack t (λ track. IfSome s (λ block. n ≤ block))
least_one None s n a = tt
least_one (Some k) s n a = a

least_all : (set : Choice) (starts : Starts) → AreAtMark starts → EachStart set starts (λ track start. IfSome start (λ block. starts.mark.pos ≤ block))
least_all set starts a = (least_one set.video starts.video starts.mark.pos a.video, least_one set.audio starts.audio starts.mark.pos a.audio, least_one set.sub starts.sub starts.mark.pos a.sub)

exact_one : (t s : Option ℕ) (f g : ℕ → ℕ) → ((k : ℕ) → t ≡ Some k → f k ≡ g k) → OnTrack t (λ track. IfSome s (λ block. block ≡ f track)) → OnTrack t (λ track. IfSome s (λ block. block ≡ g track))
exact_one None s f g e h = tt
exact_one (Some k) None f g e h = tt
exact_one (Some k) (Some b) f g e h = h ∙ e k refl

exact_all : (set : Choice) (starts : Starts) (f g : ℕ → ℕ) → ((k : ℕ) → has set k ≡ true → f k ≡ g k) → EachStart set starts (λ track start. IfSome start (λ block. block ≡ f track))
    → EachStart set starts (λ track start. IfSome start (λ block. block ≡ g track))
exact_all set starts f g e h = (
  exact_one set.video starts.video f g (λ k x. e k (has_video set k x)) h.0,
  exact_one set.audio starts.audio f g (λ k x. e k (has_audio set k x)) h.1,
  exact_one set.sub starts.sub f g (λ k x. e k (has_sub set k x)) h.2,
)

-- a start of a track that waits is one of the selected track of its kind
of_kept : (t s : Option ℕ) (b : ℕ → Bool) (f : ℕ → ℕ) → is_some s ≡ is_some (kept_track b t) → OnTrack (kept_track b t) (λ track. IfSome s (λ block. block ≡ f track))
    → OnTrack t (λ track. IfSome s (λ block. block ≡ f track))
of_kept None s b f e h = tt
of_kept (Some k) None b f e h = tt
of_kept (Some k) (Some n) b f e h = elim (cases_Bool (b k)) [
  | inl y ↦ rw y at h
  | inr z ↦ absurd (let bad : true ≡ false = rw z at e in cc)
]

tracks_sought : (set : Choice) (starts : Starts) (w : ℕ → Bool) → AreStartsFor set starts → StartsOf set (λ k. true || w k) starts
tracks_sought set starts w f = (f.video ∙ sought_all set.video w, f.audio ∙ sought_all set.audio w, f.sub ∙ sought_all set.sub w)

tracks_waiting : (set : Choice) (starts : Starts) (w : ℕ → Bool) → AreStartsFor (kept_of set w) starts → StartsOf set (λ k. false || w k) starts
tracks_waiting set starts w f = (f.video ∙ sought_kept set.video w, f.audio ∙ sought_kept set.audio w, f.sub ∙ sought_kept set.sub w)

-- what a record of starts has to tell
pub record MayTell (film : Film) (h : List DemuxRecord) (starts : Starts) : Type 0 where
  pub may : MayFind film h starts
  pub marked : IsRegular film.packets film.known → starts.mark ≡ film.mark_at (place_of_starts starts)

well_of : (h : List DemuxRecord) (failure : Option Failure) → failed h ≡ is_some (option_map failure_record failure) → failure ≡ None → failed h ≡ false
well_of h failure e sound = e ∙ ap (λ (o : Option Failure). is_some (option_map failure_record o)) sound

-- after a seek
may_sought : (film : Film) (limits : Limits) (set : Choice) (current : Option RangeState) (others : List RangeState) (heads : Heads)
    (seeking : Option Target) (waiting : Choice) (switch : Switch) (failure : Option Failure) (ended : Choice) (h : List DemuxRecord) (starts : Starts) (s : Target)
    → Fits film limits set current others heads seeking waiting switch failure ended h → failure ≡ None → seeking ≡ Some s → AreStartsFor set starts
    → AreFilmStarts film starts set (start_of film.packets set s.dir s.t) → MayTell film h starts
may_sought film limits set current others heads seeking waiting switch failure ended h starts s f sound seek fit are =
    let ps = film.packets in
    let pend : pending h ≡ true = f.seeks ∙ ap (λ (o : Option Target). is_some o) seek in
    let from : (track : ℕ) → has set track ≡ true → read_from ps track h ≡ start_of ps set s.dir s.t track =
    subst (λ (o : Option Target). IfSome o (λ s. (track : ℕ) → has set track ≡ true → read_from ps track h ≡ start_of ps set s.dir s.t track)) seek f.sought_at in
    let marks = at_mark set starts fit in
    record {
      may = record {
        sound = well_of h failure (ap (λ (o : Option DemuxRecord). is_some o) f.failure_is) sound;
        some = rw pend refl;
        tracks = subst (λ (p : Bool). StartsOf (selected h) (λ k. p || waits k h) starts) (sym pend)
            (subst (λ (c : Choice). StartsOf c (λ k. true || waits k h) starts) (sym f.set_is) (tracks_sought set starts (λ k. waits k h) fit));
        exact = λ reg. subst (λ (c : Choice). EachStart c starts (λ track start. IfSome start (λ block. block ≡ read_from ps track h))) (sym f.set_is)
            (exact_all set starts (start_of ps set s.dir s.t) (λ k. read_from ps k h) (λ k e. sym (from k e)) (are.exact reg));
        least = subst (λ (c : Choice). EachStart c starts (λ track start. IfSome start (λ block. starts.mark.pos ≤ block))) (sym f.set_is) (least_all set starts marks);
      };
      marked = are.marked;
    }

-- after a switch
may_waiting : (film : Film) (limits : Limits) (set : Choice) (current : Option RangeState) (others : List RangeState) (heads : Heads)
    (seeking : Option Target) (waiting : Choice) (switch : Switch) (failure : Option Failure) (ended : Choice) (h : List DemuxRecord) (starts : Starts)
    → Fits film limits set current others heads seeking waiting switch failure ended h → failure ≡ None → seeking ≡ None → is_empty waiting ≡ false → AreStartsFor waiting starts
    → AreFilmStarts film starts waiting (switch_start film.packets switch.lead waiting switch.at) → MayTell film h starts
may_waiting film limits set current others heads seeking waiting switch failure ended h starts f sound calm some fit are =
    let ps = film.packets in
    let W : ℕ → Bool = λ k. waits k h in
    let pend : pending h ≡ false = f.seeks ∙ ap (λ (o : Option Target). is_some o) calm in
    let marks = at_mark waiting starts fit in
    let kept : AreStartsFor (kept_of set W) starts = subst (λ (c : Choice). AreStartsFor c starts) f.waits_are fit in
    let exact : IsRegular ps film.known → EachStart (kept_of set W) starts (λ track start. IfSome start (λ block. block ≡ read_from ps track h)) =
    λ reg. subst (λ (c : Choice). EachStart c starts (λ track start. IfSome start (λ block. block ≡ read_from ps track h))) f.waits_are
    (exact_all waiting starts (switch_start ps switch.lead waiting switch.at) (λ k. read_from ps k h) (λ k e. sym (f.added_at k e)) (are.exact reg)) in
    let one : some_of set W ≡ true = some_kept set.video set.audio set.sub W (subst (λ (c : Choice). is_empty c ≡ false) f.waits_are some) in
    record {
      may = record {
        sound = well_of h failure (ap (λ (o : Option DemuxRecord). is_some o) f.failure_is) sound;
        some = subst (λ (p : Bool). (p || some_of (selected h) W) ≡ true) (sym pend) (subst (λ (c : Choice). some_of c W ≡ true) (sym f.set_is) one);
        tracks = subst (λ (p : Bool). StartsOf (selected h) (λ k. p || waits k h) starts) (sym pend)
            (subst (λ (c : Choice). StartsOf c (λ k. false || waits k h) starts) (sym f.set_is) (tracks_waiting set starts W kept));
        exact = λ reg.
            let x = exact reg in
            subst (λ (c : Choice). EachStart c starts (λ track start. IfSome start (λ block. block ≡ read_from ps track h))) (sym f.set_is) (
              of_kept set.video starts.video W (λ k. read_from ps k h) kept.video x.0,
              of_kept set.audio starts.audio W (λ k. read_from ps k h) kept.audio x.1,
              of_kept set.sub starts.sub W (λ k. read_from ps k h) kept.sub x.2,
            );
        least = subst (λ (c : Choice). EachStart c starts (λ track start. IfSome start (λ block. starts.mark.pos ≤ block))) (sym f.set_is) (least_all set starts marks);
      };
      marked = are.marked;
    }

-- ---- of the job that is kept

may_job : (film : Film) (d : DemuxState) (starts : Starts) (job : Job) → IsDemux d → KeepsJob d job → StartsFit starts job → AreStartsOf film starts job
    → Fits film d.cache.limits d.set d.cache.current d.cache.others d.heads d.seeking d.waiting d.switch d.failure d.ended (reverse d.journal) → MayTell film (reverse d.journal) starts
may_job film d starts (SeekTo n set t dir) i k fit are f =
    let s : Target = record { t = t; dir = dir } in
    may_sought film d.cache.limits d.set d.cache.current d.cache.others d.heads d.seeking d.waiting d.switch d.failure d.ended (reverse d.journal) starts s f k.sound k.is.2
    (subst (λ (c : Choice). AreStartsFor c starts) k.is.1 fit) (subst (λ (c : Choice). AreFilmStarts film starts c (start_of film.packets c dir t)) k.is.1 are)
may_job film d starts (Refresh n added lead at) i k fit are f =
    let some : is_empty d.waiting ≡ false = subst (λ (w : Choice). is_empty w ≡ false) k.is.1 k.is.2 in
    let lead_is : d.switch.lead ≡ lead = ap (λ (s : Switch). s.lead) k.is.3 in
    let at_is : d.switch.at ≡ at = ap (λ (s : Switch). s.at) k.is.3 in
    let own : AreFilmStarts film starts d.waiting (switch_start film.packets d.switch.lead d.waiting d.switch.at) =
    subst (λ (l : Option ℕ). AreFilmStarts film starts d.waiting (switch_start film.packets l d.waiting d.switch.at)) (sym lead_is)
    (subst (λ (z : ℤ). AreFilmStarts film starts d.waiting (switch_start film.packets lead d.waiting z)) (sym at_is)
    (subst (λ (c : Choice). AreFilmStarts film starts c (switch_start film.packets lead c at)) k.is.1 are)) in
    may_waiting film d.cache.limits d.set d.cache.current d.cache.others d.heads d.seeking d.waiting d.switch d.failure d.ended (reverse d.journal) starts f k.sound
    (no_seek d.set d.heads d.waiting d.seeking d.cache.current i.placed some) some (subst (λ (c : Choice). AreStartsFor c starts) k.is.1 fit) own
may_job film d starts (Resume n mark) i k fit are f = absurd fit
may_job film d starts (Read n) i k fit are f = absurd fit
may_job film d starts Idle i k fit are f = absurd fit

may_kept : (film : Film) (d : DemuxState) (starts : Starts) (o : Option Job) → IsDemux d → IfSome o (KeepsJob d) → IsSomeAnd o (StartsFit starts) → IfSome o (AreStartsOf film starts)
    → Fits film d.cache.limits d.set d.cache.current d.cache.others d.heads d.seeking d.waiting d.switch d.failure d.ended (reverse d.journal) → MayTell film (reverse d.journal) starts
may_kept film d starts None i k fit are f = absurd fit
may_kept film d starts (Some job) i k fit are f = may_job film d starts job i k fit are f

pub may_tell : (film : Film) (d : DemuxState) (starts : Starts) → IsDemux d → IsSomeAnd d.kept (StartsFit starts) → IfSome d.kept (AreStartsOf film starts)
    → Fits film d.cache.limits d.set d.cache.current d.cache.others d.heads d.seeking d.waiting d.switch d.failure d.ended (reverse d.journal) → MayTell film (reverse d.journal) starts
may_tell film d starts i fit are f = may_kept film d starts d.kept i i.kept fit are f
