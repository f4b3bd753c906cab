-- A driver begins at the opening of its film, whose tracks the demuxer has.
use Rattle.std.proofs.Common.{◌≡◌, ℕ, Bool, true, false, ◌&&◌, ◌==◌, List, [], ◌∷◌, map, Option, Some, None, Result, Ok, Err, refl, sym, ap, subst, nat_eq, inl, inr}
use Rattle.std.proofs.lemmas.Bool.{cond_both, cases_Bool, and_parts, eqb-true, eqb-false, eq-eqb, ne_eqb}
use Rattle.std.proofs.lemmas.Map.Keys.{IsDistinct-head, IsDistinct-tail}
use Rattle.std.specs.Prelude.{IfOk, IfSome, IsSomeAnd, find, not}
use Rattle.std.specs.List.{AllByRecursion}
use Rattle.mc_outside.specs.Shelf.{AreBytes}
use Rattle.mc_packet.specs.declared.cache.Limits.{Limits}
use Rattle.mc_packet.specs.declared.choice.Choice.{Choice}
use Rattle.mc_packet.specs.declared.choice.Kind.{Kind}
use Rattle.mc_packet.specs.declared.choice.Kind.TheVariants.{Video, Audio, Sub}
use Rattle.mc_tracks.specs.declared.refused.Refused.{Refused}
use Rattle.mc_tracks.specs.declared.track.Track.{Track}
use Rattle.mc_tracks.specs.Answer.{◌>>=◌}
use Rattle.mc_tracks.specs.Header.{ebml_header_of}
use Rattle.mc_tracks.specs.TrackList.{numbered, is_of, or_else, preferred, number_of, default_choice_of, HaveDistinctNumbers, IsTrackList}
use Rattle.mc_walk.specs.declared.plan.Plan.{Plan}
use Rattle.mc_walk.specs.Opening.{segment_of, header_of, plan_of, opened_film}
use Rattle.mc_walk.specs.Parts.{IsMark}
use Rattle.mc_walk.specs.Parts.IsMark.{at_opening}
use Rattle.mc_walk.proofs.Opened.{opened-lies}
use Rattle.mc_packet.specs.Choices.{passes, is_other, is_known}
use Rattle.mc_journal.specs.Films.{is_listed}
use Rattle.mc_cursor.specs.declared.cursor.Cursor.{Cursor}
use Rattle.mc_cursor.specs.Standing.{StandsFor as CursorStandsFor, plan_for}
use Rattle.mc_index.specs.declared.index.Index.{Index}
use Rattle.mc_tracks.specs.Selection.{is_listed_as, is_coded, knows}
use Rattle.mc_index.specs.Scans.{IsIndexOf, IsPlan}
use Rattle.mc_range.specs.Range.{RangeState, IsBegun}
use Rattle.mc_cache.specs.Cache.{in_front}
use Rattle.mc_calls.specs.State.{DemuxState}
use Rattle.mc_calls.specs.Film.{StandsFor}
use Rattle.mc_calls.specs.Opening.{HasTracks, IsOpened, first_starts}
use Rattle.mc_filmed.specs.Films.{film_for}
use Rattle.mc_jobs.specs.Driving.{StandTogether}
use Rattle.mc_jobs.proofs.Listing.{is-film}

-- ---- the film's tracks

-- the film of a plan has the plan's tracks
pub has-tracks : (plan : Plan) → IsPlan plan → AreBytes plan.octets → HasTracks plan.tracks (film_for plan)
has-tracks plan is all = record { film_is = is-film plan is all; known = λ kind track. refl }

-- ---- the first choice of tracks

-- another number than that of the track in front
abbrev IsOther : ℕ → Track → Type 0
IsOther n t = nat_eq n t.no ≡ false

others : (n : ℕ) (ts : List Track) → AllByRecursion (λ m. nat_eq n m ≡ false) (map (λ (t : Track). t.no) ts) → AllByRecursion (IsOther n) ts
others n [] h = tt
others n (t ∷ ts) h = (h.0, others n ts h.1)

found-has : (P : Track → Type 0) (test : Track → Bool) (ts : List Track) → AllByRecursion P ts → IfSome (find test ts) P
found-has P test [] all = tt
found-has P test (t ∷ ts) all = cond_both (test t) _ _ (λ (o : Option Track). IfSome o P) (λ e. all.0) (λ e. found-has P test ts all.1)

-- a track that is the one of its number and passes a test
record IsNumbered (test : Track → Bool) (tracks : List Track) (t : Track) : Type 0 where
  one : numbered t.no tracks ≡ Some t
  passed : test t ≡ true

behind : (test : Track → Bool) (t : Track) (ts : List Track) (o : Option Track) → IfSome o (IsOther t.no) → IfSome o (IsNumbered test ts) → IfSome o (IsNumbered test (t ∷ ts))
behind test t ts None other is = tt
behind test t ts (Some u) other is =
    let apart : (u.no == t.no) ≡ false = ne_eqb u.no t.no (λ e. eqb-false t.no u.no other (sym e)) in
    record { one = rw apart is.one; passed = is.passed }

found-numbered : (test : Track → Bool) (ts : List Track) → HaveDistinctNumbers ts → IfSome (find test ts) (IsNumbered test ts)
found-numbered test [] distinct = tt
found-numbered test (t ∷ ts) distinct =
    cond_both (test t) _ _ (λ (o : Option Track). IfSome o (IsNumbered test (t ∷ ts)))
    (λ e. record { one = rw (eq-eqb t.no t.no refl) refl; passed = e })
    (λ e. behind test t ts (find test ts) (found-has (IsOther t.no) test ts (others t.no ts (IsDistinct-head nat_eq t.no (map (λ (u : Track). u.no) ts) distinct)))
    (found-numbered test ts (IsDistinct-tail nat_eq t.no (map (λ (u : Track). u.no) ts) distinct)))

number-known : (kind : Kind) (tracks : List Track) (o : Option Track) → IfSome o (IsNumbered (λ t. is_of kind t.kind && not t.encoded) tracks) → passes (number_of o) (knows tracks kind) ≡ true
number-known kind tracks None is = refl
number-known kind tracks (Some t) is = rw is.one is.passed

either-has : (P : Track → Type 0) (a b : Option Track) → IfSome a P → IfSome b P → IfSome (or_else a b) P
either-has P None b h g = g
either-has P (Some t) b h g = h

weaker-test : (test other : Track → Bool) (tracks : List Track) (o : Option Track) → ((t : Track) → test t ≡ true → other t ≡ true) → IfSome o (IsNumbered test tracks) → IfSome o (IsNumbered other tracks)
weaker-test test other tracks None weaker is = tt
weaker-test test other tracks (Some t) weaker is = record { one = is.one; passed = weaker t is.passed }

-- the preferred track of a kind is known
preferred-known : (kind : Kind) (tracks : List Track) → HaveDistinctNumbers tracks → passes (number_of (preferred kind tracks)) (knows tracks kind) ≡ true
preferred-known kind tracks distinct =
    let readable : Track → Bool = λ t. is_of kind t.kind && not t.encoded in
    let first : Track → Bool = λ t. is_of kind t.kind && not t.encoded && t.default in
    number-known kind tracks (preferred kind tracks)
    (either-has (IsNumbered readable tracks) (find first tracks) (find readable tracks)
    (weaker-test first readable tracks (find first tracks) (λ t e. (and_parts (is_of kind t.kind && not t.encoded) t.default e).0) (found-numbered first tracks distinct))
    (found-numbered readable tracks distinct))

no-kind : (a : Kind) → is_of Video a ≡ true → is_of Audio a ≡ true → ⊥
no-kind Video v a = cc
no-kind Audio v a = cc
no-kind Sub v a = cc

no-track : (t : Option Track) → is_listed_as Video t ≡ true → is_listed_as Audio t ≡ true → ⊥
no-track None v a = cc
no-track (Some t) v a = no-kind t.kind v a

apart : (tracks : List Track) (v a : Option ℕ) → passes v (knows tracks Video) ≡ true → passes a (knows tracks Audio) ≡ true → is_other v a ≡ true
apart tracks None a video audio = refl
apart tracks (Some m) None video audio = refl
apart tracks (Some m) (Some n) video audio = elim (cases_Bool (m == n)) [
  | inl y ↦
      let v = (and_parts (is_listed_as Video (numbered m tracks)) (not (is_coded (numbered m tracks))) video).0 in
      let a = (and_parts (is_listed_as Audio (numbered n tracks)) (not (is_coded (numbered n tracks))) audio).0 in
      absurd (no-track (numbered n tracks) (subst (λ k. is_listed_as Video (numbered k tracks) ≡ true) (eqb-true m n y) v) a)
  | inr o ↦ rw o refl
]

no-other : (o : Option ℕ) → is_other o None ≡ true
no-other None = refl
no-other (Some n) = refl

-- the tracks that are played at first are listed, each under its kind
pub default-known : (tracks : List Track) → IsTrackList tracks → is_known (knows tracks) (default_choice_of tracks) ≡ true
unfolding default_choice_of
default-known tracks is =
    let video = number_of (preferred Video tracks) in
    let audio = number_of (preferred Audio tracks) in
    let v = preferred-known Video tracks is.distinct in
    let a = preferred-known Audio tracks is.distinct in
    rw (v, a, apart tracks video audio v a, no-other video, no-other audio) refl

-- ---- what a film opens with

then-ok : {X Y : Type 0} (P : Y → Type 0) (r : Result X Refused) (f : X → Result Y Refused) → ((x : X) → IfOk (f x) P) → IfOk (r >>= f) P
then-ok P (Ok x) f each = each x
then-ok P (Err e) f each = tt

opens-octets : (octets : List ℕ) → IfOk (opened_film octets) (λ plan. plan.octets ≡ octets)
unfolding opened_film
opens-octets octets =
    let P : Plan → Type 0 = λ plan. plan.octets ≡ octets in
    then-ok P (ebml_header_of octets) _ (λ from.
    then-ok P (segment_of octets from) _ (λ segment.
    then-ok P (header_of octets segment) (λ h. Ok (plan_of octets segment h)) (λ h. refl)))

-- the plan of a film is over the film's octets
pub opened-plan : (octets : List ℕ) (plan : Plan) → opened_film octets ≡ Ok plan → IsPlan plan × (plan.octets ≡ octets)
opened-plan octets plan is = (
  subst (λ (r : Result Plan Refused). IfOk r IsPlan) is (opened-lies octets),
  subst (λ (r : Result Plan Refused). IfOk r (λ p. p.octets ≡ octets)) is (opens-octets octets),
)

-- ---- the driver

opening-marks : (plan : Plan) (set : Choice) (current : Option RangeState) (others : List RangeState) → IsSomeAnd current (IsBegun set (first_starts set)) → others ≡ []
    → AllByRecursion (λ (r : RangeState). IsMark plan r.mark) (in_front current others)
opening-marks plan set None others begun alone = absurd begun
opening-marks plan set (Some r) others begun alone =
    subst (λ (rs : List RangeState). AllByRecursion (λ (r : RangeState). IsMark plan r.mark) (r ∷ rs)) (sym alone)
    (subst (IsMark plan) (sym begun.mark_is) at_opening, tt)

-- a demuxer that was just made stands with the cursor and the index of its film
pub begins-together : (octets : List ℕ) (list : List Track) (set : Choice) (limits : Limits) (c : Cursor) (x : Index) (d : DemuxState) → CursorStandsFor octets c
    → IsIndexOf (plan_for octets c) x → IsOpened list set limits d → StandsFor (film_for (plan_for octets c)) d → StandTogether octets d c x
begins-together octets list set limits c x d cursor index opened film =
    let plan = plan_for octets c in
    record {
      demux_is = film;
      cursor_is = cursor;
      index_is = index;
      marks = opening-marks plan set d.cache.current d.cache.others opened.current opened.no_others;
      lead = subst (λ lead. passes lead (is_listed (knows plan.tracks)) ≡ true) (sym (ap (λ (d : DemuxState). d.switch.lead) opened.changed)) refl;
    }
