-- What is told of a demuxer is what its journal says.
use Rattle.std.proofs.Common.{◌≡◌, ℕ, ◌-◌, ◌==◌, Bool, true, false, ◌&&◌, ◌||◌, not, Option, Some, None, List, [], ◌∷◌, ◌++◌, refl, ap, sym, subst, ◌∙◌, inl, inr}
use Rattle.std.specs.Prelude.{ℤ, map, reverse, sum_by}
use Rattle.std.specs.List.{find}
use Rattle.std.proofs.lemmas.Bool.{cases_Bool, eqb-true}
use Rattle.mc_packet.specs.declared.choice.Choice.{Choice}
use Rattle.mc_packet.specs.declared.cache.CacheView.{CacheView}
use Rattle.mc_packet.specs.declared.cache.RangeView.{RangeView}
use Rattle.mc_packet.specs.declared.walk.Ending.{Ending}
use Rattle.mc_journal.specs.declared.record.DemuxRecord.{DemuxRecord}
use Rattle.mc_journal.specs.declared.record.DemuxRecord.TheVariants.{Opened, Sought, Gave, Ended, Shown}
use Rattle.mc_packet.specs.declared.packet.Packet.{Packet}
use Rattle.mc_packet.specs.Choices.{has, is_empty, is_track, lead_of, passes}
use Rattle.mc_journal.specs.Choices.{each_of, kept_of, kept_track}
use Rattle.mc_journal.specs.Films.{Film}
use Rattle.mc_journal.specs.Stands.{Stand, stand, ranges_of as stand_ranges}
use Rattle.mc_journal.specs.Used.{is_still}
use Rattle.mc_journal.specs.Views.{begins_in, ending_in, forward_in, head, plays, range_shown, range_weight, time_of, view, was_ended}
use Rattle.mc_cache.specs.Cache.{CacheState, stand_of}
use Rattle.mc_cache.specs.Placed.{AllFramed}
use Rattle.mc_cache.proofs.Viewed.{back_shown, bof_shown, ending_shown, forward_shown, ranges_shown}
use Rattle.mc_calls.specs.State.{DemuxState}
use Rattle.mc_calls.specs.Demuxers.{IsDemux}
use Rattle.mc_calls.specs.Film.{Fits, StandsFor}
use Rattle.mc_calls.specs.Viewing.{IsShown, is_ended, play_told, tells_play, tells_time, time_told, view_of}
use Rattle.mc_calls.proofs.Failing.{reverse-push}
use Rattle.mc_calls.proofs.Quiet.{shown_step}
use Rattle.mc_calls.proofs.Seeking.{has_audio, has_sub, has_video}
use Rattle.mc_calls.proofs.Turned.{holds_all, stand_is}
use Rattle.mc_calls.proofs.Recalled.{own_tied}

-- ---- the newest record that tells it

pub time_found : (lead : Option ℕ) (h : List DemuxRecord) → time_told (find (tells_time lead) h) ≡ time_of lead h
time_found lead [] = refl
time_found lead (Opened by set ∷ h) = refl
time_found lead (Sought by set t dir how ∷ h) = refl
time_found lead (Gave by n pos time len sum sync key ∷ h) = elim (cases_Bool (is_track lead n)) [ inl y ↦ rw y refl | inr o ↦ rw o (time_found lead h) ]
time_found lead (_ ∷ h) = time_found lead h

pub play_found : (lead : Option ℕ) (h : List DemuxRecord) → play_told (find (tells_play lead) h) ≡ plays lead h
play_found lead [] = refl
play_found lead (Opened by set ∷ h) = refl
play_found lead (Sought by set t dir how ∷ h) = refl
play_found lead (Gave by n pos time len sum sync key ∷ h) = elim (cases_Bool (is_track lead n)) [ inl y ↦ rw y refl | inr o ↦ rw o (play_found lead h) ]
play_found lead (Ended by n ending ∷ h) = elim (cases_Bool (is_track lead n)) [ inl y ↦ rw y refl | inr o ↦ rw o (play_found lead h) ]
play_found lead (_ ∷ h) = play_found lead h

-- ---- the told ends

is_kept : (o : Option ℕ) (test : ℕ → Bool) (k : ℕ) → is_track (kept_track test o) k ≡ (is_track o k && test k)
is_kept None test k = refl
is_kept (Some n) test k = elim (cases_Bool (n == k)) [
  | inl y ↦
      let e : n ≡ k = eqb-true n k y in
      elim (cases_Bool (test n)) [
        | inl t ↦ let u : test k ≡ true = subst (λ i. test i ≡ true) e t in rw (t, y, u) refl
        | inr f ↦ let u : test k ≡ false = subst (λ i. test i ≡ false) e f in rw (f, y, u) refl
      ]
  | inr o ↦ elim (cases_Bool (test n)) [ inl t ↦ rw (t, o) refl | inr f ↦ rw (f, o) refl ]
]

pub both_or : (a b c t : Bool) → ((a && t) || ((b && t) || (c && t))) ≡ ((a || (b || c)) && t)
both_or true b c true = refl
both_or false true c true = refl
both_or false false true true = refl
both_or false false false true = refl
both_or true true true false = refl
both_or true true false false = refl
both_or true false true false = refl
both_or true false false false = refl
both_or false true true false = refl
both_or false true false false = refl
both_or false false true false = refl
both_or false false false false = refl

has_kept : (set : Choice) (test : ℕ → Bool) (k : ℕ) → has (kept_of set test) k ≡ (has set k && test k)
has_kept set test k =
    let v = is_kept set.video test k in
    let a = is_kept set.audio test k in
    let s = is_kept set.sub test k in
    rw (v, a, s) (both_or (is_track set.video k) (is_track set.audio k) (is_track set.sub k) (test k))

passes_same : (o : Option ℕ) (f g : ℕ → Bool) → ((k : ℕ) → o ≡ Some k → f k ≡ g k) → passes o f ≡ passes o g
passes_same None f g h = refl
passes_same (Some k) f g h = h k refl

kept_one : (set : Choice) (test : ℕ → Bool) (k : ℕ) → has set k ≡ true → has (kept_of set test) k ≡ test k
kept_one set test k e = has_kept set test k ∙ rw e refl

each_kept : (set : Choice) (test : ℕ → Bool) → each_of set (has (kept_of set test)) ≡ each_of set test
each_kept set test =
    let v = passes_same set.video (has (kept_of set test)) test (λ k e. kept_one set test k (has_video set k e)) in
    let a = passes_same set.audio (has (kept_of set test)) test (λ k e. kept_one set test k (has_audio set k e)) in
    let s = passes_same set.sub (has (kept_of set test)) test (λ k e. kept_one set test k (has_sub set k e)) in
    ap (λ b. b && (passes set.audio (has (kept_of set test)) && passes set.sub (has (kept_of set test)))) v
    ∙ ap (λ b. passes set.video test && (b && passes set.sub (has (kept_of set test)))) a
    ∙ ap (λ b. passes set.video test && (passes set.audio test && b)) s

-- ---- what is told

-- a look at ranges of a set, of which each track is read on from a place
abbrev view_by : List Packet → Choice → (ℕ → ℕ) → Stand → List DemuxRecord → CacheView
view_by ps set place st h = record {
  ranges = map (range_shown ps set) (stand_ranges st);
  forward = forward_in ps set place st.current;
  back = sum_by (range_weight ps set) (stand_ranges st) - forward_in ps set place st.current;
  bof = begins_in set st.current;
  ending = ending_in st.current;
  time = time_of (lead_of set) h;
  playing = plays (lead_of set) h;
  ended = not (is_empty set) && each_of set (was_ended h);
}

same_view : (ranges ranges' : List RangeView) (forward forward' back back' : ℕ) (bof bof' : Bool) (ending ending' : Option Ending) (time : Option ℤ) (playing ended ended' : Bool)
    → ranges ≡ ranges' → forward ≡ forward' → back ≡ back' → bof ≡ bof' → ending ≡ ending' → ended ≡ ended'
    → (let v : CacheView = record { ranges = ranges; forward = forward; back = back; bof = bof; ending = ending; time = time; playing = playing; ended = ended } in v)
    ≡ (let v : CacheView = record { ranges = ranges'; forward = forward'; back = back'; bof = bof'; ending = ending'; time = time; playing = playing; ended = ended' } in v)
same_view ranges ranges' forward forward' back back' bof bof' ending ending' time playing ended ended' a b c d e f = rw (a, b, c, d, e, f) refl

pub view_stands : (film : Film) (d : DemuxState) → IsDemux d → AllFramed d.cache → StandsFor film d → view_of d ≡ view film.packets (reverse d.journal)
view_stands film d i framed s =
    let ps = film.packets in
    let h = reverse d.journal in
    let place : ℕ → ℕ = λ k. head ps k h in
    let all = holds_all ps d.set d.cache s.fits.held s.fits.all_held i.sets in
    let is = stand_is ps h d.cache s.fits.current_is s.fits.others_are in
    let ended : is_ended d ≡ (not (is_empty d.set) && each_of d.set (was_ended h)) =
    ap (λ (e : Choice). not (is_empty d.set) && each_of d.set (has e)) s.fits.ended_are ∙ ap (λ b. not (is_empty d.set) && b) (each_kept d.set (was_ended h)) in
    let here : view_of d ≡ view_by ps d.set place (stand_of d.cache) h =
    same_view _ _ _ _ _ _ _ _ _ _ (time_of (lead_of d.set) h) (plays (lead_of d.set) h) _ _
    (ranges_shown ps d.set d.cache i.cache all framed) (forward_shown ps d.set d.heads place d.cache i.cache all s.fits.places) (back_shown ps d.set d.heads place d.cache i.cache all s.fits.places)
    (bof_shown ps d.set d.cache i.cache all) (ending_shown d.cache.current) ended in
    here ∙ ap (λ (x : Stand). view_by ps d.set place x h) (sym is) ∙ ap (λ (c : Choice). view_by ps c place (stand ps h) h) (sym s.fits.set_is)

-- ---- and recorded

pub shown_keeps : (film : Film) (old new : DemuxState) (by : ℕ) (shown : CacheView) → shown ≡ view film.packets (reverse old.journal) → IsShown by shown old new → StandsFor film old → StandsFor film new
shown_keeps film old new by shown e k s =
    let own : DemuxRecord = Shown by shown in
    let push : own ∷ reverse old.journal ≡ reverse (old.journal ++ own ∷ []) = sym (reverse-push old.journal own) in
    let fits = shown_step film old.cache.limits old.set old.cache.current old.cache.others old.heads old.seeking old.waiting old.switch old.failure old.ended (reverse old.journal) by shown s.fits s.still e in
    subst (λ (d : DemuxState). StandsFor film d) (sym k.changed) (record {
      fits = subst (λ (x : CacheState). Fits film x.limits old.set x.current x.others old.heads old.seeking old.waiting old.switch old.failure old.ended (reverse (old.journal ++ own ∷ []))) (sym k.cache_is)
          (subst (λ (h : List DemuxRecord). Fits film old.cache.limits old.set old.cache.current old.cache.others old.heads old.seeking old.waiting old.switch old.failure old.ended h) push fits);
      still = subst (λ (h : List DemuxRecord). is_still film.packets h ≡ true) push refl;
      tied = own_tied old own new.cache k.cache_is (record { switch = refl; number = refl; upto = refl; marks = refl }) s.tied;
      known = s.known;
    })
