-- The numbers of tracks that are listed of octets fit 64 bits.
use Rattle.std.proofs.Common.{◌≡◌, ℕ, ◌+◌, ◌-◌, ◌^◌, ◌<◌, Bool, true, false, cond, drop, subst, List, [], ◌∷◌, ◌++◌, length, Option, Some, None, Result, Ok, Err, refl, ap, ◌∙◌, arith, nat_le, is_some}
use Rattle.std.specs.Prelude.{All, IfOk, IfSome, option_map, ◌==◌, slice_range}
use Rattle.std.specs.Result.{result_unwrap_or}
use Rattle.std.proofs.lemmas.List.Elements.{All-push, All-drop, All-take, All-nil}
use Rattle.mc_ebml.specs.declared.read.EbmlError.{EbmlError}
use Rattle.mc_ebml.specs.Element.{uint_of}
use Rattle.mc_ebml.specs.Laws.{IntegersFit}
use Rattle.mc_ebml.specs.Ids.{DEFAULT_DURATION, TRACK_ENTRY, TRACK_NUMBER, TRACK_TYPE, TRACK_UID}
use Rattle.mc_packet.specs.declared.choice.Kind.{Kind}
use Rattle.mc_ebml.specs.declared.whole.WholeElement.{WholeElement}
use Rattle.mc_tracks.specs.declared.children.Master.TheVariants.{Tracks, TrackEntry}
use Rattle.mc_tracks.specs.declared.refused.Refused.{Refused}
use Rattle.mc_tracks.specs.declared.refused.Refused.TheVariants.{NoNumber, TwiceNumber, TooMany}
use Rattle.mc_tracks.specs.declared.track.Track.{Track}
use Rattle.mc_tracks.specs.Answer.{◌>>=◌}
use Rattle.mc_tracks.specs.Children.{Children, children_of, first}
use Rattle.mc_tracks.specs.Header.{body_of, duration, entry_of, integer, kind_of, listed, positive_number, track, tracks_of, unless_broken, with_child, with_track, NumbersFit}
use Rattle.mc_tracks.specs.TrackList.{numbered, HasNumbers}
use Rattle.mc_tracks.proofs.Shape.{bind_ok, not_refused}

abbrev AreOctets : List ℕ → Type 0
AreOctets octets = All (λ b. b < 256) octets

parts_octets : (octets : List ℕ) (a b : ℕ) → AreOctets octets → AreOctets (slice_range octets a b)
parts_octets octets a b are = All-take (λ b. b < 256) (b - a) (drop a octets) (All-drop (λ b. b < 256) a octets are)

or_fits : (r : Result ℕ EbmlError) (otherwise : ℕ) → otherwise < 2 ^ 64 → IfOk r (λ n. n < 2 ^ 64) → result_unwrap_or r otherwise < 2 ^ 64
or_fits (Ok n) otherwise low fits = fits
or_fits (Err e) otherwise low fits = low

cond_fits : (b : Bool) (m n : ℕ) → m < 2 ^ 64 → n < 2 ^ 64 → cond b m n < 2 ^ 64
cond_fits true m n low fits = low
cond_fits false m n low fits = fits

module _ (fit : IntegersFit) where
  integer_fits : (octets : List ℕ) (otherwise : ℕ) (c : Option WholeElement) → AreOctets octets → otherwise < 2 ^ 64 → integer octets otherwise c < 2 ^ 64
  integer_fits octets otherwise None are low = low
  integer_fits octets otherwise (Some c) are low =
      cond_fits (c.at == c.stop) otherwise _ low
      (or_fits (uint_of (body_of octets c)) otherwise low (fit (body_of octets c) (parts_octets octets c.at c.stop are)))

  lasting : (n : ℕ) → n < 2 ^ 64 → IfSome (duration n) (λ d. d < 2 ^ 64)
  lasting n low = by (n == 0)
    where
      by : (b : Bool) → IfSome (cond b None (Some n)) (λ d. d < 2 ^ 64)
      by true = tt
      by false = low

  track_fits : (body : List ℕ) (cs : List WholeElement) (n : ℕ) (kind : Kind) → AreOctets body → n < 2 ^ 64 → HasNumbers (track body cs n kind)
  track_fits body cs n kind are low = record {
    number = low;
    uid = integer_fits body 0 (first TRACK_UID cs) are (omega arith);
    duration = lasting (integer body 0 (first DEFAULT_DURATION cs)) (integer_fits body 0 (first DEFAULT_DURATION cs) are (omega arith));
  }

  of_kind : (body : List ℕ) (cs : List WholeElement) (n : ℕ) (found : Option Kind) (t : Track) → AreOctets body → n < 2 ^ 64
      → ◌≡◌ {A = Result (Option Track) Refused} (Ok (option_map (λ kind. track body cs n kind) found)) (Ok (Some t)) → HasNumbers t
  of_kind body cs n None t are low e = absurd (cc)
  of_kind body cs n (Some kind) t are low e =
      let same : track body cs n kind ≡ t = cc in subst HasNumbers same (track_fits body cs n kind are low)

  entry_fits : (body : List ℕ) (at : ℕ) (t : Track) → AreOctets body → entry_of body at ≡ Ok (Some t) → HasNumbers t
  unfolding entry_of
  entry_fits body at t are e =
      let cs : Children = children_of TrackEntry body in
      let listed : ℕ → Result (Option Track) Refused = λ n. Ok (option_map (λ kind. track body cs.whole n kind) (kind_of (integer body 0 (first TRACK_TYPE cs.whole)))) in
      let whole = bind_ok (unless_broken at cs.broken) (λ _. positive_number (integer body 0 (first TRACK_NUMBER cs.whole)) >>= λ n. listed n) (Some t) e in
      let number = bind_ok (positive_number (integer body 0 (first TRACK_NUMBER cs.whole))) listed (Some t) whole.2 in
      let is = not_refused (integer body 0 (first TRACK_NUMBER cs.whole) == 0) NoNumber (Ok (integer body 0 (first TRACK_NUMBER cs.whole))) number.0 number.1 in
      let same : integer body 0 (first TRACK_NUMBER cs.whole) ≡ number.0 = cc in
      of_kind body cs.whole number.0 (kind_of (integer body 0 (first TRACK_TYPE cs.whole))) t are
      (subst (λ n. n < 2 ^ 64) same (integer_fits body 0 (first TRACK_NUMBER cs.whole) are (omega arith))) number.2

  one_more : (tracks more : List Track) (found : Option Track) → All HasNumbers tracks → ((t : Track) → found ≡ Some t → HasNumbers t)
      → with_track tracks found ≡ Ok more → All HasNumbers more
  one_more tracks more None are each e = let same : tracks ≡ more = cc in subst (λ ts. All HasNumbers ts) same are
  one_more tracks more (Some t) are each e =
      let new = not_refused (is_some (numbered t.no tracks)) TwiceNumber _ more e in
      let room = not_refused (nat_le 64 (length tracks)) TooMany (Ok (tracks ++ t ∷ [])) more new.1 in
      let same : tracks ++ t ∷ [] ≡ more = cc in
      subst (λ ts. All HasNumbers ts) same (All-push HasNumbers tracks t are (each t refl))

  after_child : (body : List ℕ) (at : ℕ) (tracks more : List Track) (c : WholeElement) → AreOctets body → All HasNumbers tracks
      → with_child body at tracks c ≡ Ok more → All HasNumbers more
  after_child body at tracks more c octets are e = by (c.id == TRACK_ENTRY) e
    where
      by : (b : Bool) → cond b (entry_of (body_of body c) (at + c.at) >>= λ t. with_track tracks t) (Ok tracks) ≡ Ok more → All HasNumbers more
      by true e =
          let entry = bind_ok (entry_of (body_of body c) (at + c.at)) (λ t. with_track tracks t) more e in
          one_more tracks more entry.0 are (λ t same. entry_fits (body_of body c) (at + c.at) t (parts_octets body c.at c.stop octets)
          (entry.1 ∙ ap (λ (u : Option Track). Ok u) same)) entry.2
      by false e = let same : tracks ≡ more = cc in subst (λ ts. All HasNumbers ts) same are

  after_children : (body : List ℕ) (at : ℕ) (cs : List WholeElement) (tracks more : List Track) → AreOctets body → All HasNumbers tracks
      → listed body at tracks cs ≡ Ok more → All HasNumbers more
  after_children body at [] tracks more octets are e = let same : tracks ≡ more = cc in subst (λ ts. All HasNumbers ts) same are
  after_children body at (c ∷ cs) tracks more octets are e =
      let one = bind_ok (with_child body at tracks c) (λ ts. listed body at ts cs) more e in
      after_children body at cs one.0 more octets (after_child body at tracks one.0 c octets are one.1) one.2

  pub numbers_fit : NumbersFit
  unfolding tracks_of
  numbers_fit body at tracks octets e =
      let cs : Children = children_of Tracks body in
      let all = bind_ok (listed body at [] cs.whole) (λ more. unless_broken at cs.broken >>= λ _. Ok more) tracks e in
      let end = bind_ok (unless_broken at cs.broken) (λ _. Ok all.0) tracks all.2 in
      let same : all.0 ≡ tracks = cc in
      subst (λ ts. All HasNumbers ts) same (after_children body at cs.whole [] all.0 octets (All-nil HasNumbers) all.1)
