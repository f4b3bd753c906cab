-- The tracks of one kind, counted down.
use Rattle.std.proofs.Common.{◌≡◌, ◌≢◌, ℕ, zero, suc, ◌+◌, ◌-◌, ◌<◌, List, ◌∷◌, length, drop, get_or, true, false, refl, sym, ap, ◌∙◌, arith}
use Rattle.std.proofs.lemmas.List.{drop_more}
use Rattle.mc_packet.specs.declared.choice.Kind.{Kind}
use Rattle.mc_tracks.specs.declared.track.Track.{Track}
use Rattle.mc_tracks.specs.TrackList.{is_of, track_of_kind}

count : (kind : Kind) (left : ℕ) (t : Track) (rest : List Track) → is_of kind t.kind ≡ true
    → track_of_kind kind (suc (suc left)) (t ∷ rest) ≡ track_of_kind kind (suc left) rest
count kind left t rest e = rw e refl

pass : (kind : Kind) (left : ℕ) (t : Track) (rest : List Track) → is_of kind t.kind ≡ false
    → track_of_kind kind left (t ∷ rest) ≡ track_of_kind kind left rest
pass kind zero t rest e = refl
pass kind (suc left) t rest e = rw e refl

next : (ts : List Track) (i : ℕ) (t : Track) → i < length ts → t ≡ get_or ts i t → drop i ts ≡ t ∷ drop (i + 1) ts
next ts i t lt e = drop_more ts i t lt ∙ ap (λ (u : Track). u ∷ drop (i + 1) ts) (sym e)

-- one of the kind is counted
pub counts : (kind : Kind) (left left' i : ℕ) (t : Track) (ts : List Track) → i < length ts → t ≡ get_or ts i t → is_of kind t.kind ≡ true
    → left ≢ 0 → left ≢ 1 → left' ≡ left - 1 → track_of_kind kind left (drop i ts) ≡ track_of_kind kind left' (drop (i + 1) ts)
counts kind zero left' i t ts lt e is some more one = absurd (some refl)
counts kind (suc zero) left' i t ts lt e is some more one = absurd (more refl)
counts kind (suc (suc left)) left' i t ts lt e is some more one =
    let k : left' ≡ suc left = omega arith in rw (next ts i t lt e, k) (count kind left t (drop (i + 1) ts) is)

-- another is passed by
pub passes : (kind : Kind) (left i : ℕ) (t : Track) (ts : List Track) → i < length ts → t ≡ get_or ts i t → is_of kind t.kind ≡ false
    → track_of_kind kind left (drop i ts) ≡ track_of_kind kind left (drop (i + 1) ts)
passes kind left i t ts lt e isnt = rw (next ts i t lt e) (pass kind left t (drop (i + 1) ts) isnt)
