-- A selection that is out is of the film's tracks, by whose numbers the demuxer selects just these.
use Rattle.std.proofs.Common.{◌≡◌, ◌⊎◌, inl, inr, ℕ, true, List, [], ◌∷◌, Option, Some, None, ℤ, refl, sym, subst, ◌∙◌}
use Rattle.std.specs.Prelude.{slice_get}
use Rattle.std.proofs.lemmas.Bool.{true≢false}
use Rattle.mc_packet.specs.Choices.{is_known}
use Rattle.mc_packet.specs.declared.choice.Choice.{Choice}
use Rattle.mc_tracks.specs.declared.track.Track.{Track}
use Rattle.mc_tracks.specs.Selection.{choice_of, knows, numbers_of, refusal_of}
use Rattle.mc_tracks.proofs.Selecting.{numbers_select}
use Rattle.mc_props.specs.declared.facts.Facts.{Facts}
use Rattle.mc_journal.specs.Films.{Film}
use Rattle.mc_player.specs.declared.deed.Deed.{Deed}
use Rattle.mc_player.specs.declared.deed.Deed.TheVariants as deed
use Rattle.mc_player.specs.declared.record.Order.{Order}
use Rattle.mc_player.specs.declared.record.Order.TheVariants as order
use Rattle.mc_player.specs.declared.record.Outcome.TheVariants as outcome
use Rattle.mc_player.specs.declared.record.CoreRecord.{CoreRecord}
use Rattle.mc_player.specs.declared.record.CoreRecord.TheVariants.{Learned, Took, Did}
use Rattle.mc_player.specs.Deeds.{after_deed}
use Rattle.mc_player.specs.Facts.{deed_at, facts_of}
use Rattle.mc_player.specs.Journals.{out, queued}
use Rattle.mc_player.specs.Knowing.{Selects}
use Rattle.mc_player.specs.Lives.{Table}
use Rattle.mc_player.specs.Orders.{AreLoads, Opening}
use Rattle.mc_player.specs.Rules.{IsAllowed}
use Rattle.mc_player.proofs.Knowing.{knows_tracks}
use Rattle.mc_story.specs.Steps.{Both}
use Rattle.mc_story.specs.Tie.{IsTied}

-- no request changes the tracks
deed_tracks : (d : Deed) (f : Facts) → (after_deed d f).tracks ≡ f.tracks
deed_tracks (deed.Pauses on) f = refl
deed_tracks (deed.Mutes on) f = refl
deed_tracks d f = refl

-- a player has no tracks, or the film's
tracks_are : (w : Opening) (t : Table) (h : List CoreRecord) → AreLoads w h → ((facts_of t h).tracks ≡ []) ⊎ ((facts_of t h).tracks ≡ w.tracks)
tracks_are w t [] l = inl refl
tracks_are w t (Did by (outcome.Loaded path tracks set) ∷ h) l = inr (loaded_tracks path tracks set l.0)
  where
    loaded_tracks : (path : List ℕ) (tracks : List Track) (set : Choice) → outcome.Loaded path tracks set ≡ outcome.Loaded w.path w.tracks w.set → tracks ≡ w.tracks
    loaded_tracks path tracks set e = cc
tracks_are w t (Did by outcome.Sought ∷ h) l = tracks_are w t h l
tracks_are w t (Did by (outcome.Selected set) ∷ h) l = tracks_are w t h l
tracks_are w t (Did by (outcome.Refused why) ∷ h) l = tracks_are w t h l
tracks_are w t (Learned by v ∷ h) l = tracks_are w t h l
tracks_are w t (Took by c n id ∷ h) l =
    subst (λ (k : List Track). (k ≡ []) ⊎ (k ≡ w.tracks)) (sym (deed_tracks (deed_at t h (facts_of t h) (slice_get (queued h) 0)) (facts_of t h))) (tracks_are w t h l)
tracks_are w t (r ∷ h) l = tracks_are w t h l

-- of no tracks only the empty set is known
none_known : (list : List Track) (set : Choice) → is_known (knows []) set ≡ true → is_known (knows list) set ≡ true
none_known list set e = by_parts set.video set.audio set.sub e
  where
    by_parts : (v a s : Option ℕ) → is_known (knows []) (record { video = v; audio = a; sub = s }) ≡ true → is_known (knows list) (record { video = v; audio = a; sub = s }) ≡ true
    by_parts None None None e = refl
    by_parts (Some v) a s e = absurd (true≢false (sym e))
    by_parts None (Some a) s e = absurd (true≢false (sym e))
    by_parts None None (Some s) e = absurd (true≢false (sym e))

-- the tracks of a selection that is out are known ones of the film
out_known : (w : Opening) (t : Table) (hc : List CoreRecord) (set : Choice) (at : ℤ) → IsAllowed t hc → AreLoads w hc → out hc ≡ Some (order.Select set at) → is_known (knows w.tracks) set ≡ true
out_known w t hc set at a l e =
    let k = knows_tracks t hc a in
    let here : is_known (knows (facts_of t hc).tracks) set ≡ true = subst (λ (o : Option Order). Selects (facts_of t hc) o) e k.ordered in
    elim (tracks_are w t hc l) [
      | inl none ↦ none_known w.tracks set (subst (λ (k : List Track). is_known (knows k) set ≡ true) none here)
      | inr some ↦ subst (λ (k : List Track). is_known (knows k) set ≡ true) some here
    ]

pub known_order : (n : ℕ) (film : Film) (w : Opening) (t : Table) (s : Both) (set : Choice) (at : ℤ) → IsAllowed t s.hc → IsTied n film w s → s.order ≡ Some (order.Select set at)
    → is_known (knows w.tracks) set ≡ true
known_order n film w t s set at a i e = out_known w t s.hc set at a i.loads (sym i.order_is ∙ e)

-- a selection by their numbers does not refuse them
pub selects_known : (n : ℕ) (film : Film) (w : Opening) (t : Table) (s : Both) (set : Choice) (at : ℤ) → IsAllowed t s.hc → IsTied n film w s → s.order ≡ Some (order.Select set at)
    → (refusal_of w.tracks (numbers_of set) ≡ None) × (choice_of w.tracks (numbers_of set) ≡ set)
selects_known n film w t s set at a i e = numbers_select w.tracks set (known_order n film w t s set at a i e)
