-- The file is loaded at most once, behind its order.
use Rattle.std.proofs.Common.{◌≡◌, ℕ, List, [], ◌∷◌, Option, Some, None, refl, sym, ◌∙◌}
use Rattle.std.specs.Prelude.{IsSomeAnd}
use Rattle.std.proofs.lemmas.Bool.{false_from_ne_true}
use Rattle.mc_packet.specs.declared.choice.Choice.{Choice}
use Rattle.mc_packet.specs.declared.choice.Why.TheVariants as why
use Rattle.mc_tracks.specs.declared.track.Track.{Track}
use Rattle.mc_player.specs.declared.record.Order.{Order}
use Rattle.mc_player.specs.declared.record.Order.TheVariants as order
use Rattle.mc_player.specs.declared.record.Outcome.{Outcome}
use Rattle.mc_player.specs.declared.record.Outcome.TheVariants as outcome
use Rattle.mc_player.specs.declared.record.CoreRecord.{CoreRecord}
use Rattle.mc_player.specs.declared.record.CoreRecord.TheVariants.{Created, Destroyed, Called, Learned, Wrote, Took, Ordered, Did, Pushed, Replied}
use Rattle.mc_player.specs.Journals.{loading, out}
use Rattle.mc_player.specs.Lives.{Table}
use Rattle.mc_player.specs.Orders.{AreLoads, AreOutcomes, IsLoading, IsOf, Loads, LoadsOnce, Opening, is_loaded, opened}
use Rattle.mc_player.specs.Rules.{IsAllowed, IsOutcome, MayOrder}

-- ---- an order

load_ordered : (t : Table) (by : ℕ) (h : List CoreRecord) (o : Order) → MayOrder t h o → IsLoading h → IsLoading (Ordered by o ∷ h)
load_ordered t by h order.Load may k = record {
  ordered = λ e. refl;
  begun = λ e. refl;
  pending = λ e. false_from_ne_true (is_loaded h) (λ y. let on = k.ordered y in let off = may.0 in absurd (cc));
}
load_ordered t by h (order.Seek time dir) may k = record { ordered = k.ordered; begun = λ e. absurd (cc); pending = λ e. absurd (cc) }
load_ordered t by h (order.Select set at) may k = record { ordered = k.ordered; begun = λ e. absurd (cc); pending = λ e. absurd (cc) }
load_ordered t by h order.Idle may k = absurd may
load_ordered t by h order.Finished may k = absurd may

-- ---- an outcome

-- a loaded file is the outcome of its order
is_pending : (o : Option Order) (path : List ℕ) (tracks : List Track) (set : Choice) → IsSomeAnd o (λ p. IsOutcome p (outcome.Loaded path tracks set)) → o ≡ Some order.Load
is_pending None path tracks set i = absurd i
is_pending (Some order.Load) path tracks set i = refl
is_pending (Some (order.Seek time dir)) path tracks set i = absurd i
is_pending (Some (order.Select s at)) path tracks set i = absurd i
is_pending (Some order.Idle) path tracks set i = absurd i
is_pending (Some order.Finished) path tracks set i = absurd i

did_loaded : (by : ℕ) (h : List CoreRecord) (x : Outcome) → IsSomeAnd (out h) (λ p. IsOutcome p x) → IsLoading h → IsLoading (Did by x ∷ h)
did_loaded by h (outcome.Loaded path tracks set) i k =
    record { ordered = λ e. k.begun (is_pending (out h) path tracks set i); begun = λ e. absurd (cc); pending = λ e. absurd (cc) }
did_loaded by h outcome.Sought i k = record { ordered = k.ordered; begun = λ e. absurd (cc); pending = λ e. absurd (cc) }
did_loaded by h (outcome.Selected set) i k = record { ordered = k.ordered; begun = λ e. absurd (cc); pending = λ e. absurd (cc) }
did_loaded by h (outcome.Refused why) i k = record { ordered = k.ordered; begun = λ e. absurd (cc); pending = λ e. absurd (cc) }

same_loading : (r : CoreRecord) (h : List CoreRecord) → is_loaded (r ∷ h) ≡ is_loaded h → loading (r ∷ h) ≡ loading h → out (r ∷ h) ≡ out h → IsLoading h → IsLoading (r ∷ h)
same_loading r h a b c k = record {
  ordered = λ e. b ∙ k.ordered (sym a ∙ e);
  begun = λ e. b ∙ k.begun (sym c ∙ e);
  pending = λ e. a ∙ k.pending (sym c ∙ e);
}

pub is_loading : (t : Table) (h : List CoreRecord) → IsAllowed t h → IsLoading h
is_loading t [] all = record { ordered = λ e. absurd (cc); begun = λ e. absurd (cc); pending = λ e. absurd (cc) }
is_loading t (Ordered by o ∷ h) all = load_ordered t by h o all.0.0.1 (is_loading t h all.1)
is_loading t (Did by x ∷ h) all = did_loaded by h x all.0.0 (is_loading t h all.1)
is_loading t (Created by c name size ∷ h) all = same_loading (Created by c name size) h refl refl refl (is_loading t h all.1)
is_loading t (Destroyed by c ∷ h) all = same_loading (Destroyed by c) h refl refl refl (is_loading t h all.1)
is_loading t (Called by c ticket x a ∷ h) all = same_loading (Called by c ticket x a) h refl refl refl (is_loading t h all.1)
is_loading t (Learned by view ∷ h) all = same_loading (Learned by view) h refl refl refl (is_loading t h all.1)
is_loading t (Wrote by mask f ∷ h) all = same_loading (Wrote by mask f) h refl refl refl (is_loading t h all.1)
is_loading t (Took by c n id ∷ h) all = same_loading (Took by c n id) h refl refl refl (is_loading t h all.1)
is_loading t (Pushed by c e kept ∷ h) all = same_loading (Pushed by c e kept) h refl refl refl (is_loading t h all.1)
is_loading t (Replied by c n e ∷ h) all = same_loading (Replied by c n e) h refl refl refl (is_loading t h all.1)

-- ---- all outcomes

of_one : (w : Opening) (o : Option Order) (x : Outcome) → IsSomeAnd o (λ p. IsOutcome p x) → (o ≡ Some order.Load → x ≡ opened w) → IsSomeAnd o (λ p. IsOf w p x)
of_one w None x i loads = absurd i
of_one w (Some order.Load) x i loads = loads refl
of_one w (Some (order.Seek time dir)) outcome.Sought i loads = tt
of_one w (Some (order.Seek time dir)) (outcome.Refused why.NoTrack) i loads = tt
of_one w (Some (order.Seek time dir)) (outcome.Refused (why.UnknownTrack n)) i loads = absurd i
of_one w (Some (order.Seek time dir)) (outcome.Refused (why.Unsupported n)) i loads = absurd i
of_one w (Some (order.Seek time dir)) (outcome.Refused (why.TwoOfKind n)) i loads = absurd i
of_one w (Some (order.Seek time dir)) (outcome.Loaded path tracks set) i loads = absurd i
of_one w (Some (order.Seek time dir)) (outcome.Selected set) i loads = absurd i
of_one w (Some (order.Select set at)) (outcome.Selected s) i loads = i
of_one w (Some (order.Select set at)) outcome.Sought i loads = absurd i
of_one w (Some (order.Select set at)) (outcome.Refused why) i loads = absurd i
of_one w (Some (order.Select set at)) (outcome.Loaded path tracks s) i loads = absurd i
of_one w (Some order.Idle) x i loads = absurd i
of_one w (Some order.Finished) x i loads = absurd i

-- no other outcome comes to the file's order
not_load : (o : Option Order) (x : Outcome) → IsSomeAnd o (λ p. IsOutcome p x) → ((path : List ℕ) (tracks : List Track) (set : Choice) → x ≡ outcome.Loaded path tracks set → ⊥) → o ≡ Some order.Load → ⊥
not_load None x i other e = absurd i
not_load (Some order.Load) (outcome.Loaded path tracks set) i other e = other path tracks set refl
not_load (Some order.Load) outcome.Sought i other e = i
not_load (Some order.Load) (outcome.Selected set) i other e = i
not_load (Some order.Load) (outcome.Refused why) i other e = i
not_load (Some (order.Seek time dir)) x i other e = absurd (cc)
not_load (Some (order.Select set at)) x i other e = absurd (cc)
not_load (Some order.Idle) x i other e = absurd i
not_load (Some order.Finished) x i other e = absurd i

pub all_loads : (t : Table) (w : Opening) (h : List CoreRecord) → IsAllowed t h → AreLoads w h → Loads w h × AreOutcomes w h
all_loads t w [] all l = (tt, tt)
all_loads t w (Did by (outcome.Loaded path tracks set) ∷ h) all l =
    let p = all_loads t w h all.1 l.1 in
    let k = is_loading t h all.1 in
    ((l.0, k.pending (is_pending (out h) path tracks set all.0.0), p.0), (of_one w (out h) (outcome.Loaded path tracks set) all.0.0 (λ e. l.0), p.1))
all_loads t w (Did by outcome.Sought ∷ h) all l =
    let p = all_loads t w h all.1 l in (p.0, (of_one w (out h) outcome.Sought all.0.0 (λ e. absurd (not_load (out h) outcome.Sought all.0.0 (λ path tracks set s. cc) e)), p.1))
all_loads t w (Did by (outcome.Selected set) ∷ h) all l =
    let p = all_loads t w h all.1 l in (p.0, (of_one w (out h) (outcome.Selected set) all.0.0 (λ e. absurd (not_load (out h) (outcome.Selected set) all.0.0 (λ path tracks s x. cc) e)), p.1))
all_loads t w (Did by (outcome.Refused y) ∷ h) all l =
    let p = all_loads t w h all.1 l in (p.0, (of_one w (out h) (outcome.Refused y) all.0.0 (λ e. absurd (not_load (out h) (outcome.Refused y) all.0.0 (λ path tracks set s. cc) e)), p.1))
all_loads t w (Created by c name size ∷ h) all l = all_loads t w h all.1 l
all_loads t w (Destroyed by c ∷ h) all l = all_loads t w h all.1 l
all_loads t w (Called by c ticket x a ∷ h) all l = all_loads t w h all.1 l
all_loads t w (Learned by view ∷ h) all l = all_loads t w h all.1 l
all_loads t w (Wrote by mask f ∷ h) all l = all_loads t w h all.1 l
all_loads t w (Took by c n id ∷ h) all l = all_loads t w h all.1 l
all_loads t w (Ordered by o ∷ h) all l = all_loads t w h all.1 l
all_loads t w (Pushed by c e kept ∷ h) all l = all_loads t w h all.1 l
all_loads t w (Replied by c n e ∷ h) all l = all_loads t w h all.1 l

pub loads_once : (t : Table) (h : List CoreRecord) → IsAllowed t h → LoadsOnce h
loads_once t h all = (is_loading t h all, λ w l. all_loads t w h all l)
