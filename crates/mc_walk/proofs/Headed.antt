-- What stands before the Clusters of a film that is not refused: a scale that is not 0, and a list of tracks.
use Rattle.std.proofs.Common.{◌≡◌, ◌≢◌, ℕ, ◌<◌, Bool, true, false, cond, List, Option, Some, None, Result, Ok, Err, IfOk, refl, subst, arith, nat_lt}
use Rattle.std.proofs.lemmas.Bool.{cond_both, eqb-false}
use Rattle.std.specs.Prelude.{◌==◌}
use Rattle.mc_ebml.specs.Ids.{INFO, TRACKS, TIMESTAMP_SCALE}
use Rattle.mc_ebml.specs.declared.whole.WholeElement.{WholeElement}
use Rattle.mc_tracks.specs.declared.children.Master.TheVariants as masters
use Rattle.mc_tracks.specs.declared.refused.Refused.{Refused}
use Rattle.mc_tracks.specs.declared.refused.Refused.TheVariants.{ScaleZero}
use Rattle.mc_tracks.specs.declared.track.Track.{Track}
use Rattle.mc_tracks.specs.Children.{children_of, first}
use Rattle.mc_tracks.specs.Header.{body_of, ebml_header_of, info_of, integer, positive_scale, tracks_of, unless_broken, TracksAreListed}
use Rattle.mc_tracks.specs.TrackList.{IsTrackList}
use Rattle.mc_walk.specs.declared.plan.Header.{Header}
use Rattle.mc_walk.specs.declared.plan.Plan.{Plan}
use Rattle.mc_walk.specs.declared.plan.Segment.{Segment}
use Rattle.mc_walk.specs.Opening.{first_child, header_by, header_of, info_in, info_then_tracks, is_too_large, opened_film, plan_of, segment_of, tracks_in, tracks_then_info, without_info, without_tracks}
use Rattle.mc_walk.proofs.Opened.{any, if_ok-then, Any}

abbrev IsPositive : ℕ → Type 0
IsPositive scale = 0 < scale

abbrev HasShape : Header → Type 0
HasShape h = (0 < h.scale) × IsTrackList h.tracks

positive : (n : ℕ) → IfOk (positive_scale n) IsPositive
positive n = by (n == 0) refl
  where
    by : (b : Bool) → (n == 0) ≡ b → IfOk (cond b (Err ScaleZero) (Ok n)) IsPositive
    by true e = tt
    by false e = let differs : n ≢ 0 = eqb-false n 0 e in omega (arith, differs)

info_positive : (body : List ℕ) (at : ℕ) → IfOk (info_of body at) IsPositive
unfolding info_of
info_positive body at =
    if_ok-then Any IsPositive (unless_broken at (children_of masters.Info body).broken) _ (any (unless_broken at (children_of masters.Info body).broken))
    (λ _ _. positive (integer body 1000000 (first TIMESTAMP_SCALE (children_of masters.Info body).whole)))

info_shape : (octets : List ℕ) (c : WholeElement) → IfOk (info_in octets c) IsPositive
info_shape octets c = cond_both (is_too_large c) _ _ (λ r. IfOk r IsPositive) (λ e. tt) (λ e. info_positive (body_of octets c) c.at)

listed : (law : TracksAreListed) (body : List ℕ) (at : ℕ) (r : Result (List Track) Refused) → tracks_of body at ≡ r → IfOk r IsTrackList
listed law body at (Err e) is = tt
listed law body at (Ok tracks) is = law body at tracks is

tracks_shape : (law : TracksAreListed) (octets : List ℕ) (c : WholeElement) → IfOk (tracks_in octets c) IsTrackList
tracks_shape law octets c =
    cond_both (is_too_large c) _ _ (λ r. IfOk r IsTrackList) (λ e. tt) (λ e. listed law (body_of octets c) c.at (tracks_of (body_of octets c) c.at) refl)

info_first : (law : TracksAreListed) (octets : List ℕ) (i t : WholeElement) → IfOk (info_then_tracks octets i t) HasShape
info_first law octets i t =
    if_ok-then IsPositive HasShape (info_in octets i) _ (info_shape octets i) (λ scale p.
    if_ok-then IsTrackList HasShape (tracks_in octets t) _ (tracks_shape law octets t) (λ list l. (p, l)))

tracks_first : (law : TracksAreListed) (octets : List ℕ) (i t : WholeElement) → IfOk (tracks_then_info octets i t) HasShape
tracks_first law octets i t =
    if_ok-then IsTrackList HasShape (tracks_in octets t) _ (tracks_shape law octets t) (λ list l.
    if_ok-then IsPositive HasShape (info_in octets i) _ (info_shape octets i) (λ scale p. (p, l)))

no_tracks : (r : Result ℕ Refused) → IfOk (without_tracks r) HasShape
no_tracks (Ok scale) = tt
no_tracks (Err e) = tt

no_info : (r : Result (List Track) Refused) → IfOk (without_info r) HasShape
no_info (Ok list) = tt
no_info (Err e) = tt

by_children : (law : TracksAreListed) (octets : List ℕ) (i t : Option WholeElement) → IfOk (header_by octets i t) HasShape
by_children law octets None None = tt
by_children law octets (Some i) None = no_tracks (info_in octets i)
by_children law octets None (Some t) = no_info (tracks_in octets t)
by_children law octets (Some i) (Some t) =
    cond_both (nat_lt i.place t.place) _ _ (λ r. IfOk r HasShape) (λ e. info_first law octets i t) (λ e. tracks_first law octets i t)

header_shape : (law : TracksAreListed) (octets : List ℕ) (s : Segment) → IfOk (header_of octets s) HasShape
unfolding header_of
header_shape law octets s = by_children law octets (first_child octets s INFO) (first_child octets s TRACKS)

abbrev PlanShape : Plan → Type 0
PlanShape plan = (0 < plan.scale) × IsTrackList plan.tracks

plan_shape : (law : TracksAreListed) (octets : List ℕ) → IfOk (opened_film octets) PlanShape
unfolding opened_film
plan_shape law octets =
    if_ok-then Any PlanShape (ebml_header_of octets) _ (any (ebml_header_of octets)) (λ at _.
    if_ok-then Any PlanShape (segment_of octets at) _ (any (segment_of octets at)) (λ segment _.
    if_ok-then HasShape PlanShape (header_of octets segment) (λ h. Ok (plan_of octets segment h)) (header_shape law octets segment) (λ h shape. shape)))

pub plans_have_shape : (law : TracksAreListed) (octets : List ℕ) (plan : Plan) → opened_film octets ≡ Ok plan → (0 < plan.scale) × IsTrackList plan.tracks
plans_have_shape law octets plan is = subst (λ (r : Result Plan Refused). IfOk r PlanShape) is (plan_shape law octets)
