-- A selection leaves a demuxer that stands for the film.
use Rattle.std.proofs.Common.{◌≡◌, ℕ, ℤ, Bool, true, false, not, Option, Some, None, List, [], ◌∷◌, ◌++◌, refl, ap, sym, subst, ◌∙◌, inl, inr, append_assoc}
use Rattle.std.specs.Prelude.{map, if◌then◌else◌, is_some, find, IfSome, IsSomeAnd, nat_le, reverse}
use Rattle.std.specs.List.{AllByRecursion}
use Rattle.std.specs.Option.{option_map}
use Rattle.std.proofs.lemmas.Bool.{cases_Bool}
use Rattle.std.proofs.lemmas.List.{append-nil}
use Rattle.mc_packet.specs.declared.packet.Packet.{Packet}
use Rattle.mc_packet.specs.declared.packet.Pos.{Pos}
use Rattle.mc_packet.specs.declared.choice.Choice.{Choice}
use Rattle.mc_packet.specs.declared.choice.Why.{Why}
use Rattle.mc_packet.specs.declared.choice.Why.TheVariants.{UnknownTrack, Unsupported, TwoOfKind}
use Rattle.mc_packet.specs.declared.cache.Heads.{Heads}
use Rattle.mc_packet.specs.declared.cache.Limits.{Limits}
use Rattle.mc_tracks.specs.declared.track.Track.{Track}
use Rattle.mc_tracks.specs.TrackList.{numbered}
use Rattle.mc_journal.specs.declared.record.Cause.{Cause}
use Rattle.mc_journal.specs.declared.record.Cause.TheVariants.{TrackChanged}
use Rattle.mc_journal.specs.declared.record.Removal.{Removal}
use Rattle.mc_journal.specs.declared.record.Sought.TheVariants.{Sent}
use Rattle.mc_journal.specs.declared.record.DemuxRecord.{DemuxRecord}
use Rattle.mc_journal.specs.declared.record.DemuxRecord.TheVariants.{Sought, Switched}
use Rattle.mc_packet.specs.Choices.{has, is_empty, is_known, lead_of, nothing, or_else}
use Rattle.mc_journal.specs.Films.{Film, rank}
use Rattle.mc_journal.specs.Readings.{selected, pending}
use Rattle.mc_journal.specs.Stands.{Stand, stand, switched}
use Rattle.mc_journal.specs.Views.{head}
use Rattle.mc_journal.specs.Allowed.{added_by}
use Rattle.mc_journal.specs.Used.{TellsWhy, due_switch, is_still, onto}
use Rattle.mc_queue.specs.Queue.{QueueState}
use Rattle.mc_range.specs.declared.queues.Queues.{Queues}
use Rattle.mc_range.specs.Range.{RangeState, IsRange, queue_of}
use Rattle.mc_range.specs.Serving.{HoldsFilm}
use Rattle.mc_range.specs.Filmed.{same_kinds}
use Rattle.mc_range.specs.Tracks.{retracked}
use Rattle.mc_cache.specs.Cache.{CacheState, stand_of}
use Rattle.mc_cache.specs.Changing.{IsRetracked}
use Rattle.mc_cache.specs.Placed.{due_of}
use Rattle.mc_cache.specs.Removals.{lost_queues, put_all, put_in, removal_if, removal_in, removals_in, removals_lost, removals_of_all}
use Rattle.mc_cache.proofs.FilmTold.{retracked_told}
use Rattle.mc_cache.proofs.Standing.{switched_holds, switched_stand}
use Rattle.mc_calls.specs.declared.waiting.Target.{Target}
use Rattle.mc_calls.specs.declared.waiting.Switch.{Switch}
use Rattle.mc_calls.specs.declared.waiting.Failure.{Failure}
use Rattle.mc_calls.specs.State.{DemuxState, head_of}
use Rattle.mc_calls.specs.Demuxers.{IsDemux, IsPlaced}
use Rattle.mc_calls.specs.Film.{Fits, PlacesAre, StandsFor}
use Rattle.mc_calls.specs.Selecting.{Switches, added_to, first_twin, is_coded, knows, own_records, refusal_of, sought_again, told_drops, waiting_after}
use Rattle.mc_calls.proofs.Failing.{reverse-push}
use Rattle.mc_calls.proofs.Kept.{both_true, owned_queue, same_head, stays}
use Rattle.mc_calls.proofs.Known.{known_alike, known_same}
use Rattle.mc_calls.proofs.Lost.{left_placed, left_sets}
use Rattle.mc_calls.proofs.Resting.{own_set}
use Rattle.mc_calls.proofs.Switching.{AreDue, added_same, drops_step, resent_step, switched_step}
use Rattle.mc_calls.proofs.Trimmed.{trimmed}
use Rattle.mc_calls.proofs.Trims.{trims_keep}
use Rattle.mc_calls.proofs.Turned.{film_one, holds_all, stand_is}
use Rattle.mc_calls.proofs.Recalled.{switches_tied}

-- ---- a refusal tells no lack of tracks

tells_why : (h : List DemuxRecord) (o p q : Option ℕ) (why : Why) → or_else (option_map UnknownTrack o) (or_else (option_map Unsupported p) (option_map TwoOfKind q)) ≡ Some why → TellsWhy h why
tells_why h (Some n) p q why e = let f : UnknownTrack n ≡ why = cc in subst (λ (w : Why). TellsWhy h w) f tt
tells_why h None (Some n) q why e = let f : Unsupported n ≡ why = cc in subst (λ (w : Why). TellsWhy h w) f tt
tells_why h None None (Some n) why e = let f : TwoOfKind n ≡ why = cc in subst (λ (w : Why). TellsWhy h w) f tt
tells_why h None None None why e = absurd (cc)

pub refusal_told : (h : List DemuxRecord) (list : List Track) (ns : List ℕ) (why : Why) → refusal_of list ns ≡ Some why → TellsWhy h why
refusal_told h list ns why e =
    tells_why h (find (λ n. not (is_some (numbered n list))) ns) (find (λ n. is_coded (numbered n list)) ns) (first_twin list [] ns) why e

-- ---- the cause of each drop

abbrev Has : Cause → Removal → Type 0
Has cause m = m.cause ≡ cause

in_place : (cause : Cause) (d : Removal) (es : List Removal) → Has cause d → AllByRecursion (Has cause) es → AllByRecursion (Has cause) (put_in d es)
in_place cause d [] h a = (h, tt)
in_place cause d (e ∷ es) h a = elim (cases_Bool (nat_le d.track e.track)) [ inl y ↦ rw y (h, a) | inr n ↦ rw n (a.0, in_place cause d es h a.1) ]

in_places : (cause : Cause) (ds es : List Removal) → AllByRecursion (Has cause) ds → AllByRecursion (Has cause) es → AllByRecursion (Has cause) (put_all ds es)
in_places cause [] es h a = a
in_places cause (d ∷ ds) es h a = in_place cause d (put_all ds es) h.0 (in_places cause ds es h.1 a)

of_packets : (cause : Cause) (track : ℕ) (from to : Pos) (ps : List Packet) → AllByRecursion (Has cause) (removal_if cause track from to ps)
of_packets cause track from to [] = tt
of_packets cause track from to (p ∷ ps) = (refl, tt)

of_queue : (cause : Cause) (o : Option QueueState) → AllByRecursion (Has cause) (removal_in cause o)
of_queue cause None = tt
of_queue cause (Some q) = of_packets cause q.track q.from q.to q.packets

of_queues : (cause : Cause) (qs : Queues) → AllByRecursion (Has cause) (removals_in cause qs)
of_queues cause qs =
    in_places cause (removal_in cause qs.video) (put_all (removal_in cause qs.audio) (removal_in cause qs.sub)) (of_queue cause qs.video)
    (in_places cause (removal_in cause qs.audio) (removal_in cause qs.sub) (of_queue cause qs.audio) (of_queue cause qs.sub))

all_append : (P : Removal → Type 0) (xs ys : List Removal) → AllByRecursion P xs → AllByRecursion P ys → AllByRecursion P (xs ++ ys)
all_append P [] ys h k = k
all_append P (x ∷ xs) ys h k = (h.0, all_append P xs ys h.1 k)

of_ranges : (cause : Cause) (rs : List RangeState) → AllByRecursion (Has cause) (removals_of_all cause rs)
of_ranges cause [] = tt
of_ranges cause (r ∷ rs) = all_append (Has cause) (removals_in cause r.queues) (removals_of_all cause rs) (of_queues cause r.queues) (of_ranges cause rs)

of_current : (cause : Cause) (set : Choice) (o : Option RangeState) → AllByRecursion (Has cause) (removals_lost cause set o)
of_current cause set None = tt
of_current cause set (Some r) = of_queues cause (lost_queues set r.queues)

changed_all : (set : Choice) (drops : List Removal) (old left : CacheState) → IsRetracked set drops old left → AllByRecursion (λ m. m.cause ≡ TrackChanged) drops
changed_all set drops old left r =
    subst (λ (ds : List Removal). AllByRecursion (λ m. m.cause ≡ TrackChanged) ds) (sym r.told)
    (all_append (Has TrackChanged) (removals_lost TrackChanged set old.current) (removals_of_all TrackChanged old.others) (of_current TrackChanged set old.current) (of_ranges TrackChanged old.others))

-- ---- the places of tracks that stay

if_some : {A : Type 0} (o : Option A) (X : Type 0) → (is_some o ≡ true → X) → IfSome o (λ x. X)
if_some None X f = tt
if_some (Some x) X f = f refl

some_then : {A : Type 0} (o : Option A) (X : Type 0) → IfSome o (λ x. X) → is_some o ≡ true → X
some_then None X h e = absurd (cc)
some_then (Some x) X h e = h

kept_places : (set next : Choice) (heads : Heads) (place : ℕ → ℕ) (r : RangeState) → IsRange r → r.set ≡ set → same_kinds set next ≡ true → PlacesAre set heads place r
    → PlacesAre next heads place (retracked next r)
kept_places set next heads place r i own e h = λ k.
    if_some (queue_of k (retracked next r).queues) (IsSomeAnd (head_of next heads k) (λ p. rank p ≡ place k)) (λ y.
    let same : same_kinds r.set next ≡ true = subst (λ (s : Choice). same_kinds s next ≡ true) (sym own) e in
    let both = both_true (has next k) (is_some (queue_of k r.queues)) (sym (stays next r k i same) ∙ y) in
    let was : has set k ≡ true = subst (λ (s : Choice). has s k ≡ true) own (owned_queue r k i both.1) in
    subst (λ (o : Option Pos). IsSomeAnd o (λ p. rank p ≡ place k)) (sym (same_head set next heads k e was both.0))
    (some_then (queue_of k r.queues) (IsSomeAnd (head_of set heads k) (λ p. rank p ≡ place k)) (h k) both.1))

left_places : (set next : Choice) (heads : Heads) (place : ℕ → ℕ) (b : Bool) (o : Option RangeState) → IfSome o IsRange → IfSome o (λ r. r.set ≡ set) → same_kinds set next ≡ true
    → IfSome o (PlacesAre set heads place) → IfSome (if b then None else option_map (retracked next) o) (PlacesAre next heads place)
left_places set next heads place true o i own e h = tt
left_places set next heads place false None i own e h = tt
left_places set next heads place false (Some r) i own e h = kept_places set next heads place r i own e h

-- ---- its own records

own_fits : (film : Film) (limits : Limits) (set next : Choice) (c left : CacheState) (heads : Heads) (o : Option Target)
    (waiting : Choice) (switch : Switch) (failure : Option Failure) (ended : Choice) (h : List DemuxRecord) (by : ℕ) (at : ℤ) (drops : List Removal) (added : Choice)
    → Fits film limits set c.current c.others heads o waiting switch failure ended h → is_still film.packets h ≡ true
    → is_known film.known next ≡ true → added ≡ added_by h next → (next ≡ set → ⊥) → (is_some o ≡ true → c.current ≡ None)
    → IsRetracked next drops c left
    → stand_of left ≡ switched next (stand film.packets h) → IfSome left.current (HoldsFilm film.packets)
    → IfSome left.current (PlacesAre next heads (λ track. head film.packets track h))
    → map due_of drops ≡ due_switch film.packets set next (stand film.packets h)
    → Fits film limits next left.current [] heads o (waiting_after o added) (record { lead = lead_of next; at = at }) None nothing (onto (Switched by next added at ∷ sought_again by next o) h)
    × AreDue film.packets (onto (Switched by next added at ∷ sought_again by next o) h) drops
own_fits film limits set next c left heads None waiting switch failure ended h by at drops added f still known e other none r is held places due_are = (
  switched_step film limits set next c.current c.others heads waiting switch failure ended h by at added left.current f still known e other
      (sym (ap (λ (st : Stand). st.current) is)) held places,
  record {
    begun = refl;
    alone = f.seeks;
    joins = refl;
    due_are = due_are ∙ ap (λ (s : Choice). due_switch film.packets s next (stand film.packets h)) (sym f.set_is);
    causes = changed_all next drops c left r;
  },
)
own_fits film limits set next c left heads (Some s) waiting switch failure ended h by at drops added f still known e other none r is held places due_are =
    let gone : c.current ≡ None = none refl in
    let no_left : left.current ≡ None = r.current_is ∙ ap (λ (x : Option RangeState). if is_empty next then None else option_map (retracked next) x) gone ∙ no_range (is_empty next) in (
      subst (λ (x : Option RangeState). Fits film limits next x [] heads (Some s) nothing (record { lead = lead_of next; at = at }) None nothing (Sought by next s.t s.dir Sent ∷ Switched by next added at ∷ h))
          (sym no_left) (resent_step film limits set next c.current c.others heads s waiting switch failure ended h by at added f still known e other gone),
      record {
        begun = refl;
        alone = refl;
        joins = refl;
        due_are = due_are ∙ ap (λ (x : Choice). due_switch film.packets x next (stand film.packets h)) (sym f.set_is) ∙ late (pending h) f.seeks;
        causes = changed_all next drops c left r;
      },
    )
  where
    no_range : (b : Bool) → (if b then None else option_map (retracked next) None) ≡ None
    no_range true = refl
    no_range false = refl

    late : (b : Bool) → b ≡ true → due_switch film.packets (selected h) next (stand film.packets h) ≡ (if b then due_switch film.packets (selected h) next (stand film.packets h) else [])
    late b y = rw y refl

-- ---- the journal

pub reverse-onto : (hd rs : List DemuxRecord) → reverse (hd ++ rs) ≡ onto rs (reverse hd)
reverse-onto hd [] = ap (λ (xs : List DemuxRecord). reverse xs) (append-nil hd)
reverse-onto hd (r ∷ rs) =
    ap (λ (xs : List DemuxRecord). reverse xs) (sym (append_assoc hd (r ∷ []) rs)) ∙ reverse-onto (hd ++ r ∷ []) rs ∙ ap (λ (h : List DemuxRecord). onto rs h) (reverse-push hd r)

onto-both : (xs ys h : List DemuxRecord) → onto (xs ++ ys) h ≡ onto ys (onto xs h)
onto-both [] ys h = refl
onto-both (x ∷ xs) ys h = onto-both xs ys (x ∷ h)

-- ---- all of it

sought_none : (set : Choice) (heads : Heads) (waiting : Choice) (o : Option Target) (c : Option RangeState) → IsPlaced set heads waiting o c → is_some o ≡ true → c ≡ None
sought_none set heads waiting None c p e = absurd (cc)
sought_none set heads waiting (Some s) c p e = p.0

pub switch_keeps : (film : Film) (old new : DemuxState) (by : ℕ) (next : Choice) (at : ℤ) → IsDemux old → is_known (knows old.list) next ≡ true → (next ≡ old.set → ⊥)
    → Switches by next at old new → StandsFor film old → StandsFor film new
switch_keeps film old new by next at i known other k s =
    let ps = film.packets in
    let h = reverse old.journal in
    let f = s.fits in
    let r = k.retracked in
    let added = added_to next old in
    let waits = waiting_after old.seeking added in
    let switch : Switch = record { lead = lead_of next; at = at } in
    let kinds = known_same old.list old.set next i.known known in
    let all = holds_all ps old.set old.cache f.held f.all_held i.sets in
    let here : stand ps h ≡ stand_of old.cache = stand_is ps h old.cache f.current_is f.others_are in
    let left_is : stand_of k.left ≡ switched next (stand ps h) =
    switched_stand ps old.set next k.drops old.cache k.left i.cache all kinds r ∙ ap (λ (st : Stand). switched next st) (sym here) in
    let held = film_one ps next k.left.current (switched_holds ps old.set next k.drops old.cache k.left i.cache all kinds r).current in
    let places : IfSome k.left.current (PlacesAre next old.heads (λ track. head ps track h)) =
    subst (λ (o : Option RangeState). IfSome o (PlacesAre next old.heads (λ track. head ps track h))) (sym r.current_is)
    (left_places old.set next old.heads (λ track. head ps track h) (is_empty next) old.cache.current i.cache.current (own_set old i) kinds f.places) in
    let due_are : map due_of k.drops ≡ due_switch ps old.set next (stand ps h) =
    retracked_told ps old.set next k.drops old.cache k.left i.cache all kinds r ∙ ap (λ (st : Stand). due_switch ps old.set next st) (sym here) in
    let own = own_fits film old.cache.limits old.set next old.cache k.left old.heads old.seeking old.waiting old.switch old.failure old.ended h by at k.drops added f s.still
    (known_alike film.known (knows old.list) next s.known known) (added_same h old.set old.waiting next f.set_is f.waits_are) other
    (sought_none old.set old.heads old.waiting old.seeking old.cache.current i.placed) r left_is held places due_are in
    let records = own_records by next at old in
    let told = told_drops by k.drops in
    let done = drops_step film old.cache.limits next k.left.current old.heads old.seeking waits switch None nothing (onto records h) by k.drops own.0 own.1 in
    let written : onto told (onto records h) ≡ reverse (old.journal ++ (records ++ told)) = sym (reverse-onto old.journal (records ++ told) ∙ onto-both records told h) in
    let all_fit : Fits film old.cache.limits next k.left.current k.left.others old.heads old.seeking waits switch None nothing (reverse (old.journal ++ (records ++ told))) =
    subst (λ (rs : List RangeState). Fits film old.cache.limits next k.left.current rs old.heads old.seeking waits switch None nothing (reverse (old.journal ++ (records ++ told)))) (sym r.no_others)
    (subst (λ (x : List DemuxRecord). Fits film old.cache.limits next k.left.current [] old.heads old.seeking waits switch None nothing x) written done.fits) in
    let kept = trims_keep film old.cache.limits next old.heads old.seeking waits switch None nothing by k.left (old.journal ++ (records ++ told)) new.cache new.journal
    (sym r.rest.limits_is) (left_sets next k.drops old.cache k.left r) (left_placed old next k.drops k.left i kinds r)
    (record { fits = all_fit; still = subst (λ (x : List DemuxRecord). is_still ps x ≡ true) written done.still }) k.trims in
    let lim : new.cache.limits ≡ old.cache.limits =
    (trimmed by next old.heads waits old.seeking k.left (old.journal ++ (records ++ told)) new.cache new.journal k.trims).limits_are ∙ r.rest.limits_is in
    subst (λ (d : DemuxState). StandsFor film d) (sym k.changed) (record {
      fits = subst (λ (l : Limits). Fits film l next new.cache.current new.cache.others old.heads old.seeking waits switch None nothing (reverse new.journal)) (sym lim) kept.fits;
      still = kept.still;
      tied = switches_tied old new by next at k s.fits.seeks s.tied;
      known = s.known;
    })
