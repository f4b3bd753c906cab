-- Records that tell something and change no range: each leaves a demuxer that stands for the film.
use Rattle.std.proofs.Common.{◌≡◌, ℕ, ◌≤◌, Bool, true, false, ◌||◌, Option, Some, None, List, [], ◌∷◌, refl, ap, sym, subst, ◌∙◌, inl, inr, ◌==◌}
use Rattle.std.specs.Prelude.{if◌then◌else◌, is_some, IsSomeAnd}
use Rattle.std.specs.List.{filter}
use Rattle.std.specs.Option.{option_map}
use Rattle.std.proofs.lemmas.Bool.{cases_Bool, eqb-true, eq-eqb}
use Rattle.mc_packet.specs.declared.packet.Packet.{Packet}
use Rattle.mc_packet.specs.declared.choice.Choice.{Choice}
use Rattle.mc_packet.specs.declared.choice.Why.{Why}
use Rattle.mc_packet.specs.declared.cache.CacheView.{CacheView}
use Rattle.mc_packet.specs.declared.cache.Heads.{Heads}
use Rattle.mc_packet.specs.declared.cache.Limits.{Limits}
use Rattle.mc_packet.specs.declared.walk.Ending.{Ending}
use Rattle.mc_journal.specs.declared.record.DemuxRecord.{DemuxRecord}
use Rattle.mc_journal.specs.declared.record.DemuxRecord.TheVariants.{Ended, Overfull, Faulted, Wanting, Shown, Refused, Failed, Starved}
use Rattle.mc_packet.specs.Choices.{has}
use Rattle.mc_journal.specs.Choices.{kept_of, kept_track}
use Rattle.mc_journal.specs.Films.{Film}
use Rattle.mc_journal.specs.Ranges.{Range}
use Rattle.mc_journal.specs.Readings.{selected, last_fault, failed}
use Rattle.mc_journal.specs.Stands.{stand, after, holds_any}
use Rattle.mc_journal.specs.Views.{forward, next, view, was_ended}
use Rattle.mc_journal.specs.Used.{is_still, can_end, TellsWhy, IsFailure, IsWant}
use Rattle.mc_range.specs.Range.{RangeState, as_range, queue_of, span_of}
use Rattle.mc_calls.specs.declared.waiting.Target.{Target}
use Rattle.mc_calls.specs.declared.waiting.Switch.{Switch}
use Rattle.mc_calls.specs.declared.waiting.Failure.{Failure}
use Rattle.mc_calls.specs.declared.waiting.Failure.TheVariants.{Failed as Failing, Starved as Starving}
use Rattle.mc_calls.specs.Readings.{mark_track, with_track}
use Rattle.mc_queue.specs.Queue.{QueueState}
use Rattle.mc_calls.specs.State.{next_in, end_in}
use Rattle.mc_calls.specs.Film.{Fits, failure_record}
use Rattle.mc_calls.proofs.Nexts.{next-is, end-is}

-- ---- the ranges after a record that leaves them

filter-twice : {A : Type 0} (test : A → Bool) (xs : List A) → filter test (filter test xs) ≡ filter test xs
filter-twice test [] = refl
filter-twice test (x ∷ xs) =
    let e = filter-twice test xs in
    elim (cases_Bool (test x)) [ inl y ↦ rw (y, y) (ap (λ zs. x ∷ zs) e) | inr n ↦ rw n e ]

pub tidy : (ps : List Packet) (h : List DemuxRecord) → filter (holds_any ps (selected h)) (stand ps h).others ≡ (stand ps h).others
tidy ps [] = refl
tidy ps (r ∷ h) = filter-twice (holds_any ps (selected (r ∷ h))) (after ps (selected h) (stand ps h) r).others

-- ---- the cache is looked at, a call is refused

pub shown_step : (film : Film) (limits : Limits) (set : Choice) (current : Option RangeState) (others : List RangeState) (heads : Heads)
    (seeking : Option Target) (waiting : Choice) (switch : Switch) (failure : Option Failure) (ended : Choice) (h : List DemuxRecord) (by : ℕ) (shown : CacheView)
    → Fits film limits set current others heads seeking waiting switch failure ended h → is_still film.packets h ≡ true → shown ≡ view film.packets h
    → Fits film limits set current others heads seeking waiting switch failure ended (Shown by shown ∷ h)
shown_step film limits set current others heads seeking waiting switch failure ended h by shown f still e = record {
  film_is = f.film_is;
  used = ((tt, still, e), f.used);
  set_is = f.set_is;
  current_is = f.current_is;
  others_are = tidy film.packets h ∙ f.others_are;
  held = f.held;
  all_held = f.all_held;
  places = f.places;
  seeks = f.seeks;
  target_is = f.target_is;
  sought_at = f.sought_at;
  waits_are = f.waits_are;
  added_at = f.added_at;
  failure_is = f.failure_is;
  ended_are = f.ended_are;
}

pub refused_step : (film : Film) (limits : Limits) (set : Choice) (current : Option RangeState) (others : List RangeState) (heads : Heads)
    (seeking : Option Target) (waiting : Choice) (switch : Switch) (failure : Option Failure) (ended : Choice) (h : List DemuxRecord) (by : ℕ) (why : Why)
    → Fits film limits set current others heads seeking waiting switch failure ended h → is_still film.packets h ≡ true → TellsWhy h why
    → Fits film limits set current others heads seeking waiting switch failure ended (Refused by why ∷ h)
refused_step film limits set current others heads seeking waiting switch failure ended h by why f still e = record {
  film_is = f.film_is;
  used = ((tt, still, e), f.used);
  set_is = f.set_is;
  current_is = f.current_is;
  others_are = tidy film.packets h ∙ f.others_are;
  held = f.held;
  all_held = f.all_held;
  places = f.places;
  seeks = f.seeks;
  target_is = f.target_is;
  sought_at = f.sought_at;
  waits_are = f.waits_are;
  added_at = f.added_at;
  failure_is = f.failure_is;
  ended_are = f.ended_are;
}

-- ---- a reader is that it has to wait

-- nothing is at the head of a track that the state shows to have nothing there
pub nothing_next : (film : Film) (limits : Limits) (set : Choice) (current : Option RangeState) (others : List RangeState) (heads : Heads)
    (seeking : Option Target) (waiting : Choice) (switch : Switch) (failure : Option Failure) (ended : Choice) (h : List DemuxRecord) (track : ℕ)
    → Fits film limits set current others heads seeking waiting switch failure ended h → next_in set heads track current ≡ None → next film.packets h track ≡ None
nothing_next film limits set current others heads seeking waiting switch failure ended h track f none =
    next-is film limits set current others heads seeking waiting switch failure ended h track f ∙ ap (λ (o : Option Packet). o) none

pub no_end : (film : Film) (limits : Limits) (set : Choice) (current : Option RangeState) (others : List RangeState) (heads : Heads)
    (seeking : Option Target) (waiting : Choice) (switch : Switch) (failure : Option Failure) (ended : Choice) (h : List DemuxRecord) (track : ℕ)
    → Fits film limits set current others heads seeking waiting switch failure ended h → end_in track current ≡ None → can_end film.packets h track ≡ false
no_end film limits set current others heads seeking waiting switch failure ended h track f none =
    end-is film limits set current others heads seeking waiting switch failure ended h track f ∙ ap (λ (o : Option Ending). is_some o) none

pub is_selected : (film : Film) (limits : Limits) (set : Choice) (current : Option RangeState) (others : List RangeState) (heads : Heads)
    (seeking : Option Target) (waiting : Choice) (switch : Switch) (failure : Option Failure) (ended : Choice) (h : List DemuxRecord) (track : ℕ)
    → Fits film limits set current others heads seeking waiting switch failure ended h → has set track ≡ true → has (selected h) track ≡ true
is_selected film limits set current others heads seeking waiting switch failure ended h track f e = subst (λ (s : Choice). has s track ≡ true) (sym f.set_is) e

pub overfull_step : (film : Film) (limits : Limits) (set : Choice) (current : Option RangeState) (others : List RangeState) (heads : Heads)
    (seeking : Option Target) (waiting : Choice) (switch : Switch) (failure : Option Failure) (ended : Choice) (h : List DemuxRecord) (by track bytes : ℕ)
    → Fits film limits set current others heads seeking waiting switch failure ended h → is_still film.packets h ≡ true
    → has set track ≡ true → next_in set heads track current ≡ None → end_in track current ≡ None → failure ≡ None
    → bytes ≡ forward film.packets h → limits.forward ≤ bytes
    → Fits film limits set current others heads seeking waiting switch failure ended (Overfull by track bytes limits.forward ∷ h)
overfull_step film limits set current others heads seeking waiting switch failure ended h by track bytes f still sel none open_end sound counts over =
    let chosen : has (selected h) track ≡ true = is_selected film limits set current others heads seeking waiting switch failure ended h track f sel in
    let empty : next film.packets h track ≡ None = nothing_next film limits set current others heads seeking waiting switch failure ended h track f none in
    let unended : can_end film.packets h track ≡ false = no_end film limits set current others heads seeking waiting switch failure ended h track f open_end in
    let well : failed h ≡ false = ap (λ (o : Option DemuxRecord). is_some o) (f.failure_is ∙ ap (λ (o : Option Failure). option_map failure_record o) sound) in
    record {
      film_is = f.film_is;
      used = (((chosen, empty, well), still, (counts, refl, over, unended)), f.used);
      set_is = f.set_is;
      current_is = f.current_is;
      others_are = tidy film.packets h ∙ f.others_are;
      held = f.held;
      all_held = f.all_held;
      places = f.places;
      seeks = f.seeks;
      target_is = f.target_is;
      sought_at = f.sought_at;
      waits_are = f.waits_are;
      added_at = f.added_at;
      failure_is = f.failure_is;
      ended_are = f.ended_are;
    }

pub faulted_step : (film : Film) (limits : Limits) (set : Choice) (current : Option RangeState) (others : List RangeState) (heads : Heads)
    (seeking : Option Target) (waiting : Choice) (switch : Switch) (failure : Option Failure) (ended : Choice) (h : List DemuxRecord) (by track before after : ℕ)
    → Fits film limits set current others heads seeking waiting switch failure ended h → is_still film.packets h ≡ true
    → has set track ≡ true → next_in set heads track current ≡ None → end_in track current ≡ None → failure ≡ Some (Failing before after)
    → Fits film limits set current others heads seeking waiting switch failure ended (Faulted by track before after ∷ h)
faulted_step film limits set current others heads seeking waiting switch failure ended h by track before after f still sel none open_end bad =
    let chosen : has (selected h) track ≡ true = is_selected film limits set current others heads seeking waiting switch failure ended h track f sel in
    let empty : next film.packets h track ≡ None = nothing_next film limits set current others heads seeking waiting switch failure ended h track f none in
    let unended : can_end film.packets h track ≡ false = no_end film limits set current others heads seeking waiting switch failure ended h track f open_end in
    let last : last_fault h ≡ Some (Failed 5 before after) = f.failure_is ∙ ap (λ (o : Option Failure). option_map failure_record o) bad in
    let ill : failed h ≡ true = ap (λ (o : Option DemuxRecord). is_some o) last in
    let why : IsFailure (last_fault h) before after = subst (λ (o : Option DemuxRecord). IsFailure o before after) (sym last) (refl, refl) in
    record {
      film_is = f.film_is;
      used = (((chosen, empty, ill), still, (why, unended)), f.used);
      set_is = f.set_is;
      current_is = f.current_is;
      others_are = tidy film.packets h ∙ f.others_are;
      held = f.held;
      all_held = f.all_held;
      places = f.places;
      seeks = f.seeks;
      target_is = f.target_is;
      sought_at = f.sought_at;
      waits_are = f.waits_are;
      added_at = f.added_at;
      failure_is = f.failure_is;
      ended_are = f.ended_are;
    }

pub wanting_step : (film : Film) (limits : Limits) (set : Choice) (current : Option RangeState) (others : List RangeState) (heads : Heads)
    (seeking : Option Target) (waiting : Choice) (switch : Switch) (failure : Option Failure) (ended : Choice) (h : List DemuxRecord) (by track : ℕ)
    → Fits film limits set current others heads seeking waiting switch failure ended h → is_still film.packets h ≡ true
    → has set track ≡ true → next_in set heads track current ≡ None → end_in track current ≡ None → failure ≡ Some Starving
    → Fits film limits set current others heads seeking waiting switch failure ended (Wanting by track ∷ h)
wanting_step film limits set current others heads seeking waiting switch failure ended h by track f still sel none open_end bad =
    let chosen : has (selected h) track ≡ true = is_selected film limits set current others heads seeking waiting switch failure ended h track f sel in
    let empty : next film.packets h track ≡ None = nothing_next film limits set current others heads seeking waiting switch failure ended h track f none in
    let unended : can_end film.packets h track ≡ false = no_end film limits set current others heads seeking waiting switch failure ended h track f open_end in
    let last : last_fault h ≡ Some (Starved 5) = f.failure_is ∙ ap (λ (o : Option Failure). option_map failure_record o) bad in
    let ill : failed h ≡ true = ap (λ (o : Option DemuxRecord). is_some o) last in
    let why : IsWant (last_fault h) = subst (λ (o : Option DemuxRecord). IsWant o) (sym last) tt in
    record {
      film_is = f.film_is;
      used = (((chosen, empty, ill), still, (why, unended)), f.used);
      set_is = f.set_is;
      current_is = f.current_is;
      others_are = tidy film.packets h ∙ f.others_are;
      held = f.held;
      all_held = f.all_held;
      places = f.places;
      seeks = f.seeks;
      target_is = f.target_is;
      sought_at = f.sought_at;
      waits_are = f.waits_are;
      added_at = f.added_at;
      failure_is = f.failure_is;
      ended_are = f.ended_are;
    }

-- ---- a job fails

pub failed_step : (film : Film) (limits : Limits) (set : Choice) (current : Option RangeState) (others : List RangeState) (heads : Heads)
    (seeking : Option Target) (waiting : Choice) (switch : Switch) (failure : Option Failure) (ended : Choice) (h : List DemuxRecord) (before after : ℕ)
    → Fits film limits set current others heads seeking waiting switch failure ended h → is_still film.packets h ≡ true → failure ≡ None
    → Fits film limits set current others heads seeking waiting switch (Some (Failing before after)) ended (Failed 5 before after ∷ h)
failed_step film limits set current others heads seeking waiting switch failure ended h before after f still sound =
    let well : failed h ≡ false = ap (λ (o : Option DemuxRecord). is_some o) (f.failure_is ∙ ap (λ (o : Option Failure). option_map failure_record o) sound) in
    record {
      film_is = f.film_is;
      used = ((well, still, tt), f.used);
      set_is = f.set_is;
      current_is = f.current_is;
      others_are = tidy film.packets h ∙ f.others_are;
      held = f.held;
      all_held = f.all_held;
      places = f.places;
      seeks = f.seeks;
      target_is = f.target_is;
      sought_at = f.sought_at;
      waits_are = f.waits_are;
      added_at = f.added_at;
      failure_is = refl;
      ended_are = f.ended_are;
    }

pub starved_step : (film : Film) (limits : Limits) (set : Choice) (current : Option RangeState) (others : List RangeState) (heads : Heads)
    (seeking : Option Target) (waiting : Choice) (switch : Switch) (failure : Option Failure) (ended : Choice) (h : List DemuxRecord)
    → Fits film limits set current others heads seeking waiting switch failure ended h → is_still film.packets h ≡ true → failure ≡ None
    → Fits film limits set current others heads seeking waiting switch (Some Starving) ended (Starved 5 ∷ h)
starved_step film limits set current others heads seeking waiting switch failure ended h f still sound =
    let well : failed h ≡ false = ap (λ (o : Option DemuxRecord). is_some o) (f.failure_is ∙ ap (λ (o : Option Failure). option_map failure_record o) sound) in
    record {
      film_is = f.film_is;
      used = ((well, still, tt), f.used);
      set_is = f.set_is;
      current_is = f.current_is;
      others_are = tidy film.packets h ∙ f.others_are;
      held = f.held;
      all_held = f.all_held;
      places = f.places;
      seeks = f.seeks;
      target_is = f.target_is;
      sought_at = f.sought_at;
      waits_are = f.waits_are;
      added_at = f.added_at;
      failure_is = refl;
      ended_are = f.ended_are;
    }

-- ---- a reader is its end

mark_one : (n : ℕ) (test : ℕ → Bool) (o : Option ℕ) → mark_track n o (kept_track test o) ≡ kept_track (λ k. n == k || test k) o
mark_one n test None = refl
mark_one n test (Some m) = elim (cases_Bool (m == n)) [
  | inl y ↦ let z : (n == m) ≡ true = eq-eqb n m (sym (eqb-true m n y)) in rw (y, z) refl
  | inr o ↦ elim (cases_Bool (n == m)) [
    | inl z ↦ absurd (let y : (m == n) ≡ true = eq-eqb m n (sym (eqb-true n m z)) in cc)
    | inr p ↦ rw (o, p) refl
  ]
]

mark_all : (n : ℕ) (test : ℕ → Bool) (set marked : Choice) → marked ≡ kept_of set test → with_track set n marked ≡ kept_of set (λ k. n == k || test k)
mark_all n test set marked e =
    ap (λ (c : Choice). with_track set n c) e
    ∙ ap (λ (v : Option ℕ). let c : Choice = record { video = v; audio = mark_track n set.audio (kept_track test set.audio); sub = mark_track n set.sub (kept_track test set.sub) } in c) (mark_one n test set.video)
    ∙ ap (λ (a : Option ℕ). let c : Choice = record { video = kept_track (λ k. n == k || test k) set.video; audio = a; sub = mark_track n set.sub (kept_track test set.sub) } in c) (mark_one n test set.audio)
    ∙ ap (λ (b : Option ℕ). let c : Choice = record { video = kept_track (λ k. n == k || test k) set.video; audio = kept_track (λ k. n == k || test k) set.audio; sub = b } in c) (mark_one n test set.sub)

end_queue : (o : Option QueueState) (e : Option Ending) (ending : Ending) → (if is_some o then e else None) ≡ Some ending
    → (e ≡ Some ending) × (is_some (option_map span_of o) ≡ true)
end_queue None e ending h = absurd (cc)
end_queue (Some q) e ending h = (h, refl)

end_held : (ps : List Packet) (h : List DemuxRecord) (track : ℕ) (ending : Ending) (current : Option RangeState) → end_in track current ≡ Some ending
    → IsSomeAnd (option_map as_range current) (λ r. (r.ending ≡ Some ending) × (is_some (r.spans track) ≡ true))
end_held ps h track ending None e = absurd (cc)
end_held ps h track ending (Some r) e = end_queue (queue_of track r.queues) r.ending ending e

pub ended_step : (film : Film) (limits : Limits) (set : Choice) (current : Option RangeState) (others : List RangeState) (heads : Heads)
    (seeking : Option Target) (waiting : Choice) (switch : Switch) (failure : Option Failure) (ended : Choice) (h : List DemuxRecord) (by track : ℕ) (ending : Ending)
    → Fits film limits set current others heads seeking waiting switch failure ended h → is_still film.packets h ≡ true
    → has set track ≡ true → next_in set heads track current ≡ None → end_in track current ≡ Some ending
    → Fits film limits set current others heads seeking waiting switch failure (with_track set track ended) (Ended by track ending ∷ h)
ended_step film limits set current others heads seeking waiting switch failure ended h by track ending f still sel none is =
    let chosen : has (selected h) track ≡ true = is_selected film limits set current others heads seeking waiting switch failure ended h track f sel in
    let empty : next film.packets h track ≡ None = nothing_next film limits set current others heads seeking waiting switch failure ended h track f none in
    let here : IsSomeAnd (stand film.packets h).current (λ r. (r.ending ≡ Some ending) × (is_some (r.spans track) ≡ true)) =
    subst (λ (o : Option Range). IsSomeAnd o (λ r. (r.ending ≡ Some ending) × (is_some (r.spans track) ≡ true))) (sym f.current_is) (end_held film.packets h track ending current is) in
    record {
      film_is = f.film_is;
      used = (((chosen, here, empty), still, tt), f.used);
      set_is = f.set_is;
      current_is = f.current_is;
      others_are = tidy film.packets h ∙ f.others_are;
      held = f.held;
      all_held = f.all_held;
      places = f.places;
      seeks = f.seeks;
      target_is = f.target_is;
      sought_at = f.sought_at;
      waits_are = f.waits_are;
      added_at = f.added_at;
      failure_is = f.failure_is;
      ended_are = mark_all track (was_ended h) set ended f.ended_are;
    }
