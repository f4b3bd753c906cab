-- What a carried order adds is its item; what a seek or a selection of another caller adds is none.
use Rattle.std.proofs.Common.{◌≡◌, inl, inr, ℕ, Bool, true, false, List, ◌∷◌, Option, Some, None, ℤ, refl, sym, subst}
use Rattle.std.specs.Prelude.{not, ◌&&◌, ◌==◌}
use Rattle.std.specs.Ordering.{int_eq}
use Rattle.std.proofs.lemmas.Bool.{and_from, and_left, and_right, eq-eqb}
use Rattle.std.proofs.lemmas.Bool.Decides.{Decides-int_eq}
use Rattle.mc_packet.specs.declared.choice.Choice.{Choice}
use Rattle.mc_packet.specs.declared.choice.Dir.{Dir}
use Rattle.mc_packet.specs.declared.choice.Dir.TheVariants.{Back, Forward}
use Rattle.mc_packet.specs.declared.choice.Why.TheVariants.{NoTrack}
use Rattle.mc_journal.specs.declared.record.Sought.{Sought as How}
use Rattle.mc_journal.specs.declared.record.Sought.TheVariants.{Sent}
use Rattle.mc_journal.specs.declared.record.DemuxRecord.{DemuxRecord}
use Rattle.mc_journal.specs.declared.record.DemuxRecord.TheVariants.{Sought, Switched, Refused}
use Rattle.mc_journal.specs.Films.{Film}
use Rattle.mc_journal.specs.Readings.{selected, pending, follows}
use Rattle.mc_journal.specs.Used.{is_begun}
use Rattle.mc_player.specs.declared.record.Order.{Order}
use Rattle.mc_player.specs.declared.record.Order.TheVariants as order
use Rattle.mc_player.specs.declared.record.Outcome.{Outcome}
use Rattle.mc_player.specs.declared.record.Outcome.TheVariants as outcome
use Rattle.mc_player.specs.declared.record.CoreRecord.{CoreRecord}
use Rattle.mc_player.specs.Orders.{Item}
use Rattle.mc_story.specs.Same.{is_of, is_silent, same, same_dir, same_set, same_track}
use Rattle.mc_story.specs.Steps.{Again, SeekAdds, SelectAdds, Switching}
use Rattle.mc_story.specs.Story.{Views}
use Rattle.mc_story.proofs.Asking.{same_more, same_one, same_silent, same_front}
use Rattle.mc_story.proofs.Adding.{views_more, views_front}

-- ---- tests of a thing with itself

time_itself : (t : ℤ) → int_eq t t ≡ true
time_itself t = (Decides-int_eq t t).1 refl

dir_itself : (d : Dir) → same_dir d d ≡ true
dir_itself Back = refl
dir_itself Forward = refl

track_itself : (a : Option ℕ) → same_track a a ≡ true
track_itself None = refl
track_itself (Some n) = eq-eqb n n refl

pub set_itself : (s : Choice) → same_set s s ≡ true
set_itself s = and_from (same_track s.video s.video) (same_track s.audio s.audio && same_track s.sub s.sub) (track_itself s.video)
    (and_from (same_track s.audio s.audio) (same_track s.sub s.sub) (track_itself s.audio) (track_itself s.sub))

-- ---- a seek

item : Order → Outcome → Item
item o x = record { order = o; outcome = Some x }

seek_is : (n : ℕ) (set : Choice) (t : ℤ) (dir : Dir) (how : How) → is_of (record { order = order.Seek t dir; outcome = Some outcome.Sought }) (Sought n set t dir how) ≡ true
seek_is n set t dir how = and_from (int_eq t t && same_dir dir dir) true (and_from (int_eq t t) (same_dir dir dir) (time_itself t) (dir_itself dir)) refl

asked_seek : (n : ℕ) (hd : List DemuxRecord) → follows hd ≡ false → ((n == n) && not (follows hd)) ≡ true
asked_seek n hd f = and_from (n == n) (not (follows hd)) (eq-eqb n n refl) (rw f refl)

-- the item of a seek
pub seek_same : (n : ℕ) (t : ℤ) (dir : Dir) (hd : List DemuxRecord) (x : Outcome) (new : List DemuxRecord) (is : List Item)
    → follows hd ≡ false → SeekAdds n t dir hd x new → same n hd is ≡ true → same n new (record { order = order.Seek t dir; outcome = Some x } ∷ is) ≡ true
seek_same n t dir hd outcome.Sought new is f a s =
    let one : same n (Sought n (selected hd) t dir a.0 ∷ hd) (record { order = order.Seek t dir; outcome = Some outcome.Sought } ∷ is) ≡ true =
    same_one n (Sought n (selected hd) t dir a.0) hd (record { order = order.Seek t dir; outcome = Some outcome.Sought }) is (asked_seek n hd f) (seek_is n (selected hd) t dir a.0) s in
    subst (λ (k : List DemuxRecord). same n k (record { order = order.Seek t dir; outcome = Some outcome.Sought } ∷ is) ≡ true) (sym a.1.grows)
    (same_front n a.1.extras (Sought n (selected hd) t dir a.0 ∷ hd) (record { order = order.Seek t dir; outcome = Some outcome.Sought } ∷ is) a.1.are one)
seek_same n t dir hd (outcome.Refused NoTrack) new is f a s =
    subst (λ (k : List DemuxRecord). same n k (record { order = order.Seek t dir; outcome = Some (outcome.Refused NoTrack) } ∷ is) ≡ true) (sym a)
    (same_one n (Refused n NoTrack) hd (record { order = order.Seek t dir; outcome = Some (outcome.Refused NoTrack) }) is (eq-eqb n n refl) refl s)
seek_same n t dir hd x new is f a s = absurd a

pub seek_views : (n by : ℕ) (film : Film) (t : ℤ) (dir : Dir) (hd : List DemuxRecord) (x : Outcome) (new : List DemuxRecord) (hc : List CoreRecord)
    → SeekAdds by t dir hd x new → Views n film hd hc → Views n film new hc
seek_views n by film t dir hd outcome.Sought new hc a v =
    subst (λ (k : List DemuxRecord). Views n film k hc) (sym a.1.grows)
    (views_front n film a.1.extras (Sought by (selected hd) t dir a.0 ∷ hd) hc (views_more n film (Sought by (selected hd) t dir a.0) hd hc v))
seek_views n by film t dir hd (outcome.Refused NoTrack) new hc a v =
    subst (λ (k : List DemuxRecord). Views n film k hc) (sym a) (views_more n film (Refused by NoTrack) hd hc v)
seek_views n by film t dir hd x new hc a v = absurd a

-- another caller's seek is no item
pub seek_other : (n by : ℕ) (t : ℤ) (dir : Dir) (hd : List DemuxRecord) (x : Outcome) (new : List DemuxRecord) (is : List Item)
    → (by == n) ≡ false → SeekAdds by t dir hd x new → same n hd is ≡ true → same n new is ≡ true
seek_other n by t dir hd outcome.Sought new is d a s =
    subst (λ (k : List DemuxRecord). same n k is ≡ true) (sym a.1.grows)
    (same_front n a.1.extras (Sought by (selected hd) t dir a.0 ∷ hd) is a.1.are
    (same_more n (Sought by (selected hd) t dir a.0) hd is (and_left (by == n) (not (follows hd)) d) s))
seek_other n by t dir hd (outcome.Refused NoTrack) new is d a s =
    subst (λ (k : List DemuxRecord). same n k is ≡ true) (sym a) (same_more n (Refused by NoTrack) hd is d s)
seek_other n by t dir hd x new is d a s = absurd a

-- ---- a selection

selection_is : (n : ℕ) (set added : Choice) (at : ℤ) → is_of (record { order = order.Select set at; outcome = Some (outcome.Selected set) }) (Switched n set added at) ≡ true
selection_is n set added at = and_from (same_set set set && int_eq at at) (same_set set set) (and_from (same_set set set) (int_eq at at) (set_itself set) (time_itself at)) (set_itself set)

-- a pending seek that is sought again is no item, whoever switched
again_same : (n by : ℕ) (set added : Choice) (at : ℤ) (b : Bool) (hd new : List DemuxRecord) (is : List Item)
    → pending hd ≡ b → Again by set b (Switched by set added at ∷ hd) new → same n (Switched by set added at ∷ hd) is ≡ true → same n new is ≡ true
again_same n by set added at false hd new is p a s = subst (λ (k : List DemuxRecord). same n k is ≡ true) (sym a) s
again_same n by set added at true hd new is p a s =
    let off : ((by == n) && not (pending hd)) ≡ false = and_right (by == n) (not (pending hd)) (rw p refl) in
    subst (λ (k : List DemuxRecord). same n k is ≡ true) (sym a.2) (same_more n (Sought by set a.0 a.1 Sent) (Switched by set added at ∷ hd) is off s)

switch_same : (n by : ℕ) (set : Choice) (at : ℤ) (hd new : List DemuxRecord) (is : List Item) (s : Switching by set at hd new)
    → same n (Switched by set s.added at ∷ hd) is ≡ true → same n new is ≡ true
switch_same n by set at hd new is s e =
    subst (λ (k : List DemuxRecord). same n k is ≡ true) (sym s.adds.grows)
    (same_front n s.adds.extras s.asked is s.adds.are (again_same n by set s.added at (pending hd) hd s.asked is refl s.again e))

-- the item of a selection
pub select_same : (n : ℕ) (set : Choice) (at : ℤ) (hd : List DemuxRecord) (x : Outcome) (new : List DemuxRecord) (is : List Item)
    → is_begun hd ≡ true → SelectAdds n set at hd x new → same n hd is ≡ true → same n new (record { order = order.Select set at; outcome = Some x } ∷ is) ≡ true
select_same n set at hd (outcome.Selected k) new is b a s =
    let i : Item = record { order = order.Select set at; outcome = Some (outcome.Selected set) } in
    let goal : same n new (i ∷ is) ≡ true =
    elim a.1 [
      | inl c ↦ subst (λ (k : List DemuxRecord). same n k (i ∷ is) ≡ true) (sym c.1) (same_silent n hd i is b (quiet set at (selected hd) c.0) s)
      | inr w ↦ switch_same n n set at hd new (i ∷ is) w (same_one n (Switched n set w.added at) hd i is (eq-eqb n n refl) (selection_is n set w.added at) s)
    ] in
    subst (λ (c : Choice). same n new (record { order = order.Select set at; outcome = Some (outcome.Selected c) } ∷ is) ≡ true) (sym a.0) goal
  where
    quiet : (set : Choice) (at : ℤ) (c : Choice) → set ≡ c → is_silent c (record { order = order.Select set at; outcome = Some (outcome.Selected set) }) ≡ true
    quiet set at c e = subst (λ (d : Choice). is_silent d (record { order = order.Select set at; outcome = Some (outcome.Selected set) }) ≡ true) e (and_from (same_set set set) (same_set set set) (set_itself set) (set_itself set))
select_same n set at hd x new is b a s = absurd a

again_views : (n by : ℕ) (film : Film) (set : Choice) (b : Bool) (hd new : List DemuxRecord) (hc : List CoreRecord) → Again by set b hd new → Views n film hd hc → Views n film new hc
again_views n by film set false hd new hc a v = subst (λ (k : List DemuxRecord). Views n film k hc) (sym a) v
again_views n by film set true hd new hc a v = subst (λ (k : List DemuxRecord). Views n film k hc) (sym a.2) (views_more n film (Sought by set a.0 a.1 Sent) hd hc v)

pub switch_views : (n by : ℕ) (film : Film) (set : Choice) (at : ℤ) (hd new : List DemuxRecord) (hc : List CoreRecord)
    → Switching by set at hd new → Views n film hd hc → Views n film new hc
switch_views n by film set at hd new hc s v =
    subst (λ (k : List DemuxRecord). Views n film k hc) (sym s.adds.grows)
    (views_front n film s.adds.extras s.asked hc (again_views n by film set (pending hd) (Switched by set s.added at ∷ hd) s.asked hc s.again
    (views_more n film (Switched by set s.added at) hd hc v)))

pub select_views : (n by : ℕ) (film : Film) (set : Choice) (at : ℤ) (hd : List DemuxRecord) (x : Outcome) (new : List DemuxRecord) (hc : List CoreRecord)
    → SelectAdds by set at hd x new → Views n film hd hc → Views n film new hc
select_views n by film set at hd (outcome.Selected k) new hc a v =
    elim a.1 [ inl c ↦ subst (λ (k : List DemuxRecord). Views n film k hc) (sym c.1) v | inr w ↦ switch_views n by film set at hd new hc w v ]
select_views n by film set at hd x new hc a v = absurd a

pub switch_other : (n by : ℕ) (set : Choice) (at : ℤ) (hd new : List DemuxRecord) (is : List Item)
    → (by == n) ≡ false → Switching by set at hd new → same n hd is ≡ true → same n new is ≡ true
switch_other n by set at hd new is d s e = switch_same n by set at hd new is s (same_more n (Switched by set s.added at) hd is d e)
