-- What caller n asked, as items: what may come in front, of the records and of the items.
use Rattle.std.proofs.Common.{◌≡◌, ℕ, Bool, true, false, List, [], ◌∷◌, ◌++◌, refl, sym}
use Rattle.std.specs.Prelude.{if◌then◌else◌, not, ◌&&◌, ◌==◌}
use Rattle.std.specs.List.{AllByRecursion}
use Rattle.std.proofs.lemmas.Bool.{or_left, or_right, and_from, and_left, and_parts, true≢false}
use Rattle.mc_packet.specs.declared.choice.Choice.{Choice}
use Rattle.mc_journal.specs.declared.record.DemuxRecord.{DemuxRecord}
use Rattle.mc_journal.specs.declared.record.DemuxRecord.TheVariants.{Sought, Switched, Refused}
use Rattle.mc_packet.specs.declared.packet.Packet.{Packet}
use Rattle.mc_journal.specs.Used.{is_begun, is_still}
use Rattle.mc_journal.specs.Readings.{selected, follows, is_asked}
use Rattle.mc_player.specs.Orders.{Item}
use Rattle.mc_story.specs.Same.{behind_silent, first_is, is_of, is_silent, same}
use Rattle.mc_story.specs.Steps.{is_foreign, is_plain}

plain_asked : (n : ℕ) (h : List DemuxRecord) (r : DemuxRecord) → is_plain r ≡ true → is_asked n h r ≡ false
plain_asked n h (Sought by set t dir how) p = absurd (true≢false (sym p))
plain_asked n h (Switched by set added at) p = absurd (true≢false (sym p))
plain_asked n h (Refused by why) p = absurd (true≢false (sym p))
plain_asked n h r p = refl

none_silent : (set : Choice) (test : List Item → Bool) (is : List Item) → test is ≡ true → behind_silent set test is ≡ true
none_silent set test [] h = h
none_silent set test (i ∷ is) h = or_left (test (i ∷ is)) (is_silent set i && behind_silent set test is) h

-- a record that isn't asked
pub same_more : (n : ℕ) (r : DemuxRecord) (h : List DemuxRecord) (is : List Item) → is_asked n h r ≡ false → same n h is ≡ true → same n (r ∷ h) is ≡ true
same_more n r h is a s =
    let e : (if is_asked n h r then first_is r (same n h) else same n h) is ≡ true = rw a s in
    none_silent (selected (r ∷ h)) (if is_asked n h r then first_is r (same n h) else same n h) is e

-- a record that is asked, and its item
pub same_one : (n : ℕ) (r : DemuxRecord) (h : List DemuxRecord) (i : Item) (is : List Item) → is_asked n h r ≡ true → is_of i r ≡ true → same n h is ≡ true
    → same n (r ∷ h) (i ∷ is) ≡ true
same_one n r h i is a o s =
    let e : (if is_asked n h r then first_is r (same n h) else same n h) (i ∷ is) ≡ true = rw a (and_from (is_of i r) (same n h is) o s) in
    none_silent (selected (r ∷ h)) (if is_asked n h r then first_is r (same n h) else same n h) (i ∷ is) e

silent_one : (set : Choice) (test : List Item → Bool) (i : Item) (is : List Item) → is_silent set i ≡ true → behind_silent set test is ≡ true
    → behind_silent set test (i ∷ is) ≡ true
silent_one set test i is e s = or_right (test (i ∷ is)) (is_silent set i && behind_silent set test is) (and_from (is_silent set i) (behind_silent set test is) e s)

-- an item of the set that is selected, once the journal is begun
pub same_silent : (n : ℕ) (h : List DemuxRecord) (i : Item) (is : List Item) → is_begun h ≡ true → is_silent (selected h) i ≡ true → same n h is ≡ true → same n h (i ∷ is) ≡ true
same_silent n [] i is b e s = absurd (true≢false (sym b))
same_silent n (r ∷ h) i is b e s = silent_one (selected (r ∷ h)) (if is_asked n h r then first_is r (same n h) else same n h) i is e s

not_so : (b : Bool) → not b ≡ true → b ≡ false
not_so false e = refl
not_so true e = absurd (true≢false (sym e))

-- at rest the journal is begun, and no seek has to be sent again
pub rest_begun : (ps : List Packet) (h : List DemuxRecord) → is_still ps h ≡ true → is_begun h ≡ true
rest_begun ps h e = (and_parts _ _ e).0

pub rest_follows : (ps : List Packet) (h : List DemuxRecord) → is_still ps h ≡ true → follows h ≡ false
rest_follows ps h e = not_so (follows h) (and_parts _ _ (and_parts _ _ e).1).0

-- records that are neither seeks, selections nor refusals
pub same_front : (n : ℕ) (rs h : List DemuxRecord) (is : List Item) → AllByRecursion (λ r. is_plain r ≡ true) rs → same n h is ≡ true → same n (rs ++ h) is ≡ true
same_front n [] h is p s = s
same_front n (r ∷ rs) h is p s = same_more n r (rs ++ h) is (plain_asked n (rs ++ h) r p.0) (same_front n rs h is p.1 s)

-- another caller's are not asked, whatever they are
foreign_asked : (n : ℕ) (h : List DemuxRecord) (r : DemuxRecord) → is_foreign n r ≡ true → is_asked n h r ≡ false
foreign_asked n h (Sought by set t dir how) p = and_left (by == n) (not (follows h)) (not_so (by == n) p)
foreign_asked n h (Switched by set added at) p = not_so (by == n) p
foreign_asked n h (Refused by why) p = not_so (by == n) p
foreign_asked n h r p = refl

pub same_foreign : (n : ℕ) (rs h : List DemuxRecord) (is : List Item) → AllByRecursion (λ r. is_foreign n r ≡ true) rs → same n h is ≡ true → same n (rs ++ h) is ≡ true
same_foreign n [] h is p s = s
same_foreign n (r ∷ rs) h is p s = same_more n r (rs ++ h) is (foreign_asked n (rs ++ h) r p.0) (same_foreign n rs h is p.1 s)
