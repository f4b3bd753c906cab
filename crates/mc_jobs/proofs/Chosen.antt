-- Which tracks a journal's choices can name.
use Rattle.std.proofs.Common.{◌≡◌, ℕ, Bool, true, false, List, [], ◌∷◌, Option, Some, None, refl, sym, subst}
use Rattle.std.proofs.lemmas.Bool.{cond_both}
use Rattle.std.specs.Prelude.{◌&&◌, ◌||◌}
use Rattle.mc_packet.specs.declared.choice.Choice.{Choice}
use Rattle.mc_packet.specs.declared.choice.Kind.{Kind}
use Rattle.mc_packet.specs.declared.choice.Kind.TheVariants.{Video, Audio, Sub}
use Rattle.mc_packet.specs.declared.cache.Limits.{Limits}
use Rattle.mc_journal.specs.declared.record.DemuxRecord.{DemuxRecord}
use Rattle.mc_journal.specs.declared.record.DemuxRecord.TheVariants.{Opened, Sought, Switched, Found, Fed, Failed, Starved, Dropped, Joined, Gave, Ended, Overfull, Faulted, Wanting, Shown, Refused}
use Rattle.mc_packet.specs.Choices.{passes, lead_of, is_other, is_distinct, is_known}
use Rattle.mc_journal.specs.Choices.{kept_track, kept_of}
use Rattle.mc_journal.specs.Films.{Film, is_listed}
use Rattle.mc_journal.specs.Readings.{selected}
use Rattle.mc_journal.specs.Used.{IsUsed}

and-first : (a b : Bool) → (a && b) ≡ true → a ≡ true
and-first true b h = refl
and-first false b h = h

and-second : (a b : Bool) → (a && b) ≡ true → b ≡ true
and-second true b h = h
and-second false b h = absurd (cc h)

and-both : (a b : Bool) → a ≡ true → b ≡ true → (a && b) ≡ true
and-both a b h g = rw (h, g) refl

-- ---- the selected tracks

-- the tracks that are selected are the film's, each under its kind
pub selected-known : (film : Film) (limits : Limits) (h : List DemuxRecord) → IsUsed film limits h → is_known film.known (selected h) ≡ true
selected-known film limits [] used = refl
selected-known film limits (Opened by set ∷ h) used = used.0.0.1
selected-known film limits (Sought by set t dir how ∷ h) used = subst (λ s. is_known film.known s ≡ true) (sym used.0.0.0) (selected-known film limits h used.1)
selected-known film limits (Switched by set added t ∷ h) used = used.0.0.0
selected-known film limits (Found by starts ∷ h) used = selected-known film limits h used.1
selected-known film limits (Fed by from to took ending ∷ h) used = selected-known film limits h used.1
selected-known film limits (Failed by before after ∷ h) used = selected-known film limits h used.1
selected-known film limits (Starved by ∷ h) used = selected-known film limits h used.1
selected-known film limits (Dropped by removal ∷ h) used = selected-known film limits h used.1
selected-known film limits (Joined by ∷ h) used = selected-known film limits h used.1
selected-known film limits (Gave by track place time len sum sync key ∷ h) used = selected-known film limits h used.1
selected-known film limits (Ended by track ending ∷ h) used = selected-known film limits h used.1
selected-known film limits (Overfull by track forward max ∷ h) used = selected-known film limits h used.1
selected-known film limits (Faulted by track before after ∷ h) used = selected-known film limits h used.1
selected-known film limits (Wanting by track ∷ h) used = selected-known film limits h used.1
selected-known film limits (Shown by view ∷ h) used = selected-known film limits h used.1
selected-known film limits (Refused by why ∷ h) used = selected-known film limits h used.1

-- ---- some of them

kept-passes : (o : Option ℕ) (test P : ℕ → Bool) → passes o P ≡ true → passes (kept_track test o) P ≡ true
kept-passes None test P h = refl
kept-passes (Some track) test P h = cond_both (test track) (Some track) None (λ o. passes o P ≡ true) (λ e. h) (λ e. refl)

other-none : (a : Option ℕ) → is_other a None ≡ true
other-none None = refl
other-none (Some a) = refl

kept-other : (a b : Option ℕ) (test : ℕ → Bool) → is_other a b ≡ true → is_other (kept_track test a) (kept_track test b) ≡ true
kept-other None b test h = refl
kept-other (Some a) None test h = other-none (kept_track test (Some a))
kept-other (Some a) (Some b) test h =
    cond_both (test a) (Some a) None (λ o. is_other o (kept_track test (Some b)) ≡ true)
    (λ e. cond_both (test b) (Some b) None (λ o. is_other (Some a) o ≡ true) (λ g. h) (λ g. refl)) (λ e. refl)

-- some tracks of a known choice are a known choice
pub kept-known : (known : Kind → ℕ → Bool) (set : Choice) (test : ℕ → Bool) → is_known known set ≡ true → is_known known (kept_of set test) ≡ true
kept-known known set test h =
    let video = and-first (passes set.video (known Video)) (passes set.audio (known Audio) && (passes set.sub (known Sub) && is_distinct set)) h in
    let others = and-second (passes set.video (known Video)) (passes set.audio (known Audio) && (passes set.sub (known Sub) && is_distinct set)) h in
    let audio = and-first (passes set.audio (known Audio)) (passes set.sub (known Sub) && is_distinct set) others in
    let rest = and-second (passes set.audio (known Audio)) (passes set.sub (known Sub) && is_distinct set) others in
    let sub = and-first (passes set.sub (known Sub)) (is_distinct set) rest in
    let distinct = and-second (passes set.sub (known Sub)) (is_distinct set) rest in
    let one = and-first (is_other set.video set.audio) (is_other set.video set.sub && is_other set.audio set.sub) distinct in
    let two = and-second (is_other set.video set.audio) (is_other set.video set.sub && is_other set.audio set.sub) distinct in
    let kept = kept_of set test in
    and-both (passes kept.video (known Video)) _ (kept-passes set.video test (known Video) video)
    (and-both (passes kept.audio (known Audio)) _ (kept-passes set.audio test (known Audio) audio)
    (and-both (passes kept.sub (known Sub)) _ (kept-passes set.sub test (known Sub) sub)
    (and-both (is_other kept.video kept.audio) _ (kept-other set.video set.audio test one)
    (and-both (is_other kept.video kept.sub) _ (kept-other set.video set.sub test (and-first (is_other set.video set.sub) (is_other set.audio set.sub) two))
    (kept-other set.audio set.sub test (and-second (is_other set.video set.sub) (is_other set.audio set.sub) two))))))

or-first : (a b : Bool) → a ≡ true → (a || b) ≡ true
or-first a b h = rw h refl

or-second : (a b : Bool) → b ≡ true → (a || b) ≡ true
or-second true b h = refl
or-second false b h = h

lead-by : (known : Kind → ℕ → Bool) (set : Choice) (video audio : Option ℕ) → set.video ≡ video → set.audio ≡ audio → passes video (known Video) ≡ true → passes audio (known Audio) ≡ true
    → passes (lead_of set) (is_listed known) ≡ true
lead-by known set (Some v) audio e g h k = rw e (or-first (known Video v) (known Audio v) h)
lead-by known set None (Some a) e g h k = rw (e, g) (or-second (known Video a) (known Audio a) k)
lead-by known set None None e g h k = rw (e, g) refl

-- its lead is a track that the film lists as video or audio
pub lead-listed : (known : Kind → ℕ → Bool) (set : Choice) → is_known known set ≡ true → passes (lead_of set) (is_listed known) ≡ true
lead-listed known set h =
    lead-by known set set.video set.audio refl refl (and-first (passes set.video (known Video)) (passes set.audio (known Audio) && (passes set.sub (known Sub) && is_distinct set)) h)
    (and-first (passes set.audio (known Audio)) (passes set.sub (known Sub) && is_distinct set)
    (and-second (passes set.video (known Video)) (passes set.audio (known Audio) && (passes set.sub (known Sub) && is_distinct set)) h))
