-- A range that serves a seek gives the starts of the whole film, in either direction.
use Rattle.std.proofs.Common.{◌≡◌, ℕ, ◌<◌, ◌≤◌, Bool, true, false, ◌||◌, List, Option, Some, None, ℤ, arith, refl, ap, ◌∙◌}
use Rattle.std.specs.Prelude.{is_some, IfSome}
use Rattle.std.specs.List.{AllByRecursion}
use Rattle.std.proofs.lemmas.Bool.{and_parts}
use Rattle.mc_packet.specs.declared.choice.Choice.{Choice}
use Rattle.mc_packet.specs.declared.choice.Kind.{Kind}
use Rattle.mc_packet.specs.declared.choice.Kind.TheVariants.{Video, Audio}
use Rattle.mc_packet.specs.declared.choice.Dir.{Dir}
use Rattle.mc_packet.specs.declared.choice.Dir.TheVariants.{Back, Forward}
use Rattle.mc_packet.specs.declared.packet.Packet.{Packet}
use Rattle.mc_packet.specs.Choices.{passes, is_known}
use Rattle.mc_journal.specs.Films.{at, first_lane, IsRising, TimesRise, syncs, sync_for, track_sync, video_sync, audio_sync, audio_dir, time_or, start_by, start_with, film_syncs, start_of, is_listed, IsRegular}
use Rattle.mc_journal.specs.Ranges.{Span, Range, in_span, held_syncs, served, on_span, served_track, serves, IsWhole}
use Rattle.mc_journal.proofs.Lists.{all_to, all_kept, rising_kept}
use Rattle.mc_journal.proofs.Back.{back-is-sync}
use Rattle.mc_journal.proofs.Onward.{forward-is-sync}

-- ---- a known choice names tracks that the film lists

passes-listed : (known : Kind → ℕ → Bool) (o : Option ℕ) → (kind : Kind) → ((k : ℕ) → known kind k ≡ true → is_listed known k ≡ true)
    → passes o (known kind) ≡ true → passes o (is_listed known) ≡ true
passes-listed known None kind f h = refl
passes-listed known (Some k) kind f h = f k h

or_right : (a b : Bool) → b ≡ true → (a || b) ≡ true
or_right true b h = refl
or_right false b h = h

pub video_listed : (known : Kind → ℕ → Bool) (set : Choice) → is_known known set ≡ true → passes set.video (is_listed known) ≡ true
video_listed known set h = passes-listed known set.video Video (λ k e. rw e refl) (and_parts (passes set.video (known Video)) _ h).0

pub audio_listed : (known : Kind → ℕ → Bool) (set : Choice) → is_known known set ≡ true → passes set.audio (is_listed known) ≡ true
audio_listed known set h =
    let more = (and_parts (passes set.video (known Video)) _ h).1 in
    passes-listed known set.audio Audio (λ k e. or_right (known Video k) (known Audio k) e) (and_parts (passes set.audio (known Audio)) _ more).0

-- ---- one track

served-is-sync : (dir : Dir) (from to : ℕ) (ended : Bool) (t : ℤ) (ps : List Packet) → IsRising ps → TimesRise ps
    → (ended ≡ true → AllByRecursion (λ p. at p < to) ps)
    → served dir from ended t (in_span (Some (record { from = from; to = to })) ps) ≡ true
    → sync_for dir t (in_span (Some (record { from = from; to = to })) ps) ≡ sync_for dir t ps
served-is-sync Back from to ended t ps rise times whole h = back-is-sync from to ended t ps rise times whole h
served-is-sync Forward from to ended t ps rise times whole h = forward-is-sync from to ended t ps rise times whole h

served_span : (dir : Dir) (o : Option Span) (ended : Bool) (m : ℕ) (t : ℤ) (ps : List Packet) → IsRising ps → TimesRise ps
    → (ended ≡ true → AllByRecursion (λ p. at p < m) ps) → IfSome o (λ s. m ≤ s.to)
    → on_span o (λ s. served dir s.from ended t (in_span o ps)) ≡ true
    → sync_for dir t (in_span o ps) ≡ sync_for dir t ps
served_span dir None ended m t ps rise times whole mark h = absurd (cc)
served_span dir (Some s) ended m t ps rise times whole mark h =
    served-is-sync dir s.from s.to ended t ps rise times (λ e. all_to (λ p. at p < m) (λ p. at p < s.to) (λ p l. omega arith) ps (whole e)) h

served_one : (ps : List Packet) (r : Range) (dir : Dir) (t : ℤ) (o : Option ℕ) (known : Kind → ℕ → Bool) → IsRising ps → IsRegular ps known → IsWhole ps r
    → passes o (is_listed known) ≡ true → passes o (served_track r ps dir t) ≡ true
    → track_sync (held_syncs r ps) dir t o ≡ track_sync (film_syncs ps) dir t o
served_one ps r dir t None known rise regular whole fits h = refl
served_one ps r dir t (Some k) known rise regular whole fits h =
    served_span dir (r.spans k) (is_some r.ending) (first_lane r.mark) t (syncs k ps) (rising_kept _ ps rise) (regular k fits)
    (λ e. all_kept (λ p. at p < first_lane r.mark) _ ps (whole.ended e)) (whole.marked k) h

-- ---- all tracks

pub serves-is-start : (ps : List Packet) (r : Range) (set : Choice) (dir : Dir) (t : ℤ) (known : Kind → ℕ → Bool) → IsRising ps → IsRegular ps known → IsWhole ps r
    → is_known known set ≡ true → serves ps set dir t r ≡ true
    → (track : ℕ) → start_with (held_syncs r ps) set dir t track ≡ start_of ps set dir t track
serves-is-start ps r set dir t known rise regular whole fits h track =
    let parts = and_parts _ _ h in
    let more = and_parts _ _ parts.1 in
    let v : video_sync (held_syncs r ps) set dir t ≡ video_sync (film_syncs ps) set dir t =
    served_one ps r dir t set.video known rise regular whole (video_listed known set fits) parts.0 in
    let a : audio_sync (held_syncs r ps) set dir t ≡ audio_sync (film_syncs ps) set dir t =
    served_one ps r (audio_dir set.video dir) (time_or t (video_sync (held_syncs r ps) set dir t)) set.audio known rise regular whole (audio_listed known set fits) more.0
    ∙ ap (λ o. track_sync (film_syncs ps) (audio_dir set.video dir) (time_or t o) set.audio) v in
    ap (λ o. start_by set o (audio_sync (held_syncs r ps) set dir t) track) v ∙ ap (λ o. start_by set (video_sync (film_syncs ps) set dir t) o track) a
