-- What a look-up of one track after the other comes to.
use Rattle.std.proofs.Common.{◌≡◌, ℕ, Bool, List, Option, Some, None, ℤ, subst, arith}
use Rattle.std.specs.Prelude.{◌&&◌}
use Rattle.mc_packet.specs.declared.packet.Packet.{Packet}
use Rattle.mc_packet.specs.declared.choice.Choice.{Choice}
use Rattle.mc_packet.specs.declared.choice.Dir.{Dir}
use Rattle.mc_packet.specs.declared.choice.Dir.TheVariants.{Back}
use Rattle.mc_walk.specs.declared.plan.Plan.{Plan}
use Rattle.mc_cursor.specs.declared.cursor.Cursor.{Cursor}
use Rattle.mc_cursor.specs.Standing.{plan_for, mark_of, at_mark}
use Rattle.mc_journal.specs.Films.{time_or, video_sync, audio_dir, film_syncs}
use Rattle.mc_index.specs.declared.search.Around.{Around}
use Rattle.mc_index.specs.Answers.{AreOfBlocks, AreFor, SeekStarts, SwitchStarts, SeekReads, SwitchReads, ReadsUntil, shows, needed_lead}
use Rattle.mc_filmed.specs.Films.{plan_packets}
use Rattle.mc_index.specs.Searches.{IsNear, Rises, NearReads, chosen, reference, seek_of, switch_of}
use Rattle.mc_index.proofs.Placing.{near-known, near-before_known, seek-placed, switch-placed, seek-for, switch-for}
use Rattle.mc_index.proofs.Ruling.{listed-rises, video-rises, audio-rises, seek-time, seek-starts, switch-starts, near-last, reads-first, reads-then}
use Rattle.mc_index.proofs.SoFar.{same-plan}

pub near-moved : (octets : List ℕ) (c c' : Cursor) (track : Option ℕ) (t : ℤ) (a : Around) → c' ≡ at_mark c (mark_of c') → IsNear (plan_for octets c') track t a → IsNear (plan_for octets c) track t a
near-moved octets c c' track t a moved near = subst (λ (p : Plan). IsNear p track t a) (same-plan octets c c' moved) near

pub none-read : (plan : Plan) (t : ℤ) (reach : ℕ) → NearReads plan None t reach reach
none-read plan t reach = λ rise n m ps front shown. omega arith

-- ---- a seek

pub seek-blocks : (plan : Plan) (set : Choice) (dir : Dir) (t : ℤ) (lead beside : Around) → IsNear plan set.video t lead → IsNear plan set.audio (reference dir t lead) beside
    → AreOfBlocks plan (seek_of set dir t lead beside)
seek-blocks plan set dir t lead beside near next =
    seek-placed plan set (chosen dir t lead) (chosen (audio_dir set.video dir) (reference dir t lead) beside)
    (near-known plan set.video dir t lead near) (near-known plan set.audio (audio_dir set.video dir) (reference dir t lead) beside next)

pub seek-value : (plan : Plan) (set : Choice) (dir : Dir) (t : ℤ) (lead beside : Around) → IsNear plan set.video t lead → IsNear plan set.audio (reference dir t lead) beside
    → SeekStarts plan set dir t (seek_of set dir t lead beside)
seek-value plan set dir t lead beside near next = λ regular known. seek-starts plan set dir t lead beside regular known near next

pub seek-tracks : (set : Choice) (dir : Dir) (t : ℤ) (lead beside : Around) → AreFor set (seek_of set dir t lead beside)
seek-tracks set dir t lead beside = seek-for set (chosen dir t lead) (chosen (audio_dir set.video dir) (reference dir t lead) beside)

pub seek-first_reads : (plan : Plan) (set : Choice) (dir : Dir) (t : ℤ) (before now : ℕ) → NearReads plan set.video t before now → SeekReads plan set dir t before now
seek-first_reads plan set dir t before now reads = λ regular known.
    reads-first plan (λ ps. shows ps t set.video) (λ ps. shows ps (time_or t (video_sync (film_syncs (plan_packets plan)) set dir t)) set.audio) before now
    (reads (video-rises plan set regular known))

pub seek-reads : (plan : Plan) (set : Choice) (dir : Dir) (t : ℤ) (lead : Around) (before between now : ℕ) → IsNear plan set.video t lead → NearReads plan set.video t before between
    → NearReads plan set.audio (reference dir t lead) between now → SeekReads plan set dir t before now
seek-reads plan set dir t lead before between now near reads more = λ regular known.
    let rise = video-rises plan set regular known in
    let time : ℤ = time_or t (video_sync (film_syncs (plan_packets plan)) set dir t) in
    let next : ReadsUntil plan (λ ps. shows ps time set.audio) between now =
    subst (λ z. ReadsUntil plan (λ ps. shows ps z set.audio) between now) (seek-time plan set dir t lead near rise) (more (audio-rises plan set regular known)) in
    reads-then plan (λ ps. shows ps t set.video) (λ ps. shows ps time set.audio) before between now (reads rise) next

-- ---- a switch

pub switch-blocks : (plan : Plan) (added : Choice) (at : ℤ) (video audio lead : Around) (leading : Option ℕ) → IsNear plan added.video at video → IsNear plan added.audio at audio → IsNear plan leading at lead
    → AreOfBlocks plan (switch_of added at video audio lead)
switch-blocks plan added at video audio lead leading v a l =
    switch-placed plan added (chosen Back at video) (chosen Back at audio) lead.before (near-known plan added.video Back at video v) (near-known plan added.audio Back at audio a)
    (near-before_known plan leading at lead l)

pub switch-tracks : (added : Choice) (at : ℤ) (video audio lead : Around) → AreFor added (switch_of added at video audio lead)
switch-tracks added at video audio lead = switch-for added (chosen Back at video) (chosen Back at audio) lead.before

pub switch-value : (plan : Plan) (added : Choice) (lead : Option ℕ) (at : ℤ) (video audio leading : Around) → IsNear plan added.video at video → IsNear plan added.audio at audio
    → IsNear plan (needed_lead added.sub lead) at leading → SwitchStarts plan added lead at (switch_of added at video audio leading)
switch-value plan added lead at video audio leading v a l = λ regular known listed.
    switch-starts plan added lead at video audio leading.before regular known v a
    (λ k e. near-last plan lead at leading (subst (λ (o : Option ℕ). IsNear plan (needed_lead o lead) at leading) e l) (listed-rises plan lead regular listed))

lead-rises : (plan : Plan) (sub lead : Option ℕ) → Rises plan lead → Rises plan (needed_lead sub lead)
lead-rises plan None lead rise = tt
lead-rises plan (Some k) lead rise = rise

abbrev test_of : ℤ → Option ℕ → List Packet → Bool
test_of at track = λ ps. shows ps at track

pub switch-first_reads : (plan : Plan) (added : Choice) (lead : Option ℕ) (at : ℤ) (before now : ℕ) → NearReads plan added.video at before now → SwitchReads plan added lead at before now
switch-first_reads plan added lead at before now reads = λ regular known listed.
    reads-first plan (test_of at added.video) (λ ps. shows ps at added.audio && shows ps at (needed_lead added.sub lead)) before now (reads (video-rises plan added regular known))

pub switch-second_reads : (plan : Plan) (added : Choice) (lead : Option ℕ) (at : ℤ) (before between now : ℕ) → NearReads plan added.video at before between
    → NearReads plan added.audio at between now → SwitchReads plan added lead at before now
switch-second_reads plan added lead at before between now reads more = λ regular known listed.
    reads-then plan (test_of at added.video) (λ ps. shows ps at added.audio && shows ps at (needed_lead added.sub lead)) before between now (reads (video-rises plan added regular known))
    (reads-first plan (test_of at added.audio) (test_of at (needed_lead added.sub lead)) between now (more (audio-rises plan added regular known)))

pub switch-reads : (plan : Plan) (added : Choice) (lead : Option ℕ) (at : ℤ) (before between further now : ℕ) → NearReads plan added.video at before between
    → NearReads plan added.audio at between further → NearReads plan (needed_lead added.sub lead) at further now → SwitchReads plan added lead at before now
switch-reads plan added lead at before between further now reads more last = λ regular known listed.
    reads-then plan (test_of at added.video) (λ ps. shows ps at added.audio && shows ps at (needed_lead added.sub lead)) before between now (reads (video-rises plan added regular known))
    (reads-then plan (test_of at added.audio) (test_of at (needed_lead added.sub lead)) between further now (more (audio-rises plan added regular known))
    (last (lead-rises plan added.sub lead (listed-rises plan lead regular listed))))
