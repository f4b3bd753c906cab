-- The worked scripts are played, and the wrong ones are not.
use Rattle.std.proofs.Common.{◌≡◌, ◌++◌, ◌∷◌, [], List, refl, inl, inr, lit<, lit≤, arith, length, ap, ◌∙◌, subst, length-append}
use Rattle.std.specs.Prelude.{None}
use Rattle.mc_packet.specs.declared.choice.Kind.TheVariants.{Video, Audio}
use Rattle.mc_packet.specs.declared.choice.Why.TheVariants.{NoTrack, UnknownTrack}
use Rattle.mc_journal.specs.declared.record.DemuxRecord.{DemuxRecord}
use Rattle.mc_journal.specs.declared.record.DemuxRecord.TheVariants.{Refused}
use Rattle.mc_journal.specs.Films.{rank, first_lane}
use Rattle.mc_journal.specs.WorkedFilms.{v86, a93}
use Rattle.mc_journal.specs.Worked.{audio, drain_end, start, video}
use Rattle.mc_script.specs.declared.acts.Act.TheVariants as acts
use Rattle.mc_journal.specs.Drives.{Each}
use Rattle.mc_script.specs.Plays.{May, Played, PlayedInPart}
use Rattle.mc_script.specs.PlaysWorked.{all_given, last_drain, halves, halves_left, on_one, one_turn, reads, reads_left, refusals, refusals_left, seek_line, stale, stale_left, two_parts, unselected}

pub stale_played : Played on_one stale None start (start ++ stale_left)
stale_played = (
  start,
  record { part = []; grows = refl; each = tt; ends = tt },
  (
    start ++ stale_left,
    record { part = stale_left; grows = refl; each = ((refl, refl, refl, refl, refl, refl), tt); ends = lit< tt },
    (start ++ stale_left, record { part = []; grows = refl; each = tt; ends = refl }, refl),
  ),
)

pub halves_played : Played on_one halves None start (start ++ halves_left)
unfolding rank first_lane
halves_played = (
  start,
  record { part = []; grows = refl; each = tt; ends = tt },
  (start ++ halves_left, record { part = halves_left; grows = refl; each = ((refl, lit< tt), tt); ends = refl }, refl),
)

pub reads_played : Played on_one reads None start (start ++ reads_left)
unfolding rank first_lane
reads_played = (
  start ++ two_parts,
  record { part = two_parts; grows = refl; each = ((refl, lit< tt), ((refl, lit< tt), tt)); ends = inl refl },
  (
    (start ++ two_parts) ++ video v86 ∷ [],
    record { part = video v86 ∷ []; grows = refl; each = ((record { under = refl; track = refl; fewer = lit< tt; on = refl }, refl), tt); ends = inl refl },
    (start ++ reads_left, record { part = audio a93 ∷ []; grows = refl; each = ((record { under = refl; track = refl; fewer = lit< tt; on = refl }, refl), tt); ends = inr refl }, refl),
  ),
)

pub drain_played : Played on_one last_drain None all_given (all_given ++ drain_end)
unfolding rank first_lane
drain_played = (
  all_given ++ drain_end,
  record {
    part = drain_end;
    grows = refl;
    each = (
      (refl, ((refl, refl, tt), (refl, refl, tt))),
      (
        (Video, refl, (refl, (refl, refl, tt), refl, (λ _. lit≤ tt, λ _. lit≤ tt, tt))),
        ((Audio, refl, (refl, (tt, refl, tt), refl, (tt, λ _. lit≤ tt, tt))), tt),
      ),
    );
    ends = refl;
  },
  refl,
)

pub refusals_played : Played on_one refusals None unselected (unselected ++ refusals_left)
refusals_played = (
  unselected ++ Refused 0 (UnknownTrack 9) ∷ [],
  record { part = Refused 0 (UnknownTrack 9) ∷ []; grows = refl; each = ((refl, refl, refl), tt); ends = inl (lit< tt, refl) },
  (
    unselected ++ refusals_left,
    record { part = Refused 0 NoTrack ∷ []; grows = refl; each = ((refl, refl, refl, refl), tt); ends = lit< tt },
    (unselected ++ refusals_left, record { part = []; grows = refl; each = tt; ends = refl }, refl),
  ),
)

pub reads_in_part : PlayedInPart on_one reads None start (start ++ halves_left)
reads_in_part = inl (record { part = halves_left; grows = refl; each = ((refl, lit< tt), tt) })

pub no_seek_played : Played on_one seek_line None start start → ⊥
no_seek_played p = omega (arith, ap length (p.2 ∙ p.1.grows), length-append start p.1.part, p.1.ends)

behind_start : (a b : List DemuxRecord) → start ++ a ≡ start ++ b → b ≡ a
behind_start a b e = cc

pub too_many_played : Played on_one one_turn None start (start ++ two_parts) → ⊥
too_many_played p =
    let same : p.1.part ≡ two_parts = behind_start two_parts p.1.part (p.2 ∙ p.1.grows) in
    let each = subst (λ part. Each (May on_one (acts.Demux 1) start) [] part) same p.1.each in
    omega (arith, each.1.0.1)
