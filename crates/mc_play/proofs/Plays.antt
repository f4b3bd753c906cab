-- A script that was played on a driver was played over the film for which it stands.
use Rattle.std.proofs.Common.{◌≡◌, ℕ, ◌≤◌, List, [], ◌∷◌, Option, Some, None, Result, Ok, refl, ap, subst, ◌∙◌, arith}
use Rattle.std.specs.Prelude.{reverse, ◌^◌, ℤ, pos, ◌≤ℤ◌}
use Rattle.std.specs.Int.Signed.{<ℤ-≤ℤ_trans, clash_ℤ, le_z_yes}
use Rattle.std.specs.List.{AllByRecursion}
use Rattle.std.proofs.lemmas.Int.{by_lt_z}
use Rattle.mc_outside.specs.Shelf.{Files, Opened as OpenedFiles, content, AreBytes}
use Rattle.mc_tracks.specs.declared.refused.Refused.{Refused}
use Rattle.mc_packet.specs.declared.cache.Limits.{Limits}
use Rattle.mc_tracks.specs.TrackList.{default_choice_of}
use Rattle.mc_walk.specs.declared.plan.Plan.{Plan}
use Rattle.mc_walk.specs.Opening.{opened_film}
use Rattle.mc_journal.specs.declared.record.DemuxRecord.{DemuxRecord}
use Rattle.mc_journal.specs.declared.record.DemuxRecord.TheVariants.{Opened, Failed}
use Rattle.mc_journal.specs.Films.{Film}
use Rattle.mc_journal.specs.Used.{IsUsed}
use Rattle.mc_cursor.specs.declared.cursor.Cursor.{Cursor}
use Rattle.mc_cursor.specs.Standing.{StandsFor as CursorStandsFor, plan_for}
use Rattle.mc_cursor.proofs.Standing.{opening_lies}
use Rattle.mc_index.specs.declared.index.Index.{Index}
use Rattle.mc_index.specs.Scans.{IsIndexOf}
use Rattle.mc_calls.specs.Demuxers.{AreLimits as FitLimits, IsDemux}
use Rattle.mc_calls.specs.Film.{StandsFor}
use Rattle.mc_calls.specs.Opening.{HasTracks, IsOpened}
use Rattle.mc_calls.specs.State.{DemuxState}
use Rattle.mc_calls.proofs.Laws.{stands_gapless, stands_legal, stands_used}
use Rattle.mc_script.specs.declared.acts.Act.{Act}
use Rattle.mc_journal.specs.Drives.{Readings, readings}
use Rattle.mc_script.specs.declared.options.RunLine.{RunLine}
use Rattle.mc_script.specs.RunLines.{AreLimits}
use Rattle.mc_lines.specs.declared.halt.Halt.{Halt}
use Rattle.mc_lines.specs.Calls.{FailsIn, Fixed}
use Rattle.mc_lines.specs.Lines.{Grows}
use Rattle.mc_lines.specs.Runs.{Runs}
use Rattle.mc_jobs.specs.declared.driver.Driver.{Driver}
use Rattle.mc_jobs.specs.Driving.{Drives}
use Rattle.mc_filmed.specs.Films.{film_for, choice_for}
use Rattle.mc_lines.specs.Machines.{Stands, fixed_of}
use Rattle.mc_jobs.proofs.Opened.{begins-together, has-tracks}
use Rattle.mc_lines.proofs.Ruling.{stands_for}
use Rattle.mc_play.specs.Asked.{name_at}
use Rattle.mc_play.specs.Opening.{IsOpened as IsOpenedFilm, OpensFilm}
use Rattle.mc_play.specs.Run.{Plays, PlaysFilm}

-- octets open as one film alone
same_film : (r : Result Plan Refused) (p q : Plan) → r ≡ Ok p → r ≡ Ok q → q ≡ p
same_film r p q e f = cc

pub plan_same : (octets : List ℕ) (c c' : Cursor) → CursorStandsFor octets c → CursorStandsFor octets c' → plan_for octets c' ≡ plan_for octets c
plan_same octets c c' s s' = same_film (opened_film octets) (plan_for octets c) (plan_for octets c') s.opened s'.opened

pub plays : (octets : List ℕ) (c : Cursor) (limits : Limits) (lines : List (ℕ × Act)) (halt : Result Unit Halt) (d : Driver) → OpensFilm octets c → Drives octets d → d.demux.cache.limits ≡ limits
    → Runs (readings (film_for (plan_for octets c)) limits (choice_for c.tracks)) lines (Opened 0 (default_choice_of c.tracks) ∷ []) d.demux.journal halt
    → Plays (plan_for octets c) limits lines halt d.demux.journal
plays octets c limits lines halt d opens drives kept runs =
    let film = film_for (plan_for octets c) in
    let here : StandsFor film d.demux = subst (λ (p : Plan). StandsFor (film_for p) d.demux) (plan_same octets c d.cursor opens.stands drives.cursor_is) drives.demux_is in
    record {
      runs = runs;
      used = subst (λ (l : Limits). IsUsed film l (reverse d.demux.journal)) kept (stands_used film d.demux here);
      still = here.still;
      legal = λ regular. stands_legal film d.demux here regular;
      gapless = stands_gapless film d.demux here;
    }

pub plays_from : (octets : List ℕ) (c : Cursor) (limits : Limits) (lines : List (ℕ × Act)) (halt : Result Unit Halt) (d d' : Driver) → OpensFilm octets c → Drives octets d → IsDemux d.demux → d.cursor ≡ c
    → d.demux.cache.limits ≡ limits → d.demux.list ≡ c.tracks → d.demux.journal ≡ Opened 0 (default_choice_of c.tracks) ∷ [] → fixed_of d' ≡ fixed_of d
    → ((rd : Readings) → Stands d octets rd → Stands d' octets rd) → ((rd : Readings) → Stands d octets rd → Runs rd lines d.demux.journal d'.demux.journal halt)
    → Plays (plan_for octets c) limits lines halt d'.demux.journal
plays_from octets c limits lines halt d d' opens drives demux cursor kept list journal fixed stands runs =
    let rd = readings (film_for (plan_for octets c)) limits (choice_for c.tracks) in
    let start : Stands d octets rd = stands_for d octets rd drives demux (rw (cursor, kept, list) refl) in
    plays octets c limits lines halt d' opens (stands rd start).drives (ap (λ (f : Fixed). f.limits) fixed ∙ kept)
    (subst (λ (j : List DemuxRecord). Runs rd lines j d'.demux.journal halt) journal (runs rd start))

-- a driver that begins
pub begins : (octets : List ℕ) (c : Cursor) (limits : Limits) (x : Index) (d : DemuxState) → AreBytes octets → OpensFilm octets c → ((plan : Plan) → plan.tracks ≡ c.tracks → IsIndexOf plan x)
    → IsOpened c.tracks (default_choice_of c.tracks) limits d → ((film : Film) → HasTracks c.tracks film → StandsFor film d) → Drives octets (record { demux = d; cursor = c; index = x })
begins octets c limits x d all opens index opened film =
    let plan = plan_for octets c in
    begins-together octets c.tracks (default_choice_of c.tracks) limits c x d opens.stands (index plan refl) opened (film (film_for plan) (has-tracks plan (opening_lies octets c opens.stands) all))

-- ---- the limits of a line are such that a demuxer can work within them

far : (z : ℤ) → z ≤ℤ pos 3600000000000 → z ≤ℤ pos (2 ^ 62)
far z h = by_lt_z (pos (2 ^ 62)) z (λ l. clash_ℤ (<ℤ-≤ℤ_trans l h) (le_z_yes tt)) (λ k. k)

pub wide_limits : (limits : Limits) → AreLimits limits → FitLimits limits
wide_limits limits h =
    record {
      some = h.forward.0;
      forward = omega (arith, h.forward.1);
      back = omega (arith, h.back);
      from_now = h.readahead.0;
      ahead = far limits.readahead h.readahead.1;
    }

-- ---- the told film

film_told : (files : Option Files) (opened : OpenedFiles) (words : List (List ℕ)) (line : RunLine) (c : Cursor) (lines : List (ℕ × Act)) (halt : Result Unit Halt) (hd : List DemuxRecord)
    → IsOpenedFilm files opened (name_at words line.file) c
    → ((octets : List ℕ) → content files opened c.file.0 ≡ Some octets → OpensFilm octets c → Plays (plan_for octets c) line.limits lines halt hd) → PlaysFilm files words line lines halt hd
film_told None opened words line c lines halt hd opens plays = tt
film_told (Some files) opened words line c lines halt hd opens plays =
    (opens.0, opens.1, (plan_for opens.0 c, opens.3.stands.opened, plays opens.0 opens.2 opens.3))

pub film_played : (files files' : Option Files) (opened : OpenedFiles) (words : List (List ℕ)) (line : RunLine) (c : Cursor) (lines : List (ℕ × Act)) (halt : Result Unit Halt) (hd : List DemuxRecord) → files' ≡ files
    → IsOpenedFilm files' opened (name_at words line.file) c
    → ((octets : List ℕ) → content files' opened c.file.0 ≡ Some octets → OpensFilm octets c → Plays (plan_for octets c) line.limits lines halt hd) → PlaysFilm files words line lines halt hd
film_played files files' opened words line c lines halt hd e opens plays =
    subst (λ (f : Option Files). PlaysFilm f words line lines halt hd) e (film_told files' opened words line c lines halt hd opens plays)

-- ---- counts of faults from an earlier one on

fails_earlier : (least least' most : ℕ) (r : DemuxRecord) → least' ≤ least → FailsIn least most r → FailsIn least' most r
fails_earlier least least' most (Failed by b a) e h = (h.0, omega (arith, e, h.1), h.2)
fails_earlier least least' most _ e h = h

all_earlier : (least least' most : ℕ) (rs : List DemuxRecord) → least' ≤ least → AllByRecursion (FailsIn least most) rs → AllByRecursion (FailsIn least' most) rs
all_earlier least least' most [] e h = tt
all_earlier least least' most (r ∷ rs) e h = (fails_earlier least least' most r e h.0, all_earlier least least' most rs e h.1)

pub grows_earlier : (least least' most : ℕ) (old new : List DemuxRecord) → least' ≤ least → Grows least most old new → Grows least' most old new
grows_earlier least least' most old new e g = record { part = g.part; grows = g.grows; fails = all_earlier least least' most g.part e g.fails; later = omega (arith, e, g.later) }
