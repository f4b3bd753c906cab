-- A step on demand is the step of the film that is told.
use Rattle.std.proofs.Common.{◌≡◌, ℕ, ◌+◌, ◌≤◌, max, List, length, Option, Some, Result, Ok, Err, sym, ap, ◌∙◌, arith}
use Rattle.std.specs.Prelude.{IfOk}
use Rattle.mc_packet.specs.declared.walk.Level.{Level}
use Rattle.mc_outside.specs.Shelf.{Files, Opened, content, KeepsRead}
use Rattle.mc_walk.specs.Walk.{step_at}
use Rattle.mc_cursor.specs.declared.cursor.Cursor.{Cursor}
use Rattle.mc_cursor.specs.declared.error.CursorError.{CursorError}
use Rattle.mc_cursor.specs.declared.reading.Found.{Found}
use Rattle.mc_cursor.specs.declared.step.Reached.{Reached}
use Rattle.mc_cursor.specs.declared.step.Turn.{Turn}
use Rattle.mc_cursor.specs.Reads.{Told, found_at}
use Rattle.mc_cursor.specs.Standing.{plan_for}
use Rattle.mc_cursor.specs.Steps.{turn_of, turned, step_to, BeginsIn, TurnStarts, asked_for, ReadsUpTo}
use Rattle.mc_cursor.proofs.Turning.{step_found, turn_starts, step_reach}

-- a read changes no file
pub content_kept : (f f' : Option Files) (o o' : Opened) (r r' a file : ℕ) → KeepsRead f f' o o' r r' a → content f' o' file ≡ content f o file
content_kept f f' o o' r r' a file k = cc (k.same_files, k.same_opened)

same_turn : (c : Option (List ℕ)) (cursor : Cursor) (place : ℕ) (level : Level) (found : Found) (turn : Turn) (octets : List ℕ) → turn ≡ turn_of cursor.segment_end place level found
    → Told c (λ octets. place ≤ length octets → found ≡ found_at octets place) → c ≡ Some octets → place ≤ length octets → turn ≡ turn_of cursor.segment_end place level (found_at octets place)
same_turn c cursor place level found turn octets is what told le = is ∙ ap (turn_of cursor.segment_end place level) (what octets told le)

pub step_value : (c c' : Option (List ℕ)) (cursor : Cursor) (place : ℕ) (level : Level) (found : Found) (turn : Turn) (result : Result Reached CursorError) → c' ≡ c
    → turn ≡ turn_of cursor.segment_end place level found → Told c (λ octets. place ≤ length octets → found ≡ found_at octets place)
    → IfOk result (λ s. Told c' (λ octets. TurnStarts place (length octets) turn → step_to (plan_for octets cursor) place s ≡ turned (plan_for octets cursor) place turn))
    → ((len : ℕ) → TurnStarts place len turn → IfOk result (BeginsIn len))
    → IfOk result (λ s. Told c (λ octets. place ≤ length octets → (step_to (plan_for octets cursor) place s ≡ step_at (plan_for octets cursor) place level) × BeginsIn (length octets) s))
step_value c c' cursor place level found turn (Err e) same is what follows begins = tt
step_value c c' cursor place level found turn (Ok s) same is what follows begins = λ octets told le.
    let e = same_turn c cursor place level found turn octets is what told le in
    let starts : TurnStarts place (length octets) turn = rw e (turn_starts cursor.segment_end octets place level le) in (
      follows octets (same ∙ told) starts ∙ ap (turned (plan_for octets cursor) place) e ∙ sym (step_found (plan_for octets cursor) place level),
      begins (length octets) starts,
    )

pub reach_value : (c : Option (List ℕ)) (cursor : Cursor) (place : ℕ) (level : Level) (found : Found) (turn : Turn) (before between now : ℕ)
    → turn ≡ turn_of cursor.segment_end place level found → Told c (λ octets. place ≤ length octets → found ≡ found_at octets place)
    → between ≤ max before (place + 12) → now ≤ max between (asked_for turn)
    → Told c (λ octets. place ≤ length octets → ReadsUpTo (step_at (plan_for octets cursor) place level) before now)
reach_value c cursor place level found turn before between now is what head body = λ octets told le.
    let e = same_turn c cursor place level found turn octets is what told le in
    let asked : now ≤ max between (asked_for (turn_of cursor.segment_end place level (found_at octets place))) = rw e at body in
    step_reach (plan_for octets cursor) place level before now le (omega (arith, head, asked))
