-- A film in memory that was read without options was drained.
use Rattle.std.proofs.Common.{◌≡◌, ℕ, List, [], ◌∷◌, Option, Some, None, Result, sym, ap, subst, ◌∙◌, inl, inr, arith}
use Rattle.std.specs.List.{list_any}
use Rattle.std.proofs.lemmas.Bool.{cases_Bool}
use Rattle.mc_outside.specs.Causes.{Rose}
use Rattle.mc_outside.specs.Shelf.{Files}
use Rattle.mc_packet.specs.declared.cache.Limits.{Limits}
use Rattle.mc_walk.specs.Opening.{opened_film}
use Rattle.mc_journal.specs.declared.record.DemuxRecord.{DemuxRecord}
use Rattle.mc_script.specs.declared.acts.Act.{Act}
use Rattle.mc_script.specs.declared.options.RunLine.{RunLine}
use Rattle.mc_lines.specs.declared.halt.Halt.{Halt}
use Rattle.mc_play.specs.Asked.{name_at}
use Rattle.mc_play.specs.Run.{Plays, Stepped, is_failed}
use Rattle.mc_play.specs.Summing.{Drained}
use Rattle.mc_play.proofs.Endings.{failed_rose}

-- read from the first word on, without a script
abbrev pub plain_line : Limits → RunLine
plain_line limits = record { limits = limits; file = 0; script = None }

not_risen : Rose 0 0 → ⊥
not_risen r = absurd (omega (arith, r))

one_file : (o : Option (List ℕ)) (a b : List ℕ) → o ≡ Some a → o ≡ Some b → b ≡ a
one_file o a b e f = cc

pub drained : (octets name : List ℕ) (files : Files) (words : List (List ℕ)) (limits : Limits) (halt : Result Unit Halt) (hd : List DemuxRecord) → files name ≡ Some octets → words ≡ name ∷ []
    → Stepped (Some files) words (plain_line limits) 0 0 halt hd → Drained octets halt hd
drained octets name files words limits halt hd told is s =
    let film = s.film in
    let named : name_at words 0 ≡ name = ap (λ (ws : List (List ℕ)). name_at ws 0) is in
    let same : film.0 ≡ octets = one_file (files name) octets film.0 told (ap files (sym named) ∙ film.1) in
    record {
      plan = film.2.0;
      opened = ap opened_film (sym same) ∙ film.2.1;
      limits = limits;
      plays = subst (λ (lines : List (ℕ × Act)). Plays film.2.0 limits lines halt hd) s.script film.2.2;
      unfailed = elim (cases_Bool (list_any is_failed hd)) [
        | inl y ↦ absurd (not_risen (failed_rose 0 0 hd s.set s.grows y))
        | inr o ↦ o
      ];
    }
