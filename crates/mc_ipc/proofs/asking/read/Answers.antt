use Rattle.std.proofs.Common.{true≢false, sym, ◌∙◌, refl, inl, inr, ◌≡◌, None}
use Rattle.std.proofs.lemmas.Bool.{cases_Bool}
use Rattle.std.proofs.lemmas.Str.{IsUtf8-from_is_utf8, is_utf8-from_IsUtf8}
use Rattle.std.specs.Str.{is_utf8}
use Rattle.serde_json.specs.Read.{read as read_text}
use Rattle.mc_ipc.proofs.asking.read.Goals as goal

pub returns-in-Ok : goal.returns-in-Ok
returns-in-Ok c = let read = c.in-Ok.ensures.ok in rw (is_utf8-from_IsUtf8 c.args.line.now read.0) (sym read.1)

pub returns-in-Err-2 : goal.returns-in-Err-2
returns-in-Err-2 c = elim (cases_Bool (is_utf8 c.args.line.now)) [
  | inl y ↦
      let none : read_text c.args.line.now ≡ None =
      c.in-Err.ensures.err (λ m. absurd (true≢false (sym (c.is_memory.ensures.1 m) ∙ c.if-is_memory.false))) (IsUtf8-from_is_utf8 c.args.line.now y) in
      rw (y, none) refl
  | inr n ↦ rw n refl
]
