use Rattle.std.proofs.Common.{◌≡◌, Option, Some, None, refl, sym, ap, subst, ◌∙◌}
use Rattle.mc_walk.specs.declared.plan.Plan.{Plan}
use Rattle.mc_walk.specs.Parts.{chunk_at}
use Rattle.mc_cursor.specs.Heads.{head_chunk_of}
use Rattle.mc_cursor.specs.Standing.{plan_for, mark_of}
use Rattle.mc_packet.specs.declared.walk.Ending.{Ending}
use Rattle.mc_index.specs.declared.search.Found.{Found}
use Rattle.mc_index.specs.Searches.{IsOn, unless_ended}
use Rattle.mc_index.specs.Scans.{IsIndexOf}
use Rattle.mc_index.proofs.SoFar.{is-plan}
use Rattle.mc_index.proofs.index.Index.read_on.Goals as goal

pub returns-in_err-note-clause-stands : goal.returns-in_err-note-clause-stands
returns-in_err-note-clause-stands g c = λ octets told stands index.
    let value = c.in_ok-head.ensures.value octets told stands in
    let plan = plan_for octets c.args.cursor.now in
    let from = c.in_ok-head.ensures.moves.0 in
    let head = value.0 ∙ ap (λ m. head_chunk_of (chunk_at plan m)) (sym from) in
    let after = c.note.ensures.stands plan (is-plan octets c.args.cursor.now stands) head index in
    let same = ap (plan_for octets) c.in_ok-head.ensures.moves.1 in
    (value.1, subst (λ (p : Plan). IsIndexOf p c.note.new.self) (sym same) after)

pub returns-clause-stands : goal.returns-clause-stands
returns-clause-stands g c = λ octets told stands index.
    let value = c.in_ok-head.ensures.value octets told stands in
    let plan = plan_for octets c.args.cursor.now in
    let from = c.in_ok-head.ensures.moves.0 in
    let head = value.0 ∙ ap (λ m. head_chunk_of (chunk_at plan m)) (sym from) in
    let after = c.note.ensures.stands plan (is-plan octets c.args.cursor.now stands) head index in
    let same = ap (plan_for octets) c.in_ok-head.ensures.moves.1 in
    (value.1, subst (λ (p : Plan). IsIndexOf p c.note.new.self) (sym same) after)

on-goes : (e : Option Ending) (f : Found) → IsOn (unless_ended e f) → e ≡ None
on-goes None f on = refl
on-goes (Some ending) f on = absurd on

pub returns-clause-follows : goal.returns-clause-follows
returns-clause-follows g c = λ on at.
    let head = c.in_ok-head.head in
    let goes = on-goes head.ending _ (subst IsOn c.found_by.ensures on) in
    let from = c.in_ok-head.ensures.moves.0 ∙ at in
    let noted = c.in_ok-note.ensures.noted goes from in
    ap mark_of c.in_ok-head.ensures.moves.1 ∙ sym noted.0
