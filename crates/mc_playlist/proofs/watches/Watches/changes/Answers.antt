use Rattle.std.proofs.Common.{◌≡◌, ◌∙◌, Bool, false, true, List, [], map, Result, Ok, Err, ap, sym, subst}
use Rattle.std.specs.Prelude.{All, OnOk}
use Rattle.std.specs.List.{list_any}
use Rattle.std.proofs.lemmas.Result.{on_ok_weaker}
use Rattle.mc_props.specs.declared.entries.PropEntry.{PropEntry}
use Rattle.mc_playlist.specs.Watches.{AnswersIfDue, Current, IsSure, is_due, told}
use Rattle.mc_playlist.specs.declared.watched.Watched.{Watched}
use Rattle.mc_playlist.proofs.Watching.{IsQuiet, all_may_read, all_sure, apart_at, current_told, none_due, quiet}
use Rattle.mc_playlist.proofs.watches.Watches.changes.Goals as goal

pub returns-then-not-is_any_due-clause-value : goal.returns-then-not-is_any_due-clause-value
returns-then-not-is_any_due-clause-value g c =
    let stated = g.M.ListMeaning.value in
    let table = c.args.table.now in
    let f = c.args.facts.now in
    let ws : List Watched = c.args.self.now in
    let sure : All (IsSure stated table c.args.mask f) ws = all_sure stated table c.entries-entries.ensures.fit.masked c.args.mask f ws c.requires in
    let items : c.deref.result.now ≡ ws = c.deref.ensures.value ∙ c.self.view_is in
    let none : list_any (is_due table c.args.mask) ws ≡ false =
    ap (λ (xs : List Watched). list_any (is_due table c.args.mask) xs) (sym items)
    ∙ ap (λ (es : List PropEntry). list_any (is_due es c.args.mask) c.deref.result.now) (sym c.entries-entries.ensures.value)
    ∙ sym c.is_any_due.ensures ∙ c.if-not-is_any_due.true in
    let q : IsQuiet stated f ws = quiet stated table c.args.mask f ws sure none in
    c.new.ensures ∙ q.none

pub returns-then-not-is_any_due-clause-after : goal.returns-then-not-is_any_due-clause-after
returns-then-not-is_any_due-clause-after g c =
    let stated = g.M.ListMeaning.value in
    let table = c.args.table.now in
    let f = c.args.facts.now in
    let ws : List Watched = c.args.self.now in
    let sure : All (IsSure stated table c.args.mask f) ws = all_sure stated table c.entries-entries.ensures.fit.masked c.args.mask f ws c.requires in
    let items : c.deref.result.now ≡ ws = c.deref.ensures.value ∙ c.self.view_is in
    let none : list_any (is_due table c.args.mask) ws ≡ false =
    ap (λ (xs : List Watched). list_any (is_due table c.args.mask) xs) (sym items)
    ∙ ap (λ (es : List PropEntry). list_any (is_due es c.args.mask) c.deref.result.now) (sym c.entries-entries.ensures.value)
    ∙ sym c.is_any_due.ensures ∙ c.if-not-is_any_due.true in
    let q : IsQuiet stated f ws = quiet stated table c.args.mask f ws sure none in
    q.same

pub returns-then-not-is_any_due-clause-current : goal.returns-then-not-is_any_due-clause-current
returns-then-not-is_any_due-clause-current g c =
    let stated = g.M.ListMeaning.value in
    let table = c.args.table.now in
    let f = c.args.facts.now in
    subst (Current stated table f) (sym (returns-then-not-is_any_due-clause-after g c)) (current_told stated table f c.args.self.now c.requires.2.placed)

pub read-requires-clause-answers : goal.read-requires-clause-answers
read-requires-clause-answers g c =
    let answers = g.F.ListReads.answers c.reader.result.now in
    subst (λ (es : List PropEntry). All (AnswersIfDue answers es c.args.mask) c.args.self.now) (sym c.entries-entries.ensures.value)
    (all_may_read answers c.args.table.now c.reader.ensures c.args.mask c.args.self.now c.requires.2.placed)

pub read-requires-clause-sure : goal.read-requires-clause-sure
read-requires-clause-sure g c =
    let stated = g.M.ListMeaning.value in
    subst (λ (es : List PropEntry). All (IsSure stated es c.args.mask c.args.facts.now) c.args.self.now) (sym c.entries-entries.ensures.value)
    (all_sure stated c.args.table.now c.entries-entries.ensures.fit.masked c.args.mask c.args.facts.now c.args.self.now c.requires)

pub returns-clause-current : goal.returns-clause-current
returns-clause-current g c =
    let stated = g.M.ListMeaning.value in
    let table = c.args.table.now in
    let f = c.args.facts.now in
    on_ok_weaker c.read.result
    (λ (e : c.read.new.self ≡ map (told stated f) c.args.self.now). subst (Current stated table f) (sym e) (current_told stated table f c.args.self.now c.requires.2.placed))
    c.read.ensures.after

pub returns-clause-unread : goal.returns-clause-unread
returns-clause-unread g c = λ all.
    let ws : List Watched = c.args.self.now in
    let items : c.deref.result.now ≡ ws = c.deref.ensures.value ∙ c.self.view_is in
    let none : list_any (is_due c.entries-entries.result.now c.args.mask) c.deref.result.now ≡ false =
    ap (λ (es : List PropEntry). list_any (is_due es c.args.mask) c.deref.result.now) c.entries-entries.ensures.value
    ∙ ap (λ (xs : List Watched). list_any (is_due c.args.table.now c.args.mask) xs) items ∙ none_due c.args.table.now c.args.mask ws all in
    absurd (apart_at c.is_any_due.result (c.is_any_due.ensures ∙ none) c.if-not-is_any_due.false)
