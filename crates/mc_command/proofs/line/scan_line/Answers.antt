use Rattle.std.proofs.Common.{◌≡◌, [], sym, ap, ◌∙◌, subst, append-nil, map-id}
use Rattle.std.specs.Str.{chars}
use Rattle.std.proofs.lemmas.Iterator.{YieldsList-from_chars}
use Rattle.std.proofs.lemmas.Iterator.Consumers.{YieldsList-end}
use Rattle.mc_command.specs.Commands.{Parses}
use Rattle.mc_command.specs.Lines.{told, words_from}
use Rattle.mc_command.specs.declared.scan.Place.TheVariants.{Gap}
use Rattle.mc_command.proofs.LineLemmas.{no_words}
use Rattle.mc_command.proofs.line.scan_line.Goals as goal

pub loop-c-init : goal.loop-c-init
loop-c-init c = λ more. rw (c.new-scan.ensures.words, c.new-scan.ensures.place) (no_words (words_from Gap more))

pub returns : goal.returns
returns c =
    let all : c.loop-c.yielded ≡ chars c.args.line.now = sym (map-id c.loop-c.yielded) ∙ (YieldsList-end (YieldsList-from_chars c.args.line.now c.utf8.line cc) c.loop-c.yielded _ c.loop-c.yielded_by _ _ c.in-None.is c.next.ensures.steps).0 in
    let e = c.loop-c.invariant [] ∙ ap (words_from Gap) (append-nil _ ∙ all) in
    subst (λ r. Parses c.finish.result (told r)) e c.finish.ensures
