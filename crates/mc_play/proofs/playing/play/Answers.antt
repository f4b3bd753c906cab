use Rattle.std.proofs.Common.{◌≡◌, Some, List, subst, sym}
use Rattle.mc_outside.specs.Shelf.{content}
use Rattle.mc_outside.proofs.Told.{content_bytes}
use Rattle.mc_journal.specs.declared.record.DemuxRecord.{DemuxRecord}
use Rattle.mc_cursor.specs.declared.cursor.Cursor.{Cursor}
use Rattle.mc_cursor.specs.Standing.{plan_for}
use Rattle.mc_play.specs.Run.{Plays}
use Rattle.mc_play.proofs.Plays.{plays_from}
use Rattle.mc_play.proofs.playing.play.Goals as goal

pub returns-clause-played : goal.returns-clause-played
returns-clause-played g c = λ octets told opens.
    let all = content_bytes _ _ c.args.cursor.file.0 octets (g.met.D.Shelf.octets c.args.shelf.now) told in
    let d = c.in_ok-driver in
    let run = c.run_script-halt in
    let here = subst (λ (x : Cursor). content (g.D.Shelf.files c.args.shelf.now) (g.D.Shelf.opened c.args.shelf.now) x.file.0 ≡ Some octets) (sym d.ensures.cursor) told in
    subst (λ (hd : List DemuxRecord). Plays (plan_for octets c.args.cursor) c.args.limits c.args.script.now run.result hd) (sym c.into_journal.ensures.value)
    (plays_from octets c.args.cursor c.args.limits c.args.script.now run.result d.driver run.new.machine opens (d.ensures.film octets all opens) d.ensures.demux d.ensures.cursor d.ensures.limits d.ensures.list
    d.ensures.journal run.ensures.fixed (λ rd s. run.ensures.stands octets rd here s) (λ rd s. rw c.as_slice.ensures at run.ensures.runs octets rd here s))
