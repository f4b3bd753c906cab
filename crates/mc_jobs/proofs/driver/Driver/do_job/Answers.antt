use Rattle.std.proofs.Common.{◌≡◌, ap, subst, ◌∙◌, Some, SFits, w64, rules}
use Rattle.std.proofs.lemmas.Int.{to_z-of_z}
use Rattle.mc_cursor.specs.Standing.{plan_for}
use Rattle.mc_index.specs.Scans.{IsIndexOf}
use Rattle.mc_calls.specs.declared.job.Job.{Job}
use Rattle.mc_calls.specs.declared.job.Job.TheVariants.{SeekTo, Refresh}
use Rattle.mc_filmed.specs.Films.{film_for}
use Rattle.mc_jobs.specs.Working.{AreSeekStarts, AreSwitchStarts}
use Rattle.mc_jobs.proofs.Standing.{added-is, brought-stands, film-plan, same-plan, seek-is}
use Rattle.mc_jobs.proofs.driver.Driver.do_job.Goals as goal

pub returns-in-SeekTo-clause-stands : goal.returns-in-SeekTo-clause-stands
returns-in-SeekTo-clause-stands g c = λ octets told s.
    let d = c.args.self.now.demux in
    let cursor = c.args.self.now.cursor in
    let plan = plan_for octets cursor in
    let j = c.in-SeekTo in
    let found = c.find_starts-brought in
    let kept : d.kept ≡ Some (SeekTo j.no j.set j.t j.dir) = c.requires.kept ∙ ap (λ (x : Job). Some x) j.is in
    let f : SFits w64 j.t = search rules in
    let film = subst (λ t. AreSeekStarts plan j.set t j.dir found.result) (to_z-of_z w64 j.t f) (found.ensures.film octets told s.cursor_is s.index_is) in
    let both = found.ensures.stands octets told s.cursor_is s.index_is in
    let of = seek-is plan d c.args.no j.no j.set j.t j.dir found.result (film-plan octets cursor s.cursor_is) c.requires.demux s.demux_is kept film found.ensures.fits in
    brought-stands octets d c.bring.new.demux cursor found.new.cursor c.args.self.now.index found.new.index c.args.no found.result c.bring.result s found.ensures.moves
    both.0 (subst (λ p. IsIndexOf p found.new.index) (same-plan octets cursor found.new.cursor found.ensures.moves) both.1) of c.bring.ensures.value
    (c.bring.ensures.film (film_for plan) of.film s.demux_is) c.bring.ensures.marks

pub returns-in-Refresh-clause-stands : goal.returns-in-Refresh-clause-stands
returns-in-Refresh-clause-stands g c = λ octets told s.
    let d = c.args.self.now.demux in
    let cursor = c.args.self.now.cursor in
    let plan = plan_for octets cursor in
    let j = c.in-Refresh in
    let found = c.find_added-brought in
    let bring = c.bring-in-Refresh in
    let kept : d.kept ≡ Some (Refresh j.no j.added j.lead j.at) = c.requires.kept ∙ ap (λ (x : Job). Some x) j.is in
    let f : SFits w64 j.at = search rules in
    let film = subst (λ t. AreSwitchStarts plan j.added j.lead t found.result) (to_z-of_z w64 j.at f) (found.ensures.film octets told s.cursor_is s.index_is) in
    let both = found.ensures.stands octets told s.cursor_is s.index_is in
    let of = added-is plan d c.args.no j.no j.added j.lead j.at found.result (film-plan octets cursor s.cursor_is) c.requires.demux s.demux_is s.lead kept film found.ensures.fits in
    brought-stands octets d bring.new.demux cursor found.new.cursor c.args.self.now.index found.new.index c.args.no found.result bring.result s found.ensures.moves
    both.0 (subst (λ p. IsIndexOf p found.new.index) (same-plan octets cursor found.new.cursor found.ensures.moves) both.1) of bring.ensures.value
    (bring.ensures.film (film_for plan) of.film s.demux_is) bring.ensures.marks
