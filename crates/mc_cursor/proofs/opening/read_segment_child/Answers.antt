use Rattle.std.proofs.Common.{◌∙◌, sym}
use Rattle.mc_cursor.proofs.Stepping.{content_kept}
use Rattle.mc_cursor.proofs.Finding.{child_found, found_in_film}
use Rattle.mc_cursor.proofs.opening.read_segment_child.Goals as goal

pub returns-clause-value : goal.returns-clause-value
returns-clause-value g c = λ octets told within.
    let is = c.in_ok-found.ensures.value octets told within in
    let told' = content_kept _ _ _ _ _ _ _ c.args.file.0 c.read_found.ensures.kept ∙ told in
    let one = c.in_ok-child.ensures.value octets told' (found_in_film octets c.args.place c.in_ok-found.found is within) in
    c.child_before_cluster.ensures.value ∙ child_found octets c.args.«end» c.args.place c.in_ok-found.found c.in_ok-child.child is (sym c.is_end.ensures ∙ c.if-is_end.false) one
