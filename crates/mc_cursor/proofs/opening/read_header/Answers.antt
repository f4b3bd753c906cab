use Rattle.std.proofs.Common.{◌≤◌, length}
use Rattle.std.specs.Prelude.{IfSome}
use Rattle.mc_ebml.specs.Ids.{INFO, TRACKS}
use Rattle.mc_walk.specs.Opening.{header_of}
use Rattle.mc_cursor.proofs.Chunks.{told_later}
use Rattle.mc_cursor.proofs.Finding.{first_in}
use Rattle.mc_cursor.proofs.opening.read_header.Goals as goal

pub returns-clause-value : goal.returns-clause-value
unfolding header_of
returns-clause-value g c = λ octets told within.
    let info = c.in_ok-info.ensures.value octets told within in
    let told' = told_later _ _ _ _ _ _ c.args.file.0 octets c.find_first.ensures.kept told in
    let tracks = c.in_ok-tracks.ensures.value octets told' within in
    let told'' = told_later _ _ _ _ _ _ c.args.file.0 octets c.find_first-2.ensures.kept told' in
    let info_in : IfSome c.in_ok-info.info (λ c. c.stop ≤ length octets) = rw info (first_in (length octets) octets c.args.segment.end c.args.segment.opening INFO within) in
    let tracks_in : IfSome c.in_ok-tracks.tracks (λ c. c.stop ≤ length octets) = rw tracks (first_in (length octets) octets c.args.segment.end c.args.segment.opening TRACKS within) in
    rw (info, tracks) at (c.read_found_header.ensures.value octets told'' info_in tracks_in)
