use Rattle.std.proofs.Common.{◌≡◌, Ok, sym, ◌∙◌, ap}
use Rattle.std.specs.Option.{option_copied}
use Rattle.mc_block.specs.Block.{track_of}
use Rattle.mc_walk.proofs.Shaped.{number_positive}
use Rattle.mc_walk.proofs.element.known_packets.Goals as goal

pub returns-in-Some-clause-law : goal.returns-in-Some-clause-law
returns-in-Some-clause-law c = λ listed short.
    let found = ap option_copied (sym c.in-Some.is) ∙ c.find_known.ensures in
    let number : track_of c.args.body.now.octets ≡ Ok c.in_ok-no.no = cc (c.as_slice.ensures, c.in_ok-no.ensures.value) in
    c.timed_packets.ensures.law c.in_ok-no.no number (number_positive c.in_ok-no.no c.args.tracks.now c.in-Some.track.now listed found) c.in_ok-no.ensures.small short
