use Rattle.std.proofs.Common.{sym, arith}
use Rattle.mc_play.proofs.Texts.{whole_front}
use Rattle.mc_play.proofs.text.read_text.Goals as goal

pub returns-then-len-lt-SHORT-clause-octets : goal.returns-then-len-lt-SHORT-clause-octets
returns-then-len-lt-SHORT-clause-octets g c octets told = whole_front octets _ (c.in_ok-front.ensures.octets octets told) (omega (arith, rw c.len.ensures at c.if-len-lt-SHORT.true, c.in_ok-front.front.ok))

pub returns-clause-octets : goal.returns-clause-octets
returns-clause-octets g c = rw (sym c.in_ok-front.ensures.reads.same_files, sym c.in_ok-front.ensures.reads.same_opened) c.read_front-2.ensures.octets
