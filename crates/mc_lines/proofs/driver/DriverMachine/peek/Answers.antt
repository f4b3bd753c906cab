use Rattle.mc_lines.proofs.Called.{peeks}
use Rattle.mc_lines.proofs.driver.DriverMachine.peek.Goals as goal

pub returns : goal.returns
returns c = peeks c.args.self.now.demux c.args.track c.peek.result c.peek.ensures.value
