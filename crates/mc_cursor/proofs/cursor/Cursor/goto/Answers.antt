use Rattle.mc_cursor.proofs.Standing.{stands_at_mark}
use Rattle.mc_cursor.proofs.cursor.Cursor.goto.Goals as goal

pub returns-clause-stands : goal.returns-clause-stands
returns-clause-stands c = λ octets known is.
    let after = stands_at_mark octets c.args.self.now c.args.mark known is in
    record { opened = after.opened; within = after.within }
