use Rattle.mc_ipc.proofs.Floats.{event_plain}
use Rattle.mc_ipc.proofs.writing.event_line.Goals as goal

pub line_of-requires : goal.line_of-requires
line_of-requires c =
    rw (c.from.ensures, c.in_ok-put_event.ensures, c.in_ok-put_text.ensures, c.event_word.ensures, c.new-members.ensures.empty) (event_plain c.args.event.now)
