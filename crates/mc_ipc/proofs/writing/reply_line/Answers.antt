use Rattle.std.proofs.Common.{◌≡◌, IfOk, refl, subst, to_z-of_z, w32, option_copied}
use Rattle.serde_json.specs.Data.{Data}
use Rattle.serde_json.specs.View.{view}
use Rattle.mc_ipc.specs.Written.{line_of, reply_of}
use Rattle.mc_ipc.proofs.Floats.{reply_plain}
use Rattle.mc_ipc.proofs.writing.reply_line.Goals as goal

pub line_of-requires : goal.line_of-requires
line_of-requires c =
    let same = to_z-of_z {w = w32} c.ranges.error in
    let is : view c.from-2.result ≡ reply_of c.args.id c.args.error (option_copied c.args.value) =
    rw (c.from-2.ensures, c.in_ok-put_value.ensures, c.in_ok-put.ensures.ok, c.from.ensures, c.in_ok-put_text.ensures, c.error_word.ensures, same, c.new-members.ensures.empty) refl in
    rw is (reply_plain c.args.id c.args.error (option_copied c.args.value))

pub returns : goal.returns
returns c =
    let same = to_z-of_z {w = w32} c.ranges.error in
    let is : view c.from-2.result ≡ reply_of c.args.id c.args.error (option_copied c.args.value) =
    rw (c.from-2.ensures, c.in_ok-put_value.ensures, c.in_ok-put.ensures.ok, c.from.ensures, c.in_ok-put_text.ensures, c.error_word.ensures, same, c.new-members.ensures.empty) refl in
    subst (λ (d : Data). IfOk c.line_of.result (λ line. line ≡ line_of d)) is c.line_of.ensures
