use Rattle.std.proofs.Common.{◌≡◌, reverse}
use Rattle.mc_state.specs.Growth.{Adds, is_reply}
use Rattle.mc_state.specs.Replying.{IsDrained}
use Rattle.mc_core.proofs.requests.reply_all.Given as goal

abbrev pub invariant-loop-i : goal.invariant-loop-i
invariant-loop-i g l = record {
  drained : IsDrained g.M.Meaning.value l.requests l.i l.state;
  still : (l.state.out ≡ l.fn.state.out) × (l.state.facts ≡ l.fn.state.facts);
  entries : l.state.entries ≡ l.fn.state.entries;
  adds : Adds is_reply l.by (reverse l.fn.state.journal) (reverse l.state.journal);
}
