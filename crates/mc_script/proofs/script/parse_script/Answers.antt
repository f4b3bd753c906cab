use Rattle.std.proofs.Common.{subst}
use Rattle.mc_script.specs.Script.{Gives}
use Rattle.mc_script.proofs.GrammarLemmas.{found, text_only}
use Rattle.mc_script.proofs.PairingLemmas.{script_bounded, script_paired}
use Rattle.mc_script.proofs.script.parse_script.Goals as goal

pub returns-clause-said : goal.returns-clause-said
returns-clause-said c = found c.parse_octets.result c.args.bytes.now c.parse_octets.ensures

pub returns-clause-only : goal.returns-clause-only
returns-clause-only c = λ said is. subst (Gives c.parse_octets.result) (text_only c.args.bytes.now said is) c.parse_octets.ensures

pub returns-clause-paired : goal.returns-clause-paired
returns-clause-paired c = script_paired c.parse_octets.result c.args.bytes.now c.parse_octets.ensures

pub returns-clause-bounded : goal.returns-clause-bounded
returns-clause-bounded c = script_bounded c.parse_octets.result c.args.bytes.now c.parse_octets.ensures
