use Rattle.std.proofs.Common.{subst}
use Rattle.mc_command.specs.Commands.{Parses, parsed}
use Rattle.mc_command.specs.Table.{Means}
use Rattle.mc_command.proofs.SpellingLemmas.{found}
use Rattle.mc_command.proofs.TableLemmas.{parsed_means, parsed_near, parsed_only}
use Rattle.mc_command.proofs.parsing.parse_command.Goals as goal

pub returns-clause-meant : goal.returns-clause-meant
returns-clause-meant c = found c.parse_words.result (parsed c.args.words.now) (Means c.args.words.now) (subst (λ ws. Parses c.parse_words.result (parsed ws)) c.as_slice.ensures c.parse_words.ensures) (parsed_means c.args.words.now)

pub returns-clause-only : goal.returns-clause-only
returns-clause-only c = λ said meant. subst (Parses c.parse_words.result) (parsed_only c.args.words.now said meant) (subst (λ ws. Parses c.parse_words.result (parsed ws)) c.as_slice.ensures c.parse_words.ensures)

pub returns-clause-near : goal.returns-clause-near
returns-clause-near c = parsed_near c.args.words.now c.parse_words.result (subst (λ ws. Parses c.parse_words.result (parsed ws)) c.as_slice.ensures c.parse_words.ensures)
