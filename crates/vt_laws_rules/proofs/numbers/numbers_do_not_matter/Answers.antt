use Rattle.vt_spec.proofs.Common.{Outcome, Turned, World, directed, turn}
use Rattle.vt_laws_rules.proofs.numbers.Commuting.{commutes_nat}
use Rattle.vt_laws_rules.proofs.numbers.Renamings.{HandedTurn, calls_renamed, lines_renamed, named_outcome, named_turn, named_turned, named_world, same_worlds_answer_alike}
use Rattle.vt_laws_rules.proofs.numbers.numbers_do_not_matter.Goals as goal

pub returns-clause-calls : goal.returns-clause-calls
returns-clause-calls c = calls_renamed

pub returns-clause-directives : goal.returns-clause-directives
returns-clause-directives c renaming world directive =
    commutes_nat World Outcome named_world named_outcome (λ A eq world. directed eq world directive) renaming world

pub returns-clause-lines : goal.returns-clause-lines
returns-clause-lines c = lines_renamed

pub returns-clause-turns : goal.returns-clause-turns
returns-clause-turns c renaming fresh sched who =
    commutes_nat HandedTurn Turned named_turn named_turned (λ A eq handed. turn eq handed.1 who handed.0) renaming
    (fresh, sched)

pub returns-clause-same : goal.returns-clause-same
returns-clause-same c = same_worlds_answer_alike
