mod LeastRule
mod LeastAnswers
mod AskedRules
use Rattle.vt_laws_rules.proofs.rules.the_least_rule_answers.Answers.LeastAnswers.{first_rules_answer, last_rules_answer, no_task_is_refused, walks_answer_next}
use Rattle.vt_laws_rules.proofs.rules.TableOrder.{walks_refuse_as_walks}
use Rattle.vt_laws_rules.proofs.rules.the_least_rule_answers.Goals as goal

pub returns-clause-no_task : goal.returns-clause-no_task
returns-clause-no_task c = no_task_is_refused

pub returns-clause-first : goal.returns-clause-first
returns-clause-first c = first_rules_answer

pub returns-clause-walks : goal.returns-clause-walks
returns-clause-walks c = walks_answer_next

pub returns-clause-last : goal.returns-clause-last
returns-clause-last c = last_rules_answer

pub returns-clause-walk_rules : goal.returns-clause-walk_rules
returns-clause-walk_rules c = walks_refuse_as_walks
