mod WalkOrder
use Rattle.std.proofs.Common.{refl}
use Rattle.vt_laws_rules.proofs.rules.TableOrder.{first_in_order, last_in_order}
use Rattle.vt_laws_rules.proofs.rules.tables_are_in_order.Answers.WalkOrder.{missing_before_slash, removed_before_slash, removed_before_slash_of_rename, step_rules_in_order}
use Rattle.vt_laws_rules.proofs.rules.tables_are_in_order.Goals as goal

pub returns-clause-first : goal.returns-clause-first
returns-clause-first c = first_in_order

pub returns-clause-last : goal.returns-clause-last
returns-clause-last c = last_in_order

pub returns-clause-texts : goal.returns-clause-texts
returns-clause-texts c text = (refl, refl)

pub returns-clause-steps : goal.returns-clause-steps
returns-clause-steps c = step_rules_in_order

pub returns-clause-parents : goal.returns-clause-parents
returns-clause-parents c world task place = refl

pub returns-clause-last_words : goal.returns-clause-last_words
returns-clause-last_words c place = (refl, refl)

pub returns-clause-links : goal.returns-clause-links
returns-clause-links c world link text = refl

pub returns-clause-removed_before_slash : goal.returns-clause-removed_before_slash
returns-clause-removed_before_slash c = removed_before_slash

pub returns-clause-missing_before_slash : goal.returns-clause-missing_before_slash
returns-clause-missing_before_slash c = missing_before_slash

pub returns-clause-removed_before_slash_of_rename : goal.returns-clause-removed_before_slash_of_rename
returns-clause-removed_before_slash_of_rename c = removed_before_slash_of_rename
