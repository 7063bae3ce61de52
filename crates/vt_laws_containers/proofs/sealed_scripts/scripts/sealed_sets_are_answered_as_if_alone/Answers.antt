use Rattle.vt_laws_containers.proofs.scripts.Standing.{sealed_sets_stand_so}
use Rattle.vt_laws_containers.proofs.sealed_scripts.scripts.AsIfAlone.{sealed_sets_are_answered_as_if_alone}
use Rattle.vt_laws_containers.proofs.sealed_scripts.scripts.sealed_sets_are_answered_as_if_alone.Goals as goal

pub returns-clause-as_if_alone : goal.returns-clause-as_if_alone
returns-clause-as_if_alone c = sealed_sets_are_answered_as_if_alone

pub returns-clause-after_lines : goal.returns-clause-after_lines
returns-clause-after_lines c = sealed_sets_stand_so
