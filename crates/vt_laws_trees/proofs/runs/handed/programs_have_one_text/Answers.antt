use Rattle.vt_laws_trees.proofs.runs.handed.Counts.{programs_have_one_text}
use Rattle.vt_laws_trees.proofs.runs.handed.InodesAllotted.{allotted_numbers_open}
use Rattle.vt_laws_trees.proofs.runs.handed.programs_have_one_text.Goals as goal

pub returns-clause-opening : goal.returns-clause-opening
returns-clause-opening c = allotted_numbers_open

pub returns-clause-text : goal.returns-clause-text
returns-clause-text c = programs_have_one_text
