use Rattle.vt_laws_trees.proofs.runs.runs.RunsTold.{runs_have_one_text}
use Rattle.vt_laws_trees.proofs.runs.runs.runs_have_one_text.Goals as goal

pub returns : goal.returns
returns c = runs_have_one_text
