use Rattle.vt_laws_trees.proofs.runs.handed.Counts.{counts_are_allotted, counts_serve, counts_serve_named}
use Rattle.vt_laws_trees.proofs.runs.handed.counts_are_allotted.Goals as goal

pub returns-clause-allotted : goal.returns-clause-allotted
returns-clause-allotted c = counts_are_allotted

pub returns-clause-serves : goal.returns-clause-serves
returns-clause-serves c = counts_serve

pub returns-clause-named : goal.returns-clause-named
returns-clause-named c = counts_serve_named
