use Rattle.vt_laws_trees.proofs.runs.handed.InodesAllotted.{allotted_numbers_serve, allotted_numbers_serve_named, numbers_are_allotted}
use Rattle.vt_laws_trees.proofs.runs.handed.counts_and_an_inode_are_allotted.Goals as goal

pub returns-clause-allotted : goal.returns-clause-allotted
returns-clause-allotted c = numbers_are_allotted

pub returns-clause-serves : goal.returns-clause-serves
returns-clause-serves c = allotted_numbers_serve

pub returns-clause-named : goal.returns-clause-named
returns-clause-named c = allotted_numbers_serve_named
