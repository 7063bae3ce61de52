use Rattle.vt_propagate.proofs.LazyUnmounts.{lazy_unmounts_are_at_once, lazy_unmounts_take_the_tree, parts_are_swept_once, seen_lazily, settled_lazily}
use Rattle.vt_propagate.proofs.TakenTwice.{taken_twice}
use Rattle.vt_propagate.proofs.laws.lazy_unmounts_detach_at_once.Goals as goal

pub returns-clause-parts : goal.returns-clause-parts
returns-clause-parts c = taken_twice

pub returns-clause-swept : goal.returns-clause-swept
returns-clause-swept c = parts_are_swept_once

pub returns-clause-events : goal.returns-clause-events
returns-clause-events c = lazy_unmounts_are_at_once

pub returns-clause-tree : goal.returns-clause-tree
returns-clause-tree c = lazy_unmounts_take_the_tree

pub returns-clause-seen : goal.returns-clause-seen
returns-clause-seen c = seen_lazily

pub returns-clause-settled : goal.returns-clause-settled
returns-clause-settled c = settled_lazily
