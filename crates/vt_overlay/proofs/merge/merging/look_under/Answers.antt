use Rattle.std.proofs.Common.{option_copied}
use Rattle.vt_overlay.proofs.merge.EntriesFound.{directory_further}
use Rattle.vt_overlay.proofs.merge.TreesLent.{nothing_found, object_found}
use Rattle.vt_overlay.proofs.merge.merging.look_under.Goals as goal

pub returns-in_default-clause-value : goal.returns-in_default-clause-value
returns-in_default-clause-value c = λ lower.
    nothing_found c.args.trees.now c.args.top c.args.name.now (option_copied c.get-tree.result) c.get-tree.ensures
    c.in_default.ensures.number lower

pub returns-clause-value : goal.returns-clause-value
returns-clause-value c = λ lower.
    object_found c.args.trees.now c.args.top c.args.name.now (option_copied c.get-tree.result) c.get-tree.ensures
    c.in-Some.object c.in-Some.ensures.filesystem c.in-Some.ensures.number c.directory_at.result c.hides.result
    c.directory_at.ensures c.hides.ensures lower

pub returns-clause-led : goal.returns-clause-led
returns-clause-led c = λ layers path at.
    directory_further c.args.trees.now c.args.top c.args.name.now (option_copied c.get-tree.result) c.get-tree.ensures
    c.in-Some.object c.in-Some.ensures.filesystem c.in-Some.ensures.number layers path at c.directory_at.result _
    c.directory_at.ensures
