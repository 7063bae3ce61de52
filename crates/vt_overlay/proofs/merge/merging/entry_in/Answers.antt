use Rattle.std.proofs.Common.{None, option_copied, sym}
use Rattle.vt_overlay.proofs.merge.EntriesFound.{entry_lent, is_entry}
use Rattle.vt_overlay.proofs.merge.merging.entry_in.Goals as goal

pub returns-clause-entry : goal.returns-clause-entry
returns-clause-entry c =
    is_entry c.args.trees.now c.args.above c.args.name.now (option_copied c.get-tree.result) c.get-tree.ensures
    c.in_ok-object.object c.in_ok-object.ensures.filesystem c.in_ok-object.ensures.number

pub returns-in_err-object-clause-nothing : goal.returns-in_err-object-clause-nothing
returns-in_err-object-clause-nothing c none =
    sym (entry_lent c.args.trees.now c.args.above c.args.name.now (option_copied c.get-tree.result) c.get-tree.ensures
    None c.in_err-object.ensures.number)
