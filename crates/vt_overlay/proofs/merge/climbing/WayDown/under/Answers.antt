use Rattle.std.proofs.Common.{ap, arith, length, sym, ◌≡◌, ◌∙◌}
use Rattle.vt_fs.specs.Trees.TreeValue.{tree_of}
use Rattle.vt_overlay.proofs.merge.GoingUp.{length-names_up}
use Rattle.vt_overlay.proofs.merge.climbing.WayDown.under.Goals as goal

pub overflow_add-result : goal.overflow_add-result
overflow_add-result c = let room = c.self.invariant.room in omega (arith, room)

pub invariant_of-result : goal.invariant_of-result
invariant_of-result c =
    let many : length c.args.self.now ≡ c.self.inside.len = sym (ap length c.self.view_is)
    ∙ length-names_up (tree_of c.self.inside.tree.now) c.self.inside.len c.self.inside.directory in
    omega (arith, many)
