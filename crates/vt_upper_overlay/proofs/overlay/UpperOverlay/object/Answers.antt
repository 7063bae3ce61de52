use Rattle.std.proofs.Common.{sym, ◌∙◌}
use Rattle.vt_location.proofs.NodeLemmas.{small_parts}
use Rattle.vt_upper_overlay.proofs.LentAbove.{lent_nowhere, lent_there}
use Rattle.vt_upper_overlay.proofs.Shown.{looked_by}
use Rattle.vt_upper_overlay.proofs.overlay.UpperOverlay.object.Goals as goal

pub returns-then-is_there : goal.returns-then-is_there
returns-then-is_there c =
    let small = c.is_there.ensures.small in
    c.inode.ensures.lent
    ∙ lent_there c.args.trees.now c.args.self.now
    (looked_by c.args.trees.now c.args.self.now c.args.node c.requires.standing small c.requires.own) c.args.node
    (small_parts c.args.node small) (sym c.is_there.ensures.value ∙ c.if-is_there.true)

pub returns-else-is_there : goal.returns-else-is_there
returns-else-is_there c =
    let small = c.is_there.ensures.small in
    lent_nowhere c.args.trees.now c.args.self.now
    (looked_by c.args.trees.now c.args.self.now c.args.node c.requires.standing small c.requires.own) c.args.node
    (small_parts c.args.node small) (sym c.is_there.ensures.value ∙ c.if-is_there.false)
