use Rattle.std.proofs.Common.{ap, arith, refl, ◌≡◌, ◌∙◌}
use Rattle.vt_overlay.specs.Merge.Climbed.{climbed, name_up}
use Rattle.vt_fs.specs.Trees.TreeValue.{tree_of}
use Rattle.vt_overlay.proofs.merge.GoingUp.{climbed_once}
use Rattle.vt_overlay.proofs.merge.climbing.name_climbed.Goals as goal

pub loop-step-init : goal.loop-step-init
loop-step-init c = refl

pub loop-step-preserved : goal.loop-step-preserved
loop-step-preserved c = c.parent-here.ensures
    ∙ climbed_once (tree_of c.args.tree.now) c.loop-step.here c.loop-step._step c.args.directory c.loop-step.invariant

pub returns : goal.returns
returns c =
    let tree = tree_of c.args.tree.now in
    let most = c.loop-step.auto._step-end in
    let least = c.loop-step-test.false in
    let all : c.loop-step._step ≡ c.args.steps = omega (arith, most, least) in
    c.name_above.ensures ∙ ap (name_up tree) (c.loop-step.invariant ∙ ap (λ n. climbed tree n c.args.directory) all)
