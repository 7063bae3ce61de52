use Rattle.std.proofs.Common.{ap, option_copied, option_map, sym, ◌∙◌}
use Rattle.vt_location.proofs.NodeLemmas.{small_parts}
use Rattle.vt_location.specs.Fronts.{front}
use Rattle.vt_overlay.specs.Merge.LayerValue.{seen_of}
use Rattle.vt_upper_overlay.specs.MergedAbove.{lent}
use Rattle.vt_upper_overlay.proofs.Objects.{alike_there, inode_seen, is_placed, looked_lent, looked_up}
use Rattle.vt_upper_overlay.proofs.Shown.{looked_by}
use Rattle.vt_upper_overlay.proofs.overlay.UpperOverlay.inode.Goals as goal

pub returns-in_err-real-clause-alike : goal.returns-in_err-real-clause-alike
returns-in_err-real-clause-alike c =
    let trees = c.args.trees.now in
    let overlay = c.args.self.now in
    ap (λ r. front (option_copied r)) c.from_residual.ensures
    ∙ ap (λ o. front (inode_seen trees overlay o)) (sym c.in_err-real.was ∙ c.real.ensures.value)
    ∙ alike_there trees overlay
    (looked_by trees overlay c.args.node c.requires.standing c.real.ensures.small c.requires.own) c.args.node
    (small_parts c.args.node c.real.ensures.small) c.requires.there

pub returns-clause-alike : goal.returns-clause-alike
returns-clause-alike c =
    let trees = c.args.trees.now in
    let overlay = c.args.self.now in
    let real = c.in_ok-real.real in
    looked_up trees overlay real
    (is_placed trees overlay c.args.node real (sym c.real.ensures.value ∙ c.in_ok-real.was))
    (option_copied c.real_of.result) c.real_of.ensures
    ∙ ap (λ o. front (inode_seen trees overlay o)) (sym c.in_ok-real.was ∙ c.real.ensures.value)
    ∙ alike_there trees overlay
    (looked_by trees overlay c.args.node c.requires.standing c.real.ensures.small c.requires.own) c.args.node
    (small_parts c.args.node c.real.ensures.small) c.requires.there

pub returns-clause-lent : goal.returns-clause-lent
returns-clause-lent c =
    let trees = c.args.trees.now in
    let overlay = c.args.self.now in
    let real = c.in_ok-real.real in
    looked_lent trees overlay real
    (is_placed trees overlay c.args.node real (sym c.real.ensures.value ∙ c.in_ok-real.was))
    (option_copied c.real_of.result) c.real_of.ensures
    ∙ ap (λ o. lent trees overlay (option_map seen_of o)) (sym c.in_ok-real.was ∙ c.real.ensures.value)
