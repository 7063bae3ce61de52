use Rattle.std.proofs.Common.{ap, option_copied, option_map, sym, ◌∙◌}
use Rattle.vt_location.proofs.NodeLemmas.{small_parts}
use Rattle.vt_overlay.specs.Merge.LayerValue.{seen_of}
use Rattle.vt_upper_overlay.specs.MergedAbove.{lent}
use Rattle.vt_upper_overlay.proofs.LentAbove.{lent_there, there_lent}
use Rattle.vt_upper_overlay.proofs.Objects.{is_placed, looked_lent}
use Rattle.vt_upper_overlay.proofs.Shown.{looked_by}
use Rattle.vt_upper_overlay.proofs.overlay.UpperOverlay.object_there.Goals as goal

pub returns-in_err-real : goal.returns-in_err-real
returns-in_err-real c =
    let trees = c.args.trees.now in
    let overlay = c.args.self.now in
    let small = small_parts c.args.node c.real.ensures.small in
    let looked = looked_by trees overlay c.args.node c.requires.standing c.real.ensures.small c.requires.own in
    ap option_copied c.from_residual.ensures
    ∙ ap (λ o. lent trees overlay (option_map seen_of o)) (sym c.in_err-real.was ∙ c.real.ensures.value)
    ∙ lent_there trees overlay looked c.args.node small
    (there_lent trees overlay looked c.args.node small c.requires.there)

pub returns : goal.returns
returns c =
    let trees = c.args.trees.now in
    let overlay = c.args.self.now in
    let real = c.in_ok-real.real in
    let small = small_parts c.args.node c.real.ensures.small in
    let looked = looked_by trees overlay c.args.node c.requires.standing c.real.ensures.small c.requires.own in
    looked_lent trees overlay real
    (is_placed trees overlay c.args.node real (sym c.real.ensures.value ∙ c.in_ok-real.was))
    (option_copied c.real_of.result) c.real_of.ensures
    ∙ ap (λ o. lent trees overlay (option_map seen_of o)) (sym c.in_ok-real.was ∙ c.real.ensures.value)
    ∙ lent_there trees overlay looked c.args.node small
    (there_lent trees overlay looked c.args.node small c.requires.there)
