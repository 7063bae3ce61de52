use Rattle.std.proofs.Common.{ap, is_some, rules, sym, ◌≡◌, ◌∙◌}
use Rattle.vt_location.proofs.NodeLemmas.{small_parts}
use Rattle.vt_overlay.specs.Merge.LayerValue.{seen_of}
use Rattle.vt_upper_overlay.proofs.Shown.{looked_by}
use Rattle.vt_upper_overlay.proofs.ThereAbove.{no_place_below, shown_below, some_mapped}
use Rattle.vt_upper_overlay.proofs.overlay.UpperOverlay.shows_below.Goals as goal

pub returns-in-Some : goal.returns-in-Some
returns-in-Some c =
    let small = c.below_upper.ensures.small in
    let some : c.is_some.result ≡ is_some c.object.result = search rules in
    some ∙ sym (some_mapped seen_of c.object.result) ∙ ap is_some c.object.ensures.value
    ∙ shown_below c.args.trees.now c.args.self.now
    (looked_by c.args.trees.now c.args.self.now c.args.node c.requires.standing small c.requires.own) c.args.node
    (small_parts c.args.node small) c.requires.own c.requires.slot c.in-Some.through
    (sym c.in-Some.is ∙ c.below_upper.ensures.value)

pub returns-in-None : goal.returns-in-None
returns-in-None c =
    let small = c.below_upper.ensures.small in
    no_place_below c.args.trees.now c.args.self.now
    (looked_by c.args.trees.now c.args.self.now c.args.node c.requires.standing small c.requires.own) c.args.node
    (small_parts c.args.node small) c.requires.own c.requires.slot (sym c.in-None.is ∙ c.below_upper.ensures.value)
