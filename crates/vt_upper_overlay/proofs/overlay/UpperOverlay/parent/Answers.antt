use Rattle.std.proofs.Common.{rules, None, Some, ap, false, option_map, sym, ◌≡◌, ◌∙◌}
use Rattle.vt_spec.proofs.Common.{then_some}
use Rattle.vt_location.specs.Locations.{number_of}
use Rattle.vt_location.proofs.NodeLemmas.{small_parts}
use Rattle.vt_overlay.specs.MergedTree as through
use Rattle.vt_upper_overlay.specs.MergedAbove.{directory_path}
use Rattle.vt_upper_overlay.proofs.Entries.{its_parent, no_parent, no_parent_of_none}
use Rattle.vt_upper_overlay.proofs.Shown.{looked_by}
use Rattle.vt_upper_overlay.proofs.overlay.UpperOverlay.parent.Goals as goal

pub returns-in_err-through : goal.returns-in_err-through
returns-in_err-through c =
    let trees = c.args.trees.now in
    let overlay = c.args.self.now in
    let small = c.is_kept.ensures.small in
    let unkept : c.is_kept.result ≡ false = search rules in
    let none : directory_path trees overlay (number_of c.args.node) ≡ None = sym (sym (ap (λ o. then_some
    (option_map number_of o) (through.directory_path trees overlay.layers)) c.in_err-through.was)
    ∙ c.through.ensures.ways) in
    ap (option_map number_of) c.from_residual.ensures
    ∙ no_parent_of_none trees overlay
    (looked_by trees overlay c.args.node c.requires.standing small c.requires.own) c.args.node
    (small_parts c.args.node small) (sym c.is_kept.ensures.value ∙ unkept) none

pub returns-in_err-parent : goal.returns-in_err-parent
returns-in_err-parent c =
    let trees = c.args.trees.now in
    let overlay = c.args.self.now in
    let small = c.is_kept.ensures.small in
    let unkept : c.is_kept.result ≡ false = search rules in
    let ways : through.directory_path trees overlay.layers (number_of c.in_ok-through.through)
    ≡ directory_path trees overlay (number_of c.args.node) = sym (ap (λ o. then_some (option_map number_of o)
    (through.directory_path trees overlay.layers)) c.in_ok-through.was) ∙ c.through.ensures.ways in
    ap (option_map number_of) c.from_residual-in_err-parent.ensures
    ∙ no_parent trees overlay
    (looked_by trees overlay c.args.node c.requires.standing small c.requires.own) c.args.node
    (small_parts c.args.node small) (sym c.is_kept.ensures.value ∙ unkept) (number_of c.in_ok-through.through) ways
    (sym (ap (option_map number_of) c.in_err-parent.was) ∙ c.parent.ensures)

pub returns : goal.returns
returns c =
    let trees = c.args.trees.now in
    let overlay = c.args.self.now in
    let small = c.is_kept.ensures.small in
    let unkept : c.is_kept.result ≡ false = search rules in
    let above = c.in_ok-parent.parent in
    let ways : through.directory_path trees overlay.layers (number_of c.in_ok-through.through)
    ≡ directory_path trees overlay (number_of c.args.node) = sym (ap (λ o. then_some (option_map number_of o)
    (through.directory_path trees overlay.layers)) c.in_ok-through.was) ∙ c.through.ensures.ways in
    ap (λ n. Some (number_of n)) c.node_for.ensures.value
    ∙ its_parent trees overlay
    (looked_by trees overlay c.args.node c.requires.standing small c.requires.own) c.args.node
    (small_parts c.args.node small) (sym c.is_kept.ensures.value ∙ unkept) (number_of c.in_ok-through.through) ways
    above (small_parts above c.node_for.ensures.small)
    (sym (ap (option_map number_of) c.in_ok-parent.was) ∙ c.parent.ensures)
