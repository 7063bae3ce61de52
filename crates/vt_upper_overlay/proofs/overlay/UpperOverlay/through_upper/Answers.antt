use Rattle.std.proofs.Common.{arith, rules, ap, false, ltb-true, option_map, sym, true, ◌<◌, ◌≡◌, ◌∙◌}
use Rattle.vt_spec.proofs.Common.{then_some}
use Rattle.vt_location.specs.Locations.{number_of}
use Rattle.vt_location.specs.Numbers.{exchanged}
use Rattle.vt_location.proofs.NodeLemmas.{small_parts}
use Rattle.vt_overlay.specs.MergedTree as through
use Rattle.vt_upper_overlay.proofs.Shown.{IsLooked, looked_by}
use Rattle.vt_upper_overlay.proofs.Through.{way_of_inode, way_of_no_inode, way_of_other, way_of_root}
use Rattle.vt_upper_overlay.proofs.overlay.UpperOverlay.through_upper.Goals as goal

pub returns-then-not-is_node_above-clause-ways : goal.returns-then-not-is_node_above-clause-ways
returns-then-not-is_node_above-clause-ways c =
    let trees = c.args.trees.now in
    let overlay = c.args.self.now in
    let small = c.is_node_above.ensures.small in
    let slot_small : c.args.slot < 18446744073709551616 = let h = c.ranges.slot.fits in omega (arith, h) in
    let other : c.is_node_above.result ≡ false = search rules in
    way_of_other trees overlay (looked_by trees overlay c.args.node c.requires.standing small c.requires.own) c.args.node
    (small_parts c.args.node small) c.requires.own c.args.slot slot_small c.requires.slot
    (sym c.is_node_above.ensures.value ∙ other)

pub returns-then-slot-upper-clause-ways : goal.returns-then-slot-upper-clause-ways
returns-then-slot-upper-clause-ways c =
    let trees = c.args.trees.now in
    let overlay = c.args.self.now in
    let small = c.is_node_above.ensures.small in
    let looked : IsLooked trees overlay = record {
      stands = c.requires.standing;
      small = (looked_by trees overlay c.args.node c.requires.standing small c.requires.own).small;
      top = c.upper-upper.result;
      first = c.upper-upper.ensures;
    } in
    let slot_small : c.args.slot < 18446744073709551616 = let h = c.ranges.slot.fits in omega (arith, h) in
    let same : c.is_node_above.result ≡ true = search rules in
    let root : c.args.slot ≡ c.upper-upper.result.directory.slot = search rules in
    way_of_root trees overlay looked c.args.node (small_parts c.args.node small) c.requires.own c.args.slot slot_small
    c.requires.slot (sym c.is_node_above.ensures.value ∙ same) root

pub returns-in_err-directory-clause-ways : goal.returns-in_err-directory-clause-ways
returns-in_err-directory-clause-ways c =
    let trees = c.args.trees.now in
    let overlay = c.args.self.now in
    let small = c.is_node_above.ensures.small in
    let looked : IsLooked trees overlay = record {
      stands = c.requires.standing;
      small = (looked_by trees overlay c.args.node c.requires.standing small c.requires.own).small;
      top = c.upper-upper.result;
      first = c.upper-upper.ensures;
    } in
    let slot_small : c.args.slot < 18446744073709551616 = let h = c.ranges.slot.fits in omega (arith, h) in
    ap (λ o. then_some (option_map number_of o) (through.directory_path trees overlay.layers)) c.from_residual.ensures
    ∙ way_of_no_inode trees overlay looked c.args.node (small_parts c.args.node small) c.requires.own c.args.slot
    slot_small c.requires.slot c.inode_in.result c.inode_in.ensures.is
    (sym (ap (option_map (exchanged c.inode_in.result.filesystem.count)) c.in_err-directory.was) ∙ c.parent_slot.ensures)

pub returns-clause-ways : goal.returns-clause-ways
returns-clause-ways c =
    let trees = c.args.trees.now in
    let overlay = c.args.self.now in
    let small = c.is_node_above.ensures.small in
    let looked : IsLooked trees overlay = record {
      stands = c.requires.standing;
      small = (looked_by trees overlay c.args.node c.requires.standing small c.requires.own).small;
      top = c.upper-upper.result;
      first = c.upper-upper.ensures;
    } in
    let slot_small : c.args.slot < 18446744073709551616 = let h = c.ranges.slot.fits in omega (arith, h) in
    let same : c.is_node_above.result ≡ true = search rules in
    let other : c.args.slot ≡ c.upper-upper.result.directory.slot → ⊥ = search rules in
    ap (λ birth. through.directory_path trees overlay.layers (number_of (record {
      filesystem = c.args.node.filesystem;
      slot = c.args.slot;
      birth = birth;
    }))) c.born_in_upper.ensures.value
    ∙ way_of_inode trees overlay looked c.args.node (small_parts c.args.node small) c.requires.own c.args.slot slot_small
    c.requires.slot c.inode_in.result c.inode_in.ensures.is (sym c.is_node_above.ensures.value ∙ same) other
    c.in_ok-directory.directory (ltb-true c.in_ok-directory.directory 18446744073709551616 c.born_in_upper.ensures.small)
    (sym (ap (option_map (exchanged c.inode_in.result.filesystem.count)) c.in_ok-directory.was) ∙ c.parent_slot.ensures)
