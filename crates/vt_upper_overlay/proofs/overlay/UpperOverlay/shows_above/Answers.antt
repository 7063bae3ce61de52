use Rattle.std.proofs.Common.{ap, arith, is_some, not, option_copied, option_map, rules, sym, ◌<◌, ◌≡◌, ◌∙◌}
use Rattle.vt_spec.proofs.Common.{is_directory_node, is_kind_in, list_any}
use Rattle.vt_spec.specs.declared.attributes.Kind.TheVariants.{White}
use Rattle.vt_location.proofs.NodeLemmas.{small_parts}
use Rattle.vt_location.specs.Locations.{inode_of, number_of}
use Rattle.vt_location.specs.Numbers.{exchanged, inode_number}
use Rattle.vt_births.specs.Births.{node_above}
use Rattle.vt_location.specs.declared.locations.InodeRef.{InodeRef}
use Rattle.vt_fs.specs.FilesystemsValue.{files_at, node_seen}
use Rattle.vt_upper_overlay.specs.Lent.{is_shown_name}
use Rattle.vt_upper_overlay.specs.MergedAbove.{directory_path}
use Rattle.vt_upper_overlay.proofs.NamesFound.{one_listed}
use Rattle.vt_upper_overlay.proofs.Ranked.{directory_seen}
use Rattle.vt_upper_overlay.proofs.Shown.{IsLooked, looked_by}
use Rattle.vt_upper_overlay.proofs.ThereAbove.{directory_slot, named_slot, seen_there, vacant_slot, white_slot}
use Rattle.vt_upper_overlay.proofs.overlay.UpperOverlay.shows_above.Goals as goal

pub returns-in_default : goal.returns-in_default
returns-in_default c =
    let trees = c.args.trees.now in
    let overlay = c.args.self.now in
    let looked : IsLooked trees overlay = record {
      stands = c.requires.standing;
      small = (looked_by trees overlay c.args.node c.requires.standing c.requires.small c.requires.own).small;
      top = c.upper.result;
      first = c.upper.ensures;
    } in
    let slot_small : c.args.slot < 18446744073709551616 = let h = c.ranges.slot.fits in omega (arith, h) in
    let f = c.upper.result.directory.filesystem.count in
    let seen = seen_there trees c.upper.result c.args.slot c.inode_in-inode.result c.node_ref.result
    (option_copied c.node.result) c.inode_in-inode.ensures.is c.node_ref.ensures.value c.node.ensures in
    vacant_slot trees overlay looked c.args.node (small_parts c.args.node c.requires.small) c.requires.own c.args.slot
    slot_small c.requires.slot (sym seen ∙ ap (λ o. option_map (node_seen f) (option_copied o)) c.in_default.is)

pub returns-then-is_directory : goal.returns-then-is_directory
returns-then-is_directory c =
    let trees = c.args.trees.now in
    let overlay = c.args.self.now in
    let looked : IsLooked trees overlay = record {
      stands = c.requires.standing;
      small = (looked_by trees overlay c.args.node c.requires.standing c.requires.small c.requires.own).small;
      top = c.upper.result;
      first = c.upper.ensures;
    } in
    let slot_small : c.args.slot < 18446744073709551616 = let h = c.ranges.slot.fits in omega (arith, h) in
    let f = c.upper.result.directory.filesystem.count in
    let seen = seen_there trees c.upper.result c.args.slot c.inode_in-inode.result c.node_ref.result
    (option_copied c.node.result) c.inode_in-inode.ensures.is c.node_ref.ensures.value c.node.ensures in
    let there = sym seen ∙ ap (λ o. option_map (node_seen f) (option_copied o)) c.in-Some.is in
    let some : c.is_some.result ≡ is_some c.way.result = search rules in
    some ∙ ap is_some c.way.ensures.value
    ∙ directory_slot trees overlay looked c.args.node (small_parts c.args.node c.requires.small) c.requires.own c.args.slot
    slot_small c.requires.slot (ap is_directory_node there ∙ directory_seen f c.in-Some.object.now
    ∙ sym c.is_directory.ensures ∙ c.if-is_directory.true)

pub returns-then-not-is_white : goal.returns-then-not-is_white
returns-then-not-is_white c =
    let trees = c.args.trees.now in
    let overlay = c.args.self.now in
    let looked : IsLooked trees overlay = record {
      stands = c.requires.standing;
      small = (looked_by trees overlay c.args.node c.requires.standing c.requires.small c.requires.own).small;
      top = c.upper.result;
      first = c.upper.ensures;
    } in
    let slot_small : c.args.slot < 18446744073709551616 = let h = c.ranges.slot.fits in omega (arith, h) in
    let f = c.upper.result.directory.filesystem.count in
    let seen = seen_there trees c.upper.result c.args.slot c.inode_in-inode.result c.node_ref.result
    (option_copied c.node.result) c.inode_in-inode.ensures.is c.node_ref.ensures.value c.node.ensures in
    let there = sym seen ∙ ap (λ o. option_map (node_seen f) (option_copied o)) c.in-Some.is in
    c.shows_name.ensures
    ∙ ap (λ (one : InodeRef). list_any (is_shown_name trees overlay one.filesystem.count (inode_of one))
    (files_at trees one.filesystem.count).numbers) c.inode_in-inode.ensures.is
    ∙ named_slot trees overlay looked c.args.node (small_parts c.args.node c.requires.small) c.requires.own c.args.slot
    slot_small c.requires.slot c.requires.same
    (ap is_directory_node there ∙ directory_seen f c.in-Some.object.now ∙ sym c.is_directory.ensures
    ∙ c.if-is_directory.false)
    (ap (is_kind_in White) there ∙ sym (c.is_white.ensures f) ∙ c.if-not-is_white.true)
    (one_listed trees f (inode_number f c.args.slot) (λ directory. is_some (directory_path trees overlay
    (number_of (node_above overlay.nodes.births overlay.layers.number (exchanged f directory))))))

pub returns-else-not-is_white : goal.returns-else-not-is_white
returns-else-not-is_white c =
    let trees = c.args.trees.now in
    let overlay = c.args.self.now in
    let looked : IsLooked trees overlay = record {
      stands = c.requires.standing;
      small = (looked_by trees overlay c.args.node c.requires.standing c.requires.small c.requires.own).small;
      top = c.upper.result;
      first = c.upper.ensures;
    } in
    let slot_small : c.args.slot < 18446744073709551616 = let h = c.ranges.slot.fits in omega (arith, h) in
    let f = c.upper.result.directory.filesystem.count in
    let seen = seen_there trees c.upper.result c.args.slot c.inode_in-inode.result c.node_ref.result
    (option_copied c.node.result) c.inode_in-inode.ensures.is c.node_ref.ensures.value c.node.ensures in
    let there = sym seen ∙ ap (λ o. option_map (node_seen f) (option_copied o)) c.in-Some.is in
    ap not c.if-not-is_white.false
    ∙ white_slot trees overlay looked c.args.node (small_parts c.args.node c.requires.small) c.requires.own c.args.slot
    slot_small c.requires.slot (ap (is_kind_in White) there ∙ sym (c.is_white.ensures f) ∙ c.if-not-is_white.false)
