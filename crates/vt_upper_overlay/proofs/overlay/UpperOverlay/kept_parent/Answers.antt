use Rattle.std.proofs.Common.{rules, Some, ap, false, option_copied, sym, true, ◌≡◌, ◌∙◌, is_some}
use Rattle.vt_spec.proofs.Common.{or_right, parent_in, when}
use Rattle.vt_location.specs.Locations.{number_of}
use Rattle.vt_location.proofs.NodeLemmas.{small_parts}
use Rattle.vt_births.specs.Kept.{is_kept}
use Rattle.vt_overlay.specs.MergedTree.{longest, plain_world}
use Rattle.vt_upper_overlay.specs.MergedAbove.{held, merged_above, object_shown, real_number, upper_seen}
use Rattle.vt_upper_overlay.proofs.Objects.{kept_no_way, same_kind}
use Rattle.vt_upper_overlay.proofs.Shown.{looked_by}
use Rattle.vt_upper_overlay.proofs.Ways.{own_parent_of}
use Rattle.vt_upper_overlay.proofs.overlay.UpperOverlay.kept_parent.Goals as goal

pub inode-requires-clause-there : goal.inode-requires-clause-there
inode-requires-clause-there c =
    or_right (is_some (object_shown c.args.trees.now c.args.self.now (number_of c.args.node)))
    (is_kept c.args.self.now.nodes.kept c.args.node) c.requires.kept

pub returns-then-not-is_directory : goal.returns-then-not-is_directory
returns-then-not-is_directory c =
    let trees = c.args.trees.now in
    let overlay = c.args.self.now in
    let node = (merged_above trees overlay).node (number_of c.args.node) in
    let isnt : c.is_directory.result ≡ false = search rules in
    ap (λ b. when b (parent_in (number_of c.args.node) node))
    (sym isnt ∙ c.is_directory.ensures ∙ same_kind (option_copied c.inode.result) node c.inode.ensures.alike)

pub returns : goal.returns
returns c =
    let trees = c.args.trees.now in
    let overlay = c.args.self.now in
    let node = (merged_above trees overlay).node (number_of c.args.node) in
    let small = c.requires.small in
    let is : c.is_directory.result ≡ true = search rules in
    ap Some (sym (own_parent_of (real_number trees overlay) (held trees overlay) (longest trees overlay.layers.lowers)
    (plain_world trees) (upper_seen overlay) (number_of c.args.node) (kept_no_way trees overlay
    (looked_by trees overlay c.args.node c.requires.standing small c.requires.own) c.args.node
    (small_parts c.args.node small) c.requires.kept)))
    ∙ ap (λ b. when b (parent_in (number_of c.args.node) node))
    (sym is ∙ c.is_directory.ensures ∙ same_kind (option_copied c.inode.result) node c.inode.ensures.alike)
