use Rattle.std.proofs.Common.{rules, ap, false, is_some, sym, true, ◌≡◌, ◌∙◌, option_copied}
use Rattle.vt_location.specs.Locations.{number_of}
use Rattle.vt_location.proofs.NodeLemmas.{small_parts}
use Rattle.vt_upper_overlay.specs.MergedAbove.{merged_above}
use Rattle.vt_upper_overlay.proofs.Entries.{kind_of_way}
use Rattle.vt_upper_overlay.proofs.LentAbove.{there_lent}
use Rattle.vt_upper_overlay.proofs.Objects.{kept_no_way, same_kind}
use Rattle.vt_upper_overlay.proofs.Shown.{looked_by}
use Rattle.vt_upper_overlay.proofs.overlay.UpperOverlay.is_shown_directory.Goals as goal

pub inode-requires-clause-there : goal.inode-requires-clause-there
inode-requires-clause-there c =
    let small = c.is_kept.ensures.small in
    there_lent c.args.trees.now c.args.self.now
    (looked_by c.args.trees.now c.args.self.now c.args.node c.requires.standing small c.requires.own) c.args.node
    (small_parts c.args.node small) c.requires.there

pub returns-then-is_kept : goal.returns-then-is_kept
returns-then-is_kept c =
    let trees = c.args.trees.now in
    let overlay = c.args.self.now in
    let small = c.is_kept.ensures.small in
    let kept : c.is_kept.result ≡ true = search rules in
    sym (ap is_some (kept_no_way trees overlay
    (looked_by trees overlay c.args.node c.requires.standing small c.requires.own) c.args.node
    (small_parts c.args.node small) (sym c.is_kept.ensures.value ∙ kept)))

pub returns : goal.returns
returns c =
    let trees = c.args.trees.now in
    let overlay = c.args.self.now in
    let small = c.is_kept.ensures.small in
    let unkept : c.is_kept.result ≡ false = search rules in
    c.is_directory.ensures
    ∙ same_kind (option_copied c.inode.result) ((merged_above trees overlay).node (number_of c.args.node))
    c.inode.ensures.alike
    ∙ kind_of_way trees overlay (looked_by trees overlay c.args.node c.requires.standing small c.requires.own) c.args.node
    (small_parts c.args.node small) (sym c.is_kept.ensures.value ∙ unkept)
    (there_lent trees overlay (looked_by trees overlay c.args.node c.requires.standing small c.requires.own) c.args.node
    (small_parts c.args.node small) c.requires.there)
