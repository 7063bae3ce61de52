use Rattle.std.proofs.Common.{ap, option_map, sym, ◌∙◌, option_copied}
use Rattle.vt_location.specs.Locations.{number_of}
use Rattle.vt_overlay.specs.Merge.LayerValue.{seen_of}
use Rattle.vt_overlay.proofs.ObjectsAlike.{none_lent, some_lent}
use Rattle.vt_overlay.proofs.overlays.Overlay.inode_shown.Goals as goal

pub returns-in_err-shown : goal.returns-in_err-shown
returns-in_err-shown c = ap option_copied c.from_residual.ensures
    ∙ none_lent c.args.trees.now c.args.self.now c.requires.layers (number_of c.args.node)
    (sym (ap (option_map seen_of) c.in_err-shown.was)
    ∙ c.real_shown.ensures.value c.args.trees.now c.requires.layers c.requires.shown)

pub returns : goal.returns
returns c = some_lent c.args.trees.now c.args.self.now c.requires.layers (number_of c.args.node) c.in_ok-shown.shown
    (sym (ap (option_map seen_of) c.in_ok-shown.was)
    ∙ c.real_shown.ensures.value c.args.trees.now c.requires.layers c.requires.shown) c.in_ok-shown.ensures.tree
    (option_copied c.real_of.result) c.real_of.ensures
