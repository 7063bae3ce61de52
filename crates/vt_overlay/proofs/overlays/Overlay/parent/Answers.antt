use Rattle.std.proofs.Common.{ap, option_map, sym, ◌∙◌}
use Rattle.vt_location.specs.Locations.{number_of}
use Rattle.vt_overlay.proofs.DirectoriesSeen.{no_parent_of, parent_of}
use Rattle.vt_overlay.proofs.overlays.Overlay.parent.Goals as goal

pub returns-in_err-way : goal.returns-in_err-way
returns-in_err-way c = ap (option_map number_of) c.from_residual.ensures
    ∙ no_parent_of c.args.trees.now c.args.self.now c.requires.layers (number_of c.args.node)
    (sym c.in_err-way.was ∙ c.way.ensures)

pub returns : goal.returns
returns c = c.node_at.ensures
    ∙ parent_of c.args.trees.now c.args.self.now c.requires.layers (number_of c.args.node) c.in_ok-way.way
    (sym c.in_ok-way.was ∙ c.way.ensures)
