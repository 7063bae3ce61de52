use Rattle.std.proofs.Common.{sym, ◌∙◌}
use Rattle.vt_location.specs.Locations.{number_of}
use Rattle.vt_overlay.proofs.DirectoriesUnder.{under_by_ways, under_no_directory, under_no_top}
use Rattle.vt_overlay.proofs.overlays.Overlay.is_under.Goals as goal

pub returns-in_default : goal.returns-in_default
returns-in_default c = c.is_same.ensures
    ∙ under_no_directory c.args.trees.now c.args.self.now c.requires.layers c.requires.few (number_of c.args.top)
    (number_of c.args.directory) (sym c.way.ensures ∙ c.in_default.is)

pub returns-in-Some-way : goal.returns-in-Some-way
returns-in-Some-way c =
    under_by_ways c.args.trees.now c.args.self.now c.requires.layers c.requires.few (number_of c.args.top)
    (number_of c.args.directory) c.in-Some-way.upper c.in-Some.lower (sym c.way-2.ensures ∙ c.in-Some-way.is)
    (sym c.way.ensures ∙ c.in-Some.is) c.starts_with.result c.starts_with.ensures.yes c.starts_with.ensures.no

pub returns-in-None : goal.returns-in-None
returns-in-None c = c.is_same-in-None.ensures
    ∙ under_no_top c.args.trees.now c.args.self.now c.requires.layers c.requires.few (number_of c.args.top)
    (number_of c.args.directory) c.in-Some.lower (sym c.way-2.ensures ∙ c.in-None.is) (sym c.way.ensures ∙ c.in-Some.is)
