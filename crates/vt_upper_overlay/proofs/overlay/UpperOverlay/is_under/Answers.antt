use Rattle.std.proofs.Common.{sym, ◌∙◌}
use Rattle.vt_location.specs.Locations.{number_of}
use Rattle.vt_upper_overlay.proofs.Deep.{under_by_ways, under_no_directory, under_no_top}
use Rattle.vt_upper_overlay.proofs.Shown.{looked_by}
use Rattle.vt_upper_overlay.proofs.overlay.UpperOverlay.is_under.Goals as goal

pub returns-in_default : goal.returns-in_default
returns-in_default c =
    let looked = looked_by c.args.trees.now c.args.self.now c.args.directory c.requires.standing c.way.ensures.small
    c.requires.own in
    c.is_same.ensures
    ∙ under_no_directory c.args.trees.now c.args.self.now looked (number_of c.args.top) (number_of c.args.directory)
    (sym c.way.ensures.value ∙ c.in_default.is)

pub returns-in-Some-way : goal.returns-in-Some-way
returns-in-Some-way c =
    let looked = looked_by c.args.trees.now c.args.self.now c.args.directory c.requires.standing c.way.ensures.small
    c.requires.own in
    under_by_ways c.args.trees.now c.args.self.now looked (number_of c.args.top) (number_of c.args.directory)
    c.in-Some-way.upper c.in-Some.lower (sym c.way-2.ensures.value ∙ c.in-Some-way.is)
    (sym c.way.ensures.value ∙ c.in-Some.is) c.starts_with.result c.starts_with.ensures.yes c.starts_with.ensures.no

pub returns-in-None : goal.returns-in-None
returns-in-None c =
    let looked = looked_by c.args.trees.now c.args.self.now c.args.directory c.requires.standing c.way.ensures.small
    c.requires.own in
    c.is_same-in-None.ensures
    ∙ under_no_top c.args.trees.now c.args.self.now looked (number_of c.args.top) (number_of c.args.directory)
    c.in-Some.lower (sym c.way-2.ensures.value ∙ c.in-None.is) (sym c.way.ensures.value ∙ c.in-Some.is)
