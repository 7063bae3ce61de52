use Rattle.std.proofs.Common.{ap, option_map}
use Rattle.vt_location.specs.Locations.{location_of}
use Rattle.vt_layers.specs.LayersValue.{layers_of}
use Rattle.vt_layers.proofs.RuleLemmas.{upper_alone, work_plain}
use Rattle.vt_layers.proofs.rules.is_upper_unfit.Goals as goal

pub is_unfit_with-requires-clause-upper : goal.is_unfit_with-requires-clause-upper
is_unfit_with-requires-clause-upper g c =
    upper_alone (g.L.Look.looks c.args.world.now) (layers_of c.args.layers.now) c.requires
    (location_of c.in-Some.upper) (ap (option_map location_of) c.in-Some.is)

pub is_unfit_with-requires-clause-work : goal.is_unfit_with-requires-clause-work
is_unfit_with-requires-clause-work g c =
    work_plain (g.L.Look.looks c.args.world.now) (layers_of c.args.layers.now) c.requires
