use Rattle.vt_layers.specs.LayersValue.{layers_of}
use Rattle.vt_layers.proofs.RuleLemmas.{lowers_plain, upper_plain, work_plain}
use Rattle.vt_layers.proofs.rules.overlap_lowers.Goals as goal

pub overlaps_lower-upper-requires-clause-lowers : goal.overlaps_lower-upper-requires-clause-lowers
overlaps_lower-upper-requires-clause-lowers g c =
    lowers_plain (g.L.Look.looks c.args.world.now) (layers_of c.args.layers.now) c.requires

pub overlaps_lower-upper-requires-clause-at : goal.overlaps_lower-upper-requires-clause-at
overlaps_lower-upper-requires-clause-at g c =
    upper_plain (g.L.Look.looks c.args.world.now) (layers_of c.args.layers.now) c.requires

pub overlaps_lower-requires-clause-lowers : goal.overlaps_lower-requires-clause-lowers
overlaps_lower-requires-clause-lowers g c =
    lowers_plain (g.L.Look.looks c.args.world.now) (layers_of c.args.layers.now) c.requires

pub overlaps_lower-requires-clause-at : goal.overlaps_lower-requires-clause-at
overlaps_lower-requires-clause-at g c =
    work_plain (g.L.Look.looks c.args.world.now) (layers_of c.args.layers.now) c.requires
