use Rattle.std.proofs.Common.{sym, ap, ◌∙◌}
use Rattle.vt_location.specs.Locations.{number_of}
use Rattle.vt_overlay.specs.MergedTree.{object_shown}
use Rattle.vt_overlay.proofs.overlays.Overlay.object.Goals as goal

pub returns-in-Below-clause-value : goal.returns-in-Below-clause-value
returns-in-Below-clause-value c = c.object_below.ensures.value ∙ ap (object_shown c.args.trees.now c.args.self.now)
    (λ i. number_of (record {
      filesystem = (sym c.requires.own) i;
      slot = c.args.node.slot;
      birth = (sym c.in-Below.is) i;
    }))
