use Rattle.std.proofs.Common.{◌≡◌, drop, map}
use Rattle.vt_spec.proofs.Common.{shown_from, view_of}
use Rattle.vt_overlay.specs.Merge.LayerValue.{layers_of}
use Rattle.vt_overlay.proofs.merge.showing.shown.Given as goal

-- what all layers show is what those that are left show
abbrev pub invariant-loop-place : goal.invariant-loop-place
invariant-loop-place g l = shown_from 0 (map view_of (layers_of l.trees l.layers)) (g.W.Way.names l.path)
    ≡ shown_from l.place (map view_of (layers_of l.trees (drop l.place l.layers))) (g.W.Way.names l.path)
