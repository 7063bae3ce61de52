use Rattle.std.proofs.Common.{◌≡◌, drop, nat_eq}
use Rattle.vt_spec.proofs.Common.{any_pair, one_under_another}
use Rattle.vt_layers.proofs.RuleLemmas.{layers_at}
use Rattle.vt_layers.proofs.rules.some_under_another.Given as goal

-- those that are left have such a pair just if all have one
abbrev pub invariant-loop-place : goal.invariant-loop-place
invariant-loop-place g l = any_pair (one_under_another nat_eq (g.L.Look.looks l.world))
    (layers_at (g.L.Look.looks l.world) (drop l.place l.lowers))
    ≡ any_pair (one_under_another nat_eq (g.L.Look.looks l.world)) (layers_at (g.L.Look.looks l.world) l.lowers)
