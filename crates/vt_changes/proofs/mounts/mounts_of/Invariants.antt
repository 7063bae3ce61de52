use Rattle.std.proofs.Common.{◌≡◌, [], cond, drop, false, ℕ}
use Rattle.std.specs.List.{list_any}
use Rattle.vt_world.specs.WorldValue.{world_of}
use Rattle.vt_changes.specs.Kept.{is_namespace}
use Rattle.vt_changes.specs.SeenMounts.{mounts_kept, mounts_seen}
use Rattle.vt_changes.proofs.mounts.mounts_of.Given as goal

-- those that are done are kept
abbrev pub invariant-loop-namespace : goal.invariant-loop-namespace
invariant-loop-namespace l = (number : ℕ) → list_any (is_namespace number) (drop l.namespace-index l.namespaces) ≡ false
    → mounts_kept l.kept.entries number
    ≡ cond (list_any (is_namespace number) l.namespaces) (mounts_seen (world_of l.world) number) []
