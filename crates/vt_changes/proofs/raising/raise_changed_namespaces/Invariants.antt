use Rattle.std.proofs.Common.{◌≡◌, ◌≤◌, ◌&&◌, drop, length, not, ℕ}
use Rattle.std.specs.List.{list_any}
use Rattle.indexmap.specs.IndexMap.{spare}
use Rattle.vt_world.specs.WorldValue.{world_of}
use Rattle.vt_changes.specs.Following.{raised_if}
use Rattle.vt_changes.specs.Kept.{is_namespace, number_by}
use Rattle.vt_changes.specs.SeenMounts.{mounts_kept, mounts_seen, same_all}
use Rattle.vt_changes.proofs.raising.raise_changed_namespaces.Given as goal

-- there is room for all that are left; the numbers of those that are done are raised, if they are to be
abbrev pub invariant-loop-namespace : goal.invariant-loop-namespace
invariant-loop-namespace l = (length (drop l.namespace-index l.namespaces) ≤ spare l.numbers)
    × ((number : ℕ) → number_by (is_namespace number) l.numbers.entries
    ≡ raised_if (list_any (is_namespace number) l.namespaces
    && not (list_any (is_namespace number) (drop l.namespace-index l.namespaces))
    && not (same_all (mounts_kept l.before.entries number) (mounts_seen (world_of l.world) number)))
    (number_by (is_namespace number) l.initial.numbers.entries))
