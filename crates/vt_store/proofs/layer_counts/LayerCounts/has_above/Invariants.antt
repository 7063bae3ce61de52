use Rattle.std.proofs.Common.{Bool, nat_eq, ℕ, ◌≡◌}
use Rattle.vt_spec.proofs.Common.{chain, list_any, parent_above}
use Rattle.vt_location.specs.declared.numbers.FilesystemId.{FilesystemId}
use Rattle.vt_spec.specs.Inodes.{ancestors}
use Rattle.vt_store.specs.LayersAt.{has_layer_at}
use Rattle.vt_store.specs.declared.layer_counts.LayerCounts.{LayerCounts}
use Rattle.vt_fs.specs.Trees.TreeValue.{inodes_of}
use Rattle.vt_store.proofs.layer_counts.LayerCounts.has_above.Given as goal

abbrev pub is_at : LayerCounts → FilesystemId → ℕ → Bool
is_at counts filesystem slot = has_layer_at counts (record { filesystem = filesystem; slot = slot })

-- a layer is on the way that is left where one is on the whole way
abbrev pub invariant-loop-left : goal.invariant-loop-left
invariant-loop-left l =
    list_any (is_at l.self l.filesystem) (chain l.left (parent_above nat_eq (inodes_of l.tree)) l.here)
    ≡ list_any (is_at l.self l.filesystem) (ancestors nat_eq (inodes_of l.tree) l.fn.directory)

abbrev pub decreases-loop-left : goal.decreases-loop-left
decreases-loop-left l = l.left
