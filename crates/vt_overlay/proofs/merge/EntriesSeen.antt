-- Entries by slots are entries by the numbers of inodes.
use Rattle.std.proofs.Common.{◌≡◌, List, Option, Some, option_map, ℕ}
use Rattle.vt_spec.proofs.Common.{Node, entries_of, entry_at, entry_named}
use Rattle.vt_location.specs.Numbers.{exchanged}
use Rattle.vt_fs.specs.Trees.TreeValue.{TreeValue, inodes_of, tree_of}
use Rattle.vt_fs.proofs.Renamed.{entry_by_numbers}
use Rattle.vt_overlay.specs.Merge.LayerValue.{tree_seen}

pub entry_seen : (f : ℕ) (lent : Option TreeValue) (tree : TreeValue) (slot number : ℕ) (name : List ℕ)
    (node : Node ℕ) → lent ≡ Some tree → exchanged f slot ≡ number → (tree_of tree).node slot ≡ Some node
    → option_map (exchanged f) (entry_named name (entries_of node.content)) ≡ entry_at (tree_seen f lent) number name
entry_seen f lent tree slot number name node lends same is = cc (entry_by_numbers f (inodes_of tree) slot name)
