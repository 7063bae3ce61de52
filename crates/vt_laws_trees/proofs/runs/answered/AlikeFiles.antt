-- A change of files in two trees that are the same but for the order of the numbers beside them.
use Rattle.std.proofs.Common.{subst, ℕ, nat_eq, List, Option, Some, None}
use Rattle.vt_spec.proofs.Common.{AddName, Change, CopyUp, FileTree, IsPermutation-cons, Make, Move, Node, Remove, SameFiles, SetAttr, SetBytes, SetMark, changed, changed_node, entries_in, entry_named, node_with_attr, node_with_bytes, node_with_entry, node_with_mark, node_with_parent, node_without_entry, without_parent}
use Rattle.vt_spec.specs.Tree.{with_node}

pub node_changed : (one other : FileTree ℕ) → SameFiles one other → (number : ℕ)
    (change : Option (Node ℕ) → Option (Node ℕ))
    → SameFiles (changed_node nat_eq one number change) (changed_node nat_eq other number change)
node_changed one other same number change = record {
  tree = λ i. with_node nat_eq (same.tree i) number (change ((same.tree i).node number));
  numbers = same.numbers;
}

parent_lost : (one other : FileTree ℕ) → SameFiles one other → (object : Option ℕ)
    → SameFiles (without_parent nat_eq one object) (without_parent nat_eq other object)
parent_lost one other same None = same
parent_lost one other same (Some object) = node_changed one other same object (node_with_parent object)

-- the object that has a name of a directory
abbrev named_at : FileTree ℕ → ℕ → List ℕ → Option ℕ
named_at files directory name = entry_named name (entries_in (files.tree.node directory))

pub changed_alike : (one other : FileTree ℕ) → SameFiles one other → (change : Change ℕ)
    → SameFiles (changed nat_eq one change) (changed nat_eq other change)
changed_alike one other same (Make directory name number node) = node_changed _ _ (record {
  tree = λ i. with_node nat_eq (same.tree i) number (Some node);
  numbers = IsPermutation-cons number one.numbers other.numbers same.numbers;
}) directory (node_with_entry name number)
changed_alike one other same (AddName directory name object) =
    node_changed one other same directory (node_with_entry name object)
changed_alike one other same (Remove directory name object) =
    node_changed _ _ (node_changed one other same directory (node_without_entry name)) object (node_with_parent object)
changed_alike one other same (Move from old to new object) = node_changed _ _
    (node_changed _ _ (node_changed _ _ lost from (node_without_entry old)) to (node_with_entry new object))
    object (node_with_parent to)
  where
    lost : SameFiles (without_parent nat_eq one (named_at one to new))
        (without_parent nat_eq other (named_at other to new))
    lost = subst (λ named. SameFiles (without_parent nat_eq one (named_at one to new))
        (without_parent nat_eq other named)) (λ i. entry_named new (entries_in ((same.tree i).node to)))
        (parent_lost one other same (named_at one to new))
changed_alike one other same (SetBytes file bytes) = node_changed one other same file (node_with_bytes bytes)
changed_alike one other same (SetAttr object attr) = node_changed one other same object (node_with_attr attr)
changed_alike one other same (SetMark directory opaque) = node_changed one other same directory (node_with_mark opaque)
changed_alike one other same (CopyUp object) = same
