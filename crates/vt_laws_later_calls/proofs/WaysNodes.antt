-- Inodes of a world by their numbers, and tasks that stand at one place.
use Rattle.std.proofs.Common.{◌≡◌, ℕ, nat_eq, true, Option}
use Rattle.vt_spec.proofs.Common.{IsWorld, Node, Task, Tree, World, among_from_list_all, and_parts, filesystem_numbered, has_its_root, is_among, is_directory_node, mount_numbered}
use Rattle.vt_laws_later_calls.proofs.Common.{found_there, numbers_of}

-- the root of a mount is a directory
pub mount_root : (world : World ℕ) → IsWorld nat_eq world → (number : ℕ)
    → is_among nat_eq number (numbers_of world.mounts) ≡ true → is_directory_node ((filesystem_numbered nat_eq world
    (mount_numbered nat_eq world number).filesystem).files.tree.node (mount_numbered nat_eq world number).root) ≡ true
mount_root world is number listed =
    (and_parts _ _ (among_from_list_all (has_its_root nat_eq world) world.mounts is.roots
    (mount_numbered nat_eq world number) (found_there world.mounts number listed))).0

-- an inode of a filesystem, and its tree
abbrev pub tree_in : World ℕ → ℕ → Tree ℕ
tree_in world filesystem = (filesystem_numbered nat_eq world filesystem).files.tree

abbrev pub node_in : World ℕ → ℕ → ℕ → Option (Node ℕ)
node_in world filesystem number = (tree_in world filesystem).node number

-- a task that stands where another did
pub record StandsAs (task reader : Task ℕ) : Type 0 where
  pub root : reader.root ≡ task.root
  pub directory : reader.directory ≡ task.directory
