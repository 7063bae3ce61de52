-- The inodes of a filesystem in a world, each with the count of its uses: inode(7), "Hard link count", and unlink(2) on
-- a file that is still open.
use Rattle.std.specs.Prelude.{false, length, nat_eq, ℕ, ◌≡◌}
use Rattle.vt_spec.specs.Lists.{any_pair}
use Rattle.vt_spec.specs.Machine.World.{Filesystem, World}
use Rattle.vt_spec.specs.Inodes.{Inodes, node_in, uses_in}
use Rattle.vt_laws_mounts.specs.LettingGo.Counts.{inode_uses}
pub use Rattle.vt_laws_rules.specs.Plain.{IsPlain}

-- Counted inodes are those of a filesystem in a world: the same root, the same nodes, each with the count of its uses.
-- No number stands twice beside the tree.
pub record IsCounted (world : World ℕ) (filesystem : Filesystem ℕ) (inodes : Inodes ℕ) : Type 0 where
  pub root : inodes.root ≡ filesystem.files.tree.root
  pub node : (number : ℕ) → node_in (inodes.inode number) ≡ filesystem.files.tree.node number
  pub uses : (number : ℕ) → uses_in (inodes.inode number) ≡ inode_uses world filesystem number
  pub count : inodes.count ≡ length filesystem.files.numbers
  pub once : any_pair nat_eq filesystem.files.numbers ≡ false
