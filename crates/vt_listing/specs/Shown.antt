-- The worlds that a table of mounts shows. Lists look at nothing else of a world, but at its namespaces.
use Rattle.std.specs.Prelude.{[], nat_eq, ℕ, ◌≡◌}
use Rattle.vt_spec.specs.FileTree.{ancestors}
use Rattle.vt_spec.specs.Machine.World.{World, filesystem_numbered, is_overlay}
use Rattle.vt_group.specs.Grouping.{master_in}
use Rattle.vt_location.specs.Numbers.{counted}
use Rattle.vt_mount.specs.MountsValue.{mounts_in}
use Rattle.vt_store.specs.StoreValue.{StoreValue, files_in, filesystem_in, filesystems_of}
use Rattle.vt_fs.specs.Trees.Paths.{NamesDirectoriesOnce}
use Rattle.vt_listing.specs.declared.table.MountTable.{MountTable}

-- A world has these mounts and these masters of groups. Each of its filesystems is an overlay if that of the store is
-- one, and has the same tree, in which the same directories are above each. The order of its numbers is not listed.
pub record IsShown (world : World ℕ) (table : MountTable) : Type 0 where
  pub mounts : mounts_in table.mounts.now ≡ world.mounts
  pub masters : (group : ℕ) → master_in table.groups.now group ≡ world.master group
  pub overlays : (count : ℕ) → is_overlay (filesystem_in table.store.now count)
      ≡ is_overlay (filesystem_numbered nat_eq world (counted count))
  pub trees : (count : ℕ) → (files_in table.store.now count).tree
      ≡ (filesystem_numbered nat_eq world (counted count)).files.tree
  pub above : (count directory : ℕ) → ancestors nat_eq (files_in table.store.now count) directory
      ≡ ancestors nat_eq (filesystem_numbered nat_eq world (counted count)).files directory

-- the one in which there is nothing else
abbrev pub world_shown : MountTable → World ℕ
world_shown table = record {
  mounts = mounts_in table.mounts.now;
  master = master_in table.groups.now;
  filesystems = filesystems_of table.store.now;
  namespaces = [];
  tasks = [];
  change = 0;
}

-- in each filesystem a directory has one name at most
abbrev pub NameDirectoriesOnce : StoreValue → Type 0
NameDirectoriesOnce store = (count : ℕ) → NamesDirectoriesOnce (files_in store count).tree
