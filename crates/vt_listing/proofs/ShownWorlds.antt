-- What a table of mounts shows of the worlds that have its mounts, groups and filesystems.
use Rattle.std.proofs.Common.{◌≡◌, refl, ◌∙◌, nat_eq, ℕ, List, [], Option, map, reverse}
use Rattle.vt_spec.proofs.Common.{FileTree, Tree, World, ancestors, before_first, filesystem_numbered, is_among, own_name, path_down, when}
use Rattle.vt_group.specs.Grouping.{master_in}
use Rattle.vt_location.specs.Numbers.{counted}
use Rattle.vt_mount.specs.MountsValue.{mounts_in}
use Rattle.vt_store.specs.StoreValue.{files_in}
use Rattle.vt_listing.specs.Shown.{IsShown}
use Rattle.vt_listing.specs.declared.table.MountTable.{MountTable}

-- the names that lead down to a directory, by the directories above it
abbrev names_down : Tree ℕ → ℕ → List ℕ → Option (List (List ℕ))
names_down tree top above = when (is_among nat_eq top above)
    (reverse (map (own_name nat_eq (record { tree = tree; numbers = [] })) (before_first (nat_eq top) above)))

pub same_path : (one other : FileTree ℕ) → one.tree ≡ other.tree → (top directory : ℕ)
    → ancestors nat_eq one directory ≡ ancestors nat_eq other directory
    → path_down nat_eq one top directory ≡ path_down nat_eq other top directory
same_path one other tree top directory above = λ i. names_down (tree i) top (above i)

module _ (table : MountTable) (world : World ℕ) (is : IsShown world table) where
  -- with its own filesystems, namespaces and tasks
  abbrev pub beside : World ℕ
  beside = record world { mounts = mounts_in table.mounts.now; master = master_in table.groups.now }

  pub same_world : beside ≡ world
  same_world = λ i. record world { mounts = is.mounts i; master = λ group. is.masters group i }

  -- it has the same ways down
  pub path_shown : (count top directory : ℕ) → path_down nat_eq (files_in table.store.now count) top directory
      ≡ path_down nat_eq (filesystem_numbered nat_eq world (counted count)).files top directory
  path_shown count top directory =
      same_path (files_in table.store.now count) (filesystem_numbered nat_eq world (counted count)).files
      (is.trees count) top directory (is.above count directory)
