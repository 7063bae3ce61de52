-- Worlds that are the same but for change numbers, and for the order of the numbers that stand beside trees: no call
-- looks at either.
use Rattle.std.specs.Prelude.{Bool, List, Some, [], map, true, ⊤, ◌∷◌, ◌≡◌}
use Rattle.std.specs.List.Sorted.{IsPermutation}
use Rattle.vt_spec.specs.FileTree.{FileTree, has_entry_to}
use Rattle.vt_spec.specs.Machine.Filesystems.{lies_only_in_lowers}
use Rattle.vt_spec.specs.Machine.World.{Filesystem, Namespace, Overlay, Task, World, filesystem_numbered}

module _ {N : Type 0} where
  -- a world with all its change numbers at zero
  abbrev pub without_changes : World N → World N
  without_changes world = record world {
    filesystems = map (λ (filesystem : Filesystem N). record filesystem { change = 0 }) world.filesystems;
    namespaces = map (λ (namespace : Namespace N). record namespace { change = 0 }) world.namespaces;
    tasks = map (λ (task : Task N). record task { change = 0 }) world.tasks;
    change = 0;
  }

-- the same tree, and beside it the same numbers in whatever order, each as often
pub record SameFiles {N : Type 0} (one other : FileTree N) : Type 0 where
  pub tree : one.tree ≡ other.tree
  pub numbers : IsPermutation one.numbers other.numbers

-- the same filesystem but for its change number
pub record SameFilesystem {N : Type 0} (one other : Filesystem N) : Type 0 where
  pub number : one.number ≡ other.number
  pub files : SameFiles one.files other.files
  pub overlay : one.overlay ≡ other.overlay

module _ {N : Type 0} where
  -- the same filesystems, in the same order
  abbrev pub SameFilesystems : List (Filesystem N) → List (Filesystem N) → Type 0
  SameFilesystems [] [] = ⊤
  SameFilesystems [] (other ∷ others) = ⊥
  SameFilesystems (one ∷ ones) [] = ⊥
  SameFilesystems (one ∷ ones) (other ∷ others) = SameFilesystem one other × SameFilesystems ones others

-- the same world but for change numbers, and the order of the numbers beside trees
pub record SameWorlds {N : Type 0} (one other : World N) : Type 0 where
  pub mounts : one.mounts ≡ other.mounts
  pub master : one.master ≡ other.master
  pub filesystems : SameFilesystems one.filesystems other.filesystems
  pub namespaces : (without_changes one).namespaces ≡ (without_changes other).namespaces
  pub tasks : (without_changes one).tasks ≡ (without_changes other).tasks

-- An inode of an overlay that is only in lower layers has a name in one directory alone, since there are as many such
-- inodes as paths that show them: overlayfs, "non-standard behavior" of hard links
abbrev pub LowerObjectsHaveOneName : {N : Type 0} → (N → N → Bool) → World N → Type 0
LowerObjectsHaveOneName {N} eq world =
    (number : N) (overlay : Overlay N) → (filesystem_numbered eq world number).overlay ≡ Some overlay
    → (object one other : N) → lies_only_in_lowers overlay object ≡ true
    → has_entry_to eq (filesystem_numbered eq world number).files.tree one object ≡ true
    → has_entry_to eq (filesystem_numbered eq world number).files.tree other object ≡ true
    → one ≡ other
