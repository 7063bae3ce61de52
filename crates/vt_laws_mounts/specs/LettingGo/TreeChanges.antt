-- What goes when a plain tree changes: unlink(2), rmdir(2), rename(2); mkdir(2), link(2), write(2), chmod(2).
use Rattle.std.specs.Prelude.{List, [], map, nat_eq, true, ℕ, ◌||◌, ◌≡◌}
use Rattle.std.specs.List.{list_all}
use Rattle.vt_spec.specs.FileTree.{FileTree}
use Rattle.vt_spec.specs.Machine.Filesystems.{with_files}
use Rattle.vt_spec.specs.Lists.{is_among}
use Rattle.vt_spec.specs.Machine.Settled.{named_in, settled}
use Rattle.vt_spec.specs.Machine.World.{World, filesystem_numbered, with_filesystem}
use Rattle.vt_laws_mounts.specs.LettingGo.InUse.{IsListedTree}
use Rattle.vt_laws_mounts.specs.LettingGo.Leaving.{IsSettledPlain}
use Rattle.vt_laws_mounts.specs.LettingGo.OneByOne.{let_go_inodes}

-- the world with another tree in a filesystem
abbrev pub with_tree : World ℕ → ℕ → FileTree ℕ → World ℕ
with_tree world number files = with_filesystem nat_eq world (with_files (filesystem_numbered nat_eq world number) files)

-- A change of a tree, and the inodes that may have lost their last name by it
pub record ChangesTree (before after : FileTree ℕ) (unnamed : List ℕ) : Type 0 where
  pub tree : IsListedTree after
  pub root : after.tree.root ≡ before.tree.root
  -- an inode was there before, or has a name
  pub inodes : list_all (λ number. is_among nat_eq number before.numbers || is_among nat_eq number (named_in after))
      after.numbers ≡ true
  -- what had a name has one still, or is among these
  pub names : list_all (λ number. is_among nat_eq number (named_in after) || is_among nat_eq number unnamed)
      (named_in before) ≡ true

-- Of the inodes that may have lost their last name those go that have none, and where no location, mount or place is.
-- Nothing else goes.
abbrev pub UnnamedGo : Type 0
UnnamedGo =
    (world : World ℕ) (number : ℕ) (files : FileTree ℕ) (unnamed : List ℕ) → IsSettledPlain world
    → is_among nat_eq number (map (λ filesystem. filesystem.number) world.filesystems) ≡ true
    → ChangesTree (filesystem_numbered nat_eq world number).files files unnamed
    → settled nat_eq (with_tree world number files)
    ≡ let_go_inodes (with_tree world number files) (map (λ inode. (number, inode)) unnamed)

-- A change by which no name went leaves all.
abbrev pub NamedStay : Type 0
NamedStay =
    (world : World ℕ) (number : ℕ) (files : FileTree ℕ) → IsSettledPlain world
    → is_among nat_eq number (map (λ filesystem. filesystem.number) world.filesystems) ≡ true
    → ChangesTree (filesystem_numbered nat_eq world number).files files []
    → settled nat_eq (with_tree world number files) ≡ with_tree world number files
