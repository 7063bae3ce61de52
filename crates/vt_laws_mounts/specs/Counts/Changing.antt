-- A change of counted inodes, and the change of the tree with the sweep after it: link(2), unlink(2), rename(2),
-- mkdir(2), write(2), chmod(2).
use Rattle.std.specs.Prelude.{false, is_some, nat_eq, true, ℕ, ⊤, ◌≡◌, ◌≢◌}
use Rattle.vt_spec.specs.FileTree.{FileTree}
use Rattle.vt_spec.specs.Language.Changes.{Change}
use Rattle.vt_spec.specs.Language.Changes.Change.{AddName, CopyUp, Make, Move, Remove, SetAttr, SetBytes, SetMark}
use Rattle.vt_spec.specs.Lists.{Fresh, any_pair}
use Rattle.vt_spec.specs.Machine.Filesystems.{with_change}
use Rattle.vt_spec.specs.Machine.Mounts.{Location}
use Rattle.vt_spec.specs.Machine.SameWorlds.{SameWorlds}
use Rattle.vt_spec.specs.Machine.Settled.{settled}
use Rattle.vt_spec.specs.Machine.World.{World, filesystem_at, filesystem_numbered, mount_at}
use Rattle.vt_spec.specs.Machine.Invariants.{IsWorld, ListsNumbers}
use Rattle.vt_spec.specs.Fits.{Fits}
use Rattle.vt_spec.specs.Inodes.{Inodes, changed, tree_of}
use Rattle.vt_laws_mounts.specs.LettingGo.TreeChanges.{with_tree}
use Rattle.vt_laws_mounts.specs.Counts.Counted.{IsCounted, IsPlain}

-- what gets another name is there: link(2)
abbrev pub LinksWhatIsThere : Inodes ℕ → Change ℕ → Type 0
LinksWhatIsThere inodes (AddName directory name object) = is_some (inodes.inode object) ≡ true
LinksWhatIsThere inodes (Make directory name number node) = ⊤
LinksWhatIsThere inodes (Remove directory name object) = ⊤
LinksWhatIsThere inodes (Move from old to new object) = ⊤
LinksWhatIsThere inodes (SetBytes file bytes) = ⊤
LinksWhatIsThere inodes (SetAttr object attr) = ⊤
LinksWhatIsThere inodes (SetMark directory opaque) = ⊤
LinksWhatIsThere inodes (CopyUp object) = ⊤

-- A change of a plain filesystem at a location, and the counted inodes of that filesystem before it
pub record IsChange (world : World ℕ) (location : Location ℕ) (inodes : Inodes ℕ) (change : Change ℕ) : Type 0 where
  pub in_world : IsWorld nat_eq world
  pub plain : IsPlain world
  pub counted : IsCounted world (filesystem_at nat_eq world location) inodes
  pub fits : Fits inodes change
  pub links : LinksWhatIsThere inodes change

-- the number of the filesystem that a location is in
abbrev pub filesystem_of : World ℕ → Location ℕ → ℕ
filesystem_of world location = (mount_at nat_eq world location).filesystem

-- the world after a change at a location, swept
abbrev pub after_change : Fresh ℕ → World ℕ → Location ℕ → Change ℕ → World ℕ
after_change fresh world location change = settled nat_eq (with_change nat_eq fresh world location change)

-- The world differs in the files of that filesystem alone.
abbrev pub OnlyFilesChange : Type 0
OnlyFilesChange =
    (fresh : Fresh ℕ) (world : World ℕ) (location : Location ℕ) (inodes : Inodes ℕ) (change : Change ℕ)
    → IsChange world location inodes change
    → after_change fresh world location change
    ≡ with_tree world (filesystem_of world location)
    (filesystem_at nat_eq (after_change fresh world location change) location).files

-- The changed inodes are those of the filesystem then, with the counts of their uses.
abbrev pub CountsFollowChanges : Type 0
CountsFollowChanges =
    (fresh : Fresh ℕ) (world : World ℕ) (location : Location ℕ) (inodes : Inodes ℕ) (change : Change ℕ)
    → IsChange world location inodes change
    → IsCounted (after_change fresh world location change)
    (filesystem_at nat_eq (after_change fresh world location change) location) (changed nat_eq inodes change)

-- Those of each other filesystem stay as they are.
abbrev pub OtherCountsStay : Type 0
OtherCountsStay =
    (fresh : Fresh ℕ) (world : World ℕ) (location : Location ℕ) (inodes : Inodes ℕ) (change : Change ℕ)
    → IsChange world location inodes change
    → (other : ℕ) (others : Inodes ℕ) → other ≢ filesystem_of world location
    → IsCounted world (filesystem_numbered nat_eq world other) others
    → IsCounted (after_change fresh world location change)
    (filesystem_numbered nat_eq (after_change fresh world location change) other) others

-- So the world with the changed inodes in that filesystem, their numbers in whatever order, is the world after the
-- change.
abbrev pub CountedChangesAreSwept : Type 0
CountedChangesAreSwept =
    (fresh : Fresh ℕ) (world : World ℕ) (location : Location ℕ) (inodes : Inodes ℕ) (change : Change ℕ)
    → IsChange world location inodes change
    → (files : FileTree ℕ) → files.tree ≡ tree_of (changed nat_eq inodes change)
    → any_pair nat_eq files.numbers ≡ false → ListsNumbers nat_eq files
    → SameWorlds (with_tree world (filesystem_of world location) files) (after_change fresh world location change)

-- bytes, attributes, new names and new inodes: no name goes
abbrev pub TakesNoName : Change ℕ → Type 0
TakesNoName (Remove directory name object) = ⊥
TakesNoName (Move from old to new object) = ⊥
TakesNoName (Make directory name number node) = ⊤
TakesNoName (AddName directory name object) = ⊤
TakesNoName (SetBytes file bytes) = ⊤
TakesNoName (SetAttr object attr) = ⊤
TakesNoName (SetMark directory opaque) = ⊤
TakesNoName (CopyUp object) = ⊤

-- Then nothing goes: open(2) with O_CREAT has its descriptor on the new inode before the sweep.
abbrev pub NamesKeepAll : Type 0
NamesKeepAll =
    (fresh : Fresh ℕ) (world : World ℕ) (location : Location ℕ) (inodes : Inodes ℕ) (change : Change ℕ)
    → IsChange world location inodes change → TakesNoName change
    → after_change fresh world location change ≡ with_change nat_eq fresh world location change
