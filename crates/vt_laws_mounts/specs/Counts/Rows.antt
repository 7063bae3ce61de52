-- A row of changes of a plain filesystem, swept once, after the last of them: what a call on an overlay makes of its
-- upper layer's tree. The kernel's overlayfs document, "whiteouts and opaque directories"; unlink(2), rename(2).
use Rattle.std.specs.Prelude.{List, None, [], false, nat_eq, ℕ, ⊤, ◌∷◌, ◌≡◌, ◌≢◌}
use Rattle.vt_spec.specs.FileTree.{FileTree}
use Rattle.vt_spec.specs.Fits.{Fits}
use Rattle.vt_spec.specs.Inodes.{Inodes, tree_of}
use Rattle.vt_spec.specs.Inodes as Counted
use Rattle.vt_spec.specs.Language.Changes.{Change, changed}
use Rattle.vt_spec.specs.Language.Changes.Change.{AddName, CopyUp, Make, Move, Remove, SetAttr, SetBytes, SetMark}
use Rattle.vt_spec.specs.Lists.{any_pair, folded}
use Rattle.vt_spec.specs.Machine.Invariants.{ListsNumbers}
use Rattle.vt_spec.specs.Machine.SameWorlds.{SameWorlds}
use Rattle.vt_spec.specs.Machine.Settled.{settled}
use Rattle.vt_spec.specs.Machine.World.{Filesystem, World, filesystem_numbered, is_overlay}
use Rattle.vt_laws_mounts.specs.LettingGo.InUse.{AllInUse, HasTrees}
use Rattle.vt_laws_mounts.specs.LettingGo.TreeChanges.{with_tree}
use Rattle.vt_laws_mounts.specs.Counts.Changing.{LinksWhatIsThere}
use Rattle.vt_laws_mounts.specs.Counts.Counted.{IsCounted}

-- a new inode gets a number that nothing in the tree has; what lost its last name is in the tree until the sweep
abbrev pub IsNewNumber : FileTree ℕ → Change ℕ → Type 0
IsNewNumber files (Make directory name number node) = files.tree.node number ≡ None
IsNewNumber files (AddName directory name object) = ⊤
IsNewNumber files (Remove directory name object) = ⊤
IsNewNumber files (Move from old to new object) = ⊤
IsNewNumber files (SetBytes file bytes) = ⊤
IsNewNumber files (SetAttr object attr) = ⊤
IsNewNumber files (SetMark directory opaque) = ⊤
IsNewNumber files (CopyUp object) = ⊤

-- Each change fits the tree and its counted inodes in its turn.
abbrev pub FitInTurn : FileTree ℕ → Inodes ℕ → List (Change ℕ) → Type 0
FitInTurn files inodes [] = ⊤
FitInTurn files inodes (change ∷ rest) =
    Fits inodes change × LinksWhatIsThere inodes change × IsNewNumber files change
    × FitInTurn (changed nat_eq files change) (Counted.changed nat_eq inodes change) rest

-- a row of changes of the filesystem of this number in a world in which all is in use, and its counted inodes before
-- it; filesystems are trees, with numbers of their own
pub record IsRowInUse (world : World ℕ) (number : ℕ) (inodes : Inodes ℕ) (row : List (Change ℕ)) : Type 0 where
  pub in_use : AllInUse world
  pub trees : HasTrees world
  pub one_filesystem : any_pair (λ (a b : Filesystem ℕ). nat_eq a.number b.number) world.filesystems ≡ false
  pub plain : is_overlay (filesystem_numbered nat_eq world number) ≡ false
  pub counted : IsCounted world (filesystem_numbered nat_eq world number) inodes
  pub fit : FitInTurn (filesystem_numbered nat_eq world number).files inodes row

-- the counted inodes after a row
abbrev pub counted_after : Inodes ℕ → List (Change ℕ) → Inodes ℕ
counted_after inodes row = folded (Counted.changed nat_eq) inodes row

-- the world after a row, swept
abbrev pub after_row : World ℕ → ℕ → List (Change ℕ) → World ℕ
after_row world number row =
    settled nat_eq (with_tree world number
    (folded (changed nat_eq) (filesystem_numbered nat_eq world number).files row))

-- what is said of a row
abbrev pub OfRows : (World ℕ → ℕ → Inodes ℕ → List (Change ℕ) → Type 0) → Type 0
OfRows Said =
    (world : World ℕ) (number : ℕ) (inodes : Inodes ℕ) (row : List (Change ℕ))
    → IsRowInUse world number inodes row → Said world number inodes row

-- The world differs in the files of that filesystem alone.
abbrev pub OnlyFilesChangeInRows : Type 0
OnlyFilesChangeInRows = OfRows (λ world number inodes row.
    after_row world number row
    ≡ with_tree world number (filesystem_numbered nat_eq (after_row world number row) number).files)

-- The inodes, changed one by one, are those of the filesystem then, with the counts of their uses.
abbrev pub CountsFollowRows : Type 0
CountsFollowRows = OfRows (λ world number inodes row.
    IsCounted (after_row world number row) (filesystem_numbered nat_eq (after_row world number row) number)
    (counted_after inodes row))

-- Those of each other filesystem stay as they are.
abbrev pub OtherCountsStayInRows : Type 0
OtherCountsStayInRows = OfRows (λ world number inodes row.
    (other : ℕ) (others : Inodes ℕ) → other ≢ number
    → IsCounted world (filesystem_numbered nat_eq world other) others
    → IsCounted (after_row world number row) (filesystem_numbered nat_eq (after_row world number row) other) others)

-- So the world with the changed inodes in that filesystem, their numbers in whatever order, is the world after the
-- row.
abbrev pub CountedRowsAreSwept : Type 0
CountedRowsAreSwept = OfRows (λ world number inodes row.
    (files : FileTree ℕ) → files.tree ≡ tree_of (counted_after inodes row) → any_pair nat_eq files.numbers ≡ false
    → ListsNumbers nat_eq files → SameWorlds (with_tree world number files) (after_row world number row))
