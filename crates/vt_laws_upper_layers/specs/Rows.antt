-- What is made of the upper layer's tree is a row of plain changes: a name that is given to something else is removed
-- first, and so are the whiteouts in a directory that is removed or replaced. The kernel's overlayfs document,
-- "whiteouts and opaque directories"; unlink(2), rename(2).
use Rattle.std.specs.Prelude.{Bool, List, None, Option, Some, [], false, map, nat_eq, true, ℕ, ◌++◌, ◌∷◌, ◌≡◌, ◌≢◌}
use Rattle.std.specs.FinMap.Entries.{is_sorted}
use Rattle.vt_spec.specs.FileTree.{FileTree}
use Rattle.vt_spec.specs.Language.Changes.{Change, changed, with_moved}
use Rattle.vt_spec.specs.Language.Changes.Change.{AddName, Make, Move, Remove, SetMark}
use Rattle.vt_spec.specs.Lists.{Fresh, folded}
use Rattle.vt_spec.specs.Machine.CopyUp.{Stack, name_left_by, whiteout_of, with_mark, without_contents}
use Rattle.vt_spec.specs.Rights.{Credentials}
use Rattle.vt_spec.specs.Tree.{Node, entries_in, is_directory_node, name_cmp}
use Rattle.vt_spec.specs.TreeInvariant.{IsDirectory, entry_at}

-- changes made one after the other
abbrev pub after_row : FileTree ℕ → List (Change ℕ) → FileTree ℕ
after_row files row = folded (changed nat_eq) files row

-- what has a name loses it
abbrev pub removal : ℕ → List ℕ → Option ℕ → List (Change ℕ)
removal directory name None = []
removal directory name (Some object) = Remove directory name object ∷ []

abbrev pub freeing : FileTree ℕ → ℕ → List ℕ → List (Change ℕ)
freeing files directory name = removal directory name (entry_at files.tree directory name)

-- all that is in a directory loses its name there
abbrev pub emptying : FileTree ℕ → Option ℕ → List (Change ℕ)
emptying files None = []
emptying files (Some directory) =
    map (λ entry. Remove directory entry.0 entry.1) (entries_in (files.tree.node directory))

-- a whiteout and a mark are made, or not
abbrev pub whiting : (whiteout : Bool) → Fresh ℕ → Credentials → ℕ → List ℕ → List (Change ℕ)
whiting true fresh mounter directory name = Make directory name (fresh 0) (whiteout_of mounter) ∷ []
whiting false fresh mounter directory name = []

abbrev pub marking : (opaque : Bool) → ℕ → List (Change ℕ)
marking true object = SetMark object true ∷ []
marking false object = []

-- A new object, a further name; a name that is removed, of what is no directory or of one; a move.
abbrev pub row_made : FileTree ℕ → ℕ → List ℕ → ℕ → Node ℕ → List (Change ℕ)
row_made files directory name number node =
    freeing files directory name ++ (Make directory name number node ∷ [])

abbrev pub row_linked : FileTree ℕ → ℕ → List ℕ → ℕ → List (Change ℕ)
row_linked files directory name object = freeing files directory name ++ (AddName directory name object ∷ [])

abbrev pub row_removed : (whiteout : Bool) → Fresh ℕ → Credentials → FileTree ℕ → ℕ → List ℕ → Option ℕ
    → List (Change ℕ)
row_removed whiteout fresh mounter files directory name emptied =
    emptying files emptied ++ (freeing files directory name ++ whiting whiteout fresh mounter directory name)

abbrev pub row_moved : (whiteout : Bool) → (opaque : Bool) → Fresh ℕ → Credentials → FileTree ℕ → ℕ → List ℕ → ℕ
    → List ℕ → ℕ → Option ℕ → List (Change ℕ)
row_moved whiteout opaque fresh mounter files from old to new object emptied =
    emptying files emptied
    ++ (Move from old to new object ∷ (whiting whiteout fresh mounter from old ++ marking opaque object))

-- the names in each directory stand in order
abbrev pub AreInOrder : FileTree ℕ → Type 0
AreInOrder files = (directory : ℕ) → is_sorted name_cmp (entries_in (files.tree.node directory)) ≡ true

-- what has a name, if something has it, is no directory
abbrev pub IsPlainAt : FileTree ℕ → ℕ → List ℕ → Type 0
IsPlainAt files directory name =
    (object : ℕ) → entry_at files.tree directory name ≡ Some object → is_directory_node (files.tree.node object) ≡ false

-- What has a name is no directory, or it is the one that is emptied, in which no name is a directory's.
abbrev pub IsEmptied : FileTree ℕ → ℕ → List ℕ → Option ℕ → Type 0
IsEmptied files directory name None = IsPlainAt files directory name
IsEmptied files directory name (Some object) =
    (entry_at files.tree directory name ≡ Some object) × (directory ≢ object)
    × ((word : List ℕ) → IsPlainAt files object word)

-- A new object in the place of a whiteout,
abbrev pub MadeInARow : Type 0
MadeInARow =
    (files : FileTree ℕ) (directory number : ℕ) (name : List ℕ) (node : Node ℕ)
    → AreInOrder files → IsPlainAt files directory name → directory ≢ number
    → after_row files (row_made files directory name number node)
    ≡ changed nat_eq files (Make directory name number node)

-- and a further name there, are made as if nothing had the name.
abbrev pub LinkedInARow : Type 0
LinkedInARow =
    (files : FileTree ℕ) (directory object : ℕ) (name : List ℕ) → AreInOrder files → IsPlainAt files directory name
    → after_row files (row_linked files directory name object)
    ≡ changed nat_eq files (AddName directory name object)

-- A name that is removed leaves its whiteout, if any; a directory that had it has nothing in it, and is its own parent.
abbrev pub RemovedInARow : Type 0
RemovedInARow =
    (whiteout : Bool) (fresh : Fresh ℕ) (stack : Stack ℕ) (files : FileTree ℕ) (directory : ℕ) (name : List ℕ)
    (emptied : Option ℕ)
    → AreInOrder files → IsEmptied files directory name emptied → directory ≢ fresh 0 → emptied ≢ Some (fresh 0)
    → after_row files (row_removed whiteout fresh stack.mounter files directory name emptied)
    ≡ without_contents nat_eq (name_left_by nat_eq whiteout fresh stack files directory name) emptied

-- A move leaves its whiteout at the old name, and its mark on the object; a directory that it replaces is left so, too.
abbrev pub MovedInARow : Type 0
MovedInARow =
    (whiteout opaque : Bool) (fresh : Fresh ℕ) (stack : Stack ℕ) (files : FileTree ℕ) (from to object : ℕ)
    (old new : List ℕ) (emptied : Option ℕ)
    → AreInOrder files → IsEmptied files to new emptied → IsDirectory files.tree to → (from ≡ to → old ≢ new)
    → after_row files (row_moved whiteout opaque fresh stack.mounter files from old to new object emptied)
    ≡ with_mark nat_eq opaque (name_left_by nat_eq whiteout fresh stack
    (with_moved nat_eq (without_contents nat_eq files emptied) from old to new object) from old) object
