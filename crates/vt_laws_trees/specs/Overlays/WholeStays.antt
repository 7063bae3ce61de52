-- An overlay stays whole in each change, so that changes follow one another, and the tree of its upper layer stays a
-- tree: the kernel's overlayfs document, "upper and lower", "directories" and "whiteouts and opaque directories".
use Rattle.std.specs.Prelude.{List, [], None, Some, false, nat_eq, true, ℕ, ⊤, ◌∷◌, ◌≡◌, ◌⊎◌}
use Rattle.vt_spec.specs.declared.attributes.Kind.TheVariants.{White}
use Rattle.vt_spec.specs.FileTree.{is_kind}
use Rattle.vt_spec.specs.Language.Changes.{Change}
use Rattle.vt_spec.specs.Lists.{Fresh}
use Rattle.vt_spec.specs.Machine.CopyUp.{Merge, Stack, merge_changed, merge_with_link, merge_with_moved, merge_with_new, merge_without_name, path_to}
use Rattle.vt_spec.specs.Machine.Layers.{has_lower_directory}
use Rattle.vt_spec.specs.Tree.{Node, is_directory_node, kind_of}
use Rattle.vt_spec.specs.Machine.World.Real.{Upper}
use Rattle.vt_spec.specs.TreeInvariant.{IsDirectory, entry_at, led}
use Rattle.vt_laws_trees.specs.Trees.{IsFileTree, MayAddName, MayMake, MayMove, MayRemove}
use Rattle.vt_laws_trees.specs.Trees.Sizes.{IsFitChange, is_fit_tree}
use Rattle.vt_laws_trees.specs.Layers.Layers.ChangesUpper.{StandsInUpper, IsNewBy}
use Rattle.vt_laws_trees.specs.Overlays.WhatIsShown.{IsWhole}
use Rattle.vt_laws_trees.specs.Overlays.WholeChanges.{IsAskedWell}

-- A new object under a name that shows nothing: mkdir(2), symlink(2), open(2) with O_CREAT.
abbrev pub MakeKeepsWhole : Type 0
MakeKeepsWhole =
    (fresh : Fresh ℕ) (stack : Stack ℕ) (merge : Merge ℕ) (directory : ℕ) (name : List ℕ) (number : ℕ) (node : Node ℕ)
    → IsWhole stack merge → StandsInUpper merge directory → merge.upper.tree.node (fresh 0) ≡ None
    → MayMake merge.files.tree directory name number node → is_kind White (kind_of node.content) ≡ false
    → IsWhole stack (merge_with_new nat_eq fresh stack merge directory name number node)

-- A further name of an object that is no directory: link(2).
abbrev pub LinkKeepsWhole : Type 0
LinkKeepsWhole =
    (stack : Stack ℕ) (merge : Merge ℕ) (directory : ℕ) (name : List ℕ) (object : ℕ)
    → IsWhole stack merge → StandsInUpper merge directory → StandsInUpper merge object
    → MayAddName merge.files.tree directory name object
    → IsWhole stack (merge_with_link nat_eq merge directory name object)

-- A name that is taken away, of an object without names in it: unlink(2), rmdir(2).
abbrev pub RemoveKeepsWhole : Type 0
RemoveKeepsWhole =
    (fresh : Fresh ℕ) (stack : Stack ℕ) (merge : Merge ℕ) (directory : ℕ) (name : List ℕ) (object : ℕ)
    → IsWhole stack merge → StandsInUpper merge directory → merge.upper.tree.node (fresh 0) ≡ None
    → MayRemove merge.files.tree directory name object
    → IsWhole stack (merge_without_name nat_eq fresh stack merge directory name object)

-- An object that is moved, a directory only where no lower layer that is not cut has one: rename(2).
abbrev pub MoveKeepsWhole : Type 0
MoveKeepsWhole =
    (fresh : Fresh ℕ) (stack : Stack ℕ) (merge : Merge ℕ) (from : ℕ) (old : List ℕ) (to : ℕ) (new : List ℕ) (object : ℕ)
    → IsWhole stack merge → StandsInUpper merge from → StandsInUpper merge to → StandsInUpper merge object
    → merge.upper.tree.node (fresh 0) ≡ None → MayMove merge.files.tree from old to new object
    → (IsDirectory merge.files.tree object
    → has_lower_directory (record { tree = merge.upper.tree; directory = stack.directory } ∷ []) stack.lowers
    (path_to nat_eq merge from old) ≡ false)
    → IsWhole stack (merge_with_moved nat_eq fresh stack merge from old to new object)

-- numbers that are handed in: each is another, and none is an inode's of the upper layer's tree
pub record AreNew (fresh : Fresh ℕ) (merge : Merge ℕ) : Type 0 where
  pub distinct : (j k : ℕ) → fresh j ≡ fresh k → j ≡ k
  pub unused : (k : ℕ) → merge.upper.tree.node (fresh k) ≡ None

-- an upper object of the overlay that is no directory, or that names lead to from the upper layer's directory
abbrev pub IsOwnPlaced : Stack ℕ → Merge ℕ → ℕ → Type 0
IsOwnPlaced stack merge object =
    (number : ℕ) × (merge.real number ≡ Some (Upper object))
    × ((is_directory_node (merge.upper.tree.node object) ≡ false)
    ⊎ ((path : List (List ℕ)) × (led merge.upper.tree stack.directory path ≡ Some object)))

-- A whole change, with the copies that it needs.
abbrev pub ChangesKeepWhole : Type 0
ChangesKeepWhole =
    (fresh : Fresh ℕ) (stack : Stack ℕ) (merge : Merge ℕ) (change : Change ℕ)
    → IsWhole stack merge → AreNew fresh merge → IsAskedWell stack merge change
    → IsWhole stack (merge_changed nat_eq fresh stack merge change)

-- changes one after the other, each with its new numbers
abbrev pub all_changed : Stack ℕ → Merge ℕ → List (Fresh ℕ × Change ℕ) → Merge ℕ
all_changed stack merge [] = merge
all_changed stack merge (first ∷ rest) = all_changed stack (merge_changed nat_eq first.0 stack merge first.1) rest

-- each asks for what it may when its turn comes
abbrev pub AreAskedWell : Stack ℕ → Merge ℕ → List (Fresh ℕ × Change ℕ) → Type 0
AreAskedWell stack merge [] = ⊤
AreAskedWell stack merge (first ∷ rest) =
    AreNew first.0 merge × IsAskedWell stack merge first.1
    × AreAskedWell stack (merge_changed nat_eq first.0 stack merge first.1) rest

-- So after any number of changes the overlay is what its layers show.
abbrev pub ChangesFollowOneAnother : Type 0
ChangesFollowOneAnother =
    (stack : Stack ℕ) (merge : Merge ℕ) (changes : List (Fresh ℕ × Change ℕ))
    → IsWhole stack merge → AreAskedWell stack merge changes → IsWhole stack (all_changed stack merge changes)

-- The tree of the upper layer stays a tree, its numbers beside it, and what lost its name is its own parent.
abbrev pub UpperTreesStay : Type 0
UpperTreesStay =
    (fresh : Fresh ℕ) (stack : Stack ℕ) (merge : Merge ℕ) (change : Change ℕ)
    → IsWhole stack merge → AreNew fresh merge → IsAskedWell stack merge change → IsFileTree merge.upper
    → IsFileTree (merge_changed nat_eq fresh stack merge change).upper

-- So does the overlay's own.
abbrev pub MergedTreesStay : Type 0
MergedTreesStay =
    (fresh : Fresh ℕ) (stack : Stack ℕ) (merge : Merge ℕ) (change : Change ℕ)
    → IsWhole stack merge → AreNew fresh merge → IsAskedWell stack merge change → IsFileTree merge.files
    → IsFileTree (merge_changed nat_eq fresh stack merge change).files

-- A name in the upper layer's tree leads where it led, or to such an upper object, or to a new inode.
abbrev pub NamesLeadToOwn : Type 0
NamesLeadToOwn =
    (fresh : Fresh ℕ) (stack : Stack ℕ) (merge : Merge ℕ) (change : Change ℕ) (directory : ℕ) (name : List ℕ)
    (object : ℕ)
    → IsWhole stack merge → AreNew fresh merge → IsAskedWell stack merge change
    → entry_at (merge_changed nat_eq fresh stack merge change).upper.tree directory name ≡ Some object
    → (entry_at merge.upper.tree directory name ≡ Some object) ⊎ (IsOwnPlaced stack merge object ⊎ IsNewBy fresh object)

-- The upper object of an inode is the one that it was, or a new inode.
abbrev pub ObjectsAreOwn : Type 0
ObjectsAreOwn =
    (fresh : Fresh ℕ) (stack : Stack ℕ) (merge : Merge ℕ) (change : Change ℕ) (number object : ℕ)
    → IsWhole stack merge → AreNew fresh merge → IsAskedWell stack merge change
    → (merge_changed nat_eq fresh stack merge change).real number ≡ Some (Upper object)
    → (merge.real number ≡ Some (Upper object)) ⊎ IsNewBy fresh object

-- Names, texts and files of both trees stay within their limits, where what the change gives is: NAME_MAX, EFBIG.
abbrev pub SizesStay : Type 0
SizesStay =
    (fresh : Fresh ℕ) (stack : Stack ℕ) (merge : Merge ℕ) (change : Change ℕ)
    → IsWhole stack merge → AreNew fresh merge → IsAskedWell stack merge change → IsFitChange change
    → is_fit_tree merge.files ≡ true → is_fit_tree merge.upper ≡ true
    → (is_fit_tree (merge_changed nat_eq fresh stack merge change).files ≡ true)
    × (is_fit_tree (merge_changed nat_eq fresh stack merge change).upper ≡ true)
