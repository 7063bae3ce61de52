-- What a change of an overlay makes of its upper layer, in terms of layers alone: the kernel's overlayfs document,
-- "upper and lower" (copy_up) and "whiteouts and opaque directories". Objects are given by paths, or by their real
-- objects if they have no name.
use Rattle.std.specs.Prelude.{Bool, List, None, Option, Some, [], is_some, length, nat_eq, slice_get, true, unwrap_or, ℕ, ◌++◌, ◌∷◌, ◌≡◌, ◌≢◌}
use Rattle.vt_spec.specs.declared.attributes.Attr.{Attr}
use Rattle.vt_spec.specs.Language.Changes.{changed, changed_node, content_with_parent, node_with_attr, node_with_mark, with_inode, with_moved}
use Rattle.vt_spec.specs.Language.Changes.Change.{AddName, CopyUp, Make, Move, Remove, SetAttr, SetBytes, SetMark}
use Rattle.vt_spec.specs.FileTree.{FileTree}
use Rattle.vt_spec.specs.Lists.{Fresh, evens, folded, without_last, prefixes, last_or, odds, then_some, when}
use Rattle.vt_spec.specs.Machine.CopyUp.{Merge, Stack, copied_content, copied_up, is_directory_shown, merge_changed, name_left_by, with_mark, without_contents}
use Rattle.vt_spec.specs.Machine.Layers.{OpenLayer, Shown, shown_in_lowers, node_at_path, shown}
use Rattle.vt_spec.specs.Machine.Merging.{layer_node}
use Rattle.vt_spec.specs.Machine.World.{Real, upper_object}
use Rattle.vt_spec.specs.Machine.World.Real.{Lower, Upper}
use Rattle.vt_spec.specs.Machine.Invariants.{number_at_path}
use Rattle.vt_spec.specs.Tree.{Node, is_directory_node, node_with_bytes}
use Rattle.vt_spec.specs.TreeInvariant.{IsDirectory, led}
use Rattle.vt_laws_trees.specs.Trees.{MayMove}
use Rattle.vt_laws_trees.specs.Overlays.WhatIsShown.{IsWhole}

-- the layers, the upper one on top
abbrev pub layers_with : Stack ℕ → FileTree ℕ → List (OpenLayer ℕ)
layers_with stack upper = record { tree = upper.tree; directory = stack.directory } ∷ stack.lowers

-- the inode that they show at a path
abbrev pub node_seen : Stack ℕ → FileTree ℕ → List (List ℕ) → Option (Node ℕ)
node_seen stack upper path = then_some (shown (layers_with stack upper) path) (layer_node (layers_with stack upper))

-- the upper layer's object at a path,
abbrev pub led_above : Stack ℕ → FileTree ℕ → List (List ℕ) → Option ℕ
led_above stack upper path = led upper.tree stack.directory path

abbrev pub object_above : Stack ℕ → FileTree ℕ → List (List ℕ) → ℕ
object_above stack upper path = unwrap_or (led_above stack upper path) 0

-- and if it is a directory
abbrev pub directory_above : Stack ℕ → FileTree ℕ → List (List ℕ) → Option ℕ
directory_above stack upper path =
    then_some (led_above stack upper path) (λ object. when (is_directory_node (upper.tree.node object)) object)

-- what lower layers show at a path, and whether it is a directory
abbrev pub seen_below : Stack ℕ → FileTree ℕ → List (List ℕ) → Option (Shown ℕ)
seen_below stack upper path = shown_in_lowers
    (record { tree = upper.tree; directory = stack.directory }) stack.lowers path

abbrev pub directory_below : Stack ℕ → FileTree ℕ → List (List ℕ) → Bool
directory_below stack upper path = is_directory_shown (layers_with stack upper) (seen_below stack upper path)

-- Copies

-- a copy, in a directory of the upper layer
abbrev pub copy_node : ℕ → Node ℕ → Node ℕ
copy_node parent node = record { attr = node.attr; content = copied_content parent node.content }

-- What is shown at a path is copied into the upper layer's directory above it, if the upper layer has nothing there,
-- by the new number at the place that is how many names the path has.
abbrev pub copy_over : Fresh ℕ → Stack ℕ → FileTree ℕ → List (List ℕ) → Option ℕ → Option (Node ℕ) → FileTree ℕ
copy_over fresh stack upper path (Some object) seen = upper
copy_over fresh stack upper path None None = upper
copy_over fresh stack upper path None (Some node) =
    changed nat_eq upper
    (Make (object_above stack upper (without_last path)) (last_or [] path) (fresh (length path))
    (copy_node (object_above stack upper (without_last path)) node))

abbrev pub copied_at : Fresh ℕ → Stack ℕ → FileTree ℕ → List (List ℕ) → FileTree ℕ
copied_at fresh stack upper path = copy_over fresh stack upper path (led_above stack upper path)
    (node_seen stack upper path)

-- so is what is shown at each prefix of a path, the shortest first
abbrev pub copied_to : Fresh ℕ → Stack ℕ → FileTree ℕ → List (List ℕ) → FileTree ℕ
copied_to fresh stack upper path = folded (copied_at fresh stack) upper (prefixes path)

-- An object at a path, or one without a name, with its real object.
pub data Place : Type 0 where
  Named : (path : List (List ℕ)) → Place
  Held : (object : Real ℕ) → Place

abbrev pub IsAt : Merge ℕ → ℕ → Place → Type 0
IsAt merge number (Named path) = number_at_path merge.files path ≡ Some number
IsAt merge number (Held object) =
    (merge.real number ≡ Some object) × ((path : List (List ℕ)) → number_at_path merge.files path ≢ Some number)

abbrev pub node_below : Stack ℕ → ℕ → List (List ℕ) → Option (Node ℕ)
node_below stack layer path = then_some (slice_get stack.lowers layer) (λ lower. node_at_path lower path)

-- an object without a name is copied to an inode without a name
abbrev pub held_over : Fresh ℕ → FileTree ℕ → Option (Node ℕ) → FileTree ℕ
held_over fresh upper None = upper
held_over fresh upper (Some node) = with_inode nat_eq upper (fresh 0) (copy_node (fresh 0) node)

abbrev pub copied_for : Fresh ℕ → Stack ℕ → FileTree ℕ → Place → FileTree ℕ
copied_for fresh stack upper (Named path) = copied_to fresh stack upper path
copied_for fresh stack upper (Held (Upper object)) = upper
copied_for fresh stack upper (Held (Lower layer path)) = held_over fresh upper (node_below stack layer path)

-- the upper object of what is copied
abbrev pub object_of : Fresh ℕ → Stack ℕ → FileTree ℕ → Place → ℕ
object_of fresh stack upper (Named path) = unwrap_or (led_above stack upper path) (fresh (length path))
object_of fresh stack upper (Held (Upper object)) = object
object_of fresh stack upper (Held (Lower layer path)) = fresh 0

-- new numbers differ, and no inode of the upper layer's tree has one
pub record AreNew (fresh : Fresh ℕ) (upper : FileTree ℕ) : Type 0 where
  pub distinct : (j k : ℕ) → fresh j ≡ fresh k → j ≡ k
  pub unused : (k : ℕ) → upper.tree.node (fresh k) ≡ None

-- What copy-up makes of the upper layer: at a path those prefixes are copied at which that has nothing.
abbrev pub CopiesAreOfFronts : Type 0
CopiesAreOfFronts =
    (fresh : Fresh ℕ) (stack : Stack ℕ) (merge : Merge ℕ) (object : ℕ) (place : Place)
    → IsWhole stack merge → AreNew fresh merge.upper → is_some (merge.files.tree.node object) ≡ true
    → IsAt merge object place
    → ((copied_up nat_eq fresh merge object).upper ≡ copied_for fresh stack merge.upper place)
    × (upper_object ((copied_up nat_eq fresh merge object).real object) ≡ Some
    (object_of fresh stack merge.upper place))

-- what is said of an overlay and the new numbers for a change of it
abbrev pub OfCopies : (Fresh ℕ → Stack ℕ → Merge ℕ → Type 0) → Type 0
OfCopies Said =
    (fresh : Fresh ℕ) (stack : Stack ℕ) (merge : Merge ℕ) → IsWhole stack merge → AreNew fresh merge.upper
    → Said fresh stack merge

-- So each prefix leads to what it led to, or to its copy; and every other path leads where it led.
abbrev pub FrontsLeadToCopies : Type 0
FrontsLeadToCopies =
    OfCopies (λ fresh stack merge.
    (path : List (List ℕ)) → is_some (number_at_path merge.files path) ≡ true
    → ((prefix rest : List (List ℕ)) → prefix ++ rest ≡ path
    → led_above stack (copied_to fresh stack merge.upper path) prefix
    ≡ Some (unwrap_or (led_above stack merge.upper prefix) (fresh (length prefix))))
    × ((other : List (List ℕ)) → ((rest : List (List ℕ)) → other ++ rest ≢ path)
    → led_above stack (copied_to fresh stack merge.upper path) other ≡ led_above stack merge.upper other))

-- An inode at a prefix has for its real object what the prefix leads to then; every other inode keeps its own.
abbrev pub FrontsHaveTheirCopies : Type 0
FrontsHaveTheirCopies =
    OfCopies (λ fresh stack merge.
    (path : List (List ℕ)) (object : ℕ) → number_at_path merge.files path ≡ Some object
    → ((prefix rest : List (List ℕ)) (number : ℕ) → prefix ++ rest ≡ path
    → number_at_path merge.files prefix ≡ Some number
    → (copied_up nat_eq fresh merge object).real number
    ≡ Some (Upper (unwrap_or (led_above stack merge.upper prefix) (fresh (length prefix)))))
    × ((number : ℕ)
    → ((prefix rest : List (List ℕ)) → prefix ++ rest ≡ path → number_at_path merge.files prefix ≢ Some number)
    → (copied_up nat_eq fresh merge object).real number ≡ merge.real number))

-- So with an object without a name.
abbrev pub HeldHaveTheirCopies : Type 0
HeldHaveTheirCopies =
    OfCopies (λ fresh stack merge.
    (object number : ℕ) (held : Real ℕ)
    → is_some (merge.files.tree.node object) ≡ true → IsAt merge object (Held held) → number ≢ object
    → (copied_up nat_eq fresh merge object).real number ≡ merge.real number)

-- a path leads to a directory of the overlay
abbrev pub LeadsToDirectory : Merge ℕ → List (List ℕ) → ℕ → Type 0
LeadsToDirectory merge path directory =
    (number_at_path merge.files path ≡ Some directory) × IsDirectory merge.files.tree directory

-- What lower layers show at a name is the same before copies and after them, and so is whether it is a directory.
abbrev pub CopiesHideNothing : Type 0
CopiesHideNothing =
    OfCopies (λ fresh stack merge.
    (path way : List (List ℕ)) (directory : ℕ) (name : List ℕ)
    → is_some (number_at_path merge.files path) ≡ true → LeadsToDirectory merge way directory
    → (seen_below stack (copied_to fresh stack merge.upper path) (way ++ name ∷ []) ≡ seen_below stack merge.upper
    (way ++ name ∷ []))
    × (directory_below stack (copied_to fresh stack merge.upper path) (way ++ name ∷ [])
    ≡ directory_below stack merge.upper (way ++ name ∷ [])))

-- Each kind of change

-- bytes, owner and mode, and mark: of the upper object, after its copy if it lay only below
abbrev pub upper_with : Fresh ℕ → Stack ℕ → FileTree ℕ → Place → (Option (Node ℕ) → Option (Node ℕ)) → FileTree ℕ
upper_with fresh stack upper place change =
    changed_node nat_eq (copied_for fresh stack upper place) (object_of fresh stack upper place) change

abbrev pub BytesAreSetAbove : Type 0
BytesAreSetAbove =
    OfCopies (λ fresh stack merge.
    (file : ℕ) (place : Place) (bytes : List ℕ) → is_some (merge.files.tree.node file) ≡ true → IsAt merge file place
    → (merge_changed nat_eq fresh stack merge (SetBytes file bytes)).upper
    ≡ upper_with fresh stack merge.upper place (node_with_bytes bytes))

abbrev pub AttrIsSetAbove : Type 0
AttrIsSetAbove =
    OfCopies (λ fresh stack merge.
    (object : ℕ) (place : Place) (attr : Attr) → is_some (merge.files.tree.node object) ≡ true
    → IsAt merge object place
    → (merge_changed nat_eq fresh stack merge (SetAttr object attr)).upper
    ≡ upper_with fresh stack merge.upper place (node_with_attr attr))

abbrev pub MarkIsSetAbove : Type 0
MarkIsSetAbove =
    OfCopies (λ fresh stack merge.
    (directory : ℕ) (place : Place) (opaque : Bool) → is_some (merge.files.tree.node directory) ≡ true
    → IsAt merge directory place
    → (merge_changed nat_eq fresh stack merge (SetMark directory opaque)).upper
    ≡ upper_with fresh stack merge.upper place (node_with_mark opaque))

abbrev pub OpenedIsCopied : Type 0
OpenedIsCopied =
    OfCopies (λ fresh stack merge.
    (object : ℕ) (place : Place) → is_some (merge.files.tree.node object) ≡ true → IsAt merge object place
    → (merge_changed nat_eq fresh stack merge (CopyUp object)).upper ≡ copied_for fresh stack merge.upper place)

-- A new object: in the upper directory at a path, copied if it lay only below, with an opaque mark where lower layers
-- show a directory under the name.
abbrev pub made_in : Fresh ℕ → Stack ℕ → FileTree ℕ → FileTree ℕ → List (List ℕ) → List ℕ → Node ℕ → FileTree ℕ
made_in fresh stack upper copies path name node =
    with_mark nat_eq (directory_below stack upper (path ++ name ∷ []))
    (changed nat_eq copies
    (Make (object_above stack copies path) name (fresh 0)
    (record { attr = node.attr; content = content_with_parent (object_above stack copies path) node.content })))
    (fresh 0)

abbrev pub MadeAbove : Type 0
MadeAbove =
    OfCopies (λ fresh stack merge.
    (path : List (List ℕ)) (directory : ℕ) (name : List ℕ) (number : ℕ) (node : Node ℕ)
    → LeadsToDirectory merge path directory
    → (merge_changed nat_eq fresh stack merge (Make directory name number node)).upper
    ≡ made_in (odds fresh) stack merge.upper (copied_to (evens fresh) stack merge.upper path) path name node)

-- A further name of an object, which is copied first and then the directory.
abbrev pub linked_in : Stack ℕ → FileTree ℕ → ℕ → List (List ℕ) → List ℕ → FileTree ℕ
linked_in stack copies object path name =
    changed nat_eq copies (AddName (object_above stack copies path) name object)

abbrev pub LinkedAbove : Type 0
LinkedAbove =
    OfCopies (λ fresh stack merge.
    (old : Place) (path : List (List ℕ)) (directory object : ℕ) (name : List ℕ)
    → LeadsToDirectory merge path directory → is_some (merge.files.tree.node object) ≡ true → IsAt merge object old
    → (merge_changed nat_eq fresh stack merge (AddName directory name object)).upper
    ≡ linked_in stack (copied_to (odds fresh) stack (copied_for (evens fresh) stack merge.upper old) path)
    (object_of (evens fresh) stack merge.upper old) path name)

-- A name that is removed leaves a whiteout if lower layers show something under it; and a directory that had it loses
-- its whiteouts.
abbrev pub removed_in : Fresh ℕ → Stack ℕ → FileTree ℕ → FileTree ℕ → List (List ℕ) → List ℕ → FileTree ℕ
removed_in fresh stack upper copies path name =
    without_contents nat_eq
    (name_left_by nat_eq (is_some (seen_below stack upper (path ++ name ∷ []))) fresh stack copies
    (object_above stack copies path) name)
    (directory_above stack copies (path ++ name ∷ []))

abbrev pub RemovedAbove : Type 0
RemovedAbove =
    OfCopies (λ fresh stack merge.
    (path : List (List ℕ)) (directory : ℕ) (name : List ℕ) (object : ℕ) → LeadsToDirectory merge path directory
    → (merge_changed nat_eq fresh stack merge (Remove directory name object)).upper
    ≡ removed_in (odds fresh) stack merge.upper (copied_to (evens fresh) stack merge.upper path) path name)

-- An object that is moved is copied first, and then the new directory; what it replaces loses its whiteouts, the old
-- name leaves a whiteout if lower layers show something under it, and under the new name it is opaque if they show a
-- directory there.
abbrev pub moved_in : Fresh ℕ → Stack ℕ → FileTree ℕ → FileTree ℕ → List (List ℕ) → List ℕ → List (List ℕ) → List ℕ
    → FileTree ℕ
moved_in fresh stack upper copies from old to new =
    with_mark nat_eq (directory_below stack upper (to ++ new ∷ []))
    (name_left_by nat_eq (is_some (seen_below stack upper (from ++ old ∷ []))) fresh stack
    (with_moved nat_eq (without_contents nat_eq copies (directory_above stack copies (to ++ new ∷ [])))
    (object_above stack copies from) old (object_above stack copies to) new
    (object_above stack copies (from ++ old ∷ [])))
    (object_above stack copies from) old)
    (object_above stack copies (from ++ old ∷ []))

abbrev pub MovedAbove : Type 0
MovedAbove =
    OfCopies (λ fresh stack merge.
    (from_path to_path : List (List ℕ)) (from to object : ℕ) (old new : List ℕ)
    → number_at_path merge.files from_path ≡ Some from → number_at_path merge.files to_path ≡ Some to
    → MayMove merge.files.tree from old to new object
    → (merge_changed nat_eq fresh stack merge (Move from old to new object)).upper
    ≡ moved_in (odds (odds fresh)) stack merge.upper
    (copied_to (evens (odds fresh)) stack (copied_to (evens fresh) stack merge.upper (from_path ++ old ∷ [])) to_path)
    from_path old to_path new)
