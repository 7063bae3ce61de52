-- Each step of a change of an overlay keeps that its tree is what its layers show: the kernel's overlayfs document,
-- "upper and lower", "directories" and "whiteouts and opaque directories".
use Rattle.std.specs.Prelude.{Bool, List, [], None, Option, Some, false, is_some, nat_eq, option_map, slice_get, true, ℕ, ◌∷◌, ◌≡◌}
use Rattle.vt_spec.specs.declared.attributes.Attr.{Attr}
use Rattle.vt_spec.specs.declared.attributes.Kind.TheVariants.{White}
use Rattle.vt_spec.specs.FileTree.{a_name, is_kind, is_kind_in, is_opaque_in}
use Rattle.vt_spec.specs.Language.Changes.{changed_node, node_with_attr, node_with_mark}
use Rattle.vt_spec.specs.Lists.{Fresh, then_some}
use Rattle.vt_spec.specs.Machine.CopyUp.{Merge, Stack, changed_both, copied_up, copy_of_node, merge_with_link, merge_with_moved, merge_with_new, merge_without_name, path_to, upper_of}
use Rattle.vt_spec.specs.Machine.Layers.{OpenLayer, has_lower_directory, lowers_have_directory, node_at_path, shown}
use Rattle.vt_spec.specs.Machine.Merging.{layer_node, merged_at, real_object}
use Rattle.vt_spec.specs.Machine.World.{Real, upper_object}
use Rattle.vt_spec.specs.Machine.World.Real.{Lower, Upper}
use Rattle.vt_spec.specs.Machine.Invariants.{ListsNumbers, SameObject, number_at_path}
use Rattle.vt_spec.specs.Tree.{Node, kind_of, node_with_bytes}
use Rattle.vt_spec.specs.TreeInvariant.{IsDirectory, IsReached, IsTree}
use Rattle.vt_laws_trees.specs.Trees.{MayAddName, MayMake, MayMove, MayRemove}
use Rattle.vt_laws_trees.specs.Layers.Layers.ChangesUpper.{StandsInUpper}
use Rattle.vt_laws_trees.specs.Layers.Layers.Upper.{IsThere}

-- the layers of an overlay that is being changed: the upper one, over the lower ones
abbrev pub layers_under : Stack ℕ → Merge ℕ → List (OpenLayer ℕ)
layers_under stack merge = record { tree = merge.upper.tree; directory = stack.directory } ∷ stack.lowers

-- the real object of what they show at a path
abbrev pub real_seen : Stack ℕ → Merge ℕ → List (List ℕ) → Option (Real ℕ)
real_seen stack merge path =
    option_map (λ object. real_object true object.seen.layer object) (merged_at (layers_under stack merge) path)

-- the inode of a real object
abbrev pub inode_behind : Stack ℕ → Merge ℕ → Real ℕ → Option (Node ℕ)
inode_behind stack merge (Upper object) = merge.upper.tree.node object
inode_behind stack merge (Lower layer path) =
    then_some (slice_get stack.lowers layer) (λ lower. node_at_path lower path)

-- The tree is what the layers show: what `IsMerged` says of an overlay of a world.
pub record IsWhatIsShown (stack : Stack ℕ) (merge : Merge ℕ) : Type 0 where
  pub shows : (path : List (List ℕ))
      → SameObject (then_some (number_at_path merge.files path) merge.files.tree.node)
      (then_some (shown (layers_under stack merge) path) (layer_node (layers_under stack merge)))
  pub names : (path : List (List ℕ)) (number : ℕ)
      → number_at_path merge.files path ≡ Some number → merge.real number ≡ real_seen stack merge path
  pub real_objects : (number : ℕ)
      → SameObject (merge.files.tree.node number) (then_some (merge.real number) (inode_behind stack merge))
  pub real_there : (number : ℕ) → merge.files.tree.node number ≡ None → merge.real number ≡ None
  pub no_whiteout : (number : ℕ) → is_kind_in White (merge.files.tree.node number) ≡ false
  pub no_mark : (number : ℕ) → is_opaque_in (merge.files.tree.node number) ≡ false
  pub upper_there : (number object : ℕ) → merge.real number ≡ Some (Upper object)
      → is_some (merge.upper.tree.node object) ≡ true
  pub one_to_one : (a b : ℕ) → is_some (merge.real a) ≡ true → merge.real a ≡ merge.real b → a ≡ b

-- Its tree and those of its layers are trees, each layer's directory is one, names lead to the upper layer's from the
-- root of its tree, and the overlay's tree is what the layers show.
pub record IsWhole (stack : Stack ℕ) (merge : Merge ℕ) : Type 0 where
  pub tree : IsTree merge.files.tree
  pub numbers : ListsNumbers nat_eq merge.files
  pub layers : (depth : ℕ) (layer : OpenLayer ℕ)
      → slice_get (layers_under stack merge) depth ≡ Some layer
      → IsTree layer.tree × IsDirectory layer.tree layer.directory
  pub reached : IsReached merge.upper.tree stack.directory
  pub shown : IsWhatIsShown stack merge

-- Bytes and attributes of what stands in the upper layer are set.
abbrev pub BytesKeepWhole : Type 0
BytesKeepWhole =
    (stack : Stack ℕ) (merge : Merge ℕ) (file : ℕ) (bytes : List ℕ)
    → IsWhole stack merge → StandsInUpper merge file
    → IsWhole stack (changed_both nat_eq merge file (node_with_bytes bytes))

abbrev pub AttrKeepsWhole : Type 0
AttrKeepsWhole =
    (stack : Stack ℕ) (merge : Merge ℕ) (object : ℕ) (attr : Attr)
    → IsWhole stack merge → StandsInUpper merge object
    → IsWhole stack (changed_both nat_eq merge object (node_with_attr attr))

-- The mark of a directory that stands in the upper layer is set there, or taken, where lower layers have no directory
-- that is not cut by one of them: that shows nothing else. Through an overlay no call does so (O4).
abbrev pub marked_above : Merge ℕ → ℕ → Bool → Merge ℕ
marked_above merge directory opaque =
    record merge { upper = changed_node nat_eq merge.upper (upper_of merge directory) (node_with_mark opaque) }

abbrev pub MarkKeepsWhole : Type 0
MarkKeepsWhole =
    (stack : Stack ℕ) (merge : Merge ℕ) (directory : ℕ) (opaque : Bool)
    → IsWhole stack merge → StandsInUpper merge directory
    → ((way : List (List ℕ)) → number_at_path merge.files way ≡ Some directory
    → lowers_have_directory stack.lowers way ≡ false)
    → IsWhole stack (marked_above merge directory opaque)

-- As a change of the overlay, which changes its tree too, a mark would be in that: so O4 refuses it.
abbrev pub MarkOfTheTreeIsNotShown : Type 0
MarkOfTheTreeIsNotShown =
    (stack : Stack ℕ) (merge : Merge ℕ) (directory : ℕ) → IsDirectory merge.files.tree directory
    → ¬ (IsWhatIsShown stack (changed_both nat_eq merge directory (node_with_mark true)))

-- One object that lies only below is copied up, by a number that no inode of the upper layer's tree has: under its
-- name, where the directory of that stands in the upper layer, or under none.
abbrev pub CopyKeepsWhole : Type 0
CopyKeepsWhole =
    (stack : Stack ℕ) (merge : Merge ℕ) (object copy : ℕ) (node : Node ℕ)
    → IsWhole stack merge → merge.files.tree.node object ≡ Some node → upper_object (merge.real object) ≡ None
    → merge.upper.tree.node copy ≡ None
    → ((name : ℕ × List ℕ) → a_name nat_eq merge.files object ≡ Some name → StandsInUpper merge name.0)
    → IsWhole stack (copy_of_node nat_eq merge object copy node)

-- An object is copied up, with the directories above it that lie only below, by such numbers.
abbrev pub CopiesKeepWhole : Type 0
CopiesKeepWhole =
    (fresh : Fresh ℕ) (stack : Stack ℕ) (merge : Merge ℕ) (object : ℕ)
    → IsWhole stack merge → ((j k : ℕ) → fresh j ≡ fresh k → j ≡ k) → ((k : ℕ) → merge.upper.tree.node (fresh k) ≡ None)
    → IsThere merge.files object → IsWhole stack (copied_up nat_eq fresh merge object)

-- A new object is put under a name that shows nothing, with an opaque mark where it must hide a directory.
abbrev pub MakeKeepsShown : Type 0
MakeKeepsShown =
    (fresh : Fresh ℕ) (stack : Stack ℕ) (merge : Merge ℕ) (directory : ℕ) (name : List ℕ) (number : ℕ) (node : Node ℕ)
    → IsWhole stack merge → StandsInUpper merge directory → merge.upper.tree.node (fresh 0) ≡ None
    → MayMake merge.files.tree directory name number node → is_kind White (kind_of node.content) ≡ false
    → IsWhatIsShown stack (merge_with_new nat_eq fresh stack merge directory name number node)

-- An object that is no directory gets a further name; both stand in the upper layer.
abbrev pub LinkKeepsShown : Type 0
LinkKeepsShown =
    (stack : Stack ℕ) (merge : Merge ℕ) (directory : ℕ) (name : List ℕ) (object : ℕ)
    → IsWhole stack merge → StandsInUpper merge directory → StandsInUpper merge object
    → MayAddName merge.files.tree directory name object
    → IsWhatIsShown stack (merge_with_link nat_eq merge directory name object)

-- The name of an object without names in it is taken away, with a whiteout where lower layers show something there, or
-- without one.
abbrev pub RemoveKeepsShown : Type 0
RemoveKeepsShown =
    (fresh : Fresh ℕ) (stack : Stack ℕ) (merge : Merge ℕ) (directory : ℕ) (name : List ℕ) (object : ℕ)
    → IsWhole stack merge → StandsInUpper merge directory → merge.upper.tree.node (fresh 0) ≡ None
    → MayRemove merge.files.tree directory name object
    → IsWhatIsShown stack (merge_without_name nat_eq fresh stack merge directory name object)

-- An object is moved, where it and both directories stand in the upper layer. A directory moves only where no lower
-- layer that is not cut has one (O1).
abbrev pub MoveKeepsShown : Type 0
MoveKeepsShown =
    (fresh : Fresh ℕ) (stack : Stack ℕ) (merge : Merge ℕ) (from : ℕ) (old : List ℕ) (to : ℕ) (new : List ℕ) (object : ℕ)
    → IsWhole stack merge → StandsInUpper merge from → StandsInUpper merge to → StandsInUpper merge object
    → merge.upper.tree.node (fresh 0) ≡ None → MayMove merge.files.tree from old to new object
    → (IsDirectory merge.files.tree object
    → has_lower_directory (record { tree = merge.upper.tree; directory = stack.directory } ∷ []) stack.lowers
    (path_to nat_eq merge from old) ≡ false)
    → IsWhatIsShown stack (merge_with_moved nat_eq fresh stack merge from old to new object)
