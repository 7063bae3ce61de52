-- What layers show at a path, by what each has at its prefixes, so what a change of the upper layer changes in that.
use Rattle.std.specs.Prelude.{Bool, List, None, Option, Some, [], false, is_some, nat_eq, not, true, ℕ, ⊤, ◌||◌, ◌∷◌, ◌≡◌}
use Rattle.std.specs.List.{list_any}
use Rattle.vt_spec.specs.declared.attributes.Kind.TheVariants.{White}
use Rattle.vt_spec.specs.Language.Changes.{Change}
use Rattle.vt_spec.specs.Language.Changes.Change.{AddName, CopyUp, Make, Move, Remove, SetAttr, SetBytes, SetMark}
use Rattle.vt_spec.specs.FileTree.{FileTree, is_kind, is_kind_in, is_opaque_in, kind_in}
use Rattle.vt_spec.specs.Lists.{prefixes, same_option, when}
use Rattle.vt_spec.specs.Machine.Views.{View, shown_in_lowers, node_led, shown}
use Rattle.vt_spec.specs.Tree.{Node, Tree, entries_of, is_directory_node, kind_of}
use Rattle.vt_spec.specs.TreeInvariant.{IsDirectory, IsTree, entry_at}
use Rattle.vt_laws_trees.specs.Layers.Layers.Shown.{IsFrontOf}
use Rattle.vt_laws_trees.specs.Layers.Layers.Views.{CanMove, TakesName, goes_through, names_entry, view_after, view_in}

-- an inode of one kind with another
pub record IsOneKind (one other : Option (Node ℕ)) : Type 0 where
  pub there : is_some other ≡ is_some one
  pub kind : kind_in other ≡ kind_in one

-- and with the same mark
pub record HidesAlike (one other : Option (Node ℕ)) : Type 0 where
  pub of_kind : IsOneKind one other
  pub mark : is_opaque_in other ≡ is_opaque_in one

-- Two views lead alike along a path: to one number, and at its prefixes to what hides lower layers alike.
pub record LeadAlikeTo (path : List (List ℕ)) (one other : View ℕ) : Type 0 where
  pub leads : other.leads path ≡ one.leads path
  pub inode : IsOneKind (node_led one path) (node_led other path)
  pub on_the_way : (prefix : List (List ℕ)) → IsFrontOf prefix path
      → HidesAlike (node_led one prefix) (node_led other prefix)

abbrev pub AllLeadAlikeTo : List (List ℕ) → List (View ℕ) → List (View ℕ) → Type 0
AllLeadAlikeTo path [] [] = ⊤
AllLeadAlikeTo path [] (other ∷ others) = ⊥
AllLeadAlikeTo path (view ∷ views) [] = ⊥
AllLeadAlikeTo path (view ∷ views) (other ∷ others) =
    LeadAlikeTo path view other × AllLeadAlikeTo path views others

-- Layers whose views lead alike along a path show the same object of the same layer there.
abbrev pub ShownByFronts : Type 0
ShownByFronts =
    (views others : List (View ℕ)) (path : List (List ℕ)) → AllLeadAlikeTo path views others
    → shown others path ≡ shown views path

-- the path, or a prefix of it, leads to this inode
abbrev pub leads_over : View ℕ → ℕ → List (List ℕ) → Bool
leads_over view inode path =
    list_any (λ prefix. same_option nat_eq (view.leads prefix) (Some inode)) (prefixes path)

-- where a change of a layer may change what is shown: at its names and below them, and below a directory whose mark
-- it sets
abbrev pub may_show : View ℕ → Change ℕ → List (List ℕ) → Bool
may_show view (Make directory name number node) path = goes_through view directory name path
may_show view (AddName directory name object) path = goes_through view directory name path
may_show view (Remove directory name object) path = goes_through view directory name path
may_show view (Move from old to new object) path =
    goes_through view to new path || goes_through view from old path
may_show view (SetBytes file bytes) path = false
may_show view (SetAttr object attr) path = false
may_show view (SetMark directory opaque) path = leads_over view directory path
may_show view (CopyUp object) path = false

-- what is made has no names in it, what is linked is no directory, and a name is given in the place of what has no
-- names in it
abbrev pub IsPlainChange : Tree ℕ → Change ℕ → Type 0
IsPlainChange tree (Make directory name number node) =
    TakesName tree directory name × (tree.node number ≡ None) × (entries_of node.content ≡ [])
IsPlainChange tree (AddName directory name object) =
    TakesName tree directory name × (is_directory_node (tree.node object) ≡ false)
IsPlainChange tree (Move from old to new object) = CanMove tree from old to new object
IsPlainChange tree change = ⊤

-- At every other path a change of the upper layer leaves what is shown.
abbrev pub ShownElsewhereStays : Type 0
ShownElsewhereStays =
    (files : FileTree ℕ) (change : Change ℕ) (top : ℕ) (lowers : List (View ℕ))
    → IsTree files.tree → IsDirectory files.tree top → IsPlainChange files.tree change
    → (path : List (List ℕ)) → may_show (view_in files top) change path ≡ false
    → shown (view_after files change top ∷ lowers) path ≡ shown (view_in files top ∷ lowers) path

-- Shown at a new name is the new object, or the one that the name is given to, unless it is a whiteout.
abbrev pub NewNameIsShown : Type 0
NewNameIsShown =
    (files : FileTree ℕ) (top directory number : ℕ) (name : List ℕ) (node : Node ℕ)
    (lowers : List (View ℕ))
    → TakesName files.tree directory name → files.tree.node number ≡ None
    → entries_of node.content ≡ []
    → (path : List (List ℕ)) → names_entry (view_in files top) directory name path ≡ true
    → shown (view_after files (Make directory name number node) top ∷ lowers) path
    ≡ when (not (is_kind White (kind_of node.content))) (record { layer = 0; object = number })

abbrev pub LinkIsShown : Type 0
LinkIsShown =
    (files : FileTree ℕ) (top directory object : ℕ) (name : List ℕ) (lowers : List (View ℕ))
    → TakesName files.tree directory name → is_directory_node (files.tree.node object) ≡ false
    → (path : List (List ℕ)) → names_entry (view_in files top) directory name path ≡ true
    → shown (view_after files (AddName directory name object) top ∷ lowers) path
    ≡ when (not (is_kind_in White (files.tree.node object))) (record { layer = 0; object = object })

-- Shown at a removed name is what would be shown if the upper layer had nothing there,
abbrev pub RemovedShowsBelow : Type 0
RemovedShowsBelow =
    (files : FileTree ℕ) (top directory object : ℕ) (name : List ℕ) (lowers : List (View ℕ))
    → IsTree files.tree → IsDirectory files.tree top
    → entry_at files.tree directory name ≡ Some object
    → (path : List (List ℕ)) → names_entry (view_in files top) directory name path ≡ true
    → shown (view_after files (Remove directory name object) top ∷ lowers) path
    ≡ shown_in_lowers (view_in files top) lowers path

-- and so at a name from which an object was moved away.
abbrev pub MovedShowsBelow : Type 0
MovedShowsBelow =
    (files : FileTree ℕ) (top from to object : ℕ) (old new : List ℕ) (lowers : List (View ℕ))
    → IsTree files.tree → IsDirectory files.tree top → CanMove files.tree from old to new object
    → (path : List (List ℕ)) → names_entry (view_in files top) from old path ≡ true
    → goes_through (view_in files top) to new path ≡ false
    → shown (view_after files (Move from old to new object) top ∷ lowers) path
    ≡ shown_in_lowers (view_in files top) lowers path
