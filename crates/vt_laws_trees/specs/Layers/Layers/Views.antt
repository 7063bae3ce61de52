-- What each change of a plain tree is on the view of a layer in it (`Machine/Views.antt`): which paths lead elsewhere
-- than they led, and which inodes are other than they were. What layers show is a function of their views alone.
use Rattle.std.specs.Prelude.{Bool, List, None, Some, [], false, if◌then◌else◌, nat_eq, not, true, ℕ, ⊤, ◌&&◌, ◌++◌, ◌∷◌, ◌≡◌, ◌≢◌}
use Rattle.std.specs.List.{list_any}
use Rattle.std.specs.Str.{bytes_eq}
use Rattle.vt_spec.specs.declared.attributes.Attr.{Attr}
use Rattle.vt_spec.specs.Language.Changes.{Change, changed, node_with_attr, node_with_mark}
use Rattle.vt_spec.specs.Language.Changes.Change.{AddName, CopyUp, Make, Move, Remove, SetAttr, SetBytes, SetMark}
use Rattle.vt_spec.specs.FileTree.{FileTree}
use Rattle.vt_spec.specs.Machine.Layers.{View, view_of}
use Rattle.vt_spec.specs.Lists.{without_last, prefixes, is_among, is_empty_list, last_or, same_option}
use Rattle.vt_spec.specs.Machine.Views.{node_led, shown}
use Rattle.vt_spec.specs.Tree.{Node, Tree, entries_in, entries_of, is_directory_node, node_with_bytes}
use Rattle.vt_spec.specs.TreeInvariant.{IsDirectory, IsTree, entry_at, led}
use Rattle.vt_laws_trees.specs.Layers.Layers.Mounted.{IsAlike}

-- the view of a layer whose directory is this one of a tree
abbrev pub view_in : FileTree ℕ → ℕ → View ℕ
view_in files top = view_of (record { tree = files.tree; directory = top })

abbrev pub view_after : FileTree ℕ → Change ℕ → ℕ → View ℕ
view_after files change top = view_in (changed nat_eq files change) top

-- the path is that of an entry: its last word is the name, and the words before it lead to the directory
abbrev pub names_entry : View ℕ → ℕ → List ℕ → List (List ℕ) → Bool
names_entry view directory name path =
    not (is_empty_list path)
    && (same_option nat_eq (view.leads (without_last path)) (Some directory) && bytes_eq (last_or [] path) name)

-- some prefix of the path, or the path itself, is that of an entry
abbrev pub goes_through : View ℕ → ℕ → List ℕ → List (List ℕ) → Bool
goes_through view directory name path = list_any (names_entry view directory name) (prefixes path)

-- such a path is a way to the directory, the name, and what follows
abbrev pub ThroughIsSplit : Type 0
ThroughIsSplit =
    (files : FileTree ℕ) (top directory : ℕ) (name : List ℕ) (path : List (List ℕ))
    → goes_through (view_in files top) directory name path ≡ true
    → (way rest : List (List ℕ)) × (way ++ name ∷ rest ≡ path)
    × ((view_in files top).leads way ≡ Some directory)

-- a name of a directory that is free, or of what has no names in it, as a whiteout
pub record TakesName (tree : Tree ℕ) (directory : ℕ) (name : List ℕ) : Type 0 where
  pub in_directory : IsDirectory tree directory
  pub bare : (replaced : ℕ) → entry_at tree directory name ≡ Some replaced
      → entries_in (tree.node replaced) ≡ []

-- A new object without names in it under such a name: the path to the name leads to it, and every other path
-- where it led.
abbrev pub MakeAddsPath : Type 0
MakeAddsPath =
    (files : FileTree ℕ) (top directory number : ℕ) (name : List ℕ) (node : Node ℕ)
    → TakesName files.tree directory name → files.tree.node number ≡ None
    → entries_of node.content ≡ []
    → (path : List (List ℕ))
    → (view_after files (Make directory name number node) top).leads path
    ≡ (if names_entry (view_in files top) directory name path then Some number
    else (view_in files top).leads path)

-- The new inode is as it was asked for, and all others are as they were but for names.
abbrev pub MakeAddsInode : Type 0
MakeAddsInode =
    (files : FileTree ℕ) (top directory number : ℕ) (name : List ℕ) (node : Node ℕ)
    → IsDirectory files.tree directory → files.tree.node number ≡ None
    → ((view_after files (Make directory name number node) top).node number ≡ Some node)
    × ((inode : ℕ) → inode ≢ number
    → IsAlike ((view_in files top).node inode)
    ((view_after files (Make directory name number node) top).node inode))

-- So the new inode is at its path, and at every other one what was there.
abbrev pub MakeIsSeen : Type 0
MakeIsSeen =
    (files : FileTree ℕ) (top directory number : ℕ) (name : List ℕ) (node : Node ℕ)
    → IsTree files.tree → IsDirectory files.tree top
    → TakesName files.tree directory name → files.tree.node number ≡ None
    → entries_of node.content ≡ []
    → (path : List (List ℕ))
    → IsAlike (if names_entry (view_in files top) directory name path then Some node
    else node_led (view_in files top) path)
    (node_led (view_after files (Make directory name number node) top) path)

-- A new object in the place of what has names in it, but none that lead back to the directory: what lay under that is
-- gone.
abbrev pub MakeEndsPaths : Type 0
MakeEndsPaths =
    (files : FileTree ℕ) (top directory number : ℕ) (name : List ℕ) (node : Node ℕ)
    → IsDirectory files.tree directory → files.tree.node number ≡ None
    → entries_of node.content ≡ []
    → ((replaced : ℕ) (names : List (List ℕ))
    → entry_at files.tree directory name ≡ Some replaced
    → led files.tree replaced names ≢ Some directory)
    → (path : List (List ℕ))
    → (view_after files (Make directory name number node) top).leads path
    ≡ (if names_entry (view_in files top) directory name path then Some number
    else if goes_through (view_in files top) directory name path then None
    else (view_in files top).leads path)

-- A further name of an object that is no directory.
abbrev pub AddNameAddsPath : Type 0
AddNameAddsPath =
    (files : FileTree ℕ) (top directory object : ℕ) (name : List ℕ)
    → TakesName files.tree directory name → is_directory_node (files.tree.node object) ≡ false
    → (path : List (List ℕ))
    → (view_after files (AddName directory name object) top).leads path
    ≡ (if names_entry (view_in files top) directory name path then Some object
    else (view_in files top).leads path)

abbrev pub AddNameIsSeen : Type 0
AddNameIsSeen =
    (files : FileTree ℕ) (top directory object : ℕ) (name : List ℕ)
    → TakesName files.tree directory name → is_directory_node (files.tree.node object) ≡ false
    → (path : List (List ℕ))
    → IsAlike (if names_entry (view_in files top) directory name path then files.tree.node object
    else node_led (view_in files top) path)
    (node_led (view_after files (AddName directory name object) top) path)

-- A name that is taken from an object without names in it.
abbrev pub RemoveTakesPath : Type 0
RemoveTakesPath =
    (files : FileTree ℕ) (top directory object : ℕ) (name : List ℕ)
    → entry_at files.tree directory name ≡ Some object → entries_in (files.tree.node object) ≡ []
    → (path : List (List ℕ))
    → (view_after files (Remove directory name object) top).leads path
    ≡ (if names_entry (view_in files top) directory name path then None
    else (view_in files top).leads path)

abbrev pub RemoveIsSeen : Type 0
RemoveIsSeen =
    (files : FileTree ℕ) (top directory object : ℕ) (name : List ℕ)
    → entry_at files.tree directory name ≡ Some object → entries_in (files.tree.node object) ≡ []
    → (path : List (List ℕ))
    → IsAlike (if names_entry (view_in files top) directory name path then None
    else node_led (view_in files top) path)
    (node_led (view_after files (Remove directory name object) top) path)

-- A name that is taken, whatever it led to: what lay under that is gone too.
abbrev pub RemoveEndsPaths : Type 0
RemoveEndsPaths =
    (files : FileTree ℕ) (top directory object : ℕ) (name : List ℕ) (path : List (List ℕ))
    → (view_after files (Remove directory name object) top).leads path
    ≡ (if goes_through (view_in files top) directory name path then None
    else (view_in files top).leads path)

-- changes that give, take or move a name and make nothing
abbrev pub changes_names_alone : Change ℕ → Bool
changes_names_alone (AddName directory name object) = true
changes_names_alone (Remove directory name object) = true
changes_names_alone (Move from old to new object) = true
changes_names_alone (CopyUp object) = true
changes_names_alone change = false

-- They leave all inodes as they were but for names.
abbrev pub NamesLeaveInodes : Type 0
NamesLeaveInodes =
    (files : FileTree ℕ) (change : Change ℕ) (top inode : ℕ)
    → changes_names_alone change ≡ true
    → IsAlike ((view_in files top).node inode) ((view_after files change top).node inode)

-- A move: the object has the old name, the new name is of a directory that does not lie under the object, and what
-- had the new name has no names in it.
pub record CanMove (tree : Tree ℕ) (from : ℕ) (old : List ℕ) (to : ℕ) (new : List ℕ)
    (object : ℕ) : Type 0 where
  pub named : entry_at tree from old ≡ Some object
  pub in_directory : IsDirectory tree to
  pub not_under : (names : List (List ℕ)) → led tree object names ≢ Some to
  pub replaced_empty : (replaced : ℕ) → entry_at tree to new ≡ Some replaced
      → entries_in (tree.node replaced) ≡ []

-- What follows the new name leads on from the object as it did before it was moved, from wherever,
abbrev pub MovedLeadsOn : Type 0
MovedLeadsOn =
    (files : FileTree ℕ) (top from to object : ℕ) (old new : List ℕ)
    → IsTree files.tree → CanMove files.tree from old to new object
    → (way rest : List (List ℕ)) → (view_in files top).leads way ≡ Some to
    → (view_after files (Move from old to new object) top).leads (way ++ new ∷ rest)
    ≡ (view_in files object).leads rest

-- so a path through the new name leads where the one through the old name led.
abbrev pub NewLeadsAsOld : Type 0
NewLeadsAsOld =
    (files : FileTree ℕ) (top from to object : ℕ) (old new : List ℕ)
    → IsTree files.tree → CanMove files.tree from old to new object
    → (old_way new_way rest : List (List ℕ))
    → (view_in files top).leads old_way ≡ Some from → (view_in files top).leads new_way ≡ Some to
    → (view_after files (Move from old to new object) top).leads (new_way ++ new ∷ rest)
    ≡ (view_in files top).leads (old_way ++ old ∷ rest)

-- Of the other paths those through the old name lead nowhere, and the rest where they led.
abbrev pub OldLeadsNowhere : Type 0
OldLeadsNowhere =
    (files : FileTree ℕ) (top from to object : ℕ) (old new : List ℕ)
    → CanMove files.tree from old to new object
    → (path : List (List ℕ)) → goes_through (view_in files top) to new path ≡ false
    → (view_after files (Move from old to new object) top).leads path
    ≡ (if goes_through (view_in files top) from old path then None
    else (view_in files top).leads path)

-- Bytes, attributes and marks move no path, and change the one inode.
abbrev pub BytesChangeOneInode : Type 0
BytesChangeOneInode =
    (files : FileTree ℕ) (top file : ℕ) (bytes : List ℕ)
    → ((path : List (List ℕ))
    → (view_after files (SetBytes file bytes) top).leads path ≡ (view_in files top).leads path)
    × ((inode : ℕ) → (view_after files (SetBytes file bytes) top).node inode
    ≡ (if nat_eq inode file then node_with_bytes bytes ((view_in files top).node file)
    else (view_in files top).node inode))

abbrev pub AttrChangesOneInode : Type 0
AttrChangesOneInode =
    (files : FileTree ℕ) (top object : ℕ) (attr : Attr)
    → ((path : List (List ℕ))
    → (view_after files (SetAttr object attr) top).leads path ≡ (view_in files top).leads path)
    × ((inode : ℕ) → (view_after files (SetAttr object attr) top).node inode
    ≡ (if nat_eq inode object then node_with_attr attr ((view_in files top).node object)
    else (view_in files top).node inode))

abbrev pub MarkChangesOneInode : Type 0
MarkChangesOneInode =
    (files : FileTree ℕ) (top directory : ℕ) (opaque : Bool)
    → ((path : List (List ℕ))
    → (view_after files (SetMark directory opaque) top).leads path ≡ (view_in files top).leads path)
    × ((inode : ℕ) → (view_after files (SetMark directory opaque) top).node inode
    ≡ (if nat_eq inode directory then node_with_mark opaque ((view_in files top).node directory)
    else (view_in files top).node inode))

-- the inodes that were there and get other names, bytes, attributes or mark
abbrev pub old_inodes_changed : Change ℕ → List ℕ
old_inodes_changed (Make directory name number node) = directory ∷ []
old_inodes_changed (AddName directory name object) = directory ∷ []
old_inodes_changed (Remove directory name object) = directory ∷ []
old_inodes_changed (Move from old to new object) = from ∷ to ∷ []
old_inodes_changed (SetBytes file bytes) = file ∷ []
old_inodes_changed (SetAttr object attr) = object ∷ []
old_inodes_changed (SetMark directory opaque) = directory ∷ []
old_inodes_changed (CopyUp object) = []

-- what is made has a new number
abbrev pub MakesWithNewNumber : Tree ℕ → Change ℕ → Type 0
MakesWithNewNumber tree (Make directory name number node) = tree.node number ≡ None
MakesWithNewNumber tree change = ⊤

-- A change elsewhere in the tree leaves the view: no path leads to an inode that it changes.
abbrev pub ElsewhereKeepsView : Type 0
ElsewhereKeepsView =
    (files : FileTree ℕ) (change : Change ℕ) (top : ℕ)
    → IsTree files.tree → IsDirectory files.tree top → MakesWithNewNumber files.tree change
    → ((way : List (List ℕ)) (inode : ℕ) → (view_in files top).leads way ≡ Some inode
    → is_among nat_eq inode (old_inodes_changed change) ≡ false)
    → (path : List (List ℕ))
    → ((view_after files change top).leads path ≡ (view_in files top).leads path)
    × IsAlike (node_led (view_in files top) path) (node_led (view_after files change top) path)

-- views that lead to the same numbers, and to inodes that are alike
pub record LeadAlike (one other : View ℕ) : Type 0 where
  pub leads : (path : List (List ℕ)) → other.leads path ≡ one.leads path
  pub inodes : (path : List (List ℕ)) → IsAlike (node_led one path) (node_led other path)

abbrev pub AllLeadAlike : List (View ℕ) → List (View ℕ) → Type 0
AllLeadAlike [] [] = ⊤
AllLeadAlike [] (other ∷ others) = ⊥
AllLeadAlike (view ∷ views) [] = ⊥
AllLeadAlike (view ∷ views) (other ∷ others) = LeadAlike view other × AllLeadAlike views others

-- They show the same object of the same layer at every path.
abbrev pub ShownByViews : Type 0
ShownByViews =
    (views others : List (View ℕ)) → AllLeadAlike views others → (path : List (List ℕ))
    → shown others path ≡ shown views path
