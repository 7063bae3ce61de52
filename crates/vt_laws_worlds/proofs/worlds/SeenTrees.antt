-- A change of a tree keeps each inode that is there, and its kind; so do changes of filesystems in a world without
-- overlays.
use Rattle.std.proofs.Common.{arith, ◌≡◌, refl, sym, ◌∙◌, ◌⊎◌, inr, ℕ, nat_eq, eqb-true, eq-eqb, Bool, true, false, true≢false, flat_map, List, [], ◌∷◌, ◌++◌, Option, Some, None, map, All}
use Rattle.vt_spec.proofs.Common.{AddName, Among, Change, Content, CopyUp, Directory, FileTree, Filesystem, Fresh, ListsNumbers, Location, Make, Move, Node, Regular, Remove, Serves, SetAttr, SetBytes, SetMark, Symlink, Whiteout, World, all_from_among, among-append_left, among-append_right, among-flat_map, among_from_all, among_numbers, changed, common_steps, entries_in, entries_of, entry_named, filesystem_at, is_among, is_overlay, kind_of, mount_at, no_filesystem, node_with_attr, node_with_bytes, node_with_entry, node_with_mark, node_with_parent, node_without_entry, none_among, none_from_not_some, numbers_in_use, replaced_if_numbered, used_by_filesystem, used_by_mount, with_change, with_entries, with_entry, with_files, with_filesystem, with_inode, with_name, without_entry, without_name, without_parent, ⊤}
use Rattle.vt_spec.specs.declared.attributes.Attr.{Attr}
use Rattle.vt_laws_trees.proofs.trees.ChangesNodes.{part_stays}
use Rattle.vt_laws_trees.proofs.trees.TreesOfWorlds.{number_numbered, numbered, numbered_anyhow}
use Rattle.vt_laws_worlds.specs.Worlds.Kept.{IsPlain}
use Rattle.vt_laws_worlds.proofs.worlds.Seen.{KeepsKind, kind_seen, same_kind}
use Rattle.vt_spec.proofs.Worlds.{number-replaced_if_numbered}
use Rattle.vt_laws_trees.specs.Trees.Settling.{inode_in}

-- Changes of an inode
pub kind-with_entries : (content : Content ℕ) (entries : List (List ℕ × ℕ))
    → kind_of (with_entries content entries) ≡ kind_of content
kind-with_entries (Directory parent old opaque) entries = refl
kind-with_entries (Regular bytes) entries = refl
kind-with_entries (Symlink text) entries = refl
kind-with_entries Whiteout entries = refl

kind-with_entry : (name : List ℕ) (number : ℕ) (o : Option (Node ℕ))
    → kind_seen (node_with_entry name number o) ≡ kind_seen o
kind-with_entry name number None = refl
kind-with_entry name number (Some node) = cc (kind-with_entries node.content
    (with_entry name number (entries_of node.content)))

kind-without_entry : (name : List ℕ) (o : Option (Node ℕ)) → kind_seen (node_without_entry name o) ≡ kind_seen o
kind-without_entry name None = refl
kind-without_entry name (Some node) = cc (kind-with_entries node.content (without_entry name (entries_of node.content)))

pub kind-with_bytes : (bytes : List ℕ) (o : Option (Node ℕ)) → kind_seen (node_with_bytes bytes o) ≡ kind_seen o
kind-with_bytes bytes None = refl
kind-with_bytes bytes (Some node) = grind (arith, common_steps)

pub kind-with_attr : (attr : Attr) (o : Option (Node ℕ)) → kind_seen (node_with_attr attr o) ≡ kind_seen o
kind-with_attr attr None = refl
kind-with_attr attr (Some node) = refl

pub kind-with_mark : (opaque : Bool) (o : Option (Node ℕ)) → kind_seen (node_with_mark opaque o) ≡ kind_seen o
kind-with_mark opaque None = refl
kind-with_mark opaque (Some node) = grind (arith, common_steps)

pub kind-with_parent : (parent : ℕ) (o : Option (Node ℕ)) → kind_seen (node_with_parent parent o) ≡ kind_seen o
kind-with_parent parent None = refl
kind-with_parent parent (Some node) = grind (arith, common_steps)

-- Changes of a tree
abbrev pub SameKinds : FileTree ℕ → FileTree ℕ → Type 0
SameKinds before after = (k : ℕ) → kind_seen (after.tree.node k) ≡ kind_seen (before.tree.node k)

pub kinds-with_name : (files : FileTree ℕ) (directory : ℕ) (name : List ℕ) (number : ℕ)
    → SameKinds files (with_name nat_eq files directory name number)
kinds-with_name files directory name number = part_stays files directory _ _ (kind-with_entry name number)

pub kinds-without_name : (files : FileTree ℕ) (directory : ℕ) (name : List ℕ)
    → SameKinds files (without_name nat_eq files directory name)
kinds-without_name files directory name = part_stays files directory _ _ (kind-without_entry name)

pub kinds-without_parent : (files : FileTree ℕ) (object : Option ℕ)
    → SameKinds files (without_parent nat_eq files object)
kinds-without_parent files None k = refl
kinds-without_parent files (Some object) k = part_stays files object _ _ (kind-with_parent object) k

-- a number that is made is a new one
abbrev pub MakesNew : FileTree ℕ → Change ℕ → Type 0
MakesNew files (Make directory name number node) = files.tree.node number ≡ None
MakesNew files (AddName directory name object) = ⊤
MakesNew files (Remove directory name object) = ⊤
MakesNew files (Move from old to new object) = ⊤
MakesNew files (SetBytes file bytes) = ⊤
MakesNew files (SetAttr object attr) = ⊤
MakesNew files (SetMark directory opaque) = ⊤
MakesNew files (CopyUp object) = ⊤

pub keeps-with_inode : (files : FileTree ℕ) (number : ℕ) (node : Node ℕ) → files.tree.node number ≡ None
    → (k : ℕ) → KeepsKind (files.tree.node k) ((with_inode nat_eq files number node).tree.node k)
keeps-with_inode files number node none k test e = grind (arith, common_steps, true≢false, eqb-true)

pub changes_keep_kinds : (files : FileTree ℕ) (change : Change ℕ) → MakesNew files change
    → (k : ℕ) → KeepsKind (files.tree.node k) ((changed nat_eq files change).tree.node k)
changes_keep_kinds files (Make directory name number node) new k = λ test e. cc (
  kinds-with_name (with_inode nat_eq files number node) directory name number k,
  keeps-with_inode files number node new k test e,
)
changes_keep_kinds files (AddName directory name object) new k =
    same_kind _ _ (kinds-with_name files directory name object k)
changes_keep_kinds files (Remove directory name object) new k = same_kind _ _
    (kinds-without_parent (without_name nat_eq files directory name) (Some object) k
    ∙ kinds-without_name files directory name k)
changes_keep_kinds files (Move from old to new_name object) new k =
    let first = without_parent nat_eq files (entry_named new_name (entries_in (files.tree.node to))) in
    let second = without_name nat_eq first from old in
    let third = with_name nat_eq second to new_name object in
    same_kind _ _ (part_stays third object _ _ (kind-with_parent to) k
    ∙ kinds-with_name second to new_name object k ∙ kinds-without_name first from old k
    ∙ kinds-without_parent files (entry_named new_name (entries_in (files.tree.node to))) k)
changes_keep_kinds files (SetBytes file bytes) new k =
    same_kind _ _ (part_stays files file _ _ (kind-with_bytes bytes) k)
changes_keep_kinds files (SetAttr object attr) new k =
    same_kind _ _ (part_stays files object _ _ (kind-with_attr attr) k)
changes_keep_kinds files (SetMark directory opaque) new k = same_kind _ _
    (part_stays files directory _ _ (kind-with_mark opaque) k)
changes_keep_kinds files (CopyUp object) new k = λ test e. e

-- the inode that is made
pub made_kind : (files : FileTree ℕ) (directory : ℕ) (name : List ℕ) (number : ℕ) (node : Node ℕ)
    → kind_seen ((changed nat_eq files (Make directory name number node)).tree.node number) ≡ Some
    (kind_of node.content)
made_kind files directory name number node =
    cc (kinds-with_name (with_inode nat_eq files number node) directory name number number, eq-eqb number number refl)

-- A filesystem in the place of the one with its number
module _ (new : Filesystem ℕ) where
  abbrev replaced : List (Filesystem ℕ) → List (Filesystem ℕ)
  replaced list = map (replaced_if_numbered nat_eq new) list

  pub numbers-replaced : (list : List (Filesystem ℕ))
      → map (λ (f : Filesystem ℕ). f.number) (replaced list) ≡ map (λ (f : Filesystem ℕ). f.number) list
  numbers-replaced [] = refl
  numbers-replaced (first ∷ rest) = cc (number-replaced_if_numbered new first, numbers-replaced rest)

  pub found_other : (list : List (Filesystem ℕ)) (number : ℕ) → nat_eq new.number number ≡ false
      → numbered number (replaced list) ≡ numbered number list
  found_other [] number other = refl
  found_other (first ∷ rest) number other =
      grind (arith, common_steps, number-replaced_if_numbered new first, found_other rest number other, eqb-true)

  -- it is found, or none was there
  pub found_new : (list : List (Filesystem ℕ)) → (numbered new.number (replaced list) ≡ new)
      ⊎ ((numbered new.number (replaced list) ≡ no_filesystem new.number)
      × (numbered new.number list ≡ no_filesystem new.number))
  found_new [] = inr (refl, refl)
  found_new (first ∷ rest) = grind (arith, common_steps, found_new rest, eq-eqb)

  pub replaced_keeps : (list : List (Filesystem ℕ))
      → ((k : ℕ) → KeepsKind ((numbered new.number list).files.tree.node k) (new.files.tree.node k))
      → (number k : ℕ) → KeepsKind ((numbered number list).files.tree.node k)
      ((numbered number (replaced list)).files.tree.node k)
  replaced_keeps list keeps number k test e = grind (arith, common_steps, found_new, eqb-true, found_other)

-- A change at a location
module _ (fresh : Fresh ℕ) (world : World ℕ) (plain : IsPlain world) (location : Location ℕ) (change : Change ℕ) where
  abbrev old : Filesystem ℕ
  old = filesystem_at nat_eq world location

  abbrev pub changed_one : Filesystem ℕ
  changed_one = with_files old (changed nat_eq old.files change)

  pub change_of_plain : with_change nat_eq fresh world location change ≡ with_filesystem nat_eq world changed_one
  change_of_plain = cc (none_from_not_some old.overlay (numbered_anyhow (λ filesystem. is_overlay filesystem ≡ false)
      (mount_at nat_eq world location).filesystem world.filesystems plain refl))

  pub old_number : old.number ≡ (mount_at nat_eq world location).filesystem
  old_number = number_numbered (mount_at nat_eq world location).filesystem world.filesystems

-- A number that is handed in is that of no inode
pub unused_number : (world : World ℕ) (fresh : Fresh ℕ) → Serves nat_eq world fresh → (k number : ℕ)
    → Among number (numbers_in_use world) → nat_eq (fresh k) number ≡ false
unused_number world fresh serves k number m = none_among _ _ (serves.unused k) number m

pub unused_by_filesystem : (world : World ℕ) (fresh : Fresh ℕ) → Serves nat_eq world fresh → (k : ℕ)
    → (filesystem : Filesystem ℕ) → Among filesystem world.filesystems → (number : ℕ)
    → Among number (used_by_filesystem filesystem) → nat_eq (fresh k) number ≡ false
unused_by_filesystem world fresh serves k filesystem m number n =
    let mounts = flat_map used_by_mount world.mounts in
    let filesystems = flat_map used_by_filesystem world.filesystems in
    unused_number world fresh serves k number
    (among-append_left (mounts ++ filesystems) (map (λ namespace. namespace.number) world.namespaces) number
    (among-append_right mounts filesystems number
    (among-flat_map used_by_filesystem world.filesystems filesystem number m n)))

pub unused_inode : (world : World ℕ) (fresh : Fresh ℕ) → Serves nat_eq world fresh
    → All (λ filesystem. ListsNumbers nat_eq filesystem.files) world.filesystems
    → (k filesystem : ℕ) → inode_in world filesystem (fresh k) ≡ None
unused_inode world fresh serves lists k filesystem =
    numbered_anyhow (λ (f : Filesystem ℕ). f.files.tree.node (fresh k) ≡ None) filesystem world.filesystems
    (all_from_among (λ (f : Filesystem ℕ). f.files.tree.node (fresh k) ≡ None) world.filesystems (λ f m.
    none_from_not_some (f.files.tree.node (fresh k))
    (sym (among_from_all (λ (g : Filesystem ℕ). ListsNumbers nat_eq g.files) world.filesystems lists f m (fresh k))
    ∙ by f m (is_among nat_eq (fresh k) f.files.numbers) refl))) refl
  where
    by : (f : Filesystem ℕ) → Among f world.filesystems → (b : Bool) → is_among nat_eq (fresh k) f.files.numbers ≡ b
        → b ≡ false
    by f m false e = refl
    by f m true e = sym (eq-eqb (fresh k) (fresh k) refl)
        ∙ unused_by_filesystem world fresh serves k f m (fresh k) (inr (among_numbers f.files.numbers (fresh k) e))
