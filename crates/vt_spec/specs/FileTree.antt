-- A tree with the numbers of its inodes, and where they stand in it: path_resolution(7).
use Rattle.std.specs.Prelude.{Bool, List, None, Option, Some, [], false, filter_map, find, if◌then◌else◌, is_some, length, map, not, option_map, reverse, true, unwrap_or, ℕ, ◌&&◌, ◌||◌}
use Rattle.std.specs.List.{list_any}
use Rattle.vt_spec.specs.declared.attributes.Attr.{Attr}
use Rattle.vt_spec.specs.declared.attributes.Kind.{Kind}
use Rattle.vt_spec.specs.declared.attributes.Kind.TheVariants.{Dir, File, Symlink as SymlinkKind, White}
use Rattle.vt_spec.specs.Lists.{before_first, chain, first_of_list, is_among, when}
use Rattle.vt_spec.specs.Tree.{Content, Node, Tree, bytes_in, entries_in, is_directory_node, kind_of, parent_in}
use Rattle.vt_spec.specs.Tree.Content.{Directory, Regular, Symlink, Whiteout}

-- a tree, and the numbers of the inodes that are there
pub record FileTree (N : Type 0) : Type 0 where
  pub tree : Tree N
  pub numbers : List N

-- the attributes of an inode that does not exist
abbrev pub no_attr : Attr
no_attr = record { uid = 0; gid = 0; mode = 0 }

-- two kinds are the same
abbrev pub is_kind : Kind → Kind → Bool
is_kind Dir Dir = true
is_kind File File = true
is_kind SymlinkKind SymlinkKind = true
is_kind White White = true
is_kind wanted found = false

module _ {N : Type 0} where
  -- Looks at an inode that may be missing

  -- owner, group and mode: inode(7)
  abbrev pub attr_in : Option (Node N) → Attr
  attr_in None = no_attr
  attr_in (Some node) = node.attr

  -- its kind: inode(7)
  abbrev pub kind_in : Option (Node N) → Kind
  kind_in None = White
  kind_in (Some node) = kind_of node.content

  -- it exists and is of this kind
  abbrev pub is_kind_in : Kind → Option (Node N) → Bool
  is_kind_in kind None = false
  is_kind_in kind (Some node) = is_kind kind (kind_of node.content)

  -- the opaque mark of a directory: overlayfs, "whiteouts and opaque directories"
  abbrev pub opaque_of : Content N → Bool
  opaque_of (Directory parent entries opaque) = opaque
  opaque_of (Regular bytes) = false
  opaque_of (Symlink text) = false
  opaque_of Whiteout = false

  -- the directory is marked opaque
  abbrev pub is_opaque_in : Option (Node N) → Bool
  is_opaque_in None = false
  is_opaque_in (Some node) = opaque_of node.content

  -- the text of a symlink: readlink(2)
  abbrev pub symlink_text : Option (Node N) → Option (List ℕ)
  symlink_text node = when (is_kind_in SymlinkKind node) (bytes_in node)

  -- the numbers that a directory's entries lead to
  abbrev pub targets_in : Option (Node N) → List N
  targets_in node = map (λ entry. entry.1) (entries_in node)

module _ {N : Type 0} (eq : N → N → Bool) where
  -- some entry of a directory leads to the object
  abbrev pub has_entry_to : Tree N → N → N → Bool
  has_entry_to tree directory object = is_among eq object (targets_in (tree.node directory))

  -- the parent of a directory that has a name
  abbrev pub named_parent : Tree N → N → Option N
  named_parent tree directory =
      if eq directory tree.root then None
      else when (has_entry_to tree (parent_in directory (tree.node directory)) directory)
      (parent_in directory (tree.node directory))

  -- a directory other than the root without a name: rmdir(2) while it is in use
  abbrev pub is_removed : Tree N → N → Bool
  is_removed tree directory = not (eq directory tree.root || is_some (named_parent tree directory))

  -- a directory and the directories above it, upwards
  abbrev pub ancestors : FileTree N → N → List N
  ancestors files directory = chain (length files.numbers) (named_parent files.tree) directory

  -- a directory is another one, or lies under it
  abbrev pub is_directory_under : FileTree N → N → N → Bool
  is_directory_under files top directory = is_among eq top (ancestors files directory)

  -- a file, symlink or whiteout has a name at or under a directory
  abbrev pub is_file_under : FileTree N → N → N → Bool
  is_file_under files top file =
      list_any (λ directory. has_entry_to files.tree directory file
      && is_directory_under files top directory) files.numbers

  -- an inode is a directory, or has a name at or under it
  abbrev pub is_under : FileTree N → N → N → Bool
  is_under files top object =
      if is_directory_node (files.tree.node object) then is_directory_under files top object
      else is_file_under files top object

  -- a name of an object, and the directory that has it
  abbrev pub name_in : FileTree N → N → N → Option (N × List ℕ)
  name_in files object directory =
      option_map (λ entry. (directory, entry.0))
      (find (λ entry. eq object entry.1) (entries_in (files.tree.node directory)))

  -- some name of an object, and the directory that has it, if it has one
  abbrev pub a_name : FileTree N → N → Option (N × List ℕ)
  a_name files object = first_of_list (filter_map (name_in files object) files.numbers)

  -- the name of a directory in its parent
  abbrev pub own_name : FileTree N → N → List ℕ
  own_name files directory =
      unwrap_or (option_map (λ name. name.1)
      (name_in files directory (parent_in directory (files.tree.node directory)))) []

  -- the names that lead from a directory down to another, if that one lies under it
  abbrev pub path_down : FileTree N → N → N → Option (List (List ℕ))
  path_down files top directory =
      when (is_directory_under files top directory)
      (reverse (map (own_name files) (before_first (eq top) (ancestors files directory))))
