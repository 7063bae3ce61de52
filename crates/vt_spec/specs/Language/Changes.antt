-- What a call changes in a tree: entries, bytes and attributes. Each change is that of the system call named with it.
use Rattle.std.specs.Prelude.{Bool, List, None, Option, Some, [], filter, not, ℕ, ◌∷◌}
use Rattle.std.specs.Str.{bytes_eq}
use Rattle.vt_spec.specs.declared.attributes.Attr.{Attr}
use Rattle.vt_spec.specs.FileTree.{FileTree}
use Rattle.vt_spec.specs.Tree.{Content, Entries, Node, entries_in, entries_of, entry_named, node_with_bytes, node_with_entry, with_entries, with_node}
use Rattle.vt_spec.specs.Tree.Content.{Directory, Regular, Symlink, Whiteout}

-- a change of a tree: of entries, bytes or attributes
pub data Change (N : Type 0) : Type 0 where
  -- mkdir(2), open(2) with O_CREAT, symlink(2), mknod(2)
  Make : (directory : N) → (name : List ℕ) → (number : N) → (node : Node N) → Change N
  -- link(2)
  AddName : (directory : N) → (name : List ℕ) → (object : N) → Change N
  -- unlink(2), rmdir(2)
  Remove : (directory : N) → (name : List ℕ) → (object : N) → Change N
  -- rename(2)
  Move : (from : N) → (old : List ℕ) → (to : N) → (new : List ℕ) → (object : N) → Change N
  -- write(2), pwrite(2)
  SetBytes : (file : N) → (bytes : List ℕ) → Change N
  -- chmod(2), chown(2)
  SetAttr : (object : N) → (attr : Attr) → Change N
  -- the opaque mark: the kernel's overlayfs document, "whiteouts and opaque directories"
  SetMark : (directory : N) → (opaque : Bool) → Change N
  -- open(2) for writing: on an overlay what lies only in lower layers is copied up
  CopyUp : (object : N) → Change N

module _ {N : Type 0} where
  -- the entries without that of a name
  abbrev pub without_entry : List ℕ → Entries N → Entries N
  without_entry name entries = filter (λ entry. not (bytes_eq entry.0 name)) entries

  -- a directory without the entry of a name
  abbrev pub node_without_entry : List ℕ → Option (Node N) → Option (Node N)
  node_without_entry name None = None
  node_without_entry name (Some node) =
      Some (record {
        attr = node.attr;
        content = with_entries node.content
            (without_entry name (entries_of node.content));
      })

  -- a directory without entries
  abbrev pub node_without_entries : Option (Node N) → Option (Node N)
  node_without_entries None = None
  node_without_entries (Some node) = Some (record { attr = node.attr; content = with_entries node.content [] })

  -- an inode with other owner, group and mode
  abbrev pub node_with_attr : Attr → Option (Node N) → Option (Node N)
  node_with_attr attr None = None
  node_with_attr attr (Some node) = Some (record { attr = attr; content = node.content })

  -- a directory with or without the opaque mark
  abbrev pub content_with_mark : (opaque : Bool) → Content N → Content N
  content_with_mark opaque (Directory parent entries old) = Directory parent entries opaque
  content_with_mark opaque (Regular bytes) = Regular bytes
  content_with_mark opaque (Symlink text) = Symlink text
  content_with_mark opaque Whiteout = Whiteout

  -- an inode with that, if it is a directory
  abbrev pub node_with_mark : (opaque : Bool) → Option (Node N) → Option (Node N)
  node_with_mark opaque None = None
  node_with_mark opaque (Some node) =
      Some (record { attr = node.attr; content = content_with_mark opaque node.content })

  -- a directory knows its parent
  abbrev pub content_with_parent : N → Content N → Content N
  content_with_parent parent (Directory old entries opaque) = Directory parent entries opaque
  content_with_parent parent (Regular bytes) = Regular bytes
  content_with_parent parent (Symlink text) = Symlink text
  content_with_parent parent Whiteout = Whiteout

  -- an inode with that parent, if it is a directory
  abbrev pub node_with_parent : N → Option (Node N) → Option (Node N)
  node_with_parent parent None = None
  node_with_parent parent (Some node) =
      Some (record { attr = node.attr; content = content_with_parent parent node.content })

module _ {N : Type 0} (eq : N → N → Bool) where
  -- the tree with one inode changed
  abbrev pub changed_node : FileTree N → N → (Option (Node N) → Option (Node N)) → FileTree N
  changed_node files number change =
      record files { tree = with_node eq files.tree number (change (files.tree.node number)) }

  -- the tree with one name more
  abbrev pub with_name : FileTree N → N → List ℕ → N → FileTree N
  with_name files directory name number = changed_node files directory (node_with_entry name number)

  -- the tree with one name less
  abbrev pub without_name : FileTree N → N → List ℕ → FileTree N
  without_name files directory name = changed_node files directory (node_without_entry name)

  -- the tree with one inode more, which has no name yet
  abbrev pub with_inode : FileTree N → N → Node N → FileTree N
  with_inode files number node =
      record { tree = with_node eq files.tree number (Some node); numbers = number ∷ files.numbers }

  -- a directory that lost its name is its own parent
  abbrev pub without_parent : FileTree N → Option N → FileTree N
  without_parent files None = files
  without_parent files (Some object) = changed_node files object (node_with_parent object)

  -- an object leaves one name for another, in the place of what had that
  abbrev pub with_moved : FileTree N → N → List ℕ → N → List ℕ → N → FileTree N
  with_moved files from old to new object =
      changed_node (with_name
      (without_name (without_parent files (entry_named new (entries_in (files.tree.node to)))) from old)
      to new object) object (node_with_parent to)

  -- the tree after a change; on a plain tree nothing is copied up
  abbrev pub changed : FileTree N → Change N → FileTree N
  changed files (Make directory name number node) = with_name (with_inode files number node) directory name number
  changed files (AddName directory name object) = with_name files directory name object
  changed files (Remove directory name object) = without_parent (without_name files directory name) (Some object)
  changed files (Move from old to new object) = with_moved files from old to new object
  changed files (SetBytes file bytes) = changed_node files file (node_with_bytes bytes)
  changed files (SetAttr object attr) = changed_node files object (node_with_attr attr)
  changed files (SetMark directory opaque) = changed_node files directory (node_with_mark opaque)
  changed files (CopyUp object) = files
