-- A tree of inodes: path_resolution(7), inode(7). Numbers of inodes are only ever compared for equality, so
-- the definitions are generic in them.
use Rattle.std.specs.Prelude.{ℕ, Bool, false, List, [], map, if◌then◌else◌, Option, Some, None}
use Rattle.std.specs.Ordering.{nat_cmp}
use Rattle.std.specs.Cmp.Lexicographic.{slice_cmp}
use Rattle.std.specs.FinMap.Entries.{find, put}
use Rattle.vt_spec.specs.declared.attributes.Kind.{Kind}
use Rattle.vt_spec.specs.declared.attributes.Kind.TheVariants.{Dir, File, Symlink as SymlinkKind, White}
use Rattle.vt_spec.specs.declared.attributes.Attr.{Attr}
use Rattle.vt_spec.specs.Rights.{is_directory}

-- the entries of a directory, in the order of their names' bytes: readdir(3)
abbrev pub Entries : Type 0 → Type 0
Entries N = List (List ℕ × N)

-- What an inode holds. A directory knows its parent, the root itself as its own; its mark says that it is
-- opaque in an overlay. A whiteout is the character device 0/0 (the kernel's overlayfs document, "whiteouts and opaque
-- directories").
pub data Content (N : Type 0) : Type 0 where
  Directory : (parent : N) → (entries : Entries N) → (opaque : Bool) → Content N
  Regular : (bytes : List ℕ) → Content N
  Symlink : (text : List ℕ) → Content N
  Whiteout : Content N

-- an inode: its attributes, and what it holds: inode(7)
pub record Node (N : Type 0) : Type 0 where
  pub attr : Attr
  pub content : Content N

-- a finite map from numbers to inodes, and the number of its root directory
pub record Tree (N : Type 0) : Type 0 where
  pub root : N
  pub node : N → Option (Node N)

-- names are ordered by their bytes
abbrev pub name_cmp : List ℕ → List ℕ → Rattle.std.specs.declared.cmp.Ordering.Ordering
name_cmp = slice_cmp nat_cmp

module _ {N : Type 0} where
  -- the kind of an inode: inode(7)
  abbrev pub kind_of : Content N → Kind
  kind_of (Directory parent entries opaque) = Dir
  kind_of (Regular bytes) = File
  kind_of (Symlink text) = SymlinkKind
  kind_of Whiteout = White

  -- the number that a name leads to
  abbrev pub entry_named : List ℕ → Entries N → Option N
  entry_named name entries = find name_cmp name entries

  -- the entries with this name leading to this number, in its place
  abbrev pub with_entry : List ℕ → N → Entries N → Entries N
  with_entry name number entries = put name_cmp name number entries

  -- the entries of a directory; of anything else none
  abbrev pub entries_of : Content N → Entries N
  entries_of (Directory parent entries opaque) = entries
  entries_of (Regular bytes) = []
  entries_of (Symlink text) = []
  entries_of Whiteout = []

  -- the bytes of a file, or the text of a symlink; of anything else none
  abbrev pub bytes_of : Content N → List ℕ
  bytes_of (Directory parent entries opaque) = []
  bytes_of (Regular bytes) = bytes
  bytes_of (Symlink text) = text
  bytes_of Whiteout = []

  -- a directory with the entries in place of its own
  abbrev pub with_entries : Content N → Entries N → Content N
  with_entries (Directory parent old opaque) entries = Directory parent entries opaque
  with_entries (Regular bytes) entries = Regular bytes
  with_entries (Symlink text) entries = Symlink text
  with_entries Whiteout entries = Whiteout

  -- a file with the bytes in place of its own
  abbrev pub with_bytes : Content N → List ℕ → Content N
  with_bytes (Directory parent entries opaque) bytes = Directory parent entries opaque
  with_bytes (Regular old) bytes = Regular bytes
  with_bytes (Symlink text) bytes = Symlink text
  with_bytes Whiteout bytes = Whiteout

  -- a new, empty directory with this parent
  abbrev pub new_directory : N → Content N
  new_directory parent = Directory parent [] false

  -- an inode that exists and is a directory
  abbrev pub is_directory_node : Option (Node N) → Bool
  is_directory_node None = false
  is_directory_node (Some node) = is_directory (kind_of node.content)

  -- its entries; of a missing inode none
  abbrev pub entries_in : Option (Node N) → Entries N
  entries_in None = []
  entries_in (Some node) = entries_of node.content

  -- its bytes or its text; of a missing inode none
  abbrev pub bytes_in : Option (Node N) → List ℕ
  bytes_in None = []
  bytes_in (Some node) = bytes_of node.content

  -- the names of a directory, in the order of their bytes
  abbrev pub names_in : Option (Node N) → List (List ℕ)
  names_in node = map (λ e. e.0) (entries_in node)

  -- the parent of a directory; of anything else the number given
  abbrev pub parent_of : N → Content N → N
  parent_of own (Directory parent entries opaque) = parent
  parent_of own (Regular bytes) = own
  parent_of own (Symlink text) = own
  parent_of own Whiteout = own

  -- the parent of a directory; of anything else, and of a missing inode, the number given
  abbrev pub parent_in : N → Option (Node N) → N
  parent_in own None = own
  parent_in own (Some node) = parent_of own node.content

  -- a directory with one entry more
  abbrev pub node_with_entry : List ℕ → N → Option (Node N) → Option (Node N)
  node_with_entry name number None = None
  node_with_entry name number (Some node) =
      Some (record {
        attr = node.attr;
        content = with_entries node.content
            (with_entry name number (entries_of node.content));
      })

  -- a file with other bytes
  abbrev pub node_with_bytes : List ℕ → Option (Node N) → Option (Node N)
  node_with_bytes bytes None = None
  node_with_bytes bytes (Some node) = Some (record { attr = node.attr; content = with_bytes node.content bytes })

module _ {N : Type 0} (eq : N → N → Bool) where
  -- the tree with this at a number
  abbrev pub with_node : Tree N → N → Option (Node N) → Tree N
  with_node tree number node = record {
    root = tree.root;
    node = λ other. if eq other number then node
        else tree.node other;
  }

  -- the tree with a new object under a name of a directory: mkdir(2), open(2) with O_CREAT
  abbrev pub with_object : Tree N → N → List ℕ → N → Node N → Tree N
  with_object tree directory name number node =
      with_node (with_node tree directory (node_with_entry name number (tree.node directory))) number (Some node)

  -- the tree with a file's whole content set: write(2) after open(2) with O_TRUNC
  abbrev pub with_file_bytes : Tree N → N → List ℕ → Tree N
  with_file_bytes tree file bytes = with_node tree file (node_with_bytes bytes (tree.node file))

-- a tree of one empty directory
abbrev pub tree_of_root : {N : Type 0} → (N → N → Bool) → N → Attr → Tree N
tree_of_root eq root attr =
    record {
      root = root;
      node = λ other. if eq other root
          then Some (record { attr = attr; content = new_directory root }) else None;
    }
