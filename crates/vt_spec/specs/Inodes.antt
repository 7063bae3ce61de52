-- A tree whose inodes count their uses: inode(7), "Hard link count", and unlink(2) on a file that is still open.
use Rattle.std.specs.Prelude.{Bool, List, None, Option, Some, ℕ, option_map, if◌then◌else◌, nat_le, ◌+◌, ◌-◌, is_some}
use Rattle.vt_spec.specs.declared.attributes.Attr.{Attr}
use Rattle.vt_spec.specs.Language.Changes.{Change, node_with_attr, node_with_mark, node_with_parent, node_without_entry}
use Rattle.vt_spec.specs.Language.Changes.Change.{AddName, CopyUp, Make, Move, Remove, SetAttr, SetBytes, SetMark}
use Rattle.vt_spec.specs.Lists.{chain, is_among}
use Rattle.vt_spec.specs.Machine.Renaming.{renamed_node}
use Rattle.vt_spec.specs.Tree.{Node, Tree, entries_in, entry_named, new_directory, node_with_bytes, node_with_entry, parent_in}

-- an inode, and how many names lead to it and descriptors are on it; the root counts once more
pub record Inode (N : Type 0) : Type 0 where
  pub node : Node N
  pub uses : ℕ

-- a finite map from numbers to inodes, the number of its root directory, and how many inodes there are
pub record Inodes (N : Type 0) : Type 0 where
  pub root : N
  pub inode : N → Option (Inode N)
  pub count : ℕ

module _ {N : Type 0} where
  -- what an inode holds, if it exists
  abbrev pub node_in : Option (Inode N) → Option (Node N)
  node_in inode = option_map (λ i. i.node) inode

  -- the tree, uses aside
  abbrev pub tree_of : Inodes N → Tree N
  tree_of inodes = record { root = inodes.root; node = λ number. node_in (inodes.inode number) }

  -- how many uses an inode has
  abbrev pub uses_in : Option (Inode N) → ℕ
  uses_in None = 0
  uses_in (Some inode) = inode.uses

  -- an inode with another node
  abbrev pub inode_with_node : Option (Node N) → Option (Inode N) → Option (Inode N)
  inode_with_node None inode = inode
  inode_with_node (Some node) None = None
  inode_with_node (Some node) (Some inode) = Some (record inode { node = node })

  -- one use more
  abbrev pub used_once_more : Option (Inode N) → Option (Inode N)
  used_once_more None = None
  used_once_more (Some inode) = Some (record inode { uses = inode.uses + 1 })

  -- one use less: with its last use an inode goes
  abbrev pub used_once_less : Option (Inode N) → Option (Inode N)
  used_once_less None = None
  used_once_less (Some inode) = if nat_le inode.uses 1 then None else Some (record inode { uses = inode.uses - 1 })

  -- how many inodes there are once this one is as it is now
  abbrev pub count_after : ℕ → Option (Inode N) → ℕ
  count_after count None = count - 1
  count_after count (Some inode) = count

module _ {N : Type 0} (eq : N → N → Bool) where
  -- the inodes with this at a number
  abbrev pub with_inode : Inodes N → N → Option (Inode N) → Inodes N
  with_inode inodes number inode =
      record inodes { inode = λ other. if eq other number then inode else inodes.inode other }

  -- the tree with one node changed
  abbrev pub with_changed : Inodes N → N → (Option (Node N) → Option (Node N)) → Inodes N
  with_changed inodes number change =
      with_inode inodes number (inode_with_node (change (node_in (inodes.inode number))) (inodes.inode number))

  -- a name or a descriptor more: link(2), open(2)
  abbrev pub pinned : Inodes N → N → Inodes N
  pinned inodes number = with_inode inodes number (used_once_more (inodes.inode number))

  -- a name or a descriptor less: unlink(2), close(2)
  abbrev pub unpinned : Inodes N → N → Inodes N
  unpinned inodes number = record (with_inode inodes number (used_once_less (inodes.inode number))) {
    count = if is_some (inodes.inode number) then count_after inodes.count (used_once_less (inodes.inode number))
        else inodes.count;
  }

  -- a name that is replaced leads there no more; a directory that lost its name is its own parent
  abbrev pub without_replaced : Inodes N → Option N → Inodes N
  without_replaced inodes None = inodes
  without_replaced inodes (Some object) = unpinned (with_changed inodes object (node_with_parent object)) object

  -- one inode more, under a name of a directory: mkdir(2), symlink(2), open(2) with O_CREAT
  abbrev pub with_new : Inodes N → N → List ℕ → N → Node N → Inodes N
  with_new inodes directory name number node =
      record (with_inode (with_changed inodes directory (node_with_entry name number)) number
      (Some (record { node = node; uses = 1 }))) { count = inodes.count + 1 }

  -- one name more of an inode: link(2)
  abbrev pub with_name : Inodes N → N → List ℕ → N → Inodes N
  with_name inodes directory name object = pinned (with_changed inodes directory (node_with_entry name object)) object

  -- one name less of an inode: unlink(2), rmdir(2)
  abbrev pub without_name : Inodes N → N → List ℕ → N → Inodes N
  without_name inodes directory name object =
      without_replaced (with_changed inodes directory (node_without_entry name)) (Some object)

  -- an object leaves one name for another, in the place of what had that
  abbrev pub with_moved : Inodes N → N → List ℕ → N → List ℕ → N → Inodes N
  with_moved inodes from old to new object =
      without_replaced (with_changed
      (with_changed (with_changed inodes from (node_without_entry old)) to (node_with_entry new object))
      object (node_with_parent to))
      (entry_named new (entries_in (node_in (inodes.inode to))))

  -- a change of the tree; on a plain tree nothing is copied up
  abbrev pub changed : Inodes N → Change N → Inodes N
  changed inodes (Make directory name number node) = with_new inodes directory name number node
  changed inodes (AddName directory name object) = with_name inodes directory name object
  changed inodes (Remove directory name object) = without_name inodes directory name object
  changed inodes (Move from old to new object) = with_moved inodes from old to new object
  changed inodes (SetBytes file bytes) = with_changed inodes file (node_with_bytes bytes)
  changed inodes (SetAttr object attr) = with_changed inodes object (node_with_attr attr)
  changed inodes (SetMark directory opaque) = with_changed inodes directory (node_with_mark opaque)
  changed inodes (CopyUp object) = inodes

  -- the directory above
  abbrev pub parent_above : Inodes N → N → Option N
  parent_above inodes directory =
      if eq directory inodes.root then None else Some (parent_in directory (node_in (inodes.inode directory)))

  -- a directory and the directories above it, upwards; there are no more than inodes
  abbrev pub ancestors : Inodes N → N → List N
  ancestors inodes directory = chain inodes.count (parent_above inodes) directory

  -- a directory is another one, or lies under it
  abbrev pub is_directory_under : Inodes N → N → N → Bool
  is_directory_under inodes top directory = is_among eq top (ancestors inodes directory)

  -- one empty directory
  abbrev pub one_directory : N → Attr → Inodes N
  one_directory root attr = record {
    root = root;
    inode = λ other. if eq other root
        then Some (record { node = record { attr = attr; content = new_directory root }; uses = 1 }) else None;
    count = 1;
  }

-- the inodes under other numbers
module _ {N M : Type 0} (there : N → M) (back : M → N) where
  -- an inode
  abbrev pub renamed_inode : Inode N → Inode M
  renamed_inode inode = record { node = renamed_node there back inode.node; uses = inode.uses }

  -- all inodes
  abbrev pub renamed_inodes : Inodes N → Inodes M
  renamed_inodes inodes = record {
    root = there inodes.root;
    inode = λ number. option_map renamed_inode (inodes.inode (back number));
    count = inodes.count;
  }
