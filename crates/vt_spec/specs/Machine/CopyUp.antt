-- What a change of an overlay does to its upper layer: the kernel's overlayfs document, "upper and lower" (copy_up),
-- "whiteouts and opaque directories" and "changes to underlying filesystems".
use Rattle.std.specs.Prelude.{Bool, List, None, Option, Some, [], false, if◌then◌else◌, is_some, reverse, slice_get, true, unwrap_or, ℕ, ◌++◌, ◌+◌, ◌∷◌}
use Rattle.vt_spec.specs.Language.Changes.{Change, changed, changed_node, content_with_parent, node_with_attr, node_with_mark, node_without_entries, with_inode, with_moved, with_name, without_name, without_parent}
use Rattle.vt_spec.specs.Language.Changes.Change.{AddName, CopyUp, Make, Move, Remove, SetAttr, SetBytes, SetMark}
use Rattle.vt_spec.specs.FileTree.{FileTree, a_name, ancestors, path_down}
use Rattle.vt_spec.specs.Machine.Layers.{OpenLayer, Shown, shown_in_lowers}
use Rattle.vt_spec.specs.Lists.{Fresh, evens, holds_of, odds, then_some}
use Rattle.vt_spec.specs.Rights.{Credentials}
use Rattle.vt_spec.specs.Tree.{Content, Node, entries_in, entry_named, is_directory_node, new_directory, node_with_bytes}
use Rattle.vt_spec.specs.Tree.Content.{Directory, Regular, Symlink, Whiteout}
use Rattle.vt_spec.specs.Machine.World.{Real, upper_object}
use Rattle.vt_spec.specs.Machine.World.Real.{Upper}

-- the merged tree, the real objects of its inodes, and the tree of the upper layer
pub record Merge (N : Type 0) : Type 0 where
  pub files : FileTree N
  pub real : N → Option (Real N)
  pub upper : FileTree N

-- the upper layer's directory, the lower layers and the mounter
pub record Stack (N : Type 0) : Type 0 where
  pub directory : N
  pub lowers : List (OpenLayer N)
  pub mounter : Credentials

module _ {N : Type 0} where
  -- a copy of a file or symlink has its content; a copy of a directory has no entries and no mark
  abbrev pub copied_content : N → Content N → Content N
  copied_content parent (Directory old entries opaque) = new_directory parent
  copied_content parent (Regular bytes) = Regular bytes
  copied_content parent (Symlink text) = Symlink text
  copied_content parent Whiteout = Whiteout

  -- a new whiteout, which belongs to the mounter: overlayfs, "whiteouts and opaque directories"
  abbrev pub whiteout_of : Credentials → Node N
  whiteout_of mounter = record { attr = record { uid = mounter.uid; gid = mounter.gid; mode = 0 }; content = Whiteout }

  -- what is shown is a directory
  abbrev pub is_directory_shown : List (OpenLayer N) → Option (Shown N) → Bool
  is_directory_shown layers None = false
  is_directory_shown layers (Some seen) =
      holds_of (λ layer. is_directory_node (layer.tree.node seen.object)) (slice_get layers seen.layer)

  -- the upper inode that is an inode's real object
  abbrev pub upper_of : Merge N → N → N
  upper_of merge number = unwrap_or (upper_object (merge.real number)) number

  -- the real object of an inode is in the upper layer
  abbrev pub is_in_upper : Merge N → N → Bool
  is_in_upper merge number = is_some (upper_object (merge.real number))

  -- the upper directory in which a copy gets its name; a copy without a name is its own parent
  abbrev pub copy_parent : Merge N → N → Option (N × List ℕ) → N
  copy_parent merge copy None = copy
  copy_parent merge copy (Some name) = upper_of merge name.0

  -- the upper directory of a name, if that is a directory
  abbrev pub upper_directory_named : Merge N → N → List ℕ → Option N
  upper_directory_named merge directory name =
      then_some (entry_named name (entries_in (merge.files.tree.node directory)))
      (λ object. if is_directory_node (merge.files.tree.node object) then upper_object (merge.real object) else None)

module _ {N : Type 0} (eq : N → N → Bool) where
  -- the real objects, with that of one inode replaced
  abbrev pub with_real : (N → Option (Real N)) → N → Real N → N → Option (Real N)
  with_real real number object other = if eq other number then Some object else real other

  -- the directories from the root down to this one
  abbrev pub directories_to : FileTree N → N → List N
  directories_to files directory = reverse (ancestors eq files directory)

  -- the directories down to the directory that has a name, then the object
  abbrev pub line_by : FileTree N → N → Option (N × List ℕ) → List N
  line_by files object None = object ∷ []
  line_by files object (Some name) = directories_to files name.0 ++ (object ∷ [])

  -- the directories down to an object that has a name, then the object
  abbrev pub line_to : FileTree N → N → List N
  line_to files object = line_by files object (a_name eq files object)

  -- the copy, under the object's name if it has one
  abbrev pub copy_named : Merge N → N → Option (N × List ℕ) → FileTree N → FileTree N
  copy_named merge copy None upper = upper
  copy_named merge copy (Some name) upper = with_name eq upper (upper_of merge name.0) name.1 copy

  -- an inode copied up: its copy in the upper layer, under its name, is its real object: overlayfs, "upper and lower"
  abbrev pub copy_of_node : Merge N → N → N → Node N → Merge N
  copy_of_node merge object copy node = record merge {
    real = with_real merge.real object (Upper copy);
    upper = copy_named merge copy (a_name eq merge.files object)
        (with_inode eq merge.upper copy
        (record {
          attr = node.attr;
          content = copied_content
              (copy_parent merge copy (a_name eq merge.files object)) node.content;
        }));
  }

  -- that, of an inode that exists and is not in the upper layer yet
  abbrev pub copy_of : Merge N → N → N → Option (Node N) → (in_upper : Bool) → Merge N
  copy_of merge object copy None in_upper = merge
  copy_of merge object copy (Some node) true = merge
  copy_of merge object copy (Some node) false = copy_of_node merge object copy node

  -- copy-up: each of these that has its real object in a lower layer is copied, with owner, mode and content; the inode
  -- of the merged tree stays the same
  abbrev pub copied_each : Fresh N → ℕ → Merge N → List N → Merge N
  copied_each fresh k merge [] = merge
  copied_each fresh k merge (object ∷ rest) =
      copied_each fresh (k + 1) (copy_of merge object (fresh k) (merge.files.tree.node object)
      (is_in_upper merge object)) rest

  -- an object is copied up, missing parents first
  abbrev pub copied_up : Fresh N → Merge N → N → Merge N
  copied_up fresh merge object = copied_each fresh 0 merge (line_to merge.files object)

  -- the path of a name in a directory
  abbrev pub path_to : Merge N → N → List ℕ → List (List ℕ)
  path_to merge directory name =
      unwrap_or (path_down eq merge.files merge.files.tree.root directory) [] ++ (name ∷ [])

  -- what the lower layers show at a name, ignoring what the upper layer has there
  abbrev pub shown_in_lowers_at : Stack N → Merge N → N → List ℕ → Option (Shown N)
  shown_in_lowers_at stack merge directory name =
      shown_in_lowers (record { tree = merge.upper.tree; directory = stack.directory }) stack.lowers
      (path_to merge directory name)

  -- the lower layers show a directory there, which a new one must hide by its opaque mark
  abbrev pub hides_directory : Stack N → Merge N → N → List ℕ → Bool
  hides_directory stack merge directory name =
      is_directory_shown (record { tree = merge.upper.tree; directory = stack.directory } ∷ stack.lowers)
      (shown_in_lowers_at stack merge directory name)

  -- what a name that is removed leaves in the upper layer: a whiteout, or nothing
  abbrev pub name_left_by : (whiteout : Bool) → Fresh N → Stack N → FileTree N → N → List ℕ → FileTree N
  name_left_by true fresh stack upper directory name =
      with_name eq (with_inode eq upper (fresh 0) (whiteout_of stack.mounter)) directory name (fresh 0)
  name_left_by false fresh stack upper directory name = without_name eq upper directory name

  -- a name that is removed leaves a whiteout if lower layers still show something there: overlayfs, "whiteouts and
  -- opaque directories"
  abbrev pub name_left : Fresh N → Stack N → Merge N → FileTree N → N → List ℕ → FileTree N
  name_left fresh stack merge upper directory name =
      name_left_by (is_some (shown_in_lowers_at stack merge directory name)) fresh stack upper
      (upper_of merge directory) name

  -- a directory that is removed or replaced loses the whiteouts in it, and is its own parent
  abbrev pub without_contents : FileTree N → Option N → FileTree N
  without_contents upper None = upper
  without_contents upper (Some object) =
      without_parent eq (changed_node eq upper object node_without_entries) (Some object)

  -- a directory under a new name becomes opaque if it must hide one; else it keeps its mark
  abbrev pub with_mark : (opaque : Bool) → FileTree N → N → FileTree N
  with_mark true upper object = changed_node eq upper object (node_with_mark true)
  with_mark false upper object = upper

  -- each change, after its objects were copied up

  -- a new object in the upper layer, opaque if it is a directory that hides one: mkdir(2), symlink(2), open(2) with
  -- O_CREAT
  abbrev pub merge_with_new : Fresh N → Stack N → Merge N → N → List ℕ → N → Node N → Merge N
  merge_with_new fresh stack merge directory name number node = record {
    files = changed eq merge.files (Make directory name number node);
    real = with_real merge.real number (Upper (fresh 0));
    upper = with_mark (hides_directory stack merge directory name) (with_name eq
        (with_inode eq merge.upper (fresh 0)
        (record { attr = node.attr; content = content_with_parent (upper_of merge directory) node.content }))
        (upper_of merge directory) name (fresh 0)) (fresh 0);
  }

  -- a further name of an object: link(2)
  abbrev pub merge_with_link : Merge N → N → List ℕ → N → Merge N
  merge_with_link merge directory name object = record merge {
    files = changed eq merge.files (AddName directory name object);
    upper = with_name eq merge.upper (upper_of merge directory) name (upper_of merge object);
  }

  -- a name is removed: unlink(2), rmdir(2)
  abbrev pub merge_without_name : Fresh N → Stack N → Merge N → N → List ℕ → N → Merge N
  merge_without_name fresh stack merge directory name object = record merge {
    files = changed eq merge.files (Remove directory name object);
    upper = without_contents (name_left fresh stack merge merge.upper directory name)
        (upper_directory_named merge directory name);
  }

  -- an object gets another name: rename(2)
  abbrev pub merge_with_moved : Fresh N → Stack N → Merge N → N → List ℕ → N → List ℕ → N → Merge N
  merge_with_moved fresh stack merge from old to new object = record merge {
    files = changed eq merge.files (Move from old to new object);
    upper = with_mark (hides_directory stack merge to new)
        (name_left fresh stack merge
        (with_moved eq (without_contents merge.upper (upper_directory_named merge to new))
        (upper_of merge from) old (upper_of merge to) new (upper_of merge object))
        from old)
        (upper_of merge object);
  }

  -- an inode's bytes or attributes, in the merged tree and in the upper layer
  abbrev pub changed_both : Merge N → N → (Option (Node N) → Option (Node N)) → Merge N
  changed_both merge object change = record merge {
    files = changed_node eq merge.files object change;
    upper = changed_node eq merge.upper (upper_of merge object) change;
  }

  -- the objects of a change are copied up, and then it is made
  abbrev pub merge_changed : Fresh N → Stack N → Merge N → Change N → Merge N
  merge_changed fresh stack merge (Make directory name number node) =
      merge_with_new (odds fresh) stack (copied_up (evens fresh) merge directory) directory name number node
  merge_changed fresh stack merge (AddName directory name object) =
      merge_with_link (copied_up (odds fresh) (copied_up (evens fresh) merge object) directory) directory name object
  merge_changed fresh stack merge (Remove directory name object) =
      merge_without_name (odds fresh) stack (copied_up (evens fresh) merge directory) directory name object
  merge_changed fresh stack merge (Move from old to new object) =
      merge_with_moved (odds (odds fresh)) stack
      (copied_up (evens (odds fresh)) (copied_up (evens fresh) merge object) to) from old to new object
  merge_changed fresh stack merge (SetBytes file bytes) =
      changed_both (copied_up fresh merge file) file (node_with_bytes bytes)
  merge_changed fresh stack merge (SetAttr object attr) =
      changed_both (copied_up fresh merge object) object (node_with_attr attr)
  merge_changed fresh stack merge (SetMark directory opaque) =
      changed_both (copied_up fresh merge directory) directory (node_with_mark opaque)
  merge_changed fresh stack merge (CopyUp object) = copied_up fresh merge object
