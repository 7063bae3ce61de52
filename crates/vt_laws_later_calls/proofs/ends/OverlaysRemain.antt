-- A change that takes no name away takes no inode away, in an overlay and in its upper layer too.
use Rattle.std.proofs.Common.{arith, ◌≡◌, refl, ◌∙◌, ⊎_elim, ℕ, ◌+◌, nat_eq, Bool, true, false, List, [], ◌∷◌, Option, Some, None, is_some}
use Rattle.vt_spec.proofs.Common.{AddName, Change, CopyUp, FileTree, Filesystem, Fresh, IsWorld, Layer, Location, Make, Merge, Move, Node, Overlay, Remove, SetAttr, SetBytes, SetMark, Stack, World, changed, changed_both, common_steps, content_with_parent, copied_each, copied_up, copy_named, copy_of, eqb_tells, evens, filesystem_at, filesystem_changed, filesystem_numbered, hides_directory, line_to, merge_changed, mount_at, node_with_attr, node_with_bytes, node_with_mark, odds, overlay_changed, stack_of, upper_of, with_change, with_files, with_filesystem, with_inode, with_mark, with_name}
use Rattle.vt_laws_trees.proofs.calls.inodes.InodesRemain.{RemainsIn, at_node, changed_remains, made_remains, named_remains}
use Rattle.vt_laws_trees.proofs.layers.layers.LowersWorld.{filesystem_elsewhere, filesystem_there, number_of_filesystem}
use Rattle.vt_laws_trees.proofs.layers.layers.UpperWorld.{upper_elsewhere}
use Rattle.vt_laws_later_calls.proofs.Common.{inode_in, takes_a_name}
use Rattle.vt_laws_worlds.specs.OverlaysLetGo.OverlayChanges.{merge_at}

module _ (other : ℕ) where
  abbrev In : FileTree ℕ → FileTree ℕ → Type 0
  In files left = RemainsIn other files left

  -- the inodes of an overlay and those of its upper layer
  record BothRemain (before left : Merge ℕ) : Type 0 where
    files : In before.files left.files
    upper : In before.upper left.upper

  -- one step after the other
  then_remain : (a b c : Merge ℕ) → BothRemain a b → BothRemain b c → BothRemain a c
  then_remain a b c first second = record {
    files = λ there. second.files (first.files there);
    upper = λ there. second.upper (first.upper there);
  }

  -- Copies
  named_copy_remains : (merge : Merge ℕ) (copy : ℕ) (named : Option (ℕ × List ℕ)) (upper : FileTree ℕ)
      → In upper (copy_named nat_eq merge copy named upper)
  named_copy_remains merge copy None upper there = there
  named_copy_remains merge copy (Some name) upper there =
      named_remains other upper (upper_of merge name.0) name.1 copy there

  -- one copy
  copy_remains : (merge : Merge ℕ) (object copy : ℕ) (seen : Option (Node ℕ)) (in_upper : Bool)
      → BothRemain merge (copy_of nat_eq merge object copy seen in_upper)
  copy_remains merge object copy seen in_upper = grind (arith, common_steps, named_copy_remains, made_remains)

  -- and a list of them
  copies_remain : (fresh : Fresh ℕ) (list : List ℕ) (k : ℕ) (merge : Merge ℕ)
      → BothRemain merge (copied_each nat_eq fresh k merge list)
  copies_remain fresh [] k merge = record { files = λ there. there; upper = λ there. there }
  copies_remain fresh (object ∷ rest) k merge =
      then_remain merge _ _ (copy_remains merge object (fresh k) (merge.files.tree.node object) _)
      (copies_remain fresh rest (k + 1) _)

  up_remain : (fresh : Fresh ℕ) (merge : Merge ℕ) (object : ℕ) → BothRemain merge (copied_up nat_eq fresh merge object)
  up_remain fresh merge object = copies_remain fresh (line_to nat_eq merge.files object) 0 merge

  -- what is made or set
  marked_remains : (opaque : Bool) (upper : FileTree ℕ) (object : ℕ) → In upper (with_mark nat_eq opaque upper object)
  marked_remains true upper object there = at_node other upper object (node_with_mark true) (λ node. refl) there
  marked_remains false upper object there = there

  -- bytes, owner and mode, and marks
  set_remains : (fresh : Fresh ℕ) (merge : Merge ℕ) (object : ℕ) (set : Option (Node ℕ) → Option (Node ℕ))
      → ((node : Node ℕ) → is_some (set (Some node)) ≡ true)
      → BothRemain merge (changed_both nat_eq (copied_up nat_eq fresh merge object) object set)
  set_remains fresh merge object set leaves = then_remain merge copied _ (up_remain fresh merge object) (record {
    files = λ there. at_node other copied.files object set leaves there;
    upper = λ there. at_node other copied.upper _ set leaves there;
  })
    where
      copied : Merge ℕ
      copied = copied_up nat_eq fresh merge object

  -- each change
  merge_remains : (fresh : Fresh ℕ) (stack : Stack ℕ) (merge : Merge ℕ) (change : Change ℕ)
      → takes_a_name change ≡ false → BothRemain merge (merge_changed nat_eq fresh stack merge change)
  merge_remains fresh stack merge (Make directory name number node) none =
      then_remain merge copied _ (up_remain (evens fresh) merge directory) (record {
        files = changed_remains other copied.files (Make directory name number node);
        upper = λ there. marked_remains (hides_directory nat_eq stack copied directory name)
            (with_name nat_eq (with_inode nat_eq copied.upper (odds fresh 0) object) (upper_of copied directory) name
            (odds fresh 0)) (odds fresh 0)
            (named_remains other (with_inode nat_eq copied.upper (odds fresh 0) object) (upper_of copied directory) name
            (odds fresh 0) (made_remains other copied.upper (odds fresh 0) object there));
      })
    where
      copied : Merge ℕ
      copied = copied_up nat_eq (evens fresh) merge directory

      object : Node ℕ
      object = record { attr = node.attr; content = content_with_parent (upper_of copied directory) node.content }
  merge_remains fresh stack merge (AddName directory name object) none =
      then_remain merge one _ (up_remain (evens fresh) merge object)
      (then_remain one two _ (up_remain (odds fresh) one directory) (record {
        files = changed_remains other two.files (AddName directory name object);
        upper = named_remains other two.upper (upper_of two directory) name (upper_of two object);
      }))
    where
      one : Merge ℕ
      one = copied_up nat_eq (evens fresh) merge object

      two : Merge ℕ
      two = copied_up nat_eq (odds fresh) one directory
  merge_remains fresh stack merge (Remove directory name object) none = cc
  merge_remains fresh stack merge (Move from old to new object) none = cc
  merge_remains fresh stack merge (SetBytes file bytes) none =
      set_remains fresh merge file (node_with_bytes bytes) (λ node. refl)
  merge_remains fresh stack merge (SetAttr object attr) none =
      set_remains fresh merge object (node_with_attr attr) (λ node. refl)
  merge_remains fresh stack merge (SetMark directory opaque) none =
      set_remains fresh merge directory (node_with_mark opaque) (λ node. refl)
  merge_remains fresh stack merge (CopyUp object) none = up_remain fresh merge object

  -- Filesystems of a world
  placed_remains : (world : World ℕ) (new : Filesystem ℕ)
      → In (filesystem_numbered nat_eq world new.number).files new.files → (filesystem : ℕ)
      → is_some (inode_in world filesystem other) ≡ true
      → is_some (inode_in (with_filesystem nat_eq world new) filesystem other) ≡ true
  placed_remains world new grows filesystem there = ⊎_elim (λ same. filesystem_there (λ f. is_some
      (f.files.tree.node other) ≡ true) world new filesystem same.1 (grows (cc same.1)) (λ none. cc))
      (λ differ. cc (filesystem_elsewhere world new filesystem differ.1)) (eqb_tells filesystem new.number)

  module _ (fresh : Fresh ℕ) {world : World ℕ} (is : IsWorld nat_eq world) (location : Location ℕ) (change : Change ℕ)
      (none : takes_a_name change ≡ false) (filesystem : ℕ) (there : is_some (inode_in world filesystem other) ≡ true)
    where
      abbrev number : ℕ
      number = (mount_at nat_eq world location).filesystem

      abbrev merged : Filesystem ℕ
      merged = filesystem_at nat_eq world location

      abbrev Remains : World ℕ → Type 0
      Remains left = is_some (inode_in left filesystem other) ≡ true

      -- the filesystem of the change is the one of its number
      at_own : (files : FileTree ℕ) → In merged.files files
          → In (filesystem_numbered nat_eq world merged.number).files files
      at_own files grows there = grows (cc (number_of_filesystem world number))

      -- of a plain filesystem
      plain_remains : Remains (filesystem_changed nat_eq fresh world merged None change)
      plain_remains = placed_remains world (with_files merged (changed nat_eq merged.files change))
          (at_own (changed nat_eq merged.files change) (changed_remains other merged.files change)) filesystem there

      -- of an overlay, and then of the filesystem of its upper layer
      merged_remains : (overlay : Overlay ℕ) (upper : Layer ℕ) → merged.overlay ≡ Some overlay
          → overlay.upper ≡ Some upper → Remains (overlay_changed nat_eq fresh world merged overlay (Some upper) change)
      merged_remains overlay upper o u = placed_remains (with_filesystem nat_eq world new_merged) new_layer
          (λ here. both.upper (cc (
            number_of_filesystem world upper.filesystem,
            filesystem_elsewhere world new_merged
                upper.filesystem (λ e. upper_elsewhere world is number overlay o upper u
                (e ∙ number_of_filesystem world number)),
          ))) filesystem (placed_remains world new_merged (at_own later.files both.files) filesystem there)
        where
          later : Merge ℕ
          later = merge_changed nat_eq fresh (stack_of nat_eq world overlay upper)
              (merge_at world location overlay upper) change

          both : BothRemain (merge_at world location overlay upper) later
          both = merge_remains fresh _ _ change none

          new_merged : Filesystem ℕ
          new_merged = record merged { files = later.files; overlay = Some (record overlay { real = later.real }) }

          new_layer : Filesystem ℕ
          new_layer = with_files (filesystem_numbered nat_eq world upper.filesystem) later.upper

      -- so of every filesystem
      pub change_remains : Remains (with_change nat_eq fresh world location change)
      change_remains = by merged.overlay refl
        where
          over : (overlay : Overlay ℕ) → merged.overlay ≡ Some overlay → (o : Option (Layer ℕ)) → overlay.upper ≡ o
              → Remains (overlay_changed nat_eq fresh world merged overlay o change)
          over overlay o None u = there
          over overlay o (Some upper) u = merged_remains overlay upper o u

          by : (o : Option (Overlay ℕ)) → merged.overlay ≡ o
              → Remains (filesystem_changed nat_eq fresh world merged o change)
          by None o = plain_remains
          by (Some overlay) o = over overlay o overlay.upper refl
