-- A name that is removed, and one that is left by a move.
use Rattle.std.proofs.Common.{◌≡◌, ◌≢◌, refl, sym, ap, ◌∙◌, arith, ℕ, nat_eq, eq-eqb, Bool, true, false, cond, List, ◌∷◌, ◌++◌, Option, Some, None}
use Rattle.vt_spec.proofs.Common.{Change, FileTree, Fresh, IsDirectory, Make, Move, Node, Remove, Stack, bytes_eq_itself, changed, changed_node, common_steps, entries_in, entry_at, entry_named, is_directory_node, is_sorted, name_cmp, name_left_by, node_with_entry, node_with_parent, node_without_entries, node_without_entry, whiteout_of, with_inode, with_mark, with_moved, with_name, without_contents, without_name, without_parent}
use Rattle.vt_spec.proofs.NodeChanges.{entries-node_with_parent, entries-node_without_entries, is_directory-node_with_parent, is_directory-node_without_entry}
use Rattle.vt_laws_trees.proofs.layers.layers.CopyingParts.{without_entries_keeps}
use Rattle.vt_laws_trees.proofs.layers.views.Entries.{is_entry, is_that_entry}
use Rattle.vt_laws_trees.proofs.layers.views.Moves.{move_told}
use Rattle.vt_laws_trees.proofs.overlays.whole.UpperNames.{freed_made, inode_changed, two_changed, unchanged_node}
use Rattle.vt_laws_trees.proofs.trees.ChangesNames.{given_in_order, untaken_in_order}
use Rattle.vt_laws_trees.proofs.trees.ChangesNodes.{changed_node_there, elsewhere, part_stays}
use Rattle.vt_laws_upper_layers.specs.Rows.{AreInOrder, MovedInARow, RemovedInARow, after_row, emptying, freeing, marking, removal, whiting}
use Rattle.vt_laws_upper_layers.proofs.rows.Emptied.{emptied}
use Rattle.vt_laws_upper_layers.proofs.rows.Freed.{after_row-append, freed, without_name-none}

-- A directory that was emptied loses its name, and leaves a whiteout
module _ (files : FileTree ℕ) (order : AreInOrder files) (d r : ℕ) (w : List ℕ) (apart : d ≢ r) where
  abbrev pub bare : FileTree ℕ
  bare = changed_node nat_eq files r node_without_entries

  abbrev without : FileTree ℕ → FileTree ℕ
  without f = without_parent nat_eq (changed_node nat_eq f r node_without_entries) (Some r)

  gone : changed nat_eq bare (Remove d w r) ≡ without (without_name nat_eq files d w)
  gone = ap (λ f. without_parent nat_eq f (Some r))
      (two_changed files r d node_without_entries (node_without_entry w) (λ same. apart (sym same)))

  module _ (c : ℕ) (white : Node ℕ) (d_differs : d ≢ c) (r_differs : c ≢ r) where
    abbrev whited : FileTree ℕ → FileTree ℕ
    whited f = changed nat_eq f (Make d w c white)

    -- what is emptied beside it
    aside : (f : FileTree ℕ) (g : Option (Node ℕ) → Option (Node ℕ))
        → whited (changed_node nat_eq f r g) ≡ changed_node nat_eq (whited f) r g
    aside f g = ap (λ x. with_name nat_eq x d w c) (sym (inode_changed f c white r g r_differs))
        ∙ two_changed (with_inode nat_eq f c white) r d g (node_with_entry w c) (λ same. apart (sym same))

    whited_is : whited (without (without_name nat_eq files d w)) ≡ without (whited files)
    whited_is =
        aside (changed_node nat_eq (without_name nat_eq files d w) r node_without_entries) (node_with_parent r)
        ∙ ap (λ f. changed_node nat_eq f r (node_with_parent r))
        (aside (without_name nat_eq files d w) node_without_entries)
        ∙ ap without (freed_made files d w (order d) c white d_differs)

pub removed_in_a_row : RemovedInARow
removed_in_a_row whiteout fresh stack files d w None order plain d_new r_new =
    after_row-append files (freeing files d w) (whiting whiteout fresh stack.mounter d w)
    ∙ ap (λ f. after_row f (whiting whiteout fresh stack.mounter d w)) (freed files order d w plain) ∙ by whiteout
  where
    by : (b : Bool) → after_row (without_name nat_eq files d w) (whiting b fresh stack.mounter d w)
        ≡ name_left_by nat_eq b fresh stack files d w
    by true = freed_made files d w (order d) (fresh 0) (whiteout_of stack.mounter) d_new
    by false = refl
removed_in_a_row whiteout fresh stack files d w (Some r) order is d_new r_new =
    after_row-append files (emptying files (Some r)) (freeing files d w ++ whiting whiteout fresh stack.mounter d w)
    ∙ ap (λ f. after_row f (freeing files d w ++ whiting whiteout fresh stack.mounter d w)) (emptied files r order is.2)
    ∙ ap (λ o. after_row (bare files order d r w is.1) (removal d w o ++ whiting whiteout fresh stack.mounter d w)) is.0
    ∙ ap (λ f. after_row f (whiting whiteout fresh stack.mounter d w)) (gone files order d r w is.1) ∙ by whiteout
  where
    by : (b : Bool) → after_row (without files order d r w is.1 (without_name nat_eq files d w))
        (whiting b fresh stack.mounter d w)
        ≡ without_contents nat_eq (name_left_by nat_eq b fresh stack files d w) (Some r)
    by true = whited_is files order d r w is.1 (fresh 0) (whiteout_of stack.mounter) d_new
        (λ same. r_new (ap (λ n. Some n) (sym same)))
    by false = refl

-- A move

-- with itself as the parent once more
parent_twice : (k : ℕ) (o : Option (Node ℕ)) → node_with_parent k (node_with_parent k o) ≡ node_with_parent k o
parent_twice k o = grind (arith, common_steps)

-- what a move takes the place of may have lost its parent already
moved_twice : (files : FileTree ℕ) (from : ℕ) (old : List ℕ) (to : ℕ) (new : List ℕ) (object r : ℕ)
    → entry_at files.tree to new ≡ Some r
    → with_moved nat_eq (without_parent nat_eq files (Some r)) from old to new object
    ≡ with_moved nat_eq files from old to new object
moved_twice files from old to new object r named =
    ap (λ x. changed_node nat_eq (with_name nat_eq (without_name nat_eq x from old) to new object) object
    (node_with_parent to)) (ap (without_parent nat_eq once) still ∙ unchanged_node once r (node_with_parent r)
    (ap (node_with_parent r) there ∙ parent_twice r (files.tree.node r) ∙ sym there)
    ∙ sym (ap (without_parent nat_eq files) named))
  where
    once : FileTree ℕ
    once = without_parent nat_eq files (Some r)

    there : (without_parent nat_eq files (Some r)).tree.node r ≡ node_with_parent r (files.tree.node r)
    there = changed_node_there files r (node_with_parent r)

    still : entry_at (without_parent nat_eq files (Some r)).tree to new ≡ Some r
    still = ap (entry_named new)
        (part_stays files r (node_with_parent r) entries_in (entries-node_with_parent r) to) ∙ named

-- names stay in order
order_changed : (files : FileTree ℕ) (d : ℕ) (change : Option (Node ℕ) → Option (Node ℕ)) → AreInOrder files
    → (is_sorted name_cmp (entries_in (change (files.tree.node d))) ≡ true) → AreInOrder (changed_node nat_eq files d change)
order_changed files d change order here k = by (nat_eq k d)
  where
    by : (b : Bool) → is_sorted name_cmp (entries_in (cond b (change (files.tree.node d)) (files.tree.node k))) ≡ true
    by true = here
    by false = order k

module _ (files : FileTree ℕ) (order : AreInOrder files) (from : ℕ) (old : List ℕ) (to : ℕ) (new : List ℕ) (object : ℕ)
    (in_directory : IsDirectory files.tree to) (differ : from ≡ to → old ≢ new) where
  abbrev pub moved : FileTree ℕ
  moved = with_moved nat_eq files from old to new object

  -- the old name is free
  old_free : entry_at moved.tree from old ≡ None
  old_free = move_told files from old to new object in_directory from old ∙ by (is_entry to new from old) refl
      ∙ ap (λ b. cond b None (entry_at files.tree from old)) itself
    where
      itself : is_entry from old from old ≡ true
      itself = cc (eq-eqb from from refl, bytes_eq_itself old)

      by : (b : Bool) → is_entry to new from old ≡ b
          → cond b (Some object) (cond (is_entry from old from old) None (entry_at files.tree from old))
          ≡ cond (is_entry from old from old) None (entry_at files.tree from old)
      by true e = let same = is_that_entry to new from old e in absurd (differ same.0 same.1)
      by false e = refl

  -- and names stand in order
  orphaned : (o : Option ℕ) → AreInOrder (without_parent nat_eq files o)
  orphaned None = order
  orphaned (Some r) = order_changed files r (node_with_parent r) order
      (ap (is_sorted name_cmp) (entries-node_with_parent r (files.tree.node r)) ∙ order r)

  moved_order : AreInOrder moved
  moved_order = order_changed placed object (node_with_parent to) in_place
      (ap (is_sorted name_cmp) (entries-node_with_parent to (placed.tree.node object)) ∙ in_place object)
    where
      first : FileTree ℕ
      first = without_parent nat_eq files (entry_named new (entries_in (files.tree.node to)))

      left : FileTree ℕ
      left = without_name nat_eq first from old

      in_first : AreInOrder first
      in_first = orphaned (entry_named new (entries_in (files.tree.node to)))

      in_left : AreInOrder left
      in_left = untaken_in_order first from old in_first

      directory_left : IsDirectory left.tree to
      directory_left =
          part_stays first from (node_without_entry old) is_directory_node (is_directory-node_without_entry old) to
          ∙ kind (entry_named new (entries_in (files.tree.node to))) ∙ in_directory
        where
          kind : (o : Option ℕ) → is_directory_node ((without_parent nat_eq files o).tree.node to)
              ≡ is_directory_node (files.tree.node to)
          kind None = refl
          kind (Some r) =
              part_stays files r (node_with_parent r) is_directory_node (is_directory-node_with_parent r) to

      placed : FileTree ℕ
      placed = with_name nat_eq left to new object

      in_place : AreInOrder placed
      in_place = given_in_order left to new object directory_left in_left

  -- so it leaves nothing, or the whiteout
  left_by : (whiteout : Bool) (fresh : Fresh ℕ) (stack : Stack ℕ)
      → after_row moved (whiting whiteout fresh stack.mounter from old)
      ≡ name_left_by nat_eq whiteout fresh stack moved from old
  left_by true fresh stack = refl
  left_by false fresh stack = sym (without_name-none moved moved_order from old old_free)

pub marked_by : (opaque : Bool) (files : FileTree ℕ) (object : ℕ)
    → after_row files (marking opaque object) ≡ with_mark nat_eq opaque files object
marked_by true files object = refl
marked_by false files object = refl

-- what follows the move
module _ (whiteout opaque : Bool) (fresh : Fresh ℕ) (stack : Stack ℕ) (from : ℕ) (old : List ℕ) (to : ℕ) (new : List ℕ)
    (object : ℕ) (differ : from ≡ to → old ≢ new) where
  abbrev rest : List (Change ℕ)
  rest = Move from old to new object ∷ (whiting whiteout fresh stack.mounter from old ++ marking opaque object)

  moving : (files : FileTree ℕ) → AreInOrder files → IsDirectory files.tree to
      → after_row files rest
      ≡ with_mark nat_eq opaque (name_left_by nat_eq whiteout fresh stack
      (with_moved nat_eq files from old to new object) from old) object
  moving files order in_directory =
      after_row-append (with_moved nat_eq files from old to new object) (whiting whiteout fresh stack.mounter from old)
      (marking opaque object)
      ∙ ap (λ f. after_row f (marking opaque object))
      (left_by files order from old to new object in_directory differ whiteout fresh stack)
      ∙ marked_by opaque _ object

pub moved_in_a_row : MovedInARow
moved_in_a_row whiteout opaque fresh stack files from to object old new None order plain in_directory differ =
    moving whiteout opaque fresh stack from old to new object differ files order in_directory
moved_in_a_row whiteout opaque fresh stack files from to object old new (Some r) order is in_directory differ =
    after_row-append files (emptying files (Some r)) (rest whiteout opaque fresh stack from old to new object differ)
    ∙ ap (λ f. after_row f (rest whiteout opaque fresh stack from old to new object differ)) (emptied files r order is.2)
    ∙ moving whiteout opaque fresh stack from old to new object differ empty in_order
    (part_stays files r node_without_entries is_directory_node without_entries_keeps.directory to ∙ in_directory)
    ∙ ap (λ f. with_mark nat_eq opaque (name_left_by nat_eq whiteout fresh stack f from old) object)
    (sym (moved_twice empty from old to new object r named))
  where
    empty : FileTree ℕ
    empty = changed_node nat_eq files r node_without_entries

    in_order : AreInOrder empty
    in_order = order_changed files r node_without_entries order
        (ap (is_sorted name_cmp) (entries-node_without_entries (files.tree.node r)))

    named : entry_at empty.tree to new ≡ Some r
    named = ap (λ o. entry_named new (entries_in o)) (elsewhere files r node_without_entries to is.1) ∙ is.0
