-- What a change makes of the upper layer is a row, after its copies.
use Rattle.std.proofs.Common.{◌≡◌, ◌≢◌, refl, sym, ap, subst, ◌∙◌, true≢false, ℕ, ◌+◌, ◌*◌, nat_eq, bytes_eq, Bool, true, List, [], ◌∷◌, ◌++◌, Option, Some, None, is_some, option_and_then}
use Rattle.vt_spec.proofs.Common.{AddName, FileTree, Fresh, IsDirectory, Make, Merge, Node, Stack, Upper, and_from, bytes_eq_itself, changed, content_with_parent, copied_up, directory_used, entries_in, entry_at, evens, is_directory_node, name_left_by, nat_eq_itself, number_at_path, odds, odds-distinct, odds-no_evens, same_Some, upper_directory_named, upper_of, with_mark, with_moved, without_contents}
use Rattle.vt_laws_trees.specs.Trees.{MayMove}
use Rattle.vt_laws_trees.specs.Layers.Layers.ChangesUpper.{StandsInUpper}
use Rattle.vt_laws_trees.specs.Overlays.WhatIsShown.{IsWhole}
use Rattle.vt_laws_trees.proofs.layers.layers.ShownNames.{last_name}
use Rattle.vt_laws_trees.proofs.overlays.changes.WholeTogether.{IsReadyToMove, both_copied, ready_above, twice}
use Rattle.vt_laws_trees.proofs.overlays.steps.WholeAttributes.{upper_real}
use Rattle.vt_laws_trees.proofs.overlays.steps.WholeLines.{IsCopied, object_copied, stands_copied}
use Rattle.vt_laws_trees.proofs.overlays.steps.WholeMovedTree.{IsMoveAbove, to_above, two_names}
use Rattle.vt_laws_trees.proofs.overlays.steps.WholeNames.{directory_stands, top_good}
use Rattle.vt_laws_trees.proofs.overlays.whole.UpperMade.{plain_below}
use Rattle.vt_laws_trees.proofs.overlays.whole.UpperRemoved.{none_named, own_apart, own_entry, own_leaves}
use Rattle.vt_laws_worlds.specs.Merging.UpperCalls.{ChangeAt, changed_above}
use Rattle.vt_laws_worlds.specs.Merging.UpperCalls.Asks.{copies, links, makes, moves, removes, sets_attr, sets_bytes, sets_mark}
use Rattle.vt_laws_worlds.specs.Merging.UpperChanges.{AreNew, IsAt, LeadsToDirectory, Place, copied_for, copied_to, copy_node, directory_above, directory_below, object_above, object_of, seen_below}
use Rattle.vt_laws_worlds.specs.Merging.UpperChanges.Place.{Named}
use Rattle.vt_laws_worlds.proofs.merging.upper.Places.{at_place, path_there}
use Rattle.vt_laws_worlds.proofs.merging.upper.UpperKinds.{even_new, named_is, object_is}
use Rattle.vt_laws_upper_layers.specs.Rows.{AreInOrder, IsEmptied, IsPlainAt, after_row, marking, row_linked, row_made, row_moved, row_removed}
use Rattle.vt_laws_upper_layers.specs.RowsAbove.{CopiesInARow, RowsAreChangesAbove}
use Rattle.vt_laws_upper_layers.proofs.rows.Freed.{after_row-append, linked_in_a_row, made_in_a_row}
use Rattle.vt_laws_upper_layers.proofs.rows.Left.{marked_by, moved_in_a_row, removed_in_a_row}

pub copies_in_a_row : CopiesInARow
copies_in_a_row files directory [] = refl
copies_in_a_row files directory (first ∷ rest) = copies_in_a_row
    (changed nat_eq files (Make directory first.name first.number (copy_node directory first.node))) first.number rest

-- An object at a place is copied
module _ (fresh : Fresh ℕ) {stack : Stack ℕ} {merge : Merge ℕ} (whole : IsWhole stack merge)
    (new : AreNew fresh merge.upper) (object : ℕ) (there : is_some (merge.files.tree.node object) ≡ true) where
  abbrev copy : Merge ℕ
  copy = copied_up nat_eq fresh merge object

  line : IsCopied stack fresh merge copy
  line = (object_copied stack fresh new.distinct merge object whole new.unused there).copied

  stands : StandsInUpper copy object
  stands = stands_copied stack fresh new.distinct merge object whole new.unused there

  upper_is : (place : Place) → IsAt merge object place → copy.upper ≡ copied_for fresh stack merge.upper place
  upper_is place is = (at_place fresh stack merge whole new object there place is).0

  later_leads : (path : List (List ℕ)) (number : ℕ) → number_at_path merge.files path ≡ Some number
      → number_at_path copy.files path ≡ Some number
  later_leads path number leads = ap (λ files. number_at_path files path) line.files ∙ leads

  later_directory : (path : List (List ℕ)) (directory : ℕ) → LeadsToDirectory merge path directory
      → LeadsToDirectory copy path directory
  later_directory path directory is = (
    later_leads path directory is.0,
    ap (λ files. is_directory_node (files.tree.node directory)) line.files ∙ is.1,
  )

  -- a new number that is not handed to the copies is still none
  still_new : (other : Fresh ℕ) → ((j k : ℕ) → other j ≡ other k → j ≡ k)
      → ((k : ℕ) → merge.upper.tree.node (other k) ≡ None) → ((k j : ℕ) → other k ≢ fresh j)
      → AreNew other copy.upper
  still_new other distinct unused apart =
      record { distinct = distinct; unused = λ k. line.vacant (other k) (unused k) (λ j. apart k j) }

-- A directory of the overlay in the upper layer, where names stand in order
module _ {stack : Stack ℕ} {now : Merge ℕ} (whole : IsWhole stack now) (directory : ℕ)
    (stands : StandsInUpper now directory) (path : List (List ℕ)) (is : LeadsToDirectory now path directory) where
  abbrev up : ℕ
  up = upper_of now directory

  real_is : now.real directory ≡ Some (Upper (upper_of now directory))
  real_is = upper_real now directory stands

  in_order : AreInOrder now.upper
  in_order = (top_good stack now whole).tree.in_order

  up_directory : IsDirectory now.upper.tree (upper_of now directory)
  up_directory = directory_stands stack now whole directory (upper_of now directory) real_is ∙ is.1

  up_differs : (number : ℕ) → now.upper.tree.node number ≡ None → upper_of now directory ≢ number
  up_differs number none same = true≢false (sym (directory_used now.upper.tree (upper_of now directory) up_directory)
      ∙ ap (λ k. is_some (now.upper.tree.node k)) same ∙ ap is_some none)

  up_is : upper_of now directory ≡ object_above stack now.upper path
  up_is = object_is stack now whole path directory is.0 stands

  -- a name that is free in the overlay
  free_plain : (name : List ℕ) → entry_at now.files.tree directory name ≡ None
      → IsPlainAt now.upper (upper_of now directory) name
  free_plain name free = plain_below whole directory (upper_of now directory) real_is path is.0 name free

  -- a name of an object in which nothing is shown
  emptied_there : (name : List ℕ)
      → ((n : ℕ) → entry_at now.files.tree directory name ≡ Some n → entries_in (now.files.tree.node n) ≡ [])
      → (o : Option ℕ) → upper_directory_named now directory name ≡ o
      → IsEmptied now.upper (upper_of now directory) name o
  emptied_there name empty None e = none_named whole directory (upper_of now directory) real_is path is.0 name e
  emptied_there name empty (Some r) e = (
    own_entry whole directory (upper_of now directory) real_is path is.0 name r e empty,
    own_apart whole directory (upper_of now directory) real_is path is.0 name r e empty,
    own_leaves whole directory (upper_of now directory) real_is path is.0 name r e empty,
  )

  emptied_differs : (name : List ℕ)
      → ((n : ℕ) → entry_at now.files.tree directory name ≡ Some n → entries_in (now.files.tree.node n) ≡ [])
      → (number : ℕ) → now.upper.tree.node number ≡ None → upper_directory_named now directory name ≢ Some number
  emptied_differs name empty number none e =
      true≢false (sym ((top_good stack now whole).tree.alive (upper_of now directory) name number
      (own_entry whole directory (upper_of now directory) real_is path is.0 name number e empty)) ∙ ap is_some none)

odds_apart : (fresh : Fresh ℕ) → ((j k : ℕ) → fresh j ≡ fresh k → j ≡ k) → (k j : ℕ) → odds fresh k ≢ evens fresh j
odds_apart fresh distinct k j same = odds-no_evens fresh distinct k j same

-- numbers at odd places, after copies by those at even ones
module _ (fresh : Fresh ℕ) {stack : Stack ℕ} {merge : Merge ℕ} (whole : IsWhole stack merge)
    (new : AreNew fresh merge.upper) (object : ℕ) (there : is_some (merge.files.tree.node object) ≡ true) where
  even : AreNew (evens fresh) merge.upper
  even = even_new fresh merge.upper new

  odd_then : AreNew (odds fresh) (copied_up nat_eq (evens fresh) merge object).upper
  odd_then = still_new (evens fresh) whole even object there (odds fresh) (odds-distinct fresh new.distinct)
      (λ k. new.unused (2 * k + 1)) (odds_apart fresh new.distinct)

-- A new object
made_row : (fresh : Fresh ℕ) (stack : Stack ℕ) (merge : Merge ℕ) (whole : IsWhole stack merge)
    (new : AreNew fresh merge.upper) (path : List (List ℕ)) (directory number : ℕ) (name : List ℕ) (node : Node ℕ)
    → LeadsToDirectory merge path directory → entry_at merge.files.tree directory name ≡ None
    → after_row (copied_to (evens fresh) stack merge.upper path)
    (row_made (copied_to (evens fresh) stack merge.upper path)
    (object_above stack (copied_to (evens fresh) stack merge.upper path) path) name (odds fresh 0)
    (record {
      attr = node.attr;
      content = content_with_parent (object_above stack (copied_to (evens fresh) stack merge.upper path) path) node.content;
    }) ++ marking (directory_below stack merge.upper (path ++ name ∷ [])) (odds fresh 0))
    ≡ changed_above fresh stack merge.upper (ChangeAt.MakeAt path name node)
made_row fresh stack merge whole new path directory number name node is free =
    subst (λ u. Says u (object_above stack u path)) (upper_is (evens fresh) whole one directory there (Named path) is.0)
    (subst (Says now.upper) (up_is now_whole directory now_stands path now_leads) (
    after_row-append now.upper (row_made now.upper ud name (odds fresh 0) (put ud)) (marking mark (odds fresh 0))
    ∙ ap (λ u. after_row u (marking mark (odds fresh 0)))
    (made_in_a_row now.upper ud (odds fresh 0) name (put ud) (in_order now_whole directory now_stands path now_leads)
    (free_plain now_whole directory now_stands path now_leads name
    (ap (λ files. entry_at files.tree directory name) now_line.files ∙ free))
    (up_differs now_whole directory now_stands path now_leads (odds fresh 0)
    ((odd_then fresh whole new directory there).unused 0)))
    ∙ marked_by mark (changed nat_eq now.upper (Make ud name (odds fresh 0) (put ud))) (odds fresh 0)
    ))
  where
    one : AreNew (evens fresh) merge.upper
    one = even_new fresh merge.upper new

    there : is_some (merge.files.tree.node directory) ≡ true
    there = path_there stack merge whole path directory is.0

    now : Merge ℕ
    now = copied_up nat_eq (evens fresh) merge directory

    now_line : IsCopied stack (evens fresh) merge (copied_up nat_eq (evens fresh) merge directory)
    now_line = line (evens fresh) whole one directory there

    now_whole : IsWhole stack (copied_up nat_eq (evens fresh) merge directory)
    now_whole = now_line.whole

    now_stands : StandsInUpper (copied_up nat_eq (evens fresh) merge directory) directory
    now_stands = stands (evens fresh) whole one directory there

    now_leads : LeadsToDirectory (copied_up nat_eq (evens fresh) merge directory) path directory
    now_leads = later_directory (evens fresh) whole one directory there path directory is

    ud : ℕ
    ud = upper_of now directory

    mark : Bool
    mark = directory_below stack merge.upper (path ++ name ∷ [])

    put : ℕ → Node ℕ
    put parent = record { attr = node.attr; content = content_with_parent parent node.content }

    Says : FileTree ℕ → ℕ → Type 0
    Says u p = after_row u (row_made u p name (odds fresh 0) (put p) ++ marking mark (odds fresh 0))
        ≡ with_mark nat_eq mark (changed nat_eq u (Make p name (odds fresh 0) (put p))) (odds fresh 0)

-- A name that is removed
removed_row : (fresh : Fresh ℕ) (stack : Stack ℕ) (merge : Merge ℕ) (whole : IsWhole stack merge)
    (new : AreNew fresh merge.upper) (path : List (List ℕ)) (directory : ℕ) (name : List ℕ)
    → LeadsToDirectory merge path directory
    → ((n : ℕ) → entry_at merge.files.tree directory name ≡ Some n → entries_in (merge.files.tree.node n) ≡ [])
    → after_row (copied_to (evens fresh) stack merge.upper path)
    (row_removed (is_some (seen_below stack merge.upper (path ++ name ∷ []))) (odds fresh) stack.mounter
    (copied_to (evens fresh) stack merge.upper path)
    (object_above stack (copied_to (evens fresh) stack merge.upper path) path) name
    (directory_above stack (copied_to (evens fresh) stack merge.upper path) (path ++ name ∷ [])))
    ≡ changed_above fresh stack merge.upper (ChangeAt.RemoveAt path name)
removed_row fresh stack merge whole new path directory name is bare =
    subst (λ u. Says u (object_above stack u path) (directory_above stack u (path ++ name ∷ [])))
    (upper_is (evens fresh) whole one directory there (Named path) is.0)
    (subst (λ p. Says now.upper p (directory_above stack now.upper (path ++ name ∷ [])))
    (up_is now_whole directory now_stands path now_leads)
    (subst (Says now.upper (upper_of now directory)) (named_is stack now now_whole path directory now_leads name)
    (removed_in_a_row white (odds fresh) stack now.upper (upper_of now directory) name
    (upper_directory_named now directory name) (in_order now_whole directory now_stands path now_leads)
    (emptied_there now_whole directory now_stands path now_leads name now_bare _ refl)
    (up_differs now_whole directory now_stands path now_leads (odds fresh 0) unused)
    (emptied_differs now_whole directory now_stands path now_leads name now_bare (odds fresh 0) unused))))
  where
    one : AreNew (evens fresh) merge.upper
    one = even_new fresh merge.upper new

    there : is_some (merge.files.tree.node directory) ≡ true
    there = path_there stack merge whole path directory is.0

    now : Merge ℕ
    now = copied_up nat_eq (evens fresh) merge directory

    now_line : IsCopied stack (evens fresh) merge (copied_up nat_eq (evens fresh) merge directory)
    now_line = line (evens fresh) whole one directory there

    now_whole : IsWhole stack (copied_up nat_eq (evens fresh) merge directory)
    now_whole = now_line.whole

    now_stands : StandsInUpper (copied_up nat_eq (evens fresh) merge directory) directory
    now_stands = stands (evens fresh) whole one directory there

    now_leads : LeadsToDirectory (copied_up nat_eq (evens fresh) merge directory) path directory
    now_leads = later_directory (evens fresh) whole one directory there path directory is

    now_bare : (n : ℕ) → entry_at (copied_up nat_eq (evens fresh) merge directory).files.tree directory name ≡ Some n
        → entries_in ((copied_up nat_eq (evens fresh) merge directory).files.tree.node n) ≡ []
    now_bare n e = ap (λ files. entries_in (files.tree.node n)) now_line.files
        ∙ bare n (ap (λ files. entry_at files.tree directory name) (sym now_line.files) ∙ e)

    unused : (copied_up nat_eq (evens fresh) merge directory).upper.tree.node (odds fresh 0) ≡ None
    unused = (odd_then fresh whole new directory there).unused 0

    white : Bool
    white = is_some (seen_below stack merge.upper (path ++ name ∷ []))

    Says : FileTree ℕ → ℕ → Option ℕ → Type 0
    Says u p gone = after_row u (row_removed white (odds fresh) stack.mounter u p name gone)
        ≡ without_contents nat_eq (name_left_by nat_eq white (odds fresh) stack u p name) gone

-- A further name
linked_row : (fresh : Fresh ℕ) (stack : Stack ℕ) (merge : Merge ℕ) (whole : IsWhole stack merge)
    (new : AreNew fresh merge.upper) (old : Place) (path : List (List ℕ)) (directory object : ℕ) (name : List ℕ)
    → LeadsToDirectory merge path directory → entry_at merge.files.tree directory name ≡ None
    → is_some (merge.files.tree.node object) ≡ true → IsAt merge object old
    → after_row (copied_to (odds fresh) stack (copied_for (evens fresh) stack merge.upper old) path)
    (row_linked (copied_to (odds fresh) stack (copied_for (evens fresh) stack merge.upper old) path)
    (object_above stack (copied_to (odds fresh) stack (copied_for (evens fresh) stack merge.upper old) path) path) name
    (object_of (evens fresh) stack merge.upper old))
    ≡ changed_above fresh stack merge.upper (ChangeAt.LinkAt old path name)
linked_row fresh stack merge whole new old path directory object name is free used at_old =
    subst (λ u. Says u (object_above stack u path))
    (upper_is (odds fresh) first_line.whole two directory there (Named path) leads.0
    ∙ ap (λ u. copied_to (odds fresh) stack u path) (upper_is (evens fresh) whole one object used old at_old))
    (subst (Says second.upper) (up_is second_line.whole directory second_stands path second_leads)
    (linked_in_a_row second.upper (upper_of second directory) own name
    (in_order second_line.whole directory second_stands path second_leads)
    (free_plain second_line.whole directory second_stands path second_leads name
    (ap (λ files. entry_at files.tree directory name) (second_line.files ∙ first_line.files) ∙ free))))
  where
    one : AreNew (evens fresh) merge.upper
    one = even_new fresh merge.upper new

    first : Merge ℕ
    first = copied_up nat_eq (evens fresh) merge object

    first_line : IsCopied stack (evens fresh) merge (copied_up nat_eq (evens fresh) merge object)
    first_line = line (evens fresh) whole one object used

    two : AreNew (odds fresh) (copied_up nat_eq (evens fresh) merge object).upper
    two = odd_then fresh whole new object used

    leads : LeadsToDirectory (copied_up nat_eq (evens fresh) merge object) path directory
    leads = later_directory (evens fresh) whole one object used path directory is

    there : is_some ((copied_up nat_eq (evens fresh) merge object).files.tree.node directory) ≡ true
    there = path_there stack (copied_up nat_eq (evens fresh) merge object) first_line.whole path directory leads.0

    second : Merge ℕ
    second = copied_up nat_eq (odds fresh) (copied_up nat_eq (evens fresh) merge object) directory

    second_line : IsCopied stack (odds fresh) (copied_up nat_eq (evens fresh) merge object)
        (copied_up nat_eq (odds fresh) (copied_up nat_eq (evens fresh) merge object) directory)
    second_line = line (odds fresh) first_line.whole two directory there

    second_stands : StandsInUpper (copied_up nat_eq (odds fresh) (copied_up nat_eq (evens fresh) merge object) directory)
        directory
    second_stands = stands (odds fresh) first_line.whole two directory there

    second_leads : LeadsToDirectory
        (copied_up nat_eq (odds fresh) (copied_up nat_eq (evens fresh) merge object) directory) path directory
    second_leads = later_directory (odds fresh) first_line.whole two directory there path directory leads

    own : ℕ
    own = object_of (evens fresh) stack merge.upper old

    Says : FileTree ℕ → ℕ → Type 0
    Says u p = after_row u (row_linked u p name own) ≡ changed nat_eq u (AddName p name own)

-- A move
moved_row : (fresh : Fresh ℕ) (stack : Stack ℕ) (merge : Merge ℕ) (whole : IsWhole stack merge)
    (new : AreNew fresh merge.upper) (from_path to_path : List (List ℕ)) (from to object : ℕ) (old new_name : List ℕ)
    → number_at_path merge.files from_path ≡ Some from → number_at_path merge.files to_path ≡ Some to
    → MayMove merge.files.tree from old to new_name object
    → (made : FileTree ℕ)
    → made ≡ copied_to (evens (odds fresh)) stack (copied_to (evens fresh) stack merge.upper (from_path ++ old ∷ []))
    to_path
    → after_row made
    (row_moved (is_some (seen_below stack merge.upper (from_path ++ old ∷ [])))
    (directory_below stack merge.upper (to_path ++ new_name ∷ [])) (odds (odds fresh)) stack.mounter made
    (object_above stack made from_path) old (object_above stack made to_path) new_name
    (object_above stack made (from_path ++ old ∷ [])) (directory_above stack made (to_path ++ new_name ∷ [])))
    ≡ with_mark nat_eq (directory_below stack merge.upper (to_path ++ new_name ∷ []))
    (name_left_by nat_eq (is_some (seen_below stack merge.upper (from_path ++ old ∷ []))) (odds (odds fresh)) stack
    (with_moved nat_eq (without_contents nat_eq made (directory_above stack made (to_path ++ new_name ∷ [])))
    (object_above stack made from_path) old (object_above stack made to_path) new_name
    (object_above stack made (from_path ++ old ∷ [])))
    (object_above stack made from_path) old)
    (object_above stack made (from_path ++ old ∷ []))
moved_row fresh stack merge whole new from_path to_path from to object old new_name from_leads to_leads may made is =
    subst (λ u. Says u (object_above stack u from_path) (object_above stack u to_path)
    (object_above stack u (from_path ++ old ∷ [])) (directory_above stack u (to_path ++ new_name ∷ [])))
    (upper_two ∙ sym is)
    (subst (λ p. Says two.upper p (object_above stack two.upper to_path)
    (object_above stack two.upper (from_path ++ old ∷ [])) (directory_above stack two.upper (to_path ++ new_name ∷ [])))
    (object_is stack two ready.whole from_path from (two_leads from_path from from_leads) ready.from)
    (subst (λ p. Says two.upper (upper_of two from) p
    (object_above stack two.upper (from_path ++ old ∷ [])) (directory_above stack two.upper (to_path ++ new_name ∷ [])))
    (object_is stack two ready.whole to_path to to_now.0 ready.to)
    (subst (λ p. Says two.upper (upper_of two from) (upper_of two to) p
    (directory_above stack two.upper (to_path ++ new_name ∷ [])))
    (object_is stack two ready.whole (from_path ++ old ∷ []) object
    (two_leads (from_path ++ old ∷ []) object leads) ready.object)
    (subst (Says two.upper (upper_of two from) (upper_of two to) (upper_of two object))
    (named_is stack two ready.whole to_path to to_now new_name)
    (moved_in_a_row white mark (odds (odds fresh)) stack two.upper (upper_of two from) (upper_of two to)
    (upper_of two object) old new_name (upper_directory_named two to new_name)
    (in_order ready.whole to ready.to to_path to_now)
    (emptied_there ready.whole to ready.to to_path to_now new_name ready.may.replaced_empty _ refl)
    (to_above it).directory
    (λ same named. two_names it (upper_of two from) old
    (and_from _ _ (sym (ap (λ k. nat_eq (upper_of two from) k) same) ∙ nat_eq_itself
    (upper_of two from)) (ap (bytes_eq old) (sym named) ∙ bytes_eq_itself old))
    (and_from _ _ (nat_eq_itself (upper_of two from)) (bytes_eq_itself old))))))))
  where
    one : AreNew (evens fresh) merge.upper
    one = even_new fresh merge.upper new

    leads : number_at_path merge.files (from_path ++ old ∷ []) ≡ Some object
    leads = last_name merge.files.tree merge.files.tree.root from_path old
        ∙ ap (option_and_then (λ d. entry_at merge.files.tree d old)) from_leads ∙ may.named

    there : is_some (merge.files.tree.node object) ≡ true
    there = path_there stack merge whole (from_path ++ old ∷ []) object leads

    first : Merge ℕ
    first = copied_up nat_eq (evens fresh) merge object

    first_line : IsCopied stack (evens fresh) merge (copied_up nat_eq (evens fresh) merge object)
    first_line = line (evens fresh) whole one object there

    even_two : AreNew (evens (odds fresh)) (copied_up nat_eq (evens fresh) merge object).upper
    even_two = even_new (odds fresh) (copied_up nat_eq (evens fresh) merge object).upper
        (odd_then fresh whole new object there)

    to_first : number_at_path (copied_up nat_eq (evens fresh) merge object).files to_path ≡ Some to
    to_first = later_leads (evens fresh) whole one object there to_path to to_leads

    two : Merge ℕ
    two = both_copied fresh stack merge from old to new_name object

    ready : IsReadyToMove fresh stack merge from old to new_name object
        (both_copied fresh stack merge from old to new_name object)
    ready = twice fresh stack merge whole new.distinct new.unused from old to new_name object may

    it : IsMoveAbove (odds (odds fresh)) stack (both_copied fresh stack merge from old to new_name object) from old to
        new_name object
    it = ready_above ready

    two_leads : (path : List (List ℕ)) (number : ℕ) → number_at_path merge.files path ≡ Some number
        → number_at_path (both_copied fresh stack merge from old to new_name object).files path ≡ Some number
    two_leads path number e = ap (λ files. number_at_path files path) ready.files ∙ e

    to_now : LeadsToDirectory (both_copied fresh stack merge from old to new_name object) to_path to
    to_now = (two_leads to_path to to_leads, ready.may.in_directory)

    upper_two : (both_copied fresh stack merge from old to new_name object).upper
        ≡ copied_to (evens (odds fresh)) stack (copied_to (evens fresh) stack merge.upper (from_path ++ old ∷ [])) to_path
    upper_two =
        upper_is (evens (odds fresh)) first_line.whole even_two to
        (path_there stack (copied_up nat_eq (evens fresh) merge object) first_line.whole to_path to to_first)
        (Named to_path) to_first
        ∙ ap (λ u. copied_to (evens (odds fresh)) stack u to_path)
        (upper_is (evens fresh) whole one object there (Named (from_path ++ old ∷ [])) leads)

    white : Bool
    white = is_some (seen_below stack merge.upper (from_path ++ old ∷ []))

    mark : Bool
    mark = directory_below stack merge.upper (to_path ++ new_name ∷ [])

    Says : FileTree ℕ → ℕ → ℕ → ℕ → Option ℕ → Type 0
    Says u f t o gone =
        after_row u (row_moved white mark (odds (odds fresh)) stack.mounter u f old t new_name o gone)
        ≡ with_mark nat_eq mark (name_left_by nat_eq white (odds (odds fresh)) stack
        (with_moved nat_eq (without_contents nat_eq u gone) f old t new_name o) f old) o

pub rows_are_changes_above : RowsAreChangesAbove
rows_are_changes_above fresh stack merge whole new change at asked (makes path directory name number node is) =
    made_row fresh stack merge whole new path directory number name node is asked.0.name_is_free.free
rows_are_changes_above fresh stack merge whole new change at asked (links old path directory object name is at_old) =
    linked_row fresh stack merge whole new old path directory object name is asked.name_is_free.free at_old.0 at_old.1
rows_are_changes_above fresh stack merge whole new change at asked (removes path directory object name is) =
    removed_row fresh stack merge whole new path directory name is
    (λ n e. ap (λ k. entries_in (merge.files.tree.node k))
    (same_Some n object (sym e ∙ asked.named)) ∙ asked.empty)
rows_are_changes_above fresh stack merge whole new change at asked
    (moves from_path to_path from to object old new_name from_is to_is may) =
    moved_row fresh stack merge whole new from_path to_path from to object old new_name from_is to_is may _ refl
rows_are_changes_above fresh stack merge whole new change at asked (sets_bytes file place bytes is) = refl
rows_are_changes_above fresh stack merge whole new change at asked (sets_attr object place attr is) = refl
rows_are_changes_above fresh stack merge whole new change at asked (sets_mark directory place opaque is) = refl
rows_are_changes_above fresh stack merge whole new change at asked (copies object place is) = refl
