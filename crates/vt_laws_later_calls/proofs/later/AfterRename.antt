-- The world that a granted rename leaves: the object has its new name and what it had, and no mount stands on it.
use Rattle.std.proofs.Common.{inl, inr, arith, ◌≡◌, ◌≢◌, refl, sym, ap, subst, ◌∙◌, true≢false, ℕ, nat_eq, eq-eqb, ne_eqb, Bool, true, false, cond, List, [], length, filter, find, Option, Some, None, is_some, option_map, unwrap_or}
use Rattle.vt_spec.proofs.Common.{cases_Bool, Among, Answer, Call, Change, FileTree, Filesystem, Fresh, IsWorld, Location, Mount, Move, TaskName, ToRename, World, among-filter, among-from_filter, among_from_list_all, and_from, any_from_among, apply, bytes_decides, changed, child_at, common_steps, directory_from_entry, directory_used, entries_in, entry_at, entry_named, files_at, filesystem_at, filesystem_numbered, filesystems-without_replaced, is_among, is_directory_node, is_mount_point_anywhere, is_nowhere_or_attached, is_point, list_any, looks_of, mount_at, mount_lives, mount_numbered, mounts_on, no_filesystem, number-mount_in, points_of, policy, root_of, shown-without_replaced, stands_at, topmost, with_change, without_replaced}
use Rattle.vt_laws_later_calls.proofs.Common.{cases_Option, change_of, IsFileTree, IsKept, IsPlain, MayBeRenamed, SeesTo, found_in, found_itself, found_there, is_entry, is_that_entry, mounts-with_change, move_told, no_way_up, nowhere_parts, number_numbered, numbers_of, numbers_of_trees, replaced_plain, standing_is_computed, stands_there, tree_here, trees_closed}
use Rattle.vt_laws_trees.proofs.layers.layers.LowersKept.{kept_both, kept_same, others_stay}
use Rattle.vt_laws_mounts.proofs.ends.Ending.{replaced_keeps_mounts}
use Rattle.vt_laws_later_calls.proofs.AfterChange.{ChangesTree, as_spent, later_is, later_mounts, sees_to}
use Rattle.vt_laws_later_calls.proofs.Changed.{files_changed}
use Rattle.vt_laws_later_calls.proofs.Granted.{HasSucceeded}
use Rattle.vt_laws_later_calls.proofs.later.WaysMounts.{placed_before, stops}
use Rattle.vt_laws_later_calls.proofs.WaysStay.{node_in, tree_in}

-- Mounts that stand on an object, as its filesystem shows it
module _ (world : World ℕ) (is : IsWorld nat_eq world) (object : Location ℕ)
    (uncovered : is_mount_point_anywhere (looks_of nat_eq world) object ≡ false) where
  -- there is none
  pub none_on_it : (mount : Mount ℕ) (place : Location ℕ) → Among mount world.mounts → mount.mount_point ≡ Some place
      → (mount_at nat_eq world place).filesystem ≡ (mount_at nat_eq world object).filesystem → place.node ≡ object.node
      → ⊥
  none_on_it mount place m at same node =
      true≢false (cc (any_from_among (λ (m : Mount ℕ). is_some m.namespace) (mounts_on nat_eq world object) mount
      (among-filter (λ (m : Mount ℕ). list_any (λ point. is_point nat_eq world point.0 point.1 m)
      (points_of nat_eq world object)) world.mounts mount m on_it) ((elim (cases_Bool (is_some mount.namespace)) [
        | inl e ↦ e
        | inr e ↦ cc ((nowhere_parts mount (among_from_list_all is_nowhere_or_attached world.mounts
            is.mounts.nowhere mount m) e).0)
      ]))))
    where
      number_is : (mount_at nat_eq world place).filesystem ≡ (filesystem_at nat_eq world object).number
      number_is = cc (number_numbered (mount_at nat_eq world object).filesystem world.filesystems)

      on_it : list_any (λ point. is_point nat_eq world point.0 point.1 mount) (points_of nat_eq world object) ≡ true
      on_it = grind (arith, common_steps, and_from, eq-eqb, number_is)

  pub free_over : (place : Location ℕ)
      → (mount_at nat_eq world place).filesystem ≡ (mount_at nat_eq world object).filesystem
      → place.node ≡ object.node → topmost nat_eq world.mounts place ≡ place
  free_over place same node =
      stops (length world.mounts) (λ here. option_map root_of (child_at nat_eq world.mounts here)) place
      ((elim (cases_Option (child_at nat_eq world.mounts place)) [
        | inl e ↦ cc
        | inr its ↦ let found = found_in (stands_at nat_eq place) world.mounts its.0 its.1 in
            absurd (none_on_it its.0 place found.0 (stands_there place its.0 found.1) same node)
      ]))

-- a call has renamed an object on which no mount stands
pub record HasRenamed (world : World ℕ) (fresh : Fresh ℕ) (name : TaskName) (call : Call) (answer : Answer)
    (from : Location ℕ) (old : List ℕ) (to : Location ℕ) (new : List ℕ) (object : Location ℕ)
    (replaced : Option (Location ℕ)) : Type 0 where
  pub success : HasSucceeded world fresh name call answer
  pub permit_is : success.did.permit ≡ ToRename from old to new object replaced
  pub uncovered : is_mount_point_anywhere (looks_of nat_eq world) object ≡ false

module _ {world : World ℕ} {fresh : Fresh ℕ} {name : TaskName} {call : Call} {answer : Answer} {from : Location ℕ}
    {old : List ℕ} {to : Location ℕ} {new : List ℕ} {object : Location ℕ} {replaced : Option (Location ℕ)}
    (renamed : HasRenamed world fresh name call answer from old to new object replaced) where
  abbrev it : HasSucceeded world fresh name call answer
  it = renamed.success

  abbrev pub left : World ℕ
  left = (policy nat_eq fresh world name call).world

  abbrev pub spent : World ℕ
  spent = (apply nat_eq fresh world it.did.task it.did.permit).world

  abbrev pub middle : World ℕ
  middle = without_replaced nat_eq world replaced

  abbrev pub change : Change ℕ
  change = Move from.node old to.node new object.node

  abbrev pub shown : ℕ
  shown = (mount_at nat_eq world from).filesystem

  pub is_left : IsWorld nat_eq left × IsPlain left
  is_left = later_is it

  pub may : MayBeRenamed world from old to new object replaced
  may = subst (SeesTo world it.did.task) renamed.permit_is (sees_to it)

  pub from_directory : is_directory_node ((files_at nat_eq world from).tree.node from.node) ≡ true
  from_directory =
      directory_from_entry old object.node ((files_at nat_eq world from).tree.node from.node) may.moves.named

  pub from_tree : IsFileTree (files_at nat_eq world from)
  from_tree = tree_here world it.is from from_directory

  pub object_shown : (mount_at nat_eq world object).filesystem ≡ shown
  object_shown = cc may.object_mount

  pub to_shown : (mount_at nat_eq world to).filesystem ≡ shown
  to_shown = cc may.to_mount

  -- Filesystems
  middle_plain : IsPlain middle
  middle_plain = replaced_plain world replaced it.plain

  middle_files : files_at nat_eq middle from ≡ files_at nat_eq world from
  middle_files = ap (λ n. (filesystem_numbered nat_eq middle n).files) (shown-without_replaced world replaced from)
      ∙ ap (λ list. (unwrap_or (find (λ (f : Filesystem ℕ). nat_eq shown f.number) list) (no_filesystem shown)).files)
      (filesystems-without_replaced world replaced)

  pub does : spent ≡ with_change nat_eq fresh middle from change
  does = ap (λ p. (apply nat_eq fresh world it.did.task p).world) renamed.permit_is

  spent_shown : (filesystem_numbered nat_eq spent shown).files ≡ changed nat_eq (files_at nat_eq world from) change
  spent_shown = ap (λ w. (filesystem_numbered nat_eq w shown).files) does
      ∙ ap (λ n. (filesystem_numbered nat_eq (with_change nat_eq fresh middle from change) n).files)
      (sym (shown-without_replaced world replaced from)) ∙ files_changed fresh middle middle_plain from change
      (ap (λ (f : FileTree ℕ). is_some (f.tree.node from.node)) middle_files
      ∙ directory_used (files_at nat_eq world from).tree from.node from_directory)
      ∙ ap (λ f. changed nat_eq f change) middle_files

  node_left : (number : ℕ) → is_some (node_in left shown number) ≡ true
      → node_in left shown number ≡ (changed nat_eq (files_at nat_eq world from) change).tree.node number
  node_left number there = cc (as_spent it shown number there, spent_shown)

  entry_left : (directory : ℕ) (word : List ℕ) → is_some (node_in left shown directory) ≡ true
      → entry_at (tree_in left shown) directory word ≡ cond (is_entry to.node new directory word) (Some object.node)
      (cond (is_entry from.node old directory word) None (entry_at (files_at nat_eq world from).tree directory word))
  entry_left directory word there = ap (λ o. entry_named word (entries_in o)) (node_left directory there)
      ∙ move_told (files_at nat_eq world from) from.node old to.node new object.node may.moves.in_directory directory
      word

  entry_itself : (directory : ℕ) (word : List ℕ) → is_entry directory word directory word ≡ true
  entry_itself directory word = cc (eq-eqb directory directory refl, (bytes_decides word word).1 refl)

  -- the object has its new name, and no longer the old one
  pub new_left : is_some (node_in left shown to.node) ≡ true
      → entry_at (tree_in left shown) to.node new ≡ Some object.node
  new_left there = entry_left to.node new there ∙ ap (λ b. cond b (Some object.node)
      (cond (is_entry from.node old to.node new) None (entry_at (files_at nat_eq world from).tree to.node new)))
      (entry_itself to.node new)

  pub old_left : entry_at (files_at nat_eq world from).tree to.node new ≢ Some object.node
      → is_some (node_in left shown from.node) ≡ true → entry_at (tree_in left shown) from.node old ≡ None
  old_left two there = entry_left from.node old there ∙ by (is_entry to.node new from.node old) refl
    where
      by : (b : Bool) → is_entry to.node new from.node old ≡ b
          → cond b (Some object.node) (cond (is_entry from.node old from.node old) None
          (entry_at (files_at nat_eq world from).tree from.node old)) ≡ None
      by true e =
          let same = is_that_entry to.node new from.node old e in
          absurd (two ((λ i. entry_at (files_at nat_eq world from).tree (sym same.0 i) (sym same.1 i))
          ∙ may.moves.named))
      by false e = cc (entry_itself from.node old)

  -- and is as it was
  pub object_kept : IsKept ((files_at nat_eq world from).tree.node object.node)
      ((changed nat_eq (files_at nat_eq world from) change).tree.node object.node)
  object_kept = others_stay (files_at nat_eq world from) change object.node
      (cc (ne_eqb object.node from.node not_from, ne_eqb object.node to.node not_to))
    where
      not_from : object.node ≢ from.node
      not_from same =
          no_way_up (files_at nat_eq world from) from_tree.tree from.node old object.node may.moves.named [] (cc)

      not_to : object.node ≢ to.node
      not_to same = may.moves.not_under [] (cc)

  pub object_left : is_some (node_in left shown object.node) ≡ true
      → IsKept ((files_at nat_eq world from).tree.node object.node) (node_in left shown object.node)
  object_left there = kept_both _ _ _ object_kept (kept_same _ _ (node_left object.node there))

  -- Mounts
  living : left.mounts ≡ filter (mount_lives nat_eq spent) middle.mounts
  living = cc (it.did.left, does, mounts-with_change middle fresh from change)

  in_middle : (mount : Mount ℕ) → Among mount left.mounts → Among mount middle.mounts
  in_middle mount m = (among-from_filter (mount_lives nat_eq spent) middle.mounts mount (rw (← living) m)).0

  placed_in_world : (mount : Mount ℕ) (place : Location ℕ) → Among mount left.mounts → mount.mount_point ≡ Some place
      → (was : Mount ℕ) × Among was world.mounts × (was.mount_point ≡ Some place)
  placed_in_world mount place m e = by replaced (in_middle mount m)
    where
      by : (o : Option (Location ℕ)) → Among mount (without_replaced nat_eq world o).mounts
          → (was : Mount ℕ) × Among was world.mounts × (was.mount_point ≡ Some place)
      by None among = (mount, among, e)
      by (Some gone) among = placed_before world it.is (numbers_of_trees world (mounts_on nat_eq world gone))
          (trees_closed world it.is.mounts.one_number
          ((standing_is_computed world it.is.mounts.one_number).0 it.is.mounts.standing) (mounts_on nat_eq world gone))
          mount place among e

  pub left_mount : (number : ℕ) → is_among nat_eq number (numbers_of left.mounts) ≡ true
      → (mount_numbered nat_eq left number).filesystem ≡ (mount_numbered nat_eq world number).filesystem
  left_mount number listed = ap (λ (m : Mount ℕ). m.filesystem)
      (sym (ap (mount_numbered nat_eq middle) (sym (number-mount_in left.mounts number))
      ∙ found_itself middle.mounts (replaced_keeps_mounts world replaced it.is.mounts).one_number
      (mount_numbered nat_eq left number)
      (in_middle (mount_numbered nat_eq left number) (found_there left.mounts number listed))))
      ∙ shown-without_replaced world replaced (record { mount = number; node = 0 })

  -- none stands on the object
  pub free_left : (place : Location ℕ) → is_among nat_eq place.mount (numbers_of left.mounts) ≡ true
      → (mount_at nat_eq left place).filesystem ≡ shown → place.node ≡ object.node
      → topmost nat_eq left.mounts place ≡ place
  free_left place listed same node =
      stops (length left.mounts) (λ here. option_map root_of (child_at nat_eq left.mounts here)) place
      ((elim (cases_Option (child_at nat_eq left.mounts place)) [
        | inl e ↦ cc
        | inr its ↦ let found = found_in (stands_at nat_eq place) left.mounts its.0 its.1 in
            let was = placed_in_world its.0 place found.0 (stands_there place its.0 found.1) in
            absurd (none_on_it world it.is object renamed.uncovered was.0 place was.1 was.2
            (cc (left_mount place.mount listed, object_shown)) node)
      ]))

-- A rename to a free name changes one tree.
module _ {world : World ℕ} {fresh : Fresh ℕ} {name : TaskName} {call : Call} {answer : Answer} {from : Location ℕ}
    {old : List ℕ} {to : Location ℕ} {new : List ℕ} {object : Location ℕ}
    (renamed : HasRenamed world fresh name call answer from old to new object None) where
  abbrev at : MayBeRenamed world from old to new object None
  at = may renamed

  pub free_name : entry_at (files_at nat_eq world from).tree to.node new ≡ None
  free_name = cc (at.to_mount, none_of (entry_at (files_at nat_eq world to).tree to.node new) (sym at.replaces))
    where
      none_of : (o : Option ℕ) → option_map {U = Location ℕ} (λ number. record { mount = to.mount; node = number }) o
          ≡ None → o ≡ None
      none_of None e = refl
      none_of (Some x) e = cc

  pub asks : change_of fresh world renamed.success.did.permit ≡ Some (from, change renamed)
  asks = cc renamed.permit_is

  abbrev pub changes_tree : ChangesTree renamed.success from (change renamed) fresh
  changes_tree = record {
    asks = asks;
    does = does renamed;
    something = directory_used (files_at nat_eq world from).tree from.node (from_directory renamed);
    may = record { named = at.moves.named; in_directory = at.moves.in_directory };
    tree = from_tree renamed;
  }

  pub mounts_stay : (left renamed).mounts ≡ world.mounts
  mounts_stay = later_mounts renamed.success changes_tree
