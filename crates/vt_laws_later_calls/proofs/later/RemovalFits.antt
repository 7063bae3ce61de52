-- After a granted rmdir ways up stay, but from the directory that was removed: there is W8, or no walk comes there.
use Rattle.std.proofs.Common.{arith, ◌≡◌, ◌≢◌, refl, sym, ap, ◌∙◌, inl, inr, ◌⊎◌, ⊎_elim, true≢false, ℕ, nat_eq, eqb-true, eq-eqb, Bool, true, false, not, ◌&&◌, ◌||◌, List, [], length, Some, None, is_some, option_map}
use Rattle.vt_spec.proofs.Common.{Among, Answer, Call, FileTree, Fresh, IsWorld, Location, Mount, Task, TaskName, ToRemoveDirectory, Tree, World, among-filter, among_from_list_all, and_from, and_parts, any_from_among, child_at, common_steps, denial, directory_from_entry, directory_used, entries_in, entry_at, entry_named, files_at, filesystem_at, filesystem_numbered, holds_of, hop, is_directory_node, is_directory_under, is_lost, is_point, is_removed, list_any, mount_at, mounts_on, node_at, none_is_not, not-false, of_overlay, or_false_left, or_parts, or_right, parent_location, points_of, reached_named, root_of, same_Some, same_location, topmost, upper_points}
use Rattle.vt_laws_later_calls.proofs.Common.{Deny, IsFileTree, IsFoundDirectory, IsPlain, W8, chain_ends_at, found_in, found_itself, not_removed_reached, nowhere_parts, number_numbered, placed_among, tree_here}
use Rattle.vt_laws_later_calls.proofs.later.AfterRemoval.{each, is_left, left, may, mounts_seen, node_left, reaches, root_left, seen_to, shown, spent, spent_shown}
use Rattle.vt_laws_later_calls.proofs.Granted.{HasSucceeded}
use Rattle.vt_laws_later_calls.proofs.later.WaysLeft.{BothAre, FitsWays, GoesUp, top}
use Rattle.vt_laws_later_calls.proofs.later.WaysMounts.{SeenAlike, hop_known, hop_place}
use Rattle.vt_laws_later_calls.proofs.later.WaysRemoved.{nothing_in_it, removed_alone, removed_name}
use Rattle.vt_laws_later_calls.proofs.WaysStay.{mount_root, node_in, tree_in}
use Rattle.vt_laws_later_calls.proofs.WaysTrees.{DirectoryNamesStay, KeepsAbove, KeepsNames, present_later, under_later}

module _ {world : World ℕ} {fresh : Fresh ℕ} {name : TaskName} {call : Call} {answer : Answer}
    (it : HasSucceeded world fresh name call answer) {parent : Location ℕ} {word : List ℕ}
    {object : Location ℕ} (permit_is : it.did.permit ≡ ToRemoveDirectory parent word object) (reader : Task ℕ)
    (roots : reader.root ≡ it.did.task.root) where
  abbrev later : World ℕ
  later = left it permit_is

  abbrev fs : ℕ
  fs = shown it permit_is

  abbrev pub is_later : IsWorld nat_eq later × IsPlain later
  is_later = is_left it permit_is

  abbrev spent_world : World ℕ
  spent_world = spent it permit_is

  abbrev tree : Tree ℕ
  tree = (files_at nat_eq world parent).tree

  parent_directory : is_directory_node (tree.node parent.node) ≡ true
  parent_directory = directory_from_entry word object.node (tree.node parent.node) (may it permit_is).named

  file_tree : IsFileTree (files_at nat_eq world parent)
  file_tree = tree_here world it.is parent parent_directory

  -- the directory that was removed
  abbrev pub IsRemoved : Location ℕ → Type 0
  IsRemoved here = ((mount_at nat_eq world here).filesystem ≡ fs) × (here.node ≡ object.node)

  abbrev ends_at : Location ℕ → Bool
  ends_at here = same_location nat_eq here it.did.task.root || nat_eq here.node (mount_at nat_eq world here).root

  -- it is not that, or `..` stays there
  abbrev pub IsOutside : Location ℕ → Type 0
  IsOutside here = IsRemoved here
      → (same_location nat_eq here it.did.task.root || nat_eq here.node (mount_at nat_eq world here).root) ≡ true

  -- what has entries is not that
  not_above : (number : ℕ) (any : List ℕ) (next : ℕ) → number ≡ fs
      → entry_at (tree_in world number) object.node any ≡ Some next → ⊥
  not_above number any next same e =
      nothing_in_it (files_at nat_eq world parent) parent.node word object.node (may it permit_is) any next (cc)

  not_root : object.node ≢ tree.root
  not_root same = file_tree.tree.root_unnamed parent.node word (cc ((may it permit_is).named))

  module _ (here : Location ℕ)
      (known : BothAre it.is is_later it.did.task reader here) where
    abbrev number : ℕ
    number = (mount_at nat_eq world here).filesystem

    alike : SeenAlike (mount_at nat_eq world here) (mount_at nat_eq later here)
    alike = (mounts_seen it permit_is reader roots).own here.mount known.0.0 known.1.0.0

    files_here : files_at nat_eq later here ≡ (filesystem_numbered nat_eq later number).files
    files_here = cc alike.filesystem

    there : is_some (node_in later number here.node) ≡ true
    there = cc (files_here, directory_used (files_at nat_eq later here).tree here.node known.1.1)

    as_spent : node_in later number here.node ≡ node_in spent_world number here.node
    as_spent = node_left it permit_is number
        here.node there

    tree_later : IsFileTree (filesystem_numbered nat_eq later number).files
    tree_later = rw (← files_here) (tree_here later is_later.0 here known.1.1)

    tree_before : IsFileTree (filesystem_numbered nat_eq world number).files
    tree_before = tree_here world it.is here known.0.1

    root_same : (tree_in later number).root ≡ (tree_in world number).root
    root_same = root_left it permit_is number
        here.node there

    -- from it `..` leads nowhere
    lost_there : IsRemoved here → is_lost nat_eq later here ≡ true
    lost_there removed = ap (λ b. b || not (is_directory_under nat_eq
        (filesystem_numbered nat_eq later (mount_at nat_eq later here).filesystem).files
        (mount_at nat_eq later here).root here.node))
        (ap (λ (f : FileTree ℕ). is_removed nat_eq f.tree here.node) files_here
        ∙ ap (is_removed nat_eq (tree_in later number)) removed.1
        ∙ removed_alone (files_at nat_eq world parent) parent.node word object.node (may it permit_is)
        (tree_in later number) (ap (λ n. node_in later number n) (sym removed.1) ∙ as_spent
        ∙ (λ i. node_in spent_world (removed.0 i) (removed.1 i)) ∙ ap (λ (f : FileTree ℕ). f.tree.node object.node)
        (spent_shown it permit_is)) (λ same. not_root (same ∙ root_same ∙ ap (λ n. (tree_in world n).root) removed.0)))

    -- from another one it leads where it led
    abbrev Keeps : ℕ → Type 0
    Keeps n = number ≡ fs → n ≢ object.node

    above : KeepsAbove Keeps (tree_in world number)
    above directory any next e keeps same at = not_above number any next same (cc at)

    names : DirectoryNamesStay Keeps (tree_in world number) (tree_in later number)
    names directory any next e is_one keeps now =
        by ((each it permit_is number).entry directory any next e)
      where
        node : node_in later number directory ≡ node_in spent_world number directory
        node = node_left it permit_is number
            directory now

        by : (entry_at (tree_in spent_world number) directory any ≡ Some next)
            ⊎ ((entry_at (tree_in spent_world number) directory any ≡ None) × (number ≡ fs) × (next ≡ object.node))
            → entry_at (tree_in later number) directory any ≡ Some next
        by (inl same) = cc node
        by (inr lost) = absurd (keeps lost.1 lost.2)

    goes_up : Keeps here.node → is_lost nat_eq world here ≡ false → GoesUp it.is is_later it.did.task reader here
    goes_up keeps found = record {
      parent = cc (files_here, as_spent, (each it permit_is number).parents here.node keeps);
      not_lost = (λ i. is_removed nat_eq (files_here i).tree here.node
          || not (is_directory_under nat_eq (files_here i) (alike.root i) here.node))
          ∙ (λ i. present i || not (under i));
    }
      where
        parts : (is_removed nat_eq (tree_in world number) here.node ≡ false)
            × (not (is_directory_under nat_eq (filesystem_numbered nat_eq world number).files
            (mount_at nat_eq world here).root here.node) ≡ false)
        parts = or_parts _ _ found

        now_directory : is_directory_node (node_in later number here.node) ≡ true
        now_directory = cc (files_here, known.1.1)

        root_there : is_some (node_in later number (mount_at nat_eq world here).root) ≡ true
        root_there = (λ i. is_some (node_in later (sym alike.filesystem i) (sym alike.root i)))
            ∙ directory_used (files_at nat_eq later here).tree (mount_at nat_eq later here).root
            (mount_root later is_later.0 here.mount known.1.0.0)

        stays : KeepsNames Keeps (filesystem_numbered nat_eq world number).files
            (filesystem_numbered nat_eq later number).files
        stays = record { before = tree_before.tree; after = tree_later; root = root_same; above = above; stay = names }

        present : is_removed nat_eq (tree_in later number) here.node ≡ false
        present = present_later stays known.0.1 now_directory keeps parts.0

        under : is_directory_under nat_eq (filesystem_numbered nat_eq later number).files
            (mount_at nat_eq world here).root here.node ≡ true
        under = under_later stays known.0.1 now_directory keeps parts.0 (mount_at nat_eq world here).root root_there
            (not-false _ parts.1)

    -- and never to it
    up_outside : is_lost nat_eq world here ≡ false → IsRemoved (parent_location nat_eq world here) → ⊥
    up_outside found removed = ⊎_elim (λ root. not_root (cc (removed.1, tree_before.tree.root_parent, removed.0)))
        (λ named. not_above number named.1 here.node removed.0 (cc (
          removed.1,
          tree_before.tree.one_parent named.0
              named.1 here.node named.2 known.0.1,
          named.2,
        ))) (reached_named (tree_in world number) here.node
        (not_removed_reached (tree_in world number) tree_before.tree here.node known.0.1 (or_false_left _ _ found)))

    -- its name leads there no longer
    name_outside : (any : List ℕ) → entry_named any (entries_in (node_at nat_eq world here)) ≡ Some object.node
        → entry_named any (entries_in (node_at nat_eq later here)) ≡ Some object.node → number ≡ fs → ⊥
    name_outside any e f same = none_is_not (entry_named any (entries_in (node_at nat_eq later here))) object.node
        (ap (λ (t : FileTree ℕ). entry_named any (entries_in (t.tree.node here.node))) files_here
        ∙ ap (λ o. entry_named any (entries_in o)) as_spent
        ∙ (λ i. entry_at (tree_in spent_world (same i)) (at i) (word_is i))
        ∙ ap (λ (t : FileTree ℕ). entry_at t.tree parent.node word) (spent_shown it permit_is)
        ∙ removed_name (files_at nat_eq world parent) parent.node word object.node (may it permit_is)) f
      where
        named : entry_at tree here.node any ≡ Some object.node
        named = cc

        is_directory : is_directory_node (tree.node object.node) ≡ true
        is_directory = let seen = seen_to it permit_is in cc (seen.0, seen.2)

        at : here.node ≡ parent.node
        at = sym (file_tree.tree.one_parent here.node any object.node named is_directory)
            ∙ file_tree.tree.one_parent parent.node word object.node (may it permit_is).named
            is_directory

        word_is : any ≡ word
        word_is = file_tree.tree.one_name parent.node any word object.node (cc (at, named)) (may it permit_is).named
            is_directory

  -- Mounts
  root_outside : (a b : Location ℕ) → option_map root_of (child_at nat_eq world.mounts a) ≡ Some b → IsOutside b
  root_outside a b e removed =
      grind (arith, common_steps, none_is_not, found_in, found_itself, same_Some, or_right, eq-eqb)

  over_outside : (place : Location ℕ) → IsOutside place → IsOutside (topmost nat_eq world.mounts place)
  over_outside place outside = chain_ends_at IsOutside (λ here. option_map root_of (child_at nat_eq world.mounts here))
      (λ a b out e. root_outside a b e) (length world.mounts) place place outside

  -- no mount of the task's namespace stands on it
  place_outside : (a b : Location ℕ) → IsFoundDirectory world it.is it.did.task a → hop nat_eq world it.did.task a
      ≡ Some b → IsRemoved b → ⊥
  place_outside a b found e removed = true≢false
      (sym (any_from_among (λ (m : Mount ℕ). holds_of (nat_eq it.did.task.namespace) m.namespace)
      (mounts_on nat_eq world object) mount
      (among-filter (λ (m : Mount ℕ). list_any (λ point. is_point nat_eq world point.0 point.1 m)
      (points_of nat_eq world object)) world.mounts mount there on_it) own) ∙ (reaches it permit_is).1)
    where
      mount : Mount ℕ
      mount = mount_at nat_eq world a

      at : (mount_at nat_eq world a).mount_point ≡ Some b
      at = hop_place world it.is it.did.task a b e

      there : Among (mount_at nat_eq world a) world.mounts
      there = placed_among world.mounts a.mount b at

      same_mount : object.mount ≡ parent.mount
      same_mount = (seen_to it permit_is).0

      number_is : (mount_at nat_eq world b).filesystem ≡ (filesystem_at nat_eq world object).number
      number_is =
          cc (removed.0, same_mount, number_numbered (mount_at nat_eq world object).filesystem world.filesystems)

      on_it : list_any (λ point. is_point nat_eq world point.0 point.1 (mount_at nat_eq world a))
          (points_of nat_eq world object) ≡ true
      on_it = ap (λ b. b || list_any (λ point. is_point nat_eq world point.0 point.1 (mount_at nat_eq world a))
          (of_overlay [] (λ overlay. upper_points world (filesystem_at nat_eq world object) overlay object.node)
          (filesystem_at nat_eq world object))) (ap (holds_of (λ place. nat_eq place.node object.node
          && nat_eq (mount_at nat_eq world place).filesystem (filesystem_at nat_eq world object).number)) at
          ∙ and_from _ _ (eq-eqb b.node object.node removed.1)
          (eq-eqb (mount_at nat_eq world b).filesystem (filesystem_at nat_eq world object).number number_is))

      own : holds_of (nat_eq it.did.task.namespace) (mount_at nat_eq world a).namespace ≡ true
      own = grind (arith, common_steps, true≢false, at, nowhere_parts, among_from_list_all, there, and_parts)

  top_outside : (here : Location ℕ) → IsFoundDirectory world it.is it.did.task here → IsOutside here
      → IsOutside (top it.is is_later it.did.task reader here)
  top_outside here found outside =
      (chain_ends_at (λ (l : Location ℕ). IsFoundDirectory world it.is it.did.task l × IsOutside l)
      (hop nat_eq world it.did.task) (λ a b both e.
      (hop_known world it.is it.did.task a b both.0 e, λ removed. absurd (place_outside a b both.0 e removed)))
      (length world.mounts) here here (found, outside)).1

  -- So ways up stay, where no walk begins in it, or W8 may be the refusal
  module _ (Refused : Deny → Type 0) where
    abbrev pub Fits : Location ℕ → Type 0
    Fits here = Refused (denial W8) ⊎ IsOutside here

    up_fits : (here : Location ℕ) → BothAre it.is is_later it.did.task reader here → Fits here
        → ends_at here ≡ false → is_lost nat_eq world here ≡ false → (GoesUp it.is is_later it.did.task reader here
        × Fits (parent_location nat_eq world here)) ⊎ (Refused (denial W8) × (is_lost nat_eq later here ≡ true))
    up_fits here known fits not_top found =
        by (nat_eq (mount_at nat_eq world here).filesystem fs) (nat_eq here.node object.node) refl refl
      where
        at_it : IsRemoved here → Fits here → (GoesUp it.is is_later it.did.task reader here
            × Fits (parent_location nat_eq world here)) ⊎ (Refused (denial W8) × (is_lost nat_eq later here ≡ true))
        at_it removed (inl refused) = inr (refused, lost_there here known removed)
        at_it removed (inr outside) = cc (outside removed)

        elsewhere : ((mount_at nat_eq world here).filesystem ≡ fs → here.node ≢ object.node)
            → (GoesUp it.is is_later it.did.task reader here
            × Fits (parent_location nat_eq world here)) ⊎ (Refused (denial W8) × (is_lost nat_eq later here ≡ true))
        elsewhere keeps = inl (
          goes_up here known keeps found,
          inr (λ removed. absurd (up_outside here known found removed)),
        )

        by : (p q : Bool) → nat_eq (mount_at nat_eq world here).filesystem fs ≡ p → nat_eq here.node object.node ≡ q
            → (GoesUp it.is is_later it.did.task reader here
            × Fits (parent_location nat_eq world here)) ⊎ (Refused (denial W8) × (is_lost nat_eq later here ≡ true))
        by true true e f = at_it (eqb-true _ _ e, eqb-true _ _ f) fits
        by true false e f = elsewhere (λ same same_node. cc (eq-eqb here.node object.node same_node))
        by false q e f = elsewhere (λ same same_node. cc (eq-eqb (mount_at nat_eq world here).filesystem fs same))

    pub fits_ways : FitsWays it.is is_later it.did.task reader Refused Fits
    fits_ways = record {
      named = λ here any next known fits e f. named here any next known e f fits;
      over = λ place own fits. over place fits;
      hopped = λ here known fits. hopped here known fits;
      up = up_fits;
    }
      where
        named : (here : Location ℕ) (any : List ℕ) (next : ℕ) → BothAre it.is is_later it.did.task reader here
            → entry_named any (entries_in (node_at nat_eq world here)) ≡ Some next
            → entry_named any (entries_in (node_at nat_eq later here)) ≡ Some next
            → Fits here → Fits (record { mount = here.mount; node = next })
        named here any next known e f (inl refused) = inl refused
        named here any next known e f (inr outside) =
            inr (λ removed. absurd (name_outside here known any (cc removed.1) (cc removed.1) removed.0))

        over : (place : Location ℕ) → Fits place → Fits (topmost nat_eq world.mounts place)
        over place (inl refused) = inl refused
        over place (inr outside) = inr (over_outside place outside)

        hopped : (here : Location ℕ) → BothAre it.is is_later it.did.task reader here
            → Fits here → Fits (top it.is is_later it.did.task reader here)
        hopped here known (inl refused) = inl refused
        hopped here known (inr outside) = inr (top_outside here known.0 outside)
