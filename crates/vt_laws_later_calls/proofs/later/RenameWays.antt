-- After a granted rename of a directory to a free name ways up stay, from wherever a walk that begins outside of it
-- comes.
use Rattle.std.proofs.Common.{arith, ◌≡◌, ◌≢◌, refl, sym, ap, subst, ◌∙◌, inl, inr, ◌⊎◌, ⊎_elim, true≢false, ℕ, nat_eq, eqb-true, eq-eqb, Bool, true, false, cond, not, ◌||◌, List, [], ◌∷◌, ◌++◌, length, Option, Some, None, is_some, option_and_then}
use Rattle.vt_spec.proofs.Common.{Answer, Call, FileTree, Fresh, IsReached, IsWorld, Location, Mount, Task, TaskName, Tree, World, chain, common_steps, denial, directory_used, entries_in, entry_at, entry_named, files_at, filesystem_numbered, found, hop, is_directory_node, is_directory_under, is_lost, is_removed, last_or, led, mount_at, mount_in, mount_numbered, node_at, none_is_not, not-false, or_parts, parent_in, parent_location, reached_named, same_location, topmost}
use Rattle.vt_laws_later_calls.proofs.Common.{Deny, IsFileTree, IsFoundDirectory, IsPlain, W8, chain_ends_at, last_step, led_parts, not_removed_reached, tree_here, under_seen}
use Rattle.vt_laws_later_calls.proofs.later.AfterRename.{mounts_stay, old_left}
use Rattle.vt_laws_later_calls.proofs.Granted.{HasSucceeded}
use Rattle.vt_laws_later_calls.proofs.later.RenameFits.{HasMoved, Fits, InIt, IsMovedIn, each, file_tree, from_outside, fs, in_further, in_reached, its_entry, later, left_is, node_left, over_fits, point_fits, root_left, seen, spent, tree}
use Rattle.vt_laws_later_calls.proofs.later.WaysLeft.{BothAre, FitsWays, GoesUp, MountsSeen, top}
use Rattle.vt_laws_later_calls.proofs.later.WaysMounts.{SeenAlike, hop_known}
use Rattle.vt_laws_later_calls.proofs.WaysStay.{mount_root, node_in, tree_in}
use Rattle.vt_laws_later_calls.proofs.WaysTrees.{DirectoryNamesStay, KeepsAbove, KeepsNames, present_later, reached_not_removed, under_later, under_led}

-- the mount of a task's steps upwards
abbrev hop_by : List (Mount ℕ) → Location ℕ → Location ℕ → Option (Location ℕ)
hop_by mounts root here = cond (same_location nat_eq here root) None
    (cond (nat_eq here.node (mount_in nat_eq mounts here.mount).root)
    (mount_in nat_eq mounts here.mount).mount_point None)

abbrev top_by : List (Mount ℕ) → Location ℕ → Location ℕ → Location ℕ
top_by mounts root here = last_or here (chain (length mounts) (hop_by mounts root) here)

module _ {world : World ℕ} {fresh : Fresh ℕ} {name : TaskName} {call : Call} {answer : Answer} {from : Location ℕ}
    {old : List ℕ} {to : Location ℕ} {new : List ℕ} {object : Location ℕ}
    (moved : HasMoved world fresh name call answer from old to new object) (reader : Task ℕ)
    (roots : reader.root ≡ moved.renamed.success.did.task.root) where
  abbrev it : HasSucceeded world fresh name call answer
  it = moved.renamed.success

  abbrev left_world : World ℕ
  left_world = later moved

  abbrev own_fs : ℕ
  own_fs = fs moved

  abbrev is_left : IsWorld nat_eq left_world × IsPlain left_world
  is_left = left_is moved

  abbrev Inside : ℕ → Type 0
  Inside = InIt moved

  abbrev FitsIn : Location ℕ → Type 0
  FitsIn = Fits moved

  abbrev BothDirectories : Location ℕ → Type 0
  BothDirectories = BothAre it.is is_left it.did.task reader

  abbrev Up : Location ℕ → Type 0
  Up = GoesUp it.is is_left it.did.task reader

  abbrev spent_world : World ℕ
  spent_world = spent moved

  abbrev whole : Tree ℕ
  whole = tree moved

  whole_is : IsFileTree (files_at nat_eq world from)
  whole_is = file_tree moved

  each_in : (number : ℕ) → IsMovedIn object.node (number ≡ own_fs) (tree_in world number) (tree_in spent_world number)
  each_in = each moved

  left_node : (filesystem number : ℕ) → is_some (node_in left_world filesystem number) ≡ true
      → node_in left_world filesystem number ≡ node_in spent_world filesystem number
  left_node = node_left moved

  further : (here : ℕ) (any : List ℕ) (next : ℕ) → Inside here → entry_at whole here any ≡ Some next → Inside next
  further = in_further moved

  not_around : Inside from.node → ⊥
  not_around = from_outside moved

  reached_in : (n : ℕ) → Inside n → IsReached whole n
  reached_in = in_reached moved

  points_fit : (a b : Location ℕ) → IsFoundDirectory world it.is it.did.task a → hop nat_eq world it.did.task a ≡ Some b
      → FitsIn b
  points_fit = point_fits moved

  places_fit : (place : Location ℕ) → FitsIn place → FitsIn (topmost nat_eq world.mounts place)
  places_fit = over_fits moved

  only_entry : (here : ℕ) (any : List ℕ) → entry_at whole here any ≡ Some object.node → (here ≡ from.node) × (any ≡ old)
  only_entry = its_entry moved

  pub mounts_seen : MountsSeen
      it.is (left_is moved) it.did.task reader
  mounts_seen = record {
    own = λ number own listed. alike_by number;
    topmost_is = λ place own. cc same;
    top_is = λ here known. λ i. top_by (same i) (roots i) here;
  }
    where
      same : left_world.mounts ≡ world.mounts
      same = mounts_stay moved.renamed

      mount_same : (number : ℕ) → mount_numbered nat_eq left_world number ≡ mount_numbered nat_eq world number
      mount_same number = cc same

      alike_by : (number : ℕ) → SeenAlike (mount_numbered nat_eq world number) (mount_numbered nat_eq left_world number)
      alike_by number = grind (arith, common_steps, mount_same)

  module _ (here : Location ℕ) (known : BothDirectories here) where
    abbrev number : ℕ
    number = (mount_at nat_eq world here).filesystem

    alike : SeenAlike (mount_at nat_eq world here) (mount_at nat_eq left_world here)
    alike = mounts_seen.own here.mount known.0.0 known.1.0.0

    files_here : files_at nat_eq left_world here ≡ (filesystem_numbered nat_eq left_world number).files
    files_here = cc alike.filesystem

    there : is_some (node_in left_world number here.node) ≡ true
    there = cc (files_here, directory_used (files_at nat_eq left_world here).tree here.node known.1.1)

    as_spent : node_in left_world number here.node ≡ node_in spent_world number here.node
    as_spent = left_node number here.node there

    tree_later : IsFileTree (filesystem_numbered nat_eq left_world number).files
    tree_later = rw (← files_here) (tree_here left_world is_left.0 here known.1.1)

    tree_before : IsFileTree (filesystem_numbered nat_eq world number).files
    tree_before = tree_here world it.is here known.0.1

    root_same : (tree_in left_world number).root ≡ (tree_in world number).root
    root_same = root_left moved number here.node there

    now_directory : is_directory_node (node_in left_world number here.node) ≡ true
    now_directory = cc (files_here, known.1.1)

    root_there : is_some (node_in left_world number (mount_at nat_eq world here).root) ≡ true
    root_there = (λ i. is_some (node_in left_world (sym alike.filesystem i) (sym alike.root i)))
        ∙ directory_used (files_at nat_eq left_world here).tree (mount_at nat_eq left_world here).root
        (mount_root left_world is_left.0 here.mount known.1.0.0)

    -- an entry of what lies in no other directory stays, but for the one that was moved
    entry_later : (at : ℕ) (any : List ℕ) (next : ℕ) → entry_at (tree_in world number) at any ≡ Some next
        → (number ≡ own_fs → next ≢ object.node) → is_some (node_in left_world number at) ≡ true
        → entry_at (tree_in left_world number) at any ≡ Some next
    entry_later at any next e differs now = by ((each_in number).entry at any next e)
      where
        node : node_in left_world number at ≡ node_in spent_world number at
        node = left_node number at now

        by : (entry_at (tree_in spent_world number) at any ≡ Some next)
            ⊎ ((entry_at (tree_in spent_world number) at any ≡ None) × (number ≡ own_fs) × (next ≡ object.node))
            → entry_at (tree_in left_world number) at any ≡ Some next
        by (inl same) = cc (node, same)
        by (inr lost) = absurd (differs lost.1 lost.2)

    goes : parent_in here.node (node_in left_world number here.node)
        ≡ parent_in here.node (node_in world number here.node)
        → is_removed nat_eq (tree_in left_world number) here.node ≡ false
        → is_directory_under nat_eq (filesystem_numbered nat_eq left_world number).files
        (mount_at nat_eq world here).root here.node ≡ true → Up here
    goes parent present under = record {
      parent = cc files_here;
      not_lost = (λ i. is_removed nat_eq (files_here i).tree here.node
          || not (is_directory_under nat_eq (files_here i) (alike.root i) here.node))
          ∙ (λ i. present i || not (under i));
    }

    module _ (found_so : is_lost nat_eq world here ≡ false) where
      present_before : is_removed nat_eq (tree_in world number) here.node ≡ false
      present_before = (or_parts (is_removed nat_eq (tree_in world number) here.node) _ found_so).0

      under_before : is_directory_under nat_eq (filesystem_numbered nat_eq world number).files
          (mount_at nat_eq world here).root here.node ≡ true
      under_before = not-false (is_directory_under nat_eq (filesystem_numbered nat_eq world number).files
          (mount_at nat_eq world here).root here.node)
          (or_parts (is_removed nat_eq (tree_in world number) here.node) _ found_so).1

      reached_before : IsReached (tree_in world number) here.node
      reached_before = not_removed_reached (tree_in world number) tree_before.tree here.node known.0.1 present_before

      -- Outside
      abbrev Keeps : ℕ → Type 0
      Keeps n = number ≡ own_fs → Inside n → ⊥

      at_fs : number ≡ own_fs → (at : ℕ) (any : List ℕ) (next : ℕ) → entry_at (tree_in world number) at any ≡ Some next
          → entry_at whole at any ≡ Some next
      at_fs same at any next e = cc same

      above : KeepsAbove Keeps (tree_in world number)
      above directory any next e keeps same way =
          keeps same (further directory any next way (at_fs same directory any next e))

      names : DirectoryNamesStay Keeps (tree_in world number) (tree_in left_world number)
      names directory any next e is_one keeps now =
          entry_later directory any next e (λ same it. keeps same ([], cc)) now

      stays : KeepsNames Keeps (filesystem_numbered nat_eq world number).files
          (filesystem_numbered nat_eq left_world number).files
      stays = record { before = tree_before.tree; after = tree_later; root = root_same; above = above; stay = names }

      outside_goes : Keeps here.node → Up here
      outside_goes keeps =
          goes (cc (as_spent, (each_in number).parents here.node (λ same it. keeps same ([], ap Some (sym it)))))
          (present_later stays known.0.1 now_directory keeps present_before)
          (under_later stays known.0.1 now_directory keeps present_before (mount_at nat_eq world here).root root_there
          under_before)

      outside_fits : Keeps here.node → FitsIn (parent_location nat_eq world here)
      outside_fits keeps same directory way =
          absurd (⊎_elim (λ root. keeps same (subst Inside (cc tree_before.tree.root_parent) way))
          (λ named. keeps same (further named.0 named.1 here.node (rw (← tree_before.tree.one_parent named.0 named.1
          here.node named.2 known.0.1) way) (at_fs same named.0 named.1 here.node named.2)))
          (reached_named (tree_in world number) here.node reached_before))

      -- Inside, on a mount whose root is inside
      module _ (same : number ≡ own_fs) (way : Inside here.node) (root_in : Inside (mount_at nat_eq world here).root)
          (not_top : nat_eq here.node (mount_at nat_eq world here).root ≡ false) where
        abbrev top_of : ℕ
        top_of = (mount_at nat_eq world here).root

        led_on : (start : ℕ) (path : List (List ℕ)) (end : ℕ) → Inside start
            → led (tree_in world number) start path ≡ Some end → Inside end
        led_on start path end in_it e = (
          in_it.0 ++ path,
          cc (led_parts whole in_it.0 path object.node start in_it.1, same),
        )

        -- an entry inside never leads to it
        not_moved : (at : ℕ) (any : List ℕ) (next : ℕ) → Inside at → entry_at (tree_in world number) at any ≡ Some next
            → next ≢ object.node
        not_moved at any next in_it e it =
            not_around (rw (← (only_entry at any (at_fs same at any next e ∙ ap Some it)).0) in_it)

        led_later : (start : ℕ) (path : List (List ℕ)) (end : ℕ) → Inside start
            → led (tree_in world number) start path ≡ Some end
            → is_some (node_in left_world number start) ≡ true → led (tree_in left_world number) start path ≡ Some end
        led_later start [] end in_it e now = e
        led_later start (any ∷ path) end in_it e now =
            let step = found (λ next. led (tree_in world number) next path)
            (entry_at (tree_in world number) start any) end e in
            let entry = entry_later start any step.0 step.1 (λ own. not_moved start any step.0 in_it step.1) now in
            ap (option_and_then (λ next. led (tree_in left_world number) next path)) entry
            ∙ led_later step.0 path end (further start any step.0 in_it (at_fs same start any step.0 step.1)) step.2
            (tree_later.tree.alive start any step.0 entry)

        from_top : (path : List (List ℕ)) × (led (tree_in world number) top_of path ≡ Some here.node)
        from_top = under_led (tree_in world number) tree_before.tree
            (length (filesystem_numbered nat_eq world number).files.numbers) top_of here.node
            known.0.1 reached_before under_before

        here_not_moved : here.node ≢ object.node
        here_not_moved it = ⊎_elim (λ at_top. true≢false (cc (eq-eqb here.node top_of (sym at_top))))
            (λ step. not_moved step.0 step.1 here.node (led_on top_of step.3 step.0 root_in step.4) step.2 it)
            (last_step (tree_in world number) top_of from_top.0 here.node from_top.1)

        parent_same : parent_in here.node (node_in left_world number here.node)
            ≡ parent_in here.node (node_in world number here.node)
        parent_same = cc (as_spent, (each_in number).parents here.node (λ own. here_not_moved))

        reached_later : IsReached (tree_in left_world number) here.node
        reached_later = ⊎_elim (λ root. absurd (⊎_elim (λ it. here_not_moved (sym it))
            (λ step. tree_before.tree.root_unnamed step.0 step.1
            (ap (λ n. entry_at (tree_in world n) step.0 step.1) same ∙ step.2 ∙ ap Some (sym root)))
            (last_step whole object.node way.0 here.node way.1)))
            (λ named. tree_later.tree.reached here.node now_directory (
              named.0,
              named.1,
              entry_later named.0 named.1 here.node named.2 (λ own. here_not_moved)
                  (ap (λ n. is_some (node_in left_world number n))
                  (sym (parent_same ∙ tree_before.tree.one_parent named.0 named.1 here.node named.2 known.0.1))
                  ∙ directory_used (tree_in left_world number)
                  (parent_in here.node (node_in left_world number here.node))
                  (tree_later.tree.parent_directory here.node now_directory)),
            )) (reached_named (tree_in world number) here.node reached_before)

        inside_goes : Up here
        inside_goes = goes parent_same (reached_not_removed
            (tree_in left_world number) tree_later.tree here.node now_directory reached_later)
            (under_seen (filesystem_numbered nat_eq left_world number).files tree_later here.node now_directory
            reached_later top_of from_top.0 (led_later top_of from_top.0 here.node root_in from_top.1 root_there))

  up_fits : (Refused : Deny → Type 0) (here : Location ℕ) → BothDirectories here → FitsIn here
      → (same_location nat_eq here it.did.task.root || nat_eq here.node (mount_at nat_eq world here).root) ≡ false
      → is_lost nat_eq world here ≡ false → (Up here × FitsIn (parent_location nat_eq world here))
      ⊎ (Refused (denial W8) × (is_lost nat_eq left_world here ≡ true))
  up_fits Refused here known fits not_top found_so = inl (by (nat_eq (mount_at nat_eq world here).filesystem own_fs)
      (is_directory_under nat_eq (files_at nat_eq world from) object.node here.node) refl refl)
    where
      elsewhere : ((mount_at nat_eq world here).filesystem ≡ own_fs → Inside here.node → ⊥)
          → Up here × FitsIn (parent_location nat_eq world here)
      elsewhere keeps = (outside_goes here known found_so keeps, outside_fits here known found_so keeps)

      directory_here : (mount_at nat_eq world here).filesystem ≡ own_fs
          → is_directory_node (whole.node here.node) ≡ true
      directory_here same = cc (same, known.0.1)

      inside : (same : (mount_at nat_eq world here).filesystem ≡ own_fs) → Inside here.node
          → Up here × FitsIn (parent_location nat_eq world here)
      inside same way =
          let root_in = fits same (directory_here same) way in (
            inside_goes here known found_so same way root_in (or_parts (same_location nat_eq here it.did.task.root)
                (nat_eq here.node (mount_at nat_eq world here).root) not_top).1,
            λ again directory above. root_in,
          )

      by : (p q : Bool) → nat_eq (mount_at nat_eq world here).filesystem own_fs ≡ p
          → is_directory_under nat_eq (files_at nat_eq world from) object.node here.node ≡ q
          → Up here × FitsIn (parent_location nat_eq world here)
      by true true e f =
          let same = eqb-true (mount_at nat_eq world here).filesystem own_fs e in
          inside same (under_led whole whole_is.tree (length (files_at nat_eq world from).numbers) object.node here.node
          (directory_here same)
          (subst (λ n. IsReached (tree_in world n) here.node) same (reached_before here known found_so)) f)
      by true false e f = elsewhere (λ same way.
          true≢false (sym (under_seen (files_at nat_eq world from) whole_is here.node (directory_here same)
          (reached_in here.node way) object.node way.0 way.1) ∙ f))
      by false q e f =
          elsewhere (λ same way. true≢false (sym (eq-eqb (mount_at nat_eq world here).filesystem own_fs same) ∙ e))

  named_fits : (here : Location ℕ) (any : List ℕ) (next : ℕ) → BothDirectories here
      → FitsIn here → entry_named any (entries_in (node_at nat_eq world here)) ≡ Some next
      → entry_named any (entries_in (node_at nat_eq left_world here)) ≡ Some next
      → FitsIn (record { mount = here.mount; node = next })
  named_fits here any next known fits e f same directory way = ⊎_elim moved_here (λ step. fits same (directory_here) (
    step.3,
    step.4 ∙ ap Some (sym (whole_is.tree.one_parent step.0 step.1 next step.2 directory)
        ∙ whole_is.tree.one_parent here.node any next at_fs_now directory),
  )) (last_step whole object.node way.0 next way.1)
    where
      at_fs_now : entry_at whole here.node any ≡ Some next
      at_fs_now = cc (same, e)

      directory_here : is_directory_node (whole.node here.node) ≡ true
      directory_here = cc (same, known.0.1)

      moved_here : object.node ≡ next → Inside (mount_at nat_eq world here).root
      moved_here leads =
          let was = only_entry here.node any (at_fs_now ∙ ap Some (sym leads)) in
          none_is_not (entry_named any (entries_in (node_at nat_eq left_world here))) next
          (ap (λ (t : FileTree ℕ). entry_named any (entries_in (t.tree.node here.node))) (files_here here known)
          ∙ (λ i. entry_at (tree_in left_world (same i)) (was.0 i) (was.1 i)) ∙ old_left moved.renamed
          (seen moved).moves.replaced_other
          ((λ i. is_some (node_in left_world (sym same i) (sym was.0 i))) ∙ there here known)) f

  top_fits : (here : Location ℕ) → IsFoundDirectory world it.is it.did.task here → FitsIn here
      → FitsIn (top it.is is_left it.did.task reader here)
  top_fits here found_here fits =
      (chain_ends_at (λ (l : Location ℕ). IsFoundDirectory world it.is it.did.task l × FitsIn l)
      (hop nat_eq world it.did.task)
      (λ a b both e. (hop_known world it.is it.did.task a b both.0 e, points_fit a b both.0 e))
      (length world.mounts) here here (found_here, fits)).1

  pub fits_ways : (Refused : Deny → Type 0) → FitsWays
      it.is (left_is moved) it.did.task reader Refused (Fits moved)
  fits_ways Refused = record {
    named = λ here any next known fits e f. named_fits here any next known fits e f;
    over = λ place own fits. places_fit place fits;
    hopped = λ here known fits. top_fits here known.0 fits;
    up = up_fits Refused;
  }
