-- After a granted rename of a directory to a free name walks that begin outside of it lead where they led.
use Rattle.std.proofs.Common.{arith, ◌≡◌, ◌≢◌, refl, sym, ap, ◌∙◌, inl, inr, ◌⊎◌, true≢false, ℕ, nat_eq, eqb-true, eq-eqb, Bool, true, false, cond, List, [], ◌∷◌, ◌++◌, length, Option, Some, None, is_some, option_map, option_to_list, ⊎_elim}
use Rattle.vt_spec.proofs.Common.{Among, Answer, Call, Credentials, FileTree, Fresh, IsReached, IsWorld, Location, Move, Node, TaskName, Tree, World, allows, among_from_list_all, and_from, and_parts, apply, attr_in, bytes_in, changed, changed_node, child_at, common_steps, contains_from_among, denial, directory_used, entry_at, files_at, filesystem_numbered, found, hop, is_directory_node, is_directory_under, is_kind, is_nowhere_or_attached, led, led-append, list_all, mount_at, node_allows, node_with_entry, node_with_parent, node_without_entry, none_is_not, parent-node_with_entry, parent-node_without_entry, parent_in, raised_task, root_of, same_Some, symlink_text, task_called, tasks-with_change, topmost, when, with_name, without_name, without_parent, eqb_tells}
use Rattle.vt_laws_later_calls.proofs.Common.{Deny, IsFileTree, IsFoundDirectory, IsPlain, MayBeRenamed, Symlink, W6, chain_ends_at, elsewhere, found_in, found_itself, is_entry, is_that_entry, led_parts, move_told, no_way_up, nowhere_parts, part_stays, placed_among, under_seen}
use Rattle.vt_spec.specs.FileTree.{kind_in}
use Rattle.vt_laws_trees.proofs.layers.layers.CopyingNames.{moved_part}
use Rattle.vt_laws_later_calls.specs.LaterNames.{StandsOutside, lies_in}
use Rattle.vt_laws_later_calls.proofs.AfterChange.{ChangesTree, all_stays, as_spent, in_each, later_files}
use Rattle.vt_laws_later_calls.proofs.later.AfterRename.{HasRenamed, change, changes_tree, free_name, from_tree, is_left, left, may, object_shown, shown}
use Rattle.vt_laws_later_calls.proofs.Granted.{HasSucceeded}
use Rattle.vt_laws_later_calls.proofs.later.SettledRoots.{root_settled}
use Rattle.vt_laws_later_calls.proofs.Stays.{spent_unsettled, still_called}
use Rattle.vt_laws_later_calls.proofs.WaysChanges.{RightsStay, TreeStays, no_parent}
use Rattle.vt_laws_later_calls.proofs.Readers.{RightsLeft}
use Rattle.vt_laws_later_calls.proofs.later.WaysLeft.{ObjectsStay}
use Rattle.vt_laws_later_calls.proofs.later.WaysMounts.{hop_place}
use Rattle.vt_laws_later_calls.proofs.WaysStay.{node_in, tree_in}

-- what is of one kind, owner, mode and text
link_same : (was now : Option (Node ℕ)) → is_some now ≡ is_some was → kind_in now ≡ kind_in was
    → bytes_in now ≡ bytes_in was → symlink_text now ≡ symlink_text was
link_same None None there kind bytes = refl
link_same None (Some now) there kind bytes = cc there
link_same (Some was) None there kind bytes = cc there
link_same (Some was) (Some now) there kind bytes = λ i. when (is_kind Symlink (kind i)) (bytes i)

allows_same : (was now : Option (Node ℕ)) → is_some now ≡ is_some was → kind_in now ≡ kind_in was
    → attr_in now ≡ attr_in was
    → (who : Credentials) (wanted : ℕ) → node_allows who wanted now ≡ node_allows who wanted was
allows_same None None there kind attr who wanted = refl
allows_same None (Some now) there kind attr who wanted = cc there
allows_same (Some was) None there kind attr who wanted = cc there
allows_same (Some was) (Some now) there kind attr who wanted = λ i. allows who (attr i) (kind i) wanted

-- what a move to a free name leaves of a tree
pub record IsMovedIn (object : ℕ) (own : Type 0) (tree later : Tree ℕ) : Type 0 where
  pub root : later.root ≡ tree.root
  pub directory : (n : ℕ) → is_directory_node (later.node n) ≡ is_directory_node (tree.node n)
  pub link : (n : ℕ) → symlink_text (later.node n) ≡ symlink_text (tree.node n)
  pub rights : RightsStay tree later
  pub parents : (n : ℕ) → (own → n ≢ object) → parent_in n (later.node n) ≡ parent_in n (tree.node n)
  pub entry : (here : ℕ) (any : List ℕ) (next : ℕ) → entry_at tree here any ≡ Some next
      → (entry_at later here any ≡ Some next) ⊎ ((entry_at later here any ≡ None) × own × (next ≡ object))

-- what is no directory has no parent, so that the ways stay where it is moved
pub file_stays : {object : ℕ} {own : Type 0} {tree later : Tree ℕ} → IsMovedIn object own tree later
    → is_directory_node (tree.node object) ≡ false → (Refused : Deny → Type 0) → Refused (denial W6)
    → TreeStays tree later Refused
file_stays {object} {own} {tree} {later} moved no_directory Refused missing = record {
  root = moved.root;
  directory = λ n is. moved.directory n;
  parent = λ n is. ⊎_elim (λ same. cc (
    same.1,
    no_parent object (tree.node object) no_directory,
    no_parent object (later.node object) (moved.directory object ∙ no_directory),
  )) (λ other. moved.parents n (λ itself. other.1)) (eqb_tells n object);
  link = λ n is. moved.link n;
  entry = λ here any next e. ⊎_elim inl (λ lost. inr (lost.0, cc (lost.2, no_directory), missing))
      (moved.entry here any next e);
}

module _ (files : FileTree ℕ) (from : ℕ) (old : List ℕ) (to : ℕ) (new : List ℕ) {object : ℕ}
    (named : entry_at files.tree from old ≡ Some object) (in_directory : is_directory_node (files.tree.node to) ≡ true)
    (free : entry_at files.tree to new ≡ None) (own : Type 0) (itself : own) where
  abbrev pub moved : FileTree ℕ
  moved = changed nat_eq files (Move from old to new object)

  with_free : Option ℕ → FileTree ℕ
  with_free o = changed_node nat_eq (with_name nat_eq
      (without_name nat_eq (without_parent nat_eq files o) from old) to new object) object (node_with_parent to)

  pub moved_in : IsMovedIn object own files.tree moved.tree
  unfolding with_free
  moved_in = record {
    root = ap (λ o. (with_free o).tree.root) free;
    directory = λ n. moved_part is_directory_node (λ change keeps. keeps.directory) files from old to new object n;
    link = λ n. moved_part symlink_text (λ change keeps o. link_same o (change o) (keeps.there o) (keeps.kind o)
        (keeps.bytes o)) files from old to new object n;
    rights = λ who wanted n is. moved_part (node_allows who wanted)
        (λ change keeps o. allows_same o (change o) (keeps.there o) (keeps.kind o)
        (keeps.attr o) who wanted) files from old to new object n;
    parents = λ n differs. ap (λ o. parent_in n ((with_free o).tree.node n)) free
        ∙ ap (parent_in n) (elsewhere (with_name nat_eq (without_name nat_eq files from old) to new object) object
        (node_with_parent to) n (differs itself))
        ∙ part_stays (without_name nat_eq files from old) to (node_with_entry new object) (parent_in n)
        (parent-node_with_entry new object n) n
        ∙ part_stays files from (node_without_entry old) (parent_in n) (parent-node_without_entry old n) n;
    entry = λ here any next e. by here any next e (is_entry to new here any) refl (is_entry from old here any) refl;
  }
    where
      by : (here : ℕ) (any : List ℕ) (next : ℕ) → entry_at files.tree here any ≡ Some next
          → (p : Bool) → is_entry to new here any ≡ p → (q : Bool) → is_entry from old here any ≡ q
          → (entry_at moved.tree here any ≡ Some next) ⊎ ((entry_at moved.tree here any ≡ None) × own × (next ≡ object))
      by here any next e true f q g =
          let same = is_that_entry to new here any f in
          none_is_not (entry_at files.tree here any) next ((λ i. entry_at files.tree (same.0 i) (same.1 i)) ∙ free) e
      by here any next e false f true g =
          let same = is_that_entry from old here any g in
          inr (
            move_told files from old to new object in_directory here any
                ∙ (λ i. cond (f i) (Some object) (cond (g i) None (entry_at files.tree here any))),
            itself,
            same_Some next object (sym e ∙ (λ i. entry_at files.tree (same.0 i) (same.1 i)) ∙ named),
          )
      by here any next e false f false g = inl (
          move_told files from old to new object in_directory here any
          ∙ (λ i. cond (f i) (Some object) (cond (g i) None (entry_at files.tree here any))) ∙ e
          )

-- a call has moved a directory to a free name, and its caller stands outside of the directory
pub record HasMoved (world : World ℕ) (fresh : Fresh ℕ) (name : TaskName) (call : Call) (answer : Answer)
    (from : Location ℕ) (old : List ℕ) (to : Location ℕ) (new : List ℕ) (object : Location ℕ) : Type 0 where
  pub renamed : HasRenamed world fresh name call answer from old to new object None
  pub is_directory : is_directory_node ((files_at nat_eq world from).tree.node object.node) ≡ true
  pub outside : StandsOutside world renamed.success.did.task object

module _ {world : World ℕ} {fresh : Fresh ℕ} {name : TaskName} {call : Call} {answer : Answer} {from : Location ℕ}
    {old : List ℕ} {to : Location ℕ} {new : List ℕ} {object : Location ℕ}
    (moved : HasMoved world fresh name call answer from old to new object) where
  abbrev it : HasSucceeded world fresh name call answer
  it = moved.renamed.success

  abbrev pub later : World ℕ
  later = left moved.renamed

  abbrev pub spent : World ℕ
  spent = (apply nat_eq fresh world it.did.task it.did.permit).world

  abbrev pub fs : ℕ
  fs = shown moved.renamed

  abbrev pub tree : Tree ℕ
  tree = (files_at nat_eq world from).tree

  abbrev pub left_is : IsWorld nat_eq later × IsPlain later
  left_is = is_left moved.renamed

  pub seen : MayBeRenamed world from old to new object None
  seen = may moved.renamed

  abbrev pub file_tree : IsFileTree (files_at nat_eq world from)
  file_tree = from_tree moved.renamed

  abbrev changes : ChangesTree it from (change moved.renamed) fresh
  changes = changes_tree moved.renamed

  free : entry_at (files_at nat_eq world from).tree to.node new ≡ None
  free = free_name moved.renamed

  pub each : (number : ℕ) → IsMovedIn object.node (number ≡ fs) (tree_in world number) (tree_in spent number)
  each =
      in_each it changes (λ number f. IsMovedIn object.node (number ≡ fs) (tree_in world number) f.tree)
      (moved_in (files_at nat_eq world from) from.node old to.node new seen.moves.named
      seen.moves.in_directory free (fs ≡ fs) refl) (λ number. record {
        root = refl;
        directory = λ n. refl;
        link = λ n. refl;
        rights = λ who wanted n there. refl;
        parents = λ n differs. refl;
        entry = λ here any next e. inl e;
      })

  pub node_left : (filesystem number : ℕ) → is_some (node_in later filesystem number) ≡ true
      → node_in later filesystem number ≡ node_in spent filesystem number
  node_left filesystem number there = as_spent it filesystem number there

  -- the object and the caller are there still
  pub object_later : is_some (node_in later fs object.node) ≡ true
  object_later =
      let files = files_at nat_eq world from in
      cc (
        all_stays it changes (ap option_to_list free) object.node,
        directory_used (changed nat_eq files (change moved.renamed)).tree
            object.node ((moved_in files from.node old to.node new seen.moves.named seen.moves.in_directory free
            (fs ≡ fs)
            refl).directory object.node ∙ moved.is_directory),
      )

  pub caller : task_called later name ≡ Some (raised_task name it.did.task)
  caller = still_called it name it.did.task
      (cc (changes.does, tasks-with_change fresh world from (change moved.renamed), it.did.called))

  pub root_left : (filesystem number : ℕ) → is_some (node_in later filesystem number) ≡ true
      → (tree_in later filesystem).root ≡ (tree_in world filesystem).root
  root_left filesystem number there =
      let files = later_files it filesystem in
      ap (λ (f : FileTree ℕ). f.tree.root) files ∙ root_settled spent
      (spent_unsettled it).files.one_filesystem filesystem
      number (ap (λ (f : FileTree ℕ). is_some (f.tree.node number)) (sym files) ∙ there) ∙ (each filesystem).root

  pub rights_left : RightsLeft world later
  rights_left filesystem number now was who wanted =
      cc (node_left filesystem number now, (each filesystem).rights who wanted number was)

  pub objects_stay : (Refused : Deny → Type 0) → Refused (denial W6) → ObjectsStay world later Refused
  objects_stay Refused missing = record {
    directory = λ filesystem number was now. cc (node_left filesystem number now, (each filesystem).directory number);
    link = λ filesystem number was now. cc (node_left filesystem number now, (each filesystem).link number);
    entry = λ filesystem here any next e now. by filesystem here any next now ((each filesystem).entry here any next e);
  }
    where
      by : (filesystem here : ℕ) (any : List ℕ) (next : ℕ) → is_some (node_in later filesystem here) ≡ true
          → (entry_at (tree_in spent filesystem) here any ≡ Some next)
          ⊎ ((entry_at (tree_in spent filesystem) here any ≡ None) × (filesystem ≡ fs) × (next ≡ object.node))
          → (entry_at (tree_in later filesystem) here any ≡ Some next)
          ⊎ ((entry_at (tree_in later filesystem) here any ≡ None) × Refused (denial W6))
      by filesystem here any next now (inl same) = inl (cc (node_left filesystem here now))
      by filesystem here any next now (inr lost) = inr (cc (node_left filesystem here now, lost.0), missing)

  -- What lies in the directory, by names
  abbrev pub InIt : ℕ → Type 0
  InIt n = (names : List (List ℕ)) × (led tree object.node names ≡ Some n)

  pub in_further : (here : ℕ) (any : List ℕ) (next : ℕ) → InIt here → entry_at tree here any ≡ Some next → InIt next
  in_further here any next way e = (way.0 ++ any ∷ [], led-append tree object.node way.0 any here next way.1 e)

  object_reached : IsReached tree object.node
  object_reached = file_tree.tree.reached object.node moved.is_directory (from.node, old, seen.moves.named)

  pub in_reached : (n : ℕ) → InIt n → IsReached tree n
  in_reached n way =
      (object_reached.0 ++ way.0, led_parts tree object_reached.0 way.0 tree.root object.node object_reached.1 ∙ way.1)

  lies_so : (here : Location ℕ) → (mount_at nat_eq world here).filesystem ≡ fs
      → is_directory_node (tree.node here.node) ≡ true → InIt here.node → lies_in world object here ≡ true
  lies_so here same directory way =
      let shown_is =
      object_shown moved.renamed in
      and_from _ _ (eq-eqb _ _ (same ∙ sym shown_is))
      (ap (λ n. is_directory_under nat_eq (filesystem_numbered nat_eq world n).files object.node here.node) shown_is
      ∙ under_seen (files_at nat_eq world from) file_tree here.node directory
      (in_reached here.node way) object.node way.0 way.1)

  -- no way leads back up to where its name was
  pub from_outside : InIt from.node → ⊥
  from_outside way = no_way_up
      (files_at nat_eq world from) file_tree.tree from.node old object.node seen.moves.named way.0 way.1

  -- where an entry leads to it, its name was there
  pub its_entry : (here : ℕ) (any : List ℕ) → entry_at tree here any ≡ Some object.node
      → (here ≡ from.node) × (any ≡ old)
  its_entry here any e =
      let at : here ≡ from.node = sym (file_tree.tree.one_parent here any object.node e moved.is_directory)
      ∙ file_tree.tree.one_parent from.node old object.node seen.moves.named moved.is_directory in (
        at,
        file_tree.tree.one_name from.node any old object.node (cc at) seen.moves.named moved.is_directory,
      )

  -- moved.outside, or on a mount whose root is inside
  abbrev pub Fits : Location ℕ → Type 0
  Fits here =
      (mount_at nat_eq world here).filesystem ≡ fs → is_directory_node (tree.node here.node) ≡ true → InIt here.node
      → InIt (mount_at nat_eq world here).root

  outside_fits : (here : Location ℕ) → lies_in world object here ≡ false → Fits here
  outside_fits here lies same directory way = cc (lies_so here same directory way)

  pub root_fits : Fits it.did.task.root
  root_fits = outside_fits it.did.task.root moved.outside.root

  pub directory_fits : Fits it.did.task.directory
  directory_fits = outside_fits it.did.task.directory moved.outside.directory

  root_of_child : (a b : Location ℕ) → option_map root_of (child_at nat_eq world.mounts a) ≡ Some b → Fits b
  root_of_child a b e same directory way =
      grind (arith, common_steps, none_is_not, found, found_in, found_itself, same_Some)

  pub over_fits : (place : Location ℕ) → Fits place → Fits (topmost nat_eq world.mounts place)
  over_fits place fits = chain_ends_at Fits (λ here. option_map root_of (child_at nat_eq world.mounts here))
      (λ a b fit e. root_of_child a b e) (length world.mounts) place place fits

  -- no mount of the task's namespace stands inside
  pub point_fits : (a b : Location ℕ) → IsFoundDirectory world it.is it.did.task a → hop nat_eq world it.did.task a
      ≡ Some b → Fits b
  point_fits a b found e = outside_fits b
      (moved.outside.points (mount_at nat_eq world a) b (contains_from_among world.mounts
      (mount_at nat_eq world a) there) (own (mount_at nat_eq world a).namespace refl found.0.1) at)
    where
      at : (mount_at nat_eq world a).mount_point ≡ Some b
      at = hop_place world it.is it.did.task a b e

      there : Among (mount_at nat_eq world a) world.mounts
      there = placed_among world.mounts a.mount b at

      own : (o : Option ℕ) → (mount_at nat_eq world a).namespace ≡ o
          → list_all (nat_eq it.did.task.namespace) (option_to_list o) ≡ true
          → (mount_at nat_eq world a).namespace ≡ Some it.did.task.namespace
      own None f g = absurd (true≢false (sym (ap is_some at) ∙ (nowhere_parts (mount_at nat_eq world a)
          (among_from_list_all is_nowhere_or_attached world.mounts it.is.mounts.nowhere (mount_at nat_eq world a) there)
          (ap is_some f)).0))
      own (Some n) f g = f ∙ ap Some (sym (eqb-true it.did.task.namespace n (and_parts _ _ g).0))
