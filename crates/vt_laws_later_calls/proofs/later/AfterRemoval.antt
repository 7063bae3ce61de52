-- The world that a granted rmdir leaves: the task's own mounts are seen as they were, the directory has lost its name,
-- and walks that do not go up from it lead where they led.
use Rattle.std.proofs.Common.{arith, ◌≡◌, ◌≢◌, refl, sym, ap, subst, ◌∙◌, inl, inr, ◌⊎◌, ⊎_elim, ℕ, nat_eq, eqb-true, true, false, ◌||◌, List, filter, Some, None, is_some}
use Rattle.vt_spec.proofs.Common.{cases_Bool, Answer, Call, Change, FileTree, Filesystem, Fresh, IsWorld, Location, Mount, Remove, Task, TaskName, ToRemoveDirectory, Tree, World, and_parts, apply, changed, common_steps, denial, directory_used, entries_in, entry_at, entry_named, files_at, filesystem_numbered, filesystems-taken_away, is_directory_node, is_going, is_located, is_mount_point_in, looks_of, mount_at, mount_lives, mount_numbered, mounts_on, node_at, parent_in, policy, raised_task, symlink_text, task_called, tasks-taken_away, tasks-with_change, with_change, without_mounts_on}
use Rattle.vt_laws_later_calls.proofs.Common.{AreClosed, Deny, IsOn, IsPlain, IsReached, MayRemove, SeesTo, W6, is_reached, kept_by_number, mounts-with_change, numbers_of_trees, standing_is_computed, taken_plain, trees_closed}
use Rattle.vt_laws_worlds.proofs.overlays_let_go.changing.MountsOfOthers.{reached_stays, removal_reached}
use Rattle.vt_laws_later_calls.proofs.AfterChange.{sees_to, as_spent, later_files, later_is}
use Rattle.vt_laws_later_calls.proofs.Changed.{files_changed, files_other}
use Rattle.vt_laws_later_calls.proofs.Granted.{HasSucceeded}
use Rattle.vt_laws_later_calls.proofs.later.SettledRoots.{root_settled}
use Rattle.vt_laws_later_calls.proofs.Stays.{called_own, spent_unsettled, still_called}
use Rattle.vt_laws_later_calls.proofs.WaysChanges.{RightsStay}
use Rattle.vt_laws_later_calls.proofs.Readers.{RightsLeft}
use Rattle.vt_laws_later_calls.proofs.later.WaysLeft.{MountsSeen, ObjectsStay}
use Rattle.vt_laws_later_calls.proofs.later.WaysMounts.{own_mount, top_same, topmost_same}
use Rattle.vt_laws_later_calls.proofs.later.WaysRemoved.{removed_entry, removed_kind, removed_link, removed_name, removed_parent, removed_rights}
use Rattle.vt_laws_later_calls.proofs.WaysStay.{mount_root, node_in, tree_in}

module _ {world : World ℕ} {fresh : Fresh ℕ} {name : TaskName} {call : Call} {answer : Answer}
    (it : HasSucceeded world fresh name call answer) {parent : Location ℕ} {word : List ℕ}
    {object : Location ℕ} (permit_is : it.did.permit ≡ ToRemoveDirectory parent word object) where
  abbrev pub left : World ℕ
  left = (policy nat_eq fresh world name call).world

  abbrev pub spent : World ℕ
  spent = (apply nat_eq fresh world it.did.task it.did.permit).world

  abbrev middle : World ℕ
  middle = without_mounts_on nat_eq world object

  abbrev gone : List ℕ
  gone = numbers_of_trees world (mounts_on nat_eq world object)

  abbrev change : Change ℕ
  change = Remove parent.node word object.node

  abbrev pub shown : ℕ
  shown = (mount_at nat_eq world parent).filesystem

  pub is_left : IsWorld nat_eq left × IsPlain left
  is_left = later_is it

  pub own_task : task_called world it.did.task.name ≡ Some it.did.task
  own_task = called_own it

  pub seen_to : SeesTo world it.did.task (ToRemoveDirectory parent word object)
  seen_to = subst (SeesTo world it.did.task) permit_is (sees_to it)

  pub may : MayRemove (files_at nat_eq world parent).tree parent.node word object.node
  may = seen_to.1

  -- the parent is reached, and no mount of the task's namespace stands on the directory
  pub reaches : IsReached world it.did.task parent
      × (is_mount_point_in nat_eq (looks_of nat_eq world) it.did.task.namespace object ≡ false)
  reaches = removal_reached fresh world it.is it.did.task own_task call (ToRemoveDirectory parent word object)
      (cc it.did.judged)

  pub own_parent : IsOn world it.is it.did.task parent.mount
  own_parent = ((and_parts _ _ reaches.0.there).0, reaches.0.seen)

  pub parent_there : is_some (node_at nat_eq world parent) ≡ true
  parent_there = (and_parts _ _ reaches.0.there).1

  -- Mounts
  stays : (number : ℕ) → IsOn world it.is it.did.task number → is_going nat_eq gone number ≡ false
  stays number own =
      let root : Location ℕ = record { mount = number; node = (mount_numbered nat_eq world number).root } in
      reached_stays world it.is it.did.task object root reaches.1 (is_reached world it.is it.did.task root
      (own, directory_used (files_at nat_eq world root).tree root.node (mount_root world it.is number own.0)))

  closed : AreClosed world gone
  closed =
      trees_closed world it.is.mounts.one_number
      ((standing_is_computed world it.is.mounts.one_number).0 it.is.mounts.standing) (mounts_on nat_eq world object)

  middle_plain : IsPlain middle
  middle_plain = taken_plain world gone it.plain

  does : spent ≡ with_change nat_eq fresh middle parent change
  does = ap (λ p. (apply nat_eq fresh world it.did.task p).world) permit_is

  living : left.mounts ≡ filter (mount_lives nat_eq spent) middle.mounts
  living = cc (it.did.left, does, mounts-with_change middle fresh parent change)

  attached_live : (mount : Mount ℕ) → is_some mount.namespace ≡ true → mount_lives nat_eq spent mount ≡ true
  attached_live mount e = ap (λ b. b || is_located nat_eq spent mount.number) e

  -- the caller is there still
  pub caller : task_called left name ≡ Some (raised_task name it.did.task)
  caller = still_called it name it.did.task (cc (
    does,
    tasks-with_change fresh middle parent change,
    tasks-taken_away
        world gone,
    it.did.called,
  ))

  pub mounts_seen : (reader : Task ℕ) → reader.root ≡ it.did.task.root → MountsSeen it.is is_left it.did.task reader
  mounts_seen reader roots = record {
    own = own_mount it.is is_left.0 it.did.task gone closed living attached_live
        stays;
    topmost_is = topmost_same it.is is_left.0 it.did.task gone closed living attached_live stays;
    top_is = top_same it.is is_left.0 it.did.task gone closed living attached_live stays reader roots;
  }

  -- Filesystems
  middle_shown : (mount_at nat_eq middle parent).filesystem ≡ shown
  middle_shown = (kept_by_number world gone parent.mount (stays parent.mount own_parent)).filesystem

  middle_numbered : (number : ℕ) → filesystem_numbered nat_eq middle number ≡ filesystem_numbered nat_eq world number
  middle_numbered number = cc (filesystems-taken_away world gone)

  middle_files : files_at nat_eq middle parent ≡ files_at nat_eq world parent
  middle_files = cc (middle_shown, middle_numbered shown)

  spent_files : (number : ℕ) → (filesystem_numbered nat_eq spent number).files
      ≡ (filesystem_numbered nat_eq (with_change nat_eq fresh middle parent change) number).files
  spent_files number = cc does

  pub spent_shown : (filesystem_numbered nat_eq spent shown).files
      ≡ changed nat_eq (files_at nat_eq world parent) change
  spent_shown = spent_files shown
      ∙ ap (λ n. (filesystem_numbered nat_eq (with_change nat_eq fresh middle parent change) n).files)
      (sym middle_shown) ∙ files_changed fresh middle middle_plain parent change
      (ap (λ (f : FileTree ℕ). is_some (f.tree.node parent.node)) middle_files ∙ parent_there)
      ∙ ap (λ f. changed nat_eq f change) middle_files

  -- what each tree has left
  pub record IsLess (number : ℕ) (tree later : Tree ℕ) : Type 0 where
    pub root : later.root ≡ tree.root
    pub directory : (n : ℕ) → is_directory_node (later.node n) ≡ is_directory_node (tree.node n)
    pub link : (n : ℕ) → symlink_text (later.node n) ≡ symlink_text (tree.node n)
    pub rights : RightsStay tree later
    pub parents : (n : ℕ) → (number ≡ shown → n ≢ object.node) → parent_in n (later.node n) ≡ parent_in n (tree.node n)
    pub entry : (here : ℕ) (any : List ℕ) (next : ℕ) → entry_at tree here any ≡ Some next
        → (entry_at later here any ≡ Some next)
        ⊎ ((entry_at later here any ≡ None) × (number ≡ shown) × (next ≡ object.node))

  pub each : (number : ℕ) → IsLess number (tree_in world number) (tree_in spent number)
  each number = elim (cases_Bool (nat_eq shown number)) [
    | inl e ↦ rw (← eqb-true shown number e) (subst (λ (f : FileTree ℕ). IsLess shown (tree_in world shown) f.tree)
        (sym spent_shown) here)
    | inr e ↦ subst (λ (f : FileTree ℕ). IsLess number (tree_in world number) f.tree) (sym (spent_files number
        ∙ files_other fresh middle middle_plain parent change number (ap (λ n. nat_eq n number) middle_shown ∙ e)
        ∙ ap (λ (f : Filesystem ℕ). f.files) (middle_numbered number))) same
  ]
    where
      here : IsLess shown (tree_in world shown) (changed nat_eq (files_at nat_eq world parent) change).tree
      here = record {
        root = refl;
        directory = removed_kind (files_at nat_eq world parent) parent.node word object.node may;
        link = removed_link (files_at nat_eq world parent) parent.node word object.node may;
        rights = removed_rights (files_at nat_eq world parent) parent.node word object.node may;
        parents = λ n differs. removed_parent (files_at nat_eq world parent) parent.node word object.node may n
            (differs refl);
        entry = λ at any next e. ⊎_elim (λ same. inl same) (λ lost. inr (lost.0, refl, lost.1))
            (removed_entry (files_at nat_eq world parent) parent.node word object.node may at any next e);
      }

      same : IsLess number (tree_in world number) (tree_in world number)
      same = grind (arith, common_steps)

  pub node_left : (filesystem number : ℕ) → is_some (node_in left filesystem number) ≡ true
      → node_in left filesystem number ≡ node_in spent filesystem number
  node_left filesystem number there = as_spent it filesystem number there

  pub root_left : (filesystem number : ℕ) → is_some (node_in left filesystem number) ≡ true
      → (tree_in left filesystem).root ≡ (tree_in world filesystem).root
  root_left filesystem number there =
      let files = later_files it filesystem in
      ap (λ (f : FileTree ℕ). f.tree.root) files ∙ root_settled spent
      (spent_unsettled it).files.one_filesystem filesystem
      number (ap (λ (f : FileTree ℕ). is_some (f.tree.node number)) (sym files) ∙ there) ∙ (each filesystem).root

  pub rights_left : RightsLeft world left
  rights_left filesystem number now was who wanted =
      cc (node_left filesystem number now, (each filesystem).rights who wanted number was)

  pub objects_stay : (Refused : Deny → Type 0) → Refused (denial W6) → ObjectsStay world left Refused
  objects_stay Refused missing = record {
    directory = λ filesystem number was now. cc (node_left filesystem number now, (each filesystem).directory number);
    link = λ filesystem number was now. cc (node_left filesystem number now, (each filesystem).link number);
    entry = λ filesystem here any next e now. by filesystem here any next now ((each filesystem).entry here any next e);
  }
    where
      by : (filesystem here : ℕ) (any : List ℕ) (next : ℕ) → is_some (node_in left filesystem here) ≡ true
          → (entry_at (tree_in spent filesystem) here any ≡ Some next)
          ⊎ ((entry_at (tree_in spent filesystem) here any ≡ None) × (filesystem ≡ shown) × (next ≡ object.node))
          → (entry_at (tree_in left filesystem) here any ≡ Some next)
          ⊎ ((entry_at (tree_in left filesystem) here any ≡ None) × Refused (denial W6))
      by filesystem here any next now (inl same) = inl (cc (node_left filesystem here now, same))
      by filesystem here any next now (inr lost) = inr (cc (node_left filesystem here now, lost.0), missing)

  -- the name is missing
  pub name_left : is_some (node_in left shown parent.node) ≡ true
      → entry_at (tree_in left shown) parent.node word ≡ None
  name_left there = ap (λ o. entry_named word (entries_in o))
      (node_left shown parent.node there ∙ ap (λ (f : FileTree ℕ). f.tree.node parent.node) spent_shown)
      ∙ removed_name (files_at nat_eq world parent) parent.node word object.node may
