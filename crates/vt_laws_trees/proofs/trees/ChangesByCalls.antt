-- Every call but the mount of an overlay leaves a world of trees.
use Rattle.std.proofs.Common.{arith, eqb-true, ◌≡◌, refl, sym, ap, subst, true≢false, ℕ, nat_eq, eq-eqb, Bool, true, false, not, cond, List, [], ◌∷◌, ◌++◌, Option, Some, None, is_some, ok_or, inl, inr, ◌*◌, unwrap_or, All}
use Rattle.vt_spec.proofs.Common.{Access, All-append, All-cons, All-filter, All-map, All-nil, All-weaker, Call, Change, CopyUp, Filesystem, Fresh, IsNewIn, Location, Mount, Node, NoneFails, Outcome, Permit, Place, SetBytes, SetMark, Task, TaskName, ToOpen, World, apply, call_outcome, common_steps, denial, entries_in-no_directory, evens, files_at, filesystems-taken_away, finished_unless, first_mount, is_copied_up, is_directory_at, is_directory_node, is_overlay, is_special, linking, looks_of, making, mount_in, moving, new_directory, new_file, new_name_rules, new_plain, nil_from_not_some, no_filesystem, no_mount, node_at, none_is_not, object_there, odds, only_used, open_new_permit, opening, or_false_left, overfills, parent_in, plain_filesystem, pwritten, removing, root_attr, root_of, settled, special_word, taken_away, task_called, with_change, with_copy, with_new, without_dead_filesystems, without_dead_in, without_dead_mounts, without_replaced}
use Rattle.vt_spec.specs.declared.errors.Rule.TheVariants.{S2}
use Rattle.vt_spec.specs.Machine.World.{new_tree}
use Rattle.vt_spec.proofs.Trees.{is_tree-tree_of_root}
use Rattle.vt_laws_trees.specs.Trees.{IsFileTree, IsProper}
use Rattle.vt_laws_trees.specs.Trees.Calls.{AreNew, CallsKeepTrees, IsStanding, IsWorldOfTrees, OpeningHasTrees, mounts_overlay}
use Rattle.vt_laws_trees.proofs.trees.ChangesByLinks.{may_link}
use Rattle.vt_laws_trees.proofs.trees.ChangesByOthers.{files_stay}
use Rattle.vt_laws_trees.proofs.trees.ChangesByRemoving.{may_move, old_removable}
use Rattle.vt_laws_trees.proofs.trees.ChangesOfCalls.{place_is_free}
use Rattle.vt_laws_trees.proofs.trees.TreesForgotten.{settling_keeps_trees}
use Rattle.vt_laws_trees.proofs.trees.TreesOfWorlds.{numbered, raised_keeps_world, same_filesystems, change_keeps_world, new_at, taken_files}
use Rattle.vt_laws_trees.proofs.trees.TreesWalked.{after_holds, IsFilePlace, IsNewPlace, at_end, place_is_file}
use Rattle.vt_laws_rules.proofs.given.CallsGranted.{call_holds}
use Rattle.vt_laws_rules.specs.Plain.{IsPlain}
use Rattle.vt_laws_rules.proofs.given.Ways.{IsGranted}
use Rattle.vt_spec.specs.Machine.Judging.{directory_made, symlink_made, whiteout_made}
use Rattle.vt_laws_rules.proofs.given.Ways.IsGranted.{changes_mark, changes_mode, changes_owner, creates, creates_exclusively, makes_directory, makes_hard_link, makes_symlink, makes_whiteout, mounts_overlayfs, mounts_tmpfs, opens, opens_existing, overwrites_file, removes_directory, renames, unlinks, writes_new_file, writes_part}
use Rattle.vt_laws_trees.proofs.trees.PlacesReached.{file_is, new_is, new_leaf_is, old_is, old_leaf_is, rename_new_is}
use Rattle.vt_laws_trees.proofs.trees.TreesEntered.{ends_link_walk}

-- A new tree
root_only : (root : ℕ) (k : ℕ) (b : Bool) → nat_eq k root ≡ b
    → is_directory_node (cond b (Some (record { attr = root_attr; content = new_directory root })) None) ≡ true
    → parent_in k (cond b (Some (record { attr = root_attr; content = new_directory root })) None) ≡ k
root_only root k true e is = sym (eqb-true k root e)
root_only root k false e is = refl

pub new_tree_is : (root : ℕ) → IsFileTree (new_tree nat_eq root)
new_tree_is root = grind (arith, common_steps, is_tree-tree_of_root, root_only)

-- a filesystem more
pub new_is_plain : (world : World ℕ) (filesystem : Filesystem ℕ) → is_overlay filesystem ≡ false → IsPlain world
    → All (λ f. is_overlay f ≡ false) (world.filesystems ++ (filesystem ∷ []))
new_is_plain world filesystem plain all =
    All-append (λ f. is_overlay f ≡ false) world.filesystems (filesystem ∷ []) all
    (All-cons (λ f. is_overlay f ≡ false) filesystem [] plain (All-nil (λ f. is_overlay f ≡ false)))

pub more_filesystems : (world after_call : World ℕ) (filesystem : Filesystem ℕ)
    → after_call.filesystems ≡ world.filesystems ++ (filesystem ∷ [])
    → is_overlay filesystem ≡ false → IsFileTree filesystem.files → IsWorldOfTrees world → IsWorldOfTrees after_call
more_filesystems world after_call filesystem same plain tree conditions = record {
  plain = subst (All (λ f. is_overlay f ≡ false)) (sym same) (new_is_plain world filesystem plain conditions.plain);
  trees = subst (All (λ f. IsFileTree f.files)) (sym same) (All-append (λ f. IsFileTree f.files) world.filesystems
      (filesystem ∷ []) conditions.trees (All-cons (λ f. IsFileTree f.files) filesystem [] tree (All-nil _)));
}

-- What nothing uses goes
used_plain : (world : World ℕ) (chosen : Bool) (filesystem : Filesystem ℕ) → is_overlay filesystem ≡ false
    → is_overlay (only_used nat_eq world chosen filesystem) ≡ false
used_plain world chosen filesystem plain = grind (arith, common_steps)

pub without_dead_plain : (chosen : Filesystem ℕ → Bool) (world : World ℕ)
    → All (λ f. is_overlay f ≡ false) world.filesystems
    → All (λ f. is_overlay f ≡ false) (without_dead_in nat_eq chosen world).filesystems
without_dead_plain chosen world plain = All-map (λ f. is_overlay f ≡ false) _ world.filesystems (All-weaker _
    (λ f. is_overlay (only_used nat_eq world (chosen f) f) ≡ false) (λ f is. used_plain world (chosen f) f is) _ plain)

pub settled_plain : (world : World ℕ) → IsPlain world → IsPlain (settled nat_eq world)
settled_plain world plain =
    let mounted_world = without_dead_mounts nat_eq world in
    let living = without_dead_filesystems nat_eq mounted_world in
    without_dead_plain (λ f. not (is_overlay f)) (without_dead_in nat_eq is_overlay living)
    (without_dead_plain is_overlay living (All-filter _ (λ f. is_overlay f ≡ false) world.filesystems plain))

pub settled_keeps : (world : World ℕ) → IsWorldOfTrees world → IsWorldOfTrees (settled nat_eq world)
settled_keeps world conditions = record {
  plain = settled_plain world conditions.plain;
  trees = settling_keeps_trees world conditions.trees;
}

-- each way in which a call is granted
module _ (fresh : Fresh ℕ) (world : World ℕ) (task : Task ℕ) (conditions : IsWorldOfTrees world)
    (standing : IsStanding world) (new : AreNew fresh world) where
  -- a new object under a free name
  new_keeps : (place : Place ℕ) (node : Node ℕ) → IsNewIn place.parent.node node → IsFilePlace world place
      → is_special place.last ≡ false → is_some place.object ≡ false
      → NoneFails (new_name_rules nat_eq world place) → IsWorldOfTrees (with_new nat_eq fresh world place node)
  new_keeps place node fits is plain missing passed =
      change_keeps_world (odds fresh) world place.parent (making place (evens fresh 0) node) conditions
      (λ trees. record {
        name_is_free = place_is_free world place is plain missing passed trees;
        number_is_new = new_at fresh world place.parent new (2 * 0);
        fits = fits;
      })

  new_place_keeps : (place : Place ℕ) (node : Node ℕ) → IsNewIn place.parent.node node → IsNewPlace world task place
      → is_special place.last ≡ false → is_some place.object ≡ false
      → IsWorldOfTrees (with_new nat_eq fresh world place node)
  new_place_keeps place node fits is plain missing =
      new_keeps place node fits (place_is_file world place.parent place.last place.object is.0) plain missing is.1

  -- a change after mounts were taken away
  change_after_keeps : (gone : List ℕ) (location : Location ℕ) (change : Change ℕ)
      → (IsFileTree (files_at nat_eq world location) → IsProper (files_at nat_eq world location).tree change)
      → IsWorldOfTrees (with_change nat_eq fresh (taken_away nat_eq world gone) location change)
  change_after_keeps gone location change proper =
      change_keeps_world fresh (taken_away nat_eq world gone) location change
      (same_filesystems (taken_away nat_eq world gone) world (filesystems-taken_away world gone) conditions)
      (λ trees. subst (λ files. IsProper files.tree change) (sym (taken_files world gone location))
      (proper (subst IsFileTree (taken_files world gone location) trees)))

  replaced_after : (o : Option (Location ℕ)) (location : Location ℕ) (change : Change ℕ)
      → (IsFileTree (files_at nat_eq world location) → IsProper (files_at nat_eq world location).tree change)
      → IsWorldOfTrees (with_change nat_eq fresh (without_replaced nat_eq world o) location change)
  replaced_after None location change proper = change_keeps_world fresh world location change conditions proper
  replaced_after (Some new) location change proper = change_after_keeps _ location change proper

  bytes_keep : (file : Location ℕ) (bytes : List ℕ)
      → IsWorldOfTrees (with_change nat_eq fresh world file (SetBytes file.node bytes))
  bytes_keep file bytes = change_keeps_world fresh world file (SetBytes file.node bytes) conditions (λ trees. tt)

  written_keeps : (file : Location ℕ) (offset : ℕ) (bytes : List ℕ)
      → IsWorldOfTrees (pwritten nat_eq fresh world file offset bytes)
  written_keeps file offset [] = conditions
  written_keeps file offset (byte ∷ bytes) = bytes_keep file _

  -- open(2)
  opened_keeps : (file : Location ℕ) (access : Access)
      → IsWorldOfTrees (apply nat_eq fresh world task (ToOpen file access)).world
  opened_keeps file access = same_filesystems _ _ refl (by (is_copied_up nat_eq world file access))
    where
      by : (b : Bool) → IsWorldOfTrees (with_copy nat_eq b fresh world file)
      by true = change_keeps_world fresh world file (CopyUp file.node) conditions (λ trees. tt)
      by false = conditions

  created_keeps : (place : Place ℕ) (access : Access) (mode : ℕ)
      → IsWorldOfTrees (with_new nat_eq fresh world place (new_file task mode []))
      → IsWorldOfTrees (apply nat_eq fresh world task (open_new_permit task place access mode)).world
  created_keeps place access mode = same_filesystems _ (with_new nat_eq fresh world place (new_file task mode [])) refl

  granted_keeps : (call : Call) (permit : Permit ℕ) → mounts_overlay call ≡ false
      → IsGranted nat_eq (looks_of nat_eq world) (overfills nat_eq fresh world task) task call permit
      → IsWorldOfTrees (apply nat_eq fresh world task permit).world
  granted_keeps call permit other (overwrites_file path bytes place file end named there passed) = bytes_keep file bytes
  granted_keeps call permit other (writes_new_file path bytes place end named missing fits passed) =
      let is = file_is world task path place end in
      new_keeps place _ (inr refl) is.0.0 (or_false_left _ place.slash named.0) (ap is_some missing) is.0.1
  granted_keeps call permit other (makes_directory path mode place end passed) =
      new_place_keeps place (directory_made task place mode) (inl refl) (new_is world task path place end).0 passed.0
      passed.1.0
  granted_keeps call permit other (makes_symlink text path place fits end passed) =
      new_place_keeps place (symlink_made task text) (inr refl) (new_leaf_is world task path place end).0 passed.0
      passed.1.0
  granted_keeps call permit other (makes_whiteout path place end passed) =
      new_place_keeps place (whiteout_made task) (inr refl) (new_leaf_is world task path place end).0 passed.0
      passed.1.0
  granted_keeps call permit other (makes_hard_link old new from place from_end end named passed) =
      let there : is_some (node_at nat_eq world from.location) ≡ true = at_end _ _ from
      (ends_link_walk world (λ k default short. (conditions.trees k default short).tree) standing task old) from_end in
      change_keeps_world fresh world place.parent (linking from.location place) conditions
      (may_link world task from.location place there (new_leaf_is world task new place end).0 named.0 passed)
  granted_keeps call permit other (unlinks path place end named passed) =
      let is = old_leaf_is world task path place end in
      change_keeps_world fresh world place.parent (removing place (object_there place))
      conditions (λ trees. old_removable world place named.0 is.0 is.1 (entries_in-no_directory _ passed.0))
  granted_keeps call permit other (removes_directory path place end word passed) =
      let is = old_is world task path place end in
      change_after_keeps _ place.parent (removing place (object_there place)) (λ trees. old_removable
      world place (special_word place.last word.0 word.1.0 word.1.1.0) is.0 is.1 (nil_from_not_some _ passed.1.0))
  granted_keeps call permit other (renames old new from to names another passed) =
      let is = old_leaf_is world task old from names.from_end in
      let to_is = rename_new_is world task new _ to names.to_end in
      replaced_after to.object from.parent (moving from to (object_there from)) (λ trees.
      may_move world task from to names.from_named.0 is.0 is.1 names.to_named.0 to_is.0.0 to_is.0.1 another passed
      trees)
  granted_keeps call permit other (changes_mode path mode here end passed) =
      change_keeps_world fresh world here.location _ conditions (λ trees. tt)
  granted_keeps call permit other (changes_owner path uid gid here end passed) =
      change_keeps_world fresh world here.location _ conditions (λ trees. tt)
  granted_keeps call permit other (changes_mark path mark here admin end passed) =
      change_keeps_world fresh world here.location (SetMark here.location.node mark) conditions (λ trees. tt)
  granted_keeps call permit other (opens path access here room end passed) = opened_keeps here.location access
  granted_keeps call permit other (opens_existing path access mode place file room end named there passed) =
      opened_keeps file access
  granted_keeps call permit other (creates path access mode place room end named missing passed) =
      let is = file_is world task path place end in
      created_keeps place access mode (new_keeps place (new_file task mode []) (inr refl) is.0.0
      (or_false_left (is_special place.last) place.slash named.0) (ap is_some missing) is.0.1)
  granted_keeps call permit other (creates_exclusively path access mode place room end named passed) = created_keeps
      place access mode (new_place_keeps place _ (inr refl) (new_is world task path place end).0 named.0 named.1.1.0)
  granted_keeps call permit other (writes_part number offset bytes descriptor found passed) =
      written_keeps descriptor.location offset bytes
  granted_keeps call permit other (mounts_tmpfs path flags here admin end passed) =
      more_filesystems world _ (plain_filesystem nat_eq fresh) refl refl (new_tree_is (evens fresh 1)) conditions
  granted_keeps call permit other (mounts_overlayfs path words flags here layers admin end walked layered passed) =
      absurd (true≢false other)
  granted_keeps call permit other granted =
      same_filesystems (apply nat_eq fresh world task permit).world world (files_stay fresh world task permit refl)
      conditions

  pub outcome_keeps : (call : Call) → mounts_overlay call ≡ false
      → IsWorldOfTrees (call_outcome nat_eq fresh world task call).world
  outcome_keeps call other = call_holds IsWorldOfTrees fresh world task call conditions (λ permit granted.
      granted_keeps call permit other granted)

finished_keeps : (before : World ℕ) (name : TaskName) (changed : List ℕ) (outcome : Outcome ℕ) (b : Bool)
    → IsWorldOfTrees outcome.world → IsWorldOfTrees (finished_unless nat_eq b before name changed outcome).world
finished_keeps before name changed outcome true conditions = conditions
finished_keeps before name changed outcome false conditions = same_filesystems _ _
    refl (raised_keeps_world changed (settled nat_eq outcome.world) (settled_keeps outcome.world conditions))

pub calls_keep_trees : CallsKeepTrees
calls_keep_trees world fresh name call conditions standing new other =
    after_holds IsWorldOfTrees world (ok_or (task_called world name) (denial S2)) _ conditions (λ task found.
    finished_keeps world name _ (call_outcome nat_eq fresh world task call) _
    (outcome_keeps fresh world task conditions standing new call other))

-- the opening world
pub opening_has_trees : OpeningHasTrees
opening_has_trees fresh = (
  record {
    plain = All-cons (λ f. is_overlay f ≡ false) (new_plain nat_eq (fresh 2) (fresh 3)) [] refl (All-nil _);
    trees = All-cons (λ f. IsFileTree f.files) (new_plain nat_eq (fresh 2) (fresh 3)) [] (new_tree_is (fresh 3))
        (All-nil (λ f. IsFileTree f.files));
  },
  record {
    roots = All-cons HasRoot (first_mount nat_eq fresh) [] root_there (All-nil HasRoot);
    places = All-cons HasPlace (first_mount nat_eq fresh) [] (λ place e. none_is_not None place refl e) (All-nil _);
  },
)
  where
    HasRoot : Mount ℕ → Type 0
    HasRoot mount = is_directory_at nat_eq (opening nat_eq fresh) (root_of mount) ≡ true

    HasPlace : Mount ℕ → Type 0
    HasPlace mount = (place : Location ℕ) → mount.mount_point ≡ Some place
        → is_directory_at nat_eq (opening nat_eq fresh) place ≡ true

    the_mount : mount_in nat_eq (first_mount nat_eq fresh ∷ []) (fresh 0) ≡ first_mount nat_eq fresh
    the_mount = ap (λ b. unwrap_or (cond b (Some (first_mount nat_eq fresh)) None) (no_mount (fresh 0)))
        (eq-eqb (fresh 0) (fresh 0) refl)

    the_filesystem : numbered (fresh 2) (new_plain nat_eq (fresh 2) (fresh 3) ∷ [])
        ≡ new_plain nat_eq (fresh 2) (fresh 3)
    the_filesystem =
        ap (λ b. unwrap_or (cond b (Some (new_plain nat_eq (fresh 2) (fresh 3))) None) (no_filesystem (fresh 2)))
        (eq-eqb (fresh 2) (fresh 2) refl)

    root_there : is_directory_at nat_eq (opening nat_eq fresh) (record { mount = fresh 0; node = fresh 3 }) ≡ true
    root_there = grind (arith, common_steps, numbered, the_mount, the_filesystem, eq-eqb)
