-- Every call keeps the invariants of a world, with overlays too.
use Rattle.std.proofs.Common.{◌≡◌, refl, sym, ap, subst, ◌∙◌, ℕ, nat_eq, Bool, true, false, List, [], ◌∷◌, ◌++◌, Option, Some, None, Ok}
use Rattle.vt_spec.proofs.Common.{Call, Change, CopyUp, Filesystem, ForksAreCounted, Fresh, IsWorld, Layer, Location, MountInvariants, MountOverlay, NamespaceInvariants, Outcome, Overlay, OverlayInvariants, Permit, Serves, Task, TaskName, ToChange, ToEnterNamespace, ToExit, ToMake, ToMountOverlay, ToMountPlain, ToOpen, ToOpenNew, ToRemoveDirectory, ToRename, ToSetType, ToUnmount, ToUnmountLazily, ToUnshare, ToWritePart, TreeInvariants, World, apply, call_outcome, evens, filesystem_at, filesystem_changed, filesystems-taken_away, finished_unless, going, is_copied_up, is_within_limits, judge_in, mount_numbered, namespace_entered, none_is_some, overlay_changed, overlay_filesystem, plain_filesystem, policy, same_name, settled, task_called, unshared, when, with_change, with_copy, with_new_filesystem, without_task}
use Rattle.vt_laws_rules.proofs.judged.CallsJudged.{call_is_judged_then_applied}
use Rattle.vt_laws_mounts.proofs.letting_go.Lists.{all_from_among, among_from_list_all}
use Rattle.vt_laws_mounts.proofs.mounts.MountsRetyped.{types_are_of_mounts}
use Rattle.vt_laws_mounts.proofs.ends.UnmountingEnds.{lazy_is_of_mounts}
use Rattle.vt_laws_trees.specs.Trees.Calls.{mounts_overlay}
use Rattle.vt_laws_trees.specs.Trees.Limits.{names_few_groups}
use Rattle.vt_laws_trees.proofs.trees.TreesEntered.{found_all}
use Rattle.vt_laws_trees.proofs.trees.TreesLimits.{outcome_small}
use Rattle.vt_laws_worlds.specs.Worlds.Kept.{IsUnderWay, MountsShow}
use Rattle.vt_laws_worlds.specs.Worlds.Permits.{IsFitPermit, NamesWhatIsThere}
use Rattle.vt_laws_worlds.specs.Worlds.Tasks.{LocationsAreThere, OneTaskAName, OpenFilesAreRegular, TasksStandOnDirectories}
use Rattle.vt_laws_worlds.proofs.worlds.FitPermitsNamed.{all_permits_fit}
use Rattle.vt_laws_worlds.proofs.kept.MountsKept.{all_mounts_kept}
use Rattle.vt_laws_worlds.proofs.kept.NamespacesKept.{all_namespaces_kept}
use Rattle.vt_laws_worlds.proofs.worlds.PermitsNamed.{all_permits_keep_counting_forks, all_permits_keep_names}
use Rattle.vt_laws_worlds.proofs.worlds.PermitsPlaced.{HasLayerToWrite, directories_stay, locations_stay, open_files_stay}
use Rattle.vt_laws_worlds.proofs.worlds.PermitsShow.{all_permits_keep_mounts_showing}
use Rattle.vt_laws_worlds.proofs.merging.mounted.WorldsRaised.{policy_mounts_a_world, raising_keeps_worlds}
use Rattle.vt_laws_worlds.specs.OverlayPermits.Asked.{change_asked}
use Rattle.vt_laws_worlds.specs.OverlayPermits.Changed.{numbers_left}
use Rattle.vt_laws_worlds.specs.OverlayPermits.EveryWorld.{EveryCallKeepsWorlds}
use Rattle.vt_laws_worlds.specs.OverlayPermits.Unlocked.{SparesLocked, SparesLockedIf}
use Rattle.vt_laws_worlds.proofs.overlay_permits.asked.AskedOverlays.{permits_ask_properly}
use Rattle.vt_laws_worlds.proofs.overlay_permits.kept.KeptOverlays.{overlays_in, permits_keep_overlay_invariants, permits_make_their_change, trees_in}
use Rattle.vt_laws_worlds.proofs.overlay_permits.worlds.NewPlain.{new_plain_overlays, new_plain_trees}
use Rattle.vt_laws_worlds.proofs.overlay_permits.worlds.PolicyLeads.{policy_leads}
use Rattle.vt_laws_worlds.proofs.overlay_permits.worlds.PlainChanges.{plain_change_keeps_overlays, plain_change_keeps_trees}
use Rattle.vt_laws_worlds.proofs.overlay_permits.worlds.SweptWorlds.{settled_is_a_world}
use Rattle.vt_laws_worlds.proofs.overlay_permits.asked.Unlocked.{permits_spare_what_is_locked}

-- what is made in an overlay is made in its upper layer
writes : (world : World ℕ) (fresh : Fresh ℕ) (permit : Permit ℕ)
    → SparesLockedIf world (change_asked fresh world permit) → HasLayerToWrite world permit
writes world fresh (ToOpenNew directory name node access) spares = spares.layer
writes world fresh permit spares = tt

-- What a permit leaves of filesystems that asks for no change: they are as they were, or there is one more, which is an
-- overlay
-- just where the permit is for the mount of one.
pub data LeavesFilesystems (world : World ℕ) (fresh : Fresh ℕ) (task : Task ℕ) (permit : Permit ℕ) : Type 0 where
  as_they_were : (apply nat_eq fresh world task permit).world.filesystems ≡ world.filesystems
      → LeavesFilesystems world fresh task permit
  with_plain : (apply nat_eq fresh world task permit).world.filesystems ≡ world.filesystems
      ++ (plain_filesystem nat_eq fresh ∷ []) → LeavesFilesystems world fresh task permit
  with_overlay : (NamesWhatIsThere world task permit → ⊥) → (new : Filesystem ℕ)
      → (apply nat_eq fresh world task permit).world.filesystems ≡ world.filesystems ++ (new ∷ [])
      → LeavesFilesystems world fresh task permit

module _ (world : World ℕ) (fresh : Fresh ℕ) (task : Task ℕ) where
  pub unchanged : (permit : Permit ℕ) → change_asked fresh world permit ≡ None
      → LeavesFilesystems world fresh task permit
  unchanged (ToChange location change) e = none_is_some _ (sym e)
  unchanged (ToMake directory name node) e = none_is_some _ (sym e)
  unchanged (ToRemoveDirectory parent name directory) e = none_is_some _ (sym e)
  unchanged (ToRename from old to new object replaced) e = none_is_some _ (sym e)
  unchanged (ToOpen file access) e = as_they_were (opens (is_copied_up nat_eq world file access) e)
    where
      opens : (b : Bool) → when {A = Location ℕ × Change ℕ} b (file, CopyUp file.node) ≡ None
          → (with_copy nat_eq b fresh world file).filesystems ≡ world.filesystems
      opens true h = none_is_some _ (sym h)
      opens false h = refl
  unchanged (ToOpenNew directory name node access) e = none_is_some _ (sym e)
  unchanged (ToWritePart file offset []) e = as_they_were refl
  unchanged (ToWritePart file offset (byte ∷ bytes)) e = none_is_some _ (sym e)
  unchanged ToExit e = as_they_were (filesystems-taken_away (without_task world task.name) _)
  unchanged ToUnshare e = as_they_were (filesystems-taken_away (unshared nat_eq world fresh task) _)
  unchanged (ToEnterNamespace namespace) e = as_they_were
      (filesystems-taken_away (namespace_entered nat_eq world task namespace) _)
  unchanged (ToMountPlain place flags) e = with_plain refl
  unchanged (ToMountOverlay place overlay flags) e = with_overlay (λ names. names)
      (overlay_filesystem nat_eq (evens fresh) world overlay) refl
  unchanged (ToUnmount mount) e = as_they_were
      (filesystems-taken_away world (going nat_eq world (mount_numbered nat_eq world mount)))
  unchanged (ToUnmountLazily mount) e = as_they_were (lazy_is_of_mounts world mount).filesystems
  unchanged (ToSetType mount word recursive) e = as_they_were
      (types_are_of_mounts world fresh mount word recursive).filesystems
  unchanged permit e = as_they_were refl

-- A granted call
module _ {world : World ℕ} {fresh : Fresh ℕ} {task : Task ℕ} (call : Call) {permit : Permit ℕ}
    (is : IsWorld nat_eq world) (serves : Serves nat_eq world fresh)
    (found : task_called world task.name ≡ Some task) (other : mounts_overlay call ≡ false)
    (few : names_few_groups call ≡ true) (granted : judge_in nat_eq fresh world task call ≡ Ok permit) where
  abbrev after_call : World ℕ
  after_call = (call_outcome nat_eq fresh world task call).world

  abbrev after_permit : World ℕ
  after_permit = (apply nat_eq fresh world task permit).world

  applied : call_outcome nat_eq fresh world task call ≡ apply nat_eq fresh world task permit
  applied = cc (call_is_judged_then_applied fresh world task call, granted)

  kept_by_call : (Invariant : World ℕ → Type 0) → Invariant after_permit → Invariant after_call
  kept_by_call Invariant h = subst (λ (o : Outcome ℕ). Invariant o.world) (sym applied) h

  fits : IsFitPermit fresh world task permit
  fits = all_permits_fit world fresh task call permit is serves found other granted

  spared : SparesLockedIf world (change_asked fresh world permit)
  spared = permits_spare_what_is_locked world fresh task call permit is serves found granted

  -- filesystems
  abbrev Files : World ℕ → Type 0
  Files w = TreeInvariants nat_eq w × OverlayInvariants nat_eq w

  files_in : (a b : World ℕ) → a.filesystems ≡ b.filesystems → Files b → Files a
  files_in a b same h = (trees_in a b same h.0, overlays_in a b same h.1)

  with_a_change : (location : Location ℕ) (change : Change ℕ)
      → change_asked fresh world permit ≡ Some (location, change) → Files after_permit
  with_a_change location change e = by (filesystem_at nat_eq world location).overlay refl
    where
      same : after_permit.filesystems
          ≡ (with_change nat_eq (numbers_left fresh permit) world location change).filesystems
      same = permits_make_their_change world fresh task permit location change e

      over : (overlay : Overlay ℕ) → (filesystem_at nat_eq world location).overlay ≡ Some overlay
          → (upper : Option (Layer ℕ)) → overlay.upper ≡ upper → Files after_permit
      over overlay p None u = files_in after_permit world
          (same ∙ ap (λ o. (filesystem_changed nat_eq (numbers_left fresh permit) world
          (filesystem_at nat_eq world location) o change).filesystems) p
          ∙ ap (λ o. (overlay_changed nat_eq (numbers_left fresh permit) world
          (filesystem_at nat_eq world location) overlay o change).filesystems) u) (is.files, is.overlays)
      over overlay p (Some upper) u =
          let kept =
          permits_keep_overlay_invariants world fresh task call permit location change overlay upper is serves found
          granted e p u in
          (kept.1, kept.0)

      by : (o : Option (Overlay ℕ)) → (filesystem_at nat_eq world location).overlay ≡ o → Files after_permit
      by None p =
          let proper = permits_ask_properly world fresh task call permit location change is serves found granted e in
          let spares : SparesLocked world location change = subst (SparesLockedIf world) e spared in
          files_in after_permit (with_change nat_eq (numbers_left fresh permit) world location change) same (
            plain_change_keeps_trees (numbers_left fresh permit) is p proper.0 proper.1 spares,
            plain_change_keeps_overlays (numbers_left fresh permit) is p proper.0 proper.1 spares,
          )
      by (Some overlay) p = over overlay p overlay.upper refl

  files_kept : Files after_permit
  files_kept = by (change_asked fresh world permit) refl
    where
      left : LeavesFilesystems world fresh task permit → Files after_permit
      left (as_they_were same) = files_in after_permit world same (is.files, is.overlays)
      left (with_plain more) = files_in after_permit (with_new_filesystem world (plain_filesystem nat_eq fresh)) more
          (new_plain_trees world fresh is serves, new_plain_overlays world fresh is serves)
      left (with_overlay not_named new more) = absurd (not_named fits.names)

      by : (o : Option (Location ℕ × Change ℕ)) → change_asked fresh world permit ≡ o → Files after_permit
      by None e = left (unchanged world fresh task permit e)
      by (Some made) e = with_a_change made.0 made.1 e

  within : is_within_limits task ≡ true
  within = found_all (λ (t : Task ℕ). is_within_limits t ≡ true) (λ t. same_name task.name t.name) world.tasks task
      (all_from_among (λ (t : Task ℕ). is_within_limits t ≡ true) world.tasks
      (among_from_list_all is_within_limits world.tasks is.tasks.small_tasks)) found

  pub under : IsUnderWay after_call
  under = record {
    files = kept_by_call (TreeInvariants nat_eq) files_kept.0;
    mounts = kept_by_call (MountInvariants nat_eq) (all_mounts_kept world fresh task permit is serves found fits);
    namespaces = kept_by_call (NamespaceInvariants nat_eq)
        (all_namespaces_kept world fresh task permit is serves found fits);
    tasks = record {
      one_task = kept_by_call OneTaskAName (all_permits_keep_names world fresh task permit is serves found fits);
      small_tasks = outcome_small fresh world task is.tasks.small_tasks within call few;
      forks_counted = kept_by_call ForksAreCounted
          (all_permits_keep_counting_forks world fresh task permit is serves found fits);
      locations_live = kept_by_call LocationsAreThere
          (locations_stay world fresh task permit is serves found fits (writes world fresh permit spared));
      directories = kept_by_call TasksStandOnDirectories
          (directories_stay world fresh task permit is serves found fits (writes world fresh permit spared));
      open_files = kept_by_call OpenFilesAreRegular
          (open_files_stay world fresh task permit is serves found fits (writes world fresh permit spared));
    };
    roots = kept_by_call MountsShow (all_permits_keep_mounts_showing world fresh task permit is serves found fits);
  }

  pub overlays_kept : OverlayInvariants nat_eq after_call
  overlays_kept = kept_by_call (OverlayInvariants nat_eq) files_kept.1

  -- and then what nothing uses goes, and numbers are raised
  finished_keeps : (name : TaskName) (changed : List ℕ)
      → IsWorld nat_eq (finished_unless nat_eq false world name changed (call_outcome nat_eq fresh world task call)).world
  finished_keeps name changed = raising_keeps_worlds world name changed (settled nat_eq after_call)
      (settled_is_a_world after_call under overlays_kept)

module _ (world : World ℕ) (fresh : Fresh ℕ) (name : TaskName) (is : IsWorld nat_eq world)
    (serves : Serves nat_eq world fresh) where
  overlay_call : (call : Call) → mounts_overlay call ≡ true → IsWorld nat_eq (policy nat_eq fresh world name call).world
  overlay_call (MountOverlay path options flags) e = policy_mounts_a_world fresh world name path options flags is serves
  overlay_call call e = absurd cc

  not_mounting : (call : Call) → mounts_overlay call ≡ false → names_few_groups call ≡ true
      → IsWorld nat_eq (policy nat_eq fresh world name call).world
  not_mounting call other few =
      policy_leads (IsWorld nat_eq) world fresh name call is (λ task permit changed found granted.
      finished_keeps call is serves found other few granted name changed)

pub every_call_keeps_worlds : EveryCallKeepsWorlds
every_call_keeps_worlds world fresh name call is serves few = by (mounts_overlay call) refl
  where
    by : (b : Bool) → mounts_overlay call ≡ b → IsWorld nat_eq (policy nat_eq fresh world name call).world
    by true e = overlay_call world fresh name is serves call e
    by false e = not_mounting world fresh name is serves call e few
