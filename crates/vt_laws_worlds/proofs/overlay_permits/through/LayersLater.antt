-- Every call that changes nothing through an overlay leaves each of its layers, when what nothing uses is gone, too.
use Rattle.std.proofs.Common.{◌≡◌, ◌≢◌, refl, sym, ap, subst, ◌∙◌, true≢false, ℕ, nat_eq, Bool, true, false, not, List, [], ◌∷◌, ◌++◌, Option, Some, None, Ok, is_some, Contains, option_to_list}
use Rattle.vt_spec.proofs.Common.{Among, Call, Change, Filesystem, Fresh, IsWorld, Layer, Location, MountOverlay, Overlay, OverlayInvariants, Permit, Serves, Task, TaskName, World, among_from_contains, and_true_right, apply, call_outcome, directory_used, filesystem_numbered, finished_unless, is_overlay, judge_in, layers_of, mount_at, plain_filesystem, same_Some, settled, task_called, without_dead_filesystems, without_dead_in, without_dead_mounts}
use Rattle.vt_laws_trees.specs.Trees.Calls.{mounts_overlay}
use Rattle.vt_laws_trees.specs.Trees.Limits.{names_few_groups}
use Rattle.vt_laws_trees.specs.Layers.Layers.Locked.{LeadsAsBefore}
use Rattle.vt_laws_trees.proofs.layers.locked.Apart.{layer_plain}
use Rattle.vt_laws_trees.proofs.layers.layers.LowersCalls.{same_filesystem}
use Rattle.vt_laws_worlds.proofs.merging.mounted.Again.{files_raised}
use Rattle.vt_laws_worlds.proofs.merging.mounted.Worlds.{mounting_leaves_a_world}
use Rattle.vt_laws_worlds.specs.Worlds.Kept.{IsUnderWay}
use Rattle.vt_laws_worlds.proofs.worlds.CallsKept.{name_found}
use Rattle.vt_laws_worlds.proofs.settling.SettledTasks.{trees_under_way}
use Rattle.vt_laws_worlds.specs.OverlayPermits.Asked.{change_asked}
use Rattle.vt_laws_worlds.specs.OverlayPermits.LockedOverScripts.{is_live}
use Rattle.vt_laws_worlds.specs.OverlayPermits.Through.{EveryCallLeavesOtherLayers}
use Rattle.vt_laws_worlds.proofs.overlay_permits.through.CallsThrough.{as_permitted}
use Rattle.vt_laws_worlds.proofs.overlay_permits.worlds.EveryCall.{LeavesFilesystems, overlays_kept, unchanged, under}
use Rattle.vt_laws_worlds.proofs.overlay_permits.worlds.EveryCall.LeavesFilesystems.{as_they_were, with_overlay, with_plain}
use Rattle.vt_laws_worlds.proofs.overlay_permits.through.LayersThrough.{calls_leave_other_layers}
use Rattle.vt_laws_worlds.proofs.overlay_permits.worlds.LowersAfterCalls.{call_stays, every_call_leaves_lowers, shown_still}
use Rattle.vt_laws_worlds.proofs.overlay_permits.worlds.LowersGoOn.{OverlayStays, leads_both, leads_by_files, raised_overlay}
use Rattle.vt_laws_worlds.proofs.overlay_permits.worlds.OverlaysGoOn.{GoesOn}
use Rattle.vt_laws_worlds.proofs.overlay_permits.worlds.PolicyLeads.{named_leads}
use Rattle.vt_laws_worlds.proofs.overlay_permits.worlds.SweptInodes.{file_trees_are, files_later, first_goes, one_later, second_goes}
use Rattle.vt_laws_worlds.proofs.overlay_permits.worlds.SweptOverlays.{leads_same, living_goes}
use Rattle.vt_laws_worlds.proofs.overlay_permits.worlds.SweptWorlds.{files_living, mounted_overlays, one_living, overlays_first, overlays_living}

-- An overlay that goes on has its layers
layers_before : (world later : World ℕ) (number : ℕ) (after : Overlay ℕ) (on : GoesOn world later number after)
    → layers_of after ≡ layers_of on.before
layers_before world later number after on =
    λ i. option_to_list (on.upper i) ++ option_to_list (on.work i) ++ on.lowers i

-- In the sweep paths lead from each layer of an overlay that is live later
module _ (world : World ℕ) (way : IsUnderWay world) (are : OverlayInvariants nat_eq world) (number : ℕ) where
  abbrev mounted : World ℕ
  mounted = without_dead_mounts nat_eq world

  abbrev living : World ℕ
  living = without_dead_filesystems nat_eq mounted

  abbrev first : World ℕ
  first = without_dead_in nat_eq is_overlay living

  swept_leads : (after : Overlay ℕ) → (filesystem_numbered nat_eq (settled nat_eq world) number).overlay ≡ Some after
      → (overlay : Overlay ℕ) → (filesystem_numbered nat_eq world number).overlay ≡ Some overlay
      → (layer : Layer ℕ) → Among layer (layers_of overlay) → LeadsAsBefore world (settled nat_eq world) layer
  swept_leads after e overlay was layer m =
      let files = files_living world way are in
      let one = one_living world way are in
      let third = second_goes first (files_later is_overlay living files one) (one_later is_overlay living files one)
      (overlays_first world way are) number after e in
      let second = first_goes living files one (overlays_living world way are) number third.before third.is in
      let begins = living_goes mounted (file_trees_are mounted (trees_under_way world way) way.files.one_filesystem)
      (mounted_overlays world way are) number second.before second.is in
      let at_first : Among layer (layers_of begins.before) =
      subst (λ o. Among layer (layers_of o)) (sym (same_Some begins.before overlay (sym begins.is ∙ was))) m in
      let at_second : Among layer (layers_of second.before) =
      subst (Among layer) (sym (layers_before mounted living number second.before begins)) at_first in
      let at_third : Among layer (layers_of third.before) =
      subst (Among layer) (sym (layers_before living first number third.before second)) at_second in
      leads_both world living (settled nat_eq world) layer (begins.leads layer at_first)
      (leads_both living first (settled nat_eq world) layer (second.leads layer at_second) (third.leads layer at_third))

-- A granted call, before what nothing uses is gone, and after
module _ (world : World ℕ) (is : IsWorld nat_eq world) (number : ℕ) (overlay : Overlay ℕ)
    (was : (filesystem_numbered nat_eq world number).overlay ≡ Some overlay) (layer : Layer ℕ)
    (contains : Contains (layers_of overlay) layer)
    (fresh : Fresh ℕ) (serves : Serves nat_eq world fresh) (task : Task ℕ) (call : Call) (permit : Permit ℕ)
    (called : task_called world task.name ≡ Some task)
    (granted : judge_in nat_eq fresh world task call ≡ Ok permit) where
  abbrev left : World ℕ
  left = (call_outcome nat_eq fresh world task call).world

  abbrev last : TaskName → List ℕ → World ℕ
  last name changed = (finished_unless nat_eq false world name changed (call_outcome nat_eq fresh world task call)).world

  m : Among layer (layers_of overlay)
  m = among_from_contains (layers_of overlay) layer contains

  grown_leads : (new : Filesystem ℕ) → left.filesystems ≡ world.filesystems ++ (new ∷ [])
      → LeadsAsBefore world left layer
  grown_leads new more = leads_same world left layer (shown_still world left new more layer.filesystem layer.directory
      (directory_used (filesystem_numbered nat_eq world layer.filesystem).files.tree layer.directory
      (and_true_right (not (is_overlay (filesystem_numbered nat_eq world layer.filesystem))) _
      (layer_plain world is number overlay was layer m))))

  pub left_leads :
      ((location : Location ℕ) (change : Change ℕ) → change_asked fresh world permit ≡ Some (location, change)
      → number ≢ (mount_at nat_eq world location).filesystem) → LeadsAsBefore world left layer
  left_leads elsewhere = by (change_asked fresh world permit) refl
    where
      permitted : left.filesystems ≡ (apply nat_eq fresh world task permit).world.filesystems
      permitted = as_permitted world fresh task call permit granted

      as_left : LeavesFilesystems world fresh task permit → LeadsAsBefore world left layer
      as_left (as_they_were same) = leads_same world left layer
          (same_filesystem world left layer.filesystem (permitted ∙ same))
      as_left (with_plain more) = grown_leads (plain_filesystem nat_eq fresh) (permitted ∙ more)
      as_left (with_overlay not_named new more) = grown_leads new (permitted ∙ more)

      by : (o : Option (Location ℕ × Change ℕ)) → change_asked fresh world permit ≡ o → LeadsAsBefore world left layer
      by None e = as_left (unchanged world fresh task permit e)
      by (Some made) e =
          (calls_leave_other_layers world fresh task call permit made.0 made.1 number overlay layer is serves called
          granted e (elsewhere made.0 made.1 e) was contains).paths

  pub swept_granted : names_few_groups call ≡ true → (mounts : Bool) → mounts_overlay call ≡ mounts → (now : Overlay ℕ)
      → (filesystem_numbered nat_eq (settled nat_eq left) number).overlay ≡ Some now
      → LeadsAsBefore left (settled nat_eq left) layer
  swept_granted few false other now e =
      swept_leads left (under call is serves called other few granted)
      (overlays_kept call is serves called other few granted) number now e stays.after stays.is
      layer (subst (Among layer) (λ i. option_to_list (sym stays.upper i) ++ option_to_list (sym stays.work i)
      ++ sym stays.lowers i) m)
    where
      stays : OverlayStays world left number overlay
      stays = call_stays world is number overlay was fresh serves task call permit called granted
  swept_granted few true mounts now e =
      subst (λ w. LeadsAsBefore left w layer) (sym (mounted call mounts)) (leads_by_files left left layer refl)
    where
      mounted : (c : Call) → mounts_overlay c ≡ true → settled nat_eq (call_outcome nat_eq fresh world task c).world
          ≡ (call_outcome nat_eq fresh world task c).world
      mounted (MountOverlay path options flags) f =
          (mounting_leaves_a_world fresh world task path options flags is serves called).nothing_unused
      mounted c f = cc

  finished_leads : ((location : Location ℕ) (change : Change ℕ)
      → change_asked fresh world permit ≡ Some (location, change)
      → number ≢ (mount_at nat_eq world location).filesystem)
      → names_few_groups call ≡ true → (name : TaskName) (changed : List ℕ) → is_live (last name changed) number ≡ true
      → LeadsAsBefore world (last name changed) layer
  finished_leads elsewhere few name changed live = by
      (filesystem_numbered nat_eq (settled nat_eq left) number).overlay refl
    where
      by : (o : Option (Overlay ℕ)) → (filesystem_numbered nat_eq (settled nat_eq left) number).overlay ≡ o
          → LeadsAsBefore world (last name changed) layer
      by None e = absurd (true≢false
          (sym live ∙ ap is_some (raised_overlay world name changed (settled nat_eq left) number ∙ e)))
      by (Some now) e = leads_both world left (last name changed) layer (left_leads elsewhere)
          (leads_both left (settled nat_eq left) (last name changed) layer
          (swept_granted few (mounts_overlay call) refl now e)
          (leads_by_files (settled nat_eq left) (last name changed) layer
          (files_raised changed layer.filesystem (settled nat_eq left).filesystems)))

pub every_call_leaves_other_layers : EveryCallLeavesOtherLayers
every_call_leaves_other_layers world fresh name call number overlay is serves few was alone live =
    let lower = every_call_leaves_lowers world fresh name call number overlay is serves few was live in
    record {
      after = lower.after;
      is = lower.is;
      upper = lower.upper;
      work = lower.work;
      lowers = lower.lowers;
      paths = λ layer contains.
          named_leads (λ w. is_live w number ≡ true → LeadsAsBefore world w layer) world fresh name call
          (λ there. leads_by_files world world layer refl) (λ task found permit changed granted.
          finished_leads world is number overlay was layer contains fresh serves task call permit
          (ap (task_called world) (sym (name_found world name task found)) ∙ found) granted
          (λ location change asks. alone task permit location change found granted asks) few name changed) live;
    }
