-- An overlay after a call that changes it.
use Rattle.std.proofs.Common.{◌≡◌, refl, sym, ap, subst, ◌∙◌, ℕ, nat_eq, Bool, ◌||◌, List, Option, Some, None, map, flat_map, find, unwrap_or}
use Rattle.vt_spec.proofs.Common.{Change, Filesystem, Fresh, Layer, Location, Merge, Overlay, OverlayInvariants, Permit, Real, Task, World, apply, filesystem_at, filesystem_changed, filesystem_numbered, filesystems-taken_away, is_among, merge_changed, merge_of, mount_at, mount_tree, mounts_on, no_filesystem, overlay_changed, shown-taken_away, stack_of, taken_away, with_change}
use Rattle.vt_laws_mounts.specs.LettingGo.FileChanges.{names_lost}
use Rattle.vt_laws_trees.proofs.overlays.changes.WholeLater.{ChangesMerge, changed_filesystem, changing, later_is, overlay_later}
use Rattle.vt_laws_trees.proofs.overlays.changes.WholeWorlds.{overlays_are_whole}
use Rattle.vt_laws_trees.proofs.overlays.seen.SeenTrees.{overlays_are_seen}
use Rattle.vt_laws_trees.specs.Overlays.WhatIsShown.{IsWhole}
use Rattle.vt_laws_trees.specs.Overlays.WholeChanges.{IsAskedWell}
use Rattle.vt_laws_worlds.specs.Merging.UpperCalls.{Does}
use Rattle.vt_laws_worlds.specs.Merging.UpperCalls.Does.{does_change, does_make, does_open, does_open_new, does_remove, does_rename, does_write}
use Rattle.vt_laws_worlds.specs.Merging.UpperChanges.{AreNew}
use Rattle.vt_laws_worlds.specs.OverlayPermits.Changed.{numbers_left}
use Rattle.vt_laws_worlds.specs.Permits.Left.{left_by}
use Rattle.vt_laws_worlds.specs.Worlds.Kept.{IsUnderWay}
use Rattle.vt_laws_worlds.proofs.given.left.Permits.{given_permits_are_under_way_anywhere, given_permits_leave_every_world}
use Rattle.vt_laws_worlds.proofs.overlay_permits.asked.AskedOverlays.{permits_ask_overlays_well}
use Rattle.vt_laws_worlds.proofs.overlay_permits.changed.ChangedOverlays.{are_left}
use Rattle.vt_laws_upper_layers.specs.Births.{AreBirths, Births, births_after}
use Rattle.vt_laws_upper_layers.specs.Naming.{AreKept}
use Rattle.vt_laws_upper_layers.specs.SeenAfter.{BirthsFollowCalls, ChangesOverlay, KeptFollowCalls, LayersOfOverlaysStay, OverlaysAreSeenAfterCalls, kept_then, number_at}
use Rattle.vt_laws_upper_layers.proofs.births.Changing.{births_follow_changes}
use Rattle.vt_laws_upper_layers.proofs.births.Found.{births_go_with_inodes}
use Rattle.vt_laws_upper_layers.proofs.births.Kept.{kept_follow_changes}
use Rattle.vt_laws_upper_layers.proofs.births.Named.{births_name}
use Rattle.vt_laws_upper_layers.proofs.births.Swept.{kept_are_located, overlay_left, real_left}

-- A change depends on the filesystems alone
only_files : (now world : World ℕ) (fresh : Fresh ℕ) (f : Filesystem ℕ) (o : Option (Overlay ℕ)) (change : Change ℕ)
    → (filesystem_changed nat_eq fresh (record now { filesystems = world.filesystems }) f o change).filesystems
    ≡ (filesystem_changed nat_eq fresh world f o change).filesystems
only_files now world fresh f None change = refl
only_files now world fresh f (Some overlay) change = by overlay.upper
  where
    by : (u : Option (Layer ℕ))
        → (overlay_changed nat_eq fresh (record now { filesystems = world.filesystems }) f overlay u change).filesystems
        ≡ (overlay_changed nat_eq fresh world f overlay u change).filesystems
    by None = refl
    by (Some upper) = refl

changed_same : (now world : World ℕ) → now.filesystems ≡ world.filesystems → (fresh : Fresh ℕ) (location : Location ℕ)
    (change : Change ℕ) → filesystem_at nat_eq now location ≡ filesystem_at nat_eq world location
    → (with_change nat_eq fresh now location change).filesystems
    ≡ (with_change nat_eq fresh world location change).filesystems
changed_same now world same fresh location change at =
    ap (λ f. (filesystem_changed nat_eq fresh now f f.overlay change).filesystems) at
    ∙ (λ i. (filesystem_changed nat_eq fresh (record now { filesystems = same i })
    (filesystem_at nat_eq world location) (filesystem_at nat_eq world location).overlay change).filesystems)
    ∙ only_files now world fresh (filesystem_at nat_eq world location)
    (filesystem_at nat_eq world location).overlay change

taken_same : (fresh : Fresh ℕ) (world : World ℕ) (gone : List ℕ) (location : Location ℕ) (change : Change ℕ)
    → (with_change nat_eq fresh (taken_away nat_eq world gone) location change).filesystems
    ≡ (with_change nat_eq fresh world location change).filesystems
taken_same fresh world gone location change =
    changed_same (taken_away nat_eq world gone) world (filesystems-taken_away world gone) fresh location change
    (ap (filesystem_numbered nat_eq (taken_away nat_eq world gone)) (shown-taken_away world gone location)
    ∙ ap (λ list. unwrap_or (find (λ (filesystem : Filesystem ℕ).
    nat_eq (mount_at nat_eq world location).filesystem filesystem.number) list)
    (no_filesystem (mount_at nat_eq world location).filesystem)) (filesystems-taken_away world gone))

-- A permit leaves the filesystems that its change leaves
call_filesystems : (fresh : Fresh ℕ) (world : World ℕ) (task : Task ℕ) (permit : Permit ℕ) (location : Location ℕ)
    (numbers : Fresh ℕ) (change : Change ℕ) → Does fresh world permit location numbers change
    → (apply nat_eq fresh world task permit).world.filesystems
    ≡ (with_change nat_eq numbers world location change).filesystems
call_filesystems fresh world task permit location numbers change (does_change place made) = refl
call_filesystems fresh world task permit location numbers change (does_make directory name node) = refl
call_filesystems fresh world task permit location numbers change (does_open_new directory name node access) = refl
call_filesystems fresh world task permit location numbers change (does_remove parent name directory) =
    taken_same numbers world (map (λ mount. mount.number)
    (flat_map (mount_tree nat_eq world.mounts) (mounts_on nat_eq world directory))) location change
call_filesystems fresh world task permit location numbers change
    (does_rename from old to new_name object None) = refl
call_filesystems fresh world task permit location numbers change
    (does_rename from old to new_name object (Some replaced)) =
    taken_same numbers world (map (λ mount. mount.number)
    (flat_map (mount_tree nat_eq world.mounts) (mounts_on nat_eq world replaced))) location change
call_filesystems fresh world task permit location numbers change (does_open file access copied) = cc
call_filesystems fresh world task permit location numbers change (does_write file offset byte bytes) = refl

module _ (fresh : Fresh ℕ) (world : World ℕ) (task : Task ℕ) (permit : Permit ℕ) (location : Location ℕ)
    (change : Change ℕ) (overlay : Overlay ℕ) (upper : Layer ℕ) (later : Overlay ℕ)
    (it : ChangesOverlay fresh world task permit location change overlay upper)
    (there : (filesystem_numbered nat_eq (left_by fresh world task permit) (number_at world location)).overlay
    ≡ Some later) where
  abbrev numbers : Fresh ℕ
  numbers = numbers_left fresh permit

  abbrev number : ℕ
  number = number_at world location

  abbrev after : World ℕ
  after = (apply nat_eq fresh world task permit).world

  abbrev merge : Merge ℕ
  merge = merge_of nat_eq world (filesystem_at nat_eq world location) overlay upper

  abbrev changed_merge : Merge ℕ
  changed_merge = merge_changed nat_eq numbers (stack_of nat_eq world overlay upper) merge change

  abbrev changed_overlay : Overlay ℕ
  changed_overlay = record overlay { real = changed_merge.real }

  whole : IsWhole (stack_of nat_eq world overlay upper) merge
  whole = overlays_are_whole world number overlay upper it.in_world it.is_overlay it.has_upper

  new : AreNew numbers merge.upper
  new =
      let left = are_left world fresh it.in_world it.given.serves permit in
      record { distinct = left.0; unused = left.1 upper.filesystem }

  asked : IsAskedWell (stack_of nat_eq world overlay upper) merge change
  asked = permits_ask_overlays_well world fresh task it.given.call permit location change overlay upper it.in_world
      it.given.serves it.given.called it.given.judged it.asks it.is_overlay it.has_upper

  changes : ChangesMerge numbers world location change overlay upper
  changes =
      let left = are_left world fresh it.in_world it.given.serves permit in
      changing numbers world location change overlay upper it.in_world it.is_overlay it.has_upper left.0 left.1 asked

  changed_there : filesystem_numbered nat_eq after number ≡ changed_filesystem changes
  changed_there =
      ap (λ list. unwrap_or (find (λ (filesystem : Filesystem ℕ). nat_eq number filesystem.number) list)
      (no_filesystem number))
      (call_filesystems fresh world task permit location numbers change it.makes)
      ∙ ap (λ w. filesystem_numbered nat_eq w number) (later_is changes) ∙ overlay_later changes

  overlay_after : (filesystem_numbered nat_eq after number).overlay ≡ Some changed_overlay
  overlay_after = ap (λ (f : Filesystem ℕ). f.overlay) changed_there

  under_way : IsUnderWay after × OverlayInvariants nat_eq after
  under_way = given_permits_are_under_way_anywhere world fresh task permit it.in_world it.given

  layers_stay : later ≡ record overlay { real = later.real }
  layers_stay = overlay_left after under_way.0 number later there under_way.1 changed_overlay overlay_after

  module _ (born : Real ℕ → ℕ) (births : Births)
      (is : Rattle.vt_laws_upper_layers.specs.Births.IsBornAbove born (numbers_left fresh permit) change)
      (are : AreBirths born births overlay.real) where
    births_then_are : AreBirths born
        (Rattle.vt_laws_upper_layers.specs.SeenAfter.births_then fresh world permit location change overlay upper births
        later) later.real
    births_then_are =
        births_go_with_inodes born (births_after numbers merge births change) changed_merge.real later.real
        (real_left after under_way.0 number later there under_way.1 changed_overlay overlay_after)
        (births_follow_changes numbers (stack_of nat_eq world overlay upper) merge whole new born births change asked is
        are)

  module _ (kept : ℕ → Bool) (keeps : AreKept kept merge.files.tree overlay.real) where
    kept_then_are : AreKept (kept_then world (left_by fresh world task permit) location change kept)
        (filesystem_numbered nat_eq (left_by fresh world task permit) number).files.tree later.real
    kept_then_are = kept_are_located after number changed_overlay later
        (λ n. kept n || is_among nat_eq n (names_lost merge.files change)) under_way.0 under_way.1 overlay_after there
        (subst (λ (f : Filesystem ℕ). AreKept (λ n. kept n || is_among nat_eq n (names_lost merge.files change))
        f.files.tree changed_merge.real) (sym changed_there)
        (kept_follow_changes numbers (stack_of nat_eq world overlay upper) merge whole new kept change asked keeps))

pub layers_of_overlays_stay : LayersOfOverlaysStay
layers_of_overlays_stay fresh world task permit location change overlay upper later born births kept it is are keeps
    there =
    layers_stay fresh world task permit location change overlay upper later it there

pub births_follow_calls : BirthsFollowCalls
births_follow_calls fresh world task permit location change overlay upper later born births kept it is are keeps there =
    births_then_are fresh world task permit location change overlay upper later it there born births is are

pub kept_follow_calls : KeptFollowCalls
kept_follow_calls fresh world task permit location change overlay upper later born births kept it is are keeps there =
    kept_then_are fresh world task permit location change overlay upper later it there kept keeps

pub overlays_are_seen_after_calls : OverlaysAreSeenAfterCalls
overlays_are_seen_after_calls fresh world task permit location change overlay upper later born births kept it is are
    keeps there origin copies longest turned origins larger =
    overlays_are_seen _ _ (left_by fresh world task permit) (number_at world location) later longest
    (given_permits_leave_every_world world fresh task permit it.in_world it.given) there
    (births_name origin born _ copies _
    (filesystem_numbered nat_eq (left_by fresh world task permit) (number_at world location)) later
    (births_then_are fresh world task permit location change overlay upper later it there born births is are) turned
    origins (kept_then_are fresh world task permit location change overlay upper later it there kept keeps))
    larger
