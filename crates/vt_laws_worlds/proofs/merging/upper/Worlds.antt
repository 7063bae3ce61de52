-- The upper layer's files after a permitted call.
use Rattle.std.proofs.Common.{arith, ◌≡◌, ◌≢◌, refl, sym, ap, subst, ◌∙◌, true≢false, ℕ, nat_eq, List, flat_map, map, Some, None, unwrap_or, find}
use Rattle.vt_spec.proofs.Common.{Change, Filesystem, Fresh, IsWorld, Layer, Location, Merge, Overlay, Permit, Task, World, apply, common_steps, filesystem_at, filesystem_changed, filesystem_numbered, filesystems-taken_away, is_directory_node, merge_changed, merge_of, mount_at, mount_tree, mounts_on, no_filesystem, overlay_changed, shown-taken_away, stack_of, taken_away, with_change, with_files, with_filesystem, with_merge}
use Rattle.vt_laws_rules.proofs.judged.CallsJudged.{call_is_judged_then_applied}
use Rattle.vt_laws_trees.proofs.layers.layers.LowersWorld.{filesystem_elsewhere, filesystem_there, number_of_filesystem}
use Rattle.vt_laws_trees.proofs.layers.layers.UpperWorld.{upper_elsewhere}
use Rattle.vt_laws_trees.specs.Overlays.WhatIsShown.{IsWhole}
use Rattle.vt_laws_trees.proofs.overlays.changes.WholeWorlds.{overlays_are_whole}
use Rattle.vt_laws_worlds.specs.Merging.UpperChanges.{AreNew}
use Rattle.vt_laws_worlds.specs.Merging.UpperCalls.{Asks, ChangeAt, ChangesAreByLayers, Does, UpperLayersAfterCalls, UpperLayersAfterWholeCalls, changed_above}
use Rattle.vt_laws_worlds.specs.Merging.UpperCalls.Asks.{copies, links, makes, moves, removes, sets_attr, sets_bytes, sets_mark}
use Rattle.vt_laws_worlds.specs.Merging.UpperCalls.Does.{does_change, does_make, does_open, does_open_new, does_remove, does_rename, does_write}
use Rattle.vt_laws_worlds.proofs.merging.upper.UpperKinds.{attr_is_set_above, bytes_are_set_above, linked_above, made_above, mark_is_set_above, moved_above, opened_is_copied, removed_above}

pub changes_are_by_layers : ChangesAreByLayers
changes_are_by_layers fresh stack merge whole new change at (makes path directory name number node is) =
    made_above fresh stack merge whole new path directory name number node is
changes_are_by_layers fresh stack merge whole new change at (links old path directory object name is at_old) =
    linked_above fresh stack merge whole new old path directory object name is at_old.0 at_old.1
changes_are_by_layers fresh stack merge whole new change at (removes path directory object name is) =
    removed_above fresh stack merge whole new path directory name object is
changes_are_by_layers fresh stack merge whole new change at
    (moves from_path to_path from to object old new_name from_is to_is may) =
    moved_above fresh stack merge whole new from_path to_path from to object old new_name from_is to_is may
changes_are_by_layers fresh stack merge whole new change at (sets_bytes file place bytes is) =
    bytes_are_set_above fresh stack merge whole new file place bytes is.0 is.1
changes_are_by_layers fresh stack merge whole new change at (sets_attr object place attr is) =
    attr_is_set_above fresh stack merge whole new object place attr is.0 is.1
changes_are_by_layers fresh stack merge whole new change at (sets_mark directory place opaque is) =
    mark_is_set_above fresh stack merge whole new directory place opaque is.0 is.1
changes_are_by_layers fresh stack merge whole new change at (copies object place is) =
    opened_is_copied fresh stack merge whole new object place is.0 is.1

-- In a world with the filesystems of one that has all invariants
module _ {world : World ℕ} (now : World ℕ) (conditions : IsWorld nat_eq world)
    (same : now.filesystems ≡ world.filesystems) (location : Location ℕ) {overlay : Overlay ℕ} {upper : Layer ℕ}
    (is : (filesystem_at nat_eq now location).overlay ≡ Some overlay) (has : overlay.upper ≡ Some upper) where
  abbrev number : ℕ
  number = (mount_at nat_eq now location).filesystem

  same_numbered : (n : ℕ) → filesystem_numbered nat_eq now n ≡ filesystem_numbered nat_eq world n
  same_numbered n = ap (λ list. unwrap_or (find (λ filesystem. nat_eq n filesystem.number) list) (no_filesystem n)) same

  is_before : (filesystem_numbered nat_eq world number).overlay ≡ Some overlay
  is_before = cc (same_numbered number, is)

  whole : IsWhole (stack_of nat_eq world overlay upper)
      (merge_of nat_eq world (filesystem_numbered nat_eq world number) overlay upper)
  whole = overlays_are_whole world number overlay upper conditions is_before has

  apart : upper.filesystem ≢ number
  apart = upper_elsewhere world conditions number overlay is_before upper has

  -- the upper layer's filesystem is there
  used : filesystem_numbered nat_eq world upper.filesystem ≢ no_filesystem upper.filesystem
  used none =
      true≢false (sym (whole.layers 0 _ refl).1 ∙ ap (λ f. is_directory_node (f.files.tree.node upper.directory)) none)

  module _ (merge : Merge ℕ) where
    abbrev changed_filesystem : Filesystem ℕ
    changed_filesystem = record (filesystem_numbered nat_eq now number) {
      files = merge.files;
      overlay = Some (record overlay { real = merge.real });
    }

    upper_after : (filesystem_numbered nat_eq
        (with_merge nat_eq now (filesystem_numbered nat_eq now number) overlay upper merge) upper.filesystem).files
        ≡ merge.upper
    upper_after = filesystem_there (λ f. f.files ≡ merge.upper) (with_filesystem nat_eq now changed_filesystem)
        (with_files (filesystem_numbered nat_eq now upper.filesystem) merge.upper) upper.filesystem
        (sym (number_of_filesystem now upper.filesystem)) refl
        (λ none. absurd (used (sym (same_numbered upper.filesystem)
        ∙ sym (filesystem_elsewhere now changed_filesystem upper.filesystem
        (λ e. apart (e ∙ number_of_filesystem now number))) ∙ none)))

  pub upper_changed : (fresh : Fresh ℕ) (change : Change ℕ)
      → (filesystem_numbered nat_eq (with_change nat_eq fresh now location change) upper.filesystem).files
      ≡ (merge_changed nat_eq fresh (stack_of nat_eq now overlay upper)
      (merge_of nat_eq now (filesystem_at nat_eq now location) overlay upper) change).upper
  upper_changed fresh change = ap (λ o. (filesystem_numbered nat_eq (filesystem_changed nat_eq fresh now
      (filesystem_at nat_eq now location) o change) upper.filesystem).files) is ∙ ap (λ o. (filesystem_numbered nat_eq
      (overlay_changed nat_eq fresh now
      (filesystem_at nat_eq now location) overlay o change) upper.filesystem).files) has
      ∙ upper_after (merge_changed nat_eq fresh (stack_of nat_eq now overlay upper)
      (merge_of nat_eq now (filesystem_at nat_eq now location) overlay upper) change)

  -- so it is what is said by layers
  pub upper_by_layers : (fresh : Fresh ℕ) (change : Change ℕ) (at : ChangeAt)
      → AreNew fresh (filesystem_numbered nat_eq world upper.filesystem).files
      → Asks (merge_of nat_eq world (filesystem_at nat_eq now location) overlay upper) change at
      → (filesystem_numbered nat_eq (with_change nat_eq fresh now location change) upper.filesystem).files
      ≡ changed_above fresh (stack_of nat_eq world overlay upper)
      (filesystem_numbered nat_eq world upper.filesystem).files at
  upper_by_layers fresh change at new asks = upper_changed fresh change
      ∙ (λ i. (merge_changed nat_eq fresh (stack_of nat_eq (record now { filesystems = same i }) overlay upper)
      (merge_of nat_eq (record now { filesystems = same i })
      (filesystem_at nat_eq now location) overlay upper) change).upper)
      ∙ changes_are_by_layers fresh (stack_of nat_eq world overlay upper)
      (merge_of nat_eq world (filesystem_at nat_eq now location) overlay upper)
      (subst (λ f. IsWhole (stack_of nat_eq world overlay upper) (merge_of nat_eq world f overlay upper))
      (sym (same_numbered number)) whole) new change at asks

-- A change in a world from which mounts are taken away, as one in the world before
module _ {world : World ℕ} (conditions : IsWorld nat_eq world) (gone : List ℕ) (location : Location ℕ)
    (overlay : Overlay ℕ) (upper : Layer ℕ) (is : (filesystem_at nat_eq world location).overlay ≡ Some overlay)
    (has : overlay.upper ≡ Some upper) where
  abbrev now : World ℕ
  now = taken_away nat_eq world gone

  filesystem_same : filesystem_at nat_eq now location ≡ filesystem_at nat_eq world location
  filesystem_same = ap (filesystem_numbered nat_eq now) (shown-taken_away world gone location)
      ∙ ap (λ list. unwrap_or (find (λ filesystem. nat_eq
      (mount_at nat_eq world location).filesystem filesystem.number) list)
      (no_filesystem (mount_at nat_eq world location).filesystem)) (filesystems-taken_away world gone)

  upper_taken : (fresh : Fresh ℕ) (change : Change ℕ) (at : ChangeAt)
      → AreNew fresh (filesystem_numbered nat_eq world upper.filesystem).files
      → Asks (merge_of nat_eq world (filesystem_at nat_eq world location) overlay upper) change at
      → (filesystem_numbered nat_eq (with_change nat_eq fresh now location change) upper.filesystem).files
      ≡ changed_above fresh (stack_of nat_eq world overlay upper)
      (filesystem_numbered nat_eq world upper.filesystem).files at
  upper_taken fresh change at new asks =
      upper_by_layers now conditions (filesystems-taken_away world gone) location
      (ap (λ f. f.overlay) filesystem_same ∙ is) has fresh change at new
      (subst (λ f. Asks (merge_of nat_eq world f overlay upper) change at) (sym filesystem_same) asks)

module _ (fresh : Fresh ℕ) {world : World ℕ} (task : Task ℕ) (location : Location ℕ) (at : ChangeAt)
    {overlay : Overlay ℕ} {upper : Layer ℕ} (conditions : IsWorld nat_eq world)
    (is : (filesystem_at nat_eq world location).overlay ≡ Some overlay) (has : overlay.upper ≡ Some upper) where
  after_call : (numbers : Fresh ℕ) (permit : Permit ℕ) (change : Change ℕ)
      → Does fresh world permit location numbers change
      → AreNew numbers (filesystem_numbered nat_eq world upper.filesystem).files
      → Asks (merge_of nat_eq world (filesystem_at nat_eq world location) overlay upper) change at
      → (filesystem_numbered nat_eq (apply nat_eq fresh world task permit).world upper.filesystem).files
      ≡ changed_above numbers (stack_of nat_eq world overlay upper)
      (filesystem_numbered nat_eq world upper.filesystem).files at
  after_call numbers permit change (does_change place made) new asks =
      upper_by_layers world conditions refl location is has numbers change at new asks
  after_call numbers permit change (does_make directory name node) new asks =
      upper_by_layers world conditions refl location is has numbers change at new asks
  after_call numbers permit change (does_open_new directory name node access) new asks =
      upper_by_layers world conditions refl location is has numbers change at new asks
  after_call numbers permit change (does_remove parent name directory) new asks =
      upper_taken conditions (map (λ mount. mount.number)
      (flat_map (mount_tree nat_eq world.mounts) (mounts_on nat_eq world directory)))
      location overlay upper is has numbers change at new asks
  after_call numbers permit change (does_rename from old to new_name object None) new asks =
      upper_by_layers world conditions refl location is has numbers change at new asks
  after_call numbers permit change (does_rename from old to new_name object (Some replaced)) new asks =
      upper_taken conditions (map (λ mount. mount.number)
      (flat_map (mount_tree nat_eq world.mounts) (mounts_on nat_eq world replaced)))
      location overlay upper is has numbers change at new asks
  after_call numbers permit change (does_open file access copied) new asks =
      cc (upper_by_layers world conditions refl location is has numbers change at new asks)
  after_call numbers permit change (does_write file offset byte bytes) new asks =
      upper_by_layers world conditions refl location is has numbers change at new asks

pub upper_layers_after_calls : UpperLayersAfterCalls
upper_layers_after_calls fresh numbers world task permit location change at overlay upper conditions does is has
    new asks =
    after_call fresh task location at conditions is has numbers permit change does new asks

pub upper_layers_after_whole_calls : UpperLayersAfterWholeCalls
upper_layers_after_whole_calls fresh numbers world task call permit location change at overlay upper conditions judged
    does is has new asks =
    grind (arith, common_steps, call_is_judged_then_applied, upper_layers_after_calls)
