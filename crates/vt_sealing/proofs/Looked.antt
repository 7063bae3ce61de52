-- What is looked at shows what the definitions say of the world that is looked at.
use Rattle.std.proofs.Common.{◌≡◌, ℕ, Bool, true, false, not, cond, ◌&&◌, ◌||◌, List, [], ◌∷◌, ◌++◌, drop, find, filter, map, option_to_list, nat_eq, eqb-true, eq-eqb, ne_eqb, Option, None, Some, option_map, unwrap_or, slice_get, refl, sym, ap, ◌∙◌}
use Rattle.std.specs.Option.{option_or}
use Rattle.vt_spec.proofs.Common.{Filesystem, Mount, Task, TaskName, World, filesystem_numbered, find-append, has_layer_on, is_overlay, list_all, list_all-append, list_any, list_any-append, mount_at, no_filesystem, no_mount, none_is_some, overlays, same_Some}
use Rattle.vt_spec.specs.Machine.Sealed.{all_named, change_layers, is_lower_root, is_member_task, is_on_own_mount, is_own_mount, locations, members, no_outsider_on, no_outsider_on_mounts, other_mounts, outsiders, own_mounts, used_alone, used_directly, share_events, shares_no_events, wholly_locked}
use Rattle.vt_spec.specs.Machine.World.{Layer, locations_of}
use Rattle.vt_spec.proofs.Truths.{and_false_right}
use Rattle.vt_fs.specs.FilesystemsValue.{FilesystemEntry, Filesystems, entry_of, files_at, files_seen, filesystem_seen, filesystems_seen, inodes_seen, no_entry}
use Rattle.vt_location.proofs.AskedLemmas.{any_mapped, any_same}
use Rattle.vt_location.proofs.NumberLemmas.{counted_inode, counted_test}
use Rattle.vt_location.specs.declared.locations.Location.{Location}
use Rattle.vt_location.specs.declared.mounts.Mount.{Mount as Held}
use Rattle.vt_location.specs.Locations.{inode_of, location_of}
use Rattle.vt_location.specs.MountValue.{mount_of}
use Rattle.vt_location.specs.Numbers.{counted}
use Rattle.vt_mount.specs.MountsValue.{mounts_in}
use Rattle.vt_overlay.specs.MergedTree.{layer_seen}
use Rattle.vt_overlay.specs.declared.merge.layers.LayerRef.{LayerRef}
use Rattle.vt_layered.specs.LayeredValue.{Above, LayeredValue}
use Rattle.vt_store.specs.OverlaysValue.{OverlayEntry, Overlays, entry_kept, layered_of}
use Rattle.vt_sealing.specs.Seen.{filesystem_of, filesystems_in_use, filesystems_looked, has_layer_in, has_root_layer, is_open, is_open_through, is_other_mount, layers_seen, lower_layers, stands_in, upper_filesystem, work_filesystem, world_seen, written_under}
use Rattle.vt_sealing.specs.declared.sealing.Sealing.{Sealing}
use Rattle.vt_sealing.proofs.Lists.{all_mapped, all_same, all_with_theirs, neither, neither_of, none_of, none_passing, some_passing, some_turned, some_within, unless_both}

-- Mounts of locations

module _ (sealing : Sealing) (at : Location) (got : Option Held) (is : option_map mount_of got
    ≡ find (λ (mount : Mount ℕ). nat_eq (counted at.mount.count) mount.number) (mounts_in sealing.mounts.now)) where
  mount_by : mount_at nat_eq (world_seen sealing) (location_of at)
      ≡ unwrap_or (option_map mount_of got) (no_mount (counted at.mount.count))
  mount_by = ap (λ o. unwrap_or o (no_mount (counted at.mount.count))) (sym is)

  pub mount_there : (mount : Held) → got ≡ Some mount
      → mount_at nat_eq (world_seen sealing) (location_of at) ≡ mount_of mount
  mount_there mount some =
      mount_by ∙ ap (λ o. unwrap_or (option_map mount_of o) (no_mount (counted at.mount.count))) some

  pub mount_missing : got ≡ None
      → mount_at nat_eq (world_seen sealing) (location_of at) ≡ no_mount (counted at.mount.count)
  mount_missing none =
      mount_by ∙ ap (λ o. unwrap_or (option_map mount_of o) (no_mount (counted at.mount.count))) none

-- Filesystems

found_seen : (count : ℕ) (plain : Filesystems)
    → find (λ (one : Filesystem ℕ). nat_eq (counted count) one.number) (filesystems_seen plain)
    ≡ option_map filesystem_seen (entry_of plain count)
found_seen count [] = refl
found_seen count (entry ∷ plain) =
    (λ i. cond (counted_test count entry.count i) (Some (filesystem_seen entry)) (found_seen count plain i))
    ∙ by (nat_eq count entry.count)
  where
    by : (b : Bool) → cond b (Some (filesystem_seen entry)) (option_map filesystem_seen (entry_of plain count))
        ≡ option_map filesystem_seen (cond b (Some entry) (entry_of plain count))
    by true = refl
    by false = refl

root_over : (count : ℕ) (entries : List OverlayEntry)
    → (unwrap_or (find (λ (one : Filesystem ℕ). nat_eq (counted count) one.number) (map layers_seen entries))
    (no_filesystem (counted count))).files.tree.root ≡ counted count
root_over count [] = refl
root_over count (entry ∷ entries) =
    by (nat_eq (counted count) (counted entry.count)) refl (root_over count entries)
  where
    by : (b : Bool) → nat_eq (counted count) (counted entry.count) ≡ b
        → (unwrap_or (find (λ (one : Filesystem ℕ). nat_eq (counted count) one.number) (map layers_seen entries))
        (no_filesystem (counted count))).files.tree.root ≡ counted count
        → (unwrap_or (cond b (Some (layers_seen entry))
        (find (λ (one : Filesystem ℕ). nat_eq (counted count) one.number) (map layers_seen entries)))
        (no_filesystem (counted count))).files.tree.root ≡ counted count
    by true e rest = sym (eqb-true (counted count) (counted entry.count) e)
    by false e rest = rest

plain_over : (plain : Filesystems) → filter is_overlay (filesystems_seen plain) ≡ []
plain_over [] = refl
plain_over (entry ∷ plain) = plain_over plain

over_over : (entries : List OverlayEntry) → filter is_overlay (map layers_seen entries) ≡ map layers_seen entries
over_over [] = refl
over_over (entry ∷ entries) = ap (λ l. layers_seen entry ∷ l) (over_over entries)

filter_parts : (xs ys : List (Filesystem ℕ))
    → filter is_overlay (xs ++ ys) ≡ filter is_overlay xs ++ filter is_overlay ys
filter_parts [] ys = refl
filter_parts (x ∷ xs) ys = by (is_overlay x) (filter_parts xs ys)
  where
    by : (b : Bool) → filter is_overlay (xs ++ ys) ≡ filter is_overlay xs ++ filter is_overlay ys
        → cond b (x ∷ filter is_overlay (xs ++ ys)) (filter is_overlay (xs ++ ys))
        ≡ cond b (x ∷ filter is_overlay xs) (filter is_overlay xs) ++ filter is_overlay ys
    by true rest = ap (λ l. x ∷ l) rest
    by false rest = rest

-- what an overlay writes to is what is found under its number

written_by : (entry : OverlayEntry) → change_layers (layers_seen entry)
    ≡ upper_filesystem entry.overlay entry.above ++ work_filesystem entry.above
written_by entry = by entry.above
  where
    top : (above : Above) (o : Option LayerRef)
        → map (λ (layer : Layer ℕ). layer.filesystem)
        (option_to_list (option_map layer_seen o) ++ option_to_list (Some (layer_seen above.work)))
        ≡ map filesystem_of (option_to_list o) ++ work_filesystem (Some above)
    top above None = refl
    top above (Some layer) = refl

    by : (above : Option Above) → change_layers (layers_seen (record entry { above = above }))
        ≡ upper_filesystem entry.overlay above ++ work_filesystem above
    by None = refl
    by (Some above) = top above (slice_get entry.overlay.lowers 0)

abbrev pub written_of : Option LayeredValue → List ℕ
written_of None = []
written_of (Some layered) = upper_filesystem layered.overlay layered.above ++ work_filesystem layered.above

pub written_found : (count : ℕ) (entries : Overlays)
    → written_under entries (counted count) ≡ written_of (layered_of entries count)
written_found count [] = refl
written_found count (entry ∷ entries) =
    (λ i. change_layers (unwrap_or (cond (counted_test count entry.count i) (Some (layers_seen entry))
    (find (λ (one : Filesystem ℕ). nat_eq (counted count) one.number) (map layers_seen entries)))
    (no_filesystem (counted count))))
    ∙ by (nat_eq count entry.count) (written_found count entries)
  where
    by : (b : Bool) → written_under entries (counted count) ≡ written_of (layered_of entries count)
        → change_layers (unwrap_or (cond b (Some (layers_seen entry))
        (find (λ (one : Filesystem ℕ). nat_eq (counted count) one.number) (map layers_seen entries)))
        (no_filesystem (counted count)))
        ≡ written_of (option_map (λ (entry : OverlayEntry). record { overlay = entry.overlay; above = entry.above })
        (cond b (Some entry) (entry_kept entries count)))
    by true rest = written_by entry
    by false rest = rest

module _ (sealing : Sealing) where
  abbrev world : World ℕ
  world = world_seen sealing

  abbrev names : List TaskName
  names = sealing.names.now

  pub overlays_looked : overlays world ≡ map layers_seen sealing.store.now.overlays
  overlays_looked = filter_parts (filesystems_seen sealing.store.now.plain) (map layers_seen sealing.store.now.overlays)
      ∙ (λ i. plain_over sealing.store.now.plain i ++ over_over sealing.store.now.overlays i)

  -- what is found under the number of a filesystem, if it is plain
  found_looked : (count : ℕ) (o : Option FilesystemEntry) → entry_of sealing.store.now.plain count ≡ o
      → filesystem_numbered nat_eq world (counted count)
      ≡ unwrap_or (option_or (option_map filesystem_seen o)
      (find (λ (one : Filesystem ℕ). nat_eq (counted count) one.number) (map layers_seen sealing.store.now.overlays)))
      (no_filesystem (counted count))
  found_looked count o is = ap (λ o. unwrap_or o (no_filesystem (counted count)))
      (find-append (λ (one : Filesystem ℕ). nat_eq (counted count) one.number)
      (filesystems_seen sealing.store.now.plain) (map layers_seen sealing.store.now.overlays)
      ∙ ap (λ o. option_or o (find (λ (one : Filesystem ℕ). nat_eq (counted count) one.number)
      (map layers_seen sealing.store.now.overlays)))
      (found_seen count sealing.store.now.plain ∙ ap (option_map filesystem_seen) is))

  pub plain_looked : (count : ℕ) (entry : FilesystemEntry) → entry_of sealing.store.now.plain count ≡ Some entry
      → filesystem_numbered nat_eq world (counted count) ≡ filesystem_seen entry
  plain_looked count entry there = found_looked count (Some entry) there

  -- of any other the root has the number of the filesystem
  pub root_looked : (count : ℕ) → entry_of sealing.store.now.plain count ≡ None
      → (filesystem_numbered nat_eq world (counted count)).files.tree.root ≡ counted count
  root_looked count missing = ap (λ (one : Filesystem ℕ). one.files.tree.root) (found_looked count None missing)
      ∙ root_over count sealing.store.now.overlays

  -- Layers of an overlay that is looked at

  pub layer_in : (filesystem : ℕ) (entry : OverlayEntry)
      → has_layer_on nat_eq filesystem (layers_seen entry) ≡ has_layer_in filesystem entry.overlay entry.above
  layer_in filesystem entry = by entry.above
    where
      seen_in : Layer ℕ → Bool
      seen_in layer = nat_eq filesystem layer.filesystem

      or_last : (a b : Bool) → (a || b) ≡ (b || (a || false))
      or_last true true = refl
      or_last true false = refl
      or_last false true = refl
      or_last false false = refl

      behind : (work : LayerRef) (layers : List LayerRef)
          → list_any seen_in (option_to_list (option_map layer_seen (slice_get layers 0))
          ++ option_to_list (Some (layer_seen work)) ++ map layer_seen (drop 1 layers))
          ≡ list_any (stands_in filesystem) (layers ++ work ∷ [])
      behind work [] = refl
      behind work (top ∷ layers) = ap (λ b. stands_in filesystem top || b)
          (ap (λ b. stands_in filesystem work || b) (any_mapped seen_in layer_seen layers)
          ∙ or_last (stands_in filesystem work) (list_any (stands_in filesystem) layers)
          ∙ sym (list_any-append (stands_in filesystem) layers (work ∷ [])))

      by : (above : Option Above) → has_layer_on nat_eq filesystem (layers_seen (record entry { above = above }))
          ≡ has_layer_in filesystem entry.overlay above
      by None = any_mapped seen_in layer_seen entry.overlay.lowers
      by (Some above) = behind above.work entry.overlay.lowers

  pub root_layer : (filesystem root : ℕ) (entry : OverlayEntry)
      → is_lower_root nat_eq filesystem root (layers_seen entry)
      ≡ has_root_layer filesystem root entry.overlay entry.above
  root_layer filesystem root entry = by entry.above
    where
      seen_at : Layer ℕ → Bool
      seen_at layer = nat_eq filesystem layer.filesystem && nat_eq root layer.directory

      by : (above : Option Above)
          → is_lower_root nat_eq filesystem root (layers_seen (record entry { above = above }))
          ≡ has_root_layer filesystem root entry.overlay above
      by None = any_mapped seen_at layer_seen entry.overlay.lowers
      by (Some above) = any_mapped seen_at layer_seen (drop 1 entry.overlay.lowers)

  -- No other uses a filesystem

  pub none_on : (filesystem : ℕ) → no_outsider_on nat_eq world names filesystem
      ≡ (not (list_any (λ (mount : Mount ℕ). nat_eq filesystem mount.filesystem && is_other_mount world names mount)
      world.mounts)
      && not (list_any (λ (task : Task ℕ). not (is_member_task names task)
      && list_any (λ location. nat_eq filesystem (mount_at nat_eq world location).filesystem) (locations_of task))
      world.tasks))
  none_on filesystem = λ i.
      not (some_turned (is_other_mount world names) (λ (mount : Mount ℕ). nat_eq filesystem mount.filesystem) world.mounts i)
      && not ((some_within (λ location. nat_eq filesystem (mount_at nat_eq world location).filesystem) locations_of
      (outsiders world names)
      ∙ some_passing (λ (task : Task ℕ). not (is_member_task names task)) (λ (task : Task ℕ).
      list_any (λ location. nat_eq filesystem (mount_at nat_eq world location).filesystem) (locations_of task))
      world.tasks) i)

  pub alone_looked : (filesystem : ℕ) → used_alone nat_eq world names filesystem
      ≡ (no_outsider_on nat_eq world names filesystem
      && not (list_any (λ (entry : OverlayEntry). has_layer_in filesystem entry.overlay entry.above
      && not (no_outsider_on nat_eq world names (counted entry.count))) sealing.store.now.overlays))
  alone_looked filesystem = ap (λ b. no_outsider_on nat_eq world names filesystem && b)
      (ap (list_all (λ (merged : Filesystem ℕ). not (has_layer_on nat_eq filesystem merged)
      || no_outsider_on nat_eq world names merged.number)) overlays_looked
      ∙ all_mapped (λ (merged : Filesystem ℕ). not (has_layer_on nat_eq filesystem merged)
      || no_outsider_on nat_eq world names merged.number) layers_seen sealing.store.now.overlays
      ∙ all_same _ (λ (entry : OverlayEntry). not (has_layer_in filesystem entry.overlay entry.above
      && not (no_outsider_on nat_eq world names (counted entry.count)))) (λ entry.
      ap (λ b. not b || no_outsider_on nat_eq world names (counted entry.count)) (layer_in filesystem entry)
      ∙ unless_both (has_layer_in filesystem entry.overlay entry.above)
      (no_outsider_on nat_eq world names (counted entry.count))) sealing.store.now.overlays
      ∙ none_of (λ (entry : OverlayEntry). has_layer_in filesystem entry.overlay entry.above
      && not (no_outsider_on nat_eq world names (counted entry.count))) sealing.store.now.overlays)

  -- A root that is a layer

  abbrev pub locks : ℕ → ℕ → OverlayEntry → Bool
  locks filesystem root entry =
      has_root_layer filesystem root entry.overlay entry.above && used_alone nat_eq world names (counted entry.count)

  pub locked_looked : (filesystem root : ℕ)
      → list_any (λ (merged : Filesystem ℕ). is_lower_root nat_eq filesystem root merged
      && used_alone nat_eq world names merged.number) (overlays world)
      ≡ list_any (locks filesystem root) sealing.store.now.overlays
  locked_looked filesystem root =
      ap (list_any (λ (merged : Filesystem ℕ). is_lower_root nat_eq filesystem root merged
      && used_alone nat_eq world names merged.number)) overlays_looked
      ∙ any_mapped (λ (merged : Filesystem ℕ). is_lower_root nat_eq filesystem root merged
      && used_alone nat_eq world names merged.number) layers_seen sealing.store.now.overlays
      ∙ any_same _ (locks filesystem root) (λ entry.
      ap (λ b. b && used_alone nat_eq world names (counted entry.count)) (root_layer filesystem root entry))
      sealing.store.now.overlays

  -- no layer is at a number that is no inode's
  none_at : (filesystem count : ℕ) (layers : List LayerRef)
      → list_any (λ (layer : LayerRef). nat_eq filesystem (counted layer.directory.filesystem.count)
      && nat_eq (counted count) (inode_of layer.directory)) layers ≡ false
  none_at filesystem count [] = refl
  none_at filesystem count (layer ∷ layers) =
      (λ i. and_false_right (nat_eq filesystem (counted layer.directory.filesystem.count)) _
      (ne_eqb (counted count) (inode_of layer.directory)
      (λ same. absurd (counted_inode count layer.directory.filesystem.count layer.directory.slot same))) i
      || none_at filesystem count layers i)

  no_locks : (filesystem count : ℕ) (entries : List OverlayEntry)
      → list_any (locks filesystem (counted count)) entries ≡ false
  no_locks filesystem count [] = refl
  no_locks filesystem count (entry ∷ entries) =
      ap (λ b. (b && used_alone nat_eq world names (counted entry.count))
      || list_any (locks filesystem (counted count)) entries) (none_at filesystem count
      (lower_layers entry.overlay entry.above))
      ∙ no_locks filesystem count entries

  -- a filesystem that is no plain one is not wholly locked
  pub no_lock : (count : ℕ) → entry_of sealing.store.now.plain count ≡ None
      → wholly_locked nat_eq world names (counted count) ≡ false
  no_lock count missing = ap (λ b. b && all_named nat_eq (filesystem_numbered nat_eq world (counted count)).files)
      (locked_looked (counted count) (filesystem_numbered nat_eq world (counted count)).files.tree.root
      ∙ ap (λ root. list_any (locks (counted count) root) sealing.store.now.overlays) (root_looked count missing)
      ∙ no_locks (counted count) count sealing.store.now.overlays)

  pub lock_looked : (count : ℕ) (entry : FilesystemEntry) → entry_of sealing.store.now.plain count ≡ Some entry
      → wholly_locked nat_eq world names (counted count)
      ≡ (list_any (locks (counted count) (inodes_seen entry).root) sealing.store.now.overlays
      && all_named nat_eq (files_at sealing.store.now.plain count))
  lock_looked count entry there =
      let here = plain_looked count entry there in
      let files = ap (λ (o : Option FilesystemEntry). files_seen (unwrap_or o (no_entry count))) there in
      (λ i. locked_looked (counted count) (filesystem_numbered nat_eq world (counted count)).files.tree.root i
      && all_named nat_eq (here i).files)
      ∙ (λ i. list_any (locks (counted count) (here i).files.tree.root) sealing.store.now.overlays
      && all_named nat_eq (sym files i))

  -- Filesystems that are used

  abbrev pub secured : ℕ → Bool
  secured filesystem = used_alone nat_eq world names filesystem || wholly_locked nat_eq world names filesystem

  pub open_looked : (filesystem : ℕ) → secured filesystem ≡ not (is_open world names filesystem)
  open_looked filesystem =
      neither (used_alone nat_eq world names filesystem) (wholly_locked nat_eq world names filesystem)

  abbrev written : ℕ → List ℕ
  written filesystem = written_under sealing.store.now.overlays filesystem

  -- a filesystem, and those to which its changes are written
  abbrev all_secured : ℕ → Bool
  all_secured filesystem = secured filesystem && list_all secured (written filesystem)

  through_looked : (filesystem : ℕ) → all_secured filesystem ≡ not (is_open_through sealing filesystem)
  through_looked filesystem = (λ i. open_looked filesystem i && written_looked i)
      ∙ neither_of (is_open world names filesystem) (list_any (is_open world names) (written filesystem))
    where
      written_looked : list_all secured (written filesystem) ≡ not (list_any (is_open world names) (written filesystem))
      written_looked = all_same secured (λ one. not (is_open world names one)) open_looked (written filesystem)
          ∙ none_of (is_open world names) (written filesystem)

  pub used_looked : list_all secured (filesystems_in_use sealing)
      ≡ (not (list_any (λ (mount : Mount ℕ). is_own_mount nat_eq world names mount
      && is_open_through sealing mount.filesystem) world.mounts)
      && not (list_any (λ (task : Task ℕ). is_member_task names task
      && list_any (λ location. is_open_through sealing (mount_at nat_eq world location).filesystem) (locations_of task))
      world.tasks))
  used_looked = all_with_theirs secured written (used_directly nat_eq world names)
      ∙ list_all-append all_secured (map (λ (mount : Mount ℕ). mount.filesystem) (own_mounts nat_eq world names)) _
      ∙ (λ i. own i && at i)
    where
      own : list_all all_secured (map (λ (mount : Mount ℕ). mount.filesystem) (own_mounts nat_eq world names))
          ≡ not (list_any (λ (mount : Mount ℕ). is_own_mount nat_eq world names mount
          && is_open_through sealing mount.filesystem) world.mounts)
      own = all_mapped all_secured (λ (mount : Mount ℕ). mount.filesystem) (own_mounts nat_eq world names)
          ∙ all_same _ _ (λ mount. through_looked mount.filesystem) (own_mounts nat_eq world names)
          ∙ none_passing (is_own_mount nat_eq world names) (λ mount. is_open_through sealing mount.filesystem) world.mounts

      at : list_all all_secured (map (λ location. (mount_at nat_eq world location).filesystem)
          (locations (members world names)))
          ≡ not (list_any (λ (task : Task ℕ). is_member_task names task
          && list_any (λ location. is_open_through sealing (mount_at nat_eq world location).filesystem)
          (locations_of task)) world.tasks)
      at = all_mapped all_secured (λ location. (mount_at nat_eq world location).filesystem)
          (locations (members world names))
          ∙ all_same _ _ (λ location. through_looked (mount_at nat_eq world location).filesystem)
          (locations (members world names))
          ∙ none_of (λ location. is_open_through sealing (mount_at nat_eq world location).filesystem)
          (locations (members world names))
          ∙ ap not (some_within (λ location. is_open_through sealing (mount_at nat_eq world location).filesystem)
          locations_of (members world names)
          ∙ some_passing (is_member_task names) (λ (task : Task ℕ). list_any (λ location.
          is_open_through sealing (mount_at nat_eq world location).filesystem) (locations_of task)) world.tasks)

  -- no outsider is on a mount
  pub places_looked : no_outsider_on_mounts nat_eq world names
      ≡ not (list_any (λ (task : Task ℕ). not (is_member_task names task)
      && list_any (is_on_own_mount nat_eq world names) (locations_of task)) world.tasks)
  places_looked = none_of (is_on_own_mount nat_eq world names) (locations (outsiders world names))
      ∙ ap not (some_within (is_on_own_mount nat_eq world names) locations_of (outsiders world names)
      ∙ some_passing (λ (task : Task ℕ). not (is_member_task names task))
      (λ (task : Task ℕ). list_any (is_on_own_mount nat_eq world names) (locations_of task)) world.tasks)

  -- no mount shares events with others
  pub events_looked : shares_no_events nat_eq world names
      ≡ not (list_any (λ (mount : Mount ℕ). is_own_mount nat_eq world names mount
      && list_any (share_events nat_eq world mount) (other_mounts nat_eq world names)) world.mounts)
  events_looked =
      all_same _ _ (λ own. none_of (share_events nat_eq world own) (other_mounts nat_eq world names))
      (own_mounts nat_eq world names)
      ∙ none_passing (is_own_mount nat_eq world names)
      (λ own. list_any (share_events nat_eq world own) (other_mounts nat_eq world names)) world.mounts

  -- the root of a filesystem tells whether it is plain

  abbrev root_kept : FilesystemEntry → ℕ
  root_kept entry = (inodes_seen entry).root

  pub lock_there : (plain : Filesystems) → plain ≡ sealing.store.now.plain → (count root : ℕ)
      → Some root ≡ option_map root_kept (entry_of plain count)
      → wholly_locked nat_eq world names (counted count)
      ≡ (list_any (locks (counted count) root) sealing.store.now.overlays
      && all_named nat_eq (files_at sealing.store.now.plain count))
  lock_there plain same count root is = by (entry_of sealing.store.now.plain count) refl
      (is ∙ ap (λ (all : Filesystems). option_map root_kept (entry_of all count)) same)
    where
      by : (o : Option FilesystemEntry) → entry_of sealing.store.now.plain count ≡ o
          → Some root ≡ option_map root_kept o → wholly_locked nat_eq world names (counted count)
          ≡ (list_any (locks (counted count) root) sealing.store.now.overlays
          && all_named nat_eq (files_at sealing.store.now.plain count))
      by None e is = none_is_some root (sym is)
      by (Some entry) e is = lock_looked count entry e
          ∙ ap (λ root. list_any (locks (counted count) root) sealing.store.now.overlays
          && all_named nat_eq (files_at sealing.store.now.plain count)) (sym (same_Some root (root_kept entry) is))

  pub lock_missing : (plain : Filesystems) → plain ≡ sealing.store.now.plain → (count : ℕ)
      → option_map root_kept (entry_of plain count) ≡ None → wholly_locked nat_eq world names (counted count) ≡ false
  lock_missing plain same count none = by (entry_of sealing.store.now.plain count) refl
      (ap (λ (all : Filesystems). option_map root_kept (entry_of all count)) (sym same) ∙ none)
    where
      by : (o : Option FilesystemEntry) → entry_of sealing.store.now.plain count ≡ o → option_map root_kept o ≡ None
          → wholly_locked nat_eq world names (counted count) ≡ false
      by None e none = no_lock count e
      by (Some entry) e none = none_is_some (root_kept entry) (sym none)
