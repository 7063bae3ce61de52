-- The root mount changes, and roots and working directories go along: pivot_root(2).
use Rattle.std.proofs.Common.{◌≡◌, refl, sym, ap, subst, ◌∙◌, ⊎_elim, ℕ, ◌+◌, ◌-◌, zero, suc, nat_eq, true, false, ◌&&◌, List, [], ◌∷◌, ◌++◌, map, filter, Some, is_some, arith, option_to_list, replicate}
use Rattle.vt_spec.proofs.Common.{Filesystem, Location, Mount, TaskName, ToPivot, World, any_pair, filesystem_lives, folded, is_located_well, is_mounted, map_alike, map_twice, mount_at, mount_lives, mount_numbered, pivoted_task, root_of, settled, with_mounts, without_dead_filesystems, without_dead_mounts, common_steps, and_parts, filesystem_numbered, has_its_root}
use Rattle.vt_ns.proofs.Common.{Among, CountsItsMounts, CountsItsUses, CountsWhatIsInIt, Exchanges, FilesystemEntry, Filesystems, Has, Inode, IsApplied, IsDone, IsHeld, IsSwept, Kept, Merged, MountEntry, Permits, Shown, Use, WorldValue, all_from_among, all_in_use, among-from_map, among-map, among_from_all, among_from_list_all, counted, directory_is_there, filesystem_seen, found_is_there, found_itself, in_use_of, inode_at, inode_of, inodes_of_uses, inodes_seen, is_among_numbers, is_small_node, keeps_itself, kept_with, layer_count, located_is_named, location_of, merged_seen, mount_uses, mounts_in, mounts_of_worlds_stand, mounts_showing, number-mount_in, number_of, permit_fits, pinned_in, remade, same_files_keep, seen_where_located, shown, shown_entry, standing, times, unpinned_in, with_use, world_of, writes_of}
use Rattle.vt_laws_mounts.specs.Counts.Using.{AreThere, pinned_if, unpinned_if}
use Rattle.vt_fs.specs.FilesystemsValue.{filesystems_seen}
use Rattle.vt_laws_mounts.specs.LettingGo.InUse.{AllInUse}
use Rattle.vt_laws_mounts.proofs.letting_go.Lists.{any-map, filter_all}
use Rattle.vt_laws_mounts.proofs.letting_go.mounting.Pivoted.{loses}
use Rattle.vt_laws_worlds.specs.Worlds.Permits.{MayPivot}
use Rattle.vt_location.specs.declared.locations.Location.{Location as At}
use Rattle.vt_mount.specs.Moving.{pivoted_entry}
use Rattle.vt_mounting.specs.Detach.Uses.{released_use}
use Rattle.vt_mounting.proofs.detach.Finishing.{CountsBeside, finished}
use Rattle.vt_mounting.proofs.detach.Grouped.{changed_has}
use Rattle.vt_mounting.proofs.detach.LowerLayers.{exchanges_of_lowers, of_lowers}
use Rattle.vt_mounting.proofs.detach.MountsMoved.{mount_point_located}
use Rattle.vt_mounting.proofs.detach.Moving.{exchanged_shown, filesystems_moved, folded_entry, gain, held_counts, hold_if, is_use_on, locations, lose, mounts_moved, moved_kept, released_counts, same_moved_mounts, writes_on_mount}
use Rattle.vt_mounting.proofs.detach.Overlaid.{all_shown, is_plain_one, layers_kept, overlays_counted, plain_ones_are, still_mounted}
use Rattle.vt_mounting.proofs.detach.TypesSet.{attached_named}
use Rattle.vt_ns.specs.Pivoting.{with_uses, without_uses}
use Rattle.vt_ns.proofs.world.PivotedUses.{coming, gained, inside_pivot, kept_filesystem, kept_number, kept_part, kept_showing, leaving, lost, mount_uses_pivot, moved, none_writes, pivoted_world, pivoting, uses_pivot, writes_pivot}
use Rattle.vt_ns.proofs.world.PointsMoved.{inodes_there}

-- Lists

folded_last : {A B : Type 0} (add : B → A → B) (b : B) (xs : List A) (x : A)
    → folded add b (xs ++ x ∷ []) ≡ add (folded add b xs) x
folded_last add b [] x = refl
folded_last add b (y ∷ ys) x = folded_last add (add b y) ys x

folded_again : {A B : Type 0} (add : B → A → B) (b : B) (n : ℕ) (x : A)
    → folded add (add b x) (replicate n x) ≡ add (folded add b (replicate n x)) x
folded_again add b zero x = refl
folded_again add b (suc n) x = folded_again add (add b x) n x

among-replicate : {A : Type 0} (n : ℕ) (x y : A) → Among y (replicate n x) → y ≡ x
among-replicate zero x y m = absurd m
among-replicate (suc n) x y m = ⊎_elim (λ same. same) (λ later. among-replicate n x y later) m

-- The world that the permit leaves

module _ (value : WorldValue) (whole : IsHeld value) (name : TaskName) (number : ℕ) (put : At)
    (permits : Permits value name (ToPivot number (location_of put))) where
  abbrev before : World ℕ
  before = world_of value

  abbrev namespace : ℕ
  namespace = permits.task.namespace

  abbrev pub root : Mount ℕ
  root = mount_at nat_eq (world_of value) permits.task.root

  abbrev pub new : Mount ℕ
  new = mount_numbered nat_eq (world_of value) number

  abbrev place : Location ℕ
  place = location_of put

  abbrev next : World ℕ
  next = pivoted_world (world_of value) permits.task.namespace (mount_at nat_eq (world_of value) permits.task.root)
      (mount_numbered nat_eq (world_of value) number) (location_of put)

  abbrev change : Mount ℕ → Mount ℕ
  change = pivoting (mount_at nat_eq (world_of value) permits.task.root)
      (mount_numbered nat_eq (world_of value) number) (location_of put)

  -- how many roots and working directories move
  abbrev pub moving : ℕ
  moving = moved (world_of value) permits.task.namespace (mount_at nat_eq (world_of value) permits.task.root)
      (mount_numbered nat_eq (world_of value) number) (location_of put)

  abbrev more : List Use
  more = coming (world_of value) permits.task.namespace (mount_at nat_eq (world_of value) permits.task.root)
      (mount_numbered nat_eq (world_of value) number) (location_of put)

  abbrev less : List Use
  less = leaving (world_of value) permits.task.namespace (mount_at nat_eq (world_of value) permits.task.root)
      (mount_numbered nat_eq (world_of value) number) (location_of put)

  abbrev gets : List Inode
  gets = gained (world_of value) permits.task.namespace (mount_at nat_eq (world_of value) permits.task.root)
      (mount_numbered nat_eq (world_of value) number) (location_of put)

  abbrev loses_uses : List Inode
  loses_uses = lost (world_of value) permits.task.namespace (mount_at nat_eq (world_of value) permits.task.root)
      (mount_numbered nat_eq (world_of value) number) (location_of put)

  pub may : MayPivot (world_of value) permits.task number (location_of put)
  may = (permit_fits value whole name (ToPivot number (location_of put)) permits).names

  one_number : any_pair (λ (a b : Mount ℕ). nat_eq a.number b.number) (mounts_in value.mounts) ≡ false
  one_number = whole.in_world.mounts.one_number

  another : nat_eq new.number root.number ≡ false
  another = (λ i. nat_eq (number-mount_in (mounts_in value.mounts) number i)
      (number-mount_in (mounts_in value.mounts) permits.task.root.mount i)) ∙ may.another

  root_there : Among root (mounts_in value.mounts)
  root_there = found_is_there (mounts_in value.mounts) permits.task.root.mount (ap is_some may.own_root)

  new_there : Among new (mounts_in value.mounts)
  new_there = found_is_there (mounts_in value.mounts) number (ap is_some may.own)

  place_located : is_located_well nat_eq (world_of value) (location_of put) ≡ true
  place_located = may.destination.directory.reached.there

  -- the root of a mount is there
  root_located : (mount : Mount ℕ) → Among mount (mounts_in value.mounts)
      → is_located_well nat_eq (world_of value) (root_of mount) ≡ true
  root_located mount m =
      let itself = found_itself (mounts_in value.mounts) one_number mount m in
      let directory = (and_parts _ _
      (among_from_list_all (has_its_root nat_eq before) (mounts_in value.mounts) whole.in_world.roots mount m)).0 in
      λ i. is_among_numbers mount.number (map (λ (x : Mount ℕ). x.number) (mounts_in value.mounts))
      (among-map (λ (x : Mount ℕ). x.number) (mounts_in value.mounts) mount m) i
      && (ap (λ (x : Mount ℕ). is_some ((filesystem_numbered nat_eq (world_of value) x.filesystem).files.tree.node mount.root)) itself
      ∙ directory_is_there _ directory) i

  -- Nothing goes

  same_mounted : (filesystem : ℕ) → is_mounted nat_eq next filesystem ≡ is_mounted nat_eq before filesystem
  same_mounted filesystem = grind (arith, common_steps, any-map, kept_filesystem, root)

  living_is : in_use_of next ≡ next
  living_is = ap (without_dead_filesystems nat_eq) mounts_stay ∙ ap (λ all. record next { filesystems = all })
      (filter_all (filesystem_lives nat_eq next) next.filesystems (λ f m.
      same_lives f ∙ among_from_list_all (filesystem_lives nat_eq before) before.filesystems in_use.filesystems f m))
    where
      in_use : AllInUse before
      in_use = all_in_use before whole.in_world

      mounts_stay : without_dead_mounts nat_eq next ≡ next
      mounts_stay = ap (with_mounts next) (filter_all (mount_lives nat_eq next) next.mounts (λ mount m.
          (loses before namespace permits.task.root.mount number place in_use (mounts_of_worlds_stand before whole.in_world)
          (ap is_some may.own_root) (ap is_some may.own)).live mount m refl))

      same_lives : (f : Filesystem ℕ) → filesystem_lives nat_eq next f ≡ filesystem_lives nat_eq before f
      same_lives f = grind (arith, common_steps, same_mounted)

  same_groups : Has (settled nat_eq next) value.groups
  same_groups = changed_has value whole next change refl (λ group. refl) (kept_number root new place)
      (kept_part root new place (λ mount. mount.namespace) (λ mount point. refl))
      (kept_part root new place (λ mount. mount.propagation) (λ mount point. refl))

  -- What gets uses is there

  gets_there : (was : FilesystemEntry) → Among was value.filesystems
      → AreThere (counted was.count) (inodes_seen was) gets
  gets_there was m =
      subst (λ (all : List Inode). AreThere (counted was.count) (inodes_seen was) (inode_at before place ∷ all))
      (map_twice (inode_at before) (λ (one : Use). one.location) more)
      (inodes_there value whole was m (place ∷ locations more) located)
    where
      located : (at : Location ℕ) → Among at (place ∷ locations more) → is_located_well nat_eq before at ≡ true
      located at n = ⊎_elim (λ same. ap (is_located_well nat_eq before) same ∙ place_located)
          (λ later. let from = among-from_map (λ (one : Use). one.location) more at later in
          ap (is_located_well nat_eq before)
          (from.2 ∙ ap (λ (one : Use). one.location) (among-replicate moving (standing (root_of new)) from.0 from.1))
          ∙ root_located new new_there) n

  -- What is counted once all is done

  module _ (entered left point : At)
      (entered_is : location_of entered ≡ root_of (mount_numbered nat_eq (world_of value) number))
      (left_is : location_of left ≡ root_of (mount_at nat_eq (world_of value) permits.task.root))
      (point_is : (mount_numbered nat_eq (world_of value) number).mount_point ≡ Some (location_of point))
      (put_small : is_small_node put.node ≡ true) (entered_small : is_small_node entered.node ≡ true)
      (left_small : is_small_node left.node ≡ true) (point_small : is_small_node point.node ≡ true) where
    put_inode : inode_of put.node ≡ inode_at before place
    put_inode = λ i. (sym (seen_where_located value whole put put_small place_located) i, number_of put.node)

    root_inode : (at : At) → is_small_node at.node ≡ true → (mount : Mount ℕ)
        → Among mount (mounts_in value.mounts) → location_of at ≡ root_of mount
        → inode_of at.node ≡ inode_at before (root_of mount)
    root_inode at small mount m is = (λ i. (
      sym (seen_where_located value whole at small
          (ap (is_located_well nat_eq before) is ∙ root_located mount m)) i,
      number_of at.node,
    )) ∙ ap (inode_at before) is

    point_inode : inode_of point.node ≡ inode_at before (location_of point)
    point_inode = λ i. (
      sym (seen_where_located value whole point point_small
          (mount_point_located value whole number permits.task.namespace (location_of point) may.own point_is)) i,
      number_of point.node,
    )

    with_uses_so : (n : ℕ) (k : Kept)
        → with_uses n entered k ≡ folded (gain before) k (replicate n (standing (root_of new)))
    with_uses_so zero k = refl
    with_uses_so (suc n) k =
        (λ i. with_use (entered_is i).mount (root_inode entered entered_small new new_there entered_is i) false
        (with_uses_so n k i)) ∙ sym (folded_again (gain before) k n (standing (root_of new)))

    without_uses_so : (n : ℕ) (k : Kept)
        → without_uses n left k ≡ folded (lose before) k (replicate n (standing (root_of root)))
    without_uses_so zero k = refl
    without_uses_so (suc n) k =
        (λ i. released_use (left_is i).mount (root_inode left left_small root root_there left_is i) false
        (without_uses_so n k i)) ∙ sym (folded_again (lose before) k n (standing (root_of root)))

    module _ (between mounts : List MountEntry) (pinned_files held_files : Filesystems) (filesystems : Filesystems)
        (overlays : List Merged) (held : Kept) (pivoted_so : between ≡ map (pivoted_entry root new place) value.mounts)
        (pinned_so : shown pinned_files ≡ pinned_in (inode_of put.node) (shown value.filesystems))
        (held_so : held ≡ with_uses moving entered (kept_with between pinned_files (map merged_seen value.overlays)))
        (left_so : kept_with mounts held_files overlays ≡ without_uses moving left held)
        (unpinned_so : shown filesystems ≡ unpinned_in (inode_of point.node) (shown held_files)) where
      abbrev new_value : WorldValue
      new_value = remade value mounts filesystems (map (pivoted_task nat_eq permits.task.namespace root new) value.tasks)

      all_so : kept_with mounts held_files overlays ≡ moved_kept before more less
          (kept_with between pinned_files (map merged_seen value.overlays))
      all_so = grind (arith, common_steps, without_uses_so, less, with_uses_so, map)

      abbrev final : MountEntry → MountEntry
      final entry = folded_entry more less (pivoted_entry root new place entry)

      entries_are : mounts ≡ map final value.mounts
      entries_are = grind (arith, common_steps, all_so, mounts_moved, more, less, map, map_twice, root)

      mounts_are : next.mounts ≡ mounts_in mounts
      mounts_are = map_twice change (λ (entry : MountEntry). entry.mount) value.mounts
          ∙ sym (ap (λ (k : Kept). mounts_in k.mounts) all_so
          ∙ same_moved_mounts before more less (kept_with between pinned_files (map merged_seen value.overlays))
          ∙ ap mounts_in pivoted_so
          ∙ map_twice (λ (entry : MountEntry). entry.mount) (pivoted_entry root new place) value.mounts)

      shown_are : shown filesystems ≡ map (exchanged_shown gets loses_uses) (shown value.filesystems)
      shown_are = unpinned_so ∙ (λ i. unpinned_in (point_inode i) ((ap (λ (k : Kept). k.filesystems) all_so
          ∙ filesystems_moved before more less (kept_with between pinned_files (map merged_seen value.overlays))
          ∙ ap (map (exchanged_shown (inodes_of_uses before more) (inodes_of_uses before less)))
          (pinned_so ∙ ap (λ one. pinned_in one (shown value.filesystems)) put_inode)) i))
          ∙ map_twice _ _ (pinned_in (inode_at before place) (shown value.filesystems))
          ∙ map_twice _ _ (shown value.filesystems)
          ∙ map_alike _ (exchanged_shown gets loses_uses) (shown value.filesystems) (λ one m.
          ap (λ inodes. record one { inodes = inodes }) (sym (folded_last (unpinned_if (counted one.count))
          (folded (pinned_if (counted one.count)) one.inodes gets)
          (inodes_of_uses before less) (inode_at before (location_of point)))) ∙ ap (λ o. exchanged_shown gets
          (inodes_of_uses before less ++ map (inode_at before) (option_to_list o)) one) (sym point_is))

      -- as many uses as an entry counts
      entry_counts : (was : MountEntry) → Among was value.mounts → CountsItsUses (world_of new_value) (final was)
      entry_counts was m =
          let counts = among_from_all (CountsItsUses before) value.mounts whole.mounts was m in
          let at = pivoted_entry root new place was in
          let n = was.mount.number in
          let numbered = kept_number root new place was.mount in
          let gains = held_counts more at in
          let losses = released_counts less (folded hold_if at more) in
          let same : (final was).mount.number ≡ n =
          ap (λ (x : Mount ℕ). x.number) (losses.mount ∙ gains.mount) ∙ numbered in
          let held_uses : (folded hold_if at more).uses ≡ was.uses + times (is_use_on n) more =
          gains.uses ∙ ap (λ k. was.uses + times (is_use_on k) more) numbered in
          let held_writers : (folded hold_if at more).writers ≡ was.writers + times (writes_on_mount n) more =
          gains.writers ∙ ap (λ k. was.writers + times (writes_on_mount k) more) numbered in
          let held_number = ap (λ (x : Mount ℕ). x.number) gains.mount ∙ numbered in
          let left_uses : (final was).uses ≡ (folded hold_if at more).uses - times (is_use_on n) less =
          losses.uses ∙ ap (λ k. (folded hold_if at more).uses - times (is_use_on k) less) held_number in
          let left_writers : (final was).writers ≡ (folded hold_if at more).writers - times (writes_on_mount n) less =
          losses.writers ∙ ap (λ k. (folded hold_if at more).writers - times (writes_on_mount k) less) held_number in
          let all = mount_uses_pivot before namespace root new place n in
          let none_come = none_writes before namespace root new place n moving (root_of new) in
          let none_go = none_writes before namespace root new place n moving (root_of root) in
          let writers_stay = writes_pivot before namespace root new place n value.tasks in
          let uses_so : (final was).uses ≡ mount_uses next n = omega (arith, counts.uses, held_uses, left_uses, all) in
          let writers_so : (final was).writers ≡ writes_of n next.tasks =
          omega (arith, counts.writers, held_writers, left_writers, none_come, none_go, writers_stay) in
          record {
            uses = uses_so ∙ ap (mount_uses next) (sym same);
            writers = writers_so ∙ ap (λ k. writes_of k next.tasks) (sym same);
          }

      shown_was : (entry : FilesystemEntry) → Among entry filesystems
          → (was : FilesystemEntry) × Among was value.filesystems
          × (shown_entry entry ≡ exchanged_shown gets loses_uses (shown_entry was))
      shown_was entry m =
          let from = among-from_map (exchanged_shown gets loses_uses) (shown value.filesystems) (shown_entry entry)
          (subst (λ all. Among (shown_entry entry) all) shown_are (among-map shown_entry filesystems entry m)) in
          let first = among-from_map shown_entry value.filesystems from.0 from.1 in
          (first.0, first.1, from.2 ∙ ap (exchanged_shown gets loses_uses) first.2)

      same_numbers : map (λ (f : Filesystem ℕ). f.number) (filesystems_seen value.filesystems)
          ≡ map (λ (entry : FilesystemEntry). counted entry.count) filesystems
      same_numbers = map_twice (λ (f : Filesystem ℕ). f.number) filesystem_seen value.filesystems
          ∙ sym (map_twice (λ (one : Shown). counted one.count) shown_entry value.filesystems)
          ∙ sym (map_twice (λ (one : Shown). counted one.count) (exchanged_shown gets loses_uses)
          (shown value.filesystems)) ∙ sym (ap (map (λ (one : Shown). counted one.count)) shown_are)
          ∙ map_twice (λ (one : Shown). counted one.count) shown_entry filesystems

      swept : IsSwept value next gets loses_uses new_value
      swept = record {
        files = refl;
        midway = same_files_keep value before next refl (keeps_itself value whole.overlays);
        overlays = all_shown value (in_use_of next) (still_mounted value whole (in_use_of next) (λ number.
            ap (λ (world : World ℕ). is_mounted nat_eq world number) living_is ∙ same_mounted number));
        mounts = ap (λ (world : World ℕ). world.mounts) living_is ∙ mounts_are;
        numbers = ap (λ (world : World ℕ). map (λ (f : Filesystem ℕ). f.number)
            (filter is_plain_one world.filesystems)) living_is
            ∙ ap (map (λ (f : Filesystem ℕ). f.number)) (plain_ones_are value whole.overlays) ∙ same_numbers;
        entries = λ entry m. let from = shown_was entry m in record {
          was = from.0;
          among = from.1;
          count = ap (λ (one : Shown). one.count) from.2;
          there = gets_there from.0 from.1;
          inodes = ap (λ (one : Shown). one.inodes) from.2;
          exchanges = subst (λ (world : World ℕ). Exchanges gets loses_uses (counted from.0.count) (of_lowers before)
              (of_lowers world)) (sym living_is) (exchanges_of_lowers {world = before} {after = next} refl
              (uses_pivot before namespace root new place one_number root_there new_there another
              (counted from.0.count)));
        };
        namespaces = refl;
        tasks = refl;
      }

      counts : CountsBeside new_value
      counts = record {
        uses = all_from_among (CountsItsUses (world_of new_value)) mounts (λ entry m.
            let from = among-from_map final value.mounts entry (subst (Among entry) entries_are m) in
            subst (CountsItsUses (world_of new_value)) (sym from.2) (entry_counts from.0 from.1));
        mounts = λ entry m. let from = shown_was entry m in
            ap (λ (one : Shown). one.mounts) from.2
            ∙ (among_from_all (CountsItsMounts before) value.filesystems whole.filesystems from.0 from.1).mounts
            ∙ ap (λ count. mounts_showing before (counted count) + layer_count before (counted count))
            (sym (ap (λ (one : Shown). one.count) from.2))
            ∙ (λ i. (sym (kept_showing root new place (mounts_in value.mounts) (counted entry.count))
            ∙ ap (times (λ (mount : Mount ℕ). nat_eq (counted entry.count) mount.filesystem)) mounts_are) i
            + sym (layers_kept value new_value whole.overlays refl (counted entry.count)) i);
        overlays = overlays_counted value new_value whole.overlays refl (λ number.
            sym (ap (times (λ (mount : Mount ℕ). nat_eq number mount.filesystem)) mounts_are)
            ∙ kept_showing root new place (mounts_in value.mounts) number);
        namespaces = all_from_among (CountsWhatIsInIt (world_of new_value)) value.namespaces (λ entry m.
            let was = among_from_all (CountsWhatIsInIt before) value.namespaces whole.namespaces entry m in
            record { tasks = was.tasks ∙ sym (inside_pivot before namespace root new place (counted entry.count) value.tasks) });
      }

      applied : IsApplied value name (ToPivot number (location_of put)) permits.task next
      applied = record {
        called = permits.called;
        given = permits.given;
        named = λ i. attached_named value whole number permits.task.namespace may.own i
            && located_is_named value whole place place_located i;
        applied = λ fresh. refl;
      }

      pub root_is_changed : IsDone value name (ToPivot number (location_of put)) new_value
      root_is_changed = finished value whole name (ToPivot number (location_of put)) permits.task next applied
          gets loses_uses new_value swept same_groups counts refl
