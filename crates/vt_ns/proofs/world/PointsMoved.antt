-- Mounts that get other mount points: what is kept of the world then.
use Rattle.std.proofs.Common.{◌≡◌, refl, sym, ap, subst, ◌∙◌, ⊎_elim, inl, inr, ℕ, ◌+◌, nat_eq, eqb-true, Bool, true, false, true≢false, cond, not, ◌&&◌, ◌||◌, List, [], ◌∷◌, ◌++◌, filter, map, find, Option, Some, None, is_some, option_and_then, option_to_list, append-nil, map-id, arith, option_map, unwrap_or}
use Rattle.vt_spec.proofs.Common.{Filesystem, Location, Mount, World, all_locations, and_parts, filesystem_lives, is_among, is_located_well, is_mounted, is_nowhere_or_attached, is_overlay, is_private, is_some-node_in, is_there, list_all, lookup, map_alike, map_twice, mount_at, mount_in, mount_lives, or_else, same_Some, shown-mapped, with_mounts, common_steps, no_mount}
use Rattle.vt_ns.proofs.Common.{Among, CountsItsMounts, CountsItsUses, Exchanges, FilesystemEntry, Filesystems, Inode, IsHeld, IsKeptBut, Kept, Merged, MountEntry, Point, Shown, WorldValue, all_from_among, all_in_use, among-from_map, among-map, among_from_all, among_from_list_all, counted, entry_numbered, filesystem_seen, found_mapped, found_plain_one, inode_at, inodes_seen, is_small, kept_of, kept_with, layer_count, location_of, merged_seen, mounts_in, mounts_showing, moved_by, number_of, overlays_seen, point_seen, points_left, points_taken, seen_where_located, shown, shown_entry, with_planned, world_of}
use Rattle.vt_laws_mounts.specs.Counts.Using.{AreThere, exchanged}
use Rattle.vt_laws_mounts.specs.LettingGo.Keeping.{LocationsStand}
use Rattle.vt_laws_mounts.specs.LettingGo.InUse.{FilesystemsInUse}
use Rattle.vt_laws_mounts.specs.LettingGo.Leaving.{MountsStand, stands_on_attached}
use Rattle.vt_laws_mounts.specs.LettingGo.OneByOne.{MountsInUseBut}
use Rattle.vt_laws_mounts.proofs.letting_go.Lists.{among-append, any-map, filter_alike, list_all_from_among}
use Rattle.vt_location.specs.declared.locations.Location.{Location as At}
use Rattle.vt_mounting.specs.Attach.Planned.{left_at, taken_at, with_points}
use Rattle.vt_mounting.proofs.attach.MovedPoints.{points_are_moved}
use Rattle.vt_mounting.proofs.attach.PlacedUses.{points_are_uses}
use Rattle.vt_mounting.proofs.attach.PlannedCounts.{exchanged_on, inodes_of_points, planned_shown}
use Rattle.vt_mounting.proofs.attach.PointsCounted.{points_count}
use Rattle.vt_mounting.proofs.detach.BesideOverlays.{lives_alike}
use Rattle.vt_mounting.proofs.detach.DetachingBegins.{pair_mapped}
use Rattle.vt_mounting.proofs.detach.DetachingEnds.{held_is_kept, point_located}
use Rattle.vt_mounting.proofs.detach.Keeping.{IsShownIn}
use Rattle.vt_mounting.proofs.detach.LostUses.{entry_found_at}
use Rattle.vt_mounting.proofs.detach.LowerLayers.{exchanges_of_lowers, of_lowers}
use Rattle.vt_mounting.proofs.detach.MountsChanged.{times_map}
use Rattle.vt_mounting.proofs.detach.Overlaid.{plain_ones_are}
use Rattle.vt_mounting.proofs.detach.OverlaysGone.{layers_used, merged_in}
use Rattle.vt_laws_mounts.proofs.counts.using.MountRoots as Roots

-- what is looked up in a list stands there
pub looked_up : {B : Type 0} (number : ℕ) (pairs : List (ℕ × B)) (b : B) → lookup (nat_eq number) pairs ≡ Some b
    → Among (number, b) pairs
looked_up number [] b e = absurd (true≢false (sym (ap is_some e)))
looked_up {B} number (pair ∷ rest) b e = grind (arith, common_steps, looked_up number rest b, nat_eq number pair.0)

module _ (value : WorldValue) (whole : IsHeld value) where
  abbrev world : World ℕ
  world = world_of value

  -- Locations that are there

  -- the mount points that mounts get from a list of such are there
  located_moved : (points : List Point)
      → ((point : Point) → Among point points → is_located_well nat_eq world (location_of point.place) ≡ true)
      → (mount : Mount ℕ) → Among mount world.mounts → (place : Location ℕ)
      → (moved_by (map point_seen points) mount).mount_point ≡ Some place → is_located_well nat_eq world place ≡ true
  located_moved points each mount m place = by (lookup (nat_eq mount.number) (map point_seen points)) refl
    where
      by : (o : Option (Location ℕ)) → lookup (nat_eq mount.number) (map point_seen points) ≡ o
          → or_else o mount.mount_point ≡ Some place → is_located_well nat_eq world place ≡ true
      by None e is = point_located value whole mount m place is
      by (Some other) e is =
          let from = among-from_map point_seen points (mount.number, other)
          (looked_up mount.number (map point_seen points) other e) in
          ap (is_located_well nat_eq world)
          (sym (same_Some other place is) ∙ ap (λ (pair : ℕ × Location ℕ). pair.1) from.2) ∙ each from.0 from.1

  taken_located : (points : List Point)
      → ((point : Point) → Among point points → is_located_well nat_eq world (location_of point.place) ≡ true)
      → (at : At) → Among at (points_taken points value.mounts) → is_located_well nat_eq world (location_of at) ≡ true
  taken_located [] each at m = absurd m
  taken_located (point ∷ rest) each at m =
      ⊎_elim (λ before. taken_located rest (λ other n. each other (inr n)) at before)
      (λ last. here (is_some (entry_numbered (with_points rest value.mounts) (counted point.mount.count))) last)
      (among-append (points_taken rest value.mounts) (taken_at point (with_points rest value.mounts)) at m)
    where
      here : (b : Bool) → Among at (cond b (point.place ∷ []) []) → is_located_well nat_eq world (location_of at) ≡ true
      here b n = grind (arith, common_steps)

  left_located : (points : List Point)
      → ((point : Point) → Among point points → is_located_well nat_eq world (location_of point.place) ≡ true)
      → (place : Location ℕ) → Among place (points_left points value.mounts) → is_located_well nat_eq world place ≡ true
  left_located [] each place m = absurd m
  left_located (point ∷ rest) each place m =
      ⊎_elim (λ before. left_located rest (λ other n. each other (inr n)) place before)
      (λ last. here (entry_numbered (with_points rest value.mounts) (counted point.mount.count)) refl last)
      (among-append (points_left rest value.mounts) (left_at point (with_points rest value.mounts)) place m)
    where
      here : (o : Option MountEntry) → entry_numbered (with_points rest value.mounts) (counted point.mount.count) ≡ o
          → Among place (option_to_list (option_and_then (λ (entry : MountEntry). entry.mount.mount_point) o))
          → is_located_well nat_eq world place ≡ true
      here None e n = absurd n
      here (Some entry) e n = by entry.mount.mount_point refl n
        where
          by : (o : Option (Location ℕ)) → entry.mount.mount_point ≡ o → Among place (option_to_list o)
              → is_located_well nat_eq world place ≡ true
          by None f k = absurd k
          by (Some other) f k =
              let found = (entry_found_at (with_points rest value.mounts) (counted point.mount.count) entry e).0 in
              let from = among-from_map (moved_by (map point_seen rest)) world.mounts entry.mount
              (subst (Among entry.mount) (points_are_moved value.mounts rest)
              (among-map (λ (one : MountEntry). one.mount) (with_points rest value.mounts) entry found)) in
              ⊎_elim (λ same. ap (is_located_well nat_eq world) same
              ∙ located_moved rest (λ one l. each one (inr l)) from.0 from.1 other
              (ap (λ (x : Mount ℕ). x.mount_point) (sym from.2) ∙ f)) (λ none. absurd none) k

  -- the inodes there are those that the definitions see
  inodes_are : (ats : List At) → ((at : At) → Among at ats → is_located_well nat_eq world (location_of at) ≡ true)
      → list_all is_small ats ≡ true → inodes_of_points ats ≡ map (inode_at world) (map location_of ats)
  inodes_are [] there small = refl
  inodes_are (at ∷ rest) there small =
      let parts = and_parts (is_small at) (list_all is_small rest) small in
      λ i. (sym (seen_where_located value whole at parts.0 (there at (inl refl))) i, number_of at.node)
      ∷ inodes_are rest (λ one m. there one (inr m)) parts.1 i

  -- and they are there
  pub inodes_there : (was : FilesystemEntry) → Among was value.filesystems → (places : List (Location ℕ))
      → ((place : Location ℕ) → Among place places → is_located_well nat_eq world place ≡ true)
      → AreThere (counted was.count) (inodes_seen was) (map (inode_at world) places)
  inodes_there was m places there =
      list_all_from_among
      (λ inode. not (nat_eq (counted was.count) inode.0) || is_some ((inodes_seen was).inode inode.1))
      (map (inode_at world) places) (λ inode n. let from = among-from_map (inode_at world) places inode n in
      ap (λ (one : Inode). not (nat_eq (counted was.count) one.0) || is_some ((inodes_seen was).inode one.1)) from.2
      ∙ by from.0 (nat_eq (counted was.count) (mount_at nat_eq world from.0).filesystem) refl (there from.0 from.1))
    where
      by : (place : Location ℕ) (b : Bool) → nat_eq (counted was.count) (mount_at nat_eq world place).filesystem ≡ b
          → is_located_well nat_eq world place ≡ true → (not b || is_some ((inodes_seen was).inode place.node)) ≡ true
      by place b e well =
          grind (arith, common_steps, counted, eqb-true, is_there, is_some-node_in, is_some, found_plain_one)

-- The mounts at their new mount points

-- the world once mounts have their new mount points
abbrev pub moved_world : WorldValue → List Point → World ℕ
moved_world value points = with_mounts (world_of value) (map (moved_by (map point_seen points)) (world_of value).mounts)

-- each new mount point is there, and each mount point is on a mount that is attached
pub record MayMove (value : WorldValue) (points : List Point) : Type 0 where
  pub each : (point : Point) → Among point points
      → is_located_well nat_eq (world_of value) (location_of point.place) ≡ true
  pub attached : (mount : Mount ℕ) → Among mount (world_of value).mounts → (place : Location ℕ)
      → (moved_by (map point_seen points) mount).mount_point ≡ Some place
      → is_some (mount_at nat_eq (world_of value) place).namespace ≡ true
  pub outside : (mount : Mount ℕ) → Among mount (world_of value).mounts → is_some mount.namespace ≡ false
      → (moved_by (map point_seen points) mount).mount_point ≡ None

module _ (value : WorldValue) (whole : IsHeld value) (points : List Point) (may : MayMove value points) where
  abbrev before : World ℕ
  before = world_of value

  abbrev moved : Mount ℕ → Mount ℕ
  moved = moved_by (map point_seen points)

  abbrev after : World ℕ
  after = moved_world value points

  same_mount : (n : ℕ) → (mount_in nat_eq after.mounts n).namespace ≡ (mount_in nat_eq before.mounts n).namespace
  same_mount n = ap (λ o. (unwrap_or o (no_mount n)).namespace) (found_mapped moved (λ mount. refl) before.mounts n)
      ∙ by (find (λ (mount : Mount ℕ). nat_eq n mount.number) before.mounts)
    where
      by : (o : Option (Mount ℕ)) → (unwrap_or (option_map moved o) (no_mount n)).namespace
          ≡ (unwrap_or o (no_mount n)).namespace
      by None = refl
      by (Some mount) = refl

  stand : MountsStand after
  stand = record {
    one_number = pair_mapped moved (λ mount. refl) before.mounts ∙ whole.in_world.mounts.one_number;
    nowhere = list_all_from_among is_nowhere_or_attached after.mounts
        (λ mount m. let from = among-from_map moved before.mounts mount m in
        ap is_nowhere_or_attached from.2 ∙ outside from.0 (is_some from.0.namespace) refl
        (among_from_list_all is_nowhere_or_attached before.mounts whole.in_world.mounts.nowhere from.0 from.1)
        (may.outside from.0 from.1));
    on_attached = list_all_from_among (stands_on_attached after) after.mounts
        (λ mount m. let from = among-from_map moved before.mounts mount m in
        ap (stands_on_attached after) from.2 ∙ on from.0 from.1 (moved from.0).mount_point refl);
  }
    where
      outside : (mount : Mount ℕ) (b : Bool) → is_some mount.namespace ≡ b → is_nowhere_or_attached mount ≡ true
          → (is_some mount.namespace ≡ false → (moved mount).mount_point ≡ None)
          → (is_some mount.namespace || (not (is_some (moved mount).mount_point) && is_private mount.propagation))
          ≡ true
      outside mount b e is none = grind (arith, common_steps)

      on : (mount : Mount ℕ) → Among mount before.mounts → (o : Option (Location ℕ)) → (moved mount).mount_point ≡ o
          → list_all (λ place. is_some (mount_at nat_eq after place).namespace)
          (option_to_list (moved mount).mount_point) ≡ true
      on mount m None e = cc
      on mount m (Some place) e = cc (same_mount place.mount, may.attached mount m place e)

  located : LocationsStand after
  located = subst (λ numbers. list_all (λ (location : Location ℕ). is_among nat_eq location.mount numbers)
      (all_locations before) ≡ true) (sym (map_twice (λ (mount : Mount ℕ). mount.number) moved before.mounts))
      (Roots.locations_of_worlds_stand before whole.in_world)

  in_use : MountsInUseBut [] after
  in_use =
      list_all_from_among (λ mount. is_among nat_eq mount.number [] || mount_lives nat_eq after mount) after.mounts
      (λ mount m.
      let from = among-from_map moved before.mounts mount m in
      ap (mount_lives nat_eq after) from.2
      ∙ among_from_list_all (mount_lives nat_eq before) before.mounts (all_in_use before whole.in_world).mounts from.0
      from.1)

  mounted : FilesystemsInUse after
  mounted = list_all_from_among (filesystem_lives nat_eq after) before.filesystems (λ f m.
      lives_alike before after refl
      (λ number. any-map (λ (mount : Mount ℕ). nat_eq number mount.filesystem) moved before.mounts (λ mount. refl)) f
      ∙ among_from_list_all (filesystem_lives nat_eq before) before.filesystems
      (all_in_use before whole.in_world).filesystems f m)

  showing : (n : ℕ) → mounts_showing after n ≡ mounts_showing before n
  showing n = times_map (λ (mount : Mount ℕ). nat_eq n mount.filesystem) moved before.mounts

  -- the inodes of the new mount points
  abbrev pub gained : List Inode
  gained = map (inode_at before) (map location_of (points_taken points value.mounts))

  -- and those of the old ones
  abbrev pub lost : List Inode
  lost = map (inode_at before) (points_left points value.mounts)

  module _ (left : List At) (left_are : map location_of left ≡ points_left points value.mounts)
      (left_small : list_all is_small left ≡ true)
      (taken_small : list_all is_small (points_taken points value.mounts) ≡ true) (mounts : List MountEntry)
      (filesystems : Filesystems) (overlays : List Merged)
      (is_kept : kept_with mounts filesystems overlays ≡ with_planned [] points left (kept_of value)) where
    entries_are : mounts ≡ with_points points value.mounts
    entries_are = ap (λ (k : Kept). k.mounts) is_kept ∙ append-nil (with_points points value.mounts)

    mounts_are : after.mounts ≡ mounts_in mounts
    mounts_are = sym (ap mounts_in entries_are ∙ points_are_moved value.mounts points)

    abbrev changed : Shown → Shown
    changed = exchanged_on (inodes_of_points (points_taken points value.mounts) ++ []) (inodes_of_points left) 0

    shown_are : shown filesystems ≡ map changed (shown value.filesystems)
    shown_are = ap (λ (k : Kept). k.filesystems) is_kept
        ∙ planned_shown (points_taken points value.mounts) left [] (shown value.filesystems)

    taken_is : inodes_of_points (points_taken points value.mounts) ++ [] ≡ gained
    taken_is = append-nil (inodes_of_points (points_taken points value.mounts))
        ∙ inodes_are value whole (points_taken points value.mounts)
        (taken_located value whole points may.each) taken_small

    left_is : inodes_of_points left ≡ lost
    left_is = inodes_are value whole left (λ at m. left_located value whole points may.each (location_of at)
        (subst (Among (location_of at)) left_are (among-map location_of left at m))) left_small
        ∙ ap (map (inode_at before)) left_are

    uses_exchanged : (filesystem : ℕ) → Exchanges gained lost filesystem before after
    uses_exchanged filesystem = subst (λ all. Exchanges gained lost filesystem before (with_mounts before all))
        (points_are_moved value.mounts points)
        (points_are_uses before value.mounts points refl whole.in_world.mounts.one_number filesystem)

    merged_after : map merged_seen value.overlays ≡ map (merged_in after) (filter is_overlay after.filesystems)
    merged_after = (held_is_kept value whole).merged
        ∙ map_alike (merged_in before) (merged_in after) (filter is_overlay before.filesystems) (λ overlay m. λ i. record {
          number = overlay.number;
          mounts = sym (showing overlay.number) i;
          layers = layers_used overlay;
        })

    no_more : (inodes : List Inode) → inodes ≡ inodes ++ []
    no_more inodes = sym (append-nil inodes)

    none_added : (n : ℕ) → n + 0 ≡ n
    none_added n = Rattle.std.proofs.Common.add-zero n

    shown_is : (one : Shown) → Among one (shown filesystems) → IsShownIn value gained lost [] after one
    shown_is one m =
        let from = among-from_map changed (shown value.filesystems) one (subst (Among one) shown_are m) in
        let entry = among-from_map shown_entry value.filesystems from.0 from.1 in
        let f = counted entry.0.count in
        record {
          was = entry.0;
          among = entry.1;
          count = ap (λ (x : Shown). x.count) from.2 ∙ ap (λ (x : Shown). x.count) entry.2;
          there = inodes_there value whole entry.0 entry.1 (map location_of (points_taken points value.mounts))
              (λ place n.
              let at = among-from_map location_of (points_taken points value.mounts) place n in
              ap (is_located_well nat_eq before) at.2 ∙ taken_located value whole points may.each at.0 at.1);
          inodes = ap (λ (x : Shown). x.inodes) from.2
              ∙ (λ i. exchanged (counted (entry.2 i).count) (taken_is i) (left_is i) (entry.2 i).inodes);
          exchanges = subst (λ all. Exchanges gained all f (of_lowers before) (of_lowers after)) (no_more lost)
              (exchanges_of_lowers {world = before} {after = after} refl (uses_exchanged f));
          mounts = ap (λ (x : Shown). x.mounts) from.2 ∙ none_added from.0.mounts ∙ ap (λ (x : Shown). x.mounts) entry.2
              ∙ (among_from_all (CountsItsMounts before) value.filesystems whole.filesystems entry.0 entry.1).mounts
              ∙ ap (λ n. n + layer_count before f) (sym (showing f))
              ∙ ap (λ n. mounts_showing after (counted n) + layer_count after (counted n))
              (sym (ap (λ (x : Shown). x.count) from.2 ∙ ap (λ (x : Shown). x.count) entry.2));
        }

    -- the uses of both are counted
    pub moved_is_kept : IsKeptBut value [] [] gained lost after (kept_with mounts filesystems overlays)
    moved_is_kept = record {
      mounts = mounts_are ∙ sym (map-id (mounts_in mounts));
      uses = all_from_among (CountsItsUses after) mounts (λ entry m.
          let was = among_from_all (CountsItsUses before) (with_points points value.mounts)
          (points_count before points value.mounts whole.mounts) entry (subst (Among entry) entries_are m) in
          record { uses = was.uses; writers = was.writers });
      held = whole;
      numbers = ap (map (λ (f : Filesystem ℕ). f.number)) (plain_ones_are value whole.overlays)
          ∙ map_twice (λ (f : Filesystem ℕ). f.number) filesystem_seen value.filesystems
          ∙ sym (map_twice (λ (one : Shown). counted one.count) shown_entry value.filesystems)
          ∙ sym (map_twice (λ (one : Shown). counted one.count) changed (shown value.filesystems))
          ∙ ap (map (λ (one : Shown). counted one.count)) (sym shown_are);
      filesystems = shown_is;
      stand = stand;
      located = located;
      in_use = in_use;
      mounted = mounted;
      merged = ap (λ (k : Kept). k.overlays) is_kept ∙ merged_after;
      leaves = record {
        overlays = (held_is_kept value whole).leaves.overlays
            ∙ filter_alike (λ overlay. is_mounted nat_eq before overlay.number)
            (λ overlay. is_mounted nat_eq after overlay.number) (overlays_seen value.overlays)
            (λ overlay m. sym (any-map (λ (mount : Mount ℕ). nat_eq overlay.number mount.filesystem) moved before.mounts
            (λ mount. refl)));
        rise = whole.overlays.all_rise;
      };
      points = λ mount m point p few.
          let from = among-from_map moved before.mounts mount (subst (Among mount) (sym mounts_are) m) in
          seen_where_located value whole point few
          (located_moved value whole points may.each from.0 from.1 (location_of point)
          (ap (λ (x : Mount ℕ). x.mount_point) (sym from.2) ∙ p));
      places = λ mount m place p. shown-mapped moved (λ one. refl) (λ one. refl) before.mounts place.mount;
    }
