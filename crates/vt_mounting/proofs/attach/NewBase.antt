-- A new filesystem stands beside the others before its mount comes: mount(2) of a tmpfs.
use Rattle.std.proofs.Common.{◌≡◌, ◌⊎◌, refl, sym, ap, subst, ◌∙◌, inl, inr, ⊎_elim, ℕ, ◌<◌, ◌+◌, ◌*◌, nat_eq, eq-eqb, lt-ltb, nat_lt, true, false, cond, not, ◌&&◌, ◌||◌, List, [], ◌∷◌, ◌++◌, map, filter, find, flat_map, Option, Some, None, is_some, option_map, arith, All, filter_map, option_to_list, unwrap_or, le-ltb, ne_eqb}
use Rattle.vt_spec.proofs.Common.{All-head, All-tail, Filesystem, Fresh, IsWorld, Layer, Location, MountFlags, Overlay, TaskName, ToMountPlain, World, all_locations, and_parts, attach, common_steps, filesystem_numbered, group_of, has_its_root, has_layer_on, is_among, is_directory_at, is_directory_node, is_directory_under, is_located_well, is_overlay, is_plain_layer, layers_in, layers_of, list_all, list_all-append, list_any, located_in, map-append, mount_at, mounted, named_in, new_mount, new_plain, no_filesystem, objects_of_overlay, odds, of_overlay, overlay_or, parts_of, plain_filesystem, receivers, receivers_of, receives, root_attr, takes_part, used_in}
use Rattle.vt_spec.specs.Machine.Mounts as meant
use Rattle.vt_mounting.proofs.Common.{Among, CountsItsMounts, FilesystemEntry, Filesystems, InodesInUse, IsCounted, IsHeld, IsNew, OverlaysHaveNoUpper, WorldValue, all_from_among, all_in_use, among-append, among-append_left, among-append_right, among-filter_map, among-from_filter, among-from_map, among_from_all, among_from_list_all, among_numbers, are_rising, counted, directory_is_there, filesystem_seen, filesystems_seen, filter_alike, found_filesystem, found_itself, handed_from, inode_number, inodes_seen, is_inode_used, is_on, layer_count, layers_among, list_all_from_among, mounts_in, mounts_of_worlds_stand, mounts_showing, no_upper_is_in_any, none_among, none_from_among, overlays_seen, places_of, put_in, times, times_append, uses_are_exchanged_beside_overlays, world_of, worlds_have_trees, woven}
use Rattle.vt_world.proofs.counting.Lowered.{counts_there}
use Rattle.vt_laws_mounts.specs.Counts.Using.{is_outside, one_counted}
use Rattle.vt_laws_mounts.proofs.counts.overlays.FilesystemUses.{new_tree_is_counted_beside_overlays, plain_ones_use_nothing}
use Rattle.vt_laws_mounts.proofs.counts.using.MountRoots as Roots
use Rattle.vt_laws_mounts.proofs.counts.using.MountRoots.{places_stand}
use Rattle.vt_laws_mounts.specs.LettingGo.InUse.{HasTrees}
use Rattle.vt_laws_mounts.proofs.letting_go.mounting.AttachedSwept.{new_mounts_of_trees_keep_all}
use Rattle.vt_laws_mounts.proofs.letting_go.Lists.{among-from_filter_map}
use Rattle.vt_mounting.specs.Detach.Events.{Permits, left_by}
use Rattle.vt_mounting.proofs.detach.FileEvents.{permit_fits}
use Rattle.vt_mounting.proofs.detach.BesideOverlays.{layers_alike}
use Rattle.vt_mounting.proofs.detach.LookLemmas.{nat_eq_turned}
use Rattle.vt_mounting.proofs.detach.Overlaid.{found_plain_one}
use Rattle.vt_mounting.proofs.detach.PlainFound.{overlay_among}
use Rattle.vt_mounting.proofs.attach.AttachedCounts.{times_none}
use Rattle.vt_mounting.proofs.attach.GraftedDone.{IsBase, with_base}
use Rattle.vt_mounting.proofs.attach.GraftedUses.{beside_overlays}
use Rattle.vt_mounting.proofs.attach.NewFilesystems.{all_own, filesystem_counted, found_below, number_below}
use Rattle.vt_laws_worlds.proofs.overlays_stay.left.Given.{given_permits_give_no_upper}
use Rattle.vt_mounting.proofs.attach.TakingNumbers.{TakesNumbers}

-- the destination is there
pub destination_there : (value : WorldValue) → IsHeld value
    → (name : TaskName) (place : Location ℕ) (flags : MountFlags)
    → Permits value name (ToMountPlain place flags) → is_located_well nat_eq (world_of value) place ≡ true
destination_there value whole name place flags permits =
    (permit_fits value whole name (ToMountPlain place flags) permits).names.directory.reached.there

-- One more filesystem, which is not looked at

pub found_before : (filesystems : List (Filesystem ℕ)) (added : Filesystem ℕ) (number : ℕ)
    → nat_eq number added.number ≡ false
    → find (λ (f : Filesystem ℕ). nat_eq number f.number) (filesystems ++ added ∷ [])
    ≡ find (λ (f : Filesystem ℕ). nat_eq number f.number) filesystems
found_before [] added number other = ap (λ b. cond b (Some added) None) other
found_before (first ∷ rest) added number other = ap (λ o. cond (nat_eq number first.number) (Some first) o)
    (found_before rest added number other)

pub flat_before : {B : Type 0} (g : Filesystem ℕ → List B) (filesystems : List (Filesystem ℕ)) (added : Filesystem ℕ)
    → g added ≡ [] → flat_map g (filesystems ++ added ∷ []) ≡ flat_map g filesystems
flat_before g [] added none = λ i. none i ++ []
flat_before g (first ∷ rest) added none = ap (λ list. g first ++ list) (flat_before g rest added none)

pub overlays_before : (filesystems : List (Filesystem ℕ)) (added : Filesystem ℕ) → is_overlay added ≡ false
    → filter is_overlay (filesystems ++ added ∷ []) ≡ filter is_overlay filesystems
overlays_before [] added plain = ap (λ b. cond b (added ∷ []) []) plain
overlays_before (first ∷ rest) added plain =
    ap (λ list. cond (is_overlay first) (first ∷ list) list) (overlays_before rest added plain)

-- where it is the last, numbers still rise
pub rising_last : (filesystems : List (Filesystem ℕ)) (added : Filesystem ℕ) → are_rising filesystems ≡ true
    → list_all (λ (f : Filesystem ℕ). nat_lt f.number added.number) filesystems ≡ true
    → are_rising (filesystems ++ added ∷ []) ≡ true
rising_last [] added rising lower = refl
rising_last (first ∷ rest) added rising lower = grind (arith, common_steps, rising_last rest, and_parts, list_all-append)

-- and behind those that are woven it is woven
pub put_before : (overlay added : Filesystem ℕ) → nat_lt added.number overlay.number ≡ false
    → (filesystems : List (Filesystem ℕ))
    → put_in overlay (filesystems ++ added ∷ []) ≡ put_in overlay filesystems ++ added ∷ []
put_before overlay added above [] = ap (λ b. cond b (added ∷ overlay ∷ []) (overlay ∷ added ∷ [])) above
put_before overlay added above (first ∷ rest) = grind (arith, common_steps, put_before overlay added above rest)

woven_last : (plain overlays : List (Filesystem ℕ)) (added : Filesystem ℕ)
    → ((overlay : Filesystem ℕ) → Among overlay overlays → nat_lt added.number overlay.number ≡ false)
    → woven (plain ++ added ∷ []) overlays ≡ woven plain overlays ++ added ∷ []
woven_last plain [] added above = refl
woven_last plain (overlay ∷ rest) added above =
    ap (put_in overlay) (woven_last plain rest added (λ other m. above other (inr m)))
    ∙ put_before overlay added (above overlay (inl refl)) (woven plain rest)

module _ {value : WorldValue} (whole : IsHeld value) {name : TaskName} {place : Location ℕ} {flags : MountFlags}
    (permits : Permits value name (ToMountPlain place flags)) where
  abbrev world : World ℕ
  world = world_of value

  abbrev pub fresh : Fresh ℕ
  fresh = handed_from value.next 2 (inode_number value.next 0)

  abbrev added : Filesystem ℕ
  added = new_plain nat_eq (counted value.next) (inode_number value.next 0)

  abbrev pub middle : World ℕ
  middle = record (world_of value) {
    filesystems = (world_of value).filesystems
        ++ new_plain nat_eq (counted value.next) (inode_number value.next 0) ∷ [];
  }

  abbrev pub tree : List (meant.Mount ℕ)
  tree = new_mount (counted value.next) (inode_number value.next 0) flags ∷ []

  pub takes : TakesNumbers value name (ToMountPlain place flags) permits.task
  takes = record { called = permits.called; given = permits.given; inode = inode_number value.next 0; even = omega arith; supply = refl }

  pub plain_is : plain_filesystem nat_eq fresh ≡ added
  plain_is =
      let first : 4 * (value.next + 0) + 1 ≡ counted value.next = omega arith in
      ap (λ number. new_plain nat_eq number (inode_number value.next 0)) first

  pub left_attached : left_by value permits.task (ToMountPlain place flags)
      ≡ attach nat_eq middle (odds fresh) place false tree
  left_attached = new_mounts_of_trees_keep_all fresh world permits.task place flags
      (all_in_use world whole.in_world) (mounts_of_worlds_stand world whole.in_world)
      (Roots.locations_of_worlds_stand world whole.in_world)
      (ap is_some (permit_fits value whole name (ToMountPlain place flags) permits).names.own)
      ∙ ap (λ filesystem. mounted nat_eq (odds fresh) world place filesystem flags) plain_is

  abbrev left : World ℕ
  left = attach nat_eq middle (odds fresh) place false tree

  left_world : IsWorld nat_eq (attach nat_eq middle (odds fresh) place false tree)
      × OverlaysHaveNoUpper (attach nat_eq middle (odds fresh) place false tree)
  left_world = subst (λ (w : World ℕ). IsWorld nat_eq w × OverlaysHaveNoUpper w) left_attached
      (given_permits_give_no_upper world fresh permits.task (ToMountPlain place flags) whole.in_world
      whole.overlays.read_only permits.given)

  -- No mount and no location is in the new filesystem

  others_elsewhere : (other : meant.Mount ℕ) → Among other (mounts_in value.mounts)
      → nat_eq (counted value.next) other.filesystem ≡ false
  others_elsewhere other m =
      let root = (and_parts _ _
      (among_from_list_all (has_its_root nat_eq world) world.mounts whole.in_world.roots other m)).0 in
      let low = found_below value whole other.filesystem other.root
      (directory_is_there ((filesystem_numbered nat_eq world other.filesystem).files.tree.node other.root) root) in
      ne_eqb (counted value.next) other.filesystem (λ same. absurd (omega (arith, low, same)))

  all_stand : list_all (is_on (mounts_in value.mounts)) (all_locations world ++ places_of (mounts_in value.mounts))
      ≡ true
  all_stand = places_stand world (mounts_of_worlds_stand world whole.in_world)
      (Roots.locations_of_worlds_stand world whole.in_world)

  on_elsewhere : (location : Location ℕ) → is_on (mounts_in value.mounts) location ≡ true
      → nat_eq (counted value.next) (mount_at nat_eq world location).filesystem ≡ false
  on_elsewhere location on =
      let from = among-from_map (λ (x : meant.Mount ℕ). x.number) (mounts_in value.mounts) location.mount
      (among_numbers location.mount (map (λ (x : meant.Mount ℕ). x.number) (mounts_in value.mounts)) on) in
      cc (
        from.2,
        found_itself (mounts_in value.mounts) whole.in_world.mounts.one_number from.0 from.1,
        others_elsewhere from.0 from.1,
      )

  point_on : (mount : meant.Mount ℕ) → Among mount (mounts_in value.mounts) → {location : Location ℕ}
      → mount.mount_point ≡ Some location → is_on (mounts_in value.mounts) location ≡ true
  point_on mount m {location} is = among_from_list_all (is_on (mounts_in value.mounts))
      (all_locations world ++ places_of (mounts_in value.mounts)) all_stand location
      (among-append_right (all_locations world) (places_of (mounts_in value.mounts)) location
      (among-append_right (map (meant.root_of {N = ℕ}) (mounts_in value.mounts))
      (filter_map (λ (x : meant.Mount ℕ). x.mount_point) (mounts_in value.mounts)) location
      (among-filter_map (λ (x : meant.Mount ℕ). x.mount_point) (mounts_in value.mounts) mount location m is)))

  all_outside : list_all (is_outside middle (counted value.next))
      (all_locations world ++ filter_map (λ (x : meant.Mount ℕ). x.mount_point) (mounts_in value.mounts)) ≡ true
  all_outside = list_all_from_among (is_outside middle (counted value.next))
      (all_locations world ++ filter_map (λ (x : meant.Mount ℕ). x.mount_point) (mounts_in value.mounts)) (λ location m.
      ⊎_elim (λ own. ap not (on_elsewhere location (among_from_list_all (is_on (mounts_in value.mounts))
      (all_locations world ++ places_of (mounts_in value.mounts)) all_stand location
      (among-append_left (all_locations world) (places_of (mounts_in value.mounts)) location own))))
      (λ point. let from = among-from_filter_map (λ (x : meant.Mount ℕ). x.mount_point)
      (mounts_in value.mounts) location point in
      ap not (on_elsewhere location (point_on from.0 from.1 from.2))) (among-append (all_locations world)
      (filter_map (λ (x : meant.Mount ℕ). x.mount_point) (mounts_in value.mounts)) location m))

  roots_elsewhere : list_all (λ (x : meant.Mount ℕ). not (nat_eq (counted value.next) x.filesystem)
      || nat_eq (inode_number value.next 0) x.root) (mounts_in value.mounts) ≡ true
  roots_elsewhere = list_all_from_among (λ (x : meant.Mount ℕ). not (nat_eq (counted value.next) x.filesystem)
      || nat_eq (inode_number value.next 0) x.root) (mounts_in value.mounts)
      (λ x m. ap (λ b. not b || nat_eq (inode_number value.next 0) x.root) (others_elsewhere x m))

  none_showing : mounts_showing world (counted value.next) ≡ 0
  none_showing = times_none (λ (x : meant.Mount ℕ). nat_eq (counted value.next) x.filesystem)
      (mounts_in value.mounts) others_elsewhere

  -- The other filesystems are what they were

  files_kept : (number : ℕ) → nat_eq (counted value.next) number ≡ false
      → filesystem_numbered nat_eq middle number ≡ filesystem_numbered nat_eq world number
  files_kept number other = ap (λ found. unwrap_or found (no_filesystem number))
      (found_before world.filesystems added number (nat_eq_turned number (counted value.next) ∙ other))

  roots_kept : list_all (has_its_root nat_eq middle) (mounts_in value.mounts) ≡ true
  roots_kept = list_all_from_among (has_its_root nat_eq middle) (mounts_in value.mounts) (λ mount m.
      (λ i. is_directory_node ((files_kept mount.filesystem (others_elsewhere mount m) i).files.tree.node mount.root)
      && points mount m mount.mount_point refl i)
      ∙ among_from_list_all (has_its_root nat_eq world) (mounts_in value.mounts) whole.in_world.roots mount m)
    where
      points : (mount : meant.Mount ℕ) → Among mount (mounts_in value.mounts) → (o : Option (Location ℕ))
          → mount.mount_point ≡ o → list_all (is_directory_at nat_eq middle) (option_to_list o)
          ≡ list_all (is_directory_at nat_eq world) (option_to_list o)
      points mount m None is = refl
      points mount m (Some location) is = λ i.
          is_directory_node ((files_kept (mount_at nat_eq world location).filesystem
          (on_elsewhere location (point_on mount m is)) i).files.tree.node location.node) && true

  used_same : (f : Filesystem ℕ) → used_in nat_eq middle f ≡ used_in nat_eq world f
  used_same f = grind (arith, common_steps)

  in_use_then : InodesInUse middle
  in_use_then = all_from_among (λ (f : Filesystem ℕ). list_all (is_inode_used middle f) f.files.numbers ≡ true)
      (world.filesystems ++ added ∷ []) (λ f m.
      ⊎_elim (λ old. ap (λ used. list_all (λ n. is_among nat_eq n used) f.files.numbers) (used_same f)
      ∙ among_from_all (λ (g : Filesystem ℕ). list_all (is_inode_used world g) g.files.numbers ≡ true) world.filesystems
      (all_in_use world whole.in_world).inodes f old) (λ last. ⊎_elim
      (λ same. subst (λ (g : Filesystem ℕ). list_all (is_inode_used middle g) g.files.numbers ≡ true) (sym same)
      (λ i. (eq-eqb (inode_number value.next 0) (inode_number value.next 0) refl i
      || is_among nat_eq (inode_number value.next 0) (rest_used)) && true)) (λ none. absurd none) last)
      (among-append world.filesystems (added ∷ []) f m))
    where
      rest_used : List ℕ
      rest_used = named_in added.files ++ located_in nat_eq middle added.number ++ layers_in nat_eq middle added.number
          ++ flat_map (objects_of_overlay nat_eq added.number) middle.filesystems

  module _ {entry : FilesystemEntry} (is_new : IsNew value.next root_attr entry) where
    abbrev base : Filesystems
    base = value.filesystems ++ entry ∷ []

    seen_base : beside_overlays value (value.filesystems ++ entry ∷ []) ≡ world.filesystems ++ added ∷ []
    seen_base = ap (λ list. woven list (overlays_seen value.overlays))
        (map-append filesystem_seen value.filesystems (entry ∷ [])
        ∙ ap (λ filesystem. filesystems_seen value.filesystems ++ filesystem ∷ []) is_new.seen)
        ∙ woven_last (filesystems_seen value.filesystems) (overlays_seen value.overlays) added (λ overlay m.
        let low = number_below value whole overlay (overlay_among value whole.overlays overlay m).0 in
        le-ltb added.number overlay.number (omega (arith, low)))

    pub base_is : middle ≡ with_base value (value.filesystems ++ entry ∷ [])
    base_is = λ i. record (world_of value) { filesystems = sym seen_base i }

    from_base : (was : FilesystemEntry) → Among was base → Among was value.filesystems ⊎ (was ≡ entry)
    from_base was m =
        ⊎_elim inl (λ last. ⊎_elim inr (λ none. absurd none) last) (among-append value.filesystems (entry ∷ []) was m)

    old_counted : (was : FilesystemEntry) → Among was value.filesystems
        → IsCounted middle (filesystem_numbered nat_eq middle (counted was.count)) (inodes_seen was)
    old_counted was m = uses_are_exchanged_beside_overlays world middle [] [] (counted was.count) (inodes_seen was)
        (worlds_have_trees world whole.in_world) (all_in_use world whole.in_world).inodes
        (no_upper_is_in_any middle (counted was.count) left_world.1)
        (plain_ones_use_nothing world middle (counted was.count) refl refl
        (overlays_before world.filesystems added refl) (files_kept (counted was.count)
        (let low = filesystem_counted value whole was m in ne_eqb (counted value.next) (counted was.count)
        (λ same. absurd (omega (arith, low, same)))))) (subst (λ f. IsCounted world f (inodes_seen was))
        (sym (found_plain_one value whole was m))
        (counts_there value whole was m)) refl

    -- no overlay has a layer in the new one
    no_layer : All (λ merged. has_layer_on nat_eq (counted value.next) merged ≡ false) middle.filesystems
    no_layer =
        all_from_among (λ merged. has_layer_on nat_eq (counted value.next) merged ≡ false) middle.filesystems (λ f m.
        ⊎_elim (λ old. none_by f.overlay
        (among_from_list_all (of_overlay true (λ overlay. list_all (is_plain_layer nat_eq world)
        (layers_of overlay))) world.filesystems whole.in_world.overlays.plain_layers f old))
        (λ last. ⊎_elim (λ same. ap (has_layer_on nat_eq (counted value.next)) same) (λ none. absurd none) last)
        (among-append world.filesystems (added ∷ []) f m))
      where
        layers_elsewhere : (layers : List (Layer ℕ)) → list_all (is_plain_layer nat_eq world) layers ≡ true
            → list_any (λ (layer : Layer ℕ). nat_eq (counted value.next) layer.filesystem) layers ≡ false
        layers_elsewhere layers plain =
            none_from_among (λ (layer : Layer ℕ). nat_eq (counted value.next) layer.filesystem) layers (λ layer m.
            let low = found_below value whole layer.filesystem layer.directory
            (directory_is_there ((filesystem_numbered nat_eq world layer.filesystem).files.tree.node layer.directory)
            (and_parts (not (is_overlay (filesystem_numbered nat_eq world layer.filesystem)))
            (is_directory_node ((filesystem_numbered nat_eq world layer.filesystem).files.tree.node layer.directory))
            (among_from_list_all (is_plain_layer nat_eq world) layers plain layer m)).1) in
            ne_eqb (counted value.next) layer.filesystem (λ same. absurd (omega (arith, low, same))))

        none_by : (o : Option (Overlay ℕ))
            → overlay_or true (λ overlay. list_all (is_plain_layer nat_eq world) (layers_of overlay)) o ≡ true
            → overlay_or false (λ overlay. list_any (λ layer. nat_eq (counted value.next) layer.filesystem)
            (layers_of overlay)) o ≡ false
        none_by None plain = refl
        none_by (Some overlay) plain = layers_elsewhere (layers_of overlay) plain

    -- nor in any other
    base_overlays : filter is_overlay (with_base value (value.filesystems ++ entry ∷ [])).filesystems
        ≡ filter is_overlay world.filesystems
    base_overlays = ap (filter is_overlay) seen_base ∙ overlays_before world.filesystems added refl

    none_layered : layer_count (with_base value (value.filesystems ++ entry ∷ [])) (counted value.next) ≡ 0
    none_layered = ap (λ list. layers_among (counted value.next) list) seen_base ∙ none_in middle.filesystems no_layer
      where
        none_of : (f : Filesystem ℕ) → has_layer_on nat_eq (counted value.next) f ≡ false → (o : Option (Overlay ℕ))
            → f.overlay ≡ o
            → times (λ (layer : Layer ℕ). nat_eq (counted value.next) layer.filesystem) (overlay_or [] layers_of o) ≡ 0
        none_of f none None is = refl
        none_of f none (Some overlay) is =
            times_none (λ (layer : Layer ℕ). nat_eq (counted value.next) layer.filesystem) (layers_of overlay)
            (none_among (λ (layer : Layer ℕ). nat_eq (counted value.next) layer.filesystem) (layers_of overlay)
            (ap (overlay_or false (λ other. list_any (λ (layer : Layer ℕ). nat_eq (counted value.next) layer.filesystem)
            (layers_of other))) (sym is) ∙ none))

        none_in : (list : List (Filesystem ℕ))
            → All (λ merged. has_layer_on nat_eq (counted value.next) merged ≡ false) list
            → layers_among (counted value.next) list ≡ 0
        none_in [] all = refl
        none_in (first ∷ rest) all = times_append (λ (layer : Layer ℕ). nat_eq (counted value.next) layer.filesystem)
            (of_overlay [] layers_of first) (flat_map (of_overlay [] layers_of) rest)
            ∙ (λ i. none_of first (All-head (λ merged. has_layer_on nat_eq (counted value.next) merged ≡ false) first
            rest all) first.overlay refl i
            + none_in rest (All-tail (λ merged. has_layer_on nat_eq (counted value.next) merged ≡ false) first rest all) i)

    -- all others have lower numbers
    all_lower : list_all (λ (f : Filesystem ℕ). nat_lt f.number added.number) world.filesystems ≡ true
    all_lower = list_all_from_among (λ (f : Filesystem ℕ). nat_lt f.number (counted value.next)) world.filesystems
        (λ f m. lt-ltb f.number (counted value.next) (number_below value whole f m))

    new_counted : IsCounted middle (filesystem_numbered nat_eq middle (counted entry.count)) (inodes_seen entry)
    new_counted =
        subst (λ count. IsCounted middle (filesystem_numbered nat_eq middle (counted count)) (inodes_seen entry))
        (sym is_new.counts) (subst (λ f. IsCounted middle f (inodes_seen entry))
        (sym (found_filesystem middle.filesystems left_world.0.files.one_filesystem added
        (among-append_right world.filesystems (added ∷ []) added (inl refl))))
        (subst (IsCounted middle added) (sym is_new.inodes)
        (subst (λ n. IsCounted middle added (one_counted (inode_number value.next 0) (1 + n))) none_showing
        (new_tree_is_counted_beside_overlays middle (counted value.next) (inode_number value.next 0) no_layer
        whole.in_world.mounts.one_number roots_elsewhere all_outside))))

    pub new_base : value.next < 18446744073709551616 → IsBase value (value.filesystems ++ entry ∷ [])
    new_base small = record {
      own = all_own value whole entry small is_new;
      trees = subst HasTrees base_is (worlds_have_trees left left_world.0);
      in_use = subst InodesInUse base_is in_use_then;
      roots = subst (λ (w : World ℕ). list_all (has_its_root nat_eq w) (mounts_in value.mounts)
          ≡ true) base_is roots_kept;
      rise = ap are_rising seen_base ∙ rising_last world.filesystems added whole.overlays.all_rise all_lower;
      inodes = λ was m. subst (λ (w : World ℕ). IsCounted w (filesystem_numbered nat_eq w (counted was.count))
          (inodes_seen was)) base_is (⊎_elim (old_counted was)
          (λ last. subst (λ (one : FilesystemEntry). IsCounted middle
          (filesystem_numbered nat_eq middle (counted one.count)) (inodes_seen one)) (sym last) new_counted)
          (from_base was m));
      mounts = λ was m. ⊎_elim
          (λ old. (among_from_all (CountsItsMounts world) value.filesystems whole.filesystems was old).mounts
          ∙ ap (λ n. mounts_showing world (counted was.count) + n)
          (sym (layers_alike world (with_base value (value.filesystems ++ entry ∷ [])) base_overlays
          (counted was.count)))) (λ last. ap (λ (one : FilesystemEntry). one.mounts) last ∙ is_new.unmounted
          ∙ (λ i. sym none_showing i + sym none_layered i) ∙ ap (λ count. mounts_showing world (counted count)
          + layer_count (with_base value (value.filesystems ++ entry ∷ [])) (counted count))
          (sym (ap (λ (one : FilesystemEntry). one.count) last ∙ is_new.counts))) (from_base was m);
    }

  -- it has the same parts
  pub same_parts : parts_of nat_eq middle place ≡ parts_of nat_eq world place
  same_parts = ap (λ list. mount_at nat_eq world place ∷ list)
      (filter_alike (takes_part nat_eq middle place) (takes_part nat_eq world place)
      (receivers_of nat_eq world (mount_at nat_eq world place)) (λ mount m.
      λ i. not (nat_eq place.mount mount.number) && is_some mount.namespace
      && nat_eq (mount_at nat_eq world place).filesystem mount.filesystem
      && is_directory_under nat_eq (files_kept mount.filesystem
      (others_elsewhere mount (receiver_there mount m)) i).files mount.root place.node))
    where
      by : (o : Option ℕ) (mount : meant.Mount ℕ) → Among mount (unwrap_or (option_map (receivers nat_eq world) o) [])
          → Among mount (mounts_in value.mounts)
      by None mount m = absurd m
      by (Some group) mount m = (among-from_filter (receives nat_eq world group) (mounts_in value.mounts) mount m).0

      receiver_there : (mount : meant.Mount ℕ) → Among mount (receivers_of nat_eq world (mount_at nat_eq world place))
          → Among mount (mounts_in value.mounts)
      receiver_there mount m = by (group_of (mount_at nat_eq world place).propagation) mount m
