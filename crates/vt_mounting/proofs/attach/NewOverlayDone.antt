-- The event that mounts an overlay: mount(2), and the kernel's overlayfs document, "upper and lower".
use Rattle.std.proofs.Common.{◌≡◌, ◌≤◌, ◌<◌, refl, sym, ap, subst, ◌∙◌, inl, ⊎_elim, ℕ, ◌+◌, ◌*◌, ◌%◌, ◌==◌, nat_eq, true, false, true≢false, not, ◌&&◌, List, [], ◌∷◌, ◌++◌, map, filter, length, is_some, None, arith, All}
use Rattle.vt_spec.proofs.Common.{Filesystem, Fresh, IsWorld, Location, MountFlags, Overlay, Permit, SameFilesystem, SameFilesystems, SameWorlds, Task, ToMountOverlay, World, among_from_contains, and_parts, attach, attached_at, common_steps, copies_from, folded, graft_of, group_of, inode_count, is_overlay, length-map, list_all, map-append, masters_with, mount_at, new_mount, odds, parts_of, receivers_of, takes_part}
use Rattle.vt_spec.specs.Machine.Mounts as meant
use Rattle.vt_mounting.proofs.Common.{Among, AttachesBy, Filesystems, Grouping, HasOwnNodes, IsGivenToTask, IsHeld, IsSeen, KeepsTo, MountEntry, OneNumberAMount, OverlayValue, OverlaysAreNamed, ShowsLayers, WorldValue, WritersHaveLayers, alike_from_same, among-append, among-append_right, among-from_filter, among_from_all, any_same_worlds_are_worlds, are_ascending, counted, counted_later, counts_from, filesystems_seen, found_same, has_only_named, is_counted_before, location_named, location_of, master_in, mount_of, mounts_in, new_group, overlay_of_store, overlay_seen, overlays_seen, parts_apart, planned_copies, same_worlds_have_layers_alike, sameness_is_an_equivalence, shown, with_layers, world_of, worlds_have_trees, woven}
use Rattle.vt_laws_worlds.proofs.given.left.Permits.{given_permits_leave_every_world}
use Rattle.vt_world.proofs.overlays_made.Supplied.{mounts_get_counts}
use Rattle.vt_laws_worlds.proofs.overlays_read.Kept.{permits_keep_writers}
use Rattle.vt_laws_trees.proofs.runs.EachHas.{each_among, each_holds}
use Rattle.vt_laws_worlds.proofs.permits.taken.PartsKept as Kept
use Rattle.vt_laws_rules.proofs.same.SameFiles.{directory_under_same}
use Rattle.vt_overlay.specs.MergedTree as merged
use Rattle.vt_propagate.specs.declared.copying.Counts.{Counts}
use Rattle.vt_propagate.specs.declared.copying.Graft.{Graft}
use Rattle.vt_propagate.specs.Copying as planned
use Rattle.vt_store.specs.OverlaysValue as stored
use Rattle.vt_mounting.specs.Detach.Events.{left_by, overlay_kept, supply_of}
use Rattle.vt_mounting.specs.Detach.Stored.{layer_of}
use Rattle.vt_mounting.specs.Detach.Uses.{Merged, kept_with, merged_seen}
use Rattle.vt_mounting.proofs.detach.Grouped.{same_has}
use Rattle.vt_mounting.proofs.detach.NodesFound.{own_together}
use Rattle.vt_mounting.proofs.detach.OverlayGranted.{NamesLayers, kept_few}
use Rattle.vt_mounting.proofs.detach.Places.{located_is_named}
use Rattle.vt_mounting.specs.Attach.AttachedGroups.{HasGroupsOf}
use Rattle.vt_mounting.specs.Attach.Grafted.{IsGrafted, MayGraft}
use Rattle.vt_mounting.specs.Attach.PlannedUses.{point_seen}
use Rattle.vt_mounting.proofs.attach.AttachedCounts.{lower_numbers}
use Rattle.vt_mounting.proofs.attach.Beside.{IsBeside}
use Rattle.vt_mounting.proofs.attach.Binding.{is_seen}
use Rattle.vt_mounting.proofs.attach.CopiesAscend.{planned_ascend}
use Rattle.vt_mounting.proofs.attach.GraftedDone.{IsBase, base_overlays, graft_is_held, grafted_value, plan_attaches}
use Rattle.vt_mounting.proofs.attach.GraftedUses.{after}
use Rattle.vt_mounting.proofs.attach.NewFilesystems.{number_named}
use Rattle.vt_mounting.proofs.attach.NewOverlay.{all_last, new_is_beside}
use Rattle.vt_mounting.proofs.attach.NewOverlayBase.{counted_when_held, own_when_held, rising_when_held}
use Rattle.vt_mounting.proofs.attach.NewOverlayInUse.{in_use_when_held, mounts_when_held, roots_when_held}
use Rattle.vt_mounting.proofs.attach.NewOverlayNumbers.{IsNumbered, entered_keeps, own_number_named}
use Rattle.vt_mounting.proofs.attach.NewOverlaySame.{same_with_layers_held}
use Rattle.vt_mounting.proofs.attach.NewOverlayUses.{LayersHeld, held_by, held_each, overlay_last}
use Rattle.vt_mounting.proofs.attach.OverlayLeft.{IsEntryOf, IsOverlayGiven, named_same, names_layers, new_overlay_is_named, overlay_left, overlay_stays_when_held, seen_again, shows_layers}
use Rattle.vt_mounting.proofs.attach.OverlaysNew.{layers_more}

-- where trees have their numbers in another order, a place has the same parts
parts_alike : (world : World ℕ) (others : List (Filesystem ℕ)) → SameFilesystems world.filesystems others
    → (place : Location ℕ) → parts_of nat_eq world place ≡ parts_of nat_eq (record world { filesystems = others }) place
parts_alike world others same place = λ i. mount_at nat_eq world place
    ∷ filter (λ mount. takes mount i) (receivers_of nat_eq world (mount_at nat_eq world place))
  where
    takes : (mount : meant.Mount ℕ)
        → takes_part nat_eq world place mount ≡ takes_part nat_eq (record world { filesystems = others }) place mount
    takes mount = ap (λ b. not (nat_eq place.mount mount.number) && is_some mount.namespace
        && nat_eq (mount_at nat_eq world place).filesystem mount.filesystem && b)
        (directory_under_same _ _ (found_same mount.filesystem world.filesystems others same).files mount.root
        place.node)

-- what is attached has the same mounts, where the place has the same parts
mounts_alike : (world : World ℕ) (others : List (Filesystem ℕ)) (fresh : Fresh ℕ) (place : Location ℕ)
    (tree : List (meant.Mount ℕ))
    → parts_of nat_eq (record world { filesystems = others }) place ≡ parts_of nat_eq world place
    → (attach nat_eq (record world { filesystems = others }) fresh place false tree).mounts
    ≡ (attach nat_eq world fresh place false tree).mounts
mounts_alike world others fresh place tree parts = λ i.
    (attached_at nat_eq world (copies_from nat_eq fresh (parts i) tree)
    (graft_of nat_eq world (copies_from nat_eq fresh (parts i) tree) place false tree) (parts i)).mounts

module _ (value : WorldValue) (whole : IsHeld value) (task : Task ℕ) (graft : Graft) (counts : Counts)
    (overlay : Overlay ℕ) (flags : MountFlags)
    (given : IsGivenToTask (supply_of value (ToMountOverlay (location_of graft.place) overlay flags)) (world_of value)
    task (ToMountOverlay (location_of graft.place) overlay flags))
    (lower : overlay.upper ≡ None) (workless : overlay.work ≡ None) (unmade : overlay.real ≡ (λ number. None))
    (entry : stored.OverlayEntry) (overlay_is : entry.overlay ≡ overlay_kept value.next overlay)
    (no_upper : entry.above ≡ None) (count_is : entry.count ≡ value.next) (none : entry.mounts ≡ 0) (binds : graft.moves ≡ false)
    (tree_is : map mount_of graft.tree.now
    ≡ new_mount (counted value.next) (overlay_of_store value.filesystems entry).root flags ∷ [])
    (parts_are : map mount_of graft.parts.now ≡ parts_of nat_eq (world_of value) (location_of graft.place))
    (first : counts.first ≡ value.next + 1) (step : counts.step ≡ 2)
    (ascending : are_ascending (mounts_in value.mounts) ≡ true)
    (odd : list_all (λ mount. mount.number % 4 == 1) (mounts_in value.mounts) ≡ true) where
  abbrev place : Location ℕ
  place = location_of graft.place

  abbrev permit : Permit ℕ
  permit = ToMountOverlay (location_of graft.place) overlay flags

  abbrev world : World ℕ
  world = world_of value

  abbrev fresh : Fresh ℕ
  fresh = supply_of value (ToMountOverlay (location_of graft.place) overlay flags)

  abbrev tree : List (meant.Mount ℕ)
  tree = map mount_of graft.tree.now

  odd_counts : (k : ℕ) → odds (supply_of value (ToMountOverlay (location_of graft.place) overlay flags)) k
      ≡ counts_from value.next (2 * k + 1)
  odd_counts = mounts_get_counts (inode_count world) value.filesystems (overlay_kept value.next overlay)

  same_counts : (k : ℕ) → planned.counts_from counts k
      ≡ odds (supply_of value (ToMountOverlay (location_of graft.place) overlay flags)) k
  same_counts k =
      let same : counted (value.next + 1 + 2 * k) ≡ counts_from value.next (2 * k + 1) = omega arith in
      (λ i. counted (first i + step i * k)) ∙ same ∙ sym (odd_counts k)

  tree_once : OneNumberAMount (map mount_of graft.tree.now)
  tree_once = subst OneNumberAMount (sym tree_is) refl

  tree_some : 0 < length graft.tree.now
  tree_some = subst (λ n. 0 < n) (length-map graft.tree.now mount_of)
      (subst (λ (list : List (meant.Mount ℕ)). 0 < length list) (sym tree_is) (omega arith))

  rising_in : (other : World ℕ) → OneNumberAMount other.mounts
      → are_ascending (mounts_in value.mounts ++ planned_copies other graft counts) ≡ true
  rising_in other one =
      planned_ascend counts (subst (λ n. 0 < n) (sym step) (omega arith)) other graft binds one tree_once tree_some
      (mounts_in value.mounts) ascending (λ mount m. subst (λ n. mount.number < counted n) (sym first)
      (let low = lower_numbers value whole odd mount m in omega (arith, low)))

  pub may_graft : MayGraft value.mounts value.groups graft counts
  may_graft = record {
    world = world;
    seen = is_seen value whole;
    one_child = whole.in_world.mounts.one_child;
    parts_are = parts_are;
    apart = subst OneNumberAMount (sym parts_are) (parts_apart world place whole.in_world.mounts.one_number);
    ascending = rising_in world whole.in_world.mounts.one_number;
  }

  granted : IsOverlayGiven value task (location_of graft.place) overlay flags
  granted = record { whole = whole; given = given; lower = lower }

  new_entry : IsEntryOf value overlay entry
  new_entry = record { kept = overlay_is; no_upper = no_upper; count_is = count_is }

  names : NamesLayers (world_of value) task (location_of graft.place) overlay
  names = names_layers granted

  shows : ShowsLayers (world_of value) value.filesystems entry.overlay
  shows = shows_layers granted new_entry

  again : overlay ≡ merged.overlay_seen entry.overlay
  again = seen_again granted new_entry workless unmade

  few : length entry.overlay.lowers ≤ 128
  few = subst (λ (o : OverlayValue). length o.lowers ≤ 128) (sym overlay_is)
      (kept_few value whole overlay lower names.layers names.fit)

  place_named : location_named (is_counted_before value.next) (location_of graft.place) ≡ true
  place_named = located_is_named value whole place names.to.directory.reached.there

  -- Once the layers are held
  module _ (base : Filesystems) (held : shown base ≡ with_layers entry.overlay.lowers (shown value.filesystems))
      (small : value.next < 18446744073709551616) where
    abbrev with_it : WorldValue
    with_it = record value { overlays = value.overlays ++ overlay_of_store base entry ∷ [] }

    abbrev over : Filesystem ℕ
    over = overlay_seen (overlay_of_store base entry)

    abbrev over_base : World ℕ
    over_base = record (world_of value) {
      filesystems = woven (filesystems_seen base) (overlays_seen (value.overlays ++ overlay_of_store base entry ∷ []));
    }

    held_so : shown base ≡ map (held_by (map layer_of entry.overlay.lowers)) (shown value.filesystems)
    held_so = held ∙ layers_more entry.overlay.lowers (shown value.filesystems)
        ∙ held_each (map layer_of entry.overlay.lowers) (shown value.filesystems)

    layers_held : LayersHeld value base entry
    layers_held = record {
      whole = whole;
      are = shows.are;
      no_upper = no_upper;
      count_is = count_is;
      held = held_so;
    }

    stays : overlay_of_store base entry ≡ overlay_of_store value.filesystems entry
    stays = overlay_stays_when_held value.filesystems base entry (map layer_of entry.overlay.lowers) held_so

    beside_it : IsBeside (record value { overlays = value.overlays ++ overlay_of_store base entry ∷ [] })
    beside_it = subst (λ one. IsBeside (record value { overlays = value.overlays ++ one ∷ [] })) (sym stays)
        (new_is_beside whole (record {
          are = shows.are;
          no_upper = no_upper;
          few = few;
          own = ap (λ (o : OverlayValue). o.number.count) overlay_is ∙ sym count_is;
          small = subst (λ n. n < 18446744073709551616) (sym count_is) small;
        }) count_is none)

    same_last : SameWorlds (overlay_last value base entry) (record (world_of value) {
      filesystems = woven (filesystems_seen base) (overlays_seen (value.overlays ++ overlay_of_store base entry ∷ []));
    })
    same_last = same_with_layers_held whole base entry (map layer_of entry.overlay.lowers) count_is held_so

    named_over : has_only_named (overlay_seen (overlay_of_store base entry)) ≡ true
    named_over =
        new_overlay_is_named granted new_entry again base held_so

    -- its overlays have names alone
    abbrev IsNamed : Filesystem ℕ → Type 0
    IsNamed f = is_overlay f ≡ true → has_only_named f ≡ true

    all_named : OverlaysAreNamed (record (world_of value) {
      filesystems = woven (filesystems_seen base) (overlays_seen (value.overlays ++ overlay_of_store base entry ∷ []));
    })
    all_named = each_holds SameFilesystem IsNamed IsNamed
        (λ a b same holds seen. sym (named_same a b same) ∙ holds (ap is_some same.overlay ∙ seen))
        (overlay_last value base entry).filesystems over_base.filesystems
        (alike_from_same (overlay_last value base entry) over_base same_last).filesystems
        (all_last IsNamed world.filesystems over whole.overlays.named (λ seen. named_over))

    -- the place has the same parts
    parts_same : parts_of nat_eq (record (world_of value) {
      filesystems = woven (filesystems_seen base) (overlays_seen (value.overlays ++ overlay_of_store base entry ∷ []));
    }) (location_of graft.place) ≡ parts_of nat_eq (world_of value) (location_of graft.place)
    parts_same = sym (parts_alike (overlay_last value base entry) over_base.filesystems same_last.filesystems place)
        ∙ Kept.same_parts world whole.in_world over place

    tree_then : map mount_of graft.tree.now
        ≡ new_mount (counted value.next) (overlay_of_store base entry).root flags ∷ []
    tree_then = tree_is ∙ (λ i. new_mount (counted value.next) (sym stays i).root flags ∷ [])

    seen_then : IsSeen (record (world_of value) {
      filesystems = woven (filesystems_seen base) (overlays_seen (value.overlays ++ overlay_of_store base entry ∷ []));
    }) value.mounts value.groups
    seen_then = record {
      mounts = refl;
      groups = same_has over_base whole.groups refl (λ group. refl);
      living = whole.in_world.mounts.groups;
    }

    -- the groups of the new mounts are there
    groups_there : HasGroupsOf (record (world_of value) {
      filesystems = woven (filesystems_seen base) (overlays_seen (value.overlays ++ overlay_of_store base entry ∷ []));
    }) (map mount_of graft.tree.now)
    groups_there mount contained group e = ⊎_elim (λ same. absurd (true≢false (sym
        (ap is_some (sym (ap (λ (x : meant.Mount ℕ). group_of x.propagation) same) ∙ e))))) (λ none. absurd none)
        (subst (Among mount) tree_then (among_from_contains tree mount contained))

    module _ (mounts : List MountEntry) {groups : Grouping} (filesystems : Filesystems) (overlays : List Merged)
        {next : ℕ} (is : IsGrafted graft counts
        (kept_with value.mounts base (map merged_seen (value.overlays ++ overlay_of_store base entry ∷ []))) value.groups
        (kept_with mounts filesystems overlays) groups)
        (grows : next ≡ value.next + 2 * (length graft.parts.now * 2)) where
      abbrev new : WorldValue
      new = grafted_value with_it mounts groups filesystems overlays next

      abbrev entered : World ℕ
      entered = after with_it base (folded (masters_with nat_eq) (master_in value.groups) (map new_group is.groups))
          is.copies is.points []

      attaches : AttachesBy over_base graft counts (map mount_of is.copies) (map new_group is.groups)
          (map point_seen is.points)
      attaches = is.plan over_base seen_then whole.in_world.mounts.one_child (parts_are ∙ sym parts_same)

      attached_is : attach nat_eq over_base (odds fresh) place false
          (new_mount (counted value.next) (overlay_of_store base entry).root flags ∷ []) ≡ entered
      attached_is = ap (λ list. attach nat_eq over_base (odds fresh) place false list) (sym tree_then)
          ∙ plan_attaches attaches binds (odds fresh) same_counts

      left_same : SameWorlds (left_by value task permit) entered
      left_same = subst (SameWorlds (left_by value task permit)) attached_is
          (overlay_left granted new_entry again base held_so)

      entered_is_world : IsWorld nat_eq entered
      entered_is_world = any_same_worlds_are_worlds (left_by value task permit) entered left_same
          (given_permits_leave_every_world world fresh task permit whole.in_world given)

      writers : WritersHaveLayers entered
      writers = same_worlds_have_layers_alike (left_by value task permit) entered left_same
          (permits_keep_writers world fresh task permit whole.in_world whole.overlays.writers given).1

      is_base : IsBase with_it base
      is_base = record {
        own = own_when_held layers_held;
        trees = worlds_have_trees entered entered_is_world;
        in_use = in_use_when_held layers_held named_over;
        roots = roots_when_held layers_held;
        rise = rising_when_held layers_held;
        inodes = counted_when_held layers_held;
        mounts = mounts_when_held layers_held;
      }

      -- Numbers

      own_nodes_then : All HasOwnNodes entered.filesystems
      own_nodes_then =
          own_together base is_base.own (overlays_seen (value.overlays ++ overlay_of_store base entry ∷ []))
          beside_it.own_nodes

      abbrev many : ℕ
      many = 4 * length (parts_of nat_eq (world_of value) (location_of graft.place))

      over_among : Among over entered.filesystems
      over_among = (among-from_filter is_overlay entered.filesystems over
          (subst (Among over) (sym (base_overlays with_it beside_it base ∙ map-append overlay_seen value.overlays
          (overlay_of_store base entry ∷ [])))
          (among-append_right (overlays_seen value.overlays) (over ∷ []) over (inl refl)))).0

      root_named : is_counted_before value.next (overlay_of_store base entry).root ≡ true
      root_named = grind (arith, common_steps, among_from_all)

      place_numbered : IsNumbered value place (overlay_of_store base entry).root (odds fresh)
      place_numbered = record {
        whole = whole;
        counts = odd_counts;
        mount_is_named = (and_parts _ _ place_named).0;
        node_is_named = (and_parts _ _ place_named).1;
        root_is_named = root_named;
      }

      files_named : (f : Filesystem ℕ) → Among f entered.filesystems
          → is_counted_before (value.next + many) f.number ≡ true
      files_named f m =
          let from = each_among SameFilesystem (overlay_last value base entry).filesystems over_base.filesystems
          (alike_from_same (overlay_last value base entry) over_base same_last).filesystems f m in
          ap (is_counted_before (value.next + many)) (sym from.2.number) ∙ ⊎_elim
          (λ old. counted_later value.next (value.next + many) from.0.number (omega arith)
          (number_named value whole from.0 old)) (λ last. ⊎_elim
          (λ same. ap (λ (g : Filesystem ℕ). is_counted_before (value.next + many) g.number) same
          ∙ ap (λ n. is_counted_before (value.next + many) (counted n)) count_is
          ∙ own_number_named place_numbered flags) (λ none. absurd none) last)
          (among-append world.filesystems (over ∷ []) from.0 from.1)

      keeps : KeepsTo (is_counted_before next) entered
      keeps =
          let as_many = ap length (sym parts_are) ∙ length-map graft.parts.now mount_of in
          let sum : value.next + many ≡ next = omega (arith, as_many, grows) in
          subst (λ n. KeepsTo (is_counted_before n) entered) sum
          (entered_keeps place_numbered flags entered_is_world
          (ap (λ (w : World ℕ). w.mounts) (sym attached_is)
          ∙ mounts_alike world over_base.filesystems (odds fresh) place
          (new_mount (counted value.next) (overlay_of_store base entry).root flags ∷ []) parts_same) refl
          own_nodes_then files_named)

      -- the code's world is what the permit leaves
      pub new_overlay_is_done : IsHeld (grafted_value (record value {
        overlays = value.overlays ++ overlay_of_store base entry ∷ [];
      }) mounts groups filesystems overlays next)
          × SameWorlds (left_by value task (ToMountOverlay (location_of graft.place) overlay flags))
          (world_of (grafted_value (record value { overlays = value.overlays ++ overlay_of_store base entry ∷ [] })
          mounts groups filesystems overlays next)) × SameFilesystems
          (woven (filesystems_seen base) (overlays_seen (value.overlays ++ overlay_of_store base entry ∷ [])))
          (world_of (grafted_value (record value { overlays = value.overlays ++ overlay_of_store base entry ∷ [] })
          mounts groups filesystems overlays next)).filesystems
      new_overlay_is_done =
          let rising = ap (λ list. are_ascending (mounts_in value.mounts ++ list)) attaches.copies_are
          ∙ rising_in over_base whole.in_world.mounts.one_number in
          let done = graft_is_held (record {
            whole = beside_it;
            is_base = is_base;
            is = is;
            attaches = attaches;
            there = groups_there;
            ascending = rising;
          }) next entered_is_world all_named writers keeps in (
            done.0,
            sameness_is_an_equivalence.onward (left_by value task permit) entered (world_of new) left_same done.1,
            done.1.filesystems,
          )
