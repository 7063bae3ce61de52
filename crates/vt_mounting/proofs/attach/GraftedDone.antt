-- Attachments with copies at all receivers are done: the code's world is what the policy leaves, and counts what is in
-- it.
use Rattle.std.proofs.Common.{◌≡◌, refl, sym, ap, subst, ◌∙◌, ⊎_elim, inl, inr, ℕ, ◌+◌, nat_eq, Bool, true, false, true≢false, cond, List, [], ◌∷◌, ◌++◌, map, filter, Option, is_some, arith, All}
use Rattle.vt_spec.proofs.Common.{Copies, Filesystem, Fresh, IsWorld, Permit, Propagation, SameWorlds, TaskName, World, attach, attached_by, copies_from, filesystem_numbered, folded, has_its_root, has_members, is_among, is_overlay, list_all, map_twice, masters_with, parts_of}
use Rattle.vt_mounting.proofs.Common.{Among, AttachesBy, CountsItsMounts, CountsItsUses, CountsWhatIsInIt, FilesystemEntry, Filesystems, Grouping, Grows, Has, HasOwnInodes, HasOwnNodes, Inode, InodesInUse, IsCounted, IsHeld, IsMountedSoOften, IsUnderWay, KeepsTo, MountEntry, OverlaysAreNamed, OverlaysHaveNoUpper, Shown, WorldValue, WritersHaveLayers, all_from_among, among-append, among-from_map, among-map, among_from_all, any_same_worlds_are_worlds, any_same_worlds_keep_to_numbers, are_ascending, are_rising, counted, exchanged, filesystem_seen, filesystems_seen, has_only_named, inodes_seen, is_counted_before, layer_count, location_of, master_in, mount_of, mounts_entered, mounts_in, mounts_showing, moved_by, new_group, no_upper_is_in_any, numbers_at, overlays_seen, same_worlds_have_layers_alike, shown, shown_entry, times, times_append, typed, uses_are_exchanged_beside_overlays, with_kind, world_of, woven_lists_are_failing}
use Rattle.vt_world.proofs.counting.Lowered.{counted_lowered}
use Rattle.vt_laws_mounts.specs.LettingGo.InUse.{HasTrees}
use Rattle.vt_laws_worlds.specs.OverlaysStay.Woven.{ArePartedBy}
use Rattle.vt_laws_worlds.proofs.overlays_stay.weaving.WovenLists.{woven_lists_are_passing}
use Rattle.vt_location.specs.declared.locations.Location.{Location}
use Rattle.vt_location.specs.declared.mounts.Mount.{Mount}
use Rattle.vt_propagate.specs.declared.copying.Counts.{Counts}
use Rattle.vt_propagate.specs.declared.copying.Graft.{Graft}
use Rattle.vt_propagate.specs.Copying as planned
use Rattle.vt_retype.specs.Retyping.{with_type_in}
use Rattle.vt_spec.specs.Machine.Mounts as meant
use Rattle.vt_mounting.specs.Detach.Events.{Permits, left_by}
use Rattle.vt_mounting.specs.Detach.Uses.{unused_entry, Merged, kept_with, merged_seen, overlays_kept, merged_by}
use Rattle.vt_mounting.proofs.detach.BesideOverlays.{layers_alike}
use Rattle.vt_mounting.proofs.detach.Finishing.{CountsBeside, own_exchanged}
use Rattle.vt_mounting.proofs.detach.MountsChanged.{times_map}
use Rattle.vt_mounting.proofs.detach.NodesFound.{woven_all}
use Rattle.vt_mounting.proofs.detach.Overlaid.{files_are_plain, is_plain_one, same_files_rise}
use Rattle.vt_mounting.proofs.detach.OwnInodesKept.{IsOwn}
use Rattle.vt_mounting.proofs.detach.Showing.{ShowsAs, shown_has, shown_is_counted, shown_is_same}
use Rattle.vt_mounting.proofs.detach.Staying.{IsDone}
use Rattle.vt_mounting.proofs.attach.OverlaysMore.{counted_more, merged_by_all, seen_more}
use Rattle.vt_laws_worlds.proofs.overlays_stay.kept.OverlaysLeft.{by_overlays, no_upper_of_plain}
use Rattle.vt_laws_worlds.proofs.overlays_stay.kept.OverlaysSwept.{same_worlds_have_no_upper_alike}
use Rattle.vt_mounting.proofs.attach.Beside.{IsBeside, IsReadOnly}
use Rattle.vt_mounting.specs.Attach.AttachedGroups.{HasGroupsOf, all_copies, groups_formed, type_of}
use Rattle.vt_mounting.specs.Attach.Grafted.{IsGrafted}
use Rattle.vt_mounting.specs.Attach.Moved.{typed_all, with_types}
use Rattle.vt_mounting.specs.Attach.Planned.{Point, points_taken, with_planned, with_points}
use Rattle.vt_mounting.specs.Attach.PlannedUses.{point_seen}
use Rattle.vt_mounting.proofs.attach.AddedUses.{gained_by, showing}
use Rattle.vt_mounting.proofs.attach.AttachedCounts.{unused_counts}
use Rattle.vt_mounting.proofs.attach.FormedGroups.{formed_groups_begin, groups_of_copies_are_named}
use Rattle.vt_mounting.proofs.attach.GraftedUses.{CanEnter, after, beside_overlays, changed_at, exchanged_then, gained_there, nothing_goes}
use Rattle.vt_mounting.proofs.attach.GrownGroups.{ascending_rises, attached_worlds_grow}
use Rattle.vt_mounting.proofs.attach.MovedPoints.{points_are_moved}
use Rattle.vt_mounting.proofs.attach.PlannedCounts.{exchanged_on, inodes_of_points, planned_shown}
use Rattle.vt_mounting.proofs.attach.PlannedPoints.{moved_at}
use Rattle.vt_mounting.proofs.attach.PointsCounted.{points_count}
use Rattle.vt_mounting.proofs.attach.TakingNumbers.{TakesNumbers, left_is_world, numbers_are_kept}

-- the world with these filesystems
abbrev pub with_base : WorldValue → Filesystems → World ℕ
with_base value base = record (world_of value) { filesystems = beside_overlays value base }

-- in which the inodes of all these filesystems are in use, and count their uses
pub record IsBase (value : WorldValue) (base : Filesystems) : Type 0 where
  pub own : All HasOwnInodes base
  pub trees : HasTrees (with_base value base)
  pub in_use : InodesInUse (with_base value base)
  pub roots : list_all (has_its_root nat_eq (with_base value base)) (mounts_in value.mounts) ≡ true
  pub rise : are_rising (beside_overlays value base) ≡ true
  pub inodes : (entry : FilesystemEntry) → Among entry base
      → IsCounted (with_base value base) (filesystem_numbered nat_eq (with_base value base) (counted entry.count))
      (inodes_seen entry)
  pub mounts : (entry : FilesystemEntry) → Among entry base → entry.mounts
      ≡ mounts_showing (world_of value) (counted entry.count) + layer_count (with_base value base) (counted entry.count)

-- the code's world with mounts that were attached
abbrev pub grafted_value : WorldValue → List MountEntry → Grouping → Filesystems → List Merged → ℕ → WorldValue
grafted_value value mounts groups filesystems overlays next = record value {
  mounts = mounts;
  groups = groups;
  filesystems = filesystems;
  overlays = overlays_kept overlays value.overlays;
  next = next;
}

-- its overlays are those of before, but for how often they are mounted
pub overlays_same : (value : WorldValue) → IsBeside value → (copies : List Mount) (overlays : List Merged)
    → overlays ≡ folded merged_by (map merged_seen value.overlays) copies
    → overlays_seen (overlays_kept overlays value.overlays) ≡ overlays_seen value.overlays
overlays_same value whole copies overlays are =
    seen_more value whole.overlays_rise (map mount_of copies)
    (are ∙ merged_by_all copies (map merged_seen value.overlays))

-- Beside the overlays of the code's world

base_parted : (value : WorldValue) → IsBeside value → (base : Filesystems)
    → ArePartedBy is_overlay (filesystems_seen base) (overlays_seen value.overlays)
base_parted value whole base = record { fail = files_are_plain base; pass = whole.merged }

pub base_overlays : (value : WorldValue) → IsBeside value → (base : Filesystems)
    → filter is_overlay (beside_overlays value base) ≡ overlays_seen value.overlays
base_overlays value whole base =
    woven_lists_are_passing is_overlay (filesystems_seen base) (overlays_seen value.overlays)
    (base_parted value whole base) whole.overlays_rise

pub base_plain_ones : (value : WorldValue) → IsBeside value → (base : Filesystems)
    → filter is_plain_one (beside_overlays value base) ≡ filesystems_seen base
base_plain_ones value whole base =
    woven_lists_are_failing is_overlay (filesystems_seen base) (overlays_seen value.overlays)
    (base_parted value whole base)

-- where a tree is copied, its plan is what the policy attaches
pub plan_attaches : {world : World ℕ} {graft : Graft} {counts : Counts} {copies : List (meant.Mount ℕ)}
    {new : List (ℕ × Option ℕ)}
    {points : List (ℕ × meant.Location ℕ)} → AttachesBy world graft counts copies new points → graft.moves ≡ false
    → (fresh : Fresh ℕ) → ((k : ℕ) → planned.counts_from counts k ≡ fresh k)
    → attach nat_eq world fresh (location_of graft.place) false (map mount_of graft.tree.now) ≡ record world {
      mounts = map (moved_by points) world.mounts ++ copies;
      master = folded (masters_with nat_eq) world.master new;
    }
plan_attaches {world} {graft} attaches binds fresh same = (λ i. attached_by nat_eq world
    (copies_from nat_eq (λ k. sym (same k) i) (parts_of nat_eq world (location_of graft.place))
    (map mount_of graft.tree.now)) (location_of graft.place) (sym binds i) (map mount_of graft.tree.now))
    ∙ attaches.bind binds

-- a world has its invariants, whatever else may be left
under : {world : World ℕ} → IsWorld nat_eq world → IsUnderWay world
under is = record {
  files = is.files;
  mounts = is.mounts;
  namespaces = is.namespaces;
  tasks = is.tasks;
  roots = is.roots;
}

-- Mounts moved and got types, and others came, while the uses of inodes were counted.
pub record IsEntered (value : WorldValue) (base : Filesystems) (copies : List Mount) (points : List Point)
    (kinds : List (ℕ × Propagation ℕ)) (left : List Location) (mounts : List MountEntry)
    (filesystems : Filesystems) (overlays : List Merged) : Type 0 where
  pub types : List (ℕ × Propagation ℕ)
  pub can : CanEnter value base copies points left
  pub done : kept_with mounts filesystems overlays
      ≡ with_types types (with_planned copies points left (kept_with value.mounts base (map merged_seen value.overlays)))
  pub seen : mounts_in mounts ≡ map (changed_at points kinds) (mounts_in value.mounts) ++ map mount_of copies

-- a mount that gets a type counts its uses as before
typed_counts : (world : World ℕ) (types : List (ℕ × Propagation ℕ)) (entries : List MountEntry)
    → ((entry : MountEntry) → Among entry entries → CountsItsUses world entry)
    → (entry : MountEntry) → Among entry (typed_all types entries) → CountsItsUses world entry
typed_counts world [] entries counts entry m = counts entry m
typed_counts world (new ∷ types) entries counts entry m = typed_counts world types (with_type_in entries new) (λ one n.
    let from = among-from_map (λ (was : MountEntry). cond (nat_eq new.0 was.mount.number) (with_kind new.1 was) was)
    entries one n in
    subst (CountsItsUses world) (sym from.2)
    (by from.0 (nat_eq new.0 from.0.mount.number) (counts from.0 from.1))) entry m
  where
    by : (was : MountEntry) (b : Bool) → CountsItsUses world was
        → CountsItsUses world (cond b (with_kind new.1 was) was)
    by was true counted_so = record { uses = counted_so.uses; writers = counted_so.writers }
    by was false counted_so = counted_so

module _ {value : WorldValue} {base : Filesystems} (is_base : IsBase value base) {copies : List Mount}
    {points : List Point} {kinds : List (ℕ × Propagation ℕ)} {left : List Location} {mounts : List MountEntry}
    {filesystems : Filesystems} {overlays : List Merged}
    (is : IsEntered value base copies points kinds left mounts filesystems overlays)
    (formed : List (ℕ × Option ℕ)) (groups : Grouping) (next : ℕ) where
  open is use {can}
  open can use {whole, ascending}

  abbrev new : WorldValue
  new = grafted_value value mounts groups filesystems overlays next

  abbrev master : ℕ → Option ℕ
  master = folded (masters_with nat_eq) (master_in value.groups) formed

  abbrev pub entered_world : World ℕ
  entered_world = after value base (folded (masters_with nat_eq) (master_in value.groups) formed) copies points kinds

  -- Filesystems

  abbrev gains : List Inode
  gains = inodes_of_points (points_taken points value.mounts) ++ gained_by copies

  abbrev losses : List Inode
  losses = inodes_of_points left

  shown_then : shown filesystems
      ≡ map (λ (one : Shown). exchanged_on gains losses (showing one.count copies) one) (shown base)
  shown_then = ap (λ k. k.filesystems) is.done
      ∙ planned_shown (points_taken points value.mounts) left copies (shown base)

  abbrev IsOf : FilesystemEntry → FilesystemEntry → Type 0
  IsOf was entry = shown_entry entry ≡ exchanged_on gains losses (showing was.count copies) (shown_entry was)

  pub from_base : (entry : FilesystemEntry) → Among entry filesystems
      → (was : FilesystemEntry) × Among was base × IsOf was entry
  from_base entry m =
      let from = among-from_map (λ (one : Shown). exchanged_on gains losses (showing one.count copies) one)
      (shown base) (shown_entry entry)
      (subst (Among (shown_entry entry)) shown_then (among-map shown_entry filesystems entry m)) in
      let first = among-from_map shown_entry base from.0 from.1 in (
        first.0,
        first.1,
        from.2 ∙ ap (λ (one : Shown). exchanged_on gains losses (showing one.count copies) one) first.2,
      )

  pub same_numbers : map (λ (f : Filesystem ℕ). f.number) (filesystems_seen base)
      ≡ map (λ (entry : FilesystemEntry). counted entry.count) filesystems
  same_numbers =
      cc (
        map_twice (λ (f : Filesystem ℕ). f.number) filesystem_seen base,
        map_twice (λ (one : Shown). counted
            one.count) shown_entry base,
        map_twice (λ (one : Shown). counted one.count) (λ (one : Shown). exchanged_on gains
            losses (showing one.count copies) one) (shown base),
        shown_then,
        map_twice (λ (one : Shown). counted one.count)
            shown_entry filesystems,
      )

  pub own_then : (entry : FilesystemEntry) → Among entry filesystems → IsOwn entry.count (inodes_seen entry)
  own_then entry m =
      let from = from_base entry m in
      subst (λ count. IsOwn count (inodes_seen entry)) (sym (ap (λ (one : Shown). one.count) from.2))
      (subst (IsOwn from.0.count) (sym (ap (λ (one : Shown). one.inodes) from.2))
      (own_exchanged from.0.count gains losses (inodes_seen from.0)
      (among_from_all HasOwnInodes base is_base.own from.0 from.1)))

  merged_are : overlays ≡ folded merged_by (map merged_seen value.overlays) copies
  merged_are = ap (λ k. k.overlays) is.done

  same_overlays : overlays_seen new.overlays ≡ overlays_seen value.overlays
  same_overlays = overlays_same value whole copies overlays merged_are

  -- no overlay has an upper layer
  no_upper_then : OverlaysHaveNoUpper entered_world
  no_upper_then = woven_all IsReadOnly (filesystems_seen base) (overlays_seen value.overlays)
      (all_from_among IsReadOnly (filesystems_seen base) (λ f m. no_upper_of_plain f
      (among_from_all (λ (g : Filesystem ℕ). is_overlay g ≡ false) (filesystems_seen base) (files_are_plain base) f m)))
      whole.read_only

  counted_then : IsWorld nat_eq entered_world → (entry : FilesystemEntry) → Among entry filesystems
      → IsCounted entered_world (filesystem_numbered nat_eq entered_world (counted entry.count)) (inodes_seen entry)
  counted_then is_world entry m =
      let from = from_base entry m in
      subst (λ count. IsCounted entered_world (filesystem_numbered nat_eq entered_world (counted count))
      (inodes_seen entry)) (sym (ap (λ (one : Shown). one.count) from.2))
      (subst (IsCounted entered_world (filesystem_numbered nat_eq entered_world (counted from.0.count)))
      (sym (ap (λ (one : Shown). one.inodes) from.2))
      (subst (λ (world : World ℕ). IsCounted world (filesystem_numbered nat_eq world (counted from.0.count))
      (exchanged (counted from.0.count) gains losses (inodes_seen from.0)))
      (nothing_goes can master kinds (under is_world) is_world)
      (uses_are_exchanged_beside_overlays (with_base value base) entered_world gains losses (counted from.0.count)
      (inodes_seen from.0) is_base.trees is_base.in_use (no_upper_is_in_any entered_world (counted from.0.count)
      no_upper_then) (exchanged_then can master kinds (under is_world)
      (counted from.0.count)) (is_base.inodes from.0 from.1)
      (gained_there can master kinds (under is_world) from.0 from.1))))

  shows : Has entered_world groups → IsWorld nat_eq entered_world → ShowsAs entered_world new
  shows has is_world = record {
    overlays = base_overlays value whole base ∙ sym same_overlays;
    rise = is_base.rise;
    mounts = sym is.seen;
    groups = has;
    numbers = ap (map (λ (f : Filesystem ℕ). f.number)) (base_plain_ones value whole base) ∙ same_numbers;
    inodes = counted_then is_world;
    namespaces = refl;
    tasks = refl;
  }

  -- What is counted beside inodes

  showing_at : (n : ℕ) → mounts_showing (world_of new) n ≡ mounts_showing (world_of value) n
      + times (λ (mount : meant.Mount ℕ). nat_eq n mount.filesystem) (map mount_of copies)
  showing_at n = ap (times shows_it) is.seen
      ∙ times_append shows_it (map (changed_at points kinds) (mounts_in value.mounts)) (map mount_of copies)
      ∙ ap (λ m. m + times shows_it (map mount_of copies))
      (times_map shows_it (changed_at points kinds) (mounts_in value.mounts))
    where
      shows_it : meant.Mount ℕ → Bool
      shows_it mount = nat_eq n mount.filesystem

  showing_then : (count : ℕ) → mounts_showing (world_of new) (counted count)
      ≡ mounts_showing (world_of value) (counted count) + showing count copies
  showing_then count = showing_at (counted count)

  counted_so : (entry : MountEntry) → Among entry (with_points points value.mounts ++ map unused_entry copies)
      → CountsItsUses (world_of new) entry
  counted_so entry m = ⊎_elim
      (λ old. let was = among_from_all (CountsItsUses (world_of value)) (with_points points value.mounts)
      (points_count (world_of value) points value.mounts whole.uses) entry old in
      record { uses = was.uses; writers = was.writers })
      (λ added. let from = among-from_map unused_entry copies entry added in
      let was = unused_counts whole copies ascending from.0 from.1 in
      subst (CountsItsUses (world_of new)) (sym from.2) (record { uses = was.uses; writers = was.writers }))
      (among-append (with_points points value.mounts) (map unused_entry copies) entry m)

  overlays_then : filter is_overlay (world_of new).filesystems ≡ filter is_overlay (with_base value base).filesystems
  overlays_then = woven_lists_are_passing is_overlay (filesystems_seen filesystems) (overlays_seen new.overlays)
      (record {
        fail = files_are_plain filesystems;
        pass = subst (All (λ filesystem. is_overlay filesystem ≡ true)) (sym same_overlays) whole.merged;
      }) (ap are_rising same_overlays ∙ whole.overlays_rise) ∙ same_overlays ∙ sym (base_overlays value whole base)

  pub counts_then : CountsBeside new
  counts_then = record {
    uses = all_from_among (CountsItsUses (world_of new)) mounts (λ entry m.
        typed_counts (world_of new) is.types (with_points points value.mounts ++ map unused_entry copies) counted_so
        entry (subst (Among entry) (ap (λ k. k.mounts) is.done) m));
    mounts = λ entry m.
        let from = from_base entry m in
        let was = is_base.mounts from.0 from.1 in
        let more = showing_then from.0.count in
        let layers = layers_alike (with_base value base) (world_of new) overlays_then (counted from.0.count) in
        let sum : from.0.mounts + showing from.0.count copies
        ≡ mounts_showing (world_of new) (counted from.0.count) + layer_count (world_of new) (counted from.0.count) =
        omega (arith, was, more, layers) in
        ap (λ (one : Shown). one.mounts) from.2 ∙ sum
        ∙ ap (λ count. mounts_showing (world_of new) (counted count) + layer_count (world_of new) (counted count))
        (sym (ap (λ (one : Shown). one.count) from.2));
    overlays = all_from_among (IsMountedSoOften (world_of new)) new.overlays (λ entry m.
        among_from_all (IsMountedSoOften (record (world_of value) {
          mounts = mounts_in value.mounts ++ map mount_of copies;
        })) new.overlays (counted_more value whole.overlays_rise (map mount_of copies)
        (merged_are ∙ merged_by_all copies (map merged_seen value.overlays)) whole.overlays) entry m
        ∙ times_append (λ (mount : meant.Mount ℕ). nat_eq entry.number mount.filesystem) (mounts_in value.mounts)
        (map mount_of copies) ∙ sym (showing_at entry.number));
    namespaces = all_from_among (CountsWhatIsInIt (world_of new)) value.namespaces (λ entry m.
        let was = among_from_all (CountsWhatIsInIt (world_of value)) value.namespaces whole.namespaces entry m in
        record { tasks = was.tasks });
  }

  -- the world that is entered has its invariants
  pub entered_held : Has entered_world groups → IsWorld nat_eq entered_world → OverlaysAreNamed entered_world
      → WritersHaveLayers entered_world → KeepsTo (is_counted_before next) entered_world
      → IsHeld new × SameWorlds entered_world (world_of new)
  entered_held has is_world named writers keeps = (
    record {
      in_world = any_same_worlds_are_worlds entered_world (world_of new) same is_world;
      groups = shown_has (shows has is_world) is_world;
      given = any_same_worlds_keep_to_numbers (is_counted_before next) entered_world (world_of new) same keeps;
      mounts = counts_then.uses;
      filesystems = all_from_among (CountsItsMounts (world_of new)) filesystems (λ entry m. record {
        mounts = counts_then.mounts entry m;
        inodes = counted_lowered (world_of new)
            (any_same_worlds_are_worlds entered_world (world_of new) same is_world)
            (same_worlds_have_no_upper_alike entered_world (world_of new) same no_upper_then) (filesystem_seen entry)
            (inodes_seen entry) (shown_is_counted (shows has is_world) is_world entry m
            (any_same_worlds_are_worlds entered_world (world_of new) same is_world));
      });
      own_inodes = all_from_among HasOwnInodes filesystems own_then;
      overlays = record {
        merged = subst (All (λ filesystem. is_overlay filesystem ≡ true)) (sym same_overlays) whole.merged;
        read_only = same_worlds_have_no_upper_alike entered_world (world_of new) same no_upper_then;
        writers = same_worlds_have_layers_alike entered_world (world_of new) same writers;
        named = by_overlays (λ f. is_overlay f ≡ true → has_only_named f ≡ true)
            (λ f plain over. absurd (true≢false (sym over ∙ plain)))
            entered_world.filesystems (world_of new).filesystems overlays_then named;
        overlays_rise = ap are_rising same_overlays ∙ whole.overlays_rise;
        all_rise = same_files_rise entered_world.filesystems (world_of new).filesystems same.filesystems is_base.rise;
        mounts = counts_then.overlays;
        own_nodes = subst (All HasOwnNodes) (sym same_overlays) whole.own_nodes;
      };
      namespaces = counts_then.namespaces;
    },
    same,
  )
    where
      same : SameWorlds entered_world (world_of new)
      same = shown_is_same (shows has is_world) is_world

  -- so the event is done, where nothing goes
  pub entered_is_done : IsHeld value → Has entered_world groups → {name : TaskName} {permit : Permit ℕ}
      (permits : Permits value name permit) → TakesNumbers value name permit permits.task
      → left_by value permits.task permit ≡ entered_world
      → KeepsTo (is_counted_before next) (left_by value permits.task permit) → IsDone value name permit new
  entered_is_done held has {name} {permit} permits takes left_is keeps =
      let is_world = subst (IsWorld nat_eq) left_is (left_is_world held takes) in
      numbers_are_kept held takes same_overlays
      (subst (λ (left : World ℕ). ShowsAs left new) (sym left_is) (shows has is_world)) counts_then own_then keeps

-- Copies that were attached
-- A tree is grafted: what is planned is what the policy attaches, and the groups of the tree are there.
pub record IsGraftedOn (value : WorldValue) (base : Filesystems) (graft : Graft) (counts : Counts)
    (mounts : List MountEntry) (groups : Grouping) (filesystems : Filesystems) (overlays : List Merged) : Type 0 where
  pub whole : IsBeside value
  pub is_base : IsBase value base
  pub is : IsGrafted graft counts (kept_with value.mounts base (map merged_seen value.overlays)) value.groups
      (kept_with mounts filesystems overlays) groups
  pub attaches : AttachesBy (with_base value base) graft counts (map mount_of is.copies) (map new_group is.groups)
      (map point_seen is.points)
  pub there : HasGroupsOf (with_base value base) (map mount_of graft.tree.now)
  pub ascending : are_ascending (mounts_in value.mounts ++ map mount_of is.copies) ≡ true

module _ {value : WorldValue} {base : Filesystems} {graft : Graft} {counts : Counts} {mounts : List MountEntry}
    {groups : Grouping} {filesystems : Filesystems} {overlays : List Merged}
    (grafted : IsGraftedOn value base graft counts mounts groups filesystems overlays) (next : ℕ) where
  open grafted use {whole, is_base, is, attaches, there, ascending}

  abbrev pub attached_world : World ℕ
  attached_world = after value base
      (folded (masters_with nat_eq) (master_in value.groups) (map new_group is.groups)) is.copies is.points []

  -- Mounts

  mounts_are : mounts ≡ with_points is.points value.mounts ++ map unused_entry is.copies
  mounts_are = ap (λ k. k.mounts) is.done

  mounts_seen : mounts_in mounts ≡ map (moved_at is.points) (mounts_in value.mounts) ++ map mount_of is.copies
  mounts_seen = ap mounts_in mounts_are ∙ mounts_entered (with_points is.points value.mounts) is.copies
      ∙ ap (λ front. front ++ map mount_of is.copies) (points_are_moved value.mounts is.points)

  -- Groups

  types_are : map type_of (map mount_of is.copies) ≡ map typed is.copies
  types_are = map_twice type_of mount_of is.copies

  groups_then : Has attached_world groups
  groups_then = is.grows (world_of value) attached_world whole.groups
      (subst (λ types. Grows (world_of value) attached_world types (map new_group is.groups)) types_are
      (attached_worlds_grow (world_of value) attached_world (moved_at is.points) (map mount_of is.copies)
      (map new_group is.groups) (record {
        mounts = refl;
        number = λ mount. refl;
        kind = λ mount. refl;
        order = sym (ascending_rises (mounts_in value.mounts ++ map mount_of is.copies)) ∙ ascending;
        master = λ group. refl;
        begin = all_from_among (λ (entry : ℕ × Option ℕ). is_some entry.1 ≡ true
            → has_members nat_eq (map mount_of is.copies) entry.0 ≡ true) (map new_group is.groups) (λ entry m some.
            ap (λ list. has_members nat_eq list entry.0) attaches.copies_are
            ∙ among_from_all (λ (other : ℕ × Option ℕ). has_members nat_eq
            (all_copies (with_base value base) numbers (location_of graft.place) graft.moves
            (map mount_of graft.tree.now)) other.0 ≡ true)
            (groups_formed (with_base value base) numbers (location_of graft.place) graft.moves
            (map mount_of graft.tree.now))
            (formed_groups_begin (with_base value base) numbers (location_of graft.place) graft.moves
            (map mount_of graft.tree.now)) entry (subst (Among entry) attaches.groups_are m));
        named = λ group has. ⊎_elim inl (λ among. inr (ap (λ list. is_among nat_eq group
            (map (λ (entry : ℕ × Option ℕ). entry.0) list)) attaches.groups_are ∙ among))
            (groups_of_copies_are_named (with_base value base) numbers (location_of graft.place) graft.moves
            (map mount_of graft.tree.now) there group
            (ap (λ list. has_members nat_eq list group) (sym attaches.copies_are) ∙ has));
      })))
    where
      numbers : Copies ℕ
      numbers = numbers_at (with_base value base) graft counts

  entered : IsEntered value base is.copies is.points [] is.left mounts filesystems overlays
  entered = record {
    types = [];
    can = record {
      whole = whole;
      own = is_base.own;
      roots = is_base.roots;
      once = is.once;
      left_are = is.left_are;
      left_small = is.left_small;
      taken_small = is.taken_small;
      slots = is.slots;
      ascending = ascending;
    };
    done = is.done;
    seen = mounts_seen;
  }

  pub graft_is_done : IsHeld value → {name : TaskName} {permit : Permit ℕ} (permits : Permits value name permit)
      → TakesNumbers value name permit permits.task → left_by value permits.task permit ≡ attached_world
      → KeepsTo (is_counted_before next) (left_by value permits.task permit)
      → IsDone value name permit (grafted_value value mounts groups filesystems overlays next)
  graft_is_done held =
      entered_is_done is_base entered (map new_group is.groups) groups next held groups_then

  -- where what is attached is a world, and the numbers in it were counted, the code's world is that one
  pub graft_is_held : IsWorld nat_eq attached_world → OverlaysAreNamed attached_world → WritersHaveLayers attached_world
      → KeepsTo (is_counted_before next) attached_world
      → IsHeld (grafted_value value mounts groups filesystems overlays next)
      × SameWorlds attached_world (world_of (grafted_value value mounts groups filesystems overlays next))
  graft_is_held =
      entered_held is_base entered (map new_group is.groups) groups next groups_then
