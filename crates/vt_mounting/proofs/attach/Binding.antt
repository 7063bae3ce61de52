-- The events that attach copies of mounts: mount(2) with MS_BIND.
use Rattle.std.proofs.Common.{◌≡◌, ◌<◌, refl, sym, ap, subst, ◌∙◌, ⊎_elim, ℕ, ◌+◌, ◌*◌, ◌%◌, ◌==◌, nat_eq, eq-eqb, Bool, true, false, true≢false, ◌&&◌, List, [], ◌∷◌, ◌++◌, map, find, length, Some, is_some, arith}
use Rattle.vt_spec.proofs.Common.{Permit, TaskName, ToBind, World, among_from_contains, attach, bind_tree, common_steps, group_of, has_members, holds_of, is_among, is_located_well, is_member_of, length-map, list_all, mount_at, parts_of}
use Rattle.vt_spec.specs.Machine.Mounts as meant
use Rattle.vt_mounting.proofs.Common.{Among, CountsItsMounts, Filesystems, Grouping, HasGroup, IsCounted, IsHeld, IsSeen, KeepsTo, MountEntry, OneNumberAMount, WorldValue, all_in_use, among_from_all, any_from_among, are_ascending, counted, counts_from, found_is_there, inodes_seen, is_counted_before, location_of, mount_of, mounts_in, mounts_of_worlds_stand, parts_apart, planned_copies, world_of, worlds_have_trees}
use Rattle.vt_world.proofs.counting.Lowered.{counts_there}
use Rattle.vt_laws_mounts.proofs.counts.using.MountRoots as Roots
use Rattle.vt_laws_mounts.proofs.letting_go.mounting.AttachedSwept.{binds_keep_all}
use Rattle.vt_location.specs.declared.locations.Location.{Location}
use Rattle.vt_laws_mounts.proofs.attached.BindsStand.{bind_there_or_source}
use Rattle.vt_laws_mounts.proofs.mounts.Standing.{binds_take_each_once}
use Rattle.vt_propagate.specs.declared.copying.Counts.{Counts}
use Rattle.vt_propagate.specs.declared.copying.Graft.{Graft}
use Rattle.vt_propagate.specs.Copying as planned
use Rattle.vt_laws_worlds.specs.Worlds.Permits.{NamesWhatIsThere}
use Rattle.vt_mounting.specs.Detach.Events.{Permits, left_by}
use Rattle.vt_mounting.specs.Detach.Uses.{Merged, kept_of, kept_with}
use Rattle.vt_mounting.proofs.detach.FileEvents.{permit_fits}
use Rattle.vt_mounting.proofs.detach.Overlaid.{found_plain_one}
use Rattle.vt_mounting.proofs.detach.Places.{located_is_named}
use Rattle.vt_mounting.proofs.detach.Staying.{IsDone}
use Rattle.vt_mounting.specs.Attach.AttachedGroups.{HasGroupsOf}
use Rattle.vt_mounting.specs.Attach.AttachedNumbers.{numbers_of_parts}
use Rattle.vt_mounting.specs.Attach.Grafted.{IsGrafted, MayGraft}
use Rattle.vt_mounting.proofs.attach.AttachedCounts.{lower_numbers}
use Rattle.vt_mounting.proofs.attach.CopiesAscend.{planned_ascend}
use Rattle.vt_mounting.proofs.attach.Beside.{is_beside}
use Rattle.vt_mounting.proofs.attach.GraftedDone.{IsBase, graft_is_done, grafted_value, plan_attaches}
use Rattle.vt_mounting.proofs.attach.NumbersByParts.{binds_keep_to_numbers}
use Rattle.vt_mounting.proofs.attach.TakingNumbers.{TakesNumbers}
use Rattle.vt_laws_worlds.proofs.permits.taken.TakenFirst.{bind_some}

-- the filesystems of the code's world
pub same_base : (value : WorldValue) → IsHeld value → IsBase value value.filesystems
same_base value whole = record {
  own = whole.own_inodes;
  trees = worlds_have_trees (world_of value) whole.in_world;
  in_use = (all_in_use (world_of value) whole.in_world).inodes;
  roots = whole.in_world.roots;
  rise = whole.overlays.all_rise;
  inodes = λ entry m. subst (λ f. IsCounted (world_of value) f (inodes_seen entry))
      (sym (found_plain_one value whole entry m))
      (counts_there value whole entry m);
  mounts = λ entry m. (among_from_all
      (CountsItsMounts (world_of value)) value.filesystems whole.filesystems entry m).mounts;
}

-- the code's world has its mounts and groups
pub is_seen : (value : WorldValue) → IsHeld value → IsSeen (world_of value) value.mounts value.groups
is_seen value whole = record { mounts = refl; groups = whole.groups; living = whole.in_world.mounts.groups }

-- the group of a mount of the world is there
pub group_there : (mounts : List (meant.Mount ℕ)) (mount : meant.Mount ℕ) → Among mount mounts → (group : ℕ)
    → group_of mount.propagation ≡ Some group → has_members nat_eq mounts group ≡ true
group_there mounts mount m group e =
    any_from_among (is_member_of nat_eq group) mounts mount m (ap (holds_of (nat_eq group)) e ∙ eq-eqb group group refl)

module _ (value : WorldValue) (whole : IsHeld value) (name : TaskName) (source : Location) (recursive : Bool)
    (graft : Graft) (counts : Counts)
    (permits : Permits value name (ToBind (location_of source) (location_of graft.place) recursive))
    (tree_is : map mount_of graft.tree.now ≡ bind_tree nat_eq (world_of value) (location_of source) recursive)
    (binds : graft.moves ≡ false)
    (parts_are : map mount_of graft.parts.now ≡ parts_of nat_eq (world_of value) (location_of graft.place))
    (first : counts.first ≡ value.next) (step : counts.step ≡ 1) where
  abbrev permit : Permit ℕ
  permit = ToBind (location_of source) (location_of graft.place) recursive

  abbrev world : World ℕ
  world = world_of value

  abbrev tree : List (meant.Mount ℕ)
  tree = map mount_of graft.tree.now

  takes : TakesNumbers value name permit permits.task
  takes = record { called = permits.called; given = permits.given; inode = 0; even = refl; supply = refl }

  names : NamesWhatIsThere (world_of value) permits.task
      (ToBind (location_of source) (location_of graft.place) recursive)
  names = (permit_fits value whole name permit permits).names

  same_counts : (k : ℕ) → planned.counts_from counts k ≡ counts_from value.next k
  same_counts k = (λ i. counted (first i + step i * k)) ∙ omega arith

  tree_once : OneNumberAMount tree
  tree_once = subst OneNumberAMount (sym tree_is)
      (binds_take_each_once world (location_of source) recursive whole.in_world.mounts.one_number whole.in_world.mounts.standing)

  tree_some : 0 < length graft.tree.now
  tree_some = subst (λ n. 0 < n) (length-map graft.tree.now mount_of)
      (subst (λ (list : List (meant.Mount ℕ)). 0 < length list) (sym tree_is)
      (bind_some world (location_of source) recursive))

  rising_then : are_ascending (mounts_in value.mounts) ≡ true
      → list_all (λ mount. mount.number % 4 == 1) (mounts_in value.mounts) ≡ true
      → are_ascending (mounts_in value.mounts ++ planned_copies world graft counts) ≡ true
  rising_then ascending odd = planned_ascend counts (subst (λ n. 0 < n) (sym step)
      (omega arith)) world graft binds whole.in_world.mounts.one_number tree_once tree_some
      (mounts_in value.mounts) ascending
      (λ mount m. subst (λ n. mount.number < counted n) (sym first) (lower_numbers value whole odd mount m))

  pub may_bind : are_ascending (mounts_in value.mounts) ≡ true
      → list_all (λ mount. mount.number % 4 == 1) (mounts_in value.mounts) ≡ true
      → MayGraft value.mounts value.groups graft counts
  may_bind ascending odd = record {
    world = world;
    seen = is_seen value whole;
    one_child = whole.in_world.mounts.one_child;
    parts_are = parts_are;
    apart = subst OneNumberAMount (sym parts_are)
        (parts_apart world (location_of graft.place) whole.in_world.mounts.one_number);
    ascending = rising_then ascending odd;
  }

  -- each mount of the tree is there, or is that of the source from another directory on
  tree_mount : (P : meant.Mount ℕ → Type 0) → ((mount : meant.Mount ℕ) → Among mount (mounts_in value.mounts) → P mount)
      → ((mount : meant.Mount ℕ) (root : ℕ) → P mount → P (record mount { root = root })) → (mount : meant.Mount ℕ)
      → Among mount tree → P mount
  tree_mount P each other mount m = ⊎_elim (λ same. subst P (sym same)
      (other (mount_at nat_eq world (location_of source)) (location_of source).node
      (each (mount_at nat_eq world (location_of source))
      (found_is_there (mounts_in value.mounts) (counted source.mount.count) (ap is_some names.1)))))
      (λ old. each mount old)
      (bind_there_or_source world (location_of source) recursive mount (subst (Among mount) tree_is m))

  -- the groups of the tree are groups of the world
  tree_groups_there : HasGroupsOf world tree
  tree_groups_there mount contained =
      tree_mount (λ (x : meant.Mount ℕ). (group : ℕ) → group_of x.propagation ≡ Some group → HasGroup world group)
      (group_there (mounts_in value.mounts)) (λ mount root has. has) mount (among_from_contains tree mount contained)

  named : KeepsTo (is_counted_before (value.next + numbers_of_parts world (location_of graft.place)
      (bind_tree nat_eq world (location_of source) recursive))) (left_by value permits.task permit)
  named = binds_keep_to_numbers value.next world permits.task (location_of source)
      (location_of graft.place) recursive permits.given.called whole.given
      (λ i. located_is_named value whole (location_of source) names.0.reached.there i
      && located_is_named value whole (location_of graft.place) names.2.directory.reached.there i)

  pub bind_is_done : (mounts : List MountEntry) (groups : Grouping) (filesystems : Filesystems)
      (overlays : List Merged) (next : ℕ)
      → IsGrafted graft counts (kept_of value) value.groups (kept_with mounts filesystems overlays) groups
      → are_ascending (mounts_in value.mounts) ≡ true
      → list_all (λ mount. mount.number % 4 == 1) (mounts_in value.mounts) ≡ true
      → next ≡ value.next + 2 * (length graft.parts.now * length graft.tree.now)
      → IsDone value name permit (grafted_value value mounts groups filesystems overlays next)
  bind_is_done mounts groups filesystems overlays next is ascending odd grows =
      let attaches = is.plan world (is_seen value whole) whole.in_world.mounts.one_child parts_are in
      let attach_is = plan_attaches
      attaches binds (counts_from value.next) same_counts in
      let rising = ap (λ list. are_ascending (mounts_in value.mounts ++ list)) attaches.copies_are
      ∙ rising_then ascending odd in
      let left_is = binds_keep_all (counts_from value.next) world permits.task (location_of source)
      (location_of graft.place) recursive
      (all_in_use world whole.in_world) (mounts_of_worlds_stand world whole.in_world)
      (Roots.locations_of_worlds_stand world whole.in_world) (ap is_some names.2.own)
      ∙ ap (λ list. attach nat_eq world (counts_from value.next) (location_of graft.place) false list) (sym tree_is)
      ∙ attach_is in
      let sizes : numbers_of_parts world (location_of graft.place)
      (bind_tree nat_eq world (location_of source) recursive) ≡ 2 * (length graft.parts.now * length graft.tree.now) =
      (λ i. 2 * (length (sym parts_are i) * length (sym tree_is i)))
      ∙ (λ i. 2 * (length-map graft.parts.now mount_of i * length-map graft.tree.now mount_of i)) in
      graft_is_done (record {
        whole = is_beside value whole;
        is_base = same_base value whole;
        is = is;
        attaches = attaches;
        there = tree_groups_there;
        ascending = rising;
      }) next
      whole permits takes left_is
      (subst (λ n. KeepsTo (is_counted_before n) (left_by value permits.task permit))
      (ap (λ n. value.next + n) sizes ∙ sym grows) named)

-- Mounts that are looked up

pub found_some : (number : ℕ) (mounts : List (meant.Mount ℕ))
    → is_among nat_eq number (map (λ (mount : meant.Mount ℕ). mount.number) mounts) ≡ true
    → is_some (find (λ (mount : meant.Mount ℕ). nat_eq number mount.number) mounts) ≡ true
found_some number [] there = absurd (true≢false (sym there))
found_some number (first ∷ rest) there = grind (arith, common_steps, found_some number rest)

module _ (value : WorldValue) (whole : IsHeld value) (name : TaskName) (source place : Location) (recursive : Bool)
    (permits : Permits value name (ToBind (location_of source) (location_of place) recursive)) where
  pub source_there : is_located_well nat_eq (world_of value) (location_of source) ≡ true
  source_there = (permit_fits value whole name
      (ToBind (location_of source) (location_of place) recursive) permits).names.0.reached.there
