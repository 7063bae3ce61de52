-- Mounts are unmounted, with the mounts at the receivers of their parents: umount(2).
use Rattle.std.proofs.Common.{◌∷◌, ◌≡◌, refl, sym, ap, subst, ◌∙◌, ℕ, nat_eq, eqb-true, Bool, true, false, List, [], map, find, Option, Some, None, option_map, is_some, unwrap_or, length, if◌then◌else◌, append-nil, IsPermutation, All, arith, cond}
use Rattle.vt_spec.proofs.Common.{Location, Mount, Permit, Task, TaskName, ToUnmount, ToUnmountLazily, World, after_going, chain, detached, going, inheriting, is_going, last_or, lazily_unmounted, list_any, list_any-IsPermutation, lost_a_group, mount_at, mount_numbered, inherited_mount_point, no_mount, regrouped, regrouped_by, taken_away, unmounted, with_mounts, without_dead_groups, common_steps}
use Rattle.vt_ns.proofs.Common.{Filesystems, Grouping, Has, IsApplied, IsDone, IsHeld, Kept, LeaveTogether, Merged, MountEntry, Permits, Point, WorldValue, all_from_among, among-map, among_from_all, counted, found_mapped, has_ordered, kept_of, kept_with, location_of, moved_by, numbers_of, permit_fits, point_seen, remade_with, world_of}
use Rattle.vt_group.specs.Grouping.{are_rising, peers_of}
use Rattle.vt_group.specs.Together.{GrowsTo}
use Rattle.vt_group.proofs.Showing.{has_one_grouping}
use Rattle.vt_group.proofs.Typed.{regrouped_is_typed}
use Rattle.vt_propagate.specs.Falling.{FallsTo, LeavesBy, left_by}
use Rattle.vt_propagate.specs.LazyUnmounts.{gone_lazily}
use Rattle.vt_propagate.proofs.LazyUnmounts.{lazy_unmounts_are_at_once}
use Rattle.vt_mounting.specs.Attach.Planned.{with_points}
use Rattle.vt_retype.specs.Retyping.{AreTyped}
use Rattle.vt_mounting.proofs.detach.FollowedTypes.{changed_typed, own_types}
use Rattle.vt_mounting.proofs.detach.Leaving.{found_in}
use Rattle.vt_mounting.proofs.detach.UnmountedAlone.{attached_is_named}
use Rattle.vt_ns.specs.Unmounting.{GoTogether}
use Rattle.vt_ns.proofs.world.UnmountedWorlds.{moved_then_detached}

-- groups that end leave mounts where they are
pub regrouped_places : (world : World ℕ) (number : ℕ)
    → (mount_numbered nat_eq (regrouped nat_eq world) number).mount_point
    ≡ (mount_numbered nat_eq world number).mount_point
regrouped_places world number = by (list_any (lost_a_group nat_eq world) world.mounts)
  where
    found : (o : Option (Mount ℕ)) → (unwrap_or (option_map (inheriting nat_eq world) o) (no_mount number)).mount_point
        ≡ (unwrap_or o (no_mount number)).mount_point
    found o = grind (arith, common_steps)

    by : (b : Bool) → (mount_numbered nat_eq (regrouped_by nat_eq b world) number).mount_point
        ≡ (mount_numbered nat_eq world number).mount_point
    by false = refl
    by true = ap (λ o. (unwrap_or o (no_mount number)).mount_point)
        (found_mapped (inheriting nat_eq world) (λ mount. refl) world.mounts number)
        ∙ found (find (λ (mount : Mount ℕ). nat_eq number mount.number) world.mounts)

-- a mount that falls is where it falls to
pub fallen_to : (world : World ℕ) (gone : List ℕ) (number : ℕ) (place : Location ℕ) → FallsTo world gone (number, place)
    → (mount_numbered nat_eq (taken_away nat_eq world gone) number).mount_point ≡ Some place
fallen_to world gone number place falls =
    regrouped_places (with_mounts world (map (after_going nat_eq world gone) world.mounts)) number
    ∙ ap (λ o. (unwrap_or o (no_mount number)).mount_point)
    (found_mapped (after_going nat_eq world gone) same_number world.mounts number)
    ∙ by (find (λ (mount : Mount ℕ). nat_eq number mount.number) world.mounts) refl falls.1
  where
    same_number : (mount : Mount ℕ) → (after_going nat_eq world gone mount).number ≡ mount.number
    same_number mount = grind (arith, common_steps)

    none_some : None ≡ Some place → ⊥
    none_some e = cc

    by : (o : Option (Mount ℕ)) → find (λ (mount : Mount ℕ). nat_eq number mount.number) world.mounts ≡ o
        → option_map (inherited_mount_point nat_eq world gone) (unwrap_or o (no_mount number)).mount_point ≡ Some place
        → (unwrap_or (option_map (after_going nat_eq world gone) o) (no_mount number)).mount_point ≡ Some place
    by None e is = absurd (none_some is)
    by (Some mount) e is =
        let its = eqb-true number mount.number
        (found_in (λ (x : Mount ℕ). nat_eq number x.number) world.mounts mount e).1 in
        ap (λ b. (cond b (detached mount) (record mount {
          mount_point = option_map (inherited_mount_point nat_eq world gone) mount.mount_point;
        })).mount_point) (ap (is_going nat_eq gone) (sym its) ∙ falls.0) ∙ is

-- groups that grow by nothing stay
pub nothing_grows : (world : World ℕ) (old new : Grouping) → Has world old → GrowsTo old new [] [] → new ≡ old
nothing_grows world old new has grows = grind (arith, common_steps, has_one_grouping, all_from_among, is_some)

-- mounts that get other mount points keep their types
points_typed : (groups : Grouping) (entries : List MountEntry) → AreTyped groups entries → (points : List Point)
    → AreTyped groups (with_points points entries)
points_typed groups entries typed [] = typed
points_typed groups entries typed (point ∷ rest) =
    grind (arith, common_steps, points_typed groups entries typed rest, changed_typed, counted)

-- groups of masters without members do not count
same_groups : (one other : World ℕ) (groups : Grouping)
    → without_dead_groups nat_eq one ≡ without_dead_groups nat_eq other → Has other groups → Has one groups
same_groups one other groups same has = record {
  order = ap (λ (w : World ℕ). are_rising (numbers_of w.mounts)) same ∙ has.order;
  peers = has.peers ∙ sym (ap (λ (w : World ℕ). peers_of w.mounts) same);
  masters_order = has.masters_order;
  masters = λ group. has.masters group ∙ sym (ap (λ (w : World ℕ). w.master group) same);
}

-- Where mounts are detached at once, those that stay have moved, and the groups follow, the policy's world is left.
pub gone_together : (value : WorldValue) → IsHeld value → (name : TaskName) (permit : Permit ℕ) (task : Task ℕ)
    (policy : World ℕ) → IsApplied value name permit task policy → (gone : List ℕ) (points : List Point)
    → without_dead_groups nat_eq policy ≡ without_dead_groups nat_eq (taken_away nat_eq (world_of value) gone)
    → LeavesBy (world_of value) gone (map point_seen points)
    → All (FallsTo (world_of value) gone) (map point_seen points)
    → (mounts : List MountEntry) (groups : Grouping) (filesystems : Filesystems) (overlays : List Merged)
    → GoTogether gone points (kept_of value) value.groups (kept_with mounts filesystems overlays) groups
    → IsDone value name permit (record (remade_with value mounts filesystems overlays value.tasks) { groups = groups })
gone_together value whole name permit task policy is gone points alike regroups falls mounts groups filesystems overlays go =
    let world = world_of value in
    let start = with_mounts world (map (left_by gone (map point_seen points)) world.mounts) in
    let together : LeaveTogether gone (kept_with go.between go.files go.merged) value.groups
    (kept_with mounts filesystems overlays) groups =
    subst (λ before. LeaveTogether gone (kept_with go.between go.files go.merged) before (kept_with mounts filesystems overlays) groups)
    (nothing_grows world value.groups go.groups whole.groups go.grown) go.together in
    let moved_typed : AreTyped value.groups go.between = subst (AreTyped value.groups) (sym
    (ap (λ (k : Kept). k.mounts) go.moved ∙ append-nil (with_points points value.mounts)))
    (points_typed value.groups value.mounts (own_types value whole) points) in
    let taken : Has (taken_away nat_eq world gone) groups =
    together.groups world whole.groups whole.in_world.mounts.groups in
    subst (λ all. IsDone value name permit (record (remade_with value all filesystems overlays value.tasks) { groups = groups }))
    (sym (together.types (has_ordered world value.groups whole.groups) moved_typed))
    (moved_then_detached value whole name permit task policy is gone points groups
    (same_groups policy (taken_away nat_eq world gone) groups alike taken)
    (alike ∙ ap (without_dead_groups nat_eq) regroups
    ∙ regrouped_is_typed start groups (subst (λ one. Has one groups) regroups taken)) (λ point m.
    ap (λ (w : World ℕ). (mount_numbered nat_eq w (counted point.mount.count)).mount_point) alike
    ∙ fallen_to world gone (counted point.mount.count) (location_of point.place)
    (among_from_all (FallsTo world gone) (map point_seen points) falls (point_seen point)
    (among-map point_seen points point m)))
    go.left go.left_are go.left_small go.taken_small go.between go.files go.merged go.moved
    together.entries filesystems overlays together.turn)

-- Which mounts go does not depend on the order in which they are named

goes_alike : (one other : List ℕ) → IsPermutation one other → is_going nat_eq one ≡ is_going nat_eq other
goes_alike one other same = λ i number. list_any-IsPermutation (nat_eq number) one other same i

-- where a mount stands once those that go are detached
abbrev left_where : World ℕ → (ℕ → Bool) → Location ℕ → Location ℕ
left_where world goes place = last_or place (chain (length world.mounts)
    (λ (at : Location ℕ). if goes at.mount then (mount_at nat_eq world at).mount_point else None) place)

taken_alike : (world : World ℕ) (one other : List ℕ) → IsPermutation one other
    → taken_away nat_eq world one ≡ taken_away nat_eq world other
taken_alike world one other same = ap (λ (goes : ℕ → Bool). regrouped nat_eq (with_mounts world
    (map (λ (mount : Mount ℕ). if goes mount.number then detached mount
    else record mount { mount_point = option_map (left_where world goes) mount.mount_point }) world.mounts)))
    (goes_alike one other same)

leaves_alike : (world : World ℕ) (one other : List ℕ) (points : List (ℕ × Location ℕ)) → IsPermutation one other
    → LeavesBy world one points → LeavesBy world other points
leaves_alike world one other points same leaves = sym (taken_alike world one other same) ∙ leaves
    ∙ ap (λ (goes : ℕ → Bool). regrouped nat_eq (with_mounts world
    (map (λ (mount : Mount ℕ). if goes mount.number then detached mount else moved_by points mount) world.mounts)))
    (goes_alike one other same)

falls_alike : (world : World ℕ) (one other : List ℕ) (points : List (ℕ × Location ℕ)) → IsPermutation one other
    → All (FallsTo world one) points → All (FallsTo world other) points
falls_alike world one other points same =
    subst (λ (goes : ℕ → Bool). All (λ (point : ℕ × Location ℕ). (goes point.0 ≡ false)
    × (option_map (left_where world goes) (mount_numbered nat_eq world point.0).mount_point ≡ Some point.1)) points)
    (goes_alike one other same)

-- the same where they are detached in another order than the one in which they were planned
gone_in_any_order : (value : WorldValue) → IsHeld value → (name : TaskName) (permit : Permit ℕ) (task : Task ℕ)
    (policy : World ℕ) → IsApplied value name permit task policy → (planned gone : List ℕ) (points : List Point)
    → IsPermutation planned gone
    → without_dead_groups nat_eq policy ≡ without_dead_groups nat_eq (taken_away nat_eq (world_of value) planned)
    → LeavesBy (world_of value) planned (map point_seen points)
    → All (FallsTo (world_of value) planned) (map point_seen points)
    → (mounts : List MountEntry) (groups : Grouping) (filesystems : Filesystems) (overlays : List Merged)
    → GoTogether gone points (kept_of value) value.groups (kept_with mounts filesystems overlays) groups
    → IsDone value name permit (record (remade_with value mounts filesystems overlays value.tasks) { groups = groups })
gone_in_any_order value whole name permit task policy is planned gone points same alike regroups falls =
    let world = world_of value in
    gone_together value whole name permit task policy is gone points
    (alike ∙ ap (without_dead_groups nat_eq) (taken_alike world planned gone same))
    (leaves_alike world planned gone (map point_seen points) same regroups)
    (falls_alike world planned gone (map point_seen points) same falls)

-- a mount is unmounted with those at its receivers
pub unmounted_everywhere : (value : WorldValue) → IsHeld value → (name : TaskName) (number : ℕ)
    → Permits value name (ToUnmount number) → (planned gone : List ℕ) (points : List Point) → IsPermutation planned gone
    → planned ≡ going nat_eq (world_of value) (mount_numbered nat_eq (world_of value) number)
    → LeavesBy (world_of value) planned (map point_seen points)
    → All (FallsTo (world_of value) planned) (map point_seen points)
    → (mounts : List MountEntry) (groups : Grouping) (filesystems : Filesystems) (overlays : List Merged)
    → GoTogether gone points (kept_of value) value.groups (kept_with mounts filesystems overlays) groups
    → IsDone value name (ToUnmount number) (record (remade_with value mounts filesystems overlays value.tasks) { groups = groups })
unmounted_everywhere value whole name number permits planned gone points same planned_is =
    let names = (permit_fits value whole name (ToUnmount number) permits).names in
    gone_in_any_order value whole name (ToUnmount number) permits.task (unmounted nat_eq (world_of value) number)
    (record {
      called = permits.called;
      given = permits.given;
      named = attached_is_named value whole number (ap is_some names.0);
      applied = λ fresh. refl;
    }) planned gone points same
    (ap (λ all. without_dead_groups nat_eq (taken_away nat_eq (world_of value) all)) (sym planned_is))

-- a mount and its descendants, with what propagation detaches with each of them: umount(2) with MNT_DETACH
pub unmounted_lazily : (value : WorldValue) → IsHeld value → (name : TaskName) (number : ℕ)
    → Permits value name (ToUnmountLazily number)
    → (planned gone : List ℕ) (points : List Point) → IsPermutation planned gone
    → planned ≡ gone_lazily (world_of value) number → LeavesBy (world_of value) planned (map point_seen points)
    → All (FallsTo (world_of value) planned) (map point_seen points)
    → (mounts : List MountEntry) (groups : Grouping) (filesystems : Filesystems) (overlays : List Merged)
    → GoTogether gone points (kept_of value) value.groups (kept_with mounts filesystems overlays) groups
    → IsDone value name (ToUnmountLazily number)
    (record (remade_with value mounts filesystems overlays value.tasks) { groups = groups })
unmounted_lazily value whole name number permits planned gone points same planned_is =
    let names = (permit_fits value whole name (ToUnmountLazily number) permits).names in
    gone_in_any_order value whole name (ToUnmountLazily number) permits.task
    (lazily_unmounted nat_eq (world_of value) number) (record {
      called = permits.called;
      given = permits.given;
      named = attached_is_named value whole number (ap is_some names.0);
      applied = λ fresh. refl;
    }) planned gone points same (lazy_unmounts_are_at_once (world_of value) number whole.in_world.mounts
    ∙ ap (λ all. without_dead_groups nat_eq (taken_away nat_eq (world_of value) all)) (sym planned_is))
