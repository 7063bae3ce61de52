-- A mount on which no other stands is unmounted: umount(2).
use Rattle.std.proofs.Common.{◌≡◌, refl, sym, ap, subst, ◌∙◌, inl, ℕ, nat_eq, eqb-true, Bool, true, false, true≢false, ◌||◌, List, [], ◌∷◌, ◌++◌, map, flat_map, Option, option_map, is_some, arith, IfSome}
use Rattle.vt_spec.proofs.Common.{Location as Place, Mount, TaskName, ToUnmount, World, common_steps, going, has_child, holds_of, is_shared, is_used, mount_at, mount_in, mount_numbered, numbers_in_use, or_parts, stands_on, taken_away, used_by_filesystem, used_by_mount}
use Rattle.vt_mounting.proofs.Common.{Among, Filesystems, IsHeld, MountEntry, WorldValue, among-append_left, among-flat_map, found_is_there, found_itself, in_use_of, is_among_numbers, is_counted_before, is_small_node, is_ungrouped, location_of, mounts_in, none_among, number-mount_in, used_numbers_are_named, world_of}
use Rattle.vt_location.specs.declared.locations.Location.{Location}
use Rattle.vt_mounting.specs.Detach.Events.{Permits}
use Rattle.vt_mounting.specs.Detach.Uses.{Merged, kept_of, kept_with, point_of, without_attachment}
use Rattle.vt_mounting.proofs.detach.Detached.{detaching_on}
use Rattle.vt_mounting.proofs.detach.DetachingBegins.{HasChildrenOf, detached_world, detaching_begins}
use Rattle.vt_mounting.proofs.detach.DetachingEnds.{detached_done, held_is_kept}
use Rattle.vt_mounting.proofs.detach.FileEvents.{permit_fits}
use Rattle.vt_mounting.proofs.detach.Moving.{nat_eq_turned}
use Rattle.vt_mounting.proofs.detach.Remaining.{remade_with}
use Rattle.vt_mounting.proofs.detach.Staying.{IsDone}

pub attached_is_named : (value : WorldValue) → IsHeld value → (number : ℕ)
    → is_some (mount_numbered nat_eq (world_of value) number).namespace ≡ true
    → is_counted_before value.next number ≡ true
attached_is_named value whole number attached =
    let world = world_of value in
    used_numbers_are_named (is_counted_before value.next) world whole.given
    (3, 7, (λ e. absurd (omega (arith, e))), refl, refl) number (is_among_numbers number (numbers_in_use world)
    (among-append_left (flat_map used_by_mount world.mounts ++ flat_map used_by_filesystem world.filesystems)
    (map (λ namespace. namespace.number) world.namespaces) number
    (among-append_left (flat_map used_by_mount world.mounts) (flat_map used_by_filesystem world.filesystems) number
    (among-flat_map used_by_mount world.mounts (mount_in nat_eq world.mounts number) number
    (found_is_there world.mounts number attached) (inl (sym (number-mount_in world.mounts number)))))))

-- where its parent is not shared, an unmount is of a mount alone
pub goes_apart : (world : World ℕ) (number : ℕ)
    → holds_of (λ (place : Place ℕ). is_shared (mount_at nat_eq world place).propagation)
    (mount_numbered nat_eq world number).mount_point ≡ false
    → going nat_eq world (mount_numbered nat_eq world number) ≡ number ∷ []
goes_apart world number apart = grind (arith, common_steps, number-mount_in)

-- a mount without children is a list with its children
pub childless : (world : World ℕ) (number : ℕ) → has_child nat_eq world number ≡ false
    → HasChildrenOf (number ∷ []) world.mounts
childless world number none mount m place p h =
    absurd (true≢false (sym h ∙ ap (λ b. b || false) (nat_eq_turned place.mount number
    ∙ sym (ap (holds_of (λ (l : Place ℕ). nat_eq number l.mount)) p)
    ∙ none_among (stands_on nat_eq number) world.mounts none mount m)))

-- a mount in no group, on a mount that is not shared
pub unmount_is_done : (value : WorldValue) (name : TaskName) (number : ℕ) (point : Option Location)
    (mounts : List MountEntry) (filesystems : Filesystems) (overlays : List Merged)
    → IsHeld value → Permits value name (ToUnmount number)
    → is_ungrouped (mount_numbered nat_eq (world_of value) number).propagation ≡ true
    → holds_of (λ (place : Place ℕ). is_shared (mount_at nat_eq (world_of value) place).propagation)
    (mount_numbered nat_eq (world_of value) number).mount_point ≡ false
    → option_map location_of point ≡ point_of number value.mounts
    → IfSome point (λ point. is_small_node point.node ≡ true)
    → kept_with mounts filesystems overlays ≡ without_attachment number point (kept_of value)
    → IsDone value name (ToUnmount number) (remade_with value mounts filesystems overlays value.tasks)
unmount_is_done value name number point mounts filesystems overlays whole permits free apart point_is few is_kept =
    let world = world_of value in
    let names = (permit_fits value whole name (ToUnmount number) permits).names in
    let none = (or_parts (has_child nat_eq world number)
    (is_used nat_eq world (going nat_eq world (mount_numbered nat_eq world number))) names.2).0 in
    let closed = childless world number none in
    detached_done {name = name} {permit = ToUnmount number} {task = permits.task} (number ∷ []) mounts filesystems
    overlays whole closed
    (λ mount m its. freed mount m (nat_eq mount.number number) refl its) (record {
      called = permits.called;
      given = permits.given;
      named = attached_is_named value whole number (ap is_some names.0);
      applied = λ fresh. ap (taken_away nat_eq world) (goes_apart world number apart);
    })
    (subst (Rattle.vt_mounting.proofs.detach.Detached.IsDetaching value [] (in_use_of (detached_world (number ∷ []) world)) [])
    (sym is_kept) (detaching_on point (detaching_begins value [] [] world (kept_of value) (held_is_kept value whole)
    (number ∷ []) closed) point_is few))
  where
    freed : (mount : Mount ℕ) → Among mount (mounts_in value.mounts) → (b : Bool) → nat_eq mount.number number ≡ b
        → (b || false) ≡ true → is_ungrouped mount.propagation ≡ true
    freed mount m true e its = ap (λ (x : Mount ℕ). is_ungrouped x.propagation)
        (sym (found_itself (mounts_in value.mounts) whole.in_world.mounts.one_number mount m)
        ∙ ap (mount_in nat_eq (mounts_in value.mounts)) (eqb-true mount.number number e)) ∙ free
    freed mount m false e its = absurd (true≢false (sym its))
