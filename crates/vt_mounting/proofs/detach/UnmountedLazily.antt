-- A mount and its descendants are unmounted: umount(2) with MNT_DETACH.
use Rattle.std.proofs.Common.{◌≡◌, ◌∙◌, sym, ap, subst, ℕ, nat_eq, true, false, List, [], ◌∷◌, map, is_some}
use Rattle.vt_spec.proofs.Common.{Location, Mount, TaskName, ToUnmountLazily, World, holds_of, is_shared, list_all, mount_at, mount_in, mount_numbered, mount_tree}
use Rattle.vt_mounting.proofs.Common.{Filesystems, Inode, IsHeld, MountEntry, WorldValue, in_use_of, is_ungrouped, mounts_in, world_of}
use Rattle.vt_mounting.specs.Detach.Detached.{LeaveInTurn}
use Rattle.vt_mounting.specs.Detach.Events.{Permits}
use Rattle.vt_mounting.specs.Detach.Uses.{Kept, Merged, kept_of, kept_with, without_attachment}
use Rattle.vt_mounting.proofs.detach.Detached.{IsDetaching, detaching_on}
use Rattle.vt_mounting.proofs.detach.DetachingBegins.{HasChildrenOf, detached_world, detaching_begins}
use Rattle.vt_mounting.proofs.detach.DetachingEnds.{detached_done, held_is_kept, taken_regroups}
use Rattle.vt_mounting.proofs.detach.FileEvents.{permit_fits}
use Rattle.vt_mounting.proofs.detach.GoneAlone.{alone_regroups}
use Rattle.vt_mounting.proofs.detach.LazilyUnmounted.{lazily_is_detached, tree_has_children, tree_is_free}
use Rattle.vt_mounting.proofs.detach.Remaining.{remade_with}
use Rattle.vt_mounting.proofs.detach.Staying.{IsDone}
use Rattle.vt_mounting.proofs.detach.UnmountedAlone.{attached_is_named}

-- where each has left in its turn, none is pending
pub all_detached : (old : WorldValue) (gained : List Inode) (last : World ℕ) (numbers : List ℕ) (k final : Kept)
    → IsDetaching old gained last numbers k → LeaveInTurn numbers k final → IsDetaching old gained last [] final
all_detached old gained last [] k final detaching turn = subst (IsDetaching old gained last []) (sym turn) detaching
all_detached old gained last (number ∷ numbers) k final detaching turn =
    all_detached old gained last numbers (without_attachment number turn.0 k) final
    (detaching_on turn.0 detaching turn.1 turn.2) turn.3

pub lazy_unmount_is_done : (value : WorldValue) (name : TaskName) (number : ℕ) (numbers : List ℕ)
    (mounts : List MountEntry) (filesystems : Filesystems) (overlays : List Merged)
    → IsHeld value → Permits value name (ToUnmountLazily number) → numbers ≡ map (λ (mount : Mount ℕ). mount.number)
    (mount_tree nat_eq (mounts_in value.mounts) (mount_in nat_eq (mounts_in value.mounts) number))
    → list_all (λ n. is_ungrouped (mount_in nat_eq (mounts_in value.mounts) n).propagation) numbers ≡ true
    → holds_of (λ (place : Location ℕ). is_shared (mount_at nat_eq (world_of value) place).propagation)
    (mount_numbered nat_eq (world_of value) number).mount_point ≡ false
    → LeaveInTurn numbers (kept_of value) (kept_with mounts filesystems overlays)
    → IsDone value name (ToUnmountLazily number) (remade_with value mounts filesystems overlays value.tasks)
lazy_unmount_is_done value name number numbers mounts filesystems overlays whole permits tree none apart turn =
    let world = world_of value in
    let ungrouped = ap (list_all (λ n. is_ungrouped (mount_in nat_eq world.mounts n).propagation)) (sym tree) ∙ none in
    let names = (permit_fits value whole name (ToUnmountLazily number) permits).names in
    let start = held_is_kept value whole in
    let there = ap is_some names.0 in
    let gone = map (λ (mount : Mount ℕ). mount.number)
    (mount_tree nat_eq world.mounts (mount_in nat_eq world.mounts number)) in
    let kept_mounts = whole.in_world.mounts in
    let closed : HasChildrenOf gone world.mounts = tree_has_children kept_mounts number there in
    let free = tree_is_free kept_mounts number there ungrouped in
    detached_done {name = name} {permit = ToUnmountLazily number} {task = permits.task} gone mounts filesystems
    overlays whole closed free (record {
      called = permits.called;
      given = permits.given;
      named = attached_is_named value whole number there;
      applied = λ fresh. lazily_is_detached kept_mounts number there ungrouped
          (λ place p. sym (ap (holds_of (λ (at : Location ℕ). is_shared (mount_at nat_eq world at).propagation)) p)
          ∙ apart) ∙ sym (taken_regroups world gone closed ∙ alone_regroups whole.groups kept_mounts.groups gone free);
    }) (all_detached value [] (in_use_of (detached_world gone world)) gone (kept_of value)
    (kept_with mounts filesystems overlays) (detaching_begins value [] [] world (kept_of value) start gone closed)
    (subst (λ all. LeaveInTurn all (kept_of value) (kept_with mounts filesystems overlays)) tree turn))
