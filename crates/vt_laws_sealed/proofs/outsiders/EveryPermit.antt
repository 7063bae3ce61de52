-- Every call of a task outside a sealed set leaves it sealed, whatever it is permitted.
use Rattle.std.proofs.Common.{◌≡◌, ℕ, nat_eq, List, Ok}
use Rattle.vt_spec.proofs.Common.{Allowed, Call, Fresh, Permit, Task, TaskName, ToBind, ToChange, ToClose, ToEnterNamespace, ToExit, ToFork, ToList, ToListMounts, ToMake, ToMountOverlay, ToMountPlain, ToMove, ToOpen, ToOpenNew, ToPivot, ToRead, ToReadPart, ToRemoveDirectory, ToRename, ToSetCredentials, ToSetDirectory, ToSetFlags, ToSetRoot, ToSetType, ToSetUmask, ToStat, ToUnmount, ToUnmountLazily, ToUnshare, ToWritePart, World, apply, filesystems_changed, judge_in, settled}
use Rattle.vt_laws_sealed.proofs.outsiders.OthersCalls.{IsOthersCall}
use Rattle.vt_laws_sealed.specs.Outsiders.{OutsidersLeaveASealedSet}
use Rattle.vt_laws_sealed.proofs.outsiders.Binding.{bind_leaves, plain_leaves}
use Rattle.vt_laws_sealed.proofs.outsiders.ChangingFiles.{attributes_leave, making_leaves, new_leaves, open_leaves, writing_leaves}
use Rattle.vt_laws_sealed.proofs.outsiders.Closing.{close_leaves}
use Rattle.vt_laws_sealed.proofs.outsiders.Ending.{exit_leaves}
use Rattle.vt_laws_sealed.proofs.outsiders.Entering.{directory_leaves, root_leaves}
use Rattle.vt_laws_sealed.proofs.outsiders.FlagsSet.{flags_leave}
use Rattle.vt_laws_sealed.proofs.outsiders.Joining.{join_leaves}
use Rattle.vt_laws_sealed.proofs.outsiders.Lazily.{lazy_leaves}
use Rattle.vt_laws_sealed.proofs.outsiders.Moving.{move_leaves}
use Rattle.vt_laws_sealed.proofs.outsiders.OverlaysMounted.{overlay_leaves}
use Rattle.vt_laws_sealed.proofs.outsiders.OwnTasks.{credentials_leave, fork_leaves, umask_leaves}
use Rattle.vt_laws_sealed.proofs.outsiders.Pivoting.{pivot_leaves}
use Rattle.vt_laws_sealed.proofs.outsiders.Refusals.{nothing_leaves}
use Rattle.vt_laws_sealed.proofs.outsiders.RemovingFiles.{directory_removal_leaves, renaming_leaves}
use Rattle.vt_laws_sealed.proofs.outsiders.Retyping.{type_leaves}
use Rattle.vt_laws_sealed.proofs.outsiders.Staying.{LeavesApart, by_permit}
use Rattle.vt_laws_sealed.proofs.outsiders.Unmounting.{unmount_leaves}
use Rattle.vt_laws_sealed.proofs.outsiders.Unsharing.{unshare_leaves}

module _ {world : World ℕ} {fresh : Fresh ℕ} {names : List TaskName} {name : TaskName} {call : Call}
    {task : Task ℕ} (outsider : IsOthersCall world fresh names name call task) where
  permit_leaves : (permit : Permit ℕ) → judge_in nat_eq fresh world task call ≡ Ok permit
      → LeavesApart world (settled nat_eq (apply nat_eq fresh world task permit).world) names
      (filesystems_changed nat_eq world permit)
  permit_leaves Allowed judged = nothing_leaves outsider.it
  permit_leaves (ToList directory) judged = nothing_leaves outsider.it
  permit_leaves (ToStat object) judged = nothing_leaves outsider.it
  permit_leaves (ToRead file) judged = nothing_leaves outsider.it
  permit_leaves (ToReadPart file offset size) judged = nothing_leaves outsider.it
  permit_leaves (ToChange location change) judged = attributes_leave outsider location change judged
  permit_leaves (ToMake directory entry node) judged = making_leaves outsider directory entry node judged
  permit_leaves (ToRemoveDirectory parent entry directory) judged =
      directory_removal_leaves outsider parent entry directory judged
  permit_leaves (ToRename from old to new object replaced) judged =
      renaming_leaves outsider from old to new object replaced judged
  permit_leaves (ToOpen file access) judged = open_leaves outsider file access judged
  permit_leaves (ToOpenNew directory entry node access) judged = new_leaves outsider directory entry node access judged
  permit_leaves (ToWritePart file offset bytes) judged = writing_leaves outsider file offset bytes judged
  permit_leaves (ToClose descriptor) judged = close_leaves outsider descriptor
  permit_leaves (ToSetDirectory directory) judged = directory_leaves outsider directory judged
  permit_leaves (ToSetRoot root) judged = root_leaves outsider root judged
  permit_leaves (ToSetUmask umask) judged = umask_leaves outsider umask judged
  permit_leaves (ToSetCredentials credentials) judged = credentials_leave outsider credentials judged
  permit_leaves (ToFork credentials) judged = fork_leaves outsider credentials judged
  permit_leaves ToExit judged = exit_leaves outsider
  permit_leaves ToUnshare judged = unshare_leaves outsider
  permit_leaves (ToEnterNamespace namespace) judged = join_leaves outsider namespace judged
  permit_leaves (ToMountPlain destination flags) judged = plain_leaves outsider destination flags judged
  permit_leaves (ToMountOverlay destination overlay flags) judged =
      overlay_leaves outsider destination overlay flags judged
  permit_leaves (ToBind source destination recursive) judged = bind_leaves outsider source destination recursive judged
  permit_leaves (ToMove mount destination) judged = move_leaves outsider mount destination judged
  permit_leaves (ToUnmount mount) judged = unmount_leaves outsider mount judged
  permit_leaves (ToUnmountLazily mount) judged = lazy_leaves outsider mount judged
  permit_leaves (ToSetFlags mount flags) judged = flags_leave outsider mount flags judged
  permit_leaves (ToSetType mount word recursive) judged = type_leaves outsider mount word recursive judged
  permit_leaves (ToPivot mount put) judged = pivot_leaves outsider mount put judged
  permit_leaves ToListMounts judged = nothing_leaves outsider.it

pub outsiders_leave_a_sealed_set : OutsidersLeaveASealedSet
outsiders_leave_a_sealed_set = by_permit (λ world fresh names name call task outsider. permit_leaves outsider)
