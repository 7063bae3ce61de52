-- Calls that attach no mount are asked without a count of mounts; mount calls are asked for CAP_SYS_ADMIN first.
use Rattle.std.proofs.Common.{◌≡◌, ℕ, Bool, List, nat_eq, refl}
use Rattle.vt_spec.proofs.Common.{Looks, Permit, Task, admin_rules, judging, unless}
use Rattle.vt_spec.specs.declared.errors.Rule.{Rule}
use Rattle.vt_request.specs.Requests.{descriptor_call_of, look_call_of, make_call_of, mount_call_of, remove_call_of, task_call_of, write_call_of}
use Rattle.vt_request.specs.declared.request.Creation.TheVariants as creation
use Rattle.vt_request.specs.declared.request.DescriptorCall.{DescriptorCall}
use Rattle.vt_request.specs.declared.request.DescriptorCall.TheVariants as descriptor
use Rattle.vt_request.specs.declared.request.LookCall.{LookCall}
use Rattle.vt_request.specs.declared.request.LookCall.TheVariants as look
use Rattle.vt_request.specs.declared.request.MakeCall.{MakeCall}
use Rattle.vt_request.specs.declared.request.MakeCall.TheVariants as make
use Rattle.vt_request.specs.declared.request.MountCall.{MountCall}
use Rattle.vt_request.specs.declared.request.MountCall.TheVariants as mount
use Rattle.vt_request.specs.declared.request.RemoveCall.{RemoveCall}
use Rattle.vt_request.specs.declared.request.RemoveCall.TheVariants as remove
use Rattle.vt_request.specs.declared.request.TaskCall.{TaskCall}
use Rattle.vt_request.specs.declared.request.TaskCall.TheVariants as task
use Rattle.vt_request.specs.declared.request.WriteCall.{WriteCall}
use Rattle.vt_request.specs.declared.request.WriteCall.TheVariants as write
use Rattle.vt_later.specs.Passing.{lets_pass, without}
use Rattle.vt_later.specs.Past.{behind_needs, call_past, refusal_past}

module _ (looks : Looks ℕ) (who : Task ℕ) (passed : List Rule) (overfills : Permit ℕ → Bool) where
  pub looks_alone : (call : LookCall) → call_past looks who passed (look_call_of call)
      ≡ refusal_past looks who passed overfills (judging nat_eq looks who (look_call_of call))
  unfolding judging
  looks_alone (look.Ls path) = refl
  looks_alone (look.Stat path) = refl
  looks_alone (look.Lstat path) = refl
  looks_alone (look.Readlink path) = refl
  looks_alone (look.Read path) = refl
  looks_alone (look.Exec path) = refl
  looks_alone (look.Pread number offset size) = refl
  looks_alone look.ListMounts = refl

  pub makes_alone : (call : MakeCall) → call_past looks who passed (make_call_of call)
      ≡ refusal_past looks who passed overfills (judging nat_eq looks who (make_call_of call))
  unfolding judging
  makes_alone (make.Mkdir path mode) = refl
  makes_alone (make.Symlink text path) = refl
  makes_alone (make.Whiteout path) = refl
  makes_alone (make.Link old new) = refl

  pub removes_alone : (call : RemoveCall) → call_past looks who passed (remove_call_of call)
      ≡ refusal_past looks who passed overfills (judging nat_eq looks who (remove_call_of call))
  unfolding judging
  removes_alone (remove.Unlink path) = refl
  removes_alone (remove.Rmdir path) = refl
  removes_alone (remove.Rename old new) = refl

  pub writes_alone : (call : WriteCall) → call_past looks who passed (write_call_of call)
      ≡ refusal_past looks who passed overfills (judging nat_eq looks who (write_call_of call))
  unfolding judging
  writes_alone (write.Write path bytes) = refl
  writes_alone (write.Pwrite number offset bytes) = refl
  writes_alone (write.Chmod path mode) = refl
  writes_alone (write.Chown path uid gid) = refl
  writes_alone (write.Opaque path mark) = refl

  pub descriptors_alone : (call : DescriptorCall) → call_past looks who passed (descriptor_call_of call)
      ≡ refusal_past looks who passed overfills (judging nat_eq looks who (descriptor_call_of call))
  unfolding judging
  descriptors_alone (descriptor.Open path access creation.Never) = refl
  descriptors_alone (descriptor.Open path access (creation.OrCreate mode)) = refl
  descriptors_alone (descriptor.Open path access (creation.Exclusive mode)) = refl
  descriptors_alone (descriptor.Close number) = refl

  pub tasks_alone : (call : TaskCall) → call_past looks who passed (task_call_of call)
      ≡ refusal_past looks who passed overfills (judging nat_eq looks who (task_call_of call))
  unfolding judging
  tasks_alone (task.Chdir path) = refl
  tasks_alone (task.Chroot path) = refl
  tasks_alone (task.Umask mode) = refl
  tasks_alone (task.Drop caps) = refl
  tasks_alone (task.Fork words) = refl
  tasks_alone task.Exit = refl
  tasks_alone task.Unshare = refl
  tasks_alone (task.Setns name) = refl

  pub administered_first : (call : MountCall)
      → refusal_past looks who passed overfills (judging nat_eq looks who (mount_call_of call))
      ≡ unless (without (lets_pass passed) (admin_rules who))
      (refusal_past looks who passed overfills (behind_needs (judging nat_eq looks who (mount_call_of call))))
  unfolding judging
  administered_first (mount.Plain path flags) = refl
  administered_first (mount.Overlay path options flags) = refl
  administered_first (mount.Bind source path recursive) = refl
  administered_first (mount.Move source path) = refl
  administered_first (mount.Umount path) = refl
  administered_first (mount.Lazy path) = refl
  administered_first (mount.Remount path flags) = refl
  administered_first (mount.SetType path word recursive) = refl
  administered_first (mount.Pivot new put) = refl
