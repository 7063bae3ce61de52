-- What the judgement of a call by code says of its permit, or of its refusal.
use Rattle.std.proofs.Common.{◌≡◌, refl, sym, subst, ◌∙◌, ℕ, true, nat_eq, Some, Result, Ok, Err, arith, IfErr, IfOk}
use Rattle.vt_spec.proofs.Common.{Bind, Fork, Judgement, LinkTo, MakeWhiteout, Mkdir, MountOverlay, MountPlain, MoveMount, OpenFile, Rename, Rmdir, SymlinkAt, Task, TaskName, Umount, Unlink, Write, common_steps, judge, judge_in, task_called}
use Rattle.vt_spec.specs.declared.errors.Deny.{Deny}
use Rattle.vt_spec.specs.Language.Calls as spec
use Rattle.vt_permits.specs.Allocating.{TakesMemory}
use Rattle.vt_permits.specs.Memory.{JudgesAlike, JudgesByReceivers}
use Rattle.vt_policy.specs.Allocating.{IsJudgedWithMemory}
use Rattle.vt_policy.specs.PermitValue.{PermitValue, grant_in}
use Rattle.vt_request.specs.Kinds.{kind_of}
use Rattle.vt_request.specs.Requests.{call_of}
use Rattle.vt_request.specs.declared.request.Call.{Call}
use Rattle.vt_request.specs.declared.request.Call.TheVariants as call
use Rattle.vt_request.specs.declared.request.TaskCall.TheVariants as task
use Rattle.vt_request.specs.declared.request.LookCall.TheVariants as look
use Rattle.vt_request.specs.declared.request.MakeCall.TheVariants as make
use Rattle.vt_request.specs.declared.request.RemoveCall.TheVariants as remove
use Rattle.vt_request.specs.declared.request.WriteCall.TheVariants as write
use Rattle.vt_request.specs.declared.request.DescriptorCall.TheVariants as descriptor
use Rattle.vt_request.specs.declared.request.MountCall.TheVariants as mount
use Rattle.vt_laws_trees.specs.Runs.Handed.{counts_from}
use Rattle.vt_laws_trees.specs.Trees.Limits.{names_few_groups}
use Rattle.vt_world.specs.Held.{IsHeld}
use Rattle.vt_mounting.specs.Detach.Looking.{looks_of_value, overfills_of}
use Rattle.vt_world.specs.WorldValue.{WorldValue, world_of}
use Rattle.vt_calls.proofs.Endings.{refused}
use Rattle.vt_calls.proofs.OverlaysJudged.{judged_as_meant}
use Rattle.vt_calls.specs.Meets.{Ends}
use Rattle.vt_calls.specs.Permitted.{IsPermitted}

-- a fork is given at most 32 groups
few : (asked : Call) → names_few_groups (call_of asked) ≡ true
few (call.Task (task.Fork (Some words))) = grind (arith, common_steps, words.few_groups)
few (call.Look (look.Ls path)) = refl
few (call.Make (make.Mkdir path mode)) = refl
few (call.Remove (remove.Unlink path)) = refl
few (call.Write (write.Write path bytes)) = refl
few (call.Descriptor (descriptor.Close number)) = refl
few (call.Mount (mount.Umount path)) = refl
few asked = refl

-- what allocates as it is judged allocates
takes_judged : (call : spec.Call) → IsJudgedWithMemory call → TakesMemory call
takes_judged (Write path bytes) judging = tt
takes_judged (Mkdir path mode) judging = tt
takes_judged (SymlinkAt text path) judging = tt
takes_judged (MakeWhiteout path) judging = tt
takes_judged (LinkTo old new) judging = tt
takes_judged (Unlink path) judging = tt
takes_judged (Rmdir path) judging = tt
takes_judged (Rename old new) judging = tt
takes_judged (OpenFile path access how) judging = tt
takes_judged (Fork words) judging = tt
takes_judged (MountPlain path flags) judging = tt
takes_judged (MountOverlay path options flags) judging = tt
takes_judged (Bind source path recursive) judging = tt
takes_judged (MoveMount source path) judging = tt
takes_judged (Umount path) judging = tt
takes_judged call judging = absurd judging

module _ (value : WorldValue) (name : TaskName) (asked : Call) (held : IsHeld value) (task : Task ℕ)
    (called : task_called (world_of value) name ≡ Some task) where
  tied : judge nat_eq (looks_of_value value) (overfills_of value) task (call_of asked)
      ≡ judge_in nat_eq (counts_from value.next) (world_of value) task (call_of asked)
  tied = judged_as_meant value task (call_of asked)

  abbrev by_code : Judgement ℕ
  by_code = judge nat_eq (looks_of_value value) (overfills_of value) task (call_of asked)

  pub permitted : (change : ℕ) (result : Result PermitValue Deny)
      → JudgesByReceivers (call_of asked) task by_code (grant_in result)
      → IfOk result (λ permit. kind_of (call_of asked) ≡ permit.call) → IfOk result (λ permit. permit.change ≡ change)
      → IfOk result (λ permit. IsPermitted value change name (call_of asked) permit)
  permitted change (Ok permit) judged named number = record {
    given = record { held = held; task = task; called = called; few_groups = few asked; judged = sym tied ∙ judged };
    named = named;
    number = number;
  }
  permitted change (Err deny) judged named number = tt

  pub denied : (result : Result PermitValue Deny) → JudgesByReceivers (call_of asked) task by_code (grant_in result)
      → (¬ IsJudgedWithMemory (call_of asked) → JudgesAlike task by_code (grant_in result))
      → IfErr result (λ deny. Ends value name (call_of asked) (Err deny) value)
  denied (Ok permit) judged alike = tt
  denied (Err deny) judged alike = refused value name (call_of asked) held task called
      (judge_in nat_eq (counts_from value.next) (world_of value) task (call_of asked)) refl deny
      (subst (λ j. JudgesByReceivers (call_of asked) task j (Err deny)) tied judged)
      (λ none. subst (λ j. JudgesAlike task j (Err deny)) tied
      (alike (λ judging. none (takes_judged (call_of asked) judging))))
