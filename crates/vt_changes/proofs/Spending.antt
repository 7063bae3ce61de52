-- Values of a kernel with its numbers before and after a call.
use Rattle.std.proofs.Common.{◌≡◌, ◌≤◌, ◌<◌, ◌+◌, sym, ap, subst, ◌∙◌, ℕ, arith, nat_eq, true, false, true≢false, cond, List, Option, option_map, option_to_list, Result, Ok, Err, OnOk, IsOk}
use Rattle.std.specs.List.{list_any}
use Rattle.std.specs.declared.vec.Vec.{Vec}
use Rattle.vt_spec.proofs.Common.{Call, IsWorld, Task, TaskName, filesystems_changed, only_looks, raised, same_name}
use Rattle.vt_spec.specs.declared.errors.Deny.{Deny}
use Rattle.vt_laws_turns.specs.Dated.{AreOfTheLiving}
use Rattle.vt_request.specs.declared.answer.Answer.{Answer}
use Rattle.vt_permits.specs.GrantValue.{permit_of}
use Rattle.vt_permits.specs.declared.grant.Grant.{Grant}
use Rattle.vt_answers.specs.Ends as any
use Rattle.vt_answers.specs.Ends.{change_after}
use Rattle.vt_location.specs.Numbers.{filesystem_number, namespace_number}
use Rattle.vt_location.specs.declared.numbers.FilesystemId.{FilesystemId}
use Rattle.vt_location.specs.declared.numbers.NamespaceId.{NamespaceId}
use Rattle.vt_world.specs.Held.{IsHeld}
use Rattle.vt_world.specs.WorldValue.{WorldValue, world_of}
use Rattle.vt_calls.specs.KernelValue.{KernelValue, kernel_world}
use Rattle.vt_changes.specs.DatedValue.{DatedValue, dated_world, dates_of}
use Rattle.vt_changes.specs.Ends.{EndsDated}
use Rattle.vt_changes.specs.Following.{Follows, has_filesystem, has_namespace, has_task, if_there, raised_if}
use Rattle.vt_changes.specs.Kept.{dates_kept, is_filesystem, is_named, is_namespace, named_entries, number_by, numbered_entries}
use Rattle.vt_changes.specs.SeenMounts.{mounts_kept, mounts_seen, same_all}
use Rattle.vt_changes.specs.declared.mounts.Seen.{Seen}
use Rattle.vt_changes.proofs.Ended.{dated_is, ends_looked, ends_refused, living_looked, looked_is}
use Rattle.vt_changes.proofs.Kept.{followed}

-- a value whose parts stay
pub parts_same : (old : DatedValue) (kernel : KernelValue) (tasks : List (TaskName × ℕ))
    (namespaces filesystems : List (ℕ × ℕ)) → kernel ≡ old.kernel → tasks ≡ old.tasks → namespaces ≡ old.namespaces
    → filesystems ≡ old.filesystems
    → record { kernel = kernel; tasks = tasks; namespaces = namespaces; filesystems = filesystems } ≡ old
parts_same old kernel tasks namespaces filesystems k t n f =
    λ i. record { kernel = k i; tasks = t i; namespaces = n i; filesystems = f i }

-- what does not exist has no number still
pub living_still : (old new : DatedValue) → new ≡ old → AreOfTheLiving (dates_of old) (kernel_world old.kernel)
    → AreOfTheLiving (dates_of new) (kernel_world new.kernel)
living_still old new same living =
    subst (λ (value : DatedValue). AreOfTheLiving (dates_of value) (kernel_world value.kernel)) (sym same) living

-- a call that only looks
module _ (old : DatedValue) (held : IsHeld old.kernel.world) (name : TaskName) (call : Call) (kernel : KernelValue)
    (looks : only_looks call ≡ true) where
  pub looked_ends : (result : Result Answer Deny) → any.Ends kernel_world old.kernel name call result kernel
      → OnOk result (kernel.change ≡ change_after call old.kernel.change)
      → EndsDated old name call result (record old { kernel = kernel })
  looked_ends (Ok answer) ends change = ends_looked old held name call answer kernel ends looks
      (change ∙ ap (λ b. cond b old.kernel.change (raised old.kernel.change)) looks)
  looked_ends (Err deny) ends change = ends_refused old held name call deny kernel (record old { kernel = kernel })
      (λ i. record old { kernel = ends.outcome.1 i }) ends

  pub looked_in_world : (result : Result Answer Deny) → any.Ends kernel_world old.kernel name call result kernel
      → OnOk result (kernel.change ≡ change_after call old.kernel.change)
      → IsWorld nat_eq (dated_world (record old { kernel = kernel }))
  looked_in_world (Ok answer) ends change = looked_is old held name call answer kernel ends looks
      (change ∙ ap (λ b. cond b old.kernel.change (raised old.kernel.change)) looks)
  looked_in_world (Err deny) ends change = dated_is (record old { kernel = kernel })
      (subst (λ (k : KernelValue). IsHeld k.world) (sym ends.outcome.1) held)

  pub looked_living : (result : Result Answer Deny) → any.Ends kernel_world old.kernel name call result kernel
      → OnOk result (kernel.change ≡ change_after call old.kernel.change)
      → AreOfTheLiving (dates_of old) (kernel_world old.kernel) → AreOfTheLiving (dates_of old) (kernel_world kernel)
  looked_living (Ok answer) ends change living = living_looked old held name call answer kernel ends looks
      (change ∙ ap (λ b. cond b old.kernel.change (raised old.kernel.change)) looks) living
  looked_living (Err deny) ends change living =
      subst (λ (k : KernelValue). AreOfTheLiving (dates_of old) (kernel_world k)) (sym ends.outcome.1) living

-- there is room
pub with_room : {A E : Type 0} {P : Type 0} (room : Result A E) → IsOk room → OnOk room P → P
with_room (Ok a) is there = there
with_room (Err e) is there = absurd (true≢false (sym is))

pub enough : (needed there room : ℕ) → needed ≤ there + 1 → there < room → needed ≤ room
enough needed there room few free = omega (arith, few, free)

-- the numbers that are kept follow a permit that is spent
module _ {A : Type 0} (seen later : KernelValue) (name : TaskName) (task : Task ℕ) (grant lent : Grant)
    (same_grant : lent ≡ grant) (world left : WorldValue) (same_world : world ≡ seen.world)
    (same_left : left ≡ later.world) where
  pub follows_spent : (filesystem : Option FilesystemId)
      → ((task : Task ℕ) → option_to_list (option_map filesystem_number filesystem)
      ≡ filesystems_changed nat_eq (world_of world) (permit_of task lent))
      → (before : List (NamespaceId × Vec Seen A))
      → ((number : ℕ) → mounts_kept before number ≡ mounts_seen (world_of world) number)
      → (tasks reserved after : List (Vec ℕ A × ℕ)) → reserved ≡ tasks
      → ((other : TaskName) → number_by (is_named other) after ≡ cond (same_name name other)
      (if_there (has_task (world_of left) name) (raised (number_by (is_named other) reserved)))
      (number_by (is_named other) reserved))
      → (namespaces reserved_namespaces after_namespaces : List (NamespaceId × ℕ)) → reserved_namespaces ≡ namespaces
      → ((number : ℕ) → number_by (is_namespace number) after_namespaces
      ≡ if_there (has_namespace (world_of left) number)
      (cond (same_all (mounts_kept before number) (mounts_seen (world_of left) number))
      (number_by (is_namespace number) reserved_namespaces)
      (raised (number_by (is_namespace number) reserved_namespaces))))
      → (filesystems reserved_filesystems after_filesystems : List (FilesystemId × ℕ))
      → reserved_filesystems ≡ filesystems
      → ((number : ℕ) → number_by (is_filesystem number) after_filesystems
      ≡ if_there (has_filesystem (world_of left) number)
      (raised_if (list_any (λ one. nat_eq one number) (option_to_list (option_map filesystem_number filesystem)))
      (number_by (is_filesystem number) reserved_filesystems)))
      → Follows (kernel_world seen) (kernel_world later) name
      (filesystems_changed nat_eq (world_of seen.world) (permit_of task grant))
      (dates_kept (named_entries tasks) (numbered_entries namespace_number namespaces)
      (numbered_entries filesystem_number filesystems))
      (dates_kept (named_entries after) (numbered_entries namespace_number after_namespaces)
      (numbered_entries filesystem_number after_filesystems))
  follows_spent filesystem told before kept tasks reserved after t numbers namespaces reserved_namespaces
      after_namespaces n numbers_of_namespaces filesystems reserved_filesystems after_filesystems f
      numbers_of_filesystems =
      followed (kernel_world seen) (kernel_world later) name
      (filesystems_changed nat_eq (world_of seen.world) (permit_of task grant)) filesystem
      (told task ∙ (λ i. filesystems_changed nat_eq (world_of (same_world i)) (permit_of task (same_grant i))))
      (mounts_kept before)
      (λ number. kept number ∙ ap (λ (value : WorldValue). mounts_seen (world_of value) number) same_world)
      tasks reserved after t
      (λ other. numbers other ∙ ap (λ (value : WorldValue). cond (same_name name other)
      (if_there (has_task (world_of value) name) (raised (number_by (is_named other) reserved)))
      (number_by (is_named other) reserved)) same_left)
      namespaces reserved_namespaces after_namespaces n
      (λ number. numbers_of_namespaces number
      ∙ ap (λ (value : WorldValue). if_there (has_namespace (world_of value) number)
      (cond (same_all (mounts_kept before number) (mounts_seen (world_of value) number))
      (number_by (is_namespace number) reserved_namespaces)
      (raised (number_by (is_namespace number) reserved_namespaces)))) same_left)
      filesystems reserved_filesystems after_filesystems f
      (λ number. numbers_of_filesystems number
      ∙ ap (λ (value : WorldValue). if_there (has_filesystem (world_of value) number)
      (raised_if (list_any (λ one. nat_eq one number) (option_to_list (option_map filesystem_number filesystem)))
      (number_by (is_filesystem number) reserved_filesystems))) same_left)
