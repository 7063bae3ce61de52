-- What lines, looks and directives leave as it was.
use Rattle.std.proofs.Common.{◌≡◌, refl, ℕ, nat_eq, Bool, true, ◌||◌, List, Option, Some, None, IfErr, ok_or, arith}
use Rattle.vt_spec.proofs.Common.{Answered, Asking, Call, Calling, Fresh, Grammar, Outcome, Permit, Request, Silent, Step, Task, TaskName, World, apply, call_outcome, denial, finished_unless, line_step_by, looks_of, only_looks, overfills, requested, spoken_step, task_called, common_steps}
use Rattle.vt_laws_rules.proofs.rules.Outcomes.{after_keeps, error_is}
use Rattle.vt_laws_rules.proofs.rules.OwnRules.{policy_refuses_own}
use Rattle.vt_laws_rules.specs.Denials.{DeniedLineChangesNothing, DirectiveChangesNothing, LookChangesNothing, RefusedMemoryChangesNothing}
use Rattle.vt_spec.specs.declared.errors.Rule.TheVariants.{S2}
use Rattle.vt_laws_rules.proofs.given.CallsGranted.{call_holds}
use Rattle.vt_laws_rules.proofs.given.Ways.{IsGranted}
use Rattle.vt_laws_rules.proofs.given.Ways.IsGranted.{lists_directory, lists_mounts, may_execute, reads_file, reads_part, reads_symlink, shows_object, shows_symlink}

pub directive_changes_nothing : DirectiveChangesNothing
directive_changes_nothing world directive = grind (arith, common_steps)

-- what a call that only looks is permitted leaves the world
looks_keep : (fresh : Fresh ℕ) (world : World ℕ) (task : Task ℕ) (call : Call) (permit : Permit ℕ)
    → only_looks call ≡ true
    → IsGranted nat_eq (looks_of nat_eq world) (overfills nat_eq fresh world task) task call permit
    → (apply nat_eq fresh world task permit).world ≡ world
looks_keep fresh world task call permit e (lists_directory path here end passed) = refl
looks_keep fresh world task call permit e (shows_object path here end) = refl
looks_keep fresh world task call permit e (shows_symlink path here end) = refl
looks_keep fresh world task call permit e (reads_symlink path here end passed) = refl
looks_keep fresh world task call permit e (reads_file path here end passed) = refl
looks_keep fresh world task call permit e (may_execute path here end passed) = refl
looks_keep fresh world task call permit e (reads_part number offset size descriptor found) = refl
looks_keep fresh world task call permit e lists_mounts = refl
looks_keep fresh world task call permit e granted = cc

-- no change number is raised by a look
unraised : (looks granted : Bool) (world : World ℕ) (name : TaskName) (changed : List ℕ) (outcome : Outcome ℕ)
    → looks ≡ true → outcome.world ≡ world
    → (finished_unless nat_eq (looks || granted) world name changed outcome).world ≡ world
unraised looks granted world name changed outcome e same = cc

pub look_changes_nothing : LookChangesNothing
look_changes_nothing fresh world name call looks =
    after_keeps world (ok_or (task_called world name) (denial S2)) _ (λ task.
    unraised (only_looks call) _ world name _ (call_outcome nat_eq fresh world task call) looks
    (call_holds (λ left. left ≡ world) fresh world task call refl (λ permit granted.
    looks_keep fresh world task call permit looks granted)))

-- an outcome that is a denial has left the world
abbrev KeepsIfDenied : World ℕ → Outcome ℕ → Type 0
KeepsIfDenied world outcome = IfErr outcome.answer (λ deny. outcome.world ≡ world)

abbrev StepKeepsIfDenied : World ℕ → Step ℕ → Type 0
StepKeepsIfDenied world Silent = Unit {0}
StepKeepsIfDenied world (Answered outcome) = KeepsIfDenied world outcome

request_keeps : (world : World ℕ) (request : Option Request) (fresh : Fresh ℕ)
    → KeepsIfDenied world (requested nat_eq world request fresh)
request_keeps world None fresh = refl
request_keeps world (Some (Calling task call)) fresh = (policy_refuses_own fresh world task call).0
request_keeps world (Some (Asking directive)) fresh = grind (arith, common_steps)

spoken_keeps : (grammar : Grammar) (world : World ℕ) (line : List ℕ) (fresh : Option (Fresh ℕ))
    → StepKeepsIfDenied world (spoken_step nat_eq grammar world line fresh)
spoken_keeps grammar world line fresh = grind (arith, common_steps, request_keeps)

line_keeps : (long silent : Bool) (grammar : Grammar) (world : World ℕ) (line : List ℕ) (fresh : Option (Fresh ℕ))
    → StepKeepsIfDenied world (line_step_by nat_eq long silent grammar world line fresh)
line_keeps long silent grammar world line fresh = grind (arith, common_steps, spoken_keeps)

pub denied_line_changes_nothing : DeniedLineChangesNothing
denied_line_changes_nothing grammar world line fresh outcome deny steps e =
    grind (arith, common_steps, error_is, line_keeps)

pub refused_memory_changes_nothing : RefusedMemoryChangesNothing
refused_memory_changes_nothing grammar world line = grind (arith, common_steps)
