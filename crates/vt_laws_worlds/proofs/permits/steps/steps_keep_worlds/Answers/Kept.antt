-- One step of a program.
use Rattle.std.proofs.Common.{arith, ◌≡◌, subst, ℕ, ◌+◌, ◌%◌, nat_eq, true, false}
use Rattle.vt_spec.proofs.Common.{Mount, Permit, Serves, World, common_steps, list_all}
use Rattle.vt_laws_rules.specs.Numbers.{KeepsTo}
use Rattle.vt_laws_worlds.proofs.permits.in_use.InUseServes.{counts_serve_worlds, handed_numbers_serve_worlds}
use Rattle.vt_laws_worlds.proofs.permits.left.PermitsLeave.{given_permits_leave_worlds}
use Rattle.vt_laws_worlds.proofs.one_text.same.SameNumbers.{any_same_worlds_keep_to_numbers}
use Rattle.vt_laws_worlds.proofs.permits.same.SamePlain.{same_worlds_are_worlds}
use Rattle.vt_laws_worlds.proofs.permits.steps.steps_keep_worlds.Answers.Ungrouped.{left_free}
use Rattle.vt_laws_worlds.proofs.permits.taken.TakenGiven.{given_counts_go_on, no_overlay_given}
use Rattle.vt_laws_worlds.proofs.permits.taken.TakenJudged.{given_with_any_supply}
use Rattle.vt_laws_worlds.proofs.permits.taken.TakenNumbers.{counted_later}
use Rattle.vt_laws_worlds.specs.Permits.InUse.{is_in_use}
use Rattle.vt_laws_worlds.specs.Permits.Left.{left_by}
use Rattle.vt_laws_worlds.specs.Permits.Steps.{StepsAreGiven, StepsKeepWorlds, StepsStayUngrouped, makes_inode}
use Rattle.vt_laws_worlds.specs.Permits.Taken.{counts_taken, handed_to, is_ungrouped}
use Rattle.vt_laws_trees.specs.Runs.Handed.{counts_from, is_counted_before}

module _ (next inode : ℕ) (world : World ℕ) (counted : KeepsTo (is_counted_before next) world)
    (even : inode % 2 ≡ 0) where
  serves : (permit : Permit ℕ) → (makes_inode permit ≡ true → is_in_use world inode ≡ false)
      → Serves nat_eq world (handed_to next inode permit)
  serves permit unused = grind (arith, common_steps, handed_numbers_serve_worlds, counts_serve_worlds)

pub steps_are_given : StepsAreGiven
steps_are_given next inode world task permit step =
    given_with_any_supply world task permit (counts_from next) (handed_to next inode permit) step.whole
    (serves next inode world step.counted step.even permit step.unused) (record {
      serves = counts_serve_worlds next world step.counted;
      called = step.called;
      call = step.call;
      no_overlay = step.no_overlay;
      few_groups = step.few_groups;
      judged = step.judged;
    })

pub steps_keep_worlds : StepsKeepWorlds
steps_keep_worlds next inode later world task permit other step low same =
    let given = steps_are_given next inode world task permit step in
    let left = given_permits_leave_worlds world (handed_to next inode permit) task permit step.whole step.plain given in
    let after = same_worlds_are_worlds
    (left_by (handed_to next inode permit) world task permit) other same left.1 left.0 in
    record {
      whole = after.0;
      plain = after.1;
      counted = λ renaming leaves.
          any_same_worlds_keep_to_numbers (is_counted_before (next + counts_taken world task permit))
          (left_by (handed_to next inode permit) world task permit) other same
          (given_counts_go_on next inode world task permit step.even step.whole step.plain step.ungrouped step.counted
          given) renaming (λ number named.
          leaves number (counted_later (next + counts_taken world task permit) later number low named));
    }

pub steps_stay_ungrouped : StepsStayUngrouped
steps_stay_ungrouped next inode world task permit other step shared same =
    subst (λ mounts. list_all (λ (mount : Mount ℕ). is_ungrouped mount.propagation) mounts ≡ true) same.mounts
    (left_free world step.plain step.ungrouped task (handed_to next inode permit) permit
    (no_overlay_given world task permit (handed_to next inode permit) step.whole step.plain
    (steps_are_given next inode world task permit step)) shared)
