-- How the policy ends a call that is judged, change numbers aside.
use Rattle.std.proofs.Common.{◌≡◌, refl, sym, ap, subst, ◌∙◌, ℕ, Bool, true, false, cond, nat_eq, List, [], ◌∷◌, map, Some, Ok, Err, ok_or, ◌||◌, not, is_ok}
use Rattle.vt_spec.proofs.Common.{Allowed, Answer, Call, FileTree, Filesystem, Fresh, Judgement, Outcome, Permit, SameFiles, SameFilesystems, SameWorlds, Task, TaskName, World, after, apply, call_outcome, denial, filesystems_changed_by, finished, finished_unless, judge_in, only_looks, policy, settled, task_called, without_changes}
use Rattle.vt_spec.specs.declared.errors.Deny.{Deny}
use Rattle.vt_spec.specs.declared.errors.Rule.TheVariants.{S2}
use Rattle.vt_laws_rules.proofs.judged.CallsJudged.{call_is_judged_then_applied}
use Rattle.vt_laws_rules.proofs.judged.NumbersRaised.{last_step_raises_numbers_alone}
use Rattle.vt_laws_rules.proofs.denials.Unchanged.{look_changes_nothing}
use Rattle.vt_laws_trees.proofs.runs.answered.AlikeWorlds.{files_itself, sameness_is_an_equivalence}

-- Worlds that are one but for change numbers are the same.
abbrev bare : Filesystem ℕ → Filesystem ℕ
bare filesystem = record filesystem { change = 0 }

files_same : (ones others : List (Filesystem ℕ)) → map bare ones ≡ map bare others → SameFilesystems ones others
files_same [] [] e = tt
files_same [] (other ∷ others) e = absurd cc
files_same (one ∷ ones) [] e = absurd cc
files_same (one ∷ ones) (other ∷ others) e =
    let first : bare one ≡ bare other = cc in
    let rest : map bare ones ≡ map bare others = cc in (
      record {
        number = ap (λ (f : Filesystem ℕ). f.number) first;
        files = subst (λ (files : FileTree ℕ). SameFiles one.files files) (ap (λ (f : Filesystem ℕ). f.files) first)
            (files_itself one.files);
        overlay = ap (λ (f : Filesystem ℕ). f.overlay) first;
      },
      files_same ones others rest,
    )

pub same_but_for_changes : (one other : World ℕ) → without_changes one ≡ without_changes other → SameWorlds one other
same_but_for_changes one other e = record {
  mounts = ap (λ (w : World ℕ). w.mounts) e;
  master = ap (λ (w : World ℕ). w.master) e;
  filesystems = files_same one.filesystems other.filesystems (ap (λ (w : World ℕ). w.filesystems) e);
  namespaces = ap (λ (w : World ℕ). w.namespaces) e;
  tasks = ap (λ (w : World ℕ). w.tasks) e;
}

-- what is applied is granted
pub grants : (fresh : Fresh ℕ) (world : World ℕ) (task : Task ℕ) (permit : Permit ℕ)
    → (answer : Answer) × ((apply nat_eq fresh world task permit).answer ≡ Ok answer)
grants fresh world task Allowed = (_, refl)
grants fresh world task permit = (_, refl)

-- the call of a task that exists
module _ (fresh : Fresh ℕ) (world : World ℕ) (name : TaskName) (task : Task ℕ) (call : Call)
    (called : task_called world name ≡ Some task) where
  -- its outcome is that of its judgement
  outcome_is : (judged : Judgement ℕ) → judge_in nat_eq fresh world task call ≡ judged
      → call_outcome nat_eq fresh world task call ≡ after world judged (apply nat_eq fresh world task)
  outcome_is judged e =
      call_is_judged_then_applied fresh world task call ∙ ap (λ j. after world j (apply nat_eq fresh world task)) e

  -- the policy answers as it is judged
  pub answers : (judged : Judgement ℕ) → judge_in nat_eq fresh world task call ≡ judged
      → (policy nat_eq fresh world name call).answer ≡ (after world judged (apply nat_eq fresh world task)).answer
  answers judged e = (last_step_raises_numbers_alone fresh world name task call called).0
      ∙ ap (λ (o : Outcome ℕ). o.answer) (outcome_is judged e)

  pub refuses : (deny : Deny) → judge_in nat_eq fresh world task call ≡ Err deny
      → (policy nat_eq fresh world name call).answer ≡ Err deny
  refuses deny e = answers (Err deny) e

  abbrev changed : List ℕ
  changed = filesystems_changed_by nat_eq world (judge_in nat_eq fresh world task call)

  policy_is : policy nat_eq fresh world name call
      ≡ finished nat_eq world name call changed (call_outcome nat_eq fresh world task call)
  policy_is = ap (λ found. after world (ok_or found (denial S2)) (λ one.
      finished nat_eq world name call (filesystems_changed_by nat_eq world (judge_in nat_eq fresh world one call))
      (call_outcome nat_eq fresh world one call))) called

  -- and what it leaves is the world in which the permit was applied, with what nothing uses gone
  pub leaves : (permit : Permit ℕ) → judge_in nat_eq fresh world task call ≡ Ok permit → settled nat_eq world ≡ world
      → SameWorlds (policy nat_eq fresh world name call).world
      (settled nat_eq (apply nat_eq fresh world task permit).world)
  leaves permit e in_use = by (only_looks call) refl
    where
      outcome : Outcome ℕ
      outcome = call_outcome nat_eq fresh world task call

      applied : outcome ≡ apply nat_eq fresh world task permit
      applied = outcome_is (Ok permit) e

      ok : is_ok outcome.answer ≡ true
      ok = ap (λ (o : Outcome ℕ). is_ok o.answer) applied ∙ ap is_ok (grants fresh world task permit).1

      by : (b : Bool) → only_looks call ≡ b → SameWorlds (policy nat_eq fresh world name call).world
          (settled nat_eq (apply nat_eq fresh world task permit).world)
      by true looks =
          let left : (policy nat_eq fresh world name call).world
          ≡ world = look_changes_nothing fresh world name call looks in
          let same : policy nat_eq fresh world name call ≡ outcome =
          policy_is ∙ ap (λ b. finished_unless nat_eq (b || not (is_ok outcome.answer)) world name changed outcome) looks in
          let kept : (apply nat_eq fresh world task permit).world ≡ world =
          ap (λ (o : Outcome ℕ). o.world) (sym applied) ∙ ap (λ (o : Outcome ℕ). o.world) (sym same) ∙ left in
          let ends : settled nat_eq (apply nat_eq fresh world task permit).world ≡ world = ap (settled nat_eq) kept
          ∙ in_use in
          subst (λ w. SameWorlds w (settled nat_eq (apply nat_eq fresh world task permit).world)) (sym left)
          (subst (λ w. SameWorlds world w) (sym ends) (sameness_is_an_equivalence.itself world))
      by false looks =
          let left : (cond (only_looks call || not (is_ok outcome.answer)) outcome.world (settled nat_eq outcome.world))
          ≡ settled nat_eq outcome.world =
          ap (λ b. cond (b || not (is_ok outcome.answer)) outcome.world (settled nat_eq outcome.world)) looks
          ∙ ap (λ b. cond (not b) outcome.world (settled nat_eq outcome.world)) ok in
          let raised : without_changes (policy nat_eq fresh world name call).world
          ≡ without_changes (settled nat_eq outcome.world) =
          (last_step_raises_numbers_alone fresh world name task call called).1 ∙ ap without_changes left in
          subst (λ (o : Outcome ℕ). SameWorlds (policy nat_eq fresh world name call).world
          (settled nat_eq o.world)) applied
          (same_but_for_changes (policy nat_eq fresh world name call).world (settled nat_eq outcome.world) raised)
