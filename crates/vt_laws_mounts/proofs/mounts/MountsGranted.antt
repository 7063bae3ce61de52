-- What a granted call leaves.
use Rattle.std.proofs.Common.{arith, ◌≡◌, refl, sym, ap, ◌∙◌, ℕ, nat_eq, Bool, true, false, not, ◌||◌, List, [], ◌∷◌, Some, is_ok, ok_or, Ok, Result, flat_map, inl, inr, is_some, map, subst, ◌⊎◌}
use Rattle.vt_spec.proofs.Common.{Answer, Call, Fresh, Mount, Outcome, Permit, Stop, Task, TaskName, World, after, apply, call_outcome, common_steps, denial, filesystems_changed_by, finished, finished_unless, judge_in, list_any, locations_of, looks_of, mount_lives, numbers_raised, only_looks, overfills, policy, raised_task, same_ok, settled, task_called, walk_end}
use Rattle.vt_spec.specs.declared.errors.Rule.TheVariants.{S2}
use Rattle.vt_laws_mounts.specs.Mounts.FileCalls.{HasLiving}
use Rattle.std.proofs.lemmas.List.Elements.{filter_agree}
use Rattle.vt_laws_rules.proofs.given.CallsGranted.{answered_holds}
use Rattle.vt_laws_rules.proofs.given.Ways.{IsGranted}

-- a walk ends at one place
pub one_end : {A : Type 0} (walk : Result A (Stop ℕ)) (a b : A) → walk ≡ Ok a → walk_end walk ≡ Ok b → a ≡ b
one_end walk a b e f = same_ok a b (cc)

-- a task with its change number raised is where it was
locations_raised : (name : TaskName) (task : Task ℕ) → locations_of (raised_task name task) ≡ locations_of task
locations_raised name task = grind (arith, common_steps)

all_locations_raised : (name : TaskName) (tasks : List (Task ℕ))
    → flat_map locations_of (map (raised_task name) tasks) ≡ flat_map locations_of tasks
all_locations_raised name [] = refl
all_locations_raised name (task ∷ tasks) = cc (locations_raised name task, all_locations_raised name tasks)

-- what lives after a call lives as its outcome leaves it
lives_then : (before world : World ℕ) (name : TaskName) (changed : List ℕ) (mount : Mount ℕ)
    → mount_lives nat_eq world mount
    ≡ mount_lives nat_eq (numbers_raised nat_eq before name changed (settled nat_eq world)) mount
lives_then before world name changed mount = ap (λ locations. is_some mount.namespace || list_any
    (λ location. nat_eq mount.number location.mount) locations) (sym (all_locations_raised name _))

living_then : (before world : World ℕ) (name : TaskName) (changed : List ℕ)
    → HasLiving (numbers_raised nat_eq before name changed (settled nat_eq world)) world.mounts
living_then before world name changed = filter_agree (mount_lives nat_eq world)
    (mount_lives nat_eq (numbers_raised nat_eq before name changed (settled nat_eq world)))
    (lives_then before world name changed) world.mounts

-- a call leaves its outcome's world, or that without the dead
finished_leaves : (b : Bool) (before : World ℕ) (name : TaskName) (changed : List ℕ) (outcome : Outcome ℕ)
    → ((finished_unless nat_eq b before name changed outcome).world.mounts ≡ outcome.world.mounts)
    ⊎ HasLiving (finished_unless nat_eq b before name changed outcome).world outcome.world.mounts
finished_leaves true before name changed outcome = inl refl
finished_leaves false before name changed outcome = inr (living_then before outcome.world name changed)

pub policy_leaves : (fresh : Fresh ℕ) (world : World ℕ) (name : TaskName) (call : Call)
    → ((task : Task ℕ) → (call_outcome nat_eq fresh world task call).world.mounts ≡ world.mounts)
    → ((policy nat_eq fresh world name call).world.mounts ≡ world.mounts)
    ⊎ HasLiving (policy nat_eq fresh world name call).world world.mounts
policy_leaves fresh world name call leaves = grind (arith, common_steps, finished_leaves)

module _ (fresh : Fresh ℕ) (world : World ℕ) (name : TaskName) (task : Task ℕ) (call : Call)
    (is : task_called world name ≡ Some task) where
  abbrev changed : Task ℕ → List ℕ
  changed one = filesystems_changed_by nat_eq world (judge_in nat_eq fresh world one call)

  policy_is : policy nat_eq fresh world name call ≡ finished nat_eq world name call (changed task)
      (call_outcome nat_eq fresh world task call)
  policy_is = ap (λ found. after world (ok_or found (denial S2))
      (λ t. finished nat_eq world name call (changed t) (call_outcome nat_eq fresh world t call))) is

  answer_stays : (b : Bool) (outcome : Outcome ℕ)
      → (finished_unless nat_eq b world name (changed task) outcome).answer ≡ outcome.answer
  answer_stays true outcome = refl
  answer_stays false outcome = refl

  -- a call is answered as its outcome is
  pub answered : (policy nat_eq fresh world name call).answer ≡ (call_outcome nat_eq fresh world task call).answer
  answered = ap (λ o. o.answer) policy_is ∙ answer_stays _ _

  -- where it is granted, and does not only look, the dead mounts are gone
  pub settles : (answer : Answer) → only_looks call ≡ false → (policy nat_eq fresh world name call).answer ≡ Ok answer
      → HasLiving (policy nat_eq fresh world name call).world (call_outcome nat_eq fresh world task call).world.mounts
  settles answer looks e =
      let outcome = call_outcome nat_eq fresh world task call in
      let ends : policy nat_eq fresh world name call ≡ finished_unless nat_eq false world name (changed task) outcome =
      cc (policy_is, looks)
      ∙ ap (λ a. finished_unless nat_eq (not (is_ok a)) world name (changed task) outcome) (sym answered ∙ e) in
      subst (λ o. HasLiving o.world outcome.world.mounts) (sym ends)
      (living_then world outcome.world name (changed task))

-- a call that leaves these mounts, where it is granted
pub leaves_mounts : (fresh : Fresh ℕ) (world : World ℕ) (name : TaskName) (task : Task ℕ) (call : Call)
    (left : List (Mount ℕ)) (answer : Answer) → only_looks call ≡ false → ((permit : Permit ℕ)
    → IsGranted nat_eq (looks_of nat_eq world) (overfills nat_eq fresh world task) task call permit
    → (apply nat_eq fresh world task permit).world.mounts ≡ left)
    → task_called world name ≡ Some task → (policy nat_eq fresh world name call).answer ≡ Ok answer
    → HasLiving (policy nat_eq fresh world name call).world left
leaves_mounts fresh world name task call left answer looks makes is e =
    subst (HasLiving (policy nat_eq fresh world name call).world)
    (answered_holds (λ later. later.mounts ≡ left) fresh world task call answer
    (sym (answered fresh world name task call is) ∙ e) makes) (settles fresh world name task call is answer looks e)
