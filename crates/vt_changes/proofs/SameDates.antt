-- A world with change numbers beside it is the same as without them, and has the same tasks, namespaces and filesystems.
use Rattle.std.proofs.Common.{◌≡◌, refl, sym, ap, ◌∙◌, ℕ, nat_eq, Bool, List, [], ◌∷◌, map, find, Option, Some, None, is_some}
use Rattle.vt_spec.proofs.Common.{Filesystem, Namespace, SameWorlds, Task, TaskName, World, none_from_not_some}
use Rattle.vt_laws_rules.specs.Numbers.{Allotment}
use Rattle.vt_laws_trees.proofs.runs.Each.{IfAny, each_find}
use Rattle.vt_laws_trees.proofs.runs.answered.AlikeChanges.{task_alike}
use Rattle.vt_laws_trees.proofs.runs.answered.AlikeWorlds.{Alike, SameNamespace, SameTask, alike_from_same}
use Rattle.vt_laws_trees.specs.Runs.Handed.{may_be_given}
use Rattle.vt_laws_trees.specs.Runs.Runs.{ServesInHand}
use Rattle.vt_laws_worlds.proofs.one_text.same.SameNumbers.{any_same_worlds_keep_to_numbers}
use Rattle.vt_laws_turns.specs.Dated.{AreOfTheLiving, Dates, dated}
use Rattle.vt_spec.specs.Machine.SameWorlds.{SameFilesystem}
use Rattle.vt_calls.proofs.Finishing.{same_but_for_changes}
use Rattle.vt_changes.specs.Following.{has_filesystem, has_namespace, has_task}

module _ (dates : Dates) where
  tasks_bare : (tasks : List (Task ℕ))
      → map (λ (t : Task ℕ). record t { change = 0 })
      (map (λ (t : Task ℕ). record t { change = dates.tasks t.name }) tasks)
      ≡ map (λ (t : Task ℕ). record t { change = 0 }) tasks
  tasks_bare [] = refl
  tasks_bare (task ∷ rest) = ap (λ list. record task { change = 0 } ∷ list) (tasks_bare rest)

  namespaces_bare : (namespaces : List (Namespace ℕ))
      → map (λ (n : Namespace ℕ). record n { change = 0 })
      (map (λ (n : Namespace ℕ). record n { change = dates.namespaces n.number }) namespaces)
      ≡ map (λ (n : Namespace ℕ). record n { change = 0 }) namespaces
  namespaces_bare [] = refl
  namespaces_bare (namespace ∷ rest) = ap (λ list. record namespace { change = 0 } ∷ list) (namespaces_bare rest)

  filesystems_bare : (filesystems : List (Filesystem ℕ))
      → map (λ (f : Filesystem ℕ). record f { change = 0 })
      (map (λ (f : Filesystem ℕ). record f { change = dates.filesystems f.number }) filesystems)
      ≡ map (λ (f : Filesystem ℕ). record f { change = 0 }) filesystems
  filesystems_bare [] = refl
  filesystems_bare (filesystem ∷ rest) =
      ap (λ list. record filesystem { change = 0 } ∷ list) (filesystems_bare rest)

  pub same_dated : (world : World ℕ) → SameWorlds world (dated dates world)
  same_dated world = same_but_for_changes world (dated dates world) (λ i. record world {
    filesystems = sym (filesystems_bare world.filesystems) i;
    namespaces = sym (namespaces_bare world.namespaces) i;
    tasks = sym (tasks_bare world.tasks) i;
    change = 0;
  })

-- the same numbers serve worlds that are the same
pub serves_same : (one other : World ℕ) → SameWorlds one other → (allotment : Allotment)
    → ServesInHand may_be_given one allotment → ServesInHand may_be_given other allotment
serves_same one other same allotment it = record {
  serves = record {
    from_hand = it.serves.from_hand;
    keeps = any_same_worlds_keep_to_numbers _ one other same it.serves.keeps;
  };
  stays = it.stays;
}

any_there : {A B : Type 0} (R : A → B → Type 0) (o : Option A) (p : Option B) → IfAny R o p → is_some o ≡ is_some p
any_there R None None alike = refl
any_there R None (Some b) alike = absurd alike
any_there R (Some a) None alike = absurd alike
any_there R (Some a) (Some b) alike = refl

-- the same is there in both
module _ (one other : World ℕ) (same : SameWorlds one other) where
  alike : Alike one other
  alike = alike_from_same one other same

  pub same_has_task : (name : TaskName) → has_task one name ≡ has_task other name
  same_has_task name = any_there SameTask _ _ (task_alike one other alike name)

  pub same_has_namespace : (number : ℕ) → has_namespace one number ≡ has_namespace other number
  same_has_namespace number = any_there SameNamespace _ _ (each_find SameNamespace
      (λ (n : Namespace ℕ). nat_eq number n.number) (λ (n : Namespace ℕ). nat_eq number n.number)
      (λ a b bare. ap (λ (n : Namespace ℕ). nat_eq number n.number) bare) one.namespaces other.namespaces
      alike.namespaces)

  pub same_has_filesystem : (number : ℕ) → has_filesystem one number ≡ has_filesystem other number
  same_has_filesystem number = any_there SameFilesystem _ _ (each_find SameFilesystem
      (λ (f : Filesystem ℕ). nat_eq number f.number) (λ (f : Filesystem ℕ). nat_eq number f.number)
      (λ a b bare. ap (nat_eq number) bare.number) one.filesystems other.filesystems alike.filesystems)

  -- so what does not exist in the other has no number
  pub living_same : (dates : Dates) → AreOfTheLiving dates one → AreOfTheLiving dates other
  living_same dates living = record {
    tasks = λ name none. living.tasks name (none_from_not_some _ (same_has_task name ∙ ap is_some none));
    namespaces = λ number none.
        living.namespaces number (none_from_not_some _ (same_has_namespace number ∙ ap is_some none));
    filesystems = λ number none.
        living.filesystems number (none_from_not_some _ (same_has_filesystem number ∙ ap is_some none));
  }
