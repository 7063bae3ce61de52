-- The change numbers that are told of a kernel are those of its world.
use Rattle.std.proofs.Common.{◌≡◌, refl, sym, ap, ◌∙◌, ℕ, nat_eq, Bool, true, false, cond, List, [], ◌∷◌, map, find, is_some, option_copied, option_map, Bor, Option, Some, None, unwrap_or, eqb-true}
use Rattle.std.specs.declared.vec.Vec.{Vec}
use Rattle.vt_spec.proofs.Common.{Filesystem, Namespace, Task, TaskName, World, same_name, same_task_name, task_called}
use Rattle.vt_spec.specs.Machine.Turns.{filesystem_change_of, last_number, namespace_change_of}
use Rattle.vt_laws_turns.specs.Dated.{AreOfTheLiving, Dates, dated, no_dates}
use Rattle.vt_answers.specs.Numbers.{IsOpened}
use Rattle.vt_location.specs.declared.numbers.FilesystemId.{FilesystemId}
use Rattle.vt_location.specs.declared.numbers.NamespaceId.{NamespaceId}
use Rattle.vt_location.specs.Numbers.{filesystem_number, namespace_number}
use Rattle.vt_world.specs.WorldValue.{world_of}
use Rattle.vt_calls.specs.KernelValue.{KernelValue, kernel_world}
use Rattle.vt_changes.specs.DatedValue.{DatedValue, dated_world, dates_of}
use Rattle.vt_changes.specs.Following.{has_filesystem, has_namespace, has_task}
use Rattle.vt_changes.specs.Kept.{dates_kept, named_entries, number_by, numbered_entries}

-- the opening world, before any number is kept
pub opened_dated : (kernel : KernelValue) → IsOpened (kernel_world kernel) → (value : DatedValue)
    → value ≡ record { kernel = kernel; tasks = []; namespaces = []; filesystems = [] } → IsOpened (dated_world value)
opened_dated kernel (fresh, opens, is) value e =
    (fresh, opens, ap dated_world e ∙ ap (λ (w : World ℕ). dated no_dates w) is)

pub none_living : {A : Type 0} (tasks : List (Vec ℕ A × ℕ)) (namespaces : List (NamespaceId × ℕ))
    (filesystems : List (FilesystemId × ℕ)) → tasks ≡ [] → namespaces ≡ [] → filesystems ≡ [] → (world : World ℕ)
    → AreOfTheLiving (dates_kept (named_entries tasks) (numbered_entries namespace_number namespaces)
    (numbered_entries filesystem_number filesystems)) world
none_living tasks namespaces filesystems t n f world = record {
  tasks = λ name none. ap (λ list. number_by (same_name name) (named_entries list)) t;
  namespaces = λ number none. ap (λ list. number_by (nat_eq number) (numbered_entries namespace_number list)) n;
  filesystems = λ number none. ap (λ list. number_by (nat_eq number) (numbered_entries filesystem_number list)) f;
}

-- what is lent is there if it is told
pub lent_there : {A B : Type 0} (f : A → B) (found : Option (Bor A)) (told : Option B)
    → option_map f (option_copied found) ≡ told → is_some told ≡ is_some found
lent_there f None told e = ap is_some (sym e)
lent_there f (Some a) told e = ap is_some (sym e)

-- a list with change numbers
module _ {A : Type 0} (test : A → Bool) (with_number : A → A) (change : A → ℕ) (number : ℕ)
    (keeps : (a : A) → test (with_number a) ≡ test a)
    (is : (a : A) → test a ≡ true → change (with_number a) ≡ number) where
  pub told_there : (list : List A) → is_some (find test list) ≡ true
      → Some number ≡ option_map change (find test (map with_number list))
  told_there [] some = absurd cc
  told_there (a ∷ rest) some = by (test a) refl some (told_there rest)
    where
      by : (b : Bool) → test a ≡ b → is_some (cond b (Some a) (find test rest)) ≡ true
          → (is_some (find test rest) ≡ true → Some number ≡ option_map change (find test (map with_number rest)))
          → Some number
          ≡ option_map change (cond (test (with_number a)) (Some (with_number a)) (find test (map with_number rest)))
      by true e there next = ap Some (sym (is a e)) ∙ ap (λ b. option_map change
          (cond b (Some (with_number a)) (find test (map with_number rest)))) (sym (keeps a ∙ e))
      by false e there next = next there ∙ ap (λ b. option_map change
          (cond b (Some (with_number a)) (find test (map with_number rest)))) (sym (keeps a ∙ e))

  pub none_there : (list : List A) → is_some (find test list) ≡ false
      → None ≡ option_map change (find test (map with_number list))
  none_there [] none = refl
  none_there (a ∷ rest) none = by (test a) refl none (none_there rest)
    where
      by : (b : Bool) → test a ≡ b → is_some (cond b (Some a) (find test rest)) ≡ false
          → (is_some (find test rest) ≡ false → None ≡ option_map change (find test (map with_number rest)))
          → None
          ≡ option_map change (cond (test (with_number a)) (Some (with_number a)) (find test (map with_number rest)))
      by true e there next = absurd cc
      by false e there next = next there ∙ ap (λ b. option_map change
          (cond b (Some (with_number a)) (find test (map with_number rest)))) (sym (keeps a ∙ e))

module _ (value : DatedValue) where
  abbrev world : World ℕ
  world = world_of value.kernel.world

  abbrev dates : Dates
  dates = dates_of value

  -- of a task
  pub task_told : (name : TaskName) → has_task world name ≡ true
      → Some (dates.tasks name) ≡ option_map (λ (t : Task ℕ). t.change) (task_called (dated_world value) name)
  task_told name there = told_there (λ (t : Task ℕ). same_name name t.name)
      (λ (t : Task ℕ). record t { change = dates.tasks t.name }) (λ (t : Task ℕ). t.change) (dates.tasks name)
      (λ t. refl) (λ t e. ap dates.tasks (sym (same_task_name name t.name e))) world.tasks there

  pub no_task_told : (name : TaskName) → has_task world name ≡ false
      → None ≡ option_map (λ (t : Task ℕ). t.change) (task_called (dated_world value) name)
  no_task_told name none = none_there (λ (t : Task ℕ). same_name name t.name)
      (λ (t : Task ℕ). record t { change = dates.tasks t.name }) (λ (t : Task ℕ). t.change) (dates.tasks name)
      (λ t. refl) (λ t e. ap dates.tasks (sym (same_task_name name t.name e))) world.tasks none

  -- of a namespace
  pub namespace_told : (number : ℕ) → has_namespace world number ≡ true
      → dates.namespaces number ≡ namespace_change_of nat_eq (dated_world value) number
  namespace_told number there = ap (λ found. unwrap_or found last_number)
      (told_there (λ (n : Namespace ℕ). nat_eq number n.number)
      (λ (n : Namespace ℕ). record n { change = dates.namespaces n.number }) (λ (n : Namespace ℕ). n.change)
      (dates.namespaces number) (λ n. refl) (λ n e. ap dates.namespaces (sym (eqb-true number n.number e)))
      world.namespaces there)

  pub no_namespace_told : (number : ℕ) → has_namespace world number ≡ false
      → last_number ≡ namespace_change_of nat_eq (dated_world value) number
  no_namespace_told number none = ap (λ found. unwrap_or found last_number)
      (none_there (λ (n : Namespace ℕ). nat_eq number n.number)
      (λ (n : Namespace ℕ). record n { change = dates.namespaces n.number }) (λ (n : Namespace ℕ). n.change)
      (dates.namespaces number) (λ n. refl) (λ n e. ap dates.namespaces (sym (eqb-true number n.number e)))
      world.namespaces none)

  -- of a filesystem
  pub filesystem_told : (number : ℕ) → has_filesystem world number ≡ true
      → dates.filesystems number ≡ filesystem_change_of nat_eq (dated_world value) number
  filesystem_told number there = ap (λ found. unwrap_or found last_number)
      (told_there (λ (f : Filesystem ℕ). nat_eq number f.number)
      (λ (f : Filesystem ℕ). record f { change = dates.filesystems f.number }) (λ (f : Filesystem ℕ). f.change)
      (dates.filesystems number) (λ f. refl) (λ f e. ap dates.filesystems (sym (eqb-true number f.number e)))
      world.filesystems there)

  pub no_filesystem_told : (number : ℕ) → has_filesystem world number ≡ false
      → last_number ≡ filesystem_change_of nat_eq (dated_world value) number
  no_filesystem_told number none = ap (λ found. unwrap_or found last_number)
      (none_there (λ (f : Filesystem ℕ). nat_eq number f.number)
      (λ (f : Filesystem ℕ). record f { change = dates.filesystems f.number }) (λ (f : Filesystem ℕ). f.change)
      (dates.filesystems number) (λ f. refl) (λ f e. ap dates.filesystems (sym (eqb-true number f.number e)))
      world.filesystems none)
