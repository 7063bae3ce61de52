-- Change numbers, and the order of numbers beside trees, are not looked at.
use Rattle.std.proofs.Common.{◌≡◌, refl, ap, ◌∙◌, ℕ, nat_eq, Bool, false, cond, ◌||◌, ◌&&◌, List, [], ◌∷◌, ◌++◌, map, find, flat_map, Some, is_some, option_map, true≢false, sym, unwrap_or, All, arith}
use Rattle.vt_spec.proofs.Common.{All-tail, Filesystem, Task, TaskName, World, going, has_child, is_among, is_overlay, list_any, locations_of, looks_of, mount_numbered, no_filesystem, same_name, without_changes, common_steps}
use Rattle.vt_laws_rules.proofs.judged.LooksAlike.{alike_are_judged_alike}
use Rattle.vt_laws_rules.proofs.same.SameLooks.{others_look_alike}
use Rattle.vt_laws_rules.specs.Same.{PlainHasOneName, SameWorldsAreJudgedAlike, SameWorldsLookAlike}
use Rattle.vt_laws_rules.proofs.judged.NumbersRaised.{bare_task}

-- a world with all its change numbers at zero but those of filesystems
abbrev pub bare : World ℕ → World ℕ
bare world = record (without_changes world) { filesystems = world.filesystems }

locations_bare : (tasks : List (Task ℕ)) → flat_map locations_of (map bare_task tasks) ≡ flat_map locations_of tasks
locations_bare [] = refl
locations_bare (task ∷ tasks) = ap (λ rest. locations_of task ++ rest) (locations_bare tasks)

written_bare : (mount : ℕ) (tasks : List (Task ℕ)) → list_any (λ (task : Task ℕ). list_any
    (λ descriptor. descriptor.writes && nat_eq mount descriptor.location.mount) task.descriptors) (map bare_task tasks)
    ≡ list_any (λ (task : Task ℕ). list_any
    (λ descriptor. descriptor.writes && nat_eq mount descriptor.location.mount) task.descriptors) tasks
written_bare mount [] = refl
written_bare mount (task ∷ tasks) = cc (written_bare mount tasks)

namespace_bare : (name : TaskName) (tasks : List (Task ℕ))
    → option_map (λ (task : Task ℕ). task.namespace) (find (λ task. same_name name task.name) (map bare_task tasks))
    ≡ option_map (λ (task : Task ℕ). task.namespace) (find (λ task. same_name name task.name) tasks)
namespace_bare name [] = refl
namespace_bare name (task ∷ tasks) = grind (arith, common_steps, namespace_bare name tasks, same_name name task.name)

-- change numbers are not looked at
bare_looks : (world : World ℕ) → looks_of nat_eq (bare world) ≡ looks_of nat_eq world
bare_looks world = λ i. record (looks_of nat_eq world) {
  namespace_called = λ name. namespace_bare name world.tasks i;
  is_busy = λ mount. has_child nat_eq world mount
      || list_any (λ location. is_among nat_eq location.mount (going nat_eq world (mount_numbered nat_eq world mount)))
      (locations_bare world.tasks i);
  is_written_through = λ mount. written_bare mount world.tasks i;
}

pub same_worlds_look_alike : SameWorldsLookAlike
same_worlds_look_alike one other same alone =
    grind (
      arith,
      common_steps,
      bare_looks one,
      bare_looks other,
      others_look_alike (bare one) other.filesystems
          same.filesystems alone,
    )

pub same_worlds_are_judged_alike : SameWorldsAreJudgedAlike
same_worlds_are_judged_alike one other same alone overfills task call =
    grind (arith, common_steps, alike_are_judged_alike, same_worlds_look_alike)

plain_there : (number : ℕ) (list : List (Filesystem ℕ)) → All (λ filesystem. is_overlay filesystem ≡ false) list
    → is_overlay (unwrap_or (find (λ filesystem. nat_eq number filesystem.number) list) (no_filesystem number)) ≡ false
plain_there number [] all = refl
plain_there number (filesystem ∷ list) all = by (nat_eq number filesystem.number)
    (plain_there number list (All-tail (λ filesystem. is_overlay filesystem ≡ false) filesystem list all))
  where
    by : (b : Bool)
        → is_overlay (unwrap_or (find (λ filesystem. nat_eq number filesystem.number) list) (no_filesystem number))
        ≡ false → is_overlay
        (unwrap_or (cond b (Some filesystem) (find (λ filesystem. nat_eq number filesystem.number) list))
        (no_filesystem number)) ≡ false
    by b later = grind (arith, common_steps)

pub plain_has_one_name : PlainHasOneName
plain_has_one_name world plain number overlay is object one other below in_one in_other =
    absurd (true≢false (sym (ap is_some is) ∙ plain_there number world.filesystems plain))
