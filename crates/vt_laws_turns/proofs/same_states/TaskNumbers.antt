-- The change number of a task is not looked at by its walks.
use Rattle.std.proofs.Common.{◌≡◌, refl, sym, ap, subst, ◌∙◌, ℕ, nat_eq, Bool, true, false, List, ◌∷◌, Some, None, arith}
use Rattle.vt_spec.proofs.Common.{Call, Exclusive, Looks, MountOverlay, NoCreation, OpenFile, OrCreate, SameWorlds, IsWorld, Task, World, common_steps, ends_in_slash, entry_rules, looks_of, routes, symlink_walk, symlink_walk_by}
use Rattle.vt_laws_rules.proofs.judged.NumbersRaised.{bare_task}
use Rattle.vt_laws_rules.proofs.same.SameNames.{invariant_worlds_look_alike}
use Rattle.vt_laws_rules.specs.Judged.{LookAlike}
use Rattle.vt_laws_turns.proofs.Common.{here_route, place_route}
use Rattle.vt_laws_turns.specs.Alike.{SameTasksWalkAlike, SameWorldsWalkAlike, WalkAlike}
use Rattle.vt_laws_turns.specs.Walks.ByWords.{Aim as Walked, begun}
use Rattle.vt_laws_turns.specs.Walks.Walkers.{one_word}
use Rattle.vt_spec.specs.Machine.Judging.{Aim, Judging, NameAim, judging, walk_to, walk_to_name}
use Rattle.vt_spec.specs.Machine.Judging.Aim.{ASymlink}
use Rattle.vt_spec.specs.Machine.Judging.Judging.{Names, Needs, Walks, Words}
use Rattle.vt_spec.specs.Machine.Judging.NameAim.{AFile}
use Rattle.vt_spec.specs.Machine.Turns.{here_or_root, place_or_root, routes_of, rules_at_once}

module _ (looks : Looks ℕ) (task : Task ℕ) where
  symlink_bare : (path : List ℕ) → symlink_walk nat_eq looks (bare_task task) path ≡ symlink_walk nat_eq looks task path
  symlink_bare path = by (ends_in_slash path)
    where
      by : (slash : Bool)
          → symlink_walk_by nat_eq slash looks (bare_task task) path ≡ symlink_walk_by nat_eq slash looks task path
      by true = refl
      by false = refl

  walk_bare : (aim : Aim) (path : List ℕ)
      → walk_to nat_eq looks (bare_task task) aim path ≡ walk_to nat_eq looks task aim path
  walk_bare ASymlink path = symlink_bare path
  walk_bare aim path = refl

  name_bare : (aim : NameAim) (path : List ℕ)
      → walk_to_name nat_eq looks (bare_task task) aim path ≡ walk_to_name nat_eq looks task aim path
  name_bare AFile path = refl
  name_bare aim path = refl

  -- what a call asks is the same
  asked_bare : (call : Call) → judging nat_eq looks (bare_task task) call ≡ judging nat_eq looks task call
  unfolding judging
  asked_bare (OpenFile path access NoCreation) = refl
  asked_bare (OpenFile path access (OrCreate mode)) = refl
  asked_bare (OpenFile path access (Exclusive mode)) = refl
  asked_bare (MountOverlay path None flags) = refl
  asked_bare (MountOverlay path (Some words) flags) = refl
  asked_bare call = refl

  -- and so are the routes of its paths
  routes_bare : (asked : Judging ℕ)
      → routes_of nat_eq looks (bare_task task) asked ≡ routes_of nat_eq looks task asked
  routes_bare (Needs rules next) = routes_bare next
  routes_bare (Words rules next) = routes_bare next
  routes_bare (Walks aim path next) =
      ap (λ walk. here_route walk
      ∷ routes_of nat_eq looks (bare_task task) (next (here_or_root nat_eq looks (bare_task task) walk)))
      (walk_bare aim path)
      ∙ ap (λ list. here_route (walk_to nat_eq looks task aim path) ∷ list)
      (routes_bare (next (here_or_root nat_eq looks task (walk_to nat_eq looks task aim path))))
  routes_bare (Names aim path next) =
      ap (λ walk. place_route walk
      ∷ routes_of nat_eq looks (bare_task task) (next (place_or_root nat_eq looks (bare_task task) walk)))
      (name_bare aim path)
      ∙ ap (λ list. place_route (walk_to_name nat_eq looks task aim path) ∷ list)
      (routes_bare (next (place_or_root nat_eq looks task (walk_to_name nat_eq looks task aim path))))
  routes_bare asked = refl

  bare_walks_alike : WalkAlike looks looks (bare_task task) task
  bare_walks_alike = record {
    rules = λ call. ap rules_at_once (asked_bare call);
    routes = λ call. routes_bare (judging nat_eq looks (bare_task task) call)
        ∙ ap (routes_of nat_eq looks task) (asked_bare call);
    begins = begins_bare;
    goes_on = λ walker. refl;
  }
    where
      begins_bare : (aim : Walked) (path : List ℕ)
          → begun nat_eq aim looks (bare_task task) path ≡ begun nat_eq aim looks task path
      begins_bare aim path = refl

pub same_tasks_walk_alike : SameTasksWalkAlike
same_tasks_walk_alike looks task again same =
    let own = bare_walks_alike looks task in
    let others = bare_walks_alike looks again in
    record {
      rules = λ call. sym (own.rules call) ∙ (λ i. entry_rules nat_eq looks (same i) call) ∙ others.rules call;
      routes = λ call. sym (own.routes call) ∙ (λ i. routes nat_eq looks (same i) call) ∙ others.routes call;
      begins = λ aim path. sym (own.begins aim path) ∙ (λ i. begun nat_eq aim looks (same i) path)
          ∙ others.begins aim path;
      goes_on = λ walker. sym (own.goes_on walker) ∙ (λ i. one_word nat_eq looks (same i) walker)
          ∙ others.goes_on walker;
    }

same_looks : (one other : Looks ℕ) → LookAlike one other → one ≡ other
same_looks one other alike = grind (arith, common_steps)

pub worlds_look_the_same : (one other : World ℕ) → SameWorlds one other → IsWorld nat_eq one
    → looks_of nat_eq one ≡ looks_of nat_eq other
worlds_look_the_same one other same is =
    same_looks (looks_of nat_eq one) (looks_of nat_eq other) (invariant_worlds_look_alike one other same is)

pub same_worlds_walk_alike : SameWorldsWalkAlike
same_worlds_walk_alike one other same is task again alike =
    subst (λ looks. WalkAlike (looks_of nat_eq one) looks task again) (worlds_look_the_same one other same is)
    (same_tasks_walk_alike (looks_of nat_eq one) task again alike)
