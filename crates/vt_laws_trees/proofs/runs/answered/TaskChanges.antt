-- The change number of a task is not looked at.
use Rattle.std.proofs.Common.{◌≡◌, refl, ap, ◌∙◌, ℕ, nat_eq, Bool, true, false, List, Some, None, ok_or}
use Rattle.vt_spec.proofs.Common.{Call, Exclusive, Fresh, Looks, MountOverlay, NoCreation, OpenFile, OrCreate, Permit, Task, World, and_then, denial, descriptor_at, ends_in_slash, judge_in, layers_walked, looks_of, overfills, symlink_walk, symlink_walk_by, unless, walk_end}
use Rattle.vt_spec.proofs.Given.{same_then}
use Rattle.vt_laws_rules.proofs.judged.NumbersRaised.{bare_task}
use Rattle.vt_spec.specs.Machine.Judging.{Aim, Judging, NameAim, judging, run, walk_to, walk_to_name}
use Rattle.vt_spec.specs.Machine.Judging.Aim.{ASymlink}
use Rattle.vt_spec.specs.Machine.Judging.Judging.{FindsFile, FindsTask, IfSo, IfThere, Layers, Names, Needs, Walks, Words}
use Rattle.vt_spec.specs.Machine.Judging.NameAim.{AFile}
use Rattle.vt_spec.specs.declared.errors.Rule.TheVariants.{S2}

module _ (looks : Looks ℕ) (task : Task ℕ) where
  symlink_bare : (path : List ℕ) → symlink_walk nat_eq looks (bare_task task) path ≡ symlink_walk nat_eq looks task path
  symlink_bare path = by (ends_in_slash path)
    where
      by : (slash : Bool)
          → symlink_walk_by nat_eq slash looks (bare_task task) path ≡ symlink_walk_by nat_eq slash looks task path
      by true = refl
      by false = refl

  walk_bare : (aim : Aim) (path : List ℕ)
      → walk_to nat_eq looks (bare_task task) aim path ≡ walk_to nat_eq looks task aim path
  walk_bare ASymlink path = symlink_bare path
  walk_bare aim path = refl

  name_bare : (aim : NameAim) (path : List ℕ)
      → walk_to_name nat_eq looks (bare_task task) aim path ≡ walk_to_name nat_eq looks task aim path
  name_bare AFile path = refl
  name_bare aim path = refl

  -- what a call asks is the same
  asked_bare : (call : Call) → judging nat_eq looks (bare_task task) call ≡ judging nat_eq looks task call
  unfolding judging
  asked_bare (OpenFile path access NoCreation) = refl
  asked_bare (OpenFile path access (OrCreate mode)) = refl
  asked_bare (OpenFile path access (Exclusive mode)) = refl
  asked_bare (MountOverlay path None flags) = refl
  asked_bare (MountOverlay path (Some words) flags) = refl
  asked_bare call = refl

  module _ (overfills : Permit ℕ → Bool) where
    -- and its run
    run_bare : (asked : Judging ℕ)
        → run nat_eq looks (bare_task task) overfills asked ≡ run nat_eq looks task overfills asked
    run_bare (Needs rules next) = ap (unless rules) (run_bare next)
    run_bare (FindsFile number fits next) =
        same_then (descriptor_at task number fits) _ _ (λ descriptor. run_bare (next descriptor))
    run_bare (FindsTask name next) = same_then (ok_or (looks.namespace_called name) (denial S2)) _ _
        (λ namespace. run_bare (next namespace))
    run_bare (Walks aim path next) = ap (λ walk. and_then (walk_end walk)
        (λ here. run nat_eq looks (bare_task task) overfills (next here))) (walk_bare aim path)
        ∙ same_then (walk_end (walk_to nat_eq looks task aim path)) _ _ (λ here. run_bare (next here))
    run_bare (Names aim path next) = ap (λ walk. and_then (walk_end walk)
        (λ place. run nat_eq looks (bare_task task) overfills (next place))) (name_bare aim path)
        ∙ same_then (walk_end (walk_to_name nat_eq looks task aim path)) _ _ (λ place. run_bare (next place))
    run_bare (Layers words next) =
        same_then (layers_walked nat_eq looks task words) _ _ (λ layers. run_bare (next layers))
    run_bare (Words rules next) = ap (unless rules) (run_bare next)
    run_bare (IfThere (Some file) there missing) = run_bare (there file)
    run_bare (IfThere None there missing) = run_bare missing
    run_bare (IfSo true so otherwise) = run_bare so
    run_bare (IfSo false so otherwise) = run_bare otherwise
    run_bare asked = refl

module _ (fresh : Fresh ℕ) (world : World ℕ) (task : Task ℕ) where
  abbrev looks : Looks ℕ
  looks = looks_of nat_eq world

  -- what overfills a namespace is the same of a call that attaches mounts, and not asked of others
  full_bare : (call : Call)
      → run nat_eq looks task (overfills nat_eq fresh world (bare_task task)) (judging nat_eq looks task call)
      ≡ run nat_eq looks task (overfills nat_eq fresh world task) (judging nat_eq looks task call)
  unfolding judging
  full_bare (OpenFile path access NoCreation) = refl
  full_bare (OpenFile path access (OrCreate mode)) = refl
  full_bare (OpenFile path access (Exclusive mode)) = refl
  full_bare (MountOverlay path None flags) = refl
  full_bare (MountOverlay path (Some words) flags) = refl
  full_bare call = refl

  pub judged_bare : (call : Call)
      → judge_in nat_eq fresh world (bare_task task) call ≡ judge_in nat_eq fresh world task call
  judged_bare call =
      run_bare looks task (overfills nat_eq fresh world (bare_task task))
      (judging nat_eq looks (bare_task task) call)
      ∙ ap (run nat_eq looks task (overfills nat_eq fresh world (bare_task task))) (asked_bare looks task call)
      ∙ full_bare call
