-- Each call is refused by its own rules, with the error of the rule, and leaves the world then.
use Rattle.std.proofs.Common.{arith, ◌≡◌, refl, ℕ, nat_eq, Bool, true, false, List, [], ◌∷◌, Option, Some, None, ok_or, Result, Err, IfErr, Ok, ◌&&◌, ◌++◌}
use Rattle.vt_spec.proofs.Common.{Allowed, Call, Fresh, Judgement, Looks, Permit, Stop, Task, TaskName, World, and_parts, and_then, apply, call_outcome, common_steps, denial, descriptor_at, judge_in, layers_walked, looks_of, only_looks, overfills, policy, task_called, walk_end}
use Rattle.vt_laws_rules.proofs.rules.CallTables.{Tabled, call_tables, if_true, walks_of}
use Rattle.vt_laws_rules.proofs.rules.Outcomes.{DeniesOwn, IsOwn, RefusesOwn, after_own, and_then_own, are_own, error_is, finished_own, if_own, unless_own}
use Rattle.vt_laws_rules.proofs.rules.WalkRules.{RefusesAsWalk, StopsAsWalk, destination_walks, directory_walks, file_walks, layer_walks, leaf_walks, new_leaf_walks, new_walks, object_walks, old_leaf_walks, old_walks, rename_new_walks, source_walks}
use Rattle.vt_laws_rules.specs.Denials.{DenialChangesNothing}
use Rattle.vt_spec.specs.Machine.Judging.{Aim, Judging, NameAim, judging, run, walk_to, walk_to_name}
use Rattle.vt_spec.specs.Machine.Judging.Aim.{ADestination, ADirectory, ASource, ASymlink, AnObject}
use Rattle.vt_spec.specs.Machine.Judging.NameAim.{AFile, ANewLeaf, ANewName, ARenamed, AnOldLeaf, AnOldName}
use Rattle.vt_laws_rules.specs.RuleOrder.{DenialHasErrorOfRule, DenialIsOwn, has_path, rules_of, walk_rules}
use Rattle.vt_laws_rules.specs.RuleRanks.{is_among}
use Rattle.vt_spec.specs.declared.errors.Deny.{Deny}
use Rattle.vt_spec.specs.declared.errors.Rule.{Rule}
use Rattle.vt_spec.specs.declared.errors.Rule.TheVariants.{S2, S4}
use Rattle.vt_spec.specs.Machine.Judging.Judging.{Attaches, Checks, FindsFile, FindsTask, Grants, IfSo, IfThere, Layers, Names, Needs, Refuses, Walks, Words}
use Rattle.vt_laws_rules.specs.Asked.{last_word_rules}

found_own : {A : Type 0} (rules : List Rule) (rule : Rule) (object : Option A) → is_among rule rules ≡ true
    → RefusesOwn rules (ok_or object (denial rule))
found_own rules rule object own = grind (arith, common_steps)

module _ (world : World ℕ) (task : Task ℕ) where
  abbrev looks : Looks ℕ
  looks = looks_of nat_eq world

  -- each walk of a call is refused by the rules of walks
  pub aims_walk : (aim : Aim) (path : List ℕ) → StopsAsWalk (walk_to nat_eq looks task aim path)
  aims_walk AnObject path = object_walks nat_eq world task path
  aims_walk ASymlink path = leaf_walks nat_eq world task path
  aims_walk ADirectory path = directory_walks nat_eq world task path
  aims_walk ASource path = source_walks nat_eq world task path
  aims_walk ADestination path = destination_walks nat_eq world task path

  pub names_walk : (aim : NameAim) (path : List ℕ) → StopsAsWalk (walk_to_name nat_eq looks task aim path)
  names_walk AFile path = file_walks nat_eq world task path
  names_walk ANewName path = new_walks nat_eq world task path
  names_walk ANewLeaf path = new_leaf_walks nat_eq world task path
  names_walk AnOldName path = old_walks nat_eq world task path
  names_walk AnOldLeaf path = old_leaf_walks nat_eq world task path
  names_walk (ARenamed directory) path = rename_new_walks nat_eq world task path directory

module _ (own words : List Rule) (walks : Bool) (world : World ℕ) (task : Task ℕ) (overfills : Permit ℕ → Bool)
    (more : walks ≡ true → (rule : Rule) → is_among rule walk_rules ≡ true → is_among rule own ≡ true) where
  -- a walk of a call whose rules have those of walks
  walk_own : {A : Type 0} → walks ≡ true → (walk : Result A (Stop ℕ)) (next : A → Judgement ℕ)
      → StopsAsWalk walk → ((a : A) → RefusesOwn own (next a)) → RefusesOwn own (and_then (walk_end walk) next)
  walk_own has walk next stops h = grind (arith, common_steps, more has)

  refuses_more : {A : Type 0} → walks ≡ true → (result : Result A Deny) → RefusesAsWalk result → RefusesOwn own result
  refuses_more has result refuses = grind (arith, common_steps, more has)

  abbrev runs : Judging ℕ → Judgement ℕ
  runs asked = run nat_eq (looks_of nat_eq world) task overfills asked

  -- what is asked by a call's own rules is refused by them
  run_own : (before : Bool) (asked : Judging ℕ) → Tabled own words walks before asked → RefusesOwn own (runs asked)
  run_own before (Grants permit) tables = tt
  run_own before (Checks rules permit) tables = unless_own own rules (Ok permit) (and_parts (are_own own rules) _ tables).0 tt
  run_own before (Attaches rules permit) tables =
      unless_own own (rules (overfills permit)) (Ok permit)
      (and_parts (are_own own (rules (overfills permit))) _ (tables (overfills permit))).0 tt
  run_own before (Refuses rule) tables =
      unless_own own {A = Permit ℕ} ((true, rule) ∷ []) (Ok Allowed)
      (and_parts (are_own own ((true, rule) ∷ [])) _ tables).0 tt
  run_own before (Needs rules next) tables =
      let parts = if_true (before && are_own own rules) tables in
      unless_own own rules (runs next) (and_parts before _ parts.0).1 (run_own before next parts.1)
  run_own before (FindsFile number fits next) tables =
      let parts = if_true (before && is_among S4 own) tables in
      and_then_own own (descriptor_at task number fits) _ (found_own own S4 _ (and_parts before _ parts.0).1)
      (λ descriptor. run_own before (next descriptor) (parts.1 descriptor))
  run_own before (FindsTask name next) tables =
      let parts = if_true (before && is_among S2 own) tables in
      and_then_own own (ok_or ((looks_of nat_eq world).namespace_called name) (denial S2)) _
      (found_own own S2 _ (and_parts before _ parts.0).1)
      (λ namespace. run_own before (next namespace) (parts.1 namespace))
  run_own before (Walks aim path next) tables =
      let parts = if_true walks tables in
      walk_own parts.0 (walk_to nat_eq (looks_of nat_eq world) task aim path) _ (aims_walk world task aim path)
      (λ here. run_own false (next here) (parts.1 here))
  run_own before (Names aim path next) tables =
      let parts = if_true walks tables in
      walk_own parts.0 (walk_to_name nat_eq (looks_of nat_eq world) task aim path) _ (names_walk world task aim path)
      (λ place. run_own false (next place) (parts.1 place))
  run_own before (Layers layers next) tables =
      let parts = if_true walks tables in
      and_then_own own (layers_walked nat_eq (looks_of nat_eq world) task layers) _
      (refuses_more parts.0 _ (layer_walks nat_eq world task layers))
      (λ found. run_own false (next found) (parts.1 found))
  run_own before (Words rules next) tables =
      let parts = if_true (are_own own rules && are_own (walk_rules ++ words) rules) tables in
      unless_own own rules (runs next) (and_parts (are_own own rules) _ parts.0).0 (run_own false next parts.1)
  run_own before (IfThere (Some file) there missing) tables = run_own false (there file) (tables.0 file)
  run_own before (IfThere None there missing) tables = run_own false missing tables.1
  run_own before (IfSo test so otherwise) tables =
      if_own own test (runs so) (runs otherwise) (run_own false so tables.0) (run_own false otherwise tables.1)

call_own : (fresh : Fresh ℕ) (world : World ℕ) (task : Task ℕ) (call : Call)
    → RefusesOwn (rules_of call) (judge_in nat_eq fresh world task call)
call_own fresh world task call =
    run_own (rules_of call) (last_word_rules call) (has_path call) world task (overfills nat_eq fresh world task)
    (walks_of call) true (judging nat_eq (looks_of nat_eq world) task call) (call_tables world task call)

-- a permit is applied, and refuses nothing
applied_own : (rules : List Rule) (fresh : Fresh ℕ) (world : World ℕ) (task : Task ℕ) (permit : Permit ℕ)
    → DeniesOwn rules world (apply nat_eq fresh world task permit)
applied_own rules fresh world task permit = grind (arith, common_steps)

-- the policy
policy_own : (fresh : Fresh ℕ) (world : World ℕ) (name : TaskName) (call : Call)
    → DeniesOwn (rules_of call) world (policy nat_eq fresh world name call)
policy_own fresh world name call = after_own (rules_of call) world (ok_or (task_called world name) (denial S2)) _
    (found_own (rules_of call) S2 (task_called world name) refl) (λ task.
    finished_own (rules_of call) nat_eq world name _ (only_looks call) (call_outcome nat_eq fresh world task call).answer
    (call_outcome nat_eq fresh world task call).world
    (after_own (rules_of call) world (judge_in nat_eq fresh world task call) (apply nat_eq fresh world task)
    (call_own fresh world task call) (applied_own (rules_of call) fresh world task)))

-- of a denial that leaves the world and is by its own rules, either holds
parts_denied : {A : Type 0} (P : Type 0) (Q : Deny → Type 0) (answer : Result A Deny)
    → IfErr answer (λ deny. P × Q deny) → IfErr answer (λ deny. P) × IfErr answer Q
parts_denied P Q answer h = grind (arith, common_steps)

pub policy_refuses_own : (fresh : Fresh ℕ) (world : World ℕ) (name : TaskName) (call : Call)
    → IfErr (policy nat_eq fresh world name call).answer (λ deny. (policy nat_eq fresh world name call).world ≡ world)
    × IfErr (policy nat_eq fresh world name call).answer (IsOwn (rules_of call))
policy_refuses_own fresh world name call =
    parts_denied ((policy nat_eq fresh world name call).world ≡ world) (IsOwn (rules_of call))
    (policy nat_eq fresh world name call).answer (policy_own fresh world name call)

-- what holds of a denial of the policy
denied_own : (fresh : Fresh ℕ) (world : World ℕ) (name : TaskName) (call : Call) (deny : Deny)
    → (policy nat_eq fresh world name call).answer ≡ Err deny
    → ((policy nat_eq fresh world name call).world ≡ world) × IsOwn (rules_of call) deny
denied_own fresh world name call deny e =
    error_is (λ d. ((policy nat_eq fresh world name call).world ≡ world) × IsOwn (rules_of call) d)
    (policy nat_eq fresh world name call).answer deny e (policy_own fresh world name call)

pub denial_changes_nothing : DenialChangesNothing
denial_changes_nothing fresh world name call deny e = (denied_own fresh world name call deny e).0

pub denial_is_own : DenialIsOwn
denial_is_own fresh world name call deny e = (denied_own fresh world name call deny e).1.1

pub denial_has_error_of_rule : DenialHasErrorOfRule
denial_has_error_of_rule fresh world name call deny e = (denied_own fresh world name call deny e).1.0
