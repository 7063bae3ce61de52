-- Each table of rules is in the policy's order, and walks are refused by the rules of walks.
use Rattle.std.proofs.Common.{arith, ◌≡◌, refl, ℕ, nat_eq, Bool, true, false, List, [], ◌∷◌, ◌++◌, ◌&&◌, Option, ok_or, Result, IfOk, true≢false, sym, None, Some}
use Rattle.vt_spec.proofs.Common.{Permit, Rules, Stop, Task, World, and_parts, and_then, common_steps, denial, descriptor_at, layers_walked, looks_of, overfills, unless, walk_end}
use Rattle.vt_laws_rules.proofs.rules.CallTables.{IfTrue, Tabled, call_tables, if_true}
use Rattle.vt_laws_rules.proofs.rules.Outcomes.{IsOwn, RefusesOwn, among_front, and_then_own, are_own, error_is, unless_own}
use Rattle.vt_laws_rules.proofs.rules.OwnRules.{aims_walk, names_walk}
use Rattle.vt_laws_rules.proofs.rules.WalkRules.{RefusesAsWalk, StopsAsWalk, layer_walks}
use Rattle.vt_laws_rules.specs.Asked.{asked_last, failing, first_rules, last_rules, last_word_rules, rules_behind}
use Rattle.vt_spec.specs.Machine.Judging.{Judging, judging, walk_to, walk_to_name, by_option}
use Rattle.vt_laws_rules.specs.RuleOrder.{FirstTablesInOrder, LastTablesInOrder, WalksRefuseAsWalks, has_path, rules_of, walk_rules}
use Rattle.vt_laws_rules.specs.RuleRanks.{IsInOrderAfterWalk, is_among}
use Rattle.vt_spec.specs.declared.errors.Rule.{Rule}
use Rattle.vt_spec.specs.declared.errors.Rule.TheVariants.{S2, S4}
use Rattle.vt_spec.specs.declared.errors.Deny.{Deny}
use Rattle.vt_spec.specs.Machine.Judging.Judging.{Attaches, Checks, FindsFile, FindsTask, Grants, IfSo, IfThere, Layers, Names, Needs, Refuses, Walks, Words}

-- a table that is asked after the walks, if they end well, is in order
abbrev IsInOrderAtEnd : Result Rules Deny → Type 0
IsInOrderAtEnd last = IfOk last IsInOrderAfterWalk

ok_then : {A : Type 0} (first : Result A Deny) (next : A → Result Rules Deny) → ((a : A) → IsInOrderAtEnd (next a))
    → IsInOrderAtEnd (and_then first next)
ok_then first next h = grind (arith, common_steps)

ok_rules : (rows : Rules) (last : Result Rules Deny) → IsInOrderAtEnd last → IsInOrderAtEnd (unless rows last)
ok_rules [] last h = h
ok_rules ((true, rule) ∷ rows) last h = tt
ok_rules ((false, rule) ∷ rows) last h = ok_rules rows last h

-- no rule of two tables fails
both_pass : (rows more : Rules) → failing (rows ++ more) ≡ [] → (failing rows ≡ []) × (failing more ≡ [])
both_pass [] more none = (refl, none)
both_pass ((true, rule) ∷ rows) more none = cc
both_pass ((false, rule) ∷ rows) more none = both_pass rows more none

-- a table of which no rule fails refuses nothing
passed_refuses : {A : Type 0} (own : List Rule) (rows : Rules) (answer : Result A Deny) → failing rows ≡ []
    → RefusesOwn own answer → RefusesOwn own (unless rows answer)
passed_refuses own [] answer none h = h
passed_refuses own ((true, rule) ∷ rows) answer none h = cc
passed_refuses own ((false, rule) ∷ rows) answer none h = passed_refuses own rows answer none h

-- what is asked behind a test that passes
later : {A : Type 0} (test : Bool) → IfTrue test A → A
later test a = (if_true test a).1

module _ (own words : List Rule) (walks : Bool) (world : World ℕ) (task : Task ℕ) (overfills : Permit ℕ → Bool) where
  abbrev last : Judging ℕ → Result Rules Deny
  last asked = last_rules nat_eq (looks_of nat_eq world) task overfills asked

  abbrev first : Judging ℕ → Rules
  first asked = first_rules nat_eq (looks_of nat_eq world) task asked

  abbrev Rest : Bool → Judging ℕ → Type 0
  Rest before asked = Tabled own words walks before asked

  -- the table that is asked last
  in_order : (before : Bool) (asked : Judging ℕ) → Rest before asked → IsInOrderAtEnd (last asked)
  in_order before (Grants permit) tables = refl
  in_order before (Checks rules permit) tables = (and_parts (are_own own rules) _ tables).1
  in_order before (Attaches rules permit) tables =
      (and_parts (are_own own (rules (overfills permit))) _ (tables (overfills permit))).1
  in_order before (Refuses rule) tables = (and_parts (are_own own ((true, rule) ∷ [])) _ tables).1
  in_order before (Needs rules next) tables = ok_rules rules (last next) (in_order before next (later (before && are_own own rules) tables))
  in_order before (FindsFile number fits next) tables = ok_then (descriptor_at task number fits) _
      (λ descriptor. in_order before (next descriptor) (later (before && is_among S4 own) tables descriptor))
  in_order before (FindsTask name next) tables =
      ok_then (ok_or ((looks_of nat_eq world).namespace_called name) (denial S2)) _
      (λ namespace. in_order before (next namespace) (later (before && is_among S2 own) tables namespace))
  in_order before (Walks aim path next) tables =
      ok_then (walk_end (walk_to nat_eq (looks_of nat_eq world) task aim path)) _
      (λ here. in_order false (next here) (later walks tables here))
  in_order before (Names aim path next) tables =
      ok_then (walk_end (walk_to_name nat_eq (looks_of nat_eq world) task aim path)) _
      (λ place. in_order false (next place) (later walks tables place))
  in_order before (Layers layers next) tables =
      ok_then (layers_walked nat_eq (looks_of nat_eq world) task layers) _
      (λ found. in_order false (next found) (later walks tables found))
  in_order before (Words rules next) tables = ok_rules rules (last next)
      (in_order false next (later (are_own own rules && are_own (walk_rules ++ words) rules) tables))
  in_order before (IfThere (Some file) there missing) tables = in_order false (there file) (tables.0 file)
  in_order before (IfThere None there missing) tables = in_order false missing tables.1
  in_order before (IfSo true so otherwise) tables = in_order false so tables.0
  in_order before (IfSo false so otherwise) tables = in_order false otherwise tables.1

  -- a walk is refused by the rules of walks
  abbrev Walking : List Rule
  Walking = walk_rules ++ words

  walk_refuses : {A : Type 0} (walk : Result A (Stop ℕ)) (next : A → Result Rules Deny) → StopsAsWalk walk
      → ((a : A) → RefusesOwn Walking (next a)) → RefusesOwn Walking (and_then (walk_end walk) next)
  walk_refuses walk next stops h = grind (arith, common_steps, among_front)

  layers_refuse : {A : Type 0} (step : Result A Deny) → RefusesAsWalk step → RefusesOwn Walking step
  layers_refuse step refuses = grind (arith, common_steps, among_front)

  -- a step that no first rule refuses
  step_refuses : {A : Type 0} (rule : Rule) (object : Option A) (rest : A → Rules) (next : A → Result Rules Deny)
      → failing (rules_behind rule rest (ok_or object (denial rule))) ≡ []
      → ((a : A) → failing (rest a) ≡ [] → RefusesOwn Walking (next a))
      → RefusesOwn Walking (and_then (ok_or object (denial rule)) next)
  step_refuses rule object rest next none h = grind (arith, common_steps)

  task_refuses : {A : Type 0} (object : Option A) (rest : A → Rules) (next : A → Result Rules Deny)
      → failing (by_option rest ((true, S2) ∷ []) object) ≡ []
      → ((a : A) → failing (rest a) ≡ [] → RefusesOwn Walking (next a))
      → RefusesOwn Walking (and_then (ok_or object (denial S2)) next)
  task_refuses object rest next none h = grind (arith, common_steps)

  -- behind a walk no first rule is left
  abbrev none_left : {A : Type 0} → false ≡ true → A
  none_left e = absurd (true≢false (sym e))

  walks_refuse : (before : Bool) (asked : Judging ℕ) → Rest before asked
      → (before ≡ true → failing (first asked) ≡ []) → RefusesOwn Walking (last asked)
  walks_refuse before (Grants permit) tables none = tt
  walks_refuse before (Checks rules permit) tables none = tt
  walks_refuse before (Attaches rules permit) tables none = tt
  walks_refuse before (Refuses rule) tables none = tt
  walks_refuse before (Needs rules next) tables none =
      let pass = both_pass rules (first next) (none (and_parts before _ (if_true (before && are_own own rules) tables).0).0) in
      passed_refuses Walking rules (last next) pass.0 (walks_refuse before next (later (before && are_own own rules) tables) (λ e. pass.1))
  walks_refuse before (FindsFile number fits next) tables none =
      step_refuses S4 _ (λ descriptor. first (next descriptor)) _ (none (and_parts before _ (if_true (before && is_among S4 own) tables).0).0)
      (λ descriptor pass. walks_refuse before (next descriptor) (later (before && is_among S4 own) tables descriptor) (λ e. pass))
  walks_refuse before (FindsTask name next) tables none =
      task_refuses ((looks_of nat_eq world).namespace_called name) (λ namespace. first (next namespace)) _
      (none (and_parts before _ (if_true (before && is_among S2 own) tables).0).0)
      (λ namespace pass. walks_refuse before (next namespace) (later (before && is_among S2 own) tables namespace) (λ e. pass))
  walks_refuse before (Walks aim path next) tables none =
      walk_refuses (walk_to nat_eq (looks_of nat_eq world) task aim path) _ (aims_walk world task aim path)
      (λ here. walks_refuse false (next here) (later walks tables here) none_left)
  walks_refuse before (Names aim path next) tables none =
      walk_refuses (walk_to_name nat_eq (looks_of nat_eq world) task aim path) _ (names_walk world task aim path)
      (λ place. walks_refuse false (next place) (later walks tables place) none_left)
  walks_refuse before (Layers layers next) tables none =
      and_then_own Walking (layers_walked nat_eq (looks_of nat_eq world) task layers) _
      (layers_refuse _ (layer_walks nat_eq world task layers))
      (λ found. walks_refuse false (next found) (later walks tables found) none_left)
  walks_refuse before (Words rules next) tables none =
      unless_own Walking rules (last next) (and_parts (are_own own rules) _ (if_true (are_own own rules && are_own Walking rules) tables).0).1
      (walks_refuse false next (later (are_own own rules && are_own Walking rules) tables) none_left)
  walks_refuse before (IfThere (Some file) there missing) tables none =
      walks_refuse false (there file) (tables.0 file) none_left
  walks_refuse before (IfThere None there missing) tables none = walks_refuse false missing tables.1 none_left
  walks_refuse before (IfSo true so otherwise) tables none = walks_refuse false so tables.0 none_left
  walks_refuse before (IfSo false so otherwise) tables none = walks_refuse false otherwise tables.1 none_left

pub last_in_order : LastTablesInOrder
last_in_order fresh world task call =
    in_order (rules_of call) (last_word_rules call) (has_path call) world task (overfills nat_eq fresh world task) true
    (judging nat_eq (looks_of nat_eq world) task call) (call_tables world task call)

pub first_in_order : FirstTablesInOrder
unfolding judging
first_in_order world task call = grind (arith, common_steps)

pub walks_refuse_as_walks : WalksRefuseAsWalks
walks_refuse_as_walks fresh world task call deny none e =
    (error_is (λ d. IsOwn (walk_rules ++ last_word_rules call) d) (asked_last fresh world task call) deny e
    (walks_refuse (rules_of call) (last_word_rules call) (has_path call) world task (overfills nat_eq fresh world task)
    true (judging nat_eq (looks_of nat_eq world) task call) (call_tables world task call) (λ before. none))).1
