-- What an outcome that is put together of steps that may be refused keeps of them.
use Rattle.std.proofs.Common.{◌≡◌, refl, Bool, true, false, not, List, [], ◌∷◌, ◌++◌, ◌&&◌, ◌||◌, Result, Ok, Err, IfErr, is_ok, cond, bytes_eq, arith}
use Rattle.vt_spec.proofs.Common.{Answer, Outcome, Rules, Stop, TaskName, World, after, and_then, and_true_right, denial, finished_unless, judged, stopped_by, then_walk, unless, walk_end, walk_unless, common_steps}
use Rattle.vt_laws_rules.specs.RuleRanks.{is_among}
use Rattle.vt_spec.specs.declared.errors.Deny.{Deny}
use Rattle.vt_spec.specs.declared.errors.Rule.{Rule}
use Rattle.vt_spec.specs.Errors.{rule_name}

-- what is told of the error of a result is told of it in every form
pub error_is : {A : Type 0} (P : Deny → Type 0) (result : Result A Deny) (deny : Deny) → result ≡ Err deny
    → IfErr result P → P deny
error_is P result deny e h = grind (arith, common_steps)

-- a rule is among more rules where it is among the last of them
pub among_more : (own : List Rule) (rule : Rule) (rules : List Rule) → is_among rule rules ≡ true
    → is_among rule (own ++ rules) ≡ true
among_more [] rule rules e = e
among_more (one ∷ own) rule rules e = either (bytes_eq (rule_name one) (rule_name rule)) (among_more own rule rules e)
  where
    either : (b : Bool) {c : Bool} → c ≡ true → (b || c) ≡ true
    either b e = grind (arith, common_steps)

-- and where it is among the first of them
pub among_front : (rules more : List Rule) (rule : Rule) → is_among rule rules ≡ true
    → is_among rule (rules ++ more) ≡ true
among_front [] more rule e = cc
among_front (one ∷ rules) more rule e =
    either (bytes_eq (rule_name one) (rule_name rule)) e (among_front rules more rule)
  where
    either : (b : Bool) {c d : Bool} → (b || c) ≡ true → (c ≡ true → d ≡ true) → (b || d) ≡ true
    either b e f = grind (arith, common_steps)

module _ (rules : List Rule) where
  -- a refusal by one of the rules, with its error
  abbrev pub IsOwn : Deny → Type 0
  IsOwn deny = (deny ≡ denial deny.rule) × (is_among deny.rule rules ≡ true)

  -- each row that may fail has one of the rules
  abbrev pub are_own : Rules → Bool
  are_own [] = true
  are_own ((fails, rule) ∷ rows) = (is_among rule rules || not fails) && are_own rows

  -- a result is refused by those rules alone
  abbrev pub RefusesOwn : {A : Type 0} → Result A Deny → Type 0
  RefusesOwn result = IfErr result IsOwn

  -- a walk is stopped by those rules alone
  abbrev pub StopsOwn : {A N : Type 0} → Result A (Stop N) → Type 0
  StopsOwn result = IfErr result (λ stop. IsOwn stop.deny)

  first_own : (among others : Bool) → ((among || false) && others) ≡ true → among ≡ true
  first_own among others e = grind (arith, common_steps)

  pub unless_own : {A : Type 0} (rows : Rules) (answer : Result A Deny) → are_own rows ≡ true → RefusesOwn answer
      → RefusesOwn (unless rows answer)
  unless_own [] answer own h = h
  unless_own ((true, rule) ∷ rows) answer own h = (refl, first_own (is_among rule rules) (are_own rows) own)
  unless_own ((false, rule) ∷ rows) answer own h =
      unless_own rows answer (and_true_right (is_among rule rules || true) (are_own rows) own) h

  pub and_then_own : {A B : Type 0} (first : Result A Deny) (next : A → Result B Deny) → RefusesOwn first
      → ((a : A) → RefusesOwn (next a)) → RefusesOwn (and_then first next)
  and_then_own first next own h = grind (arith, common_steps)

  pub if_own : {A : Type 0} (test : Bool) (a b : Result A Deny) → RefusesOwn a → RefusesOwn b
      → RefusesOwn (cond test a b)
  if_own test a d h k = grind (arith, common_steps)

  module _ {N : Type 0} where
    pub stopped_own : {A : Type 0} (steps : List (List N)) (result : Result A Deny) → RefusesOwn result
        → StopsOwn (stopped_by steps result)
    stopped_own steps result own = grind (arith, common_steps)

    pub walk_unless_own : {A : Type 0} (steps : List (List N)) (rows : Rules) (a : A) → are_own rows ≡ true
        → StopsOwn (walk_unless steps rows a)
    walk_unless_own steps rows a own = stopped_own steps (unless rows (Ok a)) (unless_own rows (Ok a) own tt)

    pub then_walk_own : {A B : Type 0} (first : Result A (Stop N)) (next : A → Result B (Stop N)) → StopsOwn first
        → ((a : A) → StopsOwn (next a)) → StopsOwn (then_walk first next)
    then_walk_own first next own h = grind (arith, common_steps)

    pub walk_end_own : {A : Type 0} (walk : Result A (Stop N)) → StopsOwn walk → RefusesOwn (walk_end walk)
    walk_end_own walk own = grind (arith, common_steps)

    -- an outcome is refused by those rules alone, and leaves the world where it is
    abbrev pub DeniesOwn : World N → Outcome N → Type 0
    DeniesOwn world outcome = IfErr outcome.answer (λ deny. (outcome.world ≡ world) × IsOwn deny)

    pub after_own : {A : Type 0} (world : World N) (first : Result A Deny) (next : A → Outcome N) → RefusesOwn first
        → ((a : A) → DeniesOwn world (next a)) → DeniesOwn world (after world first next)
    after_own world first next own h = grind (arith, common_steps)

    -- change numbers are raised where a call is granted alone
    pub finished_own : (eq : N → N → Bool) (world : World N) (name : TaskName) (changed : List N) (looks : Bool)
        (answer : Result Answer Deny) (left : World N) → DeniesOwn world (record { answer = answer; world = left })
        → DeniesOwn world (finished_unless eq (looks || not (is_ok answer)) world name changed
        (record { answer = answer; world = left }))
    finished_own eq world name changed looks answer left own = grind (arith, common_steps)

-- what leaves the world as it is
module _ {N : Type 0} where
  pub judged_keeps : (world : World N) (rules : Rules) (outcome : Outcome N) → outcome.world ≡ world
      → (judged world rules outcome).world ≡ world
  judged_keeps world [] outcome e = e
  judged_keeps world ((true, rule) ∷ rows) outcome e = refl
  judged_keeps world ((false, rule) ∷ rows) outcome e = judged_keeps world rows outcome e

  pub after_keeps : {A : Type 0} (world : World N) (result : Result A Deny) (next : A → Outcome N)
      → ((a : A) → (next a).world ≡ world) → (after world result next).world ≡ world
  after_keeps world result next e = grind (arith, common_steps)
