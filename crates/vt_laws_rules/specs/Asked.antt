-- What each call asks, in its order, as folds of what it asks: the rules of the script and of capabilities, then its
-- walks, then one table of rules.
use Rattle.std.specs.Prelude.{Bool, Err, IsErrAnd, IsOk, List, Ok, Result, [], cond, filter, map, nat_eq, ok_or, true, ℕ, ◌++◌, ◌∷◌, ◌≡◌, ◌≤◌}
use Rattle.vt_spec.specs.Machine.Judging.{Judging, by_option, judging, walk_to, walk_to_name}
use Rattle.vt_spec.specs.Machine.Judging.Judging.{Attaches, Checks, FindsFile, FindsTask, Grants, IfSo, IfThere, Layers, Names, Needs, Refuses, Walks, Words}
use Rattle.vt_laws_rules.specs.RuleRanks.{is_among, rank}
use Rattle.vt_spec.specs.declared.errors.Deny.{Deny}
use Rattle.vt_spec.specs.declared.errors.Rule.{Rule}
use Rattle.vt_spec.specs.declared.errors.Rule.TheVariants.{E1, E2, E4, E5, P1, S2, S4}
use Rattle.vt_spec.specs.Errors.{Rules, and_then, denial, unless}
use Rattle.vt_spec.specs.Language.Calls.{Call}
use Rattle.vt_spec.specs.Language.Calls.Call.{OpenFile, Rename, Rmdir}
use Rattle.vt_spec.specs.Language.Calls.Creation.{Exclusive}
use Rattle.vt_spec.specs.Lists.{Fresh}
use Rattle.vt_spec.specs.Machine.Apply.{overfills}
use Rattle.vt_spec.specs.Machine.Looks.{Looks, looks_of}
use Rattle.vt_spec.specs.Machine.Permits.{Permit}
use Rattle.vt_spec.specs.Machine.Rules.Descriptors.{descriptor_at}
use Rattle.vt_spec.specs.Machine.Rules.Mounting.{layers_walked}
use Rattle.vt_spec.specs.Machine.Walking.{walk_end}
use Rattle.vt_spec.specs.Machine.World.{Task, World}

-- the rules behind a step, or the one by which it is refused
abbrev pub rules_behind : {A : Type 0} → Rule → (A → Rules) → Result A Deny → Rules
rules_behind rule next (Ok a) = next a
rules_behind rule next (Err deny) = (true, rule) ∷ []

module _ {N : Type 0} (eq : N → N → Bool) (looks : Looks N) (task : Task N) where
  -- the rules on the script and on capabilities, which a call asks before it walks
  abbrev pub first_rules : Judging N → Rules
  first_rules (Needs rules next) = rules ++ first_rules next
  first_rules (FindsFile number fits next) =
      rules_behind S4 (λ descriptor. first_rules (next descriptor)) (descriptor_at task number fits)
  first_rules (FindsTask name next) =
      by_option (λ namespace. first_rules (next namespace)) ((true, S2) ∷ []) (looks.namespace_called name)
  first_rules asked = []

  -- The table that a call asks last, or how a walk refused it. The last word of a path is judged with the walk of that
  -- path where it stands out of the order of the table: rmdir, rename and exclusive open (profile).
  abbrev pub last_rules : (Permit N → Bool) → Judging N → Result Rules Deny
  last_rules overfills (Grants permit) = Ok []
  last_rules overfills (Checks rules permit) = Ok rules
  last_rules overfills (Attaches rules permit) = Ok (rules (overfills permit))
  last_rules overfills (Refuses rule) = Ok ((true, rule) ∷ [])
  last_rules overfills (Needs rules next) = unless rules (last_rules overfills next)
  last_rules overfills (FindsFile number fits next) =
      and_then (descriptor_at task number fits) (λ descriptor. last_rules overfills (next descriptor))
  last_rules overfills (FindsTask name next) =
      and_then (ok_or (looks.namespace_called name) (denial S2)) (λ namespace. last_rules overfills (next namespace))
  last_rules overfills (Walks aim path next) =
      and_then (walk_end (walk_to eq looks task aim path)) (λ here. last_rules overfills (next here))
  last_rules overfills (Names aim path next) =
      and_then (walk_end (walk_to_name eq looks task aim path)) (λ place. last_rules overfills (next place))
  last_rules overfills (Layers words next) =
      and_then (layers_walked eq looks task words) (λ layers. last_rules overfills (next layers))
  last_rules overfills (Words rules next) = unless rules (last_rules overfills next)
  last_rules overfills (IfThere object there missing) =
      by_option (λ file. last_rules overfills (there file)) (last_rules overfills missing) object
  last_rules overfills (IfSo test so otherwise) = cond test (last_rules overfills so) (last_rules overfills otherwise)

-- so it is of a call in a world
abbrev pub asked_first : World ℕ → Task ℕ → Call → Rules
asked_first world task call =
    first_rules nat_eq (looks_of nat_eq world) task (judging nat_eq (looks_of nat_eq world) task call)

abbrev pub asked_last : Fresh ℕ → World ℕ → Task ℕ → Call → Result Rules Deny
asked_last fresh world task call =
    last_rules nat_eq (looks_of nat_eq world) task (overfills nat_eq fresh world task)
    (judging nat_eq (looks_of nat_eq world) task call)

-- special last words that are judged with the walk: rmdir(2), rename(2), and open(2) with O_EXCL
abbrev pub last_word_rules : Call → List Rule
last_word_rules (Rmdir path) = E4 ∷ E5 ∷ P1 ∷ []
last_word_rules (Rename old new) = P1 ∷ []
last_word_rules (OpenFile path access (Exclusive mode)) = E1 ∷ E2 ∷ []
last_word_rules call = []

-- the rules of a table that fail
abbrev pub failing : Rules → List Rule
failing rules = map (λ row. row.1) (filter (λ row. row.0) rules)

-- one of some rules, with none of them before it in the policy's order
abbrev pub IsLeastOf : Rule → List Rule → Type 0
IsLeastOf rule rules = (is_among rule rules ≡ true)
    × ((other : Rule) → is_among other rules ≡ true → rank rule ≤ rank other)

-- the answer is a refusal by the least of the rules that fail, or granted where there is none
abbrev pub IsAnsweredByLeast : {A : Type 0} → Result A Deny → List Rule → Type 0
IsAnsweredByLeast answer [] = IsOk answer
IsAnsweredByLeast answer (rule ∷ rules) = IsErrAnd answer (λ deny. IsLeastOf deny.rule (rule ∷ rules))
