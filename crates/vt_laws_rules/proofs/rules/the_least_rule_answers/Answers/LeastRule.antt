-- In a table that is in the policy's order, the first rule that fails is the least of those that fail.
use Rattle.std.proofs.Common.{◌≡◌, ◌≢◌, refl, subst, ap, ℕ, ◌+◌, ◌*◌, ◌≤◌, Bool, true, false, ◌||◌, nat_le, List, [], ◌∷◌, ◌++◌, drop, Result, Ok, Err, arith, IsErrAnd, slice_index, bytes_eq, leb-true}
use Rattle.vt_spec.proofs.Common.{Rules, and_from, and_parts, bytes_eq-Decides, common_steps, or_left, result_err, unless, value_from}
use Rattle.vt_laws_rules.specs.Asked.{IsAnsweredByLeast, IsLeastOf, failing}
use Rattle.vt_laws_rules.specs.RuleRanks.{is_among, is_in_order_from, letters, place_of_letter, rank}
use Rattle.vt_spec.specs.declared.errors.Deny.{Deny}
use Rattle.vt_spec.specs.declared.errors.Rule.{Rule}
use Rattle.vt_spec.specs.Errors.{rule_name}

either_so : {P : Type 0} (a b : Bool) → (a || b) ≡ true → (a ≡ true → P) → (b ≡ true → P) → P
either_so b c e first second = grind (arith, common_steps)

below_all : {a b c : ℕ} → a ≤ b → b ≤ c → a ≤ c
below_all e f = omega arith

-- a rule stands where its name stands
same_rank : (a b : Rule) → bytes_eq (rule_name a) (rule_name b) ≡ true → rank a ≡ rank b
same_rank a b e = ap (λ name. 100 * place_of_letter (slice_index name 0) letters + value_from 10 0 (drop 1 name))
    ((bytes_eq-Decides (rule_name a) (rule_name b)).0 e)

-- each rule of a table in order that fails stands at or after its begin
from_least : (least : ℕ) (rows : Rules) (other : Rule) → is_in_order_from least rows ≡ true
    → is_among other (failing rows) ≡ true → least ≤ rank other
from_least least [] other order among = cc
from_least least ((true, rule) ∷ rows) other order among =
    let below : least ≤ rank rule = leb-true least (rank rule) ((and_parts (nat_le least (rank rule)) _ order).0) in
    either_so (bytes_eq (rule_name rule) (rule_name other)) (is_among other (failing rows)) among
    (λ same. subst (λ n. least ≤ n) (same_rank rule other same) below)
    (λ later. below_all below (from_least (rank rule) rows other
    ((and_parts (nat_le least (rank rule)) _ order).1) later))
from_least least ((false, rule) ∷ rows) other order among =
    below_all (leb-true least (rank rule) ((and_parts (nat_le least (rank rule)) _ order).0))
    (from_least (rank rule) rows other ((and_parts (nat_le least (rank rule)) _ order).1) among)

-- the first that fails is the least
first_is_least : (least : ℕ) (rule : Rule) (rows : Rules) → is_in_order_from least ((true, rule) ∷ rows) ≡ true
    → IsLeastOf rule (failing ((true, rule) ∷ rows))
first_is_least least rule rows order = (
  or_left (bytes_eq (rule_name rule) (rule_name rule)) _ ((bytes_eq-Decides (rule_name rule) (rule_name rule)).1 refl),
  λ other among. either_so (bytes_eq (rule_name rule) (rule_name other)) (is_among other (failing rows)) among
      (λ same. subst (λ n. rank rule ≤ n) (same_rank rule other same) (omega arith))
      (λ later. from_least (rank rule) rows other ((and_parts (nat_le least (rank rule)) _ order).1) later),
)

pub table_least : (least : ℕ) (rows : Rules) → is_in_order_from least rows ≡ true
    → IsAnsweredByLeast (unless rows (Ok true)) (failing rows)
table_least least [] order = refl
table_least least ((true, rule) ∷ rows) order = first_is_least least rule rows order
table_least least ((false, rule) ∷ rows) order =
    table_least (rank rule) rows ((and_parts (nat_le least (rank rule)) _ order).1)

-- a table that is asked before something else
pub before_least : {A : Type 0} (least : ℕ) (rows : Rules) (answer : Result A Deny)
    → is_in_order_from least rows ≡ true → failing rows ≢ []
    → IsErrAnd (unless rows answer) (λ deny. IsLeastOf deny.rule (failing rows))
before_least least [] answer order some = absurd (some refl)
before_least least ((true, rule) ∷ rows) answer order some = first_is_least least rule rows order
before_least least ((false, rule) ∷ rows) answer order some =
    before_least (rank rule) rows answer ((and_parts (nat_le least (rank rule)) _ order).1) some

-- a table of which no rule fails
pub none_fails : {A : Type 0} (rows : Rules) (answer : Result A Deny) → failing rows ≡ [] → unless rows answer ≡ answer
none_fails [] answer none = refl
none_fails ((true, rule) ∷ rows) answer none = cc
none_fails ((false, rule) ∷ rows) answer none = none_fails rows answer none

-- the front of a table in order
pub front_in_order : (least : ℕ) (rows more : Rules) → is_in_order_from least (rows ++ more) ≡ true
    → is_in_order_from least rows ≡ true
front_in_order least [] more order = refl
front_in_order least ((fails, rule) ∷ rows) more order =
    and_from (nat_le least (rank rule)) _ ((and_parts (nat_le least (rank rule)) _ order).0)
    (front_in_order (rank rule) rows more ((and_parts (nat_le least (rank rule)) _ order).1))

-- what is told of one result is told of another that is refused alike
module _ {A B : Type 0} where
  pub least_as : (answer : Result A Deny) (other : Result B Deny) (rules : List Rule)
      → result_err answer ≡ result_err other → IsAnsweredByLeast other rules → IsAnsweredByLeast answer rules
  least_as answer other rules e h = grind (arith, common_steps)

  pub refused_as : (P : Deny → Type 0) (answer : Result A Deny) (other : Result B Deny)
      → result_err answer ≡ result_err other → IsErrAnd other P → IsErrAnd answer P
  refused_as P answer other e h = grind (arith, common_steps)

  pub denied_as : (answer : Result A Deny) (other : Result B Deny) (deny : Deny) → result_err answer ≡ result_err other
      → other ≡ Err deny → answer ≡ Err deny
  denied_as answer other deny e denied = grind (arith, common_steps)
