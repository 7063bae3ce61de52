-- Locations after a row of steps.
use Rattle.std.proofs.Common.{◌≡◌, ◌∙◌, refl, ap, arith, ℕ, ◌+◌, ◌-◌, nat_eq, Bool, true, false, cond, ◌&&◌, List, [], ◌∷◌, map}
use Rattle.vt_spec.proofs.Common.{nat_eq_turned}
use Rattle.vt_laws_mounts.specs.Counts.Using.{is_inode}
use Rattle.vt_location.specs.declared.locations.NodeRef.{NodeRef}
use Rattle.vt_location.specs.Locations.{number_of}
use Rattle.vt_location.specs.Numbers.{counted}
use Rattle.vt_layered.specs.Locations.{with_one_on, without_one_on}
use Rattle.vt_kept_nodes.specs.Counted.{Located, with_location_on, without_location_on}
use Rattle.vt_kept_nodes.specs.Turns.{LocationsAfterSteps, inode_of_node, located_after, times_on}
use Rattle.vt_kept_nodes.specs.Turns.Step.{Unpinned}

-- how often an inode is a node's
abbrev once : NodeRef → ℕ → ℕ → ℕ
once node filesystem number = cond (is_inode filesystem number (inode_of_node node)) 1 0

more_of : (a b : Bool) (n : ℕ) → cond a (cond b (n + 1) n) n ≡ n + cond (a && b) 1 0
more_of true true n = refl
more_of true false n = omega arith
more_of false b n = omega arith

less_of : (a b : Bool) (n : ℕ) → cond a (cond b (n - 1) n) n ≡ n - cond (a && b) 1 0
less_of true true n = refl
less_of true false n = omega arith
less_of false b n = omega arith

module _ (node : NodeRef) (on : Located) (filesystem number : ℕ) where
  tests : (nat_eq (counted node.filesystem.count) filesystem && nat_eq (number_of node) number)
      ≡ is_inode filesystem number (inode_of_node node)
  tests = λ i. nat_eq_turned (counted node.filesystem.count) filesystem i && nat_eq_turned (number_of node) number i

  applied : (change : (ℕ → ℕ) → ℕ → ℕ) (b : Bool)
      → cond b (change (on filesystem)) (on filesystem) number
      ≡ cond b (change (on filesystem) number) (on filesystem number)
  applied change true = refl
  applied change false = refl

  with_one : with_location_on node on filesystem number ≡ on filesystem number + once node filesystem number
  with_one = applied (with_one_on (number_of node)) (nat_eq (counted node.filesystem.count) filesystem)
      ∙ more_of (nat_eq (counted node.filesystem.count) filesystem) (nat_eq (number_of node) number)
      (on filesystem number) ∙ ap (λ b. on filesystem number + cond b 1 0) tests

  without_one : without_location_on node on filesystem number ≡ on filesystem number - once node filesystem number
  without_one = applied (without_one_on (number_of node)) (nat_eq (counted node.filesystem.count) filesystem)
      ∙ less_of (nat_eq (counted node.filesystem.count) filesystem) (nat_eq (number_of node) number)
      (on filesystem number) ∙ ap (λ b. on filesystem number - cond b 1 0) tests

after_lost : (lost : List NodeRef) (on : Located) (filesystem number : ℕ)
    → located_after (map (λ node. Unpinned node) lost) on filesystem number
    ≡ on filesystem number - times_on lost filesystem number
after_lost [] on filesystem number = omega arith
after_lost (node ∷ lost) on filesystem number =
    let later = after_lost lost (without_location_on node on) filesystem number in
    let one = without_one node on filesystem number in
    later ∙ ap (λ n. n - times_on lost filesystem number) one
    ∙ both (on filesystem number) (once node filesystem number) (times_on lost filesystem number)
  where
    both : (n a b : ℕ) → n - a - b ≡ n - (a + b)
    both n a b = omega arith

pub locations_after_steps : LocationsAfterSteps
locations_after_steps [] lost on filesystem number =
    after_lost lost on filesystem number ∙ none (on filesystem number) (times_on lost filesystem number)
  where
    none : (n b : ℕ) → n - b ≡ n + 0 - b
    none n b = omega arith
locations_after_steps (node ∷ gained) lost on filesystem number =
    locations_after_steps gained lost (with_location_on node on) filesystem number
    ∙ ap (λ n. n + times_on gained filesystem number - times_on lost filesystem number)
    (with_one node on filesystem number)
    ∙ both (on filesystem number) (once node filesystem number) (times_on gained filesystem number)
    (times_on lost filesystem number)
  where
    both : (n a b c : ℕ) → n + a + b - c ≡ n + (a + b) - c
    both n a b c = omega arith
