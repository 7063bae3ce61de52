-- Uses of what is kept without a name follow the locations on it.
use Rattle.std.proofs.Common.{arith, ◌≡◌, ◌<◌, refl, sym, ap, subst, ◌∙◌, ℕ, ◌+◌, ◌-◌, nat_eq, nat_lt, lt-ltb, Bool, true, false, cond}
use Rattle.std.specs.List.{list_any}
use Rattle.vt_spec.proofs.Common.{common_steps}
use Rattle.vt_births.specs.Kept.{KeptValue, is_kept, one_more, uses_of}
use Rattle.vt_births.specs.declared.upper_nodes.UpperNodes.{UpperNodes}
use Rattle.vt_births.proofs.Nodes.{same_node-is}
use Rattle.vt_location.specs.declared.locations.NodeRef.{NodeRef}
use Rattle.vt_location.specs.Locations.{is_small_node, number_of}
use Rattle.vt_location.specs.SameNodes.{same_node}
use Rattle.vt_location.proofs.NodeLemmas.{nodes_test}
use Rattle.vt_layered.specs.Pins.{IsPinned, IsUnpinned}
use Rattle.vt_layered.specs.Locations.{AreUsed, LocationsComeWithPins, LocationsGoWithPins, PinnedAreUsed, UnpinnedAreUsed}

-- one use more, if there are any
more_on : (unnamed : Bool) (on : ℕ) → (unnamed ≡ true → 0 < on) → one_more (cond unnamed on 0) ≡ cond unnamed (on + 1) 0
more_on true on there = ap (λ b. cond b (on + 1) on) (lt-ltb 0 on (there refl))
more_on false on there = refl

less_on : (unnamed : Bool) (on : ℕ) → cond unnamed on 0 - 1 ≡ cond unnamed (on - 1) 0
less_on true on = refl
less_on false on = refl

-- of the node itself, and of others
at_node : (same unnamed : Bool) (change : ℕ → ℕ) (on changed : ℕ)
    → (same ≡ true → change (cond unnamed on 0) ≡ cond unnamed changed 0)
    → cond same (change (cond unnamed on 0)) (cond unnamed on 0) ≡ cond unnamed (cond same changed on) 0
at_node true unnamed change on changed is = is refl
at_node false unnamed change on changed is = refl

pub locations_come : LocationsComeWithPins
locations_come overlay unnamed on node old new small own counts is there other other_small other_own =
    is.uses other
    ∙ ap (λ n. cond (same_node node other) (one_more n) n) (counts other other_small other_own)
    ∙ at_node (same_node node other) (unnamed (number_of other)) one_more (on (number_of other)) (on (number_of other) + 1)
    (λ same. more_on (unnamed (number_of other)) (on (number_of other))
    (subst (λ (one : NodeRef). unnamed (number_of one) ≡ true → 0 < on (number_of one)) (same_node-is node other same) there))
    ∙ ap (λ b. cond (unnamed (number_of other)) (cond b (on (number_of other) + 1) (on (number_of other))) 0)
    (sym (nodes_test node other small other_small))

pub locations_go : LocationsGoWithPins
locations_go overlay unnamed on node old new small own counts is other other_small other_own =
    is.uses other
    ∙ ap (λ n. cond (same_node node other) (n - 1) n) (counts other other_small other_own)
    ∙ at_node (same_node node other) (unnamed (number_of other)) (λ n. n - 1) (on (number_of other))
    (on (number_of other) - 1) (λ same. less_on (unnamed (number_of other)) (on (number_of other)))
    ∙ ap (λ b. cond (unnamed (number_of other)) (cond b (on (number_of other) - 1) (on (number_of other))) 0)
    (sym (nodes_test node other small other_small))

-- What is kept has uses
more_used : (same : Bool) (uses : ℕ) → nat_lt 0 uses ≡ nat_lt 0 (cond same (one_more uses) uses)
more_used false uses = refl
more_used true uses = grind (arith, common_steps)

less_used : (same : Bool) (uses : ℕ) → cond same (nat_lt 1 uses) (nat_lt 0 uses) ≡ nat_lt 0 (cond same (uses - 1) uses)
less_used false uses = refl
less_used true uses = grind (arith, common_steps)

pub pinned_used : PinnedAreUsed
pinned_used node old new used is other = ap (list_any (same_node other)) is.nodes ∙ used other
    ∙ more_used (same_node node other) (uses_of old.kept other) ∙ ap (nat_lt 0) (sym (is.uses other))

pub unpinned_used : UnpinnedAreUsed
unpinned_used node old new used is other = is.kept other
    ∙ ap (λ b. cond (same_node node other) (nat_lt 1 (uses_of old.kept other)) b) (used other)
    ∙ less_used (same_node node other) (uses_of old.kept other) ∙ ap (nat_lt 0) (sym (is.uses other))
