-- Nodes are forgotten in turn, and with them their births.
use Rattle.std.proofs.Common.{arith, ◌≡◌, refl, sym, ap, subst, ◌∙◌, ℕ, nat_eq, nat_lt, eqb-true, Bool, true, false, true≢false, cond, not, ◌&&◌, ◌||◌, Option, Some, None}
use Rattle.std.specs.List.{list_any}
use Rattle.std.specs.Map.{keys_of}
use Rattle.vt_spec.proofs.Common.{Among, all_from_among, among_from_all, any_among, any_from_among, common_steps, holds_of, nat_eq_itself, none_is_some, same_Some}
use Rattle.vt_births.specs.Births.{AreOneToOne, copy_of, node_of}
use Rattle.vt_births.specs.Kept.{is_kept, uses_of}
use Rattle.vt_births.specs.KeptObjects.{IsOf}
use Rattle.vt_births.specs.declared.upper_nodes.UpperNodes.{UpperNodes}
use Rattle.vt_births.proofs.Nodes.{same_node-is}
use Rattle.vt_location.specs.declared.locations.NodeRef.{NodeRef}
use Rattle.vt_location.specs.SameNodes.{same_node}
use Rattle.vt_location.proofs.NodeLemmas.{same_node-itself}
use Rattle.vt_layered.specs.Locations.{AreUsed}
use Rattle.vt_layered.specs.Pins.{IsUnpinned}
use Rattle.vt_kept_nodes.specs.Forgetting.{BirthsStayOneToOne, Forgets, ForgettingGoesOn, KeptStayOwn, LastUsesAreForgotten, PinsForgetNothing, is_gone}

-- A pin

pub not_both : (b : Bool) → (b && not b) ≡ false
not_both true = refl
not_both false = refl

pub pins_forget_nothing : PinsForgetNothing
pins_forget_nothing node old new is = record {
  kept = λ other there. sym (kept_alike other) ∙ there;
  copies = λ other. ap (λ births. copy_of births other) is.births
      ∙ sym (ap (λ b. cond b None (copy_of old.births other)) (none_gone other));
  nodes = λ slot. ap (λ births. node_of births slot) is.births
      ∙ sym (ap (λ b. cond b None (node_of old.births slot)) (none_holds (node_of old.births slot)));
}
  where
    kept_alike : (other : NodeRef) → is_kept new.kept other ≡ is_kept old.kept other
    kept_alike other = ap (list_any (same_node other)) is.nodes

    none_gone : (other : NodeRef) → is_gone old new other ≡ false
    none_gone other = ap (λ b. is_kept old.kept other && not b) (kept_alike other) ∙ not_both (is_kept old.kept other)

    none_holds : (o : Option NodeRef) → holds_of (is_gone old new) o ≡ false
    none_holds None = refl
    none_holds (Some other) = none_gone other

-- An unpin

used_more : (uses : ℕ) → nat_lt 1 uses ≡ true → nat_lt 0 uses ≡ true
used_more uses e = grind (arith, common_steps)

one_use : (uses : ℕ) → (nat_lt 0 uses && not (nat_lt 1 uses)) ≡ nat_eq uses 1
one_use uses = grind (arith, common_steps)

and_none : (b : Bool) → false ≡ (b && false)
and_none true = refl
and_none false = refl

and_all : (b : Bool) → b ≡ (b && true)
and_all true = refl
and_all false = refl

module _ (node : NodeRef) (old new : UpperNodes) (used : AreUsed old.kept) (one : AreOneToOne old.births)
    (is : IsUnpinned node old new) where
  abbrev last : Bool
  last = nat_eq (uses_of old.kept node) 1

  kept_before : (other : NodeRef) → is_kept new.kept other ≡ true → is_kept old.kept other ≡ true
  kept_before other there = by (same_node node other) (sym (is.kept other) ∙ there)
    where
      by : (b : Bool) → cond b (nat_lt 1 (uses_of old.kept other)) (is_kept old.kept other) ≡ true
          → is_kept old.kept other ≡ true
      by true e = used other ∙ used_more (uses_of old.kept other) e
      by false e = e

  -- the node itself goes, with its last use
  gone_is : (other : NodeRef) → is_gone old new other ≡ (last && same_node node other)
  gone_is other = ap (λ b. is_kept old.kept other && not b) (is.kept other) ∙ by (same_node node other) refl
    where
      by : (b : Bool) → same_node node other ≡ b
          → (is_kept old.kept other && not (cond b (nat_lt 1 (uses_of old.kept other)) (is_kept old.kept other)))
          ≡ (last && b)
      by true e = ap (λ b. b && not (nat_lt 1 (uses_of old.kept other))) (used other)
          ∙ one_use (uses_of old.kept other)
          ∙ ap (λ n. nat_eq (uses_of old.kept n) 1) (sym (same_node-is node other e)) ∙ and_all last
      by false e = not_both (is_kept old.kept other) ∙ and_none last

  -- the slot of its copy is the one that has it
  slot_holds : (slot : ℕ) (other : NodeRef) → node_of old.births slot ≡ Some other
      → holds_of (λ copy. nat_eq copy slot) (copy_of old.births node) ≡ same_node node other
  slot_holds slot other there = by (same_node node other) refl
    where
      no_other : (found : Option ℕ) → copy_of old.births node ≡ found → same_node node other ≡ false
          → holds_of (λ copy. nat_eq copy slot) found ≡ false
      no_other None e apart = refl
      no_other (Some copy) e apart = one_slot (nat_eq copy slot) refl
        where
          one_slot : (b : Bool) → nat_eq copy slot ≡ b → b ≡ false
          one_slot false same = refl
          one_slot true same = absurd (true≢false (sym (same_node-itself node)
              ∙ ap (same_node node) (same_Some node other (sym (one.back slot node (e
              ∙ ap Some (eqb-true copy slot same))) ∙ there)) ∙ apart))

      by : (b : Bool) → same_node node other ≡ b
          → holds_of (λ copy. nat_eq copy slot) (copy_of old.births node) ≡ b
      by true e = ap (holds_of (λ copy. nat_eq copy slot)) (ap (copy_of old.births) (same_node-is node other e)
          ∙ one.there slot other there) ∙ nat_eq_itself slot
      by false e = no_other (copy_of old.births node) refl e

  nodes_left : (slot : ℕ) (o : Option NodeRef) → node_of old.births slot ≡ o
      → cond (last && holds_of (λ copy. nat_eq copy slot) (copy_of old.births node)) None o
      ≡ cond (holds_of (is_gone old new) o) None o
  nodes_left slot None e = both (last && holds_of (λ copy. nat_eq copy slot) (copy_of old.births node)) None
    where
      both : (b : Bool) (o : Option NodeRef) → cond b o o ≡ o
      both true o = refl
      both false o = refl
  nodes_left slot (Some other) e = ap (λ b. cond b None (Some other))
      (ap (λ b. last && b) (slot_holds slot other e) ∙ sym (gone_is other))

  last_use_forgotten : Forgets old new
  last_use_forgotten = record {
    kept = kept_before;
    copies = λ other. is.copies other ∙ ap (λ b. cond b None (copy_of old.births other)) (sym (gone_is other));
    nodes = λ slot. is.nodes slot ∙ nodes_left slot (node_of old.births slot) refl;
  }

pub last_uses_are_forgotten : LastUsesAreForgotten
last_uses_are_forgotten node old new used one is = last_use_forgotten node old new used one is

-- In turn

gone_in_turn : (a b c : Bool) → (b ≡ true → a ≡ true) → (c ≡ true → b ≡ true)
    → (a && not c) ≡ ((a && not b) || (b && not c))
gone_in_turn true true c first second = refl
gone_in_turn true false true first second = absurd (true≢false (sym (second refl)))
gone_in_turn true false false first second = refl
gone_in_turn false true c first second = absurd (true≢false (sym (first refl)))
gone_in_turn false false true first second = absurd (true≢false (sym (second refl)))
gone_in_turn false false false first second = refl

two_tests : {A : Type 0} (p q r : Bool) (o : Option A) → r ≡ (p || q)
    → cond q None (cond p None o) ≡ cond r None o
two_tests true true r o e = sym (ap (λ b. cond b None o) e)
two_tests true false r o e = sym (ap (λ b. cond b None o) e)
two_tests false true r o e = sym (ap (λ b. cond b None o) e)
two_tests false false r o e = sym (ap (λ b. cond b None o) e)

two_holds : (p q r : NodeRef → Bool) (o : Option NodeRef) → ((node : NodeRef) → r node ≡ (p node || q node))
    → cond (holds_of q (cond (holds_of p o) None o)) None (cond (holds_of p o) None o) ≡ cond (holds_of r o) None o
two_holds p q r None is = refl
two_holds p q r (Some node) is = by (p node) (is node)
  where
    by : (b : Bool) → r node ≡ (b || q node)
        → cond (holds_of q (cond b None (Some node))) None (cond b None (Some node)) ≡ cond (r node) None (Some node)
    by true e = sym (ap (λ t. cond t None (Some node)) e)
    by false e = sym (ap (λ t. cond t None (Some node)) e)

pub forgetting_goes_on : ForgettingGoesOn
forgetting_goes_on first mid last is later = record {
  kept = λ node there. is.kept node (later.kept node there);
  copies = λ node. later.copies node ∙ ap (λ o. cond (is_gone mid last node) None o) (is.copies node)
      ∙ two_tests (is_gone first mid node) (is_gone mid last node) (is_gone first last node) (copy_of first.births node)
      (gone node);
  nodes = λ slot. later.nodes slot ∙ ap (λ o. cond (holds_of (is_gone mid last) o) None o) (is.nodes slot)
      ∙ two_holds (is_gone first mid) (is_gone mid last) (is_gone first last) (node_of first.births slot) gone;
}
  where
    gone : (node : NodeRef) → is_gone first last node ≡ (is_gone first mid node || is_gone mid last node)
    gone node = gone_in_turn (is_kept first.kept node) (is_kept mid.kept node) (is_kept last.kept node) (is.kept node)
        (later.kept node)

-- What is left

module _ (old new : UpperNodes) (is : Forgets old new) where
  -- of what a slot has
  pub still_there : (slot : ℕ) (node : NodeRef) → node_of new.births slot ≡ Some node
      → (node_of old.births slot ≡ Some node) × (is_gone old new node ≡ false)
  still_there slot node there = by (node_of old.births slot) refl (sym (is.nodes slot) ∙ there)
    where
      of_one : (other : NodeRef) (b : Bool) → is_gone old new other ≡ b → cond b None (Some other) ≡ Some node
          → (Some other ≡ Some node) × (is_gone old new node ≡ false)
      of_one other true e none = none_is_some node none
      of_one other false e some = (some, ap (is_gone old new) (sym (same_Some other node some)) ∙ e)

      by : (o : Option NodeRef) → node_of old.births slot ≡ o
          → cond (holds_of (is_gone old new) o) None o ≡ Some node
          → (o ≡ Some node) × (is_gone old new node ≡ false)
      by None e none = none_is_some node none
      by (Some other) e some = of_one other (is_gone old new other) refl some

  -- and of the copy of a node
  pub copy_still : (slot : ℕ) (node : NodeRef) → copy_of new.births node ≡ Some slot
      → (copy_of old.births node ≡ Some slot) × (is_gone old new node ≡ false)
  copy_still slot node there = by (is_gone old new node) refl (sym (is.copies node) ∙ there)
    where
      by : (b : Bool) → is_gone old new node ≡ b → cond b None (copy_of old.births node) ≡ Some slot
          → (copy_of old.births node ≡ Some slot) × (b ≡ false)
      by true e none = none_is_some slot none
      by false e some = (some, refl)

pub births_stay_one_to_one : BirthsStayOneToOne
births_stay_one_to_one old new is one = record {
  there = λ slot node there.
      let was = still_there old new is slot node there in
      is.copies node ∙ ap (λ b. cond b None (copy_of old.births node)) was.1 ∙ one.there slot node was.0;
  back = λ slot node there.
      let was = copy_still old new is slot node there in
      is.nodes slot ∙ ap (λ o. cond (holds_of (is_gone old new) o) None o) (one.back slot node was.0)
      ∙ ap (λ b. cond b None (Some node)) was.1;
  below = λ slot node there. one.below slot node (still_there old new is slot node there).0;
  small = λ slot node there. one.small slot node (still_there old new is slot node there).0;
}

-- what is kept was kept
pub kept_was : (old new : UpperNodes) → Forgets old new → (node : NodeRef) → Among node (keys_of new.kept.by_node)
    → Among node (keys_of old.kept.by_node)
kept_was old new is node m =
    let was = any_among (same_node node) (keys_of old.kept.by_node) (is.kept node
    (any_from_among (same_node node) (keys_of new.kept.by_node) node m (same_node-itself node))) in
    subst (λ one. Among one (keys_of old.kept.by_node)) (sym (same_node-is node was.0 was.2)) was.1

pub kept_stay_own : KeptStayOwn
kept_stay_own overlay old new is own =
    all_from_among (IsOf overlay new.births) (keys_of new.kept.by_node) (λ node m. later node
    (among_from_all (IsOf overlay old.births) (keys_of old.kept.by_node) own node (kept_was old new is node m)))
  where
    later : (node : NodeRef) → IsOf overlay old.births node → IsOf overlay new.births node
    later node was = record {
      own = was.own;
      alone = λ here. is.nodes node.slot
          ∙ ap (λ o. cond (holds_of (is_gone old new) o) None o) (was.alone here);
    }
