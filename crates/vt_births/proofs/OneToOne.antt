-- Births stay one-to-one where one goes.
use Rattle.std.proofs.Common.{◌≡◌, ℕ, Bool, true, false, cond, nat_eq, Option, None, Some, ap, refl, sym, ◌∙◌, eq-eqb, eqb-true}
use Rattle.std.proofs.lemmas.Option.{same_Some}
use Rattle.vt_location.specs.declared.locations.NodeRef.{NodeRef}
use Rattle.vt_location.specs.SameNodes.{same_node}
use Rattle.vt_location.proofs.NodeLemmas.{same_node-itself}
use Rattle.vt_births.specs.Births.{AreOneToOne, BirthsValue, copy_of, node_of}
use Rattle.vt_births.proofs.Nodes.{same_node-is}

-- a test that would be true of nodes of which one has something else is false
apart : (births : BirthsValue) (a b : NodeRef) (r : Option ℕ) → copy_of births a ≡ r → (copy_of births b ≡ r → ⊥)
    → same_node a b ≡ false
apart births a b r is isnt = by (same_node a b) refl
  where
    by : (test : Bool) → same_node a b ≡ test → test ≡ false
    by true e = absurd (isnt (ap (copy_of births) (sym (same_node-is a b e)) ∙ is))
    by false e = refl

module _ (old new : BirthsValue) (node : NodeRef) (slot : ℕ) (one : AreOneToOne old) where
  -- one less
  module _ (copy : copy_of old node ≡ Some slot)
      (nodes : (other : ℕ) → node_of new other ≡ cond (nat_eq slot other) None (node_of old other))
      (copies : (other : NodeRef) → copy_of new other ≡ cond (same_node node other) None (copy_of old other)) where
    -- what a slot has then it had, and it is another one
    left : (other : ℕ) (found : NodeRef) → node_of new other ≡ Some found
        → (node_of old other ≡ Some found) × (nat_eq slot other ≡ false)
    left other found is = by (nat_eq slot other) refl (sym (nodes other) ∙ is)
      where
        by : (test : Bool) → nat_eq slot other ≡ test → cond test None (node_of old other) ≡ Some found
            → (node_of old other ≡ Some found) × (nat_eq slot other ≡ false)
        by true e nothing = absurd cc
        by false e was = (was, e)

    pub one_to_one-left : AreOneToOne new
    one_to_one-left = record {
      there = λ other found is.
          let was = left other found is in
          copies found ∙ ap (λ test. cond test None (copy_of old found))
          (apart old node found (Some slot) copy (λ same. other_slot other found was.1
          (same_Some slot other (sym same ∙ one.there other found was.0)))) ∙ one.there other found was.0;
      back = λ other found is. turned other found (same_node node found) refl (sym (copies found) ∙ is);
      below = λ other found is. one.below other found (left other found is).0;
      small = λ other found is. one.small other found (left other found is).0;
    }
      where
        other_slot : (other : ℕ) (found : NodeRef) → nat_eq slot other ≡ false → slot ≡ other → ⊥
        other_slot other found apart_e same = cc (apart_e, eq-eqb slot other same)

        turned : (other : ℕ) (found : NodeRef) (test : Bool) → same_node node found ≡ test
            → cond test None (copy_of old found) ≡ Some other → node_of new other ≡ Some found
        turned other found true e is = absurd cc
        turned other found false e is = nodes other
            ∙ ap (λ test. cond test None (node_of old other)) (not_slot (nat_eq slot other) refl)
            ∙ one.back other found is
          where
            not_slot : (test : Bool) → nat_eq slot other ≡ test → test ≡ false
            not_slot true same = absurd (cc (
              e,
              same_node-itself node,
              ap (same_node node) (same_Some node found (sym (one.back slot node copy)
                  ∙ ap (node_of old) (eqb-true slot other same) ∙ one.back other found is)),
            ))
            not_slot false same = refl
