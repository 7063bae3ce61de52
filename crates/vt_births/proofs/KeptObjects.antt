-- The kept node that has its object in a slot of the upper layer is the node of this slot.
use Rattle.std.proofs.Common.{All, List, None, Option, Some, [], ap, eq-eqb, eqb-true, nat_eq, refl, sym, true, unwrap_or, ℕ, ◌∙◌, ◌∷◌, ◌≡◌, ◌||◌}
use Rattle.std.proofs.lemmas.Option.{same_Some}
use Rattle.vt_spec.proofs.Common.{All-head, All-tail, holds_of, list_any, same_truth}
use Rattle.vt_location.specs.declared.births.Birth.{Birth}
use Rattle.vt_location.specs.declared.births.Birth.TheVariants.{Below, Here}
use Rattle.vt_location.specs.declared.locations.NodeRef.{NodeRef}
use Rattle.vt_location.specs.declared.numbers.FilesystemId.{FilesystemId}
use Rattle.vt_location.specs.SameNodes.{same_node}
use Rattle.vt_location.proofs.NodeLemmas.{same_node-itself}
use Rattle.vt_births.specs.Births.{AreOneToOne, BirthsValue, node_above, node_of, slot_above, slot_by}
use Rattle.vt_births.specs.KeptObjects.{IsOf}
use Rattle.vt_births.proofs.Nodes.{same_node-is}
use Rattle.vt_births.proofs.NodesAbove.{born_here, slots_found}

module _ (births : BirthsValue) (overlay : FilesystemId) (slot : ℕ) (one : AreOneToOne births) where
  -- a node with its object there is the one of the slot
  node-found : (node : NodeRef) → IsOf overlay births node → slot_above births node ≡ Some slot
      → node_above births overlay slot ≡ node
  node-found node of is = by node.birth refl is
    where
      by : (birth : Birth) → node.birth ≡ birth → slot_by births node birth ≡ Some slot
          → node_above births overlay slot ≡ node
      by Here born own_slot =
          let same = same_Some node.slot slot own_slot in
          ap (λ found. unwrap_or found (born_here overlay slot)) (ap (node_of births) (sym same) ∙ of.alone born)
          ∙ (λ i. record { filesystem = sym of.own i; slot = sym same i; birth = sym born i })
      by (Below layer directory rank) born copy =
          ap (λ found. unwrap_or found (born_here overlay slot)) (one.back slot node copy)

  is_there : (found : Option ℕ) → holds_of (nat_eq slot) found ≡ true → found ≡ Some slot
  is_there None e = absurd cc
  is_there (Some other) e = ap Some (sym (eqb-true slot other e))

  alike : (node : NodeRef) → IsOf overlay births node
      → same_node (node_above births overlay slot) node ≡ holds_of (nat_eq slot) (slot_above births node)
  alike node of = same_truth _ _
      (λ same. ap (holds_of (nat_eq slot)) (ap (slot_above births) (sym (same_node-is _ node same))
      ∙ slots_found births overlay slot one) ∙ eq-eqb slot slot refl)
      (λ there. ap (λ above. same_node above node) (node-found node of (is_there (slot_above births node) there))
      ∙ same_node-itself node)

  pub objects_found : (nodes : List NodeRef) → All (IsOf overlay births) nodes
      → list_any (same_node (node_above births overlay slot)) nodes
      ≡ list_any (λ node. holds_of (nat_eq slot) (slot_above births node)) nodes
  objects_found [] all = refl
  objects_found (node ∷ nodes) all =
      λ i. alike node (All-head (IsOf overlay births) node nodes all) i
      || objects_found nodes (All-tail (IsOf overlay births) node nodes all) i
