-- The nodes that have their objects in the upper layer.
use Rattle.std.proofs.Common.{◌≡◌, ◌<◌, ◌^◌, ℕ, true, Option, None, Some, ap, option_map, refl, sym, unwrap_or, ◌∙◌, true≢false}
use Rattle.std.proofs.lemmas.Option.{same_Some}
use Rattle.vt_location.specs.declared.births.Birth.{Birth}
use Rattle.vt_location.specs.declared.births.Birth.TheVariants.{Below, Here}
use Rattle.vt_location.specs.declared.locations.NodeRef.{NodeRef}
use Rattle.vt_location.specs.declared.numbers.FilesystemId.{FilesystemId}
use Rattle.vt_location.specs.Locations.{number_of}
use Rattle.vt_location.specs.NodeNumbers.{IsSmall}
use Rattle.vt_location.specs.Numbers.{inode_number}
use Rattle.vt_location.proofs.NodeLemmas.{one_to_one, small_parts}
use Rattle.vt_location.proofs.NumberLemmas.{exchanged_number}
use Rattle.vt_births.specs.Births.{AreOneToOne, BirthsValue, NodesAboveAreApart, NodesAboveFindTheirSlots, NumbersAboveAreByBirths, copy_of, is_below, node_above, node_of, slot_above, slot_by}

abbrev pub born_here : FilesystemId → ℕ → NodeRef
born_here overlay slot = record { filesystem = overlay; slot = slot; birth = Here }

slot-below : (births : BirthsValue) (node : NodeRef) (birth : Birth) → is_below birth ≡ true
    → slot_by births node birth ≡ copy_of births node
slot-below births node Here is = absurd (true≢false (sym is))
slot-below births node (Below layer directory rank) is = refl

pub slots_found : NodesAboveFindTheirSlots
slots_found births overlay slot one = by (node_of births slot) refl
  where
    by : (found : Option NodeRef) → node_of births slot ≡ found
        → slot_above births (unwrap_or found (born_here overlay slot)) ≡ Some slot
    by None e = refl
    by (Some node) e = slot-below births node node.birth (one.below slot node e) ∙ one.there slot node e

small_above : (births : BirthsValue) (overlay : FilesystemId) (slot : ℕ) → AreOneToOne births
    → overlay.count < 2 ^ 64 → slot < 2 ^ 64 → IsSmall (node_above births overlay slot)
small_above births overlay slot one count small = by (node_of births slot) refl
  where
    by : (found : Option NodeRef) → node_of births slot ≡ found → IsSmall (unwrap_or found (born_here overlay slot))
    by None e = record { filesystem = count; slot = small; birth = tt }
    by (Some node) e = small_parts node (one.small slot node e)

pub numbers_apart : NodesAboveAreApart
numbers_apart births overlay a b one count a_small b_small same =
    let nodes = one_to_one (node_above births overlay a) (node_above births overlay b)
    (small_above births overlay a one count a_small) (small_above births overlay b one count b_small) same in
    same_Some a b (sym (slots_found births overlay a one) ∙ ap (slot_above births) nodes
    ∙ slots_found births overlay b one)

pub numbers_by_births : NumbersAboveAreByBirths
numbers_by_births births overlay upper slot small = by (node_of births slot)
    ∙ ap (λ own. unwrap_or (option_map number_of (node_of births own)) (inode_number overlay.count slot))
    (sym (exchanged_number upper slot small))
  where
    by : (found : Option NodeRef) → number_of (unwrap_or found (born_here overlay slot))
        ≡ unwrap_or (option_map number_of found) (inode_number overlay.count slot)
    by None = refl
    by (Some node) = refl
