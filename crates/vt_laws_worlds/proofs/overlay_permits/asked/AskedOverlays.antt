-- What a permit asks of an overlay with an upper layer.
use Rattle.std.proofs.Common.{arith, ◌≡◌, subst, ℕ, nat_eq, true, false, List, [], ◌∷◌, map, Option, Some, option_to_list}
use Rattle.vt_spec.proofs.Common.{Change, Layer, Location, Overlay, World, common_steps, files_at, filesystem_at, has_lower_directory, is_overlay, merge_of, open_layer, overlay_or, stack_of}
use Rattle.vt_laws_trees.specs.Trees.{IsProper}
use Rattle.vt_laws_trees.specs.Overlays.WholeChanges.{IsAskedWell}
use Rattle.vt_laws_worlds.specs.OverlayPermits.Asked.{AsksWell, AsksWellIf, PermitsAskOverlaysWell, PermitsAskProperly}
use Rattle.vt_laws_worlds.proofs.overlay_permits.asked.Asked.{permits_ask_well}

proper : (world : World ℕ) (location : Location ℕ) (change : Change ℕ) → AsksWell world location change
    → IsProper (files_at nat_eq world location).tree change
proper world location change asked = grind (arith, common_steps)

pub permits_ask_properly : PermitsAskProperly
permits_ask_properly world fresh task call permit location change whole serves called judged asks =
    let asked = subst (AsksWellIf world) asks
    (permits_ask_well world fresh task call permit whole serves called judged) in
    (proper world location change asked.0, asked.1)

-- An overlay with an upper layer
module _ (world : World ℕ) (location : Location ℕ) (overlay : Overlay ℕ) (upper : Layer ℕ)
    (is : (filesystem_at nat_eq world location).overlay ≡ Some overlay) (has : overlay.upper ≡ Some upper) where
  an_overlay : is_overlay (filesystem_at nat_eq world location) ≡ true
  an_overlay = cc

  -- O1, in the words of a change of an overlay
  below_by : (o : Option (Overlay ℕ)) (u : Option (Layer ℕ)) (path : List (List ℕ)) → (overlay.upper ≡ u)
      → (o ≡ Some overlay) → u ≡ Some upper → overlay_or false (λ (v : Overlay ℕ). has_lower_directory
      (map (open_layer nat_eq world) (option_to_list v.upper)) (map (open_layer nat_eq world) v.lowers) path) o
      ≡ has_lower_directory (open_layer nat_eq world upper ∷ []) (map (open_layer nat_eq world) overlay.lowers) path
  below_by o u path e f g = cc

  asked_well : (change : Change ℕ) → AsksWell world location change → IsAskedWell (stack_of nat_eq world overlay upper)
      (merge_of nat_eq world (filesystem_at nat_eq world location) overlay upper) change
  asked_well change asked = grind (arith, common_steps, an_overlay, below_by)

pub permits_ask_overlays_well : PermitsAskOverlaysWell
permits_ask_overlays_well world fresh task call permit location change overlay upper whole serves called judged asks is
    has = asked_well world location overlay upper is has change
    (subst (AsksWellIf world) asks (permits_ask_well world fresh task call permit whole serves called judged)).0
