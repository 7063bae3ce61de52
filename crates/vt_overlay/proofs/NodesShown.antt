-- The node that is shown at a path: its number, and where it was born.
use Rattle.std.proofs.Common.{◌≡◌, ◌≢◌, ◌∙◌, ◌∷◌, ◌+◌, [], arith, ap, length, List, None, Some, subst, suc, sym, zero, ℕ, slice_get, if◌then◌else◌, unwrap_or}
use Rattle.vt_spec.proofs.Common.{Tree, at_path, entries_in, is_directory_node, last_or, none_is_some, same_Some, shown, without_last, common_steps}
use Rattle.vt_location.specs.declared.births.Birth.{Birth}
use Rattle.vt_location.specs.declared.births.Birth.TheVariants.{Below, Here}
use Rattle.vt_location.specs.Locations.{number_of}
use Rattle.vt_location.specs.Numbers.{exchanged}
use Rattle.vt_fs.specs.FilesystemsValue.{Filesystems, files_at}
use Rattle.vt_overlay.specs.Merge.LayerValue.{layer_of}
use Rattle.vt_overlay.specs.declared.merge.layers.LayerRef.{LayerRef}
use Rattle.vt_node.specs.Ranks.{rank_among}
use Rattle.vt_overlay.specs.MergedTree.{AreLayers, OverlayValue, birth_at, number_at, slot_at}
use Rattle.vt_overlay.proofs.BirthsFound.{has_last, some_names}
use Rattle.vt_overlay.proofs.TreeFound.{in_layer, layers, number_of_shown, real_is}

-- the last name is that at the last index
pub last_by_index : (path : List (List ℕ)) (name default : List ℕ) (n : ℕ) → n + 1 ≡ length path
    → slice_get path n ≡ Some name → last_or default path ≡ name
last_by_index [] name default n e at = none_is_some name at
last_by_index (a ∷ []) name default zero e at = same_Some a name at
last_by_index (a ∷ []) name default (suc n) e at = none_is_some name at
last_by_index (a ∷ b ∷ rest) name default zero e at = absurd (omega (arith, e))
last_by_index (a ∷ b ∷ rest) name default (suc n) e at = last_by_index (b ∷ rest) name a n (omega (arith, e)) at

module _ (trees : Filesystems) (overlay : OverlayValue) (are : AreLayers trees overlay.lowers) (path : List (List ℕ))
  where
    pub no_number : shown (layers trees overlay are) path ≡ None → number_at trees overlay path ≡ None
    no_number none = grind (arith, common_steps, real_is)

    module _ (place object : ℕ) (lower : LayerRef)
        (shows : shown (layers trees overlay are) path ≡ Some (record { layer = place; object = object }))
        (layer : slice_get overlay.lowers place ≡ Some lower) where
      abbrev f : ℕ
      f = lower.directory.filesystem.count

      abbrev tree : Tree ℕ
      tree = (files_at trees f).tree

      pub leads : at_path (layer_of trees lower) path ≡ Some object
      leads =
          let at = in_layer trees overlay are path (record { layer = place; object = object }) shows in
          subst (λ l. at_path (layer_of trees l) path ≡ Some object) (same_Some at.0 lower (sym at.1 ∙ layer)) at.2

      pub node_is : (birth : Birth) (slot : ℕ) → birth ≡ birth_at trees place lower path → exchanged f object ≡ slot
          → Some (number_of (record { filesystem = overlay.number; slot = slot; birth = birth }))
          ≡ number_at trees overlay path
      node_is birth slot is at =
          let own : slot_at trees lower path ≡ slot = ap (λ o. exchanged f (unwrap_or o 0)) leads ∙ at in
          sym (number_of_shown trees overlay are path (record { layer = place; object = object }) lower shows layer
          ∙ (λ i. Some (number_of (record { filesystem = overlay.number; slot = own i; birth = sym is i }))))

      pub root_birth : length path ≡ 0 → Some Here ≡ Some (birth_at trees place lower path)
      root_birth none = grind (arith, common_steps)

      pub front_there : length path ≢ 0 → at_path (layer_of trees lower) (without_last path) ≢ None
      front_there some none =
          let last = has_last trees lower (are place lower layer) path object (some_names path some) leads in
          none_is_some last.directory (sym none ∙ last.leads)

      pub below_birth : length path ≢ 0 → (directory slot rank : ℕ) (name : List ℕ)
          → at_path (layer_of trees lower) (without_last path) ≡ Some directory
          → exchanged f directory ≡ slot → last_or [] path ≡ name
          → rank ≡ (if is_directory_node (tree.node object) then 0
          else rank_among (entries_in (tree.node directory)) name object)
          → Some (Below place slot rank) ≡ Some (birth_at trees place lower path)
      below_birth some directory slot rank name up at last ranked = grind (arith, common_steps, leads, some_names)
