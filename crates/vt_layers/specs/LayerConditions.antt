-- Conditions of the rules of layers, as code checks them together.
use Rattle.std.specs.List.{list_any}
use Rattle.std.specs.Prelude.{Bool, [], is_some, length, map, nat_eq, nat_lt, not, option_map, option_to_list, ℕ, ◌&&◌, ◌++◌, ◌||◌, ◌∷◌}
use Rattle.vt_spec.specs.Errors.{Rules}
use Rattle.vt_spec.specs.Language.Limits.{most_lowers}
use Rattle.vt_spec.specs.Lists.{any_pair, is_empty_list}
use Rattle.vt_spec.specs.Machine.Looks.{Looks}
use Rattle.vt_spec.specs.Machine.Rules.Conditions.{is_overlay_at, is_read_only}
use Rattle.vt_spec.specs.Machine.Rules.Mounting.{LayerLocations, has_single_lower, layer_at, one_under_another, overlay_at, upper_and_work_locations}
use Rattle.vt_spec.specs.Machine.World.{Task}
use Rattle.vt_spec.specs.declared.errors.Rule.TheVariants.{O2, O3, O5}

-- O2: no lower layer, a single one without an upper directory, an upper directory without a work directory, too many
-- lower ones
abbrev pub are_miscounted : LayerLocations ℕ → Bool
are_miscounted layers =
    is_empty_list layers.lowers || (has_single_lower layers.lowers && not (is_some layers.upper))
    || (is_some layers.upper && not (is_some layers.work)) || nat_lt most_lowers (length layers.lowers)

module _ (looks : Looks ℕ) where
  -- O2: a layer is in an overlay
  abbrev pub some_overlaid : LayerLocations ℕ → Bool
  some_overlaid layers =
      list_any (is_overlay_at looks) layers.lowers || list_any (is_overlay_at looks) (option_to_list layers.upper)
      || list_any (is_overlay_at looks) (option_to_list layers.work)

  -- O2: an upper directory without a work directory, or the two do not fit
  abbrev pub is_upper_unfit : LayerLocations ℕ → Bool
  is_upper_unfit layers =
      (is_some layers.upper && not (is_some layers.work))
      || any_pair (λ a b. not (nat_eq a.filesystem b.filesystem))
      (option_to_list (option_map (layer_at looks) layers.upper)
      ++ option_to_list (option_map (layer_at looks) layers.work))
      || list_any (looks.overlaps_one_of (option_to_list (option_map (layer_at looks) layers.work)))
      (option_to_list (option_map (layer_at looks) layers.upper))
      || list_any (is_read_only looks) (upper_and_work_locations layers)

  -- O5: the upper or the work directory overlaps a lower layer
  abbrev pub overlap_lowers : LayerLocations ℕ → Bool
  overlap_lowers layers =
      list_any (looks.overlaps_one_of (map (layer_at looks) layers.lowers))
      (option_to_list (option_map (layer_at looks) layers.upper))
      || list_any (looks.overlaps_one_of (map (layer_at looks) layers.lowers))
      (option_to_list (option_map (layer_at looks) layers.work))

  -- the rules of layers, those together that are checked together
  abbrev pub checked_rules : Task ℕ → LayerLocations ℕ → Rules
  checked_rules task layers =
      (are_miscounted layers, O2)
      ∷ (some_overlaid layers, O2)
      ∷ (is_upper_unfit layers, O2)
      ∷ (looks.is_in_use (overlay_at looks task layers), O3)
      ∷ (any_pair (one_under_another nat_eq looks) (map (layer_at looks) layers.lowers), O5)
      ∷ (overlap_lowers layers, O5)
      ∷ []
