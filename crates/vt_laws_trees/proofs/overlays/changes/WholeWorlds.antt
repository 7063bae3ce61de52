-- An overlay of a world, as one record.
use Rattle.std.proofs.Common.{arith, ◌≡◌, sym, ap, subst, ℕ, nat_eq, ◌++◌, map, Option, Some, option_to_list}
use Rattle.vt_spec.proofs.Common.{Filesystem, IsMerged, Layer, Merge, Overlay, Real, Stack, World, common_steps, filesystem_numbered, merge_of, open_layer, real_node, slice_get-map, stack_of, then_some}
use Rattle.vt_laws_trees.proofs.layers.layers.ShownDirectories.{AreOpen}
use Rattle.vt_laws_trees.proofs.layers.layers.ShownMounted.{are_open}
use Rattle.vt_laws_trees.proofs.layers.layers.UpperWorld.{overlay_layers, overlay_merges, overlay_numbers, overlay_tree}
use Rattle.vt_laws_trees.specs.Overlays.WhatIsShown.{IsWhatIsShown, inode_behind}
use Rattle.vt_laws_trees.specs.Overlays.WholeChanges.{OverlaysAreWhole, ShownIsMerged}

module _ (world : World ℕ) (filesystem : Filesystem ℕ) (overlay : Overlay ℕ) (upper : Layer ℕ) where
  -- the overlay with this upper layer
  abbrev with_upper : Overlay ℕ
  with_upper = record overlay { upper = Some upper }

  abbrev stack : Stack ℕ
  stack = stack_of nat_eq world overlay upper

  abbrev merge : Merge ℕ
  merge = merge_of nat_eq world filesystem overlay upper

  behind_same : (o : Option (Real ℕ))
      → then_some o (real_node nat_eq world with_upper) ≡ then_some o (inode_behind stack merge)
  behind_same o = grind (arith, common_steps, slice_get-map)

  to_shown : IsMerged nat_eq world filesystem with_upper → IsWhatIsShown stack merge
  to_shown is = grind (arith, common_steps, behind_same)

  from_shown : IsWhatIsShown stack merge → IsMerged nat_eq world filesystem with_upper
  from_shown is = grind (arith, common_steps, behind_same)

  is_with_upper : overlay.upper ≡ Some upper → overlay ≡ with_upper
  is_with_upper has = ap (λ o. record overlay { upper = o }) has

pub shown_is_merged : ShownIsMerged
shown_is_merged world filesystem overlay upper has is =
    subst (IsMerged nat_eq world filesystem) (sym (is_with_upper world filesystem overlay upper has))
    (from_shown world filesystem overlay upper is)

pub overlays_are_whole : OverlaysAreWhole
overlays_are_whole world number overlay upper conditions is has = record {
  tree = overlay_tree world conditions number overlay is;
  numbers = overlay_numbers world conditions number overlay is;
  layers = subst (λ o. AreOpen (map (open_layer nat_eq world) (option_to_list o ++ overlay.lowers))) has
      (are_open world conditions overlay (overlay_layers world conditions number overlay is));
  reached = conditions.overlays.uppers_reached number overlay upper is has;
  shown = to_shown world _ overlay upper (subst (IsMerged nat_eq world (filesystem_numbered nat_eq world number))
      (is_with_upper world (filesystem_numbered nat_eq world number) overlay upper has)
      (overlay_merges world conditions number overlay is));
}
