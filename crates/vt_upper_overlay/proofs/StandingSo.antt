-- An overlay stands, as its looks ask, where the definitions have a merged tree that is named by what it keeps.
use Rattle.std.proofs.Common.{◌≡◌, ◌∙◌, ◌<◌, ◌∷◌, [], All, ap, arith, Bool, eqb-true, false, find, IsSome, is_some, length, List, map, nat_eq, None, option_map, Option, refl, Some, subst, suc, sym, true, true≢false, unwrap_or, ⊎_elim, ℕ, slice_get, if◌then◌else◌}
use Rattle.std.specs.Map.{keys_of}
use Rattle.vt_spec.proofs.Common.{All-head, All-tail, All-weaker, Filesystem, Lower, Overlay, Real, Upper, World, found_passes, none_is_some, number_at_path, open_layer, real_object, real_shown, same_Some, shown, then_some, common_steps}
use Rattle.vt_spec.proofs.Trees.{reached_named}
use Rattle.vt_laws_trees.proofs.overlays.merged.Numbers.{numbers_are_those}
use Rattle.vt_laws_trees.specs.Overlays.MergedTrees.{IsMergedTree, IsNamedBy, layers_shown}
use Rattle.vt_location.specs.declared.locations.NodeRef.{NodeRef}
use Rattle.vt_location.specs.Locations.{number_of}
use Rattle.vt_location.proofs.NodeLemmas.{one_to_one, small_parts}
use Rattle.vt_births.specs.Births.{copy_of}
use Rattle.vt_fs.specs.FilesystemsValue.{Filesystems}
use Rattle.vt_overlay.specs.Merge.LayerValue.{layers_of}
use Rattle.vt_overlay.specs.declared.merge.layers.LayerRef.{LayerRef}
use Rattle.vt_overlay.specs.MergedTree.{AreLayers, layer_seen, longest, node_born, plain_world}
use Rattle.vt_overlay.proofs.TreeFound as plain
use Rattle.vt_upper_overlay.specs.Laws.{IsKeptRight, IsLeftWithoutName, MergedTreesStandAbove, with_objects}
use Rattle.vt_upper_overlay.specs.MergedAbove.{held, number_at, object_kept, path_at, real_number, upper_seen}
use Rattle.vt_upper_overlay.specs.Standing.{IsKeptWell}
use Rattle.vt_upper_overlay.specs.UpperValue.{UpperOverlayValue}
use Rattle.vt_upper_overlay.proofs.Shown.{all_layers, first_layer}
use Rattle.vt_upper_overlay.proofs.Ways as ways

is_upper : Option (Real ℕ) → Bool
is_upper None = false
is_upper (Some (Upper object)) = true
is_upper (Some (Lower layer path)) = false

-- what is found has what all have
found_has : (P : NodeRef → Type 0) (test : NodeRef → Bool) (nodes : List NodeRef) (node : NodeRef) → All P nodes
    → find test nodes ≡ Some node → P node
found_has P test [] node all e = none_is_some node e
found_has P test (first ∷ nodes) node all e =
    by (test first) refl (found_has P test nodes node (All-tail P first nodes all))
  where
    by : (b : Bool) → test first ≡ b → (find test nodes ≡ Some node → P node) → P node
    by true t rest = subst P (same_Some first node
        (sym (ap (λ b. if b then Some first else find test nodes) t) ∙ e)) (All-head P first nodes all)
    by false t rest = rest (sym (ap (λ b. if b then Some first else find test nodes) t) ∙ e)

module _ (trees : Filesystems) (overlay : UpperOverlayValue) (filesystem : Filesystem ℕ) (real : ℕ → Option (Real ℕ))
    (are : AreLayers trees overlay.layers.lowers) (some : 0 < length overlay.layers.lowers)
    (merged : IsMergedTree (plain_world trees) filesystem (with_objects overlay real))
    (named : IsNamedBy (real_number trees overlay) (held trees overlay) filesystem (with_objects overlay real))
    (right : IsKeptRight overlay filesystem.files.tree real) where
  abbrev world : World ℕ
  world = plain_world trees

  abbrev over : Overlay ℕ
  over = with_objects overlay real

  layers_are : layers_shown world over ≡ layers_of trees overlay.layers.lowers
  layers_are = ap (map (open_layer nat_eq world)) (all_layers overlay.layers.lowers)
      ∙ plain.layers_are trees overlay.layers are

  has_upper : is_some over.upper ≡ true
  has_upper = ap (λ o. is_some (option_map layer_seen o)) (first_layer overlay.layers.lowers some).1

  number_there : (path : List (List ℕ)) → number_at_path filesystem.files path ≡ number_at trees overlay path
  number_there path = numbers_are_those (real_number trees overlay) (held trees overlay) world filesystem over merged
      named path

  module _ (path : List (List ℕ)) (layer object : ℕ) (lower : LayerRef)
      (shows : shown (layers_of trees overlay.layers.lowers) path ≡ Some (record { layer = suc layer; object = object }))
      (at : slice_get overlay.layers.lowers (suc layer) ≡ Some lower) where
    abbrev node : NodeRef
    node = node_born trees overlay.layers.number layer lower path

    real_there : real_shown nat_eq world over path ≡ Some (Lower layer path)
    real_there = grind (arith, common_steps, layers_are, has_upper, real_object, shows)

    numbered : number_at trees overlay path ≡ Some (number_of node)
    numbered = ap (option_map (real_number trees overlay)) real_there
        ∙ ap (λ o. Some (unwrap_or (option_map (λ lower. number_of (node_born trees
        overlay.layers.number layer lower path)) o) 0)) at

    uncopied : copy_of overlay.nodes.births node ≡ None
    unfolding is_upper
    uncopied = by (copy_of overlay.nodes.births node) refl
      where
        by : (o : Option ℕ) → copy_of overlay.nodes.births node ≡ o → copy_of overlay.nodes.births node ≡ None
        by None c = c
        by (Some slot) c =
            let copied = right.copies slot node (right.one_to_one.back slot node c) in
            let lower_is = merged.merged.names path (number_of node) (number_there path ∙ numbered) ∙ real_there in
            absurd (true≢false (ap is_upper (sym copied ∙ lower_is)))

  -- what is kept
  module _ (node : NodeRef) (left : IsLeftWithoutName overlay filesystem.files.tree real node) where
    nowhere : path_at trees overlay (number_of node) ≡ None
    nowhere = by (path_at trees overlay (number_of node)) refl
      where
        by : (o : Option (List (List ℕ))) → path_at trees overlay (number_of node) ≡ o
            → path_at trees overlay (number_of node) ≡ None
        by None e = e
        by (Some path) e =
            let there = ways.found_numbered (real_number trees overlay) (held trees overlay)
            (longest trees overlay.layers.lowers) world (upper_seen overlay) (number_of node) path e in
            absurd (⊎_elim (λ root. left.other (sym root)) left.unnamed
            (reached_named filesystem.files.tree (number_of node) (path, number_there path ∙ there)))

    its_object : IsSome (object_kept trees overlay node)
    its_object = by (find test (keys_of overlay.nodes.kept.by_node)) refl
        (subst IsSome (named.unnamed (number_of node) left.unnamed left.other) left.object)
      where
        test : NodeRef → Bool
        test one = nat_eq (number_of node) (number_of one)

        by : (o : Option NodeRef) → find test (keys_of overlay.nodes.kept.by_node) ≡ o
            → IsSome (then_some o (object_kept trees overlay)) → IsSome (object_kept trees overlay node)
        by None e is = absurd (true≢false (sym is))
        by (Some one) e is =
            let other = found_has (IsLeftWithoutName overlay filesystem.files.tree real) test
            (keys_of overlay.nodes.kept.by_node) one right.kept e in
            subst (λ n. IsSome (object_kept trees overlay n)) (sym (one_to_one node one (small_parts node left.small)
            (small_parts one other.small)
            (eqb-true (number_of node) (number_of one) (found_passes test (keys_of overlay.nodes.kept.by_node) one e)))) is

    kept_well : IsKeptWell trees overlay node
    kept_well = record { small = left.small; own = left.own; unnamed = nowhere; object = its_object }

  pub all_kept : All (IsKeptWell trees overlay) (keys_of overlay.nodes.kept.by_node)
  all_kept = All-weaker (IsLeftWithoutName overlay filesystem.files.tree real) (IsKeptWell trees overlay) kept_well
      (keys_of overlay.nodes.kept.by_node) right.kept

  pub none_copied : (path : List (List ℕ)) (layer object : ℕ) (lower : LayerRef)
      → shown (layers_of trees overlay.layers.lowers) path ≡ Some (record { layer = suc layer; object = object })
      → slice_get overlay.layers.lowers (suc layer) ≡ Some lower
      → copy_of overlay.nodes.births (node_born trees overlay.layers.number layer lower path) ≡ None
  none_copied = uncopied

pub stand_above : MergedTreesStandAbove
stand_above trees overlay filesystem real are some few merged named right = record {
  layers = are;
  upper = some;
  few = few;
  one_to_one = right.one_to_one;
  own = right.own;
  uncopied = none_copied trees overlay filesystem real are some merged named right;
  kept = all_kept trees overlay filesystem real are some merged named right;
}
