-- An overlay that is kept in a world stands as its looks ask, and what it keeps is there.
use Rattle.std.proofs.Common.{◌≡◌, ◌∙◌, refl, sym, ap, subst, ℕ, suc, nat_eq, true, true≢false, List, find, Option, Some, None, option_map, is_some, slice_get}
use Rattle.std.specs.Map.{keys_of}
use Rattle.vt_spec.proofs.Common.{Among, Lower, Node, Real, SameObject, Upper, found_among, none_is_some, real_node, then_some, upper_object}
use Rattle.vt_births.specs.Births.{slot_above}
use Rattle.vt_births.specs.Kept.{is_kept}
use Rattle.vt_fs.specs.FilesystemsValue.{Filesystems}
use Rattle.vt_location.specs.declared.births.Birth.{Birth}
use Rattle.vt_location.specs.declared.births.Birth.TheVariants.{Below, Here}
use Rattle.vt_location.specs.declared.locations.NodeRef.{NodeRef}
use Rattle.vt_location.specs.Locations.{inode_of, number_of}
use Rattle.vt_location.specs.Numbers.{inode_number}
use Rattle.vt_overlay.specs.declared.merge.layers.LayerRef.{LayerRef}
use Rattle.vt_overlay.specs.MergedTree.{OverlayValue, plain_world}
use Rattle.vt_upper_overlay.specs.Laws.{with_objects}
use Rattle.vt_upper_overlay.specs.MergedAbove.{born_object, count_of, held, object_by, object_kept, path_born, upper_seen}
use Rattle.vt_upper_overlay.proofs.Shown.{first_layer}
use Rattle.vt_upper_overlay.proofs.StandingSo.{stand_above}
use Rattle.vt_layered.specs.LayeredTree.{StandsLayered}
use Rattle.vt_layered.specs.LayeredValue.{Above}
use Rattle.vt_layered.specs.Pins.{inode_above}
use Rattle.vt_spec.specs.Machine.World.{World}
use Rattle.vt_unnamed.specs.Kept.{IsKeptIn, KeptNodesAreThere, KeptOverlaysStand, UpperObjectsAreLetGo}
use Rattle.vt_unnamed.proofs.leaving.NodesKept.{among_kept, before, held_itself, merged, merged_before, named_before, real, without_name}

-- the real object at a path of a lower layer
abbrev lower_at : ℕ → List (List ℕ) → Real ℕ
lower_at layer path = Lower layer path

module _ {world : World ℕ} {plain : Filesystems} {overlay : OverlayValue} {above : Above}
    (kept : IsKeptIn world plain overlay above) where
  pub stands_kept : StandsLayered plain overlay (Some above)
  stands_kept = record {
    layers = kept.shows.are;
    some = kept.some;
    few = kept.few;
    right = stand_above plain (before kept) (merged kept) (real kept) kept.shows.are kept.some kept.few
        (merged_before kept) (named_before kept) kept.right;
  }

  -- the real object of a node that is kept
  real_is : (node : NodeRef) → Among node (keys_of above.nodes.kept.by_node)
      → real kept (number_of node) ≡ object_kept plain (before kept) node
  real_is node m =
      let it = without_name kept node m in
      (named_before kept).unnamed (number_of node) it.unnamed it.other ∙ held_itself kept node m

  without_objects : (object : Real ℕ)
      → real_node nat_eq (plain_world plain) (with_objects (before kept) (real kept)) object
      ≡ real_node nat_eq (plain_world plain) (upper_seen (before kept)) object
  without_objects (Upper object) = refl
  without_objects (Lower layer path) = refl

  node_there : (inode : ℕ) (object : Real ℕ) → real kept inode ≡ Some object
      → is_some (real_node nat_eq (plain_world plain) (upper_seen (before kept)) object) ≡ true
  node_there inode object e = ap is_some (sym (without_objects object))
      ∙ by ((merged kept).files.tree.node inode)
      (real_node nat_eq (plain_world plain) (with_objects (before kept) (real kept)) object) refl
      (subst (λ o. SameObject ((merged kept).files.tree.node inode)
      (then_some o (real_node nat_eq (plain_world plain) (with_objects (before kept) (real kept))))) e
      ((merged_before kept).merged.real_objects inode))
    where
      by : (o p : Option (Node ℕ)) → (merged kept).files.tree.node inode ≡ o → SameObject o p → is_some p ≡ true
      by None p none same = absurd (true≢false (sym (ap is_some e)
          ∙ ap is_some ((merged_before kept).merged.real_there inode none)))
      by (Some node) None some same = absurd same
      by (Some node) (Some other) some same = refl

  pub kept_there : (number : ℕ) (object : Real ℕ) → held plain (before kept) number ≡ Some object
      → is_some (real_node nat_eq (plain_world plain) (upper_seen (before kept)) object) ≡ true
  kept_there number object e = by (find (λ node. nat_eq number (number_of node)) (keys_of above.nodes.kept.by_node)) refl e
    where
      by : (o : Option NodeRef)
          → find (λ node. nat_eq number (number_of node)) (keys_of above.nodes.kept.by_node) ≡ o
          → then_some o (object_kept plain (before kept)) ≡ Some object
          → is_some (real_node nat_eq (plain_world plain) (upper_seen (before kept)) object) ≡ true
      by None f some = none_is_some object some
      by (Some node) f some = node_there (number_of node) object
          (real_is node (found_among (λ node. nat_eq number (number_of node)) (keys_of above.nodes.kept.by_node) node f)
          ∙ some)

  -- An object is let go with the node that has it
  let_go_is : (node : NodeRef) (o : Option LayerRef) → slice_get overlay.lowers 0 ≡ o → is_some o ≡ true
      → (s : Option ℕ) → slot_above above.nodes.births node ≡ s
      → option_map inode_of (then_some s (inode_above overlay))
      ≡ upper_object (object_by plain (before kept) node s)
  let_go_is node None at there s e = absurd (true≢false (sym there))
  let_go_is node (Some top) at there (Some slot) e =
      ap (λ o. option_map inode_of (option_map (λ (layer : LayerRef).
      record { filesystem = layer.directory.filesystem; slot = slot }) o)) at
      ∙ ap (λ o. Some (inode_number (count_of o) slot)) (sym at)
  let_go_is node (Some top) at there None e = by node.birth
    where
      at_path : (layer : ℕ) (p : Option (List (List ℕ)))
          → None ≡ upper_object (option_map (lower_at layer) p)
      at_path layer None = refl
      at_path layer (Some path) = refl

      in_layer : (layer : ℕ) (l : Option LayerRef)
          → None ≡ upper_object (then_some l (λ lower. option_map (lower_at layer)
          (path_born plain (before kept) node layer lower)))
      in_layer layer None = refl
      in_layer layer (Some lower) = at_path layer (path_born plain (before kept) node layer lower)

      by : (birth : Birth) → None ≡ upper_object (born_object plain (before kept) node birth)
      by Here = refl
      by (Below layer directory rank) = in_layer layer (slice_get overlay.lowers (suc layer))

  pub object_let_go : (node : NodeRef) → is_kept above.nodes.kept node ≡ true
      → option_map inode_of (then_some (slot_above above.nodes.births node) (inode_above overlay))
      ≡ upper_object (real kept (number_of node))
  object_let_go node there = let_go_is node (slice_get overlay.lowers 0) refl top_there
      (slot_above above.nodes.births node) refl ∙ ap upper_object (sym (real_is node (among_kept kept node there)))
    where
      top_there : is_some (slice_get overlay.lowers 0) ≡ true
      top_there = ap is_some (first_layer overlay.lowers kept.some).1

pub kept_overlays_stand : KeptOverlaysStand
kept_overlays_stand world plain overlay above kept = stands_kept kept

pub kept_nodes_are_there : KeptNodesAreThere
kept_nodes_are_there world plain overlay above kept = kept_there kept

pub upper_objects_are_let_go : UpperObjectsAreLetGo
upper_objects_are_let_go world plain overlay above kept = object_let_go kept
