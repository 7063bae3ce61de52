-- The inodes of an overlay with an upper layer, in the order of their numbers.
use Rattle.std.proofs.Common.{◌≡◌, refl, sym, ap, subst, ◌∙◌, ℕ, nat_eq, eqb-true, true, true≢false, List, [], ◌∷◌, ◌++◌, filter_map, find, map, Option, Some, None, option_map, is_some, unwrap_or}
use Rattle.vt_spec.proofs.Common.{Among, FileTree, Lower, Merged, Node, OpenLayer, Real, Shown, among-append_left, among-append_right, among-map, found_among, found_passes, holds_of, is_among, keys_of, layer_node, lookup, open_layer, paths_from, real_node, real_object, shown, then_some}
use Rattle.vt_laws_mounts.proofs.letting_go.Lists.{among-filter_map, held_number, is_among_numbers}
use Rattle.vt_laws_trees.proofs.layers.layers.ShownDirectories.{AreOpen}
use Rattle.vt_laws_trees.specs.Overlays.MergedTrees.{entries_shown, layers_shown, node_as, parent_shown}
use Rattle.vt_laws_trees.proofs.overlays.steps.WholeParts.{shown_is_there}
use Rattle.vt_laws_trees.specs.Overlays.TreesSeen.{node_by, real_by}
use Rattle.vt_location.specs.declared.locations.NodeRef.{NodeRef}
use Rattle.vt_location.specs.InOrder.{in_order_by}
use Rattle.vt_location.specs.Locations.{number_of}
use Rattle.vt_location.proofs.OrderLemmas.{looked-in_order}
use Rattle.vt_fs.specs.FilesystemsValue.{Filesystems}
use Rattle.vt_overlay.proofs.TreeFound as lower
use Rattle.vt_overlay.specs.MergedTree.{AreLayers, OverlayValue, longest, plain_world}
use Rattle.vt_upper_overlay.proofs.Shown.{all_layers}
use Rattle.vt_upper_overlay.specs.MergedAbove.{held, merged_above, number_at, numbers_there, object_kept, path_at, real_number, upper_seen}
use Rattle.vt_upper_overlay.specs.UpperValue.{UpperOverlayValue}
use Rattle.vt_layered.specs.LayeredTree.{layered_objects}
use Rattle.vt_layered.specs.LayeredValue.{Above, upper_of}
use Rattle.vt_world.specs.OverlaysKept.Layered.{KeptAreThere, LayeredInodesAreTheTree, LayeredInodesHaveTheirObjects, LayeredInodesStay, object_above, objects_above}
use Rattle.vt_world.specs.OverlaysKept.Inodes.{inode_kept}
use Rattle.vt_world.proofs.overlays_kept.inodes.InodesInOrder.{all_looked, inodes_are_the_tree, inodes_have_their_objects, inodes_stay, node_looked, real_looked}

as_many : {A B : Type 0} (f : A → B) (o : Option A) → is_some (option_map f o) ≡ is_some o
as_many f None = refl
as_many f (Some a) = refl

module _ (trees : Filesystems) (overlay : OverlayValue) (above : Above) where
  abbrev whole : UpperOverlayValue
  whole = upper_of overlay above

  abbrev kept : List NodeRef
  kept = keys_of above.nodes.kept.by_node

  abbrev paths : List (List (List ℕ))
  paths = paths_from (longest trees overlay.lowers) (layers_shown (plain_world trees) (upper_seen (upper_of overlay above))) []

  -- what is kept is listed
  kept_listed : (q : ℕ) (o : Option NodeRef)
      → find (λ node. nat_eq q (number_of node)) (keys_of above.nodes.kept.by_node) ≡ o
      → is_some (option_map (node_as q []) (then_some (then_some o (object_kept trees (upper_of overlay above)))
      (real_node nat_eq (plain_world trees) (upper_seen (upper_of overlay above))))) ≡ true
      → Among q (map number_of (keys_of above.nodes.kept.by_node))
  kept_listed q None e there = absurd (true≢false (sym there))
  kept_listed q (Some node) e there =
      subst (λ n. Among n (map number_of kept))
      (sym (eqb-true q (number_of node) (found_passes (λ node. nat_eq q (number_of node)) kept node e)))
      (among-map number_of kept node (found_among (λ node. nat_eq q (number_of node)) kept node e))

  -- each inode of the tree is one that is shown or kept
  inode_listed : (q : ℕ) → is_some ((merged_above trees (upper_of overlay above)).node q) ≡ true
      → is_among nat_eq q (numbers_there trees (upper_of overlay above)) ≡ true
  inode_listed q there = by (path_at trees whole q) refl there
    where
      by : (o : Option (List (List ℕ))) → path_at trees whole q ≡ o
          → is_some (node_by (real_number trees whole) (held trees whole) (longest trees overlay.lowers)
          (plain_world trees) (upper_seen whole) q o) ≡ true
          → is_among nat_eq q (numbers_there trees whole) ≡ true
      by None e there = is_among_numbers q (numbers_there trees whole) (among-append_right _ (map number_of kept) q
          (kept_listed q (find (λ node. nat_eq q (number_of node)) kept) refl there))
      by (Some path) e there = is_among_numbers q (numbers_there trees whole)
          (among-append_left _ (map number_of kept) q (among-filter_map (number_at trees whole) paths path q
          (found_among (λ path. holds_of (nat_eq q) (number_at trees whole path)) paths path e)
          (held_number q (number_at trees whole path)
          (found_passes (λ path. holds_of (nat_eq q) (number_at trees whole path)) paths path e))))

  object_listed : (q : ℕ) → is_some (object_above trees overlay above q) ≡ true
      → is_among nat_eq q (numbers_there trees (upper_of overlay above)) ≡ true
  object_listed q there = inode_listed q (sym (as_many (λ node. (
    node,
    unwrap_or (layered_objects trees overlay (Some above) q) (Lower 0 []),
  )) ((merged_above trees whole).node q)) ∙ there)

  looked_in_order : (q : ℕ)
      → lookup (nat_eq q) (in_order_by (λ number. number) (objects_above trees overlay above))
      ≡ object_above trees overlay above q
  looked_in_order q = looked-in_order (λ number. number) q (objects_above trees overlay above)
      ∙ all_looked (object_above trees overlay above) (numbers_there trees whole) object_listed q

pub layered_inodes_are_the_tree : LayeredInodesAreTheTree
layered_inodes_are_the_tree trees overlay None = inodes_are_the_tree trees overlay
layered_inodes_are_the_tree trees overlay (Some above) = λ i. record {
  root = (merged_above trees (upper_of overlay above)).root;
  node = λ q. (node_looked (in_order_by (λ number. number) (objects_above trees overlay above)) q
      ∙ ap (option_map (λ object. object.0)) (looked_in_order trees overlay above q)
      ∙ first_of ((merged_above trees (upper_of overlay above)).node q)
      (unwrap_or (layered_objects trees overlay (Some above) q) (Lower 0 []))) i;
}
  where
    first_of : (o : Option (Node ℕ)) (real : Real ℕ)
        → option_map (λ (object : Node ℕ × Real ℕ). object.0) (option_map (λ node. (node, real)) o) ≡ o
    first_of None real = refl
    first_of (Some node) real = refl

-- each inode has a real object, and nothing else has one
module _ (trees : Filesystems) (overlay : OverlayValue) (above : Above) (are : AreLayers trees overlay.lowers)
    (there : KeptAreThere trees overlay (Some above)) where
  abbrev opened : List (OpenLayer ℕ)
  opened = layers_shown (plain_world trees) (upper_seen (upper_of overlay above))

  are_opened : AreOpen (layers_shown (plain_world trees) (upper_seen (upper_of overlay above)))
  are_opened = subst AreOpen (sym (ap (map (open_layer nat_eq (plain_world trees))) (all_layers overlay.lowers)
      ∙ lower.layers_are trees overlay are)) (lower.open_layers trees overlay are)

  objects_there : (q : ℕ) → is_some (layered_objects trees overlay (Some above) q)
      ≡ is_some ((merged_above trees (upper_of overlay above)).node q)
  objects_there q = by (path_at trees (upper_of overlay above) q)
    where
      w : UpperOverlayValue
      w = upper_of overlay above

      one : (path : List (List ℕ)) (o : Option (Shown ℕ)) → shown opened path ≡ o
          → is_some (option_map (λ (object : Merged ℕ). real_object (is_some (upper_seen (upper_of overlay above)).upper)
          object.seen.layer object) (option_map (λ seen. record { path = path; seen = seen }) o))
          ≡ is_some (option_map (node_as (parent_shown (real_number trees (upper_of overlay above)) (plain_world trees)
          (upper_seen (upper_of overlay above)) path)
          (entries_shown (real_number trees (upper_of overlay above)) (plain_world trees)
          (upper_seen (upper_of overlay above)) path)) (then_some o (layer_node opened)))
      one path None e = refl
      one path (Some seen) e =
          sym (shown_is_there opened are_opened path seen e) ∙ sym (as_many _ (layer_node opened seen))

      kept_there : (o : Option (Real ℕ)) → held trees (upper_of overlay above) q ≡ o
          → is_some o ≡ is_some (option_map (node_as q [])
          (then_some o (real_node nat_eq (plain_world trees) (upper_seen (upper_of overlay above)))))
      kept_there None e = refl
      kept_there (Some real) e = sym (there q real e) ∙ sym (as_many (node_as q [])
          (real_node nat_eq (plain_world trees) (upper_seen (upper_of overlay above)) real))

      by : (o : Option (List (List ℕ)))
          → is_some (real_by (real_number trees (upper_of overlay above)) (held trees (upper_of overlay above))
          (longest trees overlay.lowers) (plain_world trees) (upper_seen (upper_of overlay above)) q o)
          ≡ is_some (node_by (real_number trees (upper_of overlay above)) (held trees (upper_of overlay above))
          (longest trees overlay.lowers) (plain_world trees) (upper_seen (upper_of overlay above)) q o)
      by None = kept_there (held trees (upper_of overlay above) q) refl
      by (Some path) = one path (shown opened path) refl

pub layered_inodes_have_their_objects : LayeredInodesHaveTheirObjects
layered_inodes_have_their_objects trees overlay None stands there = inodes_have_their_objects trees overlay stands.layers
layered_inodes_have_their_objects trees overlay (Some above) stands there = λ i. λ q.
    (real_looked (in_order_by (λ number. number) (objects_above trees overlay above)) q
    ∙ ap (option_map (λ object. object.1)) (looked_in_order trees overlay above q)
    ∙ second_of ((merged_above trees (upper_of overlay above)).node q) (layered_objects trees overlay (Some above) q)
    (objects_there trees overlay above stands.layers there q)) i
  where
    second_of : (o : Option (Node ℕ)) (real : Option (Real ℕ)) → is_some real ≡ is_some o
        → option_map (λ (object : Node ℕ × Real ℕ). object.1) (option_map (λ node. (node, unwrap_or real (Lower 0 []))) o)
        ≡ real
    second_of None None e = refl
    second_of None (Some object) e = absurd (true≢false e)
    second_of (Some node) None e = absurd (true≢false (sym e))
    second_of (Some node) (Some object) e = refl

pub layered_inodes_stay : LayeredInodesStay
layered_inodes_stay old new overlay None shows =
    inodes_stay old new overlay (record { tree = ap (λ (files : FileTree ℕ). files.tree) shows.files; real = shows.objects })
layered_inodes_stay old new overlay (Some above) shows = λ i. map inode_kept (in_order_by (λ number. number)
    (filter_map (λ number. option_map (λ (object : Node ℕ × Real ℕ). (number, object))
    (option_map (λ node. (node, unwrap_or (shows.objects i number) (Lower 0 []))) ((shows.files i).tree.node number)))
    (shows.files i).numbers))
