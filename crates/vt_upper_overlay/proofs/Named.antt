-- The tree of an overlay with an upper layer is found along paths: no directory is at two, and each has the way that it
-- has where the upper layer is the highest lower one.
use Rattle.std.proofs.Common.{◌≡◌, ◌∙◌, ◌<◌, [], ap, arith, Bool, List, nat_eq, None, option_map, Option, refl, Some, subst, suc, sym, true, ⊎_elim, zero, ℕ, slice_get, if◌then◌else◌}
use Rattle.vt_spec.proofs.Common.{IsDirectory, OpenLayer, Shown, is_directory_node, layer_node, names_in, names_shown, node_shown, none_is_some, same_Some, shown, slice_get-map, slice_get_within, then_some, without_last}
use Rattle.vt_laws_trees.proofs.layers.layers.ShownDirectories.{AreOpen}
use Rattle.vt_laws_trees.proofs.layers.layers.ShownPaths.{one_path}
use Rattle.vt_location.specs.declared.births.Birth.TheVariants.{Below, Here}
use Rattle.vt_location.specs.declared.locations.NodeRef.{NodeRef}
use Rattle.vt_location.specs.Locations.{inode_of, number_of}
use Rattle.vt_location.specs.NodeNumbers.{IsSmall}
use Rattle.vt_location.specs.Numbers.{exchanged}
use Rattle.vt_location.proofs.NumberLemmas.{exchanged_back}
use Rattle.vt_births.specs.Births.{node_above}
use Rattle.vt_fs.specs.FilesystemsValue.{Filesystems, files_at}
use Rattle.vt_overlay.specs.Merge.LayerValue.{layer_of, layers_of}
use Rattle.vt_overlay.specs.declared.merge.layers.LayerRef.{LayerRef}
use Rattle.vt_overlay.specs.MergedTree as through
use Rattle.vt_overlay.specs.MergedTree.{longest, merged_tree, node_born, overlay_seen, plain_world, rank_at, slot_at}
use Rattle.vt_overlay.proofs.BirthsFound.{in_slot}
use Rattle.vt_overlay.proofs.DirectoriesUnder.{is_path, is_there, one_way}
use Rattle.vt_overlay.proofs.NamesFound.{names_of_none, names_of_way}
use Rattle.vt_overlay.proofs.TreeFound as plain
use Rattle.vt_overlay.proofs.TreeFound.{IsAt, node_there, open_layers}
use Rattle.vt_upper_overlay.specs.MergedAbove.{directory_path, held, merged_above, number_at, real_number, upper_seen}
use Rattle.vt_upper_overlay.specs.UpperValue.{UpperOverlayValue, node_for}
use Rattle.vt_upper_overlay.proofs.Shown.{IsAbove, IsBelow, IsLooked, converted, layers_are, lifted, no_number, no_slot_below, number_above, number_below, plain_number, root_shown, same_inode, shown_node, slot_is_above, small_born, small_shown}
use Rattle.vt_upper_overlay.proofs.Ways as ways

module _ (trees : Filesystems) (overlay : UpperOverlayValue) (looked : IsLooked trees overlay) where
  abbrev layers : List (OpenLayer ℕ)
  layers = layers_of trees overlay.layers.lowers

  abbrev f : ℕ
  f = looked.top.directory.filesystem.count

  abbrev shows_directory : List (List ℕ) → Bool
  shows_directory path = is_directory_node (node_shown nat_eq (plain_world trees) (upper_seen overlay) path)

  abbrev Above : List (List ℕ) → NodeRef → Type 0
  Above = IsAbove trees overlay looked

  abbrev BelowIt : List (List ℕ) → NodeRef → Type 0
  BelowIt = IsBelow trees overlay looked

  abbrev pub Naming : Type 0
  Naming = ways.IsNaming (real_number trees overlay) (held trees overlay) (longest trees overlay.layers.lowers)
      (plain_world trees) (upper_seen overlay)

  -- the inode at a path, of a layer
  pub inode_at : (path : List (List ℕ)) (place object : ℕ) (lower : LayerRef)
      → shown layers path ≡ Some (record { layer = place; object = object })
      → slice_get overlay.layers.lowers place ≡ Some lower
      → node_shown nat_eq (plain_world trees) (upper_seen overlay) path
      ≡ (files_at trees lower.directory.filesystem.count).tree.node object
  inode_at path place object lower e at =
      ap (λ all. then_some (shown all path) (layer_node all)) (layers_are trees overlay looked)
      ∙ ap (λ o. then_some o (layer_node layers)) e
      ∙ ap (λ o. then_some o (λ (layer : OpenLayer ℕ). layer.tree.node object))
      (slice_get-map (layer_of trees) overlay.layers.lowers place ∙ ap (option_map (layer_of trees)) at)

  pub directory_above : (path : List (List ℕ)) (node : NodeRef) (above : Above path node) → shows_directory path ≡ true
      → IsDirectory (files_at trees f).tree above.object
  directory_above path node above directory =
      sym (ap is_directory_node (inode_at path 0 above.object looked.top above.is looked.first)) ∙ directory

  -- the node that is shown has a number
  record HasNode (number : ℕ) : Type 0 where
    pub node : NodeRef
    pub node_small : IsSmall node
    pub numbered : number_of node ≡ number

  has_node : (path : List (List ℕ)) (number : ℕ) → number_at trees overlay path ≡ Some number → HasNode number
  has_node path number numbered = by (shown layers path) refl
    where
      at_place : (place object : ℕ) → shown layers path ≡ Some (record { layer = place; object = object })
          → HasNode number
      at_place zero object e =
          let at = plain.in_layer trees overlay.layers looked.stands.layers path
          (record { layer = 0; object = object }) e in
          let slot = in_slot trees at.0
          (looked.stands.layers 0 at.0 at.1) path object at.2 in
          let same = same_Some at.0 looked.top (sym at.1 ∙ looked.first) in
          record {
            node = node_above overlay.nodes.births overlay.layers.number (exchanged f object);
            node_small = small_shown trees overlay looked object
                (subst (λ n. n < 18446744073709551616) (slot.1
                ∙ ap (λ (l : LayerRef). exchanged l.directory.filesystem.count object) same) slot.0);
            numbered = same_Some _ number (sym (number_above trees overlay looked path object e) ∙ numbered);
          }
      at_place (suc layer) object e =
          let at = plain.in_layer trees overlay.layers looked.stands.layers path
          (record { layer = suc layer; object = object }) e in
          let within = slice_get_within overlay.layers.lowers (suc layer) at.0 at.1 in
          let few = looked.stands.few in
          record {
            node = node_born trees overlay.layers.number layer at.0 path;
            node_small = small_born trees overlay looked path layer object at.0 (omega (arith, within, few))
                (looked.stands.layers (suc layer) at.0 at.1) at.2;
            numbered = same_Some _ number (sym (number_below trees overlay looked path layer object at.0 e at.1)
                ∙ numbered);
          }

      by : (o : Option (Shown ℕ)) → shown layers path ≡ o → HasNode number
      by None e = none_is_some number (sym (no_number trees overlay looked path e) ∙ numbered)
      by (Some seen) e = at_place seen.layer seen.object e

  -- A directory is at no other path. In the upper layer its object is at one path;
  both_above : (path other : List (List ℕ)) (node : NodeRef) (a : Above path node) (b : Above other node)
      → shows_directory path ≡ true → other ≡ path
  both_above path other node a b directory =
      let slots = same_Some (exchanged f b.object) (exchanged f a.object)
      (sym (slot_is_above trees overlay looked other node b) ∙ slot_is_above trees overlay looked path node a) in
      let objects = sym (exchanged_back f b.object) ∙ ap (exchanged f) slots ∙ exchanged_back f a.object in
      one_path (files_at trees f).tree (looked.stands.layers 0 looked.top looked.first).tree
      (inode_of looked.top.directory) other path a.object (b.leads ∙ ap Some objects) a.leads
      (directory_above path node a directory)

  not_both : (path other : List (List ℕ)) (node : NodeRef) → Above path node → BelowIt other node → ⊥
  not_both path other node a b = none_is_some (exchanged f a.object)
      (sym (no_slot_below trees overlay looked other node b) ∙ slot_is_above trees overlay looked path node a)

  -- in a lower one it is where it is as a plain look sees it.
  lifted_born : (path : List (List ℕ)) (node : NodeRef) (b : BelowIt path node)
      → node_born trees overlay.layers.number (suc b.layer) b.lower path
      ≡ record { filesystem = overlay.layers.number; slot = node.slot; birth = lifted node.birth }
  lifted_born path node b =
      ap (λ r. record {
        filesystem = overlay.layers.number;
        slot = slot_at trees b.lower path;
        birth = if r then Here
            else Below (suc b.layer) (slot_at trees b.lower (without_last path)) (rank_at trees b.lower path);
      }) b.named
      ∙ ap (λ r. record {
        filesystem = overlay.layers.number;
        slot = slot_at trees b.lower path;
        birth = lifted (if r then Here
            else Below b.layer (slot_at trees b.lower (without_last path)) (rank_at trees b.lower path));
      }) (sym b.named)
      ∙ ap (λ (n : NodeRef). record {
        filesystem = overlay.layers.number;
        slot = n.slot;
        birth = lifted n.birth;
      }) b.node_is

  abbrev lifted_node : NodeRef → NodeRef
  lifted_node node = record { filesystem = overlay.layers.number; slot = node.slot; birth = lifted node.birth }

  pub lifted_number : (path : List (List ℕ)) (node : NodeRef) → BelowIt path node
      → through.number_at trees overlay.layers path ≡ Some (number_of (lifted_node node))
  lifted_number path node b = plain_number trees overlay looked path (suc b.layer) b.object b.lower b.is b.at
      ∙ ap (λ n. Some (number_of n)) (lifted_born path node b)

  -- a directory is one as a plain look sees it
  pub plain_way : (path : List (List ℕ)) (number : ℕ) → through.number_at trees overlay.layers path ≡ Some number
      → shows_directory path ≡ true → through.directory_path trees overlay.layers number ≡ Some path
  plain_way path number numbered directory =
      let at = plain.numbered_is_at trees overlay.layers looked.stands.layers number path numbered in
      is_path trees overlay.layers looked.stands.layers looked.stands.few number path at
      (ap is_directory_node (sym (node_there trees overlay.layers looked.stands.layers number path at)
      ∙ sym (same_inode trees overlay looked path)) ∙ directory)

  both_below : (path other : List (List ℕ)) (node : NodeRef) → BelowIt path node → BelowIt other node
      → shows_directory path ≡ true → other ≡ path
  both_below path other node a b directory =
      one_way trees overlay.layers looked.stands.layers looked.stands.few (number_of (lifted_node node)) path other
      (plain_way path (number_of (lifted_node node)) (lifted_number path node a) directory)
      (lifted_number other node b)

  naming : Naming
  naming = record {
    open_layers = subst AreOpen (sym (layers_are trees overlay looked))
        (open_layers trees overlay.layers looked.stands.layers);
    bounded = λ path seen e. plain.bounded trees overlay.layers looked.stands.layers path seen
        (sym (ap (λ all. shown all path) (layers_are trees overlay looked)) ∙ e);
    apart = λ path other number one also directory.
        let is = has_node path number one in
        let here = shown_node trees overlay looked path is.node is.node_small (one ∙ ap Some (sym is.numbered)) in
        let there = shown_node trees overlay looked other is.node is.node_small (also ∙ ap Some (sym is.numbered)) in
        ⊎_elim (λ a. ⊎_elim (λ b. both_above path other is.node a b directory)
        (λ b. absurd (not_both path other is.node a b)) there)
        (λ a. ⊎_elim (λ b. absurd (not_both other path is.node b a))
        (λ b. both_below path other is.node a b directory) there) here;
    root = ap is_directory_node (inode_at [] 0 (inode_of looked.top.directory) looked.top
        (root_shown trees overlay.layers.lowers looked.top looked.first
        (looked.stands.layers 0 looked.top looked.first).directory) looked.first)
        ∙ (looked.stands.layers 0 looked.top looked.first).directory;
  }

  pub is_naming : Naming
  is_naming = naming

  -- what a way shows is a directory
  pub shows_way : (number : ℕ) (path : List (List ℕ)) → directory_path trees overlay number ≡ Some path
      → shows_directory path ≡ true
  shows_way number path e = (ways.directory_at (real_number trees overlay) (held trees overlay)
      (longest trees overlay.layers.lowers) (plain_world trees) (upper_seen overlay) number path e).directory

  pub way_number : (number : ℕ) (path : List (List ℕ)) → directory_path trees overlay number ≡ Some path
      → number_at trees overlay path ≡ Some number
  way_number = ways.way_numbered_is (real_number trees overlay) (held trees overlay)
      (longest trees overlay.layers.lowers) (plain_world trees) (upper_seen overlay)

  pub is_way : (number : ℕ) (path : List (List ℕ)) → number_at trees overlay path ≡ Some number
      → shows_directory path ≡ true → directory_path trees overlay number ≡ Some path
  is_way = ways.is_way (real_number trees overlay) (held trees overlay) (longest trees overlay.layers.lowers)
      (plain_world trees) (upper_seen overlay) naming

  -- A node and the one that it is as a plain look sees it have one way, if
  module _ (node plain_node : NodeRef) (node_small : IsSmall node) (plain_small : IsSmall plain_node)
      (same : node_for overlay plain_node.slot plain_node.birth ≡ node)
      (found : (path : List (List ℕ)) → number_at trees overlay path ≡ Some (number_of node)
      → shows_directory path ≡ true
      → through.number_at trees overlay.layers path ≡ Some (number_of plain_node)) where
    pub one_way_for_both : through.directory_path trees overlay.layers (number_of plain_node)
        ≡ directory_path trees overlay (number_of node)
    one_way_for_both = by (through.directory_path trees overlay.layers (number_of plain_node)) refl
      where
        none : (o : Option (List (List ℕ))) → directory_path trees overlay (number_of node) ≡ o
            → through.directory_path trees overlay.layers (number_of plain_node) ≡ None
            → through.directory_path trees overlay.layers (number_of plain_node)
            ≡ directory_path trees overlay (number_of node)
        none None e p = p ∙ sym e
        none (Some path) e p =
            let directory = shows_way (number_of node) path e in
            none_is_some path (sym p ∙ plain_way path (number_of plain_node)
            (found path (way_number (number_of node) path e) directory) directory)

        by : (o : Option (List (List ℕ))) → through.directory_path trees overlay.layers (number_of plain_node) ≡ o
            → through.directory_path trees overlay.layers (number_of plain_node)
            ≡ directory_path trees overlay (number_of node)
        by None p = none (directory_path trees overlay (number_of node)) refl p
        by (Some path) p =
            let there = is_there trees overlay.layers looked.stands.layers looked.stands.few (number_of plain_node) path
            p in
            let directory : shows_directory path ≡ true =
            ap is_directory_node (same_inode trees overlay looked path
            ∙ node_there trees overlay.layers looked.stands.layers (number_of plain_node) path there.at)
            ∙ there.directory in
            p ∙ sym (is_way (number_of node) path
            (converted trees overlay looked path plain_node plain_small there.numbered
            ∙ ap (λ n. Some (number_of n)) same) directory)

  -- the names at a way are those that a plain look finds
  pub same_names : (number plain_number : ℕ)
      → through.directory_path trees overlay.layers plain_number ≡ directory_path trees overlay number
      → names_in ((merged_tree trees overlay.layers).node plain_number)
      ≡ names_in ((merged_above trees overlay).node number)
  same_names number plain_number same = by (directory_path trees overlay number) refl
    where
      by : (o : Option (List (List ℕ))) → directory_path trees overlay number ≡ o
          → names_in ((merged_tree trees overlay.layers).node plain_number)
          ≡ names_in ((merged_above trees overlay).node number)
      by None e = sym (names_of_none trees overlay.layers looked.stands.layers plain_number (sym (same ∙ e)))
          ∙ sym (ways.no_names_of (real_number trees overlay) (held trees overlay)
          (longest trees overlay.layers.lowers) (plain_world trees) (upper_seen overlay) number e)
      by (Some way) e = sym (names_of_way trees overlay.layers looked.stands.layers plain_number way (sym (same ∙ e)))
          ∙ ap (λ all. names_shown all way) (sym (layers_are trees overlay looked))
          ∙ ways.names_of (real_number trees overlay) (held trees overlay)
          (longest trees overlay.layers.lowers) (plain_world trees) (upper_seen overlay) number way e
