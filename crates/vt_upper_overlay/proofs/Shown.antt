-- What an overlay with an upper layer shows, beside what it shows where the upper layer is the highest lower one: the
-- layers are the same, so the same objects are shown at the same paths, and only the nodes have other numbers.
use Rattle.std.proofs.Common.{◌≡◌, ◌∙◌, ◌<◌, ◌⊎◌, ◌∷◌, ◌++◌, [], ap, arith, Bool, drop, false, inl, inr, length, List, map, nat_eq, None, option_map, option_to_list, Option, refl, Some, subst, suc, sym, true, unwrap_or, zero, ℕ, slice_get, if◌then◌else◌, is_some}
use Rattle.vt_spec.proofs.Common.{IsDirectory, OpenLayer, Overlay, Shown, World, at_path, is_root_path, layer_node, node_shown, none_is_some, open_layer, real_object, same_Some, shown, slice_get_within, then_some, without_last, common_steps}
use Rattle.vt_laws_trees.specs.Overlays.MergedTrees.{layers_shown}
use Rattle.vt_location.specs.declared.births.Birth.{Birth}
use Rattle.vt_location.specs.declared.births.Birth.TheVariants.{Below, Here}
use Rattle.vt_location.specs.declared.locations.NodeRef.{NodeRef}
use Rattle.vt_location.specs.declared.numbers.FilesystemId.{FilesystemId}
use Rattle.vt_location.specs.Locations.{inode_of, is_small_node, number_of}
use Rattle.vt_location.specs.NodeNumbers.{IsSmall}
use Rattle.vt_location.specs.Numbers.{exchanged}
use Rattle.vt_location.proofs.NodeLemmas.{one_to_one, small_parts}
use Rattle.vt_location.proofs.NumberLemmas.{exchanged_back, exchanged_slot}
use Rattle.vt_births.specs.Births.{AreOneToOne, BirthsValue, copy_of, node_above, node_of, slot_above, slot_by}
use Rattle.vt_births.proofs.NodesAbove.{born_here, slots_found}
use Rattle.vt_fs.specs.FilesystemsValue.{Filesystems, files_at}
use Rattle.vt_overlay.specs.Merge.LayerValue.{layer_of, layers_of}
use Rattle.vt_overlay.specs.declared.merge.layers.LayerRef.{LayerRef}
use Rattle.vt_overlay.specs.MergedTree as through
use Rattle.vt_overlay.specs.MergedTree.{AreLayers, IsLayer, OverlayValue, birth_at, born_below, layer_seen, longest, node_born, overlay_seen, plain_world, rank_at, slot_at}
use Rattle.vt_overlay.proofs.BirthsFound.{in_slot, small_birth}
use Rattle.vt_overlay.proofs.RootFound.{no_name}
use Rattle.vt_overlay.proofs.TreeFound as plain
use Rattle.vt_overlay.proofs.TreeFound.{IsAt, in_layer, node_there, number_of_shown, numbered_is_at, open_layers}
use Rattle.vt_upper_overlay.specs.MergedAbove.{number_at, upper_count, count_of, upper_seen}
use Rattle.vt_upper_overlay.specs.Standing.{StandsAbove}
use Rattle.vt_upper_overlay.specs.UpperValue.{UpperOverlayValue, node_for}

-- an overlay with an upper layer has a first layer
pub first_layer : (layers : List LayerRef) → 0 < length layers → (top : LayerRef) × (slice_get layers 0 ≡ Some top)
first_layer [] some = absurd (let no : ⊥ = omega (arith, some) in no)
first_layer (top ∷ rest) some = (top, refl)

-- the upper layer, and then the lower ones, are all
pub all_layers : (layers : List LayerRef) → option_to_list (option_map layer_seen (slice_get layers 0))
    ++ map layer_seen (drop 1 layers) ≡ map layer_seen layers
all_layers [] = refl
all_layers (top ∷ rest) = grind (arith, common_steps)

-- at the path without names the first layer's directory is shown
pub root_shown : (trees : Filesystems) (layers : List LayerRef) (top : LayerRef) → slice_get layers 0 ≡ Some top
    → IsDirectory (files_at trees top.directory.filesystem.count).tree (inode_of top.directory)
    → shown (layers_of trees layers) [] ≡ Some (record { layer = 0; object = inode_of top.directory })
root_shown trees [] top e is = none_is_some top e
root_shown trees (first ∷ layers) top e is = grind (arith, common_steps)

-- a birth where the upper layer is the highest lower one
abbrev pub lifted : Birth → Birth
lifted Here = Here
lifted (Below layer directory rank) = Below (suc layer) directory rank

pub small_above : (births : BirthsValue) (node : NodeRef) (slot : ℕ) → AreOneToOne births
    → node.filesystem.count < 18446744073709551616 → slot < 18446744073709551616
    → IsSmall (node_above births node.filesystem slot)
small_above births node slot one count small = by (node_of births slot) refl
  where
    by : (found : Option NodeRef) → node_of births slot ≡ found
        → IsSmall (unwrap_or found (born_here node.filesystem slot))
    by None e = record { filesystem = count; slot = small; birth = tt }
    by (Some node) e = small_parts node (one.small slot node e)

-- an overlay that stands on its layers, of which the first is the upper one
pub record IsLooked (trees : Filesystems) (overlay : UpperOverlayValue) : Type 0 where
  pub stands : StandsAbove trees overlay
  pub small : overlay.layers.number.count < 18446744073709551616
  pub top : LayerRef
  pub first : slice_get overlay.layers.lowers 0 ≡ Some top

pub is_looked : (trees : Filesystems) (overlay : UpperOverlayValue) → StandsAbove trees overlay
    → overlay.layers.number.count < 18446744073709551616 → IsLooked trees overlay
is_looked trees overlay stands small =
    let top = first_layer overlay.layers.lowers stands.upper in
    record { stands = stands; small = small; top = top.0; first = top.1 }

-- so of each of its nodes
pub looked_by : (trees : Filesystems) (overlay : UpperOverlayValue) (node : NodeRef) → StandsAbove trees overlay
    → is_small_node node ≡ true → node.filesystem ≡ overlay.layers.number → IsLooked trees overlay
looked_by trees overlay node stands small own = is_looked trees overlay stands
    (subst (λ (id : FilesystemId). id.count < 18446744073709551616) own (small_parts node small).filesystem)

module _ (trees : Filesystems) (overlay : UpperOverlayValue) (looked : IsLooked trees overlay) where
  abbrev stands : StandsAbove trees overlay
  stands = looked.stands

  abbrev small : overlay.layers.number.count < 18446744073709551616
  small = looked.small

  abbrev top : LayerRef
  top = looked.top

  abbrev first : slice_get overlay.layers.lowers 0 ≡ Some looked.top
  first = looked.first

  abbrev pub layers : List (OpenLayer ℕ)
  layers = layers_of trees overlay.layers.lowers

  abbrev pub world : World ℕ
  world = plain_world trees

  abbrev pub over : Overlay ℕ
  over = upper_seen overlay

  abbrev births : BirthsValue
  births = overlay.nodes.births

  abbrev are : AreLayers trees overlay.layers.lowers
  are = stands.layers

  pub both_shown : layers_shown world over ≡ layers_shown world (overlay_seen overlay.layers)
  both_shown = ap (map (open_layer nat_eq world)) (all_layers overlay.layers.lowers)

  pub layers_are : layers_shown world over ≡ layers
  layers_are = both_shown ∙ plain.layers_are trees overlay.layers are

  -- the inode that is shown
  pub same_inode : (path : List (List ℕ))
      → node_shown nat_eq world over path ≡ node_shown nat_eq world (overlay_seen overlay.layers) path
  same_inode path = ap (λ all. then_some (shown all path) (layer_node all)) both_shown

  abbrev f : ℕ
  f = top.directory.filesystem.count

  is_top : IsLayer trees top
  is_top = are 0 top first

  -- the slot of the upper directory
  pub top_slot : exchanged f (inode_of top.directory) ≡ top.directory.slot
  top_slot =
      let start = inode_of top.directory in
      let slot = in_slot trees top is_top [] start refl in
      let same = sym (exchanged_back f start) ∙ exchanged_slot f (exchanged f start) slot.0 in
      omega (arith, same)

  has_upper : is_some over.upper ≡ true
  has_upper = ap (λ o. is_some (option_map layer_seen o)) first

  count_is : upper_count overlay ≡ f
  count_is = ap count_of first

  pub no_number : (path : List (List ℕ)) → shown layers path ≡ None → number_at trees overlay path ≡ None
  no_number path e = grind (arith, common_steps, layers_are)

  -- what is shown in the upper layer, and in a lower one
  pub number_above : (path : List (List ℕ)) (object : ℕ) → shown layers path ≡ Some (record { layer = 0; object = object })
      → number_at trees overlay path
      ≡ Some (number_of (node_above births overlay.layers.number (exchanged f object)))
  number_above path object e = grind (arith, common_steps, layers_are, has_upper, count_is, real_object)

  pub number_below : (path : List (List ℕ)) (layer object : ℕ) (lower : LayerRef)
      → shown layers path ≡ Some (record { layer = suc layer; object = object })
      → slice_get overlay.layers.lowers (suc layer) ≡ Some lower
      → number_at trees overlay path ≡ Some (number_of (node_born trees overlay.layers.number layer lower path))
  number_below path layer object lower e at = grind (arith, common_steps, layers_are, has_upper, real_object)

  -- a path that is shown in a lower layer has names
  named_below : (path : List (List ℕ)) (layer object : ℕ)
      → shown layers path ≡ Some (record { layer = suc layer; object = object }) → is_root_path path ≡ false
  named_below path layer object e = by (is_root_path path) refl
    where
      by : (b : Bool) → is_root_path path ≡ b → is_root_path path ≡ false
      by false r = r
      by true r =
          let root = sym e ∙ ap (shown layers) (no_name path r)
          ∙ root_shown trees overlay.layers.lowers top first is_top.directory in
          let place = ap (λ (s : Shown ℕ). s.layer) (same_Some (record { layer = suc layer; object = object })
          (record { layer = 0; object = inode_of top.directory }) root) in
          absurd (let no : ⊥ = omega (arith, place) in no)

  -- A node that is shown at a path: in the upper layer,
  pub record IsAbove (path : List (List ℕ)) (node : NodeRef) : Type 0 where
    pub object : ℕ
    pub is : shown layers path ≡ Some (record { layer = 0; object = object })
    pub leads : at_path (layer_of trees top) path ≡ Some object
    pub slot_small : exchanged f object < 18446744073709551616
    pub node_is : node_above births overlay.layers.number (exchanged f object) ≡ node

  -- or in a lower one.
  pub record IsBelow (path : List (List ℕ)) (node : NodeRef) : Type 0 where
    pub layer : ℕ
    pub object : ℕ
    pub lower : LayerRef
    pub at : slice_get overlay.layers.lowers (suc layer) ≡ Some lower
    pub is : shown layers path ≡ Some (record { layer = suc layer; object = object })
    pub leads : at_path (layer_of trees lower) path ≡ Some object
    pub named : is_root_path path ≡ false
    pub node_is : node_born trees overlay.layers.number layer lower path ≡ node
    pub uncopied : copy_of births node ≡ None

  above_there : (path : List (List ℕ)) (object : ℕ) → shown layers path ≡ Some (record { layer = 0; object = object })
      → at_path (layer_of trees top) path ≡ Some object
  above_there path object e =
      let at = in_layer trees overlay.layers are path (record { layer = 0; object = object }) e in
      ap (λ l. at_path (layer_of trees l) path) (same_Some top at.0 (sym first ∙ at.1)) ∙ at.2

  slot_of_above : (path : List (List ℕ)) (object : ℕ) → at_path (layer_of trees top) path ≡ Some object
      → exchanged f object < 18446744073709551616
  slot_of_above path object leads =
      let slot = in_slot trees top is_top path object leads in
      subst (λ n. n < 18446744073709551616) slot.1 slot.0

  -- those nodes are small
  pub small_shown : (object : ℕ) → exchanged f object < 18446744073709551616
      → IsSmall (node_above births overlay.layers.number (exchanged f object))
  small_shown object slot_small = small_above births (born_here overlay.layers.number 0) (exchanged f object)
      looked.stands.one_to_one small slot_small

  pub small_born : (path : List (List ℕ)) (place object : ℕ) (lower : LayerRef) → place < 18446744073709551616
      → IsLayer trees lower → at_path (layer_of trees lower) path ≡ Some object
      → IsSmall (node_born trees overlay.layers.number place lower path)
  small_born path place object lower place_small is leads = record {
    filesystem = small;
    slot = (in_slot trees lower is path object leads).0;
    birth = small_birth trees lower is place path object place_small leads;
  }

  module _ (path : List (List ℕ)) (node : NodeRef) (node_small : IsSmall node)
      (numbered : number_at trees overlay path ≡ Some (number_of node)) where
    is_above : (object : ℕ) → shown layers path ≡ Some (record { layer = 0; object = object }) → IsAbove path node
    is_above object e =
        let leads = above_there path object e in
        let slot_small = slot_of_above path object leads in
        record {
          object = object;
          is = e;
          leads = leads;
          slot_small = slot_small;
          node_is = one_to_one (node_above births overlay.layers.number (exchanged f object)) node
              (small_shown object slot_small) node_small
              (same_Some (number_of (node_above births overlay.layers.number (exchanged f object))) (number_of node)
              (sym (number_above path object e) ∙ numbered));
        }

    is_lower : (layer object : ℕ) → shown layers path ≡ Some (record { layer = suc layer; object = object })
        → IsBelow path node
    is_lower layer object e =
        let at = in_layer trees overlay.layers are path (record { layer = suc layer; object = object }) e in
        let within = slice_get_within overlay.layers.lowers (suc layer) at.0 at.1 in
        let few = stands.few in
        let born = one_to_one (node_born trees overlay.layers.number layer at.0 path) node
        (small_born path layer object at.0 (omega (arith, within, few)) (are (suc layer) at.0 at.1) at.2) node_small
        (same_Some (number_of (node_born trees overlay.layers.number layer at.0 path)) (number_of node)
        (sym (number_below path layer object at.0 e at.1) ∙ numbered)) in
        record {
          layer = layer;
          object = object;
          lower = at.0;
          at = at.1;
          is = e;
          leads = at.2;
          named = named_below path layer object e;
          node_is = born;
          uncopied = ap (copy_of births) (sym born) ∙ stands.uncopied path layer object at.0 e at.1;
        }

    pub shown_node : IsAbove path node ⊎ IsBelow path node
    shown_node = by (shown layers path) refl
      where
        at_place : (place object : ℕ) → shown layers path ≡ Some (record { layer = place; object = object })
            → IsAbove path node ⊎ IsBelow path node
        at_place zero object e = inl (is_above object e)
        at_place (suc layer) object e = inr (is_lower layer object e)

        by : (o : Option (Shown ℕ)) → shown layers path ≡ o → IsAbove path node ⊎ IsBelow path node
        by None e = none_is_some (number_of node) (sym (no_number path e) ∙ numbered)
        by (Some seen) e = at_place seen.layer seen.object e

  -- where they have their objects
  pub slot_is_above : (path : List (List ℕ)) (node : NodeRef) (above : IsAbove path node)
      → slot_above births node ≡ Some (exchanged f above.object)
  slot_is_above path node above = ap (slot_above births) (sym above.node_is)
      ∙ slots_found births overlay.layers.number (exchanged f above.object) looked.stands.one_to_one

  pub birth_below : (path : List (List ℕ)) (node : NodeRef) (below : IsBelow path node)
      → node.birth ≡ Below below.layer (slot_at trees below.lower (without_last path)) (rank_at trees below.lower path)
  birth_below path node below = ap (λ (n : NodeRef). n.birth) (sym below.node_is)
      ∙ ap (λ b. if b then Here else Below below.layer (slot_at trees below.lower (without_last path))
      (rank_at trees below.lower path)) below.named

  pub no_slot_below : (path : List (List ℕ)) (node : NodeRef) (below : IsBelow path node)
      → slot_above births node ≡ None
  no_slot_below path node below =
      ap (slot_by births node) (birth_below path node below) ∙ below.uncopied

  -- Where the upper layer is the highest lower one, the same is shown by other nodes.
  pub plain_number : (path : List (List ℕ)) (place object : ℕ) (lower : LayerRef)
      → shown layers path ≡ Some (record { layer = place; object = object })
      → slice_get overlay.layers.lowers place ≡ Some lower
      → through.number_at trees overlay.layers path
      ≡ Some (number_of (node_born trees overlay.layers.number place lower path))
  plain_number path place object lower e at =
      number_of_shown trees overlay.layers are path (record { layer = place; object = object }) lower e at

  abbrev node_for_born : (place : ℕ) (lower : LayerRef) (path : List (List ℕ)) → NodeRef
  node_for_born place lower path = node_for overlay (slot_at trees lower path) (birth_at trees place lower path)

  for_above : (path : List (List ℕ)) → node_for_born 0 top path
      ≡ node_above births overlay.layers.number (slot_at trees top path)
  for_above path = by (is_root_path path) refl
    where
      by : (b : Bool) → is_root_path path ≡ b
          → node_for overlay (slot_at trees top path) (if b then Here
          else Below 0 (slot_at trees top (without_last path)) (rank_at trees top path))
          ≡ node_above births overlay.layers.number (slot_at trees top path)
      by true e = refl
      by false e = refl

  for_below : (path : List (List ℕ)) (layer : ℕ) (lower : LayerRef) → is_root_path path ≡ false
      → node_for_born (suc layer) lower path ≡ node_born trees overlay.layers.number layer lower path
  for_below path layer lower named =
      ap (λ b. node_for overlay (slot_at trees lower path) (if b then Here
      else Below (suc layer) (slot_at trees lower (without_last path)) (rank_at trees lower path))) named
      ∙ sym (ap (λ b. record {
        filesystem = overlay.layers.number;
        slot = slot_at trees lower path;
        birth = if b then Here
            else Below layer (slot_at trees lower (without_last path)) (rank_at trees lower path);
      }) named)

  -- so the node that a plain look finds tells the node that is shown
  pub converted : (path : List (List ℕ)) (node : NodeRef) → IsSmall node
      → through.number_at trees overlay.layers path ≡ Some (number_of node)
      → number_at trees overlay path ≡ Some (number_of (node_for overlay node.slot node.birth))
  converted path node node_small numbered =
      let at = numbered_is_at trees overlay.layers are (number_of node) path numbered in
      let within = slice_get_within overlay.layers.lowers at.place at.lower at.layer in
      let few = stands.few in
      let born = one_to_one (node_born trees overlay.layers.number at.place at.lower path) node
      (small_born path at.place at.object at.lower (omega (arith, within, few))
      (are at.place at.lower at.layer) at.leads) node_small at.numbered in
      by at.place at.object at.lower at.is at.layer at.leads
      ∙ ap (λ (n : NodeRef). Some (number_of (node_for overlay n.slot n.birth))) born
    where
      by : (place object : ℕ) (lower : LayerRef) → shown layers path ≡ Some (record { layer = place; object = object })
          → slice_get overlay.layers.lowers place ≡ Some lower → at_path (layer_of trees lower) path ≡ Some object
          → number_at trees overlay path ≡ Some (number_of (node_for_born place lower path))
      by zero object lower e at leads =
          let same = same_Some lower top (sym at ∙ first) in
          let slot = in_slot trees lower (are 0 lower at) path object leads in
          number_above path object e
          ∙ ap (λ s. Some (number_of (node_above births overlay.layers.number s)))
          (ap (λ (l : LayerRef). exchanged l.directory.filesystem.count object) (sym same) ∙ sym slot.1
          ∙ ap (λ l. slot_at trees l path) same)
          ∙ ap (λ n. Some (number_of n)) (sym (for_above path))
          ∙ ap (λ l. Some (number_of (node_for_born 0 l path))) (sym same)
      by (suc layer) object lower e at leads = number_below path layer object lower e at
          ∙ ap (λ n. Some (number_of n)) (sym (for_below path layer lower (named_below path layer object e)))
