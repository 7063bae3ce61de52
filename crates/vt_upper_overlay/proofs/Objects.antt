-- The real object of a node that is there, found without a way.
use Rattle.std.proofs.Common.{◌≡◌, ◌∙◌, ◌+◌, ◌∷◌, ◌||◌, [], All, ap, arith, Bool, drop, eq-eqb, eqb-true, false, find, IsSome, is_some, List, nat_eq, None, option_map, Option, refl, Some, subst, suc, sym, true, true≢false, ⊎_elim, unwrap_or, ℕ, slice_get, if◌then◌else◌}
use Rattle.std.specs.Map.{keys_of}
use Rattle.vt_spec.proofs.Common.{All-head, All-tail, Entries, Filesystem, Lower, Node, OpenLayer, Overlay, Real, World, at_path, found_passes, is_directory_node, layer_node, list_any, node_at_path, node_shown, none_is_some, open_layer, paths_from, real_node, same_Some, shown, slice_get-map, then_some, common_steps}
use Rattle.vt_laws_trees.specs.Overlays.MergedTrees.{node_as}
use Rattle.vt_laws_trees.specs.Overlays.TreesSeen.{node_by}
use Rattle.vt_location.specs.declared.births.Birth.{Birth}
use Rattle.vt_location.specs.declared.births.Birth.TheVariants.{Below, Here}
use Rattle.vt_location.specs.declared.locations.NodeRef.{NodeRef}
use Rattle.vt_location.specs.Locations.{inode_of, number_of}
use Rattle.vt_location.specs.NodeNumbers.{IsSmall}
use Rattle.vt_location.specs.Numbers.{exchanged, inode_number}
use Rattle.vt_location.specs.SameNodes.{same_node}
use Rattle.vt_location.proofs.NodeLemmas.{one_to_one, same_node-itself, small_parts}
use Rattle.vt_location.proofs.NumberLemmas.{exchanged_back, exchanged_slot}
use Rattle.vt_births.specs.Births.{slot_above}
use Rattle.vt_births.specs.Kept.{is_kept}
use Rattle.vt_births.proofs.Nodes.{same_node-is}
use Rattle.vt_fs.proofs.Numbers.{found_by_number}
use Rattle.vt_fs.specs.FilesystemsValue.{Filesystems, files_at, node_seen}
use Rattle.vt_location.specs.Fronts.{front}
use Rattle.vt_overlay.specs.Alike.{lent_at}
use Rattle.vt_overlay.specs.Merge.LayerValue.{layer_of, layers_of, seen_of}
use Rattle.vt_overlay.specs.declared.merge.layers.LayerRef.{LayerRef}
use Rattle.vt_overlay.specs.declared.merge.layers.Real.{Real as Object}
use Rattle.vt_overlay.specs.MergedTree.{layer_seen, longest, node_born, plain_world, real_in, slot_at}
use Rattle.vt_overlay.proofs.ObjectsAlike.{seen_twice}
use Rattle.vt_upper_overlay.specs.MergedAbove.{born_object, count_of, directory_path, held, lent, merged_above, number_at, object_by, object_kept, object_shown, path_at, path_born, real_number, upper_seen}
use Rattle.vt_upper_overlay.specs.Naming.{only_directory}
use Rattle.vt_upper_overlay.specs.Standing.{IsKeptWell, is_there}
use Rattle.vt_upper_overlay.specs.UpperValue.{UpperOverlayValue, place_born, real_at, real_by}
use Rattle.vt_upper_overlay.proofs.Shown.{IsAbove, IsBelow, IsLooked, birth_below, layers_are, no_slot_below, shown_node, slot_is_above}
use Rattle.vt_upper_overlay.proofs.Ways as ways

-- an inode with another parent and other entries, or by other numbers, is the same in front
pub front_as : (parent : ℕ) (entries : Entries ℕ) (node : Option (Node ℕ))
    → front node ≡ front (option_map (node_as parent entries) node)
front_as parent entries object = grind (arith, common_steps)

pub front_seen : (f : ℕ) (node : Option (Node ℕ)) → front node ≡ front (option_map (node_seen f) node)
front_seen f object = grind (arith, common_steps)

pub same_kind : (a b : Option (Node ℕ)) → front a ≡ front b → is_directory_node a ≡ is_directory_node b
same_kind a b e = grind (arith, common_steps)

-- the real object at a path of a lower layer
abbrev lower_at : ℕ → List (List ℕ) → Real ℕ
lower_at layer path = Lower layer path

-- a layer behind the first
slice_behind : (layers : List LayerRef) (place : ℕ) → slice_get (drop 1 layers) place ≡ slice_get layers (suc place)
slice_behind [] place = grind (arith, common_steps)
slice_behind (first ∷ rest) place = grind (arith, common_steps)

module _ (trees : Filesystems) (overlay : UpperOverlayValue) where
  abbrev layers : List (OpenLayer ℕ)
  layers = layers_of trees overlay.layers.lowers

  -- the inode of an object
  abbrev pub inode_seen : Option Object → Option (Node ℕ)
  inode_seen real = then_some (option_map seen_of real) (layer_node layers)

  -- an object is in the tree of its layer
  abbrev pub IsPlaced : Object → Type 0
  IsPlaced real = option_map (λ (layer : LayerRef). layer.directory.filesystem)
      (slice_get overlay.layers.lowers real.layer) ≡ Some real.inode.filesystem

  placed_in : (place slot : ℕ) (found : Option Object)
      → found ≡ option_map (real_in place slot) (slice_get overlay.layers.lowers place) → (real : Object)
      → found ≡ Some real → option_map (λ (layer : LayerRef). layer.directory.filesystem)
      (slice_get overlay.layers.lowers real.layer) ≡ Some real.inode.filesystem
  placed_in place slot found is real e = grind (arith, common_steps)

  pub is_placed : (node : NodeRef) (real : Object) → real_at overlay node ≡ Some real → IsPlaced real
  is_placed node real e = by (slot_above overlay.nodes.births node) refl
    where
      by : (o : Option ℕ) → slot_above overlay.nodes.births node ≡ o → option_map (λ (layer : LayerRef).
          layer.directory.filesystem) (slice_get overlay.layers.lowers real.layer) ≡ Some real.inode.filesystem
      by None s = placed_in (place_born node.birth) node.slot (real_by overlay node None) refl real
          (ap (real_by overlay node) (sym s) ∙ e)
      by (Some slot) s = placed_in 0 slot (real_by overlay node (Some slot)) refl real
          (ap (real_by overlay node) (sym s) ∙ e)

  node_placed : (real : Object) → IsPlaced real
      → layer_node layers (seen_of real) ≡ (files_at trees real.inode.filesystem.count).tree.node (inode_of real.inode)
  node_placed real placed = by (slice_get overlay.layers.lowers real.layer) refl placed
    where
      by : (o : Option LayerRef) → slice_get overlay.layers.lowers real.layer ≡ o
          → option_map (λ (layer : LayerRef). layer.directory.filesystem) o ≡ Some real.inode.filesystem
          → layer_node layers (seen_of real)
          ≡ (files_at trees real.inode.filesystem.count).tree.node (inode_of real.inode)
      by None e t = none_is_some real.inode.filesystem t
      by (Some lower) e t =
          grind (
            arith,
            common_steps,
            slice_get-map (layer_of trees) overlay.layers.lowers real.layer,
            same_Some
                lower.directory.filesystem real.inode.filesystem t,
          )

  -- what is looked up of an object
  module _ (real : Object) (placed : IsPlaced real) (node : Option (Node ℕ))
      (seen : option_map (node_seen real.inode.filesystem.count) node
      ≡ (files_at trees real.inode.filesystem.count).tree.node (inode_of real.inode)) where
    pub looked_up : front node ≡ front (inode_seen (Some real))
    looked_up = front_seen real.inode.filesystem.count node ∙ ap front (seen ∙ sym (node_placed real placed))

    pub looked_lent : node ≡ lent trees overlay (Some (seen_of real))
    looked_lent = sym (seen_twice real.inode.filesystem.count node)
        ∙ ap (option_map (node_seen real.inode.filesystem.count)) seen
        ∙ by (slice_get overlay.layers.lowers real.layer) placed
      where
        by : (o : Option LayerRef)
            → option_map (λ (layer : LayerRef). layer.directory.filesystem) o ≡ Some real.inode.filesystem
            → option_map (node_seen real.inode.filesystem.count)
            ((files_at trees real.inode.filesystem.count).tree.node (inode_of real.inode))
            ≡ then_some o (lent_at trees (inode_of real.inode))
        by None t = none_is_some real.inode.filesystem t
        by (Some lower) t = cc (same_Some lower.directory.filesystem real.inode.filesystem t)

-- Kept nodes
module _ (trees : Filesystems) (overlay : UpperOverlayValue) (node : NodeRef) (node_small : IsSmall node) where
  abbrev IsWell : NodeRef → Type 0
  IsWell = IsKeptWell trees overlay

  pub well_among : (nodes : List NodeRef) → All IsWell nodes → list_any (same_node node) nodes ≡ true → IsWell node
  well_among [] all e = absurd (true≢false (sym e))
  well_among (first ∷ nodes) all e = by (same_node node first) refl
      (λ s. well_among nodes (All-tail IsWell first nodes all)
      (sym (ap (λ b. b || list_any (same_node node) nodes) s) ∙ e))
    where
      by : (b : Bool) → same_node node first ≡ b → (same_node node first ≡ false → IsWell node) → IsWell node
      by true s rest = subst IsWell (sym (same_node-is node first s)) (All-head IsWell first nodes all)
      by false s rest = rest s

  pub found_among : (nodes : List NodeRef) → All IsWell nodes → list_any (same_node node) nodes ≡ true
      → find (λ one. nat_eq (number_of node) (number_of one)) nodes ≡ Some node
  found_among [] all e = absurd (true≢false (sym e))
  found_among (first ∷ nodes) all e = by (nat_eq (number_of node) (number_of first)) refl
      (found_among nodes (All-tail IsWell first nodes all))
    where
      other : nat_eq (number_of node) (number_of first) ≡ false → (b : Bool) → same_node node first ≡ b
          → list_any (same_node node) nodes ≡ true
      other s true t = absurd (true≢false (sym (eq-eqb (number_of node) (number_of first)
          (ap number_of (same_node-is node first t))) ∙ s))
      other s false t = sym (ap (λ b. b || list_any (same_node node) nodes) t) ∙ e

      by : (b : Bool) → nat_eq (number_of node) (number_of first) ≡ b
          → (list_any (same_node node) nodes ≡ true
          → find (λ one. nat_eq (number_of node) (number_of one)) nodes ≡ Some node)
          → (if b then Some first else find (λ one. nat_eq (number_of node) (number_of one)) nodes) ≡ Some node
      by true s rest = ap Some (sym (one_to_one node first node_small
          (small_parts first (All-head IsWell first nodes all).small)
          (eqb-true (number_of node) (number_of first) s)))
      by false s rest = rest (other s (same_node node first) refl)

  -- what is not kept is not found
  pub none_among : (nodes : List NodeRef) → All IsWell nodes → list_any (same_node node) nodes ≡ false
      → find (λ one. nat_eq (number_of node) (number_of one)) nodes ≡ None
  none_among [] all e = refl
  none_among (first ∷ nodes) all e = by (nat_eq (number_of node) (number_of first)) refl
      (none_among nodes (All-tail IsWell first nodes all))
    where
      others : (b : Bool) → same_node node first ≡ b → list_any (same_node node) nodes ≡ false
      others true t = absurd (true≢false (sym (ap (λ b. b || list_any (same_node node) nodes) t) ∙ e))
      others false t = sym (ap (λ b. b || list_any (same_node node) nodes) t) ∙ e

      by : (b : Bool) → nat_eq (number_of node) (number_of first) ≡ b
          → (list_any (same_node node) nodes ≡ false
          → find (λ one. nat_eq (number_of node) (number_of one)) nodes ≡ None)
          → (if b then Some first else find (λ one. nat_eq (number_of node) (number_of one)) nodes) ≡ None
      by true s rest =
          let same = one_to_one node first node_small (small_parts first (All-head IsWell first nodes all).small)
          (eqb-true (number_of node) (number_of first) s) in
          absurd (true≢false (sym (ap (λ b. b || list_any (same_node node) nodes)
          (ap (same_node node) (sym same) ∙ same_node-itself node)) ∙ e))
      by false s rest = rest (others (same_node node first) refl)

module _ (trees : Filesystems) (overlay : UpperOverlayValue) (looked : IsLooked trees overlay) (node : NodeRef)
    (node_small : IsSmall node) where
  abbrev number : ℕ
  number = number_of node

  abbrev f : ℕ
  f = looked.top.directory.filesystem.count

  abbrev world : World ℕ
  world = plain_world trees

  abbrev over : Overlay ℕ
  over = upper_seen overlay

  abbrev tree_node : Option (Node ℕ)
  tree_node = (merged_above trees overlay).node (number_of node)

  -- A node that is shown has its object in the slot that it names, or in that of its copy.
  real_above : (path : List (List ℕ)) (a : IsAbove trees overlay looked path node)
      → option_map seen_of (real_at overlay node) ≡ shown (layers trees overlay) path
  real_above path a = ap (λ o. option_map seen_of (real_by overlay node o)) (slot_is_above trees overlay looked path node a)
      ∙ ap (λ o. option_map seen_of (option_map (real_in 0 (exchanged f a.object)) o)) looked.first
      ∙ ap (λ n. Some (record { layer = 0; object = n }))
      (sym (exchanged_slot f (exchanged f a.object) a.slot_small) ∙ exchanged_back f a.object)
      ∙ sym a.is

  real_below : (path : List (List ℕ)) (b : IsBelow trees overlay looked path node)
      → option_map seen_of (real_at overlay node) ≡ shown (layers trees overlay) path
  real_below path b =
      let place : place_born node.birth ≡ suc b.layer =
      ap place_born (birth_below trees overlay looked path node b) ∙ (omega arith) in
      let g = b.lower.directory.filesystem.count in
      let slot : node.slot ≡ exchanged g b.object =
      ap (λ (n : NodeRef). n.slot) (sym b.node_is) ∙ ap (λ o. exchanged g (unwrap_or o 0)) b.leads in
      ap (λ o. option_map seen_of (real_by overlay node o)) (no_slot_below trees overlay looked path node b)
      ∙ ap (λ p. option_map seen_of (option_map (real_in p node.slot) (slice_get overlay.layers.lowers p))) place
      ∙ ap (λ o. option_map seen_of (option_map (real_in (suc b.layer) node.slot) o)) b.at
      ∙ ap (λ n. Some (record { layer = suc b.layer; object = n }))
      (sym (exchanged_slot g node.slot node_small.slot) ∙ ap (exchanged g) slot ∙ exchanged_back g b.object)
      ∙ sym b.is

  pub real_shown_at : (path : List (List ℕ)) → number_at trees overlay path ≡ Some number
      → option_map seen_of (real_at overlay node) ≡ shown (layers trees overlay) path
  real_shown_at path numbered = ⊎_elim (real_above path) (real_below path)
      (shown_node trees overlay looked path node node_small numbered)

  pub path_number : (path : List (List ℕ)) → path_at trees overlay number ≡ Some path
      → number_at trees overlay path ≡ Some number
  path_number = ways.found_numbered (real_number trees overlay) (held trees overlay)
      (longest trees overlay.layers.lowers) world over number

  pub shown_object : (path : List (List ℕ)) → path_at trees overlay number ≡ Some path
      → option_map seen_of (real_at overlay node) ≡ object_shown trees overlay number
  shown_object path e = real_shown_at path (path_number path e)
      ∙ sym (ap (λ o. then_some o (shown (layers trees overlay))) e)

  alike_shown : (path : List (List ℕ)) → path_at trees overlay number ≡ Some path
      → front (inode_seen trees overlay (real_at overlay node)) ≡ front tree_node
  alike_shown path e =
      ap (λ o. front (then_some o (layer_node (layers trees overlay)))) (real_shown_at path (path_number path e))
      ∙ ap (λ all. front (then_some (shown all path) (layer_node all))) (sym (layers_are trees overlay looked))
      ∙ front_as _ _ (node_shown nat_eq world over path)
      ∙ ap (λ o. front (node_by (real_number trees overlay) (held trees overlay)
      (longest trees overlay.layers.lowers) world over number o)) (sym e)

  -- A node that is kept
  module _ (kept : is_kept overlay.nodes.kept node ≡ true) where
    well : IsKeptWell trees overlay node
    well = well_among trees overlay node node_small (keys_of overlay.nodes.kept.by_node) looked.stands.kept kept

    held_is : held trees overlay number ≡ object_kept trees overlay node
    held_is = ap (λ o. then_some o (object_kept trees overlay))
        (found_among trees overlay node node_small (keys_of overlay.nodes.kept.by_node) looked.stands.kept kept)

    pub kept_no_way : directory_path trees overlay number ≡ None
    kept_no_way = ap (only_directory world over) well.unnamed

    -- the layer of a directory, opened
    opened_so : (lower : LayerRef) → open_layer nat_eq world (layer_seen lower) ≡ layer_of trees lower
    opened_so lower = ap (λ (filesystem : Filesystem ℕ). record {
      tree = filesystem.files.tree;
      directory = inode_of lower.directory;
    }) (found_by_number trees lower.directory.filesystem.count)

    object_above : (slot : ℕ) → slot_above overlay.nodes.births node ≡ Some slot
        → inode_seen trees overlay (real_at overlay node)
        ≡ then_some (object_kept trees overlay node) (real_node nat_eq world over)
    object_above slot s =
        ap (λ o. inode_seen trees overlay (real_by overlay node o)) s
        ∙ ap (λ o. inode_seen trees overlay (option_map (real_in 0 slot) o)) looked.first
        ∙ ap (λ o. then_some o (λ (layer : OpenLayer ℕ). layer.tree.node (inode_number f slot)))
        (slice_get-map (layer_of trees) overlay.layers.lowers 0 ∙ ap (option_map (layer_of trees)) looked.first)
        ∙ sym (ap (λ (layer : OpenLayer ℕ). layer.tree.node (inode_number f slot)) (opened_so looked.top))
        ∙ ap (λ o. then_some (option_map layer_seen o)
        (λ layer. (open_layer nat_eq world layer).tree.node (inode_number (count_of o) slot))) (sym looked.first)
        ∙ ap (λ o. then_some (object_by trees overlay node o) (real_node nat_eq world over)) (sym s)

    object_below : slot_above overlay.nodes.births node ≡ None
        → inode_seen trees overlay (real_at overlay node)
        ≡ then_some (object_kept trees overlay node) (real_node nat_eq world over)
    object_below none = ap (λ o. inode_seen trees overlay (real_by overlay node o)) none
        ∙ born node.birth refl (subst (λ o. IsSome (object_by trees overlay node o)) none well.object)
        ∙ ap (λ o. then_some (object_by trees overlay node o) (real_node nat_eq world over)) (sym none)
      where
        of_birth : Birth → Type 0
        of_birth birth =
            inode_seen trees overlay (option_map (real_in (place_born birth) node.slot)
            (slice_get overlay.layers.lowers (place_born birth)))
            ≡ then_some (born_object trees overlay node birth) (real_node nat_eq world over)

        at_path_there : (lower : LayerRef) (layer : ℕ) (path : List (List ℕ))
            → same_node node (node_born trees overlay.layers.number layer lower path) ≡ true
            → at_path (layer_of trees lower) path
            ≡ Some (inode_number lower.directory.filesystem.count node.slot)
        at_path_there lower layer path same = by (at_path (layer_of trees lower) path) refl
          where
            g : ℕ
            g = lower.directory.filesystem.count

            slot_is : node.slot ≡ slot_at trees lower path
            slot_is = ap (λ (n : NodeRef). n.slot)
                (same_node-is node (node_born trees overlay.layers.number layer lower path) same)

            by : (o : Option ℕ) → at_path (layer_of trees lower) path ≡ o
                → at_path (layer_of trees lower) path ≡ Some (inode_number lower.directory.filesystem.count node.slot)
            by None e =
                let zero_is = slot_is ∙ ap (λ o. exchanged g (unwrap_or o 0)) e
                ∙ exchanged_slot g 0 (omega arith) in
                let slot_small = node_small.slot in
                absurd (let no : ⊥ = omega (arith, zero_is, slot_small) in no)
            by (Some object) e = e ∙ ap Some (sym (exchanged_back g object)
                ∙ ap (exchanged g) (sym (slot_is ∙ ap (λ o. exchanged g (unwrap_or o 0)) e))
                ∙ exchanged_slot g node.slot node_small.slot)

        in_layer : (layer : ℕ) (lower : LayerRef) → slice_get overlay.layers.lowers (suc layer) ≡ Some lower
            → (o : Option (List (List ℕ))) → path_born trees overlay node layer lower ≡ o
            → IsSome (option_map (lower_at layer) o)
            → inode_seen trees overlay (option_map (real_in (layer + 1) node.slot)
            (slice_get overlay.layers.lowers (layer + 1)))
            ≡ then_some (option_map (lower_at layer) o) (real_node nat_eq world over)
        in_layer layer lower at None p some = absurd (true≢false (sym some))
        in_layer layer lower at (Some path) p some =
            let same = found_passes (λ (path : List (List ℕ)). same_node node
            (node_born trees overlay.layers.number layer lower path))
            (paths_from (longest trees (lower ∷ [])) (layer_of trees lower ∷ []) []) path p in
            let more : layer + 1 ≡ suc layer = omega arith in
            ap (λ n. inode_seen trees overlay (option_map (real_in n node.slot) (slice_get overlay.layers.lowers n))) more
            ∙ ap (λ o. inode_seen trees overlay (option_map (real_in (suc layer) node.slot) o)) at
            ∙ ap (λ o. then_some o (λ (one : OpenLayer ℕ).
            one.tree.node (inode_number lower.directory.filesystem.count node.slot)))
            (slice_get-map (layer_of trees) overlay.layers.lowers (suc layer)
            ∙ ap (option_map (layer_of trees)) at)
            ∙ ap (λ o. then_some o (layer_of trees lower).tree.node) (sym (at_path_there lower layer path same))
            ∙ ap (λ l. node_at_path l path) (sym (opened_so lower))
            ∙ ap (λ o. then_some o (λ one. node_at_path (open_layer nat_eq world one) path))
            (ap (option_map layer_seen) (sym at) ∙ sym (ap (option_map layer_seen)
            (slice_behind overlay.layers.lowers layer))
            ∙ sym (slice_get-map layer_seen (drop 1 overlay.layers.lowers) layer))

        there : (layer directory rank : ℕ) (o : Option LayerRef) → slice_get overlay.layers.lowers (suc layer) ≡ o
            → IsSome (born_object trees overlay node (Below layer directory rank))
            → of_birth (Below layer directory rank)
        there layer directory rank None at some = absurd (true≢false (sym (subst (λ o. IsSome (then_some o (λ lower.
            option_map (lower_at layer) (path_born trees overlay node layer lower)))) at some)))
        there layer directory rank (Some lower) at some =
            in_layer layer lower at (path_born trees overlay node layer lower) refl
            (subst (λ o. IsSome (then_some o (λ lower.
            option_map (lower_at layer) (path_born trees overlay node layer lower)))) at some)
            ∙ ap (λ o. then_some (then_some o (λ lower.
            option_map (lower_at layer) (path_born trees overlay node layer lower)))
            (real_node nat_eq world over)) (sym at)

        born : (birth : Birth) → node.birth ≡ birth → IsSome (born_object trees overlay node node.birth)
            → inode_seen trees overlay (real_by overlay node None)
            ≡ then_some (object_by trees overlay node None) (real_node nat_eq world over)
        born Here e some = absurd (true≢false (sym (subst (λ b. IsSome (born_object trees overlay node b)) e some)))
        born (Below layer directory rank) e some =
            subst (λ b. inode_seen trees overlay (option_map (real_in (place_born b) node.slot)
            (slice_get overlay.layers.lowers (place_born b)))
            ≡ then_some (born_object trees overlay node b) (real_node nat_eq world over)) (sym e)
            (there layer directory rank (slice_get overlay.layers.lowers (suc layer)) refl
            (subst (λ b. IsSome (born_object trees overlay node b)) e some))

    kept_object : inode_seen trees overlay (real_at overlay node)
        ≡ then_some (object_kept trees overlay node) (real_node nat_eq world over)
    kept_object = by (slot_above overlay.nodes.births node) refl
      where
        by : (o : Option ℕ) → slot_above overlay.nodes.births node ≡ o
            → inode_seen trees overlay (real_at overlay node)
            ≡ then_some (object_kept trees overlay node) (real_node nat_eq world over)
        by None s = object_below s
        by (Some slot) s = object_above slot s

    pub alike_kept : front (inode_seen trees overlay (real_at overlay node)) ≡ front tree_node
    alike_kept = ap front kept_object ∙ front_as number [] (then_some (object_kept trees overlay node)
        (real_node nat_eq world over))
        ∙ ap (λ o. front (option_map (node_as number []) (then_some o (real_node nat_eq world over)))) (sym held_is)
        ∙ ap (λ o. front (node_by (real_number trees overlay) (held trees overlay)
        (longest trees overlay.layers.lowers) world over number o))
        (sym well.unnamed)

  -- So is each that is there.
  pub alike_there : is_there trees overlay node ≡ true
      → front (inode_seen trees overlay (real_at overlay node)) ≡ front tree_node
  alike_there there = by (path_at trees overlay number) refl
    where
      by : (o : Option (List (List ℕ))) → path_at trees overlay number ≡ o
          → front (inode_seen trees overlay (real_at overlay node)) ≡ front tree_node
      by None e = alike_kept (sym (ap (λ o. is_some (then_some o (shown (layers trees overlay)))
          || is_kept overlay.nodes.kept node) e) ∙ there)
      by (Some path) e = alike_shown path e

  -- What is not kept and has no way is no directory.
  pub unkept : is_kept overlay.nodes.kept node ≡ false → held trees overlay number ≡ None
  unkept e = ap (λ o. then_some o (object_kept trees overlay))
      (none_among trees overlay node node_small (keys_of overlay.nodes.kept.by_node) looked.stands.kept e)
