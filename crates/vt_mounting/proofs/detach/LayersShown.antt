-- The layers of an overlay of the code's world are directories of the plain trees that are kept, which the world shows.
use Rattle.std.proofs.Common.{◌≡◌, ◌≤◌, ◌<◌, refl, sym, ap, subst, ◌∙◌, ⊎_elim, ℕ, nat_eq, eqb-true, true, false, true≢false, not, ◌&&◌, List, [], ◌∷◌, ◌++◌, is_some, length, map, Option, Some, None, option_to_list, unwrap_or, arith, All, nat_le, nat_lt, leb-true}
use Rattle.vt_spec.proofs.Common.{Filesystem, IsTree, Layer, World, and-false, and_parts, common_steps, filesystem_numbered, found_among, found_passes, has_fit_layers, is_directory_node, is_empty_list, is_overlay, is_plain_layer, layers_of, length-map, list_all, list_all-append, most_lowers, none_from_not_some, not-true, of_overlay, same_bool}
use Rattle.vt_mounting.proofs.Common.{Among, AreLayers, FilesystemEntry, HasOwnInodes, IsHeld, OverlayEntry, ShowsLayer, WorldValue, all_from_among, among-map, among_from_all, among_from_list_all, counted, entry_at, entry_of, filesystem_seen, inode_of, inodes_at, inodes_seen, layer_seen, no_entry, numbered_all, overlay_seen, world_of}
use Rattle.vt_laws_trees.proofs.trees.Lists.{nth_among}
use Rattle.vt_location.specs.Numbers.{is_inode_of}
use Rattle.vt_overlay.specs.declared.merge.layers.LayerRef.{LayerRef}
use Rattle.vt_overlay.specs.MergedTree.{IsLayer}
use Rattle.vt_mounting.proofs.detach.PlainFound.{counted_where_plain, overlay_among}

-- inodes of a kept filesystem have its own numbers
own_at : (value : WorldValue) → IsHeld value → (count number : ℕ) → is_inode_of count number ≡ false
    → (inodes_at value.filesystems count).inode number ≡ None
own_at value held count number other = by (entry_of value.filesystems count) refl
  where
    by : (o : Option FilesystemEntry) → entry_of value.filesystems count ≡ o
        → (inodes_seen (unwrap_or o (no_entry count))).inode number ≡ None
    by None e = refl
    by (Some entry) e =
        let same = eqb-true count entry.count
        (found_passes (λ (one : FilesystemEntry). nat_eq count one.count) value.filesystems entry e) in
        among_from_all HasOwnInodes value.filesystems held.own_inodes entry
        (found_among (λ (one : FilesystemEntry). nat_eq count one.count) value.filesystems entry e) number
        (ap (λ b. nat_lt entry.count 18446744073709551616 && b) (ap (λ n. is_inode_of n number) (sym same) ∙ other)
        ∙ and-false (nat_lt entry.count 18446744073709551616))

some_there : (list : List LayerRef) → not (is_empty_list (map layer_seen list)) ≡ true → 0 < length list
some_there [] e = absurd (true≢false (sym e))
some_there (layer ∷ list) e = omega arith

-- layers that are directories of plain trees of the world
module _ {value : WorldValue} (held : IsHeld value) (lowers : List LayerRef)
    (all_plain : list_all (is_plain_layer nat_eq (world_of value)) (map layer_seen lowers) ≡ true) where
  module _ (layer : LayerRef) (n : Among layer lowers) where
    abbrev count : ℕ
    count = layer.directory.filesystem.count

    parts : (not (is_overlay (filesystem_numbered nat_eq (world_of value) (counted count))) ≡ true)
        × (is_directory_node ((filesystem_numbered nat_eq (world_of value) (counted count)).files.tree.node
        (inode_of layer.directory)) ≡ true)
    parts = grind (arith, common_steps, and_parts, among_from_list_all, among-map)

    is_kept : filesystem_numbered nat_eq (world_of value) (counted count)
        ≡ filesystem_seen (entry_at value.filesystems count)
    is_kept = counted_where_plain value held count
        (not-true (is_overlay (filesystem_numbered nat_eq (world_of value) (counted count))) parts.0)

    shows_it : ShowsLayer (world_of value) value.filesystems layer
    shows_it = record {
      tree = ap (λ (f : Filesystem ℕ). f.files.tree) (sym is_kept);
      numbers = ap (λ (f : Filesystem ℕ). length f.files.numbers) (sym is_kept);
    }

    is_layer : IsLayer value.filesystems layer
    is_layer = record {
      tree = subst (λ (f : Filesystem ℕ). IsTree f.files.tree) is_kept (⊎_elim (λ tree. tree)
          (λ missing. absurd (true≢false (sym parts.1
          ∙ ap (λ (f : Filesystem ℕ). is_directory_node (f.files.tree.node (inode_of layer.directory))) missing.0)))
          (numbered_all (λ (f : Filesystem ℕ). IsTree f.files.tree) (counted count) (world_of value).filesystems
          held.in_world.files.trees));
      directory =
          ap (λ (f : Filesystem ℕ). is_directory_node (f.files.tree.node (inode_of layer.directory))) (sym is_kept)
          ∙ parts.1;
      own_numbers = own_at value held count;
    }

  -- they are layers of what is kept, which the world shows
  pub plain_layers_shown : AreLayers value.filesystems lowers
      × All (ShowsLayer (world_of value) value.filesystems) lowers
  plain_layers_shown = (
    λ place layer at. is_layer layer (nth_among lowers place layer at),
    all_from_among (ShowsLayer (world_of value) value.filesystems) lowers shows_it,
  )

-- an overlay of the value
module _ {value : WorldValue} (held : IsHeld value) (entry : OverlayEntry) (m : Among entry value.overlays) where
  among : Among (overlay_seen entry) (world_of value).filesystems
  among = (overlay_among value held.overlays (overlay_seen entry) (among-map overlay_seen value.overlays entry m)).0

  -- it has no upper layer, as none has
  pub has_no_upper : entry.upper ≡ None
  has_no_upper = none_from_not_some entry.upper
      (among_from_all (λ (f : Filesystem ℕ). of_overlay false (λ overlay. is_some overlay.upper) f ≡ false)
      (world_of value).filesystems held.overlays.read_only (overlay_seen entry) among)

  -- it has a lower layer, and not too many
  pub fits : (not (is_empty_list entry.lowers) ≡ true) × (nat_le (length entry.lowers) most_lowers ≡ true)
  fits = and_parts (not (is_empty_list entry.lowers)) (nat_le (length entry.lowers) most_lowers)
      (and_parts (not (is_empty_list entry.lowers) && nat_le (length entry.lowers) most_lowers)
      (same_bool (is_some entry.upper) (is_some entry.work))
      (among_from_list_all (of_overlay true has_fit_layers) (world_of value).filesystems
      held.in_world.overlays.fit_layers
      (overlay_seen entry) among)).0

-- whose layers are these
module _ {value : WorldValue} (held : IsHeld value) (entry : OverlayEntry) (m : Among entry value.overlays)
    (lowers : List LayerRef) (same : entry.lowers ≡ map layer_seen lowers) where
  abbrev world : World ℕ
  world = world_of value

  -- what all of two lists pass, all of the second do
  second_pass : (front back : List (Layer ℕ)) → list_all (is_plain_layer nat_eq (world_of value)) (front ++ back) ≡ true
      → list_all (is_plain_layer nat_eq (world_of value)) back ≡ true
  second_pass front back all = (and_parts (list_all (is_plain_layer nat_eq world) front) _
      (sym (list_all-append (is_plain_layer nat_eq world) front back) ∙ all)).1

  all_plain : list_all (is_plain_layer nat_eq (world_of value)) (map layer_seen lowers) ≡ true
  all_plain = subst (λ layers. list_all (is_plain_layer nat_eq (world_of value)) layers ≡ true) same
      (second_pass (option_to_list entry.upper ++ option_to_list entry.work) entry.lowers
      (among_from_list_all
      (of_overlay true (λ overlay. list_all (is_plain_layer nat_eq (world_of value)) (layers_of overlay)))
      (world_of value).filesystems held.in_world.overlays.plain_layers (overlay_seen entry) (among held entry m)))

  -- they are layers, which the world shows
  pub layers_shown_well : AreLayers value.filesystems lowers × All (ShowsLayer (world_of value) value.filesystems) lowers
  layers_shown_well = plain_layers_shown held lowers all_plain

  -- one at least, and not too many
  pub layers_number : (0 < length lowers) × (length lowers ≤ most_lowers)
  layers_number =
      let most = leb-true (length entry.lowers) most_lowers (fits held entry m).1 in
      let as_many = ap length same ∙ length-map lowers layer_seen in
      (some_there lowers (ap (λ layers. not (is_empty_list layers)) (sym same) ∙ (fits held entry m).0), omega (arith, most, as_many))
