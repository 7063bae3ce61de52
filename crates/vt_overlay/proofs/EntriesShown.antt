-- What layers show under a name of a directory: the highest layer that has the directory decides where it has the name.
use Rattle.std.proofs.Common.{◌≡◌, ◌≢◌, ◌∙◌, ◌∷◌, ◌++◌, ◌+◌, ◌<◌, [], arith, ap, Bool, false, List, None, option_map, Option, refl, Some, subst, suc, sym, zero, ℕ, map, length, IfSome, IsSome, if◌then◌else◌, nat_eq, slice_get}
use Rattle.vt_spec.proofs.Common.{IsDirectory, Node, OpenLayer, Shown, at_path, cuts, entries_in, entry_at, entry_named, hides, is_directory_node, led-append, node_shown, none_is_some, same_Some, shown, shown_from, slice_get-map, slice_get_within, then_some, view_of, common_steps}
use Rattle.vt_spec.specs.Machine.Views.{visible}
use Rattle.vt_laws_trees.proofs.layers.layers.ShownDirectories.{shown_in_directory}
use Rattle.vt_laws_trees.proofs.layers.layers.ShownNames.{last_name}
use Rattle.vt_laws_trees.proofs.layers.layers.ShownPaths.{one_path}
use Rattle.vt_laws_trees.proofs.layers.views.Lower.{prefixes_longer}
use Rattle.vt_location.specs.declared.numbers.FilesystemId.{FilesystemId}
use Rattle.vt_location.specs.Locations.{inode_of}
use Rattle.vt_fs.specs.FilesystemsValue.{Filesystems, files_at}
use Rattle.vt_overlay.specs.Merge.EntryValue.{IsEntry, IsFirstEntry, IsMergedAt, entry_shown}
use Rattle.vt_overlay.specs.Merge.LayerValue.{layer_of, seen_of}
use Rattle.vt_overlay.specs.declared.merge.layers.LayerEntry.{LayerEntry}
use Rattle.vt_overlay.specs.declared.merge.layers.LayerRef.{LayerRef}
use Rattle.vt_overlay.specs.declared.merge.layers.MergedDirectory.{MergedDirectory}
use Rattle.vt_overlay.specs.declared.merge.layers.Real.{Real}
use Rattle.vt_overlay.specs.Alike.{real_lent}
use Rattle.vt_overlay.specs.MergedTree.{AreLayers, OverlayValue, directory_path, merged_tree, number_at, object_shown, only_of_directory, overlay_seen, path_at, plain_world}
use Rattle.vt_overlay.proofs.DirectoriesSeen.{entry_of, no_entry_of}
use Rattle.vt_overlay.proofs.NodesShown.{no_number}
use Rattle.vt_overlay.proofs.TreeFound.{IsAt, directory_shown, found_is_at, in_layer, layers, open_layers}

-- what is visible is in its layer
visible_at : (layer : OpenLayer ℕ) (depth object : ℕ) (seen : Shown ℕ)
    → visible (view_of layer) depth object ≡ Some seen → seen.layer ≡ depth
visible_at layer depth object seen = grind (arith, common_steps)

-- What a layer has under a name of a path that is shown in it is what is shown there.
module _ (path : List (List ℕ)) (name : List ℕ) where
  abbrev longer : List (List ℕ)
  longer = path ++ name ∷ []

  -- a layer that leads nowhere leads nowhere further on, and cuts no more
  leads_no_further : (layer : OpenLayer ℕ) → at_path layer path ≡ None → at_path layer longer ≡ None
  leads_no_further layer none = cc (last_name layer.tree layer.directory path name)

  cuts_no_more : (layer : OpenLayer ℕ) → at_path layer path ≡ None → cuts (view_of layer) path ≡ false
      → cuts (view_of layer) longer ≡ false
  cuts_no_more layer none uncut = grind (arith, common_steps, prefixes_longer, hides, leads_no_further)

  decides : (depth : ℕ) (all : List (OpenLayer ℕ)) (seen : Shown ℕ) (place : ℕ) (layer : OpenLayer ℕ) (object : ℕ)
      → shown_from depth (map view_of all) path ≡ Some seen → slice_get all place ≡ Some layer
      → seen.layer ≡ depth + place → at_path layer longer ≡ Some object
      → shown_from depth (map view_of all) longer ≡ visible (view_of layer) seen.layer object
  decides depth [] seen place layer object shows at is leads = none_is_some layer at
  decides depth (top ∷ lower) seen zero layer object shows at is leads = grind (arith, common_steps)
  decides depth (top ∷ lower) seen (suc place) layer object shows at is leads =
      by (at_path top path) refl (cuts (view_of top) path) refl
      (λ below. decides (depth + 1) lower seen place layer object below at (omega (arith, is)) leads)
    where
      rest : List (List ℕ) → Option (Shown ℕ)
      rest way = shown_from (depth + 1) (map view_of lower) way

      by : (o : Option ℕ) → at_path top path ≡ o → (cut : Bool) → cuts (view_of top) path ≡ cut
          → (shown_from (depth + 1) (map view_of lower) path ≡ Some seen
          → shown_from (depth + 1) (map view_of lower) longer ≡ visible (view_of layer) seen.layer object)
          → shown_from depth (map view_of (top ∷ lower)) longer ≡ visible (view_of layer) seen.layer object
      by o e cut is_cut below =
          grind (arith, common_steps, visible_at, map, none_is_some, leads_no_further, cuts_no_more, longer)

-- what is shown under a name is shown in a directory
pub under_directory : (trees : Filesystems) (overlay : OverlayValue) (are : AreLayers trees overlay.lowers)
    (path : List (List ℕ)) (name : List ℕ) (seen : Shown ℕ)
    → shown (layers trees overlay are) (path ++ name ∷ []) ≡ Some seen → (place object : ℕ) (lower : LayerRef)
    → shown (layers trees overlay are) path ≡ Some (record { layer = place; object = object })
    → slice_get overlay.lowers place ≡ Some lower
    → IsDirectory (files_at trees lower.directory.filesystem.count).tree object
under_directory trees overlay are path name seen under place object lower shows at =
    let there = shown_in_directory (layers trees overlay are) (open_layers trees overlay are) 0 path name seen under in
    let same : record { layer = 0 + there.place; object = there.object } ≡ record { layer = place; object = object } =
    same_Some (record { layer = 0 + there.place; object = there.object }) (record { layer = place; object = object })
    (sym there.is ∙ shows) in
    let number = ap (λ (s : Shown ℕ). s.layer) same in
    let place_is : place ≡ there.place = omega (arith, number) in
    let layer : there.layer ≡ layer_of trees lower = same_Some there.layer (layer_of trees lower)
    (sym there.there ∙ ap (slice_get (layers trees overlay are)) (sym place_is)
    ∙ slice_get-map (layer_of trees) overlay.lowers place ∙ ap (option_map (layer_of trees)) at) in
    subst (IsDirectory (layer_of trees lower).tree) (ap (λ (s : Shown ℕ). s.object) same)
    (subst (λ (l : OpenLayer ℕ). IsDirectory l.tree there.object) layer there.directory)

-- the same of an overlay
module _ (trees : Filesystems) (overlay : OverlayValue) (are : AreLayers trees overlay.lowers) (real : Real)
    (tree : option_map (λ (layer : LayerRef). layer.directory.filesystem) (slice_get overlay.lowers real.layer)
    ≡ Some real.inode.filesystem) where
  -- its layer
  pub its_layer : (lower : LayerRef) × (slice_get overlay.lowers real.layer ≡ Some lower)
  its_layer = grind (arith, common_steps)

  pub is_within : real.layer < length overlay.lowers
  is_within = slice_get_within overlay.lowers real.layer its_layer.0 its_layer.1

  module _ (lower : LayerRef) (layer : slice_get overlay.lowers real.layer ≡ Some lower) where
    pub beside : real.inode.filesystem ≡ lower.directory.filesystem
    beside = grind (arith, common_steps)

    module _ (path : List (List ℕ)) (name : List ℕ)
        (shows : shown (layers trees overlay are) path ≡ Some (seen_of real)) where
      leads : at_path (layer_of trees lower) path ≡ Some (inode_of real.inode)
      leads =
          let at = in_layer trees overlay are path (seen_of real) shows in
          ap (λ l. at_path (layer_of trees l) path) (same_Some lower at.0 (sym layer ∙ at.1)) ∙ at.2

      is_merged : IsMergedAt trees overlay.lowers path (record { layer = real.layer; directory = real.inode })
      is_merged = record { lower = lower; layer = layer; filesystem = beside; leads = leads }

      -- the layer has the name
      pub decides_here : (found : LayerEntry) → found.above ≡ record { layer = real.layer; directory = real.inode }
          → IsEntry trees name found → IsFirstEntry trees overlay.lowers path name found
      decides_here found same entry =
          let at : IsMergedAt trees overlay.lowers path found.above =
          subst (IsMergedAt trees overlay.lowers path) (sym same) is_merged in
          record {
            above = at;
            entry = entry;
            shows = decided (ap (λ (top : MergedDirectory). top.layer) same) at entry;
          }
        where
          decided : found.above.layer ≡ real.layer → IsMergedAt trees overlay.lowers path found.above
              → IsEntry trees name found
              → shown (layers trees overlay are) (path ++ name ∷ []) ≡ entry_shown trees found
          decided is at entry =
              let object = inode_of found.object in
              let here : entry_at (layer_of trees at.lower).tree (inode_of found.above.directory) name ≡ Some object
              = ap (λ (id : FilesystemId). entry_at (files_at trees id.count).tree (inode_of found.above.directory)
              name) (sym at.filesystem) ∙ entry.leads in
              cc (
                decides path name 0 (layers trees overlay are) (seen_of real) found.above.layer
                    (layer_of trees at.lower) object shows
                    (slice_get-map (layer_of trees) overlay.lowers found.above.layer
                    ∙ ap (option_map (layer_of trees)) at.layer) (omega (arith, is))
                    (led-append (layer_of trees at.lower).tree (inode_of at.lower.directory) path name
                    (inode_of found.above.directory) object at.leads here),
                at.filesystem,
              )

      -- no layer has it
      pub nothing_under : (IsDirectory (files_at trees lower.directory.filesystem.count).tree (inode_of real.inode)
          → (way : List (List ℕ)) → at_path (layer_of trees lower) way ≢ Some (inode_of real.inode))
          → shown (layers trees overlay are) (path ++ name ∷ []) ≡ None
      nothing_under none = by (shown (layers trees overlay are) (path ++ name ∷ [])) refl
        where
          by : (o : Option (Shown ℕ)) → shown (layers trees overlay are) (path ++ name ∷ []) ≡ o
              → shown (layers trees overlay are) (path ++ name ∷ []) ≡ None
          by None e = e
          by (Some seen) e = absurd (none
              (under_directory trees overlay are path name seen e real.layer (inode_of real.inode) lower shows layer)
              path leads)

      -- the path is the only way to the directory
      pub only_way : (way : List (List ℕ)) → at_path (layer_of trees lower) way ≡ Some (inode_of real.inode)
          → IsDirectory (files_at trees lower.directory.filesystem.count).tree (inode_of real.inode) → way ≡ path
      only_way way other directory =
          one_path (files_at trees lower.directory.filesystem.count).tree (are real.layer lower layer).tree
          (inode_of lower.directory) way path (inode_of real.inode) other leads directory

-- of the entry that decides
pub first_is_within : (trees : Filesystems) (lowers : List LayerRef) (path : List (List ℕ)) (name : List ℕ)
    (found : Option LayerEntry) → IfSome found (IsFirstEntry trees lowers path name)
    → IfSome found (λ one. one.above.layer < length lowers)
first_is_within trees lowers path name None first = tt
first_is_within trees lowers path name (Some one) first =
    slice_get_within lowers one.above.layer first.above.lower first.above.layer

pub first_is_beside : (trees : Filesystems) (lowers : List LayerRef) (path : List (List ℕ)) (name : List ℕ)
    (found : Option LayerEntry) → IfSome found (IsFirstEntry trees lowers path name)
    → IfSome found (λ one. one.object.filesystem ≡ one.above.directory.filesystem)
first_is_beside trees lowers path name found first = grind (arith, common_steps)

-- A name of a node that is shown leads to what is shown at its path and the name.
module _ (trees : Filesystems) (overlay : OverlayValue) (are : AreLayers trees overlay.lowers) (number : ℕ)
    (path : List (List ℕ)) (name : List ℕ) (found : path_at trees overlay number ≡ Some path) where
  at : IsAt trees overlay are path number
  at = found_is_at trees overlay are number path found

  shown_under : (seen : Shown ℕ) → shown (layers trees overlay are) (path ++ name ∷ []) ≡ Some seen
      → Some path ≡ directory_path trees overlay number
  unfolding at
  shown_under seen under = sym (ap (only_of_directory trees overlay) found
      ∙ directory_shown trees overlay are number path at
      (ap (λ o. is_directory_node (then_some o (layer_of trees at.lower).tree.node)) at.leads
      ∙ under_directory trees overlay are path name seen under at.place at.object at.lower at.is at.layer))

  nothing_shown : None ≡ directory_path trees overlay number → (o : Option (Shown ℕ))
      → shown (layers trees overlay are) (path ++ name ∷ []) ≡ o → number_at trees overlay (path ++ name ∷ []) ≡ None
  nothing_shown none None e = no_number trees overlay are (path ++ name ∷ []) e
  nothing_shown none (Some seen) e = none_is_some path (none ∙ sym (shown_under seen e))

  pub leads_to : number_at trees overlay (path ++ name ∷ [])
      ≡ entry_named name (entries_in ((merged_tree trees overlay).node number))
  leads_to = by (directory_path trees overlay number) refl
    where
      by : (o : Option (List (List ℕ))) → directory_path trees overlay number ≡ o
          → number_at trees overlay (path ++ name ∷ [])
          ≡ entry_named name (entries_in ((merged_tree trees overlay).node number))
      by None e = nothing_shown (sym e) (shown (layers trees overlay are) (path ++ name ∷ [])) refl
          ∙ no_entry_of trees overlay are number name (sym e)
      by (Some way) e = ap (λ p. number_at trees overlay (p ++ name ∷ []))
          (same_path (is_directory_node (node_shown nat_eq (plain_world trees) (overlay_seen overlay) path)) way
          (sym (ap (only_of_directory trees overlay) found) ∙ e)) ∙ entry_of trees overlay are number way (sym e) name
        where
          same_path : (b : Bool) (way : List (List ℕ)) → (if b then Some path else None) ≡ Some way → path ≡ way
          same_path b way e = grind (arith, common_steps)

-- a node of which something is shown is at a path
pub is_at_path : (trees : Filesystems) (overlay : OverlayValue) (number : ℕ)
    → IsSome (object_shown trees overlay number) → (path : List (List ℕ)) × (path_at trees overlay number ≡ Some path)
is_at_path trees overlay number some = grind (arith, common_steps, path_at trees overlay number)

-- what is lent is of a node of which something is shown
pub lent_is_shown : (trees : Filesystems) (overlay : OverlayValue) (number : ℕ) (node : Node ℕ)
    → real_lent trees overlay number ≡ Some node → IsSome (object_shown trees overlay number)
lent_is_shown trees overlay number node = grind (arith, common_steps)
