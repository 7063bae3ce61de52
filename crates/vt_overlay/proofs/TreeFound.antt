-- What is found by a number is what is shown at the one path where it is.
use Rattle.std.proofs.Common.{◌≡◌, ◌≢◌, ◌∙◌, ◌≤◌, ◌∷◌, [], arith, ap, Bool, eq-eqb, false, length, List, map, nat_eq, None, option_map, Option, refl, Some, subst, suc, sym, true, zero, ℕ, slice_get, find, if◌then◌else◌, is_some}
use Rattle.vt_spec.proofs.Common.{Filesystem, Lower, OpenLayer, Real, Shown, World, at_path, found_passes, holds_of, is_directory_node, node_at_path, node_shown, none_is_some, open_layer, paths_from, real_object, real_shown, same_Some, shown, slice_get-map, common_steps}
use Rattle.vt_laws_trees.proofs.layers.layers.ShownAtPath.{computed}
use Rattle.vt_laws_trees.proofs.layers.layers.ShownDirectories.{AreOpen}
use Rattle.vt_laws_trees.proofs.layers.layers.ShownObjects.{Among, paths_complete}
use Rattle.vt_laws_trees.specs.Overlays.MergedTrees.{layers_shown, number_shown}
use Rattle.vt_laws_trees.proofs.overlays.seen.Paths.{length-led}
use Rattle.vt_laws_trees.proofs.overlays.seen.SeenTrees.{shown_number}
use Rattle.vt_laws_trees.specs.Overlays.TreesSeen.{path_numbered}
use Rattle.vt_location.specs.Locations.{inode_of, number_of}
use Rattle.vt_fs.proofs.Numbers.{found_by_number, numbers_listed}
use Rattle.vt_fs.specs.FilesystemsValue.{Filesystems, entry_at, files_at}
use Rattle.vt_overlay.specs.Merge.LayerValue.{layer_of, layers_of}
use Rattle.vt_overlay.specs.declared.merge.layers.LayerRef.{LayerRef}
use Rattle.vt_overlay.specs.MergedTree.{AreLayers, OverlayValue, layer_seen, longest, node_born, only_of_directory, overlay_seen, plain_world, real_number}

-- what is among a list and passes is not missed
not_missed : {A : Type 0} (test : A → Bool) (list : List A) (a : A) → test a ≡ true → Among list a
    → find test list ≢ None
not_missed test [] a passes among e = absurd among
not_missed {A = A} test (first ∷ list) a passes among e =
    grind (arith, common_steps, test first, not_missed test list a passes)

-- a layer has no more inodes than all of them
at_most_longest : (trees : Filesystems) (layers : List LayerRef) (place : ℕ) (layer : LayerRef)
    → slice_get layers place ≡ Some layer
    → length (files_at trees layer.directory.filesystem.count).numbers ≤ longest trees layers
at_most_longest trees [] place layer e = none_is_some layer e
at_most_longest trees (first ∷ layers) zero layer e = grind (arith, common_steps)
at_most_longest trees (first ∷ layers) (suc place) layer e =
    let rest = at_most_longest trees layers place layer e in omega (arith, rest)

module _ (trees : Filesystems) (overlay : OverlayValue) (are : AreLayers trees overlay.lowers) where
  abbrev pub layers : List (OpenLayer ℕ)
  layers = layers_of trees overlay.lowers

  abbrev world : World ℕ
  world = plain_world trees

  as_layer : LayerRef → Filesystem ℕ → OpenLayer ℕ
  as_layer lower filesystem = record { tree = filesystem.files.tree; directory = inode_of lower.directory }

  opened_so : (lower : LayerRef) → open_layer nat_eq world (layer_seen lower) ≡ layer_of trees lower
  unfolding as_layer
  opened_so lower = ap (as_layer lower) (found_by_number trees lower.directory.filesystem.count)

  all_opened : (lowers : List LayerRef) → map (open_layer nat_eq world) (map layer_seen lowers) ≡ layers_of trees lowers
  all_opened [] = refl
  all_opened (lower ∷ lowers) = λ i. opened_so lower i ∷ all_opened lowers i

  pub layers_are : layers_shown world (overlay_seen overlay) ≡ layers
  layers_are = all_opened overlay.lowers

  -- the real object at a path, and its number
  abbrev pub real_of : List (List ℕ) → Option (Shown ℕ) → Option (Real ℕ)
  real_of path seen = option_map (λ (s : Shown ℕ). Lower s.layer path) seen

  pub real_is : (path : List (List ℕ))
      → real_shown nat_eq world (overlay_seen overlay) path ≡ real_of path (shown layers path)
  real_is path = grind (arith, common_steps, real_object, layers_are)

  -- what is shown has a number
  pub number_is_shown : (path : List (List ℕ))
      → is_some (number_shown (real_number trees overlay) world (overlay_seen overlay) path)
      ≡ is_some (shown (layers_shown world (overlay_seen overlay)) path)
  number_is_shown path = grind (arith, common_steps)

  abbrev pub number_at : List (List ℕ) → Option ℕ
  number_at path = number_shown (real_number trees overlay) world (overlay_seen overlay) path

  -- it is shown there by this number
  pub record IsAt (path : List (List ℕ)) (number : ℕ) : Type 0 where
    pub place : ℕ
    pub object : ℕ
    pub lower : LayerRef
    pub layer : slice_get overlay.lowers place ≡ Some lower
    pub is : shown layers path ≡ Some (record { layer = place; object = object })
    pub leads : at_path (layer_of trees lower) path ≡ Some object
    pub numbered : number_of (node_born trees overlay.number place lower path) ≡ number

  -- what is shown is in a layer
  pub in_layer : (path : List (List ℕ)) (seen : Shown ℕ) → shown layers path ≡ Some seen
      → (lower : LayerRef) × (slice_get overlay.lowers seen.layer ≡ Some lower)
      × (at_path (layer_of trees lower) path ≡ Some seen.object)
  in_layer path seen e =
      let has = ((computed layers path seen).0 e).has_uncut.0 in
      grind (
        arith,
        common_steps,
        slice_get overlay.lowers seen.layer,
        slice_get-map (layer_of trees) overlay.lowers
            seen.layer,
        has.1,
      )

  pub open_layers : AreOpen layers
  open_layers place layer e = by (slice_get overlay.lowers place) refl
      (sym (slice_get-map (layer_of trees) overlay.lowers place) ∙ e)
    where
      by : (o : Option LayerRef) → slice_get overlay.lowers place ≡ o → option_map (layer_of trees) o ≡ Some layer
          → Rattle.vt_spec.specs.TreeInvariant.IsTree layer.tree
          × Rattle.vt_spec.specs.TreeInvariant.IsDirectory layer.tree layer.directory
      by None s m = none_is_some layer m
      by (Some lower) s m = subst (λ (l : OpenLayer ℕ). Rattle.vt_spec.specs.TreeInvariant.IsTree l.tree
          × Rattle.vt_spec.specs.TreeInvariant.IsDirectory l.tree l.directory)
          (same_Some (layer_of trees lower) layer m) ((are place lower s).tree, (are place lower s).directory)

  pub bounded : (path : List (List ℕ)) (seen : Shown ℕ) → shown layers path ≡ Some seen
      → length path ≤ longest trees overlay.lowers
  bounded path seen e =
      let at = in_layer path seen e in
      let f = at.0.directory.filesystem.count in
      let within = length-led (files_at trees f) (are seen.layer at.0 at.1).tree (numbers_listed (entry_at trees f))
      (inode_of at.0.directory) path seen.object at.2 in
      let most = at_most_longest trees overlay.lowers seen.layer at.0 at.1 in
      omega (arith, within, most)

  -- a number that is found is at that path
  pub number_of_shown : (path : List (List ℕ)) (seen : Shown ℕ) (lower : LayerRef) → shown layers path ≡ Some seen
      → slice_get overlay.lowers seen.layer ≡ Some lower
      → number_at path ≡ Some (number_of (node_born trees overlay.number seen.layer lower path))
  number_of_shown path seen lower e l = grind (arith, common_steps, real_is path)

  abbrev pub found_at : ℕ → Option (List (List ℕ))
  found_at number =
      path_numbered (real_number trees overlay) (longest trees overlay.lowers) world (overlay_seen overlay) number

  abbrev passes : ℕ → List (List ℕ) → Bool
  passes number path = holds_of (nat_eq number) (number_at path)

  -- a number that is shown at a path
  pub numbered_is_at : (number : ℕ) (path : List (List ℕ)) → number_at path ≡ Some number → IsAt path number
  numbered_is_at number path numbered = by (shown layers path) refl numbered
    where
      by : (o : Option (Shown ℕ)) → shown layers path ≡ o → number_at path ≡ Some number → IsAt path number
      by None s n = grind (arith, common_steps, none_is_some, real_is)
      by (Some seen) s n =
          let at = in_layer path seen s in
          record {
            place = seen.layer;
            object = seen.object;
            lower = at.0;
            layer = at.1;
            is = s;
            leads = at.2;
            numbered = same_Some _ number (sym (number_of_shown path seen at.0 s at.1) ∙ n);
          }

  pub found_is_at : (number : ℕ) (path : List (List ℕ)) → found_at number ≡ Some path → IsAt path number
  found_is_at number path e = numbered_is_at number path (shown_number number (number_at path)
      (found_passes (passes number)
      (paths_from (longest trees overlay.lowers) (layers_shown world (overlay_seen overlay)) []) path e))

  -- and one that is at a path is found
  pub at_is_found : (number : ℕ) (path : List (List ℕ)) → IsAt path number → found_at number ≢ None
  at_is_found number path at = not_missed (passes number)
      (paths_from (longest trees overlay.lowers) (layers_shown world (overlay_seen overlay)) []) path
      (ap (holds_of (nat_eq number))
      (number_of_shown path (record { layer = at.place; object = at.object }) at.lower at.is at.layer)
      ∙ eq-eqb number _ (sym at.numbered))
      (subst (λ ls. Among (paths_from (longest trees overlay.lowers) ls []) path) (sym layers_are)
      (paths_complete layers open_layers (longest trees overlay.lowers) [] path
      (record { layer = at.place; object = at.object })
      (bounded path (record { layer = at.place; object = at.object }) at.is) at.is))

  -- so where it is at one path alone, it is found there
  pub found_is : (number : ℕ) (path : List (List ℕ)) → IsAt path number
      → ((other : List (List ℕ)) → IsAt other number → other ≡ path) → found_at number ≡ Some path
  found_is number path at only = by (found_at number) refl
    where
      by : (o : Option (List (List ℕ))) → found_at number ≡ o → found_at number ≡ Some path
      by None f = absurd (at_is_found number path at f)
      by (Some other) f = f ∙ ap Some (only other (found_is_at number other f))

  -- the inode that is shown at its path
  pub node_there : (number : ℕ) (path : List (List ℕ)) (at : IsAt path number)
      → node_shown nat_eq world (overlay_seen overlay) path ≡ node_at_path (layer_of trees at.lower) path
  node_there number path at =
      grind (
        arith,
        common_steps,
        layers_are,
        at.is,
        slice_get-map (layer_of trees) overlay.lowers at.place,
        at.layer,
        at.leads,
      )

  pub directory_shown : (number : ℕ) (path : List (List ℕ)) (at : IsAt path number)
      → is_directory_node (node_at_path (layer_of trees at.lower) path) ≡ true
      → only_of_directory trees overlay (Some path) ≡ Some path
  directory_shown number path at is = grind (arith, common_steps, node_there number path at)

  pub no_directory_shown : (number : ℕ) (path : List (List ℕ)) (at : IsAt path number)
      → (is_directory_node (node_at_path (layer_of trees at.lower) path) ≡ true → ⊥)
      → only_of_directory trees overlay (Some path) ≡ None
  no_directory_shown number path at none = by (is_directory_node (node_at_path (layer_of trees at.lower) path)) refl
    where
      by : (b : Bool) → is_directory_node (node_at_path (layer_of trees at.lower) path) ≡ b
          → only_of_directory trees overlay (Some path) ≡ None
      by true is = absurd (none is)
      by false is = ap (λ b. if b then Some path else None) (ap is_directory_node (node_there number path at) ∙ is)
