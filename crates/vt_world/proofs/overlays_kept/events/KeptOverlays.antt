-- A permit leaves an overlay of a store as it was.
use Rattle.std.proofs.Common.{◌≡◌, refl, sym, ap, subst, ◌∙◌, inl, inr, ◌+◌, ◌≤◌, ◌++◌, ◌∷◌, ℕ, zero, suc, nat_eq, Bool, true, false, if◌then◌else◌, List, [], length, map, find, Option, Some, None, option_map, unwrap_or, arith, All, Contains, filter_map, slice_get}
use Rattle.vt_spec.proofs.Common.{All-cons, All-head, All-nil, All-tail, Among, Credentials, Entries, Fresh, IsWorld, Layer, Lower, Node, OpenLayer, Overlay, Permit, Real, Task, Tree, Upper, World, among-map, at_path, contains_from_among, entries_in, filesystem_numbered, holds_of, is_directory, is_directory_node, is_overlay, is_root_path, last_or, layer_node, merged_at, names_shown, node_at_path, none_is_some, open_layer, paths_from, real_object, same_Some, shown, then_some, without_last}
use Rattle.vt_laws_mounts.specs.Counts.BesideOverlays.{OverlaysHaveNoUpper}
use Rattle.vt_laws_mounts.specs.Counts.OverlaysStay.{OverlaysAreNamed}
use Rattle.vt_laws_trees.specs.Layers.Layers.Untouched.{IsKept}
use Rattle.vt_laws_trees.specs.Overlays.MergedTrees.{IsNamedBy, layers_shown, node_as}
use Rattle.vt_laws_trees.proofs.overlays.merged.Numbers.{overlays_are_merged_trees}
use Rattle.vt_laws_worlds.specs.OverlayPermits.LockedOverScripts.{LowersStay}
use Rattle.vt_laws_worlds.proofs.overlays_stay.kept.TreesStay.{seen_trees_stay}
use Rattle.vt_laws_worlds.proofs.overlays_stay.left.Lowers.{given_permits_leave_lowers}
use Rattle.vt_laws_worlds.specs.Permits.Left.{IsGiven, left_by}
use Rattle.vt_laws_trees.proofs.overlays.seen.NamedTrees.{seen_trees_are_named}
use Rattle.vt_laws_trees.specs.Overlays.TreesSeen.{files_of, node_by, path_numbered, real_by, real_seen, tree_seen}
use Rattle.vt_node.specs.Ranks.{rank_among}
use Rattle.vt_location.specs.declared.births.Birth.TheVariants.{Below, Here}
use Rattle.vt_location.specs.declared.locations.NodeRef.{NodeRef}
use Rattle.vt_location.specs.Locations.{inode_of, number_of}
use Rattle.vt_location.specs.Numbers.{exchanged}
use Rattle.vt_fs.specs.FilesystemsValue.{Filesystems}
use Rattle.vt_overlay.specs.Merge.LayerValue.{layer_of, layers_of}
use Rattle.vt_overlay.specs.declared.merge.layers.LayerRef.{LayerRef}
use Rattle.vt_overlay.proofs.TreeFound.{layers_are}
use Rattle.vt_overlay.specs.MergedTree.{OverlayValue, layer_seen, longest, overlay_seen, plain_world, real_number}
use Rattle.vt_world.specs.OverlaysKept.Kept.{IsShownAlike, KeptOverlaysStay, ShowsLayer, ShowsLayers, with_objects}

-- The tree as a function of what layers are opened, of the numbers of real objects, and of the longest path

module _ (layers : List (OpenLayer ℕ)) (numbered : Real ℕ → ℕ) (most : ℕ) where
  abbrev real_at : List (List ℕ) → Option (Real ℕ)
  real_at path = option_map (λ object. real_object false object.seen.layer object) (merged_at layers path)

  abbrev number_in : List (List ℕ) → Option ℕ
  number_in path = option_map numbered (real_at path)

  abbrev inode_in : List (List ℕ) → Option (Node ℕ)
  inode_in path = option_map (node_as (unwrap_or (number_in (without_last path)) 0)
      (filter_map (λ name. option_map (λ number. (name, number)) (number_in (path ++ name ∷ [])))
      (names_shown layers path))) (then_some (shown layers path) (layer_node layers))

  abbrev inode_found : Option (List (List ℕ)) → Option (Node ℕ)
  inode_found None = None
  inode_found (Some path) = inode_in path

  abbrev real_found : Option (List (List ℕ)) → Option (Real ℕ)
  real_found None = None
  real_found (Some path) = real_at path

  abbrev path_found : ℕ → Option (List (List ℕ))
  path_found number = find (λ path. holds_of (nat_eq number) (number_in path)) (paths_from most layers [])

  abbrev tree_in : Tree ℕ
  tree_in = record {
    root = unwrap_or (number_in []) 0;
    node = λ number. inode_found (path_found number);
  }

  abbrev real_in : ℕ → Option (Real ℕ)
  real_in number = real_found (path_found number)

-- an overlay without an upper layer
abbrev read_only : List (Layer ℕ) → Credentials → (ℕ → Option (Real ℕ)) → Overlay ℕ
read_only lowers mounter real = record { upper = None; work = None; lowers = lowers; mounter = mounter; real = real }

module _ (world : World ℕ) (lowers : List (Layer ℕ)) (mounter : Credentials) (real : ℕ → Option (Real ℕ))
    (numbered : Real ℕ → ℕ) (most : ℕ) where
  seen_in : tree_seen numbered (λ number. None) most world (read_only lowers mounter real)
      ≡ tree_in (map (open_layer nat_eq world) lowers) numbered most
  seen_in = λ i. record {
    root = unwrap_or (number_in (map (open_layer nat_eq world) lowers) numbered most []) 0;
    node = λ number. by number (path_numbered numbered most world (read_only lowers mounter real) number) i;
  }
    where
      by : (number : ℕ) (o : Option (List (List ℕ)))
          → node_by numbered (λ number. None) most world (read_only lowers mounter real) number o
          ≡ inode_found (map (open_layer nat_eq world) lowers) numbered most o
      by number None = refl
      by number (Some path) = refl

  real_seen_in : real_seen numbered (λ number. None) most world (read_only lowers mounter real)
      ≡ real_in (map (open_layer nat_eq world) lowers) numbered most
  real_seen_in = λ i. λ number. by number (path_numbered numbered most world (read_only lowers mounter real) number) i
    where
      by : (number : ℕ) (o : Option (List (List ℕ)))
          → real_by numbered (λ number. None) most world (read_only lowers mounter real) number o
          ≡ real_found (map (open_layer nat_eq world) lowers) numbered most o
      by number None = refl
      by number (Some path) = refl

-- The layers in the world, and as they are kept

opened_alike : (world : World ℕ) (trees : Filesystems) (layer : LayerRef) → ShowsLayer world trees layer
    → open_layer nat_eq world (layer_seen layer) ≡ layer_of trees layer
opened_alike world trees layer shows = λ i. record { tree = sym shows.tree i; directory = inode_of layer.directory }

pub all_opened : (world : World ℕ) (trees : Filesystems) (layers : List LayerRef) → All (ShowsLayer world trees) layers
    → map (open_layer nat_eq world) (map layer_seen layers) ≡ layers_of trees layers
all_opened world trees [] all = refl
all_opened world trees (layer ∷ layers) all =
    λ i. opened_alike world trees layer (All-head (ShowsLayer world trees) layer layers all) i
    ∷ all_opened world trees layers (All-tail (ShowsLayer world trees) layer layers all) i

pub no_larger : (world : World ℕ) (trees : Filesystems) (layers : List LayerRef) (most : ℕ)
    → longest trees layers ≤ most → All (ShowsLayer world trees) layers
    → All (λ (layer : Layer ℕ). length (files_of world layer).numbers ≤ most) (map layer_seen layers)
no_larger world trees [] most within all = All-nil _
no_larger world trees (layer ∷ layers) most within all =
    let here = (All-head (ShowsLayer world trees) layer layers all).numbers in
    All-cons (λ (one : Layer ℕ). length (files_of world one).numbers ≤ most) (layer_seen layer) (map layer_seen layers)
    (omega (arith, within, here)) (no_larger world trees layers most (omega (arith, within))
    (All-tail (ShowsLayer world trees) layer layers all))

-- what holds of all holds of the one at a place
at_place : {A : Type 0} (P : A → Type 0) (list : List A) → All P list → (place : ℕ) (a : A)
    → slice_get list place ≡ Some a → P a × Among a list
at_place P [] all place a e = absurd (none_is_some a e)
at_place P (first ∷ list) all zero a e =
    let same = same_Some first a e in (subst P same (All-head P first list all), inl (sym same))
at_place P (first ∷ list) all (suc place) a e =
    let later = at_place P list (All-tail P first list all) place a e in (later.0, inr later.1)

-- so what is kept shows the overlay as the world does
module _ (world : World ℕ) (trees : Filesystems) (overlay : OverlayValue) (shows : ShowsLayers world trees overlay)
    (real : ℕ → Option (Real ℕ)) (numbered : Real ℕ → ℕ) (most : ℕ) where
  both_open : layers_shown (plain_world trees) (overlay_seen overlay)
      ≡ map (open_layer nat_eq world) (map layer_seen overlay.lowers)
  both_open = layers_are trees overlay shows.are ∙ sym (all_opened world trees overlay.lowers shows.all)

  pub tree_kept : tree_seen numbered (λ number. None) most (plain_world trees) (overlay_seen overlay)
      ≡ tree_seen numbered (λ number. None) most world (record (overlay_seen overlay) { real = real })
  tree_kept = seen_in (plain_world trees) (map layer_seen overlay.lowers) overlay.mounter (λ number. None) numbered most
      ∙ ap (λ layers. tree_in layers numbered most) both_open
      ∙ sym (seen_in world (map layer_seen overlay.lowers) overlay.mounter real numbered most)

  pub real_kept : real_seen numbered (λ number. None) most (plain_world trees) (overlay_seen overlay)
      ≡ real_seen numbered (λ number. None) most world (record (overlay_seen overlay) { real = real })
  real_kept =
      real_seen_in (plain_world trees) (map layer_seen overlay.lowers) overlay.mounter (λ number. None) numbered most
      ∙ ap (λ layers. real_in layers numbered most) both_open
      ∙ sym (real_seen_in world (map layer_seen overlay.lowers) overlay.mounter real numbered most)

-- Numbers of real objects

-- a directory is known by its kind
directory_by_kind : (old new : Option (Node ℕ)) → IsKept old new → is_directory_node new ≡ is_directory_node old
directory_by_kind None None kept = refl
directory_by_kind None (Some now) kept = absurd (none_is_some {A = ℕ} 0 cc)
directory_by_kind (Some was) None kept = absurd (none_is_some {A = ℕ} 0 cc)
directory_by_kind (Some was) (Some now) kept = ap is_directory kept.kind

-- the node that is born at a path of a layer, by what is found along it
abbrev born : OverlayValue → ℕ → LayerRef → List (List ℕ) → ℕ → ℕ → Bool → Entries ℕ → NodeRef
born overlay place layer path object parent directory entries = record {
  filesystem = overlay.number;
  slot = exchanged layer.directory.filesystem.count object;
  birth = if is_root_path path then Here else Below place (exchanged layer.directory.filesystem.count parent)
      (if directory then 0 else rank_among entries (last_or [] path) object);
}

-- The overlay over the permit

module _ (world : World ℕ) (fresh : Fresh ℕ) (task : Task ℕ) (permit : Permit ℕ) (old new : Filesystems)
    (of_layers : OverlayValue) (number : ℕ) (is : IsWorld nat_eq world) (none : OverlaysHaveNoUpper world)
    (named : OverlaysAreNamed world) (given : IsGiven fresh world task permit)
    (was : (filesystem_numbered nat_eq world number).overlay ≡ Some (with_objects old of_layers))
    (there : is_overlay (filesystem_numbered nat_eq (left_by fresh world task permit) number) ≡ true)
    (before : ShowsLayers world old of_layers) (after : ShowsLayers (left_by fresh world task permit) new of_layers)
  where
    abbrev left : World ℕ
    left = left_by fresh world task permit

    abbrev overlay : Overlay ℕ
    overlay = with_objects old of_layers

    abbrev lowers : List LayerRef
    lowers = of_layers.lowers

    stay : LowersStay world left number overlay
    stay = given_permits_leave_lowers world fresh task permit number overlay is given was there

    module _ (place : ℕ) (layer : LayerRef) (at : slice_get lowers place ≡ Some layer) where
      old_open : open_layer nat_eq world (layer_seen layer) ≡ layer_of old layer
      old_open = opened_alike world old layer (at_place (ShowsLayer world old) lowers before.all place layer at).0

      new_open : open_layer nat_eq left (layer_seen layer) ≡ layer_of new layer
      new_open = opened_alike left new layer (at_place (ShowsLayer left new) lowers after.all place layer at).0

      contained : Contains (map layer_seen lowers) (layer_seen layer)
      contained = contains_from_among (map layer_seen lowers) (layer_seen layer)
          (among-map layer_seen lowers layer (at_place (ShowsLayer world old) lowers before.all place layer at).1)

      leads : (path : List (List ℕ)) → at_path (layer_of new layer) path ≡ at_path (layer_of old layer) path
      leads path = ap (λ layer. at_path layer path) (sym new_open) ∙ (stay.paths (layer_seen layer) contained path).0
          ∙ ap (λ layer. at_path layer path) old_open

      keeps : (path : List (List ℕ))
          → IsKept (node_at_path (layer_of old layer) path) (node_at_path (layer_of new layer) path)
      keeps path = subst (λ now. IsKept (node_at_path (layer_of old layer) path) (node_at_path now path)) new_open
          (subst (λ was. IsKept (node_at_path was path) (node_at_path (open_layer nat_eq left (layer_seen layer)) path))
          old_open (stay.paths (layer_seen layer) contained path).1)

      born_alike : (path : List (List ℕ))
          → born of_layers place layer path (unwrap_or (at_path (layer_of new layer) path) 0)
          (unwrap_or (at_path (layer_of new layer) (without_last path)) 0)
          (is_directory_node (node_at_path (layer_of new layer) path))
          (entries_in (node_at_path (layer_of new layer) (without_last path)))
          ≡ born of_layers place layer path (unwrap_or (at_path (layer_of old layer) path) 0)
          (unwrap_or (at_path (layer_of old layer) (without_last path)) 0)
          (is_directory_node (node_at_path (layer_of old layer) path))
          (entries_in (node_at_path (layer_of old layer) (without_last path)))
      born_alike path = λ i. born of_layers place layer path (unwrap_or (leads path i) 0)
          (unwrap_or (leads (without_last path) i) 0)
          (directory_by_kind (node_at_path (layer_of old layer) path) (node_at_path (layer_of new layer) path)
          (keeps path) i) ((keeps (without_last path)).names i)

    numbers_alike : (real : Real ℕ) → real_number new of_layers real ≡ real_number old of_layers real
    numbers_alike (Upper object) = refl
    numbers_alike (Lower place path) = by (slice_get lowers place) refl
      where
        by : (o : Option LayerRef) → slice_get lowers place ≡ o
            → unwrap_or (option_map (λ layer. number_of (born of_layers place layer path
            (unwrap_or (at_path (layer_of new layer) path) 0)
            (unwrap_or (at_path (layer_of new layer) (without_last path)) 0)
            (is_directory_node (node_at_path (layer_of new layer) path))
            (entries_in (node_at_path (layer_of new layer) (without_last path))))) o) 0
            ≡ unwrap_or (option_map (λ layer. number_of (born of_layers place layer path
            (unwrap_or (at_path (layer_of old layer) path) 0)
            (unwrap_or (at_path (layer_of old layer) (without_last path)) 0)
            (is_directory_node (node_at_path (layer_of old layer) path))
            (entries_in (node_at_path (layer_of old layer) (without_last path))))) o) 0
        by None e = refl
        by (Some layer) e = ap number_of (born_alike place layer e path)

    real_before : overlay.real
        ≡ real_seen (real_number old of_layers) (λ number. None) (longest old lowers) world overlay
    real_before = real_kept world old of_layers before overlay.real (real_number old of_layers) (longest old lowers)

    named_before : IsNamedBy (real_number old of_layers) (λ n. None) (filesystem_numbered nat_eq world number) overlay
    named_before = seen_trees_are_named (real_number old of_layers) (λ n. None) (longest old lowers) world
        (filesystem_numbered nat_eq world number) overlay (overlays_are_merged_trees world number overlay is was)
        real_before (λ n object e. absurd (none_is_some object e))

    named_then : IsNamedBy (real_number new of_layers) (λ n. None) (filesystem_numbered nat_eq world number) overlay
    named_then = record {
      numbered = λ n object e. named_before.numbered n object e ∙ sym (numbers_alike object);
      unnamed = named_before.unnamed;
    }

    alike : IsShownAlike old new of_layers
    alike =
        let both = seen_trees_stay world fresh task permit number overlay (real_number old of_layers)
        (real_number new of_layers) (λ n. None) (λ n. None) (longest old lowers) (longest new lowers) is none named
        given was there named_before named_then
        (no_larger world old lowers (longest old lowers) (omega arith) before.all)
        (no_larger left new lowers (longest new lowers) (omega arith) after.all) in
        record {
          tree = tree_kept left new of_layers after overlay.real (real_number new of_layers) (longest new lowers)
              ∙ both.0 ∙ sym (tree_kept world old of_layers before overlay.real (real_number old of_layers)
              (longest old lowers));
          real = real_kept left new of_layers after overlay.real (real_number new of_layers) (longest new lowers)
              ∙ both.1 ∙ sym (real_kept world old of_layers before overlay.real (real_number old of_layers)
              (longest old lowers));
        }

pub kept_overlays_stay : KeptOverlaysStay
kept_overlays_stay world fresh task permit old new overlay number is none named given was there before after =
    alike world fresh task permit old new overlay number is none named given was there before after
