-- A read-only overlay that is left is shown along its layers, whatever other overlays are.
use Rattle.std.proofs.Common.{◌≡◌, ◌∙◌, refl, sym, ap, subst, arith, ℕ, nat_eq, nat_lt, Bool, true, false, cond, List, Contains, map, Option, Some, None, option_map, slice_get, unwrap_or}
use Rattle.vt_spec.proofs.Common.{Among, Filesystem, Fresh, Lower, Overlay, Permit, Real, Task, Upper, World, all_from_among, among-map, at_path, contains_from_among, filesystem_numbered, layers_of, node_at_path, none_is_some, open_layer}
use Rattle.vt_laws_kept.specs.Counts.{locations_on, real_staying, stays_in}
use Rattle.vt_laws_kept.specs.Staying.{held_on}
use Rattle.vt_laws_kept.proofs.staying.Applied.{layers_are_left, overlay_left}
use Rattle.vt_laws_kept.proofs.staying.Named.{left_are_seen}
use Rattle.vt_laws_trees.specs.Layers.Layers.Untouched.{IsKept}
use Rattle.vt_laws_trees.specs.Overlays.MergedTrees.{IsNamedBy}
use Rattle.vt_laws_trees.specs.Overlays.TreesSeen.{real_seen, tree_seen}
use Rattle.vt_laws_trees.proofs.overlays.merged.Numbers.{overlays_are_merged_trees}
use Rattle.vt_laws_trees.proofs.overlays.seen.NamedTrees.{seen_trees_are_named}
use Rattle.vt_laws_trees.proofs.overlays.seen.Paths.{all_at}
use Rattle.vt_laws_worlds.specs.Permits.Left.{left_by}
use Rattle.vt_location.specs.Locations.{inode_of, number_of}
use Rattle.vt_location.specs.Numbers.{counted}
use Rattle.vt_fs.specs.FilesystemsValue.{Filesystems}
use Rattle.vt_overlay.specs.Merge.LayerValue.{layer_of}
use Rattle.vt_overlay.specs.declared.merge.layers.LayerRef.{LayerRef}
use Rattle.vt_overlay.specs.MergedTree.{OverlayValue, layer_seen, longest, node_born, overlay_seen, real_number}
use Rattle.vt_layered.specs.LayeredTree.{layered_files}
use Rattle.vt_world.specs.OverlaysKept.Kept.{ShowsLayer}
use Rattle.vt_world.proofs.overlays_kept.events.KeptOverlays.{no_larger, real_kept, tree_kept}
use Rattle.vt_unnamed.specs.Kept.{with_its_objects}
use Rattle.vt_unnamed.specs.Left.{LeavesReadOnly, LeftReadOnlyAreShown}
use Rattle.vt_unnamed.proofs.leaving.LayersAlong.{StaysAlong, born_alike}

module _ {fresh : Fresh ℕ} {world : World ℕ} {task : Task ℕ} {permit : Permit ℕ} {old new : Filesystems}
    {overlay : OverlayValue} (is : LeavesReadOnly fresh world task permit old new overlay) where
  abbrev number : ℕ
  number = counted overlay.number.count

  abbrev left : World ℕ
  left = left_by fresh world task permit

  abbrev merged : Filesystem ℕ
  merged = filesystem_numbered nat_eq world (counted overlay.number.count)

  abbrev its : Overlay ℕ
  its = with_its_objects old overlay None

  abbrev its_left : Overlay ℕ
  its_left = real_staying (stays_in left merged) its

  abbrev nothing : ℕ → Option (Real ℕ)
  nothing inode = None

  -- Layers stay along their paths
  stays_along : (place : ℕ) (layer : LayerRef) → slice_get overlay.lowers place ≡ Some layer
      → StaysAlong old new layer
  stays_along place layer at = record {
    leads = λ path. ap (λ l. at_path l path) (sym now_open) ∙ (paths path).0 ∙ ap (λ l. at_path l path) old_open;
    keeps = λ path. subst (λ now. IsKept (node_at_path (layer_of old layer) path) (node_at_path now path)) now_open
        (subst (λ was. IsKept (node_at_path was path) (node_at_path (open_layer nat_eq left (layer_seen layer)) path))
        old_open (paths path).1);
  }
    where
      opened : (w : World ℕ) (trees : Filesystems) → ShowsLayer w trees layer
          → open_layer nat_eq w (layer_seen layer) ≡ layer_of trees layer
      opened w trees shows = λ i. record { tree = sym shows.tree i; directory = inode_of layer.directory }

      old_open : open_layer nat_eq world (layer_seen layer) ≡ layer_of old layer
      old_open = opened world old (all_at (ShowsLayer world old) overlay.lowers is.before.all place layer at)

      now_open : open_layer nat_eq left (layer_seen layer) ≡ layer_of new layer
      now_open = opened left new (all_at (ShowsLayer left new) overlay.lowers is.after.all place layer at)

      contained : Contains (layers_of its) (layer_seen layer)
      contained = contains_from_among (map layer_seen overlay.lowers) (layer_seen layer)
          (among-map layer_seen overlay.lowers layer (all_at (λ one. Among one overlay.lowers) overlay.lowers
          (all_from_among (λ one. Among one overlay.lowers) overlay.lowers (λ one m. m)) place layer at))

      paths : (path : List (List ℕ))
          → (at_path (open_layer nat_eq left (layer_seen layer)) path
          ≡ at_path (open_layer nat_eq world (layer_seen layer)) path)
          × IsKept (node_at_path (open_layer nat_eq world (layer_seen layer)) path)
          (node_at_path (open_layer nat_eq left (layer_seen layer)) path)
      paths = (layers_are_left world fresh task permit number its is.in_world is.given is.was is.alone is.there).paths
          (layer_seen layer) contained

  numbers_alike : (real : Real ℕ) → real_number new overlay real ≡ real_number old overlay real
  numbers_alike (Upper object) = refl
  numbers_alike (Lower layer path) = by (slice_get overlay.lowers layer) refl
    where
      by : (o : Option LayerRef) → slice_get overlay.lowers layer ≡ o
          → unwrap_or (option_map (λ lower. number_of (node_born new overlay.number layer lower path)) o) 0
          ≡ unwrap_or (option_map (λ lower. number_of (node_born old overlay.number layer lower path)) o) 0
      by None at = refl
      by (Some lower) at =
          ap number_of (born_alike old new lower (stays_along layer lower at) overlay.number layer path)

  named_before : IsNamedBy (real_number old overlay) nothing merged its
  named_before = seen_trees_are_named (real_number old overlay) nothing (longest old overlay.lowers) world merged its
      (overlays_are_merged_trees world number its is.in_world is.was)
      (real_kept world old overlay is.before its.real (real_number old overlay) (longest old overlay.lowers))
      (λ inode object e. absurd (none_is_some object e))

  named_then : IsNamedBy (real_number new overlay) nothing merged its
  named_then = record {
    numbered = λ inode object e. named_before.numbered inode object e ∙ sym (numbers_alike object);
    unnamed = named_before.unnamed;
  }

  held_nothing : held_on left number nothing ≡ nothing
  held_nothing = λ i. λ inode. by (nat_lt 0 (locations_on left number inode)) None i
    where
      by : (b : Bool) (o : Option (Real ℕ)) → cond b o o ≡ o
      by true o = refl
      by false o = refl

  seen : ((filesystem_numbered nat_eq left number).files.tree
      ≡ tree_seen (real_number new overlay) nothing (longest new overlay.lowers) left its_left)
      × (its_left.real ≡ real_seen (real_number new overlay) nothing (longest new overlay.lowers) left its_left)
  seen =
      let both = left_are_seen world fresh task permit number its is.in_world is.given is.was is.alone is.there
      (real_number new overlay) nothing (longest new overlay.lowers) named_then
      (no_larger left new overlay.lowers (longest new overlay.lowers) (omega arith) is.after.all) in (
        both.0 ∙ ap (λ held. tree_seen (real_number new overlay) held (longest new overlay.lowers) left its_left)
            held_nothing,
        both.1 ∙ ap (λ held. real_seen (real_number new overlay) held (longest new overlay.lowers) left its_left)
            held_nothing,
      )

  pub both_shown : ((filesystem_numbered nat_eq left number).files.tree ≡ (layered_files new overlay None).tree)
      × ((filesystem_numbered nat_eq left number).overlay ≡ Some (with_its_objects new overlay None))
  both_shown = (
    seen.0 ∙ sym (tree_kept left new overlay is.after its_left.real (real_number new overlay)
        (longest new overlay.lowers)),
    overlay_left world fresh task permit number its is.in_world is.given is.was is.alone is.there
        ∙ ap Some (λ i. record (overlay_seen overlay) {
          real = (seen.1 ∙ sym (real_kept left new overlay is.after its_left.real (real_number new overlay)
              (longest new overlay.lowers))) i;
        }),
  )

pub left_read_only_are_shown : LeftReadOnlyAreShown
left_read_only_are_shown fresh world task permit old new overlay is = both_shown is
