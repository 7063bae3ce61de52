-- What overlays keep and write to, found by their numbers.
use Rattle.std.proofs.Common.{◌≡◌, ◌∙◌, ◌&&◌, ◌||◌, ◌++◌, ◌∷◌, [], ap, Bool, map, None, option_map, option_to_list, Option, refl, slice_get, Some, sym, true, ℕ}
use Rattle.std.specs.Map.{keys_of}
use Rattle.vt_spec.proofs.Common.{All-weaker, holds_of, list_any, none_is_some, or-false, same_Some}
use Rattle.vt_births.specs.KeptObjects.{IsOf}
use Rattle.vt_location.specs.declared.locations.InodeRef.{InodeRef}
use Rattle.vt_location.specs.Locations.{inode_of}
use Rattle.vt_fs.specs.FilesystemsValue.{Filesystems}
use Rattle.vt_overlay.specs.declared.merge.layers.LayerRef.{LayerRef}
use Rattle.vt_overlay.specs.MergedTree.{OverlayValue}
use Rattle.vt_upper_overlay.specs.Standing.{IsKeptWell}
use Rattle.vt_layered.specs.LayeredTree.{KeepsRight}
use Rattle.vt_layered.specs.LayeredValue.{Above, KeepsItsOwn, LayeredValue, upper_of}
use Rattle.vt_store.specs.Locks.{keeps_in}
use Rattle.vt_store.specs.OverlaysValue.{OverlayEntry, entry_kept}
use Rattle.vt_store.specs.StoreValue.{StandOnLayers, StoreValue, layered_in}
use Rattle.vt_store.proofs.KeptObjects.{layered_entry}
use Rattle.vt_store.proofs.Looked.{over_stands}
use Rattle.vt_overlaps.specs.Overlaps.{has_upper_under, keeps_under, written_by}

-- what an overlay keeps is its own, if it stands
keeps_its_own : (trees : Filesystems) (overlay : OverlayValue) (above : Option Above) → KeepsRight trees overlay above
    → KeepsItsOwn overlay above
keeps_its_own trees overlay None right = tt
keeps_its_own trees overlay (Some above) right =
    All-weaker (IsKeptWell trees (upper_of overlay above)) (IsOf overlay.number above.nodes.births)
    (λ node well. well.own) (keys_of above.nodes.kept.by_node) right.kept

pub own_in_store : (store : StoreValue) → StandOnLayers store → (count : ℕ) (layered : LayeredValue)
    → layered_in store count ≡ Some layered → KeepsItsOwn layered.overlay layered.above
own_in_store store standing count layered found = keeps_its_own store.plain layered.overlay layered.above
    (over_stands store store.plain refl count layered found standing).right

-- an overlay whose upper directory lies there keeps what it keeps
pub kept_under_found : (store : StoreValue) (count : ℕ) (inode top : InodeRef) (layered : LayeredValue)
    → layered_in store count ≡ Some layered
    → has_upper_under store.plain top layered.overlay layered.above ≡ true
    → holds_of (keeps_in inode.filesystem.count (inode_of inode)) (entry_kept store.overlays count)
    ≡ holds_of (keeps_under store.plain inode.filesystem.count (inode_of inode) top) (entry_kept store.overlays count)
kept_under_found store count inode top layered found upper = by (entry_kept store.overlays count) found
  where
    by : (o : Option OverlayEntry) → option_map layered_entry o ≡ Some layered
        → holds_of (keeps_in inode.filesystem.count (inode_of inode)) o
        ≡ holds_of (keeps_under store.plain inode.filesystem.count (inode_of inode) top) o
    by None e = none_is_some layered e
    by (Some entry) e =
        ap (λ b. b && keeps_in inode.filesystem.count (inode_of inode) entry)
        (sym (ap (λ (one : LayeredValue). has_upper_under store.plain top one.overlay one.above)
        (same_Some (layered_entry entry) layered e) ∙ upper))

-- the directories to which an overlay writes are its first layer's and the work directory
pub any_written : (test : InodeRef → Bool) (overlay : OverlayValue) (above : Option Above) (work : LayerRef)
    → option_map (λ (one : Above). one.work) above ≡ Some work
    → list_any test (written_by overlay above)
    ≡ (holds_of (λ (layer : LayerRef). test layer.directory) (slice_get overlay.lowers 0) || test work.directory)
any_written test overlay None work e = none_is_some work e
any_written test overlay (Some above) work e = first (slice_get overlay.lowers 0)
  where
    behind : (test above.work.directory || list_any test []) ≡ test work.directory
    behind = or-false (test above.work.directory)
        ∙ ap (λ (layer : LayerRef). test layer.directory) (same_Some above.work work e)

    first : (o : Option LayerRef)
        → list_any test (map (λ (layer : LayerRef). layer.directory) (option_to_list o ++ (above.work ∷ [])))
        ≡ (holds_of (λ (layer : LayerRef). test layer.directory) o || test work.directory)
    first None = behind
    first (Some upper) = ap (λ b. test upper.directory || b) behind
