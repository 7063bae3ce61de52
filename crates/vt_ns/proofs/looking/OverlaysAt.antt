-- The overlays of a store, as the world that holds it shows them.
use Rattle.std.proofs.Common.{◌≡◌, sym, ap, ◌∙◌, ℕ, nat_eq, Some, None}
use Rattle.vt_spec.proofs.Common.{Filesystem, Overlay, filesystem_numbered, real_of}
use Rattle.vt_world.specs.OverlaysKept.Layered.{inodes_layered}
use Rattle.vt_laws_trees.proofs.trees.TreesOfWorlds.{number_numbered}
use Rattle.vt_ns.proofs.Common.{IsHeld, OverlayValue, StoreValue, WorldValue, counted, layered_in, overlay_of_store, with_store, world_of}
use Rattle.vt_layered.specs.LayeredTree.{layered_seen}
use Rattle.vt_layered.specs.LayeredValue.{LayeredValue}
use Rattle.vt_store.proofs.Woven.{is_over}
use Rattle.vt_store.specs.StoreValue.{filesystems_of}
use Rattle.vt_world.specs.WorldValue as worlds
use Rattle.vt_mounting.proofs.detach.StoreShown.{overlay_found, plain_found}

-- an overlay of the world is one of the store
pub record IsOverlayOf (kept : OverlayValue) (filesystem : Filesystem ℕ) : Type 0 where
  pub overlay : Overlay ℕ
  pub is : filesystem.overlay ≡ Some overlay
  pub mounter : overlay.mounter ≡ kept.mounter

module _ (base : WorldValue) (store : StoreValue) (held : IsHeld (with_store store base)) (count : ℕ) where
  pub no_overlay_there : layered_in store count ≡ None
      → (filesystem_numbered nat_eq (world_of (with_store store base)) (counted count)).overlay ≡ None
  no_overlay_there none = ap (λ (f : Filesystem ℕ). f.overlay) (plain_found base store held count none)

  pub overlay_there : (layered : LayeredValue) → layered_in store count ≡ Some layered
      → IsOverlayOf layered.overlay (filesystem_numbered nat_eq (world_of (with_store store base)) (counted count))
  overlay_there layered some =
      let over = is_over store count layered some in
      let number : counted count ≡ counted over.entry.count =
      sym (number_numbered (counted count) (filesystems_of store)) ∙ ap (λ (f : Filesystem ℕ). f.number) over.is in
      let is : filesystem_numbered nat_eq (world_of (with_store store base)) (counted count)
      ≡ worlds.overlay_seen (overlay_of_store store.plain over.entry) =
      ap (filesystem_numbered nat_eq (world_of (with_store store base))) number
      ∙ overlay_found base store held over.entry over.among in
      record {
        overlay = record (layered_seen over.entry.overlay over.entry.above) {
          mounter = over.entry.overlay.mounter;
          real = real_of nat_eq (inodes_layered store.plain over.entry.overlay over.entry.above);
        };
        is = ap (λ (f : Filesystem ℕ). f.overlay) is;
        mounter = ap (λ (one : LayeredValue). one.overlay.mounter) over.holds;
      }
