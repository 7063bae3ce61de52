-- A node of a store that is used once more or less: of a plain filesystem, or of an overlay.
use Rattle.std.proofs.Common.{◌≡◌, refl, sym, subst, true≢false, ℕ, nat_eq, true, Option, Some, None, is_some}
use Rattle.vt_spec.proofs.Common.{then_some, unpinned}
use Rattle.vt_spec.specs.Inodes.{pinned}
use Rattle.vt_fs.specs.FilesystemsValue.{ChangesInodes, Filesystems}
use Rattle.vt_location.specs.declared.locations.InodeRef.{InodeRef}
use Rattle.vt_location.specs.declared.locations.NodeRef.{NodeRef}
use Rattle.vt_location.specs.declared.numbers.FilesystemId.{FilesystemId}
use Rattle.vt_location.specs.Locations.{inode_of, number_of}
use Rattle.vt_layered.specs.LayeredValue.{LayeredValue}
use Rattle.vt_layered.specs.Pins.{IsPinned, IsUnpinned}
use Rattle.vt_store.specs.OverlaysValue.{Overlays}
use Rattle.vt_store.specs.Pins.{ChangesAbove, ChangesOverlay, LetsGo, Pins, PinsBy, Unpins, UnpinsBy, kept_let_go}
use Rattle.vt_store.specs.StoreValue.{StoreValue, layered_in}

module _ (node : NodeRef) (old : StoreValue) where
  abbrev count : ℕ
  count = node.filesystem.count

  -- of a plain filesystem,
  pub pinned_plain : (plain : Filesystems) → layered_in old count ≡ None
      → ChangesInodes count (λ inodes. pinned nat_eq inodes (number_of node)) old.plain plain
      → Pins node old (record { plain = plain; overlays = old.overlays })
  pinned_plain plain none changes =
      subst (PinsBy node old (record { plain = plain; overlays = old.overlays })) (sym none) (refl, changes)

  pub unpinned_plain : (plain : Filesystems) → layered_in old count ≡ None
      → ChangesInodes count (λ inodes. unpinned nat_eq inodes (number_of node)) old.plain plain
      → Unpins node old (record { plain = plain; overlays = old.overlays })
  unpinned_plain plain none changes =
      subst (UnpinsBy node old (record { plain = plain; overlays = old.overlays })) (sym none) (refl, changes)

  -- and of an overlay
  pub pinned_over : (overlays : Overlays) → is_some (layered_in old count) ≡ true
      → ChangesOverlay (IsPinned node) count old.overlays overlays
      → Pins node old (record { plain = old.plain; overlays = overlays })
  pinned_over overlays = by (layered_in old count)
    where
      by : (o : Option LayeredValue) → is_some o ≡ true
          → ChangesAbove (IsPinned node) count old.overlays overlays (then_some o (λ layered. layered.above))
          → PinsBy node old (record { plain = old.plain; overlays = overlays }) o
      by None e changes = absurd (true≢false (sym e))
      by (Some layered) e changes = (refl, changes)

  pub unpinned_over : (overlays : Overlays) (plain : Filesystems) (object : Option InodeRef)
      → is_some (layered_in old count) ≡ true → object ≡ kept_let_go node (layered_in old count)
      → LetsGo object old.plain plain → ChangesOverlay (IsUnpinned node) count old.overlays overlays
      → Unpins node old (record { plain = plain; overlays = overlays })
  unpinned_over overlays plain object = by (layered_in old count)
    where
      by : (o : Option LayeredValue) → is_some o ≡ true → object ≡ kept_let_go node o
          → LetsGo object old.plain plain
          → ChangesAbove (IsUnpinned node) count old.overlays overlays (then_some o (λ layered. layered.above))
          → UnpinsBy node old (record { plain = plain; overlays = overlays }) o
      by None e is goes changes = absurd (true≢false (sym e))
      by (Some layered) e is goes changes = (subst (λ one. LetsGo one old.plain plain) is goes, changes)

-- An inode by the node that it is of a plain filesystem
pub lets_go_node : (object : InodeRef) (node : NodeRef) (old new : Filesystems) → node.filesystem ≡ object.filesystem
    → number_of node ≡ inode_of object
    → ChangesInodes node.filesystem.count (λ inodes. unpinned nat_eq inodes (number_of node)) old new
    → LetsGo (Some object) old new
lets_go_node object node old new filesystem number changes =
    subst (λ n. ChangesInodes object.filesystem.count (λ inodes. unpinned nat_eq inodes n) old new) number
    (subst (λ (id : FilesystemId).
    ChangesInodes id.count (λ inodes. unpinned nat_eq inodes (number_of node)) old new) filesystem changes)
