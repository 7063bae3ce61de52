-- Laws of stores.
use Rattle.std.specs.Prelude.{All, None, Option, Some, false, nat_eq, nat_lt, true, ℕ, [], ◌++◌, ◌∷◌, ◌≡◌}
use Rattle.std.specs.List.{list_all}
use Rattle.vt_spec.specs.Machine.Invariants.{IsWorld}
use Rattle.vt_spec.specs.Machine.World.{World}
use Rattle.vt_location.specs.Fronts.{front}
use Rattle.vt_location.specs.Numbers.{is_inode_of}
use Rattle.vt_fs.specs.FilesystemsValue.{FilesystemEntry, Filesystems, files_at, inodes_seen}
use Rattle.vt_overlay.specs.declared.merge.layers.LayerRef.{LayerRef}
use Rattle.vt_overlay.specs.MergedTree.{AreLayers}
use Rattle.vt_layered.specs.LayeredTree.{KeepsRight}
use Rattle.vt_layered.specs.LayeredValue.{Above}
use Rattle.vt_layered.specs.Staying.{StaysAsLayer}
use Rattle.vt_store.specs.Counts.{with_mounts}
use Rattle.vt_store.specs.OverlaysValue.{OverlayEntry, Overlays}
use Rattle.vt_store.specs.StoreValue.{StandOnLayers, StandsOnLayers, StoreValue, files_in, filesystems_of, lent_in, overlay_filesystem, woven}

-- Each inode has a number of its own filesystem, as in all that code keeps.
abbrev pub HasOwnNumbers : FilesystemEntry → Type 0
HasOwnNumbers entry =
    (number : ℕ) → is_inode_of entry.count number ≡ false → (inodes_seen entry).inode number ≡ None

-- what each overlay keeps beside its layers is right, as it is of one without an upper layer
abbrev pub KeepRight : StoreValue → Type 0
KeepRight store = All (λ (entry : OverlayEntry). KeepsRight store.plain entry.overlay entry.above) store.overlays

-- The overlays of a world with all invariants stand on layers.
abbrev pub WorldsStandOnLayers : Type 0
WorldsStandOnLayers =
    (store : StoreValue) (world : World ℕ) → IsWorld nat_eq world → world.filesystems ≡ filesystems_of store
    → All HasOwnNumbers store.plain → KeepRight store → StandOnLayers store

-- A node has the owner, group, mode, kind and content of what is lent for it.
abbrev pub NodesAreLikeObjects : Type 0
NodesAreLikeObjects =
    (store : StoreValue) (count number : ℕ) → StandOnLayers store
    → front (lent_in store count number) ≡ front ((files_in store count).tree.node number)

-- the tree of a layer is as it was
abbrev pub IsSameTree : Filesystems → Filesystems → LayerRef → Type 0
IsSameTree old new layer =
    (files_at new layer.directory.filesystem.count).tree ≡ (files_at old layer.directory.filesystem.count).tree

-- the tree of a layer is as it was, and beside it are as many numbers
abbrev pub IsSameLayer : Filesystems → Filesystems → LayerRef → Type 0
IsSameLayer old new layer = StaysAsLayer old new layer

-- what has to stay of a layer, so that an overlay stands still: of one with an upper layer the numbers too
abbrev pub StaysBy : Filesystems → Filesystems → Option Above → LayerRef → Type 0
StaysBy old new None layer = IsSameTree old new layer
StaysBy old new (Some above) layer = IsSameLayer old new layer

abbrev pub StaysUnder : Filesystems → Filesystems → OverlayEntry → LayerRef → Type 0
StaysUnder old new entry layer = StaysBy old new entry.above layer

-- An overlay in whose layers no tree has changed stands on layers still.
abbrev pub OverlaysStandStill : Type 0
OverlaysStandStill =
    (old new : Filesystems) (entry : OverlayEntry) → StandsOnLayers old entry
    → All (StaysUnder old new entry) entry.overlay.lowers → StandsOnLayers new entry

-- What an overlay shows depends on its layers alone, beside its births and what it keeps without a name.
abbrev pub OverlaysStayWithLayers : Type 0
OverlaysStayWithLayers =
    (old new : Filesystems) (entry : OverlayEntry) → AreLayers old entry.overlay.lowers
    → All (IsSameLayer old new) entry.overlay.lowers
    → overlay_filesystem new entry ≡ overlay_filesystem old entry

-- Filesystems are seen as they were, however many mounts show one of them,
abbrev pub MountsAreNotSeen : Type 0
MountsAreNotSeen =
    (store : StoreValue) (count : ℕ) (change : ℕ → ℕ) → StandOnLayers store
    → filesystems_of (with_mounts count change store) ≡ filesystems_of store

-- and overlays stand on their layers.
abbrev pub MountsLeaveLayers : Type 0
MountsLeaveLayers =
    (store : StoreValue) (count : ℕ) (change : ℕ → ℕ) → StandOnLayers store
    → StandOnLayers (with_mounts count change store)

-- An overlay whose number is above all others comes after them.
abbrev pub NewOverlaysAreLast : Type 0
NewOverlaysAreLast =
    (plain : Filesystems) (overlays : Overlays) (entry : OverlayEntry)
    → list_all (λ (other : FilesystemEntry). nat_lt other.count entry.count) plain ≡ true
    → list_all (λ (other : OverlayEntry). nat_lt other.count entry.count) overlays ≡ true
    → woven plain (overlays ++ entry ∷ []) ≡ woven plain overlays ++ overlay_filesystem plain entry ∷ []
