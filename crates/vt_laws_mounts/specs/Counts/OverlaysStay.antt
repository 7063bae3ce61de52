-- Which filesystems live in a world with overlays, and that the sweep leaves overlays whose inodes all have names: the
-- kernel's overlayfs document, "multiple lower layers"; umount(2).
use Rattle.std.specs.Prelude.{All, List, [], false, filter, flat_map, if◌then◌else◌, nat_eq, nat_lt, true, ℕ, ◌+◌, ◌++◌, ◌||◌, ◌≡◌}
use Rattle.vt_spec.specs.Machine.Invariants.{IsWorld}
use Rattle.vt_spec.specs.Machine.Locked.{of_overlay}
use Rattle.vt_spec.specs.Machine.Settled.{filesystem_lives, has_layer_on, is_mounted, settled}
use Rattle.vt_spec.specs.Machine.World.{Filesystem, World, filesystem_numbered, is_overlay, layers_of}
use Rattle.vt_laws_mounts.specs.LettingGo.Counts.{mounts_showing, times}
use Rattle.vt_laws_mounts.specs.LettingGo.Keeping.{has_only_named}
use Rattle.vt_laws_mounts.specs.LettingGo.OneByOne.{let_go_filesystem, without_filesystem}
use Rattle.vt_laws_mounts.specs.LettingGo.TreesOverlays.{in_use_of}

-- how many layers some overlays have in a filesystem,
abbrev pub layers_among : ℕ → List (Filesystem ℕ) → ℕ
layers_among number overlays =
    times (λ layer. nat_eq number layer.filesystem) (flat_map (of_overlay [] layers_of) overlays)

-- how many all have there,
abbrev pub layer_count : World ℕ → ℕ → ℕ
layer_count world number = layers_among number world.filesystems

-- and how many those have that are mounted
abbrev pub mounted_layer_count : World ℕ → ℕ → ℕ
mounted_layer_count world number =
    layers_among number (filter (λ merged. is_mounted nat_eq world merged.number) world.filesystems)

-- A filesystem lives while mounts show it, or mounted overlays have layers in it.
abbrev pub LivesWhileCounted : Type 0
LivesWhileCounted =
    (world : World ℕ) (filesystem : Filesystem ℕ)
    → filesystem_lives nat_eq world filesystem
    ≡ (nat_lt 0 (mounts_showing world filesystem.number) || nat_lt 0 (mounted_layer_count world filesystem.number))

-- So one is let go unless one of both counts is not zero.
abbrev pub FilesystemGoesAtZeroBesideOverlays : Type 0
FilesystemGoesAtZeroBesideOverlays =
    (world : World ℕ) (number : ℕ)
    → let_go_filesystem world number
    ≡ (if nat_lt 0 (mounts_showing world number) || nat_lt 0 (mounted_layer_count world number) then world
    else without_filesystem world number)

-- no overlay has a layer in the filesystem of this number
abbrev pub HasNoLayerIn : ℕ → World ℕ → Type 0
HasNoLayerIn number world = All (λ merged. has_layer_on nat_eq number merged ≡ false) world.filesystems

-- One in which no overlay has a layer lives just while mounts show it.
abbrev pub LivesWhileMounted : Type 0
LivesWhileMounted =
    (world : World ℕ) (filesystem : Filesystem ℕ) → HasNoLayerIn filesystem.number world
    → filesystem_lives nat_eq world filesystem ≡ nat_lt 0 (mounts_showing world filesystem.number)

-- In a world with all invariants no overlay has a layer in another, so each is mounted,
abbrev pub OverlaysAreNoLayers : Type 0
OverlaysAreNoLayers =
    (world : World ℕ) → IsWorld nat_eq world
    → All (λ filesystem. is_overlay filesystem ≡ true → HasNoLayerIn filesystem.number world) world.filesystems

abbrev pub OverlaysAreMounted : Type 0
OverlaysAreMounted =
    (world : World ℕ) → IsWorld nat_eq world
    → All (λ filesystem. is_overlay filesystem ≡ true → is_mounted nat_eq world filesystem.number ≡ true)
    world.filesystems

-- and all layers are of mounted overlays.
abbrev pub AllLayersAreMounted : Type 0
AllLayersAreMounted =
    (world : World ℕ) (number : ℕ) → IsWorld nat_eq world
    → mounted_layer_count world number ≡ layer_count world number

-- Overlays that come and go are as many layers more and less,
abbrev pub OverlaysUseFilesystems : Type 0
OverlaysUseFilesystems =
    (world after : World ℕ) (gained lost front back : List (Filesystem ℕ)) (number : ℕ)
    → filter is_overlay world.filesystems ≡ front ++ (lost ++ back)
    → filter is_overlay after.filesystems ≡ front ++ (gained ++ back)
    → layer_count world number + layers_among number gained ≡ layer_count after number + layers_among number lost

-- and where those are left that are mounted, their layers are the layers of mounted overlays.
abbrev pub LayersLeftAreMounted : Type 0
LayersLeftAreMounted =
    (world after : World ℕ) (number : ℕ)
    → filter is_overlay after.filesystems
    ≡ filter (λ merged. is_mounted nat_eq world merged.number) (filter is_overlay world.filesystems)
    → layer_count after number ≡ mounted_layer_count world number

-- each inode of each overlay is the root, or has a name: without an upper layer none loses its name
abbrev pub OverlaysAreNamed : World ℕ → Type 0
OverlaysAreNamed world =
    All (λ filesystem. is_overlay filesystem ≡ true → has_only_named filesystem ≡ true) world.filesystems

-- The sweep leaves such overlays as they are, in their order, but for those that nothing uses,
abbrev pub NamedOverlaysStay : Type 0
NamedOverlaysStay =
    (world : World ℕ) → OverlaysAreNamed world
    → filter is_overlay (settled nat_eq world).filesystems ≡ filter is_overlay (in_use_of world).filesystems

-- and so each by its number.
abbrev pub NamedOverlayStays : Type 0
NamedOverlayStays =
    (world : World ℕ) (number : ℕ) → OverlaysAreNamed world
    → is_overlay (filesystem_numbered nat_eq (in_use_of world) number) ≡ true
    → filesystem_numbered nat_eq (settled nat_eq world) number ≡ filesystem_numbered nat_eq (in_use_of world) number
