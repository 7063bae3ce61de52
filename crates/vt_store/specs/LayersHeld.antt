-- What the layers of an overlay are counted as. Each is a use of its directory, and a mount of its filesystem.
use Rattle.std.specs.Prelude.{All, List, None, [], filter, find, if◌then◌else◌, map, nat_eq, not, option_map, unwrap_or, ℕ, ◌+◌, ◌-◌, ◌≤◌}
use Rattle.vt_spec.specs.Inodes.{pinned, unpinned, uses_in}
use Rattle.vt_spec.specs.Lists.{folded}
use Rattle.vt_spec.specs.Rights.{Credentials}
use Rattle.vt_location.specs.Numbers.{most_counted}
use Rattle.vt_location.specs.declared.numbers.FilesystemId.{FilesystemId}
use Rattle.vt_location.specs.Locations.{inode_of}
use Rattle.vt_fs.specs.FilesystemsValue.{Shown, shown_with}
use Rattle.vt_overlay.specs.declared.merge.layers.LayerRef.{LayerRef}
use Rattle.vt_layered.specs.LayeredValue.{held_layers}
use Rattle.vt_store.specs.OverlaysValue.{OverlayEntry}
use Rattle.vt_store.specs.StoreValue.{StoreValue, layered_in}

-- another number of mounts of a filesystem
abbrev pub mounts_changed_if : ℕ → (ℕ → ℕ) → Shown → Shown
mounts_changed_if count change one =
    if nat_eq count one.count then record one { mounts = change one.mounts } else one

abbrev pub mounts_changed : ℕ → (ℕ → ℕ) → List Shown → List Shown
mounts_changed count change all = map (mounts_changed_if count change) all

-- how many uses an inode has
abbrev pub uses_shown : ℕ → ℕ → List Shown → ℕ
uses_shown count number all =
    unwrap_or (option_map (λ one. uses_in (one.inodes.inode number)) (find (λ one. nat_eq count one.count) all)) 0

-- and how many mounts a filesystem
abbrev pub mounts_shown : ℕ → List Shown → ℕ
mounts_shown count all = unwrap_or (option_map (λ one. one.mounts) (find (λ one. nat_eq count one.count) all)) 0

-- a filesystem goes if no mount shows it
abbrev pub without_unmounted : ℕ → List Shown → List Shown
without_unmounted count all =
    if nat_eq (mounts_shown count all) 0 then filter (λ one. not (nat_eq count one.count)) all else all

-- a layer more: a use of its directory, and a mount of its filesystem
abbrev pub with_layer : List Shown → LayerRef → List Shown
with_layer all layer =
    mounts_changed layer.directory.filesystem.count (λ mounts. mounts + 1)
    (shown_with layer.directory.filesystem.count (λ inodes. pinned nat_eq inodes (inode_of layer.directory)) all)

-- a layer less: what is in use no more goes
abbrev pub without_layer : List Shown → LayerRef → List Shown
without_layer all layer =
    without_unmounted layer.directory.filesystem.count
    (mounts_changed layer.directory.filesystem.count (λ mounts. mounts - 1)
    (shown_with layer.directory.filesystem.count (λ inodes. unpinned nat_eq inodes (inode_of layer.directory)) all))

abbrev pub with_layers : List LayerRef → List Shown → List Shown
with_layers layers all = folded with_layer all layers

abbrev pub without_layers : List LayerRef → List Shown → List Shown
without_layers layers all = folded without_layer all layers

-- so many uses more of a layer's directory, and mounts of its filesystem, can be counted
pub record HasRoomFor (more : ℕ) (all : List Shown) (layer : LayerRef) : Type 0 where
  pub uses : uses_shown layer.directory.filesystem.count (inode_of layer.directory) all + more ≤ most_counted
  pub mounts : mounts_shown layer.directory.filesystem.count all + more ≤ most_counted

abbrev pub HaveRoomFor : ℕ → List Shown → List LayerRef → Type 0
HaveRoomFor more all layers = All (HasRoomFor more all) layers

-- a new overlay, which no mount shows yet
abbrev pub new_overlay : FilesystemId → List LayerRef → Credentials → OverlayEntry
new_overlay filesystem lowers mounter = record {
  count = filesystem.count;
  overlay = record { number = filesystem; lowers = lowers; mounter = mounter };
  above = None;
  mounts = 0;
}

-- the directories that an overlay holds; of any other filesystem none
abbrev pub held_in : StoreValue → ℕ → List LayerRef
held_in store count =
    unwrap_or (option_map (λ layered. held_layers layered.overlay layered.above) (layered_in store count)) []
