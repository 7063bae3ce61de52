-- A directory lies in a layer where it is the layer's directory, or one above it is.
use Rattle.std.proofs.Common.{Bool, List, None, Some, [], ap, eqb-true, false, nat_eq, option_map, refl, sym, true, ℕ, ◌&&◌, ◌<◌, ◌^◌, ◌||◌, ◌∙◌, ◌∷◌, ◌≡◌, All, arith}
use Rattle.vt_spec.proofs.Common.{All-head, All-tail, is_among, is_directory_under, list_any, nat_eq_turned, common_steps}
use Rattle.vt_fs.proofs.Numbers.{numbers_counted}
use Rattle.vt_fs.proofs.Parents.{under_by_names}
use Rattle.vt_fs.proofs.Standing.{under_there}
use Rattle.vt_fs.specs.FilesystemsValue.{FilesystemEntry, Filesystems, entry_at, entry_of, files_at, inodes_at, numbers_seen}
use Rattle.vt_fs.specs.Laws.{ParentsAreNamed}
use Rattle.vt_location.proofs.NumberLemmas.{exchanged_slot}
use Rattle.vt_location.specs.Locations.{inode_of}
use Rattle.vt_location.specs.Numbers.{inode_number}
use Rattle.vt_location.specs.declared.locations.InodeRef.{InodeRef}
use Rattle.vt_location.specs.declared.numbers.FilesystemId.{FilesystemId}
use Rattle.vt_overlay.specs.declared.merge.layers.LayerRef.{LayerRef}
use Rattle.vt_spec.specs.Inodes.{ancestors}
use Rattle.vt_store.proofs.AnyNamed.{any-and, any-swapped}
use Rattle.vt_store.proofs.LayersKept.{any_layers}
use Rattle.vt_store.proofs.LayersTallied.{any_counted}
use Rattle.vt_store.specs.LayerTests.{stands_at}
use Rattle.vt_store.specs.LayersAt.{AreCounted, has_layer_at, has_layer_in}
use Rattle.vt_store.specs.Locks.{directory_lies_in, directory_lies_in_overlay, overlay_stands_in}
use Rattle.vt_store.specs.OverlaysValue.{Overlays, all_layers}
use Rattle.vt_store.specs.declared.layer_counts.LayerCounts.{LayerCounts}
use Rattle.vt_fs.specs.Trees.TreeValue.{TreeValue, inodes_of}

-- two tests that agree on all elements
any_alike : {X : Type 0} (P : X → Type 0) (p q : X → Bool) → ((x : X) → P x → p x ≡ q x) → (xs : List X) → All P xs
    → list_any p xs ≡ list_any q xs
any_alike P p q alike [] all = refl
any_alike P p q alike (x ∷ xs) all =
    λ i. alike x (All-head P x xs all) i || any_alike P p q alike xs (All-tail P x xs all) i

among : (slot : ℕ) (slots : List ℕ) → list_any (λ other. nat_eq other slot) slots ≡ is_among nat_eq slot slots
among slot [] = refl
among slot (other ∷ slots) = λ i. nat_eq_turned other slot i || among slot slots i

module _ (overlays : Overlays) (counts : LayerCounts) (counted : AreCounted (all_layers overlays) counts) where
  -- layers in a filesystem
  pub layers_in : (filesystem : FilesystemId)
      → has_layer_in counts filesystem ≡ list_any (overlay_stands_in filesystem.count) overlays
  layers_in filesystem = grind (arith, common_steps, any_counted, any_layers)

  -- and at a directory
  layers_at : (directory : InodeRef)
      → has_layer_at counts directory ≡ list_any (stands_at directory) (all_layers overlays)
  layers_at directory = cc (counted.directories directory, any_counted (stands_at directory) (all_layers overlays))

  module _ (plain : Filesystems) (directory : InodeRef) (small : directory.slot < 18446744073709551616) where
    abbrev IsSmall : LayerRef → Type 0
    IsSmall layer = layer.directory.slot < 2 ^ 64

    abbrev filesystem : FilesystemId
    filesystem = directory.filesystem

    abbrev place : ℕ → InodeRef
    place slot = record { filesystem = filesystem; slot = slot }

    abbrev lies : LayerRef → Bool
    lies layer = directory_lies_in plain filesystem.count (inode_of directory) layer

    -- going up in its tree meets the directories of the layers in which it lies
    module _ (tree : TreeValue)
        (found : Some tree ≡ option_map (λ (entry : FilesystemEntry). entry.tree) (entry_of plain filesystem.count))
        (named : ParentsAreNamed (files_at plain filesystem.count).tree) where
      abbrev above : List ℕ
      above = ancestors nat_eq (inodes_of tree) directory.slot

      under : (slot top : ℕ) → slot < 2 ^ 64 → inode_number filesystem.count slot ≡ top → is_among nat_eq slot above
          ≡ is_directory_under nat_eq (files_at plain filesystem.count) top (inode_of directory)
      under slot top fits is =
          cc (
            under_there plain filesystem.count tree (sym found) slot top directory.slot (inode_of directory)
                (exchanged_slot filesystem.count slot fits ∙ is) (exchanged_slot filesystem.count directory.slot small),
            under_by_names (inodes_at plain filesystem.count) named (numbers_seen (entry_at plain filesystem.count))
                (numbers_counted (entry_at plain filesystem.count)) top (inode_of directory),
          )

      met : (layer : LayerRef) → IsSmall layer → list_any (λ slot. stands_at (place slot) layer) above ≡ lies layer
      met layer fits = sym (any-and (λ slot. true) (nat_eq filesystem.count layer.directory.filesystem.count)
          (λ slot. nat_eq slot layer.directory.slot) above)
          ∙ by (nat_eq filesystem.count layer.directory.filesystem.count)
          (eqb-true filesystem.count layer.directory.filesystem.count)
        where
          by : (b : Bool) → (b ≡ true → filesystem.count ≡ layer.directory.filesystem.count)
              → (b && list_any (λ slot. nat_eq slot layer.directory.slot) above)
              ≡ (b && is_directory_under nat_eq (files_at plain filesystem.count) (inode_of layer.directory)
              (inode_of directory))
          by true same = among layer.directory.slot above ∙ under layer.directory.slot (inode_of layer.directory) fits
              (ap (λ count. inode_number count layer.directory.slot) (same refl))
          by false same = refl

      pub layers_above : list_any (λ slot. has_layer_at counts (place slot)) above
          ≡ list_any (directory_lies_in_overlay plain filesystem.count (inode_of directory)) overlays
      layers_above = (λ i. list_any (λ slot. layers_at (place slot) i) above)
          ∙ any-swapped (λ layer. true) (λ slot layer. stands_at (place slot) layer) above (all_layers overlays)
          ∙ any_alike IsSmall (λ layer. list_any (λ slot. stands_at (place slot) layer) above) lies met
          (all_layers overlays) counted.small ∙ any_layers lies overlays

    -- where there is no tree, there is nothing above it
    module _ (none : entry_of plain filesystem.count ≡ None) where
      alone : (layer : LayerRef) → IsSmall layer → stands_at directory layer ≡ lies layer
      alone layer fits = grind (arith, common_steps)

      pub layers_alone : has_layer_at counts directory
          ≡ list_any (directory_lies_in_overlay plain filesystem.count (inode_of directory)) overlays
      layers_alone = layers_at directory
          ∙ any_alike IsSmall (stands_at directory) lies alone (all_layers overlays) counted.small
          ∙ any_layers lies overlays
