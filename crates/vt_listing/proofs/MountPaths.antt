-- Where mounts stand, and where the trees begin that they show.
use Rattle.std.proofs.Common.{◌≡◌, sym, ap, ◌∙◌, ℕ, nat_eq, List, Option, Some, None, option_and_then, option_map, find}
use Rattle.vt_spec.proofs.Common.{Spot, Tree, World, filesystem_numbered, mount_point_spot, path_down, spot_of}
use Rattle.vt_spec.specs.Language.Answers.Spot.{Gone}
use Rattle.vt_spec.specs.Machine.Listing.{root_spot}
use Rattle.vt_spec.specs.Machine.Mounts as meant
use Rattle.vt_location.specs.declared.locations.Location.{Location}
use Rattle.vt_location.specs.declared.mounts.Mount.{Mount}
use Rattle.vt_location.specs.Locations.{location_of, number_of}
use Rattle.vt_location.specs.MountValue.{mount_of}
use Rattle.vt_location.specs.Numbers.{counted}
use Rattle.vt_mount.specs.MountsValue.{mounts_in}
use Rattle.vt_store.specs.StoreValue.{files_in}
use Rattle.vt_listing.specs.Shown.{IsShown}
use Rattle.vt_listing.specs.declared.table.MountTable.{MountTable}
use Rattle.vt_listing.proofs.ShownWorlds.{path_shown}

module _ (table : MountTable) (world : World ℕ) (shows : IsShown world table) where
  module _ (at : Location) (got : Option Mount) (is_found : option_map mount_of got
      ≡ find (λ (mount : meant.Mount ℕ). nat_eq (counted at.mount.count) mount.number) (mounts_in table.mounts.now)) where
    -- where a mount point is, by the mount that is there
    abbrev spot_by : Option (meant.Mount ℕ) → Spot
    spot_by found = spot_of (option_and_then (λ (mount : meant.Mount ℕ). path_down nat_eq
        (filesystem_numbered nat_eq world mount.filesystem).files mount.root (number_of at.node)) found)

    found_spot : spot_by (option_map mount_of got) ≡ mount_point_spot nat_eq world (location_of at)
    found_spot = ap spot_by (is_found ∙ ap (λ (mounts : List (meant.Mount ℕ)).
        find (λ (mount : meant.Mount ℕ). nat_eq (counted at.mount.count) mount.number) mounts) shows.mounts)

    pub place_there : (mount : Mount) → got ≡ Some mount
        → spot_of (path_down nat_eq (files_in table.store.now mount.root.filesystem.count) (number_of mount.root)
        (number_of at.node)) ≡ mount_point_spot nat_eq world (location_of at)
    place_there mount some =
        ap spot_of (path_shown table world shows mount.root.filesystem.count (number_of mount.root) (number_of at.node))
        ∙ ap (λ o. spot_by (option_map mount_of o)) (sym some) ∙ found_spot

    pub place_missing : got ≡ None → Gone ≡ mount_point_spot nat_eq world (location_of at)
    place_missing none = ap (λ o. spot_by (option_map mount_of o)) (sym none) ∙ found_spot

  -- the root of a mount, from the root of its filesystem
  pub root_there : (mount : Mount) → spot_of (path_down nat_eq (files_in table.store.now mount.root.filesystem.count)
      (files_in table.store.now mount.root.filesystem.count).tree.root (number_of mount.root))
      ≡ root_spot nat_eq world (mount_of mount)
  root_there mount =
      let files = files_in table.store.now mount.root.filesystem.count in
      ap spot_of (path_shown table world shows mount.root.filesystem.count files.tree.root (number_of mount.root))
      ∙ ap (λ (tree : Tree ℕ). spot_of (path_down nat_eq
      (filesystem_numbered nat_eq world (counted mount.root.filesystem.count)).files tree.root (number_of mount.root)))
      (shows.trees mount.root.filesystem.count)
