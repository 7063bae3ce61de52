-- What the event that moves mounts finds: its place, and the tree that moves.
use Rattle.std.proofs.Common.{◌≡◌, refl, sym, ap, subst, ◌∙◌, ℕ, nat_eq, eqb-true, Bool, true, false, cond, List, find, Option, Some, is_some, option_map, unwrap_or}
use Rattle.vt_spec.proofs.Common.{Mount, TaskName, ToMove, is_located_well, is_shared, mount_at, mount_numbered, mount_tree, no_mount}
use Rattle.vt_ns.proofs.Common.{Among, AreOf, IsDone, IsHeld, MountEntry, Permits, StoreValue, WorldValue, are_ascending, changed, counted, found_is_there, inode_of, is_small_node, location_of, mount_of, mounts_in, number_of, permit_fits, pinned_in, remade, shown, with_store, world_of}
use Rattle.vt_laws_mounts.proofs.letting_go.mounting.AttachedSwept.{of_tree}
use Rattle.vt_laws_mounts.proofs.letting_go.Lists.{map_same}
use Rattle.vt_location.specs.declared.locations.Location.{Location}
use Rattle.vt_location.specs.declared.mounts.Mount.{Mount as Code}
use Rattle.vt_location.specs.declared.numbers.MountId.{MountId}
use Rattle.vt_mounting.specs.Attach.BoundMounts.{bound_mounts, rooted_at}
use Rattle.vt_mount.proofs.AttachedLemmas.{ascending_found, picked}
use Rattle.vt_mounting.proofs.attach.MovesAscend.{ascending_once}
use Rattle.vt_mounting.proofs.attach.TypedMounts.{same_numbered}
use Rattle.vt_mounting.specs.Detach.Uses.{unpinned_at}
use Rattle.vt_mounting.proofs.detach.MountsMoved.{mount_is_moved}
use Rattle.vt_ns.proofs.world.StoresKept.{same_in_store}

module _ (value : WorldValue) (whole : IsHeld value) (name : TaskName) (number : ℕ) (place : Location)
    (permits : Permits value name (ToMove number (location_of place))) where
  -- the new mount point is a location of the world
  pub move_place_there : is_located_well nat_eq (world_of value) (location_of place) ≡ true
  move_place_there = (permit_fits value whole name
      (ToMove number (location_of place)) permits).names.destination.directory.reached.there

  -- the mount that moves is attached
  pub moved_there : is_some (mount_numbered nat_eq (world_of value) number).namespace ≡ true
  moved_there = ap is_some (permit_fits value whole name (ToMove number (location_of place)) permits).names.own

-- the tree of a mount that is there, by its numbers
module _ (value : WorldValue) (number : ℕ)
    (attached : is_some (mount_numbered nat_eq (world_of value) number).namespace ≡ true)
    (ascending : are_ascending (mounts_in value.mounts) ≡ true) (top : Code)
    (found : Some (mount_of top) ≡ find (λ (mount : Mount ℕ). nat_eq number mount.number)
    (mounts_in value.mounts)) where
  abbrev source : Location
  source = record { mount = top.number; node = top.root }

  abbrev tree : List (Mount ℕ)
  tree = mount_tree nat_eq (mounts_in value.mounts) (mount_numbered nat_eq (world_of value) number)

  -- a mount of the tree is one of the world
  tree_among : (mount : Mount ℕ) → Among mount tree → Among mount (mounts_in value.mounts)
  tree_among mount m = of_tree (world_of value) number attached _ mount m

  top_is : mount_of top ≡ mount_numbered nat_eq (world_of value) number
  top_is = ap (λ o. unwrap_or o (no_mount number)) found

  top_there : Among (mount_numbered nat_eq (world_of value) number) (mounts_in value.mounts)
  top_there = found_is_there (mounts_in value.mounts) number attached

  same_rooted : (mount : Mount ℕ) → Among mount tree → rooted_at source mount ≡ mount
  same_rooted mount m = by (nat_eq mount.number (counted top.number.count)) refl
    where
      by : (b : Bool) → nat_eq mount.number (counted top.number.count) ≡ b
          → cond b (record mount { filesystem = counted top.root.filesystem.count; root = number_of top.root }) mount
          ≡ mount
      by false e = refl
      by true e =
          let same : mount ≡ mount_of top =
          same_numbered (mounts_in value.mounts) (ascending_once (mounts_in value.mounts) ascending) mount
          (mount_numbered nat_eq (world_of value) number) (tree_among mount m) top_there
          (eqb-true mount.number (counted top.number.count) e ∙ ap (λ (x : Mount ℕ). x.number) top_is) ∙ sym top_is in
          ap (λ (x : Mount ℕ). record mount { filesystem = x.filesystem; root = x.root }) (sym same)

  -- the tree that code lists is that of the mount that moves
  pub tree_below : (ids : List MountId)
      → AreOf ids (mount_tree nat_eq (mounts_in value.mounts) (mount_numbered nat_eq (world_of value) number))
      → bound_mounts (record { mount = top.number; node = top.root }) (mounts_in value.mounts) ids
      ≡ mount_tree nat_eq (mounts_in value.mounts) (mount_numbered nat_eq (world_of value) number)
  tree_below ids are = picked (rooted_at source) (mounts_in value.mounts) tree ids are
      (λ mount m. ascending_found (mounts_in value.mounts) ascending mount (tree_among mount m))
      ∙ map_same (rooted_at source) tree same_rooted

-- A mount that moves alone: its new mount point has one use more and its old one has one less, and overlays stay.
pub moved_in_store : (base : WorldValue) (store : StoreValue) → IsHeld (with_store store base)
    → (name : TaskName) (number : ℕ) (place : Location) (left : Option Location) (mounts : List MountEntry)
    (new : StoreValue) → new.overlays ≡ store.overlays
    → Permits (with_store store base) name (ToMove number (location_of place))
    → is_shared (mount_at nat_eq (world_of (with_store store base)) (location_of place)).propagation ≡ false
    → is_small_node place.node ≡ true → ((point : Location) → left ≡ Some point → is_small_node point.node ≡ true)
    → option_map location_of left ≡ (mount_numbered nat_eq (world_of (with_store store base)) number).mount_point
    → shown new.plain ≡ unpinned_at left (pinned_in (inode_of place.node) (shown store.plain))
    → mounts ≡ changed number (λ entry. record entry {
      mount = record entry.mount { mount_point = Some (location_of place) };
    }) base.mounts → IsDone (with_store store base) name (ToMove number (location_of place))
    (with_store new (record base { mounts = mounts }))
moved_in_store base store held name number place left mounts new same permits alone small small_left left_is shown_is
    moved = same_in_store base (record base { mounts = mounts }) store new held same name
    (ToMove number (location_of place)) permits
    (subst (λ entries. IsDone (with_store store base) name (ToMove number (location_of place))
    (remade (with_store store base) entries new.plain base.tasks)) (sym moved)
    (mount_is_moved (with_store store base) held name number place left new.plain permits alone small small_left left_is
    shown_is))
