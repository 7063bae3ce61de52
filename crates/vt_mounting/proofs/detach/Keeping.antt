-- What code keeps of a world while mounts leave their namespaces, and what it keeps once one that nothing uses has
-- gone.
use Rattle.std.proofs.Common.{◌≡◌, refl, sym, ap, ◌∙◌, ℕ, ◌+◌, nat_eq, eqb-true, Bool, true, false, cond, not, List, [], ◌∷◌, ◌++◌, map, filter, Some, None, All, if◌then◌else◌, option_to_list, arith}
use Rattle.vt_spec.proofs.Common.{Filesystem, Location as Place, Mount, World, common_steps, detached, is_among, is_nowhere_or_attached, is_overlay, mount_at, mount_in, no_mount, without_dead_filesystems}
use Rattle.vt_mounting.proofs.Common.{Among, AreThere, CountsItsUses, Exchanges, FilesystemEntry, FilesystemsInUse, Inode, IsHeld, LocationsStand, MountsInUseBut, MountsStand, Shown, WorldValue, counted, detached_if, exchanged, filter-map, inode_at, inodes_seen, is_small_node, layer_count, location_of, mounts_in, mounts_showing, world_of}
use Rattle.vt_laws_mounts.specs.LettingGo.OneByOne as Looks
use Rattle.vt_laws_mounts.proofs.letting_go.leaving.PlacesLeft.{found_in_filter}
use Rattle.vt_location.specs.declared.locations.Location.{Location}
use Rattle.vt_mounting.specs.Detach.Uses.{Kept}
use Rattle.vt_mounting.proofs.detach.LowerLayers.{of_lowers}
use Rattle.vt_mounting.proofs.detach.Moving.{nat_eq_turned}
use Rattle.vt_mounting.proofs.detach.MountsLeave.{LeavesOverlays}
use Rattle.vt_mounting.proofs.detach.Overlaid.{is_plain_one}
use Rattle.vt_mounting.proofs.detach.OverlaysGone.{merged_in}

-- Mounts that are still to be detached

-- a mount, detached if its number is pending
abbrev pub detached_in : List ℕ → Mount ℕ → Mount ℕ
detached_in pending mount = if is_among nat_eq mount.number pending then detached mount else mount

pub nowhere_still : (mount : Mount ℕ) (b : Bool) → is_nowhere_or_attached mount ≡ true
    → is_nowhere_or_attached (cond b (detached mount) mount) ≡ true
nowhere_still mount true nowhere = refl
nowhere_still mount false nowhere = nowhere

-- the inodes at their mount points, by the filesystems of a world
abbrev pub points_lost : World ℕ → List (Mount ℕ) → List ℕ → List Inode
points_lost world mounts [] = []
points_lost world mounts (number ∷ pending) =
    map (inode_at world) (option_to_list (mount_in nat_eq mounts number).mount_point)
    ++ points_lost world (map (detached_if number) mounts) pending

-- A filesystem as it is kept: its inodes got uses and lost uses, and lose more with the mount points that are still to
-- be left.
pub record IsShownIn (old : WorldValue) (gained lost later : List Inode) (world : World ℕ) (one : Shown) : Type 0 where
  pub was : FilesystemEntry
  pub among : Among was old.filesystems
  pub count : one.count ≡ was.count
  pub there : AreThere (counted was.count) (inodes_seen was) gained
  pub inodes : one.inodes ≡ exchanged (counted was.count) gained lost (inodes_seen was)
  pub exchanges : Exchanges gained (lost ++ later) (counted was.count) (of_lowers (world_of old)) (of_lowers world)
  pub mounts : one.mounts ≡ mounts_showing world (counted one.count) + layer_count world (counted one.count)

-- code's mount points are in the filesystems that the definitions see there
abbrev pub PointsAreSeen : WorldValue → List (Mount ℕ) → Type 0
PointsAreSeen old mounts =
    (mount : Mount ℕ) → Among mount mounts → (point : Location) → mount.mount_point ≡ Some (location_of point)
    → is_small_node point.node ≡ true
    → (mount_at nat_eq (world_of old) (location_of point)).filesystem ≡ counted point.node.filesystem.count

-- What is kept of a world in which the pending mounts are detached, while code has them still attached. Mounts but the
-- losers are in use. Overlays are those of before that mounts show still.
pub record IsKeptBut (old : WorldValue) (losers pending : List ℕ) (gained lost : List Inode) (world : World ℕ)
    (k : Kept) : Type 0 where
  pub held : IsHeld old
  pub merged : k.overlays ≡ map (merged_in world) (filter is_overlay world.filesystems)
  pub mounts : world.mounts ≡ map (detached_in pending) (mounts_in k.mounts)
  pub uses : All (CountsItsUses world) k.mounts
  pub numbers : map (λ (f : Filesystem ℕ). f.number) (filter is_plain_one world.filesystems)
      ≡ map (λ (one : Shown). counted one.count) k.filesystems
  pub filesystems : (one : Shown) → Among one k.filesystems
      → IsShownIn old gained lost (points_lost (world_of old) (mounts_in k.mounts) pending) world one
  pub stand : MountsStand world
  pub located : LocationsStand world
  pub in_use : MountsInUseBut losers world
  pub mounted : FilesystemsInUse world
  pub leaves : LeavesOverlays old world
  pub points : PointsAreSeen old (mounts_in k.mounts)
  pub places : (mount : Mount ℕ) → Among mount world.mounts → (place : Place ℕ) → mount.mount_point ≡ Some place
      → (mount_at nat_eq world place).filesystem ≡ (mount_at nat_eq (world_of old) place).filesystem

-- one mount is looked at, and then the filesystems
abbrev pub looked_at : World ℕ → ℕ → World ℕ
looked_at world number = without_dead_filesystems nat_eq (Looks.let_go_mount world number)

-- Lists

-- nothing put behind a list leaves it
pub no_more : (inodes : List Inode) → inodes ++ [] ≡ inodes
no_more [] = refl
no_more (inode ∷ rest) = ap (λ others. inode ∷ others) (no_more rest)

-- three lists put together in another order of brackets are the same list
pub append_three : {A : Type 0} (xs ys zs : List A) → (xs ++ ys) ++ zs ≡ xs ++ (ys ++ zs)
append_three [] ys zs = refl
append_three (x ∷ xs) ys zs = ap (λ rest. x ∷ rest) (append_three xs ys zs)

-- where a mount has no mount point, the inodes lost are the same without it
found_none : (mounts : List (Mount ℕ)) (number : ℕ)
    → mount_in nat_eq (filter (λ mount. not (nat_eq mount.number number)) mounts) number ≡ no_mount number
found_none [] number = refl
found_none (first ∷ rest) number = grind (arith, common_steps, found_none rest number, nat_eq_turned)

-- a mount that is detached keeps its number
pub same_number : (number : ℕ) (mount : Mount ℕ) → (detached_if number mount).number ≡ mount.number
same_number number mount = grind (arith, common_steps)

no_point_still : (mounts : List (Mount ℕ)) (other number : ℕ) → (mount_in nat_eq mounts number).mount_point ≡ None
    → (mount_in nat_eq (map (detached_if other) mounts) number).mount_point ≡ None
no_point_still [] other number none = refl
no_point_still (first ∷ rest) other number none =
    grind (arith, common_steps, no_point_still rest other number, same_number)

-- a mount that stands nowhere loses no mount point
pub points_without : (world : World ℕ) (pending : List ℕ) (mounts : List (Mount ℕ)) (number : ℕ)
    → (mount_in nat_eq mounts number).mount_point ≡ None
    → points_lost world (filter (λ mount. not (nat_eq mount.number number)) mounts) pending
    ≡ points_lost world mounts pending
points_without world [] mounts number none = refl
points_without world (other ∷ pending) mounts number none =
    (λ i. map (inode_at world) (option_to_list (head (nat_eq other number) refl i))
    ++ points_lost world (sym (filter-map (λ mount. not (nat_eq mount.number number)) (detached_if other) mounts
    (λ mount. ap (λ n. not (nat_eq n number)) (same_number other mount))) i) pending)
    ∙ ap (λ rest. map (inode_at world) (option_to_list (mount_in nat_eq mounts other).mount_point) ++ rest)
    (points_without world pending (map (detached_if other) mounts) number (no_point_still mounts other number none))
  where
    head : (b : Bool) → nat_eq other number ≡ b
        → (mount_in nat_eq (filter (λ mount. not (nat_eq mount.number number)) mounts) other).mount_point
        ≡ (mount_in nat_eq mounts other).mount_point
    head true e = ap (λ n. (mount_in nat_eq (filter (λ mount. not (nat_eq mount.number number)) mounts) n).mount_point)
        (eqb-true other number e) ∙ ap (λ (mount : Mount ℕ). mount.mount_point) (found_none mounts number) ∙ sym none
        ∙ ap (λ n. (mount_in nat_eq mounts n).mount_point) (sym (eqb-true other number e))
    head false e = ap (λ (mount : Mount ℕ). mount.mount_point)
        (found_in_filter (λ mount. not (nat_eq mount.number number)) mounts other
        (λ mount m same. ap not (ap (λ n. nat_eq n number) same ∙ e)))
