-- Where mounts stand.
use Rattle.std.proofs.Common.{arith, ◌≡◌, refl, sym, ◌∙◌, ℕ, nat_eq, eq-eqb, true, true≢false, List, [], ◌∷◌, Some}
use Rattle.vt_spec.proofs.Common.{Among, Location, Mount, all_from_among, and_from, child_at, common_steps, none_among, or_parts, same_Some, same_location, same_location_is, share_a_mount_point, stands_at}
use Rattle.vt_laws_mounts.specs.Mounts.MountPoints.{OneMountAMountPoint, StandsAloneAtItsMountPoint}

pub same_location_itself : (place : Location ℕ) → same_location nat_eq place place ≡ true
same_location_itself place = and_from _ _ (eq-eqb place.mount place.mount refl) (eq-eqb place.node place.node refl)

-- a mount that stands at a place has it
pub stands_there : (place : Location ℕ) (mount : Mount ℕ) → stands_at nat_eq place mount ≡ true
    → mount.mount_point ≡ Some place
stands_there place mount h = grind (arith, common_steps, true≢false, same_location_is)

pub stands_at_its_place : (place : Location ℕ) (mount : Mount ℕ) → mount.mount_point ≡ Some place
    → stands_at nat_eq place mount ≡ true
stands_at_its_place place mount e = cc (same_location_itself place)

pub one_place_of_two : (place : Location ℕ) (a b : Mount ℕ) → a.mount_point ≡ Some place → b.mount_point ≡ Some place
    → share_a_mount_point nat_eq a b ≡ true
one_place_of_two place a b e f = cc (same_location_itself place)

-- where no two stand at one place, one that stands there is found there
pub found_at_its_place : (mounts : List (Mount ℕ)) → OneMountAMountPoint mounts → (mount : Mount ℕ) → Among mount mounts
    → (place : Location ℕ) → mount.mount_point ≡ Some place → child_at nat_eq mounts place ≡ Some mount
found_at_its_place [] one mount m place e = absurd m
found_at_its_place (first ∷ rest) one mount m place e = grind (
  arith,
  common_steps,
  or_parts,
  stands_at_its_place,
  none_among,
  true≢false,
  one_place_of_two,
  stands_there,
  found_at_its_place rest,
)

pub stands_alone : StandsAloneAtItsMountPoint
stands_alone mounts one = all_from_among
    (λ mount. (place : Location ℕ) → mount.mount_point ≡ Some place → child_at nat_eq mounts place ≡ Some mount) mounts
    (λ mount m place e. found_at_its_place mounts one mount m place e)

-- two that stand at one place have it
pub place_of_both : (a b : Mount ℕ) → share_a_mount_point nat_eq a b ≡ true
    → (place : Location ℕ) × (a.mount_point ≡ Some place) × (b.mount_point ≡ Some place)
place_of_both a b h = grind (arith, common_steps, true≢false, same_location_is)

-- only one mount stands at a place
pub one_stander : (mounts : List (Mount ℕ)) → OneMountAMountPoint mounts → (a b : Mount ℕ) → Among a mounts
    → Among b mounts → (place : Location ℕ) → a.mount_point ≡ Some place → b.mount_point ≡ Some place → a ≡ b
one_stander mounts one a b m n place e f =
    same_Some a b (sym (found_at_its_place mounts one a m place e) ∙ found_at_its_place mounts one b n place f)
