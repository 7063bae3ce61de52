-- Mounts stay apart, by number and by place.
use Rattle.std.proofs.Common.{arith, ◌≡◌, refl, ap, ◌∙◌, true, false, nat_eq, ℕ, Bool, List, [], eqb-true, map, ◌∷◌, ⊎_elim, ◌++◌, if◌then◌else◌}
use Rattle.vt_spec.proofs.Common.{Among, Mount, World, among-append, among-from_map, among_from_list_all, any_pair, common_steps, copied_mount, deepest_first, evens, folded, inheriting, is_nowhere_or_attached, list_all_from_among, mount_at, mount_in, mount_lives, mount_numbered, mount_tree, mounts_of, named_mounts, number-mount_in, numbers_by, odds, pair-filter, pair-map, replaced_if_same, share_a_mount_point, unmounted, unmounted_if_there, with_mount}
use Rattle.vt_laws_mounts.specs.Mounts.Invariants.{AreApart, KeptByFlags, KeptByInheritance, KeptByLazyUnmount, KeptBySettling, KeptByType, NowhereOrAttached, OneNumberEach, FlagsKeepNowhere, KeptByUnshare}
use Rattle.vt_laws_mounts.specs.Mounts.MountPoints.{OneMountAMountPoint}
use Rattle.vt_laws_mounts.specs.Mounts.Attaching.{OneNumberAMount}
use Rattle.vt_laws_mounts.proofs.mounts.MountsRetyped.{between, groups_by, retype, retype_keeps}
use Rattle.vt_laws_mounts.proofs.mounts.MountsKept.{flags_keep_numbers, inheritance_keeps_numbers, settling_keeps_numbers, unmount_keeps_nowhere, unmount_keeps_numbers, types_keep_numbers}
use Rattle.vt_laws_mounts.proofs.mounts.MountsReplaced.{found_itself, replaced_elsewhere, replaced_there}
use Rattle.vt_laws_mounts.proofs.Groups.{mounts-regrouped}

-- places that stay the same stay apart
places_same : (f : Mount ℕ → Mount ℕ) (mounts : List (Mount ℕ))
    → ((mount : Mount ℕ) → Among mount mounts → (f mount).mount_point ≡ mount.mount_point)
    → OneMountAMountPoint mounts → OneMountAMountPoint (map f mounts)
places_same f mounts same one = pair-map _ _ f mounts (λ a b m n differ. cc (same a m, same b n, differ)) one

-- a mount in the place of the one with its number, at the same place
replaced_same_place : (mounts : List (Mount ℕ)) → OneNumberAMount mounts → (new : Mount ℕ)
    → (mount_in nat_eq mounts new.number).mount_point ≡ new.mount_point
    → (old : Mount ℕ) → Among old mounts → (replaced_if_same nat_eq new old).mount_point ≡ old.mount_point
replaced_same_place mounts one new same old m =
    grind (arith, common_steps, replaced_there, eqb-true, found_itself, replaced_elsewhere)

pub flags_keep_apart : KeptByFlags AreApart
flags_keep_apart world here flags both =
    let new = record (mount_at nat_eq world here) { flags = flags } in
    record {
      by_number = flags_keep_numbers world here flags both.by_number;
      by_place = places_same _ _ (replaced_same_place _ both.by_number new
          (ap (λ n. (mount_in nat_eq world.mounts n).mount_point) (number-mount_in _ _))) both.by_place;
    }

pub types_keep_apart : KeptByType AreApart
types_keep_apart world fresh number word recursive both =
    let group = groups_by world fresh number recursive in
    let named = named_mounts nat_eq world number recursive in
    let middle = between world group word named in
    record {
      by_number = types_keep_numbers world fresh number word recursive both.by_number;
      by_place = ap (any_pair (share_a_mount_point nat_eq)) (mounts-regrouped middle)
          ∙ places_same (inheriting nat_eq middle) middle.mounts (λ mount m. refl)
          (places_same (retype world group word named) world.mounts
          (λ mount m. (retype_keeps world group word named mount).mount_point) both.by_place);
    }

pub inheritance_keeps_apart : KeptByInheritance AreApart
inheritance_keeps_apart world both = record {
  by_number = inheritance_keeps_numbers world both.by_number;
  by_place =
      cc (mounts-regrouped world, places_same (inheriting nat_eq world) world.mounts (λ mount m. refl) both.by_place);
}

pub settling_keeps_apart : KeptBySettling AreApart
settling_keeps_apart world both = record {
  by_number = settling_keeps_numbers world both.by_number;
  by_place = pair-filter (share_a_mount_point nat_eq) (mount_lives nat_eq world) world.mounts both.by_place;
}

-- Lazy unmounts
lazy_numbers : (mounts : List (Mount ℕ)) (world : World ℕ) → OneNumberEach world
    → OneNumberEach (folded (unmounted_if_there nat_eq) world mounts)
lazy_numbers [] world e = e
lazy_numbers (mount ∷ mounts) world e = lazy_numbers mounts _ (by _)
  where
    by : (b : Bool) → OneNumberEach (if b then unmounted nat_eq world mount.number else world)
    by true = unmount_keeps_numbers world mount.number e
    by false = e

pub lazy_keeps_numbers : KeptByLazyUnmount OneNumberEach
lazy_keeps_numbers world one e =
    lazy_numbers (deepest_first nat_eq world (mount_tree nat_eq world.mounts (mount_numbered nat_eq world one))) world e

lazy_nowhere : (mounts : List (Mount ℕ)) (world : World ℕ) → NowhereOrAttached world
    → NowhereOrAttached (folded (unmounted_if_there nat_eq) world mounts)
lazy_nowhere [] world e = e
lazy_nowhere (mount ∷ mounts) world e = lazy_nowhere mounts _ (by _)
  where
    by : (b : Bool) → NowhereOrAttached (if b then unmounted nat_eq world mount.number else world)
    by true = unmount_keeps_nowhere world mount.number e
    by false = e

pub lazy_keeps_nowhere : KeptByLazyUnmount NowhereOrAttached
lazy_keeps_nowhere world one e =
    lazy_nowhere (deepest_first nat_eq world (mount_tree nat_eq world.mounts (mount_numbered nat_eq world one))) world e

-- copies of a namespace's mounts are in one
pub unshare_keeps_nowhere : KeptByUnshare NowhereOrAttached
unshare_keeps_nowhere world fresh task e =
    let copied = mounts_of nat_eq world task.namespace in
    let copy = copied_mount (numbers_by nat_eq (odds fresh) copied) (evens fresh 0) in
    list_all_from_among is_nowhere_or_attached (world.mounts ++ map copy copied) (λ mount m.
    ⊎_elim (λ old. among_from_list_all is_nowhere_or_attached world.mounts e mount old)
    (λ new. ap is_nowhere_or_attached (among-from_map copy copied mount new).2)
    (among-append world.mounts (map copy copied) mount m))

pub flags_keep_nowhere : FlagsKeepNowhere
flags_keep_nowhere world here flags one e =
    let new = record (mount_at nat_eq world here) { flags = flags } in
    list_all_from_among is_nowhere_or_attached (with_mount nat_eq world.mounts new) (λ mount m.
    let from = among-from_map _ _ mount m in
    cc (from.2, by from.0 from.1 (nat_eq new.number from.0.number) refl))
  where
    by : (old : Mount ℕ) → Among old world.mounts → (b : Bool)
        → nat_eq (mount_at nat_eq world here).number old.number ≡ b
        → is_nowhere_or_attached (replaced_if_same nat_eq (record (mount_at nat_eq world here) { flags = flags }) old)
        ≡ true
    by old m true f =
        grind (arith, common_steps, number-mount_in, eqb-true, found_itself, replaced_there, among_from_list_all)
    by old m false f = grind (arith, common_steps, replaced_elsewhere, among_from_list_all)
