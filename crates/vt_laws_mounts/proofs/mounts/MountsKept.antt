-- Conditions of a world that changes of mounts keep.
use Rattle.std.proofs.Common.{arith, ◌≡◌, refl, ap, ◌∙◌, true, List, filter, map, true≢false, ℕ, nat_eq}
use Rattle.vt_spec.proofs.Common.{Mount, World, after_going, all-filter, all-map, common_steps, going, inheriting, is_in_ended, is_nowhere_or_attached, list_all, mount_at, mount_lives, mount_numbered, number-pivoted_mount, pair-filter, pivoted, pivoted_mount, regrouped, with_flags}
use Rattle.vt_laws_mounts.proofs.mounts.MountsReplaced.{one_number_by_numbers, numbers-with_mount}
use Rattle.vt_laws_mounts.specs.Mounts.Invariants.{KeptByEndedNamespaces, KeptByFlags, KeptByInheritance, KeptByPivot, KeptBySettling, KeptByTakingAway, KeptByType, KeptByUnmount, NowhereOrAttached, OneNumberEach}
use Rattle.vt_laws_mounts.proofs.ends.Unmounting.{middle, numbers_taken}
use Rattle.vt_laws_mounts.proofs.Groups.{mounts-regrouped}
use Rattle.vt_laws_mounts.proofs.mounts.MountsFound.{numbers-map}
use Rattle.vt_laws_mounts.specs.Mounts.Attaching.{numbers_of}
use Rattle.vt_laws_mounts.proofs.mounts.MountsRetyped.{numbers_with_type}

-- Numbers
pub numbers_regrouped : (world : World ℕ) → numbers_of (regrouped nat_eq world).mounts ≡ numbers_of world.mounts
numbers_regrouped world =
    cc (mounts-regrouped world, numbers-map (inheriting nat_eq world) (λ mount. refl) world.mounts)

pub taking_away_keeps_numbers : KeptByTakingAway OneNumberEach
taking_away_keeps_numbers world gone e = one_number_by_numbers _ _ (numbers_taken world gone) e

pub unmount_keeps_numbers : KeptByUnmount OneNumberEach
unmount_keeps_numbers world one e =
    taking_away_keeps_numbers world (going nat_eq world (mount_numbered nat_eq world one)) e

pub ended_namespaces_keep_numbers : KeptByEndedNamespaces OneNumberEach
ended_namespaces_keep_numbers world e =
    taking_away_keeps_numbers world (map (λ mount. mount.number) (filter (is_in_ended nat_eq world) world.mounts)) e

pub inheritance_keeps_numbers : KeptByInheritance OneNumberEach
inheritance_keeps_numbers world e = one_number_by_numbers _ _ (numbers_regrouped world) e

pub types_keep_numbers : KeptByType OneNumberEach
types_keep_numbers world fresh one word recursive e =
    one_number_by_numbers _ _ (numbers_with_type world fresh one word _) e

pub flags_keep_numbers : KeptByFlags OneNumberEach
flags_keep_numbers world here flags e =
    one_number_by_numbers world.mounts (with_flags nat_eq world here.mount flags).mounts
    (numbers-with_mount (record (mount_at nat_eq world here) { flags = flags }) world.mounts) e

pub pivot_keeps_numbers : KeptByPivot OneNumberEach
pivot_keeps_numbers world namespace root new put e =
    one_number_by_numbers world.mounts (pivoted nat_eq world namespace root new put).mounts
    (numbers-map (pivoted_mount nat_eq root new put) (number-pivoted_mount root new put) world.mounts) e

pub settling_keeps_numbers : KeptBySettling OneNumberEach
settling_keeps_numbers world e =
    pair-filter (λ (a b : Mount ℕ). nat_eq a.number b.number) (mount_lives nat_eq world) world.mounts e

-- Mounts outside every namespace
nowhere_inherits : (world : World ℕ) (mount : Mount ℕ) → is_nowhere_or_attached mount ≡ true
    → is_nowhere_or_attached (inheriting nat_eq world mount) ≡ true
nowhere_inherits world mount e = grind (arith, common_steps, true≢false)

nowhere_after : (world : World ℕ) (gone : List ℕ) (mount : Mount ℕ) → is_nowhere_or_attached mount ≡ true
    → is_nowhere_or_attached (after_going nat_eq world gone mount) ≡ true
nowhere_after world gone mount e = grind (arith, common_steps)

pub taking_away_keeps_nowhere : KeptByTakingAway NowhereOrAttached
taking_away_keeps_nowhere world gone e = ap (list_all is_nowhere_or_attached) (mounts-regrouped (middle world gone))
    ∙ all-map is_nowhere_or_attached (inheriting nat_eq (middle world gone)) (nowhere_inherits (middle world gone))
    (map (after_going nat_eq world gone) world.mounts)
    (all-map is_nowhere_or_attached (after_going nat_eq world gone) (nowhere_after world gone) world.mounts e)

pub unmount_keeps_nowhere : KeptByUnmount NowhereOrAttached
unmount_keeps_nowhere world one e =
    taking_away_keeps_nowhere world (going nat_eq world (mount_numbered nat_eq world one)) e

pub ended_namespaces_keep_nowhere : KeptByEndedNamespaces NowhereOrAttached
ended_namespaces_keep_nowhere world e =
    taking_away_keeps_nowhere world (map (λ mount. mount.number) (filter (is_in_ended nat_eq world) world.mounts)) e

pub inheritance_keeps_nowhere : KeptByInheritance NowhereOrAttached
inheritance_keeps_nowhere world e = ap (list_all is_nowhere_or_attached) (mounts-regrouped world)
    ∙ all-map is_nowhere_or_attached (inheriting nat_eq world) (nowhere_inherits world) world.mounts e

pub settling_keeps_nowhere : KeptBySettling NowhereOrAttached
settling_keeps_nowhere world e = all-filter is_nowhere_or_attached (mount_lives nat_eq world) world.mounts e
