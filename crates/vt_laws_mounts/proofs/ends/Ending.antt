-- What takes mounts away keeps the invariants of mounts.
use Rattle.std.proofs.Common.{arith, ◌≡◌, sym, ◌∙◌, false, nat_eq, ℕ, List, None, Some, eq-eqb, flat_map, map, ⊎_elim}
use Rattle.vt_spec.proofs.Common.{Among, Location, Mount, MountInvariants, World, all_from_among, among_from_all, common_steps, going, has_child, mount_numbered, mount_tree, mounts_on, namespaces_ended, none_among, number-mount_in, stands_alike, stands_on, taken_away}
use Rattle.vt_laws_mounts.specs.Mounts.Invariants.{AreApart, OneMountEachMountPoint}
use Rattle.vt_laws_mounts.specs.Mounts.Ending.{EndedNamespacesKeepMounts, PointsKeepMounts, ReplacedKeepsMounts, TreesKeepMounts, UnmountKeepsMounts}
use Rattle.vt_laws_mounts.specs.Mounts.Standing.{AllStand}
use Rattle.vt_laws_mounts.specs.Mounts.Unmounting.{ChainsEnd}
use Rattle.vt_laws_mounts.proofs.GroupsLiving.{all_live, tested_live}
use Rattle.vt_laws_mounts.proofs.ends.EndingStanding.{lands_by_closed, lands_by_places, taken_stand}
use Rattle.vt_laws_mounts.proofs.GroupsKept.{taking_away_keeps_groups}
use Rattle.vt_laws_mounts.proofs.mounts.MountsKept.{taking_away_keeps_nowhere, taking_away_keeps_numbers}
use Rattle.vt_laws_mounts.proofs.mounts.MountsReplaced.{found_itself}
use Rattle.vt_laws_mounts.proofs.mounts.Standing.{standing_is_computed}
use Rattle.vt_laws_mounts.proofs.ends.UnmountingNamespaces.{ended_closed, in_ended}
use Rattle.vt_laws_mounts.proofs.ends.UnmountingPlaces.{goes_or_may, unmount_leaves_one_mount_a_place}
use Rattle.vt_laws_mounts.proofs.ends.UnmountingTrees.{AreClosed, closed_keeps_apart, trees_closed}

-- nothing stands on a mount without children
pub none_stands : (world : World ℕ) (one : ℕ) → has_child nat_eq world one ≡ false → (x : Mount ℕ) (place : Location ℕ)
    → Among x world.mounts → x.mount_point ≡ Some place → place.mount ≡ one → ⊥
none_stands world one childless x place m e same =
    cc (eq-eqb one place.mount (sym same), none_among (stands_on nat_eq one) world.mounts childless x m)

apart_in : (world : World ℕ) → MountInvariants nat_eq world → AreApart world
apart_in world kept = record { by_number = kept.one_number; by_place = kept.one_child }

places_end_in : (world : World ℕ) → MountInvariants nat_eq world → ChainsEnd world
places_end_in world kept = (standing_is_computed world kept.one_number).0 kept.standing

-- where mounts stand, and no two at a place, the rest is kept whatever goes
taken_keeps : (world : World ℕ) (gone : List ℕ) → MountInvariants nat_eq world
    → OneMountEachMountPoint (taken_away nat_eq world gone)
    → AllStand (taken_away nat_eq world gone) → MountInvariants nat_eq (taken_away nat_eq world gone)
taken_keeps world gone kept places stand = record {
  one_number = taking_away_keeps_numbers world gone kept.one_number;
  one_child = places;
  standing = stand;
  nowhere = taking_away_keeps_nowhere world gone kept.nowhere;
  groups = all_live (taken_away nat_eq world gone)
      (taking_away_keeps_groups world gone (tested_live world kept.groups));
}

closed_keeps : (world : World ℕ) (gone : List ℕ) → AreClosed world gone → MountInvariants nat_eq world
    → MountInvariants nat_eq (taken_away nat_eq world gone)
closed_keeps world gone closed kept =
    taken_keeps world gone kept (closed_keeps_apart world gone closed (apart_in world kept)).by_place
    (taken_stand world gone kept.one_number kept.standing (lands_by_closed world gone closed))

pub unmount_keeps_mounts : UnmountKeepsMounts
unmount_keeps_mounts world one kept childless =
    let mount = mount_numbered nat_eq world one in
    let gone = going nat_eq world mount in
    taken_keeps world gone kept (unmount_leaves_one_mount_a_place world one (apart_in world kept) childless).by_place
    (taken_stand world gone kept.one_number kept.standing (lands_by_places world gone kept.one_number kept.standing
    (λ x place m e goes. ⊎_elim (λ itself. absurd (none_stands world one childless x place m e
    (itself ∙ number-mount_in _ one))) (λ t. cc (t.3, found_itself world.mounts kept.one_number t.0 t.1, t.4))
    (goes_or_may world mount _ goes))))

pub trees_keep_mounts : TreesKeepMounts
trees_keep_mounts world tops kept =
    closed_keeps world (map (λ (mount : Mount ℕ). mount.number) (flat_map (mount_tree nat_eq world.mounts) tops))
    (trees_closed world kept.one_number (places_end_in world kept) tops) kept

pub points_keep_mounts : PointsKeepMounts
points_keep_mounts world location kept = trees_keep_mounts world (mounts_on nat_eq world location) kept

pub replaced_keeps_mounts : ReplacedKeepsMounts
replaced_keeps_mounts world None kept = kept
replaced_keeps_mounts world (Some object) kept = points_keep_mounts world object kept

pub ended_namespaces_keep_mounts : EndedNamespacesKeepMounts
ended_namespaces_keep_mounts world kept =
    let taken = closed_keeps world _ (ended_closed world (places_end_in world kept) kept.one_number) kept in
    let left = taken_away nat_eq world (in_ended world) in
    let end = namespaces_ended nat_eq world in
    grind (arith, common_steps, all_from_among, stands_alike, among_from_all)
