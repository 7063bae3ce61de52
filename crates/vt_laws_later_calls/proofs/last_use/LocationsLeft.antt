-- The whole sweep, where one location is left.
use Rattle.std.proofs.Common.{◌≡◌, refl, ap, ◌∙◌, ℕ, nat_eq, Bool, true, false, cond, [], ◌∷◌, nat_lt}
use Rattle.vt_spec.proofs.Common.{World, filesystem_at, without_dead_filesystems, without_dead_groups, without_dead_inodes}
use Rattle.vt_laws_later_calls.proofs.Common.{AllInUse, all_in_use, filesystems_stay, groups_stay, inode_at, inode_uses, locations_are_uses, reals_of_worlds_are_there, uppers_of_worlds_are_plain, with_tasks, without_inode_at, without_mount, worlds_have_trees}
use Rattle.vt_laws_later_calls.specs.LastUse.{LocationTakesItsInode}
use Rattle.vt_laws_later_calls.proofs.last_use.InodesLeft.{exchange_of_one_loses_one_use, inode_beside_overlays_goes_with_its_last_use}
use Rattle.vt_laws_later_calls.proofs.last_use.MountsAndFilesystems.{mount_goes_with_its_last_use}

pub location_takes_its_inode : LocationTakesItsInode
location_takes_its_inode world tasks front back location whole plain before left stays =
    ap (λ w. without_dead_groups nat_eq (without_dead_inodes nat_eq (without_dead_filesystems nat_eq w)))
    (mount_goes_with_its_last_use world tasks front back location in_use whole.mounts.one_number before left
    ∙ ap (λ b. cond b after (without_mount after location.mount)) stays)
    ∙ ap (λ w. without_dead_groups nat_eq (without_dead_inodes nat_eq w)) (filesystems_stay after in_use.filesystems)
    ∙ ap (without_dead_groups nat_eq)
    (inode_beside_overlays_goes_with_its_last_use world after (inode_at world location) in_use
    (exchange_of_one_loses_one_use world after (inode_at world location)
    (locations_are_uses world after [] (location ∷ []) front back refl refl before left))
    plain (worlds_have_trees world whole) (uppers_of_worlds_are_plain world whole)
    (reals_of_worlds_are_there world whole) whole.files.one_filesystem)
    ∙ groups (nat_lt 1 (inode_uses world (filesystem_at nat_eq world location) location.node))
  where
    after : World ℕ
    after = with_tasks world tasks

    in_use : AllInUse world
    in_use = all_in_use world whole

    groups : (more : Bool)
        → without_dead_groups nat_eq (cond more after (without_inode_at after (inode_at world location)))
        ≡ cond more after (without_inode_at after (inode_at world location))
    groups true = groups_stay after in_use.groups
    groups false = groups_stay _ in_use.groups
