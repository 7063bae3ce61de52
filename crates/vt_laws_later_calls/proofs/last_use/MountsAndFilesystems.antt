-- A mount goes with its last location, and a filesystem with its last mount.
use Rattle.std.proofs.Common.{arith, ◌≡◌, refl, ap, ◌∙◌, ℕ, nat_eq, eq-eqb, false, cond, ◌||◌, List, [], ◌∷◌, ◌++◌, nat_lt}
use Rattle.vt_spec.proofs.Common.{Filesystem, Location, Mount, Task, World, all_locations, common_steps, filesystem_lives, is_located, is_mounted, is_overlay, list_any, or-false, without_dead_filesystems}
use Rattle.vt_laws_later_calls.proofs.Common.{FilesystemsInUse, FilesystemsInUseBut, MountsInUse, MountsInUseBut, among_from_list_all, filesystem_is_looked_up, filesystems_go_one_by_one, list_all_from_among, mount_is_looked_up, mount_uses, mounts_go_one_by_one, mounts_showing, no_layers, with_tasks, without_filesystem}
use Rattle.vt_laws_mounts.specs.LettingGo.OneByOne.{IsPlain}
use Rattle.vt_laws_later_calls.specs.LastUse.{FilesystemGoesWithItsLastUse, MountGoesWithItsLastUse}
use Rattle.vt_laws_later_calls.proofs.last_use.OneLess.{some_without_another, some_without_it}

module _ (world : World ℕ) (tasks : List (Task ℕ)) (front back : List (Location ℕ)) (location : Location ℕ)
    (before : all_locations world ≡ front ++ (location ∷ back))
    (left : all_locations (with_tasks world tasks) ≡ front ++ back) where
  abbrev after : World ℕ
  after = with_tasks world tasks

  -- other mounts are located as before
  located_as_before : (number : ℕ) → nat_eq number location.mount ≡ false
      → is_located nat_eq after number ≡ is_located nat_eq world number
  located_as_before number differs =
      cc (some_without_another (λ (l : Location ℕ). nat_eq number l.mount) location differs front back)

  -- its own mount is located if it was more than once
  pub located_still : is_located nat_eq after location.mount ≡ nat_lt 1 (mount_uses world location.mount)
  located_still = cc (some_without_it (λ (l : Location ℕ). nat_eq location.mount l.mount) location
      (eq-eqb location.mount location.mount refl) front back)

  other_mounts : MountsInUse world → MountsInUseBut (location.mount ∷ []) after
  other_mounts in_use = grind (arith, common_steps, list_all_from_among, among_from_list_all, located_as_before)

pub mount_goes_with_its_last_use : MountGoesWithItsLastUse
mount_goes_with_its_last_use world tasks front back location in_use one before left = cc (
  mounts_go_one_by_one (with_tasks world tasks) (location.mount ∷ [])
      (other_mounts world tasks front back location before left in_use.mounts),
  mount_is_looked_up (with_tasks world tasks) location.mount one,
  located_still world tasks front back location before left,
)

module _ (world after : World ℕ) (front back : List (Mount ℕ)) (mount : Mount ℕ)
    (before : world.mounts ≡ front ++ (mount ∷ back)) (left : after.mounts ≡ front ++ back) where
  -- other filesystems are mounted as before
  pub mounted_as_before : (number : ℕ) → nat_eq number mount.filesystem ≡ false
      → is_mounted nat_eq after number ≡ is_mounted nat_eq world number
  mounted_as_before number differs =
      cc (some_without_another (λ (m : Mount ℕ). nat_eq number m.filesystem) mount differs front back)

  -- its own filesystem is mounted if it was more than once
  pub mounted_still : is_mounted nat_eq after mount.filesystem ≡ nat_lt 1 (mounts_showing world mount.filesystem)
  mounted_still = cc (some_without_it (λ (m : Mount ℕ). nat_eq mount.filesystem m.filesystem) mount
      (eq-eqb mount.filesystem mount.filesystem refl) front back)

  module _ (plain : IsPlain world) (same : after.filesystems ≡ world.filesystems) where
    -- a plain filesystem is in use just while it is mounted
    lives_mounted : (other : World ℕ) → other.filesystems ≡ world.filesystems → (filesystem : Filesystem ℕ)
        → filesystem_lives nat_eq other filesystem ≡ is_mounted nat_eq other filesystem.number
    lives_mounted other alike filesystem = ap (λ b. is_mounted nat_eq other filesystem.number || b)
        (no_layers filesystem.number other other.filesystems (ap (list_any is_overlay) alike ∙ plain))
        ∙ or-false (is_mounted nat_eq other filesystem.number)

    other_filesystems : FilesystemsInUse world → FilesystemsInUseBut (mount.filesystem ∷ []) after
    other_filesystems in_use = grind
        (arith, common_steps, list_all_from_among, among_from_list_all, lives_mounted, mounted_as_before)

    filesystem_left : FilesystemsInUse world → without_dead_filesystems nat_eq after
        ≡ cond (nat_lt 1 (mounts_showing world mount.filesystem)) after (without_filesystem after mount.filesystem)
    filesystem_left in_use = filesystems_go_one_by_one after (mount.filesystem ∷ []) (other_filesystems in_use)
        ∙ filesystem_is_looked_up after mount.filesystem
        ∙ ap (λ b. cond b after (without_filesystem after mount.filesystem))
        (ap (λ b. is_mounted nat_eq after mount.filesystem || b)
        (no_layers mount.filesystem after after.filesystems (ap (list_any is_overlay) same ∙ plain))
        ∙ or-false (is_mounted nat_eq after mount.filesystem) ∙ mounted_still)

pub filesystem_goes_with_its_last_use : FilesystemGoesWithItsLastUse
filesystem_goes_with_its_last_use world after front back mount in_use plain same before left =
    filesystem_left world after front back mount before left plain same in_use.filesystems
