-- Where a tree of mounts moves, all mounts and filesystems are still in use.
use Rattle.std.proofs.Common.{◌≡◌, ap, subst, ◌∙◌, inl, ℕ, nat_eq, true, List, [], ◌∷◌, is_some, option_to_list}
use Rattle.vt_spec.proofs.Common.{Copies, Location, Mount, World, attached_by, list_all, mount_at, mount_lives, without_dead_filesystems, without_dead_mounts}
use Rattle.vt_laws_mounts.specs.LettingGo.InUse.{AllInUse}
use Rattle.vt_mounting.proofs.Common.{Among, LocationsStand, MountsInUseBut, MountsStand, in_use_of, mounts_go_one_by_one}
use Rattle.vt_laws_mounts.specs.LettingGo.OneByOne.{FilesystemsInUseBut}
use Rattle.vt_laws_mounts.proofs.letting_go.mounting.Attached.{attached_groups, attached_loses}
use Rattle.vt_laws_mounts.proofs.letting_go.mounting.MountingOverlays.{all_but_those}
use Rattle.vt_laws_mounts.proofs.letting_go.sweeps.OneByOne.{filesystems_go_one_by_one}

-- A tree of a world in use can move to a mount in a namespace.
pub record CanMove (world : World ℕ) (place : Location ℕ) (first : Mount ℕ) (rest : List (Mount ℕ)) : Type 0 where
  pub in_use : AllInUse world
  pub stand : MountsStand world
  pub located : LocationsStand world
  pub at_attached : is_some (mount_at nat_eq world place).namespace ≡ true
  pub its : (mount : Mount ℕ) → Among mount (first ∷ rest) → Among mount world.mounts

module _ {world : World ℕ} {place : Location ℕ} {first : Mount ℕ} {rest : List (Mount ℕ)}
    (can_move : CanMove world place first rest) (new : Copies ℕ) where
  open can_move use {in_use, stand, located, at_attached, its}

  abbrev after : World ℕ
  after = attached_by nat_eq world new place true (first ∷ rest)

  in_use_then : MountsInUseBut [] after × FilesystemsInUseBut [] (without_dead_mounts nat_eq after)
  in_use_then =
      let all = all_but_those world after.mounts after.master world.filesystems world.namespaces world.tasks []
      (option_to_list first.mount_point) [] in_use stand
      (attached_loses world world.filesystems new place true first rest in_use stand located at_attached (λ e. its))
      (λ group among none.
      attached_groups world world.filesystems new place true first rest in_use stand located at_attached (λ e. its)
      group none) (record { kept = λ f m. m; new = λ f m. inl m }) in
      (all.mounts, all.filesystems)

  pub mounts_live : list_all (mount_lives nat_eq after) after.mounts ≡ true
  mounts_live = in_use_then.0

  pub living_moved : in_use_of after ≡ after
  living_moved = ap (without_dead_filesystems nat_eq) (mounts_go_one_by_one after [] in_use_then.0)
      ∙ subst (λ (w : World ℕ). without_dead_filesystems nat_eq w ≡ w) (mounts_go_one_by_one after [] in_use_then.0)
      (filesystems_go_one_by_one (without_dead_mounts nat_eq after) [] in_use_then.1)
