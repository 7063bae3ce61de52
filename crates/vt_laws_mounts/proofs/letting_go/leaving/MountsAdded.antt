-- Mounts and filesystems that are added.
use Rattle.std.proofs.Common.{arith, ◌≡◌, refl, ap, inl, inr, ⊎_elim, ℕ, nat_eq, true, List, [], ◌∷◌, map, ◌++◌, Option, is_some}
use Rattle.vt_spec.proofs.Common.{Filesystem, Mount, World, common_steps, is_among, is_mounted, is_nowhere_or_attached, list_all, mount_in, mount_lives}
use Rattle.vt_laws_mounts.specs.LettingGo.InUse.{AllInUse}
use Rattle.vt_laws_mounts.specs.LettingGo.Keeping.{LocationsStand, NewMountsKeepAll, has_only_named, with_new}
use Rattle.vt_laws_mounts.specs.LettingGo.Leaving.{MountsStand}
use Rattle.vt_laws_mounts.proofs.letting_go.mounting.MountingLosers.{Comes, Loses, places_stand}
use Rattle.vt_laws_mounts.proofs.letting_go.mounting.MountingOverlays.{nothing_lost}
use Rattle.vt_laws_mounts.proofs.letting_go.Lists.{Among, any_among, list_all_from_among, among-append, among-append_left, or_left, among_from_list_all}

-- a mount that is there is found, whatever follows
pub found_before : (mounts added : List (Mount ℕ)) (number : ℕ)
    → is_among nat_eq number (map (λ mount. mount.number) mounts) ≡ true
    → mount_in nat_eq (mounts ++ added) number ≡ mount_in nat_eq mounts number
found_before [] added number h = cc
found_before (first ∷ rest) added number h = grind (arith, common_steps, found_before rest added number)

module _ {world : World ℕ} (mounts : List (Mount ℕ)) (filesystems : List (Filesystem ℕ)) (master : ℕ → Option ℕ)
    (in_use : AllInUse world) (stand : MountsStand world) (located : LocationsStand world)
    (attached : list_all (λ mount. is_some mount.namespace) mounts ≡ true) where
  abbrev after : World ℕ
  after = with_new world mounts filesystems master

  in_one : (mount : Mount ℕ) → Among mount mounts → is_some mount.namespace ≡ true
  in_one = among_from_list_all _ mounts attached

  still_there : (mount : Mount ℕ) → Among mount world.mounts → Among mount after.mounts
  still_there mount m = among-append_left _ mounts mount m

  lives : (mount : Mount ℕ) → Among mount after.mounts → mount_lives nat_eq after mount ≡ true
  lives mount m = ⊎_elim (among_from_list_all _ _ in_use.mounts mount) (λ new. or_left _ _ (in_one mount new))
      (among-append _ mounts mount m)

  loses : Loses world after [] []
  loses = record {
    images = λ mount m. (mount, (still_there mount m, (refl, refl)));
    shown = λ location m. ap (λ x. x.filesystem) (found_before world.mounts mounts location.mount
        (places_stand world stand located location m));
    live = λ mount m isnt. lives mount m;
    locations = λ location m. inl (inl m);
    places = λ mount m place p. inl (mount, (still_there mount m, (p, inl refl)));
    nowhere = list_all_from_among is_nowhere_or_attached after.mounts (λ mount m.
        ⊎_elim (among_from_list_all is_nowhere_or_attached world.mounts stand.nowhere mount)
        (λ new. or_left (is_some mount.namespace) _ (in_one mount new)) (among-append world.mounts mounts mount m));
  }

  come : list_all (λ filesystem. is_mounted nat_eq after filesystem.number) filesystems ≡ true
      → list_all has_only_named filesystems ≡ true → Comes world after
  come shown named = record {
    kept = λ f m. among-append_left world.filesystems filesystems f m;
    new = λ f m. ⊎_elim inl (λ new. let t = any_among (λ mount. nat_eq f.number mount.filesystem) after.mounts
        (among_from_list_all (λ x. is_mounted nat_eq after x.number) filesystems shown f new) in
        inr (t.0, (t.1, (lives t.0 t.1, (t.2, among_from_list_all has_only_named filesystems named f new)))))
        (among-append world.filesystems filesystems f m);
  }

pub new_mounts_keep_all : NewMountsKeepAll
new_mounts_keep_all world mounts filesystems master in_use stand located attached shown named groups =
    nothing_lost world (world.mounts ++ mounts) master (world.filesystems ++ filesystems) in_use stand
    (loses mounts filesystems master in_use stand located attached) groups
    (come mounts filesystems master in_use stand located attached shown named)
