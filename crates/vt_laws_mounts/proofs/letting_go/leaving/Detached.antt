-- What goes when a mount leaves its place.
use Rattle.std.proofs.Common.{arith, ◌≡◌, refl, ap, ◌∙◌, ◌⊎◌, inl, ℕ, nat_eq, eqb-true, eq-eqb, Bool, true, false, cond, not, List, [], ◌∷◌, find, map, true≢false, Option, Some, None, option_to_list, unwrap_or}
use Rattle.vt_spec.proofs.Common.{Location, Mount, World, after_going, and_parts, common_steps, going_at, going_from, has_child, is_shared, list_all, map_alike, mount_at, mount_in, mount_numbered, inherited_mount_point, no_mount, not-true, number-mount_in, regrouped, taken_away, unmounted, with_mounts}
use Rattle.vt_laws_mounts.specs.LettingGo.Detaching.{StandsUnshared, UnmountIsOfOne, detached_if, without_place}
use Rattle.vt_laws_mounts.proofs.letting_go.Lists.{Among, none_among}

-- The unmount of one mount
module _ (world : World ℕ) (number : ℕ) (alone : has_child nat_eq world number ≡ false) where
  stays_at : (place : Location ℕ) → nat_eq number place.mount ≡ false
      → inherited_mount_point nat_eq world (number ∷ []) place ≡ place
  stays_at place other = grind (arith, common_steps, true≢false, eq-eqb, eqb-true)

  one_by_one : (mount : Mount ℕ) → Among mount world.mounts
      → after_going nat_eq world (number ∷ []) mount ≡ detached_if number mount
  one_by_one mount m = grind (arith, common_steps, stays_at, none_among)

  goes_alone : StandsUnshared world number
      → unmounted nat_eq world number ≡ regrouped nat_eq (without_place world number)
  goes_alone unshared = ap (taken_away nat_eq world) (by _ unshared) ∙ ap
      (λ mounts. regrouped nat_eq (with_mounts world mounts)) (map_alike _ _ _ one_by_one)
    where
      mount : Mount ℕ
      mount = mount_numbered nat_eq world number

      its_number : mount.number ∷ [] ≡ number ∷ []
      its_number = ap (λ n. n ∷ []) (number-mount_in _ number)

      by : (o : Option (Location ℕ))
          → list_all (λ place. not (is_shared (mount_at nat_eq world place).propagation)) (option_to_list o) ≡ true
          → going_at nat_eq world mount o ≡ number ∷ []
      by None e = its_number
      by (Some place) e = ap (going_from nat_eq world mount place)
          (not-true (is_shared (mount_at nat_eq world place).propagation)
          (and_parts (not (is_shared (mount_at nat_eq world place).propagation)) true e).0) ∙ its_number

pub unmount_is_of_one : UnmountIsOfOne
unmount_is_of_one world number alone unshared = goes_alone world number alone unshared

-- A mount of a list that is changed, where numbers stay
pub found-map : (change : Mount ℕ → Mount ℕ) → ((mount : Mount ℕ) → (change mount).number ≡ mount.number)
    → (mounts : List (Mount ℕ)) (number : ℕ)
    → (mount : Mount ℕ) → Among mount mounts → mount_in nat_eq mounts number ≡ mount → mount.number ≡ number
    → mount_in nat_eq (map change mounts) number ≡ change (mount_in nat_eq mounts number)
found-map change same [] number mount m e f = absurd m
found-map change same (first ∷ rest) number mount m e f =
    cc (same first, by _ refl (λ g h. found-map change same rest number mount g h f) m e)
  where
    by : (b : Bool) → nat_eq number first.number ≡ b
        → (Among mount rest → mount_in nat_eq rest number ≡ mount → mount_in nat_eq (map change rest) number
        ≡ change (mount_in nat_eq rest number)) → Among mount (first ∷ rest)
        → unwrap_or (cond (nat_eq number first.number) (Some first) (find (λ x. nat_eq number x.number) rest))
        (no_mount number) ≡ mount
        → unwrap_or (cond b (Some (change first)) (find (λ x. nat_eq number x.number) (map change rest)))
        (no_mount number)
        ≡ change (unwrap_or (cond (nat_eq number first.number) (Some first) (find (λ x. nat_eq number x.number) rest))
        (no_mount number))
    by b g later n h = grind (arith, common_steps, true≢false, eq-eqb)

-- where none has the number, none has it after the change
pub not_found-map : (change : Mount ℕ → Mount ℕ) → ((mount : Mount ℕ) → (change mount).number ≡ mount.number)
    → (mounts : List (Mount ℕ)) (number : ℕ)
    → (mount_in nat_eq (map change mounts) number).filesystem ≡ (mount_in nat_eq mounts number).filesystem
    ⊎ ((mount : Mount ℕ) × Among mount mounts × (mount_in nat_eq mounts number ≡ mount) × (mount.number ≡ number))
not_found-map change same [] number = inl refl
not_found-map change same (first ∷ rest) number =
    grind (arith, common_steps, not_found-map change same rest number, eqb-true)
