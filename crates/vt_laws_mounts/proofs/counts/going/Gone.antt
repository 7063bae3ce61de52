-- Mounts and filesystems that go at zero.
use Rattle.std.proofs.Common.{◌≡◌, refl, ap, ◌∙◌, ℕ, ◌+◌, nat_eq, eqb-true, Bool, true, false, cond, not, ◌||◌, List, [], ◌∷◌, map, filter, find, Some, unwrap_or, arith}
use Rattle.vt_spec.proofs.Common.{Mount, any_pair, common_steps, filter_all, is_among, is_mounted, list_any, mount_in, nat_eq-swapped, no_mount, or-false, or_parts}
use Rattle.vt_laws_mounts.specs.LettingGo.Counts.{times}
use Rattle.vt_laws_mounts.specs.LettingGo.OneByOne.{without_filesystem}
use Rattle.vt_laws_mounts.proofs.letting_go.Lists.{none_among}
use Rattle.vt_laws_mounts.proofs.letting_go.sweeps.LookedUp.{filesystem_is_looked_up, mount_is_looked_up}
use Rattle.vt_laws_mounts.proofs.letting_go.leaving.PlacesLeft.{no_layers}
use Rattle.vt_laws_mounts.proofs.letting_go.sweeps.UsesCounted.{located_while_counted, mounted_while_counted}
use Rattle.vt_laws_mounts.specs.Counts.Going.{FilesystemGoesAtZero, MountGoesAtZero, MountTakesItsCount}
use Rattle.vt_laws_mounts.proofs.counts.using.Swept.{plain_of}

pub mount_goes_at_zero : MountGoesAtZero
mount_goes_at_zero world number one = cc (mount_is_looked_up world number one, located_while_counted world number)

pub filesystem_goes_at_zero : FilesystemGoesAtZero
filesystem_goes_at_zero world number plain = filesystem_is_looked_up world number
    ∙ ap (λ b. cond (is_mounted nat_eq world number || b) world (without_filesystem world number))
    (no_layers number world world.filesystems (plain_of world plain))
    ∙ ap (λ b. cond b world (without_filesystem world number))
    (or-false (is_mounted nat_eq world number) ∙ mounted_while_counted world number)

-- a list without its one element of a number
one_taken : (test : Mount ℕ → Bool) (mounts : List (Mount ℕ)) (number : ℕ)
    → any_pair (λ (a b : Mount ℕ). nat_eq a.number b.number) mounts ≡ false
    → is_among nat_eq number (map (λ mount. mount.number) mounts) ≡ true
    → times test mounts ≡ times test (filter (λ mount. not (nat_eq mount.number number)) mounts) + cond
    (test (mount_in nat_eq mounts number)) 1 0
one_taken test [] number one there = absurd cc
one_taken test (first ∷ rest) number one there = by _ refl there (one_taken test rest number parts.1)
  where
    parts : (list_any (λ b. nat_eq first.number b.number) rest ≡ false)
        × (any_pair (λ (a b : Mount ℕ). nat_eq a.number b.number) rest ≡ false)
    parts = or_parts _ _ one

    left : List (Mount ℕ)
    left = filter (λ mount. not (nat_eq mount.number number)) rest

    by : (b : Bool) → nat_eq number first.number ≡ b
        → (b || is_among nat_eq number (map (λ mount. mount.number) rest)) ≡ true
        → (is_among nat_eq number (map (λ mount. mount.number) rest) ≡ true → times test rest
        ≡ times test left + cond (test (mount_in nat_eq rest number)) 1 0)
        → times test (first ∷ rest) ≡ times test (cond (not (nat_eq first.number number)) (first ∷ left) left)
        + cond (test (unwrap_or (cond b (Some first) (find (λ mount. nat_eq number mount.number) rest))
        (no_mount number))) 1 0
    by true e h later = grind (arith, common_steps, filter_all, nat_eq-swapped, eqb-true, none_among, parts)
    by false e h later = grind (arith, common_steps, nat_eq-swapped)

pub mount_takes_its_count : MountTakesItsCount
mount_takes_its_count world number filesystem one there = one_taken _ _ number one there
