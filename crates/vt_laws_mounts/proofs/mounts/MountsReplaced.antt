-- A mount in the place of the one with its number.
use Rattle.std.proofs.Common.{arith, ◌≡◌, refl, ap, ◌∙◌, List, [], eq-eqb, eqb-true, nat_eq, ℕ, ◌++◌, ◌||◌, ◌∷◌, false, true, if◌then◌else◌}
use Rattle.vt_spec.proofs.Common.{Among, Mount, any_pair, common_steps, is_among, list_any, mount_in, nat_eq_false_turned, no_mount, none_among, number-mount_in, or_parts, replaced_if_same, with_mount}
use Rattle.vt_laws_mounts.proofs.mounts.MountsFound.{found-map, numbers-map}
use Rattle.vt_laws_mounts.specs.Mounts.Attaching.{numbers_of, OneNumberAMount}
pub use Rattle.vt_spec.proofs.Worlds.{tree_among}

module _ (new : Mount ℕ) where
  pub replaced_there : (old : Mount ℕ) → nat_eq new.number old.number ≡ true → replaced_if_same nat_eq new old ≡ new
  replaced_there old e = ap (λ b. if b then new else old) e

  pub replaced_elsewhere : (old : Mount ℕ) → nat_eq new.number old.number ≡ false
      → replaced_if_same nat_eq new old ≡ old
  replaced_elsewhere old e = ap (λ b. if b then new else old) e

  pub number_replaced : (old : Mount ℕ) → (replaced_if_same nat_eq new old).number ≡ old.number
  number_replaced old = grind (arith, common_steps, eqb-true)

  -- the other mounts are found as they were
  pub found-with_mount_other : (mounts : List (Mount ℕ)) (number : ℕ) → nat_eq new.number number ≡ false
      → mount_in nat_eq (with_mount nat_eq mounts new) number ≡ mount_in nat_eq mounts number
  found-with_mount_other mounts number e = found-map _ number_replaced mounts number (replaced_elsewhere _ e)
      ∙ replaced_elsewhere _ (ap (nat_eq new.number) (number-mount_in mounts number) ∙ e)

  pub numbers-with_mount : (mounts : List (Mount ℕ)) → numbers_of (with_mount nat_eq mounts new) ≡ numbers_of mounts
  numbers-with_mount mounts = numbers-map _ number_replaced mounts

  -- where a mount has its number, it is found itself
  pub found-with_mount_itself : (mounts : List (Mount ℕ)) → is_among nat_eq new.number (numbers_of mounts) ≡ true
      → mount_in nat_eq (with_mount nat_eq mounts new) new.number ≡ new
  found-with_mount_itself [] h = absurd cc
  found-with_mount_itself (first ∷ rest) h =
      grind (arith, common_steps, found-with_mount_itself rest, replaced_there, eq-eqb, replaced_elsewhere)

-- a number that no mount has
pub none_numbered : (mounts : List (Mount ℕ)) (number : ℕ) → is_among nat_eq number (numbers_of mounts) ≡ false
    → mount_in nat_eq mounts number ≡ no_mount number
none_numbered [] number h = refl
none_numbered (first ∷ rest) number h = grind (arith, common_steps, or_parts, none_numbered rest number)

-- A mount that is changed where it stands, as it is found: what holds between the old and the new holds of what is
-- found before and after.
module _ (R : Mount ℕ → Mount ℕ → Type 0) (same : (mount : Mount ℕ) → R mount mount) where
  pub related-with_mount : (mounts : List (Mount ℕ)) (new : Mount ℕ) → R (mount_in nat_eq mounts new.number) new
      → (number : ℕ) → R (mount_in nat_eq mounts number) (mount_in nat_eq (with_mount nat_eq mounts new) number)
  related-with_mount mounts new r number = grind (
    arith,
    common_steps,
    found-with_mount_itself,
    none_numbered,
    numbers-with_mount,
    eqb-true,
    found-with_mount_other,
  )

-- what stands first in a list is found there
pub found-append : (mounts others : List (Mount ℕ)) (number : ℕ) → is_among nat_eq number (numbers_of mounts) ≡ true
    → mount_in nat_eq (mounts ++ others) number ≡ mount_in nat_eq mounts number
found-append [] others number h = absurd cc
found-append (first ∷ rest) others number h = grind (arith, common_steps, found-append rest others number)

-- where no two mounts have one number, a mount is found by its own
pub found_itself : (mounts : List (Mount ℕ)) → OneNumberAMount mounts → (mount : Mount ℕ) → Among mount mounts
    → mount_in nat_eq mounts mount.number ≡ mount
found_itself [] one mount m = absurd m
found_itself (first ∷ rest) one mount m =
    grind (arith, common_steps, or_parts, eq-eqb, nat_eq_false_turned, none_among, found_itself rest)

any_by_numbers : (number : ℕ) (mounts : List (Mount ℕ))
    → list_any (λ (other : Mount ℕ). nat_eq number other.number) mounts ≡ list_any (nat_eq number) (numbers_of mounts)
any_by_numbers number [] = refl
any_by_numbers number (mount ∷ mounts) = ap (λ b. nat_eq number mount.number || b) (any_by_numbers number mounts)

pub pair_by_numbers : (mounts : List (Mount ℕ))
    → any_pair (λ (a b : Mount ℕ). nat_eq a.number b.number) mounts ≡ any_pair nat_eq (numbers_of mounts)
pair_by_numbers [] = refl
pair_by_numbers (mount ∷ mounts) = cc (any_by_numbers _ mounts, pair_by_numbers mounts)

pub one_number_by_numbers : (before later : List (Mount ℕ)) → numbers_of later ≡ numbers_of before
    → OneNumberAMount before → OneNumberAMount later
one_number_by_numbers before later same e = cc (pair_by_numbers later, pair_by_numbers before)
