-- In each world the root of a mount, and its place, are directories.
use Rattle.std.proofs.Common.{arith, ◌≡◌, refl, true≢false, ℕ, nat_eq, eq-eqb, ne_eqb, Bool, true, false, List, [], ◌∷◌, Option, Some, None, option_to_list, All}
use Rattle.vt_spec.proofs.Common.{All-cons, All-nil, Location, Mount, and_parts, any_pair, common_steps, has_its_root, list_all, list_any, mount_in, none_is_not, or_false_left, or_parts}
use Rattle.std.proofs.lemmas.List.Sums.{AllPass-from_list_all}
use Rattle.vt_laws_trees.specs.Trees.Calls.{WorldsAreStanding}

none_passes : {A : Type 0} (test : A → Bool) (list : List A) → list_any test list ≡ false
    → All (λ a. test a ≡ false) list
none_passes test [] h = All-nil (λ a. test a ≡ false)
none_passes test (a ∷ list) h = All-cons (λ x. test x ≡ false) a list (or_false_left (test a) (list_any test list) h)
    (none_passes test list ((or_parts (test a) (list_any test list) h).1))

-- where no two mounts have one number, each is found by its number
pub found_by_number : (mounts : List (Mount ℕ)) → any_pair (λ a b. nat_eq a.number b.number) mounts ≡ false
    → All (λ mount. mount_in nat_eq mounts mount.number ≡ mount) mounts
found_by_number [] h = All-nil (λ mount. mount_in nat_eq [] mount.number ≡ mount)
found_by_number (first ∷ mounts) h = grind (
  arith,
  common_steps,
  none_passes,
  or_false_left,
  or_parts,
  eq-eqb,
  ne_eqb,
  true≢false,
  found_by_number mounts,
)

listed_place : (test : Location ℕ → Bool) (o : Option (Location ℕ)) (place : Location ℕ)
    → list_all test (option_to_list o) ≡ true → o ≡ Some place → test place ≡ true
listed_place test None place h e = none_is_not None place refl e
listed_place test (Some l) place h e = cc ((and_parts (test l) true h).0)

pub worlds_are_standing : WorldsAreStanding
worlds_are_standing world conditions =
    let rooted = AllPass-from_list_all (has_its_root nat_eq world) world.mounts conditions.roots in
    let found = found_by_number world.mounts conditions.mounts.one_number in
    grind (arith, common_steps, and_parts, listed_place)
