-- Mounts found by their numbers.
use Rattle.std.proofs.Common.{arith, ◌≡◌, refl, sym, ap, ⊎_elim, ℕ, nat_eq, Bool, true, false, cond, List, [], ◌∷◌, map, true≢false, None, Some, find, unwrap_or}
use Rattle.vt_spec.proofs.Common.{Among, Location, Mount, common_steps, is_among, mount_in, no_mount}
use Rattle.vt_laws_mounts.specs.Mounts.Attaching.{numbers_of}
pub use Rattle.vt_spec.proofs.Worlds.{number-mount_in}
pub use Rattle.vt_spec.proofs.Worlds.{found_or_none}

abbrev has_number : ℕ → Mount ℕ → Bool
has_number number mount = nat_eq number mount.number

-- the first mount is the one that is found, or the search goes on
first_or_later : (first : Mount ℕ) (rest : List (Mount ℕ)) (number : ℕ) (b : Bool) → nat_eq number first.number ≡ b
    → mount_in nat_eq (first ∷ rest) number ≡ cond b first (mount_in nat_eq rest number)
first_or_later first rest number true e =
    ap (λ b. unwrap_or (cond b (Some first) (find (has_number number) rest)) (no_mount number)) e
first_or_later first rest number false e =
    ap (λ b. unwrap_or (cond b (Some first) (find (has_number number) rest)) (no_mount number)) e

-- a number of the list finds a mount of it
pub found_there : (mounts : List (Mount ℕ)) (number : ℕ) → is_among nat_eq number (numbers_of mounts) ≡ true
    → Among (mount_in nat_eq mounts number) mounts
found_there [] number h = cc
found_there (first ∷ rest) number h = grind (arith, common_steps, found_there rest number, first_or_later)

-- a mount that has a place is one of the list
pub placed_among : (mounts : List (Mount ℕ)) (number : ℕ) (place : Location ℕ)
    → (mount_in nat_eq mounts number).mount_point ≡ Some place → Among (mount_in nat_eq mounts number) mounts
placed_among mounts number place e = ⊎_elim (λ m. m) (λ none. absurd cc) (found_or_none mounts number)

-- what a test finds is in the list, and passes it
pub found_in : (test : Mount ℕ → Bool) (mounts : List (Mount ℕ)) (found : Mount ℕ) → find test mounts ≡ Some found
    → Among found mounts × (test found ≡ true)
found_in test [] found e = cc
found_in test (first ∷ rest) found e = grind (arith, common_steps, found_in test rest found)

-- where none is found no one passes
pub unfound : (test : Mount ℕ → Bool) (mounts : List (Mount ℕ)) → find test mounts ≡ None
    → (mount : Mount ℕ) → Among mount mounts → test mount ≡ false
unfound test [] e mount m = absurd m
unfound test (first ∷ rest) e mount m = grind (arith, common_steps, unfound test rest, true≢false)

-- a change of each mount that keeps the numbers is found under them
pub found-map : (f : Mount ℕ → Mount ℕ) → ((mount : Mount ℕ) → (f mount).number ≡ mount.number)
    → (mounts : List (Mount ℕ)) (number : ℕ) → f (no_mount number) ≡ no_mount number
    → mount_in nat_eq (map f mounts) number ≡ f (mount_in nat_eq mounts number)
found-map f numbers [] number none = sym none
found-map f numbers (first ∷ rest) number none = grind (arith, common_steps, found-map f numbers rest number none)

-- as that, of a mount that is there
pub found-map_there : (f : Mount ℕ → Mount ℕ) → ((mount : Mount ℕ) → (f mount).number ≡ mount.number)
    → (mounts : List (Mount ℕ)) (number : ℕ) → is_among nat_eq number (map (λ mount. mount.number) mounts) ≡ true
    → mount_in nat_eq (map f mounts) number ≡ f (mount_in nat_eq mounts number)
found-map_there f numbers [] number there = cc
found-map_there f numbers (first ∷ rest) number there =
    grind (arith, common_steps, found-map_there f numbers rest number)

pub numbers-map : (f : Mount ℕ → Mount ℕ) → ((mount : Mount ℕ) → (f mount).number ≡ mount.number)
    → (mounts : List (Mount ℕ)) → map (λ mount. mount.number) (map f mounts) ≡ map (λ mount. mount.number) mounts
numbers-map f numbers [] = refl
numbers-map f numbers (first ∷ rest) = cc (numbers first, numbers-map f numbers rest)
