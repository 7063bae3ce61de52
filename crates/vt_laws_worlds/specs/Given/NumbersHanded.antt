-- The numbers that a call is handed by a program that counts mounts, groups, filesystems and namespaces by one counter,
-- and gives several inodes the numbers of their slots.
use Rattle.std.specs.Prelude.{Bool, List, [], false, if◌then◌else◌, not, true, ℕ, ◌%◌, ◌&&◌, ◌==◌, ◌∷◌, ◌≡◌}
use Rattle.std.specs.List.{list_all, list_any}
use Rattle.vt_spec.specs.Lists.{Fresh, any_pair}
use Rattle.vt_spec.specs.Machine.World.{World}
use Rattle.vt_laws_rules.specs.Numbers.{Allotment, KeepsTo, WorldNamed}
use Rattle.vt_laws_trees.specs.Runs.Handed.{counts_from, is_counted_before, may_be_given}
use Rattle.vt_laws_trees.specs.Runs.Runs.{ServesInHand}

-- a place in a supply, and the number that is handed in there
abbrev pub Placed : Type 0
Placed = ℕ × ℕ

-- counts from the next one on, with these numbers in place of some of them
abbrev pub handed_at : ℕ → List Placed → Fresh ℕ
handed_at next [] k = counts_from next k
handed_at next (placed ∷ rest) k = if k == placed.0 then placed.1 else handed_at next rest k

-- they are even, and each is another
abbrev pub AreApart : List Placed → Type 0
AreApart all = (list_all (λ (placed : Placed). placed.1 % 2 == 0) all ≡ true)
    × (any_pair (λ (a b : Placed). a.1 == b.1) all ≡ false)

-- the even numbers but these, and those counted before the next one
abbrev pub is_named_beside : ℕ → List Placed → ℕ → Bool
is_named_beside next all number =
    is_counted_before next number && not (list_any (λ (placed : Placed). number == placed.1) all)

-- They serve where the world keeps to the numbers before,
abbrev pub NumbersAtPlacesServe : Type 0
NumbersAtPlacesServe =
    (next : ℕ) (all : List Placed) → AreApart all → (world : World ℕ) → KeepsTo (is_named_beside next all) world
    → (allotment : Allotment) × (allotment.new ≡ handed_at next all) × ServesInHand may_be_given world allotment

-- and so where it has no other numbers anywhere.
abbrev pub NumbersAtPlacesServeNamed : Type 0
NumbersAtPlacesServeNamed =
    (next : ℕ) (all : List Placed) → AreApart all → (world : World ℕ) → WorldNamed (is_named_beside next all) world
    → (allotment : Allotment) × (allotment.new ≡ handed_at next all) × ServesInHand may_be_given world allotment
