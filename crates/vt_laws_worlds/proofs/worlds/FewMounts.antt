-- Where no namespace gets mounts, none has too many.
use Rattle.std.proofs.Common.{◌≡◌, refl, subst, arith, inl, inr, ⊎_elim, ◌⊎◌, ℕ, nat_eq, nat_lt, Bool, true, false, cond, List, [], ◌∷◌, ◌≤◌, filter, map, length, None, le-ltb, ltb-false}
use Rattle.vt_spec.proofs.Common.{Among, Change, Fresh, Location, Mount, Namespace, World, after_going, among-from_filter, common_steps, deepest_first, folded, has_tasks, has_too_many, is_in_ended, lazily_unmounted, most_mounts, mount_numbered, mount_tree, namespaces_ended, none_among, none_from_among, regrouped, taken_away, unmounted_if_there, with_change, with_mounts}
use Rattle.vt_laws_mounts.specs.Mounts.Ending.{count_in, is_in}

abbrev pub NoMore : List (Mount ℕ) → List (Mount ℕ) → Type 0
NoMore after before = (number : ℕ) → count_in after number ≤ count_in before number

-- a mount stays in its namespace, or is in none
abbrev pub StaysOrLeaves : (Mount ℕ → Mount ℕ) → Mount ℕ → Type 0
StaysOrLeaves f mount = ((f mount).namespace ≡ mount.namespace) ⊎ ((f mount).namespace ≡ None)

pub mapped_no_more : (f : Mount ℕ → Mount ℕ) (mounts : List (Mount ℕ))
    → ((mount : Mount ℕ) → Among mount mounts → StaysOrLeaves f mount) → NoMore (map f mounts) mounts
mapped_no_more f [] h number = omega arith
mapped_no_more f (first ∷ rest) h number = by _ _ still (mapped_no_more f rest (λ mount m. h mount (inr m)) number)
  where
    still : is_in number (f first) ≡ true → is_in number first ≡ true
    still is = ⊎_elim (λ same. cc) (λ none. cc) (h first (inl refl))

    by : (b c : Bool) → (b ≡ true → c ≡ true) → count_in (map f rest) number ≤ count_in rest number
        → length (cond b (f first ∷ filter (is_in number) (map f rest)) (filter (is_in number) (map f rest)))
        ≤ length (cond c (first ∷ filter (is_in number) rest) (filter (is_in number) rest))
    by true true imp le = omega (arith, le)
    by true false imp le = cc (imp refl)
    by false true imp le = omega (arith, le)
    by false false imp le = le

pub none_counted : (mounts : List (Mount ℕ)) (number : ℕ) → ((mount : Mount ℕ) → Among mount mounts
    → is_in number mount ≡ false) → count_in mounts number ≡ 0
none_counted [] number h = refl
none_counted (first ∷ rest) number h = cc (h first (inl refl), none_counted rest number (λ mount m. h mount (inr m)))

-- what is no more than enough is no more than that
pub not_too_many : (a b : ℕ) → a ≤ b → nat_lt most_mounts b ≡ false → nat_lt most_mounts a ≡ false
not_too_many a b le few = grind (arith, common_steps, le-ltb, ltb-false most_mounts b few)

pub few_of : (world : World ℕ) → has_too_many nat_eq world ≡ false → (namespace : Namespace ℕ)
    → Among namespace world.namespaces → nat_lt most_mounts (count_in world.mounts namespace.number) ≡ false
few_of world few namespace m = none_among _ _ few namespace m

pub few_after : (world after : World ℕ) → NoMore after.mounts world.mounts
    → ((namespace : Namespace ℕ) → Among namespace after.namespaces → Among namespace world.namespaces)
    → has_too_many nat_eq world ≡ false → has_too_many nat_eq after ≡ false
few_after world after no_more within few =
    none_from_among (λ (n : Namespace ℕ). nat_lt most_mounts (count_in after.mounts n.number)) after.namespaces
    (λ namespace m. not_too_many _ _ (no_more namespace.number) (few_of world few _ (within namespace m)))

-- a world with the same namespaces, none of which has more mounts
abbrev pub Shrinks : World ℕ → World ℕ → Type 0
Shrinks after before = NoMore after.mounts before.mounts × (after.namespaces ≡ before.namespaces)

pub shrinks_few : (world after : World ℕ) → Shrinks after world → has_too_many nat_eq world ≡ false
    → has_too_many nat_eq after ≡ false
shrinks_few world after shrinks few =
    few_after world after shrinks.0 (λ namespace m. subst (Among namespace) shrinks.1 m) few

pub shrinks_itself : (world : World ℕ) → Shrinks world world
shrinks_itself world = (λ number. omega arith, refl)

pub shrinks_then : (a b c : World ℕ) → Shrinks c b → Shrinks b a → Shrinks c a
shrinks_then a b c later first = grind (arith, common_steps, later.0, later.1)

-- A change of a filesystem
pub change_shrinks : (fresh : Fresh ℕ) (world : World ℕ) (location : Location ℕ) (change : Change ℕ)
    → Shrinks (with_change nat_eq fresh world location change) world
change_shrinks fresh world location change = grind (arith, common_steps, shrinks_itself)

-- Mounts that go, or hear of other groups
pub regrouped_shrinks : (world : World ℕ) → Shrinks (regrouped nat_eq world) world
regrouped_shrinks world = grind (arith, common_steps, mapped_no_more, shrinks_itself)

gone_stays : (world : World ℕ) (gone : List ℕ) (mount : Mount ℕ) → StaysOrLeaves (after_going nat_eq world gone) mount
gone_stays world gone mount = grind (arith, common_steps)

pub taken_shrinks : (world : World ℕ) (gone : List ℕ) → Shrinks (taken_away nat_eq world gone) world
taken_shrinks world gone =
    let left : World ℕ = with_mounts world (map (after_going nat_eq world gone) world.mounts) in
    shrinks_then world left (taken_away nat_eq world gone) (regrouped_shrinks left)
    (mapped_no_more (after_going nat_eq world gone) world.mounts (λ mount m. gone_stays world gone mount), refl)

lazily_folded : (mounts : List (Mount ℕ)) (world : World ℕ) → Shrinks (folded
    (unmounted_if_there nat_eq) world mounts) world
lazily_folded [] world = shrinks_itself world
lazily_folded (mount ∷ mounts) world = grind (
  arith,
  common_steps,
  shrinks_then,
  lazily_folded mounts (unmounted_if_there nat_eq world mount),
  taken_shrinks,
  shrinks_itself,
)

pub lazily_shrinks : (world : World ℕ) (number : ℕ) → Shrinks (lazily_unmounted nat_eq world number) world
lazily_shrinks world number =
    lazily_folded (deepest_first nat_eq world (mount_tree nat_eq world.mounts (mount_numbered nat_eq world number)))
    world

-- Namespaces that end
pub ended_few : (world : World ℕ) → has_too_many nat_eq world ≡ false → has_too_many nat_eq
    (namespaces_ended nat_eq world) ≡ false
ended_few world few = few_after world (namespaces_ended nat_eq world)
    (taken_shrinks world (map (λ (mount : Mount ℕ). mount.number) (filter (is_in_ended nat_eq world) world.mounts))).0
    (λ namespace m. (among-from_filter (has_tasks nat_eq world) world.namespaces namespace m).0) few
