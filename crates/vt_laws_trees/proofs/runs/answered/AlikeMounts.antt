-- Calls on mounts and namespaces in two worlds that are alike.
use Rattle.std.proofs.Common.{arith, ◌≡◌, refl, subst, ℕ, nat_eq, Bool, List, [], ◌∷◌, map, filter, flat_map, Option, Some, None}
use Rattle.vt_spec.proofs.Common.{Fresh, Location, Mount, MountFlags, TypeWord, World, after_going, common_steps, deepest_first, filesystem_at, folded, is_point, lazily_unmounted, list_any, mount_numbered, mount_tree, numbers_by, overlay_or, points_of, regrouped, regrouped_by, retyped_mount, taken_away, unmounted, unmounted_if_there, upper_points, with_mount, with_mounts, with_new_groups, with_type, without_mounts_on, without_replaced}
use Rattle.vt_laws_trees.proofs.runs.answered.AlikeChanges.{here_alike}
use Rattle.vt_laws_trees.proofs.runs.answered.AlikeWorlds.{Alike, mounts_of_one, with_mounts_of}
use Rattle.vt_laws_trees.proofs.runs.Each.{chosen}

-- worlds that are alike, with other mounts
pub with_mounts_alike : (one other : World ℕ) → Alike one other → (mounts again : List (Mount ℕ)) → mounts ≡ again
    → Alike (with_mounts one mounts) (with_mounts other again)
with_mounts_alike one other same mounts again alike = grind (arith, common_steps)

-- the two worlds with the same mounts
abbrev pub Keeps : (World ℕ → World ℕ) → Type 0
Keeps step = (one other : World ℕ) → Alike one other → Alike (step one) (step other)

-- it is enough to show it where the mounts are the very ones
pub of_one : (step : World ℕ → World ℕ) → ((one other : World ℕ) → Alike one (with_mounts_of one other)
    → Alike (step one) (step (with_mounts_of one other))) → Keeps step
of_one step keeps one other same =
    mounts_of_one (λ world. Alike one world → Alike (step one) (step world)) one other same (keeps one other) same

pub regrouped_alike : (one other : World ℕ) → Alike one other → Alike (regrouped nat_eq one) (regrouped nat_eq other)
regrouped_alike = of_one (regrouped nat_eq) (λ one other same. by one other same _)
  where
    by : (one other : World ℕ) → Alike one (with_mounts_of one other) → (b : Bool)
        → Alike (regrouped_by nat_eq b one) (regrouped_by nat_eq b (with_mounts_of one other))
    by one other same b = grind (arith, common_steps)

pub taken_alike : (one other : World ℕ) → Alike one other → (gone again : List ℕ) → gone ≡ again
    → Alike (taken_away nat_eq one gone) (taken_away nat_eq other again)
taken_alike one other same gone again alike =
    subst (λ list. Alike (taken_away nat_eq one gone) (taken_away nat_eq other list)) alike
    (of_one (λ world. taken_away nat_eq world gone) (λ first second same. regrouped_alike _ _ (with_mounts_alike first
    (with_mounts_of first second) same (map (after_going nat_eq first gone) first.mounts) _ refl)) one other same)

pub unmounted_alike : (number : ℕ) (one other : World ℕ) → Alike one other
    → Alike (unmounted nat_eq one number) (unmounted nat_eq other number)
unmounted_alike number = of_one _ (λ one other same. taken_alike one (with_mounts_of one other) same _ _ refl)

if_there_alike : (mount : Mount ℕ) (one other : World ℕ) → Alike one other
    → Alike (unmounted_if_there nat_eq one mount) (unmounted_if_there nat_eq other mount)
if_there_alike mount = of_one _ (λ one other same. chosen Alike _ _ refl _ one _ _ (unmounted_alike _ one _ same) same)

each_unmounted : (mounts : List (Mount ℕ)) (one other : World ℕ) → Alike one other
    → Alike (folded (unmounted_if_there nat_eq) one mounts) (folded (unmounted_if_there nat_eq) other mounts)
each_unmounted [] one other same = same
each_unmounted (mount ∷ rest) one other same = each_unmounted rest _ _ (if_there_alike mount one other same)

pub lazily_alike : (number : ℕ) (one other : World ℕ) → Alike one other
    → Alike (lazily_unmounted nat_eq one number) (lazily_unmounted nat_eq other number)
lazily_alike number = of_one (λ world. lazily_unmounted nat_eq world number) (λ one other same. each_unmounted
    (deepest_first nat_eq one (mount_tree nat_eq one.mounts (mount_numbered nat_eq one number))) one _ same)

-- the world with these mounts retyped, before groups without members go
abbrev retyped_first : Fresh ℕ → TypeWord → List (Mount ℕ) → World ℕ → World ℕ
retyped_first fresh word named world = record world {
  mounts = map (retyped_mount nat_eq (numbers_by nat_eq fresh named) word named) world.mounts;
  master = with_new_groups nat_eq (numbers_by nat_eq fresh named) world.master named;
}

retyped_alike : (fresh : Fresh ℕ) (word : TypeWord) (named : List (Mount ℕ)) (one other : World ℕ)
    → Alike one (with_mounts_of one other) → Alike (regrouped nat_eq (retyped_first fresh word named one))
    (regrouped nat_eq (retyped_first fresh word named (with_mounts_of one other)))
retyped_alike fresh word named one other same = grind (arith, common_steps, regrouped_alike, with_mounts_of)

pub type_alike : (fresh : Fresh ℕ) (number : ℕ) (word : TypeWord) (recursive : Bool) (one other : World ℕ)
    → Alike one other
    → Alike (with_type nat_eq fresh one number word recursive) (with_type nat_eq fresh other number word recursive)
type_alike fresh number word recursive = of_one _ (λ one other same. retyped_alike fresh word _ one other same)

pub flags_alike : (number : ℕ) (flags : MountFlags) (one other : World ℕ) → Alike one other → Alike
    (with_mounts one (with_mount nat_eq one.mounts (record (mount_numbered nat_eq one number) { flags = flags })))
    (with_mounts other (with_mount nat_eq other.mounts (record (mount_numbered nat_eq other number) { flags = flags })))
flags_alike number flags = of_one _ (λ one other same. with_mounts_alike one (with_mounts_of one other) same _ _ refl)

-- mounts on a directory
points_same : (location : Location ℕ) (one other : World ℕ) → Alike one other
    → points_of nat_eq one location ≡ points_of nat_eq other location
points_same location one other same =
    let here = here_alike one other same location in
    λ i. (here.number i, location.node)
    ∷ overlay_or [] (λ overlay. upper_points one (filesystem_at nat_eq one location) overlay location.node)
    (here.overlay i)

pub without_mounts_on_alike : (location : Location ℕ) (one other : World ℕ) → Alike one other
    → Alike (without_mounts_on nat_eq one location) (without_mounts_on nat_eq other location)
without_mounts_on_alike location = of_one (λ world. without_mounts_on nat_eq world location) (λ one other same.
    taken_alike one (with_mounts_of one other) same _ _
    (λ i. map (λ (mount : Mount ℕ). mount.number) (flat_map (mount_tree nat_eq one.mounts)
    (filter (λ mount. list_any (λ point. is_point nat_eq one point.0 point.1 mount)
    (points_same location one (with_mounts_of one other) same i)) one.mounts))))

pub without_replaced_alike : (replaced : Option (Location ℕ)) (one other : World ℕ) → Alike one other
    → Alike (without_replaced nat_eq one replaced) (without_replaced nat_eq other replaced)
without_replaced_alike None one other same = same
without_replaced_alike (Some location) one other same = without_mounts_on_alike location one other same
