-- A tree of mounts that is attached stands where it is attached, and what it pushes up stands on it.
use Rattle.std.proofs.Common.{arith, ◌≡◌, refl, sym, ap, subst, ◌∙◌, true, nat_eq, ℕ, List, None, Option, Some, [], inl, length, option_map, suc, true≢false, zero, ◌∷◌}
use Rattle.vt_spec.proofs.Common.{Among, Location, Mount, Stands, World, among-from_filter, among_from_all, among_from_list_all, at_root, chain, chain_ends, chain_goes_on, child_at, common_steps, found_or_none, last_of_chain, last_or, mount_numbered, number-mount_in, on_parent, parts_of, rest_of, root_of, same_Some, top_of_copies}
use Rattle.vt_laws_mounts.specs.Mounts.Attaching.{OneNumberAMount, is_mount}
use Rattle.vt_laws_mounts.specs.Mounts.Invariants.{NowhereOrAttached}
use Rattle.vt_laws_mounts.specs.Mounts.Standing.{AllStand}
use Rattle.vt_laws_mounts.proofs.mounts.MountsFound.{found_in, placed_among}
use Rattle.vt_laws_mounts.proofs.mounts.MountsNumbered.{is_one_of}
use Rattle.vt_laws_mounts.proofs.mounts.MountsReplaced.{found_itself}

-- A list of mounts is a tree: its first is the top, and each other one stands on one of them
pub data Hangs (mounts : List (Mount ℕ)) : ℕ → Type 0 where
  from_top : (first : Mount ℕ) (rest : List (Mount ℕ)) → mounts ≡ first ∷ rest → Hangs mounts first.number
  from_parent : (origin : Mount ℕ) (place : Location ℕ) → Among origin mounts → origin.mount_point ≡ Some place
      → Hangs mounts place.mount → Hangs mounts origin.number

-- a mount of this number hangs in the list
pub hanging : (mounts : List (Mount ℕ)) (number : ℕ) → Hangs mounts number
    → (origin : Mount ℕ) × Among origin mounts × (origin.number ≡ number)
hanging mounts number (from_top first rest e) = (first, subst (Among first) (sym e) (inl refl), refl)
hanging mounts number (from_parent origin place m e later) = (origin, m, refl)

-- mounts over a place are some of the list
module _ (mounts : List (Mount ℕ)) where
  abbrev pub cover : Location ℕ → Option (Location ℕ)
  cover place = option_map root_of (child_at nat_eq mounts place)

  over_among : (n : ℕ) (here : Location ℕ) (x : Mount ℕ) → Among x mounts → here.mount ≡ x.number
      → (y : Mount ℕ) × Among y mounts × ((last_or here (chain n cover here)).mount ≡ y.number)
  over_among zero here x m e = (x, m, e)
  over_among (suc n) here x m e = by _ refl (over_among n)
    where
      by : (child : Option (Mount ℕ)) → child_at nat_eq mounts here ≡ child
          → ((place : Location ℕ) (z : Mount ℕ) → Among z mounts → place.mount ≡ z.number
          → (y : Mount ℕ) × Among y mounts × ((last_or place (chain n cover place)).mount ≡ y.number))
          → (y : Mount ℕ) × Among y mounts × ((last_or here (chain (suc n) cover here)).mount ≡ y.number)
      by None f later =
          (x, m, ap (λ l. (last_or here l).mount) (chain_ends cover n here (ap (option_map root_of) f)) ∙ e)
      by (Some child) f later =
          let t = later (root_of child) child (found_in _ mounts child f).0 refl in (
            t.0,
            t.1,
            ap (λ (l : Location ℕ). l.mount) (ap (last_or here) (chain_goes_on cover n here _
                (ap (option_map root_of) f)) ∙ last_of_chain cover n _ here) ∙ t.2,
          )

-- what stands at a receiver goes onto a copy
pub top_among : (copies : List (Mount ℕ)) (place : Location ℕ) (copy : Mount ℕ) → Among copy copies
    → (y : Mount ℕ) × Among y copies × ((top_of_copies nat_eq copies place).mount ≡ y.number)
top_among [] place copy m = absurd m
top_among (first ∷ rest) place copy m =
    over_among (first ∷ rest) (length (first ∷ rest)) (root_of first) first (inl refl) refl

-- what a mount stands on is there, where mounts outside every namespace have no place
pub stood_on_there : (world : World ℕ) → NowhereOrAttached world → (number : ℕ) (on : Location ℕ)
    → (mount_numbered nat_eq world number).mount_point ≡ Some on
    → (mount_numbered nat_eq world number).namespace ≡ (mount_numbered nat_eq world on.mount).namespace
    → is_mount world on.mount ≡ true
stood_on_there world nowhere number on e f = grind (
  arith,
  common_steps,
  number-mount_in world.mounts on.mount,
  is_one_of world.mounts (mount_numbered nat_eq world on.mount),
  placed_among world.mounts number on e,
  found_or_none world.mounts on.mount,
  true≢false,
  among_from_list_all,
)

pub on_mounts : (world : World ℕ) → OneNumberAMount world.mounts → NowhereOrAttached world → AllStand world
    → (mount : Mount ℕ) → Among mount world.mounts → (on : Location ℕ) → mount.mount_point ≡ Some on
    → is_mount world on.mount ≡ true
on_mounts world one nowhere all mount m on e = by (among_from_all (λ (x : Mount ℕ). Stands nat_eq world x.number)
    world.mounts all mount m) (found_itself world.mounts one mount m)
  where
    by : Stands nat_eq world mount.number → mount_numbered nat_eq world mount.number ≡ mount
        → is_mount world on.mount ≡ true
    by (at_root number f) itself = cc
    by (on_parent number at f g stands) itself = grind (arith, common_steps, at, same_Some, stood_on_there)

-- a receiver that takes part is one of the world's mounts
pub taker_there : (world : World ℕ) (place : Location ℕ) (mount : Mount ℕ)
    → Among mount (rest_of (parts_of nat_eq world place)) → Among mount world.mounts
taker_there world place mount m = grind (arith, common_steps, among-from_filter)
