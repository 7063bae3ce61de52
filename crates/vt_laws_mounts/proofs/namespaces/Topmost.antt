-- The topmost mount over a place.
use Rattle.std.proofs.Common.{◌≡◌, zero, suc, nat_eq, ℕ, None, Option, Some, arith, length, option_map, ◌+◌, ◌<◌, ◌≤◌}
use Rattle.vt_spec.proofs.Common.{Location, Mount, MountInvariants, World, chain, chain_ends, chain_goes_on, child_at, common_steps, last_of_chain, last_or, root_of, stands_at}
use Rattle.vt_laws_mounts.specs.Mounts.Namespaces.{TopmostIsFree}
use Rattle.vt_laws_mounts.proofs.mounts.MountsFound.{found_in}
use Rattle.vt_laws_mounts.proofs.mounts.MountsPlaces.{stands_there}
use Rattle.vt_laws_mounts.proofs.mounts.MountsReplaced.{found_itself}
use Rattle.vt_laws_mounts.proofs.mounts.Standing.{rank, rank_bounded, rank_child}

-- Mounts stand one over the other at a place. Each is one level higher than the mount on which it stands, and no level
-- is above the number of mounts. So that many steps up end at a place where none stands.
module _ (world : World ℕ) (mounts : MountInvariants nat_eq world) where
  abbrev level : ℕ → ℕ
  level = rank world mounts.one_number mounts.standing

  -- the root of the mount that stands at a place
  abbrev over : Location ℕ → Option (Location ℕ)
  over here = option_map root_of (child_at nat_eq world.mounts here)

  level-child : (here : Location ℕ) (child : Mount ℕ) → child_at nat_eq world.mounts here ≡ Some child
      → level child.number ≡ suc (level here.mount)
  level-child here child e =
      let found = found_in (stands_at nat_eq here) world.mounts child e in
      grind (arith, common_steps, rank_child, found_itself, stands_there)

  level-bounded : (here : Location ℕ) (child : Mount ℕ) → child_at nat_eq world.mounts here ≡ Some child
      → level here.mount < length world.mounts
  level-bounded here child e = omega (
    arith,
    level-child here child e,
    rank_bounded world mounts.one_number mounts.standing child.number,
  )

  child_at-chain : (n : ℕ) (here : Location ℕ) → length world.mounts ≤ n + level here.mount
      → child_at nat_eq world.mounts (last_or here (chain n over here)) ≡ None
  child_at-chain zero here high = grind (arith, common_steps, level-bounded here)
  child_at-chain (suc n) here high = grind (
    arith,
    common_steps,
    level-child here,
    chain_ends over n here,
    chain_goes_on over n here,
    last_of_chain,
    child_at-chain n,
  )

pub topmost_is_free : TopmostIsFree
topmost_is_free world place mounts = child_at-chain world mounts _ place (omega arith)
