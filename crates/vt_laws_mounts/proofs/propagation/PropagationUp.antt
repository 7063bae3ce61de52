-- Groups up the masters: hearing by the way up, and the nearest that passes a test.
use Rattle.std.proofs.Common.{arith, ◌≡◌, refl, subst, true, false, zero, suc, nat_eq, ℕ, Bool, List, None, Option, Some, [], find, is_some, true≢false, ⊎_elim, ◌∷◌, eqb-true}
use Rattle.vt_spec.proofs.Common.{Among, Lives, Mount, Receives, World, any_among, chain, chain_ends, chain_goes_on, common_steps, further_down, groups_up, has_master, has_no_master, is_among, member, receives, same_Some, slave, some_from_is_some, source_of}
use Rattle.vt_laws_mounts.specs.Mounts.Receivers.{GroupsLive}
use Rattle.vt_laws_mounts.proofs.GroupsKept.{member_shared}
use Rattle.vt_laws_mounts.proofs.GroupsUp.{LivesIn, Up, first_step, live_members, way_up}
use Rattle.vt_laws_mounts.proofs.GroupsUp.Up.{above, here}
use Rattle.vt_laws_mounts.proofs.mounts.Receivers.{receives_completely}

module _ (master : ℕ → Option ℕ) where
  pub up_further : (group lower next : ℕ) → Up master group lower → Up master lower next → Up master group next
  up_further group lower next (here it) way = way
  up_further group lower next (above it step other e up) way = above it step next e (up_further step other next up way)

  -- Up the masters of a living group

  next_lives : (members : ℕ → Bool) (group next : ℕ) → Lives members master group → master group ≡ Some next
      → Lives members master next
  next_lives members group next (has_no_master it has f) e = absurd cc
  next_lives members group next (has_master it step has f later) e =
      subst (Lives members master) (same_Some step next cc) later

  pub lives_up : (members : ℕ → Bool) (group other : ℕ) → Lives members master group → Up master group other
      → Lives members master other
  lives_up members group other life (here it) = life
  lives_up members group other life (above it next end e way) =
      lives_up members next end (next_lives members it next life e) way

  -- what holds of a group if it holds of its master holds of each living group
  pub by_masters : (members : ℕ → Bool) (P : ℕ → Type 0)
      → ((group : ℕ) → Lives members master group → ((next : ℕ) → master group ≡ Some next → P next) → P group)
      → (group : ℕ) → Lives members master group → P group
  by_masters members P each group (has_no_master it has f) = each it (has_no_master it has f) (λ next e. absurd cc)
  by_masters members P each group (has_master it step has f later) =
      each it (has_master it step has f later)
      (λ next e. subst P (same_Some step next cc) (by_masters members P each step later))

  -- a living group does not come up its own master
  pub no_loop : (members : ℕ → Bool) (group : ℕ) → Lives members master group → (next : ℕ) → master group ≡ Some next
      → Up master next group → ⊥
  no_loop members = by_masters members (λ group. (next : ℕ) → master group ≡ Some next → Up master next group → ⊥)
      (λ group life later next e way. ⊎_elim (λ same. later next e next (cc (same, e)) (here next))
      (λ t. later next e t.0 t.1 (up_further t.0 group next t.2 (above group next next e (here next))))
      (first_step master next group way))

  -- the nearest group up the masters that passes a test
  pub data Nearest (test : ℕ → Bool) : ℕ → ℕ → Type 0 where
    itself : (group : ℕ) → test group ≡ true → Nearest test group group
    further : (group next near : ℕ) → test group ≡ false → master group ≡ Some next → Nearest test next near
        → Nearest test group near

  pub nearest_passes : (test : ℕ → Bool) (group near : ℕ) → Nearest test group near → test near ≡ true
  nearest_passes test group near (itself it e) = e
  nearest_passes test group near (further it next end e f later) = nearest_passes test next end later

  pub nearest_up : (test : ℕ → Bool) (group near : ℕ) → Nearest test group near → Up master group near
  nearest_up test group near (itself it e) = here it
  nearest_up test group near (further it next end e f later) = above it next end f (nearest_up test next end later)

  pub found_nearest : (test : ℕ → Bool) (n group near : ℕ) → find test (chain n master group) ≡ Some near
      → Nearest test group near
  found_nearest test zero group near e = grind (arith, common_steps, itself)
  found_nearest test (suc n) group near e = by _ refl (found_nearest test n)
    where
      by : (up : Option ℕ) → master group ≡ up
          → ((next end : ℕ) → find test (chain n master next) ≡ Some end → Nearest test next end)
          → Nearest test group near
      by None f later = grind (arith, common_steps, chain_ends master n group f, itself)
      by (Some next) f later =
          let goes_on : test group ≡ false → find test (chain n master next) ≡ Some near → Nearest test group near =
          λ fails found. further group next near fails f (later next near found) in
          grind (arith, common_steps, chain_goes_on master n group next f, itself, goes_on)

-- where a group of a list passes a test, one is found
pub finds_some : (test : ℕ → Bool) (groups : List ℕ) (group : ℕ) → is_among nat_eq group groups ≡ true
    → test group ≡ true → (near : ℕ) × (find test groups ≡ Some near)
finds_some test groups group m has = some_from_is_some (find test groups) (is_found groups m)
  where
    is_found : (list : List ℕ) → is_among nat_eq group list ≡ true → is_some (find test list) ≡ true
    is_found [] m = absurd cc
    is_found (first ∷ rest) m = grind (arith, common_steps, eqb-true, is_found rest)

-- Hearing

climb : (world : World ℕ) (mount : Mount ℕ) (group other : ℕ) → Up world.master group other
    → Receives world group mount → Receives world other mount
climb world mount group other (here it) r = r
climb world mount group other (above it next end e way) r =
    climb world mount next end way (further_down next it mount e r)

from_source : (world : World ℕ) (mount : Mount ℕ) (source : ℕ) → source_of mount.propagation ≡ Some source
    → Receives world source mount
from_source world mount source e = grind (arith, common_steps, member, slave)

-- a mount hears of each group up from its source,
pub hears : (world : World ℕ) → GroupsLive world → (mount : Mount ℕ) → Among mount world.mounts → (source group : ℕ)
    → source_of mount.propagation ≡ Some source → Up world.master source group
    → receives nat_eq world group mount ≡ true
hears world live mount m source group e way =
    receives_completely world live group mount m (climb world mount source group way (from_source world mount source e))

-- and of no other
pub heard : (world : World ℕ) (mount : Mount ℕ) (group : ℕ) → receives nat_eq world group mount ≡ true
    → (source : ℕ) × (source_of mount.propagation ≡ Some source) × Up world.master source group
heard world mount group h = grind (arith, common_steps, true≢false, way_up)

pub heard_up : (world : World ℕ) (mount : Mount ℕ) (source group : ℕ) → source_of mount.propagation ≡ Some source
    → receives nat_eq world group mount ≡ true → Up world.master source group
heard_up world mount source group e h = grind (arith, common_steps, way_up)

-- where groups live, each group up from one is on its list
pub up_among : (world : World ℕ) → GroupsLive world → (source group : ℕ) → LivesIn world source
    → Up world.master source group → is_among nat_eq group (groups_up world source) ≡ true
up_among world live source group life way = grind (arith, common_steps, live_members, any_among, member_shared, hears)
