-- What a permit that a call is given leaves is a world, with overlays too.
use Rattle.std.proofs.Common.{arith, ◌≡◌, refl, subst, ℕ, nat_eq, Bool, true, false}
use Rattle.vt_spec.proofs.Common.{Call, Fresh, IsWorld, MountOverlay, OverlayInvariants, Permit, Task, World, apply, call_outcome, common_steps}
use Rattle.vt_laws_rules.proofs.judged.CallsJudged.{call_is_judged_then_applied}
use Rattle.vt_laws_trees.specs.Trees.Calls.{mounts_overlay}
use Rattle.vt_laws_worlds.specs.Worlds.Kept.{IsUnderWay}
use Rattle.vt_laws_worlds.proofs.merging.mounted.Worlds.{mounting_leaves_a_world}
use Rattle.vt_laws_worlds.proofs.overlay_permits.worlds.EveryCall.{overlays_kept, under}
use Rattle.vt_laws_worlds.proofs.overlay_permits.worlds.SweptWorlds.{settled_is_a_world}
use Rattle.vt_laws_worlds.specs.Given.LeftWorlds.{GivenPermitsAreUnderWayAnywhere, GivenPermitsLeaveEveryWorld, IsGivenToTask}

module _ {world : World ℕ} {fresh : Fresh ℕ} {task : Task ℕ} {permit : Permit ℕ} (is : IsWorld nat_eq world)
    (given : IsGivenToTask fresh world task permit) where
  abbrev IsReady : World ℕ → Type 0
  IsReady w = IsUnderWay w × OverlayInvariants nat_eq w

  applied : (call_outcome nat_eq fresh world task given.call).world ≡ (apply nat_eq fresh world task permit).world
  applied = cc (call_is_judged_then_applied fresh world task given.call, given.judged)

  -- a world is one before the sweep, too
  world_is_ready : (w : World ℕ) → IsWorld nat_eq w → IsReady w
  world_is_ready w whole = grind (arith, common_steps)

  mounting : (call : Call) → mounts_overlay call ≡ true → IsReady (call_outcome nat_eq fresh world task call).world
  mounting (MountOverlay path options flags) e =
      world_is_ready (call_outcome nat_eq fresh world task (MountOverlay path options flags)).world
      (mounting_leaves_a_world fresh world task path options flags is given.serves given.called)
  mounting call e = absurd cc

  outcome_ready : (b : Bool) → mounts_overlay given.call ≡ b
      → IsReady (call_outcome nat_eq fresh world task given.call).world
  outcome_ready true e = mounting given.call e
  outcome_ready false e = (
    under given.call is given.serves given.called e given.few_groups given.judged,
    overlays_kept given.call is given.serves given.called e given.few_groups given.judged,
  )

  ready : IsReady (apply nat_eq fresh world task permit).world
  ready = subst IsReady applied (outcome_ready (mounts_overlay given.call) refl)

pub given_permits_are_under_way_anywhere : GivenPermitsAreUnderWayAnywhere
given_permits_are_under_way_anywhere world fresh task permit is given = ready is given

pub given_permits_leave_every_world : GivenPermitsLeaveEveryWorld
given_permits_leave_every_world world fresh task permit is given =
    let before = ready is given in
    settled_is_a_world (apply nat_eq fresh world task permit).world before.0 before.1
