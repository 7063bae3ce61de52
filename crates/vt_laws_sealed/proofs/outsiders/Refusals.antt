-- Calls of others that change nothing.
use Rattle.std.proofs.Common.{arith, sym, subst, ℕ, nat_eq, List, []}
use Rattle.vt_spec.proofs.Common.{Call, Fresh, TaskName, World, common_steps, settled}
use Rattle.vt_laws_sealed.proofs.outsiders.OthersCalls.{apart_from}
use Rattle.vt_laws_sealed.specs.Outsiders.{IsOutsidersCall}
use Rattle.vt_laws_sealed.proofs.outsiders.Staying.{LeavesApart}

module _ {world : World ℕ} {fresh : Fresh ℕ} {names : List TaskName} {name : TaskName} {call : Call}
    (outsider : IsOutsidersCall world fresh names name call) where
  -- the world itself
  pub leaves_apart_itself : LeavesApart world world names []
  leaves_apart_itself = let apart = apart_from outsider in grind (arith, common_steps)

  -- with the sweep, which takes nothing of a world with all invariants
  pub nothing_leaves : LeavesApart world (settled nat_eq world) names []
  nothing_leaves = subst (λ w. LeavesApart world w names []) (sym outsider.is.nothing_unused) leaves_apart_itself
