use Rattle.std.proofs.Common.{[], map, nat_eq, take, ℕ}
use Rattle.vt_spec.proofs.Common.{World, regrouped}
use Rattle.vt_location.specs.Numbers.{counted}
use Rattle.vt_group.specs.Grouping.{Has}
use Rattle.vt_group.specs.Together.{as_slave, with_changed}
use Rattle.vt_retype.specs.Retyping.{AreTypedBut}
use Rattle.vt_retype.proofs.Left.{ReTyped}
use Rattle.vt_retype.proofs.retyping.make_slaves.Given as goal
use Rattle.vt_laws_mounts.specs.Mounts.Receivers.{AllGroupsLive}

-- those before are slaves, if they were members
abbrev pub invariant-loop-id : goal.invariant-loop-id
invariant-loop-id l = record {
  groups : (world : World ℕ) → Has world l.initial.groups → AllGroupsLive world
      → Has (regrouped nat_eq (with_changed as_slave world (map (λ id. counted id.count) (take l.id-index l.ids))))
      l.groups;
  types : AreTypedBut l.initial.groups [] l.initial.mounts → ReTyped l.groups l.initial.mounts l.mounts;
}
