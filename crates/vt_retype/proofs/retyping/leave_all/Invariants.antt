use Rattle.std.proofs.Common.{map, nat_eq, take, ℕ}
use Rattle.vt_spec.proofs.Common.{World, regrouped}
use Rattle.vt_location.specs.Numbers.{counted}
use Rattle.vt_group.specs.Grouping.{Has}
use Rattle.vt_group.specs.Together.{as_private, with_changed}
use Rattle.vt_retype.specs.Leaving.{OnlyTypesChange}
use Rattle.vt_retype.specs.Retyping.{AreTypedBut, HaveNoSource}
use Rattle.vt_retype.proofs.Left.{StillTyped}
use Rattle.vt_retype.proofs.retyping.leave_all.Given as goal
use Rattle.vt_laws_mounts.specs.Mounts.Receivers.{AllGroupsLive}

-- those before have left
abbrev pub invariant-loop-id : goal.invariant-loop-id
invariant-loop-id l = record {
  groups : (world : World ℕ) → Has world l.initial.groups → AllGroupsLive world
      → Has (regrouped nat_eq (with_changed as_private world (map (λ id. counted id.count) (take l.id-index l.ids))))
      l.groups;
  types : HaveNoSource (map (λ id. counted id.count) l.ids) l.initial.mounts
      → AreTypedBut l.initial.groups (map (λ id. counted id.count) l.ids) l.initial.mounts
      → StillTyped l.groups (map (λ id. counted id.count) l.ids)
      (map (λ id. counted id.count) (take l.id-index l.ids)) l.mounts;
  only_types : OnlyTypesChange l.initial.mounts l.mounts;
}
