use Rattle.std.proofs.Common.{List, filter, length, nat_eq, ℕ}
use Rattle.vt_spec.proofs.Common.{World, regrouped}
use Rattle.vt_mounting.proofs.Common.{AllGroupsLive, AreTyped, Has, MountEntry, StillTyped, as_private, counted}
use Rattle.vt_group.specs.Together.{with_changed}
use Rattle.vt_retype.specs.Leaving.{OnlyTypesChange}
use Rattle.vt_mounting.specs.Detach.NamespacesLeft.{AreDetached, Detached, is_attached_in}
use Rattle.vt_mounting.specs.Detach.Stored.{CountNoUses, OverlaysLeft, kept}
use Rattle.vt_mounting.proofs.detach.TypesAside.{gone_numbers}
use Rattle.vt_mounting.proofs.detach.ending.end_namespace.Given as goal

-- those that are gone were detached one after the other, and have left their groups; the mounts that their detaching
-- alone leaves differ in types only
abbrev pub invariant-loop-last : goal.invariant-loop-last
invariant-loop-last l = record {
  gone : List Detached;
  entries : List MountEntry;
  detached : AreDetached (counted l.fn.id.count) gone (kept l.initial.mounts l.initial.store) (kept entries l.store);
  only_types : OnlyTypesChange entries l.mounts;
  groups : (world : World ℕ) → Has world l.initial.groups → AllGroupsLive world
      → Has (regrouped nat_eq (with_changed as_private world (gone_numbers gone))) l.groups;
  types : AreTyped l.initial.groups l.initial.mounts
      → StillTyped l.groups (gone_numbers gone) (gone_numbers gone) l.mounts;
  overlays : OverlaysLeft l.initial.store.overlays l.store.overlays;
  still : CountNoUses l.store;
}

-- how many are still to go
abbrev pub decreases-loop-last : goal.decreases-loop-last
decreases-loop-last l = length (filter (is_attached_in (counted l.fn.id.count)) l.mounts)
