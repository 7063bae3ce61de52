use Rattle.std.proofs.Common.{ap, find, map, nat_eq, refl, subst, sym, ◌∙◌}
use Rattle.vt_spec.proofs.Common.{IfOk-weaker}
use Rattle.vt_ns.proofs.Common.{IsHeld, WorldValue, location_of, mount_of, mounts_in}
use Rattle.vt_ns.proofs.Overfilling.{groupless, nothing_added, only_part}
use Rattle.vt_ns.proofs.world.World.has_too_many_with.Goals as goal

pub returns-then-has_room_everywhere : goal.returns-then-has_room_everywhere
returns-then-has_room_everywhere c = record {
  ok = λ world new tree same invariants parts size.
      sym (c.has_room_everywhere.ensures c.if-has_room_everywhere.true world new (location_of c.args.place) tree
      (ap (λ (value : WorldValue). mounts_in value.mounts) c.self.view_is ∙ same) size);
  held = subst IsHeld c.self.view_is c.self.invariant;
}

pub returns-in_default : goal.returns-in_default
returns-in_default c = record {
  ok = λ world new tree same invariants parts size.
      nothing_added (mounts_in c.self.inside.mounts) (location_of c.args.place)
      (sym c.in_default.ensures) world new tree
      (ap (λ (value : WorldValue). mounts_in value.mounts) c.self.view_is ∙ same) invariants;
  held = subst IsHeld c.self.view_is c.self.invariant;
}

pub returns-in-Shared : goal.returns-in-Shared
returns-in-Shared c = record {
  ok = IfOk-weaker c.overfills.result _ _ (λ too_many tells world new tree same invariants parts size.
      tells world new (location_of c.args.place) tree
      (ap (λ (value : WorldValue). mounts_in value.mounts) c.self.view_is ∙ same) invariants
      (ap (map mount_of) c.deref.ensures.value ∙ c.in_ok-parts.ensures.ok ∙ sym parts) size refl)
      c.overfills.ensures.added;
  held = subst IsHeld c.self.view_is c.self.invariant;
}

pub returns : goal.returns
returns c = record {
  ok = IfOk-weaker c.overfills-2.result _ _ (λ too_many tells world new tree same invariants parts size.
      let here = ap (λ (value : WorldValue). mounts_in value.mounts) c.self.view_is ∙ same in
      tells world new (location_of c.args.place) tree here invariants
      (only_part world (location_of c.args.place) (mount_of c.in-Some.parent)
      (ap (find (λ mount. nat_eq (location_of c.args.place).mount mount.number)) (sym here) ∙ sym c.in-Some.ensures)
      (groupless c.in-Some.parent.propagation c.in_default-propagation.not-Shared)) size refl)
      c.overfills-2.ensures.added;
  held = subst IsHeld c.self.view_is c.self.invariant;
}
