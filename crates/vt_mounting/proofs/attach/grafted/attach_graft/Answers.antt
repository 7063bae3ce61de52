use Rattle.std.proofs.Common.{List, ap, map, subst, sym, ◌++◌, ◌≡◌, ◌∙◌}
use Rattle.vt_group.specs.declared.groups.NewGroup.{NewGroup}
use Rattle.vt_mounting.proofs.Common.{AttachesBy, MovesOnce, are_ascending, mount_of, mounts_in, new_group}
use Rattle.vt_location.specs.declared.mounts.Mount.{Mount}
use Rattle.vt_mounting.specs.Attach.Planned.{Point}
use Rattle.vt_mounting.specs.Attach.PlannedUses.{point_seen}
use Rattle.vt_mounting.proofs.attach.grafted.attach_graft.Goals as goal

pub attach_planned-requires-clause-ascending : goal.attach_planned-requires-clause-ascending
attach_planned-requires-clause-ascending c = λ order.
    let may = c.requires.may in
    let front = mounts_in c.args.mounts.now in
    let attaches = c.in_ok-plan.ensures.ok may.world may.seen may.one_child may.parts_are in
    ap (λ (list : List Mount). are_ascending (front ++ map mount_of list)) c.deref.ensures.value
    ∙ ap (λ list. are_ascending (front ++ list)) attaches.copies_are ∙ may.ascending

pub returns-clause-ok : goal.returns-clause-ok
returns-clause-ok c =
    let plan = c.in_ok-plan.plan in
    let made = c.in_ok-attach_planned.ensures.ok in
    let copies : plan.copies.items ≡ c.deref.result.now = sym c.deref.ensures.value in
    let groups : plan.groups.items ≡ c.deref-2.result.now = sym c.deref-2.ensures.value in
    let points : plan.points.items ≡ c.deref-3.result.now = sym c.deref-3.ensures.value in
    record {
      copies = c.deref.result.now;
      groups = c.deref-2.result.now;
      points = c.deref-3.result.now;
      left = made.0;
      plan = λ world seen one_child parts.
          subst (λ (list : List Mount). AttachesBy world c.args.graft.now c.args.counts (map mount_of list)
          (map new_group c.deref-2.result.now) (map point_seen c.deref-3.result.now)) copies
          (subst (λ (list : List NewGroup). AttachesBy world c.args.graft.now c.args.counts
          (map mount_of plan.copies.items) (map new_group list) (map point_seen c.deref-3.result.now)) groups
          (subst (λ (list : List Point). AttachesBy world c.args.graft.now c.args.counts
          (map mount_of plan.copies.items) (map new_group plan.groups.items) (map point_seen list)) points
          (c.in_ok-plan.ensures.ok world seen one_child parts)));
      once = subst (λ (list : List Point). MovesOnce (mounts_in c.args.mounts.now) (map point_seen list)) points
          (c.in_ok-plan.ensures.once c.requires.may.apart);
      left_are = made.1;
      left_small = made.2;
      done = made.3;
      grows = c.in_ok-attach_planned.ensures.groups_ok;
      slots = c.in_ok-attach_planned.ensures.slots;
      taken_small = c.in_ok-attach_planned.ensures.places;
    }
