use Rattle.std.proofs.Common.{List, ap, length, map, subst, sym, ℕ, ◌++◌, ◌-◌, ◌≡◌, ◌∙◌, drop, take, length-drop}
use Rattle.vt_spec.proofs.Common.{list_all}
use Rattle.std.proofs.Math.Seq.{take-length}
use Rattle.std.proofs.lemmas.List.{drop-map}
use Rattle.vt_group.specs.declared.groups.NewGroup.{NewGroup}
use Rattle.vt_mounting.proofs.Common.{GrowsTo, are_ascending, mount_of, mounts_in, new_group, typed}
use Rattle.vt_location.specs.declared.mounts.Mount.{Mount}
use Rattle.vt_mounting.specs.Attach.Moved.{top_point, typed_all, with_types}
use Rattle.vt_mounting.specs.Attach.Planned.{Point, is_small, points_left, points_taken, with_planned}
use Rattle.vt_mounting.specs.Attach.Room.{has_small_nodes}
use Rattle.vt_mounting.specs.Detach.Stored.{kept}
use Rattle.vt_mounting.proofs.attach.moved.move_tree.Goals as goal

-- a list from one place on
from_there : {A : Type 0} (n : ℕ) (xs : List A) → take (length xs - n) (drop n xs) ≡ drop n xs
from_there n xs = (λ i. take (sym (length-drop n xs) i) (drop n xs)) ∙ take-length (drop n xs)

pub attach_grouped-requires-clause-ascending : goal.attach_grouped-requires-clause-ascending
attach_grouped-requires-clause-ascending c = λ order.
    let may = c.requires.may in
    let n = length c.args.graft.now.tree.now in
    let front = mounts_in c.args.mounts.now in
    let attaches = c.in_ok-plan.ensures.ok may.world may.seen may.one_child may.parts_are in
    ap (λ (list : List Mount). are_ascending (front ++ map mount_of list)) (from_there n c.deref.result.now)
    ∙ ap (λ (list : List Mount). are_ascending (front ++ map mount_of (drop n list))) c.deref.ensures.value
    ∙ ap (λ list. are_ascending (front ++ list)) (sym (drop-map mount_of n c.in_ok-plan.plan.copies.items))
    ∙ ap (λ list. are_ascending (front ++ drop n list)) attaches.copies_are ∙ may.ascending

pub returns-clause-ok : goal.returns-clause-ok
returns-clause-ok c =
    let plan = c.in_ok-plan.plan in
    let n = length c.args.graft.now.tree.now in
    let old = kept c.args.mounts.now c.args.store.now in
    let made = c.in_ok-attach_grouped.ensures.ok in
    let come : take (length c.deref.result.now - n) (drop n c.deref.result.now) ≡ drop n plan.copies.items =
    from_there n c.deref.result.now ∙ ap (drop n) c.deref.ensures.value in
    let points : c.deref-3.result.now ≡ plan.points.items ++ top_point c.args.graft.now =
    c.deref-3.ensures.value ∙ c.in_ok-add_top.ensures.points in
    let types : c.deref-4.result.now ≡ plan.copies.items = c.deref-4.ensures.value in
    let retyped : c.set_types.new.mounts ≡ typed_all (map typed plan.copies.items) c.attach_grouped.new.mounts =
    c.set_types.ensures
    ∙ ap (λ (list : List Mount). typed_all (map typed list) c.attach_grouped.new.mounts) c.deref-5.ensures.value in
    record {
      copies = plan.copies.items;
      groups = plan.groups.items;
      pushed = plan.points.items;
      left = made.0;
      plan = c.in_ok-plan.ensures.ok;
      once = c.in_ok-plan.ensures.once c.requires.may.apart;
      leaver = c.in_ok-plan.ensures.leaver;
      left_are = made.1 ∙ ap (λ (list : List Point). points_left list c.args.mounts.now) points;
      left_small = made.2;
      done = ap (λ mounts. kept mounts c.attach_grouped.new.store) retyped
          ∙ ap (with_types (map typed plan.copies.items)) (made.3 ∙ (λ i. with_planned (come i) (points i) made.0 old));
      grows = subst (λ (list : List Mount). GrowsTo c.args.groups.now c.attach_grouped.new.groups (map typed list)
          (map new_group plan.groups.items)) types
          (subst (λ (list : List NewGroup). GrowsTo c.args.groups.now c.attach_grouped.new.groups
          (map typed c.deref-4.result.now) (map new_group list)) c.deref-2.ensures.value
          c.in_ok-attach_grouped.ensures.groups_ok);
      slots = ap (list_all has_small_nodes) (sym come) ∙ c.in_ok-attach_grouped.ensures.slots;
      taken_small = ap (λ (list : List Point). list_all is_small (points_taken list c.args.mounts.now)) (sym points)
          ∙ c.in_ok-attach_grouped.ensures.places;
    }
