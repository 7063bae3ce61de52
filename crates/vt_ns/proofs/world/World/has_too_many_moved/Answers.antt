use Rattle.std.proofs.Common.{Some, ap, arith, drop, find, length, map, nat_eq, not, refl, subst, sym, take, true, ◌-◌, ◌≡◌, ◌∙◌, ℕ}
use Rattle.vt_spec.proofs.Common.{IfOk-weaker, Mount, attached_by, mount_in, mount_tree}
use Rattle.vt_ns.proofs.Common.{IsHeld, WorldValue, counted, location_of, mount_of, mounts_in, world_of}
use Rattle.vt_propagate.specs.Filling.{GrowsBy}
use Rattle.vt_ns.proofs.Overfilling.{absent_grows, moves_from, new, none_found, nowhere_moved, rest_kept, tree, tree_sized}
use Rattle.vt_ns.proofs.world.World.has_too_many_moved.Goals as goal

pub returns-then-is_none : goal.returns-then-is_none
returns-then-is_none c = record {
  ok = nowhere_moved c.args.self.now (subst IsHeld c.self.view_is c.self.invariant) (counted c.args.mount.count) (location_of c.args.place)
      (ap (λ (value : WorldValue). find (λ (mount : Mount ℕ). nat_eq (counted c.args.place.mount.count) mount.number)
      (mounts_in value.mounts)) (sym c.self.view_is)
      ∙ none_found c.get.result _ c.get.ensures (c.is_none.ensures ∙ ap not c.if-is_none.true));
}

pub returns-in_default : goal.returns-in_default
returns-in_default c = record {
  ok = let value = c.args.self.now in
      let number = counted c.args.mount.count in
      let place = location_of c.args.place in
      let missing = ap (λ (one : WorldValue). find (λ (mount : Mount ℕ). nat_eq number mount.number)
      (mounts_in one.mounts)) (sym c.self.view_is) ∙ sym c.in_default.ensures in
      let after = attached_by nat_eq (world_of value) (new value (subst IsHeld c.self.view_is c.self.invariant) number place) place true
      (tree value (subst IsHeld c.self.view_is c.self.invariant) number place) in
      let parts = rest_kept c.in_ok-parts.parts.items _ c.in_ok-parts.ensures.ok
      ∙ ap (λ kept. map mount_of (take (length kept - 1) (drop 1 kept))) (sym c.deref.ensures.value) in
      IfOk-weaker c.overfills.result _ _ (λ too_many tells.
      tells (world_of value) after (ap
      (λ (one : WorldValue). mounts_in one.mounts) c.self.view_is) (subst IsHeld c.self.view_is c.self.invariant).in_world.namespaces refl
      (subst (λ some. GrowsBy (world_of value) after some 1) parts
      (absent_grows value (subst IsHeld c.self.view_is c.self.invariant) number place missing))) c.overfills.ensures.more;
}

pub returns : goal.returns
returns c = record {
  ok = let value = c.args.self.now in
      let number = counted c.args.mount.count in
      let place = location_of c.args.place in
      let found : find (λ (mount : Mount ℕ). nat_eq number mount.number) (mounts_in c.args.self.now.mounts)
      ≡ Some (mount_of c.in-Some.moved) =
      ap (λ (one : WorldValue). find (λ (mount : Mount ℕ). nat_eq number mount.number) (mounts_in one.mounts))
      (sym c.self.view_is) ∙ sym c.in-Some.ensures in
      let count : length (tree value (subst IsHeld c.self.view_is c.self.invariant) number place) ≡ length c.in_ok-tree.tree.items =
      tree_sized c.in_ok-tree.tree.items (tree value (subst IsHeld c.self.view_is c.self.invariant) number place) (c.in_ok-tree.ensures.ok
      ∙ ap (λ (one : WorldValue). map (λ (mount : Mount ℕ). mount.number)
      (mount_tree nat_eq (mounts_in one.mounts) (mount_in nat_eq (mounts_in one.mounts) number))) c.self.view_is) in
      IfOk-weaker c.overfills-2.result _ _ (λ too_many tells.
      tells (world_of value) (new value (subst IsHeld c.self.view_is c.self.invariant) number place) place (tree value (subst IsHeld c.self.view_is c.self.invariant) number place)
      (ap (λ (one : WorldValue). mounts_in one.mounts) c.self.view_is) (subst IsHeld c.self.view_is c.self.invariant).in_world.namespaces
      (ap (map mount_of) c.deref-2.ensures.value ∙ c.in_ok-parts.ensures.ok)
      (omega (arith, count, c.len.ensures, c.in_ok-tree.tree.ok.0))
      (moves_from value (subst IsHeld c.self.view_is c.self.invariant) number place (mount_of c.in-Some.moved) found c.in-Some.moved.namespace refl))
      c.overfills-2.ensures.moved;
}
