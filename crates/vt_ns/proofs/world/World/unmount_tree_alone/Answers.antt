use Rattle.std.proofs.Common.{false, map, sym, subst, true, List, ◌≡◌, ℕ}
use Rattle.vt_spec.proofs.Common.{ToUnmountLazily}
use Rattle.vt_ns.proofs.Common.{Becomes, IsDone, LeaveInTurn, Permits, WorldValue, counted, done_in_store, kept, merged_of, mounts_in, tree_numbers, with_store}
use Rattle.vt_ns.specs.contracts.world.World.{the_view}
use Rattle.vt_ns.specs.Unmounting.{are_ungrouped, stands_on_shared}
use Rattle.vt_mounting.proofs.detach.UnmountedLazily.{lazy_unmount_is_done}
use Rattle.vt_ns.proofs.world.StoresKept.{kept_is}
use Rattle.vt_ns.proofs.world.NodesUncounted.{counts_none}
use Rattle.vt_ns.proofs.world.World.unmount_tree_alone.Goals as goal

pub detach_each-requires : goal.detach_each-requires
detach_each-requires c = counts_none (the_view c.self.inside) c.self.inside.store c.self.invariant

abbrev after : (c : goal.After-detach_each) → WorldValue
after c = with_store c.detach_each.new.store (record (the_view c.self.inside) { mounts = c.detach_each.new.mounts })

-- the world then is the one that the permit leaves
done : (c : goal.After-detach_each)
    → IsDone (the_view c.self.inside) c.args.name.now (ToUnmountLazily (counted c.args.mount.count)) (after c)
done c =
    let value : WorldValue = the_view c.self.inside in
    let number = counted c.args.mount.count in
    let tree : List ℕ = map (λ id. counted id.count) c.args.tree.now in
    let permits = subst (λ one. Permits one c.args.name.now (ToUnmountLazily number)) (sym c.self.view_is)
    c.requires.permitted in
    let ungrouped = subst (λ (one : WorldValue). are_ungrouped (mounts_in one.mounts) tree ≡ true) (sym c.self.view_is)
    c.requires.ungrouped in
    let unshared = subst (λ (one : WorldValue). stands_on_shared (mounts_in one.mounts) number ≡ false)
    (sym c.self.view_is) c.requires.unshared in
    done_in_store value (record value { mounts = c.detach_each.new.mounts }) c.self.inside.store
    c.detach_each.new.store c.self.invariant c.detach_each.ensures.overlays c.args.name.now (ToUnmountLazily number)
    permits (lazy_unmount_is_done value c.args.name.now number tree c.detach_each.new.mounts
    c.detach_each.new.store.plain (map merged_of c.detach_each.new.store.overlays) c.self.invariant permits
    (subst (λ (one : WorldValue). tree ≡ tree_numbers (mounts_in one.mounts) number) (sym c.self.view_is)
    c.requires.tree) ungrouped unshared
    (subst (λ k. LeaveInTurn tree k (kept c.detach_each.new.mounts c.detach_each.new.store))
    (kept_is value c.self.inside.store c.self.invariant) c.detach_each.ensures.left))

pub invariant_of-self : goal.invariant_of-self
invariant_of-self c = (done c).held

pub returns-clause-ok : goal.returns-clause-ok
returns-clause-ok c = subst (λ value. Becomes value c.args.name.now (ToUnmountLazily (counted c.args.mount.count)) (after c))
    c.self.view_is (done c).becomes
