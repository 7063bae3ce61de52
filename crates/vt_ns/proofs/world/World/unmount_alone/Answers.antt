use Rattle.std.proofs.Common.{sym, subst, true, ◌≡◌, map, ap, ◌∙◌}
use Rattle.vt_spec.proofs.Common.{ToUnmount, and_parts, not-true}
use Rattle.vt_ns.proofs.Common.{Becomes, IsDone, Permits, WorldValue, counted, done_in_store, merged_of, mounts_in, with_store}
use Rattle.vt_ns.specs.contracts.world.World.{the_view}
use Rattle.vt_ns.specs.Unmounting.{unmounts_alone}
use Rattle.vt_mounting.specs.Detach.Uses.{without_attachment}
use Rattle.vt_mounting.proofs.detach.UnmountedAlone.{unmount_is_done}
use Rattle.vt_ns.proofs.world.StoresKept.{kept_is}
use Rattle.vt_ns.proofs.world.NodesUncounted.{counts_none}
use Rattle.vt_ns.proofs.world.World.unmount_alone.Goals as goal

pub detach-requires : goal.detach-requires
detach-requires c = counts_none (the_view c.self.inside) c.self.inside.store c.self.invariant

abbrev after : (c : goal.After-detach) → WorldValue
after c = with_store c.detach.new.store (record (the_view c.self.inside) { mounts = c.detach.new.mounts })

-- the world then is the one that the permit leaves
done : (c : goal.After-detach)
    → IsDone (the_view c.self.inside) c.args.name.now (ToUnmount (counted c.args.mount.count)) (after c)
done c =
    let value : WorldValue = the_view c.self.inside in
    let permits = subst (λ one. Permits one c.args.name.now (ToUnmount (counted c.args.mount.count)))
    (sym c.self.view_is) c.requires.permitted in
    let alone = and_parts _ _ (subst (λ one. unmounts_alone (mounts_in one.mounts) (counted c.args.mount.count) ≡ true)
    (sym c.self.view_is) c.requires.alone) in
    done_in_store value (record value { mounts = c.detach.new.mounts }) c.self.inside.store c.detach.new.store
    c.self.invariant c.detach.ensures.overlays c.args.name.now (ToUnmount (counted c.args.mount.count)) permits
    (unmount_is_done value c.args.name.now (counted c.args.mount.count) c.detach.result c.detach.new.mounts
    c.detach.new.store.plain (map merged_of c.detach.new.store.overlays) c.self.invariant permits
    alone.0 (not-true _ alone.1) c.detach.ensures.point c.detach.ensures.slot
    (c.detach.ensures.left ∙ ap (without_attachment (counted c.args.mount.count) c.detach.result)
    (kept_is value c.self.inside.store c.self.invariant)))

pub invariant_of-self : goal.invariant_of-self
invariant_of-self c = (done c).held

pub returns-clause-ok : goal.returns-clause-ok
returns-clause-ok c =
    subst (λ value. Becomes value c.args.name.now (ToUnmount (counted c.args.mount.count)) (after c)) c.self.view_is
    (done c).becomes
