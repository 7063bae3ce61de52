use Rattle.std.proofs.Common.{rules, ◌≡◌, ◌≢◌, sym, subst, arith, length, ap, ◌∙◌}
use Rattle.vt_permits.specs.GrantValue.{remove_permit}
use Rattle.vt_permits.specs.declared.grant.RemoveGrant.TheVariants.{Directory}
use Rattle.vt_ns.specs.contracts.world.World.{the_view}
use Rattle.vt_ns.proofs.Common.{Becomes, Permits, with_store, WorldValue}
use Rattle.vt_ns.proofs.world.DirectoryRemoved.{directory_goes, directory_goes_alone}
use Rattle.vt_ns.proofs.world.FileRemoving.{removal_fits, removed_in, removed_is_kept}
use Rattle.vt_ns.proofs.world.NodesUncounted.{counts_none, still_changed}
use Rattle.vt_ns.proofs.world.World.remove_directory.Goals as goal
use Rattle.vt_ns.proofs.world.World.remove_directory.Goals.{then-not-is_empty, else-not-is_empty}

pub unlink-requires-clause-one_filesystem : goal.unlink-requires-clause-one_filesystem
unlink-requires-clause-one_filesystem c =
    removed_in (the_view c.self.inside) c.self.invariant c.args.name.now c.args.removed.parent c.args.removed.name.items
    c.args.removed.directory (omega arith) (omega arith) (subst (λ value. Permits value c.args.name.now
    (remove_permit (Directory c.args.removed))) (sym c.self.view_is) c.requires)

pub unlink-requires-clause-there : goal.unlink-requires-clause-there
unlink-requires-clause-there c =
    rw c.plain_mut.ensures.value (removed_is_kept (the_view c.self.inside) c.self.invariant c.args.name.now
    c.args.removed.parent c.args.removed.name.items c.args.removed.directory (omega arith) (omega arith)
    (subst (λ value. Permits value c.args.name.now (remove_permit (Directory c.args.removed)))
    (sym c.self.view_is) c.requires))

pub unlink-requires-clause-named : goal.unlink-requires-clause-named
unlink-requires-clause-named c =
    rw c.plain_mut.ensures.value (rw c.as_slice.ensures.value ((removal_fits (the_view c.self.inside) c.self.invariant
    c.args.name.now c.args.removed.parent c.args.removed.name.items c.args.removed.directory (omega arith) (omega arith)
    (subst (λ value. Permits value c.args.name.now (remove_permit (Directory c.args.removed)))
    (sym c.self.view_is) c.requires)).0))

pub unlink-requires-clause-empty : goal.unlink-requires-clause-empty
unlink-requires-clause-empty c =
    rw c.plain_mut.ensures.value ((removal_fits (the_view c.self.inside) c.self.invariant c.args.name.now
    c.args.removed.parent c.args.removed.name.items c.args.removed.directory (omega arith) (omega arith)
    (subst (λ value. Permits value c.args.name.now (remove_permit (Directory c.args.removed)))
    (sym c.self.view_is) c.requires)).1)

pub detach_together-requires : goal.detach_together-requires
detach_together-requires c =
    still_changed c.self.inside.store (counts_none (the_view c.self.inside) c.self.inside.store c.self.invariant)
    c.unlink.new.self (rw c.plain_mut.ensures.value at c.unlink.ensures)

pub invariant_of-self : goal.invariant_of-self
invariant_of-self c =
    let permits = subst (λ value. Permits value c.args.name.now
    (remove_permit (Directory c.args.removed))) (sym c.self.view_is) c.requires in
    let some : length c.in_ok-gone.gone.items ≢ 0 = search rules in
    (directory_goes (the_view c.self.inside) c.self.inside.store c.self.invariant c.args.name.now
    c.args.removed.parent c.args.removed.name.items c.args.removed.directory (omega arith) (search rules) permits
    c.in_ok-gone.gone.items c.in_ok-gone.ensures.ok some c.unlink.new.self
    (rw c.plain_mut.ensures.value at (rw c.as_slice.ensures.value at c.unlink.ensures))
    c.detach_together.new.mounts c.detach_together.new.groups c.detach_together.new.store
    (rw c.deref.ensures.value at c.detach_together.ensures.left) c.detach_together.ensures.overlays).held

pub invariant_of-self-else-not-is_empty : goal.invariant_of-self-else-not-is_empty
invariant_of-self-else-not-is_empty c =
    let permits = subst (λ value. Permits value c.args.name.now
    (remove_permit (Directory c.args.removed))) (sym c.self.view_is) c.requires in
    let none : length c.in_ok-gone.gone.items ≡ 0 = search rules in
    (directory_goes_alone (the_view c.self.inside) c.self.inside.store c.self.invariant c.args.name.now
    c.args.removed.parent c.args.removed.name.items c.args.removed.directory (omega arith) (search rules) permits
    c.in_ok-gone.gone.items c.in_ok-gone.ensures.ok none c.unlink.new.self
    (rw c.plain_mut.ensures.value at (rw c.as_slice.ensures.value at c.unlink.ensures))).held

pub returns-clause-ok : goal.returns-clause-ok
returns-clause-ok c =
    let permits = subst (λ value. Permits value c.args.name.now
    (remove_permit (Directory c.args.removed))) (sym c.self.view_is) c.requires in
    elim c.if-not-is_empty.branch [
      | then-not-is_empty w ↦
          let some : length c.in_ok-gone.gone.items ≢ 0 = search rules in
          subst (λ new. Becomes c.args.self.now c.args.name.now (remove_permit (Directory c.args.removed)) new)
          (sym w.self-is) (subst (λ value. Becomes value c.args.name.now (remove_permit (Directory c.args.removed))
          (with_store w.detach_together.new.store (record (the_view c.self.inside) {
            mounts = w.detach_together.new.mounts;
            groups = w.detach_together.new.groups;
          }))) c.self.view_is
          (directory_goes (the_view c.self.inside) c.self.inside.store c.self.invariant c.args.name.now
          c.args.removed.parent c.args.removed.name.items c.args.removed.directory (omega arith) (search rules) permits
          c.in_ok-gone.gone.items c.in_ok-gone.ensures.ok some c.unlink.new.self
          (rw c.plain_mut.ensures.value at (rw c.as_slice.ensures.value at c.unlink.ensures))
          w.detach_together.new.mounts w.detach_together.new.groups w.detach_together.new.store
          (rw w.deref.ensures.value at w.detach_together.ensures.left) w.detach_together.ensures.overlays).becomes)
      | else-not-is_empty w ↦
          let none : length c.in_ok-gone.gone.items ≡ 0 = search rules in
          subst (λ new. Becomes c.args.self.now c.args.name.now (remove_permit (Directory c.args.removed)) new)
          (sym w.self-is) (subst (λ value. Becomes value c.args.name.now (remove_permit (Directory c.args.removed))
          (with_store (record c.self.inside.store { plain = c.unlink.new.self }) (the_view c.self.inside)))
          c.self.view_is
          (directory_goes_alone (the_view c.self.inside) c.self.inside.store c.self.invariant c.args.name.now
          c.args.removed.parent c.args.removed.name.items c.args.removed.directory (omega arith) (search rules) permits
          c.in_ok-gone.gone.items c.in_ok-gone.ensures.ok none c.unlink.new.self
          (rw c.plain_mut.ensures.value at (rw c.as_slice.ensures.value at c.unlink.ensures))).becomes)
    ]

pub returns-clause-counts : goal.returns-clause-counts
returns-clause-counts c = elim c.if-not-is_empty.branch [
  | then-not-is_empty w ↦ record {
    numbers = ap (λ (value : WorldValue). value.next) w.self-is ∙ ap (λ (value : WorldValue). value.next) c.self.view_is;
    births = ap (λ (value : WorldValue). value.births) w.self-is
        ∙ ap (λ (value : WorldValue). value.births) c.self.view_is;
  }
  | else-not-is_empty w ↦ record {
    numbers = ap (λ (value : WorldValue). value.next) w.self-is ∙ ap (λ (value : WorldValue). value.next) c.self.view_is;
    births = ap (λ (value : WorldValue). value.births) w.self-is
        ∙ ap (λ (value : WorldValue). value.births) c.self.view_is;
  }
]
