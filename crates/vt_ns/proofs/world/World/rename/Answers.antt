use Rattle.std.proofs.Common.{rules, ◌≡◌, ◌≢◌, sym, subst, arith, length, ap, ◌∙◌}
use Rattle.vt_permits.specs.GrantValue.{rename_permit}
use Rattle.vt_ns.specs.contracts.world.World.{the_view}
use Rattle.vt_ns.proofs.Common.{Becomes, Permits, with_store, WorldValue}
use Rattle.vt_ns.proofs.world.FileRenaming.{rename_fits, renamed_is_kept, renamed_object, renamed_to}
use Rattle.vt_ns.proofs.world.NodesUncounted.{counts_none, still_changed}
use Rattle.vt_ns.proofs.world.RenamedOver.{rename_over, rename_stays}
use Rattle.vt_ns.proofs.world.World.rename.Goals as goal
use Rattle.vt_ns.proofs.world.World.rename.Goals.{then-not-is_empty, else-not-is_empty}

pub rename-requires-clause-one_filesystem : goal.rename-requires-clause-one_filesystem
rename-requires-clause-one_filesystem c =
    renamed_to (the_view c.self.inside) c.self.invariant c.args.name.now c.args.renamed.from c.args.renamed.old.items
    c.args.renamed.to c.args.renamed.new.items c.args.renamed.object c.args.renamed.replaced (omega arith) (omega arith)
    (omega arith) (subst (λ value. Permits value c.args.name.now
    (rename_permit c.args.renamed)) (sym c.self.view_is) c.requires)

pub rename-requires-clause-of_object : goal.rename-requires-clause-of_object
rename-requires-clause-of_object c =
    renamed_object (the_view c.self.inside) c.self.invariant c.args.name.now c.args.renamed.from
    c.args.renamed.old.items c.args.renamed.to c.args.renamed.new.items c.args.renamed.object c.args.renamed.replaced
    (omega arith) (omega arith) (omega arith) (subst (λ value. Permits value c.args.name.now
    (rename_permit c.args.renamed)) (sym c.self.view_is) c.requires)

pub rename-requires-clause-there : goal.rename-requires-clause-there
rename-requires-clause-there c =
    rw c.plain_mut.ensures.value (renamed_is_kept (the_view c.self.inside) c.self.invariant c.args.name.now
    c.args.renamed.from c.args.renamed.old.items c.args.renamed.to c.args.renamed.new.items c.args.renamed.object
    c.args.renamed.replaced (omega arith) (omega arith) (omega arith) (subst (λ value. Permits value c.args.name.now
    (rename_permit c.args.renamed)) (sym c.self.view_is) c.requires))

pub rename-requires-clause-named : goal.rename-requires-clause-named
rename-requires-clause-named c =
    rw c.plain_mut.ensures.value (rw c.as_slice.ensures.value ((rename_fits (the_view c.self.inside) c.self.invariant
    c.args.name.now c.args.renamed.from c.args.renamed.old.items c.args.renamed.to c.args.renamed.new.items
    c.args.renamed.object c.args.renamed.replaced (omega arith) (omega arith) (omega arith)
    (subst (λ value. Permits value c.args.name.now
    (rename_permit c.args.renamed)) (sym c.self.view_is) c.requires)).0))

pub rename-requires-clause-directory : goal.rename-requires-clause-directory
rename-requires-clause-directory c =
    rw c.plain_mut.ensures.value ((rename_fits (the_view c.self.inside) c.self.invariant c.args.name.now
    c.args.renamed.from c.args.renamed.old.items c.args.renamed.to c.args.renamed.new.items c.args.renamed.object
    c.args.renamed.replaced (omega arith) (omega arith) (omega arith) (subst (λ value. Permits value c.args.name.now
    (rename_permit c.args.renamed)) (sym c.self.view_is) c.requires)).1)

pub rename-requires-clause-replaced : goal.rename-requires-clause-replaced
rename-requires-clause-replaced c =
    rw c.plain_mut.ensures.value ((rename_fits (the_view c.self.inside) c.self.invariant c.args.name.now
    c.args.renamed.from c.args.renamed.old.items c.args.renamed.to c.args.renamed.new.items c.args.renamed.object
    c.args.renamed.replaced (omega arith) (omega arith) (omega arith) (subst (λ value. Permits value c.args.name.now
    (rename_permit c.args.renamed)) (sym c.self.view_is) c.requires)).2)

pub rename-requires-clause-outside : goal.rename-requires-clause-outside
rename-requires-clause-outside c =
    rw c.plain_mut.ensures.value ((rename_fits (the_view c.self.inside) c.self.invariant c.args.name.now
    c.args.renamed.from c.args.renamed.old.items c.args.renamed.to c.args.renamed.new.items c.args.renamed.object
    c.args.renamed.replaced (omega arith) (omega arith) (omega arith) (subst (λ value. Permits value c.args.name.now
    (rename_permit c.args.renamed)) (sym c.self.view_is) c.requires)).3)

pub detach_together-requires : goal.detach_together-requires
detach_together-requires c =
    still_changed c.self.inside.store (counts_none (the_view c.self.inside) c.self.inside.store c.self.invariant)
    c.rename.new.self (rw c.plain_mut.ensures.value at c.in_ok-rename.ensures.ok)

pub invariant_of-self-then-not-is_empty : goal.invariant_of-self-then-not-is_empty
invariant_of-self-then-not-is_empty c =
    let permits = subst (λ value. Permits value c.args.name.now
    (rename_permit c.args.renamed)) (sym c.self.view_is) c.requires in
    let some : length c.in_ok-gone.gone.items ≢ 0 = search rules in
    (rename_over (the_view c.self.inside) c.self.inside.store c.self.invariant c.args.name.now
    c.args.renamed.from c.args.renamed.old.items c.args.renamed.to c.args.renamed.new.items c.args.renamed.object
    c.args.renamed.replaced (omega arith) (omega arith) (omega arith) c.trees_replaced.ensures.small permits
    c.in_ok-gone.gone.items c.in_ok-gone.ensures.ok some c.rename.new.self
    (rw c.plain_mut.ensures.value at (rw c.as_slice.ensures.value at c.in_ok-rename.ensures.ok))
    c.detach_together.new.mounts c.detach_together.new.groups c.detach_together.new.store
    (rw c.deref.ensures.value at c.detach_together.ensures.left) c.detach_together.ensures.overlays).held

pub invariant_of-self-else-not-is_empty : goal.invariant_of-self-else-not-is_empty
invariant_of-self-else-not-is_empty c =
    let permits = subst (λ value. Permits value c.args.name.now
    (rename_permit c.args.renamed)) (sym c.self.view_is) c.requires in
    let none : length c.in_ok-gone.gone.items ≡ 0 = search rules in
    (rename_stays (the_view c.self.inside) c.self.inside.store c.self.invariant c.args.name.now
    c.args.renamed.from c.args.renamed.old.items c.args.renamed.to c.args.renamed.new.items c.args.renamed.object
    c.args.renamed.replaced (omega arith) (omega arith) (omega arith) c.trees_replaced.ensures.small permits
    c.in_ok-gone.gone.items c.in_ok-gone.ensures.ok none c.rename.new.self
    (rw c.plain_mut.ensures.value at (rw c.as_slice.ensures.value at c.in_ok-rename.ensures.ok))).held

pub returns-clause-ok : goal.returns-clause-ok
returns-clause-ok c =
    let permits = subst (λ value. Permits value c.args.name.now
    (rename_permit c.args.renamed)) (sym c.self.view_is) c.requires in
    elim c.if-not-is_empty.branch [
      | then-not-is_empty w ↦
          let some : length c.in_ok-gone.gone.items ≢ 0 = search rules in
          subst (λ new. Becomes c.args.self.now c.args.name.now (rename_permit c.args.renamed) new)
          (sym w.self-is) (subst (λ value. Becomes value c.args.name.now (rename_permit c.args.renamed)
          (with_store w.detach_together.new.store (record (the_view c.self.inside) {
            mounts = w.detach_together.new.mounts;
            groups = w.detach_together.new.groups;
          }))) c.self.view_is (rename_over (the_view c.self.inside) c.self.inside.store c.self.invariant c.args.name.now
          c.args.renamed.from c.args.renamed.old.items c.args.renamed.to c.args.renamed.new.items c.args.renamed.object
          c.args.renamed.replaced (omega arith) (omega arith) (omega arith) c.trees_replaced.ensures.small permits
          c.in_ok-gone.gone.items c.in_ok-gone.ensures.ok some c.rename.new.self
          (rw c.plain_mut.ensures.value at (rw c.as_slice.ensures.value at c.in_ok-rename.ensures.ok))
          w.detach_together.new.mounts w.detach_together.new.groups w.detach_together.new.store
          (rw w.deref.ensures.value at w.detach_together.ensures.left) w.detach_together.ensures.overlays).becomes)
      | else-not-is_empty w ↦
          let none : length c.in_ok-gone.gone.items ≡ 0 = search rules in
          subst (λ new. Becomes c.args.self.now c.args.name.now (rename_permit c.args.renamed) new)
          (sym w.self-is) (subst (λ value. Becomes value c.args.name.now (rename_permit c.args.renamed)
          (with_store (record c.self.inside.store { plain = c.rename.new.self }) (the_view c.self.inside)))
          c.self.view_is (rename_stays (the_view c.self.inside) c.self.inside.store c.self.invariant c.args.name.now
          c.args.renamed.from c.args.renamed.old.items c.args.renamed.to c.args.renamed.new.items c.args.renamed.object
          c.args.renamed.replaced (omega arith) (omega arith) (omega arith) c.trees_replaced.ensures.small permits
          c.in_ok-gone.gone.items c.in_ok-gone.ensures.ok none c.rename.new.self
          (rw c.plain_mut.ensures.value at (rw c.as_slice.ensures.value at c.in_ok-rename.ensures.ok))).becomes)
    ]

pub returns-clause-counts : goal.returns-clause-counts
returns-clause-counts c = elim c.if-not-is_empty.branch [
  | then-not-is_empty w ↦ record {
    numbers = ap (λ (value : WorldValue). value.next) w.self-is ∙ ap (λ (value : WorldValue). value.next) c.self.view_is;
    births = ap (λ (value : WorldValue). value.births) w.self-is
        ∙ ap (λ (value : WorldValue). value.births) c.self.view_is;
  }
  | else-not-is_empty w ↦ record {
    numbers = ap (λ (value : WorldValue). value.next) w.self-is ∙ ap (λ (value : WorldValue). value.next) c.self.view_is;
    births = ap (λ (value : WorldValue). value.births) w.self-is
        ∙ ap (λ (value : WorldValue). value.births) c.self.view_is;
  }
]
