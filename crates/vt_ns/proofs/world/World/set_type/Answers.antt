use Rattle.std.proofs.Common.{[], ◌∷◌, ap, map, nat_eq, subst, sym, ◌≡◌, ◌∙◌, arith}
use Rattle.vt_spec.proofs.Common.{ToSetType, named_mounts, common_steps}
use Rattle.vt_location.specs.declared.numbers.MountId.{MountId}
use Rattle.vt_ns.proofs.Common.{Becomes, Permits, counted, mounts_in, numbers_of, world_of}
use Rattle.vt_laws_mounts.proofs.letting_go.leaving.PlacesLeft.{number-mount_in}
use Rattle.vt_request.specs.Requests.{type_word_of}
use Rattle.vt_ns.specs.contracts.world.World.{the_view}
use Rattle.vt_ns.specs.Retyped.{IsRetyped}
use Rattle.vt_ns.proofs.world.TypesDone.{types_done}
use Rattle.vt_ns.proofs.world.World.set_type.Goals as goal

pub invariant_of-self-then-recursive : goal.invariant_of-self-then-recursive
invariant_of-self-then-recursive c =
    let value = the_view c.self.inside in
    let number = counted c.args.change.mount.count in
    let numbers : map (λ (id : MountId). counted id.count) c.deref.result.now
    ≡ numbers_of (named_mounts nat_eq (world_of value) number c.args.change.recursive) =
    ap (map (λ (id : MountId). counted id.count)) c.deref.ensures.value ∙ c.in_ok-tree.ensures.ok
    ∙ ap (λ b. numbers_of (named_mounts nat_eq (world_of value) number b)) (sym c.if-recursive.true) in
    (types_done value c.self.invariant c.args.name.now number (type_word_of c.args.change.word) c.args.change.recursive
    (subst (λ one. Permits one c.args.name.now (ToSetType number (type_word_of c.args.change.word) c.args.change.recursive))
    (sym c.self.view_is) c.requires) c.change_types.new.mounts c.change_types.new.groups c.in_ok-self-inside.field-0
    (subst (λ some. IsRetyped (type_word_of c.args.change.word) c.self.inside.next c.in_ok-self-inside.field-0 some
    c.self.inside.groups c.change_types.new.groups c.self.inside.mounts c.change_types.new.mounts)
    numbers c.in_ok-self-inside.ensures.ok)).held

pub returns-then-recursive-clause-ok : goal.returns-then-recursive-clause-ok
returns-then-recursive-clause-ok c =
    let value = the_view c.self.inside in
    let number = counted c.args.change.mount.count in
    let numbers : map (λ (id : MountId). counted id.count) c.deref.result.now
    ≡ numbers_of (named_mounts nat_eq (world_of value) number c.args.change.recursive) =
    ap (map (λ (id : MountId). counted id.count)) c.deref.ensures.value ∙ c.in_ok-tree.ensures.ok
    ∙ ap (λ b. numbers_of (named_mounts nat_eq (world_of value) number b)) (sym c.if-recursive.true) in
    subst (λ one. Becomes one c.args.name.now (ToSetType number (type_word_of c.args.change.word) c.args.change.recursive)
    (record value {
      mounts = c.change_types.new.mounts;
      groups = c.change_types.new.groups;
      next = c.in_ok-self-inside.field-0;
    })) c.self.view_is
    (types_done value c.self.invariant c.args.name.now number (type_word_of c.args.change.word) c.args.change.recursive
    (subst (λ one. Permits one c.args.name.now (ToSetType number (type_word_of c.args.change.word) c.args.change.recursive))
    (sym c.self.view_is) c.requires) c.change_types.new.mounts c.change_types.new.groups c.in_ok-self-inside.field-0
    (subst (λ some. IsRetyped (type_word_of c.args.change.word) c.self.inside.next c.in_ok-self-inside.field-0 some
    c.self.inside.groups c.change_types.new.groups c.self.inside.mounts c.change_types.new.mounts)
    numbers c.in_ok-self-inside.ensures.ok)).becomes

pub invariant_of-self-2 : goal.invariant_of-self-2
invariant_of-self-2 c =
    let value = the_view c.self.inside in
    let number = counted c.args.change.mount.count in
    let numbers : number ∷ [] ≡ numbers_of (named_mounts nat_eq (world_of value) number c.args.change.recursive) =
    ap (λ one. one ∷ []) (sym (number-mount_in (mounts_in c.self.inside.mounts) number))
    ∙ ap (λ b. numbers_of (named_mounts nat_eq (world_of value) number b)) (sym c.if-recursive.false) in
    (types_done value c.self.invariant c.args.name.now number (type_word_of c.args.change.word) c.args.change.recursive
    (subst (λ one. Permits one c.args.name.now (ToSetType number (type_word_of c.args.change.word) c.args.change.recursive))
    (sym c.self.view_is) c.requires)
    c.change_types-2.new.mounts c.change_types-2.new.groups c.in_ok-self-inside-2.field-0
    (subst (λ some. IsRetyped (type_word_of c.args.change.word) c.self.inside.next c.in_ok-self-inside-2.field-0 some
    c.self.inside.groups c.change_types-2.new.groups c.self.inside.mounts c.change_types-2.new.mounts)
    numbers c.in_ok-self-inside-2.ensures.ok)).held

pub returns-clause-ok : goal.returns-clause-ok
returns-clause-ok c =
    let value = the_view c.self.inside in
    let number = counted c.args.change.mount.count in
    let numbers : number ∷ [] ≡ numbers_of (named_mounts nat_eq (world_of value) number c.args.change.recursive) =
    ap (λ one. one ∷ []) (sym (number-mount_in (mounts_in c.self.inside.mounts) number))
    ∙ ap (λ b. numbers_of (named_mounts nat_eq (world_of value) number b)) (sym c.if-recursive.false) in
    subst (λ one. Becomes one c.args.name.now (ToSetType number (type_word_of c.args.change.word) c.args.change.recursive)
    (record value {
      mounts = c.change_types-2.new.mounts;
      groups = c.change_types-2.new.groups;
      next = c.in_ok-self-inside-2.field-0;
    })) c.self.view_is
    (types_done value c.self.invariant c.args.name.now number (type_word_of c.args.change.word) c.args.change.recursive
    (subst (λ one. Permits one c.args.name.now (ToSetType number (type_word_of c.args.change.word) c.args.change.recursive))
    (sym c.self.view_is) c.requires)
    c.change_types-2.new.mounts c.change_types-2.new.groups c.in_ok-self-inside-2.field-0
    (subst (λ some. IsRetyped (type_word_of c.args.change.word) c.self.inside.next c.in_ok-self-inside-2.field-0 some
    c.self.inside.groups c.change_types-2.new.groups c.self.inside.mounts c.change_types-2.new.mounts)
    numbers c.in_ok-self-inside-2.ensures.ok)).becomes

pub returns-then-recursive-clause-counts : goal.returns-then-recursive-clause-counts
returns-then-recursive-clause-counts c = grind (arith, common_steps)

pub returns-clause-counts : goal.returns-clause-counts
returns-clause-counts c = grind (arith, common_steps)
