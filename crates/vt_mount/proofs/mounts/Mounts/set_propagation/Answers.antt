use Rattle.std.proofs.Common.{ap, refl, subst, sym, ◌∙◌}
use Rattle.vt_spec.proofs.Common.{option_copied_mut}
use Rattle.vt_location.specs.MountValue.{propagation_of}
use Rattle.vt_mount.specs.declared.mounted.Mounted.{Mounted}
use Rattle.vt_mount.specs.Indexed.{IsIndexed}
use Rattle.vt_mount.specs.MountsValue.{MountEntry, are_ascending, entries_of, in_order, mounts_in}
use Rattle.vt_mount.proofs.MoveLemmas.{ascending-kept}
use Rattle.vt_mount.proofs.WriteLemmas.{entries-written, indexed-written, is-written, not-written}
use Rattle.vt_mount.proofs.mounts.Mounts.set_propagation.Goals as goal
use Rattle.vt_mount.proofs.mounts.Mounts.set_propagation.Goals.{in-Some, in_default}

pub invariant_of-self : goal.invariant_of-self
invariant_of-self c =
    let map = c.self.inside.by_number in
    let change = λ (one : Mounted). record one { propagation = c.args.propagation } in
    elim c.match-get_mut.branch [
      | in-Some w ↦
          subst (λ inside. IsIndexed inside.indexes (in_order inside.by_number.entries)) (sym w.self-inside-is)
          (indexed-written c.args.id change (λ one. refl) (λ one. refl) _ map.entries _
          (is-written c.args.id change map _ w.in-Some.kept.now _
          (sym c.get_mut.ensures.value ∙ ap option_copied_mut w.in-Some.is) refl (c.get_mut.follows.holds _))
          c.self.invariant)
      | in_default w ↦
          subst (λ inside. IsIndexed inside.indexes (in_order inside.by_number.entries)) (sym w.self-inside-is)
          (indexed-written c.args.id change (λ one. refl) (λ one. refl) _ map.entries _
          (not-written c.args.id change map _ (sym c.get_mut.ensures.value ∙ ap option_copied_mut w.in_default.is)
          (ap (λ map. map.entries) c.get_mut.follows.holds-at-none)) c.self.invariant)
    ]

pub returns-clause-mounts : goal.returns-clause-mounts
returns-clause-mounts c =
    let map = c.self.inside.by_number in
    let change = λ (one : Mounted). record one { propagation = c.args.propagation } in
    let seen = λ (entry : MountEntry). record entry { mount = record entry.mount { propagation = propagation_of c.args.propagation } } in
    elim c.match-get_mut.branch [
      | in-Some w ↦ ap (λ inside. entries_of inside.by_number.entries) w.self-inside-is
          ∙ entries-written c.args.id change seen map.entries _ _ (λ n one. refl)
          (is-written c.args.id change map _ w.in-Some.kept.now _
          (sym c.get_mut.ensures.value ∙ ap option_copied_mut w.in-Some.is) refl (c.get_mut.follows.holds _))
          c.self.view_is
      | in_default w ↦ ap (λ inside. entries_of inside.by_number.entries) w.self-inside-is
          ∙ entries-written c.args.id change seen map.entries _ _ (λ n one. refl)
          (not-written c.args.id change map _ (sym c.get_mut.ensures.value ∙ ap option_copied_mut w.in_default.is)
          (ap (λ map. map.entries) c.get_mut.follows.holds-at-none)) c.self.view_is
    ]

pub returns-clause-order : goal.returns-clause-order
returns-clause-order c =
    ap (λ now. are_ascending (mounts_in now)) (sym c.self.view_is) ∙ ascending-kept c.self.inside.by_number.entries
