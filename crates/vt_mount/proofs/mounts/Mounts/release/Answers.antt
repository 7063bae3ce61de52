use Rattle.std.proofs.Common.{ap, refl, subst, sym, ◌∙◌}
use Rattle.vt_spec.proofs.Common.{option_copied_mut}
use Rattle.vt_mount.specs.Indexed.{IsIndexed}
use Rattle.vt_mount.specs.MountsValue.{released, released_kept, entries_of, in_order}
use Rattle.vt_mount.proofs.WriteLemmas.{entries-written, indexed-written, is-written, not-written}
use Rattle.vt_mount.proofs.mounts.Mounts.release.Goals as goal
use Rattle.vt_mount.proofs.mounts.Mounts.release.Goals.{in-Some, in_default}

pub invariant_of-self : goal.invariant_of-self
invariant_of-self c =
    let map = c.self.inside.by_number in
    let change = released_kept c.args.writes in
    elim c.match-get_mut.branch [
      | in-Some w ↦
          subst (λ inside. IsIndexed inside.indexes (in_order inside.by_number.entries)) (sym w.self-inside-is)
          (indexed-written c.args.id change (λ one. refl) (λ one. refl) _ map.entries _
          (is-written c.args.id change map _ w.in-Some.kept.now _
          (sym c.get_mut.ensures.value ∙ ap option_copied_mut w.in-Some.is) w.release.ensures
          (c.get_mut.follows.holds _)) c.self.invariant)
      | in_default w ↦
          subst (λ inside. IsIndexed inside.indexes (in_order inside.by_number.entries)) (sym w.self-inside-is)
          (indexed-written c.args.id change (λ one. refl) (λ one. refl) _ map.entries _
          (not-written c.args.id change map _ (sym c.get_mut.ensures.value ∙ ap option_copied_mut w.in_default.is)
          (ap (λ map. map.entries) c.get_mut.follows.holds-at-none)) c.self.invariant)
    ]

pub returns : goal.returns
returns c =
    let map = c.self.inside.by_number in
    let change = released_kept c.args.writes in
    elim c.match-get_mut.branch [
      | in-Some w ↦ ap (λ inside. entries_of inside.by_number.entries) w.self-inside-is
          ∙ entries-written c.args.id change (released c.args.writes) map.entries _ _ (λ n one. refl)
          (is-written c.args.id change map _ w.in-Some.kept.now _
          (sym c.get_mut.ensures.value ∙ ap option_copied_mut w.in-Some.is) w.release.ensures
          (c.get_mut.follows.holds _)) c.self.view_is
      | in_default w ↦
          ap (λ inside. entries_of inside.by_number.entries) w.self-inside-is
          ∙ entries-written c.args.id change (released c.args.writes) map.entries _ _ (λ n one. refl)
          (not-written c.args.id change map _ (sym c.get_mut.ensures.value ∙ ap option_copied_mut w.in_default.is)
          (ap (λ map. map.entries) c.get_mut.follows.holds-at-none)) c.self.view_is
    ]
