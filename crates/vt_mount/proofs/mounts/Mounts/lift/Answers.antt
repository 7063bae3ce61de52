use Rattle.std.proofs.Common.{None, ap, refl, subst, sym, ◌∙◌}
use Rattle.vt_spec.proofs.Common.{option_copied_mut}
use Rattle.vt_mount.specs.Indexed.{IsIndexed}
use Rattle.vt_mount.specs.Moving.{lifted_entry}
use Rattle.vt_mount.specs.MountsValue.{in_order}
use Rattle.vt_mount.proofs.MoveLemmas.{indexed-placed, placed_kept}
use Rattle.vt_mount.proofs.OrderLemmas.{found-in_order, in_order-changed, rises-in_order}
use Rattle.vt_mount.proofs.WriteLemmas.{entries-written, is-written, not-written}
use Rattle.vt_mount.proofs.mounts.Mounts.lift.Goals as goal

pub returns-in_default : goal.returns-in_default
returns-in_default c =
    let map = c.self.inside.by_number in
    entries-written c.args.id (placed_kept None) lifted_entry map.entries _ _ (λ n one. refl)
    (not-written c.args.id (placed_kept None) map _ (sym c.get_mut.ensures.value ∙ ap option_copied_mut c.in_default.is)
    (ap (λ map. map.entries) c.get_mut.follows.holds-at-none)) c.self.view_is

pub invariant_of-self-2 : goal.invariant_of-self-2
invariant_of-self-2 c =
    let map = c.self.inside.by_number in
    let there = sym c.get_mut.ensures.value ∙ ap option_copied_mut c.in-Some.is in
    subst (IsIndexed c.lift.new.self) (sym (in_order-changed c.args.id (placed_kept None) map.entries _
    (is-written c.args.id (placed_kept None) map _ c.in-Some.kept.now _ there refl (c.get_mut.follows.holds _))))
    (indexed-placed c.args.id None c.in-Some.kept.now (in_order map.entries)
    (rises-in_order map.entries) (found-in_order c.args.id map.entries ∙ there)
    c.self.inside.indexes c.lift.new.self refl c.lift.ensures.namespace
    c.lift.ensures.parent c.lift.ensures.place c.self.invariant)

pub returns : goal.returns
returns c =
    let map = c.self.inside.by_number in
    entries-written c.args.id (placed_kept None) lifted_entry map.entries _ _ (λ n one. refl)
    (is-written c.args.id (placed_kept None) map _ c.in-Some.kept.now _
    (sym c.get_mut.ensures.value ∙ ap option_copied_mut c.in-Some.is) refl (c.get_mut.follows.holds _)) c.self.view_is
