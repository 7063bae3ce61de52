use Rattle.std.proofs.Common.{Some, ap, refl, subst, sym, ◌∙◌}
use Rattle.vt_spec.proofs.Common.{err_from_is_err_and, option_copied_mut}
use Rattle.vt_location.specs.Locations.{location_of}
use Rattle.vt_mount.specs.Indexed.{IsIndexed}
use Rattle.vt_mount.specs.MountsValue.{MountEntry, in_order}
use Rattle.vt_mount.proofs.MoveLemmas.{indexed-placed, indexed-same, moved_kept}
use Rattle.vt_mount.proofs.OrderLemmas.{found-in_order, in_order-changed, rises-in_order}
use Rattle.vt_mount.proofs.WriteLemmas.{entries-unwritten, entries-written, indexed-written, is-written, not-written}
use Rattle.vt_mount.proofs.mounts.Mounts.move_to.Goals as goal

pub returns-in_default-clause-ok : goal.returns-in_default-clause-ok
returns-in_default-clause-ok c =
    let map = c.self.inside.by_number in
    let change = moved_kept c.args.place in
    entries-written c.args.id change (λ (entry : MountEntry). record entry {
      mount = record entry.mount { mount_point = Some (location_of c.args.place) };
    }) map.entries _ _ (λ n one. refl)
    (not-written c.args.id change map _ (sym c.get_mut.ensures.value ∙ ap option_copied_mut c.in_default.is)
    (ap (λ map. map.entries) c.get_mut.follows.holds-at-none)) c.self.view_is

pub invariant_of-self-in_err-relist : goal.invariant_of-self-in_err-relist
invariant_of-self-in_err-relist c =
    let map = c.self.inside.by_number in
    indexed-same _ c.self.inside.indexes c.relist.new.self c.in_err-relist.ensures.namespace
    c.in_err-relist.ensures.parent_err c.in_err-relist.ensures.place_err
    (indexed-written c.args.id (λ one. one) (λ one. refl) (λ one. refl) _ map.entries _
    (is-written c.args.id (λ one. one) map _ c.in-Some.kept.now _
    (sym c.get_mut.ensures.value ∙ ap option_copied_mut c.in-Some.is) refl (c.get_mut.follows.holds _))
    c.self.invariant)

pub returns-in_err-relist-clause-err : goal.returns-in_err-relist-clause-err
returns-in_err-relist-clause-err c =
    let map = c.self.inside.by_number in
    let failed = err_from_is_err_and c.from_residual.result c.from_residual.ensures.1 in
    rw failed.1 (entries-unwritten c.args.id map.entries _ _
    (is-written c.args.id (λ one. one) map _ c.in-Some.kept.now _
    (sym c.get_mut.ensures.value ∙ ap option_copied_mut c.in-Some.is) refl (c.get_mut.follows.holds _)) c.self.view_is)

pub invariant_of-self-2 : goal.invariant_of-self-2
invariant_of-self-2 c =
    let map = c.self.inside.by_number in
    let change = moved_kept c.args.place in
    let there = sym c.get_mut.ensures.value ∙ ap option_copied_mut c.in-Some.is in
    subst (IsIndexed c.relist.new.self) (sym (in_order-changed c.args.id change map.entries _
    (is-written c.args.id change map _ c.in-Some.kept.now _ there refl (c.get_mut.follows.holds _))))
    (indexed-placed c.args.id (Some c.args.place) c.in-Some.kept.now (in_order map.entries)
    (rises-in_order map.entries) (found-in_order c.args.id map.entries ∙ there)
    c.self.inside.indexes c.relist.new.self c.in_ok-relist.ensures.slot c.in_ok-relist.ensures.namespace
    c.in_ok-relist.ensures.parent_ok c.in_ok-relist.ensures.place_ok c.self.invariant)

pub returns-clause-ok : goal.returns-clause-ok
returns-clause-ok c =
    let map = c.self.inside.by_number in
    let change = moved_kept c.args.place in
    entries-written c.args.id change (λ (entry : MountEntry). record entry {
      mount = record entry.mount { mount_point = Some (location_of c.args.place) };
    }) map.entries _ _ (λ n one. refl) (is-written c.args.id change map _ c.in-Some.kept.now _
    (sym c.get_mut.ensures.value ∙ ap option_copied_mut c.in-Some.is) refl (c.get_mut.follows.holds _)) c.self.view_is
