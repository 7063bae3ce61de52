use Rattle.std.proofs.Common.{None, Option, Some, ap, option_and_then, refl, subst, sym, ℕ, ◌∙◌}
use Rattle.vt_spec.proofs.Common.{Location, detached, option_copied_mut}
use Rattle.vt_mount.specs.Indexed.{IsIndexed}
use Rattle.vt_mount.specs.MountsValue.{MountEntry, in_order, mount_kept}
use Rattle.vt_mount.proofs.EntryLemmas.{entry-found}
use Rattle.vt_mount.proofs.KeptLemmas.{detached_kept, indexed-left, loses-detached, slots-detached}
use Rattle.vt_mount.proofs.OrderLemmas.{found-in_order, in_order-changed, rises-in_order}
use Rattle.vt_mount.proofs.WriteLemmas.{entries-written, is-written, not-written}
use Rattle.vt_mount.proofs.mounts.Mounts.detach.Goals as goal

-- the mount point that it had
abbrev point_seen : Option MountEntry → Option (Location ℕ)
point_seen found = option_and_then (λ (entry : MountEntry). entry.mount.mount_point) found

pub returns-in_default-clause-point : goal.returns-in_default-clause-point
returns-in_default-clause-point c = ap point_seen (entry-found c.args.id c.self.inside.by_number.entries _ None
    c.self.view_is (sym c.get_mut.ensures.value ∙ ap option_copied_mut c.in_default.is))

pub returns-in_default-clause-rest : goal.returns-in_default-clause-rest
returns-in_default-clause-rest c =
    let map = c.self.inside.by_number in
    entries-written c.args.id detached_kept
    (λ (entry : MountEntry). record entry { mount = detached entry.mount }) map.entries _ _ (λ n one. refl)
    (not-written c.args.id detached_kept map _ (sym c.get_mut.ensures.value ∙ ap option_copied_mut c.in_default.is)
    (ap (λ map. map.entries) c.get_mut.follows.holds-at-none)) c.self.view_is

pub invariant_of-self-2 : goal.invariant_of-self-2
invariant_of-self-2 c =
    let map = c.self.inside.by_number in
    let kept = in_order map.entries in
    let there = sym c.get_mut.ensures.value ∙ ap option_copied_mut c.in-Some.is in
    let writes = is-written c.args.id detached_kept map _ c.in-Some.kept.now _ there refl (c.get_mut.follows.holds _) in
    subst (IsIndexed c.leave.new.self) (sym (in_order-changed c.args.id detached_kept map.entries _ writes))
    (indexed-left c.args.id c.in-Some.kept.now (mount_kept c.args.id c.in-Some.kept.now) kept _ (rises-in_order map.entries)
    (found-in_order c.args.id map.entries ∙ there)
    refl (loses-detached c.args.id kept) c.self.inside.indexes c.leave.new.self
    (slots-detached c.args.id kept c.self.invariant.slots)
    c.leave.ensures.namespace c.leave.ensures.parent c.leave.ensures.place c.self.invariant)

pub returns-clause-rest : goal.returns-clause-rest
returns-clause-rest c =
    let map = c.self.inside.by_number in
    entries-written c.args.id detached_kept
    (λ (entry : MountEntry). record entry { mount = detached entry.mount }) map.entries _ _ (λ n one. refl)
    (is-written c.args.id detached_kept map _ c.in-Some.kept.now _
    (sym c.get_mut.ensures.value ∙ ap option_copied_mut c.in-Some.is) refl (c.get_mut.follows.holds _)) c.self.view_is

pub returns-clause-point : goal.returns-clause-point
returns-clause-point c = ap point_seen (entry-found c.args.id c.self.inside.by_number.entries _ (Some c.in-Some.kept.now)
    c.self.view_is (sym c.get_mut.ensures.value ∙ ap option_copied_mut c.in-Some.is))
