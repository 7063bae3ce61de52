use Rattle.std.proofs.Common.{None, Option, Some, ap, arith, eq-eqb, nat_eq, ne_eqb, option_and_then, option_copied, option_map, refl, subst, sym, ℕ, ◌∙◌}
use Rattle.vt_spec.proofs.Common.{Location, detached, holds_of}
use Rattle.vt_location.specs.Numbers.{counted}
use Rattle.vt_mount.specs.Indexed.{IsIndexed}
use Rattle.vt_mount.specs.MountsValue.{MountEntry, in_order, mount_kept, without}
use Rattle.vt_mount.proofs.EntryLemmas.{entry-found, kept-without}
use Rattle.vt_mount.proofs.KeptLemmas.{detached_kept, indexed-left, loses-without, slots-without}
use Rattle.vt_mount.proofs.OrderLemmas.{found-in_order, in_order-removed, rises-in_order}
use Rattle.vt_mount.proofs.WriteLemmas.{entries-written, not-written}
use Rattle.vt_mount.proofs.mounts.Mounts.leave.Goals as goal

-- the mount point that it had
abbrev point_seen : Option MountEntry → Option (Location ℕ)
point_seen found = option_and_then (λ (entry : MountEntry). entry.mount.mount_point) found

pub returns-in_default-clause-point : goal.returns-in_default-clause-point
returns-in_default-clause-point c = ap point_seen (entry-found c.args.id c.self.inside.by_number.entries _ None
    c.self.view_is (sym c.kept_under.ensures ∙ ap option_copied c.in_default.is))

pub returns-in_default-clause-unused : goal.returns-in_default-clause-unused
returns-in_default-clause-unused c = ap (holds_of (λ entry. nat_eq entry.uses 0))
    (entry-found c.args.id c.self.inside.by_number.entries _ None c.self.view_is
    (sym c.kept_under.ensures ∙ ap option_copied c.in_default.is))

pub returns-in_default-clause-rest : goal.returns-in_default-clause-rest
returns-in_default-clause-rest c =
    let map = c.self.inside.by_number in
    sym c.self.view_is ∙ entries-written c.args.id detached_kept
    (λ (entry : MountEntry). record entry { mount = detached entry.mount }) map.entries _ _ (λ n one. refl)
    (not-written c.args.id detached_kept map _ (sym c.kept_under.ensures ∙ ap option_copied c.in_default.is) refl)
    c.self.view_is

pub returns-then-kept-gt0-clause-unused : goal.returns-then-kept-gt0-clause-unused
returns-then-kept-gt0-clause-unused c =
    let used = c.if-kept-gt0.true in
    sym (ne_eqb c.in-Some.kept.now.uses 0 (λ none. omega (arith, used, none)))
    ∙ ap (holds_of (λ entry. nat_eq entry.uses 0))
    (entry-found c.args.id c.self.inside.by_number.entries _ (Some c.in-Some.kept.now) c.self.view_is
    (sym c.kept_under.ensures ∙ ap option_copied c.in-Some.is))

pub invariant_of-self : goal.invariant_of-self
invariant_of-self c =
    let map = c.self.inside.by_number in
    let kept = in_order map.entries in
    subst (IsIndexed c.leave.new.self) (sym (in_order-removed c.args.id map.entries _ c.swap_remove.ensures.updates.0))
    (indexed-left c.args.id c.in-Some.kept.now (mount_kept c.args.id c.in-Some.kept.now) kept _ (rises-in_order map.entries)
    (found-in_order c.args.id map.entries ∙ sym c.kept_under.ensures ∙ ap option_copied c.in-Some.is)
    refl (loses-without c.args.id kept) c.self.inside.indexes c.leave.new.self
    (slots-without c.args.id kept c.self.invariant.slots)
    c.leave.ensures.namespace c.leave.ensures.parent c.leave.ensures.place c.self.invariant)

pub returns-clause-point : goal.returns-clause-point
returns-clause-point c = ap point_seen (entry-found c.args.id c.self.inside.by_number.entries _
    (Some c.in-Some.kept.now) c.self.view_is (sym c.kept_under.ensures ∙ ap option_copied c.in-Some.is))

pub returns-clause-filesystem : goal.returns-clause-filesystem
returns-clause-filesystem c = sym (ap (option_map (λ (entry : MountEntry). entry.mount.filesystem))
    (entry-found c.args.id c.self.inside.by_number.entries _ (Some c.in-Some.kept.now) c.self.view_is
    (sym c.kept_under.ensures ∙ ap option_copied c.in-Some.is)))

pub returns-clause-root : goal.returns-clause-root
returns-clause-root c = sym (ap (option_map (λ (entry : MountEntry). entry.mount.root))
    (entry-found c.args.id c.self.inside.by_number.entries _ (Some c.in-Some.kept.now) c.self.view_is
    (sym c.kept_under.ensures ∙ ap option_copied c.in-Some.is)))

pub returns-clause-unused : goal.returns-clause-unused
returns-clause-unused c =
    let none = c.if-kept-gt0.false in
    sym (eq-eqb c.in-Some.kept.now.uses 0 (omega (arith, none)))
    ∙ ap (holds_of (λ entry. nat_eq entry.uses 0))
    (entry-found c.args.id c.self.inside.by_number.entries _ (Some c.in-Some.kept.now) c.self.view_is
    (sym c.kept_under.ensures ∙ ap option_copied c.in-Some.is))

pub returns-clause-rest : goal.returns-clause-rest
returns-clause-rest c =
    kept-without c.args.id c.self.inside.by_number.entries _ c.swap_remove.ensures.updates.0
    ∙ ap (without (counted c.args.id.count)) c.self.view_is
