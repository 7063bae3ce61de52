use Rattle.std.proofs.Common.{ap, refl, sym, ◌∙◌, le-leb}
use Rattle.vt_spec.proofs.Common.{option_copied_mut, remove_entry}
use Rattle.std.proofs.lemmas.Bool.{lt-leb}
use Rattle.vt_mounting.proofs.Common.{counted}
use Rattle.vt_mounting.specs.Detach.Stored.{kept}
use Rattle.vt_mounting.proofs.detach.EndingLemmas.{absent_left, absent_mounts, fewer_left, fewer_mounts, last_left, last_mounts}
use Rattle.vt_mounting.proofs.detach.OverlaysListed.{left_itself}
use Rattle.vt_mounting.proofs.detach.NamespaceEntries.{is_id, written_back}
use Rattle.vt_mounting.proofs.detach.ending.leave_namespace.Goals as goal

pub returns-in_default-clause-namespaces : goal.returns-in_default-clause-namespaces
returns-in_default-clause-namespaces c =
    absent_left c.args.id.count c.args.namespaces.now.entries c.get_mut.follows.lender-at-none.entries
    (sym c.get_mut.ensures.value ∙ ap option_copied_mut c.in_default.is)
    (ap (λ map. map.entries) c.get_mut.follows.holds-at-none)

pub returns-in_default-clause-mounts : goal.returns-in_default-clause-mounts
returns-in_default-clause-mounts c =
    absent_mounts c.args.id.count c.args.namespaces.now.entries (counted c.args.id.count)
    (kept c.args.mounts.now c.args.store.now) c.args.groups.now
    (sym c.get_mut.ensures.value ∙ ap option_copied_mut c.in_default.is)

pub returns-then-namespace-gt1-clause-namespaces : goal.returns-then-namespace-gt1-clause-namespaces
returns-then-namespace-gt1-clause-namespaces c =
    fewer_left c.args.id.count c.args.namespaces.now.entries _ c.get_mut.ensures.unique
    (sym c.get_mut.ensures.value ∙ ap option_copied_mut c.in-Some.is)
    (lt-leb c.in-Some.namespace.now.tasks 1 c.if-namespace-gt1.true) refl (c.get_mut.follows.holds _).0

pub returns-then-namespace-gt1-clause-mounts : goal.returns-then-namespace-gt1-clause-mounts
returns-then-namespace-gt1-clause-mounts c =
    fewer_mounts c.args.id.count c.args.namespaces.now.entries (counted c.args.id.count)
    (kept c.args.mounts.now c.args.store.now) c.args.groups.now
    (sym c.get_mut.ensures.value ∙ ap option_copied_mut c.in-Some.is)
    (lt-leb c.in-Some.namespace.now.tasks 1 c.if-namespace-gt1.true)

pub returns-clause-namespaces : goal.returns-clause-namespaces
returns-clause-namespaces c =
    last_left c.args.id.count c.args.namespaces.now.entries
    (sym c.get_mut.ensures.value ∙ ap option_copied_mut c.in-Some.is)
    (le-leb c.in-Some.namespace.now.tasks 1 c.if-namespace-gt1.false) (c.shift_remove.ensures.entries
    ∙ ap (remove_entry (is_id c.args.id.count)) ((c.get_mut.follows.holds c.in-Some.namespace.now).0
    ∙ written_back c.args.id.count c.args.namespaces.now.entries c.in-Some.namespace.now
    (sym c.get_mut.ensures.value ∙ ap option_copied_mut c.in-Some.is))) c.shift_remove.ensures.updates.1

pub returns-clause-mounts : goal.returns-clause-mounts
returns-clause-mounts c = last_mounts c.args.id.count c.args.namespaces.now.entries
    (sym c.get_mut.ensures.value ∙ ap option_copied_mut c.in-Some.is)
    (le-leb c.in-Some.namespace.now.tasks 1 c.if-namespace-gt1.false) c.end_namespace.ensures.left

pub returns-in_default-clause-overlays : goal.returns-in_default-clause-overlays
returns-in_default-clause-overlays c = left_itself c.args.store.now.overlays c.args.store.now.overlays refl

pub returns-then-namespace-gt1-clause-overlays : goal.returns-then-namespace-gt1-clause-overlays
returns-then-namespace-gt1-clause-overlays c = left_itself c.args.store.now.overlays c.args.store.now.overlays refl

pub returns-clause-overlays : goal.returns-clause-overlays
returns-clause-overlays c = c.end_namespace.ensures.overlays
