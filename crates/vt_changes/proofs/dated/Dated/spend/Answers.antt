use Rattle.std.proofs.Common.{Err, Ok, ap, length, refl, subst, sym, ◌≤◌, ◌<◌, ◌∙◌}
use Rattle.indexmap.specs.IndexMap.{spare}
use Rattle.vt_location.specs.Numbers.{filesystem_number, namespace_number}
use Rattle.vt_world.specs.Held.{IsHeld}
use Rattle.vt_world.specs.WorldValue.{WorldValue, world_of}
use Rattle.vt_calls.specs.KernelValue.{KernelValue}
use Rattle.vt_calls.specs.Permitted.{IsPermitted}
use Rattle.vt_changes.specs.DatedValue.{DatedValue}
use Rattle.vt_changes.specs.Ends.{EndsDated}
use Rattle.vt_changes.specs.Kept.{named_entries, numbered_entries}
use Rattle.vt_changes.specs.contracts.dated.Dated.{the_view}
use Rattle.vt_changes.proofs.Ended.{dated_is, ends_changed, ends_refused, ends_short, few_namespaces, living_changed}
use Rattle.vt_changes.proofs.Spending.{enough, follows_spent, parts_same, with_room}
use Rattle.vt_changes.proofs.dated.Dated.spend.Goals as goal

pub returns-in_default-clause-ends : goal.returns-in_default-clause-ends
returns-in_default-clause-ends c = λ call changes permitted.
    let seen : DatedValue = the_view c.self.inside in
    let after : DatedValue = record {
      kernel = c.self.inside.kernel;
      tasks = named_entries c.reserve-room.new.tasks.entries;
      namespaces = numbered_entries namespace_number c.reserve-room.new.namespaces.entries;
      filesystems = numbered_entries filesystem_number c.reserve-room.new.filesystems.entries;
    } in
    subst (λ deny. EndsDated c.args.self.now c.args.name.now call (Err deny) after) (sym c.denial.ensures)
    (ends_short c.args.self.now permitted.given.held c.args.name.now call c.args.permit.grant permitted.given changes after
    (parts_same seen c.self.inside.kernel (named_entries c.reserve-room.new.tasks.entries)
    (numbered_entries namespace_number c.reserve-room.new.namespaces.entries)
    (numbered_entries filesystem_number c.reserve-room.new.filesystems.entries) refl
    (ap named_entries c.reserve-room.ensures.tasks)
    (ap (numbered_entries namespace_number) c.reserve-room.ensures.namespaces)
    (ap (numbered_entries filesystem_number) c.reserve-room.ensures.filesystems) ∙ c.self.view_is))

pub follow_namespaces-requires-clause-room : goal.follow_namespaces-requires-clause-room
follow_namespaces-requires-clause-room c =
    let seen : DatedValue = the_view c.self.inside in
    let permitted : IsPermitted seen.kernel.world seen.kernel.change c.args.name.now c.requires.0 c.args.permit =
    subst (λ (value : DatedValue). IsPermitted value.kernel.world value.kernel.change c.args.name.now c.requires.0
    c.args.permit) (sym c.self.view_is) c.requires.2 in
    let there : length (world_of c.self.inside.kernel.world).namespaces < spare c.reserve-room.new.namespaces =
    subst (λ (value : WorldValue). length (world_of value).namespaces < spare c.reserve-room.new.namespaces)
    c.world-world.ensures
    (with_room c.reserve-room.result c.in-Ok.ensures.room c.reserve-room.ensures.namespace_room) in
    let few = few_namespaces seen permitted.given.held c.args.name.now c.requires.0 c.args.permit.grant permitted.given
    c.requires.1 c.self.invariant c.in-Ok-spend.answer c.spend.new.self
    (c.in-Ok-spend.ensures.ends c.requires.0 permitted) c.in-Ok-spend.ensures.change in
    subst (λ (value : WorldValue). length (world_of value).namespaces ≤ spare c.reserve-room.new.namespaces)
    (sym c.world-world-in-Ok-spend.ensures)
    (enough (length (world_of c.spend.new.self.world).namespaces)
    (length (world_of c.self.inside.kernel.world).namespaces) (spare c.reserve-room.new.namespaces) few there)

pub invariant_of-self-in-Ok-spend : goal.invariant_of-self-in-Ok-spend
invariant_of-self-in-Ok-spend c =
    let seen : DatedValue = the_view c.self.inside in
    let permitted : IsPermitted seen.kernel.world seen.kernel.change c.args.name.now c.requires.0 c.args.permit =
    subst (λ (value : DatedValue). IsPermitted value.kernel.world value.kernel.change c.args.name.now c.requires.0
    c.args.permit) (sym c.self.view_is) c.requires.2 in
    living_changed seen permitted.given.held c.args.name.now c.requires.0 c.args.permit.grant permitted.given
    c.requires.1 c.self.invariant c.in-Ok-spend.answer c.spend.new.self
    (c.in-Ok-spend.ensures.ends c.requires.0 permitted) c.in-Ok-spend.ensures.change
    (named_entries c.follow_task.new.numbers.entries)
    (numbered_entries namespace_number c.follow_namespaces.new.numbers.entries)
    (numbered_entries filesystem_number c.follow_filesystems.new.numbers.entries)
    (follows_spent c.self.inside.kernel c.spend.new.self c.args.name.now permitted.given.task c.args.permit.grant
    c.grant.result.now c.grant.ensures c.world-world.result.now c.world-world-in-Ok-spend.result.now
    c.world-world.ensures c.world-world-in-Ok-spend.ensures c.changed_by-changed.result c.changed_by-changed.ensures
    c.in-Ok.before.entries c.in-Ok.ensures.mounts c.self.inside.tasks.entries c.reserve-room.new.tasks.entries
    c.follow_task.new.numbers.entries c.reserve-room.ensures.tasks c.follow_task.ensures.numbers
    c.self.inside.namespaces.entries c.reserve-room.new.namespaces.entries c.follow_namespaces.new.numbers.entries
    c.reserve-room.ensures.namespaces c.follow_namespaces.ensures c.self.inside.filesystems.entries
    c.reserve-room.new.filesystems.entries c.follow_filesystems.new.numbers.entries
    c.reserve-room.ensures.filesystems c.follow_filesystems.ensures)

pub returns-in-Ok-spend-clause-ends : goal.returns-in-Ok-spend-clause-ends
returns-in-Ok-spend-clause-ends c = λ call changes given.
    let seen : DatedValue = the_view c.self.inside in
    let permitted : IsPermitted seen.kernel.world seen.kernel.change c.args.name.now call c.args.permit =
    subst (λ (value : DatedValue). IsPermitted value.kernel.world value.kernel.change c.args.name.now call
    c.args.permit) (sym c.self.view_is) given in
    let after : DatedValue = record {
      kernel = c.spend.new.self;
      tasks = named_entries c.follow_task.new.numbers.entries;
      namespaces = numbered_entries namespace_number c.follow_namespaces.new.numbers.entries;
      filesystems = numbered_entries filesystem_number c.follow_filesystems.new.numbers.entries;
    } in
    subst (λ (old : DatedValue). EndsDated old c.args.name.now call (Ok c.in-Ok-spend.answer) after) c.self.view_is
    (ends_changed seen permitted.given.held c.args.name.now call c.args.permit.grant permitted.given
    changes c.self.invariant c.in-Ok-spend.answer c.spend.new.self
    (c.in-Ok-spend.ensures.ends call permitted) c.in-Ok-spend.ensures.change
    (named_entries c.follow_task.new.numbers.entries)
    (numbered_entries namespace_number c.follow_namespaces.new.numbers.entries)
    (numbered_entries filesystem_number c.follow_filesystems.new.numbers.entries)
    (follows_spent c.self.inside.kernel c.spend.new.self c.args.name.now permitted.given.task c.args.permit.grant
    c.grant.result.now c.grant.ensures c.world-world.result.now c.world-world-in-Ok-spend.result.now
    c.world-world.ensures c.world-world-in-Ok-spend.ensures c.changed_by-changed.result c.changed_by-changed.ensures
    c.in-Ok.before.entries c.in-Ok.ensures.mounts c.self.inside.tasks.entries c.reserve-room.new.tasks.entries
    c.follow_task.new.numbers.entries c.reserve-room.ensures.tasks c.follow_task.ensures.numbers
    c.self.inside.namespaces.entries c.reserve-room.new.namespaces.entries c.follow_namespaces.new.numbers.entries
    c.reserve-room.ensures.namespaces c.follow_namespaces.ensures c.self.inside.filesystems.entries
    c.reserve-room.new.filesystems.entries c.follow_filesystems.new.numbers.entries
    c.reserve-room.ensures.filesystems c.follow_filesystems.ensures))

pub returns-in-Err-clause-ends : goal.returns-in-Err-clause-ends
returns-in-Err-clause-ends c = λ call changes given.
    let seen : DatedValue = the_view c.self.inside in
    let permitted : IsPermitted seen.kernel.world seen.kernel.change c.args.name.now call c.args.permit =
    subst (λ (value : DatedValue). IsPermitted value.kernel.world value.kernel.change c.args.name.now call
    c.args.permit) (sym c.self.view_is) given in
    let ends = c.in-Err.ensures.ends call permitted in
    let after : DatedValue = record {
      kernel = c.spend.new.self;
      tasks = named_entries c.reserve-room.new.tasks.entries;
      namespaces = numbered_entries namespace_number c.reserve-room.new.namespaces.entries;
      filesystems = numbered_entries filesystem_number c.reserve-room.new.filesystems.entries;
    } in
    subst (λ (old : DatedValue). EndsDated old c.args.name.now call (Err c.in-Err.deny) after) c.self.view_is
    (ends_refused seen permitted.given.held c.args.name.now call c.in-Err.deny c.spend.new.self after
    (parts_same seen c.spend.new.self (named_entries c.reserve-room.new.tasks.entries)
    (numbered_entries namespace_number c.reserve-room.new.namespaces.entries)
    (numbered_entries filesystem_number c.reserve-room.new.filesystems.entries) ends.outcome.1
    (ap named_entries c.reserve-room.ensures.tasks)
    (ap (numbered_entries namespace_number) c.reserve-room.ensures.namespaces)
    (ap (numbered_entries filesystem_number) c.reserve-room.ensures.filesystems)) ends)

pub returns-in_default-clause-in_world : goal.returns-in_default-clause-in_world
returns-in_default-clause-in_world c =
    let after : DatedValue = record {
      kernel = c.self.inside.kernel;
      tasks = named_entries c.reserve-room.new.tasks.entries;
      namespaces = numbered_entries namespace_number c.reserve-room.new.namespaces.entries;
      filesystems = numbered_entries filesystem_number c.reserve-room.new.filesystems.entries;
    } in
    dated_is after
    (subst (λ (value : DatedValue). IsHeld value.kernel.world) (sym c.self.view_is) c.requires.2.given.held)

pub returns-in-Ok-spend-clause-in_world : goal.returns-in-Ok-spend-clause-in_world
returns-in-Ok-spend-clause-in_world c =
    let after : DatedValue = record {
      kernel = c.spend.new.self;
      tasks = named_entries c.follow_task.new.numbers.entries;
      namespaces = numbered_entries namespace_number c.follow_namespaces.new.numbers.entries;
      filesystems = numbered_entries filesystem_number c.follow_filesystems.new.numbers.entries;
    } in
    dated_is after (subst IsHeld c.world-world-in-Ok-spend.ensures c.follow_task.ensures.held)

pub returns-in-Err-clause-in_world : goal.returns-in-Err-clause-in_world
returns-in-Err-clause-in_world c =
    let seen : DatedValue = the_view c.self.inside in
    let permitted : IsPermitted seen.kernel.world seen.kernel.change c.args.name.now c.requires.0 c.args.permit =
    subst (λ (value : DatedValue). IsPermitted value.kernel.world value.kernel.change c.args.name.now c.requires.0
    c.args.permit) (sym c.self.view_is) c.requires.2 in
    let after : DatedValue = record {
      kernel = c.spend.new.self;
      tasks = named_entries c.reserve-room.new.tasks.entries;
      namespaces = numbered_entries namespace_number c.reserve-room.new.namespaces.entries;
      filesystems = numbered_entries filesystem_number c.reserve-room.new.filesystems.entries;
    } in
    let ends = c.in-Err.ensures.ends c.requires.0 permitted in
    dated_is after (subst (λ (kernel : KernelValue). IsHeld kernel.world) (sym ends.outcome.1) permitted.given.held)
