use Rattle.std.proofs.Common.{ap, ◌∙◌, subst, sym}
use Rattle.vt_location.specs.declared.numbers.FilesystemId.{FilesystemId}
use Rattle.vt_mounting.specs.Attach.Opening.{first_shown}
use Rattle.vt_ns.proofs.Common.{StoreValue, entries_of, overlays_of_store, world_of, IsHeld}
use Rattle.vt_mounting.proofs.attach.OpeningLemmas.{mounts_made, namespaces_made, opening_held, opening_seen, tasks_made}
use Rattle.vt_ns.proofs.world.World.new.Goals as goal

pub invariant_of-result : goal.invariant_of-result
invariant_of-result c = subst (λ (store : StoreValue). IsHeld (record {
  mounts = c.in-Ok-first_mounts.mounts;
  groups = c.new-3.result;
  filesystems = store.plain;
  overlays = overlays_of_store store;
  namespaces = entries_of c.in-Ok.namespaces.entries;
  tasks = c.in_ok-tasks.tasks.tasks;
  births = c.in_ok-tasks.tasks.births;
  next = 3;
})) (sym c.new-2.ensures)
    (opening_held c.in-Ok-first_mounts.mounts c.new-3.result c.in-Ok-first_filesystems.filesystems
    (entries_of c.in-Ok.namespaces.entries) c.in_ok-tasks.tasks.tasks c.in_ok-tasks.tasks.births (c.in-Ok-first_mounts.ensures.ok
    ∙ mounts_made c.new-number.result c.new-namespace.result c.new-filesystem.result c.plain.result
    c.new-number.ensures c.new-namespace.ensures c.new-filesystem.ensures c.plain.ensures) c.new-3.ensures
    (c.in-Ok-first_filesystems.ensures.ok ∙ ap (λ (id : FilesystemId). first_shown id.count) c.new-filesystem.ensures)
    (c.in-Ok.ensures.ok
    ∙ namespaces_made c.new-number.result c.new-namespace.result c.new-filesystem.result c.plain.result
    c.new-number.ensures c.new-namespace.ensures c.new-filesystem.ensures c.plain.ensures) (c.in_ok-tasks.ensures.tasks
    ∙ tasks_made c.new-number.result c.new-namespace.result c.new-filesystem.result c.plain.result
    c.new-number.ensures c.new-namespace.ensures c.new-filesystem.ensures c.plain.ensures) c.in_ok-tasks.ensures.births)

pub returns-clause-opening : goal.returns-clause-opening
returns-clause-opening c = ap (λ (store : StoreValue). world_of (record {
  mounts = c.in-Ok-first_mounts.mounts;
  groups = c.new-3.result;
  filesystems = store.plain;
  overlays = overlays_of_store store;
  namespaces = entries_of c.in-Ok.namespaces.entries;
  tasks = c.in_ok-tasks.tasks.tasks;
  births = c.in_ok-tasks.tasks.births;
  next = 3;
})) c.new-2.ensures ∙ opening_seen c.in-Ok-first_mounts.mounts c.new-3.result c.in-Ok-first_filesystems.filesystems
    (entries_of c.in-Ok.namespaces.entries) c.in_ok-tasks.tasks.tasks c.in_ok-tasks.tasks.births (c.in-Ok-first_mounts.ensures.ok
    ∙ mounts_made c.new-number.result c.new-namespace.result c.new-filesystem.result c.plain.result
    c.new-number.ensures c.new-namespace.ensures c.new-filesystem.ensures c.plain.ensures) c.new-3.ensures
    (c.in-Ok-first_filesystems.ensures.ok ∙ ap (λ (id : FilesystemId). first_shown id.count) c.new-filesystem.ensures)
    (c.in-Ok.ensures.ok
    ∙ namespaces_made c.new-number.result c.new-namespace.result c.new-filesystem.result c.plain.result
    c.new-number.ensures c.new-namespace.ensures c.new-filesystem.ensures c.plain.ensures) (c.in_ok-tasks.ensures.tasks
    ∙ tasks_made c.new-number.result c.new-namespace.result c.new-filesystem.result c.plain.result
    c.new-number.ensures c.new-namespace.ensures c.new-filesystem.ensures c.plain.ensures) c.in_ok-tasks.ensures.births
