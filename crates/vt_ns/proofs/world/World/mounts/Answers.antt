use Rattle.std.proofs.Common.{ap, nat_eq, option_map, sym, ◌∙◌, ℕ}
use Rattle.vt_spec.proofs.Common.{IfOk-weaker, Task, World, mount_lines, same_Some, task_called}
use Rattle.vt_location.specs.declared.numbers.NamespaceId.{NamespaceId}
use Rattle.vt_ns.proofs.Common.{WorldValue, counted, world_of}
use Rattle.vt_ns.proofs.world.World.mounts.Goals as goal

pub mount_lines-requires : goal.mount_lines-requires
mount_lines-requires c = record { standing = c.table.ensures.standing; once = c.table.ensures.once }

pub returns-in-Some : goal.returns-in-Some
returns-in-Some c = record {
  ok = λ task called.
      let world : World ℕ = world_of c.args.self.now in
      let namespace = same_Some (counted c.in-Some.namespace.count) task.namespace
      (sym (ap (option_map (λ (id : NamespaceId). counted id.count)) c.in-Some.is) ∙ c.namespace_called.ensures
      ∙ ap (λ (value : WorldValue). option_map (λ (task : Task ℕ). task.namespace)
      (task_called (world_of value) c.args.name.now)) c.self.view_is
      ∙ ap (option_map (λ (task : Task ℕ). task.namespace)) called) in
      IfOk-weaker c.mount_lines.result _ _
      (λ lines told. told world c.table.ensures.shown ∙ ap (mount_lines nat_eq world) namespace)
      c.mount_lines.ensures.ok;
}
