use Rattle.std.proofs.Common.{◌≡◌, IsSome, arith, ap, length, map, sym, subst, true≢false, ◌∙◌}
use Rattle.vt_spec.proofs.Common.{keys_of, option_copied_mut}
use Rattle.vt_location.specs.MountValue.{mount_of}
use Rattle.vt_location.specs.Numbers.{counted}
use Rattle.vt_tasks.specs.TasksValue.{AreKept, births_of, tasks_of}
use Rattle.vt_tasks.proofs.PivotLemmas.{all-of, as-many, births-set_value_at, changed-next, kept-pivoted, keys-set_value_at, pivoted-in_order, pivoting}
use Rattle.vt_tasks.proofs.TasksLemmas.{told}
use Rattle.vt_tasks.proofs.tasks.Tasks.pivot.Goals as goal
use Rattle.vt_tasks.proofs.tasks.Tasks.pivot.Goals.{in-Some, in_default}

pub invariant_of-self : goal.invariant_of-self
invariant_of-self c =
    let old = c.self.inside.by_name.entries in
    let new = c.loop-index.self-inside.by_name.entries in
    let namespace = counted c.args.namespace.count in
    let root = mount_of c.args.root.now in
    let other = mount_of c.args.new.now in
    let last : c.loop-index.index ≡ length old = omega
    (arith, c.loop-index-test.false, c.loop-index.auto.index-end, c.len-index-end.ensures.len) in
    subst (λ next. AreKept next new) (sym c.loop-index.invariant.0)
    (kept-pivoted namespace root other old new c.loop-index.invariant.1 c.loop-index.invariant.2
    (all-of (pivoting namespace root other) c.loop-index.index old new last c.loop-index.invariant.3)
    c.self.inside.births c.self.invariant)

pub loop-index-preserved : goal.loop-index-preserved
loop-index-preserved c =
    let old = c.self.inside.by_name.entries in
    let es = c.loop-index.self-inside.by_name.entries in
    let change = pivoting (counted c.args.namespace.count) (mount_of c.args.root.now) (mount_of c.args.new.now) in
    elim c.match-get_index_mut.branch [
      | in-Some w ↦ (
        ap (λ inside. inside.births) w.self-inside-is ∙ c.loop-index.invariant.0,
        ap (λ inside. keys_of inside.by_name.entries) w.self-inside-is ∙ keys-set_value_at es c.loop-index.index _
            ∙ c.loop-index.invariant.1,
        ap (λ inside. births_of inside.by_name.entries) w.self-inside-is
            ∙ births-set_value_at es c.loop-index.index w.in-Some.task.now _
            (sym c.get_index_mut.ensures.value ∙ ap option_copied_mut w.in-Some.is) w.pivot.ensures.birth
            ∙ c.loop-index.invariant.2,
        ap (λ inside. tasks_of inside.by_name.entries) w.self-inside-is
            ∙ changed-next change c.loop-index.index es (tasks_of old) w.in-Some.task.now _ c.loop-index.invariant.3
            (sym c.get_index_mut.ensures.value ∙ ap option_copied_mut w.in-Some.is) w.pivot.ensures.task,
      )
      | in_default w ↦ absurd (true≢false (sym (subst IsSome w.in_default.is
          (c.get_index_mut.ensures.found.1 (omega (arith, c.loop-index-test.true, c.len-index-end.ensures.len, as-many old es c.loop-index.invariant.1))))))
    ]

pub returns : goal.returns
returns c =
    let old = c.self.inside.by_name.entries in
    let new = c.loop-index.self-inside.by_name.entries in
    let namespace = counted c.args.namespace.count in
    let root = mount_of c.args.root.now in
    let other = mount_of c.args.new.now in
    let last : c.loop-index.index ≡ length old = omega
    (arith, c.loop-index-test.false, c.loop-index.auto.index-end, c.len-index-end.ensures.len) in
    told (pivoted-in_order namespace root other old new c.loop-index.invariant.1 c.loop-index.invariant.2
    (all-of (pivoting namespace root other) c.loop-index.index old new last c.loop-index.invariant.3)
    ∙ ap (λ value. map (pivoting namespace root other) value.tasks) c.self.view_is) (c.loop-index.invariant.0 ∙ ap (λ value. value.births) c.self.view_is)
