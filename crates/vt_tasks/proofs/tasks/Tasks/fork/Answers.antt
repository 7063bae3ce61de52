use Rattle.std.proofs.Common.{ℕ, ◌≡◌, ap, rules, sym, refl, subst, ◌∙◌, option_map, Some, option_copied}
use Rattle.vt_spec.proofs.Common.{Task, TaskName, child_name, option_copied_mut}
use Rattle.std.specs.declared.vec.Vec.{Vec}
use Rattle.std.specs.declared.alloc.Global.{Global}
use Rattle.std.specs.declared.hash.BuildHasherDefault.{BuildHasherDefault}
use Rattle.std.specs.declared.hash.FoldHasher.{FoldHasher}
use Rattle.indexmap.specs.IndexMap.{IndexMap, get_by}
use Rattle.vt_tasks.specs.declared.task.Task.{Task as Held}
use Rattle.vt_tasks.specs.TaskValue.{task_of}
use Rattle.vt_tasks.specs.TasksValue.{AreKept, Tasks, called, forked, in_order, tasks_of}
use Rattle.vt_tasks.proofs.KeptTasks.{called-absent, called-found, forked-so, kept-forked, never-absent}
use Rattle.vt_tasks.proofs.TasksLemmas.{granted-so, granted-there, is_key, there-shared}
use Rattle.vt_tasks.proofs.tasks.Tasks.fork.Goals as goal
use Rattle.vt_tasks.proofs.tasks.Tasks.fork.Goals.{in-Some, in_default}

-- the parent, under its name
abbrev the_parent : (next : ℕ) (q name : TaskName) (tasks : Tasks)
    (m : IndexMap (Vec ℕ Global) Held (BuildHasherDefault FoldHasher)) (parent : Held) → AreKept next m.entries
    → q ≡ name → tasks_of (in_order m.entries) ≡ tasks → get_by (is_key q) m ≡ Some parent
    → called name tasks ≡ Some (task_of parent)
the_parent next q name tasks m parent kept same view found = (λ i. called (sym same i) (sym view i))
    ∙ called-found q m m kept parent found

pub unwrap-parent-requires : goal.unwrap-parent-requires
unwrap-parent-requires c =
    let map = c.self.inside.by_name in
    there-shared c.get.result (λ none. granted-there _ _ c.requires
    ((λ i. called (sym c.numbers-numbers.ensures.value i) (sym c.self.view_is i).tasks)
    ∙ called-absent c.numbers-numbers.result.now map map c.self.invariant (sym c.get.ensures.value ∙ none)))

pub overflow_add-forks : goal.overflow_add-forks
overflow_add-forks c =
    let parent = c.unwrap-parent.result.now in
    let found = the_parent _ _ _ _ c.self.inside.by_name parent c.self.invariant c.numbers-numbers.ensures.value (ap (λ value. value.tasks) c.self.view_is)
    (sym c.get.ensures.value ∙ ap option_copied c.unwrap-parent.ensures) in
    let few = (granted-so _ _ (task_of parent) c.requires found).0 in
    search rules

pub child-requires : goal.child-requires
child-requires c =
    let parent = c.unwrap-parent.result.now in
    let found = the_parent _ _ _ _ c.self.inside.by_name parent c.self.invariant c.numbers-numbers.ensures.value (ap (λ value. value.tasks) c.self.view_is)
    (sym c.get.ensures.value ∙ ap option_copied c.unwrap-parent.ensures) in
    record { few = (granted-so _ _ (task_of parent) c.requires found).0 }

pub invariant_of-self-2 : goal.invariant_of-self-2
invariant_of-self-2 c =
    let map = c.self.inside.by_name in
    let parent = c.unwrap-parent.result.now in
    let name = c.numbers-numbers.result.now in
    let is = sym c.get.ensures.value ∙ ap option_copied c.unwrap-parent.ensures in
    let key_is : c.in_ok-key.key.items ≡ c.in_ok-child.child.name = c.in_ok-key.ensures.items
    ∙ c.numbers.ensures.value ∙ c.in_ok-child_name.ensures.cases in
    let inserts = c.in_ok-insert.ensures.entries in
    elim c.match-get_mut.branch [
      | in-Some w ↦ subst (λ inside. AreKept inside.births inside.by_name.entries) (sym w.self-inside-is)
          (kept-forked c.self.inside.births name map c.insert.new.self _ c.in_ok-key.key parent c.in_ok-child.child
          c.args.cred c.self.invariant is key_is c.in_ok-child.ensures.child c.in_ok-child.ensures.birth inserts
          c.get_mut.ensures.unique w.in-Some.parent.now _
          (sym c.get_mut.ensures.value ∙ ap option_copied_mut w.in-Some.is) refl (c.get_mut.follows.holds _))
      | in_default w ↦ absurd (never-absent c.self.inside.births name map c.insert.new.self c.insert.new.self
          c.in_ok-key.key parent c.in_ok-child.child c.args.cred c.self.invariant is key_is c.in_ok-child.ensures.child
          c.in_ok-child.ensures.birth inserts c.get_mut.ensures.unique
          (sym c.get_mut.ensures.value ∙ ap option_copied_mut w.in_default.is))
    ]

pub returns-clause-name : goal.returns-clause-name
returns-clause-name c =
    let parent = c.unwrap-parent.result.now in
    let found = the_parent _ _ _ _ c.self.inside.by_name parent c.self.invariant c.numbers-numbers.ensures.value (ap (λ value. value.tasks) c.self.view_is)
    (sym c.get.ensures.value ∙ ap option_copied c.unwrap-parent.ensures) in
    ap Some (c.in_ok-child_name.ensures.cases ∙ ap (λ (task : Task ℕ). task.name) c.in_ok-child.ensures.child)
    ∙ sym (ap (option_map child_name) found)

pub returns-clause-tasks : goal.returns-clause-tasks
returns-clause-tasks c =
    let map = c.self.inside.by_name in
    let parent = c.unwrap-parent.result.now in
    let name = c.numbers-numbers.result.now in
    let is = sym c.get.ensures.value ∙ ap option_copied c.unwrap-parent.ensures in
    let key_is : c.in_ok-key.key.items ≡ c.in_ok-child.child.name = c.in_ok-key.ensures.items
    ∙ c.numbers.ensures.value ∙ c.in_ok-child_name.ensures.cases in
    let inserts = c.in_ok-insert.ensures.entries in
    elim c.match-get_mut.branch [
      | in-Some w ↦ ap (λ inside. tasks_of (in_order inside.by_name.entries)) w.self-inside-is
          ∙ forked-so c.self.inside.births name map c.insert.new.self _ c.in_ok-key.key parent c.in_ok-child.child
          c.args.cred c.self.invariant is key_is c.in_ok-child.ensures.child c.in_ok-child.ensures.birth inserts
          c.get_mut.ensures.unique w.in-Some.parent.now _
          (sym c.get_mut.ensures.value ∙ ap option_copied_mut w.in-Some.is) refl (c.get_mut.follows.holds _)
          ∙ (λ i. forked (c.numbers-numbers.ensures.value i) c.args.cred (c.self.view_is i).tasks)
      | in_default w ↦
          absurd (never-absent c.self.inside.births name map c.insert.new.self c.insert.new.self
          c.in_ok-key.key parent c.in_ok-child.child c.args.cred c.self.invariant is key_is c.in_ok-child.ensures.child
          c.in_ok-child.ensures.birth inserts c.get_mut.ensures.unique
          (sym c.get_mut.ensures.value ∙ ap option_copied_mut w.in_default.is))
    ]
