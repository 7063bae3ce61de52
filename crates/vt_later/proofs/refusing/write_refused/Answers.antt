use Rattle.std.proofs.Common.{ap, List, ℕ, ◌∙◌}
use Rattle.vt_spec.proofs.Common.{Pwrite, Write}
use Rattle.vt_tasks.specs.TaskValue.{task_of}
use Rattle.vt_later.specs.Past.{call_past}
use Rattle.vt_later.proofs.refusing.write_refused.Goals as goal

pub returns-in-Write : goal.returns-in-Write
returns-in-Write g c asked =
    let looks = g.L.Look.looks c.args.world.now in
    let passed = c.args.passed.now in
    let task = task_of c.args.who.now in
    rw c.in-Write.is (c.write.ensures asked
    ∙ ap (λ (bytes : List ℕ). call_past looks task passed (Write c.in-Write.path.now bytes)) c.as_slice.ensures.value)

pub returns-in-Pwrite : goal.returns-in-Pwrite
returns-in-Pwrite g c asked =
    let looks = g.L.Look.looks c.args.world.now in
    let passed = c.args.passed.now in
    let task = task_of c.args.who.now in
    rw c.in-Pwrite.is (c.pwrite.ensures
    ∙ ap (λ (bytes : List ℕ). call_past looks task passed (Pwrite c.in-Pwrite.descriptor c.in-Pwrite.offset bytes))
    c.as_slice-in-Pwrite.ensures.value)

pub returns-in-Chmod : goal.returns-in-Chmod
returns-in-Chmod g c asked = rw c.in-Chmod.is (c.chmod.ensures asked _)

pub returns-in-Chown : goal.returns-in-Chown
returns-in-Chown g c asked = rw c.in-Chown.is (c.chown.ensures asked)

pub returns-in-Opaque : goal.returns-in-Opaque
returns-in-Opaque g c asked = rw c.in-Opaque.is (c.opaque.ensures _)
