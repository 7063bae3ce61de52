use Rattle.std.proofs.Common.{ap, nat_eq, ◌∙◌}
use Rattle.vt_spec.proofs.Common.{destination_walk, directory_walk, object_walk, source_walk, symlink_walk, walk_end}
use Rattle.vt_tasks.specs.TaskValue.{task_of}
use Rattle.vt_walk.specs.WalkValue.{location_end}
use Rattle.vt_later.proofs.Walked.{ends_at, refused_by}
use Rattle.vt_later.proofs.walks.led_to.Goals as goal

pub returns-in-Object-clause-ok : goal.returns-in-Object-clause-ok
returns-in-Object-clause-ok g c =
    let looks = g.L.Look.looks c.args.world.now in
    let task = task_of c.args.who.now in
    rw c.in-Object.is (ends_at c.object_walk.result (walk_end (object_walk nat_eq looks task c.args.path.now))
    (c.object_walk.ensures ∙ ap (λ text. location_end (walk_end (object_walk nat_eq looks task text))) c.in_ok-path.ensures.text))

pub returns-in-Object-clause-err : goal.returns-in-Object-clause-err
returns-in-Object-clause-err g c =
    let looks = g.L.Look.looks c.args.world.now in
    let task = task_of c.args.who.now in
    rw c.in-Object.is (refused_by c.object_walk.result (walk_end (object_walk nat_eq looks task c.args.path.now))
    (c.object_walk.ensures ∙ ap (λ text. location_end (walk_end (object_walk nat_eq looks task text))) c.in_ok-path.ensures.text))

pub returns-in-Symlink-clause-ok : goal.returns-in-Symlink-clause-ok
returns-in-Symlink-clause-ok g c =
    let looks = g.L.Look.looks c.args.world.now in
    let task = task_of c.args.who.now in
    rw c.in-Symlink.is (ends_at c.symlink_walk.result (walk_end (symlink_walk nat_eq looks task c.args.path.now))
    (c.symlink_walk.ensures ∙ ap (λ text. location_end (walk_end (symlink_walk nat_eq looks task text))) c.in_ok-path.ensures.text))

pub returns-in-Symlink-clause-err : goal.returns-in-Symlink-clause-err
returns-in-Symlink-clause-err g c =
    let looks = g.L.Look.looks c.args.world.now in
    let task = task_of c.args.who.now in
    rw c.in-Symlink.is (refused_by c.symlink_walk.result (walk_end (symlink_walk nat_eq looks task c.args.path.now))
    (c.symlink_walk.ensures ∙ ap (λ text. location_end (walk_end (symlink_walk nat_eq looks task text))) c.in_ok-path.ensures.text))

pub returns-in-Directory-clause-ok : goal.returns-in-Directory-clause-ok
returns-in-Directory-clause-ok g c =
    let looks = g.L.Look.looks c.args.world.now in
    let task = task_of c.args.who.now in
    rw c.in-Directory.is (ends_at c.directory_walk.result (walk_end (directory_walk nat_eq looks task c.args.path.now))
    (c.directory_walk.ensures.value ∙ ap (λ text. location_end (walk_end (directory_walk nat_eq looks task text))) c.in_ok-path.ensures.text))

pub returns-in-Directory-clause-err : goal.returns-in-Directory-clause-err
returns-in-Directory-clause-err g c =
    let looks = g.L.Look.looks c.args.world.now in
    let task = task_of c.args.who.now in
    rw c.in-Directory.is (refused_by c.directory_walk.result (walk_end (directory_walk nat_eq looks task c.args.path.now))
    (c.directory_walk.ensures.value ∙ ap (λ text. location_end (walk_end (directory_walk nat_eq looks task text))) c.in_ok-path.ensures.text))

pub returns-in-Source-clause-ok : goal.returns-in-Source-clause-ok
returns-in-Source-clause-ok g c =
    let looks = g.L.Look.looks c.args.world.now in
    let task = task_of c.args.who.now in
    rw c.in-Source.is (ends_at c.source_walk.result (walk_end (source_walk nat_eq looks task c.args.path.now))
    (c.source_walk.ensures.value ∙ ap (λ text. location_end (walk_end (source_walk nat_eq looks task text))) c.in_ok-path.ensures.text))

pub returns-in-Source-clause-err : goal.returns-in-Source-clause-err
returns-in-Source-clause-err g c =
    let looks = g.L.Look.looks c.args.world.now in
    let task = task_of c.args.who.now in
    rw c.in-Source.is (refused_by c.source_walk.result (walk_end (source_walk nat_eq looks task c.args.path.now))
    (c.source_walk.ensures.value ∙ ap (λ text. location_end (walk_end (source_walk nat_eq looks task text))) c.in_ok-path.ensures.text))

pub returns-in-Destination-clause-ok : goal.returns-in-Destination-clause-ok
returns-in-Destination-clause-ok g c =
    let looks = g.L.Look.looks c.args.world.now in
    let task = task_of c.args.who.now in
    rw c.in-Destination.is (ends_at c.destination_walk.result (walk_end (destination_walk nat_eq looks task c.args.path.now))
    (c.destination_walk.ensures.value ∙ ap (λ text. location_end (walk_end (destination_walk nat_eq looks task text))) c.in_ok-path.ensures.text))

pub returns-in-Destination-clause-err : goal.returns-in-Destination-clause-err
returns-in-Destination-clause-err g c =
    let looks = g.L.Look.looks c.args.world.now in
    let task = task_of c.args.who.now in
    rw c.in-Destination.is (refused_by c.destination_walk.result (walk_end (destination_walk nat_eq looks task c.args.path.now))
    (c.destination_walk.ensures.value ∙ ap (λ text. location_end (walk_end (destination_walk nat_eq looks task text))) c.in_ok-path.ensures.text))
