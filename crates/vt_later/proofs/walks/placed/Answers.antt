use Rattle.std.proofs.Common.{ap, nat_eq, ◌∙◌}
use Rattle.vt_spec.proofs.Common.{file_walk, new_leaf_walk, new_walk, old_leaf_walk, old_walk, rename_new_walk, walk_end}
use Rattle.vt_tasks.specs.TaskValue.{task_of}
use Rattle.vt_walk.specs.WalkValue.{place_end}
use Rattle.vt_later.proofs.Walked.{ends_at_place, refused_place}
use Rattle.vt_later.proofs.walks.placed.Goals as goal

pub returns-in-File-clause-ok : goal.returns-in-File-clause-ok
returns-in-File-clause-ok g c =
    let looks = g.L.Look.looks c.args.world.now in
    let task = task_of c.args.who.now in
    rw c.in-File.is (ends_at_place c.file_walk.result (walk_end (file_walk nat_eq looks task c.args.path.now))
    (c.file_walk.ensures.value ∙ ap (λ text. place_end (walk_end (file_walk nat_eq looks task text))) c.in_ok-path.ensures.text))

pub returns-in-File-clause-err : goal.returns-in-File-clause-err
returns-in-File-clause-err g c =
    let looks = g.L.Look.looks c.args.world.now in
    let task = task_of c.args.who.now in
    rw c.in-File.is (refused_place c.file_walk.result (walk_end (file_walk nat_eq looks task c.args.path.now))
    (c.file_walk.ensures.value ∙ ap (λ text. place_end (walk_end (file_walk nat_eq looks task text))) c.in_ok-path.ensures.text))

pub returns-in-NewName-clause-ok : goal.returns-in-NewName-clause-ok
returns-in-NewName-clause-ok g c =
    let looks = g.L.Look.looks c.args.world.now in
    let task = task_of c.args.who.now in
    rw c.in-NewName.is (ends_at_place c.new_walk.result (walk_end (new_walk nat_eq looks task c.args.path.now))
    (c.new_walk.ensures.value ∙ ap (λ text. place_end (walk_end (new_walk nat_eq looks task text))) c.in_ok-path.ensures.text))

pub returns-in-NewName-clause-err : goal.returns-in-NewName-clause-err
returns-in-NewName-clause-err g c =
    let looks = g.L.Look.looks c.args.world.now in
    let task = task_of c.args.who.now in
    rw c.in-NewName.is (refused_place c.new_walk.result (walk_end (new_walk nat_eq looks task c.args.path.now))
    (c.new_walk.ensures.value ∙ ap (λ text. place_end (walk_end (new_walk nat_eq looks task text))) c.in_ok-path.ensures.text))

pub returns-in-NewLeaf-clause-ok : goal.returns-in-NewLeaf-clause-ok
returns-in-NewLeaf-clause-ok g c =
    let looks = g.L.Look.looks c.args.world.now in
    let task = task_of c.args.who.now in
    rw c.in-NewLeaf.is (ends_at_place c.new_leaf_walk.result (walk_end (new_leaf_walk nat_eq looks task c.args.path.now))
    (c.new_leaf_walk.ensures.value ∙ ap (λ text. place_end (walk_end (new_leaf_walk nat_eq looks task text))) c.in_ok-path.ensures.text))

pub returns-in-NewLeaf-clause-err : goal.returns-in-NewLeaf-clause-err
returns-in-NewLeaf-clause-err g c =
    let looks = g.L.Look.looks c.args.world.now in
    let task = task_of c.args.who.now in
    rw c.in-NewLeaf.is (refused_place c.new_leaf_walk.result (walk_end (new_leaf_walk nat_eq looks task c.args.path.now))
    (c.new_leaf_walk.ensures.value ∙ ap (λ text. place_end (walk_end (new_leaf_walk nat_eq looks task text))) c.in_ok-path.ensures.text))

pub returns-in-OldName-clause-ok : goal.returns-in-OldName-clause-ok
returns-in-OldName-clause-ok g c =
    let looks = g.L.Look.looks c.args.world.now in
    let task = task_of c.args.who.now in
    rw c.in-OldName.is (ends_at_place c.as_places.result (walk_end (old_walk nat_eq looks task c.args.path.now))
    (c.as_places.ensures ∙ c.old_walk.ensures.value ∙ ap (λ text. place_end (walk_end (old_walk nat_eq looks task text))) c.in_ok-path.ensures.text))

pub returns-in-OldName-clause-err : goal.returns-in-OldName-clause-err
returns-in-OldName-clause-err g c =
    let looks = g.L.Look.looks c.args.world.now in
    let task = task_of c.args.who.now in
    rw c.in-OldName.is (refused_place c.as_places.result (walk_end (old_walk nat_eq looks task c.args.path.now))
    (c.as_places.ensures ∙ c.old_walk.ensures.value ∙ ap (λ text. place_end (walk_end (old_walk nat_eq looks task text))) c.in_ok-path.ensures.text))

pub returns-in-OldLeaf-clause-ok : goal.returns-in-OldLeaf-clause-ok
returns-in-OldLeaf-clause-ok g c =
    let looks = g.L.Look.looks c.args.world.now in
    let task = task_of c.args.who.now in
    rw c.in-OldLeaf.is (ends_at_place c.as_places-in-OldLeaf.result (walk_end (old_leaf_walk nat_eq looks task c.args.path.now))
    (c.as_places-in-OldLeaf.ensures ∙ c.old_leaf_walk.ensures.value ∙ ap (λ text. place_end (walk_end (old_leaf_walk nat_eq looks task text))) c.in_ok-path.ensures.text))

pub returns-in-OldLeaf-clause-err : goal.returns-in-OldLeaf-clause-err
returns-in-OldLeaf-clause-err g c =
    let looks = g.L.Look.looks c.args.world.now in
    let task = task_of c.args.who.now in
    rw c.in-OldLeaf.is (refused_place c.as_places-in-OldLeaf.result (walk_end (old_leaf_walk nat_eq looks task c.args.path.now))
    (c.as_places-in-OldLeaf.ensures ∙ c.old_leaf_walk.ensures.value ∙ ap (λ text. place_end (walk_end (old_leaf_walk nat_eq looks task text))) c.in_ok-path.ensures.text))

pub returns-in-Renamed-clause-ok : goal.returns-in-Renamed-clause-ok
returns-in-Renamed-clause-ok g c =
    let looks = g.L.Look.looks c.args.world.now in
    let task = task_of c.args.who.now in
    rw c.in-Renamed.is (ends_at_place c.rename_new_walk.result (walk_end (rename_new_walk nat_eq looks task c.args.path.now c.in-Renamed.directory))
    (c.rename_new_walk.ensures.value ∙ ap (λ text. place_end (walk_end (rename_new_walk nat_eq looks task text c.in-Renamed.directory))) c.in_ok-path.ensures.text))

pub returns-in-Renamed-clause-err : goal.returns-in-Renamed-clause-err
returns-in-Renamed-clause-err g c =
    let looks = g.L.Look.looks c.args.world.now in
    let task = task_of c.args.who.now in
    rw c.in-Renamed.is (refused_place c.rename_new_walk.result (walk_end (rename_new_walk nat_eq looks task c.args.path.now c.in-Renamed.directory))
    (c.rename_new_walk.ensures.value ∙ ap (λ text. place_end (walk_end (rename_new_walk nat_eq looks task text c.in-Renamed.directory))) c.in_ok-path.ensures.text))
