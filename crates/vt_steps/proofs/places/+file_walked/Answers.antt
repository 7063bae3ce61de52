use Rattle.std.proofs.Common.{◌≡◌, Err, Ok, Some, ap, arith, nat_eq, option_map, sym, unwrap_or, ◌∙◌}
use Rattle.vt_spec.proofs.Common.{err_from_is_err_and, symlink_of}
use Rattle.vt_spec.specs.Machine.Walking.{file_walked}
use Rattle.vt_location.specs.Locations.{location_of}
use Rattle.vt_looks.specs.Places.{last_of}
use Rattle.vt_tasks.specs.TaskValue.{task_of}
use Rattle.vt_location.specs.declared.locations.Location.{Location}
use Rattle.vt_steps.specs.declared.here.Here.{Here}
use Rattle.vt_steps.specs.declared.here.Named.{Named}
use Rattle.vt_steps.specs.declared.words.Prefix.{Prefix}
use Rattle.vt_steps.specs.StepsValue.{here_of, place_of, steps_of}
use Rattle.vt_steps.proofs.Endings.{ends-as-halted, ends-refused}
use Rattle.vt_steps.proofs.FilesWalked.{file-ended, front-halted, link-gone, link-halted, name-halted}
use Rattle.vt_steps.proofs.places.+file_walked.Goals as goal

-- the walk at the symlink that a place names
at-symlink : (here : Here) (named : Named) (link : Location) → named.place.object ≡ Some link
    → record { location = location_of link; left = here.left; steps = steps_of named.steps }
    ≡ symlink_of (here_of here) (place_of named)
at-symlink here named link there = sym (ap (λ object. record {
  location = unwrap_or (option_map location_of object) (location_of named.place.parent);
  left = here.left;
  steps = steps_of named.steps;
}) there)

pub returns-then-depth-eq0 : goal.returns-then-depth-eq0
returns-then-depth-eq0 g t c =
    let looks = g.L.Look.looks c.args.walker.now.world.now in
    let task = task_of c.args.walker.now.who.now in
    let start = here_of c.args.start in
    ends-refused place_of _ c.denial.result c.args.start.steps c.refused.result c.refused.ensures
    (ap (λ depth. file_walked nat_eq depth looks task start c.args.text.now c.args.slash) c.if-depth-eq0.true
    ∙ ap (λ deny. Err (record { deny = deny; steps = start.steps })) (sym c.denial.ensures))

pub returns-in_err-prefix : goal.returns-in_err-prefix
returns-in_err-prefix g t c =
    let looks = g.L.Look.looks c.args.walker.now.world.now in
    let task = task_of c.args.walker.now.who.now in
    let p = err_from_is_err_and c.from_residual.result c.from_residual.ensures.1 in
    rw (p.1, p.2) (front-halted looks task c.args.depth
    (omega (arith, c.if-depth-eq0.false)) (here_of c.args.start) c.args.text.now c.args.slash _
    (ends-as-halted (λ (prefix : Prefix). here_of prefix.here) here_of _ _ c.in_err-prefix.ensures.walk))

pub returns-in_err-named : goal.returns-in_err-named
returns-in_err-named g t c =
    let looks = g.L.Look.looks c.args.walker.now.world.now in
    let task = task_of c.args.walker.now.who.now in
    let p = err_from_is_err_and c.from_residual-in_err-named.result c.from_residual-in_err-named.ensures.1 in
    rw (p.1, p.2) (name-halted looks task c.args.depth
    (omega (arith, c.if-depth-eq0.false)) (here_of c.args.start) c.args.text.now c.args.slash
    c.asks_for_directory-slash.result c.asks_for_directory-slash.ensures (last_of c.in_ok-prefix.prefix.last)
    c.in_ok-prefix.ensures.last (here_of c.in_ok-prefix.prefix.here) c.in_ok-prefix.ensures.walk _
    c.in_err-named.ensures)

pub returns-in_default : goal.returns-in_default
returns-in_default g t c =
    let looks = g.L.Look.looks c.args.walker.now.world.now in
    let task = task_of c.args.walker.now.who.now in
    file-ended looks task c.args.depth (omega (arith, c.if-depth-eq0.false)) (here_of c.args.start)
    c.args.text.now c.args.slash c.asks_for_directory-slash.result c.asks_for_directory-slash.ensures
    (last_of c.in_ok-prefix.prefix.last) c.in_ok-prefix.ensures.last (here_of c.in_ok-prefix.prefix.here)
    c.in_ok-prefix.ensures.walk
    (place_of c.in_ok-named.named) c.in_ok-named.ensures c.in_default.ensures.text
    ∙ ap (λ place. Ok place) (sym c.in_ok-entered.ensures)

pub returns-in_err-begun : goal.returns-in_err-begun
returns-in_err-begun g t c =
    let looks = g.L.Look.looks c.args.walker.now.world.now in
    let task = task_of c.args.walker.now.who.now in
    let p = err_from_is_err_and c.from_residual-in_err-begun.result c.from_residual-in_err-begun.ensures.1 in
    rw (p.1, p.2) (link-halted looks task c.args.depth (omega (arith, c.if-depth-eq0.false)) (here_of c.args.start)
    c.args.text.now c.args.slash c.asks_for_directory-slash.result c.asks_for_directory-slash.ensures
    (last_of c.in_ok-prefix.prefix.last) c.in_ok-prefix.ensures.last (here_of c.in_ok-prefix.prefix.here)
    c.in_ok-prefix.ensures.walk
    (place_of c.in_ok-named.named) c.in_ok-named.ensures
    c.in-Some.inner.now c.in-Some.ensures.text _
    (at-symlink c.in_ok-prefix.prefix.here c.in_ok-named.named c.in-Some.link c.in-Some.ensures.object)
    _ c.in_err-begun.ensures)

pub returns : goal.returns
returns g t c =
    let looks = g.L.Look.looks c.args.walker.now.world.now in
    let task = task_of c.args.walker.now.who.now in
    link-gone looks task c.args.depth (omega (arith, c.if-depth-eq0.false)) (here_of c.args.start)
    c.args.text.now c.args.slash c.asks_for_directory-slash.result c.asks_for_directory-slash.ensures
    (last_of c.in_ok-prefix.prefix.last) c.in_ok-prefix.ensures.last (here_of c.in_ok-prefix.prefix.here)
    c.in_ok-prefix.ensures.walk
    (place_of c.in_ok-named.named) c.in_ok-named.ensures
    c.in-Some.inner.now c.in-Some.ensures.text _
    (at-symlink c.in_ok-prefix.prefix.here c.in_ok-named.named c.in-Some.link c.in-Some.ensures.object)
    (here_of c.in_ok-begun.begun) c.file_walked.result c.in_ok-begun.ensures c.file_walked.ensures
