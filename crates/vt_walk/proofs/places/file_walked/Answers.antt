use Rattle.std.proofs.Common.{◌≡◌, Err, Ok, Some, ap, arith, option_map, sym, unwrap_or, ◌∙◌}
use Rattle.vt_spec.proofs.Common.{err_from_is_err_and, symlink_of}
use Rattle.vt_location.specs.declared.locations.Location.{Location}
use Rattle.vt_location.specs.Locations.{location_of}
use Rattle.vt_looks.specs.declared.places.Place.{Place}
use Rattle.vt_tasks.specs.TaskValue.{task_of}
use Rattle.vt_walk.specs.declared.here.Here.{Here}
use Rattle.vt_walk.specs.PlainWalks.{standing}
use Rattle.vt_walk.proofs.NodeLemmas.{not-lent}
use Rattle.vt_walk.proofs.FilesWalked.{file_walk-begun, file_walk-over, file_walked-by, link-refused, next-turn, place-ended, place-refused}
use Rattle.vt_looks.specs.Places.{last_of}
use Rattle.vt_walk.specs.WalkValue.{here_of, place_of}
use Rattle.vt_walk.proofs.places.file_walked.Goals as goal

-- the walk at the symlink that a place names
at-symlink : (here : Here) (place : Place) (link : Location) → place.object ≡ Some link
    → standing (location_of link) here.left ≡ symlink_of (here_of here) (place_of place)
at-symlink here place link there =
    ap (λ object. standing (unwrap_or (option_map location_of object) (location_of place.parent)) here.left) (sym there)

pub loop-link-init : goal.loop-link-init
loop-link-init g c = (
  file_walk-begun (g.L.Look.looks c.args.world.now)
      (task_of c.args.who.now) c.args.path.now c.as_bytes-text.result.now (here_of c.at_start-start.result)
      c.as_bytes-text.ensures.value c.at_start-start.ensures.value,
  not-lent (g.L.Look.real c.args.world.now) c.at_start-start.result.location _ c.at_start-start.ensures.lent,
)

pub returns-in_err-here-clause-value : goal.returns-in_err-here-clause-value
returns-in_err-here-clause-value g c =
    let split = c.front_and_last-front in
    let p = err_from_is_err_and c.from_residual.result c.from_residual.ensures.1 in
    rw (p.1, p.2) (file_walked-by (g.L.Look.looks c.args.world.now)
    (task_of c.args.who.now) c.loop-link._link c.loop-link-test.true
    (here_of c.loop-link.start) c.loop-link.text.now c.loop-link.slash
    c.asks_for_directory-slash.result c.asks_for_directory-slash.ensures split.result.0
    (last_of split.result.1) split.ensures.front split.ensures.last
    (Err _) c.in_err-here.ensures.value ∙ c.loop-link.invariant.0)

pub returns-in_err-place-clause-value : goal.returns-in_err-place-clause-value
returns-in_err-place-clause-value g c =
    let split = c.front_and_last-front in
    let p = err_from_is_err_and c.from_residual-in_err-place.result c.from_residual-in_err-place.ensures.1 in
    rw (p.1, p.2) (place-refused (g.L.Look.looks c.args.world.now)
    (task_of c.args.who.now) c.loop-link._link c.loop-link-test.true
    (here_of c.loop-link.start) c.loop-link.text.now c.loop-link.slash
    c.asks_for_directory-slash.result c.asks_for_directory-slash.ensures split.result.0
    (last_of split.result.1) split.ensures.front split.ensures.last
    (here_of c.in_ok-here.here) c.in_ok-here.ensures.value _ c.in_err-place.ensures.value ∙ c.loop-link.invariant.0)

pub returns-in_default-clause-value : goal.returns-in_default-clause-value
returns-in_default-clause-value g c =
    let split = c.front_and_last-front in
    ap (λ place. Ok place) c.entered.ensures
    ∙ place-ended (g.L.Look.looks c.args.world.now) (task_of c.args.who.now) c.loop-link._link c.loop-link-test.true
    (here_of c.loop-link.start) c.loop-link.text.now c.loop-link.slash
    c.asks_for_directory-slash.result c.asks_for_directory-slash.ensures split.result.0
    (last_of split.result.1) split.ensures.front split.ensures.last
    (here_of c.in_ok-here.here) c.in_ok-here.ensures.value
    (place_of c.in_ok-place.place) c.in_ok-place.ensures.value c.in_default.ensures.text ∙ c.loop-link.invariant.0

pub returns-in_err-start-clause-value : goal.returns-in_err-start-clause-value
returns-in_err-start-clause-value g c =
    let split = c.front_and_last-front in
    let p = err_from_is_err_and c.from_residual-in_err-start.result c.from_residual-in_err-start.ensures.1 in
    rw (p.1, p.2) (link-refused (g.L.Look.looks c.args.world.now)
    (task_of c.args.who.now) c.loop-link._link c.loop-link-test.true
    (here_of c.loop-link.start) c.loop-link.text.now c.loop-link.slash
    c.asks_for_directory-slash.result c.asks_for_directory-slash.ensures split.result.0
    (last_of split.result.1) split.ensures.front split.ensures.last
    (here_of c.in_ok-here.here) c.in_ok-here.ensures.value (place_of c.in_ok-place.place) c.in_ok-place.ensures.value
    c.in-Some.inner.now (standing (location_of c.in-Some.link) c.in_ok-here.here.left) c.in-Some.ensures.text
    (at-symlink c.in_ok-here.here c.in_ok-place.place c.in-Some.link c.in-Some.ensures.object)
    _ c.in_err-start.ensures.value ∙ c.loop-link.invariant.0)

pub loop-link-preserved : goal.loop-link-preserved
loop-link-preserved g c =
    let split = c.front_and_last-front in (
      next-turn (g.L.Look.looks c.args.world.now) (task_of c.args.who.now) c.loop-link._link c.loop-link-test.true
          (here_of c.loop-link.start) c.loop-link.text.now c.loop-link.slash
          c.asks_for_directory-slash.result c.asks_for_directory-slash.ensures split.result.0
          (last_of split.result.1) split.ensures.front split.ensures.last
          (here_of c.in_ok-here.here) c.in_ok-here.ensures.value (place_of c.in_ok-place.place) c.in_ok-place.ensures.value
          c.in-Some.inner.now (standing (location_of c.in-Some.link) c.in_ok-here.here.left) c.in-Some.ensures.text
          (at-symlink c.in_ok-here.here c.in_ok-place.place c.in-Some.link c.in-Some.ensures.object)
          (here_of c.in_ok-start.start) c.in_ok-start.ensures.value ∙ c.loop-link.invariant.0,
      c.in_ok-start.ensures.lent,
    )

pub returns-clause-value : goal.returns-clause-value
returns-clause-value g c = ap (λ deny. Err deny) c.denial.ensures
    ∙ file_walk-over (g.L.Look.looks c.args.world.now) (task_of c.args.who.now) c.loop-link._link
    (here_of c.loop-link.start) c.loop-link.text.now c.loop-link.slash (omega (arith, c.loop-link-test.false))
    ∙ c.loop-link.invariant.0
