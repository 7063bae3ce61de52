use Rattle.std.proofs.Common.{[], ◌∷◌, is_some, not, Ok}
use Rattle.vt_spec.proofs.Common.{ToUnmountLazily, err_from_is_err_and, judging}
use Rattle.vt_spec.specs.declared.errors.Rule.TheVariants.{M10}
use Rattle.vt_spec.specs.Machine.Looks.{mount_at}
use Rattle.vt_tasks.specs.TaskValue.{task_of}
use Rattle.vt_policy.proofs.MountLemmas.{root_refused}
use Rattle.vt_policy.proofs.mounting.lazy.Goals as goal

pub returns-in_err-here : goal.returns-in_err-here
unfolding judging
returns-in_err-here g c =
    let looks = g.L.Look.looks c.args.world.now in
    let p = err_from_is_err_and c.from_residual.result c.from_residual.ensures.1 in
    rw (p.1, p.2) (root_refused looks (task_of c.args.who.now) c.args.path.now
    (λ at. (not (is_some (mount_at looks at).mount_point), M10) ∷ [])
    (λ at. Ok (ToUnmountLazily at.mount)) _ c.in_err-here.ensures.err)
