use Rattle.std.proofs.Common.{[], ◌∷◌, ◌&&◌, Ok}
use Rattle.vt_spec.proofs.Common.{ToSetFlags, err_from_is_err_and, judging}
use Rattle.vt_spec.specs.declared.errors.Rule.TheVariants.{M8}
use Rattle.vt_cred.specs.MountFlags.{flags_of}
use Rattle.vt_tasks.specs.TaskValue.{task_of}
use Rattle.vt_policy.proofs.MountLemmas.{root_refused}
use Rattle.vt_policy.proofs.mounting.remount.Goals as goal

pub returns-in_err-here : goal.returns-in_err-here
unfolding judging
returns-in_err-here g c =
    let looks = g.L.Look.looks c.args.world.now in
    let flags = flags_of c.args.flags in
    let p = err_from_is_err_and c.from_residual.result c.from_residual.ensures.1 in
    rw (p.1, p.2) (root_refused looks (task_of c.args.who.now) c.args.path.now
    (λ at. (flags.read_only && looks.is_written_through at.mount, M8) ∷ [])
    (λ at. Ok (ToSetFlags at.mount flags)) _ c.in_err-here.ensures.err)
