use Rattle.std.proofs.Common.{nat_eq, ◌≡◌, subst, IfOk, IsOk, false, ◌↔◌, List}
use Rattle.vt_spec.proofs.Common.{TaskName, list_any, sealed}
use Rattle.vt_spec.specs.Machine.Sealed.{no_such_task}
use Rattle.vt_ns.proofs.Common.{world_of}
use Rattle.vt_ns.proofs.world.World.sealed.Goals as goal

pub answer-requires : goal.answer-requires
answer-requires c = c.sealing.ensures.standing

pub returns-clause-ok : goal.returns-clause-ok
returns-clause-ok c =
    let world = world_of c.args.self.now in
    subst (λ (names : List TaskName). IfOk c.answer.result (λ is_sealed. is_sealed ≡ sealed nat_eq world names))
    c.sealing.ensures.names (c.answer.ensures.ok world c.sealing.ensures.shown)

pub returns-clause-there : goal.returns-clause-there
returns-clause-there c =
    let world = world_of c.args.self.now in
    subst (λ (names : List TaskName). IsOk c.answer.result ↔ (list_any (no_such_task world) names ≡ false))
    c.sealing.ensures.names (c.answer.ensures.there world c.sealing.ensures.shown)
