use Rattle.std.proofs.Common.{ap, arith, length, ◌∙◌}
use Rattle.vt_spec.proofs.Common.{list_any}
use Rattle.vt_location.specs.Numbers.{same_id}
use Rattle.vt_group.specs.Sets.{has, same_group}
use Rattle.vt_group.proofs.name_list.NameList.keep_used.Goals as goal

pub returns-clause-mounts : goal.returns-clause-mounts
returns-clause-mounts c mount any = c.drop_unused.ensures.mounts mount
    (ap (list_any (λ name. has same_id name mount c.args.mounts.now)) c.self.view_is ∙ any)

pub returns-clause-lowers : goal.returns-clause-lowers
returns-clause-lowers c lower any = c.drop_unused.ensures.lowers lower
    (ap (list_any (λ name. has same_group name lower c.args.lowers.now)) c.self.view_is ∙ any)

pub returns-clause-dropped : goal.returns-clause-dropped
returns-clause-dropped c = omega (arith, c.drop_unused.ensures.fewer, ap length c.self.view_is)
