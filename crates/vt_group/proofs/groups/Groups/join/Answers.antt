use Rattle.std.proofs.Common.{sym, subst, nat_eq}
use Rattle.vt_spec.proofs.Common.{OnOk_then, Shared, regrouped}
use Rattle.vt_group.specs.Grouping.{Has, with_propagation}
use Rattle.vt_location.specs.Numbers.{counted}
use Rattle.vt_group.proofs.Changes.{join_regroups}
use Rattle.vt_group.proofs.groups.Groups.join.Goals as goal

pub returns-clause-ok : goal.returns-clause-ok
returns-clause-ok c = OnOk_then c.set.result (λ new world has live is.
    subst (Has (regrouped nat_eq (with_propagation world (counted c.args.mount.count)
    (Shared (counted c.args.group.count))))) (sym new)
    (join_regroups world c.args.self.now has live (counted c.args.mount.count) (counted c.args.group.count) is.0 is.1))
    c.set.ensures.ok
