use Rattle.std.proofs.Common.{ap, refl}
use Rattle.vt_permits.specs.GrantValue.{make_permit}
use Rattle.vt_permits.specs.declared.grant.Grant.TheVariants.{Make}
use Rattle.vt_permits.specs.declared.grant.MakeGrant.TheVariants as granted
use Rattle.vt_calls.proofs.Counting.{counts_nothing_if}
use Rattle.vt_calls.proofs.Endings.{changed, changed_new, grants_meant, permitted}
use Rattle.vt_calls.proofs.making.make.Goals as goal

pub make-requires : goal.make-requires
make-requires c =
    grants_meant c.args.world.now c.args.name.now (Make c.args.grant) (make_permit (granted.Node c.in-Node.new))
    (λ task called. ap make_permit c.in-Node.is) refl c.requires

pub link-requires : goal.link-requires
link-requires c =
    permitted c.args.world.now c.args.name.now (Make c.args.grant) (make_permit (granted.Link c.in-Link.new))
    (λ task called. ap make_permit c.in-Link.is) refl tt c.requires

pub returns-in-Node-clause-ends : goal.returns-in-Node-clause-ends
returns-in-Node-clause-ends c =
    changed_new c.args.world.now c.args.name.now (Make c.args.grant) (make_permit (granted.Node c.in-Node.new))
    (λ task called. ap make_permit c.in-Node.is) _ c.make.result c.done.result c.done.ensures c.make.ensures.vacant
    (λ task called. refl) refl c.make.ensures.ok c.make.ensures.err

pub returns-in-Link-clause-ends : goal.returns-in-Link-clause-ends
returns-in-Link-clause-ends c =
    changed c.args.world.now c.args.name.now (Make c.args.grant) (make_permit (granted.Link c.in-Link.new))
    (λ task called. ap make_permit c.in-Link.is) _ c.link.result c.done-in-Link.result c.done-in-Link.ensures tt
    (λ task called. refl) refl c.link.ensures.ok c.link.ensures.err

pub returns-in-Node-clause-counts : goal.returns-in-Node-clause-counts
returns-in-Node-clause-counts c = counts_nothing_if c.args.world.now c.make.new.self c.make.result c.make.ensures.counts c.make.ensures.err

pub returns-in-Link-clause-counts : goal.returns-in-Link-clause-counts
returns-in-Link-clause-counts c = counts_nothing_if c.args.world.now c.link.new.self c.link.result c.link.ensures.counts c.link.ensures.err
