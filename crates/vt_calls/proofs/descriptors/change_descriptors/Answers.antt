use Rattle.std.proofs.Common.{ap, refl}
use Rattle.vt_spec.proofs.Common.{err_from_is_err_and}
use Rattle.vt_permits.specs.GrantValue.{descriptor_permit}
use Rattle.vt_permits.specs.declared.grant.Grant.TheVariants.{Descriptor}
use Rattle.vt_permits.specs.declared.grant.DescriptorGrant.TheVariants as granted
use Rattle.vt_calls.proofs.Counting.{counts_if_same, counts_nothing}
use Rattle.vt_calls.proofs.Endings.{grants_meant, made, permitted, short}
use Rattle.vt_calls.proofs.Told.{number_told}
use Rattle.vt_calls.proofs.descriptors.change_descriptors.Goals as goal

pub open-requires : goal.open-requires
open-requires c =
    permitted c.args.world.now c.args.name.now (Descriptor c.args.grant) (descriptor_permit (granted.Open c.in-Open.file c.in-Open.access))
    (λ task called. ap descriptor_permit c.in-Open.is) refl tt c.requires

pub open_new-requires : goal.open_new-requires
open_new-requires c =
    grants_meant c.args.world.now c.args.name.now (Descriptor c.args.grant)
    (descriptor_permit (granted.OpenNew c.in-OpenNew.new)) (λ task called. ap descriptor_permit c.in-OpenNew.is) refl
    c.requires

pub close-requires : goal.close-requires
close-requires c =
    permitted c.args.world.now c.args.name.now (Descriptor c.args.grant) (descriptor_permit (granted.Close c.in-Close.descriptor))
    (λ task called. ap descriptor_permit c.in-Close.is) refl tt c.requires

pub returns-in_err-open-in-Open-clause-ends : goal.returns-in_err-open-in-Open-clause-ends
returns-in_err-open-in-Open-clause-ends c =
    let p = err_from_is_err_and c.from_residual.result c.from_residual.ensures.1 in
    rw p.1 (short c.args.world.now c.args.name.now (Descriptor c.args.grant) (descriptor_permit (granted.Open c.in-Open.file c.in-Open.access))
    (λ task called. ap descriptor_permit c.in-Open.is) _ _ p.2 c.in_err-open-in-Open.ensures.err refl)

pub returns-in_ok-open-in-Open-clause-ends : goal.returns-in_ok-open-in-Open-clause-ends
returns-in_ok-open-in-Open-clause-ends c =
    made c.args.world.now c.args.name.now (Descriptor c.args.grant) (descriptor_permit (granted.Open c.in-Open.file c.in-Open.access))
    (λ task called. ap descriptor_permit c.in-Open.is) _ _ tt
    (λ task called. number_told _ task _ called c.in_ok-open-in-Open.ensures.number) c.in_ok-open-in-Open.ensures.ok

pub returns-in_err-open_new-in-OpenNew-clause-ends : goal.returns-in_err-open_new-in-OpenNew-clause-ends
returns-in_err-open_new-in-OpenNew-clause-ends c =
    let p = err_from_is_err_and c.from_residual-in_err-open_new-in-OpenNew.result c.from_residual-in_err-open_new-in-OpenNew.ensures.1 in
    rw p.1 (short c.args.world.now c.args.name.now (Descriptor c.args.grant) (descriptor_permit (granted.OpenNew c.in-OpenNew.new))
    (λ task called. ap descriptor_permit c.in-OpenNew.is) _ _ p.2 c.in_err-open_new-in-OpenNew.ensures.err refl)

pub returns-in_ok-open_new-in-OpenNew-clause-ends : goal.returns-in_ok-open_new-in-OpenNew-clause-ends
returns-in_ok-open_new-in-OpenNew-clause-ends c =
    made c.args.world.now c.args.name.now (Descriptor c.args.grant) (descriptor_permit (granted.OpenNew c.in-OpenNew.new))
    (λ task called. ap descriptor_permit c.in-OpenNew.is) _ _ c.in_ok-open_new-in-OpenNew.ensures.vacant
    (λ task called. number_told _ task _ called c.in_ok-open_new-in-OpenNew.ensures.number)
    c.in_ok-open_new-in-OpenNew.ensures.ok

pub returns-in-Close-clause-ends : goal.returns-in-Close-clause-ends
returns-in-Close-clause-ends c =
    made c.args.world.now c.args.name.now (Descriptor c.args.grant) (descriptor_permit (granted.Close c.in-Close.descriptor))
    (λ task called. ap descriptor_permit c.in-Close.is) _ _ tt (λ task called. refl) c.close.ensures.ok

pub returns-in_err-open-in-Open-clause-counts : goal.returns-in_err-open-in-Open-clause-counts
returns-in_err-open-in-Open-clause-counts c = counts_if_same c.args.world.now c.open.new.self c.in_err-open-in-Open.ensures.err

pub returns-in_ok-open-in-Open-clause-counts : goal.returns-in_ok-open-in-Open-clause-counts
returns-in_ok-open-in-Open-clause-counts c = counts_nothing c.args.world.now c.open.new.self c.in_ok-open-in-Open.ensures.counts

pub returns-in_err-open_new-in-OpenNew-clause-counts : goal.returns-in_err-open_new-in-OpenNew-clause-counts
returns-in_err-open_new-in-OpenNew-clause-counts c = counts_if_same c.args.world.now c.open_new.new.self c.in_err-open_new-in-OpenNew.ensures.err

pub returns-in_ok-open_new-in-OpenNew-clause-counts : goal.returns-in_ok-open_new-in-OpenNew-clause-counts
returns-in_ok-open_new-in-OpenNew-clause-counts c = counts_nothing c.args.world.now c.open_new.new.self c.in_ok-open_new-in-OpenNew.ensures.counts

pub returns-in-Close-clause-counts : goal.returns-in-Close-clause-counts
returns-in-Close-clause-counts c = counts_nothing c.args.world.now c.close.new.self c.close.ensures.counts
