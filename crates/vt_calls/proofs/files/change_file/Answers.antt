use Rattle.std.proofs.Common.{ap, refl}
use Rattle.vt_permits.specs.GrantValue.{write_permit}
use Rattle.vt_permits.specs.declared.grant.Grant.TheVariants.{Write}
use Rattle.vt_permits.specs.declared.grant.WriteGrant.TheVariants as granted
use Rattle.vt_calls.proofs.Counting.{counts_nothing, counts_nothing_if}
use Rattle.vt_calls.proofs.Endings.{changed, made, permitted}
use Rattle.vt_calls.proofs.files.change_file.Goals as goal

pub write-requires : goal.write-requires
write-requires c =
    permitted c.args.world.now c.args.name.now (Write c.args.grant) (write_permit (granted.Content c.in-Content.file c.in-Content.bytes))
    (λ task called. ap write_permit c.in-Content.is) refl tt c.requires

pub write_part-requires : goal.write_part-requires
write_part-requires c =
    permitted c.args.world.now c.args.name.now (Write c.args.grant) (write_permit (granted.Part c.in-Part.part))
    (λ task called. ap write_permit c.in-Part.is) refl tt c.requires

pub set_attr-requires : goal.set_attr-requires
set_attr-requires c =
    permitted c.args.world.now c.args.name.now (Write c.args.grant) (write_permit (granted.Attr c.in-Attr.object c.in-Attr.attr))
    (λ task called. ap write_permit c.in-Attr.is) refl tt c.requires

pub set_opaque-requires : goal.set_opaque-requires
set_opaque-requires c = permitted c.args.world.now c.args.name.now (Write c.args.grant)
    (write_permit (granted.Mark c.in-Mark.directory c.in-Mark.opaque))
    (λ task called. ap write_permit c.in-Mark.is) refl tt c.requires

pub returns-in-Content-clause-ends : goal.returns-in-Content-clause-ends
returns-in-Content-clause-ends c =
    made c.args.world.now c.args.name.now (Write c.args.grant) (write_permit (granted.Content c.in-Content.file c.in-Content.bytes))
    (λ task called. ap write_permit c.in-Content.is) _ _ tt (λ task called. refl) c.write.ensures.ok

pub returns-in-Part-clause-ends : goal.returns-in-Part-clause-ends
returns-in-Part-clause-ends c =
    changed c.args.world.now c.args.name.now (Write c.args.grant) (write_permit (granted.Part c.in-Part.part))
    (λ task called. ap write_permit c.in-Part.is) _ c.write_part.result c.done.result c.done.ensures tt
    (λ task called. refl) refl c.write_part.ensures.ok c.write_part.ensures.err

pub returns-in-Attr-clause-ends : goal.returns-in-Attr-clause-ends
returns-in-Attr-clause-ends c =
    made c.args.world.now c.args.name.now (Write c.args.grant) (write_permit (granted.Attr c.in-Attr.object c.in-Attr.attr))
    (λ task called. ap write_permit c.in-Attr.is) _ _ tt (λ task called. refl) c.set_attr.ensures.ok

pub returns-in-Mark-clause-ends : goal.returns-in-Mark-clause-ends
returns-in-Mark-clause-ends c = made c.args.world.now c.args.name.now (Write c.args.grant)
    (write_permit (granted.Mark c.in-Mark.directory c.in-Mark.opaque))
    (λ task called. ap write_permit c.in-Mark.is) _ _ tt (λ task called. refl) c.set_opaque.ensures.ok

pub returns-in-Content-clause-counts : goal.returns-in-Content-clause-counts
returns-in-Content-clause-counts c = counts_nothing c.args.world.now c.write.new.self c.write.ensures.counts

pub returns-in-Part-clause-counts : goal.returns-in-Part-clause-counts
returns-in-Part-clause-counts c = counts_nothing_if c.args.world.now c.write_part.new.self c.write_part.result c.write_part.ensures.counts c.write_part.ensures.err

pub returns-in-Attr-clause-counts : goal.returns-in-Attr-clause-counts
returns-in-Attr-clause-counts c = counts_nothing c.args.world.now c.set_attr.new.self c.set_attr.ensures.counts

pub returns-in-Mark-clause-counts : goal.returns-in-Mark-clause-counts
returns-in-Mark-clause-counts c = counts_nothing c.args.world.now c.set_opaque.new.self c.set_opaque.ensures.counts
