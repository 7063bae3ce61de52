use Rattle.std.proofs.Common.{ap, arith, refl}
use Rattle.vt_permits.specs.GrantValue.{attachment_permit}
use Rattle.vt_permits.specs.declared.grant.Attachment.TheVariants as granted
use Rattle.vt_permits.specs.declared.grant.Grant.TheVariants.{Mount}
use Rattle.vt_permits.specs.declared.grant.MountGrant.TheVariants.{Attach}
use Rattle.vt_calls.proofs.Counting.{counts_mounts, makes_few}
use Rattle.vt_calls.proofs.Endings.{changed, changed_new, grants_meant, permitted}
use Rattle.vt_calls.proofs.mounting.attach.Goals as goal

pub mount_plain-requires : goal.mount_plain-requires
mount_plain-requires c =
    grants_meant c.args.world.now c.args.name.now (Mount (Attach c.args.attachment))
    (attachment_permit (granted.Plain c.in-Plain.destination c.in-Plain.flags))
    (λ task called. ap attachment_permit c.in-Plain.is) refl c.requires

pub bind-requires : goal.bind-requires
bind-requires c =
    permitted c.args.world.now c.args.name.now (Mount (Attach c.args.attachment)) (attachment_permit (granted.Bind c.in-Bind.bind))
    (λ task called. ap attachment_permit c.in-Bind.is) refl tt c.requires

pub move_mount-requires : goal.move_mount-requires
move_mount-requires c =
    permitted c.args.world.now c.args.name.now (Mount (Attach c.args.attachment)) (attachment_permit (granted.Move c.in-Move.mount c.in-Move.destination))
    (λ task called. ap attachment_permit c.in-Move.is) refl tt c.requires

pub returns-in-Plain-clause-ends : goal.returns-in-Plain-clause-ends
returns-in-Plain-clause-ends c =
    changed_new c.args.world.now c.args.name.now (Mount (Attach c.args.attachment))
    (attachment_permit (granted.Plain c.in-Plain.destination c.in-Plain.flags))
    (λ task called. ap attachment_permit c.in-Plain.is) _ c.mount_plain.result c.done.result c.done.ensures
    c.mount_plain.ensures.vacant
    (λ task called. refl) refl c.mount_plain.ensures.ok c.mount_plain.ensures.err

pub returns-in-Bind-clause-ends : goal.returns-in-Bind-clause-ends
returns-in-Bind-clause-ends c =
    changed c.args.world.now c.args.name.now (Mount (Attach c.args.attachment)) (attachment_permit (granted.Bind c.in-Bind.bind))
    (λ task called. ap attachment_permit c.in-Bind.is) _ c.bind.result c.done-in-Bind.result c.done-in-Bind.ensures tt
    (λ task called. refl) refl c.bind.ensures.ok c.bind.ensures.err

pub returns-in-Move-clause-ends : goal.returns-in-Move-clause-ends
returns-in-Move-clause-ends c =
    changed c.args.world.now c.args.name.now (Mount (Attach c.args.attachment)) (attachment_permit (granted.Move c.in-Move.mount c.in-Move.destination))
    (λ task called. ap attachment_permit c.in-Move.is) _ c.move_mount.result c.done-in-Move.result c.done-in-Move.ensures tt
    (λ task called. refl) refl c.move_mount.ensures.ok c.move_mount.ensures.err

pub returns-in-Plain-clause-counts : goal.returns-in-Plain-clause-counts
returns-in-Plain-clause-counts c =
    counts_mounts c.args.world.now c.args.name.now (Mount (Attach c.args.attachment))
    (attachment_permit (granted.Plain c.in-Plain.destination c.in-Plain.flags))
    (λ task called. ap attachment_permit c.in-Plain.is) c.requires
    c.mount_plain.new.self c.mount_plain.result _ (makes_few c.args.world.now c.args.name.now (Mount (Attach c.args.attachment))
    (attachment_permit (granted.Plain c.in-Plain.destination c.in-Plain.flags))
    (λ task called. ap attachment_permit c.in-Plain.is) c.requires) _ c.mount_plain.ensures.counts
    (λ counts. omega (arith, counts)) c.mount_plain.ensures.births c.mount_plain.ensures.err

pub returns-in-Bind-clause-counts : goal.returns-in-Bind-clause-counts
returns-in-Bind-clause-counts c =
    counts_mounts c.args.world.now c.args.name.now (Mount (Attach c.args.attachment))
    (attachment_permit (granted.Bind c.in-Bind.bind))
    (λ task called. ap attachment_permit c.in-Bind.is) c.requires
    c.bind.new.self c.bind.result _ (makes_few c.args.world.now c.args.name.now (Mount (Attach c.args.attachment))
    (attachment_permit (granted.Bind c.in-Bind.bind))
    (λ task called. ap attachment_permit c.in-Bind.is) c.requires) _ c.bind.ensures.counts
    (λ counts. omega (arith, counts)) c.bind.ensures.births c.bind.ensures.err

pub returns-in-Move-clause-counts : goal.returns-in-Move-clause-counts
returns-in-Move-clause-counts c =
    counts_mounts c.args.world.now c.args.name.now (Mount (Attach c.args.attachment))
    (attachment_permit (granted.Move c.in-Move.mount c.in-Move.destination))
    (λ task called. ap attachment_permit c.in-Move.is) c.requires
    c.move_mount.new.self c.move_mount.result _ (makes_few c.args.world.now c.args.name.now (Mount (Attach c.args.attachment))
    (attachment_permit (granted.Move c.in-Move.mount c.in-Move.destination))
    (λ task called. ap attachment_permit c.in-Move.is) c.requires) _ c.move_mount.ensures.counts
    (λ counts. omega (arith, counts)) c.move_mount.ensures.births c.move_mount.ensures.err
