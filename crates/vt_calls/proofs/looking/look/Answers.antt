use Rattle.std.proofs.Common.{ap, Ok, refl, sym}
use Rattle.vt_spec.proofs.Common.{Bytes, MountList, Names, Told, err_from_is_err_and}
use Rattle.vt_permits.specs.GrantValue.{look_permit}
use Rattle.vt_permits.specs.declared.grant.Grant.TheVariants.{Look}
use Rattle.vt_permits.specs.declared.grant.LookGrant.TheVariants as granted
use Rattle.vt_calls.proofs.Endings.{looked, permitted, short}
use Rattle.vt_calls.proofs.looking.look.Goals as goal

pub list-requires : goal.list-requires
list-requires c =
    permitted c.args.world.now c.args.name.now (Look c.args.grant) (look_permit (granted.List c.in-List.directory))
    (λ task called. ap look_permit c.in-List.is) refl tt c.requires

pub stat-requires : goal.stat-requires
stat-requires c =
    permitted c.args.world.now c.args.name.now (Look c.args.grant) (look_permit (granted.Stat c.in-Stat.object))
    (λ task called. ap look_permit c.in-Stat.is) refl tt c.requires

pub read-requires : goal.read-requires
read-requires c =
    permitted c.args.world.now c.args.name.now (Look c.args.grant) (look_permit (granted.Read c.in-Read.file))
    (λ task called. ap look_permit c.in-Read.is) refl tt c.requires

pub read_part-requires : goal.read_part-requires
read_part-requires c =
    permitted c.args.world.now c.args.name.now (Look c.args.grant) (look_permit (granted.ReadPart c.in-ReadPart.part))
    (λ task called. ap look_permit c.in-ReadPart.is) refl tt c.requires

pub mounts-requires : goal.mounts-requires
mounts-requires c = permitted c.args.world.now c.args.name.now (Look c.args.grant) (look_permit granted.ListMounts)
    (λ task called. ap look_permit c.in-ListMounts.is) refl tt c.requires

pub returns-in_err-list-in-List : goal.returns-in_err-list-in-List
returns-in_err-list-in-List c =
    let p = err_from_is_err_and c.from_residual.result c.from_residual.ensures.1 in
    rw p.1 (short c.args.world.now c.args.name.now (Look c.args.grant) (look_permit (granted.List c.in-List.directory))
    (λ task called. ap look_permit c.in-List.is) _ _ p.2 refl refl)

pub returns-in_err-read-in-Read : goal.returns-in_err-read-in-Read
returns-in_err-read-in-Read c =
    let p = err_from_is_err_and c.from_residual-in_err-read-in-Read.result c.from_residual-in_err-read-in-Read.ensures.1 in
    rw p.1 (short c.args.world.now c.args.name.now (Look c.args.grant) (look_permit (granted.Read c.in-Read.file))
    (λ task called. ap look_permit c.in-Read.is) _ _ p.2 refl refl)

pub returns-in_err-read_part-in-ReadPart : goal.returns-in_err-read_part-in-ReadPart
returns-in_err-read_part-in-ReadPart c =
    let p = err_from_is_err_and c.from_residual-in_err-read_part-in-ReadPart.result c.from_residual-in_err-read_part-in-ReadPart.ensures.1 in
    rw p.1 (short c.args.world.now c.args.name.now (Look c.args.grant) (look_permit (granted.ReadPart c.in-ReadPart.part))
    (λ task called. ap look_permit c.in-ReadPart.is) _ _ p.2 refl refl)

pub returns-in_err-mounts-in-ListMounts : goal.returns-in_err-mounts-in-ListMounts
returns-in_err-mounts-in-ListMounts c =
    let p = err_from_is_err_and c.from_residual-in_err-mounts-in-ListMounts.result c.from_residual-in_err-mounts-in-ListMounts.ensures.1 in
    rw p.1 (short c.args.world.now c.args.name.now (Look c.args.grant) (look_permit granted.ListMounts)
    (λ task called. ap look_permit c.in-ListMounts.is) _ _ p.2 refl refl)

pub returns-in-Nothing : goal.returns-in-Nothing
returns-in-Nothing c = looked c.args.world.now c.args.name.now (Look c.args.grant) (look_permit granted.Nothing)
    (λ task called. ap look_permit c.in-Nothing.is) _ tt (λ task called. refl) (λ task. refl)

pub returns-in_ok-list-in-List : goal.returns-in_ok-list-in-List
returns-in_ok-list-in-List c =
    looked c.args.world.now c.args.name.now (Look c.args.grant) (look_permit (granted.List c.in-List.directory))
    (λ task called. ap look_permit c.in-List.is) _ tt
    (λ task called. ap (λ told. Ok (Names told)) (sym c.in_ok-list-in-List.ensures.ok)) (λ task. refl)

pub returns-in-Stat : goal.returns-in-Stat
returns-in-Stat c =
    looked c.args.world.now c.args.name.now (Look c.args.grant) (look_permit (granted.Stat c.in-Stat.object))
    (λ task called. ap look_permit c.in-Stat.is) _ tt (λ task called. ap (λ told. Ok (Told told)) (sym c.stat.ensures)) (λ task. refl)

pub returns-in_ok-read-in-Read : goal.returns-in_ok-read-in-Read
returns-in_ok-read-in-Read c =
    looked c.args.world.now c.args.name.now (Look c.args.grant) (look_permit (granted.Read c.in-Read.file))
    (λ task called. ap look_permit c.in-Read.is) _ tt
    (λ task called. ap (λ told. Ok (Bytes told)) (sym c.in_ok-read-in-Read.ensures.ok)) (λ task. refl)

pub returns-in_ok-read_part-in-ReadPart : goal.returns-in_ok-read_part-in-ReadPart
returns-in_ok-read_part-in-ReadPart c =
    looked c.args.world.now c.args.name.now (Look c.args.grant) (look_permit (granted.ReadPart c.in-ReadPart.part))
    (λ task called. ap look_permit c.in-ReadPart.is) _ tt
    (λ task called. ap (λ told. Ok (Bytes told)) (sym c.in_ok-read_part-in-ReadPart.ensures.ok)) (λ task. refl)

pub returns-in_ok-mounts-in-ListMounts : goal.returns-in_ok-mounts-in-ListMounts
returns-in_ok-mounts-in-ListMounts c =
    looked c.args.world.now c.args.name.now (Look c.args.grant) (look_permit granted.ListMounts)
    (λ task called. ap look_permit c.in-ListMounts.is) _ tt
    (λ task called. ap (λ told. Ok (MountList told)) (sym (c.in_ok-mounts-in-ListMounts.ensures.ok task called)))
    (λ task. refl)
