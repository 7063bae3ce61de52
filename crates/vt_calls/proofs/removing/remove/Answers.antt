use Rattle.std.proofs.Common.{OnOk, ap, refl, subst}
use Rattle.vt_mounting.specs.Detach.Events.{Becomes}
use Rattle.vt_permits.specs.GrantValue.{remove_permit, rename_permit}
use Rattle.vt_permits.specs.declared.grant.Grant.TheVariants.{Remove}
use Rattle.vt_permits.specs.declared.grant.RemoveGrant.TheVariants as granted
use Rattle.vt_calls.proofs.Counting.{counts_nothing, counts_nothing_if}
use Rattle.vt_calls.proofs.Endings.{changed, made, permitted}
use Rattle.vt_calls.proofs.removing.remove.Goals as goal

pub unlink-requires : goal.unlink-requires
unlink-requires c =
    permitted c.args.world.now c.args.name.now (Remove c.args.grant) (remove_permit (granted.Unlink c.in-Unlink.gone))
    (λ task called. ap remove_permit c.in-Unlink.is) refl tt c.requires

pub remove_directory-requires : goal.remove_directory-requires
remove_directory-requires c =
    permitted c.args.world.now c.args.name.now (Remove c.args.grant) (remove_permit (granted.Directory c.in-Directory.removed))
    (λ task called. ap remove_permit c.in-Directory.is) refl tt c.requires

pub rename-requires : goal.rename-requires
rename-requires c =
    rw c.into_inner.ensures (permitted c.args.world.now c.args.name.now (Remove c.args.grant) (remove_permit (granted.Rename c.in-Rename.renamed))
    (λ task called. ap remove_permit c.in-Rename.is) refl tt c.requires)

pub returns-in-Unlink-clause-ends : goal.returns-in-Unlink-clause-ends
returns-in-Unlink-clause-ends c =
    made c.args.world.now c.args.name.now (Remove c.args.grant) (remove_permit (granted.Unlink c.in-Unlink.gone))
    (λ task called. ap remove_permit c.in-Unlink.is) _ _ tt (λ task called. refl) c.unlink.ensures.ok

pub returns-in-Directory-clause-ends : goal.returns-in-Directory-clause-ends
returns-in-Directory-clause-ends c =
    changed c.args.world.now c.args.name.now (Remove c.args.grant) (remove_permit (granted.Directory c.in-Directory.removed))
    (λ task called. ap remove_permit c.in-Directory.is) _ c.remove_directory.result c.done.result c.done.ensures tt
    (λ task called. refl) refl c.remove_directory.ensures.ok c.remove_directory.ensures.err

pub returns-in-Rename-clause-ends : goal.returns-in-Rename-clause-ends
returns-in-Rename-clause-ends c =
    changed c.args.world.now c.args.name.now (Remove c.args.grant) (remove_permit (granted.Rename c.in-Rename.renamed))
    (λ task called. ap remove_permit c.in-Rename.is) _ c.rename.result c.done-in-Rename.result c.done-in-Rename.ensures tt
    (λ task called. refl) refl
    (subst (λ renamed. OnOk c.rename.result
    (Becomes c.args.world.now c.args.name.now (rename_permit renamed) c.rename.new.self))
    c.into_inner.ensures c.rename.ensures.ok) c.rename.ensures.err

pub returns-in-Unlink-clause-counts : goal.returns-in-Unlink-clause-counts
returns-in-Unlink-clause-counts c = counts_nothing c.args.world.now c.unlink.new.self c.unlink.ensures.counts

pub returns-in-Directory-clause-counts : goal.returns-in-Directory-clause-counts
returns-in-Directory-clause-counts c = counts_nothing_if c.args.world.now c.remove_directory.new.self c.remove_directory.result c.remove_directory.ensures.counts c.remove_directory.ensures.err

pub returns-in-Rename-clause-counts : goal.returns-in-Rename-clause-counts
returns-in-Rename-clause-counts c = counts_nothing_if c.args.world.now c.rename.new.self c.rename.result c.rename.ensures.counts c.rename.ensures.err
