use Rattle.std.proofs.Common.{ap, arith, option_map, refl, sym, unwrap_or, ◌∙◌}
use Rattle.vt_spec.proofs.Common.{ToEnterNamespace, ToExit, ToFork, ToSetCredentials, ToSetDirectory, ToSetRoot, ToSetUmask, ToUnshare, err_from_is_err_and, with_dropped}
use Rattle.vt_cred.specs.Caps.{capability_bits}
use Rattle.vt_location.specs.Locations.{location_of}
use Rattle.vt_location.specs.Numbers.{counted}
use Rattle.vt_permits.specs.GrantValue.{task_permit}
use Rattle.vt_permits.specs.declared.grant.Grant.TheVariants.{Task}
use Rattle.vt_spec.specs.Machine.World.{first_credentials}
use Rattle.vt_mounting.specs.Detach.Events.{credentials_called}
use Rattle.vt_calls.proofs.Counting.{counts_a_task, counts_if_same, counts_mounts, counts_nothing, counts_nothing_if, makes_few}
use Rattle.vt_calls.proofs.Endings.{changed, made, permitted, short}
use Rattle.vt_calls.proofs.Told.{name_told}
use Rattle.vt_calls.proofs.tasks.change_tasks.Goals as goal

pub set_directory-requires : goal.set_directory-requires
set_directory-requires c =
    permitted c.args.world.now c.args.name.now (Task c.args.grant) (ToSetDirectory (location_of c.in-SetDirectory.directory))
    (λ task called. ap (task_permit task) c.in-SetDirectory.is) refl tt c.requires

pub set_root-requires : goal.set_root-requires
set_root-requires c =
    permitted c.args.world.now c.args.name.now (Task c.args.grant) (ToSetRoot (location_of c.in-SetRoot.root))
    (λ task called. ap (task_permit task) c.in-SetRoot.is) refl tt c.requires

pub set_umask-requires : goal.set_umask-requires
set_umask-requires c = permitted c.args.world.now c.args.name.now (Task c.args.grant) (ToSetUmask c.in-SetUmask.umask)
    (λ task called. ap (task_permit task) c.in-SetUmask.is) refl tt c.requires

pub fork-requires : goal.fork-requires
fork-requires c = permitted c.args.world.now c.args.name.now (Task c.args.grant) (ToFork c.in-Fork.cred)
    (λ task called. ap (task_permit task) c.in-Fork.is) refl tt c.requires

pub exit-requires : goal.exit-requires
exit-requires c = permitted c.args.world.now c.args.name.now (Task c.args.grant) ToExit
    (λ task called. ap (task_permit task) c.in-Exit.is) refl tt c.requires

pub unshare-requires : goal.unshare-requires
unshare-requires c = permitted c.args.world.now c.args.name.now (Task c.args.grant) ToUnshare
    (λ task called. ap (task_permit task) c.in-Unshare.is) refl tt c.requires

pub enter_namespace-requires : goal.enter_namespace-requires
enter_namespace-requires c =
    permitted c.args.world.now c.args.name.now (Task c.args.grant) (ToEnterNamespace (counted c.in-EnterNamespace.namespace.count))
    (λ task called. ap (task_permit task) c.in-EnterNamespace.is) refl tt c.requires

pub drop_caps-requires : goal.drop_caps-requires
drop_caps-requires c = permitted c.args.world.now c.args.name.now (Task c.args.grant) (ToSetCredentials
    (with_dropped (credentials_called c.args.world.now c.args.name.now) (capability_bits c.in-DropCaps.caps)))
    (λ task called. ap (task_permit task) c.in-DropCaps.is
    ∙ ap (λ found. ToSetCredentials (with_dropped (unwrap_or (option_map (λ t. t.credentials) found) first_credentials)
    (capability_bits c.in-DropCaps.caps))) (sym called)) refl tt c.requires

pub returns-in-SetDirectory-clause-ends : goal.returns-in-SetDirectory-clause-ends
returns-in-SetDirectory-clause-ends c =
    changed c.args.world.now c.args.name.now (Task c.args.grant) (ToSetDirectory (location_of c.in-SetDirectory.directory))
    (λ task called. ap (task_permit task) c.in-SetDirectory.is) _ c.set_directory.result c.done.result c.done.ensures tt
    (λ task called. refl) refl c.set_directory.ensures.ok c.set_directory.ensures.err

pub returns-in-SetRoot-clause-ends : goal.returns-in-SetRoot-clause-ends
returns-in-SetRoot-clause-ends c =
    changed c.args.world.now c.args.name.now (Task c.args.grant) (ToSetRoot (location_of c.in-SetRoot.root))
    (λ task called. ap (task_permit task) c.in-SetRoot.is) _ c.set_root.result c.done-in-SetRoot.result c.done-in-SetRoot.ensures tt
    (λ task called. refl) refl c.set_root.ensures.ok c.set_root.ensures.err

pub returns-in-Unshare-clause-ends : goal.returns-in-Unshare-clause-ends
returns-in-Unshare-clause-ends c = changed c.args.world.now c.args.name.now (Task c.args.grant) ToUnshare
    (λ task called. ap (task_permit task) c.in-Unshare.is) _ c.unshare.result c.done-in-Unshare.result c.done-in-Unshare.ensures tt
    (λ task called. refl) refl c.unshare.ensures.ok c.unshare.ensures.err

pub returns-in-EnterNamespace-clause-ends : goal.returns-in-EnterNamespace-clause-ends
returns-in-EnterNamespace-clause-ends c =
    changed c.args.world.now c.args.name.now (Task c.args.grant) (ToEnterNamespace (counted c.in-EnterNamespace.namespace.count))
    (λ task called. ap (task_permit task) c.in-EnterNamespace.is) _ c.enter_namespace.result c.done-in-EnterNamespace.result c.done-in-EnterNamespace.ensures tt
    (λ task called. refl) refl c.enter_namespace.ensures.ok c.enter_namespace.ensures.err

pub returns-in-SetUmask-clause-ends : goal.returns-in-SetUmask-clause-ends
returns-in-SetUmask-clause-ends c = made c.args.world.now c.args.name.now (Task c.args.grant) (ToSetUmask c.in-SetUmask.umask)
    (λ task called. ap (task_permit task) c.in-SetUmask.is) _ _ tt (λ task called. refl) c.set_umask.ensures.ok

pub returns-in-Exit-clause-ends : goal.returns-in-Exit-clause-ends
returns-in-Exit-clause-ends c = made c.args.world.now c.args.name.now (Task c.args.grant) ToExit
    (λ task called. ap (task_permit task) c.in-Exit.is) _ _ tt (λ task called. refl) c.exit.ensures.ok

pub returns-in-DropCaps-clause-ends : goal.returns-in-DropCaps-clause-ends
returns-in-DropCaps-clause-ends c = made c.args.world.now c.args.name.now (Task c.args.grant) (ToSetCredentials
    (with_dropped (credentials_called c.args.world.now c.args.name.now) (capability_bits c.in-DropCaps.caps)))
    (λ task called. ap (task_permit task) c.in-DropCaps.is
    ∙ ap (λ found. ToSetCredentials (with_dropped (unwrap_or (option_map (λ t. t.credentials) found) first_credentials)
    (capability_bits c.in-DropCaps.caps))) (sym called)) _ _ tt (λ task called. refl) c.drop_caps.ensures.ok

pub returns-in_err-fork-in-Fork-clause-ends : goal.returns-in_err-fork-in-Fork-clause-ends
returns-in_err-fork-in-Fork-clause-ends c =
    let p = err_from_is_err_and c.from_residual.result c.from_residual.ensures.1 in
    rw p.1 (short c.args.world.now c.args.name.now (Task c.args.grant) (ToFork c.in-Fork.cred)
    (λ task called. ap (task_permit task) c.in-Fork.is) _ _ p.2 c.in_err-fork-in-Fork.ensures.err refl)

pub returns-in_ok-fork-in-Fork-clause-ends : goal.returns-in_ok-fork-in-Fork-clause-ends
returns-in_ok-fork-in-Fork-clause-ends c = made c.args.world.now c.args.name.now (Task c.args.grant) (ToFork c.in-Fork.cred)
    (λ task called. ap (task_permit task) c.in-Fork.is) _ _ tt
    (λ task called. name_told _ task _ called c.in_ok-fork-in-Fork.ensures.name) c.in_ok-fork-in-Fork.ensures.ok

pub returns-in-SetDirectory-clause-counts : goal.returns-in-SetDirectory-clause-counts
returns-in-SetDirectory-clause-counts c = counts_nothing_if c.args.world.now c.set_directory.new.self c.set_directory.result c.set_directory.ensures.counts c.set_directory.ensures.err

pub returns-in-SetRoot-clause-counts : goal.returns-in-SetRoot-clause-counts
returns-in-SetRoot-clause-counts c = counts_nothing_if c.args.world.now c.set_root.new.self c.set_root.result c.set_root.ensures.counts c.set_root.ensures.err

pub returns-in-EnterNamespace-clause-counts : goal.returns-in-EnterNamespace-clause-counts
returns-in-EnterNamespace-clause-counts c = counts_nothing_if c.args.world.now c.enter_namespace.new.self c.enter_namespace.result c.enter_namespace.ensures.counts c.enter_namespace.ensures.err

pub returns-in-SetUmask-clause-counts : goal.returns-in-SetUmask-clause-counts
returns-in-SetUmask-clause-counts c = counts_nothing c.args.world.now c.set_umask.new.self c.set_umask.ensures.counts

pub returns-in-DropCaps-clause-counts : goal.returns-in-DropCaps-clause-counts
returns-in-DropCaps-clause-counts c = counts_nothing c.args.world.now c.drop_caps.new.self c.drop_caps.ensures.counts

pub returns-in-Exit-clause-counts : goal.returns-in-Exit-clause-counts
returns-in-Exit-clause-counts c = counts_nothing c.args.world.now c.exit.new.self c.exit.ensures.counts

pub returns-in_err-fork-in-Fork-clause-counts : goal.returns-in_err-fork-in-Fork-clause-counts
returns-in_err-fork-in-Fork-clause-counts c = counts_if_same c.args.world.now c.fork.new.self c.in_err-fork-in-Fork.ensures.err

pub returns-in_ok-fork-in-Fork-clause-counts : goal.returns-in_ok-fork-in-Fork-clause-counts
returns-in_ok-fork-in-Fork-clause-counts c = counts_a_task c.args.world.now c.fork.new.self c.in_ok-fork-in-Fork.ensures.counts

pub returns-in-Unshare-clause-counts : goal.returns-in-Unshare-clause-counts
returns-in-Unshare-clause-counts c =
    counts_mounts c.args.world.now c.args.name.now (Task c.args.grant) ToUnshare (λ task called. ap (task_permit task) c.in-Unshare.is)
    c.requires c.unshare.new.self c.unshare.result _ (makes_few c.args.world.now c.args.name.now (Task c.args.grant) ToUnshare
    (λ task called. ap (task_permit task) c.in-Unshare.is) c.requires) _ c.unshare.ensures.counts
    (λ counts. omega (arith, counts c.requires.1.task c.requires.1.called)) c.unshare.ensures.births
    c.unshare.ensures.err
