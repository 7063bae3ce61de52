use Rattle.std.proofs.Common.{◌≡◌, ◌||◌, ap, arith, nat_eq, not, refl, true}
use Rattle.vt_spec.proofs.Common.{named_mounts}
use Rattle.vt_laws_worlds.specs.Permits.Steps.{makes_shared}
use Rattle.vt_location.specs.Numbers.{mount_number}
use Rattle.vt_permits.specs.GrantValue.{mount_permit}
use Rattle.vt_permits.specs.declared.grant.Grant.TheVariants.{Mount}
use Rattle.vt_permits.specs.declared.grant.MountGrant.TheVariants as granted
use Rattle.vt_request.specs.Requests.{type_word_of}
use Rattle.vt_world.specs.WorldValue.{world_of}
use Rattle.vt_calls.proofs.Counting.{counted_after-le, counts_mounts, counts_nothing, counts_nothing_if, makes_few}
use Rattle.vt_calls.proofs.Endings.{changed, changed_if, made, permitted}
use Rattle.vt_calls.proofs.mounting.change_mounts.Goals as goal

pub unmount-requires : goal.unmount-requires
unmount-requires c =
    permitted c.args.world.now c.args.name.now (Mount c.args.grant) (mount_permit (granted.Unmount c.in-Unmount.mount))
    (λ task called. ap mount_permit c.in-Unmount.is) refl tt c.requires

pub unmount_lazily-requires : goal.unmount_lazily-requires
unmount_lazily-requires c =
    permitted c.args.world.now c.args.name.now (Mount c.args.grant) (mount_permit (granted.UnmountLazily c.in-UnmountLazily.mount))
    (λ task called. ap mount_permit c.in-UnmountLazily.is) refl tt c.requires

pub set_flags-requires : goal.set_flags-requires
set_flags-requires c =
    permitted c.args.world.now c.args.name.now (Mount c.args.grant) (mount_permit (granted.SetFlags c.in-SetFlags.mount c.in-SetFlags.flags))
    (λ task called. ap mount_permit c.in-SetFlags.is) refl tt c.requires

pub set_type-requires : goal.set_type-requires
set_type-requires c =
    permitted c.args.world.now c.args.name.now (Mount c.args.grant) (mount_permit (granted.SetType c.in-SetType.change))
    (λ task called. ap mount_permit c.in-SetType.is) refl tt c.requires

pub pivot_root-requires : goal.pivot_root-requires
pivot_root-requires c =
    permitted c.args.world.now c.args.name.now (Mount c.args.grant) (mount_permit (granted.Pivot c.in-Pivot.new c.in-Pivot.put))
    (λ task called. ap mount_permit c.in-Pivot.is) refl tt c.requires

pub returns-in-Unmount-clause-ends : goal.returns-in-Unmount-clause-ends
returns-in-Unmount-clause-ends c =
    changed c.args.world.now c.args.name.now (Mount c.args.grant) (mount_permit (granted.Unmount c.in-Unmount.mount))
    (λ task called. ap mount_permit c.in-Unmount.is) _ c.unmount.result c.done.result c.done.ensures tt
    (λ task called. refl) refl c.unmount.ensures.ok c.unmount.ensures.err

pub returns-in-UnmountLazily-clause-ends : goal.returns-in-UnmountLazily-clause-ends
returns-in-UnmountLazily-clause-ends c =
    changed c.args.world.now c.args.name.now (Mount c.args.grant) (mount_permit (granted.UnmountLazily c.in-UnmountLazily.mount))
    (λ task called. ap mount_permit c.in-UnmountLazily.is) _ c.unmount_lazily.result c.done-in-UnmountLazily.result c.done-in-UnmountLazily.ensures tt
    (λ task called. refl) refl c.unmount_lazily.ensures.ok c.unmount_lazily.ensures.err

pub returns-in-SetFlags-clause-ends : goal.returns-in-SetFlags-clause-ends
returns-in-SetFlags-clause-ends c =
    made c.args.world.now c.args.name.now (Mount c.args.grant) (mount_permit (granted.SetFlags c.in-SetFlags.mount c.in-SetFlags.flags))
    (λ task called. ap mount_permit c.in-SetFlags.is) _ _ tt (λ task called. refl) c.set_flags.ensures.ok

pub returns-in-SetType-clause-ends : goal.returns-in-SetType-clause-ends
returns-in-SetType-clause-ends c =
    changed_if c.args.world.now c.args.name.now (Mount c.args.grant) (mount_permit (granted.SetType c.in-SetType.change))
    (λ task called. ap mount_permit c.in-SetType.is) _ c.set_type.result
    c.done-in-SetType.result c.done-in-SetType.ensures tt (λ task called. refl)
    ((c.in-SetType.change.recursive || makes_shared (mount_permit (granted.SetType c.in-SetType.change))) ≡ true)
    (ap not) c.set_type.ensures.one c.set_type.ensures.ok c.set_type.ensures.err

pub returns-in-Pivot-clause-ends : goal.returns-in-Pivot-clause-ends
returns-in-Pivot-clause-ends c =
    changed c.args.world.now c.args.name.now (Mount c.args.grant) (mount_permit (granted.Pivot c.in-Pivot.new c.in-Pivot.put))
    (λ task called. ap mount_permit c.in-Pivot.is) _ c.pivot_root.result c.done-in-Pivot.result c.done-in-Pivot.ensures tt
    (λ task called. refl) refl c.pivot_root.ensures.ok c.pivot_root.ensures.err

pub returns-in-Unmount-clause-counts : goal.returns-in-Unmount-clause-counts
returns-in-Unmount-clause-counts c = counts_nothing_if c.args.world.now c.unmount.new.self c.unmount.result c.unmount.ensures.counts c.unmount.ensures.err

pub returns-in-UnmountLazily-clause-counts : goal.returns-in-UnmountLazily-clause-counts
returns-in-UnmountLazily-clause-counts c = counts_nothing_if c.args.world.now c.unmount_lazily.new.self c.unmount_lazily.result c.unmount_lazily.ensures.counts c.unmount_lazily.ensures.err

pub returns-in-SetFlags-clause-counts : goal.returns-in-SetFlags-clause-counts
returns-in-SetFlags-clause-counts c = counts_nothing c.args.world.now c.set_flags.new.self c.set_flags.ensures.counts

pub returns-in-SetType-clause-counts : goal.returns-in-SetType-clause-counts
returns-in-SetType-clause-counts c =
    counts_mounts c.args.world.now c.args.name.now (Mount c.args.grant)
    (mount_permit (granted.SetType c.in-SetType.change))
    (λ task called. ap mount_permit c.in-SetType.is) c.requires
    c.set_type.new.self c.set_type.result _ (makes_few c.args.world.now c.args.name.now (Mount c.args.grant)
    (mount_permit (granted.SetType c.in-SetType.change))
    (λ task called. ap mount_permit c.in-SetType.is) c.requires) _ c.set_type.ensures.counts
    (λ counts. omega (
      arith,
      counts,
      counted_after-le (type_word_of c.in-SetType.change.word) c.args.world.now.next
          (named_mounts nat_eq (world_of c.args.world.now) (mount_number c.in-SetType.change.mount) c.in-SetType.change.recursive),
    )) c.set_type.ensures.births c.set_type.ensures.err

pub returns-in-Pivot-clause-counts : goal.returns-in-Pivot-clause-counts
returns-in-Pivot-clause-counts c = counts_nothing c.args.world.now c.pivot_root.new.self (record {
  numbers = c.pivot_root.ensures.counts;
  births = c.pivot_root.ensures.births;
})
