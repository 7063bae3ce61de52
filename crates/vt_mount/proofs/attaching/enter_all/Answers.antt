use Rattle.std.proofs.Common.{List, arith, drop, subst, ◌+◌}
use Rattle.vt_location.specs.declared.mounts.Mount.{Mount}
use Rattle.vt_mount.specs.Reserved.{Reserves, mount_points_of, namespaces_of}
use Rattle.vt_mount.specs.MountsValue.{entries_of}
use Rattle.vt_mount.proofs.EnteringLemmas.{drop_more, entered_at, may_enter_at}
use Rattle.vt_mount.proofs.ReservedLemmas.{reserves-first}
use Rattle.vt_mount.proofs.attaching.enter_all.Goals as goal

pub enter-requires-clause-order : goal.enter-requires-clause-order
enter-requires-clause-order c =
    may_enter_at (entries_of c.args.by_number.now.entries) _ c.args.new.now c.loop-mount.mount-index _
    c.loop-mount-test.true c.requires.order c.loop-mount.invariant.1

pub enter-requires-clause-spare : goal.enter-requires-clause-spare
enter-requires-clause-spare c =
    let room = c.loop-mount.invariant.2 in
    let within = c.loop-mount-test.true in
    omega (arith, room, within)

pub enter-requires-clause-reserves : goal.enter-requires-clause-reserves
enter-requires-clause-reserves c =
    let new = c.args.new.now in
    let i = c.loop-mount.mount-index in
    reserves-first c.loop-mount.indexes _ (namespaces_of (drop (i + 1) new)) _ (mount_points_of (drop (i + 1) new))
    (subst (λ (rest : List Mount). Reserves c.loop-mount.indexes (namespaces_of rest) (mount_points_of rest))
    (drop_more new i _ c.loop-mount-test.true) c.loop-mount.invariant.3)

pub loop-mount-preserved : goal.loop-mount-preserved
loop-mount-preserved c =
    let new = c.args.new.now in
    let i = c.loop-mount.mount-index in
    let old = entries_of c.args.by_number.now.entries in
    let so_far = c.loop-mount.invariant in
    let room = so_far.2 in
    let used = c.enter.ensures.spare in (
      c.enter.ensures.indexed,
      entered_at old _ _ new i _ c.loop-mount-test.true so_far.1 c.enter.ensures.mounts,
      omega (arith, room, used),
      c.enter.ensures.reserves (namespaces_of (drop (i + 1) new)) (mount_points_of (drop (i + 1) new))
          (subst (λ (rest : List Mount). Reserves c.loop-mount.indexes (namespaces_of rest) (mount_points_of rest))
          (drop_more new i _ c.loop-mount-test.true) so_far.3),
    )
