use Rattle.std.proofs.Common.{[]}
use Rattle.vt_mount.specs.Reserved.{mount_points_of, namespaces_of}
use Rattle.vt_mount.proofs.ReservedLemmas.{reserves-first, reserves-none}
use Rattle.vt_mount.proofs.KeptLemmas.{on-ok}
use Rattle.vt_mount.proofs.attaching.make_room.Goals as goal

pub returns-clause-reserves : goal.returns-clause-reserves
returns-clause-reserves c =
    let new = c.args.new.now in
    on-ok c.reserve_moves.result c.reserve_moves.ensures.ok (λ more. more (namespaces_of new) (mount_points_of new)
    (reserves-first c.reserve_mounts.new.indexes (namespaces_of new) [] (mount_points_of new) []
    (c.in_ok-reserve_mounts.ensures.ok [] [] (reserves-none c.args.indexes.now))))
