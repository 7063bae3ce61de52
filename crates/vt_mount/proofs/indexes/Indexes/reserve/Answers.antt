use Rattle.std.proofs.Common.{option_to_list, ◌++◌}
use Rattle.vt_mount.proofs.KeptLemmas.{on-ok}
use Rattle.vt_mount.proofs.indexes.Indexes.reserve.Goals as goal

pub returns-clause-ok : goal.returns-clause-ok
returns-clause-ok c = on-ok c.reserve_at.result c.reserve_at.ensures.ok
    (λ more namespaces places has. more (option_to_list c.args.namespace ++ namespaces) places
    (c.in_ok-reserve_in.ensures.ok namespaces places has))
