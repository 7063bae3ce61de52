use Rattle.std.proofs.Common.{[]}
use Rattle.vt_mount.proofs.ReservedLemmas.{reserves-none}
use Rattle.vt_mount.proofs.KeptLemmas.{not-err}
use Rattle.vt_mount.proofs.indexes.Indexes.relist.Goals as goal

pub shift-requires : goal.shift-requires
shift-requires c =
    not-err c.reserve.result c.if-is_err.ensures.value c.reserve.ensures.ok [] [] (reserves-none c.args.self.now)
