use Rattle.std.proofs.Common.{[], ◌∷◌}
use Rattle.vt_mount.proofs.indexes.Indexes.shift.Goals as goal

pub put_in-requires : goal.put_in-requires
put_in-requires c = c.take_out.ensures.reserves [] (c.args.place ∷ []) c.requires

pub returns-clause-reserves : goal.returns-clause-reserves
returns-clause-reserves c namespaces places has =
    c.put_in.ensures.reserves namespaces places (c.take_out.ensures.reserves namespaces (c.args.place ∷ places) has)
