use Rattle.std.proofs.Common.{ap, arith, length}
use Rattle.vt_spec.proofs.Common.{entry_named}
use Rattle.vt_upper.proofs.making.make_in_copy.Goals as goal

pub make-requires-clause-directory : goal.make-requires-clause-directory
make-requires-clause-directory c = c.requires.directory.0

pub make-requires-clause-free : goal.make-requires-clause-free
make-requires-clause-free c = ap (entry_named c.args.object.name.items) c.requires.directory.1

pub make-requires-clause-room : goal.make-requires-clause-room
make-requires-clause-room c =
    let none = ap length c.requires.directory.1 in
    let room = c.requires.room in omega (arith, none, room)
