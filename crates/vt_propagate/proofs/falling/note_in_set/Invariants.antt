use Rattle.std.proofs.Common.{take}
use Rattle.vt_propagate.specs.Falling.{HasMore}
use Rattle.vt_propagate.proofs.falling.note_in_set.Given as goal

abbrev pub invariant-loop-id : goal.invariant-loop-id
invariant-loop-id l = HasMore l.fn.set.keys (take l.id-index l.ids) l.set.keys
