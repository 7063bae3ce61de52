use Rattle.std.proofs.Common.{◌≡◌, count_by, take, unwrap_or}
use Rattle.vt_spec.proofs.Common.{get}
use Rattle.vt_location.specs.declared.numbers.NamespaceId.{NamespaceId}
use Rattle.vt_propagate.proofs.filling.counts_of.Given as goal
use Rattle.vt_mount.specs.Indexes.{same_namespace, is_in}

abbrev pub invariant-loop-part : goal.invariant-loop-part
invariant-loop-part l = (namespace : NamespaceId) → unwrap_or (get same_namespace l.counts namespace) 0
    ≡ count_by (is_in namespace) (take l.part-index l.parts)
