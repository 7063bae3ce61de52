use Rattle.std.proofs.Common.{◌≤◌, arith, length, sym, subst}
use Rattle.vt_mount.proofs.namespaces.MountsByNamespace.new.Goals as goal

pub invariant_of-result : goal.invariant_of-result
invariant_of-result c = record {
  bounded = λ q. subst (λ list. length list ≤ 0) (sym (c.new.ensures q)) (omega arith);
}
