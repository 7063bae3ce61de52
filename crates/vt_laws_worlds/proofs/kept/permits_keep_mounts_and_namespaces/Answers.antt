use Rattle.vt_laws_worlds.proofs.kept.MountsKept.{all_mounts_kept}
use Rattle.vt_laws_worlds.proofs.kept.NamespacesKept.{all_namespaces_kept}
use Rattle.vt_laws_worlds.proofs.kept.permits_keep_mounts_and_namespaces.Goals as goal

pub returns-clause-mounts : goal.returns-clause-mounts
returns-clause-mounts c = all_mounts_kept

pub returns-clause-namespaces : goal.returns-clause-namespaces
returns-clause-namespaces c = all_namespaces_kept
