use Rattle.vt_laws_mounts.proofs.namespaces.Unsharing.{unshare_keeps_mounts}
use Rattle.vt_laws_mounts.proofs.namespaces.UnsharingNamespaces.{new_namespace_is_empty, unshare_copies_mounts, unshare_keeps_counts, unshare_leaves_namespaces}
use Rattle.vt_laws_mounts.proofs.namespaces.unsharing_keeps_mounts.Goals as goal

pub returns-clause-mounts : goal.returns-clause-mounts
returns-clause-mounts c = unshare_keeps_mounts

pub returns-clause-others : goal.returns-clause-others
returns-clause-others c = unshare_leaves_namespaces

pub returns-clause-empty : goal.returns-clause-empty
returns-clause-empty c = new_namespace_is_empty

pub returns-clause-copies : goal.returns-clause-copies
returns-clause-copies c = unshare_copies_mounts

pub returns-clause-counts : goal.returns-clause-counts
returns-clause-counts c = unshare_keeps_counts
