use Rattle.vt_laws_mounts.proofs.namespaces.Topmost.{topmost_is_free}
use Rattle.vt_laws_mounts.proofs.namespaces.the_topmost_location_is_free.Goals as goal

pub returns : goal.returns
returns c = topmost_is_free
