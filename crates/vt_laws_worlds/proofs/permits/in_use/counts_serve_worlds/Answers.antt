use Rattle.vt_laws_worlds.proofs.permits.in_use.InUseServes.{counts_serve_worlds, handed_numbers_serve_worlds}
use Rattle.vt_laws_worlds.proofs.permits.in_use.counts_serve_worlds.Goals as goal

pub returns-clause-counts : goal.returns-clause-counts
returns-clause-counts c = counts_serve_worlds

pub returns-clause-inode : goal.returns-clause-inode
returns-clause-inode c = handed_numbers_serve_worlds
