use Rattle.vt_laws_mounts.proofs.counts.overlays.Living.{filesystem_goes_at_zero_beside_overlays, lives_while_counted, lives_while_mounted}
use Rattle.vt_laws_mounts.proofs.counts.overlays.filesystems_live_while_counted.Goals as goal

pub returns-clause-lives : goal.returns-clause-lives
returns-clause-lives c = lives_while_counted

pub returns-clause-goes : goal.returns-clause-goes
returns-clause-goes c = filesystem_goes_at_zero_beside_overlays

pub returns-clause-mounted : goal.returns-clause-mounted
returns-clause-mounted c = lives_while_mounted
