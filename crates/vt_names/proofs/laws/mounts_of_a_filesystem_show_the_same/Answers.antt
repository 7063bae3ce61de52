use Rattle.vt_names.proofs.Says.{one_mount_shows, worlds_show}
use Rattle.vt_names.proofs.laws.mounts_of_a_filesystem_show_the_same.Goals as goal

pub returns-clause-mounts : goal.returns-clause-mounts
returns-clause-mounts c = one_mount_shows

pub returns-clause-worlds : goal.returns-clause-worlds
returns-clause-worlds c = worlds_show
