use Rattle.vt_laws_worlds.proofs.overlays_let_go.changing.MountsOfOthers.{removing_keeps_the_mount, replacing_keeps_the_mount}
use Rattle.vt_laws_worlds.proofs.overlays_let_go.changing.a_removal_keeps_the_mount_that_it_goes_through.Goals as goal

pub returns-clause-rmdir : goal.returns-clause-rmdir
returns-clause-rmdir c = removing_keeps_the_mount

pub returns-clause-rename : goal.returns-clause-rename
returns-clause-rename c = replacing_keeps_the_mount
