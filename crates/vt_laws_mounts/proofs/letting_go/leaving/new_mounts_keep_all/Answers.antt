use Rattle.vt_laws_mounts.proofs.letting_go.leaving.MountsAdded
use Rattle.vt_laws_mounts.proofs.letting_go.leaving.new_mounts_keep_all.Goals as goal

pub returns : goal.returns
returns c = MountsAdded.new_mounts_keep_all
