use Rattle.vt_laws_mounts.proofs.letting_go.sweeps.OverlaysGone.{filesystems_take_their_uses}
use Rattle.vt_laws_mounts.proofs.letting_go.sweeps.UpperUses.{one_upper_use_less}
use Rattle.vt_laws_mounts.proofs.letting_go.sweeps.WithOverlays.{all_inodes_go_one_by_one, merged_go_one_by_one, with_overlays_all_goes}
use Rattle.vt_laws_mounts.proofs.letting_go.sweeps.things_of_overlays_go_one_by_one.Goals as goal

pub returns-clause-merged : goal.returns-clause-merged
returns-clause-merged c = merged_go_one_by_one

pub returns-clause-inodes : goal.returns-clause-inodes
returns-clause-inodes c = all_inodes_go_one_by_one

pub returns-clause-all : goal.returns-clause-all
returns-clause-all c = with_overlays_all_goes

pub returns-clause-upper : goal.returns-clause-upper
returns-clause-upper c = one_upper_use_less

pub returns-clause-filesystems : goal.returns-clause-filesystems
returns-clause-filesystems c = filesystems_take_their_uses
