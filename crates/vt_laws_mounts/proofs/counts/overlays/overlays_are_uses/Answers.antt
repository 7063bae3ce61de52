use Rattle.vt_laws_mounts.proofs.counts.overlays.FilesystemUses.{overlays_are_uses, overlays_take_their_uses, plain_ones_use_nothing}
use Rattle.vt_laws_mounts.proofs.counts.overlays.overlays_are_uses.Goals as goal

pub returns-clause-lists : goal.returns-clause-lists
returns-clause-lists c = overlays_are_uses

pub returns-clause-test : goal.returns-clause-test
returns-clause-test c = overlays_take_their_uses

pub returns-clause-plain : goal.returns-clause-plain
returns-clause-plain c = plain_ones_use_nothing
