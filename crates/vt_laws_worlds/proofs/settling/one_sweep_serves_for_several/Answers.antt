use Rattle.vt_laws_worlds.proofs.settling.SweptOnce.{exits_are_swept_once, lazy_unmounts_are_swept_once}
use Rattle.vt_laws_worlds.proofs.settling.one_sweep_serves_for_several.Goals as goal

pub returns-clause-exits : goal.returns-clause-exits
returns-clause-exits c = exits_are_swept_once

pub returns-clause-lazy : goal.returns-clause-lazy
returns-clause-lazy c = lazy_unmounts_are_swept_once
