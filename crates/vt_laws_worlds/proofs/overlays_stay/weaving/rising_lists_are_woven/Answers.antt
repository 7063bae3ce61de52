use Rattle.vt_laws_worlds.proofs.overlays_stay.weaving.WovenLists.{rising_lists_are_woven, woven_lists_are_failing, woven_lists_are_filtered, woven_lists_are_passing}
use Rattle.vt_laws_worlds.proofs.overlays_stay.weaving.rising_lists_are_woven.Goals as goal

pub returns-clause-rising : goal.returns-clause-rising
returns-clause-rising c = rising_lists_are_woven

pub returns-clause-passing : goal.returns-clause-passing
returns-clause-passing c = woven_lists_are_passing

pub returns-clause-failing : goal.returns-clause-failing
returns-clause-failing c = woven_lists_are_failing

pub returns-clause-filtered : goal.returns-clause-filtered
returns-clause-filtered c = woven_lists_are_filtered
