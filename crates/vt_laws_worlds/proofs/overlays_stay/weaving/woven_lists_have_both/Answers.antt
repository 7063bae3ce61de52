use Rattle.vt_laws_worlds.proofs.overlays_stay.weaving.WovenLists.{plain_ones_are_found, woven_lists_are_alike, woven_lists_pass_all}
use Rattle.vt_laws_worlds.proofs.overlays_stay.weaving.woven_lists_have_both.Goals as goal

pub returns-clause-all : goal.returns-clause-all
returns-clause-all c = woven_lists_pass_all

pub returns-clause-alike : goal.returns-clause-alike
returns-clause-alike c = woven_lists_are_alike

pub returns-clause-found : goal.returns-clause-found
returns-clause-found c = plain_ones_are_found
