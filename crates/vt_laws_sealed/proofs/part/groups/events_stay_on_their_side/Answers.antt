use Rattle.vt_laws_sealed.proofs.part.groups.EventsApart.{no_event_of_others_reaches_them}
use Rattle.vt_laws_sealed.proofs.part.groups.ReceiversAlike.{no_event_of_theirs_reaches_others, their_groups_receive_alike}
use Rattle.vt_laws_sealed.proofs.part.groups.events_stay_on_their_side.Goals as goal

pub returns-clause-others : goal.returns-clause-others
returns-clause-others c = no_event_of_others_reaches_them

pub returns-clause-theirs : goal.returns-clause-theirs
returns-clause-theirs c = no_event_of_theirs_reaches_others

pub returns-clause-part : goal.returns-clause-part
returns-clause-part c = their_groups_receive_alike
