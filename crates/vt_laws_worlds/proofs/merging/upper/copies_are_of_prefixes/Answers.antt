use Rattle.vt_laws_worlds.proofs.merging.upper.Places.{copies_are_of_prefixes, copies_hide_nothing, prefixes_have_their_copies, prefixes_lead_to_copies, held_have_their_copies}
use Rattle.vt_laws_worlds.proofs.merging.upper.copies_are_of_prefixes.Goals as goal

pub returns-clause-copies : goal.returns-clause-copies
returns-clause-copies c = copies_are_of_prefixes

pub returns-clause-lead : goal.returns-clause-lead
returns-clause-lead c = prefixes_lead_to_copies

pub returns-clause-below : goal.returns-clause-below
returns-clause-below c = copies_hide_nothing

pub returns-clause-real : goal.returns-clause-real
returns-clause-real c = prefixes_have_their_copies

pub returns-clause-held : goal.returns-clause-held
returns-clause-held c = held_have_their_copies
