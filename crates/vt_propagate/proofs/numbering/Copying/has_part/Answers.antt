use Rattle.std.proofs.Common.{ap, is_some, nat_eq, ◌∙◌}
use Rattle.vt_spec.proofs.Common.{is_member_of}
use Rattle.vt_location.specs.Numbers.{counted}
use Rattle.vt_propagate.specs.Copying.{parts_seen}
use Rattle.vt_propagate.proofs.Places.{is_some-place}
use Rattle.vt_propagate.proofs.numbering.Copying.has_part.Goals as goal

pub returns : goal.returns
returns c = c.is_some.ensures ∙ ap is_some c.group_place.ensures
    ∙ is_some-place (is_member_of nat_eq (counted c.args.group.count)) 0 (parts_seen c.args.self.now)
