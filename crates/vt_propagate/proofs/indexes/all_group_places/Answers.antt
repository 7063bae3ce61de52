use Rattle.std.proofs.Common.{ap, nat_eq, option_map, sym, ◌∙◌}
use Rattle.vt_spec.proofs.Common.{get, holds_of, is_member_of}
use Rattle.vt_location.specs.Numbers.{counted, group_number}
use Rattle.vt_mount.proofs.EntryLemmas.{counted_test}
use Rattle.vt_propagate.proofs.Places.{or_none, place_noted}
use Rattle.vt_propagate.proofs.indexes.all_group_places.Goals as goal
use Rattle.vt_propagate.proofs.indexes.all_group_places.Goals.{in-Some+in_ok-note_group, in_default}
use Rattle.vt_group.specs.Sets.{same_group}

pub loop-index-preserved : goal.loop-index-preserved
loop-index-preserved c group = elim c.match-own_group.branch [
  | in-Some+in_ok-note_group w ↦ place_noted (is_member_of nat_eq
      (counted group.count)) c.args.parts.now c.loop-index.index _ c.loop-index-test.true
      (ap (λ places. get same_group places group) w.places-is ∙ w.in_ok-note_group.ensures group)
      (sym (counted_test group.count _) ∙ ap (holds_of (nat_eq (counted group.count)))
      (ap (option_map group_number) (sym w.in-Some.is) ∙ c.own_group.ensures)) (c.loop-index.invariant group)
  | in_default w ↦ place_noted (is_member_of nat_eq
      (counted group.count)) c.args.parts.now c.loop-index.index _ c.loop-index-test.true
      (ap (λ places. get same_group places group) w.places-is ∙ sym (or_none _))
      (ap (holds_of (nat_eq (counted group.count)))
      (ap (option_map group_number) (sym w.in_default.is) ∙ c.own_group.ensures)) (c.loop-index.invariant group)
]
