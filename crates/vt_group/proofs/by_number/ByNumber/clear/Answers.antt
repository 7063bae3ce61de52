use Rattle.std.proofs.Common.{None, Some, ap, cond, is_some, refl, sym, ◌∙◌, nat_cmp}
use Rattle.vt_spec.proofs.Common.{keys_of, lookup, option_copied_mut, option_flatten, remove_entry}
use Rattle.std.specs.BTreeMap.{is_at}
use Rattle.vt_group.specs.ByNumber.{has_room, value_at, values_of}
use Rattle.vt_group.proofs.Reserving.{none_removed, none_updated, room_stays, values_ascend, values_removed, values_updated}
use Rattle.vt_group.proofs.by_number.ByNumber.clear.Goals as goal

pub returns-clause-entries : goal.returns-clause-entries
returns-clause-entries g c =
    rw (← c.number.ensures) (
    values_removed c.number.result c.self.inside.places.entries (c.get_mut.follows.lender None).entries (Some None)
    ((c.get_mut.follows.holds None).3 (ap is_some (sym c.get_mut.ensures.value ∙ ap option_copied_mut c.in-Some.is))).0
    refl ∙ ap (λ map. remove_entry (is_at (nat_cmp c.number.result)) map.entries) c.self.view_is)

pub returns-clause-updates : goal.returns-clause-updates
returns-clause-updates g c other =
    rw (← c.number.ensures) (
    values_updated c.number.result c.self.inside.places.entries (c.get_mut.follows.lender None).entries (Some None)
    ((c.get_mut.follows.holds None).3 (ap is_some (sym c.get_mut.ensures.value ∙ ap option_copied_mut c.in-Some.is))).0
    other ∙ ap (λ map. cond (is_at (nat_cmp c.number.result) other) None (value_at map other)) c.self.view_is)

pub returns-clause-kept : goal.returns-clause-kept
returns-clause-kept g c other room =
    room_stays c.number.result c.self.inside.places.entries (c.get_mut.follows.lender None).entries (Some None)
    ((c.get_mut.follows.holds None).3 (ap is_some (sym c.get_mut.ensures.value ∙ ap option_copied_mut c.in-Some.is))).0
    refl other (ap (λ map. has_room map other) c.self.view_is ∙ room)

pub returns-clause-ordered : goal.returns-clause-ordered
returns-clause-ordered g c = values_ascend (c.get_mut.follows.lender None).entries

-- nothing is there

pub returns-in_default-clause-entries : goal.returns-in_default-clause-entries
returns-in_default-clause-entries g c =
    rw (← c.number.ensures) (
    ap (λ map. values_of map.entries) c.get_mut.follows.holds-at-none
    ∙ none_removed c.number.result c.self.inside.places.entries
    (ap option_flatten (sym c.get_mut.ensures.value ∙ ap option_copied_mut c.in_default.is))
    ∙ ap (λ map. remove_entry (is_at (nat_cmp c.number.result)) map.entries) c.self.view_is)

pub returns-in_default-clause-updates : goal.returns-in_default-clause-updates
returns-in_default-clause-updates g c other =
    rw (← c.number.ensures) (
    ap (λ map. lookup (is_at (nat_cmp other)) (values_of map.entries)) c.get_mut.follows.holds-at-none
    ∙ none_updated c.number.result c.self.inside.places.entries
    (ap option_flatten (sym c.get_mut.ensures.value ∙ ap option_copied_mut c.in_default.is)) other
    ∙ ap (λ map. cond (is_at (nat_cmp c.number.result) other) None (value_at map other)) c.self.view_is)

pub returns-in_default-clause-ordered : goal.returns-in_default-clause-ordered
returns-in_default-clause-ordered g c = values_ascend c.get_mut.follows.lender-at-none.entries

pub returns-in_default-clause-kept : goal.returns-in_default-clause-kept
returns-in_default-clause-kept g c other room =
    ap (λ map. has_room (record { entries = values_of map.entries; room = keys_of map.entries }) other)
    c.get_mut.follows.holds-at-none ∙ ap (λ map. has_room map other) c.self.view_is ∙ room
