use Rattle.std.proofs.Common.{Some, ap, cond, is_some, refl, sym, true≢false, ◌∙◌, nat_cmp}
use Rattle.vt_spec.proofs.Common.{insert_entry, option_copied_mut, option_flatten}
use Rattle.std.specs.BTreeMap.{is_at}
use Rattle.vt_group.specs.ByNumber.{has_room, value_at}
use Rattle.vt_group.proofs.Reserving.{room_found, room_stays, value_found, values_ascend, values_set, values_updated}
use Rattle.vt_group.proofs.by_number.ByNumber.set.Goals as goal

pub returns-clause-value : goal.returns-clause-value
returns-clause-value g c =
    rw (← c.number.ensures) (
    ap option_flatten (sym (ap option_copied_mut c.in-Some.is) ∙ c.get_mut.ensures.value)
    ∙ sym (value_found c.number.result c.self.inside.places.entries)
    ∙ ap (λ map. value_at map c.number.result) c.self.view_is)

pub returns-clause-entries : goal.returns-clause-entries
returns-clause-entries g c =
    let found = sym (room_found c.number.result c.self.inside.places.entries)
    ∙ ap (λ map. has_room map c.number.result) c.self.view_is ∙ (rw (← c.number.ensures) at c.requires) in
    rw (← c.number.ensures) (
    values_set c.number.result c.self.inside.places.entries (c.get_mut.follows.lender (Some c.args.value)).entries
    (Some (Some c.args.value)) ((c.get_mut.follows.holds (Some c.args.value)).3 found).0 c.args.value refl
    ∙ ap (λ map. insert_entry nat_cmp map.entries c.number.result c.args.value) c.self.view_is)

pub returns-clause-updates : goal.returns-clause-updates
returns-clause-updates g c other =
    let found = sym (room_found c.number.result c.self.inside.places.entries)
    ∙ ap (λ map. has_room map c.number.result) c.self.view_is ∙ (rw (← c.number.ensures) at c.requires) in
    rw (← c.number.ensures) (
    values_updated c.number.result c.self.inside.places.entries (c.get_mut.follows.lender (Some c.args.value)).entries
    (Some (Some c.args.value)) ((c.get_mut.follows.holds (Some c.args.value)).3 found).0 other
    ∙ ap (λ map. cond (is_at (nat_cmp c.number.result) other) (Some c.args.value) (value_at map other)) c.self.view_is)

pub returns-clause-kept : goal.returns-clause-kept
returns-clause-kept g c other room =
    let found = sym (room_found c.number.result c.self.inside.places.entries)
    ∙ ap (λ map. has_room map c.number.result) c.self.view_is ∙ (rw (← c.number.ensures) at c.requires) in
    room_stays c.number.result c.self.inside.places.entries (c.get_mut.follows.lender (Some c.args.value)).entries
    (Some (Some c.args.value)) ((c.get_mut.follows.holds (Some c.args.value)).3 found).0 refl other
    (ap (λ map. has_room map other) c.self.view_is ∙ room)

pub returns-clause-ordered : goal.returns-clause-ordered
returns-clause-ordered g c = values_ascend (c.get_mut.follows.lender (Some c.args.value)).entries

-- there is room

pub returns-in_default-clause-value : goal.returns-in_default-clause-value
returns-in_default-clause-value g c =
    let found = sym (room_found c.number.result c.self.inside.places.entries)
    ∙ ap (λ map. has_room map c.number.result) c.self.view_is ∙ (rw (← c.number.ensures) at c.requires) in
    absurd (true≢false (sym found ∙ ap is_some (sym c.get_mut.ensures.value ∙ ap option_copied_mut c.in_default.is)))

pub returns-in_default-clause-entries : goal.returns-in_default-clause-entries
returns-in_default-clause-entries g c =
    let found = sym (room_found c.number.result c.self.inside.places.entries)
    ∙ ap (λ map. has_room map c.number.result) c.self.view_is ∙ (rw (← c.number.ensures) at c.requires) in
    absurd (true≢false (sym found ∙ ap is_some (sym c.get_mut.ensures.value ∙ ap option_copied_mut c.in_default.is)))

pub returns-in_default-clause-updates : goal.returns-in_default-clause-updates
returns-in_default-clause-updates g c other =
    let found = sym (room_found c.number.result c.self.inside.places.entries)
    ∙ ap (λ map. has_room map c.number.result) c.self.view_is ∙ (rw (← c.number.ensures) at c.requires) in
    absurd (true≢false (sym found ∙ ap is_some (sym c.get_mut.ensures.value ∙ ap option_copied_mut c.in_default.is)))

pub returns-in_default-clause-ordered : goal.returns-in_default-clause-ordered
returns-in_default-clause-ordered g c = values_ascend c.get_mut.follows.lender-at-none.entries

pub returns-in_default-clause-kept : goal.returns-in_default-clause-kept
returns-in_default-clause-kept g c other room =
    let found = sym (room_found c.number.result c.self.inside.places.entries)
    ∙ ap (λ map. has_room map c.number.result) c.self.view_is ∙ (rw (← c.number.ensures) at c.requires) in
    absurd (true≢false (sym found ∙ ap is_some (sym c.get_mut.ensures.value ∙ ap option_copied_mut c.in_default.is)))
