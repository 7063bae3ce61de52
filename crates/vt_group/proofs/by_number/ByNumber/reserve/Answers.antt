use Rattle.std.proofs.Common.{◌≡◌, Bool, None, Some, ap, cond, false, is_some, nat_eq, refl, sym, true, true≢false, ◌∙◌}
use Rattle.vt_spec.proofs.Common.{option_flatten}
use Rattle.vt_group.specs.ByNumber.{has_room}
use Rattle.vt_group.proofs.Reserving.{room_found, room_stays, values_kept}
use Rattle.vt_group.proofs.by_number.ByNumber.reserve.Goals as goal

pub returns-in_default-clause-room : goal.returns-in_default-clause-room
returns-in_default-clause-room g c =
    rw (← c.number-number.ensures) (
    room_found c.number-number.result c.insert.new.self.entries ∙ ap is_some c.in_ok-was.ensures.updates.1)

pub returns-in_default-clause-kept : goal.returns-in_default-clause-kept
returns-in_default-clause-kept g c other room =
    room_stays c.number-number.result c.self.inside.places.entries c.insert.new.self.entries (Some None)
    c.in_ok-was.ensures.updates.0 refl other (ap (λ map. has_room map other) c.self.view_is ∙ room)

pub returns-in_default-clause-entries : goal.returns-in_default-clause-entries
returns-in_default-clause-entries g c =
    values_kept c.number-number.result c.self.inside.places.entries c.insert.new.self.entries (Some None)
    c.in_ok-was.ensures.updates.0 (sym c.in_default.is ∙ c.flatten.ensures ∙ ap option_flatten c.in_ok-was.ensures.old)
    ∙ ap (λ map. map.entries) c.self.view_is

-- a value that was there is put back

written_again : {A : Type 0} (b : Bool) (last first rest : A) → cond b last (cond b first rest) ≡ cond b last rest
written_again true last first rest = refl
written_again false last first rest = refl

pub returns-clause-room : goal.returns-clause-room
returns-clause-room g c =
    rw (← c.number-number.ensures) (
    room_found c.number-number.result c.insert-2.new.self.entries ∙ ap is_some c.in_ok-insert.ensures.updates.1)

pub returns-clause-kept : goal.returns-clause-kept
returns-clause-kept g c other room =
    room_stays c.number-number.result c.self.inside.places.entries c.insert-2.new.self.entries (Some (Some c.in-Some.value))
    (λ q. c.in_ok-insert.ensures.updates.0 q
    ∙ ap (cond (nat_eq c.number-number.result q) (Some (Some c.in-Some.value))) (c.in_ok-was.ensures.updates.0 q)
    ∙ written_again (nat_eq c.number-number.result q) _ _ _) refl other (ap (λ map. has_room map other) c.self.view_is ∙ room)

pub returns-clause-entries : goal.returns-clause-entries
returns-clause-entries g c =
    values_kept c.number-number.result c.self.inside.places.entries c.insert-2.new.self.entries (Some (Some c.in-Some.value))
    (λ q. c.in_ok-insert.ensures.updates.0 q
    ∙ ap (cond (nat_eq c.number-number.result q) (Some (Some c.in-Some.value))) (c.in_ok-was.ensures.updates.0 q)
    ∙ written_again (nat_eq c.number-number.result q) _ _ _)
    (sym c.in-Some.is ∙ c.flatten.ensures ∙ ap option_flatten c.in_ok-was.ensures.old)
    ∙ ap (λ map. map.entries) c.self.view_is

pub returns-in_err-insert-clause-kept : goal.returns-in_err-insert-clause-kept
returns-in_err-insert-clause-kept g c other room =
    absurd (true≢false (ap is_some (sym c.in_ok-was.ensures.updates.1 ∙ c.in_err-insert.ensures.absent)))

pub returns-in_err-insert-clause-entries : goal.returns-in_err-insert-clause-entries
returns-in_err-insert-clause-entries g c =
    absurd (true≢false (ap is_some (sym c.in_ok-was.ensures.updates.1 ∙ c.in_err-insert.ensures.absent)))
