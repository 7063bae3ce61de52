use Rattle.std.proofs.Common.{ap, sym, ◌∙◌}
use Rattle.std.specs.List.{position}
use Rattle.vt_turns.specs.Kept.{others}
use Rattle.vt_turns.proofs.KeptWords.{is_its}
use Rattle.vt_turns.proofs.TakenAway.{all_left, none_taken, taken_found, taken_left}
use Rattle.vt_turns.proofs.state.take_of.Goals as goal

pub returns-in_err-place-clause-found : goal.returns-in_err-place-clause-found
returns-in_err-place-clause-found c =
    c.from_residual.ensures ∙ none_taken (is_its c.args.name.now) c.args.under_way.now.items
    (ap (position (is_its c.args.name.now)) (sym c.deref.ensures.value) ∙ sym c.place_of.ensures.place
    ∙ c.in_err-place.was)

pub returns-in_err-place-clause-left : goal.returns-in_err-place-clause-left
returns-in_err-place-clause-left c = all_left (is_its c.args.name.now) c.args.under_way.now.items
    (ap (position (is_its c.args.name.now)) (sym c.deref.ensures.value) ∙ sym c.place_of.ensures.place
    ∙ c.in_err-place.was)

pub returns-clause-found : goal.returns-clause-found
returns-clause-found c = taken_found (is_its c.args.name.now) c.args.under_way.now.items c.in_ok-place.place
    (ap (position (is_its c.args.name.now)) (sym c.deref.ensures.value) ∙ sym c.place_of.ensures.place
    ∙ c.in_ok-place.was) c.remove-held.result c.remove-held.ensures.value

pub returns-clause-left : goal.returns-clause-left
returns-clause-left c = c.drop_of.ensures ∙ ap (others c.args.name.now) c.remove-held.ensures.items
    ∙ taken_left (is_its c.args.name.now) c.args.under_way.now.items c.in_ok-place.place
    (ap (position (is_its c.args.name.now)) (sym c.deref.ensures.value) ∙ sym c.place_of.ensures.place
    ∙ c.in_ok-place.was)
