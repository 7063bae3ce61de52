use Rattle.std.proofs.Common.{Err, ap, inr, refl, sym, true≢false, ◌∙◌}
use Rattle.vt_spec.proofs.Common.{AskSealed, err_from_is_err_and}
use Rattle.vt_request.specs.Requests.{directive_of}
use Rattle.vt_world.specs.WorldValue.{world_of}
use Rattle.vt_calls.proofs.Directing.{peers_direct, sealed_direct, unknown_direct}
use Rattle.vt_calls.proofs.calls.directed.Goals as goal

pub returns-in_err-peers-in-Peers : goal.returns-in_err-peers-in-Peers
returns-in_err-peers-in-Peers c =
    let p = err_from_is_err_and c.from_residual.result c.from_residual.ensures.1 in
    rw p.1 (inr (ap Err p.2, ap directive_of c.in-Peers.is))

pub returns-in_ok-peers-in-Peers : goal.returns-in_ok-peers-in-Peers
returns-in_ok-peers-in-Peers c = peers_direct (world_of c.args.world.now) (directive_of c.args.directive.now)
    (ap directive_of c.in-Peers.is) _ c.in_ok-peers-in-Peers.ensures.ok

pub returns-in_err-sealed-in-Sealed : goal.returns-in_err-sealed-in-Sealed
returns-in_err-sealed-in-Sealed c =
    let p = err_from_is_err_and c.from_residual-in_err-sealed-in-Sealed.result
    c.from_residual-in_err-sealed-in-Sealed.ensures.1 in
    rw p.1 (unknown_direct (world_of c.args.world.now) (directive_of c.args.directive.now) _
    (ap directive_of c.in-Sealed.is ∙ ap AskSealed (sym c.deref.ensures.value)) p.0
    (p.2 ∙ c.in_err-sealed-in-Sealed.ensures.err)
    (λ none. true≢false (sym (c.in_err-sealed-in-Sealed.ensures.there.1 none))))

pub returns-in_ok-sealed-in-Sealed : goal.returns-in_ok-sealed-in-Sealed
returns-in_ok-sealed-in-Sealed c =
    sealed_direct (world_of c.args.world.now) (directive_of c.args.directive.now) _
    (ap directive_of c.in-Sealed.is ∙ ap AskSealed (sym c.deref.ensures.value)) _
    c.in_ok-sealed-in-Sealed.ensures.ok (c.in_ok-sealed-in-Sealed.ensures.there.0 refl)
