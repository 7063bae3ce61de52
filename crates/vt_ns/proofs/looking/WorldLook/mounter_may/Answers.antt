use Rattle.std.proofs.Common.{ap, option_copied, option_map, sym, ◌∙◌, arith}
use Rattle.vt_spec.proofs.Common.{Credentials, node_allows, common_steps}
use Rattle.vt_cred.specs.Rights.{right_bits}
use Rattle.vt_layered.specs.LayeredValue.{LayeredValue}
use Rattle.vt_ns.proofs.Common.{location_of}
use Rattle.vt_ns.proofs.looking.OverlaysLooked.{mounter_is}
use Rattle.vt_ns.proofs.looking.WorldLook.mounter_may.Goals as goal

pub returns-in-Some : goal.returns-in-Some
returns-in-Some c = c.grants.ensures
    ∙ ap (λ (who : Credentials). node_allows who (right_bits c.args.wanted) (option_copied c.node.result))
    c.mounter.ensures ∙ ap (node_allows c.in-Some.overlay.now.overlay.mounter (right_bits c.args.wanted)) c.node.ensures
    ∙ mounter_is c.args.self.now (location_of c.args.at) c.in-Some.overlay.now.overlay.mounter (sym c.overlay_on.ensures.mounter
    ∙ ap (λ lent. option_map (λ (one : LayeredValue). one.overlay.mounter) (option_copied lent)) c.in-Some.is)
    (right_bits c.args.wanted)

pub returns-in-None : goal.returns-in-None
returns-in-None c = grind (arith, common_steps)
