use Rattle.std.proofs.Common.{◌≡◌, ◌∙◌, ◌-◌, ap}
use Rattle.vt_upper.specs.Losing.{keeps_node}
use Rattle.vt_upper.specs.New.{many_in, one_if}
use Rattle.vt_upper_overlay.specs.UpperValue.{UpperOverlayValue}
use Rattle.vt_upper.proofs.losing.RemovalPlan.give_back.Goals as goal

pub returns-clause-overlay : goal.returns-clause-overlay
returns-clause-overlay c =
    let old = c.args.overlay.now in
    let one : c.one_more.result ≡ one_if (keeps_node c.args.self.losing) =
    c.one_more.ensures ∙ ap one_if c.keeps.ensures in
    let first = c.give_back.ensures.overlay in
    let kept = c.give_back-2.ensures
    ∙ ap (λ (overlay : UpperOverlayValue). record overlay.nodes.kept {
      promised = overlay.nodes.kept.promised - c.one_more.result;
    }) first in
    (λ i. record (first i) { nodes = record (first i).nodes { kept = kept i } })
    ∙ (λ i. record old {
      nodes = record {
        births = record old.nodes.births {
          promised = old.nodes.births.promised - many_in c.args.self.removal.place;
        };
        kept = record old.nodes.kept { promised = old.nodes.kept.promised - one i };
      };
    })
