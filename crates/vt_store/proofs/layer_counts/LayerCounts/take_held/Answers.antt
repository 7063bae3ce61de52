use Rattle.std.proofs.Common.{ap, append_assoc, subst, sym, ◌++◌, ◌∷◌, ◌∙◌, [], List}
use Rattle.vt_overlay.specs.declared.merge.layers.LayerRef.{LayerRef}
use Rattle.vt_store.specs.LayersAt.{AreCounted}
use Rattle.vt_store.proofs.LayersWithWork.{held_alone, held_with}
use Rattle.vt_store.proofs.layer_counts.LayerCounts.take_held.Goals as goal

pub returns-in-Some : goal.returns-in-Some
returns-in-Some c = λ left counted.
    let work = c.in-Some.work in
    let lowers = c.args.overlay.now.overlay.lowers in
    let so : AreCounted (lowers ++ (work ∷ left)) c.args.self.now = subst (λ (layers : List LayerRef).
    AreCounted layers c.args.self.now) (ap (λ layers. layers ++ left)
    (held_with c.args.overlay.now work (sym c.work.ensures ∙ c.in-Some.is))
    ∙ append_assoc lowers (work ∷ []) left) counted in
    c.take_one.ensures left (c.take.ensures (work ∷ left)
    (subst (λ (layers : List LayerRef). AreCounted (layers ++ (work ∷ left)) c.args.self.now) (sym c.layers.ensures) so))

pub returns-in_default : goal.returns-in_default
returns-in_default c = λ left counted. c.take.ensures left
    (subst (λ (layers : List LayerRef). AreCounted (layers ++ left) c.args.self.now)
    (held_alone c.args.overlay.now (sym c.work.ensures ∙ c.in_default.is) ∙ sym c.layers.ensures) counted)
