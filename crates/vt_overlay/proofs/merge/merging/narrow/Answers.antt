use Rattle.std.proofs.Common.{◌≡◌, ◌∙◌, ◌++◌, ◌∷◌, [], All, ap, length, subst, sym, take}
use Rattle.vt_laws_trees.specs.Layers.Layers.Directories.{directories_under, shown_in}
use Rattle.vt_overlay.specs.Merge.EntryValue.{IsMergedAt}
use Rattle.vt_overlay.specs.Merge.LayerValue.{placed_layers, placed_views}
use Rattle.vt_overlay.proofs.merge.Narrowed.{refilled}
use Rattle.vt_overlay.proofs.merge.UnderNames.{shows}
use Rattle.vt_overlay.proofs.merge.merging.narrow.Goals as goal

pub returns-clause-shows : goal.returns-clause-shows
returns-clause-shows g c = λ path some.
    let trees = c.args.trees.now in
    let name = c.args.name.now in
    let old = c.args.merged.now.items in
    let moved = c.narrow_in_front-kept.new.merged in
    let items : c.truncate.new.self.items ≡ take c.narrow_in_front-kept.result moved = c.truncate.ensures.items
    ∙ ap (take c.narrow_in_front-kept.result)
    (refilled old moved (c.narrow_in_front-kept.ensures.len ∙ ap length c.as_mut_slice.ensures.value)) in
    ap (λ l. shown_in (placed_views trees l) path) items
    ∙ shows trees name old (take c.narrow_in_front-kept.result moved) (c.narrow_in_front-kept.ensures.value
    ∙ ap (λ l. directories_under (placed_layers trees l) name) c.as_mut_slice.ensures.value) path some

pub returns-clause-led : goal.returns-clause-led
returns-clause-led g c = λ layers path all.
    let trees = c.args.trees.now in
    let old = c.args.merged.now.items in
    let moved = c.narrow_in_front-kept.new.merged in
    let items : c.truncate.new.self.items ≡ take c.narrow_in_front-kept.result moved = c.truncate.ensures.items
    ∙ ap (take c.narrow_in_front-kept.result)
    (refilled old moved (c.narrow_in_front-kept.ensures.len ∙ ap length c.as_mut_slice.ensures.value)) in
    subst (All (IsMergedAt trees layers (path ++ c.args.name.now ∷ []))) (sym items)
    (c.narrow_in_front-kept.ensures.led layers path
    (subst (All (IsMergedAt trees layers path)) (sym c.as_mut_slice.ensures.value) all))
