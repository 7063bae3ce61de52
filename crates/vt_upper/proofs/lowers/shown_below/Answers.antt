use Rattle.std.proofs.Common.{rules, ◌≡◌, ◌∙◌, ap, drop, false, option_map, slice_get, sym, true}
use Rattle.vt_spec.proofs.Common.{cuts, same_Some, shown, view_of, without_last}
use Rattle.vt_overlay.specs.declared.merge.layers.LayerRef.{LayerRef}
use Rattle.vt_overlay.specs.Merge.LayerValue.{layer_of, layers_of, seen_of}
use Rattle.vt_upper.proofs.LowersShown.{none_below, seen_some, some_below}
use Rattle.vt_upper.proofs.lowers.shown_below.Goals as goal

pub returns-then-is_cut : goal.returns-then-is_cut
returns-then-is_cut g c = λ upper lowers is.
    let yes : c.is_cut.result ≡ true = search rules in
    let top : c.upper_of-upper.result ≡ upper = same_Some c.upper_of-upper.result upper
    (sym c.upper_of-upper.ensures ∙ ap (λ l. slice_get l 0) is) in
    let cut : cuts (view_of (layer_of c.args.trees.now upper)) (without_last (g.W.Way.names c.args.path.now)) ≡ true =
    ap (λ (l : LayerRef). cuts (view_of (layer_of c.args.trees.now l)) (without_last (g.W.Way.names c.args.path.now)))
    (sym top) ∙ sym c.is_cut.ensures ∙ yes in
    sym (none_below c.args.trees.now upper lowers (g.W.Way.names c.args.path.now) cut)

pub returns : goal.returns
returns g c = λ upper lowers is.
    let no : c.is_cut.result ≡ false = search rules in
    let trees = c.args.trees.now in
    let names = g.W.Way.names c.args.path.now in
    let top : c.upper_of-upper.result ≡ upper = same_Some c.upper_of-upper.result upper
    (sym c.upper_of-upper.ensures ∙ ap (λ l. slice_get l 0) is) in
    let cut : cuts (view_of (layer_of trees upper)) (without_last names) ≡ false =
    ap (λ (l : LayerRef). cuts (view_of (layer_of trees l)) (without_last names)) (sym top) ∙ sym c.is_cut.ensures ∙ no in
    let rest : c.lowers_of.result.now ≡ lowers = c.lowers_of.ensures ∙ ap (drop 1) is in
    let seen : option_map seen_of c.shown.result ≡ shown (layers_of trees lowers) names =
    c.shown.ensures.value ∙ ap (λ l. shown (layers_of trees l) names) rest in
    c.is_some.ensures ∙ sym (seen_some c.shown.result)
    ∙ sym (some_below trees upper lowers names cut (option_map seen_of c.shown.result) seen)
