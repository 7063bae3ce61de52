use Rattle.std.proofs.Common.{rules, ◌≡◌, ◌∙◌, None, Some, ap, drop, false, option_map, slice_get, sym, true}
use Rattle.vt_spec.proofs.Common.{cuts, same_Some, shown, view_of, without_last}
use Rattle.vt_overlay.specs.declared.merge.layers.LayerRef.{LayerRef}
use Rattle.vt_overlay.specs.Merge.LayerValue.{layer_of, layers_of, seen_of}
use Rattle.vt_upper.proofs.LowersShown.{below_cut, below_seen, real_kind}
use Rattle.vt_upper.proofs.lowers.directory_below.Goals as goal

pub returns-then-is_cut : goal.returns-then-is_cut
returns-then-is_cut g c = λ upper lowers is.
    let yes : c.is_cut.result ≡ true = search rules in
    let top : c.upper_of-upper.result ≡ upper = same_Some c.upper_of-upper.result upper
    (sym c.upper_of-upper.ensures ∙ ap (λ l. slice_get l 0) is) in
    let cut : cuts (view_of (layer_of c.args.trees.now upper)) (without_last (g.W.Way.names c.args.path.now)) ≡ true =
    ap (λ (l : LayerRef). cuts (view_of (layer_of c.args.trees.now l)) (without_last (g.W.Way.names c.args.path.now)))
    (sym top) ∙ sym c.is_cut.ensures ∙ yes in
    sym (below_cut c.args.trees.now upper lowers (g.W.Way.names c.args.path.now) cut)

pub returns-in_default : goal.returns-in_default
returns-in_default g c = λ upper lowers is.
    let no : c.is_cut.result ≡ false = search rules in
    let trees = c.args.trees.now in
    let names = g.W.Way.names c.args.path.now in
    let top : c.upper_of-upper.result ≡ upper = same_Some c.upper_of-upper.result upper
    (sym c.upper_of-upper.ensures ∙ ap (λ l. slice_get l 0) is) in
    let cut : cuts (view_of (layer_of trees upper)) (without_last names) ≡ false =
    ap (λ (l : LayerRef). cuts (view_of (layer_of trees l)) (without_last names)) (sym top) ∙ sym c.is_cut.ensures ∙ no in
    let rest : c.lowers_of.result.now ≡ lowers = c.lowers_of.ensures ∙ ap (drop 1) is in
    let none : None ≡ shown (layers_of trees lowers) names =
    ap (option_map seen_of) (sym c.in_default.is) ∙ c.shown.ensures.value
    ∙ ap (λ l. shown (layers_of trees l) names) rest in
    sym (below_seen trees upper lowers names cut None none)

pub returns : goal.returns
returns g c = λ upper lowers is.
    let no : c.is_cut.result ≡ false = search rules in
    let trees = c.args.trees.now in
    let names = g.W.Way.names c.args.path.now in
    let real = c.in-Some.real in
    let top : c.upper_of-upper.result ≡ upper = same_Some c.upper_of-upper.result upper
    (sym c.upper_of-upper.ensures ∙ ap (λ l. slice_get l 0) is) in
    let cut : cuts (view_of (layer_of trees upper)) (without_last names) ≡ false =
    ap (λ (l : LayerRef). cuts (view_of (layer_of trees l)) (without_last names)) (sym top) ∙ sym c.is_cut.ensures ∙ no in
    let rest : c.lowers_of.result.now ≡ lowers = c.lowers_of.ensures ∙ ap (drop 1) is in
    let seen : Some (seen_of real) ≡ shown (layers_of trees lowers) names =
    ap (option_map seen_of) (sym c.in-Some.is) ∙ c.shown.ensures.value
    ∙ ap (λ l. shown (layers_of trees l) names) rest in
    let placed = ap (λ l. option_map (λ (layer : LayerRef). layer.directory.filesystem) (slice_get l real.layer))
    (sym rest) ∙ c.in-Some.ensures.tree in
    c.is_directory.ensures ∙ sym (real_kind trees lowers real placed)
    ∙ sym (below_seen trees upper lowers names cut (Some (seen_of real)) seen)
