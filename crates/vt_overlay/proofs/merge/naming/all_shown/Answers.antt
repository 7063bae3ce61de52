use Rattle.std.proofs.Common.{rules, Bool, Global, List, Vec, ap, ◌∷◌, ◌||◌, [], is_some, not, ℕ}
use Rattle.vt_spec.proofs.Common.{filter_same, list_any, nil_from_length}
use Rattle.vt_laws_trees.specs.Layers.Layers.Directories.{shown_in}
use Rattle.vt_overlay.specs.Merge.LayerValue.{placed_views}
use Rattle.vt_overlay.proofs.merge.NamesHad.{is_name}
use Rattle.vt_overlay.proofs.merge.NamesShown.{all_shown, passing_shown}
use Rattle.vt_overlay.proofs.merge.naming.all_shown.Goals as goal

pub returns-then-is_empty : goal.returns-then-is_empty
returns-then-is_empty c name =
    all_shown c.args.trees.now c.args.merged.now c.in_ok-names.names.items c.in_ok-names.ensures
    (λ name. list_any (λ one. is_name name one.now) c.in_ok-whiteouts.whiteouts.keys) c.in_ok-whiteouts.ensures name
    (ap (list_any (λ one. is_name name one.now))
    (nil_from_length c.in_ok-whiteouts.whiteouts.keys (c.is_empty.ensures.0 c.if-is_empty.true)))

pub returns : goal.returns
returns c name =
    let trees = c.args.trees.now in
    let merged = c.args.merged.now in
    let white : List ℕ → Bool = λ name. list_any (λ one. is_name name one.now) c.in_ok-whiteouts.whiteouts.keys in
    passing_shown trees merged c.in_ok-names.names.items c.in_ok-names.ensures white c.in_ok-whiteouts.ensures name
    c.retain.new.self.items (filter_same _ (λ (name : Vec ℕ Global). not (white name.items)
    || is_some (shown_in (placed_views trees merged) (name.items ∷ []))) _ (λ x b f' k. search rules) _ _
    c.retain.ensures.filtered)
