use Rattle.std.proofs.Common.{Some, ap, option_map, sym, ◌≡◌, ◌∙◌}
use Rattle.vt_spec.proofs.Common.{shown, then_some}
use Rattle.vt_location.specs.Locations.{number_of}
use Rattle.vt_overlay.specs.Merge.LayerValue.{layers_of, seen_of}
use Rattle.vt_overlay.proofs.EntriesShown.{is_at_path, leads_to}
use Rattle.vt_overlay.proofs.NodesShown.{no_number}
use Rattle.vt_overlay.proofs.ObjectsPlaced.{nothing_is_none}
use Rattle.vt_overlay.proofs.overlays.Overlay.entry.Goals as goal

pub returns-in_err-real-clause-node : goal.returns-in_err-real-clause-node
returns-in_err-real-clause-node c = absurd (nothing_is_none _ (sym (ap (option_map seen_of) c.in_err-real.was)
    ∙ c.real_shown.ensures.value c.args.trees.now c.requires.layers c.requires.shown) c.requires.shown)

pub returns-in_err-found-clause-node : goal.returns-in_err-found-clause-node
returns-in_err-found-clause-node c =
    let trees = c.args.trees.now in
    let overlay = c.args.self.now in
    let number = number_of c.args.node in
    let real = c.in_ok-real.real in
    let path = is_at_path trees overlay number c.requires.shown in
    let shows : shown (layers_of trees overlay.lowers) path.0 ≡ Some (seen_of real) =
    sym (ap (λ o. then_some o (shown (layers_of trees overlay.lowers))) path.1)
    ∙ sym (c.real_shown.ensures.value trees c.requires.layers c.requires.shown)
    ∙ ap (option_map seen_of) c.in_ok-real.was in
    ap (option_map (λ entry. number_of entry.node)) c.from_residual-in_err-found.ensures
    ∙ sym (no_number trees overlay c.requires.layers _ (c.entry_under.ensures.nothing path.0 shows c.in_err-found.was))
    ∙ leads_to trees overlay c.requires.layers number path.0 c.args.name.now path.1

pub returns-clause-node : goal.returns-clause-node
returns-clause-node c =
    let trees = c.args.trees.now in
    let overlay = c.args.self.now in
    let number = number_of c.args.node in
    let real = c.in_ok-real.real in
    let path = is_at_path trees overlay number c.requires.shown in
    let shows : shown (layers_of trees overlay.lowers) path.0 ≡ Some (seen_of real) =
    sym (ap (λ o. then_some o (shown (layers_of trees overlay.lowers))) path.1)
    ∙ sym (c.real_shown.ensures.value trees c.requires.layers c.requires.shown)
    ∙ ap (option_map seen_of) c.in_ok-real.was in
    c.entry_found.ensures.node path.0 (c.in_ok-found.ensures.first path.0 shows)
    ∙ leads_to trees overlay c.requires.layers number path.0 c.args.name.now path.1

pub returns-clause-object : goal.returns-clause-object
returns-clause-object c =
    let trees = c.args.trees.now in
    let overlay = c.args.self.now in
    let number = number_of c.args.node in
    let real = c.in_ok-real.real in
    let path = is_at_path trees overlay number c.requires.shown in
    let shows : shown (layers_of trees overlay.lowers) path.0 ≡ Some (seen_of real) =
    sym (ap (λ o. then_some o (shown (layers_of trees overlay.lowers))) path.1)
    ∙ sym (c.real_shown.ensures.value trees c.requires.layers c.requires.shown)
    ∙ ap (option_map seen_of) c.in_ok-real.was in
    c.entry_found.ensures.object path.0 (c.in_ok-found.ensures.first path.0 shows)
