use Rattle.std.proofs.Common.{ap, map, None, option_map, sym, ◌≡◌, ◌∙◌}
use Rattle.vt_spec.proofs.Common.{IfOk-weaker, then_some}
use Rattle.vt_location.specs.Locations.{number_of}
use Rattle.vt_overlay.specs.MergedTree as through
use Rattle.vt_overlay.specs.MergedTree.{longest, plain_world}
use Rattle.vt_upper_overlay.specs.MergedAbove.{directory_path, held, real_number, upper_seen}
use Rattle.vt_upper_overlay.proofs.Entries.{empty_too}
use Rattle.vt_upper_overlay.proofs.Named.{same_names}
use Rattle.vt_upper_overlay.proofs.Shown.{looked_by}
use Rattle.vt_upper_overlay.proofs.Ways.{no_names_of}
use Rattle.vt_upper_overlay.proofs.overlay.UpperOverlay.names.Goals as goal

pub returns-in-Some-clause-ok : goal.returns-in-Some-clause-ok
returns-in-Some-clause-ok c =
    let trees = c.args.trees.now in
    let overlay = c.args.self.now in
    let ways : through.directory_path trees overlay.layers (number_of c.in-Some.through)
    ≡ directory_path trees overlay (number_of c.args.node) = sym (ap (λ o. then_some (option_map number_of o)
    (through.directory_path trees overlay.layers)) c.in-Some.is) ∙ c.through.ensures.ways in
    IfOk-weaker c.names.result _ _ (λ names is. is ∙ same_names trees overlay
    (looked_by trees overlay c.args.node c.requires.standing c.through.ensures.small c.requires.own)
    (number_of c.args.node) (number_of c.in-Some.through) ways) c.names.ensures.ok

pub returns-in-Some-clause-empty : goal.returns-in-Some-clause-empty
returns-in-Some-clause-empty c = λ none.
    let trees = c.args.trees.now in
    let overlay = c.args.self.now in
    let ways : through.directory_path trees overlay.layers (number_of c.in-Some.through)
    ≡ directory_path trees overlay (number_of c.args.node) = sym (ap (λ o. then_some (option_map number_of o)
    (through.directory_path trees overlay.layers)) c.in-Some.is) ∙ c.through.ensures.ways in
    c.names.ensures.empty (empty_too trees overlay
    (looked_by trees overlay c.args.node c.requires.standing c.through.ensures.small c.requires.own)
    (number_of c.args.node) (number_of c.in-Some.through) ways none)

pub returns-in-None-clause-ok : goal.returns-in-None-clause-ok
returns-in-None-clause-ok c =
    let trees = c.args.trees.now in
    let overlay = c.args.self.now in
    let none : directory_path trees overlay (number_of c.args.node) ≡ None = sym (sym (ap (λ o. then_some
    (option_map number_of o) (through.directory_path trees overlay.layers)) c.in-None.is) ∙ c.through.ensures.ways) in
    ap (map (λ name. name.items)) c.new.ensures.items
    ∙ sym (no_names_of (real_number trees overlay) (held trees overlay) (longest trees overlay.layers.lowers)
    (plain_world trees) (upper_seen overlay) (number_of c.args.node) none)
