use Rattle.std.proofs.Common.{ap, option_map, sym, ◌∙◌, option_copied}
use Rattle.vt_location.specs.Fronts.{front}
use Rattle.vt_location.specs.Locations.{number_of}
use Rattle.vt_overlay.specs.Merge.LayerValue.{seen_of}
use Rattle.vt_overlay.proofs.ObjectsAlike.{none_alike, none_lent, some_alike, some_lent}
use Rattle.vt_overlay.proofs.overlays.Overlay.inode.Goals as goal

pub returns-in_err-real-clause-alike : goal.returns-in_err-real-clause-alike
returns-in_err-real-clause-alike c = ap (λ r. front (option_copied r)) c.from_residual.ensures
    ∙ none_alike c.args.trees.now c.args.self.now c.requires.layers (number_of c.args.node)
    (sym (ap (option_map seen_of) c.in_err-real.was) ∙ c.object.ensures.value)

pub returns-clause-alike : goal.returns-clause-alike
returns-clause-alike c =
    some_alike c.args.trees.now c.args.self.now c.requires.layers (number_of c.args.node) c.in_ok-real.real
    (sym (ap (option_map seen_of) c.in_ok-real.was) ∙ c.object.ensures.value) c.in_ok-real.ensures.tree
    (option_copied c.real_of.result) c.real_of.ensures

pub returns-in_err-real-clause-lent : goal.returns-in_err-real-clause-lent
returns-in_err-real-clause-lent c = ap option_copied c.from_residual.ensures
    ∙ none_lent c.args.trees.now c.args.self.now c.requires.layers (number_of c.args.node)
    (sym (ap (option_map seen_of) c.in_err-real.was) ∙ c.object.ensures.value)

pub returns-clause-lent : goal.returns-clause-lent
returns-clause-lent c =
    some_lent c.args.trees.now c.args.self.now c.requires.layers (number_of c.args.node) c.in_ok-real.real
    (sym (ap (option_map seen_of) c.in_ok-real.was) ∙ c.object.ensures.value) c.in_ok-real.ensures.tree
    (option_copied c.real_of.result) c.real_of.ensures
