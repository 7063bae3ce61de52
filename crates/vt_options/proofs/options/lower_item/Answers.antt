use Rattle.std.proofs.Common.{option_map, sym, ap, ◌∙◌}
use Rattle.vt_spec.proofs.Common.{parts}
use Rattle.vt_spec.specs.Language.Script.OptionItem.{LowerItem}
use Rattle.vt_options.proofs.OptionLemmas.{lower_item-there}
use Rattle.vt_options.proofs.options.lower_item.Goals as goal

pub returns-in_err-path_word : goal.returns-in_err-path_word
returns-in_err-path_word c = rw c.from_residual-in_err-path_word.ensures
    (ap (option_map (λ path. LowerItem (parts 58 path))) c.in_err-path_word.ensures
    ∙ sym (lower_item-there c.args.text.now c.in_ok-paths.paths.now (sym c.in_ok-paths.ensures)))

pub returns : goal.returns
returns c = ap (option_map (λ path. LowerItem (parts 58 path))) c.in_ok-path_word.ensures
    ∙ sym (lower_item-there c.args.text.now c.in_ok-paths.paths.now (sym c.in_ok-paths.ensures))
