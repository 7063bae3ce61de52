use Rattle.std.proofs.Common.{◌≡◌}
use Rattle.vt_spec.proofs.Common.{options_of}
use Rattle.vt_options.proofs.OptionLemmas.{left_of}
use Rattle.vt_options.proofs.options.LayerOptions.parse.Given as goal

abbrev pub invariant-loop-item : goal.invariant-loop-item
invariant-loop-item l = left_of l.options l.items ≡ options_of l.fn.text
