use Rattle.std.proofs.Common.{sym, ◌∙◌}
use Rattle.vt_layers.proofs.rules.checked.Goals as goal

pub is_upper_unfit-requires : goal.is_upper_unfit-requires
is_upper_unfit-requires g c = sym c.some_overlaid.ensures ∙ c.if-some_overlaid.false

pub is_in_use-requires : goal.is_in_use-requires
is_in_use-requires g c = sym c.some_overlaid.ensures ∙ c.if-some_overlaid.false

pub overlap_lowers-requires : goal.overlap_lowers-requires
overlap_lowers-requires g c = sym c.some_overlaid.ensures ∙ c.if-some_overlaid.false
