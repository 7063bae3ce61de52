use Rattle.std.proofs.Common.{ap, ◌∙◌}
use Rattle.vt_options.proofs.OptionLemmas.{items-ended, items-more, items-refused, left_of}
use Rattle.vt_options.specs.OptionValue.{item_of}
use Rattle.vt_options.proofs.options.LayerOptions.parse.Goals as goal

pub returns-in_err-option_item : goal.returns-in_err-option_item
returns-in_err-option_item c = rw c.from_residual.ensures
    (items-refused c.loop-item.options c.loop-item.items c.in-Some.item.now c.next.new.self c.in-Some.ensures.steps
    c.in_err-option_item.ensures ∙ c.loop-item.invariant)

pub loop-item-preserved : goal.loop-item-preserved
loop-item-preserved c = ap (λ words. left_of words c.next.new.self) c.with-options.ensures
    ∙ items-more c.loop-item.options c.loop-item.items c.in-Some.item.now c.next.new.self
    (item_of c.in_ok-option_item.field-0) c.in-Some.ensures.steps c.in_ok-option_item.ensures ∙ c.loop-item.invariant

pub returns : goal.returns
returns c = items-ended c.loop-item.options c.loop-item.items c.in_default.ensures.steps.0 ∙ c.loop-item.invariant
