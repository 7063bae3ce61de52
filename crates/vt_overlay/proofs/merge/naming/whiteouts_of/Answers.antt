use Rattle.std.proofs.Common.{rules, ◌∙◌, ap, take_all}
use Rattle.vt_spec.proofs.Common.{list_any}
use Rattle.vt_overlay.specs.Merge.LayerValue.{is_white_under}
use Rattle.vt_overlay.proofs.merge.NamesHad.{is_name}
use Rattle.vt_overlay.proofs.merge.NamesShown.{whites_more}
use Rattle.vt_overlay.proofs.merge.naming.whiteouts_of.Goals as goal

pub loop-top-init : goal.loop-top-init
loop-top-init c name = ap (list_any (λ one. is_name name one.now)) c.new-whiteouts.ensures.empty

pub loop-top-preserved : goal.loop-top-preserved
loop-top-preserved c name =
    whites_more c.args.trees.now c.args.merged.now c.loop-top.top-index _ c.kept_names.result.now name
    (list_any (λ one. is_name name one.now) c.loop-top.whiteouts.keys)
    (list_any (λ one. is_name name one.now) c.add_whiteouts.new.whiteouts.keys) c.loop-top-test.true
    (c.loop-top.invariant name) c.kept_names.ensures (search rules)

pub returns : goal.returns
returns c name = c.loop-top.invariant name ∙ ap (list_any (λ top. is_white_under c.args.trees.now top name))
    (take_all c.loop-top.top-index c.args.merged.now c.loop-top-test.false)
