use Rattle.std.proofs.Common.{ap, subst, sym, take, take_all, ◌++◌, ◌∷◌, ◌∙◌, []}
use Rattle.vt_spec.proofs.Common.{take_more}
use Rattle.vt_test.specs.Tested.{ComparesAll}
use Rattle.vt_test.proofs.TestedLemmas.{ComparesAll-snoc}
use Rattle.vt_test.proofs.compare.compare_each.Goals as goal

pub loop-script-preserved : goal.loop-script-preserved
loop-script-preserved g c =
    let goes_on = g.T.Comparing.goes_on in
    let scripts = c.args.scripts.now in
    let n = c.loop-script.script-index in
    let script = c.script-item.result in
    let more = ap (λ one. take n scripts ++ one ∷ []) c.script-item.is
    ∙ sym (take_more scripts n script c.loop-script-test.true) in
    subst (λ front. ComparesAll goes_on front c.args.told.now c.compare_script.new.told) more
    (ComparesAll-snoc goes_on (take n scripts) script c.args.told.now c.loop-script.told c.compare_script.new.told
    c.loop-script.invariant c.in_ok-compare_script.ensures.ok)

pub returns-clause-ok : goal.returns-clause-ok
returns-clause-ok g c =
    subst (λ scripts. ComparesAll g.T.Comparing.goes_on scripts c.args.told.now c.loop-script.told)
    (take_all c.loop-script.script-index c.args.scripts.now c.loop-script-test.false) c.loop-script.invariant
