use Rattle.std.proofs.Common.{rules, ◌≡◌, ◌∙◌, ◌++◌, [], map, subst, sym, append-nil, IsPermutation}
use Rattle.vt_spec.proofs.Common.{IsPermutation-refl, at_drop_all}
use Rattle.vt_overlay.specs.Merge.LayerValue.{names_had}
use Rattle.vt_overlay.proofs.merge.NamesHad.{names_more}
use Rattle.vt_overlay.proofs.merge.naming.all_names.Goals as goal

pub loop-top-init : goal.loop-top-init
loop-top-init c =
    let had = names_had c.args.trees.now c.args.merged.now in
    let empty : c.new-all.result.items ≡ [] = search rules in
    subst (λ l. IsPermutation (map (λ name. name.items) l ++ had) had) (sym empty) (IsPermutation-refl had)

pub loop-top-preserved : goal.loop-top-preserved
loop-top-preserved c =
    names_more c.args.trees.now c.args.merged.now c.loop-top.top-index _ (map (λ name. name.items) c.loop-top.all.items)
    (map (λ name. name.items) c.kept_names.result.now) (map (λ name. name.items) c.push_copies.new.all.items)
    c.loop-top-test.true c.loop-top.invariant c.kept_names.ensures (search rules)

pub returns : goal.returns
returns c =
    let names = map (λ name. name.items) c.loop-top.all.items in
    subst (λ l. IsPermutation l (names_had c.args.trees.now c.args.merged.now))
    (at_drop_all (λ l. names ++ names_had c.args.trees.now l) c.args.merged.now c.loop-top.top-index
    c.loop-top-test.false ∙ append-nil names) c.loop-top.invariant
