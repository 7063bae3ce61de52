use Rattle.std.proofs.Common.{arith, ap, below_more, false, option_copied, rules, sym, true, ◌∙◌, ◌≤◌, ◌≡◌}
use Rattle.vt_location.specs.Numbers.{inode_number}
use Rattle.vt_store.proofs.AllNamed.{all-named, one-nameless}
use Rattle.vt_store.proofs.naming.have_names.Goals as goal

pub returns-then-not-lacks_no_name : goal.returns-then-not-lacks_no_name
returns-then-not-lacks_no_name c =
    let fails : c.lacks_no_name.result ≡ false = search rules in
    let count = c.args.filesystem.count in
    sym (one-nameless c.args.plain.now count c.in-Some.tree.now
    (sym (ap option_copied c.in-Some.is) ∙ c.get.ensures) (inode_number count c.loop-slot.slot)
    (sym c.lacks_no_name.ensures ∙ fails))

pub loop-slot-preserved : goal.loop-slot-preserved
loop-slot-preserved c =
    let passes : c.lacks_no_name.result ≡ true = search rules in
    below_more _ _ c.loop-slot.invariant (sym c.lacks_no_name.ensures ∙ passes)

pub returns : goal.returns
returns c =
    let end = c.end-slot-end.result in
    let small : end ≤ 18446744073709551616 = let h = c.end-slot-end.type_inv in omega (arith, h) in
    sym (all-named c.args.plain.now c.args.filesystem.count c.in-Some.tree.now
    (sym (ap option_copied c.in-Some.is) ∙ c.get.ensures) end small c.end-slot-end.ensures
    (λ k within. c.loop-slot.invariant k (omega (arith, within, c.loop-slot-test.false))))
