use Rattle.std.proofs.Common.{◌≡◌, ◌+◌, ◌&&◌, arith, ap, drop, false, length, rules, sym, true, ◌∙◌, Bool}
use Rattle.std.proofs.lemmas.Iterator.{YieldsList-from_slice, YieldsList-from_zip}
use Rattle.std.proofs.lemmas.Iterator.Consumers.{YieldsList-end, YieldsList-turn}
use Rattle.std.specs.List.{list_all, zip}
use Rattle.std.proofs.lemmas.List.{length_push}
use Rattle.vt_verdict.specs.Compared.{pair_is_met}
use Rattle.vt_verdict.proofs.Lines.{all-end, all-next}
use Rattle.vt_verdict.proofs.compare.are_alike.Goals as goal

pub returns-then-not-is_met : goal.returns-then-not-is_met
returns-then-not-is_met c =
    let pairs = zip c.args.wanted.now c.args.given.now in
    let road = YieldsList-from_zip {s = c.into_iter-wanted-iterator.result} (YieldsList-from_slice c.args.wanted.now (cc)) (YieldsList-from_slice c.args.given.now (cc)) in
    let turn = YieldsList-turn road c.loop-wanted.yielded _ c.loop-wanted.yielded_by _ c.next.new.self _ c.in-Some.is c.next.ensures.steps in
    let next = all-next pair_is_met pairs (length c.loop-wanted.yielded) (c.in-Some.wanted.now, c.in-Some.given.now) turn in
    let other : pair_is_met (c.in-Some.wanted.now, c.in-Some.given.now) ≡ false = cc in
    let first = λ (b : Bool). b && list_all pair_is_met (drop (length c.loop-wanted.yielded + 1) pairs) in
    sym (sym c.loop-wanted.invariant.left ∙ next ∙ ap first other)

pub loop-wanted-preserved : goal.loop-wanted-preserved
loop-wanted-preserved c =
    let pairs = zip c.args.wanted.now c.args.given.now in
    let road = YieldsList-from_zip {s = c.into_iter-wanted-iterator.result} (YieldsList-from_slice c.args.wanted.now (cc)) (YieldsList-from_slice c.args.given.now (cc)) in
    let turn = YieldsList-turn road c.loop-wanted.yielded _ c.loop-wanted.yielded_by _ c.next.new.self _ c.in-Some.is c.next.ensures.steps in
    let next = all-next pair_is_met pairs (length c.loop-wanted.yielded) (c.in-Some.wanted.now, c.in-Some.given.now) turn in
    let same : pair_is_met (c.in-Some.wanted.now, c.in-Some.given.now) ≡ true = cc in
    let first = λ (b : Bool). b && list_all pair_is_met (drop (length c.loop-wanted.yielded + 1) pairs) in
    record {
      can_next = search rules;
      is_finite = search rules;
      left = ap (λ n. list_all pair_is_met (drop n pairs)) (length_push c.loop-wanted.yielded _)
          ∙ sym (next ∙ ap first same) ∙ c.loop-wanted.invariant.left;
    }

pub returns : goal.returns
returns c =
    let pairs = zip c.args.wanted.now c.args.given.now in
    let road = YieldsList-from_zip {s = c.into_iter-wanted-iterator.result} (YieldsList-from_slice c.args.wanted.now (cc)) (YieldsList-from_slice c.args.given.now (cc)) in
    let last = YieldsList-end road c.loop-wanted.yielded _ c.loop-wanted.yielded_by _ c.next.new.self c.in-None.is c.next.ensures.steps in
    sym (all-end pair_is_met pairs (length c.loop-wanted.yielded) (omega (arith, last.1))) ∙ c.loop-wanted.invariant.left
