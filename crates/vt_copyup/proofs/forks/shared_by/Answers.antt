use Rattle.std.proofs.Common.{◌≡◌, ◌≢◌, ◌∙◌, [], ap, arith, Bool, bytes_eq, false, List, not, sym, true, true≢false, ℕ}
use Rattle.std.proofs.lemmas.List.{take_more_same}
use Rattle.vt_spec.proofs.Common.{bytes_decides, common_steps, get_or_from_slice_get, slice_get_within}
use Rattle.vt_copyup.specs.Planned.{names_of}
use Rattle.vt_copyup.specs.Plans.{in_turn}
use Rattle.vt_copyup.proofs.forks.shared_by.Goals as goal

from_not : (b : Bool) → false ≡ not b → b ≡ true
from_not b e = grind (arith, common_steps)

differ : (a b : List ℕ) → true ≡ not (bytes_eq a b) → a ≢ b
differ a b e same = true≢false (e ∙ ap not ((bytes_decides a b).1 same))

pub loop-index-preserved : goal.loop-index-preserved
loop-index-preserved c =
    let ones = names_of (in_turn c.args.first.now) in
    let others = names_of (in_turn c.args.second.now) in
    let index = c.loop-index.index in
    let a = c.name_of.result.now in
    let b = c.name_of-in-loop-index.result.now in
    let same : a ≡ b = (bytes_decides a b).0 (from_not (bytes_eq a b) (c.if-ne.ensures {u = tt})) in
    record {
      beside = c.loop-index.invariant.beside;
      same = take_more_same ones others index [] (slice_get_within ones index a c.name_of.ensures)
          (slice_get_within others index b c.name_of-in-loop-index.ensures) c.loop-index.invariant.same
          (get_or_from_slice_get ones index a [] c.name_of.ensures ∙ same
          ∙ sym (get_or_from_slice_get others index b [] c.name_of-in-loop-index.ensures));
    }
