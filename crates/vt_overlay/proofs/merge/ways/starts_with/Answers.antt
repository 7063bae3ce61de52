use Rattle.std.proofs.Common.{◌≡◌, ◌∙◌, ◌++◌, ◌∷◌, ◌≤◌, ℕ, [], Bool, List, Some, ap, arith, drop, false, length, not, suc, sym, true, true≢false, zero, slice_get, take-append-drop, take_all, bytes_eq}
use Rattle.vt_spec.proofs.Common.{bytes_decides, get_or_from_slice_get, none_is_some, same_Some, slice_get_within, common_steps}
use Rattle.std.proofs.lemmas.List.{take_more_same}
use Rattle.vt_overlay.proofs.merge.ways.starts_with.Goals as goal

found_in_front : (front rest : List (List ℕ)) (n : ℕ) (name : List ℕ) → slice_get front n ≡ Some name
    → slice_get (front ++ rest) n ≡ Some name
found_in_front [] rest n name e = none_is_some name e
found_in_front (first ∷ front) rest zero name e = e
found_in_front (first ∷ front) rest (suc n) name e = found_in_front front rest n name e

from_not : (b : Bool) → false ≡ not b → b ≡ true
from_not b e = grind (arith, common_steps)

differ : (a b : List ℕ) → true ≡ not (bytes_eq a b) → a ≡ b → ⊥
differ a b e same = true≢false (e ∙ ap not ((bytes_decides a b).1 same))

pub returns-then-ne-clause-no : goal.returns-then-ne-clause-no
returns-then-ne-clause-no g c = λ differs rest e.
    let path = g.W.Way.names c.args.path.now in
    let front = g.V.Way.names c.args.front.now in
    let a = c.name.result.now in
    let b = c.name-in-loop-index.result.now in
    let same : a ≡ b = same_Some a b (sym c.name.ensures ∙ ap (λ l. slice_get l c.loop-index.index) (sym e)
    ∙ found_in_front front rest c.loop-index.index b c.name-in-loop-index.ensures) in
    differ a b (c.if-ne.ensures {u = tt}) same

pub loop-index-preserved : goal.loop-index-preserved
loop-index-preserved g c =
    let path = g.W.Way.names c.args.path.now in
    let front = g.V.Way.names c.args.front.now in
    let index = c.loop-index.index in
    let a = c.name.result.now in
    let b = c.name-in-loop-index.result.now in
    let same : a ≡ b = (bytes_decides a b).0 (from_not (bytes_eq a b) (c.if-ne.ensures {u = tt})) in
    record {
      far = c.loop-index.invariant.far;
      same = take_more_same front path index [] (slice_get_within front index b c.name-in-loop-index.ensures)
          (slice_get_within path index a c.name.ensures) c.loop-index.invariant.same
          (get_or_from_slice_get front index b [] c.name-in-loop-index.ensures ∙ sym same
          ∙ sym (get_or_from_slice_get path index a [] c.name.ensures));
    }

pub returns-clause-yes : goal.returns-clause-yes
returns-clause-yes g c = λ yes.
    let path = g.W.Way.names c.args.path.now in
    let front = g.V.Way.names c.args.front.now in
    let enough : length front ≤ c.loop-index.index = omega arith in (
      drop c.loop-index.index path,
      ap (λ l. l ++ drop c.loop-index.index path) (sym (take_all c.loop-index.index front enough)
          ∙ c.loop-index.invariant.same)
          ∙ take-append-drop c.loop-index.index path,
    )
