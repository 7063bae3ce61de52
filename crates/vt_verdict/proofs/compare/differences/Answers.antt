use Rattle.std.proofs.Common.{List, [], ◌++◌, ◌∷◌, ◌+◌, ◌-◌, ◌≡◌, ap, arith, filter, length, map, suc, sym, ◌∙◌}
use Rattle.std.proofs.lemmas.List.{append-nil, append_assoc, map-append}
use Rattle.vt_verdict.specs.Compared.{differs, line_of, lines_within}
use Rattle.vt_verdict.proofs.Compared.{next-differs, next-met, no-line}
use Rattle.vt_verdict.proofs.compare.differences.Goals as goal
use Rattle.vt_verdict.proofs.compare.differences.Goals.{then-not-are_met+in_ok-push, else-not-are_met, else-loop-test, then-loop-test+in_default}

pub loop-preserved : goal.loop-preserved
loop-preserved c =
    let lines = length c.args.wanted.now + length c.args.given.now in
    let left = lines - c.loop.counter in
    let most = lines - (c.loop.counter + 1) in
    let more : left ≡ suc most = omega (arith, c.loop-test.true) in
    let line = line_of c.in-Some.line in
    let rest = filter differs (lines_within most c.in-Some.more.wanted.now c.in-Some.more.given.now) in
    elim c.if-not-are_met.branch [
      | then-not-are_met+in_ok-push w ↦
          ap (λ (found : List _). map line_of found ++ rest) (ap (λ found. found.items) w.found-is ∙ w.in_ok-push.ensures.items)
          ∙ ap (λ all. all ++ rest) (map-append line_of c.loop.found.items (c.in-Some.line ∷ []))
          ∙ append_assoc (map line_of c.loop.found.items) (line ∷ []) rest
          ∙ ap (λ all. map line_of c.loop.found.items ++ all) (sym (next-differs most left _ _ line _ _ c.in-Some.ensures.some more
          (cc)))
          ∙ c.loop.invariant
      | else-not-are_met w ↦
          ap (λ found. map line_of found.items ++ rest) w.found-is
          ∙ ap (λ all. map line_of c.loop.found.items ++ all) (sym (next-met most left _ _ line _ _ c.in-Some.ensures.some more
          (cc)))
          ∙ c.loop.invariant
    ]

pub returns : goal.returns
returns c =
    let lines = length c.args.wanted.now + length c.args.given.now in
    let none : filter differs (lines_within (lines - c.loop.counter) c.loop.rest.wanted.now c.loop.rest.given.now) ≡ [] =
    elim c.loop-test.branch [
      | else-loop-test w ↦
          let left : lines - c.loop.counter ≡ 0 = omega (arith, w.loop-test.false) in
          ap (λ n. filter differs (lines_within n c.loop.rest.wanted.now c.loop.rest.given.now)) left
      | then-loop-test+in_default w ↦
          ap (filter differs) (no-line (lines - c.loop.counter) c.loop.rest.wanted.now c.loop.rest.given.now
          w.in_default.ensures.none)
    ] in
    sym (append-nil (map line_of c.loop.found.items)) ∙ ap (λ all. map line_of c.loop.found.items ++ all) (sym none)
    ∙ c.loop.invariant
