use Rattle.std.proofs.Common.{◌≡◌, ◌<◌, ◌+◌, ◌++◌, ◌∷◌, ◌∙◌, [], ℕ, length, ap, append_assoc, arith, subst, sym}
use Rattle.vt_spec.proofs.Common.{lines_of, nat_tests}
use Rattle.vt_script.specs.Progress.{whole_lines}
use Rattle.vt_lines.proofs.LineLemmas.{count-next, split-next, whole-next}
use Rattle.vt_lines.proofs.lines.lines_before.Goals as goal

pub loop-left-preserved : goal.loop-left-preserved
loop-left-preserved c =
    let inv = c.loop-left.invariant in
    let front = c.loop-left.front.items in
    let line = c.in-Some.line.now in
    let after = c.in-Some.after.now in
    let one = c.in-Some.ensures.one in
    let items : c.push.new.self.items ≡ front ++ (line ++ 10 ∷ []) =
    c.in_ok-push.ensures.items ∙ ap (λ l. l ++ 10 ∷ []) c.in_ok-extend_from_slice.ensures.items
    ∙ append_assoc front line (10 ∷ []) in
    let more : length (lines_of c.push.new.self.items) ≡ length (lines_of front) + 1 =
    ap (λ l. length (lines_of l)) items ∙ count-next front line inv.whole one in
    let some : 0 < c.loop-left.left = grind (arith, nat_tests) in
    record {
      whole = subst (λ l. whole_lines l ≡ l) (sym items) (whole-next front line inv.whole one);
      split = split-next front line inv.whole one c.args.text.now c.loop-left.rest.now after inv.split
          c.in-Some.ensures.lines ∙ ap (λ l. lines_of l ++ lines_of after) (sym items);
      count = omega (arith, more, inv.count, some);
    }
