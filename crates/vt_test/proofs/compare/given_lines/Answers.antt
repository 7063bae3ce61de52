use Rattle.std.proofs.Common.{List, ap, map, subst, sym, ℕ, ◌++◌, ◌<◌, ◌^◌, ◌∙◌, ◌∷◌, ◌≡◌}
use Rattle.std.specs.Prelude.{All}
use Rattle.std.proofs.lemmas.List.Elements.{All-head, All-tail}
use Rattle.vt_spec.proofs.Common.{lines_of}
use Rattle.vt_test.specs.Given.{told_of}
use Rattle.vt_test.proofs.GivenLemmas.{first_told, told_next}
use Rattle.vt_test.proofs.compare.given_lines.Goals as goal

-- a number that a run may write
abbrev is_small : ℕ × List ℕ → Type 0
is_small one = one.0 < 2 ^ 64

pub loop-line-preserved-in_ok-push : goal.loop-line-preserved-in_ok-push
loop-line-preserved-in_ok-push c = λ told lines small.
    let inv = c.loop-line.invariant told lines small in
    let next = first_told inv.0 c.in-Some.line.now (lines_of c.in-Some.after.now) (sym c.in-Some.ensures.lines ∙ inv.2) in
    let others : All is_small (next.0 ∷ next.1) = subst (All is_small) next.2 inv.3 in
    let same = c.in-Some-numbered.ensures next.0 next.3 (All-head is_small next.0 next.1 others) in
    let is : told_of c.in-Some-numbered.given ≡ next.0 = cc in (
      next.1,
      ap (λ items. map told_of items ++ next.1) c.in_ok-push.ensures.items
          ∙ told_next c.loop-line.lines.items c.in-Some-numbered.given inv.0 next.1 told next.0 inv.1 next.2 is,
      next.4,
      All-tail is_small next.0 next.1 others,
    )

pub loop-line-preserved : goal.loop-line-preserved
loop-line-preserved c = λ told lines small.
    let inv = c.loop-line.invariant told lines small in
    let next = first_told inv.0 c.in-Some.line.now (lines_of c.in-Some.after.now) (sym c.in-Some.ensures.lines ∙ inv.2) in
    let others : All is_small (next.0 ∷ next.1) = subst (All is_small) next.2 inv.3 in
    let same = c.in_default-numbered.ensures next.0 next.3 (All-head is_small next.0 next.1 others) in
    absurd cc
