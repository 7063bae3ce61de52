use Rattle.std.proofs.Common.{suc, ◌+◌, ◌++◌, ◌≡◌, ◌∙◌, ap, append-nil, arith, drop, sym, take}
use Rattle.std.proofs.lemmas.List.{drop_all, take_all}
use Rattle.vt_wanted.specs.Entries.{before_mark}
use Rattle.vt_wanted.proofs.Files.{before_mark-here, before_mark-next}
use Rattle.vt_wanted.proofs.entry.before_mark.Goals as goal

pub returns-then-is_mark : goal.returns-then-is_mark
returns-then-is_mark c =
    let line = c.args.line.now in
    let front = take c.loop-place.place line in
    let none = before_mark-here (drop c.loop-place.place line) (cc) in
    c.split_at.ensures.front ∙ sym (append-nil front) ∙ ap (λ rest. front ++ rest) (sym none) ∙ c.loop-place.invariant

pub loop-place-preserved : goal.loop-place-preserved
loop-place-preserved c =
    let line = c.args.line.now in
    let next : c.loop-place.place + 1 ≡ suc c.loop-place.place = omega arith in
    ap (λ n. take n line ++ before_mark (drop n line)) next
    ∙ before_mark-next c.loop-place.place c.args.line.now (omega (arith, c.loop-place-test.true)) (cc)
    ∙ c.loop-place.invariant

pub returns : goal.returns
returns c =
    let line = c.args.line.now in
    let front = take c.loop-place.place line in
    let none = ap before_mark (drop_all c.loop-place.place line c.loop-place-test.false) in
    sym (take_all c.loop-place.place line c.loop-place-test.false) ∙ sym (append-nil front)
    ∙ ap (λ rest. front ++ rest) (sym none) ∙ c.loop-place.invariant
