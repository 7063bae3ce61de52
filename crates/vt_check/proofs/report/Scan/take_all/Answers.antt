use Rattle.std.proofs.Common.{◌≡◌, ◌+◌, ℕ, true, false, arith}
use Rattle.vt_line.specs.Versions.{version_of}
use Rattle.vt_lines.specs.Refused.{is_refused, refused_in}
use Rattle.vt_lines.proofs.LineLemmas.{refused_in-line}
use Rattle.vt_check.proofs.report.Scan.take_all.Goals as goal

pub loop-line-preserved-then-branch : goal.loop-line-preserved-then-branch
loop-line-preserved-then-branch c =
    let line = c.in-Some.line.now in
    let more = refused_in-line (version_of c.args.version) c.loop-line.rest.now line c.in-Some.after.now c.in-Some.ensures.lines in
    let refused : is_refused (version_of c.args.version) line ≡ true = cc (c.in_ok-take.ensures, c.if-branch.true) in
    let one : refused_in (version_of c.args.version) c.loop-line.rest.now ≡ 1 + refused_in (version_of c.args.version) c.in-Some.after.now = rw refused at more in
    omega (arith, one)

pub loop-line-preserved : goal.loop-line-preserved
loop-line-preserved c =
    let line = c.in-Some.line.now in
    let more = refused_in-line (version_of c.args.version) c.loop-line.rest.now line c.in-Some.after.now c.in-Some.ensures.lines in
    let refused : is_refused (version_of c.args.version) line ≡ false = cc (c.in_ok-take.ensures, c.if-branch.false) in
    let none : refused_in (version_of c.args.version) c.loop-line.rest.now ≡ 0 + refused_in (version_of c.args.version) c.in-Some.after.now = rw refused at more in
    omega (arith, none)
