use Rattle.std.proofs.Common.{◌∷◌, ◌++◌, ◌∙◌, [], ap, append-nil, append_assoc, subst, sym}
use Rattle.vt_wanted.specs.Entries.{call_of, calls_of}
use Rattle.vt_wanted.proofs.Files.{calls_of-line}
use Rattle.vt_test.specs.Suite.{HaveCalls}
use Rattle.vt_test.proofs.SuiteLemmas.{read-ended}
use Rattle.vt_test.proofs.suite.Reading.read.Goals as goal

pub loop-line-preserved : goal.loop-line-preserved
loop-line-preserved c = λ fine.
    let took = c.in_ok-take.ensures fine in
    let inv = c.loop-line.invariant took.0 in (
      inv.0,
      λ version was.
          let read = inv.1 version was in
          let more = call_of c.in-Some.line.now ++ 10 ∷ [] in (
            read.0 ++ more,
            append_assoc read.0 more (calls_of c.in-Some.after.now)
                ∙ ap (λ calls. read.0 ++ calls) (sym (calls_of-line c.loop-line.rest.now c.in-Some.line.now c.in-Some.after.now c.in-Some.ensures.lines))
                ∙ read.1,
            took.1 version read.0 read.2,
          ),
    )

pub returns : goal.returns
returns c = λ fine.
    let ends = c.end.ensures fine in
    let inv = c.loop-line.invariant ends.not_failed in (
      inv.0,
      λ version was.
          let read = inv.1 version was in
          let none = sym (append-nil read.0) ∙ ap (λ rest. read.0 ++ calls_of rest) (sym c.in_default.ensures.lines) ∙ read.1 in
          subst (λ calls. HaveCalls version calls c.end.new.self.done.items) none
          (subst (HaveCalls version read.0) (sym ends.done)
          (read-ended version read.0 c.loop-line.self.done.items c.loop-line.self.script read.2)),
    )
