use Rattle.std.proofs.Common.{◌∙◌, ap, length, subst, sym}
use Rattle.vt_line.specs.Versions.{version_of}
use Rattle.vt_line.proofs.TokenLemmas.{some-length}
use Rattle.vt_test.specs.Suite.{HaveCalls, kept_after}
use Rattle.vt_test.proofs.SuiteLemmas.{read-begun, read-ended}
use Rattle.vt_test.proofs.suite.Reading.begin.Goals as goal

pub returns : goal.returns
returns c = λ fine.
    let ends = c.end.ensures fine in
    let some = some-length (length c.args.name.now) c.is_empty.ensures c.if-is_empty.false in (
      c.note.ensures.failed ends.not_failed,
      λ version calls was.
          let done = ends.done ∙ (λ i. kept_after (c.note.ensures.done i).items (c.note.ensures.script i)) in
          let old = c.args.self.now in
          read-begun version calls c.end.new.self.done.items c.end.new.self.script c.args.name.now
          ((λ i. (ends.script i).name.now) ∙ (λ i. (c.new.ensures.name i).now)) some
          ((λ i. version_of (ends.script i).version) ∙ ap version_of c.new.ensures.version
          ∙ (λ i. version_of (c.note.ensures.script i).version) ∙ was.own_version)
          ((λ i. (ends.script i).text.items) ∙ c.new.ensures.text)
          (subst (HaveCalls version calls) (sym done) (read-ended version calls old.done.items old.script was)),
    )
