use Rattle.std.proofs.Common.{◌∷◌, refl, rules}
use Rattle.vt_spec.proofs.Common.{printed_member}
use Rattle.vt_io.specs.Sink.{WroteFront}
use Rattle.vt_io.proofs.Printing.{WroteFront-item}
use Rattle.vt_request.specs.Answers.{mount_place_of}
use Rattle.vt_request.specs.declared.answer.MountPlace.{MountPlace}
use Rattle.vt_line.specs.Printing.{printed_further_members}
use Rattle.vt_line.proofs.peers.write_further_members.Goals as goal

pub returns-in_err-write_member : goal.returns-in_err-write_member
returns-in_err-write_member g c =
    let others = c.args.others.now in
    let front : WroteFront g.W.Sink c.args.sink.now c.write_member.new.sink (printed_further_members others) =
    WroteFront-item g.W.Sink (λ (other : MountPlace). 44 ∷ printed_member (mount_place_of other)) others
    c.loop-other.other-index _ c.loop-other.invariant c.loop-other-test.true
    c.in_err-write_member.ensures.printed refl in
    search rules
