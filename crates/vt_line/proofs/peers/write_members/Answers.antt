use Rattle.std.proofs.Common.{◌≡◌, ◌∷◌, ◌++◌, ap, map, subst, sym, ◌∙◌}
use Rattle.vt_spec.proofs.Common.{printed_member}
use Rattle.vt_spec.specs.Language.Printed.{printed_members}
use Rattle.vt_io.specs.Sink.{Prints}
use Rattle.vt_io.proofs.Printing.{Prints-append}
use Rattle.vt_request.specs.Answers.{mount_place_of}
use Rattle.vt_line.specs.Printing.{printed_further_members}
use Rattle.vt_line.proofs.PeerLemmas.{further_members}
use Rattle.vt_line.proofs.peers.write_members.Goals as goal

pub returns : goal.returns
returns g c =
    let first = c.in-Some.first.now in
    let others = c.in-Some.others.now in
    let text : (32 ∷ printed_member (mount_place_of first)) ++ printed_further_members others
    ≡ 32 ∷ printed_members (map mount_place_of c.args.members.now) =
    ap (λ rest. (32 ∷ printed_member (mount_place_of first)) ++ rest) (sym (further_members others))
    ∙ ap (λ members. 32 ∷ printed_members (map mount_place_of members)) (sym c.in-Some.ensures.cases.0) in
    let result = c.write_further_members.result in
    let sink = c.write_further_members.new.sink in
    record {
      printed = subst (λ text. Prints g.W.Sink text result c.args.sink.now sink) text
          (Prints-append g.W.Sink sink (printed_further_members others) result
          c.in_ok-write_member.ensures.printed c.write_further_members.ensures.printed);
    }
