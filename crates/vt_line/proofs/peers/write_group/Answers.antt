use Rattle.std.proofs.Common.{[], ◌∷◌, ◌++◌, ◌∙◌, ℕ, List, ap, append_assoc, decimal, map, refl, rules}
use Rattle.vt_spec.proofs.Common.{peer_line_words, spaced}
use Rattle.vt_spec.specs.Language.Printed.{number_or_dash, printed_members}
use Rattle.vt_io.specs.Sink.{WroteFront}
use Rattle.vt_io.proofs.Printing.{Wrote-append, WroteFront-part}
use Rattle.vt_request.specs.Answers.{mount_place_of, peer_line_of}
use Rattle.vt_line.proofs.peers.write_group.Goals as goal

pub returns-in_err-write_master : goal.returns-in_err-write_master
returns-in_err-write_master g c =
    let line = c.args.line.now in
    let slaves : List ℕ = 32 ∷ (printed_members (map mount_place_of line.slaves.items) ++ []) in
    let after : List ℕ = 32 ∷ (printed_members (map mount_place_of line.members.items) ++ slaves) in
    let words = peer_line_words (peer_line_of line) in
    let front : WroteFront g.W.Sink c.args.sink.now c.write_master.new.sink (spaced words) =
    WroteFront-part g.W.Sink after c.in_ok-write_number.ensures.printed c.in_err-write_master.ensures.printed refl in
    search rules

pub returns-in_err-write_members : goal.returns-in_err-write_members
returns-in_err-write_members g c =
    let line = c.args.line.now in
    let group : List ℕ = 32 ∷ decimal line.group in
    let master : List ℕ = 32 ∷ number_or_dash line.master in
    let members : List ℕ = 32 ∷ printed_members (map mount_place_of line.members.items) in
    let after : List ℕ = 32 ∷ (printed_members (map mount_place_of line.slaves.items) ++ []) in
    let before = Wrote-append g.W.Sink c.in_ok-write_number.ensures.printed c.in_ok-write_master.ensures.printed in
    let words = peer_line_words (peer_line_of line) in
    let front : WroteFront g.W.Sink c.args.sink.now c.write_members.new.sink (spaced words) =
    WroteFront-part g.W.Sink after before c.in_err-write_members.ensures.printed
    (ap (λ members. (group ++ master) ++ ((32 ∷ printed_members (map mount_place_of members)) ++ after))
    c.deref.ensures.value ∙ append_assoc group master (members ++ after)) in
    search rules
