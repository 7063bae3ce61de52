use Rattle.std.proofs.Common.{[], ◌∷◌, ◌++◌, ℕ, List, append_assoc, decimal, refl, rules}
use Rattle.vt_spec.proofs.Common.{printed_spot, spaced}
use Rattle.vt_spec.specs.Language.Printed.{kind_word, printed_flags, printed_type}
use Rattle.vt_io.specs.Sink.{WroteFront}
use Rattle.vt_io.proofs.Printing.{Wrote-append, WroteFront-part}
use Rattle.vt_cred.specs.MountFlags.{flags_of}
use Rattle.vt_request.specs.Answers.{mount_line_of, spot_of, type_line_of}
use Rattle.vt_line.specs.Printing.{shown_words}
use Rattle.vt_line.proofs.listing.write_shown.Goals as goal

pub returns-in_err-write_spot : goal.returns-in_err-write_spot
returns-in_err-write_spot g c =
    let line = c.args.line.now in
    let after = (32 ∷ printed_flags (flags_of line.flags)) ++ ((32 ∷ printed_type (type_line_of line.kind)) ++ []) in
    let front : WroteFront g.W.Sink c.args.sink.now c.write_spot.new.sink (spaced (shown_words (mount_line_of line))) =
    WroteFront-part g.W.Sink after c.in_ok-write_filesystem.ensures.printed c.in_err-write_spot.ensures.printed refl in
    search rules

pub returns-in_err-write_flags : goal.returns-in_err-write_flags
returns-in_err-write_flags g c =
    let line = c.args.line.now in
    let filesystem : List ℕ = 32 ∷ (kind_word line.overlay ++ decimal line.filesystem) in
    let root : List ℕ = 32 ∷ printed_spot (spot_of line.root) in
    let after : List ℕ = (32 ∷ printed_type (type_line_of line.kind)) ++ [] in
    let before = Wrote-append g.W.Sink c.in_ok-write_filesystem.ensures.printed c.in_ok-write_spot.ensures.printed in
    let front : WroteFront g.W.Sink c.args.sink.now c.write_flags.new.sink (spaced (shown_words (mount_line_of line))) =
    WroteFront-part g.W.Sink after before c.in_err-write_flags.ensures.printed
    (append_assoc filesystem root ((32 ∷ printed_flags (flags_of line.flags)) ++ after)) in
    search rules
