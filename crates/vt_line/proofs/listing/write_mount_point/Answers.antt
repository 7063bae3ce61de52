use Rattle.std.proofs.Common.{[], ◌∷◌, ◌++◌, option_map, rules}
use Rattle.vt_spec.proofs.Common.{mount_point_words, printed_spot, spaced}
use Rattle.vt_io.specs.Sink.{WroteFront}
use Rattle.vt_io.proofs.Printing.{WroteFront-longer}
use Rattle.vt_request.specs.Answers.{spot_of}
use Rattle.vt_line.specs.Printing.{mount_point_of}
use Rattle.vt_line.proofs.listing.write_mount_point.Goals as goal

pub returns-in_err-write_number-in-Some : goal.returns-in_err-write_number-in-Some
returns-in_err-write_number-in-Some g c =
    let front : WroteFront g.W.Sink c.args.sink.now c.write_number.new.sink
    (spaced (mount_point_words (option_map mount_point_of c.args.point.now))) =
    rw c.in-Some.is (WroteFront-longer g.W.Sink
    ((32 ∷ printed_spot (spot_of c.in-Some.spot)) ++ []) c.in_err-write_number-in-Some.ensures.printed) in
    search rules
