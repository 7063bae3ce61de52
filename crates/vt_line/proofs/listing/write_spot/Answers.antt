use Rattle.std.proofs.Common.{◌≡◌, ◌<◌, ◌∷◌, arith, length, sym, ap, ◌∙◌, subst}
use Rattle.vt_spec.proofs.Common.{printed_spot}
use Rattle.vt_io.specs.Sink.{Prints}
use Rattle.vt_io.proofs.Printing.{Prints-append}
use Rattle.vt_request.specs.Answers.{spot_of}
use Rattle.vt_line.specs.Printing.{printed_steps}
use Rattle.vt_line.proofs.ListingLemmas.{printed_path-steps}
use Rattle.vt_line.proofs.TokenLemmas.{some-length}
use Rattle.vt_line.proofs.listing.write_spot.Goals as goal

pub returns-in_ok-write_all-in-Reached : goal.returns-in_ok-write_all-in-Reached
returns-in_ok-write_all-in-Reached g c =
    let names = c.in-Reached.path.items in
    let filled = some-length c.in-Reached.path.len c.is_empty.ensures c.if-is_empty.false in
    let some : 0 < length names = let counted = c.deref.ensures.len in let same = ap length c.deref.ensures.value in omega (arith, filled, counted, same) in
    let text : 32 ∷ printed_steps c.deref.result.now ≡ 32 ∷ printed_spot (spot_of c.args.spot.now) =
    ap (λ names. 32 ∷ printed_steps names) c.deref.ensures.value
    ∙ ap (λ text. 32 ∷ text) (sym (printed_path-steps names some))
    ∙ ap (λ spot. 32 ∷ printed_spot (spot_of spot)) (sym c.in-Reached.is) in
    record {
      printed = subst (λ text. Prints g.W.Sink text c.write_steps.result c.args.sink.now c.write_steps.new.sink) text
          (Prints-append g.W.Sink c.write_steps.new.sink (printed_steps c.deref.result.now) c.write_steps.result c.in_ok-write_all-in-Reached.ensures.printed c.write_steps.ensures.printed);
    }
