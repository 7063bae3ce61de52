use Rattle.std.proofs.Common.{◌∷◌, ◌++◌, ◌≡◌, ◌∙◌, ℕ, List, append_assoc, codes, decimal, rules, subst, sym}
use Rattle.vt_spec.proofs.Common.{mount_point_words, printed_line, spaced}
use Rattle.vt_spec.specs.Language.Printed.{mount_line_words}
use Rattle.vt_io.specs.Sink.{Prints, WroteFront}
use Rattle.vt_io.proofs.Printing.{Prints-append, Wrote-append, WroteFront-longer, WroteFront-part}
use Rattle.vt_request.specs.Answers.{mount_line_of}
use Rattle.vt_line.specs.Printing.{shown_words}
use Rattle.vt_line.proofs.ListingLemmas.{mount_text}
use Rattle.vt_line.proofs.listing.write_mount.Goals as goal

pub returns-in_err-write_all : goal.returns-in_err-write_all
returns-in_err-write_all g c =
    let line = mount_line_of c.args.line.now in
    let digits : c.as_bytes.result.now ≡ decimal c.args.number = search rules in
    let text = mount_text c.as_bytes.result.now c.args.number c.args.place line digits in
    let first : List ℕ = 32 ∷ decimal c.args.place in
    let point = spaced (mount_point_words line.mount_point) in
    let shown = spaced (shown_words line) in
    let front : WroteFront g.W.Sink c.args.sink.now c.write_all.new.sink
    (printed_line c.args.number (mount_line_words (c.args.place, mount_line_of c.args.line.now))) =
    rw text (WroteFront-longer g.W.Sink (first ++ (point ++ (shown ++ codes "\n"))) c.in_err-write_all.ensures.printed) in
    search rules

pub returns-in_err-write_number : goal.returns-in_err-write_number
returns-in_err-write_number g c =
    let line = mount_line_of c.args.line.now in
    let digits : c.as_bytes.result.now ≡ decimal c.args.number = search rules in
    let text = mount_text c.as_bytes.result.now c.args.number c.args.place line digits in
    let first : List ℕ = 32 ∷ decimal c.args.place in
    let point = spaced (mount_point_words line.mount_point) in
    let shown = spaced (shown_words line) in
    let front : WroteFront g.W.Sink c.args.sink.now c.write_number.new.sink
    (printed_line c.args.number (mount_line_words (c.args.place, mount_line_of c.args.line.now))) =
    WroteFront-part g.W.Sink (point ++ (shown ++ codes "\n")) c.in_ok-write_all.ensures.printed c.in_err-write_number.ensures.printed (sym text) in
    search rules

pub returns-in_err-write_mount_point : goal.returns-in_err-write_mount_point
returns-in_err-write_mount_point g c =
    let line = mount_line_of c.args.line.now in
    let digits : c.as_bytes.result.now ≡ decimal c.args.number = search rules in
    let text = mount_text c.as_bytes.result.now c.args.number c.args.place line digits in
    let first : List ℕ = 32 ∷ decimal c.args.place in
    let point = spaced (mount_point_words line.mount_point) in
    let shown = spaced (shown_words line) in
    let before = Wrote-append g.W.Sink c.in_ok-write_all.ensures.printed c.in_ok-write_number.ensures.printed in
    let front : WroteFront g.W.Sink c.args.sink.now c.write_mount_point.new.sink
    (printed_line c.args.number (mount_line_words (c.args.place, mount_line_of c.args.line.now))) =
    WroteFront-part g.W.Sink (shown ++ codes "\n") before c.in_err-write_mount_point.ensures.printed
    (append_assoc c.as_bytes.result.now first (point ++ (shown ++ codes "\n")) ∙ sym text) in
    search rules

pub returns-in_err-write_shown : goal.returns-in_err-write_shown
returns-in_err-write_shown g c =
    let line = mount_line_of c.args.line.now in
    let digits : c.as_bytes.result.now ≡ decimal c.args.number = search rules in
    let text = mount_text c.as_bytes.result.now c.args.number c.args.place line digits in
    let first : List ℕ = 32 ∷ decimal c.args.place in
    let point = spaced (mount_point_words line.mount_point) in
    let shown = spaced (shown_words line) in
    let before = Wrote-append g.W.Sink
    (Wrote-append g.W.Sink c.in_ok-write_all.ensures.printed c.in_ok-write_number.ensures.printed)
    c.in_ok-write_mount_point.ensures.printed in
    let front : WroteFront g.W.Sink c.args.sink.now c.write_shown.new.sink
    (printed_line c.args.number (mount_line_words (c.args.place, mount_line_of c.args.line.now))) =
    WroteFront-part g.W.Sink (codes "\n") before c.in_err-write_shown.ensures.printed
    (append_assoc (c.as_bytes.result.now ++ first) point (shown ++ codes "\n")
    ∙ append_assoc c.as_bytes.result.now first (point ++ (shown ++ codes "\n")) ∙ sym text) in
    search rules

pub returns : goal.returns
returns g c =
    let line = mount_line_of c.args.line.now in
    let digits : c.as_bytes.result.now ≡ decimal c.args.number = search rules in
    let text = mount_text c.as_bytes.result.now c.args.number c.args.place line digits in
    let first : List ℕ = 32 ∷ decimal c.args.place in
    let point = spaced (mount_point_words line.mount_point) in
    let shown = spaced (shown_words line) in
    let before = Wrote-append g.W.Sink (Wrote-append g.W.Sink (Wrote-append g.W.Sink c.in_ok-write_all.ensures.printed c.in_ok-write_number.ensures.printed)
    c.in_ok-write_mount_point.ensures.printed) c.in_ok-write_shown.ensures.printed in
    let whole = append_assoc ((c.as_bytes.result.now ++ first) ++ point) shown (codes "\n")
    ∙ append_assoc (c.as_bytes.result.now ++ first) point (shown ++ codes "\n")
    ∙ append_assoc c.as_bytes.result.now first (point ++ (shown ++ codes "\n")) ∙ sym text in
    record {
      printed = subst (λ text. Prints g.W.Sink text c.write_all-2.result c.args.sink.now c.write_all-2.new.sink) whole
          (Prints-append g.W.Sink c.write_all-2.new.sink (codes "\n") c.write_all-2.result before c.write_all-2.ensures.printed);
    }
