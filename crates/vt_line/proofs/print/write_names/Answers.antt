use Rattle.std.proofs.Common.{◌∷◌, ap, ◌∙◌, ℕ, rules}
use Rattle.vt_spec.proofs.Common.{printed_text}
use Rattle.std.specs.Global.{Vec}
use Rattle.vt_io.specs.Sink.{WroteFront}
use Rattle.vt_io.proofs.Printing.{WroteFront-append, WroteFront-longer, WroteFront-item}
use Rattle.vt_line.specs.Printing.{printed_names}
use Rattle.vt_line.proofs.print.write_names.Goals as goal

pub returns-in_err-write_all : goal.returns-in_err-write_all
returns-in_err-write_all g c =
    let name = c.name-item.result in
    let space = WroteFront-longer g.W.Sink (printed_text name.items) c.in_err-write_all.ensures.printed in
    let front : WroteFront g.W.Sink c.args.sink.now c.write_all.new.sink (printed_names c.args.names.now) =
    WroteFront-item g.W.Sink (λ (name : Vec ℕ). 32 ∷ printed_text name.items) c.args.names.now c.loop-name.name-index name c.loop-name.invariant c.loop-name-test.true space (ap (λ (name : Vec ℕ). 32 ∷ printed_text name.items) c.name-item.is) in
    search rules

pub returns-in_err-write_text : goal.returns-in_err-write_text
returns-in_err-write_text g c =
    let name = c.name-item.result in
    let part = WroteFront-append g.W.Sink c.in_ok-write_all.ensures.printed c.in_err-write_text.ensures.printed in
    let front : WroteFront g.W.Sink c.args.sink.now c.write_text.new.sink (printed_names c.args.names.now) =
    WroteFront-item g.W.Sink (λ (name : Vec ℕ). 32 ∷ printed_text name.items) c.args.names.now c.loop-name.name-index name c.loop-name.invariant c.loop-name-test.true part (ap (λ text. 32 ∷ printed_text text) c.deref.ensures.value ∙ ap (λ (name : Vec ℕ). 32 ∷ printed_text name.items) c.name-item.is) in
    search rules
