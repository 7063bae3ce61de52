use Rattle.std.proofs.Common.{◌∷◌, ap, ◌∙◌, ℕ, rules, flat_map}
use Rattle.vt_spec.proofs.Common.{printed_byte}
use Rattle.std.specs.Global.{Vec}
use Rattle.vt_io.specs.Sink.{WroteFront}
use Rattle.vt_io.proofs.Printing.{WroteFront-append, WroteFront-longer, WroteFront-item}
use Rattle.vt_line.specs.Printing.{printed_steps}
use Rattle.vt_line.proofs.listing.write_steps.Goals as goal

pub returns-in_err-write_all : goal.returns-in_err-write_all
returns-in_err-write_all g c =
    let name = c.name-item.result in
    let slash = WroteFront-longer g.W.Sink (flat_map printed_byte name.items) c.in_err-write_all.ensures.printed in
    let front : WroteFront g.W.Sink c.args.sink.now c.write_all.new.sink (printed_steps c.args.names.now) =
    WroteFront-item g.W.Sink (λ (name : Vec ℕ). 47 ∷ flat_map printed_byte name.items) c.args.names.now c.loop-name.name-index name c.loop-name.invariant c.loop-name-test.true slash (ap (λ (name : Vec ℕ). 47 ∷ flat_map printed_byte name.items) c.name-item.is) in
    search rules

pub returns-in_err-write_bytes : goal.returns-in_err-write_bytes
returns-in_err-write_bytes g c =
    let name = c.name-item.result in
    let part = WroteFront-append g.W.Sink c.in_ok-write_all.ensures.printed c.in_err-write_bytes.ensures.printed in
    let front : WroteFront g.W.Sink c.args.sink.now c.write_bytes.new.sink (printed_steps c.args.names.now) =
    WroteFront-item g.W.Sink (λ (name : Vec ℕ). 47 ∷ flat_map printed_byte name.items) c.args.names.now c.loop-name.name-index name c.loop-name.invariant c.loop-name-test.true part (ap (λ text. 47 ∷ flat_map printed_byte text) c.deref.ensures.value ∙ ap (λ (name : Vec ℕ). 47 ∷ flat_map printed_byte name.items) c.name-item.is) in
    search rules
