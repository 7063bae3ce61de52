use Rattle.std.proofs.Common.{ap, arith, drop, length, length-append, take, ◌++◌, ◌∙◌, take-append-drop}
use Rattle.vt_spec.proofs.Common.{list_any}
use Rattle.vt_group.proofs.names.NamesLemmas.{all_of_both, any_turned}
use Rattle.vt_group.proofs.names.turn.Goals as goal

pub returns-clause-kept : goal.returns-clause-kept
returns-clause-kept c test any =
    let list = c.args.list.now in
    let first = c.split_off.new.self in
    let appended = all_of_both c.in-Ok.rest first c.append.new.self c.append.result c.append.ensures.items
    (c.append.ensures.succeeds (omega (
      arith,
      ap length c.in-Ok.ensures.items,
      ap length c.in-Ok.ensures.tail,
      ap length (take-append-drop 1 list),
      length-append (take 1 list) (drop 1 list),
      c.len.ensures.value,
      c.len.ensures.fits,
    ))) in
    ap (list_any test) (appended ∙ (λ i. c.in-Ok.ensures.tail i ++ c.in-Ok.ensures.items i)) ∙ any_turned test list any
