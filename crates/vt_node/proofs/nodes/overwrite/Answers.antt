use Rattle.std.proofs.Common.{◌≡◌, ◌-◌, ◌++◌, ap, arith, length, replicate, take, vec_len, ◌∙◌}
use Rattle.vt_node.proofs.ByteLemmas.{overwritten-in_place}
use Rattle.vt_node.proofs.nodes.overwrite.Goals as goal

-- zeros up to the new end, and the bytes in their place
pub returns-clause-ok : goal.returns-clause-ok
returns-clause-ok c =
    let counted : vec_len c.args.old.now ≡ length c.args.old.now.items = c.args.old.now.ok.0 in
    overwritten-in_place c.args.old.now.items c.args.bytes.now c.deref_mut.result.now c.copy_from_slice.new.self _ c.args.offset c.max-longer.result c.resize.new.self.len
    (omega (arith, counted, c.max-longer.ensures, c.len.ensures))
    (c.deref_mut.ensures.value ∙ c.in_ok-resize.ensures.items
    ∙ ap (λ n. take c.max-longer.result c.args.old.now.items ++ replicate (c.max-longer.result - n) 0) counted)
    c.copy_from_slice.ensures.after c.deref_mut.ensures.len c.in_ok-resize.ensures.len
