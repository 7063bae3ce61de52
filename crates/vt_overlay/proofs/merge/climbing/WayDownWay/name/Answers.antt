use Rattle.std.proofs.Common.{Some, [], ap, arith, length, sym, true≢false, ◌-◌, ◌<◌, ◌≡◌, ◌∙◌, is_some, option_copied, slice_get, unwrap_or}
use Rattle.vt_fs.specs.Trees.TreeValue.{tree_of}
use Rattle.vt_overlay.proofs.merge.GoingUp.{length-names_up, name_at}
use Rattle.vt_overlay.proofs.merge.climbing.WayDownWay.name.Goals as goal

pub overflow_sub-self-inside-2 : goal.overflow_sub-self-inside-2
overflow_sub-self-inside-2 c =
    let within = c.requires in
    let many : length c.args.self.now ≡ c.self.inside.len = sym (ap length c.self.view_is)
    ∙ length-names_up (tree_of c.self.inside.tree.now) c.self.inside.len c.self.inside.directory in
    omega (arith, within, many)

pub name_climbed-requires : goal.name_climbed-requires
name_climbed-requires c = c.self.invariant.once

pub returns : goal.returns
returns c =
    let within = c.requires in
    let tree = tree_of c.self.inside.tree.now in
    let many : length c.args.self.now ≡ c.self.inside.len =
    sym (ap length c.self.view_is) ∙ length-names_up tree c.self.inside.len c.self.inside.directory in
    ap (λ names. slice_get names c.args.index) (sym c.self.view_is)
    ∙ name_at tree c.self.inside.directory (c.self.inside.len - 1 - c.args.index) c.args.index c.self.inside.len
    (omega (arith, within, many))
    ∙ ap (λ o. Some (unwrap_or o [])) (sym c.name_climbed.ensures ∙ ap option_copied c.in-Some.is)

pub unreachable-requires : goal.unreachable-requires
unreachable-requires c =
    let within = c.requires in
    let tree = tree_of c.self.inside.tree.now in
    let many : length c.args.self.now ≡ c.self.inside.len =
    sym (ap length c.self.view_is) ∙ length-names_up tree c.self.inside.len c.self.inside.directory in
    let steps : c.self.inside.len - 1 - c.args.index < c.self.inside.len = omega (arith, within, many) in
    true≢false (sym (c.self.invariant.named (c.self.inside.len - 1 - c.args.index) steps)
    ∙ ap is_some (sym c.name_climbed.ensures ∙ ap option_copied c.in-None.is))
