use Rattle.std.proofs.Common.{rules, arith, ap, length, None, reverse, subst, sym, take, ◌≡◌, ◌<◌, ◌≤◌, ◌+◌, ◌-◌, ◌∙◌, ◌++◌, ◌∷◌, []}
use Rattle.vt_spec.proofs.Common.{nat_tests, reverse-append}
use Rattle.vt_spec.specs.Machine.Layers.{at_path}
use Rattle.vt_location.specs.Locations.{inode_of}
use Rattle.vt_overlay.specs.Merge.LayerValue.{opened}
use Rattle.vt_copyup.specs.declared.plans.Piece.{Piece}
use Rattle.vt_copyup.proofs.Pieces.{SoFar, so_far_next}
use Rattle.vt_copyup.proofs.Ways.{nowhere_further}
use Rattle.vt_copyup.proofs.planning.pieces_from.Goals as goal

pub copy_at-requires-clause-nowhere : goal.copy_at-requires-clause-nowhere
copy_at-requires-clause-nowhere g c = λ upper top.
    let names = g.W.Way.names c.args.path.now in
    let start = c.args.start in
    let index = c.loop-index.index in
    let test : start < index = c.loop-index-test.true in
    let few : index ≤ length names = c.loop-index.invariant.few in
    let less : start < length names = omega (arith, test, few) in
    let within : (start + 1) + (index - 1 - start) ≤ length names = omega (arith, test, few) in
    let same : (start + 1) + (index - 1 - start) ≡ index - 1 + 1 = omega (arith, test) in
    subst (λ n. at_path (opened c.args.source.trees.now upper.directory) (take n names) ≡ None) same
    (nowhere_further (opened c.args.source.trees.now upper.directory).tree (inode_of upper.directory) names (start + 1)
    (index - 1 - start) within (c.requires.nowhere upper top less))

pub loop-index-preserved : goal.loop-index-preserved
loop-index-preserved g c =
    let names = g.W.Way.names c.args.path.now in
    let start = c.args.start in
    let index = c.loop-index.index in
    let items = c.loop-index.pieces.items in
    let test : start < index = c.loop-index-test.true in
    let less : start ≤ index - 1 = omega (arith, test) in
    let back : index ≡ index - 1 + 1 = omega (arith, test) in
    let so_far = SoFar c.args.source.with_bytes c.args.source.trees.now c.args.source.layers.now c.args.source.overlay names
    start in
    let piece : Piece = record { copy = c.in_ok-copy.copy; room = c.in_ok-room.room } in
    let pushed : c.push.new.self.items ≡ items ++ piece ∷ [] = search rules in
    let turned : reverse c.push.new.self.items ≡ piece ∷ reverse items =
    ap reverse pushed ∙ reverse-append items (piece ∷ []) in
    subst (so_far (index - 1)) (sym turned)
    (so_far_next c.args.source.with_bytes c.args.source.trees.now c.args.source.layers.now c.args.source.overlay names
    start c.requires.layers (index - 1) (reverse items) piece
    (subst (λ n. so_far n (reverse items)) back c.loop-index.invariant) less c.in_ok-copy.ensures.copy c.in_ok-copy.ensures.name
    (λ more. c.in_ok-room.ensures (grind (arith, nat_tests))))
