use Rattle.std.proofs.Common.{List, [], ap, arith, length, map, subst, sym, ◌++◌, ◌∙◌, ◌∷◌, append-nil, append_assoc, length-append}
use Rattle.vt_spec.proofs.Common.{nil_from_length}
use Rattle.vt_mount.specs.declared.moving.NewPoint.{NewPoint}
use Rattle.vt_mount.specs.Reserved.{Reserves, moved_places}
use Rattle.vt_mount.specs.Moving.{all_moves, move_of, moved_to, moves_by, with_points}
use Rattle.vt_mount.specs.MountsValue.{entries_of}
use Rattle.vt_mount.proofs.ReservedLemmas.{reserves-first, moved_places-last}
use Rattle.vt_mount.proofs.moving.move_all.Goals as goal

pub move_one-requires-clause-reserves : goal.move_one-requires-clause-reserves
move_one-requires-clause-reserves c =
    let point = c.in-Some.point.now in
    let later = c.next.new.self.iter.rest.now in
    reserves-first c.loop-point.indexes [] [] (point.place ∷ []) (moved_places later ++ [])
    (subst (λ (places : List _). Reserves c.loop-point.indexes [] (places ++ []))
    (ap moved_places c.in-Some.ensures.steps ∙ moved_places-last later point) (c.loop-point.invariant.6 [] []
    (subst (Reserves c.args.indexes.now []) (sym (append-nil (moved_places c.args.points.now))) c.requires.reserves)))

pub move_one-requires-clause-room : goal.move_one-requires-clause-room
move_one-requires-clause-room c =
    let room = c.loop-point.invariant.7 in
    let longer = ap length c.in-Some.ensures.steps
    ∙ length-append c.next.new.self.iter.rest.now (c.in-Some.point.now ∷ []) in
    omega (arith, room, longer)

pub loop-point-preserved : goal.loop-point-preserved
loop-point-preserved c =
    let point = c.in-Some.point.now in
    let later = c.next.new.self.iter.rest.now in
    let so_far = c.loop-point.invariant in
    let back = so_far.0 in
    let entries = entries_of c.args.by_number.now.entries in
    let room = so_far.7 in
    let longer = ap length c.in-Some.ensures.steps ∙ length-append later (point ∷ []) in
    let one = c.move_one.ensures.room in
    let kept = c.move_one.ensures.capacity in (
      point ∷ back,
      so_far.1 ∙ ap (λ (rest : List NewPoint). rest ++ back) c.in-Some.ensures.steps
          ∙ append_assoc later (point ∷ []) back,
      c.move_one.ensures.mounts ∙ ap (moved_to point) so_far.2,
      c.move_one.ensures.indexed,
      c.move_one.ensures.moves ∙ (λ i. so_far.4 i ++ moves_by point (so_far.2 i))
          ∙ append_assoc (map move_of c.args.moved.now.items) (all_moves back entries)
          (moves_by point (with_points back entries)),
      λ small. c.move_one.ensures.small (so_far.5 small),
      λ namespaces places has. c.move_one.ensures.reserves namespaces (moved_places later ++ places)
          (subst (λ (first : List _). Reserves c.loop-point.indexes namespaces (first ++ places))
          (ap moved_places c.in-Some.ensures.steps ∙ moved_places-last later point) (so_far.6 namespaces places has)),
      omega (arith, room, longer, one, kept),
      c.move_one.ensures.spare ∙ so_far.8,
    )

pub returns-clause-reserves : goal.returns-clause-reserves
returns-clause-reserves c namespaces places has =
    subst (λ (rest : List NewPoint). Reserves c.loop-point.indexes namespaces (moved_places rest ++ places))
    (nil_from_length _ c.in-None.ensures.steps.0) (c.loop-point.invariant.6 namespaces places has)
