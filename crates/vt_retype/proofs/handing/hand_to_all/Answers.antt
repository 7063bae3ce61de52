use Rattle.std.proofs.Common.{ap, map, option_map, sym, ◌∙◌}
use Rattle.vt_location.specs.Numbers.{counted, group_number}
use Rattle.vt_retype.specs.Leaving.{after_end_of}
use Rattle.vt_retype.proofs.TypesHanded.{handed_next, none_handed}
use Rattle.vt_retype.proofs.handing.hand_to_all.Goals as goal

pub loop-id-preserved : goal.loop-id-preserved
loop-id-preserved c =
    let lost = counted c.args.lost.count in
    let heir = option_map group_number c.args.heir in
    ap (map (after_end_of (map (λ id. counted id.count) c.next.new.self) lost heir)) c.hand_to.ensures
    ∙ handed_next (map (λ id. counted id.count) c.next.new.self) lost heir (counted c.in-Some.id.count) c.loop-id.mounts
    ∙ ap (λ ids. map (after_end_of (map (λ id. counted id.count) ids) lost heir) c.loop-id.mounts)
    (sym c.in-Some.ensures.steps) ∙ c.loop-id.invariant

pub returns : goal.returns
returns c =
    let lost = counted c.args.lost.count in
    let heir = option_map group_number c.args.heir in
    none_handed lost heir c.loop-id.mounts
    ∙ ap (λ ids. map (after_end_of (map (λ id. counted id.count) ids) lost heir) c.loop-id.mounts)
    (sym c.in-None.ensures.steps.0) ∙ c.loop-id.invariant
    ∙ ap (λ ids. map (after_end_of (map (λ id. counted id.count) ids) lost heir) c.args.mounts.now)
    c.into_iter-id-iterator.ensures.into_iter_gives
