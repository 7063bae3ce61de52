use Rattle.std.proofs.Common.{[], ap, cond, nat_eq, sym, ◌∙◌, ◌∷◌}
use Rattle.vt_spec.proofs.Common.{mount_at}
use Rattle.vt_location.specs.Locations.{location_of}
use Rattle.vt_world.specs.WorldValue.{world_of}
use Rattle.vt_changes.proofs.Changing.{changed_in}
use Rattle.vt_changes.proofs.changed.changed_at.Goals as goal

pub returns-then-is_overlay : goal.returns-then-is_overlay
returns-then-is_overlay c =
    let number = (mount_at nat_eq (world_of c.args.world.now) (location_of c.args.at)).filesystem in
    sym (changed_in c.args.world.now c.requires (location_of c.args.at)
    ∙ ap (λ b. cond b [] (number ∷ [])) (sym c.is_overlay.ensures ∙ c.if-is_overlay.true))

pub returns : goal.returns
returns c =
    let number = (mount_at nat_eq (world_of c.args.world.now) (location_of c.args.at)).filesystem in
    ap (λ n. n ∷ []) c.ground.ensures.filesystem ∙ sym (changed_in c.args.world.now c.requires (location_of c.args.at)
    ∙ ap (λ b. cond b [] (number ∷ [])) (sym c.is_overlay.ensures ∙ c.if-is_overlay.false))
