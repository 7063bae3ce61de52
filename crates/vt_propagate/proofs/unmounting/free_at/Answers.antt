use Rattle.std.proofs.Common.{◌≡◌, ◌∙◌, ap, cond, Some, None, option_map, Bool, true, false, refl, sym, eqb-true}
use Rattle.std.specs.Bool.{then_some}
use Rattle.vt_location.specs.Locations.{location_of}
use Rattle.vt_location.specs.Numbers.{counted}
use Rattle.vt_location.specs.declared.numbers.MountId.{MountId}
use Rattle.vt_mount.specs.MountsValue.{mounts_in}
use Rattle.vt_propagate.proofs.Leaving.{free-childless, free_at-told}
use Rattle.vt_propagate.proofs.unmounting.free_at.Goals as goal

taken : (b : Bool) (id : MountId)
    → option_map (λ (id : MountId). counted id.count) (then_some b id) ≡ cond b (Some (counted id.count)) None
taken true id = refl
taken false id = refl

pub returns-then-is_empty : goal.returns-then-is_empty
returns-then-is_empty c =
    let mounts = mounts_in c.args.mounts.now in
    let number = counted c.in_ok-child.child.count in
    free_at-told mounts c.in_ok-child.ensures.order (location_of c.args.place) c.in_ok-child.ensures.child
    (free-childless mounts c.in_ok-child.ensures.order (location_of c.args.place) c.in_ok-child.ensures.child
    c.children.result.now c.children.ensures.children (eqb-true _ _ (sym c.is_empty.ensures ∙ c.if-is_empty.true)))

pub returns : goal.returns
returns c = ap (option_map (λ (id : MountId). counted id.count)) c.then_some.ensures
    ∙ taken c.is_free.result c.in_ok-child.child
    ∙ free_at-told (mounts_in c.args.mounts.now) c.in_ok-child.ensures.order (location_of c.args.place)
    c.in_ok-child.ensures.child c.is_free.ensures
