use Rattle.std.proofs.Common.{◌∙◌, ap, arith, option_map, nat_eq, ℕ}
use Rattle.vt_spec.proofs.Common.{Mount, child_at, root_of}
use Rattle.vt_location.specs.declared.numbers.MountId.{MountId}
use Rattle.vt_location.specs.MountValue.{mount_of}
use Rattle.vt_location.specs.Numbers.{counted}
use Rattle.vt_mount.specs.MountsValue.{mounts_in}
use Rattle.vt_propagate.proofs.Leaving.{free-many, free-none, free-one, is_some-same}
use Rattle.vt_propagate.proofs.unmounting.is_free.Goals as goal

pub returns-in-0 : goal.returns-in-0
returns-in-0 c =
    free-none (mounts_in c.args.mounts.now) (counted c.args.id.count) c.in-Some.ensures c.children.result.now
    c.children.ensures.children c.in-0.is

pub returns-in-1 : goal.returns-in-1
returns-in-1 c =
    let mounts = mounts_in c.args.mounts.now in
    c.is_some.ensures ∙ is_some-same (λ (id : MountId). counted id.count) (λ (m : Mount ℕ). m.number) c.child_at.result
    (child_at nat_eq mounts (root_of (mount_of c.in-Some.mount))) (c.child_at.ensures.child ∙ ap (λ place.
    option_map (λ (m : Mount ℕ). m.number) (child_at nat_eq mounts place)) c.root_location.ensures)
    ∙ free-one mounts (counted c.args.id.count) c.in-Some.ensures c.children.result.now c.children.ensures.children
    c.in-1.is

pub returns-in_default-len : goal.returns-in_default-len
returns-in_default-len c =
    free-many (mounts_in c.args.mounts.now) (counted c.args.id.count) c.in-Some.ensures c.children.result.now
    c.children.ensures.children (λ e. absurd (omega (arith, e))) (λ e. absurd (omega (arith, e)))
