use Rattle.std.proofs.Common.{Bool, find, nat_eq, rules, sym, ◌&&◌, ◌∙◌, ℕ}
use Rattle.vt_spec.proofs.Common.{Mount, YieldsList-from_slice, any_from_yields_List, holds_of}
use Rattle.vt_spec.specs.Machine.Sealed.{share_events}
use Rattle.vt_location.specs.declared.numbers.MountId.{MountId}
use Rattle.vt_location.specs.MountValue.{mount_of}
use Rattle.vt_location.specs.Numbers.{counted}
use Rattle.vt_sealing.specs.Seen.{is_other_mount, world_seen}
use Rattle.vt_sealing.proofs.Lists.{some_passing}
use Rattle.vt_sealing.proofs.sealing.Sealing.shares_with_others.Goals as goal

pub returns : goal.returns
returns c =
    let names = c.args.self.now.names.now in
    let world = world_seen c.args.self.now in
    let own = mount_of c.args.own.now in
    let test : Mount ℕ → Bool = λ mount. is_other_mount world names mount && share_events nat_eq world own mount in
    any_from_yields_List (λ (id : MountId).
    holds_of test (find (λ (mount : Mount ℕ). nat_eq (counted id.count) mount.number) world.mounts)) _ _ _
    c.any.ensures.ran (YieldsList-from_slice c.ids.result.now cc) (λ x b q k. search rules)
    ∙ c.ids.ensures test
    ∙ sym (some_passing (is_other_mount world names) (share_events nat_eq world own) world.mounts)
