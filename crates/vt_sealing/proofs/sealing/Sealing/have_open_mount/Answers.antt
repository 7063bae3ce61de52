use Rattle.std.proofs.Common.{Bool, find, nat_eq, rules, ◌&&◌, ◌∙◌, ℕ}
use Rattle.vt_spec.proofs.Common.{Mount, YieldsList-from_slice, any_from_yields_List, holds_of}
use Rattle.vt_spec.specs.Machine.Sealed.{is_own_mount}
use Rattle.vt_location.specs.declared.numbers.MountId.{MountId}
use Rattle.vt_location.specs.Numbers.{counted}
use Rattle.vt_sealing.specs.Seen.{is_open_through, world_seen}
use Rattle.vt_sealing.proofs.sealing.Sealing.have_open_mount.Goals as goal

pub returns : goal.returns
returns c =
    let names = c.args.self.now.names.now in
    let world = world_seen c.args.self.now in
    let test : Mount ℕ → Bool = λ mount. is_own_mount nat_eq world names mount && is_open_through c.args.self.now mount.filesystem in
    any_from_yields_List (λ (id : MountId).
    holds_of test (find (λ (mount : Mount ℕ). nat_eq (counted id.count) mount.number) world.mounts)) _ _ _
    c.any.ensures.ran (YieldsList-from_slice c.ids.result.now cc) (λ x b q k. search rules)
    ∙ c.ids.ensures test
