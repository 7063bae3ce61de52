use Rattle.std.proofs.Common.{ap, nat_eq, rules, ◌∙◌, ℕ, flat_map, take_all}
use Rattle.vt_spec.proofs.Common.{Propagation, each_once, groups_in_type}
use Rattle.vt_listing.specs.Shown.{world_shown}
use Rattle.vt_listing.specs.GroupsListed.{all_seen}
use Rattle.vt_listing.proofs.ListedPeers.{next_kind}
use Rattle.vt_listing.proofs.table.MountTable.groups_of.Goals as goal

pub loop-one-preserved : goal.loop-one-preserved
loop-one-preserved c = c.in_ok-see_type.ensures.ok _ c.loop-one.invariant ∙ ap (each_once nat_eq)
    (next_kind (λ (one : ℕ × ℕ × Propagation ℕ). groups_in_type
    (world_shown c.args.self.now) one.2) c.loop-one.one-index _ c.args.placed.now
    (let more = c.loop-one-test.true in search rules))

pub returns : goal.returns
returns c = record {
  ok = c.loop-one.invariant
      ∙ ap (λ some. each_once nat_eq (flat_map (λ one. groups_in_type (world_shown c.args.self.now) one.2) (all_seen some)))
      (take_all c.loop-one.one-index c.args.placed.now (let done = c.loop-one-test.false in search rules));
}
