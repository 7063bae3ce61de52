use Rattle.std.proofs.Common.{ap, arith, map, rules, ◌∙◌, take_all}
use Rattle.vt_location.specs.Numbers.{counted}
use Rattle.vt_listing.specs.Shown.{world_shown}
use Rattle.vt_listing.specs.GroupsListed.{placed_from}
use Rattle.vt_listing.proofs.ListedPeers.{next_placed}
use Rattle.vt_listing.proofs.table.MountTable.placed.Goals as goal

pub loop-namespace-preserved : goal.loop-namespace-preserved
loop-namespace-preserved c = (
  omega (arith, c.loop-namespace.invariant.0),
  next_placed (world_shown c.args.self.now) c.loop-namespace.namespace-index c.loop-namespace.number _ c.args.namespaces.now
      (let more = c.loop-namespace-test.true in search rules) c.loop-namespace.invariant.0 _ _
      c.in_ok-push_placed.ensures.ok c.loop-namespace.invariant.1,
)

pub returns : goal.returns
returns c = record {
  ok = c.loop-namespace.invariant.1
      ∙ ap (λ ids. placed_from (world_shown c.args.self.now) 1 (map (λ id. counted id.count) ids))
      (take_all c.loop-namespace.namespace-index c.args.namespaces.now
      (let done = c.loop-namespace-test.false in search rules));
}
