use Rattle.std.proofs.Common.{ap, map, rules, ◌∙◌, filter_map, take_all}
use Rattle.vt_location.specs.Numbers.{counted}
use Rattle.vt_request.specs.Answers.{mount_place_of}
use Rattle.vt_listing.specs.declared.peer_lines.Placed.{Placed}
use Rattle.vt_listing.specs.GroupsListed.{member_place, placed_seen}
use Rattle.vt_listing.proofs.ListedPeers.{filter_map_map, pushed_next}
use Rattle.vt_listing.proofs.peer_lines.members.Goals as goal

pub loop-one-init : goal.loop-one-init
loop-one-init c group = ap (map mount_place_of) (c.new-places.ensures group)

pub loop-one-preserved : goal.loop-one-preserved
loop-one-preserved c group =
    pushed_next (λ (one : Placed). member_place (counted group.count) (placed_seen one)) c.loop-one.one-index _
    c.args.placed.now (let more = c.loop-one-test.true in search rules) _ _ (c.loop-one.invariant group)
    (c.in_ok-push_member.ensures group)

pub returns : goal.returns
returns c group = c.loop-one.invariant group
    ∙ ap (filter_map (λ (one : Placed). member_place (counted group.count) (placed_seen one)))
    (take_all c.loop-one.one-index c.args.placed.now (let done = c.loop-one-test.false in search rules))
    ∙ filter_map_map (member_place (counted group.count)) placed_seen c.args.placed.now
