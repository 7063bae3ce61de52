use Rattle.std.proofs.Common.{Some, ap, map, rules, sym, ◌∙◌, filter_map, take_all}
use Rattle.vt_location.specs.declared.numbers.GroupId.{GroupId}
use Rattle.vt_spec.specs.Language.Answers as answers
use Rattle.vt_mount.proofs.AttachedLemmas.{next_made}
use Rattle.vt_listing.specs.Shown.{world_shown}
use Rattle.vt_listing.specs.GroupsListed.{group_numbers, line_by}
use Rattle.vt_request.specs.Answers.{peer_line_of}
use Rattle.vt_listing.proofs.ListedPeers.{all_some}
use Rattle.vt_listing.proofs.table.MountTable.lines_of.Goals as goal

pub loop-group-preserved : goal.loop-group-preserved
loop-group-preserved c =
    let line : GroupId → answers.PeerLine = line_by (world_shown c.args.self.now) (group_numbers c.args.groups.now.keys)
    c.args.members.now c.args.slaves.now in
    ap (map peer_line_of) (let pushed = c.in_ok-push.ensures in search rules)
    ∙ next_made peer_line_of (λ (group : GroupId). Some (line group)) c.loop-group.group-index _
    c.as_slice-group-items.result.now (let more = c.loop-group-test.true in search rules) c.loop-group.lines.items
    c.loop-group.invariant c.in_ok-line.line (ap Some (sym c.in_ok-line.ensures))

pub returns : goal.returns
returns c = record {
  ok = let line : GroupId → answers.PeerLine = line_by (world_shown c.args.self.now) (group_numbers c.args.groups.now.keys)
      c.args.members.now c.args.slaves.now in
      c.loop-group.invariant ∙ ap (filter_map (λ (group : GroupId). Some (line group)))
      (take_all c.loop-group.group-index c.as_slice-group-items.result.now
      (let done = c.loop-group-test.false in search rules) ∙ c.as_slice-group-items.ensures.keys)
      ∙ all_some line c.args.groups.now.keys;
}
