use Rattle.std.proofs.Common.{ap, rules, ◌∙◌}
use Rattle.vt_listing.specs.GroupsListed.{group_numbers}
use Rattle.vt_listing.proofs.MountLines.{one_more}
use Rattle.vt_listing.proofs.mount_lines.see.Goals as goal

pub returns : goal.returns
returns c = record {
  ok = λ before is. ap group_numbers (let inserted = c.in_ok-insert.ensures.keys in search rules)
      ∙ one_more c.args.seen.now.keys c.args.group before is;
}
