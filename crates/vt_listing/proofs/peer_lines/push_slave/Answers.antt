use Rattle.std.proofs.Common.{ap, map, sym, ◌∙◌, ◌++◌, []}
use Rattle.vt_spec.proofs.Common.{cons_option, on_ok_weaker}
use Rattle.vt_location.specs.declared.mounts.Propagation.{Propagation}
use Rattle.vt_location.specs.MountValue.{propagation_of}
use Rattle.vt_location.specs.Numbers.{counted}
use Rattle.vt_group.specs.Sets.{same_group}
use Rattle.vt_request.specs.Answers.{mount_place_of}
use Rattle.vt_listing.specs.GroupsListed.{slave_place, under}
use Rattle.vt_listing.proofs.ListedPeers.{added_under}
use Rattle.vt_listing.proofs.peer_lines.push_slave.Goals as goal

pub returns-in-Slave : goal.returns-in-Slave
returns-in-Slave c = on_ok_weaker c.push.result
    (λ pushed group. added_under c.in-Slave.master group c.args.one.at (under same_group group c.args.places.now)
    (under same_group group c.push.new.self) (pushed group)
    ∙ ap (λ (kind : Propagation). map mount_place_of (under same_group group c.args.places.now)
    ++ cons_option (slave_place (counted group.count)
    (c.args.one.at.namespace, c.args.one.at.place, propagation_of kind)) []) (sym c.in-Slave.is)) c.push.ensures
