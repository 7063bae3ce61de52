use Rattle.vt_spec.proofs.Common.{OnOk_then}
use Rattle.vt_mounting.proofs.attach.OpeningLemmas.{first_made}
use Rattle.vt_ns.proofs.opening.add_first.Goals as goal

pub returns : goal.returns
returns c =
    let made = c.in_ok-add.ensures.ok in
    OnOk_then c.pin-3.result (first_made c.args.filesystem.count made.0 c.root_attr.result
    c.args.filesystems.now c.add.new.self c.hold_mount.new.self c.pin.new.self c.pin-2.new.self c.pin-3.new.self
    c.root_attr.ensures c.requires made.1 made.2 c.in_ok-hold_mount.ensures.ok
    c.in_ok-pin.ensures.ok c.in_ok-pin-2.ensures.ok) c.pin-3.ensures.ok
