use Rattle.std.proofs.Common.{◌-◌, List, Option, Some, ap, arith, leb-true, subst, sym, true, ◌<◌, ◌≡◌, ◌∙◌}
use Rattle.vt_location.specs.Numbers.{most_counted}
use Rattle.vt_location.specs.declared.locations.Location.{Location}
use Rattle.vt_mounting.proofs.Common.{Shown, shown}
use Rattle.vt_mounting.specs.Attach.Room.{point_has_room, uses_shown}
use Rattle.vt_mounting.specs.Detach.Uses.{inode_of, pinned_at}
use Rattle.vt_mounting.proofs.detach.CountNoUses.{pin_granted, pins_plain, still_pinned}
use Rattle.vt_mounting.proofs.attach.attaching.pin_point.Goals as goal

few : (all : List Shown) {o : Option Location} (point : Location) → o ≡ Some point
    → point_has_room (most_counted - 1) all o ≡ true → uses_shown (inode_of point.node) all < most_counted
few all point is room =
    let below = leb-true (uses_shown (inode_of point.node) all) (most_counted - 1)
    (subst (λ o. point_has_room (most_counted - 1) all o ≡ true) is room) in
    omega (arith, below)

pub returns-in-Some-clause-uses : goal.returns-in-Some-clause-uses
returns-in-Some-clause-uses c =
    let store = c.args.store.now in
    let node = c.in-Some.point.node in
    (pins_plain store c.requires.none node c.pin.new.self (pin_granted store c.requires.none node c.pin.result
    c.pin.new.self (few (shown store.plain) c.in-Some.point c.in-Some.is c.requires.room) c.pin.ensures.limit.0
    c.pin.ensures.ok)).0 ∙ ap (λ o. pinned_at o (shown store.plain)) (sym c.in-Some.is)

pub returns-in-Some-clause-overlays : goal.returns-in-Some-clause-overlays
returns-in-Some-clause-overlays c =
    let store = c.args.store.now in
    let node = c.in-Some.point.node in
    (pins_plain store c.requires.none node c.pin.new.self (pin_granted store c.requires.none node c.pin.result
    c.pin.new.self (few (shown store.plain) c.in-Some.point c.in-Some.is c.requires.room) c.pin.ensures.limit.0
    c.pin.ensures.ok)).1

pub returns-in-Some-clause-still : goal.returns-in-Some-clause-still
returns-in-Some-clause-still c =
    let store = c.args.store.now in
    let node = c.in-Some.point.node in
    still_pinned store c.requires.none node c.pin.new.self (pin_granted store c.requires.none node c.pin.result
    c.pin.new.self (few (shown store.plain) c.in-Some.point c.in-Some.is c.requires.room) c.pin.ensures.limit.0
    c.pin.ensures.ok)
