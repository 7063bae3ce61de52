use Rattle.std.proofs.Common.{subst, sym}
use Rattle.vt_copyup.specs.Plans.{CopiesAreThere}
use Rattle.vt_copyup.proofs.Changed.{nothing_changes}
use Rattle.vt_copyup.proofs.Stepping.{none_made}
use Rattle.vt_location.specs.declared.numbers.FilesystemId.{FilesystemId}
use Rattle.vt_upper.specs.New.{IsNameGone, IsNameReady}
use Rattle.vt_upper.proofs.making.Place.leave.Goals as goal

pub leave-requires : goal.leave-requires
leave-requires c = subst (λ p. IsNameReady p c.args.name.now c.args.trees.now c.args.births.now c.args.room.now)
    c.in-There.is c.requires

pub returns-in-There : goal.returns-in-There
returns-in-There c =
    subst (λ p. IsNameGone p c.args.name.now c.args.trees.now
    c.args.births.now c.leave.new.trees c.args.births.now) (sym c.in-There.is)
    (record {
      between = c.args.trees.now;
      directory = c.in-There.spot.directory;
      made = none_made c.in-There.spot.directory c.args.trees.now c.args.births.now;
      removing = c.leave.ensures;
      there = λ copies. copies;
    })

pub apply-requires : goal.apply-requires
apply-requires c = (subst (λ p. IsNameReady p c.args.name.now c.args.trees.now c.args.births.now c.args.room.now)
    c.in-Copied.is c.requires).0

pub returns-in-Copied : goal.returns-in-Copied
returns-in-Copied c =
    let made = c.apply in
    subst (λ p. IsNameGone p c.args.name.now c.args.trees.now
    c.args.births.now made.new.trees made.new.births) (sym c.in-Copied.is)
    (record {
      between = made.new.trees;
      directory = made.result;
      made = made.ensures.made;
      removing = nothing_changes c.in-Copied.copies.directory.filesystem.count made.new.trees;
      there = λ copies. subst (λ (id : FilesystemId). CopiesAreThere made.new.trees id.count made.new.births)
          made.ensures.filesystem made.ensures.there;
    })
