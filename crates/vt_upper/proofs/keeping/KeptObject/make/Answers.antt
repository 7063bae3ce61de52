use Rattle.std.proofs.Common.{refl, subst, sym}
use Rattle.vt_upper.specs.KeptChanges.{IsKeptMade, IsKeptReady}
use Rattle.vt_upper.proofs.keeping.KeptObject.make.Goals as goal

pub returns-in-There : goal.returns-in-There
returns-in-There c =
    subst (λ kept. IsKeptMade kept c.args.trees.now c.args.births.now c.args.trees.now c.args.births.now
    c.in-There.object) (sym c.in-There.is) (record { object_is = refl; trees_stay = refl; births_stay = refl })

pub apply-requires-clause-there : goal.apply-requires-clause-there
apply-requires-clause-there c =
    (subst (λ kept. IsKeptReady kept c.args.trees.now c.args.births.now) c.in-Copied.is c.requires).there

pub apply-requires-clause-inode : goal.apply-requires-clause-inode
apply-requires-clause-inode c =
    (subst (λ kept. IsKeptReady kept c.args.trees.now c.args.births.now) c.in-Copied.is c.requires).inode

pub apply-requires-clause-birth : goal.apply-requires-clause-birth
apply-requires-clause-birth c =
    (subst (λ kept. IsKeptReady kept c.args.trees.now c.args.births.now) c.in-Copied.is c.requires).birth

pub apply-requires-clause-below : goal.apply-requires-clause-below
apply-requires-clause-below c =
    (subst (λ kept. IsKeptReady kept c.args.trees.now c.args.births.now) c.in-Copied.is c.requires).below

pub apply-requires-clause-new : goal.apply-requires-clause-new
apply-requires-clause-new c =
    (subst (λ kept. IsKeptReady kept c.args.trees.now c.args.births.now) c.in-Copied.is c.requires).new

pub returns-in-Copied : goal.returns-in-Copied
returns-in-Copied c =
    subst (λ kept. IsKeptMade kept c.args.trees.now c.args.births.now c.apply.new.trees c.apply.new.births
    c.apply.result) (sym c.in-Copied.is) (record {
      made = c.apply.ensures.made;
      vacant = c.apply.ensures.vacant;
      filesystem = c.apply.ensures.filesystem;
      nodes = c.apply.ensures.nodes;
      slots = c.apply.ensures.slots;
      inodes_left = c.apply.ensures.inodes_left;
      births_left = c.apply.ensures.births_left;
    })
