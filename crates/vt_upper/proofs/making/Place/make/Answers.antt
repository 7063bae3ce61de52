use Rattle.std.proofs.Common.{ap, arith, nat_eq, subst, sym, ◌<◌, ◌∙◌}
use Rattle.vt_spec.proofs.Common.{Make}
use Rattle.vt_spec.specs.Inodes.{changed}
use Rattle.vt_copyup.specs.Plans.{CopiesAreThere}
use Rattle.vt_copyup.proofs.Stepping.{none_made}
use Rattle.vt_fs.specs.FilesystemsValue.{ChangesInodes, files_at, inodes_promised}
use Rattle.vt_laws_worlds.specs.Merging.UpperChanges.{copy_node}
use Rattle.vt_location.specs.declared.numbers.FilesystemId.{FilesystemId}
use Rattle.vt_location.specs.Locations.{inode_of}
use Rattle.vt_upper.specs.New.{IsEmptyNode, IsNewMade, IsPlaceReady, made_in_place}
use Rattle.vt_upper.proofs.EmptyCopies.{empty_copy, many_copies}
use Rattle.vt_upper.proofs.making.Place.make.Goals as goal

pub make-requires-clause-name : goal.make-requires-clause-name
make-requires-clause-name c = (subst (λ p. IsPlaceReady p c.args.object.name.items c.args.trees.now
    c.args.births.now c.args.room.now) c.in-There.is c.requires).0

pub make-requires-clause-promised : goal.make-requires-clause-promised
make-requires-clause-promised c = (subst (λ p. IsPlaceReady p c.args.object.name.items c.args.trees.now
    c.args.births.now c.args.room.now) c.in-There.is c.requires).1

pub make-requires-clause-room : goal.make-requires-clause-room
make-requires-clause-room c = (subst (λ p. IsPlaceReady p c.args.object.name.items c.args.trees.now
    c.args.births.now c.args.room.now) c.in-There.is c.requires).2

pub returns-in-There : goal.returns-in-There
returns-in-There c =
    subst (λ p. IsNewMade p (made_in_place p c.args.object.name.items c.args.object.node) c.args.trees.now
    c.args.births.now c.make.new.trees c.args.births.now c.make.result) (sym c.in-There.is)
    (record {
      between = c.args.trees.now;
      directory = c.in-There.spot.directory;
      made = none_made c.in-There.spot.directory c.args.trees.now c.args.births.now;
      making = c.make.ensures.made;
      there = λ copies. copies;
      filesystem = c.make.ensures.filesystem;
      vacant = c.make.ensures.vacant;
    })

pub apply-directory-requires : goal.apply-directory-requires
apply-directory-requires c = (subst (λ p. IsPlaceReady p c.args.object.name.items c.args.trees.now
    c.args.births.now c.args.room.now) c.in-Copied.is c.requires).0

pub make_in_copy-requires-clause-directory : goal.make_in_copy-requires-clause-directory
make_in_copy-requires-clause-directory c =
    let ready = subst (λ p. IsPlaceReady p c.args.object.name.items c.args.trees.now c.args.births.now
    c.args.room.now) c.in-Copied.is c.requires in
    let made = c.apply-directory in
    subst (λ (id : FilesystemId). IsEmptyNode ((files_at made.new.trees id.count).tree.node (inode_of made.result)))
    (sym made.ensures.filesystem)
    (empty_copy c.in-Copied.copies c.args.trees.now c.args.births.now c.args.room.now ready.0 made.new.trees
    made.new.births made.result made.ensures.made ready.2)

pub make_in_copy-requires-clause-promised : goal.make_in_copy-requires-clause-promised
make_in_copy-requires-clause-promised c =
    let ready = subst (λ p. IsPlaceReady p c.args.object.name.items c.args.trees.now c.args.births.now
    c.args.room.now) c.in-Copied.is c.requires in
    let made = c.apply-directory in
    let some : 0 < inodes_promised made.new.trees c.in-Copied.copies.directory.filesystem.count =
    omega (arith, made.ensures.made.inodes_left, many_copies c.in-Copied.copies, ready.1) in
    subst (λ (id : FilesystemId). 0 < inodes_promised made.new.trees id.count) (sym made.ensures.filesystem) some

pub make_in_copy-requires-clause-room : goal.make_in_copy-requires-clause-room
make_in_copy-requires-clause-room c = (subst (λ p. IsPlaceReady p c.args.object.name.items c.args.trees.now
    c.args.births.now c.args.room.now) c.in-Copied.is c.requires).3

pub returns-in-Copied : goal.returns-in-Copied
returns-in-Copied c =
    let made = c.apply-directory in
    let d = inode_of made.result in
    subst (λ p. IsNewMade p (made_in_place p c.args.object.name.items c.args.object.node) c.args.trees.now
    c.args.births.now c.make_in_copy.new.trees made.new.births c.make_in_copy.result) (sym c.in-Copied.is)
    (record {
      between = made.new.trees;
      directory = made.result;
      made = made.ensures.made;
      making = subst (λ (id : FilesystemId). ChangesInodes id.count (λ inodes. changed nat_eq inodes
          (Make d c.args.object.name.items (inode_of c.make_in_copy.result) (copy_node d c.args.object.node)))
          made.new.trees c.make_in_copy.new.trees) made.ensures.filesystem c.make_in_copy.ensures.made;
      there = λ copies. subst (λ (id : FilesystemId). CopiesAreThere made.new.trees id.count made.new.births)
          made.ensures.filesystem made.ensures.there;
      filesystem = c.make_in_copy.ensures.filesystem ∙ made.ensures.filesystem;
      vacant = ap (λ (id : FilesystemId). (files_at made.new.trees id.count).tree.node
          (inode_of c.make_in_copy.result)) (sym made.ensures.filesystem) ∙ c.make_in_copy.ensures.vacant;
    })
