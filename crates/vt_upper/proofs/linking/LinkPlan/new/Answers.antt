use Rattle.std.proofs.Common.{◌≡◌, ◌+◌, ◌∙◌, ap, subst, sym}
use Rattle.vt_spec.proofs.Common.{entry_at}
use Rattle.vt_births.specs.Births.{BirthsValue}
use Rattle.vt_copyup.specs.Forks.{all_in}
use Rattle.vt_fs.specs.FilesystemsValue.{files_at, promising, with_changed}
use Rattle.vt_location.specs.declared.locations.InodeRef.{InodeRef}
use Rattle.vt_location.specs.declared.numbers.FilesystemId.{FilesystemId}
use Rattle.vt_location.specs.Locations.{inode_of}
use Rattle.vt_location.proofs.NodeLemmas.{small_parts}
use Rattle.vt_upper.specs.declared.linking.LinkPlan.{LinkPlan}
use Rattle.vt_upper.specs.Linking.{IsLinkReady}
use Rattle.vt_upper.proofs.LinksFound.{is_alive}
use Rattle.vt_upper.proofs.LinksReady.{link_ready}
use Rattle.vt_upper.proofs.PiecesSplit.{few_of}
use Rattle.vt_upper.proofs.PlacesFound.{in_order, no_pieces}
use Rattle.vt_upper_overlay.proofs.Shown.{looked_by}
use Rattle.vt_upper.proofs.linking.LinkPlan.new.Goals as goal

pub of-requires : goal.of-requires
of-requires c = λ none.
    let trees = c.args.trees.now in
    let overlay = c.args.overlay.now in
    let object = c.args.link.object in
    let small = c.in_ok-first.ensures.small in
    let looked = looked_by trees overlay object c.requires.standing small c.requires.object_own in
    is_alive trees overlay looked object (small_parts object small) c.requires.may_link.object_shown
    c.requires.may_link.plain c.in_ok-first.first c.in_ok-first.ensures.copies c.in_ok-first.ensures.filesystem
    (no_pieces c.in_ok-first.first none)

pub leaving_at-requires : goal.leaving_at-requires
leaving_at-requires c =
    let trees = c.args.trees.now in
    let overlay = c.args.overlay.now in
    let directory = c.args.link.directory in
    let small = c.in_ok-second.ensures.small in
    let looked = looked_by trees overlay directory c.requires.standing small c.requires.own in
    let may = c.requires.may_link.may_make in
    record {
      order = λ number. in_order trees overlay looked directory (small_parts directory small) may.shown_there
          may.directory c.in_ok-second.second c.in_ok-second.ensures.copies c.in_ok-second.ensures.filesystem number;
    }

pub returns-clause-link : goal.returns-clause-link
returns-clause-link c = record {
  first = c.in_ok-first.first;
  second = c.in_ok-second.second;
  object_copies = c.in_ok-first.ensures.copies;
  directory_copies = c.in_ok-second.ensures.copies;
  fork = c.in_ok-copies.ensures;
}

pub returns-clause-ready : goal.returns-clause-ready
returns-clause-ready c =
    let trees = c.args.trees.now in
    let overlay = c.args.overlay.now in
    let object = c.args.link.object in
    let directory = c.args.link.directory in
    let first = c.in_ok-first.first in
    let second = c.in_ok-second.second in
    let copies = c.in_ok-copies.copies in
    let object_small = c.in_ok-first.ensures.small in
    let directory_small = c.in_ok-second.ensures.small in
    let looked = looked_by trees overlay object c.requires.standing object_small c.requires.object_own in
    let few = few_of trees first second copies c.in_ok-copies.ensures in
    let n = all_in copies in
    let births : BirthsValue = overlay.nodes.births in
    let plan : LinkPlan = record {
      copies = copies;
      leaving = c.in_ok-leaving.leaving;
      name = c.args.link.name;
      links = c.in_ok-links.links;
    } in
    let inodes : c.promise.new.trees ≡ with_changed first.directory.filesystem.count (promising n) trees =
    c.in_ok-promise.ensures.inodes
    ∙ ap (λ (id : FilesystemId). with_changed id.count (promising c.in-Some.many) trees)
    (c.filesystem.ensures ∙ ap (λ (d : InodeRef). d.filesystem) c.in_ok-copies.ensures.directory)
    ∙ ap (λ m. with_changed first.directory.filesystem.count (promising m) trees) c.in-Some.ensures in
    let more : c.promise.new.births ≡ record births { promised = births.promised + n } =
    c.in_ok-promise.ensures.births ∙ ap (λ m. record births { promised = births.promised + m }) c.in-Some.ensures in
    let room = c.leaving_at.new.room in
    subst (λ t. IsLinkReady plan t c.promise.new.births room) (sym inodes)
    (subst (λ b. IsLinkReady plan (with_changed first.directory.filesystem.count (promising n) trees) b room) (sym more)
    (link_ready trees overlay looked object directory (small_parts object object_small)
    (small_parts directory directory_small) plan c.requires.may_link first second c.in_ok-first.ensures.copies
    c.in_ok-second.ensures.copies c.in_ok-first.ensures.filesystem c.in_ok-second.ensures.filesystem
    c.in_ok-copies.ensures c.plan_copies.new.room c.plan_copies-2.new.room
    (c.in_ok-first.ensures.ready n n c.requires.there few.0 few.0)
    (c.in_ok-second.ensures.ready n n c.requires.there few.1 few.1) room c.in_ok-links.ensures
    (λ none. c.in_ok-leaving.ensures.leads none
    ∙ ap (λ name. entry_at (files_at trees second.directory.filesystem.count).tree (inode_of second.directory) name)
    c.deref.ensures.value)
    c.in_ok-leaving.ensures.known c.in_ok-leaving.ensures.nothing c.in_ok-leaving.ensures.ok
    c.in_ok-leaving.ensures.there))
