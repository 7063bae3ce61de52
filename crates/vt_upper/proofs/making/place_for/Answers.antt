use Rattle.std.proofs.Common.{rules, ◌≡◌, ◌∙◌, ◌+◌, ◌<◌, ◌≤◌, ap, arith, false, IfSome, length, nat_eq, option_map, subst, true, sym}
use Rattle.vt_spec.proofs.Common.{entries_in, entry_at, is_sorted, name_cmp}
use Rattle.vt_fs.specs.FilesystemsValue.{files_at, promising, with_changed}
use Rattle.vt_location.specs.declared.locations.InodeRef.{InodeRef}
use Rattle.vt_location.specs.declared.locations.NodeRef.{NodeRef}
use Rattle.vt_location.specs.Locations.{inode_of, number_of}
use Rattle.vt_location.proofs.NodeLemmas.{small_parts}
use Rattle.vt_upper_overlay.specs.MergedAbove.{upper_count}
use Rattle.vt_upper_overlay.proofs.Shown.{looked_by}
use Rattle.vt_upper.specs.declared.making.Place.{Place}
use Rattle.vt_upper.specs.declared.making.Place.TheVariants.{There}
use Rattle.vt_upper.specs.New.{HasName, IsAbove, IsKnown, IsNameReady, IsPlaceOf, IsPlaceReady, many_in, object_in, start_of}
use Rattle.vt_upper.proofs.PlacesFound.{above_found, copied_ok, in_order, last_copied, name_there, no_pieces, promised_for, some_pieces, there_ready}
use Rattle.vt_upper.proofs.making.place_for.Goals as goal

pub plan_copies-requires-clause-shown : goal.plan_copies-requires-clause-shown
plan_copies-requires-clause-shown c = c.requires.may_put.shown_there

pub returns-then-len-eq0-clause-place : goal.returns-then-len-eq0-clause-place
returns-then-len-eq0-clause-place c =
    let trees = c.args.trees.now in
    let overlay = c.args.overlay.now in
    let node = c.args.at.directory in
    let copies = c.in_ok-copies.copies in
    let small = c.in_ok-copies.ensures.small in
    let looked = looked_by trees overlay node c.requires.standing small c.requires.own in
    let zero : c.len.result ≡ 0 = search rules in
    let none = no_pieces copies (sym c.len.ensures ∙ zero) in
    subst (IsAbove trees overlay node) (sym c.directory-above.ensures)
    (above_found trees overlay looked node (small_parts node small) c.requires.may_put.shown_there
    c.requires.may_put.directory copies c.in_ok-copies.ensures.copies c.in_ok-copies.ensures.filesystem none
    c.in_ok-copies.ensures.copies)

pub returns-then-len-eq0-clause-filesystem : goal.returns-then-len-eq0-clause-filesystem
returns-then-len-eq0-clause-filesystem c =
    ap (λ (d : InodeRef). d.filesystem.count) c.directory-above.ensures ∙ c.in_ok-copies.ensures.filesystem

pub leaving_from-requires : goal.leaving_from-requires
leaving_from-requires c =
    let trees = c.args.trees.now in
    let overlay = c.args.overlay.now in
    let node = c.args.at.directory in
    let copies = c.in_ok-copies.copies in
    let small = c.in_ok-copies.ensures.small in
    let looked = looked_by trees overlay node c.requires.standing small c.requires.own in
    let at : c.directory-above.result ≡ copies.directory = c.directory-above.ensures in
    record {
      order = λ number. subst (λ (d : InodeRef). is_sorted name_cmp (entries_in
          ((files_at trees d.filesystem.count).tree.node number)) ≡ true) (sym at)
          (in_order trees overlay looked node (small_parts node small) c.requires.may_put.shown_there
          c.requires.may_put.directory copies c.in_ok-copies.ensures.copies c.in_ok-copies.ensures.filesystem number);
    }

pub returns-then-len-eq0-clause-ready : goal.returns-then-len-eq0-clause-ready
returns-then-len-eq0-clause-ready c = λ inodes more there few_inodes few_births.
    let trees = c.args.trees.now in
    let overlay = c.args.overlay.now in
    let node = c.args.at.directory in
    let copies = c.in_ok-copies.copies in
    let name = c.args.at.name.now in
    let small = c.in_ok-copies.ensures.small in
    let looked = looked_by trees overlay node c.requires.standing small c.requires.own in
    let zero : c.len.result ≡ 0 = search rules in
    let none = no_pieces copies (sym c.len.ensures ∙ zero) in
    let at : c.directory-above.result ≡ copies.directory = c.directory-above.ensures in
    let leaving = c.in_ok-leaving.leaving in
    let leads : option_map object_in leaving
    ≡ entry_at (files_at trees copies.directory.filesystem.count).tree (inode_of copies.directory) name =
    c.in_ok-leaving.ensures.leads
    ∙ ap (λ (d : InodeRef). entry_at (files_at trees d.filesystem.count).tree (inode_of d) name) at in
    let known : IfSome leaving (IsKnown trees copies.directory) =
    subst (λ (d : InodeRef). IfSome leaving (IsKnown trees d)) at c.in_ok-leaving.ensures.known in
    let births = record overlay.nodes.births { promised = overlay.nodes.births.promised + more } in
    let has_room : length (entries_in ((files_at trees copies.directory.filesystem.count).tree.node
    (inode_of copies.directory))) + 1 ≤ c.make_room.new.room =
    subst (λ (d : InodeRef). length (entries_in ((files_at trees d.filesystem.count).tree.node (inode_of d))) + 1
    ≤ c.make_room.new.room) at
    (subst (λ (n : NodeRef). length (entries_in ((files_at trees n.filesystem.count).tree.node (number_of n))) + 1
    ≤ c.make_room.new.room) c.node_ref.ensures.value c.in_ok-make_room.ensures.ok) in
    subst (λ (d : InodeRef). IsPlaceReady (There (record { directory = d; leaving = leaving; keeps = false })) name
    (with_changed d.filesystem.count (promising inodes) trees) births c.make_room.new.room) (sym at)
    (there_ready trees overlay looked node (small_parts node small) c.requires.may_put.shown_there
    c.requires.may_put.directory copies c.in_ok-copies.ensures.copies c.in_ok-copies.ensures.filesystem none
    name c.requires.may_put leaving leads known inodes births c.make_room.new.room few_inodes has_room)

pub returns-clause-place : goal.returns-clause-place
returns-clause-place c = copied_ok c.in_ok-copies.copies (IsPlaceOf c.args.trees.now c.args.overlay.now c.args.at.directory)
    c.place_in_copy.result c.place_in_copy.ensures (λ room some. c.in_ok-copies.ensures.copies)

pub returns-clause-filesystem : goal.returns-clause-filesystem
returns-clause-filesystem c = copied_ok c.in_ok-copies.copies
    (λ (place : Place). (start_of place).filesystem.count ≡ upper_count c.args.overlay.now)
    c.place_in_copy.result c.place_in_copy.ensures (λ room some. c.in_ok-copies.ensures.filesystem)

pub returns-clause-ready : goal.returns-clause-ready
returns-clause-ready c = λ inodes more there.
    let trees = c.args.trees.now in
    let overlay = c.args.overlay.now in
    let node = c.args.at.directory in
    let copies = c.in_ok-copies.copies in
    let births = overlay.nodes.births in
    let small = c.in_ok-copies.ensures.small in
    let looked = looked_by trees overlay node c.requires.standing small c.requires.own in
    let no : nat_eq c.len.result 0 ≡ false = search rules in
    let some = some_pieces copies (ap (λ n. nat_eq n 0) (sym c.len.ensures) ∙ no) in
    copied_ok copies (λ (place : Place). many_in place < inodes → many_in place ≤ more → IsPlaceReady place
    c.args.at.name.now (with_changed (start_of place).filesystem.count (promising inodes) trees)
    (record births { promised = births.promised + more }) c.plan_copies.new.room)
    c.place_in_copy.result c.place_in_copy.ensures (λ room has_room few_inodes few_births. (
      c.in_ok-copies.ensures.ready inodes more there (omega (arith, few_inodes)) few_births,
      promised_for trees overlay looked node (small_parts node small) c.requires.may_put.shown_there
          c.requires.may_put.directory copies c.in_ok-copies.ensures.copies c.in_ok-copies.ensures.filesystem inodes
          few_inodes,
      last_copied trees overlay looked node (small_parts node small) c.requires.may_put.shown_there
          c.requires.may_put.directory copies c.in_ok-copies.ensures.copies c.in_ok-copies.ensures.filesystem some,
      has_room,
    ))

pub returns-then-len-eq0-clause-name_ready : goal.returns-then-len-eq0-clause-name_ready
returns-then-len-eq0-clause-name_ready c = λ inodes more there few_inodes few_births.
    let trees = c.args.trees.now in
    let overlay = c.args.overlay.now in
    let node = c.args.at.directory in
    let copies = c.in_ok-copies.copies in
    let name = c.args.at.name.now in
    let small = c.in_ok-copies.ensures.small in
    let looked = looked_by trees overlay node c.requires.standing small c.requires.own in
    let zero : c.len.result ≡ 0 = search rules in
    let none = no_pieces copies (sym c.len.ensures ∙ zero) in
    let at : c.directory-above.result ≡ copies.directory = c.directory-above.ensures in
    let leaving = c.in_ok-leaving.leaving in
    let leads : option_map object_in leaving
    ≡ entry_at (files_at trees copies.directory.filesystem.count).tree (inode_of copies.directory) name =
    c.in_ok-leaving.ensures.leads
    ∙ ap (λ (d : InodeRef). entry_at (files_at trees d.filesystem.count).tree (inode_of d) name) at in
    let known : IfSome leaving (IsKnown trees copies.directory) =
    subst (λ (d : InodeRef). IfSome leaving (IsKnown trees d)) at c.in_ok-leaving.ensures.known in
    subst (λ (d : InodeRef). HasName (with_changed d.filesystem.count (promising inodes) trees)
    (record { directory = d; leaving = leaving; keeps = false }) name) (sym at)
    (name_there trees overlay looked node (small_parts node small) c.requires.may_put.shown_there
    c.requires.may_put.directory copies c.in_ok-copies.ensures.copies c.in_ok-copies.ensures.filesystem none
    name c.requires.may_put leaving leads known inodes)

pub returns-clause-name_ready : goal.returns-clause-name_ready
returns-clause-name_ready c = λ inodes more there.
    let trees = c.args.trees.now in
    let overlay = c.args.overlay.now in
    let node = c.args.at.directory in
    let copies = c.in_ok-copies.copies in
    let births = overlay.nodes.births in
    let small = c.in_ok-copies.ensures.small in
    let looked = looked_by trees overlay node c.requires.standing small c.requires.own in
    let no : nat_eq c.len.result 0 ≡ false = search rules in
    let some = some_pieces copies (ap (λ n. nat_eq n 0) (sym c.len.ensures) ∙ no) in
    copied_ok copies (λ (place : Place). many_in place ≤ inodes → many_in place ≤ more → IsNameReady place
    c.args.at.name.now (with_changed (start_of place).filesystem.count (promising inodes) trees)
    (record births { promised = births.promised + more }) c.plan_copies.new.room)
    c.place_in_copy.result c.place_in_copy.ensures (λ room has_room few_inodes few_births. (
      c.in_ok-copies.ensures.ready inodes more there few_inodes few_births,
      last_copied trees overlay looked node (small_parts node small) c.requires.may_put.shown_there
          c.requires.may_put.directory copies c.in_ok-copies.ensures.copies c.in_ok-copies.ensures.filesystem some,
    ))
