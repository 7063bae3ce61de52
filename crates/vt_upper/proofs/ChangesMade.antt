-- What plans make is what the definitions' changes make.
use Rattle.std.proofs.Common.{◌≡◌, ◌∙◌, ◌∷◌, ◌++◌, [], ap, append-nil, append_assoc, arith, Bool, false, is_some, length, List, map, nat_eq, refl, Some, subst, sym, true, unwrap_or, ℕ}
use Rattle.vt_spec.proofs.Common.{Content, FileTree, Fresh, IsDirectory, Lower, Make, Merge, Node, Stack, Upper, changed, changed_node, common_steps, kind_of, map_twice, node_with_entry, upper_object}
use Rattle.vt_spec.specs.Rights.{Credentials, is_directory}
use Rattle.vt_spec.specs.Tree.{node_with_bytes}
use Rattle.vt_spec.specs.Tree.Content.{Directory, Regular, Symlink, Whiteout}
use Rattle.vt_laws_trees.proofs.layers.layers.ShownPaths.{length_longer}
use Rattle.vt_laws_trees.specs.Overlays.WhatIsShown.{IsWhole}
use Rattle.vt_laws_worlds.proofs.merging.upper.Copying.{led_stands, none_copied}
use Rattle.vt_laws_worlds.proofs.seen.copied.InTurn.{copies_in_turn}
use Rattle.vt_laws_worlds.specs.Merging.UpperCalls.{changed_above}
use Rattle.vt_laws_worlds.specs.Merging.UpperChanges.{AreNew, IsAt, Place, copied_for, copied_to, copy_node, led_above, object_of}
use Rattle.vt_laws_worlds.specs.Merging.UpperChanges.Place.{Held, Named}
use Rattle.vt_laws_worlds.specs.Seen.CopySteps.{ArePlanned, Copy, made_in_turn}
use Rattle.vt_laws_upper_layers.specs.Rows.{after_row}
use Rattle.vt_copyup.specs.declared.plans.Piece.{Piece}
use Rattle.vt_copyup.specs.declared.plans.Plan.{Plan}
use Rattle.vt_copyup.specs.declared.plans.PlannedCopy.{PlannedCopy}
use Rattle.vt_copyup.specs.Copied.{copied}
use Rattle.vt_copyup.specs.Laws.{AreHanded}
use Rattle.vt_copyup.specs.Made.{Made, last_made, made_copies}
use Rattle.vt_copyup.specs.Planned.{IsPlanOf, stack_of}
use Rattle.vt_copyup.specs.Plans.{AreNested, copies_of, in_turn}
use Rattle.vt_copyup.proofs.Changed.{is_there, still_there}
use Rattle.vt_copyup.proofs.Copies.{plans_make}
use Rattle.vt_fs.specs.FilesystemsValue.{Filesystems, entry_of, files_at}
use Rattle.vt_location.specs.declared.locations.InodeRef.{InodeRef}
use Rattle.vt_location.specs.declared.numbers.FilesystemId.{FilesystemId}
use Rattle.vt_location.specs.Locations.{inode_of}
use Rattle.vt_location.specs.Numbers.{inode_number}
use Rattle.vt_overlay.specs.declared.merge.layers.LayerRef.{LayerRef}
use Rattle.vt_upper.specs.Changes.{keeps_bytes, row_of}
use Rattle.vt_upper.specs.Laws.{ChangesAboveAreMade, ChangesBelowAreMade, change_at}
use Rattle.vt_upper.specs.declared.changing.ObjectChange.{ObjectChange}
use Rattle.vt_upper.specs.declared.changing.ObjectChange.TheVariants.{Attr, Bytes, Copied}
use Rattle.vt_upper.proofs.RowsMade.{row_made}

abbrev names : List Copy → List (List ℕ)
names copies = map (λ (copy : Copy). copy.name) copies

-- a file without its bytes is the same once it is written
pub written-copied : (directory : ℕ) (bytes : List ℕ) (node : Node ℕ)
    → node_with_bytes bytes (Some (copy_node directory node))
    ≡ node_with_bytes bytes (Some (copy_node directory (copied false node)))
written-copied directory bytes node = by node.content
  where
    by : (content : Content ℕ)
        → node_with_bytes bytes (Some (copy_node directory (record { attr = node.attr; content = content })))
        ≡ node_with_bytes bytes
        (Some (copy_node directory (copied false (record { attr = node.attr; content = content }))))
    by (Directory parent entries opaque) = refl
    by (Regular old) = refl
    by (Symlink text) = refl
    by Whiteout = refl

written-entered : (directory number : ℕ) (name bytes : List ℕ) (node : Node ℕ)
    → node_with_bytes bytes (node_with_entry name number (Some (copy_node directory node)))
    ≡ node_with_bytes bytes (node_with_entry name number (Some (copy_node directory (copied false node))))
written-entered directory number name bytes node = by node.content
  where
    by : (content : Content ℕ)
        → node_with_bytes bytes
        (node_with_entry name number (Some (copy_node directory (record { attr = node.attr; content = content }))))
        ≡ node_with_bytes bytes (node_with_entry name number
        (Some (copy_node directory (copied false (record { attr = node.attr; content = content })))))
    by (Directory parent entries opaque) = refl
    by (Regular old) = refl
    by (Symlink text) = refl
    by Whiteout = refl

-- a directory is copied whole in any case
directory-copied : (directory : ℕ) (node : Node ℕ) → is_directory (kind_of (copied false node).content) ≡ true
    → copy_node directory node ≡ copy_node directory (copied false node)
directory-copied directory node = by node.content
  where
    by : (content : Content ℕ)
        → is_directory (kind_of (copied false (record { attr = node.attr; content = content })).content) ≡ true
        → copy_node directory (record { attr = node.attr; content = content })
        ≡ copy_node directory (copied false (record { attr = node.attr; content = content }))
    by (Directory parent entries opaque) d = refl
    by (Regular old) d = absurd cc
    by (Symlink text) d = refl
    by Whiteout d = refl

-- so is the tree in which it is made and then written
module _ (files : FileTree ℕ) (directory number : ℕ) (name bytes : List ℕ) (node : Node ℕ) where
  abbrev written : Node ℕ → FileTree ℕ
  written made = changed_node nat_eq (changed nat_eq files (Make directory name number made)) number
      (node_with_bytes bytes)

  node_written : (m : ℕ) → (written (copy_node directory node)).tree.node m
      ≡ (written (copy_node directory (copied false node))).tree.node m
  node_written m = grind (
    arith,
    common_steps,
    written-copied directory bytes node,
    written-entered directory number name bytes node,
  )

  made_written : written (copy_node directory node) ≡ written (copy_node directory (copied false node))
  made_written = λ i. record {
    tree = record { root = files.tree.root; node = λ m. node_written m i };
    numbers = number ∷ files.numbers;
  }

-- all but the last are directories
abbrev AreDirectories : List Made → Type 0
AreDirectories [] = Rattle.std.specs.Prelude.⊤
AreDirectories (one ∷ []) = Rattle.std.specs.Prelude.⊤
AreDirectories (one ∷ next ∷ made) =
    (is_directory (kind_of one.copy.node.content) ≡ true) × AreDirectories (next ∷ made)

directories : (pieces : List Piece) (made : List Made) → AreNested pieces
    → map (λ (one : Made). one.copy) made ≡ copies_of pieces → AreDirectories made
directories [] [] nested same = tt
directories [] (one ∷ made) nested same = absurd cc
directories (piece ∷ pieces) [] nested same = absurd cc
directories (piece ∷ pieces) (one ∷ []) nested same = tt
directories (piece ∷ []) (one ∷ other ∷ made) nested same = absurd cc
directories (piece ∷ next ∷ pieces) (one ∷ other ∷ made) nested same =
    let first : one.copy ≡ piece.copy = cc in
    let rest : map (λ (m : Made). m.copy) (other ∷ made) ≡ copies_of (next ∷ pieces) = cc in (
      ap (λ (copy : PlannedCopy). is_directory (kind_of copy.node.content)) first ∙ nested.0,
      directories (next ∷ pieces) (other ∷ made) nested.2 rest,
    )

module _ (fresh : Fresh ℕ) (stack : Stack ℕ) (tree : FileTree ℕ) (f : FilesystemId) where
  -- the object's inode is the last copy
  last_so : (copies : List Copy) (made : List Made) (front : List (List ℕ)) (slot : ℕ)
      → unwrap_or (led_above stack tree front) (fresh (length front)) ≡ inode_number f.count slot
      → ArePlanned fresh stack tree front copies
      → names copies ≡ map (λ (one : Made). one.copy.name.items) made
      → AreHanded fresh f.count (length front) made
      → unwrap_or (led_above stack tree (front ++ names copies)) (fresh (length (front ++ names copies)))
      ≡ inode_of (last_made (record { filesystem = f; slot = slot }) made)
  last_so [] [] front slot is planned same handed =
      ap (λ p. unwrap_or (led_above stack tree p) (fresh (length p))) (append-nil front) ∙ is
  last_so [] (one ∷ made) front slot is planned same handed = absurd cc
  last_so (copy ∷ copies) [] front slot is planned same handed = absurd cc
  last_so (copy ∷ copies) (one ∷ made) front slot is planned same handed =
      let longer = length_longer front copy.name in
      let here : unwrap_or (led_above stack tree (front ++ copy.name ∷ [])) (fresh (length (front ++ copy.name ∷ [])))
      ≡ inode_number f.count one.slot =
      ap (λ o. unwrap_or o (fresh (length (front ++ copy.name ∷ [])))) planned.0 ∙ ap fresh longer ∙ sym handed.0 in
      let rest : names copies ≡ map (λ (m : Made). m.copy.name.items) made = cc in
      ap (λ p. unwrap_or (led_above stack tree p) (fresh (length p)))
      (sym (append_assoc front (copy.name ∷ []) (names copies)))
      ∙ last_so copies made (front ++ copy.name ∷ []) one.slot here planned.3 rest
      (subst (λ n. AreHanded fresh f.count n made) (sym longer) handed.1)

  -- copies without bytes, once the last is written
  written_alike : (bytes : List ℕ) (copies : List Copy) (made : List Made) (front : List (List ℕ))
      (files : FileTree ℕ) (slot : ℕ)
      → ArePlanned fresh stack tree front copies
      → names copies ≡ map (λ (one : Made). one.copy.name.items) made
      → map (λ (copy : Copy). copied false copy.node) copies ≡ map (λ (one : Made). one.copy.node) made
      → AreHanded fresh f.count (length front) made → AreDirectories made
      → changed_node nat_eq (made_in_turn files (inode_number f.count slot) copies)
      (inode_of (last_made (record { filesystem = f; slot = slot }) made)) (node_with_bytes bytes)
      ≡ changed_node nat_eq (made_in_turn files (inode_number f.count slot) (made_copies f.count made))
      (inode_of (last_made (record { filesystem = f; slot = slot }) made)) (node_with_bytes bytes)
  written_alike bytes [] [] front files slot planned same nodes handed kinds = refl
  written_alike bytes [] (one ∷ made) front files slot planned same nodes handed kinds = absurd cc
  written_alike bytes (copy ∷ copies) [] front files slot planned same nodes handed kinds = absurd cc
  written_alike bytes (copy ∷ other ∷ copies) (one ∷ []) front files slot planned same nodes handed kinds = absurd cc
  written_alike bytes (copy ∷ []) (one ∷ next ∷ made) front files slot planned same nodes handed kinds = absurd cc
  written_alike bytes (copy ∷ []) (one ∷ []) front files slot planned same nodes handed kinds =
      let d = inode_number f.count slot in
      let n = inode_number f.count one.slot in
      let name : copy.name ≡ one.copy.name.items = cc in
      let node : copied false copy.node ≡ one.copy.node = cc in
      let number : copy.number ≡ n = planned.2 ∙ ap fresh (length_longer front copy.name) ∙ sym handed.0 in
      (λ i. changed_node nat_eq (changed nat_eq files (Make d copy.name (number i) (copy_node d copy.node))) n
      (node_with_bytes bytes))
      ∙ made_written files d n copy.name bytes copy.node
      ∙ (λ i. changed_node nat_eq (changed nat_eq files (Make d (name i) n (copy_node d (node i)))) n
      (node_with_bytes bytes))
  written_alike bytes (copy ∷ other ∷ copies) (one ∷ next ∷ made) front files slot planned same nodes handed kinds =
      let d = inode_number f.count slot in
      let n = inode_number f.count one.slot in
      let longer = length_longer front copy.name in
      let name : copy.name ≡ one.copy.name.items = cc in
      let node : copied false copy.node ≡ one.copy.node = cc in
      let number : copy.number ≡ n = planned.2 ∙ ap fresh longer ∙ sym handed.0 in
      let kind : is_directory (kind_of (copied false copy.node).content) ≡ true =
      ap (λ (m : Node ℕ). is_directory (kind_of m.content)) node ∙ kinds.0 in
      let whole : copy_node d copy.node ≡ copy_node d one.copy.node =
      directory-copied d copy.node kind ∙ ap (copy_node d) node in
      let names_left : names (other ∷ copies) ≡ map (λ (m : Made). m.copy.name.items) (next ∷ made) = cc in
      let nodes_left : map (λ (c : Copy). copied false c.node) (other ∷ copies)
      ≡ map (λ (m : Made). m.copy.node) (next ∷ made) = cc in
      let last = inode_of (last_made (record { filesystem = f; slot = one.slot }) (next ∷ made)) in
      (λ i. changed_node nat_eq (made_in_turn (changed nat_eq files (Make d (name i) (number i) (whole i))) (number i)
      (other ∷ copies)) last (node_with_bytes bytes))
      ∙ written_alike bytes (other ∷ copies) (next ∷ made) (front ++ copy.name ∷ [])
      (changed nat_eq files (Make d one.copy.name.items n (copy_node d one.copy.node))) one.slot planned.3 names_left
      nodes_left (subst (λ k. AreHanded fresh f.count k (next ∷ made)) (sym longer) handed.1) kinds.1

-- Copies and row
module _ (fresh : Fresh ℕ) (mounter : Credentials) (merge : Merge ℕ) (trees : Filesystems) (upper : LayerRef)
    (lowers : List LayerRef) (overlay : FilesystemId) (path : List (List ℕ)) (plan : Plan) (made : List Made)
    (whole : IsWhole (stack_of trees upper lowers mounter) merge)
    (same_upper : merge.upper ≡ files_at trees plan.directory.filesystem.count) (new : AreNew fresh merge.upper)
    (all : map (λ (one : Made). one.copy) made ≡ copies_of (in_turn plan)) where
  abbrev stack : Stack ℕ
  stack = stack_of trees upper lowers mounter

  abbrev f : FilesystemId
  f = plan.directory.filesystem

  module _ {with_bytes : Bool} (is : IsPlanOf with_bytes trees upper lowers overlay path plan)
      (handed : AreHanded fresh f.count (length is.front) made) where
    upper_is : merge.upper ≡ files_at trees upper.directory.filesystem.count
    upper_is = same_upper ∙ ap (λ (id : FilesystemId). files_at trees id.count) is.filesystem

    record AreAlike : Type 0 where
      pub copies : List Copy
      pub planned : ArePlanned fresh stack merge.upper is.front copies
      pub whole_path : is.front ++ names copies ≡ path
      pub led : led_above stack merge.upper is.front ≡ Some (inode_of plan.directory)
      pub same_names : names copies ≡ map (λ (one : Made). one.copy.name.items) made
      pub same_nodes : map (λ (copy : Copy). copied with_bytes copy.node) copies
          ≡ map (λ (one : Made). one.copy.node) made

    alike : AreAlike
    alike =
        let planned = is.planned fresh mounter in
        record {
          copies = planned.copies;
          planned = subst (λ files. ArePlanned fresh stack files is.front planned.copies) (sym upper_is) planned.planned;
          whole_path = ap (λ l. is.front ++ l) planned.names ∙ is.whole;
          led = ap (λ files. led_above stack files is.front) upper_is ∙ is.leads;
          same_names = planned.names ∙ sym (map_twice (λ (copy : PlannedCopy). copy.name.items)
              (λ (piece : Piece). piece.copy) (in_turn plan))
              ∙ ap (map (λ (copy : PlannedCopy). copy.name.items)) (sym all)
              ∙ map_twice (λ (copy : PlannedCopy). copy.name.items) (λ (one : Made). one.copy) made;
          same_nodes = planned.nodes ∙ sym (map_twice (λ (copy : PlannedCopy). copy.node)
              (λ (piece : Piece). piece.copy) (in_turn plan))
              ∙ ap (map (λ (copy : PlannedCopy). copy.node)) (sym all)
              ∙ map_twice (λ (copy : PlannedCopy). copy.node) (λ (one : Made). one.copy) made;
        }

    pub object_is : object_of fresh stack merge.upper (Named path) ≡ inode_of (last_made plan.directory made)
    object_is = ap (λ p. unwrap_or (led_above stack merge.upper p) (fresh (length p))) (sym alike.whole_path)
        ∙ last_so fresh stack merge.upper f alike.copies made is.front plan.directory.slot
        (ap (λ o. unwrap_or o (fresh (length is.front))) alike.led) alike.planned alike.same_names handed

    copied_so : copied_to fresh stack merge.upper path
        ≡ made_in_turn merge.upper (inode_of plan.directory) alike.copies
    copied_so = ap (copied_to fresh stack merge.upper) (sym alike.whole_path)
        ∙ copies_in_turn fresh stack merge whole new is.front (inode_of plan.directory) alike.copies alike.led
        alike.planned

  pub copied_whole : (is : IsPlanOf true trees upper lowers overlay path plan)
      → AreHanded fresh f.count (length is.front) made
      → copied_to fresh stack merge.upper path
      ≡ made_in_turn merge.upper (inode_of plan.directory) (made_copies f.count made)
  copied_whole is handed =
      plans_make fresh mounter merge trees upper lowers overlay path plan made is whole (upper_is is handed) new all
      (subst (λ (id : FilesystemId). AreHanded fresh id.count (length is.front) made) is.filesystem handed)
      ∙ ap (λ (id : FilesystemId). made_in_turn merge.upper (inode_of plan.directory) (made_copies id.count made))
      (sym is.filesystem)

  row_below : (change : ObjectChange) (is : IsPlanOf (keeps_bytes change) trees upper lowers overlay path plan)
      → AreHanded fresh f.count (length is.front) made → AreNested (in_turn plan)
      → after_row (made_in_turn merge.upper (inode_of plan.directory) (made_copies f.count made))
      (row_of change (inode_of (last_made plan.directory made)))
      ≡ changed_above fresh stack merge.upper (change_at change (Named path))
  row_below Copied is handed nested = sym (copied_whole is handed)
  row_below (Attr attr) is handed nested = λ i. changed_node nat_eq (sym (copied_whole is handed) i)
      (sym (object_is is handed) i) (Rattle.vt_spec.specs.Language.Changes.node_with_attr attr)
  row_below (Bytes bytes) is handed nested =
      let both = alike is handed in
      sym (written_alike fresh stack merge.upper f bytes.items both.copies made is.front merge.upper
      plan.directory.slot both.planned both.same_names both.same_nodes handed
      (directories (in_turn plan) made nested all))
      ∙ (λ i. changed_node nat_eq (sym (copied_so is handed) i) (sym (object_is is handed) i)
      (node_with_bytes bytes.items))

pub made_below : ChangesBelowAreMade
made_below fresh mounter merge trees promised upper lowers overlay path plan change births after births_after object
    whole same_upper same_promised new is nested changed handed =
    let f = plan.directory.filesystem.count in
    let stack = stack_of trees upper lowers mounter in
    let made = changed.made.made in
    let top = (whole.layers 0 (record { tree = merge.upper.tree; directory = stack.directory }) refl).1 in
    let there : is_some (entry_of promised f) ≡ true = is_there promised f stack.directory
    (subst (λ (files : FileTree ℕ). IsDirectory files.tree stack.directory) same_promised top) in
    let still = still_there f _ promised changed.between changed.made.inodes there in
    let files = made_in_turn merge.upper (inode_of plan.directory) (made_copies f made) in
    row_made change f (inode_of object) changed.between after still changed.row files
    (changed.made.tree ∙ ap (λ files. (made_in_turn files (inode_of plan.directory) (made_copies f made)).tree)
    (sym same_promised))
    ∙ ap (λ (o : InodeRef). (after_row files (row_of change (inode_of o))).tree) changed.made.is_last
    ∙ ap (λ (t : FileTree ℕ). t.tree)
    (row_below fresh mounter merge trees upper lowers overlay path plan made whole same_upper new changed.made.all
    change is handed nested)

-- Of an object in the upper layer
module _ (fresh : Fresh ℕ) (stack : Stack ℕ) (merge : Merge ℕ) (whole : IsWhole stack merge) (number inode : ℕ)
    (there : is_some (merge.files.tree.node number) ≡ true) (real : merge.real number ≡ Some (Upper inode)) where
  stands : is_some (upper_object (merge.real number)) ≡ true
  stands = ap (λ o. is_some (upper_object o)) real

  led_so : (path : List (List ℕ)) → IsAt merge number (Named path)
      → led_above stack merge.upper path ≡ Some inode
  led_so path at = led_stands fresh whole number there path at stands
      ∙ ap (λ o. Some (unwrap_or (upper_object o) number)) real

  copies_above : (place : Place) → IsAt merge number place → copied_for fresh stack merge.upper place ≡ merge.upper
  copies_above (Named path) at =
      none_copied fresh stack merge.upper (length path) path refl (ap is_some (led_so path at))
  copies_above (Held (Upper object)) at = refl
  copies_above (Held (Lower layer path)) at = absurd (let no : Some (Lower layer path) ≡ Some (Upper inode) =
      sym at.0 ∙ real in cc)

  object_above : (place : Place) → IsAt merge number place → object_of fresh stack merge.upper place ≡ inode
  object_above (Named path) at = ap (λ o. unwrap_or o (fresh (length path))) (led_so path at)
  object_above (Held (Upper object)) at = let same : Some (Upper object) ≡ Some (Upper inode) = sym at.0 ∙ real in cc
  object_above (Held (Lower layer path)) at = absurd (let no : Some (Lower layer path) ≡ Some (Upper inode) =
      sym at.0 ∙ real in cc)

  row_above : (change : ObjectChange) (place : Place) → IsAt merge number place
      → after_row merge.upper (row_of change inode) ≡ changed_above fresh stack merge.upper (change_at change place)
  row_above Copied place at = sym (copies_above place at)
  row_above (Attr attr) place at = λ i. changed_node nat_eq (sym (copies_above place at) i)
      (sym (object_above place at) i) (Rattle.vt_spec.specs.Language.Changes.node_with_attr attr)
  row_above (Bytes bytes) place at = λ i. changed_node nat_eq (sym (copies_above place at) i)
      (sym (object_above place at) i) (node_with_bytes bytes.items)

pub no_copies : (made : List Made) → map (λ (one : Made). one.copy) made ≡ [] → made ≡ []
no_copies [] same = refl
no_copies (one ∷ made) same = absurd cc

pub made_above : ChangesAboveAreMade
made_above fresh stack merge promised plan change number place births after births_after object whole same_promised
    there at real none changed =
    let f = plan.directory.filesystem.count in
    let top = (whole.layers 0 (record { tree = merge.upper.tree; directory = stack.directory }) refl).1 in
    let some : is_some (entry_of promised f) ≡ true = is_there promised f stack.directory
    (subst (λ (files : FileTree ℕ). IsDirectory files.tree stack.directory) same_promised top) in
    let still = still_there f _ promised changed.between changed.made.inodes some in
    let nothing = no_copies changed.made.made (changed.made.all ∙ ap copies_of none) in
    let tree = changed.made.tree
    ∙ ap (λ made. (made_in_turn (files_at promised f) (inode_of plan.directory) (made_copies f made)).tree) nothing
    ∙ ap (λ (files : FileTree ℕ). files.tree) (sym same_promised) in
    let last : object ≡ plan.directory = changed.made.is_last ∙ ap (last_made plan.directory) nothing in
    row_made change f (inode_of object) changed.between after still changed.row merge.upper tree
    ∙ ap (λ (o : InodeRef). (after_row merge.upper (row_of change (inode_of o))).tree) last
    ∙ ap (λ (t : FileTree ℕ). t.tree)
    (row_above fresh stack merge whole number (inode_of plan.directory) there real change place at)
