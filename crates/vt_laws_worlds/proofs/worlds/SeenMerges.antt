-- A change of an overlay keeps each inode that is there, and its kind, in the merged tree and in the upper layer; so
-- what is seen stays in a change of any filesystem.
use Rattle.std.proofs.Common.{arith, ◌≡◌, ◌≢◌, refl, sym, ap, subst, ◌∙◌, inl, ⊎_elim, ◌++◌, not, ℕ, ◌+◌, ◌*◌, nat_eq, ne_eqb, eq-eqb, Bool, true, false, true≢false, List, [], ◌∷◌, Option, Some, None, is_some, map, All, option_to_list}
use Rattle.vt_laws_mounts.proofs.mounts.MountsLeft.{mounts-with_change}
use Rattle.vt_spec.proofs.Common.{AddName, Among, Change, CopyUp, FileTree, Filesystem, Fresh, Layer, ListsNumbers, Location, Make, Merge, Move, Node, Overlay, OverlayInvariants, Remove, Serves, SetAttr, SetBytes, SetMark, Stack, World, a_name, all_from_among, among_from_list_all, and_parts, changed, changed_node, common_steps, content_with_parent, copied_content, copied_each, copied_up, copy_named, copy_of, copy_of_node, copy_parent, entries_in, entry_named, evens, evens-distinct, files_at, filesystem_at, filesystem_changed, filesystem_numbered, hides_directory, is_directory_at, is_in_upper, is_overlay, is_plain_layer, kind_of, layers_of, list_all, merge_changed, merge_of, merge_with_moved, merge_with_new, merge_without_name, mount_at, name_left_by, node_at, node_with_attr, node_with_bytes, node_with_mark, node_without_entries, odds, odds-distinct, odds-no_evens, of_overlay, overlay_changed, overlay_or, replaced_if_numbered, shown_in_lowers_at, stack_of, upper_directory_named, upper_of, whiteout_of, with_change, with_files, with_filesystem, with_inode, with_mark, with_moved, with_name, without_contents, without_name, without_parent}
use Rattle.vt_laws_trees.proofs.trees.ChangesNodes.{part_stays}
use Rattle.vt_laws_trees.proofs.trees.TreesOfWorlds.{number_numbered, numbered, numbered_all}
use Rattle.vt_laws_worlds.proofs.worlds.Seen.{KeepsKind, KeepsWhatIsSeen, kind_seen, same_kind, same_seen, seen_by_nodes, seen_on}
use Rattle.vt_laws_worlds.proofs.worlds.SeenTrees.{MakesNew, found_new, made_kind, unused_inode, SameKinds, changes_keep_kinds, found_other, keeps-with_inode, kind-with_attr, kind-with_bytes, kind-with_entries, kind-with_mark, kind-with_parent, kinds-with_name, kinds-without_name, kinds-without_parent, numbers-replaced, replaced_keeps}
use Rattle.vt_laws_trees.specs.Trees.Settling.{inode_in}

-- Trees of which the second has the inodes of the first
abbrev pub Keeps : FileTree ℕ → FileTree ℕ → Type 0
Keeps before after = (k : ℕ) → KeepsKind (before.tree.node k) (after.tree.node k)

keeps_same : (files : FileTree ℕ) → Keeps files files
keeps_same files k test e = e

keeps_both : (a b c : FileTree ℕ) → Keeps a b → Keeps b c → Keeps a c
keeps_both a b c r s k test e = s k test (r k test e)

keeps_kinds : (a b : FileTree ℕ) → SameKinds a b → Keeps a b
keeps_kinds a b same k = same_kind _ _ (same k)

-- what is not there
abbrev IsVacant : FileTree ℕ → ℕ → Type 0
IsVacant files number = files.tree.node number ≡ None

none_seen : (o : Option (Node ℕ)) → kind_seen o ≡ None → o ≡ None
none_seen None e = refl
none_seen (Some node) e = cc

vacant_kinds : (a b : FileTree ℕ) → SameKinds a b → (number : ℕ) → IsVacant a number → IsVacant b number
vacant_kinds a b same number e = none_seen _ (cc (same number))

vacant_inode : (files : FileTree ℕ) (copy : ℕ) (node : Node ℕ) (number : ℕ) → number ≢ copy → IsVacant files number
    → IsVacant (with_inode nat_eq files copy node) number
vacant_inode files copy node number differ e = cc (ne_eqb number copy differ)

-- One copy
module _ (merge : Merge ℕ) (object copy : ℕ) (node : Node ℕ) (vacant : IsVacant merge.upper copy) where
  abbrev copied_node : Node ℕ
  copied_node = record {
    attr = node.attr;
    content = copied_content (copy_parent merge copy (a_name nat_eq merge.files object)) node.content;
  }

  abbrev with_copy : FileTree ℕ
  with_copy = with_inode nat_eq merge.upper copy copied_node

  named_kinds : (o : Option (ℕ × List ℕ)) → SameKinds with_copy (copy_named nat_eq merge copy o with_copy)
  named_kinds None k = refl
  named_kinds (Some name) k = kinds-with_name with_copy (upper_of merge name.0) name.1 copy k

  copy_keeps : Keeps merge.upper (copy_of_node nat_eq merge object copy node).upper
  copy_keeps = keeps_both merge.upper with_copy (copy_of_node nat_eq merge object copy node).upper
      (keeps-with_inode merge.upper copy copied_node vacant)
      (keeps_kinds with_copy (copy_of_node nat_eq merge object copy node).upper
      (named_kinds (a_name nat_eq merge.files object)))

  copy_vacant : (number : ℕ) → number ≢ copy → IsVacant merge.upper number
      → IsVacant (copy_of_node nat_eq merge object copy node).upper number
  copy_vacant number differ e = vacant_kinds with_copy (copy_of_node nat_eq merge object copy node).upper
      (named_kinds (a_name nat_eq merge.files object)) number
      (vacant_inode merge.upper copy copied_node number differ e)

-- After some copies: the merged tree is the same, inodes of the upper layer stay, and what was not there is not, but
-- for new numbers
record IsCopied (fresh : Fresh ℕ) (before after : Merge ℕ) : Type 0 where
  files : after.files ≡ before.files
  keeps : Keeps before.upper after.upper
  vacant : (number : ℕ) → ((j : ℕ) → number ≢ fresh j) → IsVacant before.upper number → IsVacant after.upper number

copied_once : (fresh : Fresh ℕ) (k : ℕ) (merge : Merge ℕ) (object : ℕ) (o : Option (Node ℕ)) (b : Bool)
    → IsVacant merge.upper (fresh k) → ((copy_of nat_eq merge object (fresh k) o b).files ≡ merge.files)
    × Keeps merge.upper (copy_of nat_eq merge object (fresh k) o b).upper
    × ((number : ℕ) → number ≢ fresh k → IsVacant merge.upper number
    → IsVacant (copy_of nat_eq merge object (fresh k) o b).upper number)
copied_once fresh k merge object None b vacant = (refl, keeps_same merge.upper, λ number differ e. e)
copied_once fresh k merge object (Some node) true vacant = (refl, keeps_same merge.upper, λ number differ e. e)
copied_once fresh k merge object (Some node) false vacant =
    (refl, copy_keeps merge object _ node vacant, copy_vacant merge object _ node vacant)

copied_on : (fresh : Fresh ℕ) → ((i j : ℕ) → fresh i ≡ fresh j → i ≡ j) → (k : ℕ) (merge : Merge ℕ) (list : List ℕ)
    → ((j : ℕ) → IsVacant merge.upper (fresh (j + k))) → IsCopied fresh merge (copied_each nat_eq fresh k merge list)
copied_on fresh distinct k merge [] vacant =
    record { files = refl; keeps = keeps_same merge.upper; vacant = λ number differ e. e }
copied_on fresh distinct k merge (object ∷ rest) vacant =
    let one = copied_once fresh k merge object (merge.files.tree.node object) (is_in_upper merge object)
    (subst (λ n. IsVacant merge.upper (fresh n)) at_first (vacant 0)) in
    let next = copy_of nat_eq merge object (fresh k) (merge.files.tree.node object) (is_in_upper merge object) in
    let later = copied_on fresh distinct (k + 1) next rest (λ j.
    one.2 (fresh (j + (k + 1))) (λ e. apart j (distinct (j + (k + 1)) k e))
    (subst (λ n. IsVacant merge.upper (fresh n)) (moved_on j) (vacant (j + 1)))) in
    record {
      files = later.files ∙ one.0;
      keeps = keeps_both merge.upper next.upper
          (copied_each nat_eq fresh k merge (object ∷ rest)).upper one.1 later.keeps;
      vacant = λ number differ e. later.vacant number differ (one.2 number (differ k) e);
    }
  where
    at_first : 0 + k ≡ k
    at_first = omega arith

    moved_on : (j : ℕ) → (j + 1) + k ≡ j + (k + 1)
    moved_on j = omega arith

    apart : (j : ℕ) → j + (k + 1) ≡ k → ⊥
    apart j e = omega (arith, e)

up_copied : (fresh : Fresh ℕ) → ((i j : ℕ) → fresh i ≡ fresh j → i ≡ j) → (merge : Merge ℕ) (object : ℕ)
    → ((j : ℕ) → IsVacant merge.upper (fresh j)) → IsCopied fresh merge (copied_up nat_eq fresh merge object)
up_copied fresh distinct merge object vacant = grind (arith, common_steps, copied_on)

-- Parts of a change of the upper layer
kinds_marked : (b : Bool) (files : FileTree ℕ) (object : ℕ) → SameKinds files (with_mark nat_eq b files object)
kinds_marked true files object k = part_stays files object _ _ (kind-with_mark true) k
kinds_marked false files object k = refl

kind_bare : (o : Option (Node ℕ)) → kind_seen (node_without_entries o) ≡ kind_seen o
kind_bare None = refl
kind_bare (Some node) = cc (kind-with_entries node.content [])

kinds_emptied : (files : FileTree ℕ) (o : Option ℕ) → SameKinds files (without_contents nat_eq files o)
kinds_emptied files None k = refl
kinds_emptied files (Some object) k = kinds-without_parent (changed_node nat_eq files object node_without_entries)
    (Some object) k ∙ part_stays files object _ _ kind_bare k

kinds_moved : (files : FileTree ℕ) (from : ℕ) (old : List ℕ) (to : ℕ) (name : List ℕ) (object : ℕ)
    → SameKinds files (with_moved nat_eq files from old to name object)
kinds_moved files from old to name object k =
    let first = without_parent nat_eq files (entry_named name (entries_in (files.tree.node to))) in
    let second = without_name nat_eq first from old in
    part_stays (with_name nat_eq second to name object) object _ _ (kind-with_parent to) k
    ∙ kinds-with_name second to name object k ∙ kinds-without_name first from old k
    ∙ kinds-without_parent files (entry_named name (entries_in (files.tree.node to))) k

left_keeps : (b : Bool) (fresh : Fresh ℕ) (stack : Stack ℕ) (files : FileTree ℕ) (directory : ℕ) (name : List ℕ)
    → IsVacant files (fresh 0) → Keeps files (name_left_by nat_eq b fresh stack files directory name)
left_keeps true fresh stack files directory name vacant =
    let first = with_inode nat_eq files (fresh 0) (whiteout_of stack.mounter) in
    keeps_both files first (with_name nat_eq first directory name (fresh 0))
    (keeps-with_inode files (fresh 0) (whiteout_of stack.mounter) vacant)
    (keeps_kinds first (with_name nat_eq first directory name (fresh 0))
    (kinds-with_name first directory name (fresh 0)))
left_keeps false fresh stack files directory name vacant =
    keeps_kinds files (without_name nat_eq files directory name) (kinds-without_name files directory name)

module _ (fresh : Fresh ℕ) (stack : Stack ℕ) (merge : Merge ℕ) (vacant : IsVacant merge.upper (fresh 0)) where
  made_keeps : (directory : ℕ) (name : List ℕ) (number : ℕ) (node : Node ℕ)
      → Keeps merge.upper (merge_with_new nat_eq fresh stack merge directory name number node).upper
  made_keeps directory name number node =
      let inode : Node ℕ = record {
        attr = node.attr;
        content = content_with_parent (upper_of merge directory) node.content;
      } in
      let first = with_inode nat_eq merge.upper (fresh 0) inode in
      let second = with_name nat_eq first (upper_of merge directory) name (fresh 0) in
      let last = (merge_with_new nat_eq fresh stack merge directory name number node).upper in
      keeps_both merge.upper first last (keeps-with_inode merge.upper (fresh 0) inode vacant)
      (keeps_both first second last (keeps_kinds first second
      (kinds-with_name first (upper_of merge directory) name (fresh 0)))
      (keeps_kinds second last (kinds_marked (hides_directory nat_eq stack merge directory name) second (fresh 0))))

  removed_keeps : (directory : ℕ) (name : List ℕ) (object : ℕ)
      → Keeps merge.upper (merge_without_name nat_eq fresh stack merge directory name object).upper
  removed_keeps directory name object = grind (arith, common_steps, keeps_both, left_keeps, keeps_kinds, kinds_emptied)

  moved_keeps : (from : ℕ) (old : List ℕ) (to : ℕ) (name : List ℕ) (object : ℕ)
      → Keeps merge.upper (merge_with_moved nat_eq fresh stack merge from old to name object).upper
  moved_keeps from old to name object =
      let base = without_contents nat_eq merge.upper (upper_directory_named merge to name) in
      let gone = with_moved nat_eq base (upper_of merge from) old (upper_of merge to) name (upper_of merge object) in
      let left = name_left_by nat_eq (is_some (shown_in_lowers_at nat_eq stack merge from old)) fresh stack gone
      (upper_of merge from) old in
      let base_kinds = kinds_emptied merge.upper (upper_directory_named merge to name) in
      let gone_kinds = kinds_moved base (upper_of merge from) old (upper_of merge to) name (upper_of merge object) in
      let last = (merge_with_moved nat_eq fresh stack merge from old to name object).upper in
      keeps_both merge.upper base last (keeps_kinds merge.upper base base_kinds)
      (keeps_both base gone last (keeps_kinds base gone gone_kinds) (keeps_both gone left last
      (left_keeps (is_some (shown_in_lowers_at nat_eq stack merge from old)) fresh stack gone (upper_of merge from) old
      (vacant_kinds base gone gone_kinds (fresh 0) (vacant_kinds merge.upper base base_kinds (fresh 0) vacant)))
      (keeps_kinds left last (kinds_marked (hides_directory nat_eq stack merge to name) left (upper_of merge object)))))

-- A whole change
module _ (fresh : Fresh ℕ) (distinct : (i j : ℕ) → fresh i ≡ fresh j → i ≡ j) (stack : Stack ℕ) (merge : Merge ℕ)
    (vacant : (j : ℕ) → IsVacant merge.upper (fresh j)) where
  odd_even_apart : (i j : ℕ) → evens (odds fresh) i ≡ evens (odds fresh) j → i ≡ j
  odd_even_apart i j e = let same = odds-distinct fresh distinct (2 * i) (2 * j) e in omega (arith, same)

  last_apart : (i j : ℕ) → odds (odds fresh) i ≢ evens (odds fresh) j
  last_apart i j e = let same = odds-distinct fresh distinct (2 * i + 1) (2 * j) e in omega (arith, same)

  first_copied : (object : ℕ) → IsCopied (evens fresh) merge (copied_up nat_eq (evens fresh) merge object)
  first_copied object = up_copied (evens fresh) (evens-distinct fresh distinct) merge object (λ j. vacant (2 * j))

  odd_vacant : (object j : ℕ) → IsVacant (copied_up nat_eq (evens fresh) merge object).upper (odds fresh j)
  odd_vacant object j = (first_copied object).vacant (odds fresh j) (odds-no_evens fresh distinct j)
      (vacant (2 * j + 1))

  merge_keeps : (change : Change ℕ) → MakesNew merge.files change
      → ((merge_changed nat_eq fresh stack merge change).files ≡ changed nat_eq merge.files change)
      × Keeps merge.upper (merge_changed nat_eq fresh stack merge change).upper
  merge_keeps (Make directory name number node) new =
      let one = first_copied directory in
      let mid = copied_up nat_eq (evens fresh) merge directory in (
        ap (λ files. changed nat_eq files (Make directory name number node)) one.files,
        keeps_both merge.upper mid.upper
            (merge_changed nat_eq fresh stack merge (Make directory name number node)).upper one.keeps
            (made_keeps (odds fresh) stack mid (odd_vacant directory 0) directory name number node),
      )
  merge_keeps (AddName directory name object) new =
      let one = first_copied object in
      let mid = copied_up nat_eq (evens fresh) merge object in
      let two = up_copied (odds fresh) (odds-distinct fresh distinct) mid directory (odd_vacant object) in
      let last = copied_up nat_eq (odds fresh) mid directory in (
        ap (λ files. changed nat_eq files (AddName directory name object)) (two.files ∙ one.files),
        keeps_both merge.upper mid.upper
            (merge_changed nat_eq fresh stack merge (AddName directory name object)).upper one.keeps
            (keeps_both mid.upper last.upper
            (merge_changed nat_eq fresh stack merge (AddName directory name object)).upper two.keeps
            (keeps_kinds last.upper (merge_changed nat_eq fresh stack merge (AddName directory name object)).upper
            (kinds-with_name last.upper (upper_of last directory) name (upper_of last object)))),
      )
  merge_keeps (Remove directory name object) new =
      let one = first_copied directory in
      let mid = copied_up nat_eq (evens fresh) merge directory in (
        ap (λ files. changed nat_eq files (Remove directory name object)) one.files,
        keeps_both merge.upper mid.upper
            (merge_changed nat_eq fresh stack merge (Remove directory name object)).upper one.keeps
            (removed_keeps (odds fresh) stack mid (odd_vacant directory 0) directory name object),
      )
  merge_keeps (Move from old to name object) new =
      let one = first_copied object in
      let mid = copied_up nat_eq (evens fresh) merge object in
      let two = up_copied (evens (odds fresh)) odd_even_apart mid to (λ j. odd_vacant object (2 * j)) in
      let last = copied_up nat_eq (evens (odds fresh)) mid to in (
        ap (λ files. changed nat_eq files (Move from old to name object)) (two.files ∙ one.files),
        keeps_both merge.upper mid.upper
            (merge_changed nat_eq fresh stack merge (Move from old to name object)).upper one.keeps
            (keeps_both mid.upper last.upper
            (merge_changed nat_eq fresh stack merge (Move from old to name object)).upper two.keeps
            (moved_keeps (odds (odds fresh)) stack last
            (two.vacant (odds (odds fresh) 0) (last_apart 0) (odd_vacant object 1)) from old to name object)),
      )
  merge_keeps (SetBytes file bytes) new =
      let one = up_copied fresh distinct merge file vacant in
      let mid = copied_up nat_eq fresh merge file in (
        ap (λ files. changed_node nat_eq files file (node_with_bytes bytes)) one.files,
        keeps_both merge.upper mid.upper (merge_changed nat_eq fresh stack merge (SetBytes file bytes)).upper one.keeps
            (keeps_kinds mid.upper (merge_changed nat_eq fresh stack merge (SetBytes file bytes)).upper
            (part_stays mid.upper (upper_of mid file) (node_with_bytes bytes) kind_seen (kind-with_bytes bytes))),
      )
  merge_keeps (SetAttr object attr) new =
      let one = up_copied fresh distinct merge object vacant in
      let mid = copied_up nat_eq fresh merge object in (
        ap (λ files. changed_node nat_eq files object (node_with_attr attr)) one.files,
        keeps_both merge.upper mid.upper (merge_changed nat_eq fresh stack merge (SetAttr object attr)).upper one.keeps
            (keeps_kinds mid.upper (merge_changed nat_eq fresh stack merge (SetAttr object attr)).upper
            (part_stays mid.upper (upper_of mid object) (node_with_attr attr) kind_seen (kind-with_attr attr))),
      )
  merge_keeps (SetMark directory opaque) new =
      let one = up_copied fresh distinct merge directory vacant in
      let mid = copied_up nat_eq fresh merge directory in (
        ap (λ files. changed_node nat_eq files directory (node_with_mark opaque)) one.files,
        keeps_both merge.upper mid.upper
            (merge_changed nat_eq fresh stack merge (SetMark directory opaque)).upper one.keeps
            (keeps_kinds mid.upper (merge_changed nat_eq fresh stack merge (SetMark directory opaque)).upper
            (part_stays mid.upper (upper_of mid directory) (node_with_mark opaque) kind_seen (kind-with_mark opaque))),
      )
  merge_keeps (CopyUp object) new =
      let one = up_copied fresh distinct merge object vacant in (one.files, one.keeps)

-- no upper layer is in its own overlay
abbrev pub UppersAreElsewhere : World ℕ → Type 0
UppersAreElsewhere world = (number : ℕ) (overlay : Overlay ℕ) (upper : Layer ℕ)
    → (filesystem_numbered nat_eq world number).overlay ≡ Some overlay
    → overlay.upper ≡ Some upper → upper.filesystem ≢ number

-- numbers that are handed in are no inode's
pub record AreNewInodes (fresh : Fresh ℕ) (world : World ℕ) : Type 0 where
  pub distinct : (i j : ℕ) → fresh i ≡ fresh j → i ≡ j
  pub vacant : (filesystem k : ℕ) → inode_in world filesystem (fresh k) ≡ None

-- A change at a location
module _ (fresh : Fresh ℕ) (world : World ℕ) (elsewhere : UppersAreElsewhere world) (are_new : AreNewInodes fresh world)
    (location : Location ℕ) (change : Change ℕ) where
  abbrev old : Filesystem ℕ
  old = filesystem_at nat_eq world location

  number_is : old.number ≡ (mount_at nat_eq world location).filesystem
  number_is = number_numbered (mount_at nat_eq world location).filesystem world.filesystems

  -- one filesystem in the place of another
  one_seen : (before : World ℕ) (new : Filesystem ℕ)
      → ((k : ℕ) → KeepsKind ((numbered new.number before.filesystems).files.tree.node k) (new.files.tree.node k))
      → KeepsWhatIsSeen before (with_filesystem nat_eq before new)
  one_seen before new keeps = seen_by_nodes before _ refl (replaced_keeps new _ keeps)

  at_old : (files : FileTree ℕ) → Keeps old.files files → (k : ℕ)
      → KeepsKind ((numbered old.number world.filesystems).files.tree.node k) (files.tree.node k)
  at_old files keeps k =
      subst (λ n. KeepsKind ((numbered n world.filesystems).files.tree.node k) (files.tree.node k)) (sym number_is)
      (keeps k)

  pub change_keeps_seen : MakesNew old.files change
      → KeepsWhatIsSeen world (with_change nat_eq fresh world location change)
  change_keeps_seen new = by old.overlay refl
    where
      over : (overlay : Overlay ℕ) → old.overlay ≡ Some overlay → (upper : Option (Layer ℕ)) → overlay.upper ≡ upper
          → KeepsWhatIsSeen world (overlay_changed nat_eq fresh world old overlay upper change)
      over overlay e None f = same_seen world
      over overlay e (Some upper) f = seen_on world middle _ (one_seen world merged (at_old merge.files
          (subst (Keeps old.files) (sym kept.0) (changes_keep_kinds old.files change new))))
          (one_seen middle changed_upper (λ k.
          subst (λ (x : Filesystem ℕ). KeepsKind (x.files.tree.node k) (merge.upper.tree.node k)) (sym upper_still)
          (kept.1 k)))
        where
          merge : Merge ℕ
          merge = merge_changed nat_eq fresh (stack_of nat_eq world overlay upper)
              (merge_of nat_eq world old overlay upper) change

          kept : (merge.files ≡ changed nat_eq old.files change)
              × Keeps (filesystem_numbered nat_eq world upper.filesystem).files merge.upper
          kept = merge_keeps fresh are_new.distinct (stack_of nat_eq world overlay upper)
              (merge_of nat_eq world old overlay upper) (λ j. are_new.vacant upper.filesystem j) change new

          merged : Filesystem ℕ
          merged = record old { files = merge.files; overlay = Some (record overlay { real = merge.real }) }

          middle : World ℕ
          middle = with_filesystem nat_eq world merged

          changed_upper : Filesystem ℕ
          changed_upper = with_files (filesystem_numbered nat_eq world upper.filesystem) merge.upper

          upper_number : changed_upper.number ≡ upper.filesystem
          upper_number = number_numbered upper.filesystem world.filesystems

          upper_still : numbered changed_upper.number middle.filesystems
              ≡ filesystem_numbered nat_eq world upper.filesystem
          upper_still = ap (λ n. numbered n middle.filesystems) upper_number
              ∙ found_other merged world.filesystems upper.filesystem (ne_eqb old.number upper.filesystem (λ same.
              elsewhere (mount_at nat_eq world location).filesystem overlay upper e f (sym same ∙ number_is)))

      by : (o : Option (Overlay ℕ)) → old.overlay ≡ o
          → KeepsWhatIsSeen world (filesystem_changed nat_eq fresh world old o change)
      by None e = one_seen world (with_files old (changed nat_eq old.files change))
          (at_old (changed nat_eq old.files change) (changes_keep_kinds old.files change new))
      by (Some overlay) e = over overlay e overlay.upper refl

-- mounts and tasks stay in any change, and so do the numbers of filesystems
module _ (fresh : Fresh ℕ) (world : World ℕ) (location : Location ℕ) (change : Change ℕ) where
  record LeavesRest (later : World ℕ) : Type 0 where
    mounts : later.mounts ≡ world.mounts
    tasks : later.tasks ≡ world.tasks
    numbers : map (λ (f : Filesystem ℕ). f.number) later.filesystems
        ≡ map (λ (f : Filesystem ℕ). f.number) world.filesystems

  rest : LeavesRest (with_change nat_eq fresh world location change)
  rest = grind (arith, common_steps, numbers-replaced)

-- What is made is there, where an overlay has an upper layer
module _ (fresh : Fresh ℕ) (world : World ℕ) (elsewhere : UppersAreElsewhere world) (are_new : AreNewInodes fresh world)
    (location : Location ℕ) (name : List ℕ) (number : ℕ) (node : Node ℕ)
    (is_directory : is_directory_at nat_eq world location ≡ true)
    (writes : overlay_or false (λ (overlay : Overlay ℕ). not (is_some overlay.upper))
    (filesystem_at nat_eq world location).overlay ≡ false)
    (unused : (files_at nat_eq world location).tree.node number ≡ None) where
  abbrev Made : Change ℕ
  Made = Make location.node name number node

  abbrev place : ℕ
  place = (mount_at nat_eq world location).filesystem

  abbrev before_it : Filesystem ℕ
  before_it = filesystem_at nat_eq world location

  before_number : before_it.number ≡ place
  before_number = number_numbered place world.filesystems

  -- in one filesystem in the place of another
  there_in : (new : Filesystem ℕ) → new.number ≡ place → new.files ≡ changed nat_eq before_it.files Made
      → kind_seen ((numbered place (map (replaced_if_numbered nat_eq new) world.filesystems)).files.tree.node number)
      ≡ Some (kind_of node.content)
  there_in new same files = grind (arith, common_steps, kind_seen, numbered, made_kind, true≢false, found_new)

  abbrev Is : World ℕ → Type 0
  Is later = kind_seen (inode_in later place number) ≡ Some (kind_of node.content)

  is_made : Is (with_change nat_eq fresh world location Made)
  is_made = by before_it.overlay refl writes
    where
      over : (overlay : Overlay ℕ) → before_it.overlay ≡ Some overlay → (upper : Option (Layer ℕ))
          → overlay.upper ≡ upper → not (is_some upper) ≡ false
          → Is (overlay_changed nat_eq fresh world before_it overlay upper Made)
      over overlay e None f w = absurd (true≢false w)
      over overlay e (Some upper) f w = ap (λ (x : Filesystem ℕ). kind_seen (x.files.tree.node number))
          (found_other changed_upper (map (replaced_if_numbered nat_eq merged) world.filesystems) place
          (ne_eqb changed_upper.number place (λ same. elsewhere place overlay upper e f
          (sym (number_numbered upper.filesystem world.filesystems) ∙ same))))
          ∙ there_in merged before_number (merge_keeps fresh are_new.distinct (stack_of nat_eq world overlay upper)
          (merge_of nat_eq world before_it overlay upper) (λ j. are_new.vacant upper.filesystem j) Made unused).0
        where
          merge : Merge ℕ
          merge = merge_changed nat_eq fresh (stack_of nat_eq world overlay upper)
              (merge_of nat_eq world before_it overlay upper) Made

          merged : Filesystem ℕ
          merged = record before_it { files = merge.files; overlay = Some (record overlay { real = merge.real }) }

          changed_upper : Filesystem ℕ
          changed_upper = with_files (filesystem_numbered nat_eq world upper.filesystem) merge.upper

      by : (o : Option (Overlay ℕ)) → before_it.overlay ≡ o
          → overlay_or false (λ (overlay : Overlay ℕ). not (is_some overlay.upper)) o ≡ false
          → Is (filesystem_changed nat_eq fresh world before_it o Made)
      by None e w = there_in (with_files before_it (changed nat_eq before_it.files Made)) before_number refl
      by (Some overlay) e w = over overlay e overlay.upper refl w

  -- seen through the mount of its directory
  pub new_inode_seen : kind_seen
      (node_at nat_eq (with_change nat_eq fresh world location Made) (record { mount = location.mount; node = number }))
      ≡ Some (kind_of node.content)
  new_inode_seen = cc (mounts-with_change world fresh location Made, is_made)

-- Upper layers are in plain trees; so they are in worlds with the same filesystems, and no number that is handed in is
-- an inode's
pub uppers_elsewhere : (world : World ℕ) → OverlayInvariants nat_eq world → UppersAreElsewhere world
uppers_elsewhere world is number overlay upper e f same = ⊎_elim
    (λ all. absurd (true≢false (sym (plain_there (among_from_list_all (is_plain_layer nat_eq world) (layers_of overlay)
    (sym (ap (overlay_or true (λ (o : Overlay ℕ). list_all (is_plain_layer nat_eq world) (layers_of o))) e) ∙ all) upper
    (subst (λ o. Among upper (option_to_list o ++ option_to_list overlay.work ++ overlay.lowers)) (sym f) (inl refl))))
    ∙ ap (λ n. not (is_some (filesystem_numbered nat_eq world n).overlay)) same ∙ ap (λ o. not (is_some o)) e)))
    (λ none. absurd (true≢false (sym (ap is_some e) ∙ ap (λ (x : Filesystem ℕ). is_some x.overlay) none.0)))
    (numbered_all (λ (x : Filesystem ℕ). of_overlay true (λ o. list_all (is_plain_layer nat_eq world) (layers_of o)) x
    ≡ true) number world.filesystems (all_from_among (λ (x : Filesystem ℕ). of_overlay true
    (λ o. list_all (is_plain_layer nat_eq world) (layers_of o)) x ≡ true) world.filesystems
    (λ x m. among_from_list_all (of_overlay true
    (λ o. list_all (is_plain_layer nat_eq world) (layers_of o))) world.filesystems is.plain_layers x m)))
  where
    plain_there : is_plain_layer nat_eq world upper ≡ true
        → not (is_overlay (filesystem_numbered nat_eq world upper.filesystem)) ≡ true
    plain_there plain = (and_parts (not (is_overlay (filesystem_numbered nat_eq world upper.filesystem))) _ plain).0

pub elsewhere_in : (a b : World ℕ) → a.filesystems ≡ b.filesystems → UppersAreElsewhere b → UppersAreElsewhere a
elsewhere_in a b same is = subst (λ fs. UppersAreElsewhere (record a { filesystems = fs })) (sym same)
    (λ n o u. is n o u)

pub new_in : (fresh : Fresh ℕ) (a b : World ℕ) → a.filesystems ≡ b.filesystems → AreNewInodes fresh b
    → AreNewInodes fresh a
new_in fresh a b same is = subst (λ fs. AreNewInodes fresh (record a { filesystems = fs })) (sym same)
    (record { distinct = is.distinct; vacant = λ f k. is.vacant f k })

pub served_new : (world : World ℕ) (fresh : Fresh ℕ) → Serves nat_eq world fresh
    → All (λ filesystem. ListsNumbers nat_eq filesystem.files) world.filesystems → AreNewInodes fresh world
served_new world fresh serves lists = record {
  distinct = λ i j e. serves.apart i j (eq-eqb (fresh i) (fresh j) e);
  vacant = λ f k. unused_inode world fresh serves lists k f;
}

pub odds_new : (world : World ℕ) (fresh : Fresh ℕ) → AreNewInodes fresh world → AreNewInodes (odds fresh) world
odds_new world fresh is = record {
  distinct = λ i j e. let same = is.distinct (2 * i + 1) (2 * j + 1) e in omega (arith, same);
  vacant = λ f k. is.vacant f (2 * k + 1);
}
