-- What loses its last name in the upper layer where a change gives a name of the overlay: at the most what the upper
-- layer had at that name before the call.
use Rattle.std.proofs.Common.{arith, ◌≡◌, refl, sym, ap, subst, ◌∙◌, ◌⊎◌, inl, inr, ⊎_elim, append-nil, true≢false, ℕ, nat_eq, true, false, not, ◌&&◌, List, [], ◌∷◌, ◌++◌, map, Option, Some, None, is_some, option_to_list, unwrap_or}
use Rattle.vt_spec.proofs.Common.{AddName, Change, CopyUp, FileTree, Filesystem, Fresh, HasName, IsWorld, Layer, Location, Make, Merge, Move, Overlay, Remove, SetAttr, SetBytes, SetMark, Stack, World, among_from_contains, common_steps, copied_up, directory_used, entries_in, entry_at, entry_named, evens, files_at, filesystem_numbered, is_among, is_overlay, mount_at, named_in, none_is_some, not-true, odds, settled, stack_of, then_some, upper_object, upper_of, with_change, with_descriptor, with_task}
use Rattle.vt_laws_trees.specs.Trees.{IsProper}
use Rattle.vt_laws_trees.specs.Layers.Layers.ChangesUpper.{IsFitToChange}
use Rattle.vt_laws_trees.proofs.layers.layers.CopyingEachChange.{among_second, by_evens, in_own_line, then_odds}
use Rattle.vt_laws_trees.proofs.layers.layers.CopyingReady.{IsReady}
use Rattle.vt_laws_mounts.specs.LettingGo.FileChanges.{names_lost}
use Rattle.vt_laws_mounts.specs.LettingGo.InUse.{IsListedTree}
use Rattle.vt_laws_mounts.specs.LettingGo.OneByOne.{Inode, is_inode_among}
use Rattle.vt_laws_mounts.specs.LettingGo.Overlays.{let_go_all_inodes, let_go_in_of, let_go_merged, let_go_plain, uppers_of, uppers_of_inode_in}
use Rattle.vt_laws_mounts.proofs.letting_go.leaving.FilesChanged.{none_left}
use Rattle.vt_laws_mounts.proofs.letting_go.Lists.{Among, among-from_filter, among-from_map, among_from_all, any_among, any_from_among, flat_map_none, map_same}
use Rattle.vt_laws_mounts.proofs.letting_go.Trees.{named_among}
use Rattle.vt_laws_worlds.specs.OverlaysLetGo.NamesGiven.{GivenNamesLetGo, OpenedNamesLetGo, name_given, replaced_in_upper, takes_a_name, upper_at_name}
use Rattle.vt_laws_worlds.specs.OverlaysLetGo.OverlayChanges.{CanChange, inodes_lost_with_upper, merge_after, merge_at, unnamed_by}
use Rattle.vt_laws_worlds.proofs.overlays_let_go.changing.NamesFree.{names_free}
use Rattle.vt_laws_worlds.proofs.overlays_let_go.changing.NamesLost.{IsAt, entry_of, linked_at, loses, made_at}
use Rattle.vt_laws_worlds.proofs.overlays_let_go.changing.OverlayCalls.{goes_with_task_within}
use Rattle.vt_laws_worlds.proofs.overlays_let_go.changing.OverlaysChanged.{HasThese, fit, goes_within, layer_plain_then, layer_there, settles}

-- a change that takes no name away gives no name that something had
pub no_name_lost : (files : FileTree ℕ) (change : Change ℕ) → IsProper files.tree change → takes_a_name change ≡ false
    → names_lost files change ≡ []
no_name_lost files (Make directory name number node) may none = ap option_to_list may.name_is_free.free
no_name_lost files (AddName directory name object) may none = ap option_to_list may.name_is_free.free
no_name_lost files (Remove directory name object) may none = absurd (true≢false none)
no_name_lost files (Move from old to new object) may none = absurd (true≢false none)
no_name_lost files (SetBytes file bytes) may none = refl
no_name_lost files (SetAttr object attr) may none = refl
no_name_lost files (SetMark directory opaque) may none = refl
no_name_lost files (CopyUp object) may none = refl

-- Inodes of plain trees are looked at in the plain trees alone
module _ (number : ℕ) (world : World ℕ) (plain : (f : Filesystem ℕ) → Among f world.filesystems → is_overlay f ≡ true
    → nat_eq f.number number ≡ false) where
  abbrev inodes_of : List ℕ → List Inode
  inodes_of list = map (λ inode. (number, inode)) list

  -- an overlay stays as it is
  stays_in_overlays : (inode : ℕ) (f : Filesystem ℕ) → Among f world.filesystems
      → let_go_in_of is_overlay world (number, inode) f ≡ f
  stays_in_overlays inode f m = grind (arith, common_steps, plain)

  -- and so do all
  overlays_stay : (list : List ℕ) → let_go_merged world (inodes_of list) ≡ world
  overlays_stay [] = refl
  overlays_stay (inode ∷ rest) = ap (λ fs. let_go_merged (record world { filesystems = fs }) (inodes_of rest))
      (map_same (let_go_in_of is_overlay world (number, inode)) world.filesystems (stays_in_overlays inode))
      ∙ overlays_stay rest

  -- an inode of a plain tree has no upper object
  none_in : (inode : ℕ) (f : Filesystem ℕ) → Among f world.filesystems → uppers_of_inode_in (number, inode) f ≡ []
  none_in inode f m = grind (arith, common_steps)

  no_uppers : (list : List ℕ) → uppers_of world (inodes_of list) ≡ []
  no_uppers [] = refl
  no_uppers (inode ∷ rest) = ap (λ l. l ++ uppers_of world (inodes_of rest))
      (flat_map_none (uppers_of_inode_in (number, inode)) world.filesystems (none_in inode)) ∙ no_uppers rest

  -- so only those are looked at
  plain_looked_at : (list : List ℕ) → let_go_all_inodes world (inodes_of list) ≡ let_go_plain world (inodes_of list)
  plain_looked_at list = (λ i. let_go_plain (overlays_stay list i) (inodes_of list ++ no_uppers list i))
      ∙ ap (let_go_plain world) (append-nil (inodes_of list))

-- A directory that is copied has the upper object that it had, where that had a name in it
module _ (fresh : Fresh ℕ) (stack : Stack ℕ) (before : Merge ℕ) (fit : IsFitToChange fresh before)
    (vacant : (k : ℕ) → before.upper.tree.node (fresh k) ≡ None) where
  stood : (spare : ℕ → Type 0) (list : List ℕ) (copied : Merge ℕ) → IsReady fresh before fit spare list copied
      → (directory : ℕ) → is_among nat_eq directory list ≡ true → is_some (before.files.tree.node directory) ≡ true
      → (d : ℕ) (n : List ℕ) (k : ℕ) → entry_at before.upper.tree d n ≡ Some k → d ≡ upper_of copied directory
      → upper_object (before.real directory) ≡ Some d
  stood spare list copied ready directory among there d n k e same =
      by (upper_object (ready.soundly.real directory)) refl (ready.all directory among there)
    where
      by : (o : Option ℕ) → upper_object (ready.soundly.real directory) ≡ o → is_some o ≡ true
          → upper_object (before.real directory) ≡ Some d
      by None u h = absurd cc
      by (Some seen) u h =
          let is : d ≡ seen = same ∙ ap (λ m. upper_of m directory) ready.soundly.is
          ∙ ap (λ o. unwrap_or o directory) u in
          ⊎_elim (λ old. old ∙ ap Some (sym is)) (λ (new : (j : ℕ) × (seen ≡ fresh j)). none_is_some k
          (sym (ap (λ m. entry_named n (entries_in (before.upper.tree.node m))) (is ∙ new.1)
          ∙ ap (λ o. entry_named n (entries_in o)) (vacant new.0)) ∙ e)) (ready.soundly.told directory seen u)

  -- what had the name that is given
  abbrev HadName : ℕ × List ℕ → ℕ → Type 0
  HadName name k =
      then_some (upper_object (before.real name.0)) (λ directory. entry_at before.upper.tree directory name.1) ≡ Some k

  had_name : (directory : ℕ) (name : List ℕ) (d : ℕ) (n : List ℕ) (k : ℕ) → entry_at before.upper.tree d n ≡ Some k
      → upper_object (before.real directory) ≡ Some d → n ≡ name → HadName (directory, name) k
  had_name directory name d n k e is same = cc

  -- of a new object
  made_had : (directory : ℕ) (name : List ℕ) → is_some (before.files.tree.node directory) ≡ true
      → (d : ℕ) (n : List ℕ) (k : ℕ) → entry_at before.upper.tree d n ≡ Some k
      → IsAt (copied_up nat_eq (evens fresh) before directory) directory name d n → HadName (directory, name) k
  made_had directory name there d n k e at = had_name directory name d n k e
      (stood _ _ _ (by_evens fresh stack before fit directory) directory (in_own_line fresh stack before fit directory)
      there d n k e at.0) at.1

  -- of a further name
  linked_had : (directory : ℕ) (name : List ℕ) (object : ℕ) → is_some (before.files.tree.node directory) ≡ true
      → (d : ℕ) (n : List ℕ) (k : ℕ) → entry_at before.upper.tree d n ≡ Some k
      → IsAt (copied_up nat_eq (odds fresh) (copied_up nat_eq (evens fresh) before object) directory) directory name d n
      → HadName (directory, name) k
  linked_had directory name object there d n k e at = had_name directory name d n k e
      (stood _ _ _ (then_odds fresh stack before fit object directory) directory
      (among_second fresh stack before fit directory object directory (in_own_line fresh stack before fit directory))
      there d n k e at.0) at.1

module _ {fresh : Fresh ℕ} {world : World ℕ} {location : Location ℕ} {change : Change ℕ} {overlay : Overlay ℕ}
    {upper : Layer ℕ} (conditions : IsWorld nat_eq world) (can : CanChange fresh world location change overlay upper)
    (may : IsProper (files_at nat_eq world location).tree change) (none : takes_a_name change ≡ false) where
  abbrev layer : Filesystem ℕ
  layer = filesystem_numbered nat_eq world upper.filesystem

  abbrev before : Merge ℕ
  before = merge_at world location overlay upper

  abbrev later_upper : FileTree ℕ
  later_upper = (merge_after fresh world location overlay upper change).upper

  abbrev given : Option ℕ
  given = then_some (name_given change) (upper_at_name world overlay upper)

  listed : IsListedTree layer.files
  listed = among_from_all (λ (f : Filesystem ℕ). IsListedTree f.files) world.filesystems
      (settles conditions can).trees layer (layer_there conditions can)

  abbrev stack : Stack ℕ
  stack = stack_of nat_eq world overlay upper

  ready : IsFitToChange fresh before
  ready = fit conditions can

  abbrev IsFree : Type 0
  IsFree = (directory : ℕ) (name : List ℕ) (object seen : ℕ) → entry_at before.files.tree directory name ≡ Some object
      → upper_object (before.real object) ≡ None → upper_object (before.real directory) ≡ Some seen
      → entry_at before.upper.tree seen name ≡ None

  free : IsFree
  free = names_free conditions (mount_at nat_eq world location).filesystem can.overlay_there
      can.upper_there

  -- by each kind of change
  at_given : (kind : Change ℕ) → IsProper before.files.tree kind → takes_a_name kind ≡ false
      → (d : ℕ) (n : List ℕ) (k : ℕ) → entry_at before.upper.tree d n ≡ Some k
      → HasName (merge_after fresh world location overlay upper kind).upper.tree k
      ⊎ (then_some (name_given kind) (upper_at_name world overlay upper) ≡ Some k)
  at_given (Make directory name number node) proper none d n k e = ⊎_elim inl
      (λ at. inr (made_had fresh stack before ready can.unused directory name
      (directory_used before.files.tree directory proper.name_is_free.in_directory) d n k e at))
      (made_at fresh stack before ready can.unused free directory name number node d n k e)
  at_given (AddName directory name object) proper none d n k e = ⊎_elim inl
      (λ at. inr (linked_had fresh stack before ready can.unused directory name object
      (directory_used before.files.tree directory proper.name_is_free.in_directory) d n k e at))
      (linked_at fresh stack before ready can.unused free directory name object d n k e)
  at_given (Remove directory name object) proper none d n k e = absurd (true≢false none)
  at_given (Move from old to new object) proper none d n k e = absurd (true≢false none)
  at_given (SetBytes file bytes) proper none d n k e =
      ⊎_elim inl (λ (m : ⊥). absurd m) (loses fresh stack before ready can.unused free (SetBytes file bytes) d n k e)
  at_given (SetAttr object attr) proper none d n k e =
      ⊎_elim inl (λ (m : ⊥). absurd m) (loses fresh stack before ready can.unused free (SetAttr object attr) d n k e)
  at_given (SetMark directory opaque) proper none d n k e = ⊎_elim inl (λ (m : ⊥). absurd m)
      (loses fresh stack before ready can.unused free (SetMark directory opaque) d n k e)
  at_given (CopyUp object) proper none d n k e =
      ⊎_elim inl (λ (m : ⊥). absurd m) (loses fresh stack before ready can.unused free (CopyUp object) d n k e)

  -- so that at the most loses its last name
  only_given : (k : ℕ) → Among k (unnamed_by layer.files later_upper) → given ≡ Some k
  only_given k m =
      let from = among-from_filter (λ n. not (is_among nat_eq n (named_in later_upper))) (named_in layer.files) k m in
      let place = entry_of layer.files listed k from.0 in
      ⊎_elim (λ named. absurd (true≢false (sym (named_among later_upper can.upper_tree k named)
      ∙ not-true (is_among nat_eq k (named_in later_upper)) from.1))) (λ gone. gone)
      (at_given change may none place.0 place.1 k place.2)

  -- it is all that may have lost its last name or overlay
  has_lost : HasThese (inodes_lost_with_upper fresh world location overlay upper change)
      (replaced_in_upper world overlay upper change)
  has_lost filesystem inode lost =
      let found = any_among (λ (i : Inode). nat_eq filesystem i.0 && nat_eq inode i.1)
      (map (λ number. (upper.filesystem, number)) (unnamed_by layer.files later_upper))
      (sym (ap (λ names. is_inode_among filesystem inode
      (map (λ number. ((mount_at nat_eq world location).filesystem, number)) names
      ++ map (λ number. (upper.filesystem, number)) (unnamed_by layer.files later_upper)))
      (no_name_lost before.files change may none)) ∙ lost) in
      let from = among-from_map (λ (number : ℕ). (upper.filesystem, number)) (unnamed_by layer.files later_upper)
      found.0 found.1 in
      any_from_among (λ (i : Inode). nat_eq filesystem i.0 && nat_eq inode i.1)
      (replaced_in_upper world overlay upper change) found.0
      (subst (λ o. Among found.0 (map (λ number. (upper.filesystem, number)) (option_to_list o)))
      (sym (only_given from.0 from.1)) (inl from.2)) found.2

  -- the upper layer is in a plain tree, before and after
  goes_in_plain : (later : World ℕ) → later.filesystems ≡ (with_change nat_eq fresh world location change).filesystems
      → settled nat_eq later ≡ let_go_all_inodes later (replaced_in_upper world overlay upper change)
      → settled nat_eq later ≡ let_go_plain later (replaced_in_upper world overlay upper change)
  goes_in_plain later same goes = goes ∙ plain_looked_at upper.filesystem later
      (λ f m. layer_plain_then conditions can f (subst (Among f) same m)) (option_to_list given)

  -- that goes which nothing uses
  given_goes : settled nat_eq (with_change nat_eq fresh world location change)
      ≡ let_go_plain (with_change nat_eq fresh world location change) (replaced_in_upper world overlay upper change)
  given_goes = goes_in_plain (with_change nat_eq fresh world location change) refl
      (goes_within conditions can (replaced_in_upper world overlay upper change) has_lost)

pub given_names_let_go : GivenNamesLetGo
given_names_let_go fresh world location change overlay upper conditions can may none =
    given_goes conditions can may none

pub opened_names_let_go : OpenedNamesLetGo
opened_names_let_go fresh world task directory name node access overlay upper conditions there on can may =
    goes_in_plain conditions can may refl
    (with_task (with_change nat_eq (odds fresh) world directory change) (with_descriptor task file access)) refl
    (goes_with_task_within conditions can (with_descriptor task file access)
    (none_left world task file access conditions.tasks.one_task (among_from_contains world.tasks task there)) on
    (replaced_in_upper world overlay upper change) (has_lost conditions can may refl))
  where
    file : Location ℕ
    file = record { mount = directory.mount; node = evens fresh 0 }

    change : Change ℕ
    change = Make directory.node name (evens fresh 0) node
