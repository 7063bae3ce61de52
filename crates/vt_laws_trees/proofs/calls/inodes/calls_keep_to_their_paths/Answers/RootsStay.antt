-- The root of a filesystem stays its root, as long as the filesystem is there.
use Rattle.std.proofs.Common.{arith, ◌≡◌, refl, sym, subst, ◌∙◌, inl, inr, ◌⊎◌, true≢false, ℕ, ◌+◌, nat_eq, eqb-true, eq-eqb, Bool, true, false, cond, ◌||◌, List, [], ◌∷◌, ◌++◌, map, filter, find, Option, Some, None, option_map, Ok, Err, ok_or}
use Rattle.vt_spec.proofs.Common.{AddName, Change, CopyUp, FileTree, Filesystem, Fresh, Judgement, Layer, Location, Make, Merge, Move, Node, Outcome, Overlay, Permit, Remove, SetAttr, SetBytes, SetMark, Stack, Task, ToChange, ToEnterNamespace, ToExit, ToMake, ToMountOverlay, ToMountPlain, ToOpen, ToOpenNew, ToRemoveDirectory, ToRename, ToSetType, ToUnmount, ToUnmountLazily, ToUnshare, ToWritePart, World, after, apply, changed, common_steps, copied_each, copied_up, copy_of, denial, denied, evens, filesystem_at, filesystem_changed, filesystem_lives, filesystem_numbered, filesystems-taken_away, filesystems-without_replaced, filesystems_changed_by, finished, finished_unless, is_copied_up, is_in_upper, is_overlay, judge_in, line_to, merge_changed, merge_of, merge_with_link, merge_with_moved, merge_with_new, merge_without_name, mount_at, no_filesystem, odds, only_looks, only_used, overlay_changed, plain_filesystem, pwritten, raised_if_changed, replaced_if_numbered, same_Some, settled, stack_of, task_called, unshared, upper_directory_named, upper_of, with_change, with_copy, with_moved, without_contents, without_dead_filesystems, without_dead_in, without_dead_mounts, without_replaced, without_task}
use Rattle.vt_laws_trees.specs.Calls.Reached.{RootsStay, root_in}
use Rattle.vt_laws_rules.proofs.judged.CallsJudged.{policy_judges_then_applies}
use Rattle.vt_spec.specs.declared.errors.Rule.TheVariants.{S2}
use Rattle.vt_laws_trees.proofs.trees.TreesOfWorlds.{number_numbered, numbered}
use Rattle.vt_laws_trees.proofs.trees.ChangesByOthers.{lazily_filesystems, typed_filesystems}
use Rattle.vt_spec.proofs.Worlds.{root-emptied, root-marked, root-name_left_by}

-- a change of a tree leaves its root
changed_root : (files : FileTree ℕ) (change : Change ℕ) → (changed nat_eq files change).tree.root ≡ files.tree.root
changed_root files change = grind (arith, common_steps)

-- A change of an overlay leaves the roots of its tree and of that of its upper layer
abbrev SameRoots : Merge ℕ → Merge ℕ → Type 0
SameRoots was now = (now.files.tree.root ≡ was.files.tree.root) × (now.upper.tree.root ≡ was.upper.tree.root)

and_roots : (was then now : Merge ℕ) → SameRoots was then → SameRoots then now → SameRoots was now
and_roots was then now first later = (later.0 ∙ first.0, later.1 ∙ first.1)

copy_roots : (merge : Merge ℕ) (object copy : ℕ) (o : Option (Node ℕ)) (in_upper : Bool)
    → SameRoots merge (copy_of nat_eq merge object copy o in_upper)
copy_roots merge object copy o in_upper = grind (arith, common_steps)

copied_roots : (fresh : Fresh ℕ) (k : ℕ) (merge : Merge ℕ) (list : List ℕ)
    → SameRoots merge (copied_each nat_eq fresh k merge list)
copied_roots fresh k merge [] = (refl, refl)
copied_roots fresh k merge (object ∷ rest) = and_roots merge copied (copied_each nat_eq fresh (k + 1) copied rest)
    (copy_roots merge object (fresh k) _ (is_in_upper merge object)) (copied_roots fresh (k + 1) copied rest)
  where
    copied : Merge ℕ
    copied = copy_of nat_eq merge object (fresh k) (merge.files.tree.node object) (is_in_upper merge object)

up_roots : (fresh : Fresh ℕ) (merge : Merge ℕ) (object : ℕ) → SameRoots merge (copied_up nat_eq fresh merge object)
up_roots fresh merge object = copied_roots fresh 0 merge (line_to nat_eq merge.files object)

moved_roots : (fresh : Fresh ℕ) (stack : Stack ℕ) (merge : Merge ℕ) (from : ℕ) (old : List ℕ) (to : ℕ) (new : List ℕ)
    (object : ℕ) → SameRoots merge (merge_with_moved nat_eq fresh stack merge from old to new object)
moved_roots fresh stack merge from old to new object = (
  changed_root merge.files (Move from old to new object),
  root-marked _ _ _ ∙ root-name_left_by _ fresh stack renamed (upper_of merge from) old ∙ changed_root upper
      (Move (upper_of merge from) old (upper_of merge to) new (upper_of merge object)) ∙ root-emptied merge.upper _,
)
  where
    upper : FileTree ℕ
    upper = without_contents nat_eq merge.upper (upper_directory_named merge to new)

    renamed : FileTree ℕ
    renamed = with_moved nat_eq upper (upper_of merge from) old (upper_of merge to) new (upper_of merge object)

merged_roots : (fresh : Fresh ℕ) (stack : Stack ℕ) (merge : Merge ℕ) (change : Change ℕ)
    → SameRoots merge (merge_changed nat_eq fresh stack merge change)
merged_roots fresh stack merge (Make directory name number node) =
    and_roots merge copied (merge_with_new nat_eq (odds fresh) stack copied directory name number node)
    (up_roots (evens fresh) merge directory) (refl, root-marked _ _ (odds fresh 0))
  where
    copied : Merge ℕ
    copied = copied_up nat_eq (evens fresh) merge directory
merged_roots fresh stack merge (AddName directory name object) =
    and_roots merge first (merge_with_link nat_eq (copied_up nat_eq (odds fresh) first directory) directory name object)
    (up_roots (evens fresh) merge object) (up_roots (odds fresh) first directory)
  where
    first : Merge ℕ
    first = copied_up nat_eq (evens fresh) merge object
merged_roots fresh stack merge (Remove directory name object) = and_roots merge
    copied (merge_without_name nat_eq (odds fresh) stack copied directory name object) (up_roots _ merge directory) (
      refl,
      root-emptied _ _ ∙ root-name_left_by _ (odds fresh) stack copied.upper (upper_of copied directory) name,
    )
  where
    copied : Merge ℕ
    copied = copied_up nat_eq (evens fresh) merge directory
merged_roots fresh stack merge (Move from old to new object) =
    and_roots merge both (merge_with_moved nat_eq (odds (odds fresh)) stack both from old to new object)
    (and_roots merge first both (up_roots (evens fresh) merge object) (up_roots (evens (odds fresh)) first to))
    (moved_roots (odds (odds fresh)) stack both from old to new object)
  where
    first : Merge ℕ
    first = copied_up nat_eq (evens fresh) merge object

    both : Merge ℕ
    both = copied_up nat_eq (evens (odds fresh)) first to
merged_roots fresh stack merge (SetBytes file bytes) = up_roots fresh merge file
merged_roots fresh stack merge (SetAttr object attr) = up_roots fresh merge object
merged_roots fresh stack merge (SetMark directory opaque) = up_roots fresh merge directory
merged_roots fresh stack merge (CopyUp object) = up_roots fresh merge object

module _ (number : ℕ) where
  -- the root of the filesystem that comes first with the number
  abbrev found : Bool → Filesystem ℕ → List (Filesystem ℕ) → Option (Filesystem ℕ)
  found b one others = cond b (Some one) (find (λ filesystem. nat_eq number filesystem.number) others)

  abbrev root_at : Option (Filesystem ℕ) → Option ℕ
  root_at o = option_map (λ filesystem. filesystem.files.tree.root) o

  abbrev root_of : List (Filesystem ℕ) → Option ℕ
  root_of list = root_at (find (λ filesystem. nat_eq number filesystem.number) list)

  -- each filesystem keeps its number and its root
  abbrev Keeps : (Filesystem ℕ → Filesystem ℕ) → Type 0
  Keeps change = (filesystem : Filesystem ℕ) → ((change filesystem).number ≡ filesystem.number)
      × ((change filesystem).files.tree.root ≡ filesystem.files.tree.root)

  mapped : (change : Filesystem ℕ → Filesystem ℕ) → Keeps change → (list : List (Filesystem ℕ))
      → root_of (map change list) ≡ root_of list
  mapped change keeps [] = refl
  mapped change keeps (first ∷ rest) = grind (arith, common_steps, mapped change keeps rest)

  module _ (root : ℕ) where
    abbrev Is : List (Filesystem ℕ) → Type 0
    Is list = root_of list ≡ Some root

    -- one filesystem in its place
    replaced_root : (new : Filesystem ℕ) → (number ≡ new.number → new.files.tree.root ≡ root)
        → (list : List (Filesystem ℕ)) → Is list → Is (map (replaced_if_numbered nat_eq new) list)
    replaced_root new here [] h = h
    replaced_root new here (first ∷ rest) h = grind (arith, common_steps, eqb-true, eq-eqb, replaced_root new here rest)

    -- one filesystem more
    added_root : (new : Filesystem ℕ) (list : List (Filesystem ℕ)) → Is list → Is (list ++ (new ∷ []))
    added_root new [] h = cc
    added_root new (first ∷ rest) h = grind (arith, common_steps, added_root new rest)

    -- the filesystem that is found has it
    root_found : (list : List (Filesystem ℕ)) → Is list → (numbered number list).files.tree.root ≡ root
    root_found list = grind (arith, common_steps, same_Some)

    -- What a permit leaves
    -- a filesystem that is found by a number has it, if the number is this one
    its_root : (world : World ℕ) (shown : ℕ) → Is world.filesystems
        → number ≡ (numbered shown world.filesystems).number → (numbered shown world.filesystems).files.tree.root ≡ root
    its_root world shown h same = cc (number_numbered shown world.filesystems, root_found world.filesystems h)

    change_root : (fresh : Fresh ℕ) (world : World ℕ) (location : Location ℕ) (change : Change ℕ)
        → Is world.filesystems → Is (with_change nat_eq fresh world location change).filesystems
    change_root fresh world location change h = by at.overlay
      where
        shown : ℕ
        shown = (mount_at nat_eq world location).filesystem

        at : Filesystem ℕ
        at = filesystem_at nat_eq world location

        merged_in : (overlay : Overlay ℕ) (upper : Option (Layer ℕ))
            → Is (overlay_changed nat_eq fresh world at overlay upper change).filesystems
        merged_in overlay None = h
        merged_in overlay (Some upper) = replaced_root _ (λ same. roots.1 ∙ its_root world upper.filesystem h same) _
            (replaced_root new (λ same. roots.0 ∙ its_root world shown h same) world.filesystems h)
          where
            below : Filesystem ℕ
            below = filesystem_numbered nat_eq world upper.filesystem

            was : Merge ℕ
            was = merge_of nat_eq world at overlay upper

            merge : Merge ℕ
            merge = merge_changed nat_eq fresh (stack_of nat_eq world overlay upper) was change

            new : Filesystem ℕ
            new = record at { files = merge.files; overlay = Some (record overlay { real = merge.real }) }

            roots : SameRoots was merge
            roots = merged_roots fresh (stack_of nat_eq world overlay upper) was change

        by : (o : Option (Overlay ℕ)) → Is (filesystem_changed nat_eq fresh world at o change).filesystems
        by None = replaced_root _ (λ same. changed_root at.files change ∙ its_root world shown h same) _ h
        by (Some overlay) = merged_in overlay overlay.upper

    module _ (fresh : Fresh ℕ) (world : World ℕ) (h : Is world.filesystems) where
      abbrev same_list : (list : List (Filesystem ℕ)) → list ≡ world.filesystems → Is list
      same_list list e = subst Is (sym e) h

      replaced_left : (replaced : Option (Location ℕ)) (location : Location ℕ) (change : Change ℕ)
          → Is (with_change nat_eq fresh (without_replaced nat_eq world replaced) location change).filesystems
      replaced_left replaced location change = change_root fresh (without_replaced nat_eq world replaced)
          location change (same_list _ (filesystems-without_replaced world replaced))

      copied_left : (copies : Bool) (file : Location ℕ) → Is (with_copy nat_eq copies fresh world file).filesystems
      copied_left true file = change_root fresh world file (CopyUp file.node) h
      copied_left false file = h

      written_left : (file : Location ℕ) (offset : ℕ) (bytes : List ℕ)
          → Is (pwritten nat_eq fresh world file offset bytes).filesystems
      written_left file offset [] = h
      written_left file offset (byte ∷ bytes) = change_root fresh world file _ h

      root_left : (task : Task ℕ) (permit : Permit ℕ) → Is (apply nat_eq fresh world task permit).world.filesystems
      root_left task (ToChange location change) = change_root fresh world location change h
      root_left task (ToMake directory name node) = change_root (odds fresh) world directory _ h
      root_left task (ToRemoveDirectory parent name directory) = replaced_left (Some directory) parent _
      root_left task (ToRename from old to new object replaced) = replaced_left replaced from _
      root_left task (ToOpen file access) = copied_left (is_copied_up nat_eq world file access) file
      root_left task (ToOpenNew directory name node access) = change_root (odds fresh) world directory _ h
      root_left task (ToWritePart file offset bytes) = written_left file offset bytes
      root_left task ToExit = same_list _ (filesystems-taken_away (without_task world task.name) _)
      root_left task ToUnshare = same_list _ (filesystems-taken_away (unshared nat_eq world fresh task) _)
      root_left task (ToEnterNamespace namespace) = grind (arith, common_steps, filesystems-taken_away)
      root_left task (ToMountPlain place flags) = added_root (plain_filesystem nat_eq fresh) world.filesystems h
      root_left task (ToMountOverlay place overlay flags) = added_root _ world.filesystems h
      root_left task (ToUnmount mount) = same_list _ (filesystems-taken_away world _)
      root_left task (ToUnmountLazily mount) = grind (arith, common_steps, lazily_filesystems)
      root_left task (ToSetType mount word recursive) = same_list _ (typed_filesystems fresh world mount word recursive)
      root_left task permit = h

  -- What the sweep and the raising of change numbers leave
  raises : (changes : List ℕ) → Keeps (raised_if_changed nat_eq changes)
  raises changes filesystem = grind (arith, common_steps)

  only_used_keeps : (world : World ℕ) (chosen : Filesystem ℕ → Bool)
      → Keeps (λ filesystem. only_used nat_eq world (chosen filesystem) filesystem)
  only_used_keeps world chosen filesystem = grind (arith, common_steps)

  -- filesystems that go: whether one does goes by its number
  filtered : (lives : ℕ → Bool) (list : List (Filesystem ℕ))
      → (root_of (filter (λ filesystem. lives filesystem.number) list) ≡ root_of list)
      ⊎ (root_of (filter (λ filesystem. lives filesystem.number) list) ≡ None)
  filtered lives list = by_number (lives number) refl
    where
      passing : (filesystem : Filesystem ℕ) → Bool
      passing filesystem = lives filesystem.number

      stays : lives number ≡ true → (list : List (Filesystem ℕ)) → root_of (filter passing list) ≡ root_of list
      stays alive [] = refl
      stays alive (first ∷ rest) = grind (arith, common_steps, true≢false, eqb-true, stays alive rest)

      goes : lives number ≡ false → (list : List (Filesystem ℕ)) → root_of (filter passing list) ≡ None
      goes dead [] = refl
      goes dead (first ∷ rest) = grind (arith, common_steps, true≢false, eqb-true, goes dead rest)

      by_number : (b : Bool) → lives number ≡ b
          → (root_of (filter passing list) ≡ root_of list) ⊎ (root_of (filter passing list) ≡ None)
      by_number true e = inl (stays e list)
      by_number false e = inr (goes e list)

  settled_root : (world : World ℕ) → (root_of (settled nat_eq world).filesystems ≡ root_of world.filesystems)
      ⊎ (root_of (settled nat_eq world).filesystems ≡ None)
  settled_root world = subst (λ o. (o ≡ root_of world.filesystems) ⊎ (o ≡ None)) (sym used)
      (filtered (λ n. filesystem_lives nat_eq mounted (no_filesystem n)) world.filesystems)
    where
      mounted : World ℕ
      mounted = without_dead_mounts nat_eq world

      living : World ℕ
      living = without_dead_filesystems nat_eq mounted

      merged : World ℕ
      merged = without_dead_in nat_eq is_overlay living

      used : root_of (settled nat_eq world).filesystems ≡ root_of living.filesystems
      used = mapped _ (only_used_keeps merged _) merged.filesystems ∙ mapped _ (only_used_keeps living is_overlay) _

pub roots_stay : RootsStay
roots_stay fresh world name call filesystem root is =
    subst (λ outcome. Stays outcome.world) (sym (policy_judges_then_applies fresh world name call))
    (by_task (task_called world name))
  where
    Stays : World ℕ → Type 0
    Stays left = (root_in left filesystem ≡ Some root) ⊎ (root_in left filesystem ≡ None)

    finished_stays : (looks : Bool) (changes : List ℕ) (outcome : Outcome ℕ)
        → root_in outcome.world filesystem ≡ Some root
        → Stays (finished_unless nat_eq looks world name changes outcome).world
    finished_stays true changes outcome h = inl h
    finished_stays false changes outcome h = grind (arith, common_steps, settled_root, mapped, raises)

    by_permit : (changes : List ℕ) (task : Task ℕ) (judgement : Judgement ℕ)
        → Stays (finished nat_eq world name call changes (after world judgement (apply nat_eq fresh world task))).world
    by_permit changes task (Ok permit) = finished_stays _ changes _ (root_left _ root fresh world is task permit)
    by_permit changes task (Err deny) = finished_stays (only_looks call || true) changes (denied world deny) is

    by_task : (o : Option (Task ℕ)) → Stays (after world (ok_or o (denial S2)) (λ task.
        finished nat_eq world name call (filesystems_changed_by nat_eq world (judge_in nat_eq fresh world task call))
        (after world (judge_in nat_eq fresh world task call) (apply nat_eq fresh world task)))).world
    by_task None = inl is
    by_task (Some task) = by_permit _ task (judge_in nat_eq fresh world task call)
