-- The sweep after a change of one plain tree, where inodes count their uses.
use Rattle.std.proofs.Common.{◌≡◌, ◌≢◌, refl, sym, ap, subst, ◌∙◌, ⊎_elim, inl, inr, ℕ, ◌+◌, ◌≤◌, nat_eq, eqb-true, eq-eqb, ne_eqb, Bool, true, false, true≢false, cond, not, List, [], ◌∷◌, ◌++◌, map, filter, find, flat_map, Option, Some, None, is_some, unwrap_or, arith}
use Rattle.vt_spec.proofs.Common.{FileTree, Filesystem, Inode, Inodes, Node, World, any_pair, common_steps, filesystem_lives, filesystem_numbered, is_among, is_overlay, is_some-node_in, layers_in, layers_of, list_all, located_in, map_alike, map_twice, named_in, no_filesystem, node_in, node_in-none, objects_of_overlay, only_among, only_used, only_used_by, or_cases, overlay_or, replaced_if_numbered, settled, targets_in, used_in, uses_in, uses_in-none, with_files, without_dead_filesystems, without_dead_in, without_dead_mounts}
use Rattle.vt_laws_mounts.specs.LettingGo.Counts.{inode_uses, times}
use Rattle.vt_laws_mounts.specs.LettingGo.InUse.{AllInUse, IsListedTree, has_upper_in, is_inode_used}
use Rattle.vt_laws_mounts.specs.LettingGo.OneByOne as LettingGo
use Rattle.vt_laws_mounts.specs.LettingGo.TreeChanges.{with_tree}
use Rattle.vt_laws_mounts.proofs.letting_go.sweeps.InUse.{UnusedAreEmpty, filesystems_stay, groups_stay, mounts_stay, named-left, no_objects, no_upper_objects}
use Rattle.vt_laws_mounts.proofs.letting_go.Lists.{Among, among-from_map, among_from_all, among_from_list_all, among_numbers, flat_map-step, flat_map_none, list_all_from_among, none_from_among}
use Rattle.vt_laws_mounts.proofs.counts.counting.Counts
use Rattle.vt_laws_mounts.proofs.counts.counting.Counts.{one_if-itself}
use Rattle.vt_laws_mounts.proofs.counts.counting.Entries.{named_by, one_if}
use Rattle.vt_laws_mounts.proofs.counts.counting.Times.{among_times, as_long, times_among, times_append, times_filter, times_in}
use Rattle.vt_laws_mounts.specs.Counts.Counted.{IsCounted, IsPlain}
use Rattle.vt_laws_mounts.specs.Counts.BesideOverlays.{HasNoUpperIn}
use Rattle.vt_laws_mounts.proofs.counts.Listed.{no_repeats, once_or_none}
use Rattle.vt_laws_mounts.proofs.counts.changing.TreeCounts.{IsStart, IsTallied, other_uses, uses_of}
use Rattle.vt_spec.proofs.Inodes.{node_in_is_there}
use Rattle.vt_laws_mounts.proofs.letting_go.leaving.TreesWithOverlays.{lives_alike}
use Rattle.vt_laws_mounts.proofs.letting_go.sweeps.OfWorlds.{found_filesystem}

pub plain_of : (world : World ℕ) → IsPlain world → LettingGo.IsPlain world
plain_of world plain = none_from_among is_overlay world.filesystems
    (λ f m. among_from_all (λ g. is_overlay g ≡ false) world.filesystems plain f m)

-- What uses an inode

pub uses_split : (world : World ℕ) (f : Filesystem ℕ) (n : ℕ) → inode_uses world f n ≡ one_if n f.files.tree.root +
    (((times_in n (named_in f.files) + times_in n (located_in nat_eq world f.number))
    + times_in n (layers_in nat_eq world f.number)) + times_in n
    (flat_map (objects_of_overlay nat_eq f.number) world.filesystems))
uses_split world f n = grind (arith, common_steps, times_in, times_append, one_if)

-- Names aside: the root, locations, layers, and objects of overlays.

abbrev pub base_of : World ℕ → Filesystem ℕ → ℕ → ℕ
base_of world filesystem n = one_if n filesystem.files.tree.root +
    ((times_in n (located_in nat_eq world filesystem.number) + times_in n (layers_in nat_eq world filesystem.number))
    + times_in n (flat_map (objects_of_overlay nat_eq filesystem.number) world.filesystems))

pub uses_are : (world : World ℕ) (filesystem : Filesystem ℕ) (n : ℕ) → inode_uses world filesystem n
    ≡ uses_of (base_of world filesystem) filesystem.files.tree.node filesystem.files.numbers n
uses_are world filesystem n = let split = uses_split world filesystem n in omega arith

-- where no overlay has its upper layer in a filesystem, none has objects there
pub no_objects_in : (number : ℕ) (world : World ℕ) → HasNoUpperIn number world
    → flat_map (objects_of_overlay nat_eq number) world.filesystems ≡ []
no_objects_in number world apart = flat_map_none (objects_of_overlay nat_eq number) world.filesystems
    (λ f m. no_upper_objects world number f
    (among_from_all (λ merged. has_upper_in number merged ≡ false) world.filesystems apart f m))

-- Filesystems by their numbers

pub found_changed : (filesystems : List (Filesystem ℕ)) (number : ℕ) (new : Filesystem ℕ) → new.number ≡ number
    → is_among nat_eq number (map (λ f. f.number) filesystems) ≡ true
    → unwrap_or (find (λ f. nat_eq number f.number) (map (replaced_if_numbered nat_eq new) filesystems))
    (no_filesystem number) ≡ new
found_changed [] number new is there = absurd cc
found_changed (first ∷ rest) number new is there = by _ refl (found_changed rest number new is)
  where
    Found : Filesystem ℕ → Type 0
    Found f = unwrap_or (cond (nat_eq number f.number) (Some f)
        (find (λ f. nat_eq number f.number) (map (replaced_if_numbered nat_eq new) rest))) (no_filesystem number) ≡ new

    by : (b : Bool) → nat_eq new.number first.number ≡ b → (is_among nat_eq number (map (λ f. f.number) rest) ≡ true
        → unwrap_or (find (λ f. nat_eq number f.number) (map (replaced_if_numbered nat_eq new) rest))
        (no_filesystem number) ≡ new) → Found (cond b new first)
    by b e later = grind (arith, common_steps, eq-eqb number new.number (sym is))

pub found_other : (filesystems : List (Filesystem ℕ)) (other : ℕ) (new : Filesystem ℕ) → other ≢ new.number
    → unwrap_or (find (λ f. nat_eq other f.number) (map (replaced_if_numbered nat_eq new) filesystems))
    (no_filesystem other) ≡ unwrap_or (find (λ f. nat_eq other f.number) filesystems) (no_filesystem other)
found_other [] other new apart = refl
found_other (first ∷ rest) other new apart = by _ refl (found_other rest other new apart)
  where
    later_new : Option (Filesystem ℕ)
    later_new = find (λ f. nat_eq other f.number) (map (replaced_if_numbered nat_eq new) rest)

    later_old : Option (Filesystem ℕ)
    later_old = find (λ f. nat_eq other f.number) rest

    by : (b : Bool) → nat_eq new.number first.number ≡ b → unwrap_or later_new (no_filesystem other)
        ≡ unwrap_or later_old (no_filesystem other)
        → unwrap_or (cond (nat_eq other (cond b new first).number) (Some (cond b new first)) later_new)
        (no_filesystem other)
        ≡ unwrap_or (cond (nat_eq other first.number) (Some first) later_old) (no_filesystem other)
    by true e later = cc (
      ne_eqb other new.number apart,
      ne_eqb other first.number (λ same. apart (same ∙ sym (eqb-true new.number first.number e))),
    )
    by false e later = here _
      where
        here : (c : Bool) → unwrap_or (cond c (Some first) later_new) (no_filesystem other)
            ≡ unwrap_or (cond c (Some first) later_old) (no_filesystem other)
        here true = refl
        here false = later

pub found_is : (filesystems : List (Filesystem ℕ)) (number : ℕ)
    → is_among nat_eq number (map (λ f. f.number) filesystems) ≡ true
    → Among (unwrap_or (find (λ f. nat_eq number f.number) filesystems) (no_filesystem number)) filesystems
found_is [] number there = absurd cc
found_is (first ∷ rest) number there = by _ refl (found_is rest number)
  where
    by : (b : Bool) → nat_eq number first.number ≡ b → (is_among nat_eq number (map (λ f. f.number) rest) ≡ true
        → Among (unwrap_or (find (λ f. nat_eq number f.number) rest) (no_filesystem number)) rest)
        → Among (unwrap_or (cond b (Some first) (find (λ f. nat_eq number f.number) rest)) (no_filesystem number))
        (first ∷ rest)
    by true e later = inl refl
    by false e later = inr (later (⊎_elim (λ here. absurd (true≢false (sym here ∙ e))) (λ rest. rest)
        (or_cases _ _ there)))

pub found_number : (filesystems : List (Filesystem ℕ)) (number : ℕ)
    → (unwrap_or (find (λ f. nat_eq number f.number) filesystems) (no_filesystem number)).number ≡ number
found_number [] number = refl
found_number (first ∷ rest) number = grind (arith, common_steps, eqb-true, found_number rest number)

pub not_found : (filesystems : List (Filesystem ℕ)) (number : ℕ)
    → is_among nat_eq number (map (λ f. f.number) filesystems) ≡ false
    → unwrap_or (find (λ f. nat_eq number f.number) filesystems) (no_filesystem number) ≡ no_filesystem number
not_found [] number none = refl
not_found (first ∷ rest) number none = grind (arith, common_steps, none, true≢false, not_found rest number)

-- a filesystem with counted inodes is there
pub there_if_some : (searched world : World ℕ) (number : ℕ) (inodes : Inodes ℕ)
    → IsCounted world (filesystem_numbered nat_eq searched number) inodes
    → is_among nat_eq number (map (λ f. f.number) searched.filesystems) ≡ true
there_if_some searched world number inodes counted = by _ refl
  where
    by : (b : Bool) → is_among nat_eq number (map (λ f. f.number) searched.filesystems) ≡ b
        → is_among nat_eq number (map (λ f. f.number) searched.filesystems) ≡ true
    by true e = e
    by false e =
        let missing : IsCounted world (no_filesystem number) inodes = subst (λ f. IsCounted world f inodes)
        (not_found _ number e) counted in
        let none : uses_in (inodes.inode number) ≡ 0 = unused _ (missing.node number) in
        let all : uses_in (inodes.inode number) ≡ times (nat_eq number)
        (used_in nat_eq world (no_filesystem number)) = missing.uses number in
        let own = one_if-itself number in
        let some : times (nat_eq number) (used_in nat_eq world (no_filesystem number))
        ≡ one_if number number + times (nat_eq number) others = refl in
        absurd (omega arith)
      where
        unused : (o : Option (Inode ℕ)) → node_in o ≡ None → uses_in o ≡ 0
        unused None e = refl
        unused (Some inode) e = cc

        others : List ℕ
        others = named_in (no_filesystem number).files ++ located_in nat_eq world number
            ++ layers_in nat_eq world number ++ flat_map (objects_of_overlay nat_eq number) world.filesystems

pub there_if_counted : (world : World ℕ) (number : ℕ) (inodes : Inodes ℕ)
    → IsCounted world (filesystem_numbered nat_eq world number) inodes
    → is_among nat_eq number (map (λ f. f.number) world.filesystems) ≡ true
there_if_counted world number inodes counted = there_if_some world world number inodes counted

pub start_counts : (world : World ℕ) (filesystem : Filesystem ℕ) (inodes : Inodes ℕ) → IsListedTree filesystem.files
    → list_all (is_inode_used world filesystem) filesystem.files.numbers ≡ true → IsCounted world filesystem inodes
    → Counts.IsCounted (inode_uses world filesystem) filesystem.files.tree.node inodes
start_counts world filesystem inodes tree used counted = record {
  uses_are = counted.uses;
  in_use = λ n there.
      let e = counted.uses n in
      let some = among_times n (used_in nat_eq world filesystem)
      (among_from_list_all (is_inode_used world filesystem) filesystem.files.numbers used n
      (among_numbers n filesystem.files.numbers (tree.numbers n ∙ sym (same_there n) ∙ there))) in
      omega arith;
  kept = λ n there. sym (counted.node n);
  emptied = λ n none. ap targets_in (sym (counted.node n)) ∙ ap targets_in (node_in-none (inodes.inode n) none);
  list = filesystem.files.numbers;
  listed = λ n. once_or_none n filesystem.files.numbers counted.once
      ∙ ap (λ b. cond b 1 0) (tree.numbers n ∙ sym (same_there n));
  as_many = counted.count;
}
  where
    same_there : (n : ℕ) → is_some (inodes.inode n) ≡ is_some (filesystem.files.tree.node n)
    same_there n = sym (is_some-node_in _) ∙ ap is_some (counted.node n)

-- The counted inodes before a change
pub counted_start : (world : World ℕ) (filesystem : Filesystem ℕ) (inodes : Inodes ℕ) → IsListedTree filesystem.files
    → list_all (is_inode_used world filesystem) filesystem.files.numbers ≡ true → IsCounted world filesystem inodes
    → IsStart (base_of world filesystem) filesystem.files.tree.node filesystem.files.numbers inodes
counted_start world filesystem inodes tree used counted = record {
  tallied = record {
    counted = other_uses (inode_uses world filesystem)
        (uses_of (base_of world filesystem) filesystem.files.tree.node filesystem.files.numbers)
        filesystem.files.tree.node inodes
        (uses_are world filesystem) (start_counts world filesystem inodes tree used counted);
    once = λ n. once_or_none n filesystem.files.numbers counted.once ∙ ap (λ b. cond b 1 0) (tree.numbers n);
  };
  same = counted.node;
  in_order = tree.tree.in_order;
}

-- The sweep
module _ (world : World ℕ) (number : ℕ) (files : FileTree ℕ) (in_use : AllInUse world)
    (one : any_pair (λ (a b : Filesystem ℕ). nat_eq a.number b.number) world.filesystems ≡ false)
    (plain : is_overlay (filesystem_numbered nat_eq world number) ≡ false)
    (there : is_among nat_eq number (map (λ f. f.number) world.filesystems) ≡ true) where
  abbrev pub old : Filesystem ℕ
  old = filesystem_numbered nat_eq world number

  abbrev pub new : Filesystem ℕ
  new = with_files old files

  abbrev pub raw : World ℕ
  raw = with_tree world number files

  abbrev pub used : List ℕ
  used = used_in nat_eq raw new

  abbrev pub swept : FileTree ℕ
  swept = only_among nat_eq used files

  abbrev pub done : World ℕ
  done = with_tree world number swept

  -- the one of that number is the old one
  is_old : (f : Filesystem ℕ) → Among f world.filesystems → nat_eq old.number f.number ≡ true → f ≡ old
  is_old f m e = sym (found_filesystem _ one f m) ∙ ap (filesystem_numbered nat_eq world)
      (sym (eqb-true old.number f.number e) ∙ found_number _ number)

  -- each keeps its number and its overlay
  number_kept : (some : FileTree ℕ) (f : Filesystem ℕ) → Among f world.filesystems
      → (replaced_if_numbered nat_eq (with_files old some) f).number ≡ f.number
  number_kept some f m = grind (arith, common_steps, eqb-true)

  overlay_kept : (some : FileTree ℕ) (f : Filesystem ℕ) → Among f world.filesystems
      → (replaced_if_numbered nat_eq (with_files old some) f).overlay ≡ f.overlay
  overlay_kept some f m = grind (arith, common_steps, is_old)

  layers_kept : (some : FileTree ℕ) (k : ℕ)
      → layers_in nat_eq (with_tree world number some) k ≡ layers_in nat_eq world k
  layers_kept some k = ap (λ layers. map (λ layer. layer.directory) (filter (λ layer. nat_eq k layer.filesystem)
      layers)) (flat_map-step _ _ _ (λ f m. ap (overlay_or [] layers_of) (overlay_kept some f m)))

  objects_kept : (some : FileTree ℕ) (k : ℕ)
      → flat_map (objects_of_overlay nat_eq k) (with_tree world number some).filesystems
      ≡ flat_map (objects_of_overlay nat_eq k) world.filesystems
  objects_kept some k = grind (arith, common_steps, flat_map-step, no_objects, is_old)

  -- so no mount and no filesystem goes
  same_living : without_dead_filesystems nat_eq (without_dead_mounts nat_eq raw) ≡ raw
  same_living = ap (without_dead_filesystems nat_eq) (mounts_stay raw in_use.mounts) ∙ filesystems_stay raw
      (list_all_from_among (filesystem_lives nat_eq raw) raw.filesystems (λ g m.
      let from = among-from_map (replaced_if_numbered nat_eq new) world.filesystems g m in
      ap (filesystem_lives nat_eq raw) from.2 ∙ lives_alike world (replaced_if_numbered nat_eq new) (number_kept files)
      (λ f n. ap (overlay_or [] layers_of) (overlay_kept files f n)) from.0 from.1
      ∙ among_from_list_all (filesystem_lives nat_eq world) world.filesystems in_use.filesystems from.0 from.1))

  -- inodes of other filesystems stay
  used_same : (some : FileTree ℕ) (f : Filesystem ℕ)
      → used_in nat_eq (with_tree world number some) f ≡ used_in nat_eq world f
  used_same some f = λ i. f.files.tree.root ∷ (named_in f.files ++ located_in nat_eq world f.number
      ++ layers_kept some f.number i ++ objects_kept some f.number i)

  base_same : (some : FileTree ℕ) (n : ℕ) → base_of (with_tree world number some) old n ≡ base_of world old n
  base_same some n = λ i. one_if n old.files.tree.root +
      ((times_in n (located_in nat_eq world old.number) + times_in n (layers_kept some old.number i))
      + times_in n (objects_kept some old.number i))

  -- what was there is used still
  all_used : (f : Filesystem ℕ) → Among f world.filesystems
      → list_all (λ n. is_among nat_eq n (used_in nat_eq raw f)) f.files.numbers ≡ true
  all_used f m = ap (λ u. list_all (λ n. is_among nat_eq n u) f.files.numbers) (used_same files f)
      ∙ among_from_all (λ g. list_all (is_inode_used world g) g.files.numbers
      ≡ true) world.filesystems in_use.inodes f m

  stays_chosen : (chosen : Bool) (f : Filesystem ℕ) → Among f world.filesystems → only_used nat_eq raw chosen f ≡ f
  stays_chosen true f m = ap (λ b. only_used_by nat_eq b (used_in nat_eq raw f) f) (all_used f m)
  stays_chosen false f m = refl

  -- nothing of an overlay goes
  no_overlays : without_dead_in nat_eq is_overlay raw ≡ raw
  no_overlays = ap (λ filesystems. record raw { filesystems = filesystems })
      (map_twice _ _ _ ∙ map_alike _ _ _ (λ f m. by f m _))
    where
      by : (f : Filesystem ℕ) → Among f world.filesystems → (b : Bool)
          → only_used nat_eq raw (is_overlay (cond b new f)) (cond b new f) ≡ cond b new f
      by f m true = ap (λ b. only_used nat_eq raw b new) plain
      by f m false = stays_chosen _ f m

  abbrev step : Filesystem ℕ → Filesystem ℕ
  step f = only_used nat_eq raw (not (is_overlay f)) f

  stays : (f : Filesystem ℕ) → Among f world.filesystems → step f ≡ f
  stays f m = stays_chosen _ f m

  module _ (once : (n : ℕ) → times_in n files.numbers ≡ cond (is_some (files.tree.node n)) 1 0) where
    -- where all are used, all are kept
    pub all_kept : list_all (λ n. is_among nat_eq n used) files.numbers ≡ true → files ≡ swept
    all_kept all = λ i. record {
      tree = record { root = files.tree.root; node = λ n. kept n i };
      numbers = same i;
    }
      where
        kept : (n : ℕ) → files.tree.node n ≡ cond (is_among nat_eq n used) (files.tree.node n) None
        kept n = by _ refl
          where
            none : (o : Option (Node ℕ)) (b : Bool) → is_some o ≡ false → o ≡ cond b o None
            none None true e = refl
            none None false e = refl
            none (Some x) b e = cc

            by : (b : Bool) → is_some (files.tree.node n) ≡ b
                → files.tree.node n ≡ cond (is_among nat_eq n used) (files.tree.node n) None
            by true e = sym (ap (λ b. cond b (files.tree.node n) None) (among_from_list_all _ _ all n
                (among_numbers n _ (times_among n files.numbers (let one : times_in n files.numbers ≡ 1 = once n ∙ ap
                (λ b. cond b 1 0) e in omega arith)))))
            by false e = none _ _ e

        same : files.numbers ≡ filter (λ n. is_among nat_eq n used) files.numbers
        same = sym (Rattle.vt_laws_mounts.proofs.letting_go.Lists.filter_all (λ n. is_among nat_eq n used) files.numbers
            (among_from_list_all _ _ all))

    step_new : step new ≡ with_files old swept
    step_new = grind (arith, common_steps, all_kept)

    inodes_swept : without_dead_in nat_eq (λ f. not (is_overlay f)) raw ≡ done
    inodes_swept = ap (λ filesystems. record world { filesystems = filesystems })
        (map_twice step _ _ ∙ map_alike _ _ _ (λ f m. by f m _))
      where
        by : (f : Filesystem ℕ) → Among f world.filesystems → (b : Bool)
            → step (cond b new f) ≡ cond b (with_files old swept) f
        by f m true = step_new
        by f m false = stays f m

    pub settled_is : settled nat_eq raw ≡ done
    settled_is = cc (same_living, no_overlays, inodes_swept, groups_stay done in_use.groups)

    pub found_done : filesystem_numbered nat_eq done number ≡ with_files old swept
    found_done = found_changed _ number _ (found_number _ number) there

  -- the inodes of other filesystems are used as before
  pub others_stay : (other : ℕ) (inodes : Inodes ℕ) → other ≢ number
      → IsCounted world (filesystem_numbered nat_eq world other) inodes
      → IsCounted done (filesystem_numbered nat_eq done other) inodes
  others_stay other inodes apart counted = subst (λ f. IsCounted done f inodes)
      (sym (found_other world.filesystems other (with_files old swept)
      (λ e. apart (e ∙ found_number world.filesystems number)))) (record {
        root = counted.root;
        node = counted.node;
        uses = λ n. counted.uses n ∙ ap (times (nat_eq n))
            (sym (used_same swept (filesystem_numbered nat_eq world other)));
        count = counted.count;
        once = counted.once;
      })

  -- what is left are the counted inodes
  module _ (inodes : Inodes ℕ) (root : inodes.root ≡ files.tree.root)
      (root_same : files.tree.root ≡ old.files.tree.root)
      (tallied : IsTallied (base_of world old) files.tree.node files.numbers inodes) where
    -- the uses but by names, with another root
    abbrev base_from : World ℕ → ℕ → ℕ → ℕ
    base_from some root n = one_if n root +
        ((times_in n (located_in nat_eq some old.number) + times_in n (layers_in nat_eq some old.number))
        + times_in n (flat_map (objects_of_overlay nat_eq old.number) some.filesystems))

    used_times : (n : ℕ) → uses_in (inodes.inode n) ≡ times_in n used
    used_times n = cc (tallied.counted.uses_are n, base_same files n, root_same, uses_are raw new n)

    pub used_there : (n : ℕ) → is_among nat_eq n used ≡ is_some (inodes.inode n)
    used_there n = by _ refl
      where
        none : (b : Bool) → is_among nat_eq n used ≡ b → times_in n used ≡ 0 → b ≡ false
        none true e zero_times = absurd (let some = among_times n used e in omega arith)
        none false e zero_times = refl

        by : (b : Bool) → is_some (inodes.inode n) ≡ b → is_among nat_eq n used ≡ b
        by true e = times_among n used (let some = tallied.counted.in_use n e in let same = used_times n in omega arith)
        by false e = none _ refl (sym (used_times n) ∙ uses_in-none _ e)

    unused_empty : UnusedAreEmpty used new
    unused_empty n e = tallied.counted.emptied n (sym (used_there n) ∙ e)

    node_left : (n : ℕ) → node_in (inodes.inode n) ≡ cond (is_among nat_eq n used) (files.tree.node n) None
    node_left n = cc (by _ refl, used_there n)
      where
        by : (b : Bool) → is_some (inodes.inode n) ≡ b
            → node_in (inodes.inode n) ≡ cond (is_some (inodes.inode n)) (files.tree.node n) None
        by true e = cc (tallied.counted.kept n e)
        by false e = cc (node_in-none _ e)

    pub times_left : (n : ℕ) → times_in n swept.numbers ≡ cond (is_some (inodes.inode n)) 1 0
    times_left n = times_filter (λ m. is_among nat_eq m used) n files.numbers
        ∙ ap (λ b. cond b (times_in n files.numbers) 0) (used_there n) ∙ by (is_some (inodes.inode n)) refl
      where
        by : (b : Bool) → is_some (inodes.inode n) ≡ b → cond b (times_in n files.numbers) 0 ≡ cond b 1 0
        by true e = cc (tallied.once n, tallied.counted.kept n e, node_in_is_there (inodes.inode n) e)
        by false e = refl

    few : (n : ℕ) → times_in n swept.numbers ≤ 1
    few n = grind (arith, common_steps, times_left n, times_in n swept.numbers)

    pub counted_done : IsCounted done (with_files old swept) inodes
    counted_done = record {
      root = root;
      node = node_left;
      uses = λ n. tallied.counted.uses_are n
          ∙ ap (λ m. m + times_in n (named_by files.tree.node files.numbers)) (sym (base_same swept n))
          ∙ (λ i. base_from done (sym root_same i) n + times_in n (sym (named-left used new unused_empty false) i))
          ∙ sym (uses_are done (with_files old swept) n);
      count = tallied.counted.as_many
          ∙ as_long tallied.counted.list swept.numbers (λ n. tallied.counted.listed n ∙ sym (times_left n));
      once = no_repeats swept.numbers few;
    }
