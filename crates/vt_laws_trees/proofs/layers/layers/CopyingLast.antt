-- An object is copied behind the directories above it: its copy has no names in it, and stands under its name.
use Rattle.std.proofs.Common.{◌≡◌, ◌≢◌, ◌≤◌, refl, sym, ap, subst, ◌∙◌, true≢false, arith, ℕ, zero, suc, ◌+◌, nat_eq, eq-eqb, ne_eqb, Bool, true, false, cond, List, [], ◌∷◌, ◌++◌, length, Option, Some, None, is_some, ⊎_elim}
use Rattle.vt_spec.proofs.Common.{FileTree, Fresh, IsTree, Merge, Node, Real, Upper, a_name, ancestors, chain, common_steps, copied_content, copied_each, copied_up, copy_of, copy_parent, directories_to, directory_used, entries_in, entries_of-copied_content, entry_at, is_among, is_directory_node, is_in_upper, list_any, list_any-IsPermutation, named_parent, node_set, node_with_entry, same_Some, upper_object, upper_of, with_inode, with_name}
use Rattle.std.proofs.lemmas.List.Sorted.{IsPermutation-reverse}
use Rattle.vt_laws_trees.specs.Layers.Layers.ChangesUpper.{IsCopyOf, IsFitToChange}
use Rattle.vt_laws_trees.proofs.layers.layers.CopyingChanges.{no_loop, path_to}
use Rattle.vt_laws_trees.proofs.layers.layers.CopyingEach.{CopiesAll, each_copied}
use Rattle.vt_laws_trees.proofs.layers.layers.CopyingNames.{name_put}
use Rattle.vt_laws_trees.proofs.layers.layers.CopyingReady.{in_its_line, start}
use Rattle.vt_laws_trees.proofs.layers.layers.CopyingSound.{IsSound, State, is_copy_of}
use Rattle.vt_laws_trees.proofs.layers.layers.LowersKept.{kept_elsewhere}
use Rattle.vt_laws_trees.proofs.layers.layers.UpperChain.{all_above, depth_bound, one_depth, up_at_root, up_from}
use Rattle.vt_laws_trees.proofs.layers.layers.UpperLine.{ReachedIn, has_entries, is_reached_in, named_so, reached_directory}

-- the line up to the root is as long as it is deep
chain_enough : (files : FileTree ℕ) (tree : IsTree files.tree) (steps most directory : ℕ)
    → ReachedIn files.tree steps directory → steps ≤ most
    → chain most (named_parent nat_eq files.tree) directory ≡ chain steps (named_parent nat_eq files.tree) directory
chain_enough files tree zero most directory r h = up_at_root files tree most directory r
chain_enough files tree (suc steps) zero directory r h = let no : ⊥ = omega arith in absurd no
chain_enough files tree (suc steps) (suc most) directory r h = up_from files tree most steps directory r
    ∙ ap (λ l. directory ∷ l) (chain_enough files tree steps most r.0 r.2 (omega arith))
    ∙ sym (up_from files tree steps steps directory r)

-- an object is not above itself
not_in_line : (files : FileTree ℕ) (tree : IsTree files.tree)
    → Rattle.vt_spec.specs.Machine.Invariants.ListsNumbers nat_eq files → (directory : ℕ) (name : List ℕ) (object : ℕ)
    → entry_at files.tree directory name ≡ Some object
    → is_among nat_eq object (directories_to nat_eq files directory) ≡ false
not_in_line files tree numbers directory name object e = by _ refl
  where
    reached : (steps : ℕ) × ReachedIn files.tree steps directory
    reached = is_reached_in files tree directory name object e

    above : is_among nat_eq object (directories_to nat_eq files directory) ≡ true
        → (fewer : ℕ) × (fewer ≤ reached.0) × ReachedIn files.tree fewer object
    above t = all_above files tree reached.0 directory reached.1 object (sym (sym (list_any-IsPermutation
        (nat_eq object) (ancestors nat_eq files directory) _ (IsPermutation-reverse (ancestors nat_eq files directory)))
        ∙ ap (list_any (nat_eq object)) (chain_enough files tree reached.0
        (length files.numbers) directory reached.1 (depth_bound files tree numbers reached.0 directory reached.1))) ∙ t)

    by : (b : Bool) → is_among nat_eq object (directories_to nat_eq files directory) ≡ b
        → is_among nat_eq object (directories_to nat_eq files directory) ≡ false
    by false t = t
    by true t =
        let found = above t in
        let same = one_depth files tree (suc reached.0) found.0 object
        (directory, name, reached.1, e, reached_directory files tree found.0 object found.2) found.2 in
        let h = found.1 in
        let no : ⊥ = omega arith in absurd no

pub copied_one_more : (fresh : Fresh ℕ) (k : ℕ) (merge : Merge ℕ) (list : List ℕ) (last : ℕ)
    → copied_each nat_eq fresh k merge (list ++ last ∷ [])
    ≡ copy_of nat_eq (copied_each nat_eq fresh k merge list) last (fresh (k + length list))
    ((copied_each nat_eq fresh k merge list).files.tree.node last)
    (is_in_upper (copied_each nat_eq fresh k merge list) last)
copied_one_more fresh k merge [] last =
    ap (λ n. copy_of nat_eq merge last (fresh n) (merge.files.tree.node last) (is_in_upper merge last)) (omega arith)
copied_one_more fresh k merge (object ∷ list) last =
    let next = copy_of nat_eq merge object (fresh k) (merge.files.tree.node object) (is_in_upper merge object) in
    copied_one_more fresh (k + 1) next list last
    ∙ ap (λ n. copy_of nat_eq (copied_each nat_eq fresh (k + 1) next list) last (fresh n)
    ((copied_each nat_eq fresh (k + 1) next list).files.tree.node last)
    (is_in_upper (copied_each nat_eq fresh (k + 1) next list) last)) (omega arith)

module _ (fresh : Fresh ℕ) (before : Merge ℕ) (fit : IsFitToChange fresh before) (object : ℕ) (node : Node ℕ)
    (is_node : before.files.tree.node object ≡ Some node) (below : upper_object (before.real object) ≡ None) where
  abbrev files : FileTree ℕ
  files = before.files

  abbrev unspared : ℕ → Type 0
  unspared number = ⊥

  -- what is to be shown
  pub record CopyStands (merge : Merge ℕ) : Type 0 where
    pub copy : ℕ
    pub real : upper_object (merge.real object) ≡ Some copy
    pub is : IsCopyOf (files.tree.node object) (merge.upper.tree.node copy)
    pub empty : entries_in (merge.upper.tree.node copy) ≡ []
    pub named : (name : ℕ × List ℕ) → a_name nat_eq files object ≡ Some name
        → entry_at merge.upper.tree (upper_of merge name.0) name.1 ≡ Some copy

  unnamed_stands : a_name nat_eq files object ≡ None
      → CopyStands (copy_of nat_eq before object (fresh 0) (Some node) false)
  unnamed_stands e =
      let copied : Node ℕ = record {
        attr = node.attr;
        content = copied_content (copy_parent before (fresh 0) (a_name nat_eq files object)) node.content;
      } in
      let there : (copy_of nat_eq before object (fresh 0) (Some node) false).upper.tree.node (fresh 0)
      ≡ Some copied = cc (e, node_set before.upper.tree (fresh 0) (Some copied)) in
      record {
        copy = fresh 0;
        real = ap (λ b. upper_object (cond b (Some (Upper (fresh 0))) (before.real object)))
            (eq-eqb object object refl);
        is = subst (IsCopyOf (files.tree.node object)) (sym there) (is_copy_of _ (files.tree.node object) node is_node);
        empty = ap entries_in there ∙ entries_of-copied_content _ node.content;
        named = λ name is. absurd (true≢false (sym (ap is_some (sym e ∙ is))));
      }

  -- under its name, in a directory that stands in the upper layer
  module _ (real : ℕ → Option (Real ℕ)) (upper : FileTree ℕ) (sound : IsSound files before.real unspared real upper)
      (copy : ℕ) (name : ℕ × List ℕ) (e : a_name nat_eq files object ≡ Some name)
      (entry : entry_at files.tree name.0 name.1 ≡ Some object) (parent : ℕ)
      (u : upper_object (real name.0) ≡ Some parent) (differ : parent ≢ copy) where
    abbrev state : Merge ℕ
    state = State files before.real unspared real upper

    abbrev copied : Node ℕ
    copied = record {
      attr = node.attr;
      content = copied_content (copy_parent state copy (a_name nat_eq files object)) node.content;
    }

    abbrev added : FileTree ℕ
    added = with_inode nat_eq upper copy copied

    abbrev later : Merge ℕ
    later = copy_of nat_eq state object copy (Some node) false

    upper_is : later.upper ≡ with_name nat_eq added parent name.1 copy
    upper_is = cc (e, u)

    there : later.upper.tree.node copy ≡ Some copied
    there = ap (λ t. t.tree.node copy) upper_is ∙ kept_elsewhere added parent (node_with_entry name.1 copy) copy
        (ne_eqb copy parent (λ same. differ (sym same))) ∙ node_set upper.tree copy (Some copied)

    parent_stays : upper_of later name.0 ≡ parent
    parent_stays =
        cc (ne_eqb name.0 object (λ same. no_loop files fit.tree name.0 name.1 (entry ∙ ap Some (sym same))), u)

    has_name : entry_at later.upper.tree (upper_of later name.0) name.1 ≡ Some copy
    has_name = ap (λ n. entry_at later.upper.tree n name.1) parent_stays ∙ ap (λ t. entry_at t.tree parent name.1)
        upper_is ∙ ap (λ o. Rattle.vt_spec.specs.Tree.entry_named name.1 (entries_in o)) (node_set added.tree parent _)
        ∙ name_put name.1 copy (added.tree.node parent)
        (ap is_directory_node (ap (λ b. cond b (Some copied) (upper.tree.node parent)) (ne_eqb parent copy differ))
        ∙ sound.kinds (path_to files fit.tree name.0 name.1 object entry).0 name.0 parent
        (path_to files fit.tree name.0 name.1 object entry).1 u ∙ has_entries files.tree name.0 name.1 object entry)

    under_name : CopyStands later
    under_name = record {
      copy = copy;
      real = ap (λ b. upper_object (cond b (Some (Upper copy)) (real object))) (eq-eqb object object refl);
      is = subst (IsCopyOf (files.tree.node object)) (sym there) (is_copy_of _ (files.tree.node object) node is_node);
      empty = ap entries_in there ∙ entries_of-copied_content _ node.content;
      named = λ other is. subst (λ n. entry_at later.upper.tree (upper_of later n.0) n.1 ≡ Some copy)
          (same_Some name other (sym e ∙ is)) has_name;
    }

  named_stands : (name : ℕ × List ℕ) → a_name nat_eq files object ≡ Some name
      → CopyStands (copied_each nat_eq fresh 0 before (directories_to nat_eq files name.0 ++ object ∷ []))
  named_stands name e = subst CopyStands
      (sym (copied_one_more fresh 0 before (directories_to nat_eq files name.0) object)) (subst (λ m. CopyStands
      (copy_of nat_eq m object (fresh (0 + length line)) (m.files.tree.node object) (is_in_upper m object)))
      (sym front.soundly.is)
      (subst (λ o. CopyStands (copy_of nat_eq state object (fresh (0 + length line)) o (is_in_upper state object)))
      (sym is_node) (subst (λ b. CopyStands (copy_of nat_eq state object (fresh (0 + length line)) (Some node) b))
      (sym (ap is_some still_below)) (by _ refl (front.all name.0 (in_its_line files name.0)
      (directory_used files.tree name.0 (has_entries files.tree name.0 name.1 object entry)))))))
    where
      line : List ℕ
      line = directories_to nat_eq files name.0

      entry : entry_at files.tree name.0 name.1 ≡ Some object
      entry = named_so files fit.tree object name e

      front : CopiesAll files before.real unspared fresh fit.distinct (λ k s. s) 0 before.real line
          (copied_each nat_eq fresh 0 before line)
      front = each_copied files before.real unspared fresh fit.distinct (λ k s. s) line 0 before.real before.upper
          (start fresh before fit unspared (λ number s. absurd s)) (λ j number h. fit.unused j number)

      state : Merge ℕ
      state = State files before.real unspared front.soundly.real front.soundly.upper

      still_below : upper_object (front.soundly.real object) ≡ None
      still_below = cc (front.others object (not_in_line files fit.tree fit.numbers name.0 name.1 object entry), below)

      by : (o : Option ℕ) → upper_object (front.soundly.real name.0) ≡ o → is_some o ≡ true
          → CopyStands (copy_of nat_eq state object (fresh (0 + length line)) (Some node) false)
      by None u h = absurd (true≢false (sym h))
      by (Some parent) u h = under_name front.soundly.real _ front.soundly.sound _ name e entry parent u (λ same. ⊎_elim
          (λ old. fit.unused (0 + length line) name.0 (old ∙ ap Some same)) (λ new. let counted = fit.distinct new.0 _
          (sym new.2 ∙ same) in let l = new.1 in let no : ⊥ = omega arith in no) (front.bound name.0 parent u))

  pub copy_stands : CopyStands (copied_up nat_eq fresh before object)
  copy_stands = grind (arith, common_steps, unnamed_stands, named_stands)

pub copies_have_their_name : (fresh : Fresh ℕ) (before : Merge ℕ) (object : ℕ) → IsFitToChange fresh before
    → is_some (before.files.tree.node object) ≡ true → upper_object (before.real object) ≡ None
    → (copy : ℕ) × (upper_object ((copied_up nat_eq fresh before object).real object) ≡ Some copy)
    × IsCopyOf (before.files.tree.node object) ((copied_up nat_eq fresh before object).upper.tree.node copy)
    × (entries_in ((copied_up nat_eq fresh before object).upper.tree.node copy) ≡ [])
    × ((name : ℕ × List ℕ) → a_name nat_eq before.files object ≡ Some name
    → entry_at (copied_up nat_eq fresh before object).upper.tree
    (upper_of (copied_up nat_eq fresh before object) name.0) name.1 ≡ Some copy)
copies_have_their_name fresh before object fit there below = by (before.files.tree.node object) refl there
  where
    by : (o : Option (Node ℕ)) → before.files.tree.node object ≡ o → is_some o ≡ true
        → (copy : ℕ) × (upper_object ((copied_up nat_eq fresh before object).real object) ≡ Some copy)
        × IsCopyOf (before.files.tree.node object) ((copied_up nat_eq fresh before object).upper.tree.node copy)
        × (entries_in ((copied_up nat_eq fresh before object).upper.tree.node copy) ≡ [])
        × ((name : ℕ × List ℕ) → a_name nat_eq before.files object ≡ Some name
        → entry_at (copied_up nat_eq fresh before object).upper.tree
        (upper_of (copied_up nat_eq fresh before object) name.0) name.1 ≡ Some copy)
    by None e h = absurd (true≢false (sym h))
    by (Some node) e h =
        let stands = copy_stands fresh before fit object node e below in
        (stands.copy, stands.real, stands.is, stands.empty, stands.named)
