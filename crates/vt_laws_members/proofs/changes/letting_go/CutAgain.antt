-- What lies under lower layers is cut out of a tree alike, once the tree is cut to more than that.
use Rattle.std.proofs.Common.{◌≡◌, refl, sym, ap, ◌∙◌, ◌⊎◌, inl, inr, ⊎_elim, ℕ, zero, suc, nat_eq, Bool, true, false, cond, true≢false, List, [], ◌∷◌, Option, Some, None, filter, is_some, length, not, ◌&&◌, arith, eqb-true}
use Rattle.vt_spec.proofs.Common.{Among, FileTree, IsTree, Layer, ListsNumbers, among-filter, among-from_filter, among_numbers, and_from, and_parts, any_among, any_from_among, chain, common_steps, has_entry_to, is_among, is_among_numbers, is_directory_node, is_directory_under, is_file_under, is_under, length-filter_both, list_any, named_in, named_parent, none_is_some, only_among, or_cases, or_left, or_right, parent_in, same_truth, targets_in, when}
use Rattle.vt_laws_members.proofs.changes.part.PartAgain.{filter_all}
use Rattle.vt_laws_members.proofs.changes.part.CutTrees.{at_head, more, named_in_cut, reaches, under_in_cut}

-- Filters of filters
filter_in : (p q r : ℕ → Bool) (xs : List ℕ) → ((x : ℕ) → Among x xs → r x ≡ true → p x ≡ q x)
    → ((x : ℕ) → Among x xs → r x ≡ false → q x ≡ false) → filter p (filter r xs) ≡ filter q xs
filter_in p q r [] same none = refl
filter_in p q r (x ∷ xs) same none = grind (arith, common_steps, none, filter_in p q r xs)

among_both : (used chosen : List ℕ) (n : ℕ) → is_among nat_eq n (filter (λ k. is_among nat_eq k used) chosen)
    ≡ (is_among nat_eq n chosen && is_among nat_eq n used)
among_both used chosen n = same_truth _ _ (λ h. let from = among-from_filter (λ k. is_among nat_eq k used) chosen n
    (among_numbers (filter (λ k. is_among nat_eq k used) chosen) n h) in
    and_from (is_among nat_eq n chosen) (is_among nat_eq n used) (is_among_numbers chosen n from.0) from.1)
    (λ h. let both = and_parts (is_among nat_eq n chosen) (is_among nat_eq n used) h in
    is_among_numbers (filter (λ k. is_among nat_eq k used) chosen) n
    (among-filter (λ k. is_among nat_eq k used) chosen n (among_numbers chosen n both.0) both.1))

-- a tree that is cut twice
pub cut_twice : (used chosen : List ℕ) (files : FileTree ℕ) → only_among nat_eq used (only_among nat_eq chosen files)
    ≡ only_among nat_eq (filter (λ k. is_among nat_eq k used) chosen) files
cut_twice used chosen files = grind (arith, common_steps, among_both, filter_in)

-- What lies under a directory of a cut tree lay there.
module _ (files : FileTree ℕ) (chosen : List ℕ) (top : ℕ) where
  abbrev cut : FileTree ℕ
  cut = only_among nat_eq chosen files

  entry_was : (b object : ℕ) → has_entry_to nat_eq cut.tree b object ≡ true
      → has_entry_to nat_eq files.tree b object ≡ true
  entry_was b object = by (is_among nat_eq b chosen)
    where
      by : (c : Bool) → is_among nat_eq object (targets_in (cond c (files.tree.node b) None)) ≡ true
          → is_among nat_eq object (targets_in (files.tree.node b)) ≡ true
      by true h = h
      by false h = cc

  parent_was : (d b : ℕ) → named_parent nat_eq cut.tree d ≡ Some b → named_parent nat_eq files.tree d ≡ Some b
  parent_was d b = by (is_among nat_eq d chosen) refl (nat_eq d files.tree.root)
    where
      entry : (c : ℕ) (q : Bool) → has_entry_to nat_eq cut.tree c d ≡ q → when q c ≡ Some b
          → when (has_entry_to nat_eq files.tree c d) c ≡ Some b
      entry c true h e = cc (entry_was c d h)
      entry c false h e = none_is_some b e

      by : (p : Bool) → is_among nat_eq d chosen ≡ p → (r : Bool)
          → cond r None (when (has_entry_to nat_eq cut.tree (parent_in d (cond p (files.tree.node d) None)) d)
          (parent_in d (cond p (files.tree.node d) None))) ≡ Some b
          → cond r None (when (has_entry_to nat_eq files.tree (parent_in d (files.tree.node d)) d)
          (parent_in d (files.tree.node d))) ≡ Some b
      by p f true e = none_is_some b e
      by true f false e = entry (parent_in d (files.tree.node d)) _ refl e
      by false f false e = none_is_some b (cc)

  chain_was : (n d : ℕ) → reaches top n (named_parent nat_eq cut.tree) d ≡ true
      → reaches top n (named_parent nat_eq files.tree) d ≡ true
  chain_was zero d h = h
  chain_was (suc n) d h = by (named_parent nat_eq cut.tree d) refl h (chain_was n)
    where
      by : (o : Option ℕ) → named_parent nat_eq cut.tree d ≡ o
          → is_among nat_eq top (elim o [ None ↦ d ∷ [] | Some b ↦ d ∷ chain n (named_parent nat_eq cut.tree) b ])
          ≡ true → ((b : ℕ) → reaches top n (named_parent nat_eq cut.tree) b ≡ true
          → reaches top n (named_parent nat_eq files.tree) b ≡ true)
          → reaches top (suc n) (named_parent nat_eq files.tree) d ≡ true
      by None e h later = at_head top (named_parent nat_eq files.tree) (suc n) d
          (⊎_elim (λ same. same) (λ none. cc none) (or_cases (nat_eq top d) false h))
      by (Some b) e h later = cc (
        parent_was d b e,
        ⊎_elim (or_left (nat_eq top d) (reaches top n
            (named_parent nat_eq files.tree) b)) (λ f. or_right (nat_eq top d) (reaches top n
            (named_parent nat_eq files.tree) b) (later b f)) (or_cases (nat_eq top d) (reaches top n
            (named_parent nat_eq cut.tree) b) h),
      )

  directory_was : (d : ℕ) → is_directory_under nat_eq cut top d ≡ true → is_directory_under nat_eq files top d ≡ true
  directory_was d h =
      let few = length-filter_both (λ n. is_among nat_eq n chosen) (λ n. not (is_among nat_eq n chosen)) (λ n. refl)
      files.numbers in
      more top (named_parent nat_eq files.tree) (length cut.numbers) (length files.numbers) d (omega (arith, few))
      (chain_was (length cut.numbers) d h)

  pub under_was : (object : ℕ) → is_among nat_eq object chosen ≡ true → is_under nat_eq cut top object ≡ true
      → is_under nat_eq files top object ≡ true
  under_was object kept h = by (is_directory_node (files.tree.node object)) (cc)
    where
      by : (b : Bool) → cond b (is_directory_under nat_eq cut top object) (is_file_under nat_eq cut top object) ≡ true
          → cond b (is_directory_under nat_eq files top object) (is_file_under nat_eq files top object) ≡ true
      by true h = directory_was object h
      by false h =
          let at = any_among (λ d. has_entry_to nat_eq cut.tree d object && is_directory_under nat_eq cut top d)
          cut.numbers h in
          let both = and_parts (has_entry_to nat_eq cut.tree at.0 object)
          (is_directory_under nat_eq cut top at.0) at.2 in
          any_from_among _ files.numbers at.0 (among-from_filter (λ n. is_among nat_eq n chosen) files.numbers at.0
          at.1).0 (and_from _ _ (entry_was at.0 object both.0) (directory_was at.0 both.1))

-- Lower layers in a filesystem of this number
module _ (number : ℕ) (lowers : List (Layer ℕ)) where
  abbrev pub lies_under : FileTree ℕ → ℕ → Bool
  lies_under files object = list_any (λ (layer : Layer ℕ). nat_eq number layer.filesystem
      && is_under nat_eq files layer.directory object) lowers

  -- what lies under them
  abbrev pub cut_to : FileTree ℕ → FileTree ℕ
  cut_to files = only_among nat_eq (filter (lies_under files) files.numbers) files

  -- a tree has all of a whole one that lies under them
  pub record HasLowers (whole : FileTree ℕ) (chosen : List ℕ) : Type 0 where
    pub tree : IsTree whole.tree
    pub listed : ListsNumbers nat_eq whole
    pub all : (object : ℕ) → Among object whole.numbers → lies_under whole object ≡ true
        → is_among nat_eq object chosen ≡ true

  module _ (whole : FileTree ℕ) (chosen : List ℕ) (has : HasLowers whole chosen) where
    abbrev part : FileTree ℕ
    part = only_among nat_eq chosen whole

    all_under : (layer : Layer ℕ) → Among layer lowers → nat_eq number layer.filesystem ≡ true → (object : ℕ)
        → is_some (whole.tree.node object) ≡ true → is_under nat_eq whole layer.directory object ≡ true
        → is_among nat_eq object chosen ≡ true
    all_under layer at on object there under = has.all object (among_numbers whole.numbers object
        (has.listed object ∙ there)) (any_from_among _ lowers layer at (and_from _ _ on under))

    pub lies_alike : (object : ℕ) → Among object whole.numbers → is_among nat_eq object chosen ≡ true
        → lies_under part object ≡ lies_under whole object
    lies_alike object there kept = same_truth (lies_under part object) (lies_under whole object)
        (λ h. let at = any_among (λ (l : Layer ℕ). nat_eq number l.filesystem
        && is_under nat_eq part l.directory object) lowers h in
        let both = and_parts (nat_eq number at.0.filesystem) (is_under nat_eq part at.0.directory object) at.2 in
        any_from_among (λ (l : Layer ℕ). nat_eq number l.filesystem && is_under nat_eq whole l.directory object) lowers
        at.0 at.1 (and_from (nat_eq number at.0.filesystem) (is_under nat_eq whole at.0.directory object) both.0
        (under_was whole chosen at.0.directory object kept both.1)))
        (λ h. let at = any_among (λ (l : Layer ℕ). nat_eq number l.filesystem
        && is_under nat_eq whole l.directory object) lowers h in
        let both = and_parts (nat_eq number at.0.filesystem) (is_under nat_eq whole at.0.directory object) at.2 in
        any_from_among (λ (l : Layer ℕ). nat_eq number l.filesystem && is_under nat_eq part l.directory object) lowers
        at.0 at.1 (and_from (nat_eq number at.0.filesystem) (is_under nat_eq part at.0.directory object) both.0
        (under_in_cut whole chosen has.tree has.listed at.0.directory (all_under at.0 at.1 both.0) object
        (sym (has.listed object) ∙ is_among_numbers whole.numbers object there) both.1)))

    -- it is a layer's directory, or has a name
    pub named_there : (object : ℕ) → Among object part.numbers → lies_under part object ≡ true
        → ((layer : Layer ℕ) × Among layer lowers × (nat_eq number layer.filesystem ≡ true)
        × (layer.directory ≡ object)) ⊎ Among object (named_in part)
    named_there object there h =
        let kept = among-from_filter (λ n. is_among nat_eq n chosen) whole.numbers object there in
        let at = any_among (λ (l : Layer ℕ). nat_eq number l.filesystem
        && is_under nat_eq whole l.directory object) lowers (sym (lies_alike object kept.0 kept.1) ∙ h) in
        let both = and_parts (nat_eq number at.0.filesystem) (is_under nat_eq whole at.0.directory object) at.2 in
        by at.0 at.1 both.0 both.1 (nat_eq at.0.directory object) refl
      where
        by : (layer : Layer ℕ) → Among layer lowers → nat_eq number layer.filesystem ≡ true
            → is_under nat_eq whole layer.directory object ≡ true → (b : Bool) → nat_eq layer.directory object ≡ b
            → ((l : Layer ℕ) × Among l lowers × (nat_eq number l.filesystem ≡ true) × (l.directory ≡ object))
            ⊎ Among object (named_in part)
        by layer at on under true e = inl (layer, at, on, eqb-true layer.directory object e)
        by layer at on under false e =
            inr (named_in_cut whole chosen has.tree has.listed layer.directory (all_under layer at on) object e under)

    abbrev left : List ℕ
    left = filter (lies_under whole) whole.numbers

    same_numbers : filter (lies_under part) part.numbers ≡ left
    same_numbers = filter_in (lies_under part) _ _ whole.numbers lies_alike (λ n m e. none n m e _ refl)
      where
        none : (n : ℕ) → Among n whole.numbers → is_among nat_eq n chosen ≡ false → (b : Bool) → lies_under whole n ≡ b
            → b ≡ false
        none n m e true f = cc (has.all n m f)
        none n m e false f = refl

    left_chosen : (n : ℕ) → is_among nat_eq n left ≡ true → is_among nat_eq n chosen ≡ true
    left_chosen n e =
        let from = among-from_filter (lies_under whole) whole.numbers n (among_numbers left n e) in
        has.all n from.0 from.1

    pub cut_alike : cut_to part ≡ cut_to whole
    cut_alike = ap (λ list. only_among nat_eq list part) same_numbers ∙ (λ i. record {
      tree = record { root = whole.tree.root; node = λ n. node n (is_among nat_eq n left) refl i };
      numbers = filter_in (λ n. is_among nat_eq n left) (λ n. is_among nat_eq n left) (λ n. is_among nat_eq n chosen)
          whole.numbers (λ n m e. refl) (λ n m e. out n e (is_among nat_eq n left) refl) i;
    })
      where
        node : (n : ℕ) (b : Bool) → is_among nat_eq n left ≡ b
            → cond (is_among nat_eq n left) (cond (is_among nat_eq n chosen) (whole.tree.node n) None) None
            ≡ cond (is_among nat_eq n left) (whole.tree.node n) None
        node n true e = cc (left_chosen n e)
        node n false e = cc

        out : (n : ℕ) → is_among nat_eq n chosen ≡ false → (b : Bool) → is_among nat_eq n left ≡ b → b ≡ false
        out n e true f = absurd (true≢false (sym (left_chosen n f) ∙ e))
        out n e false f = refl

  -- so it is cut alike once more of it goes
  pub cut_still : (whole : FileTree ℕ) (chosen : List ℕ) (has : HasLowers whole chosen) (used : List ℕ)
      → ((object : ℕ) → Among object (only_among nat_eq chosen whole).numbers
      → lies_under (only_among nat_eq chosen whole) object ≡ true → is_among nat_eq object used ≡ true)
      → cut_to (only_among nat_eq used (only_among nat_eq chosen whole)) ≡ cut_to (only_among nat_eq chosen whole)
  cut_still whole chosen has used enough = cc (
    cut_twice used chosen whole,
    cut_alike whole (filter (λ k. is_among nat_eq k used) chosen) has_both,
    cut_alike whole chosen has,
  )
    where
      has_both : HasLowers whole (filter (λ k. is_among nat_eq k used) chosen)
      has_both = record {
        tree = has.tree;
        listed = has.listed;
        all = λ object there h.
            let kept = has.all object there h in
            among_both used chosen object ∙ and_from (is_among nat_eq object chosen) (is_among nat_eq object used) kept
            (enough object (among-filter (λ n. is_among nat_eq n chosen) whole.numbers object there kept)
            (lies_alike whole chosen has object there kept ∙ h));
      }

-- A whole tree is cut to itself.
pub uncut : (files : FileTree ℕ) → ListsNumbers nat_eq files → only_among nat_eq files.numbers files ≡ files
uncut files listed = grind (arith, common_steps, filter_all, is_among_numbers, true≢false)
