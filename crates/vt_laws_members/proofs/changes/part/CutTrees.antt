-- What lies under a directory of a tree lies there, too, in the tree of what lies under it and under others.
use Rattle.std.proofs.Common.{◌≡◌, refl, ◌∙◌, ⊎_elim, ℕ, zero, suc, nat_eq, Bool, true, false, cond, List, [], ◌∷◌, Option, Some, None, is_some, length, not, ◌&&◌, ◌≤◌, arith}
use Rattle.vt_spec.proofs.Common.{Among, FileTree, IsDirectory, IsTree, ListsNumbers, among-filter, among-flat_map, among_numbers, and_from, and_parts, any_among, any_from_among, chain, common_steps, directory_used, entry_from, has_entry_to, is_among, is_directory_node, is_directory_under, is_file_under, is_under, length-filter_both, named_in, named_parent, none_is_some, only_among, or_cases, or_left, or_right, parent_in, same_Some, targets_in, when}
use Rattle.vt_laws_trees.proofs.layers.layers.UpperLine.{has_entries}
use Rattle.vt_laws_members.proofs.Common.{Way, chains_alike, ends, goes_on}

-- Chains that reach a number
module _ (top : ℕ) where
  abbrev pub reaches : ℕ → (ℕ → Option ℕ) → ℕ → Bool
  reaches n next d = is_among nat_eq top (chain n next d)

  pub at_head : (next : ℕ → Option ℕ) (n d : ℕ) → nat_eq top d ≡ true → reaches n next d ≡ true
  at_head next n d e = grind (arith, common_steps)

  -- a longer chain, too
  pub more : (next : ℕ → Option ℕ) (n m d : ℕ) → n ≤ m → reaches n next d ≡ true → reaches m next d ≡ true
  more next zero m d l h = ⊎_elim (at_head next m d) (λ e. cc) (or_cases (nat_eq top d) false h)
  more next (suc n) zero d l h = absurd (omega (arith, l))
  more next (suc n) (suc m) d l h = by (next d) h (λ b. more next n m b (omega (arith, l)))
    where
      by : (o : Option ℕ) → is_among nat_eq top (elim o [ None ↦ d ∷ [] | Some b ↦ d ∷ chain n next b ]) ≡ true
          → ((b : ℕ) → reaches n next b ≡ true → reaches m next b ≡ true)
          → is_among nat_eq top (elim o [ None ↦ d ∷ [] | Some b ↦ d ∷ chain m next b ]) ≡ true
      by None h later = h
      by (Some b) h later = ⊎_elim (or_left (nat_eq top d) (reaches m next b))
          (λ f. or_right (nat_eq top d) (reaches m next b) (later b f)) (or_cases (nat_eq top d) (reaches n next b) h)

  -- so does a chain that stops there
  abbrev until : (ℕ → Option ℕ) → ℕ → Option ℕ
  until next d = cond (nat_eq top d) None (next d)

  stops : (next : ℕ → Option ℕ) (n d : ℕ) → reaches n (until next) d ≡ reaches n next d
  stops next zero d = refl
  stops next (suc n) d = by (nat_eq top d) refl (next d) refl (stops next n)
    where
      by : (p : Bool) → nat_eq top d ≡ p → (o : Option ℕ) → next d ≡ o
          → ((b : ℕ) → reaches n (until next) b ≡ reaches n next b)
          → reaches (suc n) (until next) d ≡ reaches (suc n) next d
      by p e o f later = grind (arith, common_steps, at_head)

-- A tree is cut to some inodes, all under the directory among them.
module _ (files : FileTree ℕ) (chosen : List ℕ) (tree : IsTree files.tree) (listed : ListsNumbers nat_eq files)
    (top : ℕ) (all : (object : ℕ) → is_some (files.tree.node object) ≡ true → is_under nat_eq files top object ≡ true
    → is_among nat_eq object chosen ≡ true) where
  abbrev cut : FileTree ℕ
  cut = only_among nat_eq chosen files

  node_kept : (object : ℕ) → is_among nat_eq object chosen ≡ true → cut.tree.node object ≡ files.tree.node object
  node_kept object e = cc

  in_cut : (object : ℕ) → is_some (files.tree.node object) ≡ true → is_among nat_eq object chosen ≡ true
      → Among object cut.numbers
  in_cut object there e = among-filter _ files.numbers object (among_numbers _ object (listed object ∙ there)) e

  -- a directory under it is kept
  directory_kept : (d : ℕ) → IsDirectory files.tree d → is_directory_under nat_eq files top d ≡ true
      → is_among nat_eq d chosen ≡ true
  directory_kept d is h = all d (directory_used files.tree d is) (cc)

  -- what has an entry is a directory
  entered : (b d : ℕ) → has_entry_to nat_eq files.tree b d ≡ true → IsDirectory files.tree b
  entered b d h = let name = entry_from files.tree tree b d h in has_entries files.tree b name.0 d name.1

  parent_how : (d b : ℕ) → named_parent nat_eq files.tree d ≡ Some b
      → (parent_in d (files.tree.node d) ≡ b) × (has_entry_to nat_eq files.tree b d ≡ true)
  parent_how d b e = by (nat_eq d files.tree.root) _ refl e
    where
      by : (p q : Bool) → has_entry_to nat_eq files.tree (parent_in d (files.tree.node d)) d ≡ q
          → cond p None (when q (parent_in d (files.tree.node d))) ≡ Some b
          → (parent_in d (files.tree.node d) ≡ b) × (has_entry_to nat_eq files.tree b d ≡ true)
      by true q h e = none_is_some b e
      by false true h e = let same = same_Some (parent_in d (files.tree.node d)) b e in (same, rw (← same) h)
      by false false h e = none_is_some b e

  parent_kept : (d b : ℕ) → named_parent nat_eq files.tree d ≡ Some b → is_among nat_eq d chosen ≡ true
      → is_among nat_eq b chosen ≡ true → named_parent nat_eq cut.tree d ≡ Some b
  parent_kept d b e kept above =
      let how = parent_how d b e in
      cc (
        node_kept d kept,
        node_kept (parent_in d (files.tree.node d)) (rw how.0 above),
      )

  abbrev Ways : ℕ → Type 0
  Ways =
      Way (until top (named_parent nat_eq files.tree)) (until top (named_parent nat_eq cut.tree)) (λ k. k) cut.numbers

  way : (n d : ℕ) → n ≤ length files.numbers → IsDirectory files.tree d
      → reaches top n (named_parent nat_eq files.tree) d ≡ true → Ways d
  way zero d l is h =
      let at : nat_eq top d ≡ true = ⊎_elim (λ same. same) (λ none. cc) (or_cases (nat_eq top d) false h) in
      ends d (cc) (cc)
  way (suc n) d l is h = here (nat_eq top d) refl (λ b directory above. way n b (omega (arith, l)) directory above)
    where
      on : nat_eq top d ≡ false
          → ((b : ℕ) → IsDirectory files.tree b → reaches top n (named_parent nat_eq files.tree) b ≡ true → Ways b)
          → (o : Option ℕ) → named_parent nat_eq files.tree d ≡ o → is_among nat_eq top
          (elim o [ None ↦ d ∷ [] | Some b ↦ d ∷ chain n (named_parent nat_eq files.tree) b ]) ≡ true → Ways d
      on e rest None f g = cc
      on e rest (Some b) f g =
          let how = parent_how d b f in
          let above : reaches top n (named_parent nat_eq files.tree) b ≡ true = ⊎_elim (λ same. cc) (λ later. later)
          (or_cases (nat_eq top d) (reaches top n (named_parent nat_eq files.tree) b) g) in
          let directory = entered b d how.1 in
          let kept = directory_kept d is (more top (named_parent nat_eq files.tree) (suc n) (length files.numbers) d l
          h) in
          let kept_above = directory_kept b directory (more top (named_parent nat_eq files.tree) n
          (length files.numbers) b (omega (arith, l)) above) in
          goes_on d b (cc) (cc (parent_kept d b f kept kept_above)) (in_cut d (directory_used files.tree d is) kept)
          (rest b directory above)

      here : (b : Bool) → nat_eq top d ≡ b
          → ((b : ℕ) → IsDirectory files.tree b → reaches top n (named_parent nat_eq files.tree) b ≡ true → Ways b)
          → Ways d
      here true e rest = ends d (cc) (cc)
      here false e rest = on e rest (named_parent nat_eq files.tree d) refl h

  directory_in_cut : (d : ℕ) → IsDirectory files.tree d → is_directory_under nat_eq files top d ≡ true
      → is_directory_under nat_eq cut top d ≡ true
  directory_in_cut d is h =
      let few = length-filter_both (λ n. is_among nat_eq n chosen) (λ n. not (is_among nat_eq n chosen)) (λ n. refl)
      files.numbers in
      cc (
        stops top (named_parent nat_eq cut.tree) (length cut.numbers) d,
        chains_alike (until top (named_parent nat_eq files.tree)) (until top (named_parent nat_eq cut.tree)) (λ k.
            k) cut.numbers (λ a b e. cc) (length files.numbers) (length
            cut.numbers) d (way (length files.numbers) d (omega arith) is h) (omega (arith, few)) (omega arith),
        stops top (named_parent nat_eq files.tree) (length files.numbers) d,
      )

  pub under_in_cut : (object : ℕ) → is_some (files.tree.node object) ≡ true → is_under nat_eq files top object ≡ true
      → is_under nat_eq cut top object ≡ true
  under_in_cut object there h =
      cc (node_kept object (all object there h), by (is_directory_node (files.tree.node object)) refl h)
    where
      by : (b : Bool) → is_directory_node (files.tree.node object) ≡ b
          → cond b (is_directory_under nat_eq files top object) (is_file_under nat_eq files top object) ≡ true
          → cond b (is_directory_under nat_eq cut top object) (is_file_under nat_eq cut top object) ≡ true
      by true is h = directory_in_cut object is h
      by false is h =
          let at = any_among (λ d. has_entry_to nat_eq files.tree d object && is_directory_under nat_eq files top d)
          files.numbers h in
          let both = and_parts (has_entry_to nat_eq files.tree at.0 object) (is_directory_under nat_eq files top at.0)
          at.2 in
          let directory = entered at.0 object both.0 in
          let kept = directory_kept at.0 directory both.1 in
          any_from_among (λ d. has_entry_to nat_eq cut.tree d object && is_directory_under nat_eq cut top d) cut.numbers
          at.0 (in_cut at.0 (directory_used files.tree at.0 directory) kept)
          (and_from (has_entry_to nat_eq cut.tree at.0 object) (is_directory_under nat_eq cut top at.0)
          (cc (node_kept at.0 kept, both.0)) (directory_in_cut at.0 directory both.1))

  -- and what lies below it has a name there
  named_by : (b object : ℕ) → IsDirectory files.tree b → is_among nat_eq b chosen ≡ true
      → has_entry_to nat_eq files.tree b object ≡ true → Among object (named_in cut)
  named_by b object directory kept entry = among-flat_map (λ d. targets_in (cut.tree.node d)) cut.numbers b object
      (in_cut b (directory_used files.tree b directory) kept) (among_numbers (targets_in (cut.tree.node b)) object
      (cc (node_kept b kept)))

  pub named_in_cut : (object : ℕ) → nat_eq top object ≡ false → is_under nat_eq files top object ≡ true
      → Among object (named_in cut)
  named_in_cut object apart h = by (is_directory_node (files.tree.node object)) h
    where
      up : (n : ℕ) → n ≤ length files.numbers → (o : Option ℕ) → named_parent nat_eq files.tree object ≡ o
          → is_among nat_eq top
          (elim o [ None ↦ object ∷ [] | Some b ↦ object ∷ chain n (named_parent nat_eq files.tree) b ]) ≡ true
          → Among object (named_in cut)
      up n less None e g = cc
      up n less (Some b) e g =
          let how = parent_how object b e in
          let above : reaches top n (named_parent nat_eq files.tree) b ≡ true = ⊎_elim (λ same. cc) (λ later. later)
          (or_cases (nat_eq top object) (reaches top n (named_parent nat_eq files.tree) b) g) in
          let directory = entered b object how.1 in
          named_by b object directory (directory_kept b directory (more top _ n _ b less above)) how.1

      long : (n : ℕ) → n ≤ length files.numbers → reaches top n (named_parent nat_eq files.tree) object ≡ true
          → Among object (named_in cut)
      long zero less g = cc
      long (suc n) less g = up n (omega (arith, less)) (named_parent nat_eq files.tree object) refl g

      by : (b : Bool) → cond b (is_directory_under nat_eq files top object) (is_file_under nat_eq files top object)
          ≡ true → Among object (named_in cut)
      by true g = long (length files.numbers) (omega arith) g
      by false g = grind (arith, common_steps, any_among, and_parts, entered, named_by, directory_kept)
