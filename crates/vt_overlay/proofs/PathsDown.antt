-- The names that lead from one directory of an overlay down to another are those that its way has more.
use Rattle.std.proofs.Common.{◌≡◌, ◌∙◌, ◌≤◌, ◌++◌, ◌∷◌, [], arith, ap, Bool, eq-eqb, eqb-true, false, length, length-append, List, map, nat_eq, None, not, Option, refl, reverse, Some, suc, sym, true, zero, ℕ, append-nil, find, is_some, option_map, unwrap_or}
use Rattle.vt_spec.proofs.Common.{Entries, FileTree, Tree, before_first, chain, entries_in, entry_named, eq_by_cmp, is_directory_under, last_or, name_cmp, name_in, named_parent, names_shown, none_is_some, own_name, path_down, reverse-append, reverse-reverse, same_Some, take_while-cons, when, common_steps}
use Rattle.vt_laws_trees.proofs.layers.layers.ShownDirectories.{append_assoc, last_of}
use Rattle.vt_laws_trees.proofs.layers.layers.ShownPaths.{last_of_longer, length_longer, not_empty}
use Rattle.vt_laws_trees.specs.Overlays.MergedTrees.{layers_shown}
use Rattle.vt_fs.specs.FilesystemsValue.{Filesystems}
use Rattle.vt_overlay.specs.MergedTree.{AreLayers, OverlayValue, directory_path, merged_files, merged_tree, number_at, numbers_shown, overlay_seen, plain_world}
use Rattle.vt_overlay.proofs.DirectoriesSeen.{entries_are, entry_of, with_names}
use Rattle.vt_overlay.proofs.DirectoriesUnder.{deep, goes_up, is_there, one_number, one_way}

-- an entry that leads to a number is of a name with that number
entry_numbered : (number : List ℕ → Option ℕ) (n : ℕ) (names : List (List ℕ)) (entry : List ℕ × ℕ)
    → find (λ (entry : List ℕ × ℕ). nat_eq n entry.1) (with_names number names) ≡ Some entry → number entry.0 ≡ Some n
entry_numbered number n [] entry e = none_is_some entry e
entry_numbered number n (name ∷ names) entry e =
    grind (arith, common_steps, entry_numbered number n names entry, number name)

-- what a name leads to is found
named_is_found : (n : ℕ) (name : List ℕ) (entries : Entries ℕ) → entry_named name entries ≡ Some n
    → is_some (find (λ (entry : List ℕ × ℕ). nat_eq n entry.1) entries) ≡ true
named_is_found n name [] e = none_is_some n e
named_is_found n name (first ∷ entries) e =
    grind (arith, common_steps, named_is_found n name entries, eq_by_cmp name_cmp name first.0)

module _ (trees : Filesystems) (overlay : OverlayValue) (are : AreLayers trees overlay.lowers)
    (few : length overlay.lowers ≤ 129) where
  abbrev tree : Tree ℕ
  tree = merged_tree trees overlay

  abbrev files : FileTree ℕ
  files = merged_files trees overlay

  abbrev up : ℕ → Option ℕ
  up = named_parent nat_eq tree

  abbrev own : ℕ → List ℕ
  own = own_name nat_eq files

  -- the name of a directory is the last of its way
  own_is_last : (number : ℕ) (path : List (List ℕ)) (name : List ℕ)
      → directory_path trees overlay number ≡ Some (path ++ name ∷ []) → own number ≡ name
  own_is_last number path name e =
      let above = goes_up trees overlay are few number path name e in
      ap (λ m. unwrap_or (option_map (λ (one : ℕ × List ℕ). one.1) (name_in nat_eq files number m)) []) above.parent_is
      ∙ by (find (λ (entry : List ℕ × ℕ). nat_eq number entry.1) (entries_in (tree.node above.above)))
      (names_shown (layers_shown (plain_world trees) (overlay_seen overlay)) path) above.above refl
      (entries_are trees overlay are above.above path (sym above.is))
      (named_is_found number name (entries_in (tree.node above.above))
      (sym (entry_of trees overlay are above.above path (sym above.is) name)
      ∙ (is_there trees overlay are few number (path ++ name ∷ []) e).numbered))
    where
      numbered : List ℕ → Option ℕ
      numbered n = number_at trees overlay (path ++ n ∷ [])

      same_last : (other : List ℕ) → numbered other ≡ Some number → other ≡ name
      same_last other also = sym (last_of_longer path other [])
          ∙ ap (last_or []) (one_way trees overlay are few number (path ++ name ∷ []) (path ++ other ∷ []) e also)
          ∙ last_of_longer path name []

      by : (o : Option (List ℕ × ℕ)) → (names : List (List ℕ)) → (above : ℕ)
          → find (λ (entry : List ℕ × ℕ). nat_eq number entry.1) (entries_in (tree.node above)) ≡ o
          → entries_in (tree.node above) ≡ with_names numbered names → is_some o ≡ true
          → unwrap_or (option_map (λ (one : ℕ × List ℕ). one.1)
          (option_map (λ (entry : List ℕ × ℕ). (above, entry.0)) o)) [] ≡ name
      by o names above found entries some = grind (arith, common_steps, same_last, entry_numbered, numbered)

  abbrev names_before : ℕ → List ℕ → List (List ℕ)
  names_before top numbers = map own (before_first (nat_eq top) numbers)

  none_before : (top number : ℕ) (later : List ℕ) → nat_eq top number ≡ true → names_before top (number ∷ later) ≡ []
  none_before top number later e = cc (take_while-cons (λ a. not (nat_eq top a)) number later)

  stops : (fuel top number : ℕ) → nat_eq top number ≡ true → names_before top (chain fuel up number) ≡ []
  stops zero top number e = none_before top number [] e
  stops (suc fuel) top number e = grind (arith, common_steps)

  goes_on : (fuel top number above : ℕ) → up number ≡ Some above → nat_eq top number ≡ false
      → names_before top (chain (suc fuel) up number) ≡ own number ∷ names_before top (chain fuel up above)
  goes_on fuel top number above some apart =
      grind (arith, common_steps, take_while-cons (λ a. not (nat_eq top a)) number (chain fuel up above))

  names_met : (fuel top number : ℕ) (front rest : List (List ℕ)) → directory_path trees overlay top ≡ Some front
      → directory_path trees overlay number ≡ Some (front ++ rest) → length rest ≤ fuel
      → names_before top (chain fuel up number) ≡ reverse rest
  names_met fuel top number front [] top_is is enough = stops fuel top number
      (eq-eqb top number (one_number trees overlay are few top number front top_is (is ∙ ap Some (append-nil front))))
  names_met zero top number front (name ∷ rest) top_is is enough = absurd (let no : ⊥ = omega (arith, enough) in no)
  names_met (suc fuel) top number front (name ∷ rest) top_is is enough =
      let last = last_of (name ∷ rest) (not_empty name rest) in
      let shorter = length_longer last.0 last.1 in
      let length_is : length (last.0 ++ last.1 ∷ []) ≡ length (name ∷ rest) = ap length last.2 in
      let whole : directory_path trees overlay number ≡ Some ((front ++ last.0) ++ last.1 ∷ []) =
      is ∙ ap (λ r. Some (front ++ r)) (sym last.2) ∙ ap Some (sym (append_assoc front last.0 (last.1 ∷ []))) in
      let above = goes_up trees overlay are few number (front ++ last.0) last.1 whole in
      goes_on fuel top number above.above above.parent (apart (nat_eq top number) refl)
      ∙ (λ i. own_is_last number (front ++ last.0) last.1 whole i
      ∷ names_met fuel top above.above front last.0 top_is above.is (omega (arith, length_is, shorter, enough)) i)
      ∙ sym (reverse-append last.0 (last.1 ∷ [])) ∙ ap reverse last.2
    where
      apart : (b : Bool) → nat_eq top number ≡ b → nat_eq top number ≡ false
      apart false e = e
      apart true e =
          let same : front ≡ front ++ name ∷ rest = same_Some front (front ++ name ∷ rest)
          (sym top_is ∙ ap (directory_path trees overlay) (eqb-true top number e) ∙ is) in
          let longer = ap length same ∙ length-append front (name ∷ rest) in
          absurd (let no : ⊥ = omega (arith, longer) in no)

  pub down_by_ways : (top number : ℕ) (front rest : List (List ℕ)) → directory_path trees overlay top ≡ Some front
      → directory_path trees overlay number ≡ Some (front ++ rest) → is_directory_under nat_eq files top number ≡ true
      → Some rest ≡ path_down nat_eq files top number
  down_by_ways top number front rest top_is is under =
      let enough = deep trees overlay are few number (front ++ rest) is in
      let whole = length-append front rest in
      grind (
        arith,
        common_steps,
        names_met (length (numbers_shown trees overlay)) top number front rest top_is is
            (omega (arith, enough, whole)),
        reverse-reverse rest,
      )

  pub not_down : (top number : ℕ) → is_directory_under nat_eq files top number ≡ false
      → None ≡ path_down nat_eq files top number
  not_down top number e = cc

  -- from what is no directory, or to it, lead no names but from itself
  module _ (top number : ℕ) (alone : nat_eq top number ≡ is_directory_under nat_eq files top number) where
    pub to_itself : when (nat_eq top number) [] ≡ path_down nat_eq files top number
    to_itself = grind (arith, common_steps)
