-- Going up in a tree that is found along paths takes the names of a way off, from the last on.
use Rattle.std.proofs.Common.{◌≡◌, ◌≢◌, ◌∙◌, ◌≤◌, ◌++◌, ◌∷◌, ◌||◌, [], arith, ap, append-nil, Bool, eq-eqb, eqb-true, false, length, length-append, List, map, nat_eq, None, not, Option, option_map, refl, reverse, Some, subst, suc, sym, true, zero, ℕ, find, is_some, unwrap_or}
use Rattle.vt_spec.proofs.Common.{Entries, FileTree, Overlay, Real, Tree, World, before_first, chain, entries_in, entry_named, eq_by_cmp, is_among, is_directory_under, last_or, name_cmp, name_in, named_parent, names_shown, none_is_some, or_right, or-false, own_name, path_down, reverse-append, reverse-reverse, same_Some, take_while-cons, when, common_steps}
use Rattle.vt_laws_trees.proofs.layers.layers.ShownDirectories.{append_assoc, last_of}
use Rattle.vt_laws_trees.proofs.layers.layers.ShownPaths.{last_of_longer, length_longer, not_empty}
use Rattle.vt_laws_trees.specs.Overlays.MergedTrees.{layers_shown}
use Rattle.vt_upper_overlay.proofs.Ways.{GoesUp, IsNaming, at_root, directory_at, entries_of, entry_of, goes_up, none_above, numbered, tree, way_numbered_is, way_of, with_names}

-- an entry that leads to a number is of a name with that number
entry_numbered : (number : List ℕ → Option ℕ) (n : ℕ) (names : List (List ℕ)) (entry : List ℕ × ℕ)
    → find (λ (entry : List ℕ × ℕ). nat_eq n entry.1) (with_names number names) ≡ Some entry → number entry.0 ≡ Some n
entry_numbered number n [] entry e = none_is_some entry e
entry_numbered number n (name ∷ names) entry e =
    grind (arith, common_steps, entry_numbered number n names entry, number name)

-- what a name leads to is found
named_is_found : (n : ℕ) (name : List ℕ) (entries : Entries ℕ) → entry_named name entries ≡ Some n
    → is_some (find (λ (entry : List ℕ × ℕ). nat_eq n entry.1) entries) ≡ true
named_is_found n name [] e = none_is_some n e
named_is_found n name (first ∷ entries) e =
    grind (arith, common_steps, named_is_found n name entries, eq_by_cmp name_cmp name first.0)

module _ (number_of : Real ℕ → ℕ) (held : ℕ → Option (Real ℕ)) (longest : ℕ) (world : World ℕ)
    (overlay : Overlay ℕ) (naming : IsNaming number_of held longest world overlay) where
  abbrev all_of : Tree ℕ
  all_of = tree number_of held longest world overlay

  abbrev way : ℕ → Option (List (List ℕ))
  way = way_of number_of held longest world overlay

  abbrev up : ℕ → Option ℕ
  up = named_parent nat_eq all_of

  above : (number : ℕ) (path : List (List ℕ)) (name : List ℕ) → way number ≡ Some (path ++ name ∷ [])
      → GoesUp number_of held longest world overlay naming number path
  above = goes_up number_of held longest world overlay naming

  one_number : (a b : ℕ) (path : List (List ℕ)) → way a ≡ Some path → way b ≡ Some path → a ≡ b
  one_number a b path e f = same_Some a b (sym (way_numbered_is number_of held longest world overlay a path e)
      ∙ way_numbered_is number_of held longest world overlay b path f)

  root_above : (number : ℕ) → nat_eq number all_of.root ≡ true → up number ≡ None
  root_above number e = cc

  -- going up begins with the directory itself
  from_itself : (top number fuel : ℕ) → nat_eq top number ≡ true → is_among nat_eq top (chain fuel up number) ≡ true
  from_itself top number zero e = ap (λ b. b || false) e
  from_itself top number (suc fuel) e = grind (arith, common_steps)

  -- and where nothing is above it, ends there
  alone : (top number fuel : ℕ) → up number ≡ None → is_among nat_eq top (chain fuel up number) ≡ nat_eq top number
  alone top number zero none = or-false (nat_eq top number)
  alone top number (suc fuel) none = cc (or-false (nat_eq top number))

  one_more : (top number above fuel : ℕ) → up number ≡ Some above
      → is_among nat_eq top (chain (suc fuel) up number) ≡
      (nat_eq top number || is_among nat_eq top (chain fuel up above))
  one_more top number above fuel some = cc

  -- each directory at a front of its path is met
  meets : (fuel top number : ℕ) (path rest : List (List ℕ)) → way top ≡ Some path
      → way number ≡ Some (path ++ rest) → length rest ≤ fuel → is_among nat_eq top (chain fuel up number) ≡ true
  meets fuel top number path [] top_is is enough = from_itself top number fuel
      (eq-eqb top number (one_number top number path top_is (is ∙ ap Some (append-nil path))))
  meets zero top number path (name ∷ rest) top_is is enough = absurd (let no : ⊥ = omega (arith, enough) in no)
  meets (suc fuel) top number path (name ∷ rest) top_is is enough =
      let last = last_of (name ∷ rest) (not_empty name rest) in
      let shorter = length_longer last.0 last.1 in
      let length_is : length (last.0 ++ last.1 ∷ []) ≡ length (name ∷ rest) = ap length last.2 in
      let higher = above number (path ++ last.0) last.1
      (is ∙ ap (λ r. Some (path ++ r)) (sym last.2) ∙ ap Some (sym (append_assoc path last.0 (last.1 ∷ [])))) in
      one_more top number higher.above fuel higher.parent
      ∙ or_right (nat_eq top number) (is_among nat_eq top (chain fuel up higher.above))
      (meets fuel top higher.above path last.0 top_is higher.is (omega (arith, length_is, shorter, enough)))

  -- and no others
  record IsMet (top : ℕ) (path : List (List ℕ)) : Type 0 where
    pub front : List (List ℕ)
    pub rest : List (List ℕ)
    pub is : way top ≡ Some front
    pub split : front ++ rest ≡ path

  itself_met : (top number : ℕ) (path : List (List ℕ)) → way number ≡ Some path → nat_eq top number ≡ true
      → IsMet top path
  itself_met top number path is same = record {
    front = path;
    rest = [];
    is = ap way (eqb-true top number same) ∙ is;
    split = append-nil path;
  }

  further : (top : ℕ) (path : List (List ℕ)) (name : List ℕ) → IsMet top path → IsMet top (path ++ name ∷ [])
  further top path name met = record {
    front = met.front;
    rest = met.rest ++ name ∷ [];
    is = met.is;
    split = sym (append_assoc met.front met.rest (name ∷ [])) ∙ ap (λ p. p ++ name ∷ []) met.split;
  }

  is_met : (fuel top number : ℕ) (path : List (List ℕ)) → way number ≡ Some path
      → is_among nat_eq top (chain fuel up number) ≡ true → IsMet top path
  is_met zero top number path is among = itself_met top number path is (sym (or-false (nat_eq top number)) ∙ among)
  is_met (suc fuel) top number [] is among = itself_met top number [] is
      (sym (alone top number (suc fuel) (root_above number
      (at_root number_of held longest world overlay naming number is))) ∙ among)
  is_met (suc fuel) top number (name ∷ path) is among =
      let last = last_of (name ∷ path) (not_empty name path) in
      let whole : way number ≡ Some (last.0 ++ last.1 ∷ []) = is ∙ ap Some (sym last.2) in
      let higher = above number last.0 last.1 whole in
      subst (IsMet top) last.2
      (by (nat_eq top number) refl (last.0 ++ last.1 ∷ []) whole (is_among nat_eq top (chain fuel up higher.above))
      (sym (one_more top number higher.above fuel higher.parent) ∙ among)
      (λ later. further top last.0 last.1 (is_met fuel top higher.above last.0 higher.is later)))
    where
      by : (b : Bool) → nat_eq top number ≡ b → (whole : List (List ℕ)) → way number ≡ Some whole
          → (later : Bool) → (b || later) ≡ true → (later ≡ true → IsMet top whole) → IsMet top whole
      by true e whole is later among rest = itself_met top number whole is e
      by false e whole is later among rest = rest among

  -- Beside the tree are at least as many numbers as a way has names.
  module _ (numbers : List ℕ)
      (deep : (number : ℕ) (path : List (List ℕ)) → way number ≡ Some path → length path ≤ length numbers) where
    abbrev files : FileTree ℕ
    files = record { tree = all_of; numbers = numbers }

    abbrev is_under : ℕ → ℕ → Bool
    is_under top number = is_directory_under nat_eq files top number

    pub under_by_ways : (top number : ℕ) (front path : List (List ℕ)) → way top ≡ Some front
        → way number ≡ Some path
        → (begins : Bool) → (begins ≡ true → (rest : List (List ℕ)) × (front ++ rest ≡ path))
        → (begins ≡ false → (rest : List (List ℕ)) → front ++ rest ≢ path) → begins ≡ is_under top number
    under_by_ways top number front path top_is is true so never =
        let it = so refl in
        let deep_is = deep number path is in
        let whole = ap length (sym it.1) ∙ length-append front it.0 in
        sym (meets (length numbers) top number front it.0 top_is (is ∙ ap Some (sym it.1))
        (omega (arith, deep_is, whole)))
    under_by_ways top number front path top_is is false so never = by (is_under top number) refl
      where
        by : (b : Bool) → is_under top number ≡ b → false ≡ is_under top number
        by false e = sym e
        by true e =
            let met = is_met (length numbers) top number path is e in
            absurd (never refl met.rest
            (ap (λ f. f ++ met.rest) (same_Some front met.front (sym top_is ∙ met.is)) ∙ met.split))

    pub under_no_directory : (top number : ℕ) → way number ≡ None → nat_eq top number ≡ is_under top number
    under_no_directory top number none =
        sym (alone top number (length numbers) (none_above number_of held longest world overlay naming number none))

    pub under_no_top : (top number : ℕ) (path : List (List ℕ)) → way top ≡ None → way number ≡ Some path
        → nat_eq top number ≡ is_under top number
    under_no_top top number path none is = apart (nat_eq top number) refl ∙ by (is_under top number) refl
      where
        apart : (b : Bool) → nat_eq top number ≡ b → nat_eq top number ≡ false
        apart false e = e
        apart true e = none_is_some path (sym none ∙ ap way (eqb-true top number e) ∙ is)

        by : (b : Bool) → is_under top number ≡ b → false ≡ is_under top number
        by false e = sym e
        by true e =
            let met = is_met (length numbers) top number path is e in none_is_some met.front (sym none ∙ met.is)

    abbrev own : ℕ → List ℕ
    own = own_name nat_eq files

    -- the name of a directory is the last of its way
    own_is_last : (number : ℕ) (path : List (List ℕ)) (name : List ℕ) → way number ≡ Some (path ++ name ∷ [])
        → own number ≡ name
    own_is_last number path name e =
        let higher = above number path name e in
        ap (λ m. unwrap_or (option_map (λ (one : ℕ × List ℕ). one.1) (name_in nat_eq files number m)) [])
        higher.parent_is
        ∙ by (find (λ (entry : List ℕ × ℕ). nat_eq number entry.1) (entries_in (all_of.node higher.above)))
        (names_shown (layers_shown world overlay) path) higher.above refl
        (entries_of number_of held longest world overlay higher.above path higher.is)
        (named_is_found number name (entries_in (all_of.node higher.above))
        (sym (entry_of number_of held longest world overlay higher.above path higher.is name)
        ∙ way_numbered_is number_of held longest world overlay number (path ++ name ∷ []) e))
      where
        number_under : List ℕ → Option ℕ
        number_under n = numbered number_of held longest world overlay (path ++ n ∷ [])

        same_last : (other : List ℕ) → number_under other ≡ Some number → other ≡ name
        same_last other also = sym (last_of_longer path other [])
            ∙ ap (last_or []) (naming.apart (path ++ name ∷ []) (path ++ other ∷ []) number
            (way_numbered_is number_of held longest world overlay number (path ++ name ∷ []) e) also
            (directory_at number_of held longest world overlay number
            (path ++ name ∷ []) e).directory)
            ∙ last_of_longer path name []

        by : (o : Option (List ℕ × ℕ)) → (names : List (List ℕ)) → (above : ℕ)
            → find (λ (entry : List ℕ × ℕ). nat_eq number entry.1) (entries_in (all_of.node above)) ≡ o
            → entries_in (all_of.node above) ≡ with_names number_under names → is_some o ≡ true
            → unwrap_or (option_map (λ (one : ℕ × List ℕ). one.1)
            (option_map (λ (entry : List ℕ × ℕ). (above, entry.0)) o)) [] ≡ name
        by o names above found entries some = grind (arith, common_steps, same_last, entry_numbered, number_under)

    abbrev names_before : ℕ → List ℕ → List (List ℕ)
    names_before top numbers = map own (before_first (nat_eq top) numbers)

    none_before : (top number : ℕ) (later : List ℕ) → nat_eq top number ≡ true
        → names_before top (number ∷ later) ≡ []
    none_before top number later e = cc (take_while-cons (λ a. not (nat_eq top a)) number later)

    stops : (fuel top number : ℕ) → nat_eq top number ≡ true → names_before top (chain fuel up number) ≡ []
    stops zero top number e = none_before top number [] e
    stops (suc fuel) top number e = grind (arith, common_steps)

    goes_on : (fuel top number above : ℕ) → up number ≡ Some above → nat_eq top number ≡ false
        → names_before top (chain (suc fuel) up number) ≡ own number ∷ names_before top (chain fuel up above)
    goes_on fuel top number above some apart =
        grind (arith, common_steps, take_while-cons (λ a. not (nat_eq top a)) number (chain fuel up above))

    names_met : (fuel top number : ℕ) (front rest : List (List ℕ)) → way top ≡ Some front
        → way number ≡ Some (front ++ rest) → length rest ≤ fuel
        → names_before top (chain fuel up number) ≡ reverse rest
    names_met fuel top number front [] top_is is enough = stops fuel top number
        (eq-eqb top number (one_number top number front top_is (is ∙ ap Some (append-nil front))))
    names_met zero top number front (name ∷ rest) top_is is enough = absurd (let no : ⊥ = omega (arith, enough) in no)
    names_met (suc fuel) top number front (name ∷ rest) top_is is enough =
        let last = last_of (name ∷ rest) (not_empty name rest) in
        let shorter = length_longer last.0 last.1 in
        let length_is : length (last.0 ++ last.1 ∷ []) ≡ length (name ∷ rest) = ap length last.2 in
        let whole : way number ≡ Some ((front ++ last.0) ++ last.1 ∷ []) =
        is ∙ ap (λ r. Some (front ++ r)) (sym last.2) ∙ ap Some (sym (append_assoc front last.0 (last.1 ∷ []))) in
        let higher = above number (front ++ last.0) last.1 whole in
        goes_on fuel top number higher.above higher.parent (apart (nat_eq top number) refl)
        ∙ (λ i. own_is_last number (front ++ last.0) last.1 whole i
        ∷ names_met fuel top higher.above front last.0 top_is higher.is (omega (arith, length_is, shorter, enough)) i)
        ∙ sym (reverse-append last.0 (last.1 ∷ [])) ∙ ap reverse last.2
      where
        apart : (b : Bool) → nat_eq top number ≡ b → nat_eq top number ≡ false
        apart false e = e
        apart true e =
            let same : front ≡ front ++ name ∷ rest = same_Some front (front ++ name ∷ rest)
            (sym top_is ∙ ap way (eqb-true top number e) ∙ is) in
            let longer = ap length same ∙ length-append front (name ∷ rest) in
            absurd (let no : ⊥ = omega (arith, longer) in no)

    pub down_by_ways : (top number : ℕ) (front rest : List (List ℕ)) → way top ≡ Some front
        → way number ≡ Some (front ++ rest) → is_directory_under nat_eq files top number ≡ true
        → Some rest ≡ path_down nat_eq files top number
    down_by_ways top number front rest top_is is under =
        let enough = deep number (front ++ rest) is in
        let whole = length-append front rest in
        grind (
          arith,
          common_steps,
          names_met (length numbers) top number front rest top_is is (omega (arith, enough, whole)),
          reverse-reverse rest,
        )

    pub not_down : (top number : ℕ) → is_directory_under nat_eq files top number ≡ false
        → None ≡ path_down nat_eq files top number
    not_down top number e = cc

    -- from what is no directory, or to it, lead no names but from itself
    module _ (top number : ℕ) (alone_there : nat_eq top number ≡ is_directory_under nat_eq files top number) where
      pub to_itself : when (nat_eq top number) [] ≡ path_down nat_eq files top number
      to_itself = grind (arith, common_steps)
