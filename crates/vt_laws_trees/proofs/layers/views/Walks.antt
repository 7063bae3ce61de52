-- Where paths lead when one entry of a tree changes.
use Rattle.std.proofs.Common.{arith, ◌≡◌, ◌≢◌, refl, sym, ap, ◌∙◌, true≢false, ℕ, Bool, true, false, cond, ◌||◌, List, [], ◌∷◌, ◌++◌, Option, Some, None, option_and_then}
use Rattle.vt_spec.proofs.Common.{Tree, View, common_steps, entry_at, holds_of, led, list_any, none_is_some, prefixes}
use Rattle.vt_laws_trees.specs.Layers.Layers.Views.{goes_through, names_entry}
use Rattle.vt_laws_trees.proofs.layers.layers.ShownFronts.{list_any_of_map}
use Rattle.vt_laws_trees.proofs.layers.views.Entries.{is_entry, is_that_entry}
use Rattle.vt_spec.proofs.Options.{option_and_then-Some}
use Rattle.vt_spec.proofs.Lists.{list_any-never}

-- what starts at a directory of a tree
abbrev pub view_from : Tree ℕ → ℕ → View ℕ
view_from tree start = record { leads = λ path. led tree start path; node = λ object. tree.node object }

-- Paths of an entry, word by word

module _ (tree : Tree ℕ) (directory : ℕ) (name : List ℕ) where
  abbrev pub ends_in : ℕ → List (List ℕ) → Bool
  ends_in start [] = false
  ends_in start (word ∷ []) = is_entry directory name start word
  ends_in start (word ∷ next ∷ rest) = holds_of (λ inner. ends_in inner (next ∷ rest)) (entry_at tree start word)

  abbrev pub passes : ℕ → List (List ℕ) → Bool
  passes start [] = false
  passes start (word ∷ rest) =
      is_entry directory name start word || holds_of (λ inner. passes inner rest) (entry_at tree start word)

  deeper : (start : ℕ) (word next : List ℕ) (rest : List (List ℕ))
      → names_entry (view_from tree start) directory name (word ∷ next ∷ rest)
      ≡ holds_of (λ inner. names_entry (view_from tree inner) directory name (next ∷ rest)) (entry_at tree start word)
  deeper start word next rest = grind (arith, common_steps, view_from)

  pub names_it : (path : List (List ℕ)) (start : ℕ)
      → names_entry (view_from tree start) directory name path ≡ ends_in start path
  names_it [] start = refl
  names_it (word ∷ []) start = refl
  names_it (word ∷ next ∷ rest) start =
      grind (arith, common_steps, deeper start word next rest, names_it (next ∷ rest), view_from)

  any_alike : {A : Type 0} (one other : A → Bool) → ((a : A) → one a ≡ other a) → (list : List A)
      → list_any one list ≡ list_any other list
  any_alike one other same [] = refl
  any_alike one other same (a ∷ list) = λ i. same a i || any_alike one other same list i

  -- fronts have a word
  prefixes_alike : (one other : List (List ℕ) → Bool)
      → ((word : List ℕ) (rest : List (List ℕ)) → one (word ∷ rest) ≡ other (word ∷ rest))
      → (path : List (List ℕ)) → list_any one (prefixes path) ≡ list_any other (prefixes path)
  prefixes_alike one other same [] = refl
  prefixes_alike one other same (word ∷ path) = grind (arith, common_steps, list_any_of_map, any_alike)

  pub goes_through_it : (path : List (List ℕ)) (start : ℕ)
      → goes_through (view_from tree start) directory name path ≡ passes start path
  goes_through_it [] start = refl
  goes_through_it (word ∷ rest) start = ap (λ b. is_entry directory name start word || b)
      (list_any_of_map (names_entry (view_from tree start) directory name) (λ front. word ∷ front) (prefixes rest)
      ∙ prefixes_alike (λ front. names_entry (view_from tree start) directory name (word ∷ front))
      (λ front. holds_of (λ inner. names_entry (view_from tree inner) directory name front) (entry_at tree start word))
      (deeper start word) rest ∙ by (entry_at tree start word) (goes_through_it rest))
    where
      by : (o : Option ℕ) → ((inner : ℕ) → goes_through (view_from tree inner) directory name rest ≡ passes inner rest)
          → list_any (λ front. holds_of (λ inner. names_entry (view_from tree inner) directory name front) o)
          (prefixes rest) ≡ holds_of (λ inner. passes inner rest) o
      by None later = list_any-never (prefixes rest)
      by (Some inner) later = later inner

  -- a path that passes has a way to the directory, and the name behind it
  abbrev pub IsSplit : ℕ → List (List ℕ) → Type 0
  IsSplit start path = (way rest : List (List ℕ)) × (way ++ name ∷ rest ≡ path) × (led tree start way ≡ Some directory)

  pub split : (path : List (List ℕ)) (start : ℕ) → passes start path ≡ true → IsSplit start path
  split [] start e = absurd (true≢false (sym e))
  split (word ∷ rest) start e = by (is_entry directory name start word) refl e (split rest)
    where
      later : (o : Option ℕ) → entry_at tree start word ≡ o → holds_of (λ inner. passes inner rest) o ≡ true
          → ((inner : ℕ) → passes inner rest ≡ true → IsSplit inner rest) → IsSplit start (word ∷ rest)
      later None f e found = absurd (true≢false (sym e))
      later (Some inner) f e found =
          let there = found inner e in (
            word ∷ there.0,
            there.1,
            ap (λ p. word ∷ p) there.2,
            ap (option_and_then (λ next. led tree next there.0)) f ∙ there.3,
          )

      by : (b : Bool) → is_entry directory name start word ≡ b
          → (b || holds_of (λ inner. passes inner rest) (entry_at tree start word)) ≡ true
          → ((inner : ℕ) → passes inner rest ≡ true → IsSplit inner rest) → IsSplit start (word ∷ rest)
      by true is e found =
          let same = is_that_entry directory name start word is in
          ([], rest, ap (λ w. w ∷ rest) (sym same.1), ap Some same.0)
      by false is e found = later (entry_at tree start word) refl e found

-- One entry that leads elsewhere: what it led to and what it leads to have no entries

module _ (before after : Tree ℕ) (directory : ℕ) (name : List ℕ) (to : Option ℕ) (told : (other : ℕ) (word : List ℕ)
    → entry_at after other word ≡ cond (is_entry directory name other word) to (entry_at before other word))
    (leaf_before : (object : ℕ) → entry_at before directory name ≡ Some object → (word : List ℕ)
    → entry_at before object word ≡ None)
    (leaf_after : (object : ℕ) → to ≡ Some object → (word : List ℕ) → entry_at after object word ≡ None) where
  -- no path from what it led to is that of an entry
  leaf_ends : (object : ℕ) → entry_at before directory name ≡ Some object → (path : List (List ℕ))
      → ends_in before directory name object path ≡ false
  leaf_ends object e [] = refl
  leaf_ends object e (word ∷ []) = grind (arith, common_steps, is_that_entry, none_is_some)
  leaf_ends object e (word ∷ next ∷ rest) =
      ap (holds_of (λ inner. ends_in before directory name inner (next ∷ rest))) (leaf_before object e word)

  -- nor does one go on from it
  leads_no_more : (tree : Tree ℕ) (o : Option ℕ)
      → ((object : ℕ) → o ≡ Some object → (word : List ℕ) → entry_at tree object word ≡ None)
      → (word : List ℕ) (rest : List (List ℕ)) → option_and_then (λ next. led tree next (word ∷ rest)) o ≡ None
  leads_no_more tree None leaf word rest = refl
  leads_no_more tree (Some object) leaf word rest =
      ap (option_and_then (λ next. led tree next rest)) (leaf object refl word)

  pub entry_led : (path : List (List ℕ)) (start : ℕ)
      → led after start path ≡ cond (ends_in before directory name start path) to (led before start path)
  entry_led [] start = refl
  entry_led (word ∷ rest) start =
      grind (arith, common_steps, entry_led rest, leaf_ends, leads_no_more, option_and_then-Some, is_that_entry)

-- One entry that leads nowhere: no path goes on through it

module _ (before after : Tree ℕ) (directory : ℕ) (name : List ℕ) (told : (other : ℕ) (word : List ℕ)
    → entry_at after other word ≡ cond (is_entry directory name other word) None (entry_at before other word)) where
  pub entry_gone : (path : List (List ℕ)) (start : ℕ)
      → led after start path ≡ cond (passes before directory name start path) None (led before start path)
  entry_gone [] start = refl
  entry_gone (word ∷ rest) start = grind (arith, common_steps, entry_gone rest)

-- One entry that leads to what has no entries, in the place of what does not lead back to its directory

module _ (before after : Tree ℕ) (directory : ℕ) (name : List ℕ) (to : Option ℕ) (told : (other : ℕ) (word : List ℕ)
    → entry_at after other word ≡ cond (is_entry directory name other word) to (entry_at before other word))
    (not_back : (object : ℕ) → entry_at before directory name ≡ Some object → (names : List (List ℕ))
    → led before object names ≢ Some directory)
    (leaf_after : (object : ℕ) → to ≡ Some object → (word : List ℕ) → entry_at after object word ≡ None) where
  ends_led : (path : List (List ℕ)) (start : ℕ) → ends_in before directory name start path ≡ true
      → (way : List (List ℕ)) × (led before start way ≡ Some directory)
  ends_led [] start e = absurd (true≢false (sym e))
  ends_led (word ∷ []) start e = ([], ap Some (is_that_entry directory name start word e).0)
  ends_led (word ∷ next ∷ rest) start e = by (entry_at before start word) refl e (ends_led (next ∷ rest))
    where
      by : (o : Option ℕ) → entry_at before start word ≡ o
          → holds_of (λ inner. ends_in before directory name inner (next ∷ rest)) o ≡ true
          → ((inner : ℕ) → ends_in before directory name inner (next ∷ rest) ≡ true
          → (way : List (List ℕ)) × (led before inner way ≡ Some directory))
          → (way : List (List ℕ)) × (led before start way ≡ Some directory)
      by None f e later = absurd (true≢false (sym e))
      by (Some inner) f e later =
          let found = later inner e in
          (word ∷ found.0, ap (option_and_then (λ n. led before n found.0)) f ∙ found.1)

  over_ends : (o : Option ℕ) → entry_at before directory name ≡ o → (path : List (List ℕ))
      → holds_of (λ inner. ends_in before directory name inner path) o ≡ false
  over_ends None e path = refl
  over_ends (Some object) e path = grind (arith, common_steps, ends_led)

  over_leads_no_more : (o : Option ℕ)
      → ((object : ℕ) → o ≡ Some object → (word : List ℕ) → entry_at after object word ≡ None)
      → (word : List ℕ) (rest : List (List ℕ)) → option_and_then (λ next. led after next (word ∷ rest)) o ≡ None
  over_leads_no_more None leaf word rest = refl
  over_leads_no_more (Some object) leaf word rest =
      ap (option_and_then (λ next. led after next rest)) (leaf object refl word)

  abbrev led_over : ℕ → List (List ℕ) → Option ℕ
  led_over start path = cond (ends_in before directory name start path) to
      (cond (passes before directory name start path) None (led before start path))

  pub entry_over : (path : List (List ℕ)) (start : ℕ) → led after start path ≡ led_over start path
  entry_over [] start = refl
  entry_over (word ∷ rest) start = ap (option_and_then (λ next. led after next rest)) (told start word)
      ∙ by (is_entry directory name start word) refl rest (entry_over rest)
    where
      alone : (o : Option ℕ) → o ≡ cond (holds_of (λ inner. false) o) None (option_and_then (λ next. Some next) o)
      alone None = refl
      alone (Some next) = refl

      on : (o : Option ℕ) (next : List ℕ) (rest : List (List ℕ))
          → ((inner : ℕ) → led after inner (next ∷ rest) ≡ led_over inner (next ∷ rest))
          → option_and_then (λ inner. led after inner (next ∷ rest)) o
          ≡ cond (holds_of (λ inner. ends_in before directory name inner (next ∷ rest)) o) to
          (cond (holds_of (λ inner. passes before directory name inner (next ∷ rest)) o) None
          (option_and_then (λ inner. led before inner (next ∷ rest)) o))
      on None next rest later = refl
      on (Some inner) next rest later = later inner

      by : (b : Bool) → is_entry directory name start word ≡ b → (rest : List (List ℕ))
          → ((inner : ℕ) → led after inner rest ≡ led_over inner rest)
          → option_and_then (λ next. led after next rest) (cond b to (entry_at before start word))
          ≡ led_over start (word ∷ rest)
      by true is [] later = cc (option_and_then-Some to, is)
      by true is (next ∷ rest) later =
          let same = is_that_entry directory name start word is in
          let entry : entry_at before start word ≡ entry_at before directory name = cc (same.0, same.1) in
          cc (over_leads_no_more to leaf_after next rest, is, entry, over_ends _ refl (next ∷ rest))
      by false is [] later = cc (option_and_then-Some (entry_at before start word), alone _, is)
      by false is (next ∷ rest) later = cc (on (entry_at before start word) next rest later, is)
