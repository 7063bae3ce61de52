-- A tree in which names are taken away, given, and given in exchange: what has to be seen of the inodes for it to be a
-- tree again.
use Rattle.std.proofs.Common.{◌≡◌, ◌≢◌, sym, ap, subst, ◌∙◌, ℕ, true, List, [], ◌∷◌, ◌⊎◌, inl, inr, ⊎_elim, Option, Some, is_some}
use Rattle.vt_spec.proofs.Common.{HasName, IsDirectory, IsReached, IsTree, Node, Tree, directory_from_entry, entries_in, entry_at, entry_named, found, is_directory_node, is_sorted, led, name_cmp, none_is_not, parent_in, reached_named, root_reached, same_Some}
use Rattle.vt_spec.proofs.Trees.{entry_reached}

-- what holds where a list of names begins, and goes on along each entry, holds where they lead
pub led_closed : (tree : Tree ℕ) (P : ℕ → Type 0)
    → ((directory : ℕ) (name : List ℕ) (number : ℕ) → P directory → entry_at tree directory name ≡ Some number
    → P number)
    → (from : ℕ) (names : List (List ℕ)) (number : ℕ) → P from → led tree from names ≡ Some number → P number
led_closed tree P step from [] number p e = subst P (same_Some from number e) p
led_closed tree P step from (name ∷ names) number p e =
    let first = found (λ next. led tree next names) (entry_at tree from name) number e in
    led_closed tree P step first.0 names number (step from name first.0 p first.1) first.2

-- what has no entries has none of this name
pub no_entries : {P : Type 0} (tree : Tree ℕ) (directory : ℕ) (name : List ℕ) (number : ℕ)
    → entries_in (tree.node directory) ≡ [] → entry_at tree directory name ≡ Some number → P
no_entries tree directory name number empty e = none_is_not _ number (ap (entry_named name) empty) e

-- an object that gets no other name is gone: it has no entries, and is its own parent
pub record Vanishes (before after : Option (Node ℕ)) (number : ℕ) : Type 0 where
  pub was_empty : entries_in before ≡ []
  pub is_empty : entries_in after ≡ []
  pub own_parent : parent_in number after ≡ number

-- Some directories leave their names, and some of these arrive under others. Nothing else happens to directories.
pub record IsRearranged (tree : Tree ℕ) (node : ℕ → Option (Node ℕ)) (Leaves : ℕ → Type 0)
    (Arrives : ℕ → List ℕ → ℕ → Type 0) : Type 0 where
  pub directories : (number : ℕ) → is_directory_node (node number) ≡ is_directory_node (tree.node number)
  pub in_order : (directory : ℕ) → is_sorted name_cmp (entries_in (node directory)) ≡ true
  pub alive : (directory : ℕ) (name : List ℕ) (number : ℕ)
      → entry_named name (entries_in (node directory)) ≡ Some number → is_some (node number) ≡ true
  pub kept : (directory : ℕ) (name : List ℕ) (number : ℕ) → entry_at tree directory name ≡ Some number
      → IsDirectory tree number → Leaves number ⊎ (entry_named name (entries_in (node directory)) ≡ Some number)
  pub told : (directory : ℕ) (name : List ℕ) (number : ℕ) → entry_named name (entries_in (node directory)) ≡ Some number
      → IsDirectory tree number
      → Arrives directory name number ⊎ ((entry_at tree directory name ≡ Some number) × ¬ (Leaves number))
  pub decided : (number : ℕ) → Leaves number ⊎ (¬ (Leaves number))
  pub arrives_entry : (directory : ℕ) (name : List ℕ) (number : ℕ) → Arrives directory name number
      → entry_named name (entries_in (node directory)) ≡ Some number
  pub arrives_leaves : (directory : ℕ) (name : List ℕ) (number : ℕ) → Arrives directory name number → Leaves number
  pub arrives_once : (directory other : ℕ) (name again : List ℕ) (number : ℕ) → Arrives directory name number
      → Arrives other again number → name ≡ again
  pub arrives_reached : (directory : ℕ) (name : List ℕ) (number : ℕ) → Arrives directory name number
      → IsReached (record { root = tree.root; node = node }) directory
  pub arrives_parent : (directory : ℕ) (name : List ℕ) (number : ℕ) → Arrives directory name number
      → IsDirectory tree number → parent_in number (node number) ≡ directory
  pub stays_parent : (number : ℕ) → IsDirectory tree number → ¬ (Leaves number)
      → parent_in number (node number) ≡ parent_in number (tree.node number)
  pub leaves_how : (number : ℕ) → IsDirectory tree number → Leaves number
      → ((directory : ℕ) × (name : List ℕ) × Arrives directory name number)
      ⊎ Vanishes (tree.node number) (node number) number
  pub root_stays : ¬ (Leaves tree.root)
  pub fills : (number : ℕ) → entries_in (tree.node number) ≡ []
      → (entries_in (node number) ≡ []) ⊎ IsReached tree number

module _ (tree : Tree ℕ) (node : ℕ → Option (Node ℕ)) (Leaves : ℕ → Type 0) (Arrives : ℕ → List ℕ → ℕ → Type 0)
    (conditions : IsTree tree) (moves : IsRearranged tree node Leaves Arrives) where
  abbrev after : Tree ℕ
  after = record { root = tree.root; node = node }

  before_directory : (number : ℕ) → IsDirectory after number → IsDirectory tree number
  before_directory number is = sym (moves.directories number) ∙ is

  after_directory : (number : ℕ) → IsDirectory tree number → IsDirectory after number
  after_directory number is = moves.directories number ∙ is

  -- a directory that was reached is, unless it is gone
  abbrev Remains : ℕ → Type 0
  Remains number = IsDirectory tree number
      → IsReached after number ⊎ (Leaves number × (entries_in (tree.node number) ≡ []))

  remains_along : (directory : ℕ) (name : List ℕ) (number : ℕ) → Remains directory
      → entry_at tree directory name ≡ Some number → Remains number
  remains_along directory name number remains e is = ⊎_elim (λ reached. ⊎_elim (λ leaves. ⊎_elim (λ arrives. inl
      (entry_reached after arrives.0 arrives.1 number (moves.arrives_reached arrives.0 arrives.1 number arrives.2)
      (moves.arrives_entry arrives.0 arrives.1 number arrives.2))) (λ gone. inr (leaves, gone.was_empty))
      (moves.leaves_how number is leaves)) (λ entry. inl (entry_reached after directory name number reached entry))
      (moves.kept directory name number e is)) (λ gone. no_entries tree directory name number gone.1 e)
      (remains (directory_from_entry name number (tree.node directory) e))

  remains_reached : (number : ℕ) → IsDirectory tree number → IsReached tree number
      → IsReached after number ⊎ (Leaves number × (entries_in (tree.node number) ≡ []))
  remains_reached number is reached =
      led_closed tree Remains remains_along tree.root reached.0 number (λ root. inl (root_reached after)) reached.1 is

  after_one_parent : (directory : ℕ) (name : List ℕ) (number : ℕ) → entry_at after directory name ≡ Some number
      → IsDirectory after number → parent_in number (node number) ≡ directory
  after_one_parent directory name number e is = ⊎_elim
      (λ arrives. moves.arrives_parent directory name number arrives (before_directory number is))
      (λ old. moves.stays_parent number (before_directory number is) old.1
      ∙ conditions.one_parent directory name number old.0 (before_directory number is))
      (moves.told directory name number e (before_directory number is))

  after_one_name : (directory : ℕ) (name other : List ℕ) (number : ℕ) → entry_at after directory name ≡ Some number
      → entry_at after directory other ≡ Some number → IsDirectory after number → name ≡ other
  after_one_name directory name other number e f is = ⊎_elim (λ arrives. ⊎_elim
      (λ again. moves.arrives_once directory directory name other number arrives again)
      (λ old. absurd (old.1 (moves.arrives_leaves directory name number arrives)))
      (moves.told directory other number f (before_directory number is))) (λ old. ⊎_elim
      (λ arrives. absurd (old.1 (moves.arrives_leaves directory other number arrives)))
      (λ older. conditions.one_name directory name other number old.0 older.0 (before_directory number is))
      (moves.told directory other number f (before_directory number is)))
      (moves.told directory name number e (before_directory number is))

  after_parent_directory : (number : ℕ) → IsDirectory after number → IsDirectory after (parent_in number (node number))
  after_parent_directory number is = ⊎_elim (λ leaves. ⊎_elim (λ arrives. subst
      (IsDirectory after) (sym (moves.arrives_parent arrives.0 arrives.1 number arrives.2 (before_directory number is)))
      (directory_from_entry arrives.1 number _ (moves.arrives_entry arrives.0 arrives.1 number arrives.2)))
      (λ gone. subst (IsDirectory after) (sym gone.own_parent) is)
      (moves.leaves_how number (before_directory number is) leaves))
      (λ stays. subst (IsDirectory after) (sym (moves.stays_parent number (before_directory number is) stays))
      (after_directory _ (conditions.parent_directory number (before_directory number is)))) (moves.decided number)

  after_reached : (number : ℕ) → IsDirectory after number → HasName after number → IsReached after number
  after_reached number is named = ⊎_elim (λ arrives. entry_reached after named.0 named.1 number
      (moves.arrives_reached named.0 named.1 number arrives) named.2) (λ old. ⊎_elim (λ reached. reached)
      (λ gone. absurd (old.1 gone.0)) (remains_reached number (before_directory number is)
      (conditions.reached number (before_directory number is) (named.0, named.1, old.0))))
      (moves.told named.0 named.1 number named.2 (before_directory number is))

  -- what stays and has no name had none
  was_unnamed : (number : ℕ) → IsDirectory tree number → ¬ (Leaves number) → ¬ (HasName after number)
      → ¬ (HasName tree number)
  was_unnamed number is stays unnamed named =
      ⊎_elim stays (λ entry. unnamed (named.0, named.1, entry)) (moves.kept named.0 named.1 number named.2 is)

  after_unnamed_empty : (number : ℕ) → IsDirectory after number → number ≢ tree.root → ¬ (HasName after number)
      → entries_in (node number) ≡ []
  after_unnamed_empty number is root unnamed = ⊎_elim (λ leaves. ⊎_elim
      (λ arrives. absurd (unnamed (arrives.0, arrives.1, moves.arrives_entry arrives.0 arrives.1 number arrives.2)))
      (λ gone. gone.is_empty) (moves.leaves_how number (before_directory number is) leaves)) (λ stays.
      let before = was_unnamed number (before_directory number is) stays unnamed in
      ⊎_elim (λ empty. empty)
      (λ reached. absurd (⊎_elim (λ same. root (sym same)) before (reached_named tree number reached)))
      (moves.fills number (conditions.unnamed_empty number (before_directory number is) root before)))
      (moves.decided number)

  -- it is a tree again
  pub is_tree-rearranged : IsTree (record { root = tree.root; node = node })
  is_tree-rearranged = record {
    root_directory = after_directory tree.root conditions.root_directory;
    root_parent = moves.stays_parent tree.root conditions.root_directory moves.root_stays ∙ conditions.root_parent;
    root_unnamed = λ directory name e. ⊎_elim (λ arrives. moves.root_stays (moves.arrives_leaves _ name _ arrives))
        (λ old. conditions.root_unnamed directory name old.0) (moves.told directory name _ e conditions.root_directory);
    in_order = moves.in_order;
    alive = moves.alive;
    one_parent = after_one_parent;
    one_name = after_one_name;
    parent_directory = after_parent_directory;
    reached = after_reached;
    unnamed_empty = after_unnamed_empty;
  }

  -- and a directory without a name is its own parent, if each was
  pub own_parent-rearranged : ((number : ℕ) → IsDirectory tree number → ¬ (HasName tree number)
      → parent_in number (tree.node number) ≡ number)
      → (number : ℕ) → IsDirectory after number → ¬ (HasName after number) → parent_in number (node number) ≡ number
  own_parent-rearranged own number is unnamed = ⊎_elim (λ leaves. ⊎_elim
      (λ arrives. absurd (unnamed (arrives.0, arrives.1, moves.arrives_entry arrives.0 arrives.1 number arrives.2)))
      (λ gone. gone.own_parent) (moves.leaves_how number (before_directory number is) leaves))
      (λ stays. moves.stays_parent number (before_directory number is) stays
      ∙ own number (before_directory number is) (was_unnamed number (before_directory number is) stays unnamed))
      (moves.decided number)
