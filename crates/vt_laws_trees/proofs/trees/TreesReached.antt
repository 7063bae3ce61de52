-- A directory that is not removed is reached from the root, and so is one that has an entry.
use Rattle.std.proofs.Common.{eqb-true, ◌≡◌, refl, sym, ap, subst, ◌∙◌, true≢false, ℕ, nat_eq, eq-eqb, Bool, true, false, not, cond, List, [], ◌∷◌, map, ◌&&◌, ◌||◌, Some, None, is_some, Ordering, Equal, Greater, Less, is_eq, is_lt}
use Rattle.vt_spec.proofs.Common.{Entries, IsDirectory, IsReached, IsTree, Tree, and_parts, below_all, entries_in, entry_at, entry_named, eq_by_cmp, has_entry_to, is_among, is_removed, is_sorted, name_cmp, nat_list_cmp_total, none_is_not, parent_in, root_reached, tied_itself, when}
use Rattle.vt_spec.proofs.Nodes.{same_name}
use Rattle.vt_laws_trees.proofs.trees.TreesAbove.{parent_named}
use Rattle.vt_laws_trees.proofs.trees.TreesRearranged.{no_entries}

-- a name below all others is none of them
below_missing : (name : List ℕ) (entries : Entries ℕ) (number : ℕ) → below_all name_cmp name entries ≡ true
    → entry_named name entries ≡ Some number → ⊥
below_missing name [] number below e = none_is_not None number refl e
below_missing name (entry ∷ entries) number below e = by _ below e (λ b h. below_missing name entries number b h)
  where
    by : (o : Ordering) → (is_lt o && below_all name_cmp name entries) ≡ true
        → cond (is_eq o) (Some entry.1) (entry_named name entries) ≡ Some number
        → (below_all name_cmp name entries ≡ true → entry_named name entries ≡ Some number → ⊥) → ⊥
    by Less b h rest = rest b h
    by Equal b h rest = absurd (true≢false (sym b))
    by Greater b h rest = absurd (true≢false (sym b))

-- where some entry leads, a name leads
listed_entry : (entries : Entries ℕ) (number : ℕ) → is_sorted name_cmp entries ≡ true
    → is_among nat_eq number (map (λ e. e.1) entries) ≡ true
    → (name : List ℕ) × (entry_named name entries ≡ Some number)
listed_entry [] number sorted h = absurd (true≢false (sym h))
listed_entry (entry ∷ entries) number sorted h = by (nat_eq number entry.1) refl h (λ g. listed_entry entries number
    ((and_parts (below_all name_cmp entry.0 entries) (is_sorted name_cmp entries) sorted).1) g)
  where
    later : (name : List ℕ) → entry_named name entries ≡ Some number → (b : Bool) → eq_by_cmp name_cmp name entry.0 ≡ b
        → cond b (Some entry.1) (entry_named name entries) ≡ Some number
    later name e true tie = absurd (below_missing entry.0 entries number
        ((and_parts (below_all name_cmp entry.0 entries) (is_sorted name_cmp entries) sorted).0)
        (ap (λ n. entry_named n entries) (sym (same_name name entry.0 tie)) ∙ e))
    later name e false tie = e

    by : (b : Bool) → nat_eq number entry.1 ≡ b → (b || is_among nat_eq number (map (λ e. e.1) entries)) ≡ true
        → (is_among nat_eq number (map (λ e. e.1) entries) ≡ true
        → (name : List ℕ) × (entry_named name entries ≡ Some number))
        → (name : List ℕ) × (entry_named name (entry ∷ entries) ≡ Some number)
    by true e g rest = (
      entry.0,
      cc (tied_itself nat_list_cmp_total entry.0, eqb-true number entry.1 e),
    )
    by false e g rest =
        let found = rest g in
        (found.0, later found.0 found.1 (eq_by_cmp name_cmp found.0 entry.0) refl)

module _ (tree : Tree ℕ) (conditions : IsTree tree) (directory : ℕ) (is : IsDirectory tree directory) where
  -- not removed is the root, or has a name
  pub not_removed_reached : is_removed nat_eq tree directory ≡ false → IsReached tree directory
  not_removed_reached stays = by (nat_eq directory tree.root) _ refl refl stays
    where
      by : (a b : Bool) → nat_eq directory tree.root ≡ a
          → has_entry_to nat_eq tree (parent_in directory (tree.node directory)) directory ≡ b
          → not (a || is_some (cond a None (when b (parent_in directory (tree.node directory))))) ≡ false
          → IsReached tree directory
      by true b e f h = subst (IsReached tree) (sym (eqb-true directory tree.root e)) (root_reached tree)
      by false true e f h =
          let parent = parent_in directory (tree.node directory) in
          let found = listed_entry (entries_in (tree.node parent)) directory (conditions.in_order parent) f in
          conditions.reached directory is (parent, found.0, found.1)
      by false false e f h = absurd (true≢false h)

  -- removed is without a name, and so empty
  pub filled_reached : (name : List ℕ) (number : ℕ) → entry_at tree directory name ≡ Some number
      → IsReached tree directory
  filled_reached name number entry = by (is_removed nat_eq tree directory) refl
    where
      no_root : (a b : Bool) → not (a || b) ≡ true → a ≡ false
      no_root true b e = sym e
      no_root false b e = refl

      no_parent : (a b : Bool) → not (a || b) ≡ true → b ≡ false
      no_parent true b e = absurd (true≢false (sym e))
      no_parent false true e = sym e
      no_parent false false e = refl

      by : (b : Bool) → is_removed nat_eq tree directory ≡ b → IsReached tree directory
      by false stays = not_removed_reached stays
      by true removed = no_entries tree directory name number (conditions.unnamed_empty directory is (λ root. true≢false
          (sym (eq-eqb directory tree.root root) ∙ no_root (nat_eq directory tree.root) _ removed)) (λ named. true≢false
          (sym (ap is_some (parent_named tree conditions named.0 named.1 _ named.2 is)) ∙ no_parent _ _ removed))) entry
