-- What lies only below in an overlay of a world with all invariants has a name in one directory, and what stands in the
-- upper layer is under directories that stand there. So what is copied up does not depend on the order of the numbers.
use Rattle.std.proofs.Common.{arith, ◌≡◌, refl, sym, ap, subst, ◌∙◌, ◌⊎◌, inl, inr, ℕ, zero, suc, nat_eq, Bool, true, false, not, List, [], ◌∷◌, ◌++◌, length, map, find, filter_map, reverse, Option, Some, None, is_some, option_map}
use Rattle.vt_spec.proofs.Common.{FileTree, IsTree, IsWorld, Merge, Real, SameFiles, Tree, World, a_name, chain, common_steps, entries_in, entry_at, entry_from, filesystem_numbered, first_of_list, has_entry_to, is_among, is_in_upper, line_by, line_to, name_in, named_parent, same_Some, then_some, upper_object}
use mathlib.Core.List.{reverse-cons}
use Rattle.vt_laws_trees.proofs.layers.layers.UpperLine.{named_so}
use Rattle.vt_laws_trees.proofs.layers.layers.UpperWorld.{above_upper, overlay_tree}
use Rattle.vt_laws_trees.proofs.runs.answered.AlikeChanges.{CopiesAlike, found_alike}
use Rattle.vt_laws_trees.proofs.runs.answered.AlikeCopies.{AllUpper, LinesAlike, MergesAlike}
use Rattle.vt_laws_trees.proofs.runs.answered.AlikeWorlds.{Alike}
use Rattle.vt_laws_rules.proofs.same.SameFiles.{one_found}
use Rattle.vt_laws_rules.proofs.same.SameNames.{worlds_have_one_name}

-- The first thing that is told of a list is told of the first element of which something is told.
first_told : {A B : Type 0} (h : A → Option B) (list : List A)
    → first_of_list (filter_map h list) ≡ then_some (find (λ a. is_some (h a)) list) h
first_told h [] = refl
first_told h (a ∷ rest) = grind (arith, common_steps, first_told h rest)

-- an entry as a name in a directory
abbrev name_by : ℕ → List ℕ × ℕ → ℕ × List ℕ
name_by directory entry = (directory, entry.0)

-- a directory tells a name of an object just where it has an entry for it
name_told : (files : FileTree ℕ) (object directory : ℕ)
    → is_some (name_in nat_eq files object directory) ≡ has_entry_to nat_eq files.tree directory object
name_told files object directory = among (entries_in (files.tree.node directory))
  where
    among : (entries : List (List ℕ × ℕ))
        → is_some (option_map (name_by directory) (find (λ entry. nat_eq object entry.1) entries))
        ≡ is_among nat_eq object (map (λ entry. entry.1) entries)
    among [] = refl
    among (entry ∷ entries) = grind (arith, common_steps, among entries)

-- what has a name in one directory alone has the same name whatever the order of the numbers
name_same : (one other : FileTree ℕ) → SameFiles one other → (object : ℕ)
    → ((a b : ℕ) → has_entry_to nat_eq one.tree a object ≡ true → has_entry_to nat_eq one.tree b object ≡ true → a ≡ b)
    → a_name nat_eq one object ≡ a_name nat_eq other object
name_same one other same object alone = first_told (name_in nat_eq one object) one.numbers ∙ ap
    (λ found. then_some found (name_in nat_eq one object)) (one_found _ _ _ same.numbers
    (λ a b first second. alone a b (cc (name_told one object a)) (cc (name_told one object b))))
    ∙ (λ i. then_some (find (λ directory. is_some (named i directory)) other.numbers) (named i)) ∙ sym
    (first_told (name_in nat_eq other object) other.numbers)
  where
    named : name_in nat_eq one object ≡ name_in nat_eq other object
    named = λ i. name_in nat_eq (record { tree = same.tree i; numbers = [] }) object

-- each directory that has an entry for what stands in the upper layer stands there
abbrev HasUppersAbove : Tree ℕ → (ℕ → Option (Real ℕ)) → Type 0
HasUppersAbove tree real = (directory : ℕ) (name : List ℕ) (object : ℕ) → entry_at tree directory name ≡ Some object
    → is_some (upper_object (real object)) ≡ true → is_some (upper_object (real directory)) ≡ true

parent_has : (tree : Tree ℕ) (directory parent : ℕ) → named_parent nat_eq tree directory ≡ Some parent
    → has_entry_to nat_eq tree parent directory ≡ true
parent_has tree directory parent e = grind (arith, common_steps)

-- So the whole line to it stands there.
module _ (merge : Merge ℕ) (tree : IsTree merge.files.tree) (above : HasUppersAbove merge.files.tree merge.real) where
  parent_upper : (directory parent : ℕ) → named_parent nat_eq merge.files.tree directory ≡ Some parent
      → is_in_upper merge directory ≡ true → is_in_upper merge parent ≡ true
  parent_upper directory parent e stands =
      let entry = entry_from merge.files.tree tree parent directory (parent_has merge.files.tree directory parent e) in
      above parent entry.0 directory entry.1 stands

  chain_upper : (most directory : ℕ) → is_in_upper merge directory ≡ true
      → AllUpper merge (chain most (named_parent nat_eq merge.files.tree) directory)
  chain_upper zero directory stands = (stands, tt)
  chain_upper (suc most) directory stands = by _ refl (λ parent up. chain_upper most parent up)
    where
      by : (o : Option ℕ) → named_parent nat_eq merge.files.tree directory ≡ o
          → ((parent : ℕ) → is_in_upper merge parent ≡ true
          → AllUpper merge (chain most (named_parent nat_eq merge.files.tree) parent)) → AllUpper merge
          (elim o [ None ↦ directory ∷ [] | Some b ↦ directory ∷ chain most (named_parent nat_eq merge.files.tree) b ])
      by None e later = (stands, tt)
      by (Some parent) e later = (stands, later parent (parent_upper _ parent e stands))

  all_append : (front back : List ℕ) → AllUpper merge front → AllUpper merge back → AllUpper merge (front ++ back)
  all_append [] back first second = second
  all_append (object ∷ front) back first second = (first.0, all_append front back first.1 second)

  all_reversed : (list : List ℕ) → AllUpper merge list → AllUpper merge (reverse list)
  all_reversed [] all = tt
  all_reversed (object ∷ rest) all = subst (AllUpper merge) (sym (reverse-cons object rest))
      (all_append _ _ (all_reversed rest all.1) (all.0, tt))

  line_upper : (object : ℕ) → is_in_upper merge object ≡ true → AllUpper merge (line_to nat_eq merge.files object)
  line_upper object stands = by _ refl
    where
      by : (named : Option (ℕ × List ℕ)) → a_name nat_eq merge.files object ≡ named
          → AllUpper merge (line_by nat_eq merge.files object named)
      by None e = (stands, tt)
      by (Some name) e = all_append _ _ (all_reversed _ (chain_upper (length merge.files.numbers) name.0
          (above name.0 name.1 object (named_so _ tree object name e) stands))) (stands, tt)

-- two overlays that are alike copy alike, if this holds of one of them
lines_alike : (one other : Merge ℕ) → MergesAlike one other → IsTree one.files.tree
    → HasUppersAbove one.files.tree one.real
    → ((object a b : ℕ) → is_in_upper one object ≡ false → has_entry_to nat_eq one.files.tree a object ≡ true
    → has_entry_to nat_eq one.files.tree b object ≡ true → a ≡ b) → LinesAlike one other
lines_alike one other same tree above alone object = by _ refl
  where
    above_too : HasUppersAbove other.files.tree other.real
    above_too =
        subst (λ t. HasUppersAbove t other.real) same.files.tree (subst (HasUppersAbove one.files.tree) same.real above)

    by : (b : Bool) → is_in_upper one object ≡ b → (a_name nat_eq one.files object ≡ a_name nat_eq other.files object)
        ⊎ (AllUpper one (line_to nat_eq one.files object) × AllUpper other (line_to nat_eq other.files object))
    by true stands = inr (
      line_upper one tree above object stands,
      line_upper other (subst IsTree same.files.tree tree) above_too object
          (sym (λ i. is_some (upper_object (same.real i object))) ∙ stands),
    )
    by false low = inl (name_same _ _ same.files object (λ a b. alone object a b low))

pub copies_of_worlds : (one other : World ℕ) → Alike one other → IsWorld nat_eq one → CopiesAlike one other
copies_of_worlds one other same is number overlay again upper next merged has over top = lines_alike _ _ (record {
  files = (found_alike one other same number).files;
  real = λ i. (alike i).real;
  upper = subst (λ layer. SameFiles (filesystem_numbered nat_eq one upper.filesystem).files
      (filesystem_numbered nat_eq other layer.filesystem).files) below
      (found_alike one other same upper.filesystem).files;
}) (overlay_tree one is number overlay merged) (above_upper one is number overlay merged upper has)
    (λ object a b low. worlds_have_one_name one is number overlay merged object a b (ap not low))
  where
    alike : overlay ≡ again
    alike = cc ((found_alike one other same number).overlay)

    below : upper ≡ next
    below = same_Some upper next (sym has ∙ (λ i. (alike i).upper) ∙ top)
