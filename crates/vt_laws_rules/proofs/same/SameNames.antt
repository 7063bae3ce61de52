-- What lies only below in an overlay has one name in a world that has the invariants: its real object is of a path, and
-- the names that lead to it are that path.
use Rattle.std.proofs.Common.{◌≡◌, refl, sym, ap, subst, ◌∙◌, true≢false, eq-eqb, eqb-true, ℕ, nat_eq, Bool, true, false, cond, List, [], ◌∷◌, ◌++◌, find, Option, Some, None, is_some, unwrap_or, All, arith}
use Rattle.vt_spec.proofs.Common.{All-head, All-tail, Filesystem, IsMerged, IsReached, IsTree, Lower, Overlay, Real, Tree, Upper, World, directory_from_entry, entry_at, entry_from, entry_named, filesystem_numbered, has_entry_to, is_overlay, led, led-append, lies_only_in_lowers, no_filesystem, none_is_some, not-true, real_shown, root_reached, upper_object, common_steps}
use Rattle.vt_laws_rules.proofs.same.SameJudged.{same_worlds_look_alike}
use Rattle.vt_laws_rules.proofs.same.SameMany.{same_worlds_judge_alike}
use Rattle.vt_laws_rules.specs.Same.{SameInvariantWorldsJudgeAlike, SameInvariantWorldsLookAlike, WorldsHaveOneName}

-- an overlay that is found is a filesystem of the world, so its tree is one
tree_found : (number : ℕ) (list : List (Filesystem ℕ)) → All (λ filesystem. IsTree filesystem.files.tree) list
    → is_overlay (unwrap_or (find (λ filesystem. nat_eq number filesystem.number) list) (no_filesystem number)) ≡ true
    → IsTree (unwrap_or (find (λ filesystem. nat_eq number filesystem.number) list) (no_filesystem number)).files.tree
tree_found number [] all is = absurd (true≢false (sym is))
tree_found number (filesystem ∷ list) all is = by (nat_eq number filesystem.number) is
    (tree_found number list (All-tail (λ filesystem. IsTree filesystem.files.tree) filesystem list all))
  where
    first_or : Bool → Filesystem ℕ
    first_or b = unwrap_or (cond b (Some filesystem) (find (λ filesystem. nat_eq number filesystem.number) list))
        (no_filesystem number)

    by : (b : Bool) → is_overlay (first_or b) ≡ true
        → (is_overlay (first_or false) ≡ true → IsTree (first_or false).files.tree) → IsTree (first_or b).files.tree
    by true is rest = All-head (λ filesystem. IsTree filesystem.files.tree) filesystem list all
    by false is rest = rest is

-- a directory that has an entry is not out of reach
not_out_of_reach : (tree : Tree ℕ) → IsTree tree → (directory : ℕ) (name : List ℕ) (object : ℕ)
    → entry_at tree directory name ≡ Some object → ¬ (¬ (IsReached tree directory))
not_out_of_reach tree conditions directory name object e out =
    let is = directory_from_entry name object (tree.node directory) e in
    none_is_some object (sym (ap (entry_named name) (conditions.unnamed_empty directory is
    (λ root. out (subst (IsReached tree) (sym root) (root_reached tree)))
    (λ named. out (conditions.reached directory is named)))) ∙ e)

-- where one name more leads, the names before it are told by all of them
names_before : (one other : List (List ℕ)) (a b : List ℕ) → (one ++ a ∷ []) ≡ (other ++ b ∷ []) → one ≡ other
names_before one other a b e = grind (arith, common_steps)

-- the path of a real object that lies below
abbrev path_or : List (List ℕ) → Option (Real ℕ) → List (List ℕ)
path_or default None = default
path_or default (Some (Upper object)) = default
path_or default (Some (Lower layer path)) = path

-- what lies below, and is there, lies below at the path where it is shown
path_shown : (world : World ℕ) (overlay : Overlay ℕ) (path default : List (List ℕ))
    → is_some (real_shown nat_eq world overlay path) ≡ true
    → is_some (upper_object (real_shown nat_eq world overlay path)) ≡ false
    → path_or default (real_shown nat_eq world overlay path) ≡ path
path_shown world overlay path default = grind (arith, common_steps)

module _ (world : World ℕ) (filesystem : Filesystem ℕ) (overlay : Overlay ℕ)
    (merged : IsMerged nat_eq world filesystem overlay) (conditions : IsTree filesystem.files.tree) where
  abbrev tree : Tree ℕ
  tree = filesystem.files.tree

  -- what is there has a real object
  real_there : (object : ℕ) → is_some (tree.node object) ≡ true → is_some (overlay.real object) ≡ true
  real_there object there = grind (arith, common_steps)

  -- so names that lead to what lies below are the path of its real object
  path_of_names : (object : ℕ) (path : List (List ℕ)) → lies_only_in_lowers overlay object ≡ true
      → is_some (tree.node object) ≡ true → led tree tree.root path ≡ Some object
      → path_or [] (overlay.real object) ≡ path
  path_of_names object path below there leads =
      let same = merged.names path object leads in
      ap (path_or []) same ∙ path_shown world overlay path [] (sym (ap is_some same) ∙ real_there object there)
      (sym (ap (λ o. is_some (upper_object o)) same) ∙ not-true (is_some (upper_object (overlay.real object))) below)

  one_directory : (object one other : ℕ) → lies_only_in_lowers overlay object ≡ true
      → has_entry_to nat_eq tree one object ≡ true → has_entry_to nat_eq tree other object ≡ true → one ≡ other
  one_directory object one other below in_one in_other =
      let first = entry_from tree conditions one object in_one in
      let second = entry_from tree conditions other object in_other in
      let there = conditions.alive one first.0 object first.1 in
      by first.0 second.0 first.1 second.1 there (nat_eq one other) refl
    where
      reached_alike : (name again : List ℕ) → entry_at tree one name ≡ Some object
          → entry_at tree other again ≡ Some object → is_some (tree.node object) ≡ true → IsReached tree one
          → IsReached tree other → one ≡ other
      reached_alike name again e f there way path =
          let first = path_of_names object (way.0 ++ name ∷ []) below there (led-append tree tree.root way.0 name one
          object way.1 e) in
          let second = path_of_names object (path.0 ++ again ∷ []) below there (led-append tree tree.root path.0
          again other object path.1 f) in
          let same = names_before way.0 path.0 name again (sym first ∙ second) in
          cc (way.1, path.1)

      by : (name again : List ℕ) → entry_at tree one name ≡ Some object → entry_at tree other again ≡ Some object
          → is_some (tree.node object) ≡ true → (b : Bool) → nat_eq one other ≡ b → one ≡ other
      by name again e f there true same = eqb-true one other same
      by name again e f there false differ = absurd (not_out_of_reach tree conditions one name object e (λ way.
          not_out_of_reach tree conditions other again object f (λ path.
          true≢false (sym (eq-eqb one other (reached_alike name again e f there way path)) ∙ differ))))

pub worlds_have_one_name : WorldsHaveOneName
worlds_have_one_name world invariants number overlay is object one other below in_one in_other =
    one_directory world (filesystem_numbered nat_eq world number) overlay
    (invariants.overlays.overlays_merge number overlay is)
    (tree_found number world.filesystems invariants.files.trees (ap is_some is)) object one other below in_one in_other

pub invariant_worlds_look_alike : SameInvariantWorldsLookAlike
invariant_worlds_look_alike one other same invariants =
    same_worlds_look_alike one other same (worlds_have_one_name one invariants)

pub invariant_worlds_judge_alike : SameInvariantWorldsJudgeAlike
invariant_worlds_judge_alike one other same invariants =
    same_worlds_judge_alike one other same (worlds_have_one_name one invariants)
