-- What names lead to from a directory lies under whatever that directory lies under.
use Rattle.std.proofs.Common.{◌≡◌, ◌≤◌, refl, sym, ap, subst, ◌∙◌, true≢false, arith, ℕ, zero, suc, nat_eq, Bool, true, false, cond, ◌&&◌, List, [], ◌∷◌, length, Some}
use Rattle.vt_spec.proofs.Common.{FileTree, IsDirectory, IsTree, ListsNumbers, chain, directory_used, entry_at, entry_to, is_among, is_directory_node, is_directory_under, is_file_under, is_under, led, list_any, named_parent, or_right, same_Some, common_steps}
use Rattle.vt_laws_trees.proofs.layers.layers.UpperChain.{depth_below, up_at_root, up_from}
use Rattle.vt_laws_trees.proofs.layers.layers.UpperLine.{ReachedIn, has_entries, is_reached_in}
use Rattle.vt_spec.proofs.Trees.{found}

passes_here : (test : ℕ → Bool) (list : List ℕ) (n : ℕ) → is_among nat_eq n list ≡ true → test n ≡ true
    → list_any test list ≡ true
passes_here test [] n a t = absurd (true≢false (sym a))
passes_here test (first ∷ list) n a t = grind (arith, common_steps, or_right, passes_here test list n)

module _ (files : FileTree ℕ) (tree : IsTree files.tree) (listed : ListsNumbers nat_eq files) where
  -- as many steps as lead there are enough
  pub enough : (steps directory : ℕ) → ReachedIn files.tree steps directory → (most : ℕ) → steps ≤ most
      → chain most (named_parent nat_eq files.tree) directory ≡ chain steps (named_parent nat_eq files.tree) directory
  enough zero directory r most h = up_at_root files tree most directory r
  enough (suc steps) directory r zero h = absurd (let no : ⊥ = omega arith in no)
  enough (suc steps) directory r (suc most) h = up_from files tree most steps directory r
      ∙ ap (λ l. directory ∷ l) (enough steps r.0 r.2 most (omega arith))
      ∙ sym (up_from files tree steps steps directory r)

  directory_below : (top directory : ℕ) (name : List ℕ) (below : ℕ)
      → is_directory_under nat_eq files top directory ≡ true → entry_at files.tree directory name ≡ Some below
      → IsDirectory files.tree below → is_directory_under nat_eq files top below ≡ true
  directory_below top directory name below under e d =
      let reached = is_reached_in files tree directory name below e in
      let up : ReachedIn files.tree (suc reached.0) below = (directory, name, reached.1, e, d) in
      let deep = depth_below files tree listed (suc reached.0) below up in
      let here = enough reached.0 directory reached.1 (length files.numbers) (omega arith) in
      let there = enough (suc reached.0) below up (length files.numbers) (omega arith) in
      ap (list_any (nat_eq top)) (there ∙ up_from files tree reached.0 reached.0 below up)
      ∙ or_right (nat_eq top below) _ (ap (list_any (nat_eq top)) (sym here) ∙ under)

  pub led_below : (top directory : ℕ) (path : List (List ℕ)) (object : ℕ)
      → is_directory_under nat_eq files top directory ≡ true → IsDirectory files.tree directory
      → led files.tree directory path ≡ Some object → is_under nat_eq files top object ≡ true
  led_below top directory [] object under d e =
      subst (λ o. is_under nat_eq files top o ≡ true) (same_Some directory object e)
      (ap (λ b. cond b (is_directory_under nat_eq files top directory) (is_file_under nat_eq files top directory)) d
      ∙ under)
  led_below top directory (name ∷ rest) object under d e =
      let next = found (λ next. led files.tree next rest) (entry_at files.tree directory name) object e in
      by next.0 next.1 next.2 (is_directory_node (files.tree.node next.0)) refl
      (λ u f. led_below top next.0 rest object u f next.2)
    where
      file_below : (next : ℕ) → entry_at files.tree directory name ≡ Some next
          → is_directory_node (files.tree.node next) ≡ false → is_under nat_eq files top next ≡ true
      file_below next f n =
          ap (λ b. cond b (is_directory_under nat_eq files top next) (is_file_under nat_eq files top next)) n
          ∙ passes_here _ files.numbers directory (listed directory ∙ directory_used files.tree directory d) (ap
          (λ b. b && is_directory_under nat_eq files top directory) (entry_to files.tree directory name next f) ∙ under)

      -- names end at what is no directory
      ends : (rest : List (List ℕ)) (next : ℕ) → is_directory_node (files.tree.node next) ≡ false
          → led files.tree next rest ≡ Some object → next ≡ object
      ends [] next n e = same_Some next object e
      ends (other ∷ rest) next n e =
          let on = found (λ k. led files.tree k rest) (entry_at files.tree next other) object e in
          absurd (true≢false (sym (has_entries files.tree next other on.0 on.1) ∙ n))

      by : (next : ℕ) → entry_at files.tree directory name ≡ Some next → led files.tree next rest ≡ Some object
          → (b : Bool) → is_directory_node (files.tree.node next) ≡ b
          → (is_directory_under nat_eq files top next ≡ true → IsDirectory files.tree next
          → is_under nat_eq files top object ≡ true) → is_under nat_eq files top object ≡ true
      by next f e true n on = on (directory_below top directory name next under f n) n
      by next f e false n on = subst (λ o. is_under nat_eq files top o ≡ true) (ends rest next n e)
          (file_below next f n)
