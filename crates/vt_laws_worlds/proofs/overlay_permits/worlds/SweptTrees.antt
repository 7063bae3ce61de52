-- A tree without the inodes that nothing uses: names lead where they led.
use Rattle.std.proofs.Common.{◌≡◌, refl, subst, ◌∙◌, ℕ, nat_eq, Bool, true, false, List, [], ◌∷◌, Option, Some, None, option_and_then, arith}
use Rattle.vt_spec.proofs.Common.{FileTree, IsReached, Tree, entry_at, found, is_among, led, only_among, then_some, common_steps}
use Rattle.vt_laws_trees.specs.Trees.{IsFileTree}
use Rattle.vt_laws_trees.specs.Trees.Settling.{HoldsTree}
use Rattle.vt_laws_trees.proofs.trees.TreesForgotten.{entry_used}

module _ (used : List ℕ) (files : FileTree ℕ) (holds : HoldsTree used files) (is : IsFileTree files) where
  abbrev left : Tree ℕ
  left = (only_among nat_eq used files).tree

  abbrev pub IsUsed : ℕ → Type 0
  IsUsed number = is_among nat_eq number used ≡ true

  pub used_node : (number : ℕ) → IsUsed number → left.node number ≡ files.tree.node number
  used_node number e = cc

  entry_same : (directory : ℕ) (name : List ℕ) → entry_at left directory name ≡ entry_at files.tree directory name
  entry_same directory name = by _ refl
    where
      unused : is_among nat_eq directory used ≡ false → (o : Option ℕ) → entry_at files.tree directory name ≡ o
          → o ≡ None
      unused e None f = refl
      unused e (Some number) f = cc (entry_used used files holds is directory name number f)

      by : (b : Bool) → is_among nat_eq directory used ≡ b
          → entry_at left directory name ≡ entry_at files.tree directory name
      by true e = cc (used_node directory e)
      by false e = cc (unused e (entry_at files.tree directory name) refl)

  pub led_same : (path : List (List ℕ)) (from : ℕ) → led left from path ≡ led files.tree from path
  led_same [] from = refl
  led_same (name ∷ path) from = cc (entry_same from name, by (entry_at files.tree from name) (led_same path))
    where
      by : (o : Option ℕ) → ((next : ℕ) → led left next path ≡ led files.tree next path)
          → option_and_then (λ next. led left next path) o ≡ option_and_then (λ next. led files.tree next path) o
      by None same = refl
      by (Some next) same = same next

  pub led_used : (path : List (List ℕ)) (from number : ℕ) → IsUsed from → led files.tree from path ≡ Some number
      → IsUsed number
  led_used [] from number e f = subst IsUsed (cc) e
  led_used (name ∷ path) from number e f =
      let step = found _ _ number f in
      led_used path step.0 number (holds.named step.0 (from, name, step.1)) step.2

  -- what a path leads to
  pub node_led_same : (path : List (List ℕ)) (from : ℕ) → IsUsed from
      → then_some (led left from path) left.node ≡ then_some (led files.tree from path) files.tree.node
  node_led_same path from e = grind (arith, common_steps, used_node, led_used, led_same)

  pub reached_still : (number : ℕ) → IsReached files.tree number → IsReached left number
  reached_still number way = (way.0, led_same way.0 files.tree.root ∙ way.1)
