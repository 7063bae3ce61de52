-- A name that shows nothing, in a directory of the upper layer: it is free there, or a whiteout has it.
use Rattle.std.proofs.Common.{Bool, List, None, Option, Some, [], ap, arith, false, map, option_and_then, refl, sym, true, true≢false, ℕ, ◌++◌, ◌∙◌, ◌∷◌, ◌≡◌}
use Rattle.vt_spec.proofs.Common.{Merge, Node, Stack, Upper, View, common_steps, entries_in, entry_at, is_kind_in, led, led-append, none_is_some, number_at_path, shown, shown_from, then_some, view_of}
use Rattle.vt_spec.specs.declared.attributes.Kind.TheVariants.{White}
use Rattle.vt_laws_trees.specs.Trees.{IsFree}
use Rattle.vt_laws_trees.specs.Layers.Layers.Views.{TakesName, goes_through, names_entry, view_in}
use Rattle.vt_laws_trees.specs.Overlays.WhatIsShown.{layers_under}
use Rattle.vt_laws_trees.proofs.layers.layers.ShownNames.{last_name}
use Rattle.vt_laws_trees.proofs.layers.views.After.{on_top}
use Rattle.vt_laws_trees.proofs.layers.views.Names.{no_entries}
use Rattle.vt_laws_trees.proofs.overlays.steps.WholeNames.{IsAbove, is_fine, named_above, same_through, through_bare, through_free}
use Rattle.vt_laws_trees.proofs.overlays.steps.WholeParts.{real_by, real_by_none}

-- a whiteout has no names in it
white_bare : (o : Option (Node ℕ)) → is_kind_in White o ≡ true → entries_in o ≡ []
white_bare o e = grind (arith, common_steps, true≢false)

module _ {stack : Stack ℕ} {merge : Merge ℕ} {d ud : ℕ} {w : List ℕ} (above : IsAbove stack merge d ud)
    (name : IsFree merge.files.tree d w) where
  abbrev before : View ℕ
  before = view_in merge.upper stack.directory

  abbrev lowers : List (View ℕ)
  lowers = map view_of stack.lowers

  -- in the tree of the overlay the name is free,
  pub takes_shown : TakesName merge.files.tree d w
  takes_shown = record { in_directory = name.in_directory; bare = λ r e. none_is_some r (sym name.free ∙ e) }

  pub number_none : (path : List (List ℕ)) → goes_through before ud w path ≡ true
      → number_at_path merge.files path ≡ None
  number_none path through =
      through_free merge.files merge.files.tree.root d w name.free path (same_through above w path ∙ through)

  pub shown_none : (path : List (List ℕ)) → goes_through before ud w path ≡ true
      → shown_from 0 (before ∷ lowers) path ≡ None
  shown_none path through = real_by_none path (shown (layers_under stack merge) path)
      (sym ((is_fine stack merge above.whole).paths path) ∙ ap (λ o. then_some o merge.real) (number_none path through))

  -- and the upper layer has nothing under it but a whiteout.
  whiteout_there : (r : ℕ) → entry_at merge.upper.tree ud w ≡ Some r → is_kind_in White (merge.upper.tree.node r) ≡ true
  whiteout_there r e = by (is_kind_in White (merge.upper.tree.node r)) refl
    where
      nothing_here : number_at_path merge.files (name.reached.0 ++ w ∷ []) ≡ None
      nothing_here = last_name merge.files.tree merge.files.tree.root name.reached.0 w
          ∙ ap (option_and_then (λ x. entry_at merge.files.tree x w)) name.reached.1 ∙ name.free

      up_way : led merge.upper.tree stack.directory name.reached.0 ≡ Some ud
      up_way = named_above stack merge above.whole name.reached.0 d ud name.reached.1 above.real

      by : (b : Bool) → is_kind_in White (merge.upper.tree.node r) ≡ b
          → is_kind_in White (merge.upper.tree.node r) ≡ true
      by true k = k
      by false k = none_is_some (Upper r) (sym (ap (λ o. then_some o merge.real) nothing_here)
          ∙ (is_fine stack merge above.whole).paths _ ∙ ap (real_by _) (on_top before lowers _ r false
          (led-append merge.upper.tree stack.directory name.reached.0 w ud r up_way e) k))

  pub takes_above : TakesName merge.upper.tree ud w
  takes_above = record {
    in_directory = above.directory;
    bare = λ r e. white_bare (merge.upper.tree.node r) (whiteout_there r e);
  }

  pub leads_none : (path : List (List ℕ)) → goes_through before ud w path ≡ true
      → names_entry before ud w path ≡ false → led merge.upper.tree stack.directory path ≡ None
  leads_none path through other = by (entry_at merge.upper.tree ud w) refl
    where
      by : (o : Option ℕ) → entry_at merge.upper.tree ud w ≡ o → led merge.upper.tree stack.directory path ≡ None
      by None e = through_free merge.upper stack.directory ud w e path through
      by (Some r) e = through_bare merge.upper stack.directory ud r w e (no_entries merge.upper.tree r
          (white_bare (merge.upper.tree.node r) (whiteout_there r e))) path through other
