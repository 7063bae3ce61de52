-- A new name in the upper layer: its tree goes on to be one.
use Rattle.std.proofs.Common.{arith, ◌≡◌, ◌≢◌, refl, sym, subst, ◌∙◌, true≢false, ℕ, nat_eq, Bool, true, false, List, [], ◌∷◌, ◌++◌, Some, None}
use Rattle.vt_spec.proofs.Common.{AddName, FileTree, Fresh, IsDirectory, IsNewIn, IsReached, Make, Merge, Node, SetMark, Stack, Upper, changed, common_steps, content_with_parent, directory_no_whiteout, directory_used, entry_at, is_directory_node, is_kind_in, led, led-append, merge_with_link, merge_with_new, none_from_not_some, none_is_some, number_at_path, upper_of, with_mark}
use Rattle.vt_spec.specs.declared.attributes.Kind.TheVariants.{White}
use Rattle.vt_laws_trees.specs.Trees.{MayAddName, MayMake}
use Rattle.vt_laws_trees.specs.Layers.Layers.ChangesUpper.{StandsInUpper}
use Rattle.vt_laws_trees.proofs.layers.layers.ShownNames.{last_name}
use Rattle.vt_laws_trees.proofs.layers.views.Moves.{led_parts}
use Rattle.vt_laws_trees.specs.Overlays.WhatIsShown.{IsWhole}
use Rattle.vt_laws_trees.proofs.overlays.whole.UpperGoes.{Goes, IsGood, goes_both, goes_by, goes_none}
use Rattle.vt_laws_trees.proofs.overlays.whole.UpperNames.{freed, freed_free, freed_goes, freed_kind, freed_made, freed_named, freed_reached, freed_used}
use Rattle.vt_laws_trees.proofs.overlays.steps.WholeAttributes.{upper_real}
use Rattle.vt_laws_trees.proofs.overlays.steps.WholeNames.{above_named, directory_stands, named_above, top_good}

-- A directory of the overlay that names lead to, in the upper layer
module _ {stack : Stack ℕ} {merge : Merge ℕ} (whole : IsWhole stack merge) (d ud : ℕ)
    (real_d : merge.real d ≡ Some (Upper ud)) (way : List (List ℕ))
    (there : number_at_path merge.files way ≡ Some d) where
  pub up_there : led merge.upper.tree stack.directory way ≡ Some ud
  up_there = named_above stack merge whole way d ud there real_d

  pub up_reached : IsReached merge.upper.tree ud
  up_reached = (
    whole.reached.0 ++ way,
    led_parts merge.upper.tree whole.reached.0 way merge.upper.tree.root stack.directory whole.reached.1 ∙ up_there,
  )

  -- what is named in it has that name in the overlay, but for whiteouts
  pub named_below : (w : List ℕ) (k : ℕ) → entry_at merge.upper.tree ud w ≡ Some k
      → is_kind_in White (merge.upper.tree.node k) ≡ false
      → (n : ℕ) × (entry_at merge.files.tree d w ≡ Some n) × (merge.real n ≡ Some (Upper k))
  named_below w k e white =
      let found = above_named stack merge whole (way ++ w ∷ []) k
      (led-append merge.upper.tree stack.directory way w ud k up_there e) white in (
        found.0,
        cc (last_name merge.files.tree merge.files.tree.root way w, found.1),
        found.2,
      )

  -- so under a name that is free stands no directory there
  pub plain_below : (w : List ℕ) → entry_at merge.files.tree d w ≡ None
      → (r : ℕ) → entry_at merge.upper.tree ud w ≡ Some r → is_directory_node (merge.upper.tree.node r) ≡ false
  plain_below w free r e = by (is_directory_node (merge.upper.tree.node r)) refl
    where
      by : (b : Bool) → is_directory_node (merge.upper.tree.node r) ≡ b
          → is_directory_node (merge.upper.tree.node r) ≡ false
      by true is =
          let found = named_below w r e (directory_no_whiteout (merge.upper.tree.node r) is) in
          none_is_some found.0 (sym free ∙ found.1)
      by false is = is

-- a new inode fits into the directory of the upper layer
fits_above : (d ud : ℕ) (node : Node ℕ) → IsNewIn d node
    → IsNewIn ud (record { attr = node.attr; content = content_with_parent ud node.content })
fits_above d ud node known = grind (arith, common_steps, true≢false)

-- A new inode under a name that no directory has
pub make_over : (top : ℕ) (files : FileTree ℕ) (d : ℕ) (w : List ℕ) (c : ℕ) (node : Node ℕ) → IsGood top files
    → IsDirectory files.tree d → IsReached files.tree d
    → ((r : ℕ) → entry_at files.tree d w ≡ Some r → is_directory_node (files.tree.node r) ≡ false)
    → files.tree.node c ≡ None → IsNewIn d node → Goes top files (changed nat_eq files (Make d w c node))
make_over top files d w c node good is reached plain vacant fits =
    subst (Goes top files) (freed_made files d w (good.tree.in_order d) c node differ) (goes_both top files free _ first
    (goes_by top free (Make d w c node) first.good (record {
      name_is_free = record {
        in_directory = freed_kind top files good d w plain d ∙ is;
        reached = freed_reached top files good d w plain d is reached;
        free = freed_free top files good d w plain;
      };
      number_is_new = none_from_not_some (free.tree.node c) (cc (freed_used top files good d w plain c));
      fits = fits;
    }) tt))
  where
    free : FileTree ℕ
    free = freed top files good d w plain

    first : Goes top files free
    first = freed_goes top files good d w plain

    differ : d ≢ c
    differ same = cc (directory_used files.tree d is, vacant)

-- a mark
pub mark_goes : (top : ℕ) (files : FileTree ℕ) (b : Bool) (object : ℕ) → IsGood top files
    → Goes top files (with_mark nat_eq b files object)
mark_goes top files true object good = goes_by top files (SetMark object true) good tt tt
mark_goes top files false object good = goes_none top files good

pub made_goes : (fresh : Fresh ℕ) (stack : Stack ℕ) (merge : Merge ℕ) (d : ℕ) (w : List ℕ) (number : ℕ) (node : Node ℕ)
    → IsWhole stack merge → StandsInUpper merge d → merge.upper.tree.node (fresh 0) ≡ None
    → MayMake merge.files.tree d w number node
    → Goes stack.directory merge.upper (merge_with_new nat_eq fresh stack merge d w number node).upper
made_goes fresh stack merge d w number node whole stands vacant may =
    let ud = upper_of merge d in
    let real_d = upper_real merge d stands in
    let reached = may.name_is_free.reached in
    let new : Node ℕ = record { attr = node.attr; content = content_with_parent ud node.content } in
    let first = make_over stack.directory merge.upper ud w (fresh 0) new (top_good stack merge whole)
    (directory_stands stack merge whole d ud real_d ∙ may.name_is_free.in_directory)
    (up_reached whole d ud real_d reached.0 reached.1)
    (plain_below whole d ud real_d reached.0 reached.1 w may.name_is_free.free) vacant
    (fits_above d ud node may.fits) in
    goes_both stack.directory merge.upper _ _ first (mark_goes stack.directory _ _ (fresh 0) first.good)

pub linked_goes : (stack : Stack ℕ) (merge : Merge ℕ) (d : ℕ) (w : List ℕ) (object : ℕ)
    → IsWhole stack merge → StandsInUpper merge d → StandsInUpper merge object → MayAddName merge.files.tree d w object
    → Goes stack.directory merge.upper (merge_with_link nat_eq merge d w object).upper
linked_goes stack merge d w object whole stands own may =
    let ud = upper_of merge d in
    let uo = upper_of merge object in
    let real_d = upper_real merge d stands in
    let real_o = upper_real merge object own in
    let reached = may.name_is_free.reached in
    let good = top_good stack merge whole in
    let is = directory_stands stack merge whole d ud real_d ∙ may.name_is_free.in_directory in
    let plain = plain_below whole d ud real_d reached.0 reached.1 w may.name_is_free.free in
    let free = freed stack.directory merge.upper good ud w plain in
    let first = freed_goes stack.directory merge.upper good ud w plain in
    subst (Goes stack.directory merge.upper) (freed_named merge.upper ud w (good.tree.in_order ud) uo)
    (goes_both stack.directory merge.upper free _ first (goes_by stack.directory free (AddName ud w uo) first.good
    (record {
      name_is_free = record {
        in_directory = freed_kind stack.directory merge.upper good ud w plain ud ∙ is;
        reached = freed_reached stack.directory merge.upper good ud w plain ud is
            (up_reached whole d ud real_d reached.0 reached.1);
        free = freed_free stack.directory merge.upper good ud w plain;
      };
      is_there = freed_used stack.directory merge.upper good ud w plain uo ∙ whole.shown.upper_there object uo real_o;
      no_directory = freed_kind stack.directory merge.upper good ud w plain uo
          ∙ directory_stands stack merge whole object uo real_o ∙ may.no_directory;
    }) tt))
