-- What the upper layer has at a name that is free in the overlay is a whiteout.
use Rattle.std.proofs.Common.{arith, ◌≡◌, refl, sym, ap, ◌∙◌, ℕ, nat_eq, Bool, true, false, List, [], ◌∷◌, ◌++◌, Option, Some, None, Ok, Err, option_and_then}
use Rattle.vt_spec.proofs.Common.{Among, Change, IsWorld, Judgement, Layer, Location, Merge, Overlay, Permit, Stack, World, among_from_contains, common_steps, entry_at, filesystem_at, filesystem_numbered, is_kind_in, judge_in, led, merge_of, mount_at, none_is_some, number_at_path, same_Some, stack_of, then_some, upper_object}
use Rattle.vt_laws_later_calls.proofs.Common.{Inode, IsFree, IsProper, White, change_asked, name_given, permits_ask_properly, replaced_in_upper, upper_at_name}
use Rattle.vt_laws_trees.proofs.layers.layers.ShownNames.{last_name}
use Rattle.vt_laws_trees.proofs.layers.layers.UpperFit.{upper_is}
use Rattle.vt_laws_trees.specs.Overlays.WhatIsShown.{IsWhole}
use Rattle.vt_laws_trees.proofs.overlays.changes.WholeWorlds.{overlays_are_whole}
use Rattle.vt_laws_trees.proofs.overlays.steps.WholeNames.{above_named, named_above}
use Rattle.vt_laws_later_calls.specs.Whiteouts.{IsWhiteoutOfUpper, ReplacedAreWhiteouts, replaced_as, replaced_if, replaced_over}

-- what an option that leads on leads to
leads_on : {A B : Type 0} (o : Option A) (next : A → Option B) (b : B) → then_some o next ≡ Some b
    → (a : A) × (o ≡ Some a) × (next a ≡ Some b)
leads_on None next b e = none_is_some b e
leads_on (Some a) next b e = (a, refl, e)

module _ {world : World ℕ} (is : IsWorld nat_eq world) (number : ℕ) {overlay : Overlay ℕ}
    (over : (filesystem_numbered nat_eq world number).overlay ≡ Some overlay) {upper : Layer ℕ}
    (has : overlay.upper ≡ Some upper) where
  abbrev stack : Stack ℕ
  stack = stack_of nat_eq world overlay upper

  abbrev merge : Merge ℕ
  merge = merge_of nat_eq world (filesystem_numbered nat_eq world number) overlay upper

  whole : IsWhole stack merge
  whole = overlays_are_whole world number overlay upper is over has

  -- a name that is free shows nothing, so the upper layer has a whiteout there, or nothing
  at_name_is_white : (directory : ℕ) (name : List ℕ) → IsFree merge.files.tree directory name → (object : ℕ)
      → upper_at_name world overlay upper (directory, name) ≡ Some object
      → is_kind_in White (merge.upper.tree.node object) ≡ true
  at_name_is_white directory name free object e = by (is_kind_in White (merge.upper.tree.node object)) refl
    where
      stands : (seen : ℕ) × (upper_object (overlay.real directory) ≡ Some seen)
          × (entry_at merge.upper.tree seen name ≡ Some object)
      stands = leads_on (upper_object (overlay.real directory)) (λ seen. entry_at merge.upper.tree seen name) object e

      way : List (List ℕ)
      way = free.reached.0

      there : led merge.upper.tree stack.directory (way ++ name ∷ []) ≡ Some object
      there = last_name merge.upper.tree stack.directory way name
          ∙ ap (option_and_then (λ d. entry_at merge.upper.tree d name))
          (named_above stack merge whole way directory stands.0 free.reached.1
          (upper_is _ stands.0 stands.1)) ∙ stands.2

      nothing : number_at_path merge.files (way ++ name ∷ []) ≡ None
      nothing = cc (last_name merge.files.tree merge.files.tree.root way name, free.reached.1, free.free)

      by : (b : Bool) → is_kind_in White (merge.upper.tree.node object) ≡ b → b ≡ true
      by true white = refl
      by false white =
          let shown = above_named stack merge whole _ object there white in
          none_is_some shown.0 (sym nothing ∙ shown.1)

-- What a change replaces
module _ {world : World ℕ} (is : IsWorld nat_eq world) (location : Location ℕ) (change : Change ℕ)
    (may : IsProper (filesystem_at nat_eq world location).files.tree change) (inode : Inode) where
  abbrev number : ℕ
  number = (mount_at nat_eq world location).filesystem

  -- a change that its tree lets pass gives a name that is free
  given_is_free : (kind : Change ℕ) → IsProper (filesystem_at nat_eq world location).files.tree kind
      → (name : ℕ × List ℕ) → name_given kind ≡ Some name
      → IsFree (filesystem_at nat_eq world location).files.tree name.0 name.1
  given_is_free kind may name e = grind (arith, common_steps, same_Some, none_is_some)

  -- of an overlay with an upper layer
  upper_is_white : (overlay : Overlay ℕ) → (filesystem_at nat_eq world location).overlay ≡ Some overlay
      → (upper : Layer ℕ) → overlay.upper ≡ Some upper → Among inode (replaced_in_upper world overlay upper change)
      → IsWhiteoutOfUpper world inode
  upper_is_white overlay over upper has m = grind (arith, common_steps, leads_on, at_name_is_white, given_is_free)

  -- of any filesystem
  over_is_white : (o : Option (Overlay ℕ)) → (filesystem_at nat_eq world location).overlay ≡ o
      → Among inode (replaced_over world o change) → IsWhiteoutOfUpper world inode
  over_is_white o over m = grind (arith, common_steps, upper_is_white)

pub replaced_are_whiteouts : ReplacedAreWhiteouts
replaced_are_whiteouts world fresh task call is serves called only inode contains =
    by (judge_in nat_eq fresh world task call) refl (among_from_contains _ inode contains)
  where
    asked : (permit : Permit ℕ) → judge_in nat_eq fresh world task call ≡ Ok permit
        → (o : Option (Location ℕ × Change ℕ)) → change_asked fresh world permit ≡ o
        → Among inode (replaced_if world o) → IsWhiteoutOfUpper world inode
    asked permit judged None asks m = absurd m
    asked permit judged (Some made) asks m = over_is_white is made.0 made.1
        (permits_ask_properly world fresh task call permit made.0 made.1 is serves called judged asks).0 inode
        (filesystem_at nat_eq world made.0).overlay refl m

    by : (judgement : Judgement ℕ) → judge_in nat_eq fresh world task call ≡ judgement
        → Among inode (replaced_as fresh world judgement) → IsWhiteoutOfUpper world inode
    by (Ok permit) judged m = asked permit judged (change_asked fresh world permit) refl m
    by (Err deny) judged m = absurd m
