-- A name that is missing, in a directory that is not removed, is free.
use Rattle.std.proofs.Common.{arith, ◌≡◌, refl, ap, true≢false, ℕ, nat_eq, false, Option, Some, None, is_some, option_map}
use Rattle.vt_spec.proofs.Common.{NoneFails, Place, World, common_steps, files_at, is_special, name_of, new_name_rules, none_from_not_some}
use Rattle.vt_laws_trees.specs.Trees.{IsFileTree, IsFree}
use Rattle.vt_laws_trees.proofs.trees.TreesReached.{not_removed_reached}
use Rattle.vt_laws_trees.proofs.trees.TreesWalked.{IsFilePlace, file_named}

-- what is nothing after a step that always finds was nothing
pub mapped_none : {A B : Type 0} (f : A → B) (o : Option A) → option_map f o ≡ None → o ≡ None
mapped_none f None e = refl
mapped_none f (Some a) e = absurd (true≢false (ap is_some e))

module _ (world : World ℕ) where
  -- a name that is missing, in a directory that is not removed, is free
  pub place_is_free : (place : Place ℕ) → IsFilePlace world place → is_special place.last ≡ false
      → is_some place.object ≡ false → NoneFails (new_name_rules nat_eq world place)
      → IsFileTree (files_at nat_eq world place.parent)
      → IsFree (files_at nat_eq world place.parent).tree place.parent.node (name_of place.last)
  place_is_free place is plain missing passed conditions =
      grind (arith, common_steps, file_named, not_removed_reached, mapped_none, none_from_not_some)
