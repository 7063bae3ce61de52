-- The real object of a node that is shown is in the slot that the node names, in the layer of its birth.
use Rattle.std.proofs.Common.{◌≡◌, ◌∙◌, ◌<◌, ◌≤◌, ap, Bool, eq-eqb, eqb-true, false, length, List, nat_eq, None, option_map, Option, refl, Some, sym, true, true≢false, ℕ, IfSome, IsSome, slice_get, arith}
use Rattle.vt_spec.proofs.Common.{Shown, same_Some, common_steps}
use Rattle.vt_location.specs.Numbers.{exchanged}
use Rattle.vt_fs.specs.FilesystemsValue.{Filesystems}
use Rattle.vt_overlay.specs.Merge.LayerValue.{seen_of}
use Rattle.vt_overlay.specs.declared.merge.layers.LayerRef.{LayerRef}
use Rattle.vt_overlay.specs.declared.merge.layers.Real.{Real}
use Rattle.vt_overlay.specs.MergedTree.{AreLayers, OverlayValue, number_at, object_shown, real_in}
use Rattle.vt_overlay.proofs.BirthsFound.{Birthplace, inode_number_is, is_born, node_number}
use Rattle.vt_overlay.proofs.BornNamed.{no_layer}
use Rattle.vt_overlay.proofs.RootFound.{no_top_object, other_object, root_number, root_object}
use Rattle.vt_overlay.proofs.TreeFound.{at_is_found, found_at, found_is_at, numbered_is_at}

pub nothing_is_none : {A : Type 0} (o : Option A) → None ≡ o → IsSome o → ⊥
nothing_is_none o e some = cc

-- of a node that was born below
module _ (trees : Filesystems) (overlay : OverlayValue) (b : Birthplace trees overlay) where
  abbrev number : ℕ
  number = node_number trees overlay b

  module _ (lower : LayerRef) (layer : slice_get overlay.lowers b.place ≡ Some lower) where
    abbrev seen : Shown ℕ
    seen = record { layer = b.place; object = exchanged lower.directory.filesystem.count b.slot }

    -- wherever it is found
    found_object : (path : List (List ℕ)) → found_at trees overlay b.are number ≡ Some path
        → object_shown trees overlay number ≡ Some seen
    found_object path e =
        let at = found_is_at trees overlay b.are number path e in
        let born = is_born trees overlay b path at in
        grind (arith, common_steps, born.shown_there, same_Some at.lower lower (sym born.layer ∙ layer))

    pub shown_object : IsSome (object_shown trees overlay number) → object_shown trees overlay number ≡ Some seen
    shown_object some = grind (arith, common_steps, found_at, object_shown, seen, nothing_is_none, found_object)

    pub numbered_object : (path : List (List ℕ)) → number_at trees overlay path ≡ Some number
        → object_shown trees overlay number ≡ Some seen
    numbered_object path numbered = by (found_at trees overlay b.are number) refl
      where
        by : (o : Option (List (List ℕ))) → found_at trees overlay b.are number ≡ o
            → object_shown trees overlay number ≡ Some seen
        by None e = absurd (at_is_found trees overlay b.are number path
            (numbered_is_at trees overlay b.are number path numbered) e)
        by (Some other) e = found_object other e

  -- so it is what is in the slot
  pub real_below : IsSome (object_shown trees overlay number)
      → option_map seen_of (option_map (real_in b.place b.slot) (slice_get overlay.lowers b.place))
      ≡ object_shown trees overlay number
  real_below some = by (slice_get overlay.lowers b.place) refl
    where
      by : (o : Option LayerRef) → slice_get overlay.lowers b.place ≡ o
          → option_map seen_of (option_map (real_in b.place b.slot) o) ≡ object_shown trees overlay number
      by None e = absurd (nothing_is_none (object_shown trees overlay number) (no_layer trees overlay b e) some)
      by (Some lower) e = ap (λ n. Some (record { layer = b.place; object = n }))
          (inode_number_is trees overlay b lower e (real_in b.place b.slot lower).inode refl)
          ∙ sym (shown_object lower e some)

-- of the root
pub real_here : (trees : Filesystems) (overlay : OverlayValue) (are : AreLayers trees overlay.lowers)
    (few : length overlay.lowers ≤ 129) (slot : ℕ) (small : slot < 18446744073709551616)
    → IsSome (object_shown trees overlay (root_number trees overlay are few slot small))
    → option_map seen_of (option_map (real_in 0 slot) (slice_get overlay.lowers 0))
    ≡ object_shown trees overlay (root_number trees overlay are few slot small)
real_here trees overlay are few slot small some = by (slice_get overlay.lowers 0) refl
  where
    in_slot : (top : LayerRef) → slice_get overlay.lowers 0 ≡ Some top → (b : Bool) → nat_eq top.directory.slot slot ≡ b
        → Some (seen_of (real_in 0 slot top))
        ≡ object_shown trees overlay (root_number trees overlay are few slot small)
    in_slot top e true s =
        let same = eqb-true top.directory.slot slot s in
        cc (root_object trees overlay are few slot small top e same)
    in_slot top e false s =
        absurd (nothing_is_none (object_shown trees overlay (root_number trees overlay are few slot small))
        (other_object trees overlay are few slot small top e
        (λ same. true≢false (sym (eq-eqb top.directory.slot slot same) ∙ s))) some)

    by : (o : Option LayerRef) → slice_get overlay.lowers 0 ≡ o → option_map seen_of (option_map (real_in 0 slot) o)
        ≡ object_shown trees overlay (root_number trees overlay are few slot small)
    by None e = absurd (nothing_is_none (object_shown trees overlay (root_number trees overlay are few slot small))
        (no_top_object trees overlay are few slot small e) some)
    by (Some top) e = in_slot top e (nat_eq top.directory.slot slot) refl

-- it is in a tree of its layer
pub in_its_layer : (lowers : List LayerRef) (place slot : ℕ) (found : Option Real)
    → found ≡ option_map (real_in place slot) (slice_get lowers place)
    → IfSome found (λ real. option_map (λ (layer : LayerRef). layer.directory.filesystem)
    (slice_get lowers real.layer) ≡ Some real.inode.filesystem)
in_its_layer lowers place slot found is = grind (arith, common_steps)
