-- An overlay of one kind, as contracts see overlays of both.
use Rattle.std.proofs.Common.{◌≡◌, ◌∙◌, ap, IfOk, IfSome, IsSome, None, Option, option_copied, refl, Result, Some, subst, sym, ℕ}
use Rattle.vt_spec.proofs.Common.{FileTree, Node, then_some}
use Rattle.vt_location.specs.declared.locations.NodeRef.{NodeRef}
use Rattle.vt_location.specs.declared.numbers.FilesystemId.{FilesystemId}
use Rattle.vt_location.specs.Locations.{number_of}
use Rattle.vt_fs.specs.FilesystemsValue.{Filesystems}
use Rattle.vt_overlay.specs.Alike.{real_lent}
use Rattle.vt_overlay.specs.declared.nodes.Entry.{Entry}
use Rattle.vt_overlay.specs.MergedTree.{OverlayValue, merged_files, object_shown}
use Rattle.vt_upper_overlay.specs.Lent as above
use Rattle.vt_upper_overlay.specs.MergedAbove as merged
use Rattle.vt_upper_overlay.specs.Standing.{StandsAbove}
use Rattle.vt_upper_overlay.specs.UpperValue.{UpperOverlayValue}
use Rattle.vt_layered.specs.LayeredTree.{StandsLayered, layered_files, layered_lent}
use Rattle.vt_layered.specs.LayeredValue.{LayeredValue, value_of}
use Rattle.vt_layered.specs.declared.layered.LayeredKind.{LayeredKind}
use Rattle.vt_layered.specs.declared.layered.LayeredKind.TheVariants.{Lower, Upper}

some_first : {A B : Type 0} (o : Option A) (f : A → Option B) → IsSome (then_some o f) → IsSome o
some_first None f some = some
some_first (Some a) f some = refl

-- what is lent for an entry's node, said in another way
pub lent_so : {one other : ℕ → Option (Node ℕ)} (found : Option Entry)
    → IfSome found (λ (entry : Entry). option_copied entry.object ≡ one (number_of entry.node))
    → ((number : ℕ) → one number ≡ other number)
    → IfSome found (λ (entry : Entry). option_copied entry.object ≡ other (number_of entry.node))
lent_so None is same = is
lent_so (Some entry) is same = is ∙ same (number_of entry.node)

-- the root of one tree is that of the same
pub root_so : (found : Option NodeRef) (one other : ℕ) → one ≡ other → IfSome found (λ root. number_of root ≡ one)
    → IfSome found (λ root. number_of root ≡ other)
root_so None one other same is = is
root_so (Some root) one other same is = is ∙ same

-- and it is in this filesystem
pub own_so : (found : Option NodeRef) (one other : FilesystemId) → one ≡ other
    → IfSome found (λ root. root.filesystem ≡ one) → IfSome found (λ root. root.filesystem ≡ other)
own_so None one other same is = is
own_so (Some root) one other same is = is ∙ same

-- and of a result, that holds of one tree if it does of the same
pub ok_so : {T E X : Type 0} (result : Result T E) (P : X → T → Type 0) (one other : X) → one ≡ other
    → IfOk result (P one) → IfOk result (P other)
ok_so result P one other same is = subst (λ x. IfOk result (P x)) same is

module _ (value : LayeredValue) (kind : LayeredKind) (view : value_of kind ≡ value) where
  abbrev Stands : Filesystems → Type 0
  Stands trees = StandsLayered trees value.overlay value.above

  abbrev files : Filesystems → FileTree ℕ
  files trees = layered_files trees value.overlay value.above

  abbrev lent : Filesystems → ℕ → Option (Node ℕ)
  lent trees number = layered_lent trees value.overlay value.above number

  -- A read-only one
  module _ (overlay : OverlayValue) (is : kind ≡ Lower overlay) where
    lower_value : value ≡ record { overlay = overlay; above = None }
    lower_value = sym view ∙ ap value_of is

    pub lower_stands : (trees : Filesystems) → Stands trees → StandsLayered trees overlay None
    lower_stands trees stands = subst (λ (v : LayeredValue). StandsLayered trees v.overlay v.above) lower_value stands

    pub lower_files : (trees : Filesystems) → merged_files trees overlay ≡ files trees
    lower_files trees = ap (λ (v : LayeredValue). layered_files trees v.overlay v.above) (sym lower_value)

    pub lower_lent : (trees : Filesystems) (number : ℕ) → real_lent trees overlay number ≡ lent trees number
    lower_lent trees number = ap (λ (v : LayeredValue). layered_lent trees v.overlay v.above number) (sym lower_value)

    pub lower_shown : (trees : Filesystems) (number : ℕ) → IsSome (lent trees number)
        → IsSome (object_shown trees overlay number)
    lower_shown trees number some = some_first (object_shown trees overlay number) _
        (subst IsSome (sym (lower_lent trees number)) some)

  -- One with an upper layer
  module _ (overlay : UpperOverlayValue) (is : kind ≡ Upper overlay) where
    upper_value : value ≡ value_of (Upper overlay)
    upper_value = sym view ∙ ap value_of is

    pub upper_stands : (trees : Filesystems) → Stands trees → StandsAbove trees overlay
    upper_stands trees stands =
        (subst (λ (v : LayeredValue). StandsLayered trees v.overlay v.above) upper_value stands).right

    pub upper_number : overlay.layers.number ≡ value.overlay.number
    upper_number = ap (λ (v : LayeredValue). v.overlay.number) (sym upper_value)

    pub upper_files : (trees : Filesystems) → merged.merged_files trees overlay ≡ files trees
    upper_files trees = ap (λ (v : LayeredValue). layered_files trees v.overlay v.above) (sym upper_value)

    pub upper_lent : (trees : Filesystems) (number : ℕ) → above.real_lent trees overlay number ≡ lent trees number
    upper_lent trees number = ap (λ (v : LayeredValue). layered_lent trees v.overlay v.above number) (sym upper_value)

    pub upper_there : (trees : Filesystems) (number : ℕ) → IsSome (lent trees number)
        → IsSome (above.real_lent trees overlay number)
    upper_there trees number some = subst IsSome (sym (upper_lent trees number)) some
