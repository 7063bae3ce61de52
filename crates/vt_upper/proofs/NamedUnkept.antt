-- What has a name is not kept without one.
use Rattle.std.proofs.Common.{◌≡◌, ◌∙◌, ap, Bool, false, is_some, List, None, Option, refl, Some, sym, true, true≢false, unwrap_or, ℕ}
use Rattle.std.specs.Map.{keys_of, lookup}
use Rattle.std.proofs.lemmas.Map.Made.{is_some-lookup}
use Rattle.vt_births.specs.Kept.{KeptValue, is_kept, uses_of}
use Rattle.vt_fs.specs.FilesystemsValue.{Filesystems}
use Rattle.vt_location.specs.declared.locations.NodeRef.{NodeRef}
use Rattle.vt_location.specs.Locations.{number_of}
use Rattle.vt_location.specs.NodeNumbers.{IsSmall}
use Rattle.vt_location.specs.SameNodes.{same_node}
use Rattle.vt_overlay.specs.MergedTree.{longest, plain_world}
use Rattle.vt_upper_overlay.proofs.Named.{is_naming}
use Rattle.vt_upper_overlay.proofs.Objects.{well_among}
use Rattle.vt_upper_overlay.proofs.Shown.{IsLooked}
use Rattle.vt_upper_overlay.proofs.Ways as ways
use Rattle.vt_upper_overlay.specs.MergedAbove.{held, number_at, real_number, upper_seen}
use Rattle.vt_upper_overlay.specs.UpperValue.{UpperOverlayValue}

-- what is not kept has no uses there
no_uses : (kept : KeptValue) (node : NodeRef) → is_kept kept node ≡ false → uses_of kept node ≡ 0
no_uses kept node none = by (lookup (same_node node) kept.by_node) refl
  where
    by : (o : Option ℕ) → lookup (same_node node) kept.by_node ≡ o → uses_of kept node ≡ 0
    by None e = ap (λ o. unwrap_or o 0) e
    by (Some uses) e = absurd (true≢false (sym (ap is_some e) ∙ is_some-lookup (same_node node) kept.by_node ∙ none))

module _ (trees : Filesystems) (overlay : UpperOverlayValue) (looked : IsLooked trees overlay) (node : NodeRef)
    (node_small : IsSmall node) (path : List (List ℕ)) (numbered : number_at trees overlay path ≡ Some (number_of node))
  where
    pub unkept : is_kept overlay.nodes.kept node ≡ false
    unkept = by (is_kept overlay.nodes.kept node) refl
      where
        by : (b : Bool) → is_kept overlay.nodes.kept node ≡ b → is_kept overlay.nodes.kept node ≡ false
        by false e = e
        by true e =
            let well = well_among trees overlay node node_small (keys_of overlay.nodes.kept.by_node)
            looked.stands.kept e in
            absurd (ways.is_found_by (real_number trees overlay) (held trees overlay)
            (longest trees overlay.layers.lowers) (plain_world trees) (upper_seen overlay)
            (is_naming trees overlay looked) (number_of node) path numbered well.unnamed)

    pub not_kept : uses_of overlay.nodes.kept node ≡ 0
    not_kept = no_uses overlay.nodes.kept node unkept
