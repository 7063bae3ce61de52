-- What an entry leads to is there, so what is lent for it is its real object.
use Rattle.std.proofs.Common.{◌≡◌, ◌||◌, ap, arith, List, refl, Some, suc, zero, ℕ}
use Rattle.vt_location.specs.declared.births.Birth.{Birth}
use Rattle.vt_location.specs.declared.births.Birth.TheVariants.{Below, Here}
use Rattle.vt_location.specs.declared.locations.NodeRef.{NodeRef}
use Rattle.vt_location.specs.Births.{IsSmallBirth}
use Rattle.vt_location.specs.Locations.{number_of}
use Rattle.vt_location.specs.NodeNumbers.{IsSmall}
use Rattle.vt_births.specs.Kept.{is_kept}
use Rattle.vt_births.proofs.NodesAbove.{born_here}
use Rattle.vt_fs.specs.FilesystemsValue.{Filesystems}
use Rattle.vt_overlay.specs.MergedTree as through
use Rattle.vt_upper_overlay.specs.Lent.{real_lent}
use Rattle.vt_upper_overlay.specs.MergedAbove.{object_lent}
use Rattle.vt_upper_overlay.specs.UpperValue.{UpperOverlayValue, node_for}
use Rattle.vt_upper_overlay.proofs.LentAbove.{lent_there}
use Rattle.vt_upper_overlay.proofs.Shown.{IsLooked, converted, small_above}
use Rattle.vt_upper_overlay.proofs.ThereAbove.{numbered_is_shown, own_above}

module _ (trees : Filesystems) (overlay : UpperOverlayValue) (looked : IsLooked trees overlay) (found : NodeRef)
    (found_small : IsSmall found) where
  abbrev its_node : NodeRef
  its_node = node_for overlay found.slot found.birth

  record IsOwn (node : NodeRef) : Type 0 where
    pub small : IsSmall node
    pub own : node.filesystem ≡ overlay.layers.number

  above : IsOwn (node_for overlay found.slot Here)
  above = record {
    small = small_above overlay.nodes.births (born_here overlay.layers.number 0) found.slot looked.stands.one_to_one
        looked.small found_small.slot;
    own = own_above trees overlay looked.stands found.slot;
  }

  is_own : IsOwn its_node
  is_own = by found.birth found_small.birth
    where
      by : (birth : Birth) → IsSmallBirth birth → IsOwn (node_for overlay found.slot birth)
      by Here b = above
      by (Below zero directory rank) b = above
      by (Below (suc layer) directory rank) b = record {
        small = record {
          filesystem = looked.small;
          slot = found_small.slot;
          birth = (b.0, let less = b.1 in omega (arith, less));
        };
        own = refl;
      }

  pub lent_for : (path : List (List ℕ)) → through.number_at trees overlay.layers path ≡ Some (number_of found)
      → object_lent trees overlay its_node ≡ real_lent trees overlay (number_of its_node)
  lent_for path plainly = lent_there trees overlay looked its_node is_own.small
      (ap (λ b. b || is_kept overlay.nodes.kept its_node) (numbered_is_shown trees overlay looked its_node is_own.small
      is_own.own path (converted trees overlay looked path found found_small plainly)))
