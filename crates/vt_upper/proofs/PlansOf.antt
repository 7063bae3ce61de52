-- Copies of an object: their births, and what is ready where none are needed.
use Rattle.std.proofs.Common.{◌≡◌, ◌∙◌, ◌+◌, ◌<◌, ◌∷◌, [], ap, arith, Bool, is_some, length, List, None, option_map, refl, reverse, slice_get, Some, subst, sym, true, ℕ, IfOk}
use Rattle.std.specs.Prelude.{Result}
use Rattle.std.specs.declared.result.Result.TheVariants.{Ok, Err}
use Rattle.vt_spec.proofs.Common.{All-nil, FileTree, same_Some}
use Rattle.vt_births.specs.Births.{BirthsValue, copy_of, is_born_below}
use Rattle.vt_copyup.specs.declared.plans.Piece.{Piece}
use Rattle.vt_copyup.specs.declared.plans.Plan.{Plan}
use Rattle.vt_copyup.specs.Planned.{AreBirthsOf, IsPlanOf}
use Rattle.vt_copyup.specs.Plans.{AreReady, CopiesAreThere, EntriesAreThere, FirstFits, IsReady, in_turn}
use Rattle.vt_copyup.proofs.Changed.{promised_files}
use Rattle.vt_copyup.proofs.Ready.{entries_are_there}
use Rattle.vt_fs.specs.FilesystemsValue.{Filesystems, files_at, promising, with_changed}
use Rattle.vt_location.specs.declared.locations.InodeRef.{InodeRef}
use Rattle.vt_location.specs.declared.locations.NodeRef.{NodeRef}
use Rattle.vt_location.specs.declared.numbers.FilesystemId.{FilesystemId}
use Rattle.vt_location.specs.Locations.{number_of}
use Rattle.vt_location.specs.Numbers.{inode_number}
use Rattle.vt_overlay.specs.declared.merge.layers.LayerRef.{LayerRef}
use Rattle.vt_overlay.specs.declared.merge.layers.Real.{Real as Object}
use Rattle.vt_upper.specs.Copies.{AreCopiesOf}
use Rattle.vt_upper.specs.Copies.AreCopiesOf.{is_below}
use Rattle.vt_upper_overlay.specs.MergedAbove.{count_of, number_at, upper_count}
use Rattle.vt_upper_overlay.specs.Standing.{StandsAbove}
use Rattle.vt_upper_overlay.specs.UpperValue.{UpperOverlayValue, real_at}
use Rattle.vt_upper_overlay.proofs.Objects.{is_placed}

-- the upper layer, and the lower ones
pub record AreSplit (layers : List LayerRef) : Type 0 where
  pub upper : LayerRef
  pub lowers : List LayerRef
  pub is : layers ≡ upper ∷ lowers

pub split_layers : (layers : List LayerRef) → 0 < length layers → AreSplit layers
split_layers [] some = absurd (let no : ⊥ = omega (arith, some) in no)
split_layers (upper ∷ lowers) some = record { upper = upper; lowers = lowers; is = refl }

module _ (trees : Filesystems) (overlay : UpperOverlayValue) (stands : StandsAbove trees overlay) where
  abbrev split : AreSplit overlay.layers.lowers
  split = split_layers overlay.layers.lowers stands.upper

  pub is_first : slice_get overlay.layers.lowers 0 ≡ Some split.upper
  is_first = ap (λ l. slice_get l 0) split.is

  pub count_is : (upper : LayerRef) → slice_get overlay.layers.lowers 0 ≡ Some upper
      → upper_count overlay ≡ upper.directory.filesystem.count
  count_is upper e = ap count_of e

  -- what a lower layer shows has no copy yet
  pub births_of : CopiesAreThere trees (upper_count overlay) overlay.nodes.births
      → AreBirthsOf trees overlay.layers.lowers overlay.layers.number overlay.nodes.births
  births_of there = record {
    there = λ upper top. subst (λ n. CopiesAreThere trees n overlay.nodes.births) (count_is upper top) there;
    new = λ path node at. ap (copy_of overlay.nodes.births) at.is
        ∙ stands.uncopied path at.place at.object at.lower at.shows at.layer;
  }

  -- the copies of a path at which a node is
  module _ (with_bytes : Bool) (node : NodeRef) (path : List (List ℕ))
      (numbered : number_at trees overlay path ≡ Some (number_of node)) where
    pub below_ok : {E : Type 0} (result : Result Plan E)
        → ((upper : LayerRef) (lowers : List LayerRef) → overlay.layers.lowers ≡ upper ∷ lowers
        → IfOk result (IsPlanOf with_bytes trees upper lowers overlay.layers.number path))
        → IfOk result (AreCopiesOf with_bytes trees overlay node)
    below_ok (Ok plan) planned = is_below plan path numbered planned
    below_ok (Err e) planned = tt

    pub filesystem_ok : {E : Type 0} (result : Result Plan E)
        → ((upper : LayerRef) (lowers : List LayerRef) → overlay.layers.lowers ≡ upper ∷ lowers
        → IfOk result (IsPlanOf with_bytes trees upper lowers overlay.layers.number path))
        → IfOk result (λ plan. plan.directory.filesystem.count ≡ upper_count overlay)
    filesystem_ok (Ok plan) planned =
        ap (λ (id : FilesystemId). id.count) (planned split.upper split.lowers split.is).filesystem
        ∙ sym (count_is split.upper is_first)
    filesystem_ok (Err e) planned = tt

  -- Of an object in the upper layer
  module _ (node : NodeRef) (real : Object) (is : real_at overlay node ≡ Some real) (top : real.layer ≡ 0) where
    pub its_filesystem : real.inode.filesystem ≡ split.upper.directory.filesystem
    its_filesystem = same_Some real.inode.filesystem split.upper.directory.filesystem
        (sym (is_placed trees overlay node real is)
        ∙ ap (λ n. option_map (λ (layer : LayerRef). layer.directory.filesystem)
        (slice_get overlay.layers.lowers n)) top
        ∙ ap (option_map (λ (layer : LayerRef). layer.directory.filesystem)) is_first)

    module _ (plan : Plan) (directory : plan.directory ≡ real.inode) (none : plan.pieces.items ≡ []) where
      abbrev f : ℕ
      f = plan.directory.filesystem.count

      pub filesystem_is : f ≡ upper_count overlay
      filesystem_is = ap (λ (d : InodeRef). d.filesystem.count) directory
          ∙ ap (λ (id : FilesystemId). id.count) its_filesystem ∙ sym (count_is split.upper is_first)

      no_pieces : [] ≡ in_turn plan
      no_pieces = ap reverse (sym none)

      -- nothing is needed for it
      pub nothing_ready : CopiesAreThere trees (upper_count overlay) overlay.nodes.births → (inodes more room : ℕ)
          → IsReady plan (with_changed f (promising inodes) trees)
          (record overlay.nodes.births { promised = overlay.nodes.births.promised + more }) room
      nothing_ready there inodes more room =
          let after = with_changed f (promising inodes) trees in
          let births : BirthsValue =
          record overlay.nodes.births { promised = overlay.nodes.births.promised + more } in
          let same : files_at after f ≡ files_at trees (upper_count overlay) =
          promised_files f inodes trees ∙ ap (files_at trees) filesystem_is in
          record {
            first = subst (λ pieces. FirstFits pieces room plan.directory after) no_pieces tt;
            all = subst (λ pieces. AreReady pieces plan.directory after births) no_pieces (record {
              entries = subst (λ (files : FileTree ℕ). EntriesAreThere files.tree) (sym same)
                  (entries_are_there (files_at trees (upper_count overlay)).tree
                  (subst (λ n. Rattle.vt_spec.proofs.Common.IsTree (files_at trees n).tree)
                  (sym (count_is split.upper is_first)) (stands.layers 0 split.upper is_first).tree));
              there = λ slot born e. ap (λ (files : FileTree ℕ). is_some (files.tree.node (inode_number f slot))) same
                  ∙ ap (λ n. is_some ((files_at trees (upper_count overlay)).tree.node (inode_number n slot)))
                  filesystem_is ∙ there slot born e;
              many_inodes = omega arith;
              many_births = omega arith;
              nested = tt;
              below = All-nil (λ (piece : Piece). is_born_below piece.copy.born ≡ true);
              new = All-nil (λ (piece : Piece). copy_of births piece.copy.born ≡ None);
              apart = tt;
            });
          }
