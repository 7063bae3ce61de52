-- What is shown at two paths was born at two places, so it has two numbers.
use Rattle.std.proofs.Common.{Bool, List, Some, [], ap, arith, false, length, refl, subst, sym, true, true≢false, ℕ, ◌++◌, ◌∙◌, ◌∷◌, ◌≡◌, ◌≤◌, if◌then◌else◌}
use Rattle.vt_spec.proofs.Common.{IsTree, entries_in, is_root_path, same_Some, slice_get_within, without_last}
use Rattle.vt_fs.specs.FilesystemsValue.{Filesystems}
use Rattle.vt_laws_trees.proofs.layers.layers.ShownPaths.{one_path}
use Rattle.vt_laws_trees.proofs.layers.layers.UpperLine.{has_entries}
use Rattle.vt_location.specs.Births.{born_in}
use Rattle.vt_location.specs.Locations.{number_of}
use Rattle.vt_location.specs.Numbers.{inode_number}
use Rattle.vt_location.specs.declared.births.Birth.TheVariants.{Below, Here}
use Rattle.vt_node.proofs.RankLemmas.{ranked_is_found}
use Rattle.vt_node.specs.Ranks.{name_ranked}
use Rattle.vt_overlay.proofs.BirthsFound.{Birthplace, IsBorn, has_last, in_slot, is_born}
use Rattle.vt_overlay.proofs.BornNamed.{IsNamed, above, files, is_named, number, object, start}
use Rattle.vt_overlay.proofs.TreeFound.{IsAt}
use Rattle.vt_overlay.specs.MergedTree.{AreLayers, OverlayValue, node_born, rank_at, slot_at}

root_is : (path : List (List ℕ)) → is_root_path path ≡ true → path ≡ []
root_is [] e = refl
root_is (name ∷ path) e = absurd (true≢false (sym e))

module _ (trees : Filesystems) (overlay : OverlayValue) (are : AreLayers trees overlay.lowers)
    (few : length overlay.lowers ≤ 129) where
  -- a path that is not the root, and another with the same number
  module _ (path other : List (List ℕ)) (n : ℕ) (at : IsAt trees overlay are path n)
      (at_other : IsAt trees overlay are other n) (named : is_root_path path ≡ false) where
    last_is : Rattle.vt_overlay.proofs.BirthsFound.HasLast trees at.lower (are at.place at.lower at.layer) path at.object
    last_is = has_last trees at.lower (are at.place at.lower at.layer) path at.object named at.leads

    place : Birthplace trees overlay
    place = record {
      are = are;
      few = few;
      place = at.place;
      directory = slot_at trees at.lower (without_last path);
      rank = rank_at trees at.lower path;
      slot = slot_at trees at.lower path;
      place_small =
          let within = slice_get_within overlay.lowers at.place at.lower at.layer in omega (arith, within, few);
      directory_small = (in_slot trees at.lower (are at.place at.lower at.layer) (without_last path) last_is.directory
          last_is.leads).0;
      slot_small = (in_slot trees at.lower (are at.place at.lower at.layer) path at.object at.leads).0;
    }

    born_there : number_of (node_born trees overlay.number at.place at.lower path) ≡ number trees overlay place
    unfolding place
    born_there = ap (λ root. inode_number (born_in overlay.number.count (if root then Here
        else Below at.place (slot_at trees at.lower (without_last path)) (rank_at trees at.lower path)))
        (slot_at trees at.lower path)) named

    found : (p : List (List ℕ)) (it : IsAt trees overlay are p n) → IsBorn trees overlay place p it.lower
    unfolding place
    found p it = is_born trees overlay place p (record {
      place = it.place;
      object = it.object;
      lower = it.lower;
      layer = it.layer;
      is = it.is;
      leads = it.leads;
      numbered = it.numbered ∙ sym at.numbered ∙ born_there;
    })

    has_name : (p : List (List ℕ)) (it : IsAt trees overlay are p n)
        → IsNamed trees overlay place at.lower (found path at).layer p
    has_name p it = is_named trees overlay place at.lower (found path at).layer p (subst (IsBorn trees overlay place p)
        (same_Some it.lower at.lower (sym (found p it).layer ∙ (found path at).layer)) (found p it))

    tree : IsTree (files trees overlay place at.lower (found path at).layer)
    tree = (are at.place at.lower at.layer).tree

    name_is : (p : List (List ℕ)) (is : IsNamed trees overlay place at.lower (found path at).layer p)
        → name_ranked (entries_in ((files trees overlay place at.lower (found path at).layer).node
        (above trees overlay place at.lower (found path at).layer)))
        (object trees overlay place at.lower (found path at).layer) place.rank ≡ Some is.name
    name_is p is = ap (name_ranked (entries_in ((files trees overlay place at.lower (found path at).layer).node
        (above trees overlay place at.lower (found path at).layer)))
        (object trees overlay place at.lower (found path at).layer)) is.ranked
        ∙ ranked_is_found is.name (object trees overlay place at.lower (found path at).layer)
        (entries_in ((files trees overlay place at.lower (found path at).layer).node
        (above trees overlay place at.lower (found path at).layer)))
        (tree.in_order (above trees overlay place at.lower (found path at).layer)) is.entry

    pub one_named : path ≡ other
    one_named =
        let one = has_name path at in
        let two = has_name other at_other in
        let ways = one_path (files trees overlay place at.lower (found path at).layer) tree
        (start trees overlay place at.lower (found path at).layer) one.way two.way
        (above trees overlay place at.lower (found path at).layer) one.leads two.leads
        (has_entries (files trees overlay place at.lower (found path at).layer)
        (above trees overlay place at.lower (found path at).layer) one.name
        (object trees overlay place at.lower (found path at).layer) one.entry) in
        let names = same_Some one.name two.name (sym (name_is path one) ∙ name_is other two) in
        sym one.split ∙ (λ i. ways i ++ names i ∷ []) ∙ two.split

  pub one_path_numbered : (path other : List (List ℕ)) (n : ℕ) → IsAt trees overlay are path n
      → IsAt trees overlay are other n → path ≡ other
  one_path_numbered path other n at at_other = by (is_root_path path) refl (is_root_path other) refl
    where
      by : (b : Bool) → is_root_path path ≡ b → (c : Bool) → is_root_path other ≡ c → path ≡ other
      by false e c f = one_named path other n at at_other e
      by true e false f = sym (one_named other path n at_other at f)
      by true e true f = root_is path e ∙ sym (root_is other f)
