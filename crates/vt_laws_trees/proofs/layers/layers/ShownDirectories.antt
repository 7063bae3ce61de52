-- What is shown under a name is shown in a directory.
use Rattle.std.proofs.Common.{◌≡◌, ◌≢◌, refl, sym, ap, subst, ◌∙◌, true≢false, arith, ℕ, suc, ◌+◌, Bool, true, false, List, [], ◌∷◌, ◌++◌, Option, Some, None, is_some, option_and_then, slice_get}
use Rattle.vt_spec.proofs.Common.{IsDirectory, IsTree, Node, OpenLayer, Shown, at_path, common_steps, directory_no_whiteout, entry_at, is_directory_node, node_at_path, none_is_some, same_Some, then_some}
use Rattle.vt_spec.proofs.Layers.{cuts, shown_from, shown_over}
use Rattle.vt_spec.specs.Machine.Layers.{hides}
use Rattle.vt_laws_trees.proofs.layers.layers.ShownFronts.{prefix_found, prefix_passes}
use Rattle.vt_laws_trees.proofs.layers.layers.ShownNames.{last_name}
use Rattle.vt_laws_trees.proofs.layers.layers.UpperLine.{has_entries}

-- layers are directories of trees
abbrev pub AreOpen : List (OpenLayer ℕ) → Type 0
AreOpen layers = (depth : ℕ) (layer : OpenLayer ℕ) → slice_get layers depth ≡ Some layer
    → IsTree layer.tree × IsDirectory layer.tree layer.directory

-- a path that is not the root's has a last name
pub last_of : (path : List (List ℕ)) → path ≢ []
    → (front : List (List ℕ)) × (name : List ℕ) × (front ++ name ∷ [] ≡ path)
last_of [] n = absurd (n refl)
last_of (name ∷ []) n = ([], name, refl)
last_of (name ∷ other ∷ path) n =
    let rest = last_of _ (λ e. true≢false (ap (λ l. elim l as (λ _. Bool) [ [] ↦ false | a ∷ b ↦ true ]) e)) in
    (name ∷ rest.0, rest.1, ap (λ p. name ∷ p) rest.2)

pub longer_is_not_empty : (path : List (List ℕ)) (name : List ℕ) → path ++ name ∷ [] ≢ []
longer_is_not_empty [] name e = true≢false (ap (λ l. elim l as (λ _. Bool) [ [] ↦ false | a ∷ b ↦ true ]) e)
longer_is_not_empty (first ∷ path) name e = true≢false (ap (λ l. elim l as (λ _. Bool) [ [] ↦ false | a ∷ b ↦ true ]) e)

pub append_assoc : (a b c : List (List ℕ)) → (a ++ b) ++ c ≡ a ++ (b ++ c)
append_assoc [] b c = refl
append_assoc (x ∷ a) b c = ap (λ l. x ∷ l) (append_assoc a b c)

-- what does not cut at a path does not cut at its front, and does not hide there
pub cuts_not_before : (layer : OpenLayer ℕ) (path : List (List ℕ)) (name : List ℕ)
    → cuts layer (path ++ name ∷ []) ≡ false → cuts layer path ≡ false
cuts_not_before layer path name e = grind (arith, common_steps, prefix_found, true≢false, prefix_passes, append_assoc)

hides_not_at : (layer : OpenLayer ℕ) (path : List (List ℕ)) (name : List ℕ) → path ≢ []
    → cuts layer (path ++ name ∷ []) ≡ false → hides (node_at_path layer path) ≡ false
hides_not_at layer path name nonempty e = grind (arith, common_steps, true≢false, prefix_passes)

-- what is there and does not hide is a directory
open_directory : (node : Option (Node ℕ)) → is_some node ≡ true → hides node ≡ false → is_directory_node node ≡ true
open_directory None s h = cc
open_directory (Some node) s h = grind (arith, common_steps, true≢false)

-- what names lead to is there
pub led_is_there : (layer : OpenLayer ℕ) → IsTree layer.tree → IsDirectory layer.tree layer.directory
    → (path : List (List ℕ)) (object : ℕ) → at_path layer path ≡ Some object → is_some (layer.tree.node object) ≡ true
led_is_there layer tree d [] object e =
    subst (λ o. is_some (layer.tree.node o) ≡ true) (same_Some layer.directory object e)
    (Rattle.vt_spec.proofs.Nodes.directory_used layer.tree layer.directory d)
led_is_there layer tree d (name ∷ rest) object e =
    let last = last_of (name ∷ rest) (λ h. true≢false (ap (λ l. elim l as (λ _. Bool) [ [] ↦ false | a ∷ b ↦ true ])
    h)) in grind (arith, common_steps, last_name layer.tree layer.directory last.0 last.1, none_is_some)

-- a directory that is shown, from a depth on
pub record ShowsDirectory (depth : ℕ) (layers : List (OpenLayer ℕ)) (path : List (List ℕ)) : Type 0 where
  pub place : ℕ
  pub layer : OpenLayer ℕ
  pub object : ℕ
  pub there : slice_get layers place ≡ Some layer
  pub is : shown_from depth layers path ≡ Some (record { layer = depth + place; object = object })
  pub at : at_path layer path ≡ Some object
  pub directory : IsDirectory layer.tree object

own_directory : (depth : ℕ) (layer : OpenLayer ℕ) (lower : List (OpenLayer ℕ)) (path : List (List ℕ)) (object : ℕ)
    → at_path layer path ≡ Some object → IsDirectory layer.tree object → ShowsDirectory depth (layer ∷ lower) path
own_directory depth layer lower path object e d =
    grind (arith, common_steps, shown_over, cuts, shown_from, directory_no_whiteout)

pub shown_in_directory : (layers : List (OpenLayer ℕ)) → AreOpen layers
    → (depth : ℕ) (path : List (List ℕ)) (name : List ℕ) (seen : Shown ℕ)
    → shown_from depth layers (path ++ name ∷ []) ≡ Some seen → ShowsDirectory depth layers path
shown_in_directory [] are_open depth path name seen e = none_is_some seen e
shown_in_directory (layer ∷ lower) are_open depth path name seen e = by _ refl (cuts layer (path ++ name ∷ []))
    refl e (shown_in_directory lower (λ k l h. are_open (suc k) l h) (depth + 1) path name seen)
  where
    open_layer : IsTree layer.tree × IsDirectory layer.tree layer.directory
    open_layer = are_open 0 layer refl

    has_it : (object : ℕ) (o : Option ℕ) → at_path layer path ≡ o
        → option_and_then (λ directory. entry_at layer.tree directory name) o ≡ Some object
        → ShowsDirectory depth (layer ∷ lower) path
    has_it object None p h = none_is_some object h
    has_it object (Some directory) p h =
        own_directory depth layer lower path directory p (has_entries layer.tree directory name object h)

    under : cuts layer (path ++ name ∷ []) ≡ false → ShowsDirectory (depth + 1) lower path → (o : Option ℕ)
        → at_path layer path ≡ o → ShowsDirectory depth (layer ∷ lower) path
    under c below None p = record {
      place = suc below.place;
      layer = below.layer;
      object = below.object;
      there = below.there;
      is = ap (λ o. shown_over layer depth o (cuts layer path) (shown_from (depth + 1) lower path)) p
          ∙ ap (λ b. shown_over layer depth None b (shown_from (depth + 1) lower path))
          (cuts_not_before layer path name c) ∙ below.is
          ∙ ap (λ l. Some (record { layer = l; object = below.object })) (omega arith);
      at = below.at;
      directory = below.directory;
    }
    under c below (Some object) p = own_directory depth layer lower path object p (is_open path object p c)
      where
        is_open : (path : List (List ℕ)) (object : ℕ) → at_path layer path ≡ Some object
            → cuts layer (path ++ name ∷ []) ≡ false → IsDirectory layer.tree object
        is_open [] object p c = subst (IsDirectory layer.tree) (same_Some layer.directory object p) open_layer.1
        is_open (first ∷ rest) object p c = open_directory (layer.tree.node object)
            (led_is_there layer open_layer.0 open_layer.1 (first ∷ rest) object p)
            (ap (λ o. hides (then_some o layer.tree.node)) (sym p) ∙ hides_not_at layer (first ∷ rest) name
            (λ h. true≢false (ap (λ l. elim l as (λ _. Bool) [ [] ↦ false | a ∷ b ↦ true ]) h)) c)

    by : (o : Option ℕ) → at_path layer (path ++ name ∷ []) ≡ o → (cut : Bool) → cuts layer (path ++ name ∷ []) ≡ cut
        → shown_over layer depth o cut (shown_from (depth + 1) lower (path ++ name ∷ [])) ≡ Some seen
        → (shown_from (depth + 1) lower (path ++ name ∷ []) ≡ Some seen → ShowsDirectory (depth + 1) lower path)
        → ShowsDirectory depth (layer ∷ lower) path
    by (Some object) p cut c e below = has_it object _ refl (sym (last_name layer.tree layer.directory path name) ∙ p)
    by None p true c e below = none_is_some seen e
    by None p false c e below = under c (below e) (at_path layer path) refl
