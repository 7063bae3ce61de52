-- Layers that lead at every path to what is alike show what is alike.
use Rattle.std.proofs.Common.{◌≡◌, refl, sym, ap, subst, ◌∙◌, true≢false, arith, ℕ, suc, ◌+◌, Bool, true, false, not, ◌||◌, List, [], ◌∷◌, Option, Some, None, is_some, slice_get}
use Rattle.vt_spec.proofs.Common.{Content, Directory, IsTree, Node, OpenLayer, Regular, SameObject, Shown, Symlink, Tree, Whiteout, at_path, bytes_decides, bytes_of, common_steps, directory_used, entry_at, is_directory, is_kind, is_kind_in, kind_of, layer_node, led, list_any, node_at_path, prefixes, same_Some, same_content, shown, then_some, when}
use Rattle.vt_spec.specs.declared.attributes.Kind.TheVariants.{White}
use Rattle.vt_spec.proofs.Layers.{cuts, shown_from, shown_over}
use Rattle.vt_spec.specs.Machine.Layers.{hides}
use Rattle.vt_laws_trees.specs.Layers.Layers.Mounted.{AreAsOthers, IsAlike}
use Rattle.vt_laws_trees.proofs.layers.layers.ShownDirectories.{AreOpen}
use Rattle.vt_spec.proofs.Trees.{found}

-- Inodes that are alike

hides_alike : (one other : Option (Node ℕ)) → IsAlike one other → hides other ≡ hides one
hides_alike None None is = refl
hides_alike None (Some there) is = absurd (true≢false is.there)
hides_alike (Some here) None is = absurd (true≢false (sym is.there))
hides_alike (Some here) (Some there) is = λ i. not (is_directory (is.kind i)) || is.mark i

pub white_alike : (one other : Option (Node ℕ)) → IsAlike one other → is_kind_in White other ≡ is_kind_in White one
white_alike None None is = refl
white_alike None (Some there) is = absurd (true≢false is.there)
white_alike (Some here) None is = absurd (true≢false (sym is.there))
white_alike (Some here) (Some there) is = ap (is_kind White) is.kind

contents_alike : (one other : Content ℕ) → kind_of other ≡ kind_of one → bytes_of other ≡ bytes_of one
    → is_kind White (kind_of one) ≡ false → same_content one other ≡ true
contents_alike (Directory p q r) (Directory s t u) kind bytes seen = refl
contents_alike (Directory p q r) (Regular y) kind bytes seen = absurd cc
contents_alike (Directory p q r) (Symlink y) kind bytes seen = absurd cc
contents_alike (Directory p q r) Whiteout kind bytes seen = absurd cc
contents_alike (Regular x) (Directory s t u) kind bytes seen = absurd cc
contents_alike (Regular x) (Regular y) kind bytes seen = (bytes_decides x y).1 (sym bytes)
contents_alike (Regular x) (Symlink y) kind bytes seen = absurd cc
contents_alike (Regular x) Whiteout kind bytes seen = absurd cc
contents_alike (Symlink x) (Directory s t u) kind bytes seen = absurd cc
contents_alike (Symlink x) (Regular y) kind bytes seen = absurd cc
contents_alike (Symlink x) (Symlink y) kind bytes seen = (bytes_decides x y).1 (sym bytes)
contents_alike (Symlink x) Whiteout kind bytes seen = absurd cc
contents_alike Whiteout other kind bytes seen = absurd (true≢false seen)

same_object : (one other : Option (Node ℕ)) → IsAlike one other → is_kind_in White one ≡ false → SameObject one other
same_object None None is seen = tt
same_object None (Some there) is seen = absurd (true≢false is.there)
same_object (Some here) None is seen = absurd (true≢false (sym is.there))
same_object (Some here) (Some there) is seen = grind (arith, common_steps, contents_alike)

-- What names lead to in a tree is there.
led_alive : (tree : Tree ℕ) → IsTree tree → (path : List (List ℕ)) (start object : ℕ)
    → is_some (tree.node start) ≡ true → led tree start path ≡ Some object → is_some (tree.node object) ≡ true
led_alive tree is [] start object there e = subst (λ n. is_some (tree.node n) ≡ true) (same_Some start object e) there
led_alive tree is (name ∷ path) start object there e =
    let next = found (λ next. led tree next path) (entry_at tree start name) object e in
    led_alive tree is path next.0 object (is.alive start name next.0 next.1) next.2

-- Layers that are as others

-- what the one list shows is alike to what the other shows, from a depth on
record IsSeenAlike (depth : ℕ) (layers others : List (OpenLayer ℕ)) (seen there : Shown ℕ) : Type 0 where
  place : ℕ
  in_layer : seen.layer ≡ depth + place
  in_other : there.layer ≡ depth + place
  layer : OpenLayer ℕ
  other : OpenLayer ℕ
  has_layer : slice_get layers place ≡ Some layer
  has_other : slice_get others place ≡ Some other
  alike : IsAlike (layer.tree.node seen.object) (other.tree.node there.object)
  visible : is_kind_in White (layer.tree.node seen.object) ≡ false

abbrev ShowAlike : ℕ → List (OpenLayer ℕ) → List (OpenLayer ℕ) → Option (Shown ℕ) → Option (Shown ℕ) → Type 0
ShowAlike depth layers others None None = Unit {0}
ShowAlike depth layers others None (Some there) = ⊥
ShowAlike depth layers others (Some seen) None = ⊥
ShowAlike depth layers others (Some seen) (Some there) = IsSeenAlike depth layers others seen there

abbrev LowerAlike : ℕ → List (OpenLayer ℕ) → List (OpenLayer ℕ) → List (List ℕ) → Type 0
LowerAlike depth layers others path =
    ShowAlike (depth + 1) layers others (shown_from (depth + 1) layers path) (shown_from (depth + 1) others path)

-- behind one layer more
shown_deeper : (depth : ℕ) (layer other : OpenLayer ℕ) (layers others : List (OpenLayer ℕ))
    (seen there : Option (Shown ℕ))
    → ShowAlike (depth + 1) layers others seen there → ShowAlike depth (layer ∷ layers) (other ∷ others) seen there
shown_deeper depth layer other layers others None None is = tt
shown_deeper depth layer other layers others None (Some there) is = absurd is
shown_deeper depth layer other layers others (Some seen) None is = absurd is
shown_deeper depth layer other layers others (Some seen) (Some there) is = record {
  place = suc is.place;
  in_layer = let h = is.in_layer in omega arith;
  in_other = let h = is.in_other in omega arith;
  layer = is.layer;
  other = is.other;
  has_layer = is.has_layer;
  has_other = is.has_other;
  alike = is.alike;
  visible = is.visible;
}

show_alike : (layers others : List (OpenLayer ℕ)) → AreAsOthers layers others → AreOpen layers → AreOpen others
    → (depth : ℕ) (path : List (List ℕ))
    → ShowAlike depth layers others (shown_from depth layers path) (shown_from depth others path)
show_alike [] [] as_others are_open others_open depth path = tt
show_alike [] (other ∷ others) as_others are_open others_open depth path = absurd as_others
show_alike (layer ∷ layers) [] as_others are_open others_open depth path = absurd as_others
show_alike (layer ∷ layers) (other ∷ others) as_others are_open others_open depth path = by _ refl _ refl (show_alike
    layers others as_others.1 (λ k l h. are_open (suc k) l h) (λ k l h. others_open (suc k) l h) (depth + 1) path)
  where
    cut_alike : cuts other path ≡ cuts layer path
    cut_alike = λ i. list_any (λ front. hides_alike _ _ (as_others.0 front) i) (prefixes path)

    alive : (one : OpenLayer ℕ)
        → IsTree one.tree × (Rattle.vt_spec.specs.TreeInvariant.IsDirectory one.tree one.directory)
        → (object : ℕ) → at_path one path ≡ Some object → is_some (node_at_path one path) ≡ true
    alive one is object e = ap (λ o. is_some (then_some o one.tree.node)) e
        ∙ led_alive one.tree is.0 path one.directory object (directory_used one.tree one.directory is.1) e

    unled : (one : OpenLayer ℕ) → at_path one path ≡ None → is_some (node_at_path one path) ≡ false
    unled one e = ap (λ o. is_some (then_some o one.tree.node)) e

    on_top : (object there : ℕ) → IsAlike (layer.tree.node object) (other.tree.node there)
        → (white others_white : Bool) → is_kind_in White (layer.tree.node object) ≡ white → others_white ≡ white
        → ShowAlike depth (layer ∷ layers) (other ∷ others)
        (when (not white) (record { layer = depth; object = object }))
        (when (not others_white) (record { layer = depth; object = there }))
    on_top object there is true true seen same = tt
    on_top object there is true false seen same = absurd (true≢false (sym same))
    on_top object there is false true seen same = absurd (true≢false same)
    on_top object there is false false seen same = record {
      place = 0;
      in_layer = omega arith;
      in_other = omega arith;
      layer = layer;
      other = other;
      has_layer = refl;
      has_other = refl;
      alike = is;
      visible = seen;
    }

    under : LowerAlike depth layers others path → (cut others_cut : Bool) → others_cut ≡ cut
        → ShowAlike depth (layer ∷ layers) (other ∷ others)
        (shown_over layer depth None cut (shown_from (depth + 1) layers path))
        (shown_over other depth None others_cut (shown_from (depth + 1) others path))
    under lower true true same = tt
    under lower true false same = absurd (true≢false (sym same))
    under lower false true same = absurd (true≢false same)
    under lower false false same = grind (arith, common_steps, shown_deeper, shown_from)

    by : (led_to : Option ℕ) → at_path layer path ≡ led_to → (others_led_to : Option ℕ)
        → at_path other path ≡ others_led_to → LowerAlike depth layers others path
        → ShowAlike depth (layer ∷ layers) (other ∷ others)
        (shown_over layer depth led_to (cuts layer path) (shown_from (depth + 1) layers path))
        (shown_over other depth others_led_to (cuts other path) (shown_from (depth + 1) others path))
    by None e None f lower = under lower (cuts layer path) (cuts other path) cut_alike
    by None e (Some there) f lower =
        absurd (true≢false (sym (alive other (others_open 0 other refl) there f) ∙ (as_others.0 path).there
        ∙ unled layer e))
    by (Some object) e None f lower =
        absurd (true≢false (sym (alive layer (are_open 0 layer refl) object e) ∙ sym (as_others.0 path).there
        ∙ unled other f))
    by (Some object) e (Some there) f lower =
        let is : IsAlike (layer.tree.node object) (other.tree.node there) =
        subst (λ o. IsAlike (then_some o layer.tree.node) (other.tree.node there)) e
        (subst (λ o. IsAlike (node_at_path layer path) (then_some o other.tree.node)) f (as_others.0 path)) in
        on_top object there is _ (is_kind_in White (other.tree.node there)) refl (white_alike _ _ is)

-- So the same object is shown at every path.
pub shown_alike : (layers others : List (OpenLayer ℕ)) → AreAsOthers layers others → AreOpen layers → AreOpen others
    → (path : List (List ℕ))
    → SameObject (then_some (shown layers path) (layer_node layers)) (then_some (shown others path) (layer_node others))
shown_alike layers others as_others are_open others_open path =
    grind (arith, common_steps, show_alike layers others as_others are_open others_open 0 path, same_object)
