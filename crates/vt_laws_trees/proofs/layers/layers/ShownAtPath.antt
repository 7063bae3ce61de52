-- What is computed to be shown at a path is what is shown there.
use Rattle.std.proofs.Common.{◌≡◌, ◌≢◌, ◌<◌, ◌↔◌, refl, sym, ap, subst, ◌∙◌, true≢false, arith, ℕ, zero, suc, ◌+◌, Bool, true, false, not, List, [], ◌∷◌, Option, Some, None}
use Rattle.vt_spec.proofs.Common.{Content, Directory, Node, OpenLayer, Regular, Shown, Symlink, Whiteout, at_path, common_steps, is_kind, is_kind_in, kind_of, node_at_path, none_is_some, same_Some, shown, when}
use Rattle.vt_spec.specs.declared.attributes.Kind.TheVariants.{White}
use Rattle.vt_spec.proofs.Layers.{cuts, shown_from, shown_over}
use Rattle.vt_laws_trees.specs.Layers.Layers.Shown.{HasAt, HasInodeAt, HasUncut, IsCut, IsShown}
use Rattle.vt_laws_trees.proofs.layers.layers.ShownFronts.{cuts_by, prefix_found, hides_inode}

is_no_whiteout : (content : Content ℕ) → content ≢ Whiteout → is_kind White (kind_of content) ≡ false
is_no_whiteout (Directory parent entries opaque) n = refl
is_no_whiteout (Regular bytes) n = refl
is_no_whiteout (Symlink text) n = refl
is_no_whiteout Whiteout n = absurd (n refl)

-- The top layer, over lower ones
module _ (layer : OpenLayer ℕ) (lower : List (OpenLayer ℕ)) (path : List (List ℕ)) where
  -- nothing cuts the top layer
  top_uncut : ¬ (IsCut (layer ∷ lower) 0 path)
  top_uncut cut = let h = cut.is_higher in omega arith

  -- a lower layer is cut where the top one cuts, or where it is cut among the lower ones
  cut_by_top : (depth : ℕ) → cuts layer path ≡ true → IsCut (layer ∷ lower) (suc depth) path
  cut_by_top depth e = grind (arith, common_steps, prefix_found, hides_inode)

  cut_by_lower : (depth : ℕ) → IsCut lower depth path → IsCut (layer ∷ lower) (suc depth) path
  cut_by_lower depth cut = record {
    higher = suc cut.higher;
    is_higher = let h = cut.is_higher in omega arith;
    prefix = cut.prefix;
    is_prefix = cut.is_prefix;
    inode = cut.inode;
    stands = cut.stands;
    hides = cut.hides;
  }

  lower_uncut : (depth : ℕ) → cuts layer path ≡ false → ¬ (IsCut lower depth path)
      → ¬ (IsCut (layer ∷ lower) (suc depth) path)
  lower_uncut depth e uncut cut = by cut.higher cut.is_higher cut.stands
    where
      by : (higher : ℕ) → higher < suc depth → HasInodeAt (layer ∷ lower) higher cut.prefix cut.inode → ⊥
      by zero h stands = true≢false (sym (cuts_by layer path cut.prefix cut.inode cut.is_prefix
          (ap (λ l. node_at_path l cut.prefix) (same_Some layer stands.0 stands.1) ∙ stands.2) cut.hides) ∙ e)
      by (suc higher) h stands = uncut (record {
        higher = higher;
        is_higher = omega arith;
        prefix = cut.prefix;
        is_prefix = cut.is_prefix;
        inode = cut.inode;
        stands = stands;
        hides = cut.hides;
      })

  -- shown in the top layer is what it has there, unless that is a whiteout
  shown_on_top : (object : ℕ) → at_path layer path ≡ Some object → is_kind_in White (layer.tree.node object) ≡ false
      → IsShown (layer ∷ lower) path (record { layer = 0; object = object })
  shown_on_top object e white = grind (arith, common_steps, top_uncut, true≢false, same_Some)

  -- shown below is what the lower layers show, where the top one has nothing and does not cut
  shown_under : (seen : Shown ℕ) → at_path layer path ≡ None → cuts layer path ≡ false → IsShown lower path seen
      → IsShown (layer ∷ lower) path (record { layer = suc seen.layer; object = seen.object })
  shown_under seen e uncut is = record {
    has_uncut = (is.has_uncut.0, lower_uncut seen.layer uncut is.has_uncut.1);
    highest = by;
    no_whiteout = is.no_whiteout;
  }
    where
      by : (higher object : ℕ) → higher < suc seen.layer → ¬ (HasUncut (layer ∷ lower) higher path object)
      by zero object h has = none_is_some object (cc (same_Some layer has.0.0 has.0.1, has.0.2))
      by (suc higher) object h has =
          is.highest higher object (omega arith) (has.0, λ cut. has.1 (cut_by_lower higher cut))

  -- What is shown is shown in the top layer or below it.
  has_top : (object : ℕ) → HasAt (layer ∷ lower) 0 path object → at_path layer path ≡ Some object
  has_top object has = cc (same_Some layer has.0 has.1, has.2)

  top_is_no_whiteout : (object : ℕ) → at_path layer path ≡ Some object
      → ((inode : Node ℕ) → HasInodeAt (layer ∷ lower) 0 path inode → inode.content ≢ Whiteout)
      → is_kind_in White (layer.tree.node object) ≡ false
  top_is_no_whiteout object e none = by (layer.tree.node object) refl
    where
      by : (inode : Option (Node ℕ)) → layer.tree.node object ≡ inode → is_kind_in White inode ≡ false
      by None is = refl
      by (Some node) is = is_no_whiteout node.content (none node (layer, refl, cc))

  top_has_none : (depth object : ℕ) → IsShown (layer ∷ lower) path (record { layer = suc depth; object = object })
      → at_path layer path ≡ None
  top_has_none depth object is = by (at_path layer path) refl
    where
      by : (o : Option ℕ) → at_path layer path ≡ o → at_path layer path ≡ None
      by None e = e
      by (Some other) e = absurd (is.highest 0 other (omega arith) ((layer, refl, e), top_uncut))

  top_cuts_not : (depth object : ℕ) → IsShown (layer ∷ lower) path (record { layer = suc depth; object = object })
      → cuts layer path ≡ false
  top_cuts_not depth object is = grind (arith, common_steps, cut_by_top)

  lower_shows : (depth object : ℕ) → IsShown (layer ∷ lower) path (record { layer = suc depth; object = object })
      → IsShown lower path (record { layer = depth; object = object })
  lower_shows depth object is = record {
    has_uncut = (is.has_uncut.0, λ cut. is.has_uncut.1 (cut_by_lower depth cut));
    highest = λ higher other h has.
        is.highest (suc higher) other (omega arith) (has.0, lower_uncut higher (top_cuts_not depth object is) has.1);
    no_whiteout = is.no_whiteout;
  }

-- Shown from a depth on
abbrev AtDepth : ℕ → Shown ℕ → Shown ℕ
AtDepth depth seen = record { layer = depth + seen.layer; object = seen.object }

abbrev ShownFrom : ℕ → List (OpenLayer ℕ) → List (List ℕ) → Shown ℕ → Type 0
ShownFrom depth layers path seen = (here : Shown ℕ) × IsShown layers path here × (AtDepth depth here ≡ seen)

-- what is computed is shown
computed_is_shown : (depth : ℕ) (layers : List (OpenLayer ℕ)) (path : List (List ℕ)) (seen : Shown ℕ)
    → shown_from depth layers path ≡ Some seen → ShownFrom depth layers path seen
computed_is_shown depth [] path seen e = none_is_some seen e
computed_is_shown depth (layer ∷ lower) path seen e =
    over (at_path layer path) refl (cuts layer path) refl (computed_is_shown (depth + 1) lower path seen) e
  where
    top : (object : ℕ) → at_path layer path ≡ Some object → (white : Bool)
        → is_kind_in White (layer.tree.node object) ≡ white
        → when (not white) (record { layer = depth; object = object }) ≡ Some seen
        → ShownFrom depth (layer ∷ lower) path seen
    top object a true w e = none_is_some seen e
    top object a false w e = (
      record { layer = 0; object = object },
      shown_on_top layer lower path object a w,
      (λ i. record { layer = (let h : depth + 0 ≡ depth = omega arith in h) i; object = object })
          ∙ same_Some (record { layer = depth; object = object }) seen e,
    )

    over : (found : Option ℕ) → at_path layer path ≡ found → (cut : Bool) → cuts layer path ≡ cut
        → (shown_from (depth + 1) lower path ≡ Some seen → ShownFrom (depth + 1) lower path seen)
        → shown_over layer depth found cut (shown_from (depth + 1) lower path) ≡ Some seen
        → ShownFrom depth (layer ∷ lower) path seen
    over (Some object) a cut c rest e = top object a (is_kind_in White (layer.tree.node object)) refl e
    over None a true c rest e = none_is_some seen e
    over None a false c rest e =
        let under = rest e in (
          record { layer = suc under.0.layer; object = under.0.object },
          shown_under layer lower path under.0 a c under.1,
          (λ i. record {
            layer = (let h : depth + suc under.0.layer ≡ (depth + 1) + under.0.layer = omega arith in h) i;
            object = under.0.object;
          }) ∙ under.2,
        )

-- what is shown is computed
shown_is_computed : (layers : List (OpenLayer ℕ)) (depth : ℕ) (path : List (List ℕ)) (layer object : ℕ)
    → IsShown layers path (record { layer = layer; object = object })
    → shown_from depth layers path ≡ Some (record { layer = depth + layer; object = object })
shown_is_computed [] depth path layer object is = none_is_some is.has_uncut.0.0 is.has_uncut.0.1
shown_is_computed (top ∷ lower) depth path zero object is =
    let leads = has_top top lower path object is.has_uncut.0 in
    let deep : depth ≡ depth + 0 = omega arith in
    cc (leads, top_is_no_whiteout top lower path object leads is.no_whiteout, deep)
shown_is_computed (top ∷ lower) depth path (suc layer) object is =
    let below = lower_shows top lower path layer object is in
    let deep : depth + 1 + layer ≡ depth + suc layer = omega arith in
    cc (
      top_has_none top lower path layer object is,
      top_cuts_not top lower path layer object is,
      shown_is_computed lower (depth + 1) path layer object below,
      deep,
    )

pub computed : (layers : List (OpenLayer ℕ)) (path : List (List ℕ)) (seen : Shown ℕ)
    → (shown layers path ≡ Some seen) ↔ IsShown layers path seen
computed layers path seen = (
  λ e. let found = computed_is_shown 0 layers path seen e in
      subst (IsShown layers path) ((λ i.
      record { layer = (let h : found.0.layer ≡ 0 + found.0.layer = omega arith in h) i; object = found.0.object })
      ∙ found.2) found.1,
  λ is. shown_is_computed layers 0 path seen.layer seen.object is
      ∙ ap (λ d. Some (record { layer = d; object = seen.object })) (omega arith),
)

pub one_is_shown : (layers : List (OpenLayer ℕ)) (path : List (List ℕ)) (one other : Shown ℕ) → IsShown layers path one
    → IsShown layers path other → one ≡ other
one_is_shown layers path one other a b =
    same_Some one other (sym ((computed layers path one).1 a) ∙ (computed layers path other).1 b)

pub nothing_is_shown : (layers : List (OpenLayer ℕ)) (path : List (List ℕ))
    → (shown layers path ≡ None) ↔ ((seen : Shown ℕ) → ¬ (IsShown layers path seen))
nothing_is_shown layers path = (
  λ e seen is. none_is_some seen (sym e ∙ (computed layers path seen).1 is),
  λ none. by none (shown layers path) refl,
)
  where
    by : ((seen : Shown ℕ) → ¬ (IsShown layers path seen)) → (o : Option (Shown ℕ)) → shown layers path ≡ o
        → shown layers path ≡ None
    by none None e = e
    by none (Some seen) e = absurd (none seen ((computed layers path seen).0 e))
