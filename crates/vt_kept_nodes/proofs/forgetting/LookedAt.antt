-- Looks at an overlay that keeps fewer nodes without a name.
use Rattle.std.proofs.Common.{◌≡◌, refl, sym, ap, ◌∙◌, ℕ, nat_eq, eqb-true, eq-eqb, Bool, true, false, true≢false, cond, not, ◌&&◌, ◌||◌, List, [], ◌∷◌, find, Option, Some, None, All, is_some, unwrap_or}
use Rattle.std.specs.List.{list_any}
use Rattle.std.specs.Map.{keys_of}
use Rattle.vt_spec.proofs.Common.{Among, Lower, Real, Upper, among_from_all, any_from_among, found_among, found_passes, then_some}
use Rattle.vt_births.specs.Births.{copy_of, node_of, slot_above, slot_by}
use Rattle.vt_births.specs.Kept.{is_kept}
use Rattle.vt_births.specs.declared.upper_nodes.UpperNodes.{UpperNodes}
use Rattle.vt_location.specs.declared.births.Birth.{Birth}
use Rattle.vt_location.specs.declared.births.Birth.TheVariants.{Below, Here}
use Rattle.vt_location.specs.declared.locations.NodeRef.{NodeRef}
use Rattle.vt_location.specs.Locations.{is_small_node, number_of}
use Rattle.vt_location.specs.SameNodes.{same_node}
use Rattle.vt_location.specs.Numbers.{exchanged}
use Rattle.vt_location.proofs.NodeLemmas.{one_to_one, same_node-itself, small_parts}
use Rattle.vt_fs.specs.FilesystemsValue.{Filesystems}
use Rattle.vt_upper_overlay.specs.MergedAbove.{held, object_by, object_kept, real_number, upper_count}
use Rattle.vt_upper_overlay.specs.UpperValue.{UpperOverlayValue}
use Rattle.vt_kept_nodes.specs.Forgetting.{Forgets, is_gone}
use Rattle.vt_kept_nodes.specs.Looked.{HeldAreKeptStill, KeptFindTheirObjects, OthersHaveTheirNumbers, is_forgotten, keeping, keeps_number}
use Rattle.vt_kept_nodes.proofs.forgetting.Forgotten.{kept_was}

-- what is found is any
pub any_found : {A : Type 0} (test : A → Bool) (list : List A) → is_some (find test list) ≡ list_any test list
any_found test [] = refl
any_found test (a ∷ list) = by (test a) (any_found test list)
  where
    by : (b : Bool) → is_some (find test list) ≡ list_any test list
        → is_some (cond b (Some a) (find test list)) ≡ (b || list_any test list)
    by true rest = refl
    by false rest = rest

module _ (trees : Filesystems) (overlay : UpperOverlayValue) (nodes : UpperNodes)
    (is : Forgets overlay.nodes nodes) where
  abbrev old : UpperNodes
  old = overlay.nodes

  abbrev later : UpperOverlayValue
  later = keeping nodes overlay

  not_gone : (node : NodeRef) → is_kept nodes.kept node ≡ true → is_gone old nodes node ≡ false
  not_gone node there = ap (λ b. is_kept old.kept node && not b) there ∙ and_none (is_kept old.kept node)
    where
      and_none : (b : Bool) → (b && false) ≡ false
      and_none true = refl
      and_none false = refl

  slot_still : (node : NodeRef) → is_kept nodes.kept node ≡ true
      → slot_above nodes.births node ≡ slot_above old.births node
  slot_still node there = by node.birth
    where
      by : (birth : Birth) → slot_by nodes.births node birth ≡ slot_by old.births node birth
      by Here = refl
      by (Below layer directory rank) =
          is.copies node ∙ ap (λ b. cond b None (copy_of old.births node)) (not_gone node there)

  object_still : (node : NodeRef) → is_kept nodes.kept node ≡ true
      → object_kept trees later node ≡ object_kept trees overlay node
  object_still node there = by (slot_above nodes.births node) (slot_above old.births node) (slot_still node there)
    where
      by : (now was : Option ℕ) → now ≡ was → object_by trees later node now ≡ object_by trees overlay node was
      by None None e = refl
      by None (Some slot) e = absurd (true≢false (sym (ap is_some e)))
      by (Some slot) None e = absurd (true≢false (ap is_some e))
      by (Some slot) (Some other) e = ap (object_by trees overlay node) e

  module _ (small : All (λ node. is_small_node node ≡ true) (keys_of old.kept.by_node)) (number : ℕ) where
    abbrev is_it : NodeRef → Bool
    is_it node = nat_eq number (number_of node)

    small_node : (node : NodeRef) → Among node (keys_of old.kept.by_node) → is_small_node node ≡ true
    small_node = among_from_all (λ node. is_small_node node ≡ true) (keys_of old.kept.by_node) small

    -- a node of this number is kept still
    found_still : (node : NodeRef) → find is_it (keys_of nodes.kept.by_node) ≡ Some node
        → object_kept trees later node ≡ then_some (find is_it (keys_of old.kept.by_node)) (object_kept trees overlay)
    found_still node e = by (find is_it (keys_of old.kept.by_node)) refl
      where
        among : Among node (keys_of nodes.kept.by_node)
        among = found_among is_it (keys_of nodes.kept.by_node) node e

        numbered : number ≡ number_of node
        numbered = eqb-true number (number_of node) (found_passes is_it (keys_of nodes.kept.by_node) node e)

        was : Among node (keys_of old.kept.by_node)
        was = kept_was old nodes is node among

        by : (o : Option NodeRef) → find is_it (keys_of old.kept.by_node) ≡ o
            → object_kept trees later node ≡ then_some o (object_kept trees overlay)
        by None f = absurd (true≢false (sym (any_from_among is_it (keys_of old.kept.by_node) node was
            (eq-eqb number (number_of node) numbered)) ∙ sym (any_found is_it (keys_of old.kept.by_node))
            ∙ ap is_some f))
        by (Some other) f =
            let other_small = small_node other (found_among is_it (keys_of old.kept.by_node) other f) in
            let same = one_to_one node other (small_parts node (small_node node was)) (small_parts other other_small)
            (sym numbered ∙ eqb-true number (number_of other) (found_passes is_it (keys_of old.kept.by_node) other f)) in
            object_still node (any_from_among (same_node node) (keys_of nodes.kept.by_node) node among
            (same_node-itself node)) ∙ ap (object_kept trees overlay) same

    held_still : held trees later number ≡ cond (keeps_number nodes number) (held trees overlay number) None
    held_still = by (find is_it (keys_of nodes.kept.by_node)) refl
      where
        by : (o : Option NodeRef) → find is_it (keys_of nodes.kept.by_node) ≡ o
            → then_some o (object_kept trees later) ≡ cond (keeps_number nodes number) (held trees overlay number) None
        by None e = sym (ap (λ b. cond b (held trees overlay number) None)
            (sym (any_found is_it (keys_of nodes.kept.by_node)) ∙ ap is_some e))
        by (Some node) e = found_still node e ∙ sym (ap (λ b. cond b (held trees overlay number) None)
            (sym (any_found is_it (keys_of nodes.kept.by_node)) ∙ ap is_some e))

  number_still : (real : Real ℕ) → is_forgotten overlay nodes real ≡ false
      → real_number trees later real ≡ real_number trees overlay real
  number_still (Lower layer path) e = refl
  number_still (Upper object) e = ap (λ o. number_of (unwrap_or o (record {
    filesystem = overlay.layers.number;
    slot = exchanged (upper_count overlay) object;
    birth = Here;
  }))) (is.nodes (exchanged (upper_count overlay) object)
      ∙ ap (λ b. cond b None (node_of old.births (exchanged (upper_count overlay) object))) e)

pub kept_find_their_objects : KeptFindTheirObjects
kept_find_their_objects trees overlay nodes is node there = object_still trees overlay nodes is node there

pub held_are_kept_still : HeldAreKeptStill
held_are_kept_still trees overlay nodes is small number = held_still trees overlay nodes is small number

pub others_have_their_numbers : OthersHaveTheirNumbers
others_have_their_numbers trees overlay nodes is real e = number_still trees overlay nodes is real e
