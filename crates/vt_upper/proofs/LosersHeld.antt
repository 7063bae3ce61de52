-- What is held without a name once a node has lost one.
use Rattle.std.proofs.Common.{◌≡◌, ◌∙◌, ◌&&◌, ◌∷◌, [], ap, Bool, cond, eqb-true, false, find, is_some, List, nat_eq, nat_lt, None, Option, refl, Some, subst, sym, true, true≢false, ⊎_elim, ℕ, if◌then◌else◌}
use Rattle.std.specs.Map.{keys_of}
use Rattle.vt_spec.proofs.Common.{Among, Real, among_from_all, any_among, any_from_among, found_among, found_passes, real_shown, then_some}
use Rattle.vt_births.proofs.Nodes.{same_node-is}
use Rattle.vt_births.specs.Births.{copy_of, slot_above, slot_by}
use Rattle.vt_births.specs.declared.upper_nodes.UpperNodes.{UpperNodes}
use Rattle.vt_births.specs.Kept.{KeptValue, is_kept, uses_of}
use Rattle.vt_fs.specs.FilesystemsValue.{Filesystems}
use Rattle.vt_upper.proofs.KeptObjects.{kept_so}
use Rattle.vt_upper.proofs.NamedUnkept.{unkept}
use Rattle.vt_upper.specs.declared.losing.Losing.{Losing}
use Rattle.vt_upper.specs.declared.losing.Losing.TheVariants.{Last, Named}
use Rattle.vt_upper.specs.Losing.{IsForgotten, IsKeptNow, IsLeftBy, IsLeftSo, IsLosing, keeps_node}
use Rattle.vt_upper.specs.LosingLaws.{HaveUses}
use Rattle.vt_location.proofs.NodeLemmas.{one_to_one, same_node-itself, small_parts}
use Rattle.vt_location.specs.declared.births.Birth.{Birth}
use Rattle.vt_location.specs.declared.births.Birth.TheVariants.{Below, Here}
use Rattle.vt_location.specs.declared.locations.NodeRef.{NodeRef}
use Rattle.vt_location.specs.Locations.{number_of}
use Rattle.vt_location.specs.NodeNumbers.{IsSmall}
use Rattle.vt_location.specs.SameNodes.{same_node}
use Rattle.vt_overlay.specs.MergedTree.{plain_world}
use Rattle.vt_upper_overlay.proofs.Shown.{IsLooked}
use Rattle.vt_upper_overlay.specs.MergedAbove.{held, number_at, object_by, object_kept, upper_seen}
use Rattle.vt_upper_overlay.specs.Standing.{IsKeptWell}
use Rattle.vt_upper_overlay.specs.UpperValue.{UpperOverlayValue}

some_found : {A : Type 0} (test : A → Bool) (list : List A) (a : A) → Among a list → test a ≡ true
    → is_some (find test list) ≡ true
some_found test [] a among e = absurd among
some_found test (first ∷ list) a among e =
    ⊎_elim (λ same. ap (λ b. is_some (cond b (Some first) (find test list))) (ap test (sym same) ∙ e))
    (λ later. either (test first) (some_found test list a later e)) among
  where
    either : (b : Bool) → is_some (find test list) ≡ true → is_some (cond b (Some first) (find test list)) ≡ true
    either true is = refl
    either false is = is

-- what is kept is a key
kept_key : (kept : KeptValue) (node : NodeRef) → is_kept kept node ≡ true → Among node (keys_of kept.by_node)
kept_key kept node is =
    let one = any_among (same_node node) (keys_of kept.by_node) is in
    subst (λ n. Among n (keys_of kept.by_node)) (sym (same_node-is node one.0 one.2)) one.1

key_kept : (kept : KeptValue) (node : NodeRef) → Among node (keys_of kept.by_node) → is_kept kept node ≡ true
key_kept kept node among = any_from_among (same_node node) (keys_of kept.by_node) node among (same_node-itself node)

abbrev numbered : ℕ → NodeRef → Bool
numbered number node = nat_eq number (number_of node)

-- the key of a number is one of small nodes
same_key : (number : ℕ) (one other : NodeRef) → IsSmall one → IsSmall other → numbered number one ≡ true
    → numbered number other ≡ true → one ≡ other
same_key number one other one_small other_small is also = one_to_one one other one_small other_small
    (sym (eqb-true number (number_of one) is) ∙ eqb-true number (number_of other) also)

-- lists of small nodes that have the same nodes of a number
same_found : (number : ℕ) (xs ys : List NodeRef) → ((node : NodeRef) → Among node xs → IsSmall node)
    → ((node : NodeRef) → Among node ys → IsSmall node)
    → ((node : NodeRef) → numbered number node ≡ true → Among node xs → Among node ys)
    → ((node : NodeRef) → numbered number node ≡ true → Among node ys → Among node xs)
    → find (numbered number) xs ≡ find (numbered number) ys
same_found number xs ys small also_small to from = by (find (numbered number) xs) refl (find (numbered number) ys) refl
  where
    missing : (list : List NodeRef) (node : NodeRef) → Among node list → numbered number node ≡ true
        → find (numbered number) list ≡ None → ⊥
    missing list node among is none =
        true≢false (sym (some_found (numbered number) list node among is) ∙ ap is_some none)

    by : (o : Option NodeRef) → find (numbered number) xs ≡ o → (p : Option NodeRef)
        → find (numbered number) ys ≡ p → find (numbered number) xs ≡ find (numbered number) ys
    by None e None g = e ∙ sym g
    by None e (Some node) g =
        let is = found_passes (numbered number) ys node g in
        absurd (missing xs node (from node is (found_among (numbered number) ys node g)) is e)
    by (Some node) e None g =
        let is = found_passes (numbered number) xs node e in
        absurd (missing ys node (to node is (found_among (numbered number) xs node e)) is g)
    by (Some node) e (Some other) g = e ∙ ap Some (same_key number node other
        (small node (found_among (numbered number) xs node e))
        (also_small other (found_among (numbered number) ys other g))
        (found_passes (numbered number) xs node e) (found_passes (numbered number) ys other g)) ∙ sym g

module _ (trees : Filesystems) (overlay : UpperOverlayValue) (looked : IsLooked trees overlay) (node : NodeRef)
    (node_small : IsSmall node) (path : List (List ℕ)) (at : number_at trees overlay path ≡ Some (number_of node))
  where
    abbrev kept : KeptValue
    kept = overlay.nodes.kept

    abbrev real_there : Option (Real ℕ)
    real_there = real_shown nat_eq (plain_world trees) (upper_seen overlay) path

    small_key : (other : NodeRef) → Among other (keys_of kept.by_node) → IsSmall other
    small_key other among = small_parts other
        (among_from_all (IsKeptWell trees overlay) (keys_of kept.by_node) looked.stands.kept other among).small

    other_key : (other : NodeRef) → Among other (keys_of kept.by_node) → same_node node other ≡ false
    other_key other among = by (same_node node other) refl
      where
        by : (b : Bool) → same_node node other ≡ b → same_node node other ≡ false
        by false e = e
        by true e = absurd (true≢false (sym (key_kept kept other among)
            ∙ ap (is_kept kept) (sym (same_node-is node other e))
            ∙ unkept trees overlay looked node node_small path at))

    -- it is kept
    module _ (uses : ℕ) (used : nat_lt 0 uses ≡ true) (nodes : UpperNodes) (births : nodes.births ≡ overlay.nodes.births)
        (is : IsKeptNow node uses overlay.nodes.kept nodes.kept) (have_uses : HaveUses overlay.nodes.kept)
        (have_uses_then : HaveUses nodes.kept) where
      kept_then : (other : NodeRef) → is_kept nodes.kept other
          ≡ (if same_node node other then true else is_kept kept other)
      kept_then other = have_uses_then other ∙ ap (nat_lt 0) (is.uses_now other)
          ∙ by (same_node node other)
        where
          by : (b : Bool) → nat_lt 0 (if b then uses else uses_of kept other) ≡ (if b then true else is_kept kept other)
          by true = used
          by false = sym (have_uses other)

      key_then : (other : NodeRef) → Among other (keys_of nodes.kept.by_node) → same_node node other ≡ false
          → Among other (keys_of kept.by_node)
      key_then other among apart = kept_key kept other
          (sym (ap (λ b. if b then true else is_kept kept other) apart) ∙ sym (kept_then other)
          ∙ key_kept nodes.kept other among)

      key_still : (other : NodeRef) → Among other (keys_of kept.by_node) → Among other (keys_of nodes.kept.by_node)
      key_still other among = kept_key nodes.kept other (kept_then other
          ∙ ap (λ b. if b then true else is_kept kept other) (other_key other among) ∙ key_kept kept other among)

      its_key : Among node (keys_of nodes.kept.by_node)
      its_key = kept_key nodes.kept node (kept_then node
          ∙ ap (λ b. if b then true else is_kept kept node) (same_node-itself node))

      small_then : (other : NodeRef) → Among other (keys_of nodes.kept.by_node) → IsSmall other
      small_then other among = by (same_node node other) refl
        where
          by : (b : Bool) → same_node node other ≡ b → IsSmall other
          by true e = subst IsSmall (same_node-is node other e) node_small
          by false e = small_key other (key_then other among e)

      objects_stay : (other : NodeRef)
          → object_kept trees (record overlay { nodes = nodes }) other ≡ object_kept trees overlay other
      objects_stay other = ap (λ b. object_by trees overlay other (slot_above b other)) births

      pub held_kept : (number : ℕ) → held trees (record overlay { nodes = nodes }) number
          ≡ (if nat_eq number (number_of node) then real_there else held trees overlay number)
      held_kept number = by (nat_eq number (number_of node)) refl
        where
          itself : numbered number node ≡ true → find (numbered number) (keys_of nodes.kept.by_node) ≡ Some node
          itself e = found (find (numbered number) (keys_of nodes.kept.by_node)) refl
            where
              found : (o : Option NodeRef) → find (numbered number) (keys_of nodes.kept.by_node) ≡ o
                  → find (numbered number) (keys_of nodes.kept.by_node) ≡ Some node
              found None none = absurd (true≢false (sym (some_found (numbered number) (keys_of nodes.kept.by_node)
                  node its_key e) ∙ ap is_some none))
              found (Some other) is_found = is_found ∙ ap Some (same_key number other node
                  (small_then other (found_among (numbered number) (keys_of nodes.kept.by_node) other is_found)) node_small
                  (found_passes (numbered number) (keys_of nodes.kept.by_node) other is_found) e)

          apart : (other : NodeRef) → nat_eq number (number_of node) ≡ false → numbered number other ≡ true
              → same_node node other ≡ false
          apart other differs its = none (same_node node other) refl
            where
              none : (b : Bool) → same_node node other ≡ b → same_node node other ≡ false
              none false e = e
              none true e = absurd (true≢false (sym its
                  ∙ ap (numbered number) (sym (same_node-is node other e)) ∙ differs))

          by : (b : Bool) → nat_eq number (number_of node) ≡ b
              → held trees (record overlay { nodes = nodes }) number ≡ (if b then real_there else held trees overlay number)
          by true e = ap (λ o. then_some o (object_kept trees (record overlay { nodes = nodes }))) (itself e)
              ∙ objects_stay node ∙ kept_so trees overlay looked node node_small path at
          by false e =
              (λ i. then_some (find (numbered number) (keys_of nodes.kept.by_node)) (λ other. objects_stay other i))
              ∙ ap (λ o. then_some o (object_kept trees overlay))
              (same_found number (keys_of nodes.kept.by_node) (keys_of kept.by_node) small_then small_key
              (λ other its among. key_then other among (apart other e its))
              (λ other its among. key_still other among))

    -- or its birth is forgotten
    module _ (nodes : UpperNodes) (same : nodes.kept ≡ overlay.nodes.kept)
        (is : IsForgotten node overlay.nodes.births nodes.births) where
      slot_still : (other : NodeRef) → same_node node other ≡ false
          → slot_above nodes.births other ≡ slot_above overlay.nodes.births other
      slot_still other apart = by other.birth
        where
          by : (birth : Birth) → slot_by nodes.births other birth ≡ slot_by overlay.nodes.births other birth
          by Here = refl
          by (Below layer directory rank) = is.copies other
              ∙ ap (λ b. if b then None else copy_of overlay.nodes.births other) apart

      pub held_forgotten : (number : ℕ) → held trees (record overlay { nodes = nodes }) number ≡ held trees overlay number
      held_forgotten number =
          ap (λ (k : KeptValue). then_some (find (numbered number) (keys_of k.by_node))
          (object_kept trees (record overlay { nodes = nodes }))) same
          ∙ by (find (numbered number) (keys_of kept.by_node)) refl
        where
          by : (o : Option NodeRef) → find (numbered number) (keys_of kept.by_node) ≡ o
              → then_some o (object_kept trees (record overlay { nodes = nodes }))
              ≡ then_some o (object_kept trees overlay)
          by None e = refl
          by (Some other) e = ap (object_by trees overlay other)
              (slot_still other (other_key other (found_among (numbered number) (keys_of kept.by_node) other e)))

    pub held_left : (losing : Losing) (uses : ℕ) (nodes : UpperNodes) → IsLosing trees overlay path node uses losing
        → IsLeftBy losing overlay.nodes nodes → HaveUses overlay.nodes.kept → HaveUses nodes.kept → (number : ℕ)
        → held trees (record overlay { nodes = nodes }) number
        ≡ (if keeps_node losing && nat_eq number (number_of node) then real_there else held trees overlay number)
    held_left Named uses nodes loses left have_uses have_uses_then number =
        ap (λ (n : UpperNodes). held trees (record overlay { nodes = n }) number) left
    held_left (Last it many) uses nodes loses left have_uses have_uses_then number = by (nat_lt 0 many) refl left
      where
        by : (b : Bool) → nat_lt 0 many ≡ b → IsLeftSo b it many overlay.nodes nodes
            → held trees (record overlay { nodes = nodes }) number
            ≡ (if b && nat_eq number (number_of node) then real_there else held trees overlay number)
        by true e so = held_kept many e nodes so.0
            (subst (λ n. IsKeptNow n many overlay.nodes.kept nodes.kept) loses.0 so.1) have_uses have_uses_then number
        by false e so = held_forgotten nodes so.0
            (subst (λ n. IsForgotten n overlay.nodes.births nodes.births) loses.0 so.1) number
