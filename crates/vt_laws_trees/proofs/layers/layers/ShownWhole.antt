-- A merged tree has no whiteout and no mark, and two inodes of it have two real objects, which are there.
use Rattle.std.proofs.Common.{arith, ◌≡◌, ◌≢◌, refl, sym, ap, subst, ◌∙◌, true≢false, ℕ, suc, nat_eq, eqb-true, Bool, true, false, List, [], ◌∷◌, Option, Some, None, is_some, slice_get, unwrap_or, find, option_map}
use Rattle.vt_spec.proofs.Common.{Content, Directory, Fresh, Lower, Merged, MergedInode, Node, OpenLayer, Real, Regular, SameObject, Symlink, Upper, Whiteout, bytes_eq_itself, common_steps, index_from, inode_of, is_kind, is_kind_in, is_opaque_in, kind_of, merged_content, merged_inode, node_at_path, none_is_some, opaque_of, real_object, real_of, same_Some, same_content, then_some}
use Rattle.vt_spec.specs.declared.attributes.Kind.TheVariants.{White}
use Rattle.vt_spec.specs.Machine.Merging.{same_real}
use Rattle.vt_laws_trees.proofs.layers.layers.ShownAtPath.{computed}
use Rattle.vt_laws_trees.proofs.layers.layers.ShownMerged.{CanMerge, InLayer, in_layer, inodes, layer_node_of, node_of, number, objects}
use Rattle.vt_laws_trees.proofs.layers.layers.ShownObjects.{Among, from_filter_map, object_is}

-- what is found is in the list, and passes
pub found_in_list : {A : Type 0} (test : A → Bool) (list : List A) (a : A) → find test list ≡ Some a
    → Among list a × (test a ≡ true)
found_in_list test [] a e = none_is_some a e
found_in_list test (first ∷ list) a e = grind (arith, common_steps, found_in_list test list a)

-- the inode behind a real object, in these layers
abbrev pub behind : List (OpenLayer ℕ) → Bool → Real ℕ → Option (Node ℕ)
behind layers true (Upper object) = then_some (slice_get layers 0) (λ layer. layer.tree.node object)
behind layers false (Upper object) = None
behind layers true (Lower layer path) = then_some (slice_get layers (suc layer)) (λ lower. node_at_path lower path)
behind layers false (Lower layer path) = then_some (slice_get layers layer) (λ lower. node_at_path lower path)

module _ {layers : List (OpenLayer ℕ)} {longest : ℕ} {fresh : Fresh ℕ} (can : CanMerge layers longest fresh)
    (has_upper : Bool) where
  abbrev nodes : ℕ → Option (Node ℕ)
  nodes = node_of can has_upper

  abbrev all : List (Merged ℕ)
  all = objects can has_upper

  abbrev made : List (MergedInode ℕ)
  made = inodes can has_upper

  abbrev num : Merged ℕ → ℕ
  num = number can has_upper

  -- an inode is that of an object
  pub record IsOfObject (n : ℕ) (inode : MergedInode ℕ) : Type 0 where
    pub object : Merged ℕ
    pub among : Among all object
    pub layer : InLayer can has_upper object
    pub numbered : n ≡ num object
    pub node : inode.node ≡ record {
      attr = layer.node.attr;
      content = merged_content nat_eq fresh has_upper all object.path layer.node.content;
    }
    pub real : inode.real ≡ real_object has_upper object.seen.layer object

  pub is_of_object : (n : ℕ) (inode : MergedInode ℕ) → inode_of made n nat_eq ≡ Some inode → IsOfObject n inode
  is_of_object n inode e =
      let found = found_in_list (λ i. nat_eq n i.number) made inode e in
      let from = from_filter_map (merged_inode nat_eq fresh has_upper layers all) all inode found.0 in
      by from.0 from.1 from.2 (in_layer can has_upper from.0
      (object_is layers can.opens longest can.bounded from.0 from.1)) found.1
    where
      of : Merged ℕ → Node ℕ → MergedInode ℕ
      of object node = record {
        number = num object;
        node =
            record { attr = node.attr; content = merged_content nat_eq fresh has_upper all object.path node.content };
        real = real_object has_upper object.seen.layer object;
      }

      by : (object : Merged ℕ) → Among all object → merged_inode nat_eq fresh has_upper layers all object ≡ Some inode
          → InLayer can has_upper object → nat_eq n inode.number ≡ true → IsOfObject n inode
      by object among m layer passes =
          let same = same_Some (of object layer.node) inode (sym (ap (option_map (of object))
          (layer_node_of can has_upper object layer)) ∙ m) in
          record {
            object = object;
            among = among;
            layer = layer;
            numbered = eqb-true n inode.number passes ∙ ap (λ i. i.number) (sym same);
            node = ap (λ i. i.node) (sym same);
            real = ap (λ i. i.real) (sym same);
          }

  -- no whiteout and no mark
  not_white : (object : Merged ℕ) → Among all object → (layer : InLayer can has_upper object)
      → layer.node.content ≢ Whiteout
  not_white object among layer =
      let shows = (computed layers object.path _).0 (object_is layers can.opens longest can.bounded object among) in
      shows.no_whiteout layer.node (
        layer.layer,
        layer.there,
        ap (λ o. then_some o layer.layer.tree.node) layer.at ∙ layer.is,
      )

  white_merged : (path : List (List ℕ)) (content : Content ℕ) → content ≢ Whiteout
      → is_kind White (kind_of (merged_content nat_eq fresh has_upper all path content)) ≡ false
  white_merged path (Directory parent entries opaque) n = refl
  white_merged path (Regular bytes) n = refl
  white_merged path (Symlink text) n = refl
  white_merged path Whiteout n = absurd (n refl)

  mark_merged : (path : List (List ℕ)) (content : Content ℕ)
      → opaque_of (merged_content nat_eq fresh has_upper all path content) ≡ false
  mark_merged path (Directory parent entries opaque) = refl
  mark_merged path (Regular bytes) = refl
  mark_merged path (Symlink text) = refl
  mark_merged path Whiteout = refl

  pub same_merged : (path : List (List ℕ)) (content : Content ℕ) → content ≢ Whiteout
      → same_content (merged_content nat_eq fresh has_upper all path content) content ≡ true
  same_merged path (Directory parent entries opaque) n = refl
  same_merged path (Regular bytes) n = bytes_eq_itself bytes
  same_merged path (Symlink text) n = bytes_eq_itself text
  same_merged path Whiteout n = absurd (n refl)

  pub merged_no_whiteout : (n : ℕ) → is_kind_in White (nodes n) ≡ false
  merged_no_whiteout n = by (inode_of made n nat_eq) refl
    where
      by : (o : Option (MergedInode ℕ)) → inode_of made n nat_eq ≡ o
          → is_kind_in White (option_map (λ inode. inode.node) o) ≡ false
      by None e = refl
      by (Some inode) e =
          let is = is_of_object n inode e in
          ap (λ node. is_kind White (kind_of node.content)) is.node ∙ white_merged _ _ (not_white _ is.among is.layer)

  pub merged_no_mark : (n : ℕ) → is_opaque_in (nodes n) ≡ false
  merged_no_mark n = by (inode_of made n nat_eq) refl
    where
      by : (o : Option (MergedInode ℕ)) → inode_of made n nat_eq ≡ o
          → is_opaque_in (option_map (λ inode. inode.node) o) ≡ false
      by None e = refl
      by (Some inode) e =
          let is = is_of_object n inode e in
          ap (λ node. opaque_of node.content) is.node ∙ mark_merged is.object.path is.layer.node.content

  -- the real object of an inode
  pub record HasReal (n : ℕ) (real : Real ℕ) : Type 0 where
    pub object : Merged ℕ
    pub layer : InLayer can has_upper object
    pub numbered : n ≡ num object
    pub is : real ≡ real_object has_upper object.seen.layer object

  pub has_real : (n : ℕ) (real : Real ℕ) → real_of nat_eq made n ≡ Some real → HasReal n real
  has_real n real e = by (inode_of made n nat_eq) refl e
    where
      by : (o : Option (MergedInode ℕ)) → inode_of made n nat_eq ≡ o → option_map (λ inode. inode.real) o ≡ Some real
          → HasReal n real
      by None f e = none_is_some real e
      by (Some inode) f e =
          let is = is_of_object n inode f in
          record {
            object = is.object;
            layer = is.layer;
            numbered = is.numbered;
            is = same_Some real inode.real (sym e) ∙ is.real;
          }

  -- it is what the merged one shows
  behind_object : (object : Merged ℕ) (found : InLayer can has_upper object)
      (upper : Bool) (layer : ℕ) → object.seen.layer ≡ layer
      → behind layers upper (real_object upper layer object) ≡ Some found.node
  behind_object object found upper layer e = grind (arith, common_steps)

  pub merged_is_real : (n : ℕ) → SameObject (nodes n) (then_some (real_of nat_eq made n) (behind layers has_upper))
  merged_is_real n = by (inode_of made n nat_eq) refl
    where
      by : (o : Option (MergedInode ℕ)) → inode_of made n nat_eq ≡ o → SameObject (option_map (λ inode. inode.node) o)
          (then_some (option_map (λ inode. inode.real) o) (behind layers has_upper))
      by None e = tt
      by (Some inode) e =
          let is = is_of_object n inode e in
          subst (SameObject (Some inode.node)) (sym (ap (behind layers has_upper) is.real
          ∙ behind_object is.object is.layer has_upper is.object.seen.layer refl)) (
            ap (λ node. node.attr) is.node,
            cc (is.node, same_merged is.object.path is.layer.node.content (not_white is.object is.among is.layer)),
          )

  pub merged_real_there : (n : ℕ) → nodes n ≡ None → real_of nat_eq made n ≡ None
  merged_real_there n = grind (arith, common_steps, true≢false)

  -- two inodes have two real objects
  pub merged_one_to_one : (a b : ℕ) → is_some (real_of nat_eq made a) ≡ true
      → real_of nat_eq made a ≡ real_of nat_eq made b → a ≡ b
  merged_one_to_one a b h e = by (real_of nat_eq made a) refl h
    where
      by : (o : Option (Real ℕ)) → real_of nat_eq made a ≡ o → is_some o ≡ true → a ≡ b
      by None r h = absurd (true≢false (sym h))
      by (Some real) r h =
          let one = has_real a real r in
          let two = has_real b real (sym e ∙ r) in
          one.numbered ∙ ap (λ real. fresh (unwrap_or
          (index_from (λ x. same_real nat_eq real (real_object has_upper x.seen.layer x)) 0 all) 0))
          (sym one.is ∙ two.is) ∙ sym two.numbered

  -- an upper object is there, in the top layer
  pub merged_upper : (n object : ℕ) → real_of nat_eq made n ≡ Some (Upper object)
      → (has_upper ≡ true) × ((layer : OpenLayer ℕ) → slice_get layers 0 ≡ Some layer
      → is_some (layer.tree.node object) ≡ true)
  merged_upper n object e =
      let real = has_real n (Upper object) e in grind (arith, common_steps, none_is_some)
