-- A merged tree that is made of its layers has at each path what they show.
use Rattle.std.proofs.Common.{◌≡◌, ◌≢◌, ◌≤◌, ◌⊎◌, inl, inr, refl, sym, ap, ◌∙◌, true≢false, arith, ℕ, ◌+◌, nat_eq, eq-eqb, eqb-true, Bool, true, false, cond, not, ◌&&◌, List, [], ◌∷◌, ◌++◌, length, Option, Some, None, slice_get, filter_map, option_map}
use Rattle.vt_spec.proofs.Common.{Fresh, Merged, MergedInode, Node, OpenLayer, Shown, at_path, common_steps, cons_option, entry_in_directory, entry_named, eq_by_cmp, inode_of, is_directory, is_one_inode, is_root_path, kind_of, last_or, layer_node, merged_content, merged_inode, merged_inodes, merged_objects, name_cmp, nat_list_cmp_total, none_is_some, real_object, real_of, same_Some, same_path, shown, tied_itself, when, without_last}
use Rattle.vt_spec.specs.Machine.Merging.{merged_number}
use Rattle.vt_spec.proofs.Nodes.{same_name}
use Rattle.vt_laws_trees.proofs.layers.layers.ShownAtPath.{computed}
use Rattle.vt_laws_trees.proofs.layers.layers.ShownDirectories.{AreOpen, last_of, led_is_there}
use Rattle.vt_laws_trees.proofs.layers.layers.ShownObjects.{Among, Found, IsOne, among_filter_map, found_among, from_filter_map, is_object, is_one, object_is, one_itself, path_itself, path_same, placed_among}
use Rattle.vt_laws_trees.proofs.layers.layers.ShownPaths.{last_of_longer, not_empty, one_path, root_of_longer}
use Rattle.vt_laws_trees.proofs.layers.layers.UpperShown.{without_last_of_longer}

-- layers that are merged are open, show nothing at a path that is longer, and get numbers that differ
pub record CanMerge (layers : List (OpenLayer ℕ)) (longest : ℕ) (fresh : Fresh ℕ) : Type 0 where
  pub opens : AreOpen layers
  pub bounded : (path : List (List ℕ)) (seen : Shown ℕ) → shown layers path ≡ Some seen → length path ≤ longest
  pub distinct : (j k : ℕ) → fresh j ≡ fresh k → j ≡ k

module _ {layers : List (OpenLayer ℕ)} {longest : ℕ} {fresh : Fresh ℕ} (can : CanMerge layers longest fresh)
    (has_upper : Bool) where
  abbrev pub objects : List (Merged ℕ)
  objects = merged_objects layers longest

  abbrev pub number : Merged ℕ → ℕ
  number object = merged_number nat_eq fresh has_upper objects object

  abbrev pub inodes : List (MergedInode ℕ)
  inodes = merged_inodes nat_eq fresh has_upper layers objects

  abbrev pub node_of : ℕ → Option (Node ℕ)
  node_of n = option_map (λ inode. inode.node) (inode_of inodes n nat_eq)

  abbrev is_shown : (object : Merged ℕ) → Among objects object → shown layers object.path ≡ Some object.seen
  is_shown object among = object_is layers can.opens longest can.bounded object among

  -- what is shown is there in its layer
  pub record InLayer (object : Merged ℕ) : Type 0 where
    pub layer : OpenLayer ℕ
    pub there : slice_get layers object.seen.layer ≡ Some layer
    pub at : at_path layer object.path ≡ Some object.seen.object
    pub node : Node ℕ
    pub is : layer.tree.node object.seen.object ≡ Some node

  pub in_layer : (object : Merged ℕ) → shown layers object.path ≡ Some object.seen → InLayer object
  in_layer object s =
      let shows = (computed layers object.path object.seen).0 s in let has = shows.has_uncut.0 in let open_layer =
      can.opens object.seen.layer has.0 has.1 in grind (
        arith,
        common_steps,
        led_is_there has.0 open_layer.0 open_layer.1 object.path object.seen.object has.2,
        true≢false,
      )

  pub layer_node_of : (object : Merged ℕ) (found : InLayer object) → layer_node layers object.seen ≡ Some found.node
  layer_node_of object found = cc (found.there, found.is)

  -- objects with one number are one inode
  pub one_number : (a b : Merged ℕ) → Among objects a → Among objects b → number a ≡ number b → IsOne has_upper a b
  one_number a b in_a in_b e =
      let first = placed_among (is_one_inode nat_eq has_upper a) 0 objects a in_a (one_itself has_upper a) in
      let second = placed_among (is_one_inode nat_eq has_upper b) 0 objects b in_b (one_itself has_upper b) in
      let places = can.distinct (0 + first.place) (0 + second.place) (cc (first.is, second.is)) in
      let same_place : first.place ≡ second.place = omega arith in
      let same = same_Some first.element second.element (cc (first.there, same_place, second.there)) in
      let one = is_one layers has_upper a first.element (is_shown a in_a)
      (is_shown first.element first.among) first.passes in
      let two = is_one layers has_upper b second.element (is_shown b in_b)
      (is_shown second.element second.among) second.passes in
      grind (arith, common_steps)

  -- the inode of an object
  pub record HasInode (object : Merged ℕ) : Type 0 where
    pub other : Merged ℕ
    pub among : Among objects other
    pub one : IsOne has_upper object other
    pub node : Node ℕ
    pub seen : layer_node layers object.seen ≡ Some node
    pub is : node_of (number object) ≡ Some (record {
      attr = node.attr;
      content = merged_content nat_eq fresh has_upper objects other.path node.content;
    })
    pub real : real_of nat_eq inodes (number object) ≡ Some (real_object has_upper other.seen.layer other)

  inode_made : Merged ℕ → Node ℕ → MergedInode ℕ
  inode_made object node = record {
    number = number object;
    node =
        record { attr = node.attr; content = merged_content nat_eq fresh has_upper objects object.path node.content };
    real = real_object has_upper object.seen.layer object;
  }

  pub has_inode : (object : Merged ℕ) → Among objects object → HasInode object
  unfolding inode_made
  has_inode object among =
      let own = in_layer object (is_shown object among) in
      let own_node = layer_node_of object own in
      let made = among_filter_map _ objects object _ among (ap (option_map (inode_made object)) own_node) in
      let found = found_among _ inodes _ made (eq-eqb (number object) (number object) refl) in
      let from = from_filter_map _ objects found.element found.among in
      by own own_node found from.0 from.1 from.2 (in_layer from.0 (is_shown from.0 from.1))
    where
      by : (own : InLayer object) → layer_node layers object.seen ≡ Some own.node
          → (found : Found (λ inode. nat_eq (number object) inode.number) inodes)
          → (other : Merged ℕ) → Among objects other
          → merged_inode nat_eq fresh has_upper layers objects other ≡ Some found.element → InLayer other
          → HasInode object
      by own own_node found other among_other made there =
          let element = same_Some (inode_made other there.node) found.element (cc (layer_node_of other there)) in
          let one = one_number object other among among_other
          (cc (eqb-true (number object) found.element.number found.passes, element)) in
          let same_node = same_Some there.node own.node (cc (layer_node_of other there, one.seen)) in
          grind (arith, common_steps)

  -- an inode of a directory is that of one path
  pub one_directory : (object : Merged ℕ) → Among objects object → (inode : HasInode object)
      → is_directory (kind_of inode.node.content) ≡ true → inode.other.path ≡ object.path
  one_directory object among inode d =
      let here = in_layer object (is_shown object among) in
      let there = in_layer inode.other (is_shown inode.other inode.among) in
      let same_layer = same_Some there.layer here.layer (cc (there.there, inode.one.seen, here.there)) in
      let open_here = can.opens object.seen.layer here.layer here.there in
      let node = same_Some here.node inode.node (sym (layer_node_of object here) ∙ inode.seen) in
      grind (arith, common_steps, one_path)

  -- The entries of a merged directory lead to what is shown under their names.
  module _ (path : List (List ℕ)) (name : List ℕ) where
    abbrev pub entry : Merged ℕ → Option (List ℕ × ℕ)
    entry object = entry_in_directory nat_eq fresh has_upper objects path object

    entry_here : (object : Merged ℕ) → object.path ≡ path ++ name ∷ [] → entry object ≡ Some (name, number object)
    entry_here object e =
        grind (arith, common_steps, last_of_longer, root_of_longer, without_last_of_longer, path_itself)

    pub entry_is_here : (object : Merged ℕ) (found : List ℕ × ℕ) → entry object ≡ Some found
        → (object.path ≡ path ++ found.0 ∷ []) × (found.1 ≡ number object)
    entry_is_here object found e = by object.path refl _ refl e
      where
        parted : (p : List (List ℕ)) → (not (is_root_path p) && same_path path (without_last p)) ≡ true
            → p ≡ path ++ last_or [] p ∷ []
        parted [] e = cc
        parted (first ∷ rest) e =
            let last = last_of (first ∷ rest) (not_empty first rest) in
            let front = path_same path (without_last (first ∷ rest)) e in
            cc (last.2, without_last_of_longer last.0 last.1, front, last_of_longer last.0 last.1 [])

        by : (p : List (List ℕ)) → object.path ≡ p → (b : Bool)
            → (not (is_root_path object.path) && same_path path (without_last object.path)) ≡ b
            → when b (last_or [] object.path, number object) ≡ Some found
            → (object.path ≡ path ++ found.0 ∷ []) × (found.1 ≡ number object)
        by p is false t e = none_is_some found e
        by p is true t e =
            let same = same_Some (last_or [] object.path, number object) found e in
            (cc (parted object.path t), ap (λ f. f.1) (sym same))

    abbrev is_name : List ℕ → List ℕ → Bool
    is_name a b = eq_by_cmp name_cmp a b

    named_some : (list : List (Merged ℕ)) (target : Merged ℕ)
        → ((object : Merged ℕ) → Among list object → shown layers object.path ≡ Some object.seen) → Among list target
        → target.path ≡ path ++ name ∷ [] → entry_named name (filter_map entry list) ≡ Some (number target)
    named_some [] target all among e = absurd among
    named_some (first ∷ list) target all among e =
        by (entry first) refl among (λ later. named_some list target (λ object a. all object (inr a)) later e)
      where
        is_first : first ≡ target → entry first ≡ Some (name, number target)
        is_first same = cc (entry_here target e)

        same_as : (found : List ℕ × ℕ) → entry first ≡ Some found → found.0 ≡ name → found.1 ≡ number target
        same_as found f n = grind (arith, common_steps, entry_is_here, same_Some)

        choose : (found : List ℕ × ℕ) → entry first ≡ Some found → (b : Bool) → is_name name found.0 ≡ b
            → (first ≡ target) ⊎ Among list target
            → (Among list target → entry_named name (filter_map entry list) ≡ Some (number target))
            → cond b (Some found.1) (entry_named name (filter_map entry list)) ≡ Some (number target)
        choose found f true t a rest = ap Some (same_as found f (sym (same_name name found.0 t)))
        choose found f false t (inl same) rest = absurd (true≢false (cc
            (tied_itself nat_list_cmp_total name, same_Some (name, number target) found (sym (is_first same) ∙ f), t)))
        choose found f false t (inr later) rest = rest later

        by : (o : Option (List ℕ × ℕ)) → entry first ≡ o → (first ≡ target) ⊎ Among list target
            → (Among list target → entry_named name (filter_map entry list) ≡ Some (number target))
            → entry_named name (cons_option o (filter_map entry list)) ≡ Some (number target)
        by None f (inl same) rest = none_is_some (name, number target) (sym f ∙ is_first same)
        by None f (inr later) rest = rest later
        by (Some found) f a rest = choose found f (is_name name found.0) refl a rest

    named_none : (list : List (Merged ℕ)) → ((object : Merged ℕ) → Among list object → object.path ≢ path ++ name ∷ [])
        → entry_named name (filter_map entry list) ≡ None
    named_none [] none = refl
    named_none (first ∷ list) none = by (entry first) refl (named_none list (λ object a. none object (inr a)))
      where
        choose : (found : List ℕ × ℕ) → entry first ≡ Some found → (b : Bool) → is_name name found.0 ≡ b
            → entry_named name (filter_map entry list) ≡ None
            → cond b (Some found.1) (entry_named name (filter_map entry list)) ≡ None
        choose found f true t rest = absurd (none first (inl refl) ((entry_is_here first found f).0
            ∙ ap (λ n. path ++ n ∷ []) (sym (same_name name found.0 t))))
        choose found f false t rest = rest

        by : (o : Option (List ℕ × ℕ)) → entry first ≡ o → entry_named name (filter_map entry list) ≡ None
            → entry_named name (cons_option o (filter_map entry list)) ≡ None
        by None f rest = rest
        by (Some found) f rest = choose found f (is_name name found.0) refl rest

    -- where it leads
    abbrev pub LeadsTo : Option (Shown ℕ) → Option ℕ → Type 0
    LeadsTo None found = found ≡ None
    LeadsTo (Some seen) found = found ≡ Some (number (record { path = path ++ name ∷ []; seen = seen }))

    pub entry_leads : LeadsTo (shown layers (path ++ name ∷ [])) (entry_named name (filter_map entry objects))
    entry_leads = by (shown layers (path ++ name ∷ [])) refl
      where
        by : (o : Option (Shown ℕ)) → shown layers (path ++ name ∷ []) ≡ o
            → LeadsTo o (entry_named name (filter_map entry objects))
        by None s = named_none objects (λ object a e. none_is_some object.seen (cc (is_shown object a)))
        by (Some seen) s =
            named_some objects (record { path = path ++ name ∷ []; seen = seen }) (λ object a. is_shown object a)
            (is_object layers can.opens longest can.bounded (path ++ name ∷ []) seen s) refl
