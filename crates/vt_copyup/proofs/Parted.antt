-- Where the paths of two plans part, and that the copies of one are not those of the other from there on.
use Rattle.std.proofs.Common.{All, ◌≡◌, ◌≢◌, ◌∙◌, ◌⊎◌, ◌∷◌, ◌++◌, [], ⊎_elim, append-nil, append_assoc, ap, Bool, false, inl, inr, List, None, refl, Some, subst, sym, true, ℕ}
use Rattle.std.specs.Prelude.{⊤}
use Rattle.vt_spec.proofs.Common.{All-cons, All-head, All-nil, All-tail, Tree, led, none_is_some}
use Rattle.vt_location.specs.declared.locations.NodeRef.{NodeRef}
use Rattle.vt_location.specs.declared.numbers.FilesystemId.{FilesystemId}
use Rattle.vt_location.specs.SameNodes.{same_node}
use Rattle.vt_fs.specs.FilesystemsValue.{Filesystems}
use Rattle.vt_overlay.specs.declared.merge.layers.LayerRef.{LayerRef}
use Rattle.vt_overlay.specs.MergedTree.{AreLayers}
use Rattle.vt_births.proofs.Nodes.{same_node-is}
use Rattle.vt_copyup.specs.ForkLaws.{AreDirectories, Elsewhere, NoneOf}
use Rattle.vt_copyup.specs.Forks.{HeadsDiffer}
use Rattle.vt_copyup.specs.Planned.{AreCopiesFrom, IsCopyIn, names_of}
use Rattle.vt_copyup.specs.Plans.{AreApart, AreNested, copies_of}
use Rattle.vt_copyup.specs.declared.plans.Piece.{Piece}
use Rattle.vt_copyup.specs.declared.plans.PlannedCopy.{PlannedCopy}
use Rattle.vt_copyup.proofs.Ready.{inode_is, one_place}
use Rattle.vt_copyup.proofs.Stepping.{nested_tail}
use Rattle.vt_copyup.proofs.Ways.{nowhere_next}

-- of two paths that go on to one the first is not shorter
pub record IsLonger (path other rest other_rest : List (List ℕ)) : Type 0 where
  pub more : List (List ℕ)
  pub longer : path ≡ other ++ more
  pub left : more ++ rest ≡ other_rest

pub compare : (path other rest other_rest : List (List ℕ)) → path ++ rest ≡ other ++ other_rest
    → IsLonger path other rest other_rest ⊎ IsLonger other path other_rest rest
compare path [] rest other_rest e = inl (record { more = path; longer = refl; left = e })
compare [] (name ∷ other) rest other_rest e =
    inr (record { more = name ∷ other; longer = refl; left = sym e })
compare (name ∷ path) (word ∷ other) rest other_rest e =
    let head : name ≡ word = cc in
    let tail : path ++ rest ≡ other ++ other_rest = cc in
    ⊎_elim (λ (a : IsLonger path other rest other_rest). inl (record {
      more = a.more;
      longer = λ i. head i ∷ a.longer i;
      left = a.left;
    })) (λ (a : IsLonger other path other_rest rest). inr (record {
      more = a.more;
      longer = λ i. sym head i ∷ a.longer i;
      left = a.left;
    })) (compare path other rest other_rest tail)

same_rest : (path one other : List (List ℕ)) → path ++ one ≡ path ++ other → one ≡ other
same_rest [] one other e = e
same_rest (name ∷ path) one other e = same_rest path one other (cc)

module _ (tree : Tree ℕ) (root : ℕ) where
  nowhere_all : (path rest : List (List ℕ)) → led tree root path ≡ None → led tree root (path ++ rest) ≡ None
  nowhere_all path [] none = ap (led tree root) (append-nil path) ∙ none
  nowhere_all path (name ∷ rest) none = ap (led tree root) (sym (append_assoc path (name ∷ []) rest))
      ∙ nowhere_all (path ++ name ∷ []) rest (nowhere_next tree root path name none)

  -- the first name of these leads nowhere, after a path
  abbrev pub EndsAt : List (List ℕ) → List (List ℕ) → Type 0
  EndsAt path [] = ⊤
  EndsAt path (name ∷ names) = led tree root (path ++ name ∷ []) ≡ None

  -- so no longer path with this name leads anywhere
  ended : (path : List (List ℕ)) (name : List ℕ) (names more : List (List ℕ)) (to : ℕ) {P : Type 0}
      → EndsAt path (name ∷ names) → led tree root (path ++ name ∷ more) ≡ Some to → P
  ended path name names more to ends leads = none_is_some to (sym (ap (led tree root)
      (sym (append_assoc path (name ∷ []) more)) ∙ nowhere_all (path ++ name ∷ []) more ends) ∙ leads)

  module _ (front other : List (List ℕ)) (d e : ℕ) (leads : led tree root front ≡ Some d)
      (other_leads : led tree root other ≡ Some e) (twice shared own : List (List ℕ)) (same : twice ≡ shared)
      (ends : EndsAt front (shared ++ own)) where
    module _ (name : List ℕ) (names : List (List ℕ)) (other_ends : EndsAt other (twice ++ name ∷ names))
        (differ : d ≡ e → HeadsDiffer own (name ∷ names)) (more rest : List (List ℕ)) where
      abbrev on : List (List ℕ)
      on = (twice ++ name ∷ more) ++ rest

      first_ends : (twice : List (List ℕ)) (word : List ℕ) (words : List (List ℕ))
          → (twice ++ name ∷ more) ++ rest ≡ word ∷ words → EndsAt other (twice ++ name ∷ names)
          → EndsAt other (word ∷ words)
      first_ends [] word words is ends =
          let head : name ≡ word = cc in
          ap (λ n. led tree root (other ++ n ∷ [])) (sym head) ∙ ends
      first_ends (first ∷ twice) word words is ends =
          let head : first ≡ word = cc in
          ap (λ n. led tree root (other ++ n ∷ [])) (sym head) ∙ ends

      heads : (own : List (List ℕ)) → HeadsDiffer own (name ∷ names) → name ∷ (more ++ rest) ≢ own
      heads [] differ is = absurd cc
      heads (first ∷ own) differ is = differ (cc)

      -- one path, and one directory
      at_one : d ≡ e → on ≢ shared ++ own
      at_one there is = heads own (differ there) (same_rest shared (name ∷ (more ++ rest)) own
          (ap (λ l. l ++ name ∷ (more ++ rest)) (sym same) ∙ sym (append_assoc twice (name ∷ more) rest) ∙ is))

      same_end : other ≡ front → d ≡ e
      same_end is = same_number d e (sym leads ∙ ap (led tree root) (sym is) ∙ other_leads)
        where
          same_number : (a b : ℕ) → Some a ≡ Some b → a ≡ b
          same_number a b s = cc

      -- a path of the one with a further name is no front of the other
      pub parted : ((other ++ twice) ++ name ∷ more) ++ rest ≢ front ++ (shared ++ own)
      parted is = ⊎_elim (λ (a : IsLonger other front on (shared ++ own)). longer a.more a.longer a.left)
          (λ (a : IsLonger front other (shared ++ own) on). shorter a.more a.longer a.left)
          (compare other front on (shared ++ own) (sym (append_assoc other (twice ++ name ∷ more) rest)
          ∙ ap (λ l. l ++ rest) (sym (append_assoc other twice (name ∷ more))) ∙ is))
        where
          longer : (w : List (List ℕ)) → other ≡ front ++ w → w ++ on ≡ shared ++ own → ⊥
          longer [] at left = at_one (same_end (at ∙ append-nil front)) left
          longer (word ∷ w) at left = by (shared ++ own) ends left
            where
              by : (names : List (List ℕ)) → EndsAt front names → (word ∷ w) ++ on ≡ names → ⊥
              by [] ends left = absurd cc
              by (first ∷ names) ends left =
                  let head : first ≡ word = cc in
                  ended front first names w e ends (ap (λ n. led tree root (front ++ n ∷ w)) head
                  ∙ ap (led tree root) (sym at) ∙ other_leads)

          shorter : (w : List (List ℕ)) → front ≡ other ++ w → w ++ (shared ++ own) ≡ on → ⊥
          shorter [] at left = at_one (same_end (sym (at ∙ append-nil other))) (sym left)
          shorter (word ∷ w) at left =
              ended other word (w ++ (shared ++ own)) w d
              (first_ends twice word (w ++ (shared ++ own)) (sym left) other_ends)
              (ap (led tree root) (sym at) ∙ leads)

-- Parts of what is ready

pub all_front : (P : Piece → Type 0) (xs ys : List Piece) → All P (xs ++ ys) → All P xs
all_front P [] ys all = All-nil P
all_front P (x ∷ xs) ys all =
    All-cons P x xs (All-head P x (xs ++ ys) all) (all_front P xs ys (All-tail P x (xs ++ ys) all))

pub all_back : (P : Piece → Type 0) (xs ys : List Piece) → All P (xs ++ ys) → All P ys
all_back P [] ys all = all
all_back P (x ∷ xs) ys all = all_back P xs ys (All-tail P x (xs ++ ys) all)

pub nested_front : (xs ys : List Piece) → AreNested (xs ++ ys) → AreNested xs
nested_front [] ys nested = tt
nested_front (x ∷ []) ys nested = tt
nested_front (x ∷ next ∷ xs) ys nested = (nested.0, nested.1, nested_front (next ∷ xs) ys nested.2)

pub nested_back : (xs ys : List Piece) → AreNested (xs ++ ys) → AreNested ys
nested_back [] ys nested = nested
nested_back (x ∷ xs) ys nested = nested_back xs ys (nested_tail x (xs ++ ys) nested)

pub apart_front : (xs ys : List Piece) → AreApart (xs ++ ys) → AreApart xs
apart_front [] ys apart = tt
apart_front (x ∷ xs) ys apart = (
  all_front (λ (other : Piece). same_node x.copy.born other.copy.born ≡ false) xs ys apart.0,
  apart_front xs ys apart.1,
)

pub apart_back : (xs ys : List Piece) → AreApart (xs ++ ys) → AreApart ys
apart_back [] ys apart = apart
apart_back (x ∷ xs) ys apart = apart_back xs ys apart.1

pub elsewhere_none : (pieces : List Piece) → Elsewhere [] pieces
elsewhere_none [] = tt
elsewhere_none (piece ∷ pieces) = (tt, elsewhere_none pieces)

pub elsewhere_more : (copy : PlannedCopy) (copies : List PlannedCopy) (pieces : List Piece)
    → All (λ (other : Piece). same_node copy.born other.copy.born ≡ false) pieces → Elsewhere copies pieces
    → Elsewhere (copy ∷ copies) pieces
elsewhere_more copy copies [] one all = tt
elsewhere_more copy copies (piece ∷ pieces) one all = (
  (All-head (λ (other : Piece). same_node copy.born other.copy.born ≡ false) piece pieces one, all.0),
  elsewhere_more copy copies pieces
      (All-tail (λ (other : Piece). same_node copy.born other.copy.born ≡ false) piece pieces one) all.1,
)

pub elsewhere_back : (copies : List PlannedCopy) (xs ys : List Piece) → Elsewhere copies (xs ++ ys) → Elsewhere copies ys
elsewhere_back copies [] ys all = all
elsewhere_back copies (x ∷ xs) ys all = elsewhere_back copies xs ys all.1

-- of what is apart the one part is not of the other
pub elsewhere_apart : (xs ys : List Piece) → AreApart (xs ++ ys) → Elsewhere (copies_of xs) ys
elsewhere_apart [] ys apart = elsewhere_none ys
elsewhere_apart (x ∷ xs) ys apart = elsewhere_more x.copy (copies_of xs) ys
    (all_back (λ (other : Piece). same_node x.copy.born other.copy.born ≡ false) xs ys apart.0)
    (elsewhere_apart xs ys apart.1)

none_front : (xs ys : List PlannedCopy) (node : NodeRef) → NoneOf (xs ++ ys) node → NoneOf xs node
none_front [] ys node none = tt
none_front (x ∷ xs) ys node none = (none.0, none_front xs ys node none.1)

none_back : (xs ys : List PlannedCopy) (node : NodeRef) → NoneOf (xs ++ ys) node → NoneOf ys node
none_back [] ys node none = none
none_back (x ∷ xs) ys node none = none_back xs ys node none.1

pub elsewhere_first : (xs ys : List PlannedCopy) (pieces : List Piece) → Elsewhere (xs ++ ys) pieces
    → Elsewhere xs pieces
elsewhere_first xs ys [] all = tt
elsewhere_first xs ys (piece ∷ pieces) all =
    (none_front xs ys piece.copy.born all.0, elsewhere_first xs ys pieces all.1)

pub elsewhere_last : (xs ys : List PlannedCopy) (pieces : List Piece) → Elsewhere (xs ++ ys) pieces
    → Elsewhere ys pieces
elsewhere_last xs ys [] all = tt
elsewhere_last xs ys (piece ∷ pieces) all =
    (none_back xs ys piece.copy.born all.0, elsewhere_last xs ys pieces all.1)

-- Copies at different paths, of which those of the one are directories, are of different nodes.
module _ (trees : Filesystems) (layers : List LayerRef) (overlay : FilesystemId) where
  pub copies_back : (w : Bool) (front : List (List ℕ)) (xs ys : List Piece)
      → AreCopiesFrom w trees layers overlay front (xs ++ ys)
      → AreCopiesFrom w trees layers overlay (front ++ names_of xs) ys
  copies_back w front [] ys copies =
      subst (λ p. AreCopiesFrom w trees layers overlay p ys) (sym (append-nil front)) copies
  copies_back w front (x ∷ xs) ys copies = subst (λ p. AreCopiesFrom w trees layers overlay p ys)
      (append_assoc front (x.copy.name.items ∷ []) (names_of xs))
      (copies_back w (front ++ x.copy.name.items ∷ []) xs ys copies.1)

module _ (trees : Filesystems) (layers : List LayerRef) (overlay : FilesystemId) (are : AreLayers trees layers) where
  -- no front of these names leads on from a path to another one
  abbrev NeverAt : List (List ℕ) → List (List ℕ) → List (List ℕ) → Type 0
  NeverAt front names target =
      (name : List ℕ) (more rest : List (List ℕ)) → (name ∷ more) ++ rest ≡ names → front ++ name ∷ more ≢ target

  module _ (w : Bool) (path : List (List ℕ)) (copy : PlannedCopy) (at : IsCopyIn w trees layers overlay path copy) where
    one_elsewhere : (v : Bool) (front : List (List ℕ)) (pieces : List Piece)
        → AreCopiesFrom v trees layers overlay front pieces → AreDirectories pieces
        → NeverAt front (names_of pieces) (path ++ copy.name.items ∷ [])
        → All (λ (other : Piece). same_node copy.born other.copy.born ≡ false) pieces
    one_elsewhere v front [] copies kinds never =
        All-nil (λ (other : Piece). same_node copy.born other.copy.born ≡ false)
    one_elsewhere v front (piece ∷ pieces) copies kinds never =
        All-cons (λ (other : Piece). same_node copy.born other.copy.born ≡ false) piece pieces
        (differs (same_node copy.born piece.copy.born) refl)
        (one_elsewhere v (front ++ piece.copy.name.items ∷ []) pieces copies.1 kinds.1
        (λ name more rest is at. never piece.copy.name.items (name ∷ more) rest
        (ap (λ l. piece.copy.name.items ∷ l) is)
        (sym (append_assoc front (piece.copy.name.items ∷ []) (name ∷ more)) ∙ at)))
      where
        differs : (b : Bool) → same_node copy.born piece.copy.born ≡ b → same_node copy.born piece.copy.born ≡ false
        differs false e = e
        differs true e = absurd (never piece.copy.name.items [] (names_of pieces) refl
            (one_place trees layers overlay are front path piece.copy.name.items copy.name.items piece.copy.born copy.born
            copies.0.born at.born
            (inode_is trees layers overlay are v front piece.copy copies.0 kinds.0)
            (sym (same_node-is copy.born piece.copy.born e))))

  pub all_elsewhere : (w v : Bool) (front other : List (List ℕ)) (pieces others : List Piece)
      → AreCopiesFrom w trees layers overlay front pieces → AreCopiesFrom v trees layers overlay other others
      → AreDirectories others
      → ((name : List ℕ) (more left rest : List (List ℕ)) → (name ∷ more) ++ left ≡ names_of others
      → (other ++ name ∷ more) ++ rest ≢ front ++ names_of pieces)
      → Elsewhere (copies_of pieces) others
  all_elsewhere w v front other [] others copies other_copies kinds never = elsewhere_none others
  all_elsewhere w v front other (piece ∷ pieces) others copies other_copies kinds never =
      elsewhere_more piece.copy (copies_of pieces) others
      (one_elsewhere w front piece.copy copies.0 v other others other_copies kinds
      (λ name more left is at. never name more left (names_of pieces) is
      (ap (λ l. l ++ names_of pieces) at
      ∙ append_assoc front (piece.copy.name.items ∷ []) (names_of pieces))))
      (all_elsewhere w v (front ++ piece.copy.name.items ∷ []) other pieces others copies.1 other_copies kinds
      (λ name more left rest is at. never name more left rest is
      (at ∙ append_assoc front (piece.copy.name.items ∷ []) (names_of pieces))))
