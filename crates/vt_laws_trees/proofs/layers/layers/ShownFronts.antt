-- The fronts of a path at which a layer cuts what is below it.
use Rattle.std.proofs.Common.{◌≡◌, ◌≢◌, refl, sym, ap, ◌∙◌, true≢false, ℕ, Bool, true, false, not, ◌||◌, List, [], ◌∷◌, ◌++◌, map, Option, Some, None}
use Rattle.vt_spec.proofs.Common.{Content, Directory, Node, OpenLayer, Regular, Symlink, Whiteout, is_directory, kind_of, list_any, node_at_path, opaque_of, or_right, prefixes}
use Rattle.vt_spec.proofs.Layers.{cuts}
use Rattle.vt_spec.specs.Machine.Layers.{hides}
use Rattle.vt_laws_trees.specs.Layers.Layers.Shown.{HidesLower, IsFrontOf}
use Rattle.vt_laws_trees.specs.Layers.Layers.Shown.HidesLower.{a_file, a_link, a_whiteout, an_opaque_directory}

-- a test of a list is the test of what it was made of
pub list_any_of_map : {A B : Type 0} (test : B → Bool) (f : A → B) (list : List A)
    → list_any test (map f list) ≡ list_any (λ a. test (f a)) list
list_any_of_map test f [] = refl
list_any_of_map test f (a ∷ list) = ap (λ b. test (f a) || b) (list_any_of_map test f list)

pub cons_is_not_empty : {A P : Type 0} (a : A) (list : List A) → a ∷ list ≡ [] → P
cons_is_not_empty a list e = absurd (true≢false (ap (λ l. elim l [ [] ↦ false | b ∷ rest ↦ true ]) e))

-- a front that passes is found
pub prefix_passes : (test : List (List ℕ) → Bool) (path front rest : List (List ℕ)) → front ++ rest ≡ path → front ≢ []
    → test front ≡ true → list_any test (prefixes path) ≡ true
prefix_passes test path [] rest e nonempty t = absurd (nonempty refl)
prefix_passes test path (name ∷ []) rest e nonempty t = cc
prefix_passes test path (name ∷ other ∷ front) rest e nonempty t = ap (λ p. list_any test (prefixes p)) (sym e)
    ∙ or_right (test (name ∷ [])) _ (list_any_of_map test (λ front. name ∷ front) (prefixes (other ∷ front ++ rest))
    ∙ prefix_passes (λ front. test (name ∷ front)) _ (other ∷ front) rest refl (cons_is_not_empty other front) t)

-- and one that is found passes
abbrev PassingFront : (List (List ℕ) → Bool) → List (List ℕ) → Type 0
PassingFront test path = (front : List (List ℕ)) × IsFrontOf front path × (test front ≡ true)

pub prefix_found : (test : List (List ℕ) → Bool) (path : List (List ℕ)) → list_any test (prefixes path) ≡ true
    → PassingFront test path
prefix_found test [] e = cc
prefix_found test (name ∷ path) e = by (prefix_found (λ front. test (name ∷ front)) path) (test (name ∷ [])) refl e
  where
    later : PassingFront (λ front. test (name ∷ front)) path → PassingFront test (name ∷ path)
    later found = (name ∷ found.0, (found.1.0, ap (λ p. name ∷ p) found.1.1, cons_is_not_empty name found.0), found.2)

    by : (list_any (λ front. test (name ∷ front)) (prefixes path) ≡ true
        → PassingFront (λ front. test (name ∷ front)) path) → (b : Bool) → test (name ∷ []) ≡ b
        → (b || list_any test (map (λ front. name ∷ front) (prefixes path))) ≡ true → PassingFront test (name ∷ path)
    by found true t e = (name ∷ [], (path, refl, cons_is_not_empty name []), t)
    by found false t e = later (found (sym (list_any_of_map test (λ front. name ∷ front) (prefixes path)) ∙ e))

-- what hides, in both sayings
pub hiding : (content : Content ℕ) → (not (is_directory (kind_of content)) || opaque_of content) ≡ true
    → HidesLower content
hiding (Directory parent entries true) e = an_opaque_directory parent entries
hiding (Directory parent entries false) e = cc
hiding (Regular bytes) e = a_file bytes
hiding (Symlink text) e = a_link text
hiding Whiteout e = a_whiteout

pub hidden : (content : Content ℕ) → HidesLower content
    → (not (is_directory (kind_of content)) || opaque_of content) ≡ true
hidden c a_whiteout = refl
hidden c (a_file bytes) = refl
hidden c (a_link text) = refl
hidden c (an_opaque_directory parent entries) = refl

-- an inode that hides is there
pub hides_inode : (inode : Option (Node ℕ)) → hides inode ≡ true
    → (node : Node ℕ) × (inode ≡ Some node) × HidesLower node.content
hides_inode None e = cc
hides_inode (Some node) e = (node, refl, hiding node.content e)

-- a layer cuts where it has something that hides, at a front of the path
pub cuts_by : (layer : OpenLayer ℕ) (path front : List (List ℕ)) (node : Node ℕ) → IsFrontOf front path
    → node_at_path layer front ≡ Some node → HidesLower node.content → cuts layer path ≡ true
cuts_by layer path front node is e h = prefix_passes _ path front is.0 is.1 is.2 (cc (hidden node.content h))
