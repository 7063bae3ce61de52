-- Each merged tree that is named so is the tree that is seen.
use Rattle.std.proofs.Common.{arith, ◌≡◌, ◌⊎◌, ◌≢◌, inl, inr, refl, sym, ap, ◌∙◌, ℕ, nat_eq, eq-eqb, eqb-true, Bool, true, false, List, [], ◌∷◌, Option, Some, None, find, get_or, unwrap_or}
use Rattle.vt_spec.proofs.Common.{Filesystem, IsWorld, ListsNumbers, Overlay, Real, Shown, World, common_steps, filesystem_numbered, found_passes, holds_of, no_filesystem, none_is_some, paths_from, shown, shown_layers}
use Rattle.vt_laws_trees.proofs.layers.layers.ShownObjects.{Among, paths_complete}
use Rattle.vt_laws_trees.proofs.layers.layers.UpperWorld.{all_found}
use Rattle.vt_laws_trees.specs.Overlays.MergedTrees.{IsMergedTree, IsNamedBy, layers_shown, number_shown}
use Rattle.vt_laws_trees.proofs.overlays.merged.Numbers.{inodes_are_those, numbers_are_those, others_are_held, overlays_are_merged_trees}
use Rattle.vt_laws_trees.specs.Overlays.TreesSeen.{AreListed, AreNoLarger, MergedTreesAreSeen, OverlaysAreSeen, node_by, path_numbered, real_by}
use Rattle.vt_laws_trees.proofs.overlays.seen.Paths.{paths_are_no_longer}

-- what is among a list and passes is not missed
by_first : {A : Type 0} (test : A → Bool) (first : A) (list : List A) (a : A) (b : Bool) → test first ≡ b
    → (Among list a → find test list ≢ None) → (first ≡ a) ⊎ Among list a → test a ≡ true
    → find test (first ∷ list) ≢ None
by_first test first list a true s rest among passes e = grind (arith, common_steps, none_is_some)
by_first test first list a false s rest (inl same) passes e = cc
by_first test first list a false s rest (inr among) passes e = grind (arith, common_steps)

not_missed : {A : Type 0} (test : A → Bool) (list : List A) (a : A) → test a ≡ true → Among list a
    → find test list ≢ None
not_missed test [] a passes among e = absurd among
not_missed test (first ∷ list) a passes among e =
    by_first test first list a (test first) refl (not_missed test list a passes) among passes e

pub shown_number : (number : ℕ) (o : Option ℕ) → holds_of (nat_eq number) o ≡ true → o ≡ Some number
shown_number number None e = cc
shown_number number (Some other) e = ap Some (sym (eqb-true number other e))

module _ {number_of : Real ℕ → ℕ} {held : ℕ → Option (Real ℕ)} {world : World ℕ} {filesystem : Filesystem ℕ}
    {overlay : Overlay ℕ} (is : IsMergedTree world filesystem overlay)
    (named : IsNamedBy number_of held filesystem overlay) (longest : ℕ) (listed : AreListed world overlay)
    (larger : AreNoLarger longest world overlay) where
  abbrev passes : ℕ → List (List ℕ) → Bool
  passes number path = holds_of (nat_eq number) (number_shown number_of world overlay path)

  -- a number at a path is among those that are looked through
  gone_through : (path : List (List ℕ)) (number : ℕ) → number_shown number_of world overlay path ≡ Some number
      → Among (paths_from longest (layers_shown world overlay) []) path
  gone_through path number e = by (shown (layers_shown world overlay) path) refl e
    where
      by : (o : Option (Shown ℕ)) → shown (layers_shown world overlay) path ≡ o
          → number_shown number_of world overlay path ≡ Some number
          → Among (paths_from longest (layers_shown world overlay) []) path
      by None s e = none_is_some number (cc)
      by (Some seen) s e = paths_complete (layers_shown world overlay) is.layers longest [] path seen
          (paths_are_no_longer world filesystem overlay longest path seen is listed larger s) s

  same : (number : ℕ) (o : Option (List (List ℕ))) → path_numbered number_of longest world overlay number ≡ o
      → (filesystem.files.tree.node number ≡ node_by number_of held longest world overlay number o)
      × (overlay.real number ≡ real_by number_of held longest world overlay number o)
  same number (Some path) e =
      let shows = shown_number number (number_shown number_of world overlay path)
      (found_passes (passes number) (paths_from longest (layers_shown world overlay) []) path e) in
      inodes_are_those number_of held world filesystem overlay is named path number
      (numbers_are_those number_of held world filesystem overlay is named path ∙ shows)
  same number None e = others_are_held number_of held world filesystem overlay is named number (λ path at.
      let shows = sym (numbers_are_those number_of held world filesystem overlay is named path) ∙ at in
      not_missed (passes number) _ path (cc (eq-eqb number number refl)) (gone_through path number shows) e)

  root : filesystem.files.tree.root ≡ unwrap_or (number_shown number_of world overlay []) 0
  root = ap (λ o. unwrap_or o 0) (numbers_are_those number_of held world filesystem overlay is named [])

pub trees_are_seen : MergedTreesAreSeen
trees_are_seen number_of held world filesystem overlay is named longest listed larger = (
  λ i. record {
    root = root is named longest listed larger i;
    node = λ number. (same is named longest listed larger number _ refl).0 i;
  },
  λ i. λ number. (same is named longest listed larger number _ refl).1 i,
)

-- in a world with all invariants the numbers beside each tree are those of its inodes
each_is_listed : (world : World ℕ) → IsWorld nat_eq world → (number : ℕ)
    → ListsNumbers nat_eq (filesystem_numbered nat_eq world number).files
each_is_listed world conditions number = by (find here world.filesystems) refl
  where
    here : Filesystem ℕ → Bool
    here filesystem = nat_eq number filesystem.number

    by : (o : Option (Filesystem ℕ)) → find here world.filesystems ≡ o
        → ListsNumbers nat_eq (unwrap_or o (no_filesystem number)).files
    by None e = λ n. refl
    by (Some filesystem) e = all_found (λ (f : Filesystem ℕ). ListsNumbers nat_eq f.files) here world.filesystems
        conditions.files.numbers filesystem e

pub overlays_are_seen : OverlaysAreSeen
overlays_are_seen number_of held world number overlay longest conditions is named larger =
    trees_are_seen number_of held world (filesystem_numbered nat_eq world number) overlay
    (overlays_are_merged_trees world number overlay conditions is) named longest
    (λ k d h. each_is_listed world conditions (get_or (shown_layers overlay) k d).filesystem) larger
