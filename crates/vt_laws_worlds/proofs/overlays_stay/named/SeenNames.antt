-- What is seen along the paths of layers has a name.
use Rattle.std.proofs.Common.{◌≡◌, ◌≢◌, refl, sym, subst, ◌∙◌, ℕ, nat_eq, eq-eqb, Bool, true, false, true≢false, ◌||◌, Option, Some, None, is_some}
use Rattle.vt_spec.proofs.Common.{Filesystem, HasName, Node, Overlay, Real, SameObject, World, filesystem_numbered, is_among, is_overlay, named_in, or_parts, real_node, then_some}
use Rattle.vt_laws_mounts.specs.LettingGo.InUse.{IsListedTree}
use Rattle.vt_laws_mounts.specs.LettingGo.Keeping.{has_only_named}
use Rattle.vt_laws_mounts.proofs.letting_go.Lists.{all_from_among, is_among_numbers, list_all_from_among}
use Rattle.vt_laws_mounts.proofs.letting_go.Trees.{named_among}
use Rattle.vt_laws_mounts.proofs.letting_go.sweeps.OfWorlds.{found_filesystem}
use Rattle.vt_laws_trees.specs.Overlays.MergedTrees.{IsMergedTree, IsNamedBy}
use Rattle.vt_laws_trees.proofs.overlays.merged.Numbers.{overlays_are_merged_trees}
use Rattle.vt_laws_trees.proofs.overlays.seen.NamedTrees.{seen_trees_are_named}
use Rattle.vt_laws_worlds.specs.OverlaysStay.Named.{SeenOverlaysHaveNames, SeenWorldsHaveNames}

module _ {number_of : Real ℕ → ℕ} {world : World ℕ} {f : Filesystem ℕ} {overlay : Overlay ℕ}
    (merged : IsMergedTree world f overlay) (named : IsNamedBy number_of (λ inode. None) f overlay) where
  tree : IsListedTree f.files
  tree = record { tree = merged.tree; numbers = merged.numbers }

  -- an inode without a name has no real object, so it is not there
  not_there : (n : ℕ) → ¬ (HasName f.files.tree n) → n ≢ f.files.tree.root → is_some (f.files.tree.node n) ≡ false
  not_there n unnamed other = none _ (subst (λ o. SameObject (f.files.tree.node n)
      (then_some o (real_node nat_eq world overlay))) (named.unnamed n unnamed other) (merged.merged.real_objects n))
    where
      none : (o : Option (Node ℕ)) → SameObject o None → is_some o ≡ false
      none None same = refl
      none (Some node) same = absurd same

  only_named : has_only_named f ≡ true
  only_named = list_all_from_among (λ n. nat_eq n f.files.tree.root || is_among nat_eq n (named_in f.files))
      f.files.numbers (λ n m. by n (sym (merged.numbers n) ∙ is_among_numbers n f.files.numbers m) _ refl)
    where
      by : (n : ℕ) → is_some (f.files.tree.node n) ≡ true → (b : Bool)
          → (nat_eq n f.files.tree.root || is_among nat_eq n (named_in f.files)) ≡ b → b ≡ true
      by n there true e = refl
      by n there false e =
          let parts = or_parts _ _ e in
          cc (not_there n (λ name. true≢false (sym (named_among f.files tree n name) ∙ parts.1))
          (λ root. true≢false (sym (eq-eqb n f.files.tree.root root) ∙ parts.0)))

pub seen_overlays_have_names : SeenOverlaysHaveNames
seen_overlays_have_names number_of longest world number overlay is was seen =
    let merged = overlays_are_merged_trees world number overlay is was in
    let named = seen_trees_are_named number_of (λ inode. None) longest world (filesystem_numbered nat_eq world number)
    overlay merged seen (λ inode object none. absurd cc) in
    (named, only_named merged named)

pub seen_worlds_have_names : SeenWorldsHaveNames
seen_worlds_have_names number_of longest world is seen = all_from_among (λ f. is_overlay f ≡ true → has_only_named f
    ≡ true) world.filesystems (λ f m e. by f (found_filesystem _ is.files.one_filesystem f m) _ refl
    (cc (found_filesystem world.filesystems is.files.one_filesystem f m)))
  where
    by : (f : Filesystem ℕ) → filesystem_numbered nat_eq world f.number ≡ f → (o : Option (Overlay ℕ))
        → (filesystem_numbered nat_eq world f.number).overlay ≡ o
        → is_overlay (filesystem_numbered nat_eq world f.number) ≡ true → has_only_named f ≡ true
    by f found None e is_one = cc
    by f found (Some overlay) e is_one = cc ((seen_overlays_have_names (number_of f.number) (longest f.number) world
        f.number overlay is e (seen f.number overlay e)).1)
