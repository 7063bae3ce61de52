-- A new inode under a name of the upper layer: where its view leads, and what it hides.
use Rattle.std.proofs.Common.{◌≡◌, ◌≢◌, subst, ◌∙◌, ℕ, nat_eq, Bool, true, false, cond, List, [], Some, None}
use Rattle.vt_spec.proofs.Common.{FileTree, IsDirectory, IsTree, Make, Node, View, changed, cuts, entries_of, hides, led, node_led}
use Rattle.vt_laws_trees.specs.Layers.Layers.Mounted.{IsAlike}
use Rattle.vt_laws_trees.specs.Layers.Layers.Views.{TakesName, goes_through, names_entry, view_in}
use Rattle.vt_laws_trees.proofs.layers.layers.ShownFronts.{prefix_found, prefix_passes}
use Rattle.vt_laws_trees.proofs.layers.views.Fronts.{hides_so, hiding_alike}
use Rattle.vt_laws_trees.proofs.layers.views.Names.{make_adds_inode, make_adds_path, make_is_seen}

-- a new inode takes a name of the upper layer that no inode with names has
pub record IsNewName (upper : FileTree ℕ) (top ud c : ℕ) (w : List ℕ) (new : Node ℕ) : Type 0 where
  pub tree : IsTree upper.tree
  pub directory : IsDirectory upper.tree top
  pub takes : TakesName upper.tree ud w
  pub vacant : upper.tree.node c ≡ None
  pub bare : entries_of new.content ≡ []

module _ {upper : FileTree ℕ} {top ud c : ℕ} {w : List ℕ} {new : Node ℕ} (it : IsNewName upper top ud c w new) where
  abbrev pub grown : FileTree ℕ
  grown = changed nat_eq upper (Make ud w c new)

  abbrev pub before : View ℕ
  before = view_in upper top

  abbrev pub after : View ℕ
  after = view_in grown top

  pub leads_same : (path : List (List ℕ)) → names_entry before ud w path ≡ false
      → led grown.tree top path ≡ led upper.tree top path
  leads_same path e = cc (make_adds_path upper top ud c w new it.takes it.vacant it.bare path, e)

  pub others_alike : (u : ℕ) → u ≢ c → IsAlike (upper.tree.node u) (grown.tree.node u)
  others_alike = (make_adds_inode upper top ud c w new it.takes.in_directory it.vacant).1

  pub new_there : grown.tree.node c ≡ Some new
  new_there = (make_adds_inode upper top ud c w new it.takes.in_directory it.vacant).0

  pub hides_at : (front : List (List ℕ)) (b : Bool) → names_entry before ud w front ≡ b
      → hides (node_led after front) ≡ cond b (hides (Some new)) (hides (node_led before front))
  hides_at front b e = by b (subst (λ x. IsAlike (cond x (Some new) (node_led before front)) (node_led after front)) e
      (make_is_seen upper top ud c w new it.tree it.directory it.takes it.vacant it.bare front))
    where
      by : (b : Bool) → IsAlike (cond b (Some new) (node_led before front)) (node_led after front)
          → hides (node_led after front) ≡ cond b (hides (Some new)) (hides (node_led before front))
      by true alike = hiding_alike (Some new) (node_led after front) (hides_so (Some new) (node_led after front) alike)
      by false alike = hiding_alike _ (node_led after front) (hides_so _ (node_led after front) alike)

  -- where it hides, it cuts all below it
  pub cuts_through : hides (Some new) ≡ true → (path : List (List ℕ)) → goes_through before ud w path ≡ true
      → cuts after path ≡ true
  cuts_through h path through =
      let found = prefix_found (names_entry before ud w) path through in
      prefix_passes _ path found.0 found.1.0 found.1.1 found.1.2 (hides_at found.0 true found.2 ∙ h)
