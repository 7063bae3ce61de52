-- Inodes that have no name in a merged tree once a name was removed from it, and what is held then.
use Rattle.std.proofs.Common.{◌≡◌, ◌≢◌, ◌∙◌, ◌&&◌, ◌++◌, ◌∷◌, [], ap, Bool, cond, eq-eqb, eqb-true, false, if◌then◌else◌, List, nat_eq, None, Option, refl, Some, sym, true, true≢false, ℕ}
use Rattle.vt_spec.proofs.Common.{Filesystem, FileTree, Real, changed, entries-without_parent, entry_at, entry_named, real_shown, same_Some, without_name}
use Rattle.vt_spec.specs.Language.Changes.Change.{Remove}
use Rattle.vt_spec.specs.TreeInvariant.{HasName}
use Rattle.vt_laws_trees.proofs.layers.views.Entries.{is_entry, is_that_entry, taken}
use Rattle.vt_laws_trees.proofs.overlays.merged.Numbers.{numbers_are_those}
use Rattle.vt_laws_trees.specs.Overlays.MergedTrees.{IsMergedTree, IsNamedBy}
use Rattle.vt_births.specs.declared.upper_nodes.UpperNodes.{UpperNodes}
use Rattle.vt_fs.specs.FilesystemsValue.{Filesystems}
use Rattle.vt_upper.proofs.LosersHeld.{held_left}
use Rattle.vt_upper.proofs.NamesLeft.{entry_under}
use Rattle.vt_upper.specs.declared.losing.Losing.{Losing}
use Rattle.vt_upper.specs.LastName.{IsNameAt}
use Rattle.vt_upper.specs.Losing.{IsLeftBy, IsLosing, keeps_node}
use Rattle.vt_upper.specs.LosingLaws.{HaveUses}
use Rattle.vt_location.specs.declared.locations.NodeRef.{NodeRef}
use Rattle.vt_location.specs.Locations.{number_of}
use Rattle.vt_location.specs.NodeNumbers.{IsSmall}
use Rattle.vt_overlay.specs.MergedTree.{plain_world}
use Rattle.vt_upper_overlay.proofs.Shown.{IsLooked}
use Rattle.vt_upper_overlay.proofs.TreesSame.{looks_see}
use Rattle.vt_upper_overlay.specs.Laws.{with_objects}
use Rattle.vt_upper_overlay.specs.MergedAbove.{held, real_number, upper_seen}
use Rattle.vt_upper_overlay.specs.UpperValue.{UpperOverlayValue}

module _ (trees : Filesystems) (overlay : UpperOverlayValue) (filesystem : Filesystem ℕ) (real : ℕ → Option (Real ℕ))
    (merged : IsMergedTree (plain_world trees) filesystem (with_objects overlay real))
    (named : IsNamedBy (real_number trees overlay) (held trees overlay) filesystem (with_objects overlay real))
    (looked : IsLooked trees overlay) (directory node : NodeRef) (node_small : IsSmall node) (path : List (List ℕ))
    (name : List ℕ) (at : IsNameAt trees overlay directory node path name) where
  abbrev whole : List (List ℕ)
  whole = path ++ name ∷ []

  abbrev real_there : Option (Real ℕ)
  real_there = real_shown nat_eq (plain_world trees) (upper_seen overlay) whole

  abbrev left : FileTree ℕ
  left = changed nat_eq filesystem.files (Remove (number_of directory) name (number_of node))

  abbrev is_it : ℕ → List ℕ → Bool
  is_it other word = is_entry (number_of directory) name other word

  its_real : real (number_of node) ≡ real_there
  its_real = merged.merged.names whole (number_of node) (numbers_are_those (real_number trees overlay)
      (held trees overlay) (plain_world trees) filesystem (with_objects overlay real) merged named whole ∙ at.leads)

  its_entry : entry_at filesystem.files.tree (number_of directory) name ≡ Some (number_of node)
  its_entry = ap (λ t. entry_at t (number_of directory) name) (looks_see trees overlay filesystem real merged named)
      ∙ sym (entry_under trees overlay (number_of directory) path name at.way) ∙ at.leads

  entry_left : (other : ℕ) (word : List ℕ) → entry_at left.tree other word
      ≡ cond (is_it other word) None (entry_at filesystem.files.tree other word)
  entry_left other word =
      ap (entry_named word) (entries-without_parent
      (without_name nat_eq filesystem.files (number_of directory) name) (Some (number_of node)) other)
      ∙ taken filesystem.files (number_of directory) name other word

  -- no other inode loses a name
  unnamed_before : (number : ℕ) → nat_eq number (number_of node) ≡ false → ¬ (HasName left.tree number)
      → ¬ (HasName filesystem.files.tree number)
  unnamed_before number other none has = by (is_it has.0 has.1) refl
    where
      by : (b : Bool) → is_it has.0 has.1 ≡ b → ⊥
      by false e = none (
        has.0,
        has.1,
        entry_left has.0 has.1 ∙ ap (λ b. cond b None (entry_at filesystem.files.tree has.0 has.1)) e ∙ has.2,
      )
      by true e =
          let it = is_that_entry (number_of directory) name has.0 has.1 e in
          let same = same_Some number (number_of node)
          (sym has.2 ∙ (λ i. entry_at filesystem.files.tree (it.0 i) (it.1 i)) ∙ its_entry) in
          true≢false (sym (eq-eqb number (number_of node) same) ∙ other)

  pub unnamed_held : (losing : Losing) (uses : ℕ) (nodes : UpperNodes)
      → IsLosing trees overlay whole node uses losing → IsLeftBy losing overlay.nodes nodes
      → HaveUses overlay.nodes.kept → HaveUses nodes.kept → (number : ℕ) → ¬ (HasName left.tree number)
      → number ≢ filesystem.files.tree.root → (number ≡ number_of node → keeps_node losing ≡ true)
      → real number ≡ held trees (record overlay { nodes = nodes }) number
  unnamed_held losing uses nodes loses is_left have_uses have_uses_then number none other keeps =
      by (nat_eq number (number_of node)) refl
      ∙ sym (held_left trees overlay looked node node_small whole at.leads losing uses nodes loses is_left have_uses
      have_uses_then number)
    where
      by : (b : Bool) → nat_eq number (number_of node) ≡ b
          → real number ≡ (if keeps_node losing && nat_eq number (number_of node) then real_there
          else held trees overlay number)
      by true e =
          let same = eqb-true number (number_of node) e in
          ap real same ∙ its_real ∙ sym (λ i. if keeps same i && e i then real_there else held trees overlay number)
      by false e = named.unnamed number (unnamed_before number e none) other
          ∙ sym (ap (λ b. if b then real_there else held trees overlay number) (and_false (keeps_node losing) e))
        where
          and_false : (a : Bool) {b : Bool} → b ≡ false → (a && b) ≡ false
          and_false true is = is
          and_false false is = refl
