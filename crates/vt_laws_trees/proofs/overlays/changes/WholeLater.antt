-- The overlay of a world, after a change through it.
use Rattle.std.proofs.Common.{arith, ◌≡◌, ◌≢◌, refl, sym, ap, subst, ◌∙◌, true≢false, eqb-true, ℕ, nat_eq, Bool, true, false, not, eq-eqb, ⊎_elim, inl, inr, List, [], ◌∷◌, ◌++◌, Some, None, is_some, option_to_list}
use Rattle.vt_spec.proofs.Common.{AddName, Change, CopyUp, Filesystem, Fresh, IsMerged, IsWorld, Layer, Location, Make, Merge, Move, Overlay, Remove, SetAttr, SetBytes, SetMark, Stack, World, among-append_right, and_true_right, common_steps, directory_used, filesystem_at, filesystem_changed, filesystem_numbered, is_directory_node, is_overlay, is_plain_layer, layers_of, lies_or_counts_under, merge_changed, merge_of, mount_at, none_is_some, open_layer, overlay_changed, same_Some, stack_of, upper_and_work, with_change, with_files, with_filesystem, with_merge}
use Rattle.vt_spec.proofs.Lists
use Rattle.vt_laws_trees.specs.Layers.Layers.Locked.{AreNoInodes, LeadsAsBefore}
use Rattle.vt_laws_trees.specs.Layers.Layers.Untouched.{IsKept}
use Rattle.vt_laws_trees.specs.Layers.Layers.Upper.{SpeaksOfWhatIsThere}
use Rattle.vt_laws_trees.proofs.layers.locked.Apart.{layer_among, layer_plain, no_lower}
use Rattle.vt_laws_trees.proofs.layers.locked.Paths.{leads_as_before, no_new}
use Rattle.vt_laws_trees.proofs.layers.layers.LowersKept.{kept_same}
use Rattle.vt_laws_trees.proofs.layers.layers.LowersWorld.{filesystem_elsewhere, filesystem_there, number_of_filesystem, others_elsewhere}
use Rattle.vt_laws_trees.proofs.layers.layers.ShownObjects.{Among}
use Rattle.vt_laws_trees.proofs.layers.layers.UpperLine.{has_entries}
use Rattle.vt_laws_trees.proofs.layers.layers.UpperWorld.{upper_elsewhere, upper_filesystem_keeps}
use Rattle.vt_laws_trees.specs.Overlays.WhatIsShown.{IsWhatIsShown}
use Rattle.vt_laws_trees.specs.Overlays.WholeChanges.{ChangedOverlayIsMerged, IsAskedWell}
use Rattle.vt_laws_trees.proofs.overlays.changes.WholeLowers.{shown_alike}
use Rattle.vt_laws_trees.proofs.overlays.changes.WholeTogether.{changes_keep_shown}
use Rattle.vt_laws_trees.proofs.overlays.changes.WholeWorlds.{overlays_are_whole, shown_is_merged}
use Rattle.vt_laws_trees.specs.Trees.Settling.{inode_in}

-- what is asked well speaks of what is there
pub spoken : (stack : Stack ℕ) (merge : Merge ℕ) (change : Change ℕ)
    → Rattle.vt_spec.specs.TreeInvariant.IsTree merge.files.tree → IsAskedWell stack merge change
    → SpeaksOfWhatIsThere merge.files change
spoken stack merge (Make d w number node) tree asked = grind (arith, common_steps, directory_used)
spoken stack merge (AddName d w o) tree may = grind (arith, common_steps, directory_used)
spoken stack merge (Remove d w o) tree may = grind (arith, common_steps, directory_used, has_entries)
spoken stack merge (Move f old t new o) tree asked = grind (arith, common_steps, directory_used)
spoken stack merge (SetBytes file bytes) tree there = there
spoken stack merge (SetAttr o attr) tree there = there
spoken stack merge (SetMark d opaque) tree asked = absurd asked
spoken stack merge (CopyUp o) tree there = there

-- the two ways to say that one stands in a list
in_list : (list : List (Layer ℕ)) (layer : Layer ℕ) → Among list layer → Lists.Among layer list
in_list [] layer m = absurd m
in_list (first ∷ list) layer m = ⊎_elim (λ e. inl (sym e)) (λ l. inr (in_list list layer l)) m

-- Something changes through an overlay that has an upper layer
pub record ChangesMerge (fresh : Fresh ℕ) (world : World ℕ) (location : Location ℕ) (change : Change ℕ)
    (overlay : Overlay ℕ) (upper : Layer ℕ) : Type 0 where
  pub conditions : IsWorld nat_eq world
  pub is : (filesystem_at nat_eq world location).overlay ≡ Some overlay
  pub has : overlay.upper ≡ Some upper
  pub distinct : (j k : ℕ) → fresh j ≡ fresh k → j ≡ k
  pub none : (filesystem : ℕ) → AreNoInodes fresh world filesystem
  pub asked : IsAskedWell (stack_of nat_eq world overlay upper)
      (merge_of nat_eq world (filesystem_at nat_eq world location) overlay upper) change

pub changing : (fresh : Fresh ℕ) (world : World ℕ) (location : Location ℕ) (change : Change ℕ) (overlay : Overlay ℕ)
    (upper : Layer ℕ) → IsWorld nat_eq world → (filesystem_at nat_eq world location).overlay ≡ Some overlay
    → overlay.upper ≡ Some upper → ((j k : ℕ) → fresh j ≡ fresh k → j ≡ k)
    → ((filesystem : ℕ) → AreNoInodes fresh world filesystem) → IsAskedWell (stack_of nat_eq world overlay upper)
    (merge_of nat_eq world (filesystem_at nat_eq world location) overlay upper) change
    → ChangesMerge fresh world location change overlay upper
changing fresh world location change overlay upper conditions is has distinct none asked = record {
  conditions = conditions;
  is = is;
  has = has;
  distinct = distinct;
  none = none;
  asked = asked;
}

module _ {fresh : Fresh ℕ} {world : World ℕ} {location : Location ℕ} {change : Change ℕ} {overlay : Overlay ℕ}
    {upper : Layer ℕ} (it : ChangesMerge fresh world location change overlay upper) where
  abbrev pub number : ℕ
  number = (mount_at nat_eq world location).filesystem

  abbrev pub merged : Filesystem ℕ
  merged = filesystem_numbered nat_eq world number

  abbrev pub before : Merge ℕ
  before = merge_of nat_eq world merged overlay upper

  abbrev pub merge : Merge ℕ
  merge = merge_changed nat_eq fresh (stack_of nat_eq world overlay upper) before change

  abbrev pub changed_overlay : Overlay ℕ
  changed_overlay = record overlay { real = merge.real }

  abbrev pub changed_filesystem : Filesystem ℕ
  changed_filesystem = record merged { files = merge.files; overlay = Some changed_overlay }

  abbrev pub changed_upper : Filesystem ℕ
  changed_upper = with_files (filesystem_numbered nat_eq world upper.filesystem) merge.upper

  abbrev pub later : World ℕ
  later = with_merge nat_eq world merged overlay upper merge

  pub later_is : with_change nat_eq fresh world location change ≡ later
  later_is = ap (λ o. filesystem_changed nat_eq fresh world merged o change) it.is
      ∙ ap (λ o. overlay_changed nat_eq fresh world merged overlay o change) it.has

  pub plain : (layer : Layer ℕ) → Among (layers_of overlay) layer → is_plain_layer nat_eq world layer ≡ true
  plain layer m = layer_plain world it.conditions number overlay it.is layer (in_list (layers_of overlay) layer m)

  pub apart : upper.filesystem ≢ number
  apart = upper_elsewhere world it.conditions number overlay it.is upper it.has

  pub overlay_later : filesystem_numbered nat_eq later number ≡ changed_filesystem
  overlay_later = filesystem_elsewhere (with_filesystem nat_eq world changed_filesystem) changed_upper number
      (λ e. apart (sym (e ∙ number_of_filesystem world upper.filesystem)))
      ∙ filesystem_there (λ f. f ≡ changed_filesystem) world changed_filesystem number
      (sym (number_of_filesystem world number)) refl (λ no. none_is_some overlay (sym (ap (λ f. f.overlay) no) ∙ it.is))

  pub upper_later : filesystem_numbered nat_eq later upper.filesystem ≡ changed_upper
  upper_later = filesystem_there (λ f. f ≡ changed_upper)
      (with_filesystem nat_eq world changed_filesystem) changed_upper upper.filesystem
      (sym (number_of_filesystem world upper.filesystem)) refl (λ no. absurd (true≢false (sym
      (and_true_right (not (is_overlay (filesystem_numbered nat_eq world upper.filesystem))) _
      (plain upper (subst (λ o. Among (option_to_list o ++ option_to_list overlay.work ++ overlay.lowers) upper)
      (sym it.has) (inl refl)))) ∙ ap (λ f. is_directory_node (f.files.tree.node upper.directory))
      (sym (filesystem_elsewhere world changed_filesystem upper.filesystem
      (λ e. apart (e ∙ number_of_filesystem world number))) ∙ no))))

  -- lower layers lead where they led
  lower_leads : (lower : Layer ℕ) → Lists.Among lower overlay.lowers
      → LeadsAsBefore world (with_change nat_eq fresh world location change) lower
  lower_leads lower m = leads_as_before world it.conditions lower
      lower_plain (with_change nat_eq fresh world location change) (λ inode lies there. by inode lies there _ refl)
    where
      in_layers : Lists.Among lower (layers_of overlay)
      in_layers = among-append_right (upper_and_work overlay) overlay.lowers lower m

      lower_plain : is_plain_layer nat_eq world lower ≡ true
      lower_plain = layer_plain world it.conditions number overlay it.is lower in_layers

      no_overlay : (filesystem_numbered nat_eq world lower.filesystem).overlay ≡ None
      no_overlay = Rattle.vt_laws_trees.proofs.layers.locked.Apart.no_overlay_in world it.conditions lower lower_plain

      by : (inode : ℕ) → lies_or_counts_under nat_eq world lower.filesystem inode lower ≡ true
          → is_some (inode_in world lower.filesystem inode) ≡ true
          → (b : Bool) → nat_eq lower.filesystem upper.filesystem ≡ b → IsKept (inode_in world lower.filesystem inode)
          (inode_in (with_change nat_eq fresh world location change) lower.filesystem inode)
      by inode lies there true e =
          let same = eqb-true lower.filesystem upper.filesystem e in
          subst (λ n. IsKept (inode_in world n inode)
          (inode_in (with_change nat_eq fresh world location change) n inode)) (sym same)
          (upper_filesystem_keeps fresh world location change overlay upper inode it.conditions it.is it.has
          (spoken (stack_of nat_eq world overlay upper) before change
          (Rattle.vt_laws_trees.proofs.layers.layers.UpperWorld.overlay_tree world it.conditions number overlay it.is)
          it.asked) (no_new fresh world upper.filesystem inode (it.none upper.filesystem)
          (subst (λ n. is_some (inode_in world n inode) ≡ true) same there))
          (λ object. no_lower world it.conditions number overlay it.is upper it.has inode object lower
          (layer_among world (λ o. o.lowers) number overlay it.is lower m)
          (subst (λ n. lies_or_counts_under nat_eq world n inode lower ≡ true) same lies)))
      by inode lies there false e = kept_same (inode_in world lower.filesystem inode) _
          (ap (λ f. f.files.tree.node inode) (others_elsewhere fresh world location change lower.filesystem
          (λ s. none_is_some overlay (cc (no_overlay, it.is)))
          (λ o u f g s. true≢false (sym (eq-eqb lower.filesystem upper.filesystem
          (s ∙ ap (λ l. l.filesystem) (same_Some u upper
          (sym g ∙ ap (λ v. v.upper) (same_Some o overlay (sym f ∙ it.is)) ∙ it.has)))) ∙ e))))

  -- so it is what they show
  shown_later : IsWhatIsShown (stack_of nat_eq later changed_overlay upper) merge
  shown_later = shown_alike (open_layer nat_eq world) (open_layer nat_eq later) overlay.lowers
      (λ lower m. subst (λ w. LeadsAsBefore world w lower) later_is
      (lower_leads lower (in_list overlay.lowers lower m))) upper.directory overlay.mounter merge
      (changes_keep_shown fresh (stack_of nat_eq world overlay upper) before change
      (overlays_are_whole world number overlay upper it.conditions it.is it.has) it.distinct
      (λ k. it.none upper.filesystem k) it.asked)

  merge_is : merge_of nat_eq later (filesystem_numbered nat_eq later number) changed_overlay upper ≡ merge
  merge_is = λ i. record { files = (overlay_later i).files; real = merge.real; upper = (upper_later i).files }

  pub later_is_merged : (after : Overlay ℕ)
      → (filesystem_numbered nat_eq (with_change nat_eq fresh world location change) number).overlay ≡ Some after
      → IsMerged nat_eq (with_change nat_eq fresh world location change)
      (filesystem_numbered nat_eq (with_change nat_eq fresh world location change) number) after
  later_is_merged after e =
      let same : changed_overlay ≡ after = same_Some changed_overlay after
      (sym (ap (λ f. f.overlay) overlay_later) ∙ ap (λ w. (filesystem_numbered nat_eq w number).overlay) (sym later_is)
      ∙ e) in
      subst (λ w. IsMerged nat_eq w (filesystem_numbered nat_eq w number) after) (sym later_is)
      (subst (IsMerged nat_eq later (filesystem_numbered nat_eq later number)) same
      (shown_is_merged later (filesystem_numbered nat_eq later number) changed_overlay upper it.has
      (subst (IsWhatIsShown (stack_of nat_eq later changed_overlay upper)) (sym merge_is) shown_later)))

pub changed_overlay_is_merged : ChangedOverlayIsMerged
changed_overlay_is_merged fresh world location change overlay after upper conditions is has distinct none asked e =
    later_is_merged (changing fresh world location change overlay upper conditions is has distinct none asked) after e
