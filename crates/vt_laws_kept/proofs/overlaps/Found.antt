-- Layers overlap where directories are nested, or an inode with several names or a kept one is in both.
use Rattle.std.proofs.Common.{◌≡◌, ◌≢◌, refl, sym, ap, subst, ◌∙◌, ◌⊎◌, ⊎_elim, inl, inr, ℕ, nat_eq, eqb-true, eq-eqb, Bool, true, false, cond, not, ◌||◌, List, ◌∷◌, ◌++◌}
use Rattle.vt_spec.proofs.Common.{Among, FileTree, IsWorld, Layer, World, among_from_list_all, and_from, and_true_left, and_true_right, any_among, any_from_among, eqb_tells, filesystem_numbered, has_entry_to, is_among, is_directory_node, is_directory_under, is_file_under, is_overlay, is_plain_layer, is_under, lies_in_layer, lies_or_counts_under, list_all, list_any, or_cases, or_left, or_right, overlaps_one_of, overlays, same_truth}
use Rattle.vt_spec.proofs.Found.{is_among_left, is_among_right}
use Rattle.vt_spec.proofs.Lists.{among_numbers}
use Rattle.vt_laws_trees.specs.Trees.Settling.{inode_in}
use Rattle.vt_laws_trees.proofs.layers.locked.Apart.{lies_there, under_itself}
use Rattle.vt_laws_trees.proofs.layers.locked.Layers.{are_trees, inode_listed}
use Rattle.vt_laws_trees.proofs.overlays.whole.ApartThere.{lying_there}
use Rattle.vt_laws_kept.specs.Kept.{kept_in}
use Rattle.vt_laws_kept.specs.Overlaps.{ListsLinked, OverlapsAreFound, are_nested, is_in_both, keeps_in_layer, names_under}
use Rattle.vt_laws_kept.proofs.overlaps.Kept.{kept_anywhere, where_kept}
use Rattle.vt_laws_kept.proofs.overlaps.Nested.{both_over}

-- by a directory below both, or by one name in each
pub record InTwo (files : FileTree ℕ) (one other inode : ℕ) : Type 0 where
  pub below_one : ℕ
  pub below_other : ℕ
  pub name_in_one : has_entry_to nat_eq files.tree below_one inode ≡ true
  pub name_in_other : has_entry_to nat_eq files.tree below_other inode ≡ true
  pub differ : below_one ≢ below_other

abbrev pub AreNested : FileTree ℕ → ℕ → ℕ → Type 0
AreNested files one other =
    (is_directory_under nat_eq files one other ≡ true) ⊎ (is_directory_under nat_eq files other one ≡ true)

-- what lies under two directories has names in two, or they are nested
pub under_both : (files : FileTree ℕ) (one other inode : ℕ) → is_under nat_eq files one inode ≡ true
    → is_under nat_eq files other inode ≡ true → AreNested files one other ⊎ InTwo files one other inode
under_both files one other inode g h = by (is_directory_node (files.tree.node inode)) g h
  where
    by : (b : Bool) → cond b (is_directory_under nat_eq files one inode) (is_file_under nat_eq files one inode) ≡ true
        → cond b (is_directory_under nat_eq files other inode) (is_file_under nat_eq files other inode) ≡ true
        → AreNested files one other ⊎ InTwo files one other inode
    by true g h = inl (both_over files one other inode g h)
    by false g h =
        let a = any_among (names_under files one inode) files.numbers g in
        let b = any_among (names_under files other inode) files.numbers h in
        let under_a = and_true_right (has_entry_to nat_eq files.tree a.0 inode) _ a.2 in
        let under_b = and_true_right (has_entry_to nat_eq files.tree b.0 inode) _ b.2 in
        ⊎_elim (λ same. inl (both_over files one other a.0 under_a
        (subst (λ n. is_directory_under nat_eq files other n ≡ true) (sym same.1) under_b)))
        (λ differ. inr (record {
          below_one = a.0;
          below_other = b.0;
          name_in_one = and_true_left _ _ a.2;
          name_in_other = and_true_left _ _ b.2;
          differ = differ.1;
        })) (eqb_tells a.0 b.0)

module _ (world : World ℕ) (layer : Layer ℕ) (others : List (Layer ℕ)) (inodes : List ℕ)
    (conditions : IsWorld nat_eq world)
    (plain : list_all (is_plain_layer nat_eq world) (layer ∷ others) ≡ true)
    (listed : ListsLinked (filesystem_numbered nat_eq world layer.filesystem).files inodes) where
  abbrev here : ℕ
  here = layer.filesystem

  abbrev files : FileTree ℕ
  files = (filesystem_numbered nat_eq world layer.filesystem).files

  plain_layer : is_plain_layer nat_eq world layer ≡ true
  plain_layer = and_true_left _ _ plain

  plain_other : (other : Layer ℕ) → Among other others → is_plain_layer nat_eq world other ≡ true
  plain_other = among_from_list_all (is_plain_layer nat_eq world) others (and_true_right _ _ plain)

  directory_of : (l : Layer ℕ) → is_plain_layer nat_eq world l ≡ true
      → is_directory_node (inode_in world l.filesystem l.directory) ≡ true
  directory_of l p = and_true_right (not (is_overlay (filesystem_numbered nat_eq world l.filesystem))) _ p

  -- a layer's directory lies under the layer
  own : (l : Layer ℕ) → is_plain_layer nat_eq world l ≡ true
      → lies_or_counts_under nat_eq world l.filesystem l.directory l ≡ true
  own l p = or_left _ _ (and_from _ _ (eq-eqb l.filesystem l.filesystem refl)
      (under_itself (filesystem_numbered nat_eq world l.filesystem).files l.directory (directory_of l p)))

  -- some inode is in both
  overlap_by : (inode : ℕ) → lies_or_counts_under nat_eq world here inode layer ≡ true → (other : Layer ℕ)
      → Among other others → lies_or_counts_under nat_eq world here inode other ≡ true
      → overlaps_one_of nat_eq world others layer ≡ true
  overlap_by inode g other m h = any_from_among (is_in_both world others layer) files.numbers inode
      (inode_listed world (are_trees world conditions.files) here inode
      (lying_there world (are_trees world conditions.files) conditions.overlays layer plain_layer here inode g))
      (and_from _ _ g (any_from_among (lies_or_counts_under nat_eq world here inode) others other m h))

  nested_overlap : (other : Layer ℕ) → Among other others → are_nested world layer other ≡ true
      → overlaps_one_of nat_eq world others layer ≡ true
  nested_overlap other m e = ⊎_elim
      (λ lies. overlap_by layer.directory (own layer plain_layer) other m (or_left _ _ lies))
      (λ lies.
      let same = lies_there world other.directory other.filesystem layer (or_left _ _ lies) in
      overlap_by other.directory
      (subst (λ n. lies_or_counts_under nat_eq world n other.directory layer ≡ true) same (or_left _ _ lies)) other m
      (subst (λ n. lies_or_counts_under nat_eq world n other.directory other
      ≡ true) same (own other (plain_other other m))))
      (or_cases (lies_in_layer nat_eq world layer.filesystem layer.directory other) _ e)

  -- two layers' directories, one of which lies under the other, are nested
  nested : (other : Layer ℕ) → Among other others → other.filesystem ≡ here
      → AreNested files layer.directory other.directory
      → are_nested world layer other ≡ true
  nested other m same one = ⊎_elim (λ below. or_right _ _ (and_from _ _ (eq-eqb other.filesystem here same)
      (ap (λ b. cond b (is_directory_under nat_eq (filesystem_numbered nat_eq world other.filesystem).files
      layer.directory
      other.directory) (is_file_under nat_eq (filesystem_numbered nat_eq world other.filesystem).files layer.directory
      other.directory)) (directory_of other (plain_other other m))
      ∙ subst (λ n. is_directory_under nat_eq (filesystem_numbered nat_eq world n).files layer.directory
      other.directory
      ≡ true) (sym same) below)))
      (λ above. or_left _ _ (and_from _ _ (eq-eqb here other.filesystem (sym same))
      (ap (λ b. cond b (is_directory_under nat_eq files other.directory layer.directory)
      (is_file_under nat_eq files other.directory layer.directory)) (directory_of layer plain_layer) ∙ above))) one

  -- what lies in both has names in two directories, or the layers are nested
  lies_in_both : (inode : ℕ) (other : Layer ℕ) → Among other others
      → lies_in_layer nat_eq world here inode layer ≡ true → lies_in_layer nat_eq world here inode other ≡ true
      → (are_nested world layer other ≡ true) ⊎ (is_among nat_eq inode inodes ≡ true)
  lies_in_both inode other m g h =
      let same = sym (eqb-true here other.filesystem (and_true_left _ _ h)) in
      ⊎_elim (λ one. inl (nested other m same one))
      (λ two. inr (listed two.below_one two.below_other inode two.differ two.name_in_one two.name_in_other))
      (under_both files layer.directory other.directory inode
      (and_true_right (nat_eq here layer.filesystem) _ g) (and_true_right (nat_eq here other.filesystem) _ h))

  abbrev some_nested : Bool
  some_nested = list_any (are_nested world layer) others

  abbrev looked_at : List ℕ
  looked_at = inodes ++ kept_in world layer.filesystem

  abbrev some_in_both : Bool
  some_in_both = list_any (is_in_both world others layer) looked_at

  -- an inode in both is looked at, or the layers are nested
  in_both : (inode : ℕ) → is_in_both world others layer inode ≡ true → (some_nested || some_in_both) ≡ true
  in_both inode both =
      let with_other = any_among (lies_or_counts_under nat_eq world here inode) others
      (and_true_right (lies_or_counts_under nat_eq world here inode layer) _ both) in
      let other = with_other.0 in
      let there : is_among nat_eq inode looked_at ≡ true → (some_nested || some_in_both) ≡ true = λ m.
      or_right some_nested some_in_both
      (any_from_among (is_in_both world others layer) looked_at inode (among_numbers looked_at inode m) both) in
      let kept : (l : Layer ℕ) → list_any (keeps_in_layer world here inode l) (overlays world) ≡ true
      → (some_nested || some_in_both) ≡ true = λ l k.
      there (is_among_right inode inodes (kept_in world here) (kept_anywhere world conditions here inode l k)) in
      ⊎_elim (λ g. ⊎_elim (λ h. ⊎_elim
      (λ n. or_left some_nested some_in_both (any_from_among (are_nested world layer) others other with_other.1 n))
      (λ m. there (is_among_left inode inodes (kept_in world here) m)) (lies_in_both inode other with_other.1 g h))
      (kept other) (or_cases (lies_in_layer nat_eq world here inode other) _
      (sym (where_kept world conditions here inode other) ∙ with_other.2)))
      (kept layer) (or_cases (lies_in_layer nat_eq world here inode layer) _
      (sym (where_kept world conditions here inode layer)
      ∙ and_true_left (lies_or_counts_under nat_eq world here inode layer) _ both))

  pub found : overlaps_one_of nat_eq world others layer ≡ (some_nested || some_in_both)
  found = same_truth (overlaps_one_of nat_eq world others layer) (some_nested || some_in_both) forth back
    where
      forth : overlaps_one_of nat_eq world others layer ≡ true → (some_nested || some_in_both) ≡ true
      forth e =
          let some = any_among (is_in_both world others layer) files.numbers e in in_both some.0 some.2

      back : (some_nested || some_in_both) ≡ true → overlaps_one_of nat_eq world others layer ≡ true
      back e = ⊎_elim
          (λ n. let some = any_among (are_nested world layer) others n in nested_overlap some.0 some.1 some.2)
          (λ b.
          let some = any_among (is_in_both world others layer) looked_at b in
          let with_other = any_among (lies_or_counts_under nat_eq world here some.0) others
          (and_true_right (lies_or_counts_under nat_eq world here some.0 layer) _ some.2) in
          overlap_by some.0 (and_true_left (lies_or_counts_under nat_eq world here some.0 layer) _ some.2)
          with_other.0 with_other.1 with_other.2) (or_cases some_nested some_in_both e)

pub overlaps_are_found : OverlapsAreFound
overlaps_are_found = found
