-- Overlaps with layers among which the upper layers of live overlays are.
use Rattle.std.proofs.Common.{◌≡◌, refl, sym, ap, subst, ◌∙◌, ⊎_elim, ℕ, nat_eq, Bool, true, ◌||◌, List, [], ◌++◌, flat_map, Option, None, Some}
use Rattle.vt_spec.proofs.Common.{Among, Filesystem, IsWorld, Layer, Overlay, World, among-append, among-append_left, among-append_right, among-from_filter, among-from_flat_map, and_from, and_true_left, and_true_right, any_among, any_from_among, filesystem_numbered, is_overlay, is_plain_layer, layers_of, lies_in_layer, lies_or_counts_under, list_all_from_among, list_any, live_layers, live_upper_and_work, of_overlay, or_cases, or_left, or_right, overlaps_one_of, overlay_or, overlays, same_truth, upper_and_work}
use Rattle.vt_spec.proofs.Lists.{among_numbers, is_among_numbers}
use Rattle.vt_laws_trees.proofs.layers.locked.Apart.{layer_among, layer_plain, object_counts, upper_in_layers, upper_is_layer}
use Rattle.vt_laws_trees.proofs.overlays.whole.ApartThere.{own_number}
use Rattle.vt_laws_kept.specs.Kept.{kept_in, objects_kept}
use Rattle.vt_laws_kept.specs.Overlaps.{ListsLinked, OverlapsWithLiveAreFound, are_nested, is_in_both, keeps_in_layer, lies_in_both}
use Rattle.vt_laws_kept.proofs.overlaps.Found.{found}
use Rattle.vt_laws_kept.proofs.overlaps.Kept.{in_world, keeps_parts, kept_anywhere, stands_in, stands_where, where_kept}

-- all are directories of plain trees, and the upper layer of each live overlay is among them
pub record HaveUppers (world : World ℕ) (others : List (Layer ℕ)) : Type 0 where
  pub plain : (other : Layer ℕ) → Among other others → is_plain_layer nat_eq world other ≡ true
  pub uppers : (number : ℕ) (overlay : Overlay ℕ) (upper : Layer ℕ)
      → (filesystem_numbered nat_eq world number).overlay ≡ Some overlay → overlay.upper ≡ Some upper
      → Among upper others

module _ (world : World ℕ) (layer : Layer ℕ) (others : List (Layer ℕ)) (inodes : List ℕ)
    (conditions : IsWorld nat_eq world) (plain : is_plain_layer nat_eq world layer ≡ true)
    (have : HaveUppers world others)
    (listed : ListsLinked (filesystem_numbered nat_eq world layer.filesystem).files inodes) where
  abbrev here : ℕ
  here = layer.filesystem

  abbrev lies : ℕ → Layer ℕ → Bool
  lies inode l = lies_in_layer nat_eq world here inode l

  abbrev some_nested : Bool
  some_nested = list_any (are_nested world layer) others

  abbrev some_linked : Bool
  some_linked = list_any (lies_in_both world others layer) inodes

  abbrev some_kept : Bool
  some_kept = list_any (λ inode. lies_in_layer nat_eq world layer.filesystem inode layer) (kept_in world here)

  abbrev all : Bool
  all = (some_nested || some_linked) || some_kept

  by_nested : some_nested ≡ true → all ≡ true
  by_nested e = or_left (some_nested || some_linked) some_kept (or_left some_nested some_linked e)

  by_kept : (inode : ℕ) → Among inode (kept_in world here) → lies inode layer ≡ true → all ≡ true
  by_kept inode m e = or_right (some_nested || some_linked) some_kept
      (any_from_among (λ n. lies n layer) (kept_in world here) inode m e)

  -- the upper layer of the overlay that keeps an object in the layer is nested with it
  by_keeping : (inode : ℕ) → list_any (keeps_in_layer world here inode layer) (overlays world) ≡ true → all ≡ true
  by_keeping inode e =
      let some = any_among (keeps_in_layer world here inode layer) (overlays world) e in
      let merged = some.0 in
      let keeps = keeps_parts here inode merged (and_true_right (stands_in world layer merged) _ some.2) in
      let stands = sym (stands_where world conditions here inode layer merged keeps.overlay keeps.is keeps.upper
      keeps.has)
      ∙ and_true_left (stands_in world layer merged) _ some.2 in
      let itself = own_number world conditions.files.one_filesystem merged
      (in_world world conditions here inode merged some.1) in
      by_nested (any_from_among (are_nested world layer) others keeps.upper
      (have.uppers merged.number keeps.overlay keeps.upper (ap (λ (f : Filesystem ℕ). f.overlay) itself ∙ keeps.is)
      keeps.has)
      (or_right (lies_in_layer nat_eq world layer.filesystem layer.directory keeps.upper) _ stands))

  -- what lies or counts under the layer lies there, or layers are nested
  lies_or_nested : (inode : ℕ) → lies_or_counts_under nat_eq world here inode layer ≡ true
      → (lies inode layer ≡ true → all ≡ true) → all ≡ true
  lies_or_nested inode e with_lies = ⊎_elim with_lies (by_keeping inode)
      (or_cases (lies inode layer) _ (sym (where_kept world conditions here inode layer) ∙ e))

  of_linked : (inode : ℕ) → Among inode inodes → is_in_both world others layer inode ≡ true → all ≡ true
  of_linked inode m both =
      let some = any_among (lies_or_counts_under nat_eq world here inode) others
      (and_true_right (lies_or_counts_under nat_eq world here inode layer) _ both) in
      lies_or_nested inode (and_true_left (lies_or_counts_under nat_eq world here inode layer) _ both) (λ lies_here.
      ⊎_elim (λ lies_there. or_left (some_nested || some_linked) some_kept (or_right some_nested some_linked
      (any_from_among (lies_in_both world others layer) inodes inode m (and_from (lies inode layer) _ lies_here
      (any_from_among (lies inode) others some.0 some.1 lies_there)))))
      (λ kept. by_kept inode (among_numbers (kept_in world here) inode
      (kept_anywhere world conditions here inode some.0 kept)) lies_here)
      (or_cases (lies inode some.0) _ (sym (where_kept world conditions here inode some.0) ∙ some.2)))

  of_kept : (inode : ℕ) → Among inode (kept_in world here) → is_in_both world others layer inode ≡ true → all ≡ true
  of_kept inode m both =
      lies_or_nested inode (and_true_left (lies_or_counts_under nat_eq world here inode layer) _ both) (by_kept inode
      m)

  abbrev in_both : List ℕ → Bool
  in_both list = list_any (is_in_both world others layer) list

  abbrev looked_at : List ℕ
  looked_at = inodes ++ kept_in world here

  forth : (some_nested || in_both looked_at) ≡ true → all ≡ true
  forth e = ⊎_elim by_nested (λ both.
      let some = any_among (is_in_both world others layer) looked_at both in
      ⊎_elim (λ m. of_linked some.0 m some.2) (λ m. of_kept some.0 m some.2)
      (among-append inodes (kept_in world here) some.0 some.1)) (or_cases some_nested (in_both looked_at) e)

  -- a kept object is under the upper layer of its overlay
  kept_under : (inode : ℕ) → Among inode (kept_in world here)
      → list_any (lies_or_counts_under nat_eq world here inode) others ≡ true
  kept_under inode m =
      let from = among-from_flat_map (objects_kept here) world.filesystems inode m in
      let keeps = keeps_parts here inode from.0 (is_among_numbers (objects_kept here from.0) inode from.2) in
      let is = ap (λ (f : Filesystem ℕ). f.overlay)
      (own_number world conditions.files.one_filesystem from.0 from.1) ∙ keeps.is in
      any_from_among (lies_or_counts_under nat_eq world here inode) others keeps.upper
      (have.uppers from.0.number keeps.overlay keeps.upper is keeps.has)
      (subst (λ n. lies_or_counts_under nat_eq world n inode keeps.upper ≡ true) (sym keeps.there)
      (object_counts world conditions from.0.number keeps.overlay is keeps.upper keeps.has inode
      (keeps.inode, keeps.real)))

  lies_under : (inode : ℕ) (l : Layer ℕ) → lies inode l ≡ true → lies_or_counts_under nat_eq world here inode l ≡ true
  lies_under inode l e = or_left (lies inode l) _ e

  linked_back : some_linked ≡ true → in_both looked_at ≡ true
  linked_back e =
      let some = any_among (lies_in_both world others layer) inodes e in
      let other = any_among (lies some.0) others (and_true_right (lies some.0 layer) _ some.2) in
      any_from_among (is_in_both world others layer) looked_at some.0
      (among-append_left inodes (kept_in world here) some.0 some.1)
      (and_from (lies_or_counts_under nat_eq world here some.0 layer) _
      (lies_under some.0 layer (and_true_left (lies some.0 layer) _ some.2))
      (any_from_among (lies_or_counts_under nat_eq world here some.0) others other.0 other.1
      (lies_under some.0 other.0 other.2)))

  kept_back : some_kept ≡ true → in_both looked_at ≡ true
  kept_back e =
      let some = any_among (λ n. lies n layer) (kept_in world here) e in
      any_from_among (is_in_both world others layer) looked_at some.0
      (among-append_right inodes (kept_in world here) some.0 some.1)
      (and_from (lies_or_counts_under nat_eq world here some.0 layer) _ (lies_under some.0 layer some.2)
      (kept_under some.0 some.1))

  back : all ≡ true → (some_nested || in_both looked_at) ≡ true
  back e = ⊎_elim
      (λ first. ⊎_elim (λ n. or_left some_nested (in_both looked_at) n)
      (λ linked. or_right some_nested (in_both looked_at) (linked_back linked)) (or_cases some_nested some_linked
      first))
      (λ kept. or_right some_nested (in_both looked_at) (kept_back kept))
      (or_cases (some_nested || some_linked) some_kept e)

  pub found_over : overlaps_one_of nat_eq world others layer ≡ all
  found_over =
      found world layer others inodes conditions
      (and_from (is_plain_layer nat_eq world layer) _ plain
      (list_all_from_among (is_plain_layer nat_eq world) others have.plain)) listed
      ∙ same_truth (some_nested || in_both looked_at) all forth back

-- The layers of live overlays, and those that changes write to
module _ (world : World ℕ) (conditions : IsWorld nat_eq world) (layers : Overlay ℕ → List (Layer ℕ))
    (among_all : (overlay : Overlay ℕ) (layer : Layer ℕ) → Among layer (layers overlay)
    → Among layer (layers_of overlay)) where
  live_plain : (layer : Layer ℕ)
      → Among layer (flat_map (of_overlay [] layers) (overlays world)) → is_plain_layer nat_eq world layer ≡ true
  live_plain layer m =
      let from = among-from_flat_map (of_overlay [] layers) (overlays world) layer m in
      by from.0 (among-from_filter is_overlay world.filesystems from.0 from.1).0 from.0.overlay refl from.2
    where
      by : (merged : Filesystem ℕ) → Among merged world.filesystems → (o : Option (Overlay ℕ)) → merged.overlay ≡ o
          → Among layer (overlay_or [] layers o) → is_plain_layer nat_eq world layer ≡ true
      by merged n None e in_none = absurd in_none
      by merged n (Some overlay) e in_layers = layer_plain world conditions merged.number overlay
          (ap (λ (f : Filesystem ℕ). f.overlay) (own_number world conditions.files.one_filesystem merged n) ∙ e) layer
          (among_all overlay layer in_layers)

pub overlaps_with_live_are_found : OverlapsWithLiveAreFound live_layers
overlaps_with_live_are_found world layer inodes conditions plain listed =
    found_over world layer (live_layers world) inodes conditions plain (record {
      plain = live_plain world conditions layers_of (λ overlay other m. m);
      uppers = λ number overlay upper is has. layer_among world layers_of number overlay is upper
          (upper_in_layers world conditions number overlay is upper has);
    }) listed

pub overlaps_with_changed_are_found : OverlapsWithLiveAreFound live_upper_and_work
overlaps_with_changed_are_found world layer inodes conditions plain listed =
    found_over world layer (live_upper_and_work world) inodes conditions plain (record {
      plain = live_plain world conditions upper_and_work
          (λ overlay other m. among-append_left (upper_and_work overlay) overlay.lowers other m);
      uppers = λ number overlay upper is has. layer_among world upper_and_work number overlay is upper
          (upper_is_layer world conditions number overlay is upper has);
    }) listed
