-- The inodes in use of a filesystem that a set of tasks uses alone are those in use in the part.
use Rattle.std.proofs.Common.{arith, ◌≡◌, sym, ap, subst, ◌∙◌, inl, inr, ⊎_elim, ℕ, nat_eq, Bool, true, cond, List, [], ◌++◌, Option, Some, None, filter, flat_map, map, eq-eqb, eqb-true, filter_map}
use Rattle.vt_spec.proofs.Common.{Among, Filesystem, Layer, Location, Mount, Overlay, Task, TaskName, World, all_locations, among-append, among-append_left, among-append_right, among-filter, among-filter_map, among-flat_map, among-from_filter, among-from_filter_map, among-from_flat_map, among-from_map, among-map, among_numbers, any_among, common_steps, has_layer_on, holds_of, is_among, is_among_numbers, is_at, is_member_task, layers_in, layers_of, list_any, located_in, locations_of, members, mount_at, named_in, none_is_some, objects_of_overlay, of_overlay, or_left, overlay_or, own_lowers, part_of, part_of_filesystem, root_of, roots_and_directories, same_Some, same_truth, upper_object, used_filesystems, used_in}
use Rattle.vt_laws_members.proofs.Common.{OneNumberEach, found_itself, is_own, keep, kept_how, kept_whole, located, lower_of, shown_how, used_directly_used}
use Rattle.vt_laws_members.proofs.changes.letting_go.Gone.{sees_itself}
use Rattle.vt_laws_members.proofs.changes.letting_go.Ready.{Alone, OverlaysMounted, Ready, layered_overlay, mount_is, overlay_used, seen_alone}
use Rattle.vt_laws_members.proofs.judging.Common.{has_layer}

-- a location of a task, the root of a mount, or a mount point
pub data IsPlace (b : World ℕ) (l : Location ℕ) : Type 0 where
  by_task : Among l (all_locations b) → IsPlace b l
  by_root : (m : Mount ℕ) → Among m b.mounts → l ≡ root_of m → IsPlace b l
  by_point : (m : Mount ℕ) → Among m b.mounts → m.mount_point ≡ Some l → IsPlace b l

-- why an inode of a filesystem is in use
pub data IsUsed (b : World ℕ) (x : Filesystem ℕ) (object : ℕ) : Type 0 where
  as_root : object ≡ x.files.tree.root → IsUsed b x object
  by_name : Among object (named_in x.files) → IsUsed b x object
  by_place : (l : Location ℕ) → IsPlace b l → (mount_at nat_eq b l).filesystem ≡ x.number → object ≡ l.node
      → IsUsed b x object
  by_layer : (merged : Filesystem ℕ) (layer : Layer ℕ) → Among merged b.filesystems
      → Among layer (of_overlay [] layers_of merged) → nat_eq x.number layer.filesystem ≡ true
      → object ≡ layer.directory → IsUsed b x object
  by_object : (merged : Filesystem ℕ) → Among merged b.filesystems
      → Among object (objects_of_overlay nat_eq x.number merged) → IsUsed b x object

module _ (b : World ℕ) (x : Filesystem ℕ) (object : ℕ) where
  abbrev roots : List (Location ℕ)
  roots = map root_of b.mounts

  abbrev points : List (Location ℕ)
  points = filter_map (λ (m : Mount ℕ). m.mount_point) b.mounts

  abbrev within : Location ℕ → Bool
  within l = nat_eq x.number (mount_at nat_eq b l).filesystem

  abbrev places : List (Location ℕ)
  places = all_locations b ++ roots ++ points

  abbrev named : List ℕ
  named = named_in x.files

  abbrev placed : List ℕ
  placed = located_in nat_eq b x.number

  abbrev layers : List ℕ
  layers = layers_in nat_eq b x.number

  abbrev objects : List ℕ
  objects = flat_map (objects_of_overlay nat_eq x.number) b.filesystems

  abbrev all_layers : List (Layer ℕ)
  all_layers = flat_map (of_overlay [] layers_of) b.filesystems

  abbrev on_it : Layer ℕ → Bool
  on_it layer = nat_eq x.number layer.filesystem

  place : (l : Location ℕ) → Among l places → IsPlace b l
  place l m = ⊎_elim (λ two. ⊎_elim (λ task. by_task task) (λ root. let at = among-from_map root_of _ l root in by_root
      at.0 at.1 at.2) (among-append (all_locations b) roots l two)) (λ point. let at = among-from_filter_map
      (λ (k : Mount ℕ). k.mount_point) b.mounts l point in
      by_point at.0 at.1 at.2) (among-append (all_locations b ++ roots) points l m)

  from_placed : Among object placed → IsUsed b x object
  from_placed m =
      let at = among-from_map (λ (l : Location ℕ). l.node) (filter within places) object m in
      let on = among-from_filter within places at.0 at.1 in
      by_place at.0 (place at.0 on.0) (sym (eqb-true x.number (mount_at nat_eq b at.0).filesystem on.1)) at.2

  from_layers : Among object layers → IsUsed b x object
  from_layers m =
      let at = among-from_map (λ (layer : Layer ℕ). layer.directory) (filter on_it all_layers) object m in
      let on = among-from_filter on_it all_layers at.0 at.1 in
      let of = among-from_flat_map (of_overlay [] layers_of) b.filesystems at.0 on.0 in
      by_layer of.0 at.0 of.1 of.2 on.1 at.2

  pub why : Among object (used_in nat_eq b x) → IsUsed b x object
  why m = ⊎_elim (λ root. as_root root) (λ more. ⊎_elim (λ three. ⊎_elim (λ two. ⊎_elim (λ n. by_name n) from_placed
      (among-append named placed object two)) from_layers (among-append (named ++ placed) layers object three))
      (λ o. let of = among-from_flat_map _ b.filesystems object o in
      by_object of.0 of.1 of.2) (among-append (named ++ placed ++ layers) objects object more)) m

  to_place : (l : Location ℕ) → IsPlace b l → Among l places
  to_place l known = grind (arith, common_steps, among-append_left, among-append_right, among-map, among-filter_map)

  in_four : Among object (named ++ placed ++ layers ++ objects) → Among object (used_in nat_eq b x)
  in_four m = inr m

  pub used : IsUsed b x object → Among object (used_in nat_eq b x)
  used (as_root e) = inl e
  used (by_name m) = in_four (among-append_left (named ++ placed ++ layers) objects object
      (among-append_left (named ++ placed) layers object (among-append_left named placed object m)))
  used (by_place l at on e) = in_four (among-append_left (named ++ placed ++ layers) objects object
      (among-append_left (named ++ placed) layers object (among-append_right named placed object
      (rw e (among-map (λ (p : Location ℕ). p.node) (filter within places) l
      (among-filter within places l (to_place l at) (eq-eqb x.number (mount_at nat_eq b l).filesystem (sym on))))))))
  used (by_layer merged layer m n on e) = in_four (among-append_left (named ++ placed ++ layers) objects object
      (among-append_right (named ++ placed) layers object (rw e (among-map (λ (l : Layer ℕ). l.directory)
      (filter on_it all_layers) layer (among-filter on_it all_layers layer
      (among-flat_map (of_overlay [] layers_of) b.filesystems merged layer m n) on)))))
  used (by_object merged m o) = in_four (among-append_right (named ++ placed ++ layers) objects object
      (among-flat_map (objects_of_overlay nat_eq x.number) b.filesystems merged object m o))

-- an overlay with objects in a filesystem has a layer there
objects_layered : (number object : ℕ) (merged : Filesystem ℕ) → Among object (objects_of_overlay nat_eq number merged)
    → has_layer_on nat_eq number merged ≡ true
objects_layered number object merged = grind (arith, common_steps, or_left)

module _ {a : World ℕ} {set : List TaskName} {used_now : List ℕ} {lowers : List (Layer ℕ)}
    (it : Ready a set used_now lowers) (one_in_part : OneNumberEach (part_of nat_eq a set)) where
  abbrev part : World ℕ
  part = part_of nat_eq a set

  abbrev theirs : List (Task ℕ)
  theirs = members a set

  abbrev kept : Mount ℕ → Option (Mount ℕ)
  kept = keep a set theirs

  abbrev owns : Mount ℕ → Bool
  owns = is_own a set theirs

  same_of : (m y : Mount ℕ) → kept m ≡ Some y
      → (y.number ≡ m.number) × (y.filesystem ≡ m.filesystem) × (root_of y ≡ root_of m)
  same_of m y e = grind (arith, common_steps, kept_how)

  in_part : (m y : Mount ℕ) → Among m a.mounts → kept m ≡ Some y → Among y part.mounts
  in_part m y n e = among-filter_map kept a.mounts m y n e

  at_part : (y : Mount ℕ) → Among y part.mounts → (l : Location ℕ) → l.mount ≡ y.number → mount_at nat_eq part l ≡ y
  at_part y n l e = cc (found_itself part.mounts one_in_part y n)

  own_whole : (m : Mount ℕ) → owns m ≡ true → kept m ≡ Some m
  own_whole m own = kept_whole a set theirs m (or_left (owns m) (is_at nat_eq (roots_and_directories theirs) m) own)

  -- on a mount of theirs with a mount point
  own_by : (m k : Mount ℕ) (n : ℕ) → m.namespace ≡ Some n → k.namespace ≡ Some n → owns m ≡ true → owns k ≡ true
  own_by m k n e f own = cc

  shown_used : (x : Filesystem ℕ) → Among x a.filesystems → is_among nat_eq x.number
      (used_filesystems nat_eq a set) ≡ true → Among x part.filesystems
  shown_used x m e = among-filter_map (part_of_filesystem nat_eq a set) a.filesystems x x m (cc)

  -- a mount with a mount point is kept whole, if at all, and is theirs
  with_point : (m y : Mount ℕ) (l : Location ℕ) → Among m a.mounts → kept m ≡ Some y → y.mount_point ≡ Some l
      → (m ≡ y) × (owns m ≡ true)
  with_point m y l n e point = grind (arith, common_steps, same_Some, own_whole, none_is_some)

  -- a tree that is shown by lower layers alone is plain
  pub lower_plain : (z : Filesystem ℕ) → Among z a.filesystems
      → list_any (λ (layer : Layer ℕ). nat_eq z.number layer.filesystem) (own_lowers nat_eq a set) ≡ true
      → z.overlay ≡ None
  lower_plain z m low =
      let at = any_among (λ (layer : Layer ℕ). nat_eq z.number layer.filesystem) (own_lowers nat_eq a set) low in
      let of = lower_of a a set (sees_itself a set) at.0 at.1 in
      it.plain z of.0 m of.1 (has_layer z.number of.0 at.0 of.3 at.2)

  module _ (mounted : OverlaysMounted a set) (x : Filesystem ℕ) (alone : Alone a set x.number) (object : ℕ) where
    merged_there : (merged : Filesystem ℕ) → Among merged a.filesystems → has_layer_on nat_eq x.number merged ≡ true
        → Among merged part.filesystems
    merged_there merged m has = shown_used merged m (used_directly_used a set _ (overlay_used a set used_now lowers it
        mounted merged m (layered_overlay x.number merged has) (alone.overlays merged m has)))

    to_part : IsUsed a x object → IsUsed part x object
    to_part (as_root e) = as_root e
    to_part (by_name m) = by_name m
    to_part (by_place l (by_task m) on e) =
        let its = alone.itself.locations l m on in
        by_place l (by_task its) (located a set l its ∙ on) e
    to_part (by_place l (by_root m n r) on e) =
        let shows : m.filesystem ≡ x.number = cc (mount_is a set used_now lowers it m n l (cc)) in
        let shown = (seen_alone a set used_now lowers it x.number alone.itself m n shows).0 in
        let same = same_of m shown.0 shown.1 in
        let there = in_part m shown.0 n shown.1 in
        by_place l (by_root shown.0 there (cc)) (cc (
          at_part shown.0 there l (cc),
          same.1,
        )) e
    to_part (by_place l (by_point m n point) on e) =
        let up = it.parents m l n point in
        let at : mount_at nat_eq a l ≡ up.2 = mount_is a set used_now lowers it up.2 up.3 l up.4 in
        ⊎_elim (λ own. let child = own_by up.2 m up.0 up.5 up.1 own in by_place l
        (by_point m (in_part m m n (own_whole m child)) point) (cc (at_part up.2
        (in_part up.2 up.2 up.3 (own_whole up.2 own)) l up.4)) e) (λ nowhere. none_is_some up.0 (cc up.5))
        (alone.itself.mounts up.2 up.3 (cc))
    to_part (by_layer merged layer m n on e) =
        by_layer merged layer (merged_there merged m (has_layer x.number merged layer n on)) n on e
    to_part (by_object merged m o) = by_object merged (merged_there merged m (objects_layered _ object merged o)) o

    from_part : IsUsed part x object → IsUsed a x object
    from_part (as_root e) = as_root e
    from_part (by_name m) = by_name m
    from_part (by_place l (by_task m) on e) =
        let of = among-from_flat_map locations_of theirs l m in
        by_place l (by_task (among-flat_map locations_of a.tasks of.0 l
        (among-from_filter (is_member_task set) a.tasks of.0 of.1).0 of.2)) (sym (located a set l m) ∙ on) e
    from_part (by_place l (by_root y n r) on e) =
        let from = among-from_filter_map kept a.mounts y n in
        let same = same_of from.0 y from.2 in
        let shows : y.filesystem ≡ x.number =
        ap (λ (k : Mount ℕ). k.filesystem) (sym (at_part y n l (ap (λ (p : Location ℕ). p.mount) r))) ∙ on in
        by_place l (by_root from.0 from.1 (r ∙ same.2)) (ap (λ (k : Mount ℕ). k.filesystem)
        (mount_is a set used_now lowers it from.0 from.1 l (ap (λ (p : Location ℕ). p.mount) (r ∙ same.2)))
        ∙ sym same.1 ∙ shows) e
    from_part (by_place l (by_point y n point) on e) =
        let from = among-from_filter_map kept a.mounts y n in
        let whole = with_point from.0 y l from.1 from.2 point in
        let its : from.0.mount_point ≡ Some l = ap (λ (k : Mount ℕ). k.mount_point) whole.0 ∙ point in
        let up = it.parents from.0 l from.1 its in
        let own : owns up.2 ≡ true = own_by from.0 up.2 up.0 up.1 up.5 whole.1 in
        by_place l (by_point from.0 from.1 its) (ap (λ (k : Mount ℕ). k.filesystem)
        (mount_is a set used_now lowers it up.2 up.3 l up.4
        ∙ sym (at_part up.2 (in_part up.2 up.2 up.3 (own_whole up.2 own)) l up.4)) ∙ on) e
    from_part (by_layer merged layer m n on e) =
        let from = among-from_filter_map (part_of_filesystem nat_eq a set) a.filesystems merged m in
        by_layer from.0 layer from.1
        (⊎_elim (λ whole. subst (λ (f : Filesystem ℕ). Among layer (of_overlay [] layers_of f)) (sym whole.0) n)
        (λ low. subst (λ (f : Filesystem ℕ). Among layer (of_overlay [] layers_of f)) (sym low.0) n)
        (shown_how a set from.0 merged from.2)) on e
    from_part (by_object merged m o) =
        let from = among-from_filter_map (part_of_filesystem nat_eq a set) a.filesystems merged m in
        ⊎_elim (λ whole. by_object from.0 from.1
        (subst (λ (f : Filesystem ℕ). Among object (objects_of_overlay nat_eq x.number f)) (sym whole.0) o))
        (λ low. absurd (subst (λ p. Among object (overlay_or [] (λ (overlay : Overlay ℕ).
        cond (holds_of (λ (layer : Layer ℕ). nat_eq x.number layer.filesystem) overlay.upper)
        (filter_map (λ k. upper_object (overlay.real k)) merged.files.numbers) []) p))
        (ap (λ (f : Filesystem ℕ). f.overlay) (sym low.0) ∙ lower_plain from.0 from.1 low.2) o))
        (shown_how a set from.0 merged from.2)

    pub used_alike : is_among nat_eq object (used_in nat_eq a x) ≡ is_among nat_eq object (used_in nat_eq part x)
    used_alike =
        same_truth (is_among nat_eq object (used_in nat_eq a x)) (is_among nat_eq object (used_in nat_eq part x))
        (λ h. is_among_numbers (used_in nat_eq part x) object
        (used part x object (to_part (why a x object (among_numbers (used_in nat_eq a x) object h)))))
        (λ h. is_among_numbers (used_in nat_eq a x) object
        (used a x object (from_part (why part x object (among_numbers (used_in nat_eq part x) object h)))))
