-- The inodes of a filesystem that a sealed set uses are in use, where the set sees the same.
use Rattle.std.proofs.Common.{arith, ◌≡◌, refl, sym, ap, subst, ◌∙◌, inl, inr, ⊎_elim, ℕ, nat_eq, Bool, true, false, true≢false, List, [], ◌++◌, Option, Some, None, flat_map, is_some, map, not, ◌&&◌, ◌||◌, eq-eqb, eqb-true, filter_map}
use Rattle.vt_spec.proofs.Common.{Among, Filesystem, Layer, Location, Mount, Overlay, Stands, Task, TaskName, World, all_locations, all_named, among-append, among-append_left, among-append_right, among-filter, among-filter_map, among-flat_map, among-from_filter, among-from_filter_map, among-from_flat_map, among-from_map, among-map, among_from_all, among_from_list_all, among_numbers, and_parts, any_among, any_from_among, common_steps, filesystem_numbered, found_or_none, has_layer_on, holds_of, is_among, is_among_numbers, is_located, is_lower_root, is_member_task, is_overlay, is_own_namespace, is_private, layers_in, layers_of, list_all, list_all_from_among, list_any, located_in, locations, locations_of, members, mount_at, mount_in, mount_lives, mount_numbered, named_in, no_outsider_on, none_is_some, not-true, number-mount_in, objects_of_overlay, of_overlay, only_used, only_used_by, or_cases, or_left, other_mounts, outsiders, overlay_or, overlays, own_mounts, root_of, sealed, used_alone, used_filesystems, used_in, wholly_locked}
use Rattle.vt_laws_sealed.proofs.Common.{OneNumberEach, all_in_use, found_filesystem, found_itself, namespace_below}
use Rattle.vt_laws_sealed.specs.Part.Parts.{SeesTheSame}
use Rattle.vt_laws_sealed.specs.Part.Seals.{IsApart}
use Rattle.vt_laws_sealed.proofs.part.part.PartOfPart.{is_own, keep, kept_whole, located}
use Rattle.vt_laws_sealed.proofs.part.seals.ByPart.{overlay_without_others, used_are_free}
use Rattle.vt_laws_sealed.proofs.outsiders.SeenLater.{shown_at, there_later, own_later, used_later}

-- what is in one of three or four lists
module _ {A : Type 0} (a b c : List A) (x : A) where
  pub in_first : Among x a → Among x (a ++ b ++ c)
  in_first m = among-append_left (a ++ b) c x (among-append_left a b x m)

  pub in_second : Among x b → Among x (a ++ b ++ c)
  in_second m = among-append_left (a ++ b) c x (among-append_right a b x m)

  pub in_third : Among x c → Among x (a ++ b ++ c)
  in_third m = among-append_right (a ++ b) c x m

-- The inodes of a filesystem that they use are used there, too.
module _ {world later : World ℕ} {names : List TaskName} (apart : IsApart world names)
    (sealed_off : sealed nat_eq world names ≡ true) (sees : SeesTheSame world later names) (one : OneNumberEach later)
    (x : Filesystem ℕ) where
  abbrev IsUsed : ℕ → Type 0
  IsUsed object = Among object (used_in nat_eq later x)

  abbrev of_overlays : List ℕ
  of_overlays = flat_map (objects_of_overlay nat_eq x.number) later.filesystems

  name_is_used : (object : ℕ) → Among object (named_in x.files) → IsUsed object
  name_is_used object m = grind (arith, common_steps, among-append_left, in_first)

  located_is_used : (object : ℕ) → Among object (located_in nat_eq later x.number) → IsUsed object
  located_is_used object m = grind (arith, common_steps, among-append_left, in_second)

  layer_is_used : (object : ℕ) → Among object (layers_in nat_eq later x.number) → IsUsed object
  layer_is_used object m = grind (arith, common_steps, among-append_left, in_third)

  object_is_used : (object : ℕ) → Among object of_overlays → IsUsed object
  object_is_used object m =
      inr (among-append_right (named_in x.files ++ located_in nat_eq later x.number ++ layers_in nat_eq later x.number)
      of_overlays object m)

  module _ (alone : used_alone nat_eq world names x.number ≡ true) where
    abbrev parts_alone : (no_outsider_on nat_eq world names x.number ≡ true)
        × (list_all (λ merged. not (has_layer_on nat_eq x.number merged)
        || no_outsider_on nat_eq world names merged.number) (overlays world) ≡ true)
    parts_alone = and_parts (no_outsider_on nat_eq world names x.number)
        (list_all (λ merged. not (has_layer_on nat_eq x.number merged)
        || no_outsider_on nat_eq world names merged.number) (overlays world)) alone

    abbrev nobody : (list_any (λ (mount : Mount ℕ). nat_eq x.number mount.filesystem) (other_mounts nat_eq world names)
        ≡ false) × (list_any (λ location. nat_eq x.number (mount_at nat_eq world location).filesystem)
        (locations (outsiders world names)) ≡ false)
    nobody =
        let both = and_parts (not (list_any (λ (mount : Mount ℕ). nat_eq x.number mount.filesystem)
        (other_mounts nat_eq world names)))
        (not (list_any (λ location. nat_eq x.number (mount_at nat_eq world location).filesystem)
        (locations (outsiders world names)))) parts_alone.0 in
        (not-true _ both.0, not-true _ both.1)

    no_other_mount : (mount : Mount ℕ) → Among mount (other_mounts nat_eq world names) → mount.filesystem ≡ x.number → ⊥
    no_other_mount mount m e = true≢false (sym (any_from_among (λ (y : Mount ℕ). nat_eq x.number y.filesystem)
        (other_mounts nat_eq world names) mount m (eq-eqb x.number mount.filesystem (sym e))) ∙ nobody.0)

    no_other_location : (location : Location ℕ) → Among location (locations (outsiders world names))
        → (mount_at nat_eq world location).filesystem ≡ x.number → ⊥
    no_other_location location m e = grind (arith, common_steps, true≢false, any_from_among, eq-eqb)

    -- a location on it is of a member
    of_member : (location : Location ℕ) → Among location (all_locations world)
        → (mount_at nat_eq world location).filesystem ≡ x.number → Among location (locations (members world names))
    of_member location m e =
        let of = among-from_flat_map locations_of world.tasks location m in
        by of.0 of.1 of.2 (is_member_task names of.0) refl
      where
        by : (task : Task ℕ) → Among task world.tasks → Among location (locations_of task)
            → (b : Bool) → is_member_task names task ≡ b → Among location (locations (members world names))
        by task t at true member = among-flat_map locations_of _ task location (among-filter _ _ task t member) at
        by task t at false member = absurd (no_other_location location (among-flat_map locations_of _ task location
            (among-filter (λ (y : Task ℕ). not (is_member_task names y)) world.tasks task t (ap not member)) at) e)

    abbrev places_later : List (Location ℕ)
    places_later = all_locations later ++ map root_of later.mounts
        ++ filter_map (λ (mount : Mount ℕ). mount.mount_point) later.mounts

    abbrev points_later : List (Location ℕ)
    points_later = filter_map (λ (mount : Mount ℕ). mount.mount_point) later.mounts

    located_used : (location : Location ℕ) → Among location places_later
        → (mount_at nat_eq later location).filesystem ≡ x.number → IsUsed location.node
    located_used location m e = located_is_used location.node (among-map (λ (l : Location ℕ). l.node) _ location
        (among-filter _ places_later location m (eq-eqb x.number (mount_at nat_eq later location).filesystem (sym e))))

    by_task : (location : Location ℕ) → Among location (all_locations world)
        → (mount_at nat_eq world location).filesystem ≡ x.number → IsUsed location.node
    by_task location m e =
        let theirs = of_member location m e in
        let theirs_later : Among location (locations (members later names)) =
        subst (λ tasks. Among location (locations tasks)) (sym sees.tasks) theirs in
        let of = among-from_flat_map locations_of (members later names) location theirs_later in
        located_used location (in_first (all_locations later) _ points_later location
        (among-flat_map locations_of later.tasks of.0 location (among-from_filter (is_member_task names) later.tasks
        of.0 of.1).0 of.2)) (sym (located later names location theirs_later) ∙ ap
        (λ ms. (mount_in nat_eq ms location.mount).filesystem) sees.mounts ∙ located world names location theirs ∙ e)

    -- a mount of it is in the part
    shown_mount : (mount : Mount ℕ) → Among mount world.mounts → mount.filesystem ≡ x.number
        → (shown : Mount ℕ) × (keep world names (members world names) mount ≡ Some shown)
    shown_mount mount m e = by mount.namespace refl
      where
        by : (o : Option ℕ) → mount.namespace ≡ o
            → (shown : Mount ℕ) × (keep world names (members world names) mount ≡ Some shown)
        by None none =
            let located_there = any_among (λ (l : Location ℕ). nat_eq mount.number l.mount) (all_locations world)
            (sym (ap (λ o. is_some o || is_located nat_eq world mount.number) none)
            ∙ among_from_list_all (mount_lives nat_eq world) world.mounts (all_in_use world apart.is).mounts mount m) in
            let shows : (mount_at nat_eq world located_there.0).filesystem ≡ x.number =
            ap (λ n. (mount_numbered nat_eq world n).filesystem)
            (sym (eqb-true mount.number located_there.0.mount located_there.2))
            ∙ ap (λ (y : Mount ℕ). y.filesystem) (found_itself world.mounts apart.is.mounts.one_number mount m) ∙ e in
            shown_at world names mount (any_from_among _ (locations (members world names)) located_there.0
            (of_member located_there.0 located_there.1 shows) (eq-eqb located_there.0.mount mount.number
            (sym (eqb-true mount.number located_there.0.mount located_there.2))))
        by (Some n) placed = which (is_own_namespace nat_eq world names n) refl
          where
            which : (b : Bool) → is_own_namespace nat_eq world names n ≡ b
                → (shown : Mount ℕ) × (keep world names (members world names) mount ≡ Some shown)
            which true own = (
              mount,
              kept_whole world names (members world names) mount
                  (or_left (is_own world names (members world names) mount) _
                  (ap (holds_of (is_own_namespace nat_eq world names)) placed ∙ own)),
            )
            which false other = absurd (no_other_mount mount (among-filter _ world.mounts mount m
                (ap (holds_of (λ k. not (is_own_namespace nat_eq world names k))) placed ∙ ap not other)) e)

    by_root : (mount : Mount ℕ) → Among mount world.mounts → mount.filesystem ≡ x.number → IsUsed mount.root
    by_root mount m e =
        let shown = shown_mount mount m e in
        let at = there_later world later names sees mount shown.0 m shown.1 in
        subst IsUsed at.4 (located_used _ (in_second _ _ points_later _ (among-map root_of later.mounts at.0 at.1))
        (ap (λ (y : Mount ℕ). y.filesystem) (found_itself later.mounts one at.0 at.1) ∙ at.3 ∙ e))

    by_point : (mount : Mount ℕ) → Among mount world.mounts → (point : Location ℕ) → mount.mount_point ≡ Some point
        → (mount_at nat_eq world point).filesystem ≡ x.number → IsUsed point.node
    by_point mount m point e shows = by mount.namespace refl
      where
        same_namespace : mount.namespace ≡ (mount_at nat_eq world point).namespace
        same_namespace = sym (ap (λ (y : Mount ℕ). y.namespace) (found_itself world.mounts apart.is.mounts.one_number
            mount m)) ∙ namespace_below world mount.number point (among_from_all (λ (y : Mount ℕ). Stands nat_eq world
            y.number) world.mounts apart.is.mounts.standing mount m) (ap (λ (y : Mount ℕ). y.mount_point)
            (found_itself _ apart.is.mounts.one_number mount m) ∙ e)

        by : (o : Option ℕ) → mount.namespace ≡ o → IsUsed point.node
        by None none = absurd (true≢false (sym (and_parts (not (is_some mount.mount_point))
            (is_private mount.propagation) (sym (ap (λ o. is_some o || (not (is_some mount.mount_point) && is_private
            mount.propagation)) none) ∙ among_from_list_all _ world.mounts apart.is.mounts.nowhere mount m)).0 ∙ ap
            (λ o. not (is_some o)) e))
        by (Some n) placed = which (is_own_namespace nat_eq world names n) refl
          where
            parent_placed : (mount_at nat_eq world point).namespace ≡ Some n
            parent_placed = sym same_namespace ∙ placed

            parent_there : Among (mount_at nat_eq world point) world.mounts
            parent_there = ⊎_elim (λ k. k) (λ none. none_is_some n (sym (ap (λ (y : Mount ℕ). y.namespace) none)
                ∙ parent_placed)) (found_or_none _ point.mount)

            which : (b : Bool) → is_own_namespace nat_eq world names n ≡ b → IsUsed point.node
            which true own =
                let is_theirs : (y : Mount ℕ) → Among y world.mounts → y.namespace ≡ Some n → Among y
                (own_mounts nat_eq world names) = λ y k p. among-filter _ world.mounts y k
                (ap (holds_of (is_own_namespace nat_eq world names)) p ∙ own) in
                let child = own_later world later names sees mount (is_theirs mount m placed) in
                let above = own_later world later names sees (mount_at nat_eq world point)
                (is_theirs (mount_at nat_eq world point) parent_there parent_placed) in
                located_used point (in_third (all_locations later) (map root_of later.mounts) points_later point
                (among-filter_map _ _ mount point child e)) (ap (λ k. (mount_numbered nat_eq later k).filesystem)
                (sym (number-mount_in _ _)) ∙ ap (λ (y : Mount ℕ). y.filesystem) (found_itself _ one _ above) ∙ shows)
            which false other = absurd (no_other_mount _ (among-filter _ world.mounts _ parent_there
                (ap (holds_of (λ k. not (is_own_namespace nat_eq world names k))) parent_placed ∙ ap not other)) shows)

    by_location : (object : ℕ) → Among object (located_in nat_eq world x.number) → IsUsed object
    by_location object m =
        let at = among-from_map (λ (l : Location ℕ). l.node) _ object m in
        let on = among-from_filter (λ l. nat_eq x.number (mount_at nat_eq world l).filesystem)
        (all_locations world ++ map root_of world.mounts
        ++ filter_map (λ (mount : Mount ℕ). mount.mount_point) world.mounts) at.0 at.1 in
        let shows : (mount_at nat_eq world at.0).filesystem ≡ x.number =
        sym (eqb-true x.number (mount_at nat_eq world at.0).filesystem on.1) in
        subst IsUsed (sym at.2) (⊎_elim (λ used_or_root. ⊎_elim (λ task. by_task at.0 task shows)
        (λ root. let mount = among-from_map root_of world.mounts at.0 root in
        subst IsUsed (ap (λ (l : Location ℕ). l.node) (sym mount.2)) (by_root mount.0 mount.1
        (ap (λ (y : Mount ℕ). y.filesystem) (sym (found_itself world.mounts apart.is.mounts.one_number mount.0 mount.1))
        ∙ ap (λ (l : Location ℕ). (mount_at nat_eq world l).filesystem) (sym mount.2) ∙ shows)))
        (among-append (all_locations world) (map root_of world.mounts) at.0 used_or_root))
        (λ point. let mount = among-from_filter_map (λ (y : Mount ℕ). y.mount_point) world.mounts at.0 point in
        by_point mount.0 mount.1 at.0 mount.2 shows) (among-append (all_locations world ++ map root_of world.mounts)
        (filter_map (λ (mount : Mount ℕ). mount.mount_point) world.mounts) at.0 on.0))

    -- an overlay with a layer in it is theirs
    merged_later : (merged : Filesystem ℕ) → Among merged world.filesystems
        → has_layer_on nat_eq x.number merged ≡ true → Among merged later.filesystems
    merged_later merged m has =
        let overlaid : is_overlay merged ≡ true = is_one merged.overlay refl in
        let among = among-filter is_overlay world.filesystems merged m overlaid in
        let free = or_cases (not (has_layer_on nat_eq x.number merged))
        (no_outsider_on nat_eq world names merged.number) (among_from_list_all _ _ parts_alone.1 merged among) in
        ⊎_elim (λ none. absurd (true≢false (sym has ∙ not-true (has_layer_on nat_eq x.number merged) none)))
        (λ nobody_there. used_later world later names sees merged m
        (overlay_without_others world names apart.is merged among nobody_there)) free
      where
        is_one : (o : Option (Overlay ℕ)) → merged.overlay ≡ o → is_some merged.overlay ≡ true
        is_one None e = absurd (true≢false (sym has ∙ ap (overlay_or false (λ overlay. list_any
            (λ layer. nat_eq x.number layer.filesystem) (layers_of overlay))) e))
        is_one (Some overlay) e = ap is_some e

    by_layer : (object : ℕ) → Among object (layers_in nat_eq world x.number) → IsUsed object
    by_layer object m =
        let at = among-from_map (λ (layer : Layer ℕ). layer.directory) _ object m in
        let on = among-from_filter (λ (layer : Layer ℕ). nat_eq x.number layer.filesystem)
        (flat_map (of_overlay [] layers_of) world.filesystems) at.0 at.1 in
        let of = among-from_flat_map (of_overlay [] layers_of) world.filesystems at.0 on.0 in
        let merged = merged_later of.0 of.1 (has of.0 at.0 of.2 on.1) in
        layer_is_used object (subst (λ k. Among k (layers_in nat_eq later x.number)) (sym at.2)
        (among-map (λ (layer : Layer ℕ). layer.directory) _ at.0 (among-filter _ _ at.0
        (among-flat_map (of_overlay [] layers_of) later.filesystems of.0 at.0 merged of.2) on.1)))
      where
        has : (merged : Filesystem ℕ) (layer : Layer ℕ) → Among layer (of_overlay [] layers_of merged)
            → nat_eq x.number layer.filesystem ≡ true → has_layer_on nat_eq x.number merged ≡ true
        has merged layer n e = grind (arith, common_steps, any_from_among)

    by_object : (object : ℕ) → Among object (flat_map (objects_of_overlay nat_eq x.number) world.filesystems)
        → IsUsed object
    by_object object m =
        let of = among-from_flat_map (objects_of_overlay nat_eq x.number) world.filesystems object m in
        let merged = merged_later of.0 of.1 (has of.0 of.2) in
        object_is_used object (among-flat_map (objects_of_overlay nat_eq x.number) _ of.0 object merged of.2)
      where
        has : (merged : Filesystem ℕ) → Among object (objects_of_overlay nat_eq x.number merged)
            → has_layer_on nat_eq x.number merged ≡ true
        has merged n = grind (arith, common_steps, any_from_among, in_first)

    -- what is used in the world is used then
    pub alone_used : (object : ℕ) → Among object (used_in nat_eq world x) → IsUsed object
    alone_used object m = ⊎_elim inl (λ more. ⊎_elim (λ three. ⊎_elim
        (λ two. ⊎_elim (name_is_used object) (by_location object)
        (among-append (named_in x.files) (located_in nat_eq world x.number) object two)) (by_layer object)
        (among-append (named_in x.files ++ located_in nat_eq world x.number) (layers_in nat_eq world x.number) object
        three)) (by_object object)
        (among-append (named_in x.files ++ located_in nat_eq world x.number ++ layers_in nat_eq world x.number)
        (flat_map (objects_of_overlay nat_eq x.number) world.filesystems) object more)) m

  module _ (there : Among x world.filesystems)
      (used : is_among nat_eq x.number (used_filesystems nat_eq world names) ≡ true) where
    found_x : filesystem_numbered nat_eq world x.number ≡ x
    found_x = found_filesystem world.filesystems apart.is.files.one_filesystem x there

    -- what has a name
    named_used : (object : ℕ) → Among object x.files.numbers → wholly_locked nat_eq world names x.number ≡ true
        → IsUsed object
    named_used object m locked =
        let all : all_named nat_eq x.files ≡ true = ap (λ (f : Filesystem ℕ). all_named nat_eq f.files) (sym found_x)
        ∙ (and_parts (list_any (λ merged. is_lower_root nat_eq x.number
        (filesystem_numbered nat_eq world x.number).files.tree.root merged
        && used_alone nat_eq world names merged.number) (overlays world))
        (all_named nat_eq (filesystem_numbered nat_eq world x.number).files) locked).1 in
        ⊎_elim (λ root. inl (eqb-true object x.files.tree.root root)) (λ named. name_is_used object
        (among_numbers (named_in x.files) object named)) (or_cases (nat_eq object x.files.tree.root)
        (is_among nat_eq object (named_in x.files)) (among_from_list_all _ x.files.numbers all object m))

    pub inodes_used : (object : ℕ) → Among object x.files.numbers
        → is_among nat_eq object (used_in nat_eq later x) ≡ true
    inodes_used object m = is_among_numbers (used_in nat_eq later x) object
        (⊎_elim (λ alone. alone_used alone object (among_numbers (used_in nat_eq world x) object
        (among_from_list_all _ x.files.numbers (among_from_all (λ (f : Filesystem ℕ). list_all
        (λ n. is_among nat_eq n (used_in nat_eq world f)) f.files.numbers ≡ true) world.filesystems
        (all_in_use world apart.is).inodes x there) object m))) (named_used object m)
        (or_cases (used_alone nat_eq world names x.number) (wholly_locked nat_eq world names x.number)
        (used_are_free world names sealed_off x.number (among_numbers _ x.number used))))

    -- so the sweep leaves it whole
    pub used_whole : (chosen : Bool) → only_used nat_eq later chosen x ≡ x
    used_whole true = ap (λ b. only_used_by nat_eq b (used_in nat_eq later x) x)
        (list_all_from_among (λ n. is_among nat_eq n (used_in nat_eq later x)) x.files.numbers inodes_used)
    used_whole false = refl
