-- The mounts on a directory that goes, with all that stands on them.
use Rattle.std.proofs.Common.{◌≡◌, ◌≢◌, refl, sym, ap, subst, ◌∙◌, inl, inr, ℕ, nat_eq, eq-eqb, eqb-true, Bool, true, ◌&&◌, List, [], ◌∷◌, ◌++◌, map, filter, flat_map, length, Option, None, Some, arith}
use Rattle.vt_spec.proofs.Common.{Mount, World, and_parts, holds_of, is_located_well, is_point, list_any, map-append, mount_at, mount_in, mount_tree, mounts_on, or-false, points_of, tree_from, common_steps}
use Rattle.vt_ns.proofs.Common.{Among, IsHeld, WorldValue, among-from_filter, counted, found_itself, is_small_node, location_of, mounts_in, number_of, numbers_of_trees, seen_where_located, stands_over, tree_numbers, world_of}
use Rattle.vt_laws_mounts.proofs.letting_go.Lists.{filter_alike}
use Rattle.vt_location.specs.declared.locations.Location.{Location}
use Rattle.vt_location.specs.declared.numbers.MountId.{MountId}
use Rattle.vt_mounting.proofs.detach.LazilyUnmounted.{to_spec}
use Rattle.vt_mounting.proofs.detach.LookLemmas.{point_seen, points_are}
use Rattle.vt_spec.specs.Machine.Mounts as meant

-- Trees by the numbers of their mounts

tree_by_numbers : (mounts tops : List (Mount ℕ))
    → ((top : Mount ℕ) → Among top tops → mount_in nat_eq mounts top.number ≡ top)
    → flat_map (tree_numbers mounts) (map (λ (top : Mount ℕ). top.number) tops)
    ≡ map (λ (mount : Mount ℕ). mount.number) (flat_map (mount_tree nat_eq mounts) tops)
tree_by_numbers mounts [] itself = refl
tree_by_numbers mounts (top ∷ tops) itself =
    (λ i. map (λ (mount : Mount ℕ). mount.number) (mount_tree nat_eq mounts (itself top (inl refl) i))
    ++ tree_by_numbers mounts tops (λ other m. itself other (inr m)) i)
    ∙ sym (map-append (λ (mount : Mount ℕ). mount.number) (mount_tree nat_eq mounts top)
    (flat_map (mount_tree nat_eq mounts) tops))

trees_are_some : (depth : ℕ) (mounts : List (Mount ℕ)) (top : Mount ℕ) (rest : List (Mount ℕ))
    → map (λ (mount : Mount ℕ). mount.number) (tree_from nat_eq depth mounts top ++ rest) ≢ []
trees_are_some depth mounts top rest e = grind (arith, common_steps)

-- trees without mounts have no tops
pub none_on : (world : World ℕ) (all : List (Mount ℕ)) → numbers_of_trees world all ≡ [] → all ≡ []
none_on world [] e = refl
none_on world (top ∷ rest) e = grind (arith, common_steps, trees_are_some)

-- a list that is empty has none
pub none_counted : (ids : List MountId) → length ids ≡ 0 → map (λ id. counted id.count) ids ≡ []
none_counted ids none = grind (arith, common_steps)

-- one that is not empty has some
pub some_counted : (ids : List MountId) → length ids ≢ 0 → map (λ id. counted id.count) ids ≢ []
some_counted ids some e = grind (arith, common_steps)

-- The mounts on a directory

-- the mounts on a location
abbrev pub tops_on : WorldValue → Location → List (Mount ℕ)
tops_on value at = mounts_on nat_eq (world_of value) (location_of at)

-- one of them
pub record IsOn (value : WorldValue) (at : Location) : Type 0 where
  pub mount : Mount ℕ
  pub among : Among mount (mounts_in value.mounts)
  pub place : meant.Location ℕ
  pub placed : mount.mount_point ≡ Some place
  pub at_inode : place.node ≡ number_of at.node
  pub shows : (mount_at nat_eq (world_of value) place).filesystem
      ≡ (mount_at nat_eq (world_of value) (location_of at)).filesystem

module _ (value : WorldValue) (held : IsHeld value) (at : Location) (small : is_small_node at.node ≡ true) where
  abbrev world : World ℕ
  world = world_of value

  abbrev stands_there : Mount ℕ → Bool
  stands_there mount = list_any (λ (point : ℕ × ℕ). is_point nat_eq world point.0 point.1 mount)
      (points_of nat_eq world (location_of at))

  -- what is collected is what is there
  pub trees_collected : is_located_well nat_eq world (location_of at) ≡ true
      → flat_map (tree_numbers (mounts_in value.mounts))
      (map (λ (mount : Mount ℕ). mount.number) (filter (stands_over (number_of at.node)) (mounts_in value.mounts)))
      ≡ numbers_of_trees world (tops_on value at)
  trees_collected there =
      ap (λ all. flat_map (tree_numbers (mounts_in value.mounts)) (map (λ (mount : Mount ℕ). mount.number) all))
      (sym (filter_alike stands_there (stands_over (number_of at.node)) (mounts_in value.mounts)
      (λ mount m. point_seen value held at small mount (to_spec mount (mounts_in value.mounts) m)
      ∙ ap (λ b. b && stands_over (number_of at.node) mount)
      (eq-eqb (mount_at nat_eq world (location_of at)).filesystem (counted at.node.filesystem.count)
      (seen_where_located value held at small there)))))
      ∙ tree_by_numbers (mounts_in value.mounts) (tops_on value at) (λ top m.
      found_itself (mounts_in value.mounts) held.in_world.mounts.one_number top
      (among-from_filter stands_there (mounts_in value.mounts) top m).0)

  -- where the list is not empty a mount stands there
  pub one_on : tops_on value at ≢ [] → IsOn value at
  one_on = among_tops (tops_on value at) refl
    where
      by : (mount : Mount ℕ) → Among mount world.mounts → (o : Option (meant.Location ℕ)) → mount.mount_point ≡ o
          → is_point nat_eq world (mount_at nat_eq world (location_of at)).filesystem (number_of at.node) mount ≡ true
          → IsOn value at
      by mount m None p on = cc
      by mount m (Some place) p on =
          let parts = and_parts (nat_eq place.node (number_of at.node))
          (nat_eq (mount_at nat_eq world place).filesystem (mount_at nat_eq world (location_of at)).filesystem)
          (sym (ap (holds_of (λ (place : meant.Location ℕ). nat_eq place.node (number_of at.node)
          && nat_eq (mount_at nat_eq world place).filesystem (mount_at nat_eq world (location_of at)).filesystem)) p)
          ∙ on) in
          record {
            mount = mount;
            among = m;
            place = place;
            placed = p;
            at_inode = eqb-true place.node (number_of at.node) parts.0;
            shows = eqb-true (mount_at nat_eq world place).filesystem
                (mount_at nat_eq world (location_of at)).filesystem parts.1;
          }

      among_tops : (all : List (Mount ℕ)) → tops_on value at ≡ all → all ≢ [] → IsOn value at
      among_tops [] is some = absurd (some refl)
      among_tops (top ∷ rest) is some =
          let from = among-from_filter stands_there world.mounts top
          (subst (λ all. Among top all) (sym is) (inl refl)) in
          by top from.0 top.mount_point refl
          (sym (or-false (is_point nat_eq world (mount_at nat_eq world (location_of at)).filesystem
          (number_of at.node) top)) ∙ ap (list_any (λ (point : ℕ × ℕ). is_point nat_eq world point.0 point.1 top))
          (sym (points_are value held at small)) ∙ from.1)
