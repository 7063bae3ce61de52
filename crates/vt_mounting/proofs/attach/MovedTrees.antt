-- A tree of mounts moves: its own mounts stay in their places with new types, the first at its new mount point, and the
-- copies at receivers come after all.
use Rattle.std.proofs.Common.{◌≡◌, refl, sym, ap, subst, ◌∙◌, true≢false, ℕ, nat_eq, eqb-true, eq-eqb, Bool, true, false, cond, ◌&&◌, List, [], ◌∷◌, ◌++◌, map, find, Option, Some, None, is_some, option_map, unwrap_or, if◌then◌else◌, arith}
use Rattle.vt_spec.proofs.Common.{Copies, Location, Mount, Twig, World, any_pair, common_steps, copy_at, copy_type, first_of_list, folded, group_of, holds_of, is_top, lookup, map_alike, map_twice, mount_at, or_else, parts_of, twig_of, type_at, with_mount}
use Rattle.vt_mounting.proofs.Common.{Among, among-from_map, counted, graft_in, location_of, mount_of, moved_by, numbers_at}
use Rattle.vt_location.specs.declared.mounts.Mount.{Mount as Code}
use Rattle.vt_laws_mounts.proofs.mounts.MountsFound.{number-mount_in}
use Rattle.vt_propagate.specs.declared.copying.Counts.{Counts}
use Rattle.vt_propagate.specs.declared.copying.Graft.{Graft}
use Rattle.vt_mounting.specs.Attach.AttachedGroups.{type_of}
use Rattle.vt_mounting.specs.Attach.Moved.{top_of}
use Rattle.vt_mounting.specs.Attach.Planned.{Point}
use Rattle.vt_mounting.specs.Attach.PlannedUses.{point_seen}
use Rattle.vt_mounting.proofs.attach.GraftedUses.{changed_at}
use Rattle.vt_mounting.proofs.attach.TypedMounts.{KindsOnce, all_replaced, lookup_kind, replaced_by, same_numbered}

lookup_append : {B : Type 0} (number : ℕ) (xs ys : List (ℕ × B))
    → lookup (nat_eq number) (xs ++ ys) ≡ or_else (lookup (nat_eq number) xs) (lookup (nat_eq number) ys)
lookup_append number [] ys = refl
lookup_append {B} number (x ∷ xs) ys = grind (arith, common_steps, lookup_append number xs ys)

else_else : {B : Type 0} (a b c : Option B) → or_else (or_else a b) c ≡ or_else a (or_else b c)
else_else None b c = refl
else_else (Some x) b c = refl

points_seen : (xs ys : List Point) → map point_seen (xs ++ ys) ≡ map point_seen xs ++ map point_seen ys
points_seen [] ys = refl
points_seen (x ∷ xs) ys = ap (λ list. point_seen x ∷ list) (points_seen xs ys)

-- the type of the one that is found
lookup_found : (number : ℕ) (own : List (Mount ℕ)) → lookup (nat_eq number) (map type_of own)
    ≡ option_map (λ (one : Mount ℕ). one.propagation) (find (λ (one : Mount ℕ). nat_eq number one.number) own)
lookup_found number [] = refl
lookup_found number (first ∷ rest) = grind (arith, common_steps, lookup_found number rest)

found_among : (number : ℕ) (own : List (Mount ℕ)) (one : Mount ℕ)
    → find (λ (x : Mount ℕ). nat_eq number x.number) own ≡ Some one → Among one own × (number ≡ one.number)
found_among number [] one e = absurd (true≢false (sym (ap is_some e)))
found_among number (first ∷ rest) one e = grind (arith, common_steps, found_among number rest one, eqb-true)

not_found : {A : Type 0} (b : Bool) (a : A) (o : Option A) → cond b (Some a) o ≡ None → b ≡ false
not_found true a o e = absurd (true≢false (ap is_some e))
not_found false a o e = refl

-- A tree moves, and this is its top and what is below it.
pub record IsMoving (graft : Graft) (first : Code) (others : List Code) : Type 0 where
  pub tree_now : graft.tree.now ≡ first ∷ others
  pub moves : graft.moves ≡ true

module _ (world : World ℕ) (counts : Counts) {graft : Graft} {first : Code} {others : List Code}
    (moving : IsMoving graft first others) where
  open moving use {tree_now, moves}

  abbrev place : Location ℕ
  place = location_of graft.place

  abbrev new : Copies ℕ
  new = numbers_at world graft counts

  abbrev dest : Mount ℕ
  dest = mount_at nat_eq world (location_of graft.place)

  abbrev parts : List (Mount ℕ)
  parts = parts_of nat_eq world (location_of graft.place)

  abbrev twig : Mount ℕ → Twig ℕ
  twig mount = twig_of (numbers_at world graft counts)
      (group_of (mount_at nat_eq world (location_of graft.place)).propagation) mount

  -- what a mount of the tree becomes
  abbrev pub copy : Mount ℕ → Mount ℕ
  copy mount = copy_at nat_eq world (numbers_at world graft counts) (graft_in world graft counts)
      (parts_of nat_eq world (location_of graft.place)) (mount_at nat_eq world (location_of graft.place))
      (twig_of (numbers_at world graft counts)
      (group_of (mount_at nat_eq world (location_of graft.place)).propagation) mount)

  abbrev pub own : List (Mount ℕ)
  own = map (copy_at nat_eq world (numbers_at world graft counts) (graft_in world graft counts)
      (parts_of nat_eq world (location_of graft.place)) (mount_at nat_eq world (location_of graft.place)))
      (map (twig_of (numbers_at world graft counts)
      (group_of (mount_at nat_eq world (location_of graft.place)).propagation)) (map mount_of graft.tree.now))

  at_there : nat_eq dest.number place.mount ≡ true
  at_there = eq-eqb dest.number place.mount (number-mount_in world.mounts place.mount)

  abbrev place_then : Bool → Mount ℕ → Location ℕ
  place_then b mount = if b then record {
    mount = (mount_at nat_eq world (location_of graft.place)).number;
    node = (location_of graft.place).node;
  } else unwrap_or (option_map (λ (at : Location ℕ). record { mount = at.mount; node = at.node }) mount.mount_point)
      (location_of graft.place)

  pub copy_is : (mount : Mount ℕ) → copy mount ≡ record mount {
    number = mount.number;
    namespace = dest.namespace;
    mount_point = Some (place_then (nat_eq mount.number (counted first.number.count)) mount);
    propagation = type_at (numbers_at world graft counts)
        (group_of (mount_at nat_eq world (location_of graft.place)).propagation) mount;
  }
  copy_is mount = (λ i. record mount {
    number = if moves i && at_there i then mount.number else new.copy dest.number mount.number;
    namespace = dest.namespace;
    mount_point = Some (if is_top nat_eq (graft_in world graft counts) mount.number
        then record { mount = dest.number; node = place.node } else unwrap_or (option_map
        (λ (at : Location ℕ). record { mount = if moves i && at_there i then at.mount else new.copy dest.number at.mount; node = at.node }) mount.mount_point)
        place);
    propagation = if at_there i then type_at new (group_of dest.propagation) mount
        else copy_type nat_eq world new parts dest (twig mount) dest.propagation;
  }) ∙ (λ i. record mount {
    number = mount.number;
    namespace = dest.namespace;
    mount_point = Some (place_then (holds_of (λ (t : Twig ℕ). nat_eq mount.number t.origin.number)
        (first_of_list (map twig (map mount_of (tree_now i))))) mount);
    propagation = type_at new (group_of dest.propagation) mount;
  })

  pub copy_number_is : (mount : Mount ℕ) → (copy mount).number ≡ mount.number
  copy_number_is mount = ap (λ (x : Mount ℕ). x.number) (copy_is mount)

  pub copy_kind_is : (mount : Mount ℕ) → (copy mount).propagation ≡ type_at (numbers_at world graft counts)
      (group_of (mount_at nat_eq world (location_of graft.place)).propagation) mount
  copy_kind_is mount = ap (λ (x : Mount ℕ). x.propagation) (copy_is mount)

  pub own_copies : own ≡ map copy (map mount_of graft.tree.now)
  own_copies = map_twice (copy_at nat_eq world (numbers_at world graft counts) (graft_in world graft counts)
      (parts_of nat_eq world (location_of graft.place)) (mount_at nat_eq world (location_of graft.place)))
      (twig_of (numbers_at world graft counts)
      (group_of (mount_at nat_eq world (location_of graft.place)).propagation)) (map mount_of graft.tree.now)

  pub own_numbers : map (λ (mount : Mount ℕ). mount.number) own
      ≡ map (λ (mount : Mount ℕ). mount.number) (map mount_of graft.tree.now)
  own_numbers = ap (map (λ (mount : Mount ℕ). mount.number)) own_copies
      ∙ map_twice (λ (mount : Mount ℕ). mount.number) copy (map mount_of graft.tree.now)
      ∙ map_alike (λ mount. (copy mount).number) (λ (mount : Mount ℕ). mount.number) (map mount_of graft.tree.now)
      (λ mount m. copy_number_is mount)

  -- The mounts of the tree are of the world, each once, and all but its top stand on one of them.
  pub record IsOfWorld : Type 0 where
    pub one : any_pair (λ (a b : Mount ℕ). nat_eq a.number b.number) world.mounts ≡ false
    pub own_once : any_pair (λ (a b : Mount ℕ). nat_eq a.number b.number) own ≡ false
    pub kinds_once : KindsOnce (map type_of own)
    pub there : (mount : Mount ℕ) → Among mount (map mount_of graft.tree.now) → Among mount world.mounts
    pub beside : (mount : Mount ℕ) → Among mount (map mount_of graft.tree.now)
        → mount.namespace ≡ (mount_at nat_eq world (location_of graft.place)).namespace
    pub placed : (mount : Mount ℕ) → Among mount (map mount_of graft.tree.now) → is_some mount.mount_point ≡ true

  module _ (of_world : IsOfWorld) where
    open of_world use {one, own_once, kinds_once, there, beside, placed}

    -- one of the own mounts is what the mount with its number becomes
    pub becomes : (mount : Mount ℕ) → Among mount world.mounts → (one : Mount ℕ) → Among one own
        → mount.number ≡ one.number → Among mount (map mount_of graft.tree.now) × (one ≡ copy mount)
    becomes mount m other n same =
        let from = among-from_map copy (map mount_of graft.tree.now) other (subst (Among other) own_copies n) in
        let is : mount ≡ from.0 = same_numbered world.mounts one mount from.0 m (there from.0 from.1)
        (same ∙ ap (λ (x : Mount ℕ). x.number) from.2 ∙ copy_number_is from.0) in
        (subst (λ (x : Mount ℕ). Among x (map mount_of graft.tree.now)) (sym is) from.1, from.2 ∙ ap copy (sym is))

    point_then : (mount : Mount ℕ) → is_some mount.mount_point ≡ true → (b : Bool)
        → Some (place_then b mount) ≡ or_else (cond b (Some (location_of graft.place)) None) mount.mount_point
    point_then mount some true = λ i. Some
        (record { mount = number-mount_in world.mounts place.mount i; node = place.node })
    point_then mount some false = grind (arith, common_steps)

    module _ (pushed : List Point) where
      abbrev points : List Point
      points = pushed ++ top_of graft.place graft.tree.now

      seen_points : map point_seen points
          ≡ map point_seen pushed ++ (counted first.number.count, location_of graft.place) ∷ []
      seen_points = points_seen pushed (top_of graft.place graft.tree.now)
          ∙ ap (λ (tree : List Code). map point_seen pushed ++ map point_seen (top_of graft.place tree)) tree_now

      lookup_is : (number : ℕ) → lookup (nat_eq number) (map point_seen points)
          ≡ or_else (lookup (nat_eq number) (map point_seen pushed))
          (cond (nat_eq number (counted first.number.count)) (Some (location_of graft.place)) None)
      lookup_is number = ap (lookup (nat_eq number)) seen_points
          ∙ lookup_append number (map point_seen pushed) ((counted first.number.count, location_of graft.place) ∷ [])

      one_moved : (mount : Mount ℕ) → Among mount world.mounts
          → moved_by (map point_seen pushed) (replaced_by own mount) ≡ changed_at points (map type_of own) mount
      one_moved mount m = by (find (λ (x : Mount ℕ). nat_eq mount.number x.number) own) refl
        where
          by : (o : Option (Mount ℕ)) → find (λ (x : Mount ℕ). nat_eq mount.number x.number) own ≡ o
              → moved_by (map point_seen pushed) (replaced_by own mount) ≡ changed_at points (map type_of own) mount
          by None e =
              let other : nat_eq mount.number (counted first.number.count) ≡ false =
              ap (nat_eq mount.number) (sym (copy_number_is (mount_of first)))
              ∙ not_found (nat_eq mount.number (copy (mount_of first)).number) (copy (mount_of first))
              (find (λ (x : Mount ℕ). nat_eq mount.number x.number) (map copy (map mount_of others)))
              (ap (find (λ (x : Mount ℕ). nat_eq mount.number x.number))
              (sym (own_copies ∙ ap (λ (tree : List Code). map copy (map mount_of tree)) tree_now)) ∙ e) in
              ap (λ o. moved_by (map point_seen pushed) (unwrap_or o mount)) e ∙ (λ i. record mount {
                mount_point = or_else (sym (lookup_is mount.number
                    ∙ ap (λ b. or_else (lookup (nat_eq mount.number) (map point_seen pushed))
                    (cond b (Some (location_of graft.place)) None)) other
                    ∙ none_else (lookup (nat_eq mount.number) (map point_seen pushed))) i) mount.mount_point;
                propagation = unwrap_or (sym (lookup_found mount.number own
                    ∙ ap (option_map (λ (one : Mount ℕ). one.propagation)) e) i) mount.propagation;
              })
            where
              none_else : (o : Option (Location ℕ)) → or_else o None ≡ o
              none_else None = refl
              none_else (Some at) = refl
          by (Some other) e =
              let found = found_among mount.number own other e in
              let is = becomes mount m other found.0 found.1 in
              ap (λ o. moved_by (map point_seen pushed) (unwrap_or o mount)) e
              ∙ ap (moved_by (map point_seen pushed)) (is.1 ∙ copy_is mount) ∙ (λ i. record mount {
                namespace = sym (beside mount is.0) i;
                mount_point = (ap (or_else (lookup (nat_eq mount.number) (map point_seen pushed)))
                    (point_then mount (placed mount is.0) (nat_eq mount.number (counted first.number.count)))
                    ∙ sym (else_else (lookup (nat_eq mount.number) (map point_seen pushed))
                    (cond (nat_eq mount.number (counted first.number.count)) (Some (location_of graft.place)) None)
                    mount.mount_point) ∙ ap (λ o. or_else o mount.mount_point) (sym (lookup_is mount.number))) i;
                propagation = (sym (copy_kind_is mount) ∙ ap (λ (x : Mount ℕ). x.propagation) (sym is.1)
                    ∙ ap (λ o. unwrap_or o mount.propagation)
                    (sym (ap (λ n. lookup (nat_eq n) (map type_of own)) found.1
                    ∙ lookup_kind own kinds_once other found.0))) i;
              })

      -- all mounts of the world then
      pub all_moved : map (moved_by (map point_seen pushed)) (folded (with_mount nat_eq) world.mounts own)
          ≡ map (changed_at points (map type_of own)) world.mounts
      all_moved = ap (map (moved_by (map point_seen pushed))) (all_replaced own own_once world.mounts)
          ∙ map_twice (moved_by (map point_seen pushed)) (replaced_by own) world.mounts
          ∙ map_alike (λ mount. moved_by (map point_seen pushed) (replaced_by own mount))
          (changed_at points (map type_of own)) world.mounts one_moved
