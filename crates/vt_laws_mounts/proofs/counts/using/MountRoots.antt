-- Mounts and the locations on them.
use Rattle.std.proofs.Common.{arith, ◌≡◌, refl, sym, ap, subst, ◌∙◌, ⊎_elim, inl, ℕ, nat_eq, eqb-true, Bool, true, false, true≢false, cond, not, ◌||◌, List, [], ◌∷◌, ◌++◌, map, filter, Option, Some, None, is_some, filter_map}
use Rattle.vt_spec.proofs.Common.{Location, Mount, World, all_locations, any_pair, common_steps, cons_option, filter_all, is_among, is_located, is_nowhere_or_attached, list_all, list_any, mount_at, mount_in, mount_numbered, nat_eq-swapped, or_parts, root_of}
use Rattle.vt_laws_mounts.specs.LettingGo.Leaving.{MountsStand}
use Rattle.vt_laws_mounts.specs.LettingGo.Mounting.{inode_at, root_inode}
use Rattle.vt_laws_mounts.specs.LettingGo.OneByOne.{is_mount_used, without_mount}
use Rattle.vt_laws_mounts.proofs.letting_go.Lists.{Among, among-append, among-append_right, among-from_filter_map, among-from_map, among-map, among_from_list_all, among_numbers, is_among_numbers, list_all_from_among, none_among}
use Rattle.vt_laws_mounts.proofs.letting_go.leaving.PlacesLeft.{found_itself, nowhere_parts, place_attached}
pub use Rattle.vt_laws_mounts.proofs.letting_go.sweeps.OfWorlds.{locations_of_worlds_stand}
use Rattle.vt_laws_mounts.specs.Counts.Using.{MountsLeaveTheirRoots, PlacesStand, is_on, places_of, Exchanges}
use Rattle.vt_laws_mounts.proofs.counts.using.Exchanged.{exchanges_turn}
use Rattle.vt_laws_mounts.proofs.counts.using.Places.{mounts_are_uses}

-- a mount in a namespace is there
attached_is : (mounts : List (Mount ℕ)) (number : ℕ) → is_some (mount_in nat_eq mounts number).namespace ≡ true
    → is_among nat_eq number (map (λ mount. mount.number) mounts) ≡ true
attached_is [] number e = cc
attached_is (first ∷ rest) number e = grind (arith, common_steps, attached_is rest number)

pub places_stand : PlacesStand
places_stand world stand locations =
    list_all_from_among (is_on world.mounts) (all_locations world ++ places_of world.mounts) (λ location m.
    ⊎_elim (λ here. among_from_list_all (is_on world.mounts) (all_locations world) locations location here)
    (λ places. ⊎_elim (λ root. let from = among-from_map root_of world.mounts location root in
    ap (is_on world.mounts) from.2 ∙ is_among_numbers from.0.number (map (λ mount. mount.number) world.mounts)
    (among-map (λ mount. mount.number) world.mounts from.0 from.1))
    (λ point. let from = among-from_filter_map (λ (mount : Mount ℕ). mount.mount_point) world.mounts location point in
    attached_is world.mounts location.mount (place_attached world stand from.0 from.1 location from.2))
    (among-append (map root_of world.mounts) (filter_map (λ mount. mount.mount_point) world.mounts) location places))
    (among-append (all_locations world) (places_of world.mounts) location m))

-- a list around the one of a number
record IsAround (mounts : List (Mount ℕ)) (number : ℕ) : Type 0 where
  front : List (Mount ℕ)
  mount : Mount ℕ
  back : List (Mount ℕ)
  whole : mounts ≡ front ++ (mount ∷ back)
  left : filter (λ other. not (nat_eq other.number number)) mounts ≡ front ++ back
  numbered : mount.number ≡ number

around : (mounts : List (Mount ℕ)) (number : ℕ) → any_pair (λ (a b : Mount ℕ). nat_eq a.number b.number) mounts ≡ false
    → is_among nat_eq number (map (λ mount. mount.number) mounts) ≡ true → IsAround mounts number
around [] number one there = cc
around (first ∷ rest) number one there = by _ refl there (around rest number parts.1)
  where
    parts : (list_any (λ b. nat_eq first.number b.number) rest ≡ false)
        × (any_pair (λ (a b : Mount ℕ). nat_eq a.number b.number) rest ≡ false)
    parts = or_parts _ _ one

    by : (b : Bool) → nat_eq number first.number ≡ b
        → (b || is_among nat_eq number (map (λ mount. mount.number) rest)) ≡ true
        → (is_among nat_eq number (map (λ mount. mount.number) rest) ≡ true → IsAround rest number)
        → IsAround (first ∷ rest) number
    by true e h later = record {
      front = [];
      mount = first;
      back = rest;
      whole = refl;
      left = ap (λ b. cond (not b) (first ∷ filter (λ other. not (nat_eq other.number number)) rest)
          (filter (λ other. not (nat_eq other.number number)) rest)) (nat_eq-swapped number first.number true e)
          ∙ filter_all (λ other. not (nat_eq other.number number)) rest
          (λ other m. ap not (nat_eq-swapped number other.number false
          (ap (λ k. nat_eq k other.number) (eqb-true number first.number e)
          ∙ none_among (λ b. nat_eq first.number b.number) rest parts.0 other m)));
      numbered = sym (eqb-true number first.number e);
    }
    by false e h later = let inner = later h in record {
      front = first ∷ inner.front;
      mount = inner.mount;
      back = inner.back;
      whole = ap (λ l. first ∷ l) inner.whole;
      left = cc (nat_eq-swapped number first.number false e, inner.left);
      numbered = inner.numbered;
    }

module _ (world : World ℕ) (number : ℕ) (stand : MountsStand world)
    (locations : list_all (λ location. is_among nat_eq location.mount (map (λ mount. mount.number) world.mounts))
    (all_locations world) ≡ true) (there : is_among nat_eq number (map (λ mount. mount.number) world.mounts) ≡ true)
    (unused : is_mount_used world number ≡ false) where
  split : IsAround world.mounts number
  split = around _ number stand.one_number there

  abbrev left : World ℕ
  left = without_mount world number

  in_world : Among split.mount world.mounts
  in_world = subst (Among split.mount) (sym split.whole)
      (among-append_right split.front (split.mount ∷ split.back) split.mount (inl refl))

  itself : mount_numbered nat_eq world number ≡ split.mount
  itself = cc (split.numbered, found_itself world.mounts stand.one_number split.mount in_world)

  not_attached : is_some (mount_numbered nat_eq world number).namespace ≡ false
  not_attached = (or_parts _ _ unused).0

  not_located : is_located nat_eq world number ≡ false
  not_located = (or_parts _ _ unused).1

  no_point : is_some split.mount.mount_point ≡ false
  no_point = (nowhere_parts split.mount
      (among_from_list_all is_nowhere_or_attached world.mounts stand.nowhere split.mount in_world)
      (cc (itself, not_attached))).0

  -- what is on another mount is on one that is left
  on_left : (location : Location ℕ) → is_on world.mounts location ≡ true → nat_eq number location.mount ≡ false
      → is_on left.mounts location ≡ true
  on_left location on apart =
      let from = among-from_map _ _ _ (among_numbers _ _ on) in
      is_among_numbers _ _ (subst (λ n. Among n (map (λ (mount : Mount ℕ). mount.number) left.mounts)) (sym from.2)
      (among-map _ _ from.0 (Rattle.vt_laws_mounts.proofs.letting_go.Lists.among-filter
      (λ other. not (nat_eq other.number number)) world.mounts from.0 from.1
      (ap not (ap (λ n. nat_eq n number) (sym from.2) ∙ nat_eq-swapped number _ false apart)))))

  all_on_left : list_all (is_on left.mounts) (all_locations left ++ places_of left.mounts) ≡ true
  all_on_left = list_all_from_among (is_on left.mounts) (all_locations left ++ places_of left.mounts) (λ location m.
      ⊎_elim (λ here. on_left location
      (among_from_list_all (is_on world.mounts) (all_locations world) locations location here)
      (none_among (λ l. nat_eq number l.mount) (all_locations world) not_located location here)) (λ places. ⊎_elim
      (λ root. let from = among-from_map root_of left.mounts location root in
      ap (is_on left.mounts) from.2 ∙ is_among_numbers from.0.number (map (λ mount. mount.number) left.mounts)
      (among-map (λ mount. mount.number) left.mounts from.0 from.1)) (λ point.
      let from = among-from_filter_map (λ (mount : Mount ℕ). mount.mount_point) left.mounts location point in
      let was = Rattle.vt_laws_mounts.proofs.letting_go.Lists.among-from_filter
      (λ other. not (nat_eq other.number number)) world.mounts from.0 from.1 in
      let attached = place_attached world stand from.0 was.0 location from.2 in
      on_left location (attached_is world.mounts location.mount attached) (other_mount location attached))
      (among-append (map root_of left.mounts) (filter_map (λ mount. mount.mount_point) left.mounts) location places))
      (among-append (all_locations left) (places_of left.mounts) location m))
    where
      other_mount : (location : Location ℕ) → is_some (mount_at nat_eq world location).namespace ≡ true
          → nat_eq number location.mount ≡ false
      other_mount location attached = grind (arith, common_steps, true≢false, eqb-true, not_attached)

  root_left : (k : ℕ) → Exchanges [] (root_inode world number ∷ []) k world left
  root_left k = exchanges_turn left world (root_inode world number ∷ []) [] k
      (subst (λ l. Exchanges l [] k left world) uses_one (mounts_are_uses left world split.front
      (split.mount ∷ []) split.back refl refl split.left split.whole stand.one_number all_on_left k))
    where
      none : (o : Option (Location ℕ)) → is_some o ≡ false → cons_option o [] ≡ []
      none None e = refl
      none (Some place) e = cc

      uses_one : map (inode_at world) (places_of (split.mount ∷ [])) ≡ root_inode world number ∷ []
      uses_one = ap (λ l. map (inode_at world) (root_of split.mount ∷ l)) (none _ no_point)
          ∙ (λ i. ((mount_numbered nat_eq world (split.numbered i)).filesystem, (sym itself i).root) ∷ [])

pub mounts_leave_their_roots : MountsLeaveTheirRoots
mounts_leave_their_roots world number stand locations there unused filesystem =
    root_left world number stand locations there unused filesystem
