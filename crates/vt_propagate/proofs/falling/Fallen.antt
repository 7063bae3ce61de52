-- The mounts that stay where others are detached, by a list of their new mount points.
use Rattle.std.proofs.Common.{◌≡◌, ℕ, Bool, true, false, List, [], ◌∷◌, map, nat_eq, Option, None, Some, option_map, is_some, refl, sym, ap, subst, ◌∙◌, inl, inr, eq-eqb, true≢false, length, eqb-true, All, if◌then◌else◌, unwrap_or, arith}
use Rattle.vt_spec.proofs.Common.{Among, Location, Mount, World, after_going, all_from_among, among-filter, among-filter_map, among-flat_map, among-from_filter_map, among-from_flat_map, among-map, among_numbers, children, common_steps, detached, holds_of, is_going, lookup, mount_in, inherited_mount_point, mount_point_of_parent, no_mount, or_else, regrouped, same_Some, stands_on, then_some, with_mounts}
use Rattle.vt_mount.proofs.PointLemmas.{end-here}
use Rattle.vt_mount.specs.MountsValue.{are_ascending}
use Rattle.vt_propagate.specs.Falling.{FallsTo, LeavesBy, all_points_left, left_by, moved_by, of_mounts, point_left, point_left_of, points_left_on}
use Rattle.vt_propagate.proofs.Found.{numbered, numbered_among}
use Rattle.vt_propagate.proofs.Leaving.{numbered-number}
use Rattle.vt_laws_mounts.proofs.letting_go.Lists.{found_in}
use Rattle.vt_laws_mounts.specs.Mounts.Attaching.{numbers_of}

module _ (mounts : List (Mount ℕ)) (gone : List ℕ) (number : ℕ) {mount : Mount ℕ} (found : Some mount
    ≡ numbered mounts number) where
  -- a mount that goes gets no new mount point
  left_none : is_going nat_eq gone number ≡ true → None ≡ point_left_of mounts gone number
  left_none is = sym (ap (λ b. if b then None else option_map (λ place. (
    mount.number,
    inherited_mount_point nat_eq (of_mounts mounts) gone place,
  )) mount.mount_point) (ap (is_going nat_eq gone) (sym (numbered-number mounts number mount found)) ∙ is))
      ∙ ap (λ o. then_some o (point_left mounts gone)) found

  -- one that stays gets the place that is left below it
  pub left_some : is_going nat_eq gone number ≡ false → {place : Location ℕ} → mount.mount_point ≡ Some place
      → Some (number, inherited_mount_point nat_eq (of_mounts mounts) gone place) ≡ point_left_of mounts gone number
  left_some stays {place} at = ap (λ n. Some (n, inherited_mount_point nat_eq (of_mounts mounts) gone place))
      (numbered-number mounts number mount found)
      ∙ ap (option_map (λ place. (mount.number, inherited_mount_point nat_eq (of_mounts mounts) gone place))) (sym at)
      ∙ sym (ap (λ b. if b then None else option_map (λ place. (
        mount.number,
        inherited_mount_point nat_eq (of_mounts mounts) gone place,
      )) mount.mount_point) (ap (is_going nat_eq gone) (sym (numbered-number mounts number mount found)) ∙ stays))
      ∙ ap (λ o. then_some o (point_left mounts gone)) found

-- what goes gets none, whether it exists or not
pub left_gone : (mounts : List (Mount ℕ)) (gone : List ℕ) (number : ℕ) → is_going nat_eq gone number ≡ true
    → None ≡ point_left_of mounts gone number
left_gone mounts gone number is = by (numbered mounts number) refl
  where
    by : (found : Option (Mount ℕ)) → found ≡ numbered mounts number → None ≡ point_left_of mounts gone number
    by None e = ap (λ o. then_some o (point_left mounts gone)) e
    by (Some mount) e = left_none mounts gone number e is

-- Lists of pairs

module _ {B : Type 0} where
  -- what is looked up in a list stands there
  pub lookup_pair : (number : ℕ) (pairs : List (ℕ × B)) (b : B) → lookup (nat_eq number) pairs ≡ Some b
      → Among (number, b) pairs
  lookup_pair number [] b e = absurd (true≢false (sym (ap is_some e)))
  lookup_pair number (pair ∷ rest) b e = grind (arith, common_steps, lookup_pair number rest, eqb-true, same_Some)

  pair_found : (number : ℕ) (pairs : List (ℕ × B)) (b : B) → Among (number, b) pairs
      → is_some (lookup (nat_eq number) pairs) ≡ true
  pair_found number [] b m = absurd m
  pair_found number (pair ∷ rest) b m = grind (arith, common_steps, pair_found number rest, eq-eqb)

-- New mount points of the mounts that stay

module _ (world : World ℕ) (up : are_ascending world.mounts ≡ true) (gone : List ℕ) where
  abbrev points : List (ℕ × Location ℕ)
  points = all_points_left world.mounts gone

  abbrev left : Location ℕ → Location ℕ
  left place = inherited_mount_point nat_eq world gone place

  -- what an entry tells of the mount with its number
  entry_tells : (mount : Mount ℕ) → Among mount world.mounts → (place : Location ℕ) → Among (mount.number, place) points
      → option_map left mount.mount_point ≡ Some place
  entry_tells mount m place among =
      let on = among-from_flat_map (points_left_on world.mounts gone) gone (mount.number, place) among in
      let from = among-from_filter_map (point_left_of world.mounts gone)
      (numbers_of (children nat_eq world.mounts on.0)) (mount.number, place) on.2 in
      by from.0 (numbered world.mounts from.0) refl from.2
    where
      told : (other : Mount ℕ) → Among other world.mounts → (b : Bool)
          → (if b then None else option_map {U = ℕ × Location ℕ} (λ at. (other.number, left at)) other.mount_point)
          ≡ Some (mount.number, place) → option_map left mount.mount_point ≡ Some place
      told other l true e = absurd (true≢false (sym (ap is_some e)))
      told other l false e = point other.mount_point refl e
        where
          point : (o : Option (Location ℕ)) → other.mount_point ≡ o → option_map {U = ℕ
              × Location ℕ} (λ at. (other.number, left at)) o ≡ Some (mount.number, place)
              → option_map left mount.mount_point ≡ Some place
          point None f e = absurd (true≢false (sym (ap is_some e)))
          point (Some at) f e =
              let pair = same_Some (other.number, left at) (mount.number, place) e in
              let same : other ≡ mount = same_Some other mount (sym (numbered_among world.mounts up other l)
              ∙ ap (numbered world.mounts) (ap (λ p. p.0) pair) ∙ numbered_among world.mounts up mount m) in
              ap (λ x. option_map left x.mount_point) (sym same) ∙ ap (option_map left) f ∙ ap (λ p. Some p.1) pair

      by : (number : ℕ) (o : Option (Mount ℕ)) → numbered world.mounts number ≡ o
          → then_some o (point_left world.mounts gone) ≡ Some (mount.number, place)
          → option_map left mount.mount_point ≡ Some place
      by number None f e = absurd (true≢false (sym (ap is_some e)))
      by number (Some other) f e =
          told other (found_in (λ (x : Mount ℕ). nat_eq number x.number) world.mounts other f).0
          (is_going nat_eq gone other.number) e

  -- a mount on one that goes has an entry
  has_entry : (mount : Mount ℕ) → Among mount world.mounts → is_going nat_eq gone mount.number ≡ false
      → {place : Location ℕ} → mount.mount_point ≡ Some place → is_going nat_eq gone place.mount ≡ true
      → Among (mount.number, left place) points
  has_entry mount m stays {place} at goes =
      among-flat_map (points_left_on world.mounts gone) gone place.mount (mount.number, left place)
      (among_numbers gone place.mount goes) (among-filter_map (point_left_of world.mounts gone) (numbers_of
      (children nat_eq world.mounts place.mount)) mount.number (mount.number, left place)
      (among-map (λ x. x.number) (children nat_eq world.mounts place.mount) mount
      (among-filter (stands_on nat_eq place.mount) world.mounts mount m
      (ap (holds_of (λ p. nat_eq place.mount p.mount)) at ∙ eq-eqb place.mount place.mount refl)))
      (sym (left_some world.mounts gone mount.number (sym (numbered_among world.mounts up mount m)) stays at)))

  same_point : (mount : Mount ℕ) → Among mount world.mounts → is_going nat_eq gone mount.number ≡ false
      → option_map left mount.mount_point ≡ or_else (lookup (nat_eq mount.number) points) mount.mount_point
  same_point mount m stays = by (lookup (nat_eq mount.number) points) refl
    where
      unmoved : lookup (nat_eq mount.number) points ≡ None → (o : Option (Location ℕ)) → mount.mount_point ≡ o
          → option_map left o ≡ o
      unmoved absent None at = refl
      unmoved absent (Some place) at = ap Some (choose (is_going nat_eq gone place.mount) refl)
        where
          choose : (b : Bool) → is_going nat_eq gone place.mount ≡ b → left place ≡ place
          choose true goes = absurd (true≢false (sym (pair_found mount.number points (left place)
              (has_entry mount m stays at goes)) ∙ ap is_some absent))
          choose false goes = end-here (mount_point_of_parent nat_eq world gone) (length world.mounts) place
              (ap (λ b. if b then (mount_in nat_eq world.mounts place.mount).mount_point else None) goes)

      by : (o : Option (Location ℕ)) → lookup (nat_eq mount.number) points ≡ o → option_map left mount.mount_point
          ≡ or_else o mount.mount_point
      by None e = unmoved e mount.mount_point refl
      by (Some place) e = entry_tells mount m place (lookup_pair mount.number points place e)

  same_mounts : (mounts : List (Mount ℕ)) → ((mount : Mount ℕ) → Among mount mounts → Among mount world.mounts)
      → map (after_going nat_eq world gone) mounts ≡ map (left_by gone points) mounts
  same_mounts [] within = refl
  same_mounts (mount ∷ rest) within =
      λ i. by (is_going nat_eq gone mount.number) refl i ∷ same_mounts rest (λ x m. within x (inr m)) i
    where
      by : (b : Bool) → is_going nat_eq gone mount.number ≡ b
          → (if b then detached mount else record mount { mount_point = option_map left mount.mount_point })
          ≡ (if b then detached mount else moved_by points mount)
      by true e = refl
      by false e = λ i. record mount { mount_point = same_point mount (within mount (inl refl)) e i }

  -- the mounts that are left stand at the points that code has for them
  pub leaves : LeavesBy world gone points
  leaves = ap (λ mounts. regrouped nat_eq (with_mounts world mounts)) (same_mounts world.mounts (λ mount m. m))

  -- each entry is of a mount that stays
  pub each_falls : All (FallsTo world gone) points
  each_falls = all_from_among (FallsTo world gone) points (λ entry among.
      let on = among-from_flat_map (points_left_on world.mounts gone) gone entry among in
      let from = among-from_filter_map (point_left_of world.mounts gone)
      (numbers_of (children nat_eq world.mounts on.0)) entry on.2 in
      by entry from.0 (numbered world.mounts from.0) refl from.2)
    where
      told : (entry : ℕ × Location ℕ) (other : Mount ℕ) → Among other world.mounts → (b : Bool)
          → is_going nat_eq gone other.number ≡ b
          → (if b then None else option_map {U = ℕ × Location ℕ} (λ at. (other.number, left at)) other.mount_point)
          ≡ Some entry → FallsTo world gone entry
      told entry other l true stays e = absurd (true≢false (sym (ap is_some e)))
      told entry other l false stays e = point other.mount_point refl e
        where
          point : (o : Option (Location ℕ)) → other.mount_point ≡ o
              → option_map {U = ℕ × Location ℕ} (λ at. (other.number, left at)) o ≡ Some entry
              → FallsTo world gone entry
          point None f h = absurd (true≢false (sym (ap is_some h)))
          point (Some at) f h = subst (FallsTo world gone) (same_Some (other.number, left at) entry h) (
            stays,
            ap (λ o. option_map left (unwrap_or o (no_mount other.number)).mount_point)
                (numbered_among world.mounts up other l) ∙ ap (option_map left) f,
          )

      by : (entry : ℕ × Location ℕ) (number : ℕ) (o : Option (Mount ℕ)) → numbered world.mounts number ≡ o
          → then_some o (point_left world.mounts gone) ≡ Some entry → FallsTo world gone entry
      by entry number None f e = absurd (true≢false (sym (ap is_some e)))
      by entry number (Some other) f e =
          told entry other (found_in (λ (x : Mount ℕ). nat_eq number x.number) world.mounts other f).0
          (is_going nat_eq gone other.number) refl e
