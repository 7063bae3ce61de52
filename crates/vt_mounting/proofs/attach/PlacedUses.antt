-- Mounts that get other mount points: what they use before and after.
use Rattle.std.proofs.Common.{◌≡◌, ◌⊎◌, refl, sym, ap, subst, ◌∙◌, inl, inr, ℕ, nat_eq, eqb-true, Bool, true, false, cond, List, [], ◌∷◌, ◌++◌, map, Option, Some, None, is_some, option_and_then, option_to_list, arith}
use Rattle.vt_spec.proofs.Common.{Mount, World, any_pair, common_steps, list_any, map-append, mount_in, or_parts, with_mounts}
use Rattle.vt_mounting.proofs.Common.{Exchanges, Inode, MountEntry, changed, counted, entry_numbered, exchanges_follow, inode_at, location_of, mount_is_placed, mounts_in, one_number_by_numbers}
use Rattle.vt_location.specs.declared.locations.Location.{Location}
use Rattle.vt_laws_mounts.proofs.mounts.MountsNumbered.{same_number}
use Rattle.vt_spec.specs.Machine.Mounts as meant
use Rattle.vt_mounting.specs.Attach.Planned.{Point, left_at, moved_to, placed_entry, points_left, points_taken, taken_at, with_points}
use Rattle.vt_mounting.specs.Attach.PlannedUses.{PointsAreUses}
use Rattle.vt_mounting.proofs.attach.PlannedMoves.{number_stays}

-- A mount among the others, or none of this number

record IsSplit (number : ℕ) (place : Location) (entries : List MountEntry) : Type 0 where
  front : List MountEntry
  back : List MountEntry
  entry : MountEntry
  was : entries ≡ front ++ entry ∷ back
  is : changed number (placed_entry place) entries ≡ front ++ placed_entry place entry ∷ back
  found : entry_numbered entries number ≡ Some entry

abbrev IsAbsent : ℕ → Location → List MountEntry → Type 0
IsAbsent number place entries = (changed number (placed_entry place) entries ≡ entries)
    × (entry_numbered entries number ≡ None)

module _ (number : ℕ) (place : Location) where
  none_changed : (entries : List MountEntry)
      → list_any (λ (mount : Mount ℕ). nat_eq number mount.number) (mounts_in entries) ≡ false
      → changed number (placed_entry place) entries ≡ entries
  none_changed [] none = refl
  none_changed (entry ∷ rest) none = grind (arith, common_steps, none_changed rest, or_parts)

  split_or_absent : (entries : List MountEntry) → any_pair same_number (mounts_in entries) ≡ false
      → IsSplit number place entries ⊎ IsAbsent number place entries
  split_or_absent [] one = inr (refl, refl)
  split_or_absent (first ∷ rest) one = by (nat_eq number first.mount.number) refl (split_or_absent rest parts.1)
    where
      parts : (list_any (same_number first.mount) (mounts_in rest) ≡ false)
          × (any_pair same_number (mounts_in rest) ≡ false)
      parts = or_parts (list_any (same_number first.mount) (mounts_in rest)) (any_pair same_number (mounts_in rest)) one

      by : (b : Bool) → nat_eq number first.mount.number ≡ b → IsSplit number place rest ⊎ IsAbsent number place rest
          → IsSplit number place (first ∷ rest) ⊎ IsAbsent number place (first ∷ rest)
      by true e later = inl (record {
        front = [];
        back = rest;
        entry = first;
        was = refl;
        is = λ i. cond (e i) (placed_entry place first) first
            ∷ none_changed rest (ap (λ n. list_any (λ (mount : Mount ℕ). nat_eq n mount.number) (mounts_in rest))
            (eqb-true number first.mount.number e) ∙ parts.0) i;
        found = ap (λ b. cond b (Some first) (entry_numbered rest number)) e;
      })
      by false e (inl split) = inl (record {
        front = first ∷ split.front;
        back = split.back;
        entry = split.entry;
        was = ap (λ others. first ∷ others) split.was;
        is = λ i. cond (e i) (placed_entry place first) first ∷ split.is i;
        found = ap (λ b. cond b (Some first) (entry_numbered rest number)) e ∙ split.found;
      })
      by false e (inr absent) = inr (
        (λ i. cond (e i) (placed_entry place first) first ∷ absent.0 i),
        ap (λ b. cond b (Some first) (entry_numbered rest number)) e ∙ absent.1,
      )

  -- numbers and filesystems stay

  numbers_one : (entries : List MountEntry)
      → map (λ (mount : Mount ℕ). mount.number) (mounts_in (changed number (placed_entry place) entries))
      ≡ map (λ (mount : Mount ℕ). mount.number) (mounts_in entries)
  numbers_one [] = refl
  numbers_one (entry ∷ rest) = λ i. number_stays place entry (nat_eq number entry.mount.number) i ∷ numbers_one rest i

  shows_one : (other : ℕ) (entries : List MountEntry)
      → (mount_in nat_eq (mounts_in (changed number (placed_entry place) entries)) other).filesystem
      ≡ (mount_in nat_eq (mounts_in entries) other).filesystem
  shows_one other [] = refl
  shows_one other (entry ∷ rest) = grind (arith, common_steps, shows_one other rest)

numbers_stay : (points : List Point) (entries : List MountEntry)
    → map (λ (mount : Mount ℕ). mount.number) (mounts_in (with_points points entries))
    ≡ map (λ (mount : Mount ℕ). mount.number) (mounts_in entries)
numbers_stay [] entries = refl
numbers_stay (point ∷ rest) entries = numbers_one (counted point.mount.count) point.place (with_points rest entries)
    ∙ numbers_stay rest entries

shows_stay : (other : ℕ) (points : List Point) (entries : List MountEntry)
    → (mount_in nat_eq (mounts_in (with_points points entries)) other).filesystem
    ≡ (mount_in nat_eq (mounts_in entries) other).filesystem
shows_stay other [] entries = refl
shows_stay other (point ∷ rest) entries = shows_one (counted point.mount.count) point.place other
    (with_points rest entries) ∙ shows_stay other rest entries

-- One after the other

nothing_exchanged : (world : World ℕ) (mounts : List (Mount ℕ)) → world.mounts ≡ mounts → (filesystem : ℕ)
    → Exchanges [] [] filesystem world (with_mounts world mounts)
nothing_exchanged world mounts same filesystem =
    subst (λ (list : List (Mount ℕ)). Exchanges [] [] filesystem world (with_mounts world list)) same
    (record { same = refl; uses = λ number. refl })

one_exchanged : (world : World ℕ) (entries : List MountEntry) (point : Point) → mounts_in entries ≡ world.mounts
    → any_pair same_number (mounts_in entries) ≡ false → (filesystem : ℕ)
    → Exchanges (map (inode_at world) (map location_of (taken_at point entries)))
    (map (inode_at world) (left_at point entries)) filesystem
    world (with_mounts world (mounts_in (moved_to point entries)))
one_exchanged world entries point are one filesystem = by
    (split_or_absent (counted point.mount.count) point.place entries one)
  where
    after : World ℕ
    after = with_mounts world (mounts_in (moved_to point entries))

    Uses : Option MountEntry → Type 0
    Uses o = Exchanges (map (inode_at world) (map location_of (cond (is_some o) (point.place ∷ []) [])))
        (map (inode_at world) (option_to_list
        (option_and_then (λ (entry : MountEntry). entry.mount.mount_point) o))) filesystem world after

    by : IsSplit (counted point.mount.count) point.place entries
        ⊎ IsAbsent (counted point.mount.count) point.place entries
        → Uses (entry_numbered entries (counted point.mount.count))
    by (inl split) = subst Uses (sym split.found)
        (mount_is_placed world after (mounts_in split.front) (mounts_in split.back) split.entry.mount
        (placed_entry point.place split.entry).mount refl refl (sym are ∙ ap mounts_in split.was
        ∙ map-append (λ (entry : MountEntry). entry.mount) split.front (split.entry ∷ split.back))
        (ap mounts_in split.is ∙ map-append (λ (entry : MountEntry). entry.mount) split.front
        (placed_entry point.place split.entry ∷ split.back)) refl refl refl filesystem)
    by (inr absent) = subst Uses (sym absent.1) (nothing_exchanged world (mounts_in (moved_to point entries))
        (sym are ∙ ap mounts_in (sym absent.0)) filesystem)

pub points_are_uses : PointsAreUses
points_are_uses world entries [] are one filesystem = nothing_exchanged world (mounts_in entries) (sym are) filesystem
points_are_uses world entries (point ∷ rest) are one filesystem = subst (λ (gained : List Inode). Exchanges gained
    (map (inode_at world) (points_left (point ∷ rest) entries)) filesystem world after)
    (sym (ap (map (inode_at world)) (map-append location_of (points_taken rest entries) taken)
    ∙ map-append (inode_at world) (map location_of (points_taken rest entries)) (map location_of taken)))
    (subst (λ (lost : List Inode). Exchanges (map (inode_at world) (map location_of (points_taken rest entries))
    ++ map (inode_at world) (map location_of taken)) lost filesystem world after)
    (sym (map-append (inode_at world) (points_left rest entries) left)) (exchanges_follow world between after
    (map (inode_at world) (map location_of (points_taken rest entries)))
    (map (inode_at world) (points_left rest entries))
    (map (inode_at world) (map location_of taken)) (map (inode_at world) left) filesystem
    (points_are_uses world entries rest are one filesystem)
    (subst (λ (at : meant.Location ℕ → Inode). Exchanges (map at (map location_of taken))
    (map at left) filesystem between after) same_places
    (one_exchanged between (with_points rest entries) point refl one_later filesystem))))
  where
    between : World ℕ
    between = with_mounts world (mounts_in (with_points rest entries))

    after : World ℕ
    after = with_mounts world (mounts_in (moved_to point (with_points rest entries)))

    taken : List Location
    taken = taken_at point (with_points rest entries)

    left : List (meant.Location ℕ)
    left = left_at point (with_points rest entries)

    one_later : any_pair same_number (mounts_in (with_points rest entries)) ≡ false
    one_later = one_number_by_numbers world.mounts (mounts_in (with_points rest entries))
        (numbers_stay rest entries ∙ ap (map (λ (mount : Mount ℕ). mount.number)) are) one

    same_places : inode_at between ≡ inode_at world
    same_places = λ i. λ location. (
      (shows_stay location.mount rest entries
          ∙ ap (λ mounts. (mount_in nat_eq mounts location.mount).filesystem) are) i,
      location.node,
    )
