-- New mount points of mounts that are there, each once: which ones are taken, which are left, and where the mounts are
-- then.
use Rattle.std.proofs.Common.{◌≡◌, refl, sym, ap, subst, ◌∙◌, ⊎_elim, inl, inr, true≢false, ℕ, nat_eq, eq-eqb, eqb-true, Bool, true, false, cond, List, [], ◌∷◌, ◌++◌, map, Option, Some, None, is_some, option_and_then, option_to_list, ne_eqb, arith}
use Rattle.vt_spec.proofs.Common.{Mount, any_pair, common_steps, is_among, list_any, lookup, or_else, or_parts}
use Rattle.vt_mounting.proofs.Common.{Among, MountEntry, MovesOnce, among-append, among-map, among_from_list_all, any-map, changed, counted, entry_numbered, location_of, map_same, mounts_in, moved_by, none_among}
use Rattle.vt_location.specs.declared.locations.Location.{Location}
use Rattle.vt_spec.specs.Machine.Mounts as meant
use Rattle.vt_mounting.specs.Attach.Planned.{Point, left_at, placed_entry, points_left, points_taken, taken_at, with_points}
use Rattle.vt_mounting.specs.Attach.PlannedUses.{point_seen}

abbrev pub number_at : Point → ℕ
number_at point = counted point.mount.count

abbrev pub moved_at : List Point → Mount ℕ → Mount ℕ
moved_at points mount = moved_by (map point_seen points) mount

abbrev Once : List Point → Type 0
Once points = any_pair (λ (a b : ℕ × meant.Location ℕ). nat_eq a.0 b.0) (map point_seen points) ≡ false

abbrev Here : List Point → List MountEntry → Type 0
Here points entries = (point : Point) → Among point points → is_some (entry_numbered entries (number_at point)) ≡ true

-- one that is among the first is found there
found-among_first : (number : ℕ) (first later : List MountEntry) → is_some (entry_numbered first number) ≡ true
    → entry_numbered (first ++ later) number ≡ entry_numbered first number
found-among_first number [] later some = absurd cc
found-among_first number (entry ∷ first) later some = grind (arith, common_steps, found-among_first number first later)

-- The entry of another mount stays

entry_stays : (number other : ℕ) (place : Location) (entries : List MountEntry) → nat_eq number other ≡ false
    → entry_numbered (changed other (placed_entry place) entries) number ≡ entry_numbered entries number
entry_stays number other place [] apart = refl
entry_stays number other place (entry ∷ rest) apart =
    grind (arith, common_steps, entry_stays number other place rest apart, eqb-true)

entry_then : (number : ℕ) (points : List Point) (entries : List MountEntry)
    → list_any (λ (point : Point). nat_eq number (number_at point)) points ≡ false
    → entry_numbered (with_points points entries) number ≡ entry_numbered entries number
entry_then number [] entries apart = refl
entry_then number (point ∷ rest) entries apart =
    let parts = or_parts (nat_eq number (number_at point))
    (list_any (λ (other : Point). nat_eq number (number_at other)) rest) apart in
    entry_stays number (number_at point) point.place (with_points rest entries) parts.0
    ∙ entry_then number rest entries parts.1

once_parts : (point : Point) (rest : List Point) → Once (point ∷ rest)
    → (list_any (λ (other : Point). nat_eq (number_at point) (number_at other)) rest ≡ false) × Once rest
once_parts point rest once =
    let parts = or_parts (list_any (λ (b : ℕ × meant.Location ℕ). nat_eq (number_at point) b.0)
    (map point_seen rest)) _ once in (
      sym (any-map (λ (b : ℕ × meant.Location ℕ). nat_eq (number_at point) b.0) {q = λ (other : Point). nat_eq
          (number_at point) (number_at other)} point_seen rest (λ other. refl)) ∙ parts.0,
      parts.1,
    )

-- All at once

abbrev taken_now : List Point → List MountEntry → List Location
taken_now [] entries = []
taken_now (point ∷ rest) entries = taken_now rest entries ++ taken_at point entries

abbrev left_now : List Point → List MountEntry → List (meant.Location ℕ)
left_now [] entries = []
left_now (point ∷ rest) entries = left_now rest entries ++ left_at point entries

taken_is : (points : List Point) (entries : List MountEntry) → Once points
    → points_taken points entries ≡ taken_now points entries
taken_is [] entries once = refl
taken_is (point ∷ rest) entries once =
    let parts = once_parts point rest once in
    λ i. taken_is rest entries parts.1 i
    ++ cond (is_some (entry_then (number_at point) rest entries parts.0 i)) (point.place ∷ []) []

left_is : (points : List Point) (entries : List MountEntry) → Once points
    → points_left points entries ≡ left_now points entries
left_is [] entries once = refl
left_is (point ∷ rest) entries once =
    let parts = once_parts point rest once in
    λ i. left_is rest entries parts.1 i
    ++ option_to_list (option_and_then (λ (entry : MountEntry). entry.mount.mount_point)
    (entry_then (number_at point) rest entries parts.0 i))

-- with more mounts behind those that move

taken_first : (points : List Point) (front back : List MountEntry) → Here points front
    → taken_now points (front ++ back) ≡ taken_now points front
taken_first [] front back here = refl
taken_first (point ∷ rest) front back here = λ i. taken_first rest front back (λ other m. here other (inr m)) i
    ++ cond (is_some (found-among_first (number_at point) front back (here point (inl refl)) i)) (point.place ∷ []) []

left_first : (points : List Point) (front back : List MountEntry) → Here points front
    → left_now points (front ++ back) ≡ left_now points front
left_first [] front back here = refl
left_first (point ∷ rest) front back here = λ i. left_first rest front back (λ other m. here other (inr m)) i
    ++ option_to_list (option_and_then (λ (entry : MountEntry). entry.mount.mount_point)
    (found-among_first (number_at point) front back (here point (inl refl)) i))

-- Where they come from

taken_from : (points : List Point) (entries : List MountEntry) (place : Location)
    → Among place (taken_now points entries) → (point : Point) × Among point points × (place ≡ point.place)
taken_from [] entries place m = absurd m
taken_from (point ∷ rest) entries place m = ⊎_elim
    (λ early. let from = taken_from rest entries place early in (from.0, inr from.1, from.2))
    (λ last. by (is_some (entry_numbered entries (number_at point))) last)
    (among-append (taken_now rest entries) (taken_at point entries) place m)
  where
    by : (b : Bool) → Among place (cond b (point.place ∷ []) [])
        → (other : Point) × Among other (point ∷ rest) × (place ≡ other.place)
    by true last = ⊎_elim (λ same. (point, inl refl, same)) (λ none. absurd none) last
    by false last = absurd last

abbrev StoodAt : List MountEntry → meant.Location ℕ → Type 0
StoodAt entries place = (mount : Mount ℕ) × Among mount (mounts_in entries) × (mount.mount_point ≡ Some place)

found_entry : (number : ℕ) (entries : List MountEntry) (entry : MountEntry) → entry_numbered entries number ≡ Some entry
    → Among entry entries × (entry.mount.number ≡ number)
found_entry number [] entry e = absurd (true≢false (sym (ap is_some e)))
found_entry number (first ∷ rest) entry e = grind (arith, common_steps, found_entry number rest entry, eqb-true)

left_from : (points : List Point) (entries : List MountEntry) (place : meant.Location ℕ)
    → Among place (left_now points entries) → StoodAt entries place
left_from [] entries place m = absurd m
left_from (point ∷ rest) entries place m = ⊎_elim (λ early. left_from rest entries place early)
    (λ last. by (entry_numbered entries (number_at point)) refl last)
    (among-append (left_now rest entries) (left_at point entries) place m)
  where
    stood : (entry : MountEntry) → Among entry entries → (o : Option (meant.Location ℕ)) → entry.mount.mount_point ≡ o
        → Among place (option_to_list o) → StoodAt entries place
    stood entry n None e last = absurd last
    stood entry n (Some at) e last = ⊎_elim
        (λ same. (entry.mount, among-map (λ (x : MountEntry). x.mount) entries entry n, e ∙ ap Some (sym same)))
        (λ none. absurd none) last

    by : (o : Option MountEntry) → entry_numbered entries (number_at point) ≡ o
        → Among place (option_to_list (option_and_then (λ (entry : MountEntry). entry.mount.mount_point) o))
        → StoodAt entries place
    by None e last = absurd last
    by (Some entry) e last = stood entry
        (found_entry (number_at point) entries entry e).0 entry.mount.mount_point refl last

entry_some : (number : ℕ) (entries : List MountEntry)
    → is_among nat_eq number (map (λ (mount : Mount ℕ). mount.number) (mounts_in entries)) ≡ true
    → is_some (entry_numbered entries number) ≡ true
entry_some number [] there = absurd (true≢false (sym there))
entry_some number (entry ∷ rest) there = grind (arith, common_steps, entry_some number rest)

-- Where mounts are then

lookup_is : (points : List Point) → Once points → (point : Point) → Among point points
    → lookup (nat_eq (number_at point)) (map point_seen points) ≡ Some (location_of point.place)
lookup_is [] once point m = absurd m
lookup_is (first ∷ rest) once point m =
    let parts = once_parts first rest once in
    ⊎_elim
    (λ same. ap (λ b. cond b (Some (location_of first.place)) (lookup (nat_eq (number_at point)) (map point_seen rest)))
    (eq-eqb (number_at point) (number_at first) (ap number_at same))
    ∙ ap (λ (x : Point). Some (location_of x.place)) (sym same))
    (λ later. ap (λ b. cond b (Some (location_of first.place))
    (lookup (nat_eq (number_at point)) (map point_seen rest))) (ne_eqb (number_at point) (number_at first) (λ same.
    true≢false (sym (eq-eqb (number_at first) (number_at point) (sym same))
    ∙ none_among (λ (other : Point). nat_eq (number_at first) (number_at other)) rest parts.0 point later)))
    ∙ lookup_is rest parts.1 point later) m

lookup_none : (number : ℕ) (points : List Point)
    → list_any (λ (point : Point). nat_eq number (number_at point)) points ≡ false
    → lookup (nat_eq number) (map point_seen points) ≡ None
lookup_none number [] apart = refl
lookup_none number (point ∷ rest) apart = grind (arith, common_steps, lookup_none number rest, or_parts)

-- mounts with other numbers stay where they are
pub others_stay : (points : List Point) (mounts : List (Mount ℕ)) → ((mount : Mount ℕ) → Among mount mounts
    → list_any (λ (point : Point). nat_eq mount.number (number_at point)) points ≡ false)
    → map (moved_at points) mounts ≡ mounts
others_stay points mounts apart = map_same (moved_at points) mounts (λ mount m.
    ap (λ o. record mount { mount_point = or_else o mount.mount_point })
    (lookup_none mount.number points (apart mount m)))

module _ (entries : List MountEntry) (points : List Point)
    (once : MovesOnce (mounts_in entries) (map point_seen points)) where
  -- each mount that gets a new mount point has an entry
  points_entered : Here points entries
  points_entered point m = entry_some (number_at point) entries
      (among_from_list_all (λ (seen : ℕ × meant.Location ℕ). is_among nat_eq seen.0
      (map (λ (mount : Mount ℕ). mount.number) (mounts_in entries)))
      (map point_seen points) once.there (point_seen point) (among-map point_seen points point m))

  pub taken_with_more : (back : List MountEntry) → points_taken points (entries ++ back) ≡ points_taken points entries
  taken_with_more back = taken_is points (entries ++ back) once.once ∙ taken_first points entries back points_entered
      ∙ sym (taken_is points entries once.once)

  pub left_with_more : (back : List MountEntry) → points_left points (entries ++ back) ≡ points_left points entries
  left_with_more back = left_is points (entries ++ back) once.once ∙ left_first points entries back points_entered
      ∙ sym (left_is points entries once.once)

  -- a mount stood where one is left
  pub stood : (place : meant.Location ℕ) → Among place (points_left points entries) → StoodAt entries place
  stood place m = left_from points entries place (subst (Among place) (left_is points entries once.once) m)

  -- a mount stands where one is taken
  pub stands_then : (place : Location) → Among place (points_taken points entries)
      → (mount : Mount ℕ) × Among mount (map (moved_at points) (mounts_in entries))
      × (mount.mount_point ≡ Some (location_of place))
  stands_then place m =
      let from = taken_from points entries place (subst (Among place) (taken_is points entries once.once) m) in
      by from.0 from.1 from.2 (entry_numbered entries (number_at from.0)) refl (points_entered from.0 from.1)
    where
      by : (point : Point) → Among point points → place ≡ point.place → (o : Option MountEntry)
          → entry_numbered entries (number_at point) ≡ o → is_some o ≡ true
          → (mount : Mount ℕ) × Among mount (map (moved_at points) (mounts_in entries))
          × (mount.mount_point ≡ Some (location_of place))
      by point n same None e some = absurd (true≢false (sym some))
      by point n same (Some entry) e some =
          let found = found_entry (number_at point) entries entry e in (
            moved_at points entry.mount,
            among-map (moved_at points) (mounts_in entries) entry.mount
                (among-map (λ (x : MountEntry). x.mount) entries entry found.0),
            ap (λ o. or_else o entry.mount.mount_point)
                (ap (λ n. lookup (nat_eq n) (map point_seen points)) found.1 ∙ lookup_is points once.once point n)
                ∙ ap (λ at. Some (location_of at)) (sym same),
          )
