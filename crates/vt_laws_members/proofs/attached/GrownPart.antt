-- The part of a world in which mounts of theirs changed, others came after all, and show filesystems of theirs or new
-- ones.
use Rattle.std.proofs.Common.{arith, ◌≡◌, refl, sym, ap, subst, ◌∙◌, ◌⊎◌, inl, inr, ⊎_elim, ℕ, nat_eq, Bool, true, false, cond, true≢false, List, [], ◌∷◌, ◌++◌, Option, Some, None, find, map, ◌||◌, ◌&&◌, eqb-true, option_map, option_to_list, unwrap_or, filter_map}
use Rattle.vt_spec.proofs.Common.{Among, Filesystem, Layer, Location, Mount, Overlay, Task, TaskName, World, among-append, among-append_left, among-append_right, among-filter, among-flat_map, among-from_filter, among-from_flat_map, among-from_map, among-map, among_numbers, and_parts, any_among, any_from_among, change_layers, common_steps, filesystem_numbered, filter_alike, filter_map-append, find-append, is_among, is_among_numbers, is_at, is_own_mount, is_under, layers_of, lies_in_layer, lies_in_own_lower, list_any, locations, members, mount_at, mount_in, no_filesystem, no_mount, none_among, of_overlay, or_left, own_lowers, own_mounts, part_of, part_of_filesystem, part_of_lower, part_of_master, roots_and_directories, same_truth, seen_by_descriptor, used_directly, used_filesystems, when}
use Rattle.std.specs.Option.{option_or}
use Rattle.vt_laws_members.proofs.Common.{among-each_once, among-from_each_once, filter_map_same, find_none, is_own, keep, kept_how, kept_whole, used_directly_used}

-- what is kept of changed elements, where they are changed as they are kept
filter_map_changed : {A : Type 0} (k : A → Option A) (f : A → A) (xs : List A)
    → ((x : A) → Among x xs → k (f x) ≡ option_map f (k x)) → filter_map k (map f xs) ≡ map f (filter_map k xs)
filter_map_changed k f [] same = refl
filter_map_changed {A} k f (x ∷ xs) same = grind (arith, common_steps, filter_map_changed k f xs)

filter_map_all : {A : Type 0} (k : A → Option A) (xs : List A) → ((x : A) → Among x xs → k x ≡ Some x)
    → filter_map k xs ≡ xs
filter_map_all k [] same = refl
filter_map_all k (x ∷ xs) same = cc (same x (inl refl), filter_map_all k xs (λ y m. same y (inr m)))

or_none : {A : Type 0} (o p : Option A) → p ≡ None → option_or o p ≡ o
or_none None p e = e
or_none (Some a) p e = refl

-- what passes is found
first_found : {A : Type 0} (test : A → Bool) (xs : List A) → list_any test xs ≡ true
    → (x : A) × Among x xs × (find test xs ≡ Some x)
first_found test [] h = cc
first_found {A} test (x ∷ xs) h = by (test x) h (first_found test xs)
  where
    by : (b : Bool) → (b || list_any test xs) ≡ true
        → (list_any test xs ≡ true → (y : A) × Among y xs × (find test xs ≡ Some y))
        → (y : A) × Among y (x ∷ xs) × (cond b (Some x) (find test xs) ≡ Some y)
    by true g later = (x, inl refl, refl)
    by false g later = let its = later g in (its.0, inr its.1, its.2)

-- what is not among new filesystems is found before them
pub found_before : (w : World ℕ) (new : List (Filesystem ℕ)) (n : ℕ)
    → list_any (λ (f : Filesystem ℕ). nat_eq n f.number) new ≡ false
    → unwrap_or (find (λ (f : Filesystem ℕ). nat_eq n f.number) (w.filesystems ++ new)) (no_filesystem n)
    ≡ filesystem_numbered nat_eq w n
found_before w new n other = ap (λ o. unwrap_or o (no_filesystem n))
    (find-append (λ (f : Filesystem ℕ). nat_eq n f.number) w.filesystems new
    ∙ or_none (find (λ (f : Filesystem ℕ). nat_eq n f.number) w.filesystems)
    (find (λ (f : Filesystem ℕ). nat_eq n f.number) new) (find_none (λ (f : Filesystem ℕ). nat_eq n f.number) new
    (none_among (λ (f : Filesystem ℕ). nat_eq n f.number) new other)))

-- what is used, by what is used directly
pub used_how : (w : World ℕ) (names : List TaskName) (n : ℕ) → is_among nat_eq n (used_filesystems nat_eq w names)
    ≡ true → Among n (used_directly nat_eq w names)
    ⊎ ((d : ℕ) × Among d (used_directly nat_eq w names) × Among n (change_layers (filesystem_numbered nat_eq w d)))
used_how w names n h = ⊎_elim inl (λ m. let from = among-from_flat_map _ _ n m in inr (from.0, from.1, from.2))
    (among-append (used_directly nat_eq w names) _ n (among-from_each_once _ n (among_numbers _ n h)))

used_by_layer : (w : World ℕ) (names : List TaskName) (n d : ℕ) → Among d (used_directly nat_eq w names)
    → Among n (change_layers (filesystem_numbered nat_eq w d))
    → is_among nat_eq n (used_filesystems nat_eq w names) ≡ true
used_by_layer w names n d m on = is_among_numbers (used_filesystems nat_eq w names) n
    (among-each_once _ n (among-append_right (used_directly nat_eq w names) _ n (among-flat_map _ _ d n m on)))

abbrev lowers_at : World ℕ → ℕ → List (Layer ℕ)
lowers_at w n = of_overlay [] (λ (overlay : Overlay ℕ). overlay.lowers) (filesystem_numbered nat_eq w n)

abbrev has_lower : List (Layer ℕ) → ℕ → Bool
has_lower layers n = list_any (λ (layer : Layer ℕ). nat_eq n layer.filesystem) layers

module _ (v : World ℕ) (names : List TaskName) (change : Mount ℕ → Mount ℕ) (added : List (Mount ℕ))
    (new : List (Filesystem ℕ)) (master : ℕ → Option ℕ) where
  abbrev pub grown_world : World ℕ
  grown_world = record v {
    mounts = map change v.mounts ++ added;
    master = master;
    filesystems = v.filesystems ++ new;
  }

  abbrev owned : Mount ℕ → Bool
  owned = is_own v names (members v names)

  abbrev pub is_new : ℕ → Bool
  is_new n = list_any (λ (f : Filesystem ℕ). nat_eq n f.number) new

  -- mounts of theirs change, and keep their number and what they show; more come, and show what is used or new
  pub record Grows : Type 0 where
    pub kept : (x : Mount ℕ) → Among x v.mounts → owned x ≡ true
        → (owned (change x) ≡ true) × ((change x).number ≡ x.number) × ((change x).filesystem ≡ x.filesystem)
    pub others : (x : Mount ℕ) → Among x v.mounts → owned x ≡ false
        → (change x ≡ x) × (change (seen_by_descriptor x) ≡ seen_by_descriptor x)
    pub ours : (x : Mount ℕ) → Among x added → owned x ≡ true
    pub shown : (x : Mount ℕ) → Among x added
        → Among x.filesystem (used_directly nat_eq v names) ⊎ (is_new x.filesystem ≡ true)
    pub located : (l : Location ℕ) → Among l (locations (members v names))
        → is_among nat_eq l.mount (map (λ (m : Mount ℕ). m.number) v.mounts) ≡ true
    pub unused : (n : ℕ) → is_new n ≡ true → is_among nat_eq n (used_filesystems nat_eq v names) ≡ false
    pub unlisted : (f : Filesystem ℕ) → Among f v.filesystems → is_new f.number ≡ false
    pub layers : (f : Filesystem ℕ) → Among f new → (layer : Layer ℕ) → Among layer (of_overlay [] layers_of f)
        → Among layer.filesystem (used_directly nat_eq v names)
    pub mounted : (f : Filesystem ℕ) → Among f new → (x : Mount ℕ) × Among x added × (x.filesystem ≡ f.number)

module _ {v : World ℕ} {names : List TaskName} {change : Mount ℕ → Mount ℕ} {added : List (Mount ℕ)}
    {new : List (Filesystem ℕ)} {master : ℕ → Option ℕ} (it : Grows v names change added new master) where
  abbrev u : World ℕ
  u = grown_world v names change added new master

  abbrev theirs : List (Task ℕ)
  theirs = members v names

  abbrev owns : Mount ℕ → Bool
  owns = is_own v names theirs

  abbrev kept : Mount ℕ → Option (Mount ℕ)
  kept = keep v names theirs

  abbrev fresh_one : ℕ → Bool
  fresh_one = is_new v names change added new master

  -- Mounts
  own_kept : (x : Mount ℕ) → owns x ≡ true → kept x ≡ Some x
  own_kept x own = kept_whole v names theirs x (or_left (owns x) (is_at nat_eq (roots_and_directories theirs) x) own)

  kept_changed : (x : Mount ℕ) → Among x v.mounts → kept (change x) ≡ option_map change (kept x)
  kept_changed x m = grind (arith, common_steps, kept_how, own_kept)

  mounts_grown : filter_map kept u.mounts ≡ map change (filter_map kept v.mounts) ++ added
  mounts_grown = cc (
    filter_map-append kept
        (map change v.mounts) added,
    filter_map_changed kept change v.mounts kept_changed,
    filter_map_all kept added
        (λ x m. own_kept x (it.ours x m)),
  )

  pub as_before : (x : Mount ℕ) → Among x v.mounts
      → ((change x).number ≡ x.number) × ((change x).filesystem ≡ x.filesystem)
  as_before x m = grind (arith, common_steps)

  -- a mount of theirs afterwards
  pub own_how : (y : Mount ℕ) → Among y u.mounts → owns y ≡ true
      → ((x : Mount ℕ) × Among x v.mounts × (owns x ≡ true) × (y ≡ change x)) ⊎ Among y added
  own_how y m own = ⊎_elim (λ old. let from = among-from_map change v.mounts y old in
      inl (from.0, from.1, by from.0 from.1 from.2 _ refl, from.2)) inr (among-append (map change v.mounts) added y m)
    where
      by : (x : Mount ℕ) → Among x v.mounts → y ≡ change x → (b : Bool) → owns x ≡ b → owns x ≡ true
      by x n e true f = f
      by x n e false f = cc ((it.others x n f).0)

  -- a mount of before is found, and shows what it showed
  pub shows_still : (number : ℕ) → is_among nat_eq number (map (λ (m : Mount ℕ). m.number) v.mounts) ≡ true
      → (mount_in nat_eq u.mounts number).filesystem ≡ (mount_in nat_eq v.mounts number).filesystem
  shows_still number = search v.mounts (λ x m. m)
    where
      search : (list : List (Mount ℕ)) → ((x : Mount ℕ) → Among x list → Among x v.mounts)
          → is_among nat_eq number (map (λ (m : Mount ℕ). m.number) list) ≡ true
          → (mount_in nat_eq (map change list ++ added) number).filesystem ≡ (mount_in nat_eq list number).filesystem
      search [] sub h = cc
      search (x ∷ rest) sub h =
          cc ((as_before x (sub x (inl refl))).0, by (nat_eq number x.number) h (search rest (λ y m. sub y (inr m))))
        where
          by : (b : Bool) → (b || is_among nat_eq number (map (λ (m : Mount ℕ). m.number) rest)) ≡ true
              → (is_among nat_eq number (map (λ (m : Mount ℕ). m.number) rest) ≡ true
              → (mount_in nat_eq (map change rest ++ added) number).filesystem
              ≡ (mount_in nat_eq rest number).filesystem) → (unwrap_or (cond b (Some (change x))
              (find (λ (m : Mount ℕ). nat_eq number m.number) (map change rest ++ added))) (no_mount number)).filesystem
              ≡ (unwrap_or (cond b (Some x) (find (λ (m : Mount ℕ). nat_eq number m.number) rest))
              (no_mount number)).filesystem
          by true g later = (as_before x (sub x (inl refl))).1
          by false g later = later g

  -- Filesystems that are used directly
  abbrev mounted_in : World ℕ → List ℕ
  mounted_in w = map (λ (m : Mount ℕ). m.filesystem) (own_mounts nat_eq w names)

  abbrev located_in : World ℕ → List ℕ
  located_in w = map (λ (l : Location ℕ). (mount_at nat_eq w l).filesystem) (locations theirs)

  direct_of_own : (w : World ℕ) → members w names ≡ theirs → (x : Mount ℕ) → Among x w.mounts → owns x ≡ true
      → Among x.filesystem (mounted_in w)
  direct_of_own w same x m own = among-map (λ (m : Mount ℕ). m.filesystem) (own_mounts nat_eq w names) x
      (among-filter (is_own_mount nat_eq w names) w.mounts x m (ap (λ ts. is_own v names ts x) same ∙ own))

  direct_from : (n : ℕ) → Among n (used_directly nat_eq u names)
      → Among n (used_directly nat_eq v names) ⊎ (fresh_one n ≡ true)
  direct_from n m = ⊎_elim by_mount by_location (among-append (mounted_in u) (located_in u) n m)
    where
      by_mount : Among n (mounted_in u) → Among n (used_directly nat_eq v names) ⊎ (fresh_one n ≡ true)
      by_mount shown =
          let y = among-from_map (λ (m : Mount ℕ). m.filesystem) (own_mounts nat_eq u names) n shown in
          let own = among-from_filter (is_own_mount nat_eq u names) u.mounts y.0 y.1 in
          ⊎_elim (λ old. inl (among-append_left (mounted_in v) (located_in v) n
          (rw (y.2 ∙ ap (λ (z : Mount ℕ). z.filesystem) old.3 ∙ (as_before old.0 old.1).1)
          (direct_of_own v refl old.0 old.1 old.2)))) (λ more. rw y.2 (it.shown y.0 more)) (own_how y.0 own.0 own.1)

      by_location : Among n (located_in u) → Among n (used_directly nat_eq v names) ⊎ (fresh_one n ≡ true)
      by_location at =
          let l = among-from_map (λ (l : Location ℕ). (mount_at nat_eq u l).filesystem) (locations theirs) n at in
          inl (among-append_right (mounted_in v) (located_in v) n (rw (l.2 ∙ shows_still l.0.mount (it.located l.0 l.1))
          (among-map (λ (k : Location ℕ). (mount_at nat_eq v k).filesystem) (locations theirs) l.0 l.1)))

  direct_to : (n : ℕ) → Among n (used_directly nat_eq v names) → Among n (used_directly nat_eq u names)
  direct_to n m = ⊎_elim by_mount by_location (among-append (mounted_in v) (located_in v) n m)
    where
      by_mount : Among n (mounted_in v) → Among n (used_directly nat_eq u names)
      by_mount shown =
          let x = among-from_map (λ (m : Mount ℕ). m.filesystem) (own_mounts nat_eq v names) n shown in
          let own = among-from_filter (is_own_mount nat_eq v names) v.mounts x.0 x.1 in
          among-append_left (mounted_in u) (located_in u) n (rw (x.2 ∙ sym (as_before x.0 own.0).1)
          (direct_of_own u refl (change x.0) (among-append_left (map change v.mounts) added (change x.0)
          (among-map change v.mounts x.0 own.0)) (it.kept x.0 own.0 own.1).0))

      by_location : Among n (located_in v) → Among n (used_directly nat_eq u names)
      by_location at =
          let l = among-from_map (λ (l : Location ℕ). (mount_at nat_eq v l).filesystem) (locations theirs) n at in
          among-append_right (mounted_in u) (located_in u) n (rw (l.2 ∙
          sym (shows_still l.0.mount (it.located l.0 l.1))) (among-map (λ (k : Location ℕ).
          (mount_at nat_eq u k).filesystem) (locations theirs) l.0 l.1))

  -- a new filesystem is used
  new_used : (f : Filesystem ℕ) → Among f new → is_among nat_eq f.number (used_filesystems nat_eq u names) ≡ true
  new_used f m =
      let x = it.mounted f m in
      used_directly_used u names f.number (rw (← x.2) (among-append_left (mounted_in u) (located_in u) x.0.filesystem
      (direct_of_own u refl x.0 (among-append_right (map change v.mounts) added x.0 x.1) (it.ours x.0 x.1))))

  -- Filesystems by number
  pub old_found : (n : ℕ) → fresh_one n ≡ false → filesystem_numbered nat_eq u n ≡ filesystem_numbered nat_eq v n
  old_found n other = found_before v new n other

  new_found : (n : ℕ) → fresh_one n ≡ true → (f : Filesystem ℕ) × Among f new × (filesystem_numbered nat_eq u n ≡ f)
  new_found n is =
      let its = first_found (λ (f : Filesystem ℕ). nat_eq n f.number) new is in (
        its.0,
        its.1,
        ap (λ o. unwrap_or o (no_filesystem n)) (find-append (λ (f : Filesystem ℕ). nat_eq n f.number) v.filesystems new
            ∙ ap (λ o. option_or o (find (λ (f : Filesystem ℕ). nat_eq n f.number) new))
            (find_none (λ (f : Filesystem ℕ). nat_eq n f.number) v.filesystems
            (λ f m. not_old f m (nat_eq n f.number) refl)) ∙ its.2),
      )
    where
      not_old : (f : Filesystem ℕ) → Among f v.filesystems → (b : Bool) → nat_eq n f.number ≡ b → b ≡ false
      not_old f m true e = cc (eqb-true n f.number e, it.unlisted f m)
      not_old f m false e = refl

  -- what is used is not new
  used_is_old : (n : ℕ) → is_among nat_eq n (used_filesystems nat_eq v names) ≡ true → fresh_one n ≡ false
  used_is_old n used = grind (arith, common_steps, true≢false)

  direct_is_old : (d : ℕ) → Among d (used_directly nat_eq v names) → fresh_one d ≡ false
  direct_is_old d m = used_is_old d (used_directly_used v names d m)

  -- something of the overlay of a filesystem that they use directly
  module _ {A : Type 0} (of : Overlay ℕ → List A) where
    abbrev its : World ℕ → ℕ → List A
    its w d = of_overlay [] of (filesystem_numbered nat_eq w d)

    of_same : (d : ℕ) → Among d (used_directly nat_eq v names) → its u d ≡ its v d
    of_same d m = cc (old_found d (direct_is_old d m))

  abbrev changes : Overlay ℕ → List ℕ
  changes overlay =
      map (λ (layer : Layer ℕ). layer.filesystem) (option_to_list overlay.upper ++ option_to_list overlay.work)

  -- the layers of new overlays lie in what is used
  layer_used : (f : Filesystem ℕ) → Among f new → (layer : Layer ℕ) → Among layer (of_overlay [] layers_of f)
      → is_among nat_eq layer.filesystem (used_filesystems nat_eq v names) ≡ true
  layer_used f at layer m = used_directly_used v names layer.filesystem (it.layers f at layer m)

  new_changes : (f : Filesystem ℕ) → Among f new → (n : ℕ) → Among n (change_layers f)
      → is_among nat_eq n (used_filesystems nat_eq v names) ≡ true
  new_changes f at n = grind (arith, common_steps, among-from_map, layer_used, among-append_left)

  new_lowers : (f : Filesystem ℕ) → Among f new → (layer : Layer ℕ)
      → Among layer (of_overlay [] (λ (overlay : Overlay ℕ). overlay.lowers) f)
      → is_among nat_eq layer.filesystem (used_filesystems nat_eq v names) ≡ true
  new_lowers f at layer = grind (arith, common_steps, layer_used, among-append_right)

  pub used_same : (n : ℕ) → fresh_one n ≡ false → is_among nat_eq n (used_filesystems nat_eq u names)
      ≡ is_among nat_eq n (used_filesystems nat_eq v names)
  used_same n other = same_truth _ _ (λ h. ⊎_elim (λ direct. ⊎_elim (used_directly_used v names n) (λ is. cc)
      (direct_from n direct)) (λ layer. ⊎_elim (λ old. used_by_layer v names n layer.0 old
      (subst (Among n) (of_same changes layer.0 old) layer.2)) (λ is. let f = new_found layer.0 is in
      new_changes f.0 f.1 n (subst (Among n) (cc) layer.2)) (direct_from layer.0 layer.1))
      (used_how u names n h)) (λ h. ⊎_elim (λ direct. used_directly_used u names n (direct_to n direct))
      (λ layer. used_by_layer u names n layer.0 (direct_to layer.0 layer.1)
      (subst (Among n) (sym (of_same changes layer.0 layer.1)) layer.2)) (used_how v names n h))

  -- Lower layers are the same where no filesystem is new.
  pub lowers_stay : ((f : Filesystem ℕ) → ¬ Among f new) → (test : Layer ℕ → Bool)
      → list_any test (own_lowers nat_eq u names) ≡ list_any test (own_lowers nat_eq v names)
  lowers_stay none test = same_truth (list_any test (own_lowers nat_eq u names))
      (list_any test (own_lowers nat_eq v names)) (λ h. let at = any_among test (own_lowers nat_eq u names) h in let
      from = among-from_flat_map (lowers_at u) (used_directly nat_eq u names) at.0 at.1 in ⊎_elim
      (λ old. any_from_among test (own_lowers nat_eq v names) at.0 (among-flat_map (lowers_at v)
      (used_directly nat_eq v names) from.0 at.0 old (rw (← of_same (λ (overlay : Overlay ℕ). overlay.lowers) from.0
      old) from.2)) at.2) (λ is. let new_one = new_found from.0 is in absurd (none new_one.0 new_one.1))
      (direct_from from.0 from.1)) (λ h. let at = any_among test (own_lowers nat_eq v names) h in let from =
      among-from_flat_map (lowers_at v) (used_directly nat_eq v names) at.0 at.1 in any_from_among test
      (own_lowers nat_eq u names) at.0 (among-flat_map (lowers_at u) (used_directly nat_eq u names) from.0 at.0
      (direct_to from.0 from.1) (rw (of_same (λ (overlay : Overlay ℕ). overlay.lowers) from.0 from.1) from.2)) at.2)

  -- What the part has of filesystems
  module _ (f : Filesystem ℕ) (m : Among f v.filesystems)
      (outside : is_among nat_eq f.number (used_filesystems nat_eq v names) ≡ false) where
    -- new lower layers lie elsewhere
    lowers_same : (test : Layer ℕ → Bool) → ((layer : Layer ℕ) → test layer ≡ true → f.number ≡ layer.filesystem)
        → list_any test (own_lowers nat_eq u names) ≡ list_any test (own_lowers nat_eq v names)
    lowers_same test on =
        same_truth (list_any test (own_lowers nat_eq u names)) (list_any test (own_lowers nat_eq v names))
        (λ h. let at = any_among test (own_lowers nat_eq u names) h in let from = among-from_flat_map (lowers_at u)
        (used_directly nat_eq u names) at.0 at.1 in ⊎_elim (λ old. any_from_among test (own_lowers nat_eq v names) at.0
        (among-flat_map (lowers_at v) (used_directly nat_eq v names) from.0 at.0 old
        (rw (← of_same (λ (overlay : Overlay ℕ). overlay.lowers) from.0 old) from.2)) at.2)
        (λ is. let new_one = new_found from.0 is in cc (
          new_lowers new_one.0 new_one.1 at.0
              (subst (Among at.0) (ap (of_overlay [] (λ (overlay : Overlay ℕ). overlay.lowers)) new_one.2) from.2),
          on at.0
              at.2,
        )) (direct_from from.0 from.1)) (λ h. let at = any_among test (own_lowers nat_eq v names) h in let from =
        among-from_flat_map (lowers_at v) (used_directly nat_eq v names) at.0 at.1 in any_from_among test
        (own_lowers nat_eq u names) at.0 (among-flat_map (lowers_at u) (used_directly nat_eq u names) from.0 at.0
        (direct_to from.0 from.1) (rw (of_same (λ (overlay : Overlay ℕ). overlay.lowers) from.0 from.1) from.2)) at.2)

    lower_part_same : part_of_lower nat_eq u names f ≡ part_of_lower nat_eq v names f
    lower_part_same = cc (filter_alike (lies_in_own_lower nat_eq u names f.number)
        (lies_in_own_lower nat_eq v names f.number) f.files.numbers (λ object n.
        ap (λ (g : Filesystem ℕ). list_any (λ (layer : Layer ℕ). nat_eq f.number layer.filesystem && is_under nat_eq
        g.files layer.directory object) (own_lowers nat_eq u names)) (old_found f.number (it.unlisted f m)) ∙
        lowers_same (lies_in_layer nat_eq v f.number object) (λ layer h. eqb-true f.number layer.filesystem
        (and_parts (nat_eq f.number layer.filesystem) _ h).0)))

    outside_same : part_of_filesystem nat_eq u names f ≡ part_of_filesystem nat_eq v names f
    outside_same = grind (arith, common_steps, used_same, lowers_same, eqb-true, lower_part_same)

  filesystem_same : (f : Filesystem ℕ) → Among f v.filesystems
      → part_of_filesystem nat_eq u names f ≡ part_of_filesystem nat_eq v names f
  filesystem_same f m = grind (arith, common_steps, used_same, outside_same)

  filesystems_grown : filter_map (part_of_filesystem nat_eq u names) u.filesystems
      ≡ filter_map (part_of_filesystem nat_eq v names) v.filesystems ++ new
  filesystems_grown = cc (
    filter_map-append (part_of_filesystem nat_eq u names) v.filesystems new,
    filter_map_same (part_of_filesystem nat_eq u names) (part_of_filesystem nat_eq v names) v.filesystems
        filesystem_same,
    filter_map_all (part_of_filesystem nat_eq u names) new (λ f m. ap (λ b. cond b (Some f)
        (when (has_lower (own_lowers nat_eq u names) f.number) (part_of_lower nat_eq u names f))) (new_used f m)),
  )

  pub part_grown : part_of nat_eq u names ≡ record (part_of nat_eq v names) {
    mounts = map change (part_of nat_eq v names).mounts ++ added;
    master = part_of_master nat_eq u names;
    filesystems = (part_of nat_eq v names).filesystems ++ new;
  }
  part_grown i = record (part_of nat_eq v names) {
    mounts = mounts_grown i;
    master = part_of_master nat_eq u names;
    filesystems = filesystems_grown i;
  }
