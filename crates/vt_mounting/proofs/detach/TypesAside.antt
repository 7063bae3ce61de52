-- Mounts are detached alike whatever their types: a namespace that ends.
use Rattle.std.proofs.Common.{◌≡◌, refl, sym, ap, subst, ◌∙◌, ℕ, nat_eq, eqb-true, eq-eqb, Bool, true, false, true≢false, ◌||◌, List, [], ◌∷◌, ◌++◌, length, map, filter, Option, Some, None, option_map, is_some, if◌then◌else◌, arith}
use Rattle.vt_spec.proofs.Common.{Mount, World, common_steps, holds_of, is_among, length-map, list_any, map-append, map_alike, nat_eq-swapped, regrouped, same_Some, source_of}
use Rattle.vt_mounting.proofs.Common.{AllGroupsLive, Among, Grouping, Has, MountEntry, Shown, StillTyped, TakesAway, all_from_among, among-filter, among-from_filter, among-from_map, among-map, among_from_all, among_numbers, any-map, any_from_among, as_private, changed, entry_numbered, filter-map, found_in, is_among_numbers, mounts_in, no_groups, typed_entry}
use Rattle.vt_group.specs.Together.{changed_if, with_changed}
use Rattle.vt_group.proofs.Together.{is_among-snoc, taken_has}
use Rattle.vt_laws_mounts.proofs.letting_go.Lists.{is_among_right, held_number}
use Rattle.vt_location.specs.declared.locations.Location.{Location}
use Rattle.vt_retype.specs.Leaving.{OnlyTypesChange}
use Rattle.vt_mounting.specs.Detach.NamespacesLeft.{AreDetached, Detached, IsAttached, is_attached_in, numbers_inside}
use Rattle.vt_mounting.specs.Detach.Uses.{Kept, Merged, detached_entry, detached_use, let_go_mount, without_attachment}
use Rattle.vt_mounting.proofs.detach.FollowedTypes.{one_left}

module _ (groups : Grouping) where
  abbrev told : MountEntry → MountEntry
  told = typed_entry groups

  told-twice : (entry : MountEntry) → told (told entry) ≡ told entry
  told-twice entry = grind (arith, common_steps)

  -- with the types that the groups tell
  abbrev pub with_types : Kept → Kept
  with_types k = record k { mounts = map told k.mounts }

  found-told : (number : ℕ) (entries : List MountEntry)
      → entry_numbered (map told entries) number ≡ option_map told (entry_numbered entries number)
  found-told number [] = refl
  found-told number (entry ∷ rest) = grind (arith, common_steps, found-told number rest)

  let_go_told : (number : ℕ) (k : Kept) → with_types (let_go_mount number k) ≡ let_go_mount number (with_types k)
  let_go_told number k = grind (arith, common_steps, found-told, filter-map)

  detached-told : (number : ℕ) (entries : List MountEntry)
      → map told (changed number detached_entry (map told entries)) ≡ map told (changed number detached_entry entries)
  detached-told number [] = refl
  detached-told number (entry ∷ rest) = grind (arith, common_steps, detached-told number rest)

  -- one more is detached
  pub detached_alike : (number : ℕ) (point : Option Location) (one other : Kept)
      → map told one.mounts ≡ map told other.mounts → one.filesystems ≡ other.filesystems
      → one.overlays ≡ other.overlays
      → with_types (without_attachment number point one) ≡ with_types (without_attachment number point other)
  detached_alike number point one other same shown overlays = let_go_told number (detached_use number point one)
      ∙ ap (let_go_mount number) (λ i. record {
        mounts = (sym (detached-told number one.mounts)
            ∙ ap (λ entries. map told (changed number detached_entry entries)) same
            ∙ detached-told number other.mounts) i;
        filesystems = (detached_use number point (record one { filesystems = shown i })).filesystems;
        overlays = overlays i;
      }) ∙ sym (let_go_told number (detached_use number point other))

abbrev bare : MountEntry → MountEntry
bare = typed_entry no_groups

module _ (namespace : ℕ) (one other : List MountEntry) (same : OnlyTypesChange one other) where
  -- as many are attached
  pub attached_alike : length (filter (is_attached_in namespace) other) ≡ length (filter (is_attached_in namespace) one)
  attached_alike =
      sym (counted_so other) ∙ ap (λ entries. length (filter (is_attached_in namespace) entries)) (same no_groups)
      ∙ counted_so one
    where
      counted_so : (entries : List MountEntry) → length (filter (is_attached_in namespace) (map bare entries))
          ≡ length (filter (is_attached_in namespace) entries)
      counted_so entries =
          ap length (filter-map (is_attached_in namespace) {q = is_attached_in namespace} bare entries (λ entry. refl))
          ∙ length-map (filter (is_attached_in namespace) entries) bare

  pub none_alike : list_any (is_attached_in namespace) other ≡ false → list_any (is_attached_in namespace) one ≡ false
  none_alike none = sym (any-map (is_attached_in namespace) {q = is_attached_in namespace} bare one (λ entry. refl))
      ∙ ap (list_any (is_attached_in namespace)) (sym (same no_groups))
      ∙ any-map (is_attached_in namespace) {q = is_attached_in namespace} bare other (λ entry. refl) ∙ none

  -- what is attached there is attached here
  pub is_attached-alike : (shown : List Shown) (overlays : List Merged) {gone : Detached}
      → IsAttached namespace (record { mounts = other; filesystems = shown; overlays = overlays }) gone
      → IsAttached namespace (record { mounts = one; filesystems = shown; overlays = overlays }) gone
  is_attached-alike shown overlays {gone} is = by (entry_numbered one gone.number) refl
    where
      same_found : option_map bare (entry_numbered one gone.number) ≡ Some (bare is.entry)
      same_found = sym (found-told no_groups gone.number one)
          ∙ ap (λ entries. entry_numbered entries gone.number) (sym (same no_groups))
          ∙ found-told no_groups gone.number other ∙ ap (option_map bare) is.found

      by : (o : Option MountEntry) → entry_numbered one gone.number ≡ o
          → IsAttached namespace (record { mounts = one; filesystems = shown; overlays = overlays }) gone
      by None e = absurd (true≢false (sym (ap is_some (ap (option_map bare) (sym e) ∙ same_found))))
      by (Some entry) e =
          let its : bare entry ≡ bare is.entry =
          same_Some (bare entry) (bare is.entry) (ap (option_map bare) (sym e) ∙ same_found) in record {
            entry = entry;
            found = e;
            inside = ap (λ (x : MountEntry). x.mount.namespace) its ∙ is.inside;
            point = is.point ∙ sym (ap (λ (x : MountEntry). x.mount.mount_point) its);
            slot = is.slot;
          }

-- The mounts of a namespace, by their numbers

abbrev pub gone_numbers : List Detached → List ℕ
gone_numbers gone = map (λ one. one.number) gone

pub one_more_gone : (gone : List Detached) (one : Detached)
    → gone_numbers gone ++ one.number ∷ [] ≡ gone_numbers (gone ++ (one ∷ []))
one_more_gone gone one = sym (map-append (λ (x : Detached). x.number) gone (one ∷ []))

module _ (namespace : ℕ) where
  inside_listed : (entries : List MountEntry) (entry : MountEntry) → Among entry entries
      → entry.mount.namespace ≡ Some namespace
      → is_among nat_eq entry.mount.number (numbers_inside namespace entries) ≡ true
  inside_listed entries entry m inside = is_among_numbers entry.mount.number (numbers_inside namespace entries)
      (among-map (λ (mount : Mount ℕ). mount.number)
      (filter (λ (mount : Mount ℕ). holds_of (nat_eq namespace) mount.namespace) (mounts_in entries)) entry.mount
      (among-filter (λ (mount : Mount ℕ). holds_of (nat_eq namespace) mount.namespace) (mounts_in entries) entry.mount
      (among-map (λ (one : MountEntry). one.mount) entries entry m)
      (ap (holds_of (nat_eq namespace)) inside ∙ eq-eqb namespace namespace refl)))

  listed_inside : (entries : List MountEntry) (number : ℕ)
      → is_among nat_eq number (numbers_inside namespace entries) ≡ true
      → (entry : MountEntry) × Among entry entries × (number ≡ entry.mount.number)
      × (is_attached_in namespace entry ≡ true)
  listed_inside entries number is =
      let mount = among-from_map (λ (x : Mount ℕ). x.number)
      (filter (λ (x : Mount ℕ). holds_of (nat_eq namespace) x.namespace) (mounts_in entries)) number
      (among_numbers number (numbers_inside namespace entries) is) in
      let inside = among-from_filter (λ (x : Mount ℕ). holds_of (nat_eq namespace) x.namespace)
      (mounts_in entries) mount.0 mount.1 in
      let entry = among-from_map (λ (one : MountEntry). one.mount) entries mount.0 inside.0 in (
        entry.0,
        entry.1,
        mount.2 ∙ ap (λ (x : Mount ℕ). x.number) entry.2,
        ap (λ (x : Mount ℕ). holds_of (nat_eq namespace) x.namespace) (sym entry.2) ∙ inside.1,
      )

  -- those inside once one is detached were inside before
  inside_before : (number : ℕ) (point : Option Location) (k : Kept) (other : ℕ)
      → is_among nat_eq other (numbers_inside namespace (without_attachment number point k).mounts) ≡ true
      → is_among nat_eq other (numbers_inside namespace k.mounts) ≡ true
  inside_before number point k other is =
      let at = listed_inside (without_attachment number point k).mounts other is in
      subst (λ n. is_among nat_eq n (numbers_inside namespace k.mounts) ≡ true) (sym at.2)
      (one_left (λ entry. entry.mount.namespace ≡ Some namespace
      → is_among nat_eq entry.mount.number (numbers_inside namespace k.mounts) ≡ true) number point k
      (λ was m same none. absurd (true≢false (sym (ap is_some none))))
      (λ was m apart inside. inside_listed k.mounts was m inside)
      at.0 at.1 (held_number namespace at.0.mount.namespace at.3))

  gone_inside : (gone : List Detached) (k last : Kept) → AreDetached namespace gone k last → (number : ℕ)
      → is_among nat_eq number (gone_numbers gone) ≡ true
      → is_among nat_eq number (numbers_inside namespace k.mounts) ≡ true
  gone_inside [] k last are number is = absurd (true≢false (sym is))
  gone_inside (one ∷ gone) k last are number is = by (nat_eq number one.number) refl is
      (λ later. inside_before one.number one.point k number
      (gone_inside gone (without_attachment one.number one.point k) last are.1 number later))
    where
      first : is_among nat_eq one.number (numbers_inside namespace k.mounts) ≡ true
      first =
          let at = found_in
          (λ (entry : MountEntry). nat_eq one.number entry.mount.number) k.mounts are.0.entry are.0.found in
          subst (λ n. is_among nat_eq n (numbers_inside namespace k.mounts) ≡ true)
          (sym (eqb-true one.number are.0.entry.mount.number at.1))
          (inside_listed k.mounts are.0.entry at.0 are.0.inside)

      by : (b : Bool) → nat_eq number one.number ≡ b → (b || is_among nat_eq number (gone_numbers gone)) ≡ true
          → (is_among nat_eq number (gone_numbers gone) ≡ true
          → is_among nat_eq number (numbers_inside namespace k.mounts) ≡ true)
          → is_among nat_eq number (numbers_inside namespace k.mounts) ≡ true
      by true same later rest = subst (λ n. is_among nat_eq n (numbers_inside namespace k.mounts) ≡ true)
          (sym (eqb-true number one.number same)) first
      by false apart later rest = rest later

  -- a mount stays where another is detached
  stays_there : (number : ℕ) (point : Option Location) (k : Kept) (entry : MountEntry) → Among entry k.mounts
      → nat_eq number entry.mount.number ≡ false → Among entry (without_attachment number point k).mounts
  stays_there number point k entry m apart = grind (arith, common_steps, among-map, among-filter)

  inside_gone : (gone : List Detached) (k last : Kept) → AreDetached namespace gone k last
      → list_any (is_attached_in namespace) last.mounts ≡ false
      → (entry : MountEntry) → Among entry k.mounts → is_attached_in namespace entry ≡ true
      → is_among nat_eq entry.mount.number (gone_numbers gone) ≡ true
  inside_gone [] k last are none entry m inside =
      absurd (true≢false (sym (any_from_among (is_attached_in namespace) last.mounts entry
      (subst (λ (one : Kept). Among entry one.mounts) (sym are) m) inside) ∙ none))
  inside_gone (one ∷ gone) k last are none entry m inside =
      grind (arith, common_steps, inside_gone gone, nat_eq-swapped, stays_there)

  -- all of them are gone, and no other
  pub just_gone : (gone : List Detached) (k last : Kept) → AreDetached namespace gone k last
      → list_any (is_attached_in namespace) last.mounts ≡ false → (number : ℕ)
      → is_among nat_eq number (gone_numbers gone) ≡ is_among nat_eq number (numbers_inside namespace k.mounts)
  just_gone gone k last are none number =
      alike (is_among nat_eq number (gone_numbers gone)) (is_among nat_eq number (numbers_inside namespace k.mounts))
      (gone_inside gone k last are number) (λ is.
      let at = listed_inside k.mounts number is in
      subst (λ n. is_among nat_eq n (gone_numbers gone) ≡ true) (sym at.2)
      (inside_gone gone k last are none at.0 at.1 at.3))
    where
      alike : (a b : Bool) → (a ≡ true → b ≡ true) → (b ≡ true → a ≡ true) → a ≡ b
      alike true b to back = sym (to refl)
      alike false true to back = back refl
      alike false false to back = refl

  pub all_taken : (before now : Grouping) (gone : List Detached) (k last : Kept) → AreDetached namespace gone k last
      → list_any (is_attached_in namespace) last.mounts ≡ false
      → ((world : World ℕ) → Has world before → AllGroupsLive world
      → Has (regrouped nat_eq (with_changed as_private world (gone_numbers gone))) now)
      → TakesAway before now (numbers_inside namespace k.mounts)
  all_taken before now gone k last are none has world is living =
      taken_has world living (numbers_inside namespace k.mounts) now (subst (λ w. Has (regrouped nat_eq w) now)
      (λ i. record world {
        mounts = map_alike (changed_if as_private (gone_numbers gone))
            (changed_if as_private (numbers_inside namespace k.mounts)) world.mounts (λ mount m.
            ap (λ b. if b then record mount { propagation = as_private mount.propagation } else mount)
            (just_gone gone k last are none mount.number)) i;
      }) (has world is living))

-- one more is detached: it is private
pub still_detached : {groups : Grouping} {numbers : List ℕ} (number : ℕ) (point : Option Location) (k : Kept)
    → StillTyped groups numbers numbers k.mounts
    → StillTyped groups (numbers ++ number ∷ []) numbers (without_attachment number point k).mounts
still_detached {groups} {numbers} number point k still = record {
  typed = all_from_among (λ (entry : MountEntry). is_among nat_eq entry.mount.number (numbers ++ number ∷ []) ≡ false
      → typed_entry groups entry ≡ entry) (without_attachment number point k).mounts
      (one_left (λ (entry : MountEntry). is_among nat_eq entry.mount.number (numbers ++ number ∷ []) ≡ false
      → typed_entry groups entry ≡ entry) number point k
      (λ was m same apart. absurd (true≢false (sym (there was.mount.number same) ∙ apart))) (λ was m other apart.
      among_from_all (λ (one : MountEntry). is_among nat_eq one.mount.number numbers ≡ false
      → typed_entry groups one ≡ one) k.mounts still.typed was m
      (first (is_among nat_eq was.mount.number numbers) (nat_eq was.mount.number number)
      (sym (is_among-snoc was.mount.number number numbers) ∙ apart))));
  sourceless = all_from_among
      (λ (entry : MountEntry). is_among nat_eq entry.mount.number (numbers ++ number ∷ []) ≡ true
      → source_of entry.mount.propagation ≡ None) (without_attachment number point k).mounts
      (one_left (λ (entry : MountEntry). is_among nat_eq entry.mount.number (numbers ++ number ∷ []) ≡ true
      → source_of entry.mount.propagation ≡ None) number point k (λ was m same is. refl) (λ was m other is.
      among_from_all (λ (one : MountEntry). is_among nat_eq one.mount.number numbers ≡ true
      → source_of one.mount.propagation ≡ None) k.mounts still.sourceless was m
      (left (is_among nat_eq was.mount.number numbers) (nat_eq was.mount.number number)
      (nat_eq-swapped number was.mount.number false other)
      (sym (is_among-snoc was.mount.number number numbers) ∙ is))));
  private = still.private;
}
  where
    there : (other : ℕ) → nat_eq number other ≡ true → is_among nat_eq other (numbers ++ number ∷ []) ≡ true
    there other same = is_among-snoc other number numbers ∙ ap (λ b. is_among nat_eq other numbers || b)
        (nat_eq-swapped number other true same) ∙ second (is_among nat_eq other numbers)
      where
        second : (a : Bool) → (a || true) ≡ true
        second true = refl
        second false = refl

    first : (a b : Bool) → (a || b) ≡ false → a ≡ false
    first true b is = is
    first false b is = refl

    left : (a b : Bool) → b ≡ false → (a || b) ≡ true → a ≡ true
    left true b f is = refl
    left false b f is = sym f ∙ is

pub last_listed : (number : ℕ) (numbers : List ℕ) → is_among nat_eq number (numbers ++ number ∷ []) ≡ true
last_listed number numbers =
    is_among_right number numbers (number ∷ []) (ap (λ b. b || false) (eq-eqb number number refl))
