-- The types of mounts where a group ends and its slaves get its master, one after another.
use Rattle.std.proofs.Common.{◌≡◌, ℕ, Bool, true, false, true≢false, ◌||◌, List, [], ◌∷◌, map, nat_eq, nat_lt, Option, None, Some, is_some, refl, ap, sym, ◌∙◌, cond, arith, eqb-true, ltb-true, find, if◌then◌else◌}
use Rattle.vt_spec.proofs.Common.{Among, Mount, Private, Propagation, Shared, Slave, Unbindable, among_from_all, and_parts, is_among, is_unbindable, list_all, map_alike, map_same, map_twice, nat_eq-swapped, same_Some, source_of}
use Rattle.vt_spec.specs.Machine.Receives.{slave_of_heir}
use Rattle.vt_group.specs.Grouping.{Grouping, master_in, propagation_in}
use Rattle.vt_group.specs.Leaving.{lone_group, type_after_end, type_once_ended}
use Rattle.vt_mount.specs.MountsValue.{MountEntry, are_ascending, changed, mounts_in}
use Rattle.vt_retype.specs.Leaving.{HaveSources, OnlyTypesChange, after_end, after_end_of, once_left}
use Rattle.vt_retype.specs.Retyping.{retyped, typed_entry, with_kind}

-- One type

module _ (lost : ℕ) (heir : Option ℕ) where
  -- what was handed on is not handed on again
  pub after_end-twice : (kind : Propagation ℕ)
      → type_after_end lost heir (type_after_end lost heir kind) ≡ type_after_end lost heir kind
  after_end-twice (Shared group) = refl
  after_end-twice (Slave master) = by (nat_eq master lost) refl
    where
      own : (above : ℕ) (b : Bool) → (if b then Slave above else Slave above) ≡ Slave above
      own above true = refl
      own above false = refl

      given : (o : Option ℕ) → type_after_end lost o (slave_of_heir o) ≡ slave_of_heir o
      given None = refl
      given (Some above) = own above (nat_eq above lost)

      by : (b : Bool) → nat_eq master lost ≡ b
          → type_after_end lost heir (if b then slave_of_heir heir else Slave master)
          ≡ (if b then slave_of_heir heir else Slave master)
      by true is = given heir
      by false is = ap (λ b. if b then slave_of_heir heir else Slave master) is
  after_end-twice Private = refl
  after_end-twice Unbindable = refl

  pub bindable_after_end : (kind : Propagation ℕ) → is_unbindable (type_after_end lost heir kind) ≡ is_unbindable kind
  bindable_after_end (Shared group) = refl
  bindable_after_end (Slave master) = by (nat_eq master lost) heir
    where
      by : (b : Bool) (o : Option ℕ) → is_unbindable (if b then slave_of_heir o else Slave master) ≡ false
      by true None = refl
      by true (Some above) = refl
      by false o = refl
  bindable_after_end Private = refl
  bindable_after_end Unbindable = refl

  -- one that is no slave of the group keeps its type
  pub others_after_end : (kind : Propagation ℕ) → (source_of kind ≡ Some lost → ⊥)
      → type_after_end lost heir kind ≡ kind
  others_after_end (Shared group) apart = refl
  others_after_end (Slave master) apart = by (nat_eq master lost) refl
    where
      by : (b : Bool) → nat_eq master lost ≡ b → (if b then slave_of_heir heir else Slave master) ≡ Slave master
      by true is = absurd (apart (ap Some (eqb-true master lost is)))
      by false is = refl
  others_after_end Private apart = refl
  others_after_end Unbindable apart = refl

module _ (groups : Grouping) where
  pub bindable_once_ended : (lost : Option ℕ) (kind : Propagation ℕ)
      → is_unbindable (type_once_ended groups lost kind) ≡ is_unbindable kind
  bindable_once_ended None kind = refl
  bindable_once_ended (Some lost) kind = bindable_after_end lost (master_in groups lost) kind

  pub sourceless_once_ended : (lost : Option ℕ) (kind : Propagation ℕ) → source_of kind ≡ None
      → type_once_ended groups lost kind ≡ kind
  sourceless_once_ended None kind none = refl
  sourceless_once_ended (Some lost) kind none = others_after_end lost (master_in groups lost) kind
      (λ some. true≢false (ap is_some (sym some ∙ none)))

-- One mount among all

above_none : (low : ℕ) (mounts : List (Mount ℕ)) → list_all (λ later. nat_lt low later.number) mounts ≡ true
    → find (λ mount. nat_eq low mount.number) mounts ≡ None
above_none low [] above = refl
above_none low (mount ∷ rest) above = by (nat_eq low mount.number) refl (above_none low rest parts.1)
  where
    parts : (nat_lt low mount.number ≡ true) × (list_all (λ later. nat_lt low later.number) rest ≡ true)
    parts = and_parts (nat_lt low mount.number) (list_all (λ later. nat_lt low later.number) rest) above

    by : (b : Bool) → nat_eq low mount.number ≡ b → find (λ mount. nat_eq low mount.number) rest ≡ None
        → cond b (Some mount) (find (λ mount. nat_eq low mount.number) rest) ≡ None
    by true is later =
        let less = ltb-true low mount.number parts.0 in
        let same = eqb-true low mount.number is in
        absurd (omega (arith, less, same))
    by false is later = later

module _ (number : ℕ) where
  -- where it is not there, nothing changes
  pub absent_unchanged : (change : MountEntry → MountEntry) (entries : List MountEntry)
      → find (λ mount. nat_eq number mount.number) (mounts_in entries) ≡ None → entries ≡ changed number change entries
  absent_unchanged change [] none = refl
  absent_unchanged change (entry ∷ rest) none =
      by (nat_eq number entry.mount.number) none (absent_unchanged change rest)
    where
      by : (b : Bool) → cond b (Some entry.mount) (find (λ mount. nat_eq number mount.number) (mounts_in rest)) ≡ None
          → (find (λ mount. nat_eq number mount.number) (mounts_in rest) ≡ None → rest ≡ changed number change rest)
          → entry ∷ rest ≡ cond b (change entry) entry ∷ changed number change rest
      by true is later = absurd (true≢false (ap is_some is))
      by false is later = ap (λ list. entry ∷ list) (later is)

  -- it gets the type that a function gives for its type
  pub set_so : (seen : ℕ → Propagation ℕ → Propagation ℕ) (kind : Propagation ℕ) (entries : List MountEntry)
      → are_ascending (mounts_in entries) ≡ true → (mount : Mount ℕ)
      → find (λ mount. nat_eq number mount.number) (mounts_in entries) ≡ Some mount
      → kind ≡ seen number mount.propagation
      → changed number (with_kind kind) entries ≡ changed number (retyped seen) entries
  set_so seen kind [] rising mount found is = refl
  set_so seen kind (entry ∷ rest) rising mount found is =
      by (nat_eq number entry.mount.number) refl found (λ at. set_so seen kind rest parts.1 mount at is)
    where
      parts : (list_all (λ later. nat_lt entry.mount.number later.number) (mounts_in rest) ≡ true)
          × (are_ascending (mounts_in rest) ≡ true)
      parts = and_parts (list_all (λ later. nat_lt entry.mount.number later.number) (mounts_in rest))
          (are_ascending (mounts_in rest)) rising

      by : (b : Bool) → nat_eq number entry.mount.number ≡ b
          → cond b (Some entry.mount) (find (λ mount. nat_eq number mount.number) (mounts_in rest)) ≡ Some mount
          → (find (λ mount. nat_eq number mount.number) (mounts_in rest) ≡ Some mount
          → changed number (with_kind kind) rest ≡ changed number (retyped seen) rest)
          → cond b (with_kind kind entry) entry ∷ changed number (with_kind kind) rest
          ≡ cond b (retyped seen entry) entry ∷ changed number (retyped seen) rest
      by true same at later =
          let own : number ≡ entry.mount.number = eqb-true number entry.mount.number same in
          let none : find (λ (mount : Mount ℕ). nat_eq number mount.number) (mounts_in rest) ≡ None =
          ap (λ n. find (λ (mount : Mount ℕ). nat_eq n mount.number) (mounts_in rest)) own
          ∙ above_none entry.mount.number (mounts_in rest) parts.0 in
          let own_mount : mount ≡ entry.mount = sym (same_Some entry.mount mount at) in
          let told : kind ≡ seen entry.mount.number entry.mount.propagation =
          is ∙ (λ i. seen (own i) (own_mount i).propagation) in
          (λ i. with_kind (told i) entry
          ∷ (sym (absent_unchanged (with_kind kind) rest none) ∙ absent_unchanged (retyped seen) rest none) i)
      by false apart at later = ap (λ list. entry ∷ list) (later at)

-- All relatives

module _ (numbers : List ℕ) (lost : ℕ) (heir : Option ℕ) (number : ℕ) where
  -- the first is handed before the others
  handed_first : (entry : MountEntry)
      → after_end_of numbers lost heir (if nat_eq number entry.mount.number then after_end lost heir entry else entry)
      ≡ after_end_of (number ∷ numbers) lost heir entry
  handed_first entry = by (nat_eq number entry.mount.number) refl (is_among nat_eq entry.mount.number numbers) refl
    where
      by : (b : Bool) → nat_eq number entry.mount.number ≡ b → (a : Bool) → is_among nat_eq entry.mount.number numbers ≡ a
          → after_end_of numbers lost heir (if nat_eq number entry.mount.number then after_end lost heir entry else entry)
          ≡ after_end_of (number ∷ numbers) lost heir entry
      by true is true among =
          ap (λ b. after_end_of numbers lost heir (if b then after_end lost heir entry else entry)) is
          ∙ ap (λ b. if b then after_end lost heir (after_end lost heir entry) else after_end lost heir entry) among
          ∙ ap (λ kind. with_kind kind entry) (after_end-twice lost heir entry.mount.propagation)
          ∙ sym (ap (λ b. if b || is_among nat_eq entry.mount.number numbers then after_end lost heir entry else entry)
          (nat_eq-swapped number entry.mount.number true is))
      by true is false among =
          ap (λ b. after_end_of numbers lost heir (if b then after_end lost heir entry else entry)) is
          ∙ ap (λ b. if b then after_end lost heir (after_end lost heir entry) else after_end lost heir entry) among
          ∙ sym (ap (λ b. if b || is_among nat_eq entry.mount.number numbers then after_end lost heir entry else entry)
          (nat_eq-swapped number entry.mount.number true is))
      by false is a among = ap (λ b. after_end_of numbers lost heir (if b then after_end lost heir entry else entry)) is
          ∙ sym (ap (λ b. if b || is_among nat_eq entry.mount.number numbers then after_end lost heir entry else entry)
          (nat_eq-swapped number entry.mount.number false is))

  pub handed_next : (entries : List MountEntry)
      → map (after_end_of numbers lost heir) (changed number (after_end lost heir) entries)
      ≡ map (after_end_of (number ∷ numbers) lost heir) entries
  handed_next [] = refl
  handed_next (entry ∷ entries) = λ i. handed_first entry i ∷ handed_next entries i

pub none_handed : (lost : ℕ) (heir : Option ℕ) (entries : List MountEntry)
    → entries ≡ map (after_end_of [] lost heir) entries
none_handed lost heir entries = sym (map_same (after_end_of [] lost heir) entries (λ entry m. refl))

-- only types of slaves change

pub only_types-handed : (numbers : List ℕ) (lost : ℕ) (heir : Option ℕ) (entries : List MountEntry)
    → OnlyTypesChange entries (map (after_end_of numbers lost heir) entries)
only_types-handed numbers lost heir entries groups =
    map_twice (typed_entry groups) (after_end_of numbers lost heir) entries
    ∙ map_alike (λ entry. typed_entry groups (after_end_of numbers lost heir entry)) (typed_entry groups) entries
    (λ entry m. by entry (is_among nat_eq entry.mount.number numbers))
  where
    by : (entry : MountEntry) (b : Bool)
        → typed_entry groups (if b then after_end lost heir entry else entry) ≡ typed_entry groups entry
    by entry true =
        ap (λ unbindable. with_kind (if unbindable then Unbindable else propagation_in groups entry.mount.number) entry)
        (bindable_after_end lost heir entry.mount.propagation)
    by entry false = refl

module _ (groups : Grouping) (mount : ℕ) (entries : List MountEntry) where
  -- where no group ends, no mount gets another type
  pub none_left : lone_group groups mount ≡ None → entries ≡ map (once_left groups mount) entries
  none_left none = sym (map_same (once_left groups mount) entries (λ entry m.
      ap (λ lost. with_kind (type_once_ended groups lost entry.mount.propagation) entry) none))

  -- each slave is among the relatives
  pub all_left : (lost : ℕ) (numbers : List ℕ) → lone_group groups mount ≡ Some lost
      → ((other : ℕ) → source_of (propagation_in groups other) ≡ Some lost → is_among nat_eq other numbers ≡ true)
      → HaveSources groups entries
      → map (after_end_of numbers lost (master_in groups lost)) entries ≡ map (once_left groups mount) entries
  all_left lost numbers lone listed sources =
      map_alike (after_end_of numbers lost (master_in groups lost)) (once_left groups mount) entries (λ entry m.
      by entry m (is_among nat_eq entry.mount.number numbers) refl
      ∙ ap (λ group. with_kind (type_once_ended groups group entry.mount.propagation) entry) (sym lone))
    where
      by : (entry : MountEntry) → Among entry entries → (b : Bool) → is_among nat_eq entry.mount.number numbers ≡ b
          → (if b then after_end lost (master_in groups lost) entry else entry)
          ≡ after_end lost (master_in groups lost) entry
      by entry m true is = refl
      by entry m false is = sym (ap (λ kind. with_kind kind entry)
          (others_after_end lost (master_in groups lost) entry.mount.propagation (λ source.
          true≢false (sym (listed entry.mount.number
          (among_from_all (λ (one : MountEntry). (group : ℕ) → source_of one.mount.propagation ≡ Some group
          → source_of (propagation_in groups one.mount.number) ≡ Some group) entries sources entry m lost source))
          ∙ is))))
