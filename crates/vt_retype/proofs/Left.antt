-- Mounts that leave their groups, or become slaves of them, one after another.
use Rattle.std.proofs.Common.{◌≡◌, ℕ, Bool, true, false, true≢false, ◌||◌, List, [], ◌∷◌, ◌++◌, map, nat_eq, Option, None, Some, is_some, refl, ap, subst, sym, ◌∙◌, ⊎_elim, ◌<◌, arith, get_or, length, suc, zero, eqb-true, if◌then◌else◌}
use Rattle.vt_spec.proofs.Common.{Among, Private, Propagation, Shared, Slave, Unbindable, all_from_among, among-from_map, among_from_all, head_among, is_among, is_unbindable, map_alike, map_same, map_twice, nat_eq-swapped, source_of, tail_among}
use Rattle.vt_group.specs.Grouping.{Grouping, propagation_in}
use Rattle.vt_group.specs.Laws.{typed_by}
use Rattle.vt_group.specs.Leaving.{lone_group, type_once_ended, type_once_left, type_once_slave}
use Rattle.vt_group.specs.Together.{as_slave}
use Rattle.vt_group.proofs.Together.{is_among-snoc}
use Rattle.vt_location.specs.Numbers.{counted}
use Rattle.vt_location.specs.declared.numbers.MountId.{MountId}
use Rattle.vt_mount.specs.MountsValue.{MountEntry, changed}
use Rattle.vt_retype.specs.Leaving.{HaveSources, OnlyTypesChange, once_left}
use Rattle.vt_retype.specs.Retyping.{AreTyped, AreTypedBut, HaveNoSource, typed_entry, with_kind}
use Rattle.vt_retype.proofs.TypesHanded.{bindable_once_ended, sourceless_once_ended}

-- what a mount of this type has where the groups tell another
abbrev told_of : Propagation ℕ → Propagation ℕ → Propagation ℕ
told_of kind told = if is_unbindable kind then Unbindable else told

typed_source : (kind told : Propagation ℕ) (group : ℕ) → told_of kind told ≡ kind → source_of kind ≡ Some group
    → source_of told ≡ Some group
typed_source (Shared own) told group is e = ap source_of is ∙ e
typed_source (Slave master) told group is e = ap source_of is ∙ e
typed_source Private told group is e = absurd (true≢false (sym (ap is_some e)))
typed_source Unbindable told group is e = absurd (true≢false (sym (ap is_some e)))

pub sourceless_typed : (kind told : Propagation ℕ) → source_of kind ≡ None → told ≡ Private → told_of kind told ≡ kind
sourceless_typed (Shared group) told none is = absurd (true≢false (ap is_some none))
sourceless_typed (Slave master) told none is = absurd (true≢false (ap is_some none))
sourceless_typed Private told none is = is
sourceless_typed Unbindable told none is = refl

-- one whose type the groups told has the type that they tell once a group ended
typed_once_ended : (groups : Grouping) (lost : Option ℕ) (kind told new : Propagation ℕ) → told_of kind told ≡ kind
    → new ≡ type_once_ended groups lost told
    → told_of (type_once_ended groups lost kind) new ≡ type_once_ended groups lost kind
typed_once_ended groups lost (Shared group) told new is next =
    ap (λ b. if b then Unbindable else new) (bindable_once_ended groups lost (Shared group))
    ∙ next ∙ ap (type_once_ended groups lost) is
typed_once_ended groups lost (Slave master) told new is next =
    ap (λ b. if b then Unbindable else new) (bindable_once_ended groups lost (Slave master))
    ∙ next ∙ ap (type_once_ended groups lost) is
typed_once_ended groups lost Private told new is next =
    ap (λ b. if b then Unbindable else new) (bindable_once_ended groups lost Private)
    ∙ next ∙ ap (type_once_ended groups lost) is
typed_once_ended groups lost Unbindable told new is next =
    ap (λ b. if b then Unbindable else new) (bindable_once_ended groups lost Unbindable)
    ∙ sym (sourceless_once_ended groups lost Unbindable refl)

typed_kind : (groups : Grouping) (entry : MountEntry) → typed_entry groups entry ≡ entry
    → told_of entry.mount.propagation (propagation_in groups entry.mount.number) ≡ entry.mount.propagation
typed_kind groups entry is = ap (λ (one : MountEntry). one.mount.propagation) is

-- each mount but these has the type that the groups tell; these are private or unbindable, and those that have left are
-- in no group
pub record StillTyped (groups : Grouping) (numbers left : List ℕ) (entries : List MountEntry) : Type 0 where
  pub typed : AreTypedBut groups numbers entries
  pub sourceless : HaveNoSource numbers entries
  pub private : (number : ℕ) → is_among nat_eq number left ≡ true → propagation_in groups number ≡ Private

pub still_sources : (groups : Grouping) (numbers : List ℕ) (entries : List MountEntry)
    → AreTypedBut groups numbers entries → HaveNoSource numbers entries → HaveSources groups entries
still_sources groups numbers entries typed sourceless =
    all_from_among (λ (entry : MountEntry). (group : ℕ) → source_of entry.mount.propagation ≡ Some group
    → source_of (propagation_in groups entry.mount.number) ≡ Some group) entries (λ entry m group source.
    by entry m group source (is_among nat_eq entry.mount.number numbers) refl)
  where
    by : (entry : MountEntry) → Among entry entries → (group : ℕ) → source_of entry.mount.propagation ≡ Some group
        → (b : Bool) → is_among nat_eq entry.mount.number numbers ≡ b
        → source_of (propagation_in groups entry.mount.number) ≡ Some group
    by entry m group source true is = absurd (true≢false (ap is_some (sym source
        ∙ among_from_all (λ (one : MountEntry). is_among nat_eq one.mount.number numbers ≡ true
        → source_of one.mount.propagation ≡ None) entries sourceless entry m is)))
    by entry m group source false is =
        typed_source entry.mount.propagation (propagation_in groups entry.mount.number) group
        (typed_kind groups entry (among_from_all (λ (one : MountEntry). is_among nat_eq one.mount.number numbers ≡ false
        → typed_entry groups one ≡ one) entries typed entry m is)) source

pub still_begin : (groups : Grouping) (numbers : List ℕ) (entries : List MountEntry)
    → AreTypedBut groups numbers entries → HaveNoSource numbers entries → StillTyped groups numbers [] entries
still_begin groups numbers entries typed sourceless = record {
  typed = typed;
  sourceless = sourceless;
  private = λ number is. absurd (true≢false (sym is));
}

-- none has left yet
pub still_at_first : (groups : Grouping) (entries : List MountEntry) → AreTyped groups entries
    → StillTyped groups [] [] entries
still_at_first groups entries typed = still_begin groups [] entries
    (all_from_among (λ (entry : MountEntry). is_among nat_eq entry.mount.number [] ≡ false
    → typed_entry groups entry ≡ entry) entries (λ entry m apart i. record entry {
      mount = among_from_all (λ (one : MountEntry). typed_by groups one.mount ≡ one.mount) entries typed entry m i;
    })) (all_from_among (λ (entry : MountEntry). is_among nat_eq entry.mount.number [] ≡ true
    → source_of entry.mount.propagation ≡ None) entries (λ entry m is. absurd (true≢false (sym is))))

module _ (before now : Grouping) (numbers left : List ℕ) (number : ℕ) (old new : List MountEntry)
    (still : StillTyped before numbers left old) (there : is_among nat_eq number numbers ≡ true)
    (told : (mount : ℕ) → propagation_in now mount ≡ type_once_left before number mount)
    (slaves : HaveSources before old → new ≡ map (once_left before number) old) where
  apart_from : (other : ℕ) → is_among nat_eq other numbers ≡ false → nat_eq other number ≡ false
  apart_from other apart = by (nat_eq other number) refl
    where
      by : (b : Bool) → nat_eq other number ≡ b → b ≡ false
      by true is =
          absurd (true≢false (sym there ∙ ap (λ n. is_among nat_eq n numbers) (sym (eqb-true other number is)) ∙ apart))
      by false is = refl

  new_is : new ≡ map (once_left before number) old
  new_is = slaves (still_sources before numbers old still.typed still.sourceless)

  -- what holds of each mount that was there, once a group may have ended
  each : (P : MountEntry → Type 0) → ((was : MountEntry) → Among was old → P (once_left before number was))
      → (entry : MountEntry) → Among entry new → P entry
  each P holds entry m =
      let from = among-from_map (once_left before number) old entry (subst (Among entry) new_is m) in
      subst P (sym from.2) (holds from.0 from.1)

  -- one more has left
  pub still_next : StillTyped now numbers (left ++ number ∷ []) new
  still_next = record {
    typed = all_from_among (λ (entry : MountEntry). is_among nat_eq entry.mount.number numbers ≡ false
        → typed_entry now entry ≡ entry) new
        (each (λ (entry : MountEntry). is_among nat_eq entry.mount.number numbers ≡ false
        → typed_entry now entry ≡ entry) (λ was m apart. ap (λ kind. with_kind kind was)
        (typed_once_ended before (lone_group before number) was.mount.propagation
        (propagation_in before was.mount.number) (propagation_in now was.mount.number)
        (typed_kind before was (among_from_all (λ (one : MountEntry). is_among nat_eq one.mount.number numbers ≡ false
        → typed_entry before one ≡ one) old still.typed was m apart)) (told was.mount.number
        ∙ ap (λ b. if b then Private else type_once_ended before (lone_group before number)
        (propagation_in before was.mount.number)) (apart_from was.mount.number apart)))));
    sourceless = all_from_among (λ (entry : MountEntry). is_among nat_eq entry.mount.number numbers ≡ true
        → source_of entry.mount.propagation ≡ None) new
        (each (λ (entry : MountEntry). is_among nat_eq entry.mount.number numbers ≡ true
        → source_of entry.mount.propagation ≡ None) (λ was m is.
        let none = among_from_all (λ (one : MountEntry). is_among nat_eq one.mount.number numbers ≡ true
        → source_of one.mount.propagation ≡ None) old still.sourceless was m is in
        ap source_of (sourceless_once_ended before (lone_group before number) was.mount.propagation none) ∙ none));
    private = λ other is. told other ∙ by other (nat_eq other number) refl is;
  }
    where
      by : (other : ℕ) (b : Bool) → nat_eq other number ≡ b → is_among nat_eq other (left ++ number ∷ []) ≡ true
          → (if b then Private else type_once_ended before (lone_group before number) (propagation_in before other))
          ≡ Private
      by other true same is = refl
      by other false apart is = ap (type_once_ended before (lone_group before number))
          (still.private other (unsnoc (is_among nat_eq other left) (nat_eq other number) apart
          (sym (is_among-snoc other number left) ∙ is)))
          ∙ sourceless_once_ended before (lone_group before number) Private refl
        where
          unsnoc : (a b : Bool) → b ≡ false → (a || b) ≡ true → a ≡ true
          unsnoc true b f is = refl
          unsnoc false b f is = sym f ∙ is

-- all have left: each mount has the type that the groups tell
pub still_done : (groups : Grouping) (numbers : List ℕ) (entries : List MountEntry)
    → StillTyped groups numbers numbers entries → map (typed_entry groups) entries ≡ entries
still_done groups numbers entries still =
    map_same (typed_entry groups) entries (λ entry m. by entry m (is_among nat_eq entry.mount.number numbers) refl)
  where
    by : (entry : MountEntry) → Among entry entries → (b : Bool) → is_among nat_eq entry.mount.number numbers ≡ b
        → typed_entry groups entry ≡ entry
    by entry m true is = ap (λ kind. with_kind kind entry)
        (sourceless_typed entry.mount.propagation (propagation_in groups entry.mount.number)
        (among_from_all (λ (one : MountEntry). is_among nat_eq one.mount.number numbers ≡ true
        → source_of one.mount.propagation ≡ None) entries still.sourceless entry m is)
        (still.private entry.mount.number is))
    by entry m false is = among_from_all (λ (one : MountEntry). is_among nat_eq one.mount.number numbers ≡ false
        → typed_entry groups one ≡ one) entries still.typed entry m is

-- Members that become slaves

bindable_told : (kind told : Propagation ℕ) → told_of kind told ≡ kind → (new : Propagation ℕ)
    → is_unbindable new ≡ is_unbindable told → is_unbindable (told_of kind new) ≡ is_unbindable kind
bindable_told (Shared group) told is new same = same ∙ ap is_unbindable is
bindable_told (Slave master) told is new same = same ∙ ap is_unbindable is
bindable_told Private told is new same = same ∙ ap is_unbindable is
bindable_told Unbindable told is new same = refl

bindable_slave : (kind : Propagation ℕ) → is_unbindable (as_slave kind) ≡ is_unbindable kind
bindable_slave (Shared group) = refl
bindable_slave (Slave master) = refl
bindable_slave Private = refl
bindable_slave Unbindable = refl

module _ (before now : Grouping) (number : ℕ) (old : List MountEntry) (typed : AreTypedBut before [] old)
    (told : (mount : ℕ) → propagation_in now mount ≡ type_once_slave before number mount) where
  was_typed : (was : MountEntry) → Among was old
      → told_of was.mount.propagation (propagation_in before was.mount.number) ≡ was.mount.propagation
  was_typed was m = typed_kind before was
      (among_from_all (λ (one : MountEntry). is_among nat_eq one.mount.number [] ≡ false
      → typed_entry before one ≡ one) old typed was m refl)

  pub slave_typed : (between new : List MountEntry)
      → (HaveSources before old → between ≡ map (once_left before number) old)
      → new ≡ changed number (typed_entry now) between → new ≡ map (typed_entry now) old
  slave_typed between new slaves is = is
      ∙ ap (changed number (typed_entry now)) (slaves (still_sources before [] old typed
      (all_from_among (λ (one : MountEntry). is_among nat_eq one.mount.number [] ≡ true
      → source_of one.mount.propagation ≡ None) old (λ one m none. absurd (true≢false (sym none))))))
      ∙ map_twice (λ entry. if nat_eq number entry.mount.number then typed_entry now entry else entry)
      (once_left before number) old
      ∙ map_alike (λ was. if nat_eq number was.mount.number then typed_entry now (once_left before number was)
      else once_left before number was) (typed_entry now) old (λ was m. by was m (nat_eq number was.mount.number) refl)
    where
      bindable : (was : MountEntry) → typed_entry now (once_left before number was) ≡ typed_entry now was
      bindable was = ap (λ b. with_kind (if b then Unbindable else propagation_in now was.mount.number) was)
          (bindable_once_ended before (lone_group before number) was.mount.propagation)

      by : (was : MountEntry) → Among was old → (b : Bool) → nat_eq number was.mount.number ≡ b
          → (if b then typed_entry now (once_left before number was) else once_left before number was)
          ≡ typed_entry now was
      by was m true same = bindable was
      by was m false apart = sym (ap (λ kind. with_kind kind was)
          (typed_once_ended before (lone_group before number) was.mount.propagation
          (propagation_in before was.mount.number) (propagation_in now was.mount.number) (was_typed was m)
          (told was.mount.number ∙ ap (λ b. type_once_ended before (lone_group before number)
          (if b then as_slave (propagation_in before number) else propagation_in before was.mount.number))
          (nat_eq-swapped number was.mount.number false apart)))) ∙ bindable was

  pub slave_only_types : OnlyTypesChange old (map (typed_entry now) old)
  slave_only_types groups = map_twice (typed_entry groups) (typed_entry now) old
      ∙ map_alike (λ was. typed_entry groups (typed_entry now was)) (typed_entry groups) old (λ was m.
      ap (λ b. with_kind (if b then Unbindable else propagation_in groups was.mount.number) was)
      (bindable_told was.mount.propagation (propagation_in before was.mount.number) (was_typed was m)
      (propagation_in now was.mount.number) (ap is_unbindable (told was.mount.number)
      ∙ bindable_once_ended before (lone_group before number)
      (if nat_eq was.mount.number number then as_slave (propagation_in before number)
      else propagation_in before was.mount.number) ∙ by was.mount.number (nat_eq was.mount.number number) refl)))
    where
      by : (other : ℕ) (b : Bool) → nat_eq other number ≡ b
          → is_unbindable (if b then as_slave (propagation_in before number) else propagation_in before other)
          ≡ is_unbindable (propagation_in before other)
      by other true same = bindable_slave (propagation_in before number)
          ∙ ap (λ n. is_unbindable (propagation_in before n)) (sym (eqb-true other number same))
      by other false apart = refl

-- each mount has the type that the groups tell, and only types have changed
pub record ReTyped (groups : Grouping) (old entries : List MountEntry) : Type 0 where
  pub typed : map (typed_entry groups) entries ≡ entries
  pub only_types : OnlyTypesChange old entries

abbrev head : {A : Type 0} → A → List A → A
head default [] = default
head default (x ∷ xs) = x

abbrev tail : {A : Type 0} → List A → List A
tail [] = []
tail (x ∷ xs) = xs

map_fixed : {A : Type 0} (f : A → A) (xs : List A) → map f xs ≡ xs → (x : A) → Among x xs → f x ≡ x
map_fixed f [] is x m = absurd m
map_fixed f (y ∷ ys) is x m =
    ⊎_elim (λ same. ap f same ∙ ap (head y) is ∙ sym same) (λ later. map_fixed f ys (ap tail is) x later) m

all_typed : (groups : Grouping) (entries : List MountEntry) → map (typed_entry groups) entries ≡ entries
    → AreTypedBut groups [] entries
all_typed groups entries is = all_from_among (λ (entry : MountEntry). is_among nat_eq entry.mount.number [] ≡ false
    → typed_entry groups entry ≡ entry) entries (λ entry m apart. map_fixed (typed_entry groups) entries is entry m)

pub slaves_next : (before now : Grouping) (number : ℕ) (first old new : List MountEntry) → ReTyped before first old
    → ((mount : ℕ) → propagation_in now mount ≡ type_once_slave before number mount)
    → (AreTypedBut before [] old → new ≡ map (typed_entry now) old) → ReTyped now first new
slaves_next before now number first old new sofar told follows =
    let typed = all_typed before old sofar.typed in
    let new_is = follows typed in
    let only : OnlyTypesChange old new =
    subst (OnlyTypesChange old) (sym new_is) (slave_only_types before now number old typed told) in record {
      typed = only now ∙ sym new_is;
      only_types = λ groups. only groups ∙ sofar.only_types groups;
    }

-- one of a list is in it
pub listed_at : (ids : List MountId) (i : ℕ) (default : MountId) → i < length ids
    → is_among nat_eq (counted (get_or ids i default).count) (map (λ id. counted id.count) ids) ≡ true
listed_at [] i default less = absurd (omega (arith, less))
listed_at (id ∷ ids) zero default less =
    head_among (counted id.count) (counted id.count) (map (λ id. counted id.count) ids) refl
listed_at (id ∷ ids) (suc i) default less =
    tail_among (counted (get_or ids i default).count) (counted id.count) (map (λ id. counted id.count) ids)
    (listed_at ids i default (omega (arith, less)))
