-- A change of flags or of type is of the mounts that it names.
use Rattle.std.proofs.Common.{arith, ◌≡◌, refl, sym, ap, ◌∙◌, true, false, Bool, ℕ, nat_eq, List, None, [], inl, map, ◌∷◌, ◌||◌, if◌then◌else◌}
use Rattle.vt_spec.proofs.Common.{Fresh, Mount, Private, Propagation, Shared, Slave, ToSlave, TypeWord, Unbindable, World, common_steps, has_members, inherited, inheriting, is_among, is_among_numbers, list_any, master_after, mount_at, mount_in, mount_numbered, named_mounts, number-mount_in, numbers_by, retyped, retyped_mount, slave_of_heir, type_after, with_master, with_mount, with_new_groups, with_type}
use Rattle.vt_laws_mounts.specs.Mounts.Changing.{FlagsAreOfOne, FlagsAreSet, KeepsAllButType, AloneIsPrivate, TypeIsAllThatChanges, TypeIsOfTheNamed, TypeIsTaken, TypesAreOfMounts}
use Rattle.vt_laws_mounts.specs.Mounts.Unmounting.{KeepsAllButMounts, has_its_master}
use Rattle.vt_laws_mounts.proofs.mounts.MountsFound.{found-map, found-map_there, numbers-map}
use Rattle.vt_laws_mounts.proofs.mounts.MountsReplaced.{found-with_mount_itself, found-with_mount_other, none_numbered}
use Rattle.vt_laws_mounts.proofs.Groups.{inherited_kept, members-regrouped, mounts-regrouped, no_heir}
use Rattle.vt_laws_mounts.specs.Mounts.Attaching.{is_mount, numbers_of}

pub flags_are_set : FlagsAreSet
flags_are_set world here flags there =
    let one = mount_at nat_eq world here in
    let number : one.number ≡ here.mount = number-mount_in _ _ in
    let new = record one { flags = flags } in
    ap (mount_in nat_eq (with_mount nat_eq world.mounts new)) (sym number) ∙ found-with_mount_itself new _ (cc number)

pub flags_are_of_one : FlagsAreOfOne
flags_are_of_one world here flags number other =
    found-with_mount_other _ _ number (cc (number-mount_in world.mounts here.mount))

-- Types
all_but_type_itself : (mount : Mount ℕ) → KeepsAllButType mount mount
all_but_type_itself mount =
    record { number = refl; namespace = refl; mount_point = refl; filesystem = refl; root = refl; flags = refl }

-- mounts that take their types at once
module _ (world : World ℕ) (group : ℕ → ℕ) (word : TypeWord) (named : List (Mount ℕ)) where
  abbrev pub retype : Mount ℕ → Mount ℕ
  retype = retyped_mount nat_eq group word named

  abbrev pub retyped_if : Mount ℕ → Bool → Mount ℕ
  retyped_if mount chosen =
      if chosen then (record mount { propagation = type_after (group mount.number) word mount.propagation }) else mount

  -- before groups inherit
  abbrev pub between : World ℕ
  between = record world { mounts = map retype world.mounts; master = with_new_groups nat_eq group world.master named }

  abbrev pub next_world : World ℕ
  next_world = retyped nat_eq world group word named

  abbrev is_named : Mount ℕ → Bool
  is_named mount = list_any (λ (other : Mount ℕ). nat_eq mount.number other.number) named

  pub retype_keeps : (mount : Mount ℕ) → KeepsAllButType mount (retype mount)
  retype_keeps mount = grind (arith, common_steps, all_but_type_itself)

  pub numbers-retyped : numbers_of next_world.mounts ≡ numbers_of world.mounts
  numbers-retyped = ap numbers_of (mounts-regrouped _) ∙ numbers-map _ (λ mount. refl) _ ∙ numbers-map retype
      (λ mount. (retype_keeps mount).number) _

  pub retyped_found : (number : ℕ) → is_mount world number ≡ true → mount_numbered nat_eq next_world number
      ≡ inheriting nat_eq between (retype (mount_numbered nat_eq world number))
  retyped_found number there = ap (λ mounts. mount_in nat_eq mounts number) (mounts-regrouped _) ∙ found-map _
      (λ mount. refl) _ number refl ∙ ap (inheriting nat_eq between) (found-map_there retype
      (λ mount. (retype_keeps mount).number) _ number there)

  retyped_missing : (number : ℕ) → is_mount world number ≡ false
      → mount_numbered nat_eq next_world number ≡ mount_numbered nat_eq world number
  retyped_missing number missing = none_numbered _ number (cc numbers-retyped) ∙ sym (none_numbered _ number missing)

  pub keeps_all_but_type : (number : ℕ)
      → KeepsAllButType (mount_numbered nat_eq world number) (mount_numbered nat_eq next_world number)
  keeps_all_but_type number =
      grind (arith, common_steps, retype_keeps, retyped_found, retyped_missing, all_but_type_itself)

  named_by_number : (number : ℕ)
      → is_named (mount_numbered nat_eq world number) ≡ is_among nat_eq number (numbers_of named)
  named_by_number number =
      ap (λ n. list_any (λ (other : Mount ℕ). nat_eq n other.number) named) (number-mount_in _ number) ∙ by named
    where
      by : (list : List (Mount ℕ))
          → list_any (λ (other : Mount ℕ). nat_eq number other.number) list ≡ is_among nat_eq number (numbers_of list)
      by [] = refl
      by (first ∷ rest) = ap (λ b. nat_eq number first.number || b) (by rest)

  pub members_between : (one : ℕ) → has_members nat_eq next_world.mounts one ≡ has_members nat_eq between.mounts one
  members_between one = members-regrouped between one

  pub kept_where_master : (kind : Propagation ℕ) → has_its_master next_world kind ≡ true
      → inherited nat_eq between kind ≡ kind
  kept_where_master (Shared one) h = refl
  kept_where_master (Slave above) h = inherited_kept between above (sym (members_between above) ∙ h)
  kept_where_master Private h = refl
  kept_where_master Unbindable h = refl

  pub type_of_unnamed : (number : ℕ) → is_among nat_eq number (numbers_of named) ≡ false
      → has_its_master next_world (mount_numbered nat_eq world number).propagation ≡ true
      → (mount_numbered nat_eq next_world number).propagation ≡ (mount_numbered nat_eq world number).propagation
  type_of_unnamed number unnamed has =
      grind (arith, common_steps, retyped_found, named_by_number, kept_where_master, retyped_missing)

  pub type_of_named : (number : ℕ) → is_mount world number ≡ true → is_among nat_eq number (numbers_of named) ≡ true
      → (mount_numbered nat_eq next_world number).propagation
      ≡ inherited nat_eq between (type_after (group number) word (mount_numbered nat_eq world number).propagation)
  type_of_named number there chosen = grind (arith, common_steps, retyped_found, named_by_number, number-mount_in)

  pub retyping_is_of_mounts : KeepsAllButMounts world next_world
  retyping_is_of_mounts = grind (arith, common_steps)

-- The laws
abbrev pub groups_by : World ℕ → Fresh ℕ → ℕ → Bool → ℕ → ℕ
groups_by world fresh number recursive = numbers_by nat_eq fresh (named_mounts nat_eq world number recursive)

pub type_is_all_that_changes : TypeIsAllThatChanges
type_is_all_that_changes world fresh number word recursive other = keeps_all_but_type world _ word _ other

pub types_are_of_mounts : TypesAreOfMounts
types_are_of_mounts world fresh number word recursive = retyping_is_of_mounts world _ word _

pub type_is_of_the_named : TypeIsOfTheNamed
type_is_of_the_named world fresh number word recursive other unnamed has =
    type_of_unnamed world _ word _ other unnamed has

pub type_is_taken : TypeIsTaken
type_is_taken world fresh number word recursive other there chosen has =
    let group = groups_by world fresh number recursive in
    let named = named_mounts nat_eq world number recursive in
    grind (arith, common_steps, type_of_named, kept_where_master)

pub alone_is_private : AloneIsPrivate
alone_is_private world fresh number one there shared no_master none =
    let group = groups_by world fresh number false in
    let named = named_mounts nat_eq world number false in
    let middle = between world group ToSlave named in
    let chosen : is_among nat_eq number (numbers_of named) ≡ true =
    is_among_numbers (numbers_of named) number (inl (sym (number-mount_in world.mounts number))) in
    let above : middle.master one ≡ None =
    ap (λ kind. with_master nat_eq world.master (group (mount_numbered nat_eq world number).number)
    (master_after kind) one) shared
    ∙ either_none (nat_eq one (group (mount_numbered nat_eq world number).number)) no_master in
    type_of_named world group ToSlave named number there chosen
    ∙ ap (λ kind. inherited nat_eq middle (type_after (group number) ToSlave kind)) shared
    ∙ ap slave_of_heir (no_heir middle one above (cc (members_between world group ToSlave named one)))
  where
    either_none : (b : Bool) → world.master one ≡ None → (if b then None else world.master one) ≡ None
    either_none true e = refl
    either_none false e = e

pub numbers_with_type : (world : World ℕ) (fresh : Fresh ℕ) (number : ℕ) (word : TypeWord) (recursive : Bool)
    → numbers_of (with_type nat_eq fresh world number word recursive).mounts ≡ numbers_of world.mounts
numbers_with_type world fresh number word recursive = numbers-retyped world _ word _
