-- Numbers for the copies of mounts that are attached, by what they are made from.
use Rattle.std.specs.Prelude.{Bool, List, false, true, ℕ, nat_eq, ◌≡◌, ◌≢◌}
use Rattle.vt_spec.specs.Machine.Attach.{Copies, attached_by, copies_from, parts_of}
use Rattle.vt_spec.specs.Lists.{Fresh, is_among}
use Rattle.vt_spec.specs.Machine.Mounts.{Location, Mount}
use Rattle.vt_spec.specs.Machine.Receives.{has_members}
use Rattle.vt_spec.specs.Machine.Run.{Serves, numbers_in_use}
use Rattle.vt_spec.specs.Machine.World.{World}
use Rattle.vt_laws_mounts.specs.Mounts.Attaching.{OneNumberAMount, numbers_of}

-- a mount of the list has this number
abbrev pub IsOneOf : List (Mount ℕ) → ℕ → Type 0
IsOneOf mounts number = is_among nat_eq number (numbers_of mounts) ≡ true

-- No number of a copy is in use, and two copies have two numbers: those at one part of two mounts, and those at two
-- parts.
pub record ServeAsCopies (world : World ℕ) (parts mounts : List (Mount ℕ)) (new : Copies ℕ) : Type 0 where
  pub unused : (part origin : ℕ) → IsOneOf parts part → IsOneOf mounts origin
      → is_among nat_eq (new.copy part origin) (numbers_in_use world) ≡ false
  pub apart : (part origin other_part other : ℕ) → IsOneOf parts part → IsOneOf mounts origin → IsOneOf parts other_part
      → IsOneOf mounts other → new.copy part origin ≡ new.copy other_part other → (part ≡ other_part) × (origin ≡ other)

-- Nor is a number of an image, and two images have two numbers; none is that of a copy.
pub record ServeAsImages (world : World ℕ) (parts mounts : List (Mount ℕ)) (new : Copies ℕ) : Type 0 where
  pub unused : (group origin : ℕ) → has_members nat_eq parts group ≡ true → IsOneOf mounts origin
      → is_among nat_eq (new.image group origin) (numbers_in_use world) ≡ false
  pub apart : (group origin other_group other : ℕ) → has_members nat_eq parts group ≡ true → IsOneOf mounts origin
      → has_members nat_eq parts other_group ≡ true → IsOneOf mounts other
      → new.image group origin ≡ new.image other_group other → (group ≡ other_group) × (origin ≡ other)
  pub not_copies : (group origin part other : ℕ) → IsOneOf mounts origin → IsOneOf mounts other
      → new.image group origin ≢ new.copy part other

-- Out of a supply that serves a world come numbers that serve,
abbrev pub SuppliesServeAsCopies : Type 0
SuppliesServeAsCopies =
    (world : World ℕ) (fresh : Fresh ℕ) (parts mounts : List (Mount ℕ)) → Serves nat_eq world fresh
    → ServeAsCopies world parts mounts (copies_from nat_eq fresh parts mounts)

abbrev pub SuppliesServeAsImages : Type 0
SuppliesServeAsImages =
    (world : World ℕ) (fresh : Fresh ℕ) (parts mounts : List (Mount ℕ)) → Serves nat_eq world fresh
    → ServeAsImages world parts mounts (copies_from nat_eq fresh parts mounts)

-- and with numbers that serve each mount has a number of its own after a tree of such mounts was attached.
abbrev pub CopiesKeepNumbers : Type 0
CopiesKeepNumbers =
    (world : World ℕ) (new : Copies ℕ) (destination : Location ℕ) (moves : Bool) (mounts : List (Mount ℕ))
    → ServeAsCopies world (parts_of nat_eq world destination) mounts new → OneNumberAMount mounts
    → OneNumberAMount world.mounts → OneNumberAMount (attached_by nat_eq world new destination moves mounts).mounts
