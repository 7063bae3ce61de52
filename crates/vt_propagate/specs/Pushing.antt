-- Which mounts move onto a copied tree, since they stood at its place.
use Rattle.std.specs.Prelude.{Contains, List, None, Option, Some, [], drop, false, if◌then◌else◌, map, nat_eq, option_map, take, true, ℕ, ◌≡◌, ◌∷◌}
use Rattle.std.specs.List.{cons_option, list_all}
use Rattle.std.specs.Map.{lookup}
use Rattle.vt_spec.specs.Lists.{any_pair, first_of_list, holds_of, is_among, then_some}
use Rattle.vt_spec.specs.Machine.Attach.{parts_of, moved_onto_copy, top_of_copies}
use Rattle.vt_spec.specs.Machine.Invariants.{share_a_mount_point}
use Rattle.vt_spec.specs.Machine.Mounts.{Location, Mount, child_at}
use Rattle.vt_spec.specs.Machine.World.{World}
use Rattle.vt_location.specs.Locations.{location_of}
use Rattle.vt_location.specs.Numbers.{counted}
use Rattle.vt_propagate.specs.declared.copying.Counts.{Counts}
use Rattle.vt_propagate.specs.declared.copying.Graft.{Graft}
use Rattle.vt_propagate.specs.Falling.{moved_by}
use Rattle.vt_propagate.specs.Planned.{graft_in, numbers_at}

-- where a tree moves, its first mount leaves its place
abbrev pub leaver : Graft → Option ℕ
leaver graft = if graft.moves then option_map (λ top. counted top.number.count) (first_of_list graft.tree.now) else None

-- Each mount that does not leave is pushed as these new mount points say, also where it is in another namespace by then
-- or of another type.
abbrev pub PushesBy : World ℕ → Graft → Counts → List (ℕ × Location ℕ) → Type 0
PushesBy world graft counts points =
    (before mount : Mount ℕ) → Contains world.mounts before → holds_of (nat_eq before.number) (leaver graft) ≡ false
    → mount.number ≡ before.number → mount.mount_point ≡ before.mount_point
    → moved_onto_copy nat_eq world (numbers_at world graft counts) (graft_in world graft counts)
    (parts_of nat_eq world (location_of graft.place)) mount
    ≡ moved_by points mount

-- the mount that leaves gets no new mount point here
abbrev pub KeepsLeaver : Graft → List (ℕ × Location ℕ) → Type 0
KeepsLeaver graft points = (number : ℕ) → holds_of (nat_eq number) (leaver graft) ≡ true
    → lookup (nat_eq number) points ≡ None

-- the mounts that get new mount points are there, and each gets one
pub record MovesOnce (mounts : List (Mount ℕ)) (points : List (ℕ × Location ℕ)) : Type 0 where
  pub once : any_pair (λ (a b : ℕ × Location ℕ). nat_eq a.0 b.0) points ≡ false
  pub there : list_all (λ (point : ℕ × Location ℕ). is_among nat_eq point.0
      (map (λ (mount : Mount ℕ). mount.number) mounts)) points ≡ true

-- no two mounts have one mount point
abbrev pub OneChild : World ℕ → Type 0
OneChild world = any_pair (share_a_mount_point nat_eq) world.mounts ≡ false

-- By lists alone

-- the mount at a place, unless it leaves
abbrev pub stander : List (Mount ℕ) → Option ℕ → Location ℕ → Option ℕ
stander mounts left place =
    then_some (option_map (λ child. child.number) (child_at nat_eq mounts place))
    (λ number. if holds_of (nat_eq number) left then None else Some number)

-- the new mount point of the mount at a receiver's place, where these are the copies at that receiver
abbrev pub pushed_at : List (Mount ℕ) → Option ℕ → Location ℕ → ℕ → List (Mount ℕ) → Option (ℕ × Location ℕ)
pushed_at mounts left place part copies =
    if nat_eq part place.mount then None
    else option_map (λ number. (number, top_of_copies nat_eq copies place))
    (stander mounts left (record { mount = part; node = place.node }))

-- at all these parts, each of which has so many of the copies
abbrev pub pushes_from : List (Mount ℕ) → Option ℕ → Location ℕ → ℕ → List (Mount ℕ) → List (Mount ℕ)
    → List (ℕ × Location ℕ)
pushes_from mounts left place size [] copies = []
pushes_from mounts left place size (part ∷ parts) copies =
    cons_option (pushed_at mounts left place part.number (take size copies))
    (pushes_from mounts left place size parts (drop size copies))
