-- Mounts keep standing where others are taken away. A mount that stays falls from mount point to mount point, through
-- the mounts that go, until it rests on one that stays.
use Rattle.std.proofs.Common.{◌≡◌, refl, ap, true, false, nat_eq, ℕ, Bool, List, Some, inl, inr, is_some, None}
use Rattle.vt_spec.proofs.Common.{Among, Location, Mount, Stands, World, all_from_among, at_root, is_going, mount_at, mount_numbered, cases_Bool, number-mount_in, on_parent, taken_away}
use Rattle.vt_laws_mounts.specs.Mounts.Invariants.{OneNumberEach}
use Rattle.vt_laws_mounts.specs.Mounts.Standing.{AllStand}
use Rattle.vt_laws_mounts.specs.Mounts.Unmounting.{FallsTo}
use Rattle.vt_laws_mounts.specs.Mounts.Unmounting.FallsTo.{falls, rests}
use Rattle.vt_laws_mounts.proofs.mounts.MountsFound.{placed_among}
use Rattle.vt_laws_mounts.proofs.mounts.Standing.{stand, standing_is_computed}
use Rattle.vt_laws_mounts.proofs.ends.Unmounting.{detached_by_number, kept_by_number, place_fallen, root_stays}
use Rattle.vt_laws_mounts.proofs.ends.UnmountingTrees.{AreClosed}

module _ (world : World ℕ) (gone : List ℕ) where
  abbrev later : World ℕ
  later = taken_away nat_eq world gone

  abbrev before : ℕ → Mount ℕ
  before number = mount_numbered nat_eq world number

  abbrev goes : ℕ → Bool
  goes = is_going nat_eq gone

  -- each mount that stays falls to a mount that stays
  abbrev AllLand : Type 0
  AllLand = (number : ℕ) (place : Location ℕ) → goes number ≡ false → (before number).mount_point ≡ Some place
      → (rest : Location ℕ) × FallsTo world gone place rest

  goes-rest : (place rest : Location ℕ) → FallsTo world gone place rest → goes rest.mount ≡ false
  goes-rest place rest (rests at stays) = stays
  goes-rest place rest (falls at below end goes under more) = goes-rest below end more

  -- What comes to rest from a mount stands later, in the namespace of that mount
  abbrev LandsOn : ℕ → Location ℕ → Type 0
  LandsOn number rest = Stands nat_eq later rest.mount × ((before number).namespace ≡ (before rest.mount).namespace)

  record StandsStill (number : ℕ) : Type 0 where
    itself : Stands nat_eq later number
    lands : (place rest : Location ℕ) → place.mount ≡ number → FallsTo world gone place rest → LandsOn number rest

  at_root_still : (number : ℕ) → (before number).mount_point ≡ None → StandsStill number
  at_root_still number e = record { itself = itself; lands = lands }
    where
      itself : Stands nat_eq later number
      itself = at_root number (root_stays world gone number e)

      lands : (place rest : Location ℕ) → place.mount ≡ number → FallsTo world gone place rest → LandsOn number rest
      lands place rest same (rests at stays) = (rw same itself, cc)
      lands place rest same (falls at below end goes under more) = cc

  module _ (one : OneNumberEach world) (all : AllStand world) (land : AllLand) where
    on_parent_still : (number : ℕ) (on : Location ℕ) → (before number).mount_point ≡ Some on
        → (before number).namespace ≡ (before on.mount).namespace → StandsStill on.mount → StandsStill number
    on_parent_still number on e f parent = record { itself = itself; lands = lands }
      where
        itself : Stands nat_eq later number
        itself = elim (cases_Bool (goes number)) [
          | inl leaves ↦ at_root number (ap (λ m. m.mount_point) (detached_by_number world gone number leaves))
          | inr stays ↦
              let rest = land number on stays e in
              let landed = parent.lands on rest.0 refl rest.1 in
              let ends = (standing_is_computed world one).0 all in
              on_parent number rest.0 (place_fallen world gone ends number on rest.0 stays e rest.1) (cc (
                (kept_by_number world gone number stays).namespace,
                f,
                landed.1,
                (kept_by_number world gone rest.0.mount (goes-rest on rest.0 rest.1)).namespace,
              )) landed.0
        ]

        lands : (place rest : Location ℕ) → place.mount ≡ number → FallsTo world gone place rest → LandsOn number rest
        lands place rest same (rests at stays) = (rw same itself, cc)
        lands place rest same (falls at below end goes under more) =
            let here : below.mount ≡ on.mount = cc in
            let landed = parent.lands below end here more in
            (landed.0, cc (f, landed.1))

    stands_still : (number : ℕ) → Stands nat_eq world number → StandsStill number
    stands_still number (at_root it e) = at_root_still it e
    stands_still number (on_parent it on e f stands) = on_parent_still it on e f (stands_still on.mount stands)

    pub taken_stand : AllStand later
    taken_stand = all_from_among (λ (mount : Mount ℕ). Stands nat_eq later mount.number) later.mounts
        (λ mount m. (stands_still mount.number (stand world one all mount.number)).itself)

  -- All land where each mount that goes, and has another on it, has a mount point,
  pub lands_by_places : OneNumberEach world → AllStand world
      → ((x : Mount ℕ) (place : Location ℕ) → Among x world.mounts → x.mount_point ≡ Some place
      → goes place.mount ≡ true → is_some (mount_at nat_eq world place).mount_point ≡ true) → AllLand
  lands_by_places one all placed number place stays e = comes_to_rest place.mount (stand world one all _) number place e
      refl
    where
      comes_to_rest : (below : ℕ) → Stands nat_eq world below → (above : ℕ) (at : Location ℕ)
          → (before above).mount_point ≡ Some at → at.mount ≡ below → (rest : Location ℕ) × FallsTo world gone at rest
      comes_to_rest below (at_root it f) above at g same = elim (cases_Bool (goes at.mount)) [
        | inl leaves ↦ cc (placed (before above) at (placed_among _ above at g) g leaves)
        | inr rest ↦ (at, rests at rest)
      ]
      comes_to_rest below (on_parent it on f inside stands) above at g same =
          let l = comes_to_rest on.mount stands it on f refl in
          elim (cases_Bool (goes at.mount)) [
            | inl leaves ↦ (l.0, falls at on l.0 leaves (cc) l.1)
            | inr rest ↦ (at, rests at rest)
          ]

  -- and where each mount that goes takes with it all that stand on it.
  pub lands_by_closed : AreClosed world gone → AllLand
  lands_by_closed closed number place stays e = elim (cases_Bool (goes place.mount)) [
    | inl leaves ↦ cc (closed (before number) place (placed_among _ number place e) e leaves, number-mount_in _ number)
    | inr rest ↦ (place, rests place rest)
  ]
