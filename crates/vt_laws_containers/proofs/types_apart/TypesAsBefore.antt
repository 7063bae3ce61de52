-- Where mounts of a sealed set change their types, others are as they were.
use Rattle.std.proofs.Common.{arith, ◌≡◌, refl, ap, subst, ◌∙◌, inl, ℕ, nat_eq, Bool, List, [], ◌∷◌, map, not}
use Rattle.vt_spec.proofs.Common.{Among, Fresh, Location, Mount, Propagation, Serves, TaskName, TypeWord, World, among_from_list_all, common_steps, is_own_mount, list_all_from_among, map_alike, map_twice, mount_at, mount_in, own_mounts, used_directly}
use Rattle.vt_laws_containers.proofs.Common.{IsSealed, apart_if_sealed, filter-map}
use Rattle.vt_laws_containers.proofs.footholds.AsBefore.{OthersAsBefore}
use Rattle.vt_laws_containers.proofs.types_apart.GroupsApart.{groups_apart, kind_after, left, others_kept}

-- what each mount keeps when types change, the mount of a number keeps
module _ {A : Type 0} (kind : Mount ℕ → Propagation ℕ) (f : Mount ℕ → A)
    (same : (m : Mount ℕ) → f (record m { propagation = kind m }) ≡ f m) (number : ℕ) where
  abbrev after : Mount ℕ → Mount ℕ
  after m = record m { propagation = kind m }

  kept_at : (mounts : List (Mount ℕ))
      → f (mount_in nat_eq (map after mounts) number) ≡ f (mount_in nat_eq mounts number)
  kept_at [] = refl
  kept_at (m ∷ rest) = grind (arith, common_steps, kept_at rest)

module _ {world : World ℕ} {names : List TaskName} (sealing : IsSealed world names) {fresh : Fresh ℕ}
    (serves : Serves nat_eq world fresh) (word : TypeWord) (named : List (Mount ℕ))
    (named_own : (m : Mount ℕ) → Among m named → Among m (own_mounts nat_eq world names)) where
  abbrev now : World ℕ
  now = left sealing serves word named named_own

  abbrev kind : Mount ℕ → Propagation ℕ
  kind = kind_after sealing serves word named named_own

  abbrev typed : Mount ℕ → Mount ℕ
  typed m = record m { propagation = kind m }

  abbrev owned : Mount ℕ → Bool
  owned = is_own_mount nat_eq world names

  abbrev shows : Mount ℕ → ℕ
  shows m = m.filesystem

  shown_still : (l : Location ℕ) → (mount_at nat_eq now l).filesystem ≡ (mount_at nat_eq world l).filesystem
  shown_still l = kept_at kind shows (λ m. refl) l.mount world.mounts

  direct_same : used_directly nat_eq now names ≡ used_directly nat_eq world names
  direct_same = cc (
    filter-map owned {q = owned} typed _ (λ m. refl),
    map_twice shows typed _,
    map_alike (λ k. shows (mount_at nat_eq now k)) (λ k. shows (mount_at nat_eq world k)) _ (λ l m. shown_still l),
  )

  pub types_as_before : OthersAsBefore world now names names
  types_as_before = record {
    others = refl;
    mounts = others_kept sealing serves word named named_own;
    shown = λ l m. shown_still l;
    tasks = (apart_if_sealed sealing).tasks;
    events = groups_apart sealing serves word named named_own;
    places = list_all_from_among (λ l. not (owned (mount_at nat_eq now l))) _
        (λ l m. ap not (kept_at kind owned (λ x. refl) l.mount world.mounts)
        ∙ among_from_list_all (λ k. not (owned (mount_at nat_eq world k))) _ (apart_if_sealed sealing).locations l m);
    filesystems = λ f m. inl (f, m, refl, refl);
    direct = λ number m. inl (subst (Among number) direct_same m);
  }
