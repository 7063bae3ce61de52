-- Mounts and groups that change together, and the world that they are.
use Rattle.std.proofs.Common.{◌≡◌, ℕ, Bool, true, false, List, [], ◌∷◌, map, nat_eq, refl, ap, subst, sym, true≢false, ◌∙◌, All, Contains, if◌then◌else◌, arith}
use Rattle.vt_spec.proofs.Common.{Among, Mount, Private, Propagation, Shared, Slave, ToShared, ToSlave, TypeWord, Unbindable, World, all_from_among, among-from_map, among-map, among_from_all, among_from_contains, common_steps, detached, is_among, is_going, is_unbindable, list_any, map_alike, map_twice, regrouped, retyped, retyped_mount, taken_away, type_after, with_mounts, with_new_groups}
use Rattle.vt_group.specs.Grouping.{Grouping, Has, LacksGroup, propagation_in}
use Rattle.vt_group.specs.Laws.{shown, typed_by}
use Rattle.vt_group.proofs.Sharing.{sharing_lives, sharing_regroups}
use Rattle.vt_group.proofs.Showing.{shows_types}
use Rattle.vt_group.proofs.Together.{named_numbers}
use Rattle.vt_group.proofs.Typed.{regrouped_is_typed}
use Rattle.vt_mount.specs.MountsValue.{MountEntry, mounts_in}
use Rattle.vt_laws_mounts.proofs.GroupsKept.{taking_away_keeps_groups}
use Rattle.vt_laws_mounts.proofs.GroupsLiving.{all_live, tested_live}
use Rattle.vt_laws_mounts.proofs.GroupsRetyped as retyping
use Rattle.vt_propagate.specs.Falling.{left_by, moved_by}
use Rattle.vt_propagate.specs.Laws.{DetachingIsSeen, RetypingIsSeen, SharingIsSeen, SlavesAreSeen}
use Rattle.vt_retype.specs.Retyping.{AreTypedBut, shared_by, typed_entry}
use Rattle.vt_propagate.specs.Seen.{IsSeen}
use Rattle.vt_laws_mounts.specs.Mounts.Attaching.{numbers_of}
use Rattle.vt_laws_mounts.specs.Mounts.Receivers.{AllGroupsLive}

kind_told : (kind told : Propagation ℕ) → told ≡ shown kind → (if is_unbindable kind then Unbindable else told) ≡ kind
kind_told (Shared group) told is = is
kind_told (Slave master) told is = is
kind_told Private told is = is
kind_told Unbindable told is = refl

module _ (world : World ℕ) (kept : List MountEntry) (before : Grouping) (seen : IsSeen world kept before) where
  -- what has the number and the type of a mount is typed
  typed_alike : (mount : Mount ℕ) → Among mount world.mounts → (other : Mount ℕ) → other.number ≡ mount.number
      → other.propagation ≡ mount.propagation → typed_by before other ≡ other
  typed_alike mount m other number kind = λ i. record other {
    propagation = kind_told other.propagation (propagation_in before other.number)
        (ap (propagation_in before) number
        ∙ among_from_all (λ x. propagation_in before x.number ≡ shown x.propagation) world.mounts
        (shows_types world before seen.groups) mount m ∙ ap shown (sym kind)) i;
  }

  -- changed mounts are typed but for those of these numbers
  pub are_typed : (numbers : List ℕ) (left : List MountEntry) (change : Mount ℕ → Mount ℕ)
      → mounts_in left ≡ map change world.mounts
      → ((mount : Mount ℕ) → is_among nat_eq (change mount).number numbers ≡ false
      → ((change mount).number ≡ mount.number) × ((change mount).propagation ≡ mount.propagation))
      → AreTypedBut before numbers left
  are_typed numbers left change is keeps = all_from_among (λ entry. is_among nat_eq entry.mount.number numbers ≡ false
      → typed_entry before entry ≡ entry) left (λ entry m apart.
      let from = among-from_map change world.mounts entry.mount
      (subst (Among entry.mount) is (among-map (λ e. e.mount) left entry m)) in
      let same = keeps from.0 (sym (ap (λ (x : Mount ℕ). is_among nat_eq x.number numbers) from.2) ∙ apart) in
      (λ i. record entry {
        mount = typed_alike from.0 from.1 entry.mount (ap (λ x. x.number) from.2 ∙ same.0)
            (ap (λ x. x.propagation) from.2 ∙ same.1) i;
      }))

mounts-typed : (now : Grouping) (left : List MountEntry)
    → mounts_in (map (typed_entry now) left) ≡ map (typed_by now) (mounts_in left)
mounts-typed now [] = refl
mounts-typed now (entry ∷ left) = ap (λ rest. typed_by now entry.mount ∷ rest) (mounts-typed now left)

-- the mounts of a regrouped world are typed
seen_after : (base : World ℕ) (left : List MountEntry) {after : List MountEntry} {now : Grouping}
    → map (typed_by now) (mounts_in left) ≡ map (typed_by now) base.mounts → Has (regrouped nat_eq base) now
    → AllGroupsLive (regrouped nat_eq base) → after ≡ map (typed_entry now) left
    → IsSeen (regrouped nat_eq base) after now
seen_after base left {now} same has live is = record {
  mounts = ap mounts_in is ∙ mounts-typed now left ∙ same ∙ sym (ap (λ w. w.mounts) (regrouped_is_typed base now has));
  groups = has;
  living = live;
}

-- Mounts are detached

-- code has the mounts and groups that are left where mounts are detached
pub detaching_is_seen : DetachingIsSeen
detaching_is_seen world kept left after before now gone points seen leaves is takes follows =
    let change = left_by gone points in
    let base = with_mounts world (map change world.mounts) in
    subst (λ w. IsSeen w after now) (sym leaves) (seen_after base left (ap (map (typed_by now)) is)
    (subst (λ w. Has w now) leaves (takes world seen.groups seen.living))
    (subst AllGroupsLive leaves (all_live (taken_away nat_eq world gone)
    (taking_away_keeps_groups world gone (tested_live world seen.living))))
    (follows (are_typed world kept before seen gone left change is
    (λ mount apart. keeps mount (is_going nat_eq gone mount.number) refl apart))))
  where
    keeps : (mount : Mount ℕ) (b : Bool) → is_going nat_eq gone mount.number ≡ b
        → is_among nat_eq (left_by gone points mount).number gone ≡ false
        → ((left_by gone points mount).number ≡ mount.number)
        × ((left_by gone points mount).propagation ≡ mount.propagation)
    keeps mount true e apart = absurd (true≢false (sym e ∙ sym
        (ap (λ b. is_among nat_eq (if b then detached mount else moved_by points mount).number gone) e) ∙ apart))
    keeps mount false e apart = (
      ap (λ b. (if b then detached mount else moved_by points mount).number) e,
      ap (λ b. (if b then detached mount else moved_by points mount).propagation) e,
    )

-- Mounts get types

module _ (world : World ℕ) (live : AllGroupsLive world) (group : ℕ → ℕ) (word : TypeWord) (named : List (Mount ℕ))
  where
    abbrev base : World ℕ
    base = record world {
      mounts = map (retyped_mount nat_eq group word named) world.mounts;
      master = with_new_groups nat_eq group world.master named;
    }

    retyped_live : All (Contains world.mounts) named → ((number : ℕ) → LacksGroup world (group number))
        → AllGroupsLive (retyped nat_eq world group word named)
    retyped_live there lacks = all_live (retyped nat_eq world group word named)
        (retyping.all_live world group word named (tested_live world live) lacks (λ mount m source e.
        among_from_contains world.mounts mount (among_from_all (Contains world.mounts) named there mount m)))

    abbrev chosen : Mount ℕ → Bool
    chosen mount = list_any (λ other. nat_eq mount.number other.number) named

    abbrev retyped_if : Mount ℕ → Bool → Mount ℕ
    retyped_if mount b = if b then record mount { propagation = type_after (group mount.number) word mount.propagation }
        else mount

    others_keep : (mount : Mount ℕ)
        → is_among nat_eq (retyped_mount nat_eq group word named mount).number (numbers_of named) ≡ false
        → ((retyped_mount nat_eq group word named mount).number ≡ mount.number)
        × ((retyped_mount nat_eq group word named mount).propagation ≡ mount.propagation)
    others_keep mount apart = by (chosen mount) refl
      where
        by : (b : Bool) → chosen mount ≡ b → ((retyped_if mount (chosen mount)).number ≡ mount.number)
            × ((retyped_if mount (chosen mount)).propagation ≡ mount.propagation)
        by true e = absurd (true≢false (sym e ∙ named_numbers world live mount.number named
            ∙ sym (ap (λ b. is_among nat_eq (retyped_if mount b).number (numbers_of named)) e) ∙ apart))
        by false e = (ap (λ b. (retyped_if mount b).number) e, ap (λ b. (retyped_if mount b).propagation) e)

-- where they get a type
pub retyping_is_seen : RetypingIsSeen
retyping_is_seen world group word named kept left after before now seen there lacks is retypes follows =
    seen_after (base world seen.living group word named) left (ap (map (typed_by now)) is)
    (retypes world group named seen.groups seen.living refl lacks)
    (retyped_live world seen.living group word named there lacks)
    (follows (are_typed world kept before seen (numbers_of named) left (retyped_mount nat_eq group word named) is
    (others_keep world seen.living group word named)))

unchanged : (mounts : List (Mount ℕ)) → mounts ≡ map (λ mount. mount) mounts
unchanged [] = refl
unchanged (mount ∷ mounts) = ap (λ rest. mount ∷ rest) (unchanged mounts)

-- where they become slaves
pub slaves_are_seen : SlavesAreSeen
slaves_are_seen world group named kept after before now seen there lacks retypes follows =
    seen_after (base world seen.living group ToSlave named) kept (ap (map (typed_by now)) seen.mounts
    ∙ map_alike (typed_by now) (λ mount. typed_by now (retyped_mount nat_eq group ToSlave named mount)) world.mounts
    (λ mount m. typed mount (chosen world seen.living group ToSlave named mount))
    ∙ sym (map_twice (typed_by now) (retyped_mount nat_eq group ToSlave named) world.mounts))
    (retypes world group named seen.groups seen.living refl lacks)
    (retyped_live world seen.living group ToSlave named there lacks)
    (follows (are_typed world kept before seen [] kept (λ mount. mount) (seen.mounts ∙ unchanged world.mounts)
    (λ mount apart. (refl, refl))))
  where
    same : (new : ℕ) (kind : Propagation ℕ) → is_unbindable kind ≡ is_unbindable (type_after new ToSlave kind)
    same new (Shared own) = refl
    same new (Slave master) = refl
    same new Private = refl
    same new Unbindable = refl

    typed : (mount : Mount ℕ) (b : Bool)
        → typed_by now mount ≡ typed_by now (retyped_if world seen.living group ToSlave named mount b)
    typed mount true = λ i. record mount {
      propagation = if same (group mount.number) mount.propagation i then Unbindable
          else propagation_in now mount.number;
    }
    typed mount false = refl

-- a mount that may be one of those that are shared now
abbrev shared_mount : Grouping → List ℕ → Mount ℕ → Mount ℕ
shared_mount now numbers mount =
    if is_among nat_eq mount.number numbers then record mount { propagation = propagation_in now mount.number }
    else mount

mounts-shared : (now : Grouping) (numbers : List ℕ) (kept : List MountEntry)
    → mounts_in (map (shared_by now numbers) kept) ≡ map (shared_mount now numbers) (mounts_in kept)
mounts-shared now numbers [] = refl
mounts-shared now numbers (entry ∷ kept) = grind (arith, common_steps, mounts-shared now numbers kept)

-- and where they become shared
pub sharing_is_seen : SharingIsSeen
sharing_is_seen world group named kept before now seen there lacks shares = record {
  mounts = mounts-shared now (numbers_of named) kept ∙ ap (map (shared_mount now (numbers_of named))) seen.mounts
      ∙ map_alike (shared_mount now (numbers_of named)) (retyped_mount nat_eq group ToShared named) world.mounts alike
      ∙ sym (ap (λ w. w.mounts) regroups);
  groups = has;
  living = sharing_lives world seen.living before seen.groups group lacks named there;
}
  where
    regroups : retyped nat_eq world group ToShared named ≡ base world seen.living group ToShared named
    regroups = sharing_regroups world seen.living before seen.groups group lacks named there

    has : Has (retyped nat_eq world group ToShared named) now
    has = shares world group named seen.groups seen.living there refl lacks

    same : (new : ℕ) (kind : Propagation ℕ) → shown (type_after new ToShared kind) ≡ type_after new ToShared kind
    same new (Shared own) = refl
    same new (Slave master) = refl
    same new Private = refl
    same new Unbindable = refl

    alike : (mount : Mount ℕ) → Among mount world.mounts
        → shared_mount now (numbers_of named) mount ≡ retyped_mount nat_eq group ToShared named mount
    alike mount m = ap (λ b. if b then record mount { propagation = propagation_in now mount.number } else mount)
        (sym (named_numbers world seen.living mount.number named))
        ∙ by (chosen world seen.living group ToShared named mount) refl
      where
        told : propagation_in now (retyped_mount nat_eq group ToShared named mount).number
            ≡ shown (retyped_mount nat_eq group ToShared named mount).propagation
        told = among_from_all (λ x. propagation_in now x.number ≡ shown x.propagation)
            (base world seen.living group ToShared named).mounts
            (shows_types (base world seen.living group ToShared named) now (subst (λ w. Has w now) regroups has))
            (retyped_mount nat_eq group ToShared named mount)
            (among-map (retyped_mount nat_eq group ToShared named) world.mounts mount m)

        by : (b : Bool) → chosen world seen.living group ToShared named mount ≡ b
            → (if chosen world seen.living group ToShared named mount
            then record mount { propagation = propagation_in now mount.number } else mount)
            ≡ retyped_if world seen.living group ToShared named mount
            (chosen world seen.living group ToShared named mount)
        by true e = ap (λ b. if b then record mount { propagation = propagation_in now mount.number } else mount) e
            ∙ (λ i. record mount {
              propagation = (sym (ap (λ b. propagation_in now
                  (retyped_if world seen.living group ToShared named mount b).number) e) ∙ told
                  ∙ ap (λ b. shown (retyped_if world seen.living group ToShared named mount b).propagation) e
                  ∙ same (group mount.number) mount.propagation) i;
            }) ∙ sym (ap (retyped_if world seen.living group ToShared named mount) e)
        by false e = ap (λ b. if b then record mount { propagation = propagation_in now mount.number } else mount) e
            ∙ sym (ap (retyped_if world seen.living group ToShared named mount) e)
