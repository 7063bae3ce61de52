-- Mounts of others with other mount points and types, in their namespaces or in none: the part shows the same of them.
use Rattle.std.proofs.Common.{arith, ◌≡◌, refl, sym, ap, ◌∙◌, ◌⊎◌, inl, inr, ⊎_elim, ℕ, nat_eq, Bool, true, false, cond, List, Option, Some, None, ◌||◌}
use Rattle.vt_spec.proofs.Common.{Among, Location, Mount, Propagation, TaskName, World, among-filter, common_steps, holds_of, is_at, is_own_namespace, locations, members, own_mounts, roots_and_directories, seen_by_descriptor, when}
use Rattle.vt_laws_sealed.proofs.part.part.PartOfPart.{is_own, keep}
use Rattle.vt_laws_sealed.proofs.outsiders.ChangedWorlds.{KeepsOrDetaches}
use Rattle.vt_laws_sealed.proofs.outsiders.OtherMounts.{not_own}
use Rattle.vt_laws_sealed.proofs.outsiders.StandingApart.{StandsApart}

-- a mount with another mount point and type, in its namespace or in none
abbrev pub IsReshaped : Mount ℕ → Mount ℕ → Type 0
IsReshaped old new = (namespace : Option ℕ) × (point : Option (Location ℕ)) × (kind : Propagation ℕ)
    × (new ≡ record old { namespace = namespace; mount_point = point; propagation = kind })
    × ((namespace ≡ old.namespace) ⊎ (namespace ≡ None))

pub reshaping_keeps : (change : Mount ℕ → Mount ℕ) → ((mount : Mount ℕ) → IsReshaped mount (change mount))
    → KeepsOrDetaches change
reshaping_keeps change shape = record {
  number = λ mount. ap (λ (x : Mount ℕ). x.number) (shape mount).3;
  filesystem = λ mount. ap (λ (x : Mount ℕ). x.filesystem) (shape mount).3;
  namespace = λ mount. ⊎_elim (λ same. inl (ap (λ (x : Mount ℕ). x.namespace) (shape mount).3 ∙ same))
      (λ none. inr (ap (λ (x : Mount ℕ). x.namespace) (shape mount).3 ∙ none)) (shape mount).4;
}

-- what is reshaped twice is reshaped
pub reshaped_twice : (old middle new : Mount ℕ) → IsReshaped old middle → IsReshaped middle new → IsReshaped old new
reshaped_twice old middle new one two = grind (arith, common_steps)

-- the part has the same of a mount of others
pub reshaped_kept : (world : World ℕ) (names : List TaskName) {New : ℕ → Type 0} → StandsApart world names New
    → (mount : Mount ℕ) → Among mount world.mounts → (new : Mount ℕ) → IsReshaped mount new
    → (Among mount (own_mounts nat_eq world names) → new ≡ mount) → (mount.namespace ≡ None → new ≡ mount)
    → keep world names (members world names) new ≡ keep world names (members world names) mount
reshaped_kept world names apart mount there new shaped own_same nowhere_same = by mount.namespace refl
  where
    by : (o : Option ℕ) → mount.namespace ≡ o
        → keep world names (members world names) new ≡ keep world names (members world names) mount
    by None e = ap (keep world names (members world names)) (nowhere_same e)
    by (Some n) e = which (is_own_namespace nat_eq world names n) refl
      where
        which : (b : Bool) → is_own_namespace nat_eq world names n ≡ b
            → keep world names (members world names) new ≡ keep world names (members world names) mount
        which true own = ap (keep world names (members world names)) (own_same (among-filter _ world.mounts mount there
            (ap (holds_of (is_own_namespace nat_eq world names)) e ∙ own)))
        which false other =
            let no_place = apart.not_stood n other mount there e in
            let no : (is_own world names (members world names) mount
            || is_at nat_eq (roots_and_directories (members world names)) mount) ≡ false =
            ap (λ b. b || is_at nat_eq (roots_and_directories (members world names)) mount)
            (not_own world names other mount there e) ∙ no_place in
            let no_later : (holds_of (is_own_namespace nat_eq world names) shaped.0
            || is_at nat_eq (roots_and_directories (members world names)) mount) ≡ false =
            ap (λ b. b || is_at nat_eq (roots_and_directories (members world names)) mount)
            (⊎_elim (λ same. ap (holds_of (is_own_namespace nat_eq world names)) (same ∙ e) ∙ other)
            (ap (holds_of (is_own_namespace nat_eq world names))) shaped.4) ∙ no_place in
            ap (keep world names (members world names)) shaped.3 ∙ ap (λ b. cond b (Some (record mount {
              namespace = shaped.0;
              mount_point = shaped.1;
              propagation = shaped.2;
            })) (when (is_at nat_eq (locations (members world names)) mount) (seen_by_descriptor mount))) no_later
            ∙ sym (ap (λ b. cond b (Some mount)
            (when (is_at nat_eq (locations (members world names)) mount) (seen_by_descriptor mount))) no)

pub reshaping_kept : (world : World ℕ) (names : List TaskName) {New : ℕ → Type 0} → StandsApart world names New
    → (change : Mount ℕ → Mount ℕ) → ((mount : Mount ℕ) → IsReshaped mount (change mount))
    → ((own : Mount ℕ) → Among own (own_mounts nat_eq world names) → change own ≡ own)
    → ((mount : Mount ℕ) → Among mount world.mounts → mount.namespace ≡ None → change mount ≡ mount)
    → (mount : Mount ℕ) → Among mount world.mounts
    → keep world names (members world names) (change mount) ≡ keep world names (members world names) mount
reshaping_kept world names apart change shape own_same nowhere_same mount there =
    reshaped_kept world names apart mount there (change mount) (shape mount) (own_same mount) (nowhere_same mount there)
