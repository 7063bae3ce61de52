-- The types that the groups tell, where mounts are detached or uses change.
use Rattle.std.proofs.Common.{◌≡◌, refl, sym, ap, subst, ◌∙◌, ℕ, nat_eq, Bool, true, false, true≢false, cond, ◌||◌, ◌⊎◌, ⊎_elim, inl, inr, List, [], ◌∷◌, Option, None, Some, eq-eqb, eqb-true, if◌then◌else◌, arith}
use Rattle.vt_spec.proofs.Common.{Mount, Private, Propagation, Shared, Slave, Unbindable, World, common_steps, eqb-false, folded, is_among, is_unbindable, source_of}
use Rattle.vt_mounting.proofs.Common.{Among, AreTyped, Grouping, Has, IsHeld, MountEntry, WorldValue, all_from_among, among-from_filter, among-from_map, among-map, among_from_all, changed, held, inode_at, or_right, propagation_in, released, typed_by, typed_entry, world_of}
use Rattle.vt_group.specs.Laws.{shown}
use Rattle.vt_group.proofs.Showing.{shows_types}
use Rattle.vt_mounting.specs.Detach.Detached.{LeaveInTurn}
use Rattle.vt_retype.specs.Retyping.{AreTypedBut, HaveNoSource}
use Rattle.vt_mounting.specs.Detach.Uses.{Kept, detached_entry, detached_use, let_go_mount, released_use, without_attachment}
use Rattle.vt_mounting.proofs.detach.MidwayDone.{leave_use}
use Rattle.vt_mounting.proofs.detach.Moving.{Use, gain}

-- what is left where a mount may go was there before
left_was : (number : ℕ) (k : Kept) (entry : MountEntry) → Among entry (let_go_mount number k).mounts
    → Among entry k.mounts
left_was number k entry = grind (arith, common_steps, among-from_filter)

-- each mount that is left is the one that is detached, or stays as it is
pub one_left : (P : MountEntry → Type 0) (number : ℕ)
    (point : Option Rattle.vt_location.specs.declared.locations.Location.Location) (k : Kept)
    → ((was : MountEntry) → Among was k.mounts → nat_eq number was.mount.number ≡ true → P (detached_entry was))
    → ((was : MountEntry) → Among was k.mounts → nat_eq number was.mount.number ≡ false → P was)
    → (entry : MountEntry) → Among entry (without_attachment number point k).mounts → P entry
one_left P number point k goes stays entry m =
    let from = among-from_map (λ (one : MountEntry). cond (nat_eq number one.mount.number)
    (detached_entry one) one) k.mounts entry (left_was number (detached_use number point k) entry m) in
    subst P (sym from.2) (by from.0 from.1 (nat_eq number from.0.mount.number) refl)
  where
    by : (was : MountEntry) → Among was k.mounts → (b : Bool) → nat_eq number was.mount.number ≡ b
        → P (cond (nat_eq number was.mount.number) (detached_entry was) was)
    by was n true e = subst (λ c. P (cond c (detached_entry was) was)) (sym e) (goes was n e)
    by was n false e = subst (λ c. P (cond c (detached_entry was) was)) (sym e) (stays was n e)

-- Mounts that are detached one after the other, of those with these numbers: each that is one of them is private then,
-- and each other has the type that the groups tell.

module _ (groups : Grouping) (numbers : List ℕ) where
  abbrev IsDone : MountEntry → Type 0
  IsDone entry = (is_among nat_eq entry.mount.number numbers ≡ false → typed_entry groups entry ≡ entry)
      × (is_among nat_eq entry.mount.number numbers ≡ true → source_of entry.mount.propagation ≡ None)

  abbrev IsDoneBut : List ℕ → MountEntry → Type 0
  IsDoneBut rest entry = IsDone entry ⊎ (is_among nat_eq entry.mount.number rest ≡ true)

  turn_done : (rest : List ℕ) (k last : Kept)
      → ((number : ℕ) → is_among nat_eq number rest ≡ true → is_among nat_eq number numbers ≡ true)
      → LeaveInTurn rest k last → ((entry : MountEntry) → Among entry k.mounts → IsDoneBut rest entry)
      → (entry : MountEntry) → Among entry last.mounts → IsDone entry
  turn_done [] k last within same done = λ entry m. ⊎_elim (λ is. is) (λ none. absurd (true≢false (sym none)))
      (done entry (subst (λ (one : Kept). Among entry one.mounts) same m))
  turn_done (number ∷ rest) k last within turn done = turn_done rest (without_attachment number turn.0 k) last
      (λ other t. within other (or_right (nat_eq other number) (is_among nat_eq other rest) t)) turn.3
      (one_left (IsDoneBut rest) number turn.0 k (λ was m same. inl (
        λ apart. absurd (true≢false (sym (within was.mount.number (ap (λ b. b || is_among nat_eq was.mount.number rest)
            (eq-eqb was.mount.number number (sym (eqb-true number was.mount.number same))))) ∙ apart)),
        λ is. refl,
      )) (λ was m apart. ⊎_elim (λ is. inl is)
      (λ later. inr (ap (λ b. b || is_among nat_eq was.mount.number rest) (sym (turned was.mount.number apart))
      ∙ later)) (done was m)))
    where
      turned : (other : ℕ) → nat_eq number other ≡ false → nat_eq other number ≡ false
      turned other apart = Rattle.std.proofs.Common.ne_eqb other number
          (λ same. eqb-false number other apart (sym same))

  all_done : (k last : Kept) → LeaveInTurn numbers k last → AreTyped groups k.mounts
      → (entry : MountEntry) → Among entry last.mounts → IsDone entry
  all_done k last turn typed = turn_done numbers k last (λ number t. t) turn
      (λ was n. at_first was n (is_among nat_eq was.mount.number numbers) refl)
    where
      at_first : (was : MountEntry) → Among was k.mounts → (b : Bool) → is_among nat_eq was.mount.number numbers ≡ b
          → IsDoneBut numbers was
      at_first was n true e = inr e
      at_first was n false e = inl (
        λ apart i. record was {
          mount = among_from_all (λ (entry : MountEntry). typed_by groups entry.mount ≡ entry.mount) k.mounts typed
              was n i;
        },
        λ is. absurd (true≢false (sym is ∙ e)),
      )

  pub turn_typed : (k last : Kept) → LeaveInTurn numbers k last → AreTyped groups k.mounts
      → AreTypedBut groups numbers last.mounts
  turn_typed k last turn typed =
      all_from_among (λ (entry : MountEntry). is_among nat_eq entry.mount.number numbers ≡ false
      → typed_entry groups entry ≡ entry) last.mounts (λ entry m. (all_done k last turn typed entry m).0)

  pub turn_sourceless : (k last : Kept) → LeaveInTurn numbers k last → AreTyped groups k.mounts
      → HaveNoSource numbers last.mounts
  turn_sourceless k last turn typed =
      all_from_among (λ (entry : MountEntry). is_among nat_eq entry.mount.number numbers ≡ true
      → source_of entry.mount.propagation ≡ None) last.mounts (λ entry m. (all_done k last turn typed entry m).1)

-- What keeps the types

pub changed_typed : (groups : Grouping) (number : ℕ) (change : MountEntry → MountEntry)
    → ((entry : MountEntry) → typed_by groups entry.mount ≡ entry.mount
    → typed_by groups (change entry).mount ≡ (change entry).mount)
    → (entries : List MountEntry) → AreTyped groups entries → AreTyped groups (changed number change entries)
changed_typed groups number change keeps entries typed =
    all_from_among (λ (entry : MountEntry). typed_by groups entry.mount ≡ entry.mount) (changed number change entries)
    (λ entry m.
    let from = among-from_map (λ (one : MountEntry). cond (nat_eq number one.mount.number)
    (change one) one) entries entry m in
    subst (λ (one : MountEntry). typed_by groups one.mount ≡ one.mount) (sym from.2)
    (by from.0 (among_from_all (λ (one : MountEntry). typed_by groups one.mount
    ≡ one.mount) entries typed from.0 from.1) (nat_eq number from.0.mount.number)))
  where
    by : (one : MountEntry) → typed_by groups one.mount ≡ one.mount → (b : Bool)
        → typed_by groups (cond b (change one) one).mount ≡ (cond b (change one) one).mount
    by one typed true = keeps one typed
    by one typed false = typed

pub left_typed : (groups : Grouping) (number : ℕ) (k : Kept) → AreTyped groups k.mounts
    → AreTyped groups (let_go_mount number k).mounts
left_typed groups number k typed =
    all_from_among (λ (entry : MountEntry). typed_by groups entry.mount ≡ entry.mount) (let_go_mount number k).mounts
    (λ entry m.
    among_from_all (λ (one : MountEntry). typed_by groups one.mount ≡ one.mount) k.mounts typed entry
    (left_was number k entry m))

module _ (groups : Grouping) (world : World ℕ) where
  pub gained_typed : (uses : List Use) (k : Kept) → AreTyped groups k.mounts
      → AreTyped groups (folded (gain world) k uses).mounts
  gained_typed [] k typed = typed
  gained_typed (u ∷ uses) k typed = gained_typed uses (gain world k u)
      (changed_typed groups u.location.mount (held u.writes) (λ entry is. is) k.mounts typed)

  pub uses_left_typed : (uses : List Use) (k : Kept) → AreTyped groups k.mounts
      → AreTyped groups (folded (leave_use world) k uses).mounts
  uses_left_typed [] k typed = typed
  uses_left_typed (u ∷ uses) k typed = uses_left_typed uses (leave_use world k u)
      (left_typed groups u.location.mount (released_use u.location.mount (inode_at world u.location) u.writes k)
      (changed_typed groups u.location.mount (released u.writes) (λ entry is. is) k.mounts typed))

  -- the mounts of a world have the types that its groups tell
  pub world_typed : Has world groups → (mount : Mount ℕ) → Among mount world.mounts → typed_by groups mount ≡ mount
  world_typed has mount m =
      let told = among_from_all (λ (x : Mount ℕ). propagation_in groups x.number ≡ shown x.propagation) world.mounts
      (shows_types world groups has) mount m in
      λ i. record mount { propagation = by mount.propagation told i }
    where
      by : (kind : Propagation ℕ) → propagation_in groups mount.number ≡ shown kind
          → (if is_unbindable kind then Unbindable else propagation_in groups mount.number) ≡ kind
      by (Shared group) told = told
      by (Slave master) told = told
      by Private told = told
      by Unbindable told = refl

pub own_types : (value : WorldValue) → IsHeld value → AreTyped value.groups value.mounts
own_types value held =
    all_from_among (λ (entry : MountEntry). typed_by value.groups entry.mount ≡ entry.mount) value.mounts (λ entry m.
    world_typed value.groups (world_of value) held.groups entry.mount
    (among-map (λ (one : MountEntry). one.mount) value.mounts entry m))
