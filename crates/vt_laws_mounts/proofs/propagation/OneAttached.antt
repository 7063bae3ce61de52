-- The attachment of one mount: its copies, one on each part.
use Rattle.std.proofs.Common.{◌≡◌, sym, ap, subst, ◌∙◌, true, false, nat_eq, ℕ, List, [], ⊎_elim, ◌∷◌}
use Rattle.vt_spec.proofs.Common.{Among, Fresh, Location, Mount, Shared, World, among-append_left, among-from_filter, among_from_contains, among_numbers, group_of, is_among, is_among_numbers, mount_at, parts_of, receivers_of, receives, same_Some, source_of, takes_part}
use Rattle.vt_laws_mounts.specs.Mounts.Attaching.{is_mount}
use Rattle.vt_laws_mounts.specs.Mounts.Propagation.{Attachment, IsPart, world_after}
use Rattle.vt_laws_mounts.proofs.attached.Attaching.{taker_there}
use Rattle.vt_laws_mounts.proofs.mounts.MountsAttached.{new_mounts_follow}
use Rattle.vt_laws_mounts.proofs.mounts.MountsFound.{found_there}
use Rattle.vt_laws_mounts.proofs.mounts.Receivers.{receives_from_source, receiver_receives}

-- the attachment of one mount, of which no copy goes onto another mount
abbrev pub one_of : World ℕ → Fresh ℕ → Location ℕ → Mount ℕ → Attachment
one_of world fresh place first =
    record { world = world; fresh = fresh; mount_point = place; moves = false; mounts = first ∷ [] }

module _ (world : World ℕ) (fresh : Fresh ℕ) (place : Location ℕ) (first : Mount ℕ)
    (there : is_mount world place.mount ≡ true) where
  abbrev it : Attachment
  it = one_of world fresh place first

  abbrev after : World ℕ
  after = world_after it

  abbrev destination : Mount ℕ
  destination = mount_at nat_eq world place

  abbrev parts : List (Mount ℕ)
  parts = parts_of nat_eq world place

  -- mounts stay
  pub later_number : (one : ℕ) → is_mount world one ≡ true → is_mount after one ≡ true
  later_number one old =
      let t = new_mounts_follow world fresh place false (first ∷ []) in
      ap (is_among nat_eq one) t.1 ∙ is_among_numbers _ one (among-append_left _ t.0 one (among_numbers _ one old))

  -- parts were there, and hear the group of the destination
  pub part_old : (part : Mount ℕ) → IsPart it part → Among part world.mounts
  part_old part c = ⊎_elim (λ same. subst (λ x. Among x world.mounts) (sym same) (found_there _ _ there))
      (λ rest. taker_there world place part rest) (among_from_contains parts part c)

  pub hears_group : (part : Mount ℕ) → IsPart it part → (group : ℕ) → destination.propagation ≡ Shared group
      → receives nat_eq world group part ≡ true
  hears_group part c group e = ⊎_elim (λ same.
      subst (λ x. receives nat_eq world group x ≡ true) (sym same)
      (receives_from_source world group destination (ap source_of e))) (λ rest.
      let t = receiver_receives world destination part
      (among-from_filter (takes_part nat_eq world place) (receivers_of nat_eq world destination) part rest).0 in
      subst (λ g. receives nat_eq world g part ≡ true) (same_Some t.0 group (ap group_of (sym t.1 ∙ e))) t.3)
      (among_from_contains parts part c)
