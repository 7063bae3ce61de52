-- An unmount undoes the attachment of one mount: what was there is as it was, and each copy is detached.
use Rattle.std.proofs.Common.{None, Option, Some, arith, ap, eq-eqb, false, nat_eq, refl, subst, sym, true, true≢false, ℕ, ⊎_elim, ◌∙◌, ◌≡◌, ◌⊎◌, Contains}
use Rattle.vt_spec.proofs.Common.{Among, Fresh, Location, Mount, Private, Propagation, Shared, Slave, Unbindable, World, among_from_contains, any_among, any_from_among, common_steps, contains_from_among, false_from_ne_true, going, has_members, is_among, is_member_of, list_any, lost_a_group, may_go, mount_at, mount_numbered, receives, root_of, same_Some, source_of, stands_at, takes_part, unmounted}
use Rattle.vt_laws_mounts.specs.Mounts.Attaching.{is_mount}
use Rattle.vt_laws_mounts.specs.Mounts.Propagation.{Attachment, IsUndone, NothingAtReceivers}
use Rattle.vt_laws_mounts.specs.Mounts.Unmounting.{goes_with, has_its_master, mount_left}
use Rattle.vt_laws_mounts.specs.Mounts.Unmounting.FallsTo.{falls, rests}
use Rattle.vt_laws_mounts.specs.Mounts.Unmounting.Goes.{alone, at_receiver, from_nowhere}
use Rattle.vt_laws_mounts.proofs.GroupsKept.{member_shared, shared_member}
use Rattle.vt_laws_mounts.proofs.GroupsUp.{live_members, lives_in}
use Rattle.vt_laws_mounts.proofs.GroupsUp.Up.{above, here}
use Rattle.vt_laws_mounts.proofs.attached.AttachedMasters.{old_master}
use Rattle.vt_laws_mounts.proofs.ends.Unmounting.{groups_keep_their_masters, middle, root_mounts_stay, unmount_keeps_the_order, what_covered_falls, what_goes_is_detached, what_stays_keeps, what_stays_keeps_its_place, what_stays_keeps_its_type}
use Rattle.vt_laws_mounts.proofs.ends.UnmountingGoes.{what_goes_is_named}
use Rattle.vt_laws_mounts.proofs.mounts.MountsFound.{found_in, found_there}
use Rattle.vt_laws_mounts.proofs.mounts.MountsNumbered.{is_one_of}
use Rattle.vt_laws_mounts.proofs.mounts.MountsPlaces.{stands_at_its_place, stands_there}
use Rattle.vt_laws_mounts.proofs.mounts.MountsReplaced.{found_itself}
use Rattle.vt_laws_mounts.proofs.mounts.Receivers.{receives_completely}
use Rattle.vt_laws_mounts.proofs.propagation.OneAttached.{hears_group, later_number, one_of}
use Rattle.vt_laws_mounts.proofs.propagation.PropagationAttaching.{serve_images}
use Rattle.vt_laws_mounts.proofs.propagation.PropagationUp.{lives_up}
use Rattle.vt_laws_mounts.proofs.propagation.undone.Attached.{AttachesOne, Origin, StandsLater, after, copy, copy_among, copy_is_new, copy_number, copy_root, copy_stands, destination, destination_kind, destination_part, found-moved, groups_live, moved, moved_keeps, numbered-moved, on, one_number, origin, part_there, receiver_among, stands_later, world_with}
use Rattle.vt_laws_mounts.proofs.propagation.undone.Attached.Origin.{is_new, was_there}
use Rattle.vt_laws_mounts.proofs.propagation.undone.Attached.StandsLater.{rises, stays}
use Rattle.vt_laws_mounts.proofs.propagation.undone.Leaving.{GoesWithIt, copies_go, gone, receives-copy, receives-moved}
use Rattle.vt_spec.proofs.Worlds.{master-regrouped_by}

-- What holds of each mount that stands at the place on a mount which hears of the destination's group
abbrev pub AtReceivers : World ℕ → Location ℕ → (Mount ℕ → Mount ℕ → ℕ → Type 0) → Type 0
AtReceivers world place Holds =
    (group : ℕ) (receiver mount : Mount ℕ) → (mount_at nat_eq world place).propagation ≡ Shared group
    → Contains world.mounts receiver → receives nat_eq world group receiver ≡ true → Contains world.mounts mount
    → stands_at nat_eq (record { mount = receiver.number; node = place.node }) mount ≡ true → Holds receiver mount group

-- Each mount that stands at a receiver stays at an unmount: the receiver takes part, so that a copy came beneath the
-- mount; and what is attached does not hear of the group, its root is another node, or the mount may not go.
pub record LeavesReceivers (world : World ℕ) (fresh : Fresh ℕ) (place : Location ℕ) (first : Mount ℕ) : Type 0 where
  pub take_part : AtReceivers world place (λ receiver mount group. takes_part nat_eq world place receiver ≡ true)
  pub stay : AtReceivers world place (λ receiver mount group. (receives nat_eq world group first ≡ false)
      ⊎ ((nat_eq first.root place.node ≡ false) ⊎ (may_go nat_eq (world_with world fresh place first)
      (mount_numbered nat_eq (world_with world fresh place first) mount.number) ≡ false)))

-- they do where nothing stands at receivers
pub nothing_leaves_receivers : (world : World ℕ) (fresh : Fresh ℕ) (place : Location ℕ) (first : Mount ℕ)
    → NothingAtReceivers world place → LeavesReceivers world fresh place first
nothing_leaves_receivers world fresh place first nothing = record {
  take_part = λ group receiver mount e r hears m stood.
      absurd (true≢false (sym stood ∙ nothing group receiver mount e r hears m));
  stay = λ group receiver mount e r hears m stood.
      absurd (true≢false (sym stood ∙ nothing group receiver mount e r hears m));
}

module _ {world : World ℕ} {fresh : Fresh ℕ} {place : Location ℕ} {first : Mount ℕ}
    (a : AttachesOne world fresh place first) (leaves : LeavesReceivers world fresh place first) where
  abbrev it : Attachment
  it = one_of world fresh place first

  -- Nothing that was there goes

  -- no mount hears of the group, has a child at the place that was there, and may lose it
  keeps_child : (group : ℕ) (receiver old : Mount ℕ) → (destination a).propagation ≡ Shared group
      → receives nat_eq (after a) group receiver ≡ true → Among old world.mounts
      → (moved a old).mount_point ≡ Some (on a receiver) → may_go nat_eq (after a) (moved a old) ≡ true
      → Origin a receiver → Among receiver (after a).mounts → ⊥
  keeps_child group receiver old e hearing m at may from r = by (stands_later a old) from
    where
      contained : Contains world.mounts old
      contained = contains_from_among world.mounts old m

      by : StandsLater a old → Origin a receiver → ⊥
      -- it still stands on a mount that was there, which takes part, so that a copy came beneath it
      by (stays still off) (was_there was n is) =
          let stood : stands_at nat_eq (on a was) old ≡ true =
          stands_at_its_place (on a was) old (cc (still, at, is, (moved_keeps a was).number)) in
          let heard : receives nat_eq world group was ≡ true = cc (is, receives-moved a was n group, hearing) in
          let takes = leaves.take_part group was old e (contains_from_among world.mounts was n) heard contained stood in
          cc (stood, off was (receiver_among a group was e n heard takes))
      -- it stands on no copy
      by (stays still off) (is_new part c is) =
          cc (a.on_mounts old m (on a receiver) (cc (still, at)), is, copy_is_new a part c)
      -- it stands on the root of the copy that came beneath it, which is at another node, or it may not go
      by (rises part c was now) from =
          let here : on a receiver ≡ root_of (copy a part) = same_Some _ _ (cc (at, now)) in
          let one : receiver ≡ copy a part = cc (
            ap (λ (l : Location ℕ). l.mount) here,
            found_itself (after a).mounts (one_number a) receiver r,
            found_itself (after a).mounts (one_number a) (copy a part) (copy_among a part c),
          ) in
          ⊎_elim (λ quiet. cc (one, receives-copy a part c group e)) (λ rest. ⊎_elim (λ other. cc (
            eq-eqb (copy a part).root place.node (sym (ap (λ (l : Location ℕ). l.node) here)),
            copy_root a part c,
          )) (λ remains. cc (found-moved a old m)) rest)
          (leaves.stay group part old e (contains_from_among world.mounts part (part_there a part c))
          (hears_group world fresh place first a.there part c group e) contained
          (stands_at_its_place (on a part) old was))

  not_gone : (went number : ℕ) → GoesWithIt a went → is_mount world number ≡ true → went ≡ number → ⊥
  not_gone went number (from_nowhere e) is same = cc (copy_stands a _ (destination_part a), e)
  not_gone went number (alone at e f) is same = cc (copy_is_new a _ (destination_part a))
  not_gone went number (at_receiver at group receiver child e f contained hearing found may) is same =
      let at_is : on a (destination a) ≡ at = same_Some _ at (cc (copy_stands a _ (destination_part a), e)) in
      let t = found_in (stands_at nat_eq (record { mount = receiver.number; node = at.node })) _ child found in
      let stands : child.mount_point ≡ Some (on a receiver) =
      stands_there _ child t.1
      ∙ ap (λ (l : Location ℕ). Some (record { mount = receiver.number; node = l.node })) (sym at_is) in
      let shared : (destination a).propagation ≡ Shared group = sym (destination_kind a)
      ∙ ap (λ (l : Location ℕ). (mount_at nat_eq (after a) l).propagation) at_is ∙ f in
      let r = among_from_contains (after a).mounts receiver contained in
      by shared stands r (origin a receiver r) (origin a child t.0)
    where
      by : (destination a).propagation ≡ Shared group → child.mount_point ≡ Some (on a receiver)
          → Among receiver (after a).mounts → Origin a receiver → Origin a child → ⊥
      by shared stands r from (was_there old m is) = keeps_child group receiver old shared
          (receives_completely (after a) (groups_live a) group receiver r hearing) m (cc (is, stands)) (cc
          (is, may)) from
          r
      by shared stands r from (is_new part c new) = cc (new, copy_is_new a part c)

  remains : (number : ℕ) → is_mount world number ≡ true → goes_with (after a) (gone a) number ≡ false
  unfolding world_with copy
  remains number is = false_from_ne_true _ (λ h.
      not_gone number number ((what_goes_is_named (after a) (gone a) number (groups_live a)).0 h) is refl)

  -- The mounts that were there are as they were

  abbrev undone : World ℕ
  undone = unmounted nat_eq (after a) (gone a)

  abbrev left : ℕ → Mount ℕ
  left number = mount_left (after a) (gone a) number

  abbrev before : ℕ → Mount ℕ
  before number = mount_numbered nat_eq world number

  left_among : (number : ℕ) → is_mount world number ≡ true → Among (left number) undone.mounts
  unfolding world_with
  left_among number is = found_there undone.mounts number
      (ap (is_among nat_eq number) (unmount_keeps_the_order (after a) (gone a))
      ∙ later_number world fresh place first a.there number is)

  -- a type stays, as each group keeps a member

  type_stays : (number : ℕ) → is_mount world number ≡ true → has_its_master undone (before number).propagation ≡ true
      → (left number).propagation ≡ (before number).propagation
  type_stays number is e =
      let same : (mount_numbered nat_eq (after a) number).propagation ≡ (before number).propagation =
      cc (numbered-moved a number is, (moved_keeps a (before number)).propagation) in
      what_stays_keeps_its_type (after a) (gone a) number (remains number is)
      (ap (has_its_master undone) same ∙ e) ∙ same

  still_members : (group : ℕ) → has_members nat_eq world.mounts group ≡ true
      → has_members nat_eq undone.mounts group ≡ true
  still_members group has =
      let member = any_among (is_member_of nat_eq group) world.mounts has in
      let is = is_one_of world.mounts member.0 member.1 in
      let shared : (before member.0.number).propagation ≡ Shared group =
      cc (found_itself world.mounts a.can.one_number member.0 member.1, member_shared group member.0 member.2) in
      any_from_among (is_member_of nat_eq group) undone.mounts (left member.0.number) (left_among member.0.number is)
      (shared_member group (left member.0.number)
      (type_stays member.0.number is (ap (has_its_master undone) shared) ∙ shared))

  has_master_still : (number : ℕ) → is_mount world number ≡ true
      → has_its_master undone (before number).propagation ≡ true
  has_master_still number is = by _ refl
    where
      by : (kind : Propagation ℕ) → (before number).propagation ≡ kind
          → has_its_master undone (before number).propagation ≡ true
      by (Shared group) e = ap (has_its_master undone) e
      by (Slave master) e = ap (has_its_master undone) e ∙ still_members master (live_members world.master
          (has_members nat_eq world.mounts) master
          (lives_in world a.can.groups (before number) (found_there _ number is) master (ap source_of e)))
      by Private e = ap (has_its_master undone) e
      by Unbindable e = ap (has_its_master undone) e

  -- a mount point stays, or falls from the root of the copy to that copy's mount point
  point_stays : (number : ℕ) → is_mount world number ≡ true → (left number).mount_point ≡ (before number).mount_point
  point_stays number is = by (stands_later a (before number))
    where
      still_at : moved a (before number) ≡ before number → (o : Option (Location ℕ)) → (before number).mount_point ≡ o
          → (left number).mount_point ≡ (before number).mount_point
      still_at still None e =
          root_mounts_stay (after a) (gone a) number (cc (numbered-moved a number is, still, e)) ∙ sym e
      still_at still (Some at) e =
          what_stays_keeps_its_place (after a) (gone a) number at (remains number is)
          (cc (numbered-moved a number is, still, e))
          (remains at.mount (a.on_mounts (before number) (found_there _ number is) at e)) ∙ sym e

      by : StandsLater a (before number) → (left number).mount_point ≡ (before number).mount_point
      by (stays still off) = still_at still _ refl
      by (rises part c was now) =
          let found = found_itself (after a).mounts (one_number a) (copy a part) (copy_among a part c) in
          let under = copy_stands a part c in
          what_covered_falls (after a) (gone a) number (root_of (copy a part)) (on a part) a.chains_end
          (remains number is) (cc (numbered-moved a number is, now)) (falls (root_of (copy a part)) (on a part)
          (on a part) (copies_go a part c) (cc (found, under)) (rests (on a part)
          (remains part.number (is_one_of world.mounts part (part_there a part c))))) ∙ sym was

  record_back : (number : ℕ) → is_mount world number ≡ true → left number ≡ before number
  record_back number is =
      let k = what_stays_keeps (after a) (gone a) number (remains number is) in
      let same = numbered-moved a number is in
      let up = moved_keeps a (before number) in
      grind (arith, common_steps, point_stays, type_stays, has_master_still)

  master_stays : (group : ℕ) → has_members nat_eq world.mounts group ≡ true → undone.master group ≡ world.master group
  unfolding world_with
  master_stays group has = by _ refl
    where
      same : (after a).master group ≡ world.master group
      same = old_master place false (serve_images it a.can) a.can.each_once group has

      by : (o : Option ℕ) → world.master group ≡ o → undone.master group ≡ world.master group
      by None e = master-regrouped_by (list_any (lost_a_group nat_eq (middle (after a) (going nat_eq (after a)
          (mount_numbered nat_eq (after a) (gone a)))))
          (middle (after a) (going nat_eq (after a) (mount_numbered nat_eq (after a) (gone a)))).mounts)
          (middle (after a) (going nat_eq (after a) (mount_numbered nat_eq (after a) (gone a)))) group (same ∙ e)
          ∙ sym e
      by (Some master) e =
          let one = any_among (is_member_of nat_eq group) world.mounts has in
          let life = lives_in world a.can.groups one.0 one.1 group (ap source_of (member_shared group one.0 one.2)) in
          groups_keep_their_masters (after a) (gone a) group master (same ∙ e) (still_members master (live_members
          world.master (has_members nat_eq world.mounts) master (lives_up world.master
          (has_members nat_eq world.mounts) group master life (above group master master e (here master))))) ∙ sym e

  pub undoes : IsUndone it first
  unfolding world_with copy
  undoes = record {
    back = record_back;
    gone = λ part c. what_goes_is_detached (after a) (gone a) _
        (subst (λ n. goes_with (after a) (gone a) n ≡ true) (copy_number a part) (copies_go a part c));
    masters = master_stays;
  }
