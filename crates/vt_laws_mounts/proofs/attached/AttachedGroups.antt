-- Groups live on where a tree of mounts is attached: those that were there, and the images of those that take part.
use Rattle.std.proofs.Common.{arith, ◌≡◌, refl, sym, ap, subst, ◌∙◌, true, false, nat_eq, ℕ, Bool, List, None, Option, Some, find, inl, length, option_map, unwrap_or, ⊎_elim, ◌⊎◌, if◌then◌else◌}
use Rattle.vt_spec.proofs.Common.{Among, Copies, Graft, Location, Mount, Private, Propagation, Shared, Slave, Twig, Unbindable, World, any_among, any_from_among, attached_by, common_steps, copy_type, found_or_none, graft_of, group_of, groups_up, has_master, has_members, has_no_master, image, is_destination, is_member_of, mount_at, image_of_nearest_group, parts_of, same_Some, slave_of_heir, source_of, twig_of, type_at, type_at_part, type_on_shared}
use Rattle.vt_laws_mounts.specs.Mounts.Attaching.{OneNumberAMount}
use Rattle.vt_laws_mounts.specs.Mounts.Copies.{ServeAsImages}
use Rattle.vt_laws_mounts.specs.Mounts.Receivers.{GroupsLive}
use Rattle.vt_laws_mounts.proofs.attached.AttachedMasters.{at_destination, is_elsewhere, master_elsewhere, master_there, member_by_group, old_master, takes_part_in}
use Rattle.vt_laws_mounts.proofs.attached.Attaching.{taker_there}
use Rattle.vt_laws_mounts.proofs.GroupsKept.{found_passes, member_shared, shared_member}
use Rattle.vt_laws_mounts.proofs.GroupsUp.{LivesIn, Up, groups_live_by, lives_in, way_up}
use Rattle.vt_laws_mounts.proofs.GroupsUp.Up.{above, here}

module _ (world : World ℕ) (new : Copies ℕ) (place : Location ℕ) (moves : Bool) (mounts : List (Mount ℕ)) where
  -- the type of the copy of a mount at a part
  abbrev pub kind_at : Mount ℕ → Mount ℕ → Propagation ℕ
  kind_at part origin =
      type_at_part nat_eq world new (graft_of nat_eq world new place moves mounts) (parts_of nat_eq world place) part
      (twig_of new (group_of (mount_at nat_eq world place).propagation) origin)

  -- groups that had members have some
  abbrev pub MembersStay : Type 0
  MembersStay = (group : ℕ) → has_members nat_eq world.mounts group ≡ true
      → has_members nat_eq (attached_by nat_eq world new place moves mounts).mounts group ≡ true

  -- each mount of the tree has a copy at each part, and each mount was there or is one
  abbrev pub HasCopies : Type 0
  HasCopies = (part origin : Mount ℕ) → Among part (parts_of nat_eq world place) → Among origin mounts
      → (copy : Mount ℕ) × Among copy (attached_by nat_eq world new place moves mounts).mounts
      × (copy.propagation ≡ kind_at part origin)

  abbrev pub IsOldOrCopy : Mount ℕ → Type 0
  IsOldOrCopy mount = ((old : Mount ℕ) × Among old world.mounts × (mount.propagation ≡ old.propagation))
      ⊎ ((part : Mount ℕ) × (origin : Mount ℕ) × Among part (parts_of nat_eq world place) × Among origin mounts
      × (mount.propagation ≡ kind_at part origin))

-- the group of a type that is taken in a group is all that it hears of
shared_source : (new : ℕ) (kind : Propagation ℕ) (source : ℕ) → source_of (type_on_shared new kind) ≡ Some source
    → unwrap_or (group_of (type_on_shared new kind)) new ≡ source
shared_source new (Shared group) source e = same_Some group source e
shared_source new (Slave master) source e = same_Some new source e
shared_source new Private source e = same_Some new source e
shared_source new Unbindable source e = same_Some new source e

module _ {world : World ℕ} {new : Copies ℕ} (place : Location ℕ) (moves : Bool) {mounts : List (Mount ℕ)}
    (serve : ServeAsImages world (parts_of nat_eq world place) mounts new) (own : OneNumberAMount mounts)
    (live : GroupsLive world) (sourced : (origin : Mount ℕ) → Among origin mounts → (source : ℕ)
    → source_of origin.propagation ≡ Some source → LivesIn world source)
    (stay : MembersStay world new place moves mounts) (copied : HasCopies world new place moves mounts) where
  abbrev tree : Graft ℕ
  tree = graft_of nat_eq world new place moves mounts

  abbrev parts : List (Mount ℕ)
  parts = parts_of nat_eq world place

  abbrev destination : Mount ℕ
  destination = mount_at nat_eq world place

  abbrev twig : Mount ℕ → Twig ℕ
  twig = twig_of new (group_of destination.propagation)

  abbrev after : World ℕ
  after = attached_by nat_eq world new place moves mounts

  abbrev image_of : Mount ℕ → ℕ → ℕ
  image_of origin = image nat_eq new destination (twig origin)

  abbrev nearest : Mount ℕ → Option ℕ → Option ℕ
  nearest origin = image_of_nearest_group nat_eq world new parts destination (twig origin)

  abbrev kind_elsewhere : Mount ℕ → Propagation ℕ → Propagation ℕ
  kind_elsewhere origin = copy_type nat_eq world new parts destination (twig origin)

  -- what lived lives
  still_lives : (group : ℕ) → LivesIn world group → LivesIn after group
  still_lives group (has_no_master it has e) =
      has_no_master it (stay it has) (old_master place moves serve own it has ∙ e)
  still_lives group (has_master it next has e later) =
      has_master it next (stay it has) (old_master place moves serve own it has ∙ e) (still_lives next later)

  destination_lives : (source : ℕ) → source_of destination.propagation ≡ Some source → LivesIn world source
  destination_lives source e = ⊎_elim (λ there. lives_in world live _ there source e) (λ none. absurd cc)
      (found_or_none _ _)

  part_lives : (part : Mount ℕ) → Among part parts → (source : ℕ) → source_of part.propagation ≡ Some source
      → LivesIn world source
  part_lives part m source e = ⊎_elim
      (λ same. destination_lives source (ap (λ (x : Mount ℕ). source_of x.propagation) (sym same) ∙ e))
      (λ later. lives_in world live part (taker_there world place part later) source e) m

  -- the types of copies
  there : (part origin : Mount ℕ) → is_destination nat_eq tree part.number ≡ true
      → kind_at world new place moves mounts part origin ≡ (twig origin).propagation
  there part origin e = ap (λ b. if b then (twig origin).propagation else kind_elsewhere origin part.propagation) e

  away : (part origin : Mount ℕ) → is_destination nat_eq tree part.number ≡ false
      → kind_at world new place moves mounts part origin ≡ kind_elsewhere origin part.propagation
  away part origin e = ap (λ b. if b then (twig origin).propagation else kind_elsewhere origin part.propagation) e

  twig_in : (origin : Mount ℕ) (group : ℕ) → group_of destination.propagation ≡ Some group
      → (twig origin).propagation ≡ type_on_shared (new.image group origin.number) origin.propagation
  twig_in origin group e = ap (λ o. type_at new o origin) e

  image_in : (origin : Mount ℕ) (group : ℕ) → group_of destination.propagation ≡ Some group → image_of origin group
      ≡ unwrap_or (group_of (type_on_shared (new.image group origin.number) origin.propagation))
      (new.image group origin.number)
  image_in origin group e = cc (member_by_group place moves serve own destination group e, twig_in origin group e)

  has_copy : (part origin : Mount ℕ) → Among part parts → Among origin mounts → (group : ℕ)
      → kind_at world new place moves mounts part origin ≡ Shared group → has_members nat_eq after.mounts group ≡ true
  has_copy part origin m n group e =
      let copy = copied part origin m n in
      any_from_among _ _ copy.0 copy.1 (shared_member group copy.0 (copy.2 ∙ e))

  -- the image of the destination's group lives: a group that the mount is in, or a new one, below the master of a slave
  lives_there : (group : ℕ) → group_of destination.propagation ≡ Some group → (origin : Mount ℕ)
      → Among origin mounts → LivesIn after (image_of origin group)
  lives_there group e origin m = subst (LivesIn after) (sym (image_in origin group e)) (by _ refl)
    where
      member : (kind : Propagation ℕ) → origin.propagation ≡ kind
          → type_on_shared (new.image group origin.number) kind ≡ Shared (new.image group origin.number)
          → has_members nat_eq after.mounts (new.image group origin.number) ≡ true
      member kind f is = has_copy _ origin (inl refl) m _
          (there destination origin (at_destination place moves serve own)
          ∙ twig_in origin group e ∙ ap (type_on_shared (new.image group origin.number)) f ∙ is)

      by : (kind : Propagation ℕ) → origin.propagation ≡ kind → LivesIn after
          (unwrap_or (group_of (type_on_shared (new.image group origin.number) kind)) (new.image group origin.number))
      by (Shared one) f = still_lives one (sourced origin m one (ap source_of f))
      by (Slave master) f = has_master (new.image group origin.number) master (member _ f refl)
          (master_there place moves serve own origin m group e _ f refl)
          (still_lives master (sourced origin m master (ap source_of f)))
      by Private f = has_no_master (new.image group origin.number) (member _ f refl)
          (master_there place moves serve own origin m group e _ f refl)
      by Unbindable f = has_no_master (new.image group origin.number) (member _ f refl)
          (master_there place moves serve own origin m group e _ f refl)

  -- the image of another group does where those of the groups up its masters do
  abbrev HigherLive : ℕ → Mount ℕ → Type 0
  HigherLive group origin = (next : ℕ) → world.master group ≡ Some next → (other : ℕ) → Up world.master next other
      → has_members nat_eq parts other ≡ true → LivesIn after (image_of origin other)

  lives_elsewhere : (group : ℕ) → has_members nat_eq parts group ≡ true
      → is_member_of nat_eq group destination ≡ false → (origin : Mount ℕ) → Among origin mounts
      → HigherLive group origin → LivesIn after (image_of origin group)
  lives_elsewhere group has lacks origin m higher =
      let part = any_among (is_member_of nat_eq group) parts has in
      let shared = member_shared group part.0 part.2 in
      by (world.master group) refl (has_copy part.0 origin part.1 m (image_of origin group)
      (away part.0 origin (is_elsewhere place moves serve own part.0 group part.1 part.2 lacks)
      ∙ ap (kind_elsewhere origin) shared))
      (master_elsewhere place moves serve own part.0 origin part.1 m group part.2 lacks)
    where
      found_by : (next : ℕ) → world.master group ≡ Some next
          → has_members nat_eq after.mounts (image_of origin group) ≡ true → after.master (image_of origin group)
          ≡ option_map (image_of origin) (find (has_members nat_eq parts) (groups_up world next))
          → (found : Option ℕ) → find (has_members nat_eq parts) (groups_up world next) ≡ found
          → LivesIn after (image_of origin group)
      found_by next e member is None f =
          has_no_master (image_of origin group) member (is ∙ ap (option_map (image_of origin)) f)
      found_by next e member is (Some other) f =
          let t = found_passes (has_members nat_eq parts) (groups_up world next) other f in
          has_master (image_of origin group) (image_of origin other) member (is ∙ ap (option_map (image_of origin)) f)
          (higher next e other (way_up world.master (length world.mounts) next other t.1) t.0)

      by : (master : Option ℕ) → world.master group ≡ master
          → has_members nat_eq after.mounts (image_of origin group) ≡ true
          → after.master (image_of origin group) ≡ nearest origin master → LivesIn after (image_of origin group)
      by None e member is = has_no_master (image_of origin group) member is
      by (Some next) e member is =
          found_by next e member is (find (has_members nat_eq parts) (groups_up world next)) refl

  lives_either : (group : ℕ) → has_members nat_eq parts group ≡ true → (origin : Mount ℕ) → Among origin mounts
      → HigherLive group origin → LivesIn after (image_of origin group)
  lives_either group has origin m higher =
      grind (arith, common_steps, image_of, lives_there, member_shared, lives_elsewhere)

  -- so does that of each group that takes part, up the masters
  image_lives : (group : ℕ) → LivesIn world group → (other : ℕ) → Up world.master group other
      → has_members nat_eq parts other ≡ true → (origin : Mount ℕ) → Among origin mounts
      → LivesIn after (image_of origin other)
  image_lives group (has_no_master it lived f) other (here same) has origin m = lives_either same has origin m (λ
      next g o way h. absurd cc)
  image_lives group (has_no_master it lived f) other (above same next end g way) has origin m = absurd cc
  image_lives group (has_master it next lived f later) other (here same) has origin m =
      lives_either same has origin m (λ n g o way h.
      image_lives next later o (subst (λ x. Up world.master x o) (same_Some n next (sym g ∙ f)) way) h origin m)
  image_lives group (has_master it next lived f later) other (above same step end g way) has origin m =
      image_lives next later end (subst (λ x. Up world.master x end) (same_Some step next (sym g ∙ f)) way) has origin m

  -- what a copy hears of lives
  copy_lives : (part origin : Mount ℕ) → Among part parts → Among origin mounts → (source : ℕ)
      → source_of (kind_at world new place moves mounts part origin) ≡ Some source → LivesIn after source
  copy_lives part origin m n source e = by _ refl
    where
      of_twig : (found : Option ℕ) → group_of destination.propagation ≡ found
          → source_of (twig origin).propagation ≡ Some source → LivesIn after source
      of_twig None g h =
          still_lives source (sourced origin n source (sym (ap (λ o. source_of (type_at new o origin)) g) ∙ h))
      of_twig (Some group) g h = subst (LivesIn after) (image_in origin group g ∙ shared_source _ _ source
          (sym (ap source_of (twig_in origin group g)) ∙ h)) (lives_there group g origin n)

      of_slave : (master : ℕ) → part.propagation ≡ Slave master
          → source_of (kind_elsewhere origin (Slave master)) ≡ Some source
          → (found : Option ℕ) → find (has_members nat_eq parts) (groups_up world master) ≡ found → LivesIn after source
      of_slave master f h None g = absurd cc
      of_slave master f h (Some other) g =
          let t = found_passes (has_members nat_eq parts) (groups_up world master) other g in
          subst (LivesIn after) (same_Some _ source (sym (ap (λ o. source_of
          (slave_of_heir (option_map (image_of origin) o))) g) ∙ h)) (image_lives master
          (part_lives part m master (ap source_of f)) other (way_up _ _ master other t.1) t.0 origin n)

      of_copy : (kind : Propagation ℕ) → part.propagation ≡ kind
          → source_of (kind_elsewhere origin kind) ≡ Some source → LivesIn after source
      of_copy (Shared group) f h = subst (LivesIn after) (same_Some _ source h)
          (image_lives group (part_lives part m group (ap source_of f)) group (here group)
          (takes_part_in place moves serve own part group m (ap group_of f)) origin n)
      of_copy (Slave master) f h = of_slave master f h _ refl
      of_copy Private f h = absurd cc
      of_copy Unbindable f h = absurd cc

      by : (b : Bool) → is_destination nat_eq tree part.number ≡ b → LivesIn after source
      by true f = of_twig _ refl (sym (ap source_of (there part origin f)) ∙ e)
      by false f = of_copy _ refl (sym (ap source_of (away part origin f)) ∙ e)

  pub groups_live_after :
      ((mount : Mount ℕ) → Among mount after.mounts → IsOldOrCopy world new place moves mounts mount) → GroupsLive after
  groups_live_after from = groups_live_by after (λ mount m source e.
      ⊎_elim (λ old. still_lives source (lives_in world live old.0 old.1 source (sym (ap source_of old.2) ∙ e)))
      (λ copy. copy_lives copy.0 copy.1 copy.2 copy.3 source (sym (ap source_of copy.4) ∙ e)) (from mount m))
