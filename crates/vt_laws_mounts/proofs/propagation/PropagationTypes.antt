-- The types of copies, by those of the parts that they are at.
use Rattle.std.proofs.Common.{arith, ◌≡◌, refl, ap, ◌∙◌, true, false, nat_eq, ℕ, Bool, None, Option, Some, List, find, inl, option_map, unwrap_or, ⊎_elim, if◌then◌else◌}
use Rattle.vt_spec.proofs.Common.{Among, Copies, Location, Mount, Private, Propagation, Shared, Slave, Twig, Unbindable, World, common_steps, copy_type, group_of, groups_up, has_members, image, is_member_of, parts_of, type_at, type_on_shared}
use Rattle.vt_laws_mounts.specs.Mounts.Attaching.{OneNumberAMount}
use Rattle.vt_laws_mounts.specs.Mounts.Copies.{ServeAsImages}
use Rattle.vt_laws_mounts.proofs.attached.AttachedGroups.{kind_at}
use Rattle.vt_laws_mounts.proofs.attached.AttachedMasters.{after, at_destination, destination, image_elsewhere, master_elsewhere, master_there, member_by_group, nearest, takes_part_in, twig}
use Rattle.vt_laws_mounts.proofs.GroupsKept.{shared_member}
use Rattle.vt_laws_mounts.proofs.GroupsRetyped.{unused_members}
use Rattle.vt_laws_mounts.proofs.mounts.MountsNumbered.{is_one_of}
use Rattle.vt_laws_mounts.proofs.propagation.PropagationCopies.{not_there}

-- at a shared destination every type is shared
shared_there : (new : ℕ) (kind : Propagation ℕ)
    → type_on_shared new kind ≡ Shared (unwrap_or (group_of (type_on_shared new kind)) new)
shared_there new (Shared group) = refl
shared_there new (Slave master) = refl
shared_there new Private = refl
shared_there new Unbindable = refl

module _ {world : World ℕ} {new : Copies ℕ} (place : Location ℕ) (moves : Bool) {mounts : List (Mount ℕ)}
    (serve : ServeAsImages world (parts_of nat_eq world place) mounts new) (own : OneNumberAMount mounts) where
  abbrev all_parts : List (Mount ℕ)
  all_parts = parts_of nat_eq world place

  abbrev there : Mount ℕ
  there = destination place moves serve own

  abbrev of_tree : Mount ℕ → Twig ℕ
  of_tree = twig place moves serve own

  -- the group of the copies of a mount at the members of a group
  abbrev pub image_of : Mount ℕ → ℕ → ℕ
  image_of origin group = image nat_eq new there (of_tree origin) group

  abbrev pub kind : Mount ℕ → Mount ℕ → Propagation ℕ
  kind = kind_at world new place moves mounts

  abbrev pub nearest_group : ℕ → Option ℕ
  nearest_group group = find (has_members nat_eq all_parts) (groups_up world group)

  part_itself : (part : Mount ℕ) → Among part all_parts → nat_eq part.number place.mount ≡ true → part ≡ there
  part_itself part m same = ⊎_elim (λ e. e) (λ rest. absurd (cc (not_there world new place moves mounts part rest))) m

  pub kind_there : (origin : Mount ℕ) → kind there origin ≡ (of_tree origin).propagation
  kind_there origin = ap (λ b. if b then (of_tree origin).propagation
      else copy_type nat_eq world new all_parts there (of_tree origin) there.propagation)
      (at_destination place moves serve own)

  kind_away : (part origin : Mount ℕ) → nat_eq part.number place.mount ≡ false
      → kind part origin ≡ copy_type nat_eq world new all_parts there (of_tree origin) part.propagation
  kind_away part origin e = ap (λ b. if b then (of_tree origin).propagation
      else copy_type nat_eq world new all_parts there (of_tree origin) part.propagation) e

  -- at a shared destination
  pub type_in : (origin : Mount ℕ) (group : ℕ) → group_of there.propagation ≡ Some group
      → (of_tree origin).propagation ≡ type_on_shared (new.image group origin.number) origin.propagation
  type_in origin group e = ap (λ o. type_at new o origin) e

  pub image_in : (origin : Mount ℕ) (group : ℕ) → group_of there.propagation ≡ Some group → image_of origin group
      ≡ unwrap_or (group_of (type_on_shared (new.image group origin.number) origin.propagation))
      (new.image group origin.number)
  image_in origin group e = cc (member_by_group place moves serve own there group e, type_in origin group e)

  -- the copy at a member of a group is a member of the image
  pub shared_kind : (part origin : Mount ℕ) → Among part all_parts → (group : ℕ) → part.propagation ≡ Shared group
      → kind part origin ≡ Shared (image_of origin group)
  shared_kind part origin m group e =
      grind (arith, common_steps, part_itself, kind_there, type_in, shared_there, image_in, kind_away)

  -- the copy at a slave is a slave of the nearest image
  pub slave_kind : (part origin : Mount ℕ) (master group : ℕ) → nat_eq part.number place.mount ≡ false
      → part.propagation ≡ Slave master → nearest_group master ≡ Some group
      → kind part origin ≡ Slave (image_of origin group)
  slave_kind part origin master group f e near = cc (kind_away part origin f, e, near)

  -- the image of another group than the destination's is new
  pub image_new : (origin : Mount ℕ) → Among origin mounts → (group : ℕ) → has_members nat_eq all_parts group ≡ true
      → is_member_of nat_eq group there ≡ false → has_members nat_eq world.mounts (image_of origin group) ≡ false
  image_new origin m group has lacks = ap (has_members nat_eq world.mounts) (image_elsewhere place moves serve own group
      origin lacks) ∙ unused_members world _ (serve.unused group origin.number has (is_one_of mounts origin m))

  pub lower_master : (part origin : Mount ℕ) → Among part all_parts → Among origin mounts → (group above near : ℕ)
      → part.propagation ≡ Shared group → is_member_of nat_eq group there ≡ false → world.master group ≡ Some above
      → nearest_group above ≡ Some near
      → (after place moves serve own).master (image_of origin group) ≡ Some (image_of origin near)
  lower_master part origin m n group above near e lacks up found =
      master_elsewhere place moves serve own part origin m n group (shared_member group part e) lacks
      ∙ ap (nearest place moves serve own origin) up ∙ ap (option_map (image_of origin)) found

  -- the groups that are made at a shared destination
  pub private_there : (origin : Mount ℕ) → Among origin mounts → (group : ℕ) → group_of there.propagation ≡ Some group
      → origin.propagation ≡ Private → (after place moves serve own).master (new.image group origin.number) ≡ None
  private_there origin m group e f = master_there place moves serve own origin m group e _ f refl

  pub slave_there : (origin : Mount ℕ) → Among origin mounts → (group master : ℕ)
      → group_of there.propagation ≡ Some group → origin.propagation ≡ Slave master
      → (after place moves serve own).master (new.image group origin.number) ≡ Some master
  slave_there origin m group master e f = master_there place moves serve own origin m group e _ f refl

  pub there_new : (origin : Mount ℕ) → Among origin mounts → (group : ℕ) → group_of there.propagation ≡ Some group
      → has_members nat_eq world.mounts (new.image group origin.number) ≡ false
  there_new origin m group e = unused_members world _ (serve.unused group origin.number
      (takes_part_in place moves serve own there group (inl refl) e) (is_one_of mounts origin m))
