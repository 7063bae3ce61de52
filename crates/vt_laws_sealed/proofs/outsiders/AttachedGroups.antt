-- The groups that mounts of others form where they are attached: those of others, and new ones.
use Rattle.std.proofs.Common.{arith, ◌≡◌, refl, sym, ap, subst, ◌∙◌, ◌⊎◌, inl, inr, ⊎_elim, ℕ, nat_eq, Bool, true, false, cond, List, [], ◌∷◌, ◌*◌, Option, Some, None, length, not, ◌+◌, eqb-true, option_map, unwrap_or, filter_map}
use Rattle.vt_laws_mounts.proofs.letting_go.mounting.Attached.{masters_stay}
use Rattle.vt_spec.proofs.Common.{Among, Copies, Filesystem, Fresh, Graft, Location, Mount, Private, Propagation, Serves, Shared, Slave, TaskName, Unbindable, World, all_groups_made, among-from_filter, among-from_filter_map, among-from_flat_map, among-from_map, any_among, attach, common_steps, copies_from, copy_at, copy_type, false_from_ne_true, folded, graft_of, group_made, group_of, image, index_in_rows, index_of, index_of_group, is_destination, is_member_of, is_own_mount, is_shared, list_any, master_after, master_of, masters_with, mount_at, image_of_nearest_group, none_is_some, other_mounts, own_mounts, parts_of, same_Some, slave_of_heir, then_some, twig_master, twig_of, type_at, type_on_shared, when}
use Rattle.vt_laws_sealed.proofs.Common.{IsNewBy}
use Rattle.vt_laws_sealed.specs.Part.Seals.{IsApart}
use Rattle.vt_laws_sealed.proofs.outsiders.OtherMounts.{Foreign, HearsGroup, foreign_above, member_not_new, other_hears_foreign, standing_apart_with}
use Rattle.vt_laws_sealed.proofs.outsiders.StandingApart.{StandsApart}
use Rattle.vt_laws_sealed.proofs.part.groups.EventsApart.{member_group}

-- a master is one that was set, or the old one
masters_from : (group : ℕ) (made : List (ℕ × Option ℕ)) (master : ℕ → Option ℕ)
    → (folded (masters_with nat_eq) master made group ≡ master group)
    ⊎ ((entry : ℕ × Option ℕ) × Among entry made × (folded (masters_with nat_eq) master made group ≡ entry.1))
masters_from group [] master = inl refl
masters_from group (entry ∷ rest) master =
    grind (arith, common_steps, masters_from group rest (masters_with nat_eq master entry))

-- what is attached: a mount with the type and the filesystem of one of the others, or a private one of a new filesystem
abbrev pub OriginOf : World ℕ → Fresh ℕ → List TaskName → Mount ℕ → Type 0
OriginOf world fresh names origin =
    ((other : Mount ℕ) × Among other (other_mounts nat_eq world names) × (origin.propagation ≡ other.propagation)
    × (origin.filesystem ≡ other.filesystem))
    ⊎ ((origin.propagation ≡ Private) × (k : ℕ) × (origin.filesystem ≡ fresh k))

-- what is attached at a place: mounts like those of others or of new filesystems, by numbers that are handed in
pub record IsAttaching (world : World ℕ) (names : List TaskName) (fresh : Fresh ℕ) : Type 0 where
  pub apart : IsApart world names
  pub serves : Serves nat_eq world fresh
  pub filesystems : List (Filesystem ℕ)
  pub supply : Fresh ℕ
  pub supplied : (k : ℕ) → (j : ℕ) × (supply k ≡ fresh j)
  pub place : Location ℕ
  pub mounts : List (Mount ℕ)
  pub origins : (origin : Mount ℕ) → Among origin mounts → OriginOf world fresh names origin
  pub moves : Bool

module _ {world : World ℕ} {names : List TaskName} {fresh : Fresh ℕ} (it : IsAttaching world names fresh) where
  abbrev so_far : StandsApart world names (IsNewBy fresh)
  so_far = standing_apart_with world names it.apart fresh it.serves

  -- the world, perhaps with a new filesystem
  abbrev base : World ℕ
  base = record world { filesystems = it.filesystems }

  abbrev destination : Mount ℕ
  destination = mount_at nat_eq world it.place

  abbrev parts : List (Mount ℕ)
  parts = parts_of nat_eq base it.place

  abbrev new : Copies ℕ
  new = copies_from nat_eq it.supply parts it.mounts

  abbrev tree : Graft ℕ
  tree = graft_of nat_eq base new it.place it.moves it.mounts

  abbrev pub left : World ℕ
  left = attach nat_eq base it.supply it.place it.moves it.mounts

  abbrev pub IsForeign : ℕ → Type 0
  IsForeign = Foreign so_far

  -- numbers of new groups are new
  new_image : (group origin : ℕ) → (k : ℕ) × (new.image group origin ≡ fresh k)
  new_image group origin = it.supplied (2 * index_in_rows (length it.mounts) (index_of_group nat_eq parts group)
      (index_of nat_eq it.mounts origin) + 1)

  -- an origin hears groups of others alone
  origin_hears : (origin : Mount ℕ) → Among origin it.mounts → (kind : Propagation ℕ) → origin.propagation ≡ kind
      → (group : ℕ) → HearsGroup so_far world kind group → IsForeign group
  origin_hears origin m kind e group how = ⊎_elim (λ other. other_hears_foreign so_far other.0 other.1 group
      (subst (λ k. HearsGroup so_far world k group) (sym e ∙ other.2) how))
      (λ private. ⊎_elim (λ f. none_is_some group f) (λ f. none_is_some group f)
      (subst (λ k. HearsGroup so_far world k group) (sym e ∙ private.0) how)) (it.origins origin m)

  -- A copy is of a mount that is attached, at a part.
  abbrev pub copied_to : Mount ℕ → Mount ℕ → Mount ℕ
  copied_to part origin =
      copy_at nat_eq base new tree parts part (twig_of new (group_of destination.propagation) origin)

  abbrev pub IsCopyOf : Mount ℕ → Type 0
  IsCopyOf mount =
      (part : Mount ℕ) × Among part parts × (origin : Mount ℕ) × Among origin it.mounts ×
      (mount ≡ copied_to part origin)

  -- Groups that are made are new, and their masters are groups of others.
  image_foreign : (twig_group : ℕ) (origin : Mount ℕ) → Among origin it.mounts
      → IsForeign (image nat_eq new destination (twig_of new (group_of destination.propagation) origin) twig_group)
  image_foreign group origin m = by (is_member_of nat_eq group destination)
    where
      typed : (o : Option ℕ) (kind : Propagation ℕ) → origin.propagation ≡ kind
          → IsForeign (unwrap_or (group_of (type_at new o (record origin { propagation = kind })))
          (new.image group origin.number))
      typed None (Shared g) e = origin_hears origin m (Shared g) e g (inl refl)
      typed None (Slave g) e = inr (new_image group origin.number)
      typed None Private e = inr (new_image group origin.number)
      typed None Unbindable e = inr (new_image group origin.number)
      typed (Some there) (Shared g) e = origin_hears origin m (Shared g) e g (inl refl)
      typed (Some there) (Slave g) e = inr (new_image there origin.number)
      typed (Some there) Private e = inr (new_image there origin.number)
      typed (Some there) Unbindable e = inr (new_image there origin.number)

      by : (b : Bool) → IsForeign (cond b (unwrap_or (group_of (type_at new (group_of destination.propagation) origin))
          (new.image group origin.number)) (new.image group origin.number))
      by true = typed (group_of destination.propagation) origin.propagation refl
      by false = inr (new_image group origin.number)

  nearest_foreign : (origin : Mount ℕ) → Among origin it.mounts → (above : Option ℕ) (group : ℕ)
      → image_of_nearest_group nat_eq base new parts destination (twig_of new (group_of destination.propagation) origin) above
      ≡ Some group → IsForeign group
  nearest_foreign origin m above group e = search (arith, common_steps, none_is_some, same_Some, image_foreign)

  -- a master of an origin
  after_foreign : (origin : Mount ℕ) → Among origin it.mounts → (group : ℕ)
      → master_after origin.propagation ≡ Some group → IsForeign group
  after_foreign origin m group e = by origin.propagation refl e
    where
      by : (kind : Propagation ℕ) → origin.propagation ≡ kind → master_after kind ≡ Some group → IsForeign group
      by (Shared g) f h = none_is_some group h
      by (Slave g) f h = origin_hears origin m (Slave g) f group (inr h)
      by Private f h = none_is_some group h
      by Unbindable f h = none_is_some group h

  abbrev IsMade : ℕ × Option ℕ → Type 0
  IsMade entry = ((k : ℕ) × (entry.0 ≡ fresh k)) × ((group : ℕ) → entry.1 ≡ Some group → IsForeign group)

  made_there : (origin : Mount ℕ) → Among origin it.mounts → (entry : ℕ × Option ℕ)
      → twig_master (twig_of new (group_of destination.propagation) origin) ≡ Some entry → IsMade entry
  made_there origin m entry e = by origin.propagation refl (group_of destination.propagation) e
    where
      made : (group : ℕ) → (k : ℕ) × (group ≡ fresh k)
          → Some (group, master_after origin.propagation) ≡ Some entry → IsMade entry
      made group number f =
          let entry_is = same_Some (group, master_after origin.propagation) entry f in (
            (number.0, cc (number.1)),
            λ above h. after_foreign origin m above (cc),
          )

      at : (kind : Propagation ℕ) → origin.propagation ≡ kind → (o : Option ℕ)
          → cond (is_shared kind) None (option_map (λ group. (group, master_after origin.propagation))
          (group_of (type_at new o (record origin { propagation = kind })))) ≡ Some entry → IsMade entry
      at kind f o h = search (arith, common_steps, none_is_some, made, new_image)

      by : (kind : Propagation ℕ) → origin.propagation ≡ kind → (o : Option ℕ)
          → twig_master (twig_of new o origin) ≡ Some entry → IsMade entry
      by kind f o h = at kind f o
          (subst (λ x. cond (is_shared x) None (option_map (λ group. (group, master_after origin.propagation))
          (group_of (type_at new o (record origin { propagation = x })))) ≡ Some entry) f h)

  made_elsewhere : (origin : Mount ℕ) → Among origin it.mounts → (group : ℕ) (entry : ℕ × Option ℕ)
      → when (not (is_member_of nat_eq group destination)) (
        image nat_eq new destination (twig_of new (group_of destination.propagation) origin) group,
        image_of_nearest_group nat_eq base new parts destination (twig_of new (group_of destination.propagation) origin)
            (world.master group),
      ) ≡ Some entry → IsMade entry
  made_elsewhere origin m group entry e = by (is_member_of nat_eq group destination) refl e
    where
      above : Option ℕ
      above = image_of_nearest_group nat_eq base new parts destination (twig_of new (group_of destination.propagation) origin)
          (world.master group)

      by : (b : Bool) → is_member_of nat_eq group destination ≡ b → when (not b) (
        cond b (unwrap_or (group_of (type_at new (group_of destination.propagation) origin))
            (new.image group origin.number)) (new.image group origin.number),
        image_of_nearest_group nat_eq base new parts destination (twig_of new (group_of destination.propagation) origin)
            (world.master group),
      ) ≡ Some entry → IsMade entry
      by true f h = none_is_some entry h
      by false f h =
          let entry_is = same_Some _ entry h in
          let number = new_image group origin.number in (
            (number.0, cc (entry_is, number.1)),
            λ g k. nearest_foreign origin m (world.master group) g (cc (entry_is)),
          )

  made_foreign : (entry : ℕ × Option ℕ) → Among entry (all_groups_made nat_eq base new tree parts) → IsMade entry
  made_foreign entry m =
      let part = among-from_flat_map (λ p. filter_map (group_made nat_eq base new tree parts p) tree.twigs) parts entry
      m in
      let twig = among-from_filter_map (group_made nat_eq base new tree parts part.0) tree.twigs entry part.2 in
      let origin = among-from_map (twig_of new (group_of destination.propagation)) it.mounts twig.0 twig.1 in
      by part.0 origin.0 origin.1 (is_destination nat_eq tree part.0.number)
      (ap (group_made nat_eq base new tree parts part.0) (sym origin.2) ∙ twig.2)
    where
      elsewhere : (part origin : Mount ℕ) → Among origin it.mounts → (o : Option ℕ)
          → then_some o (λ group. when (not (is_member_of nat_eq group destination)) (
            image nat_eq new destination (twig_of new (group_of destination.propagation) origin) group,
            image_of_nearest_group nat_eq base new parts destination (twig_of new (group_of destination.propagation) origin)
                (world.master group),
          )) ≡ Some entry → IsMade entry
      elsewhere part origin n None h = none_is_some entry h
      elsewhere part origin n (Some group) h = made_elsewhere origin n group entry h

      by : (part origin : Mount ℕ) → Among origin it.mounts → (b : Bool)
          → cond b (twig_master (twig_of new (group_of destination.propagation) origin))
          (then_some (group_of part.propagation) (λ group. when (not (is_member_of nat_eq group destination)) (
            image nat_eq new destination (twig_of new (group_of destination.propagation) origin) group,
            image_of_nearest_group nat_eq base new parts destination (twig_of new (group_of destination.propagation) origin)
                (world.master group),
          ))) ≡ Some entry → IsMade entry
      by part origin n true h = made_there origin n entry h
      by part origin n false h = elsewhere part origin n (group_of part.propagation) h

  -- The masters of groups of theirs stay, and that of a group of others is one of others.
  pub own_master_stays : (group : ℕ) → list_any (is_member_of nat_eq group) (own_mounts nat_eq world names) ≡ true
      → left.master group ≡ world.master group
  own_master_stays group h =
      let member = any_among (is_member_of nat_eq group) (own_mounts nat_eq world names) h in
      masters_stay (all_groups_made nat_eq base new tree parts) world.master group (λ entry m.
      false_from_ne_true (nat_eq group entry.0) (λ e.
      let made = made_foreign entry m in
      member_not_new world fresh it.serves member.0 group made.0.0
      (among-from_filter (is_own_mount nat_eq world names) world.mounts member.0 member.1).0
      (member_group group member.0 member.2) (eqb-true group entry.0 e ∙ made.0.1)))

  foreign_master : (group above : ℕ) → IsForeign group → left.master group ≡ Some above → IsForeign above
  foreign_master group above foreign e = ⊎_elim (λ same. foreign_above so_far group above foreign (cc))
      (λ set. (made_foreign set.0 set.1).1 above (sym set.2 ∙ e)) (masters_from group _ world.master)

  -- A type of which the group is one of others: then each group that it hears is.
  heard_foreign : (kind : Propagation ℕ) → ((group : ℕ) → group_of kind ≡ Some group → IsForeign group)
      → ((group : ℕ) → kind ≡ Slave group → IsForeign group)
      → (group : ℕ) → HearsGroup so_far left kind group → IsForeign group
  heard_foreign (Shared g) of_group of_slave group how =
      ⊎_elim (of_group group) (λ e. foreign_master g group (of_group g refl) e) how
  heard_foreign (Slave g) of_group of_slave group how =
      ⊎_elim (λ e. none_is_some group e) (λ e. subst IsForeign (same_Some g group e) (of_slave g refl)) how
  heard_foreign Private of_group of_slave group how = ⊎_elim (λ e. none_is_some group e) (λ e. none_is_some group e) how
  heard_foreign Unbindable of_group of_slave group how =
      ⊎_elim (λ e. none_is_some group e) (λ e. none_is_some group e) how

  -- the type of a mount of others, as it was
  pub old_foreign : (other : Mount ℕ) → Among other (other_mounts nat_eq world names) → (group : ℕ)
      → HearsGroup so_far left other.propagation group → IsForeign group
  old_foreign other m = heard_foreign _ (λ group e. other_hears_foreign so_far other m group (inl e))
      (λ group e. other_hears_foreign so_far other m group (inr (ap (master_of world) e)))

  -- the type of a copy
  twig_foreign : (origin : Mount ℕ) → Among origin it.mounts → (group : ℕ) → HearsGroup so_far left
      (type_at new (group_of destination.propagation) origin) group → IsForeign group
  twig_foreign origin m = by (group_of destination.propagation) origin.propagation refl
    where
      old : (group : ℕ) → HearsGroup so_far left origin.propagation group → IsForeign group
      old = heard_foreign origin.propagation (λ group e. origin_hears origin m origin.propagation refl group (inl e))
          (λ group e. origin_hears origin m origin.propagation refl group (inr (ap (master_of world) e)))

      shared : (number : ℕ) → (k : ℕ) × (number ≡ fresh k) → (group : ℕ)
          → HearsGroup so_far left (Shared number) group → IsForeign group
      shared number new_one = heard_foreign (Shared number)
          (λ group e. inr (new_one.0, sym (same_Some number group e) ∙ new_one.1))
          (λ group e. none_is_some number (sym (ap group_of e)))

      on : (g : ℕ) (kind : Propagation ℕ) → origin.propagation ≡ kind → (group : ℕ)
          → HearsGroup so_far left (type_on_shared (new.image g origin.number) kind) group → IsForeign group
      on g kind e group how = search (arith, common_steps, old, shared, new_image)

      by : (o : Option ℕ) (kind : Propagation ℕ) → origin.propagation ≡ kind → (group : ℕ)
          → HearsGroup so_far left (type_at new o origin) group → IsForeign group
      by None kind e group how = old group how
      by (Some g) kind e group how = on g kind e group (subst (λ x. HearsGroup so_far left
          (type_on_shared (new.image g origin.number) x) group) e how)

  pub copy_foreign : (mount : Mount ℕ) → IsCopyOf mount → (group : ℕ)
      → HearsGroup so_far left mount.propagation group → IsForeign group
  copy_foreign mount copy group how = by (is_destination nat_eq tree copy.0.number)
      (subst (λ (m : Mount ℕ). HearsGroup so_far left m.propagation group) copy.4 how)
    where
      elsewhere : (kind : Propagation ℕ) → HearsGroup so_far left
          (copy_type nat_eq base new parts destination (twig_of new (group_of destination.propagation) copy.2) kind)
          group → IsForeign group
      elsewhere (Shared g) h = heard_foreign (Shared (image nat_eq new destination
          (twig_of new (group_of destination.propagation) copy.2) g))
          (λ x e. subst IsForeign (same_Some (image nat_eq new destination
          (twig_of new (group_of destination.propagation) copy.2) g) x e) (image_foreign g copy.2 copy.3))
          (λ x e. none_is_some (image nat_eq new destination (twig_of new (group_of destination.propagation) copy.2) g)
          (sym (ap group_of e))) group h
      elsewhere (Slave g) h =
          heir (image_of_nearest_group nat_eq base new parts destination (twig_of new (group_of destination.propagation) copy.2)
          (Some g)) refl h
        where
          heir : (o : Option ℕ) → image_of_nearest_group nat_eq base new parts destination
              (twig_of new (group_of destination.propagation) copy.2) (Some g) ≡ o
              → HearsGroup so_far left (slave_of_heir o) group → IsForeign group
          heir None e k = ⊎_elim (λ f. none_is_some group f) (λ f. none_is_some group f) k
          heir (Some x) e k = ⊎_elim (λ f. none_is_some group f)
              (λ f. subst IsForeign (same_Some x group f) (nearest_foreign copy.2 copy.3 (Some g) x e)) k
      elsewhere Private h = ⊎_elim (λ f. none_is_some group f) (λ f. none_is_some group f) h
      elsewhere Unbindable h = ⊎_elim (λ f. none_is_some group f) (λ f. none_is_some group f) h

      by : (b : Bool) → HearsGroup so_far left
          (cond b (type_at new (group_of destination.propagation) copy.2)
          (copy_type nat_eq base new parts destination (twig_of new (group_of destination.propagation) copy.2)
          copy.0.propagation)) group → IsForeign group
      by true h = twig_foreign copy.2 copy.3 group h
      by false h = elsewhere copy.0.propagation h
