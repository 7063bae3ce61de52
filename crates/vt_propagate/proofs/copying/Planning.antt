-- What is made by the masters that are kept is what is made in the world.
use Rattle.std.proofs.Common.{◌≡◌, ℕ, Bool, true, cond, suc, zero, List, [], ◌∷◌, map, length, nat_eq, Option, None, Some, option_map, flat_map, is_some, refl, sym, ap, ◌∙◌, true≢false, ⊎_elim, subst, find, filter_map, if◌then◌else◌, not, slice_get, unwrap_or, arith}
use Rattle.vt_spec.proofs.Common.{Among, Copies, HasLivingGroups, Lives, Location, Mount, Private, Propagation, Shared, Slave, Twig, Unbindable, World, all_groups_made, among-from_filter, among_from_all, chain, chain_ends, chain_goes_on, common_steps, cons_option, copies_at, copies_from, copy_at, copy_mount_point, copy_number, copy_type, graft_of, group_made, group_of, groups_up, has_master, has_members, has_no_master, image, is_destination, is_member_of, map_twice, mount_at, image_of_nearest_group, no_mount, parts_of, receivers_of, same_Some, slave_of_heir, source_of, takes_part, then_some, twig_master, twig_of, when}
use Rattle.vt_spec.specs.Machine.Attach as meant
use Rattle.vt_group.specs.Grouping.{Grouping, master_in}
use Rattle.vt_location.specs.Locations.{location_of}
use Rattle.vt_location.specs.MountValue.{mount_of}
use Rattle.vt_location.specs.declared.mounts.Mount.{Mount as Kept}
use Rattle.vt_mount.specs.MountsValue.{MountEntry, mounts_in}
use Rattle.vt_propagate.specs.declared.numbering.Copying.{Copying}
use Rattle.vt_propagate.specs.Copying.{above_of, as_kept, copied, counts_from, graft_seen, nearest_master_of, image_seen, made}
use Rattle.vt_propagate.specs.Copying.{parts_seen, supply, tree_seen, twig, type_by_master}
use Rattle.vt_propagate.specs.Planned.{planned_copies, planned_groups}
use Rattle.vt_propagate.specs.Seen.{IsSeen}
use Rattle.vt_propagate.proofs.Found.{numbered}
use Rattle.vt_laws_mounts.proofs.letting_go.Lists.{found_in, flat_map_alike}
use Rattle.vt_laws_mounts.proofs.mounts.Receivers.{receivers_there}

-- Lists

module _ {A B C : Type 0} where
  filter_map_twice : (f : B → Option C) (g : A → B) (list : List A)
      → filter_map f (map g list) ≡ filter_map (λ a. f (g a)) list
  filter_map_twice f g [] = refl
  filter_map_twice f g (a ∷ list) = ap (cons_option (f (g a))) (filter_map_twice f g list)

module _ {A B : Type 0} where
  map_alike : (f g : A → B) → ((a : A) → f a ≡ g a) → (list : List A) → map f list ≡ map g list
  map_alike f g same [] = refl
  map_alike f g same (a ∷ list) = λ i. same a i ∷ map_alike f g same list i

  filter_map_alike : (f g : A → Option B) → ((a : A) → f a ≡ g a) → (list : List A)
      → filter_map f list ≡ filter_map g list
  filter_map_alike f g same [] = refl
  filter_map_alike f g same (a ∷ list) = λ i. cons_option (same a i) (filter_map_alike f g same list i)

-- Types and masters of copies, by the groups that are looked for once at each part

module _ (world : World ℕ) (copying : Copying) (origin : Mount ℕ) where
  abbrev nearest : Option ℕ → Option ℕ
  nearest master = image_of_nearest_group nat_eq world (supply copying) (parts_seen copying) (mount_of copying.destination)
      (twig copying origin) master

  type_by_master-nearest_master_of : (kind : Propagation ℕ) → type_by_master copying (nearest_master_of world copying kind) origin kind
      ≡ copy_type nat_eq world (supply copying) (parts_seen copying) (mount_of copying.destination)
      (twig copying origin) kind
  type_by_master-nearest_master_of (Shared group) = refl
  type_by_master-nearest_master_of (Slave master) = refl
  type_by_master-nearest_master_of Private = refl
  type_by_master-nearest_master_of Unbindable = refl

  -- the group is that of the destination's mount, or not
  abbrev formed_if : Bool → ℕ → Option ℕ → Option (ℕ × Option ℕ)
  formed_if member group master = when (not member) (image_seen copying origin group, master)

  abbrev formed : ℕ → Option ℕ → Option (ℕ × Option ℕ)
  formed group master = formed_if (is_member_of nat_eq group (mount_of copying.destination)) group master

  image_of-above_of : (kind : Propagation ℕ) → then_some (group_of kind) (λ group. formed group
      (option_map (image_seen copying origin) (above_of world copying kind)))
      ≡ then_some (group_of kind) (λ group. formed group (nearest (world.master group)))
  image_of-above_of (Shared group) = grind (arith, common_steps)
  image_of-above_of (Slave master) = refl
  image_of-above_of Private = refl
  image_of-above_of Unbindable = refl

module _ {world : World ℕ} {kept : List MountEntry} {grouping : Grouping} (seen : IsSeen world kept grouping) where
  abbrev members : ℕ → Bool
  members = has_members nat_eq world.mounts

  same_master : (group : ℕ) → members group ≡ true → master_in grouping group ≡ world.master group
  same_master group lives = seen.groups.masters group ∙ ap (λ b. cond b (world.master group) None) lives

  -- the chains of masters of a living group are alike
  chains_alike : (n group : ℕ) → Lives members world.master group
      → chain n (master_in grouping) group ≡ chain n world.master group
  chains_alike zero group life = refl
  chains_alike (suc n) group (has_no_master it has none) =
      chain_ends (master_in grouping) n it (same_master it has ∙ none) ∙ sym (chain_ends world.master n it none)
  chains_alike (suc n) group (has_master it above has some later) =
      chain_goes_on (master_in grouping) n it above (same_master it has ∙ some)
      ∙ ap (λ l. it ∷ l) (chains_alike n above later) ∙ sym (chain_goes_on world.master n it above some)

  up_alike : (group : ℕ) → Lives members world.master group
      → groups_up (as_kept kept grouping) group ≡ groups_up world group
  up_alike group life = chains_alike (length (mounts_in kept)) group life
      ∙ ap (λ (mounts : List (Mount ℕ)). chain (length mounts) world.master group) seen.mounts

  -- the group of a part lives
  abbrev HasLife : Mount ℕ → Type 0
  HasLife part = HasLivingGroups nat_eq world part

  life_of : (part : Mount ℕ) → Among part world.mounts → HasLife part
  life_of part m = among_from_all (HasLivingGroups nat_eq world) world.mounts seen.living part m

  life_at : (place : Location ℕ) → HasLife (mount_at nat_eq world place)
  life_at place = by (numbered world.mounts place.mount) refl
    where
      by : (o : Option (Mount ℕ)) → numbered world.mounts place.mount ≡ o → HasLife (unwrap_or o (no_mount place.mount))
      by None e = λ group none. absurd (true≢false (sym (ap is_some none)))
      by (Some mount) e = life_of mount
          (found_in (λ (one : Mount ℕ). nat_eq place.mount one.number) world.mounts mount e).0

  life_of_parts : (place : Location ℕ) (part : Mount ℕ) → Among part (parts_of nat_eq world place) → HasLife part
  life_of_parts place part m = ⊎_elim (λ e. subst HasLife (sym e) (life_at place))
      (λ l. life_of part (receivers_there world (mount_at nat_eq world place) part
      (among-from_filter (takes_part nat_eq world place)
      (receivers_of nat_eq world (mount_at nat_eq world place)) part l).0)) m

  module _ (new : Copies ℕ) (parts : List (Mount ℕ)) (destination : Mount ℕ) (one : Twig ℕ) where
    nearest_alike : (group : ℕ) → Lives members world.master group
        → image_of_nearest_group nat_eq (as_kept kept grouping) new parts destination one (Some group)
        ≡ image_of_nearest_group nat_eq world new parts destination one (Some group)
    nearest_alike group life = ap (λ groups.
        option_map (image nat_eq new destination one) (find (has_members nat_eq parts) groups)) (up_alike group life)

    type_alike : (kind : Propagation ℕ) → ((group : ℕ) → source_of kind ≡ Some group → Lives members world.master group)
        → copy_type nat_eq (as_kept kept grouping) new parts destination one kind
        ≡ copy_type nat_eq world new parts destination one kind
    type_alike (Shared group) life = refl
    type_alike (Slave master) life = ap slave_of_heir (nearest_alike master (life master refl))
    type_alike Private life = refl
    type_alike Unbindable life = refl

    -- the image of the groups above a living group
    above_alike : (group : ℕ) → Lives members world.master group
        → image_of_nearest_group nat_eq (as_kept kept grouping) new parts destination one (master_in grouping group)
        ≡ image_of_nearest_group nat_eq world new parts destination one (world.master group)
    above_alike group (has_no_master it has none) =
        ap (image_of_nearest_group nat_eq (as_kept kept grouping) new parts destination one) (same_master it has ∙ none)
        ∙ sym (ap (image_of_nearest_group nat_eq world new parts destination one) none)
    above_alike group (has_master it above has some later) =
        ap (image_of_nearest_group nat_eq (as_kept kept grouping) new parts destination one) (same_master it has ∙ some)
        ∙ nearest_alike above later ∙ sym (ap (image_of_nearest_group nat_eq world new parts destination one) some)

  -- Copies and groups, where the first part is the mount at the destination

  module _ (copying : Copying) (at : mount_of copying.destination
      ≡ mount_at nat_eq world (location_of copying.graft.place)) where
    abbrev place : Location ℕ
    place = location_of copying.graft.place

    abbrev graft : meant.Graft ℕ
    graft = graft_of nat_eq world (supply copying) place copying.graft.moves (tree_seen copying)

    abbrev grown : Mount ℕ → Twig ℕ
    grown origin = twig_of (supply copying) (group_of (mount_at nat_eq world place).propagation) origin

    -- what is made with this mount at the destination
    abbrev grown_at : Mount ℕ → Mount ℕ → Twig ℕ
    grown_at destination origin = twig_of (supply copying) (group_of destination.propagation) origin

    abbrev graft_at : Mount ℕ → meant.Graft ℕ
    graft_at destination = record {
      destination = place;
      twigs = map (grown_at destination) (tree_seen copying);
      moves = copying.graft.moves;
    }

    abbrev copy_with : Mount ℕ → Mount ℕ → Mount ℕ → Mount ℕ
    copy_with destination part origin = record origin {
      number = copy_number nat_eq (supply copying) (graft_at destination) part.number origin.number;
      namespace = part.namespace;
      mount_point = Some (copy_mount_point nat_eq (supply copying) (graft_at destination) part.number origin);
      propagation =
          if is_destination nat_eq (graft_at destination) part.number then (grown_at destination origin).propagation
          else copy_type nat_eq world (supply copying) (parts_seen copying) destination
          (grown_at destination origin) part.propagation;
    }

    copied_in_world : (part : Mount ℕ) → HasLife part → (origin : Mount ℕ)
        → copied (as_kept kept grouping) copying part origin
        ≡ copy_at nat_eq world (supply copying) graft (parts_seen copying) part (grown origin)
    copied_in_world part life origin = (λ i. record origin {
      number = copy_number nat_eq (supply copying) (graft_seen copying) part.number origin.number;
      namespace = part.namespace;
      mount_point = Some (copy_mount_point nat_eq (supply copying) (graft_seen copying) part.number origin);
      propagation = if is_destination nat_eq (graft_seen copying) part.number then (twig copying origin).propagation
          else (type_by_master-nearest_master_of (as_kept kept grouping) copying origin part.propagation
          ∙ type_alike (supply copying) (parts_seen copying) (mount_of copying.destination)
          (twig copying origin) part.propagation life) i;
    }) ∙ (λ i. copy_with (at i) part origin)

    abbrev made_with : Mount ℕ → Mount ℕ → Mount ℕ → Option (ℕ × Option ℕ)
    made_with destination part origin =
        if is_destination nat_eq (graft_at destination) part.number then twig_master (grown_at destination origin)
        else then_some (group_of part.propagation) (λ group.
        when (not (is_member_of nat_eq group destination)) (
          image nat_eq (supply copying) destination (grown_at destination origin) group,
          image_of_nearest_group nat_eq world (supply copying) (parts_seen copying) destination (grown_at destination origin)
              (world.master group),
        ))

    abbrev new_with : Mount ℕ → Option ℕ → ℕ → Option (ℕ × Option ℕ)
    new_with origin master group = when (not (is_member_of nat_eq group (mount_of copying.destination)))
        (image nat_eq (supply copying) (mount_of copying.destination) (twig copying origin) group, master)

    made_in_world : (part : Mount ℕ) → HasLife part → (origin : Mount ℕ)
        → made (as_kept kept grouping) copying part origin
        ≡ group_made nat_eq world (supply copying) graft (parts_seen copying) part (grown origin)
    made_in_world part life origin =
        ap (λ o. if is_destination nat_eq (graft_seen copying) part.number then twig_master (twig copying origin)
        else o) (image_of-above_of (as_kept kept grouping) copying origin part.propagation ∙ by part.propagation life)
        ∙ (λ i. made_with (at i) part origin)
      where
        by : (kind : Propagation ℕ) → ((group : ℕ) → source_of kind ≡ Some group → Lives members world.master group)
            → then_some (group_of kind) (λ group.
            new_with origin (image_of_nearest_group nat_eq (as_kept kept grouping) (supply copying) (parts_seen copying)
            (mount_of copying.destination) (twig copying origin) (master_in grouping group)) group)
            ≡ then_some (group_of kind) (λ group.
            new_with origin (image_of_nearest_group nat_eq world (supply copying) (parts_seen copying)
            (mount_of copying.destination) (twig copying origin) (world.master group)) group)
        by (Shared group) living = ap (λ master. new_with origin master group)
            (above_alike (supply copying) (parts_seen copying) (mount_of copying.destination)
            (twig copying origin) group (living group refl))
        by (Slave master) living = refl
        by Private living = refl
        by Unbindable living = refl

    module _ (are : parts_seen copying ≡ parts_of nat_eq world place) where
      life_of_part : (part : Mount ℕ) → Among part (parts_seen copying) → HasLife part
      life_of_part part m = life_of_parts place part (subst (Among part) are m)

      -- the copies that code makes are those that are planned
      pub copies_planned : flat_map (λ part. map (copied (as_kept kept grouping) copying part) (tree_seen copying))
          (parts_seen copying) ≡ planned_copies world copying.graft copying.counts
      copies_planned = flat_map_alike (λ part. map (copied (as_kept kept grouping) copying part) (tree_seen copying))
          (copies_at nat_eq world (supply copying) graft (parts_seen copying)) (parts_seen copying) (λ part m.
          map_alike (copied (as_kept kept grouping) copying part)
          (λ origin. copy_at nat_eq world (supply copying) graft (parts_seen copying) part (grown origin))
          (copied_in_world part (life_of_part part m)) (tree_seen copying)
          ∙ sym (map_twice (copy_at nat_eq world (supply copying) graft (parts_seen copying) part) grown
          (tree_seen copying))) ∙ ap (λ (parts : List (Mount ℕ)). flat_map
          (copies_at nat_eq world (copies_from nat_eq (counts_from copying.counts) parts (tree_seen copying))
          (graft_of nat_eq world (copies_from nat_eq (counts_from copying.counts) parts
          (tree_seen copying)) place copying.graft.moves (tree_seen copying)) parts) parts) are

      -- and so are the groups
      pub groups_planned : flat_map (λ part. filter_map (made (as_kept kept grouping) copying part) (tree_seen copying))
          (parts_seen copying) ≡ planned_groups world copying.graft copying.counts
      groups_planned =
          flat_map_alike (λ part. filter_map (made (as_kept kept grouping) copying part) (tree_seen copying))
          (λ part. filter_map (group_made nat_eq world (supply copying) graft (parts_seen copying) part) graft.twigs)
          (parts_seen copying) (λ part m.
          filter_map_alike (made (as_kept kept grouping) copying part)
          (λ origin. group_made nat_eq world (supply copying) graft (parts_seen copying) part (grown origin))
          (made_in_world part (life_of_part part m)) (tree_seen copying)
          ∙ sym (filter_map_twice (group_made nat_eq world (supply copying) graft (parts_seen copying) part) grown
          (tree_seen copying))) ∙ ap (λ (parts : List (Mount ℕ)). all_groups_made nat_eq world
          (copies_from nat_eq (counts_from copying.counts) parts (tree_seen copying))
          (graft_of nat_eq world (copies_from nat_eq (counts_from copying.counts) parts
          (tree_seen copying)) place copying.graft.moves (tree_seen copying)) parts) are

-- the first of the parts is the mount at the destination
first_in : List (Mount ℕ) → Option (Mount ℕ)
first_in [] = None
first_in (mount ∷ rest) = Some mount

-- the first part is the mount of the event
pub first_part : (parts : List Kept) {first : Kept} → Some first ≡ slice_get parts 0
    → {at : Mount ℕ} {rest : List (Mount ℕ)} → map mount_of parts ≡ at ∷ rest → mount_of first ≡ at
unfolding first_in
first_part [] is e = absurd (true≢false (ap is_some is))
first_part (part ∷ parts) {first} is {at} e = ap mount_of (same_Some first part is)
    ∙ same_Some (mount_of part) at (ap first_in e)
