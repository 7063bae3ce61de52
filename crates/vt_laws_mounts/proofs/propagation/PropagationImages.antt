-- Where a tree is attached at a shared mount: how the ways up from images of groups relate to those from the groups.
use Rattle.std.proofs.Common.{arith, ◌≡◌, refl, sym, ap, subst, true, false, nat_eq, ℕ, Bool, List, Option, Some, inl, inr, unwrap_or, ⊎_elim, ◌⊎◌}
use Rattle.vt_spec.proofs.Common.{Among, Copies, Location, Mount, Private, Propagation, Shared, Slave, Unbindable, World, among-from_filter, among_from_contains, any_among, any_from_among, attached_by, common_steps, contains_from_among, false_from_ne_true, found_or_none, group_of, has_members, is_member_of, parts_of, receives, same_Some, source_of, type_on_shared}
use Rattle.vt_laws_mounts.specs.Mounts.Attaching.{OneNumberAMount}
use Rattle.vt_laws_mounts.specs.Mounts.Copies.{IsOneOf, ServeAsImages}
use Rattle.vt_laws_mounts.specs.Mounts.Propagation.{Attachment, CanAttach, destination_of, world_after}
use Rattle.vt_laws_mounts.proofs.attached.AttachedMasters.{image_elsewhere, master_there, old_master}
use Rattle.vt_laws_mounts.proofs.attached.Attaching.{taker_there}
use Rattle.vt_laws_mounts.proofs.GroupsKept.{member_shared, shared_member}
use Rattle.vt_laws_mounts.proofs.GroupsUp.{LivesIn, Up, first_step, group_shared, live_members, lives_in}
use Rattle.vt_laws_mounts.proofs.GroupsUp.Up.{above, here}
use Rattle.vt_laws_mounts.proofs.mounts.MountsNumbered.{is_one_of}
use Rattle.vt_laws_mounts.proofs.mounts.Receivers.{receives_from_source}
use Rattle.vt_laws_mounts.proofs.propagation.PropagationAttaching.{image_group, serve_images, supply}
use Rattle.vt_laws_mounts.proofs.propagation.PropagationTypes.{image_in, image_new, lower_master, there_new}
use Rattle.vt_laws_mounts.proofs.propagation.PropagationUp.{Nearest, by_masters, finds_some, found_nearest, heard_up, lives_up, nearest_passes, nearest_up, no_loop, up_among, up_further}
use Rattle.vt_laws_mounts.proofs.propagation.PropagationUp.Nearest.{further, itself}

-- Groups that lived keep their ways up
module _ {world : World ℕ} {new : Copies ℕ} (place : Location ℕ) (moves : Bool) {mounts : List (Mount ℕ)}
    (serve : ServeAsImages world (parts_of nat_eq world place) mounts new) (own : OneNumberAMount mounts) where
  abbrev masters : ℕ → Option ℕ
  masters = (attached_by nat_eq world new place moves mounts).master

  pub old_up : (source other : ℕ) → LivesIn world source → Up masters source other → Up world.master source other
  old_up source other life (here it) = here it
  old_up source other life (above it next end e way) =
      let f : world.master it ≡ Some next = cc (old_master place moves serve own it (live_members _ _ it life), e) in
      above it next end f (old_up next end (lives_up _ _ it next life (above it next next f (here next))) way)

  pub old_up_after : (source other : ℕ) → LivesIn world source → Up world.master source other → Up masters source other
  old_up_after source other life (here it) = here it
  old_up_after source other life (above it next end e way) = above it next end
      (cc (old_master place moves serve own it (live_members _ _ it life), e))
      (old_up_after next end (lives_up _ _ it next life (above it next next e (here next))) way)

-- what a mount of the tree receives from lives
pub sourced : (it : Attachment) → CanAttach it → (origin : Mount ℕ) → Among origin it.mounts → (source : ℕ)
    → source_of origin.propagation ≡ Some source → LivesIn it.world source
sourced it can origin m source e = ⊎_elim (λ private. absurd cc)
    (λ old. lives_in it.world can.groups old.0 (among_from_contains it.world.mounts old.0 old.1) source (cc (old.2)))
    (can.types origin (contains_from_among it.mounts origin m))

-- What all that follows stands on: the tree can be attached, its destination is in this group, and `origin` is of the
-- tree. Each group with a member among the parts has an image, which the copies of `origin` at its members are in.
pub record AtSharedMount (it : Attachment) (group : ℕ) (origin : Mount ℕ) : Type 0 where
  pub can : CanAttach it
  pub shared : group_of (destination_of it).propagation ≡ Some group
  pub of_tree : Among origin it.mounts

module _ {it : Attachment} {group : ℕ} {origin : Mount ℕ} (at : AtSharedMount it group origin) where
  abbrev pub parts : List (Mount ℕ)
  parts = parts_of nat_eq it.world it.mount_point

  abbrev pub has : ℕ → Bool
  has = has_members nat_eq parts

  abbrev pub image : ℕ → ℕ
  image = image_group it at.can origin

  abbrev pub up : ℕ → Option ℕ
  up = (world_after it).master

  abbrev pub new_image : ℕ → ℕ
  new_image one = (supply it at.can).image one origin.number

  abbrev serve : ServeAsImages it.world parts it.mounts (supply it at.can)
  serve = serve_images it at.can

  -- The parts, and their groups

  -- the destination is a member of its group
  pub there_shared : (destination_of it).propagation ≡ Shared group
  there_shared = group_shared _ group at.shared

  -- a part is a mount of the world,
  pub part_there : (part : Mount ℕ) → Among part parts → Among part it.world.mounts
  part_there part m = ⊎_elim (λ same. subst (λ x. Among x it.world.mounts) (sym same)
      (⊎_elim (λ found. found) (λ none. absurd (cc (at.shared, none))) (found_or_none it.world.mounts _)))
      (λ rest. taker_there it.world it.mount_point part rest) m

  -- and receives from the destination's group:
  pub hears_there : (part : Mount ℕ) → Among part parts → receives nat_eq it.world group part ≡ true
  hears_there part m = grind (arith, common_steps, receives_from_source, there_shared, among-from_filter)

  -- what it receives from lives,
  pub part_lives : (part : Mount ℕ) → Among part parts → (source : ℕ) → source_of part.propagation ≡ Some source
      → LivesIn it.world source
  part_lives part m = lives_in it.world at.can.groups part (part_there part m)

  -- and has that group up its masters
  pub way_there : (part : Mount ℕ) → Among part parts → (source : ℕ) → source_of part.propagation ≡ Some source
      → Up it.world.master source group
  way_there part m source e = heard_up it.world part source group e (hears_there part m)

  -- so each group with a member among the parts lives, and is the destination's or has it up its masters
  member_part : (one : ℕ) → has one ≡ true → (part : Mount ℕ) × Among part parts × (part.propagation ≡ Shared one)
  member_part one h = let t = any_among (is_member_of nat_eq one) parts h in (t.0, t.1, member_shared one t.0 t.2)

  group_lives : (one : ℕ) → has one ≡ true → LivesIn it.world one
  group_lives one h = let t = member_part one h in part_lives t.0 t.1 one (ap source_of t.2)

  group_up : (one : ℕ) → has one ≡ true → Up it.world.master one group
  group_up one h = let t = member_part one h in way_there t.0 t.1 one (ap source_of t.2)

  pub group_has : has group ≡ true
  group_has = any_from_among (is_member_of nat_eq group) parts (destination_of it) (inl refl)
      (shared_member group (destination_of it) there_shared)

  is_group : (one : ℕ) → is_member_of nat_eq one (destination_of it) ≡ true → one ≡ group
  is_group one h = same_Some one group (cc (member_shared one (destination_of it) h, at.shared))

  -- the destination is in no group that has its group up the masters
  is_lower : (one next : ℕ) → has one ≡ true → it.world.master one ≡ Some next → Up it.world.master next group
      → is_member_of nat_eq one (destination_of it) ≡ false
  is_lower one next h e way = false_from_ne_true _ (λ is. no_loop _ _ one (group_lives one h) next e
      (subst (Up it.world.master next) (sym (is_group one is)) way))

  -- The images

  -- the image of a group is new,
  pub record IsNewImage (one : ℕ) : Type 0 where
    pub made : image one ≡ new_image one
    pub unused : has_members nat_eq it.world.mounts (image one) ≡ false

  -- or else the group is the destination's, and the image what `origin` receives from: its own group
  abbrev pub IsOwnGroup : ℕ → Type 0
  IsOwnGroup one = (one ≡ group) × (source_of origin.propagation ≡ Some (image one))

  -- where the image of the destination's group is new, its master is what `origin` receives from
  abbrev IsNewUnderSource : Type 0
  IsNewUnderSource = IsNewImage group × (up (image group) ≡ source_of origin.propagation)

  -- by the type of `origin`
  group_image : IsOwnGroup group ⊎ IsNewUnderSource
  group_image = by _ refl
    where
      same : image group
          ≡ unwrap_or (group_of (type_on_shared (new_image group) origin.propagation)) (new_image group)
      same = image_in it.mount_point it.moves serve at.can.each_once origin group at.shared

      new : image group ≡ new_image group → (kind : Propagation ℕ) → origin.propagation ≡ kind
          → up (new_image group) ≡ source_of kind → IsOwnGroup group ⊎ IsNewUnderSource
      new e kind f g = inr (
        record {
          made = e;
          unused = cc (
            e,
            there_new it.mount_point it.moves serve at.can.each_once origin at.of_tree group at.shared,
          );
        },
        cc (e, f, g),
      )

      by : (kind : Propagation ℕ) → origin.propagation ≡ kind → IsOwnGroup group ⊎ IsNewUnderSource
      by (Shared old) e = inl (refl, cc (same, e))
      by (Slave master) e = new (cc (same, e)) _ e
          (master_there it.mount_point it.moves serve at.can.each_once origin at.of_tree group at.shared _ e refl)
      by Private e = new (cc (same, e)) _ e
          (master_there it.mount_point it.moves serve at.can.each_once origin at.of_tree group at.shared _ e refl)
      by Unbindable e = new (cc (same, e)) _ e
          (master_there it.mount_point it.moves serve at.can.each_once origin at.of_tree group at.shared _ e refl)

  -- the image of any group, by whether the destination is a member
  pub image_is : (one : ℕ) → has one ≡ true → IsOwnGroup one ⊎ IsNewImage one
  image_is one h = by _ refl
    where
      by : (b : Bool) → is_member_of nat_eq one (destination_of it) ≡ b → IsOwnGroup one ⊎ IsNewImage one
      by true e = subst (λ g. IsOwnGroup g ⊎ IsNewImage g) (sym (is_group one e))
          (⊎_elim inl (λ new. inr (new.0)) group_image)
      by false e = inr (record {
        made = image_elsewhere it.mount_point it.moves serve at.can.each_once one origin e;
        unused = image_new it.mount_point it.moves serve at.can.each_once origin at.of_tree one h e;
      })

  -- what comes up from the source of `origin` had members, so no new image does
  pub own_lives : (source one : ℕ) → source_of origin.propagation ≡ Some source → Up it.world.master source one
      → has_members nat_eq it.world.mounts one ≡ true
  own_lives source one e way =
      live_members _ _ one (lives_up _ _ source one (sourced it at.can origin at.of_tree source e) way)

  -- two groups have two images
  pub same_image : (one other : ℕ) → has one ≡ true → has other ≡ true → image one ≡ image other → one ≡ other
  same_image one other h h_other e = ⊎_elim (λ own. ⊎_elim (λ own_too. cc (own.0, own_too.0))
      (λ new. absurd (cc (own_lives _ _ own.1 (here (image one)), e, new.unused))) (image_is other h_other))
      (λ new. ⊎_elim (λ own. absurd (cc (own_lives _ _ own.1 (here (image other)), e, new.unused)))
      (λ new_too. (serve.apart one origin.number other origin.number h of_tree h_other of_tree
      (cc (new.made, e, new_too.made))).0) (image_is other h_other)) (image_is one h)
    where
      of_tree : IsOneOf it.mounts origin.number
      of_tree = is_one_of it.mounts origin at.of_tree

  -- Ways up from images

  -- where a group has the destination's up its masters, the master of its image is that of the nearest group above
  next_image : (one next : ℕ) → has one ≡ true → it.world.master one ≡ Some next → Up it.world.master next group
      → (near : ℕ) × Nearest it.world.master has next near × (up (image one) ≡ Some (image near))
  next_image one next h e way =
      let part = member_part one h in
      let life = lives_up _ _ one next (group_lives one h) (above one next next e (here next)) in
      let found = finds_some has _ group (up_among it.world at.can.groups next group life way) group_has in (
        found.0,
        found_nearest _ has _ next _ found.1,
        lower_master it.mount_point it.moves serve at.can.each_once part.0 origin part.1 at.of_tree one next found.0
            part.2 (is_lower one next h e way) e found.1,
      )

  -- The image of a group that comes up another comes up the image of the nearest group from there.
  abbrev ImagesComeUp : ℕ → Type 0
  ImagesComeUp source =
      (near other : ℕ) → Nearest it.world.master has source near → Up it.world.master source other → has other ≡ true
      → Up up (image near) (image other)

  pub images_come_up : (source : ℕ) → LivesIn it.world source → ImagesComeUp source
  images_come_up = by_masters it.world.master (has_members nat_eq it.world.mounts) ImagesComeUp each
    where
      each : (source : ℕ) → LivesIn it.world source
          → ((next : ℕ) → it.world.master source ≡ Some next → ImagesComeUp next) → ImagesComeUp source
      each source life later near other (itself one h) (here two) h_other = here (image one)
      each source life later near other (itself one h) (above two next end e way) h_other =
          let t = next_image one next h e (up_further _ next end group way (group_up end h_other)) in
          above (image one) (image t.0) (image end) t.2 (later next e t.0 end t.1 way h_other)
      each source life later near other (further one next end misses e rest) (here two) h_other =
          absurd (cc (misses, h_other))
      each source life later near other (further one next end misses e rest) (above two after last f way) h_other =
          later next e end last rest (subst (λ x. Up it.world.master x last) (same_Some after next (cc (e, f))) way)
          h_other

  -- The groups up from what `origin` receives from
  abbrev pub Beyond : ℕ → Type 0
  Beyond one = (source : ℕ) × (source_of origin.propagation ≡ Some source) × Up it.world.master source one

  -- come up the image of the destination's group,
  pub beyond_group : (one : ℕ) → Beyond one → Up up (image group) one
  beyond_group one (source, e, way) = ⊎_elim
      (λ own. subst (λ x. Up up x one) (same_Some source (image group) (cc (e, own.1))) old)
      (λ new. above (image group) source one (cc (new.1, e)) old) group_image
    where
      old : Up up source one
      old = old_up_after it.mount_point it.moves serve at.can.each_once source one
          (sourced it at.can origin at.of_tree source e) way

  -- and nothing else does.
  above_group : (one : ℕ) → Up up (image group) one → (one ≡ image group) ⊎ Beyond one
  above_group one way = ⊎_elim (λ own. inr (beyond (image group) own.1 way))
      (λ new. ⊎_elim (λ same. inl (sym same)) (λ t. inr (beyond t.0 (cc (t.1, new.1)) t.2))
      (first_step up (image group) one way)) group_image
    where
      beyond : (source : ℕ) → source_of origin.propagation ≡ Some source → Up up source one → Beyond one
      beyond source e way = (
        source,
        e,
        old_up it.mount_point it.moves serve at.can.each_once source one
            (sourced it at.can origin at.of_tree source e) way,
      )

  -- So what comes up an image is an image of what comes up its group, or comes up from the source of `origin`.
  abbrev pub IsImageUp : ℕ → ℕ → Type 0
  IsImageUp near one =
      ((other : ℕ) × Up it.world.master near other × (has other ≡ true) × (one ≡ image other)) ⊎ Beyond one

  image_further : (near after close one : ℕ) → it.world.master near ≡ Some after
      → Nearest it.world.master has after close → IsImageUp close one → IsImageUp near one
  image_further near after close one e n (inr beyond) = inr beyond
  image_further near after close one e n (inl (other, way, h, is)) = inl (
    other,
    above near after other e (up_further _ after close other (nearest_up _ has after close n) way),
    h,
    is,
  )

  pub above_image : (from one : ℕ) → Up up from one → (near : ℕ) → has near ≡ true → from ≡ image near
      → IsImageUp near one
  above_image from one (here top) near h p = inl (near, here near, h, p)
  above_image from one (above same next end e way) near h p = ⊎_elim
      (λ same. ⊎_elim (λ is. inl (near, here near, h, cc (same, is))) inr
      (above_group end (above (image group) next end (cc (e, p, same)) way))) (λ lower.
      let t = next_image near lower.0 h lower.1 lower.2 in
      image_further near lower.0 t.0 end lower.1 t.1 (above_image next end way t.0
      (nearest_passes _ has lower.0 t.0 t.1) (same_Some next (image t.0) (cc (e, p, t.2)))))
      (first_step it.world.master near group (group_up near h))
