-- A tree of theirs moves, with copies at receivers: it grows the world.
use Rattle.std.proofs.Common.{arith, ◌≡◌, refl, sym, ap, subst, ◌∙◌, ◌⊎◌, inl, inr, ⊎_elim, ℕ, zero, suc, nat_eq, Bool, true, false, cond, List, [], ◌∷◌, ◌++◌, Option, Some, None, append-nil, flat_map, length, map, eq-eqb, eqb-true}
use Rattle.vt_spec.proofs.Common.{Among, Copies, Filesystem, Location, Mount, TaskName, World, among-filter, among-from_flat_map, children, common_steps, folded, is_among, is_own_mount, list_any, map_twice, masters_with, members, mount_at, mount_numbered, moved_tree, number-mount_in, part_of, rest_of, seen_by_descriptor, source_of, tree_from, used_directly, used_filesystems}
use Rattle.vt_laws_mounts.proofs.letting_go.mounting.Attached.{swapped_all, swapped}
use Rattle.vt_laws_members.proofs.Common.{IsSealed, is_own, numbered}
use Rattle.vt_laws_members.proofs.judging.Common.{children_own, own_theirs, theirs_directly}
use Rattle.vt_laws_members.proofs.changes.Common.{heard_by_own, master_same}
use Rattle.vt_laws_members.proofs.attached.CopiesAlike.{AttachesTheirs, attached_as, copies, made, masters_agree, parts, parts_own, push}
use Rattle.vt_laws_members.proofs.attached.Destination.{located_well}
use Rattle.vt_laws_members.proofs.attached.GrownPart.{Grows, grown_world, own_how}
use Rattle.vt_laws_members.proofs.attached.KnownMasters.{copy_known}
use Rattle.vt_laws_members.proofs.attached.PushedUp.{copy, copy_of, other_stays, push_keeps, stub_stays}

-- a mount is as it was, or it is one of its number
swapped_is : (copied : List (Mount ℕ)) (mount : Mount ℕ) → (swapped copied mount ≡ mount)
    ⊎ ((copy : Mount ℕ) × Among copy copied × (swapped copied mount ≡ copy) × (copy.number ≡ mount.number))
swapped_is [] mount = inl refl
swapped_is (copy ∷ copied) mount = by (nat_eq copy.number mount.number) refl (λ m. swapped_is copied m)
  where
    by : (b : Bool) → nat_eq copy.number mount.number ≡ b → ((m : Mount ℕ) → (swapped copied m ≡ m)
        ⊎ ((c : Mount ℕ) × Among c copied × (swapped copied m ≡ c) × (c.number ≡ m.number)))
        → (swapped copied (cond (nat_eq copy.number mount.number) copy mount) ≡ mount)
        ⊎ ((c : Mount ℕ) × Among c (copy ∷ copied)
        × (swapped copied (cond (nat_eq copy.number mount.number) copy mount) ≡ c) × (c.number ≡ mount.number))
    by b e rest = grind (arith, common_steps, copy, eqb-true)

pub none_new : (world : World ℕ) (names : List TaskName) (n : ℕ)
    → is_among nat_eq n (used_filesystems nat_eq world names) ≡ true
    → list_any (λ (f : Filesystem ℕ). nat_eq n f.number) [] ≡ false
none_new world names n used = refl

-- a tree of mounts of theirs that moves to a mount of theirs
pub record MovesTheirs (world : World ℕ) (names : List TaskName) : Type 0 where
  pub sealing : IsSealed world names
  pub open sealing use {is, sealed_off}
  pub place : Location ℕ
  pub there : Among (mount_at nat_eq world place) world.mounts
  pub own : is_own world names (members world names) (mount_at nat_eq world place) ≡ true
  pub new : Copies ℕ
  pub number : ℕ
  pub top_there : Among (mount_numbered nat_eq world number) world.mounts
  pub top_own : is_own world names (members world names) (mount_numbered nat_eq world number) ≡ true

module _ {world : World ℕ} {names : List TaskName} (moving : MovesTheirs world names) where
  abbrev owns : Mount ℕ → Bool
  owns = is_own world names (members world names)

  abbrev destination : Mount ℕ
  destination = mount_at nat_eq world moving.place

  abbrev origins : List (Mount ℕ)
  origins = moved_tree nat_eq world moving.number

  abbrev attaching : AttachesTheirs world names
  attaching = record {
    sealing = moving.sealing;
    new_ones = [];
    unused = none_new world names;
    place = moving.place;
    there = moving.there;
    own = moving.own;
  }

  abbrev up : Mount ℕ → Mount ℕ
  up = push attaching moving.new true origins

  abbrev at_parts : List (Mount ℕ)
  at_parts = parts attaching

  abbrev made_at : Mount ℕ → List (Mount ℕ)
  made_at = copies attaching moving.new true origins

  abbrev copied : Mount ℕ → Mount ℕ → Mount ℕ
  copied = copy attaching moving.new true origins

  abbrev pub went : Mount ℕ → Mount ℕ
  went = swapped (made_at destination)

  abbrev pub moved : Mount ℕ → Mount ℕ
  moved m = up (went m)

  abbrev pub at_receivers : List (Mount ℕ)
  at_receivers = flat_map made_at (rest_of at_parts)

  abbrev pub moved_master : (ℕ → Option ℕ) → ℕ → Option ℕ
  moved_master above = folded (masters_with nat_eq) above (made attaching moving.new true origins)

  -- the tree is theirs
  abbrev Mine : Mount ℕ → Type 0
  Mine m = Among m world.mounts × (owns m ≡ true)

  tree_mine : (depth : ℕ) (m : Mount ℕ) → Mine m → (o : Mount ℕ) → Among o (tree_from nat_eq depth world.mounts m)
      → Mine o
  tree_mine zero m its o n = ⊎_elim (λ same. rw same its) (λ none. absurd none) n
  tree_mine (suc depth) m its o n = ⊎_elim (λ same. rw same its) (λ below. let child = among-from_flat_map
      (tree_from nat_eq depth world.mounts) (children nat_eq world.mounts m.number) o below in tree_mine depth child.0
      (children_own world names moving.is m.number child.0 (own_theirs world names moving.is m its.0 its.1) child.1) o
      child.2) n

  pub origin_mine : (o : Mount ℕ) → Among o origins → Mine o
  origin_mine o m = tree_mine (length world.mounts) _ (moving.top_there, moving.top_own) o m

  -- at the destination mounts that move keep their numbers
  keeps_number : (o : Mount ℕ) → (copied destination o).number ≡ o.number
  keeps_number o = ap (λ b. cond b o.number (moving.new.copy destination.number o.number))
      (eq-eqb destination.number moving.place.mount (number-mount_in world.mounts moving.place.mount))

  one_of_its_number : (a b : Mount ℕ) → Among a world.mounts → Among b world.mounts → a.number ≡ b.number → a ≡ b
  one_of_its_number a b m n e =
      cc (numbered world names moving.is.mounts a m, numbered world names moving.is.mounts b n)

  -- a mount of the world is as it was, or moved; so is what a descriptor shows of it
  pub went_how : (x y : Mount ℕ) → Among x world.mounts → y.number ≡ x.number
      → (went y ≡ y) ⊎ (Among x origins × (went y ≡ copied destination x))
  went_how x y m e = ⊎_elim inl (λ some.
      let of = copy_of attaching moving.new true origins destination
      some.0 some.1 in
      let same : of.0 ≡ x = one_of_its_number of.0 x (origin_mine of.0 of.1).0 m
      (sym (keeps_number of.0) ∙ ap (λ (z : Mount ℕ). z.number) (sym of.2) ∙ some.3 ∙ e) in
      inr (subst (λ z. Among z origins) same of.1, some.2 ∙ of.2 ∙ ap (copied destination) same))
      (swapped_is (made_at destination) y)

  keeps : {A : Type 0} (what : Mount ℕ → A)
      → ((m : Mount ℕ) (at : Option (Location ℕ)) → what (record m { mount_point = at }) ≡ what m)
      → (m : Mount ℕ) → what (up m) ≡ what m
  keeps = push_keeps attaching moving.new true origins

  -- copies at receivers are theirs
  pub at_receiver : (y : Mount ℕ) → Among y at_receivers
      → (p : Mount ℕ) × Among p at_parts × (o : Mount ℕ) × Among o origins × (y ≡ copied p o)
  at_receiver y m =
      let p = among-from_flat_map made_at (rest_of at_parts) y m in
      let of = copy_of attaching moving.new true origins p.0 y p.2 in
      (p.0, inr p.1, of.0, of.1, of.2)

  mine_shown : (o : Mount ℕ) → Mine o → Among o.filesystem (used_directly nat_eq world names)
  mine_shown o its = rw (← numbered world names moving.is.mounts o its.0) (theirs_directly world names moving.is
      (record { mount = o.number; node = o.root }) (own_theirs world names moving.is o its.0 its.1))

  pub moved_grows : (master : ℕ → Option ℕ) → Grows world names moved at_receivers [] master
  moved_grows master = record {
    kept = kept;
    others = others;
    ours = λ y m. let of = at_receiver y m in
        ap owns of.4 ∙ (parts_own attaching of.0 of.1).1;
    shown = λ y m. let of = at_receiver y m in inl
        (rw (← ap (λ (z : Mount ℕ). z.filesystem) (sym of.4)) (mine_shown of.2 (origin_mine of.2 of.3)));
    located = λ l m. located_well world names moving.is l m;
    unused = λ n e. cc;
    unlisted = λ f m. refl;
    layers = λ f m. absurd m;
    mounted = λ f m. absurd m;
  }
    where
      kept : (x : Mount ℕ) → Among x world.mounts → owns x ≡ true
          → (owns (moved x) ≡ true) × ((moved x).number ≡ x.number) × ((moved x).filesystem ≡ x.filesystem)
      kept x m mine = ⊎_elim (λ same. (
        keeps owns (λ y at. refl) (went x) ∙ ap owns same ∙ mine,
        keeps (λ (y : Mount ℕ). y.number) (λ y at. refl) (went x) ∙ ap (λ (y : Mount ℕ). y.number) same,
        keeps (λ (y : Mount ℕ). y.filesystem) (λ y at. refl) (went x) ∙ ap (λ (y : Mount ℕ). y.filesystem) same,
      )) (λ moves. (
        keeps owns (λ y at. refl) (went x) ∙ ap owns moves.1 ∙ moving.own,
        keeps (λ (y : Mount ℕ). y.number) (λ y at. refl) (went x) ∙ ap (λ (y : Mount ℕ). y.number) moves.1
            ∙ keeps_number x,
        keeps (λ (y : Mount ℕ). y.filesystem) (λ y at. refl) (went x) ∙ ap (λ (y : Mount ℕ). y.filesystem) moves.1,
      )) (went_how x x m refl)

      others : (x : Mount ℕ) → Among x world.mounts → owns x ≡ false
          → (moved x ≡ x) × (moved (seen_by_descriptor x) ≡ seen_by_descriptor x)
      others x m other = (
        ⊎_elim (λ same. ap up same ∙ other_stays attaching moving.new true origins x m other)
            (λ moves. cc ((origin_mine x moves.0).1)) (went_how x x m refl),
        ⊎_elim (λ same. ap up same
            ∙ stub_stays attaching moving.new true origins x)
            (λ moves. cc ((origin_mine x moves.0).1))
            (went_how x (seen_by_descriptor x) m refl),
      )

  -- Masters
  module _ (new_groups : (a b : ℕ) → world.master (moving.new.image a b) ≡ None) where
    sources : (o : Mount ℕ) → Among o origins → (g : ℕ) → source_of o.propagation ≡ Some g
        → (part_of nat_eq world names).master g ≡ world.master g
    sources o m g e =
        let its = origin_mine o m in
        master_same moving.sealing g (heard_by_own moving.sealing o (among-filter (is_own_mount nat_eq world names)
        world.mounts o its.0 its.1) g e)

    known_copy : (p o : Mount ℕ) → Among o origins → (g : ℕ) → source_of (copied p o).propagation ≡ Some g
        → (part_of nat_eq world names).master g ≡ world.master g
    known_copy =
        copy_known attaching moving.new true origins new_groups sources

    pub moved_known : (y : Mount ℕ) → Among y (map moved world.mounts ++ at_receivers) → owns y ≡ true → (g : ℕ)
        → source_of y.propagation ≡ Some g
        → moved_master (part_of nat_eq world names).master g ≡ moved_master world.master g
    moved_known y m mine g e =
        masters_agree (made attaching moving.new true origins) (part_of nat_eq world names).master world.master g
        (⊎_elim (λ old. by old.0 old.1 old.2 (cc (
          old.3,
          keeps (λ (x : Mount ℕ). source_of x.propagation) (λ x at. refl)
              (went old.0),
        ))) (λ more. let of = at_receiver y more in known_copy of.0 of.2 of.3 g (cc of.4))
        (own_how (moved_grows (moved_master world.master)) y m mine))
      where
        by : (x : Mount ℕ) → Among x world.mounts → owns x ≡ true → source_of (went x).propagation ≡ Some g
            → (part_of nat_eq world names).master g ≡ world.master g
        by x n own_one s = ⊎_elim (λ same. master_same moving.sealing g (heard_by_own moving.sealing x
            (among-filter (is_own_mount nat_eq world names) world.mounts x n own_one) g (cc)))
            (λ moves. known_copy destination x moves.0 g (cc moves.1)) (went_how x x n refl)

  -- the world that is left
  pub moved_as : (w : World ℕ)
      → attached_as attaching moving.new true origins w
      ≡ grown_world w names moved at_receivers [] (moved_master w.master)
  moved_as w = grind (arith, common_steps, swapped_all, append-nil, map_twice)
