-- A new filesystem, of which the layers lie in what a sealed set uses, is mounted in the part as in the world.
use Rattle.std.proofs.Common.{◌≡◌, refl, sym, ap, subst, ◌∙◌, inl, inr, ⊎_elim, ℕ, nat_eq, true, false, List, [], ◌∷◌, Some, None, ◌||◌, eq-eqb}
use Rattle.vt_spec.proofs.Common.{Among, Copies, Filesystem, Fresh, Layer, Location, Mount, MountFlags, Serves, TaskName, World, attached_by, copies_from, is_among, layers_of, list_any, members, mount_at, mounted, new_mount, none_is_some, numbers_raised, odds, of_overlay, part_of, settled, source_of, used_directly, used_filesystems}
use Rattle.vt_laws_members.proofs.Common.{IsSealed, all_in_use, has_only_named, is_own, locations_of_worlds_stand, mounts_of_worlds_stand, new_filesystems_keep_all}
use Rattle.vt_laws_members.specs.Judging.{is_theirs}
use Rattle.vt_laws_members.proofs.judging.Common.{IsTheirs, theirs_from}
use Rattle.vt_laws_members.proofs.changes.Common.{part_in_use}
use Rattle.vt_laws_members.proofs.attached.AttachedAlike.{copies_alike}
use Rattle.vt_laws_members.proofs.attached.CopiesAlike.{AttachesTheirs, base_part, parts, parts_alike}
use Rattle.vt_laws_members.proofs.attached.Destination.{locations_stand_there, mounts_stand_there, placed, placed_there, there}
use Rattle.vt_laws_members.proofs.attached.PushedUp.{ShowTheirs}
use Rattle.vt_laws_members.proofs.attached.Unused.{filesystem_unlike, group_new, used_unlike}

module _ {world : World ℕ} {names : List TaskName} (sealing : IsSealed world names) {fresh : Fresh ℕ}
    (serves : Serves nat_eq world fresh) (here : Location ℕ) (on : is_theirs world names here.mount ≡ true)
    (own : is_own world names (members world names) (mount_at nat_eq world here) ≡ true) (new_one : Filesystem ℕ)
    (number : new_one.number ≡ fresh 0) (layers : (layer : Layer ℕ) → Among layer (of_overlay [] layers_of new_one)
    → Among layer.filesystem (used_directly nat_eq world names)) (named : has_only_named new_one ≡ true)
    (flags : MountFlags) where
  abbrev part : World ℕ
  part = part_of nat_eq world names

  theirs : IsTheirs world names sealing.is.mounts here.mount
  theirs = theirs_from world names sealing.is.mounts here.mount on

  pub here_there : Among (mount_at nat_eq world here) world.mounts
  here_there = there world names sealing.is sealing.sealed_off here theirs own

  abbrev mount : Mount ℕ
  mount = new_mount new_one.number new_one.files.tree.root flags

  abbrev pub origins : List (Mount ℕ)
  origins = mount ∷ []

  unlike : (n : ℕ) → nat_eq n (fresh 0) ≡ false → list_any (λ (f : Filesystem ℕ). nat_eq n f.number) (new_one ∷ [])
      ≡ false
  unlike n other = cc

  pub unused : (n : ℕ) → is_among nat_eq n (used_filesystems nat_eq world names) ≡ true
      → list_any (λ (f : Filesystem ℕ). nat_eq n f.number) (new_one ∷ []) ≡ false
  unused n used = unlike n (used_unlike world names sealing.is fresh serves n used 0)

  abbrev pub attaching : AttachesTheirs world names
  attaching = record {
    sealing = sealing;
    new_ones = new_one ∷ [];
    unused = unused;
    place = here;
    there = here_there;
    own = own;
  }

  abbrev pub new : Copies ℕ
  new = copies_from nat_eq (odds fresh) (parts attaching) origins

  pub shows : ShowTheirs attaching new false origins
  shows = record {
    shown = λ o m. inr (⊎_elim (λ same. ap (λ (x : Mount ℕ). nat_eq x.filesystem new_one.number || false) same
        ∙ ap (λ b. b || false) (eq-eqb new_one.number new_one.number refl)) (λ none. absurd none) m);
    unlisted = λ f m. unlike f.number (filesystem_unlike world names sealing.is fresh serves f m 0);
    layers = λ f m layer n. ⊎_elim
        (λ same. layers layer (subst (Among layer) (ap (of_overlay [] layers_of) same) n)) (λ none. absurd none) m;
    mounted = λ f m. (
      mount,
      inl refl,
      ⊎_elim (λ same. ap (λ (g : Filesystem ℕ). g.number) (sym same)) (λ none. absurd none) m,
    );
  }

  sources : (o : Mount ℕ) → Among o origins → (g : ℕ) → source_of o.propagation ≡ Some g
      → part.master g ≡ world.master g
  sources o m g e = ⊎_elim (λ same. none_is_some g (cc)) (λ none. absurd none) m

  new_groups : (a b : ℕ) → world.master (new.image a b) ≡ None
  new_groups a b = group_new world names sealing.is fresh serves _

  abbrev pub now : World ℕ
  now = mounted nat_eq (odds fresh) world here new_one flags

  abbrev pub now_there : World ℕ
  now_there = mounted nat_eq (odds fresh) part here new_one flags

  -- nothing goes
  pub settled_here : settled nat_eq now ≡ now
  settled_here = new_filesystems_keep_all (odds fresh) world here new_one flags (all_in_use world sealing.is)
      (mounts_of_worlds_stand world sealing.is) (locations_of_worlds_stand world sealing.is)
      (placed world names sealing.is sealing.sealed_off here theirs own) named

  pub settled_there : settled nat_eq now_there ≡ now_there
  settled_there = new_filesystems_keep_all (odds fresh) part here new_one flags (part_in_use sealing)
      (mounts_stand_there world names sealing.is sealing.sealed_off) (locations_stand_there world names sealing.is)
      (placed_there world names sealing.is sealing.sealed_off here theirs own) named

  -- the numbers are handed out to the same parts
  same_numbers : now_there ≡ attached_by nat_eq
      (base_part attaching) new here false origins
  same_numbers = ap (λ l. attached_by nat_eq (base_part attaching) (copies_from nat_eq (odds fresh) l origins) here
      false origins) (parts_alike attaching)

  pub mounted_alike : (name : TaskName) → part_of nat_eq (numbers_raised nat_eq world name [] now) names
      ≡ part_of nat_eq (numbers_raised nat_eq part name [] now_there) names
  mounted_alike name =
      copies_alike attaching new_groups sources shows name
      ∙ sym (ap (λ w. part_of nat_eq (numbers_raised nat_eq part name [] w) names) same_numbers)
