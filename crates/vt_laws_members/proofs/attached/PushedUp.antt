-- What copies push up at receivers is theirs, and copies grow the world.
use Rattle.std.proofs.Common.{arith, ◌≡◌, refl, sym, ap, ◌∙◌, ◌⊎◌, inl, inr, ℕ, nat_eq, Bool, true, false, true≢false, List, [], Option, flat_map, map}
use Rattle.vt_spec.proofs.Common.{Among, Copies, Filesystem, Layer, Location, Mount, Task, TaskName, Twig, World, among-flat_map, among-from_flat_map, among-from_map, among-map, common_steps, copy_at, group_of, is_among, layers_of, list_any, members, mount_at, of_overlay, pushed_onto, rest_of, seen_by_descriptor, stands_at, twig_of, used_directly, used_filesystems}
use Rattle.vt_laws_members.proofs.Common.{find_none, is_own, stands_there}
use Rattle.vt_laws_members.proofs.judging.Common.{child_theirs, own_theirs}
use Rattle.vt_laws_members.proofs.attached.CopiesAlike.{AttachesTheirs, base, copies, parts, parts_own, push, tree}
use Rattle.vt_laws_members.proofs.attached.Destination.{located_well}
use Rattle.vt_laws_members.proofs.attached.GrownPart.{Grows}

module _ {world : World ℕ} {names : List TaskName} (attaching : AttachesTheirs world names)
    (new : Copies ℕ) (moves : Bool) (origins : List (Mount ℕ)) where
  abbrev theirs : List (Task ℕ)
  theirs = members world names

  abbrev owns : Mount ℕ → Bool
  owns = is_own world names theirs

  abbrev destination : Mount ℕ
  destination = mount_at nat_eq world attaching.place

  abbrev up : Mount ℕ → Mount ℕ
  up = push attaching new moves origins

  abbrev at_parts : List (Mount ℕ)
  at_parts = parts attaching

  abbrev made_at : Mount ℕ → List (Mount ℕ)
  made_at = copies attaching new moves origins

  abbrev pub twig : Mount ℕ → Twig ℕ
  twig = twig_of new (group_of destination.propagation)

  abbrev pub copy : Mount ℕ → Mount ℕ → Mount ℕ
  copy p origin = copy_at nat_eq (base attaching) new (tree attaching new moves origins) at_parts p (twig origin)

  -- what is pushed up keeps all but its mount point
  pub push_keeps : {A : Type 0} (what : Mount ℕ → A)
      → ((m : Mount ℕ) (at : Option (Location ℕ)) → what (record m { mount_point = at }) ≡ what m)
      → (m : Mount ℕ) → what (up m) ≡ what m
  push_keeps what same m = grind (arith, common_steps, tree, base)

  -- what stands elsewhere stays there
  stays_put : (m : Mount ℕ) → ((p : Mount ℕ) → Among p (rest_of at_parts)
      → stands_at nat_eq (record { mount = p.number; node = attaching.place.node }) m ≡ false) → up m ≡ m
  stays_put m none = ap (pushed_onto nat_eq (base attaching) new (tree attaching new moves origins) at_parts m)
      (find_none (λ (p : Mount ℕ). stands_at nat_eq (record { mount = p.number; node = attaching.place.node }) m)
      (rest_of at_parts) none)

  pub other_stays : (x : Mount ℕ) → Among x world.mounts → owns x ≡ false → up x ≡ x
  other_stays x m other = stays_put x (λ p n. by p n _ refl)
    where
      by : (p : Mount ℕ) → Among p (rest_of at_parts) → (b : Bool)
          → stands_at nat_eq (record { mount = p.number; node = attaching.place.node }) x ≡ b → b ≡ false
      by p n true e =
          let its = parts_own attaching p (inr n) in
          cc (child_theirs world names attaching.is.mounts (record { mount = p.number; node = attaching.place.node }) x
          (own_theirs world names attaching.is p its.0 its.1) m (stands_there
          (record { mount = p.number; node = attaching.place.node }) x e))
      by p n false e = refl

  pub stub_stays : (x : Mount ℕ) → up (seen_by_descriptor x) ≡ seen_by_descriptor x
  stub_stays x = stays_put (seen_by_descriptor x) (λ p n. refl)

  -- each copy is of a mount of the tree
  pub copy_of : (p x : Mount ℕ) → Among x (made_at p) → (o : Mount ℕ) × Among o origins × (x ≡ copy p o)
  copy_of p x m =
      let t = among-from_map _ (map twig origins) x m in
      let o = among-from_map twig origins t.0 t.1 in (
        o.0,
        o.1,
        cc (t.2, o.2),
      )

  pub copy_there : (p o : Mount ℕ) → Among o origins → Among (copy p o) (made_at p)
  copy_there p o m = among-map _ (map twig origins) (twig o) (among-map twig origins o m)

  copy_own : (p : Mount ℕ) → Among p at_parts → (o : Mount ℕ) → owns (copy p o) ≡ true
  copy_own p n o = (parts_own attaching p n).1

  -- what is new where nothing moves
  abbrev pub all_copies : List (Mount ℕ)
  all_copies = flat_map made_at at_parts

  pub of_copies : (x : Mount ℕ) → Among x all_copies
      → (p : Mount ℕ) × Among p at_parts × (o : Mount ℕ) × Among o origins × (x ≡ copy p o)
  of_copies x m =
      let p = among-from_flat_map made_at at_parts x m in
      let o = copy_of p.0 x p.2 in (p.0, p.1, o.0, o.1, o.2)

  abbrev is_fresh : ℕ → Bool
  is_fresh n = list_any (λ (f : Filesystem ℕ). nat_eq n f.number) attaching.new_ones

  -- the mounts that are copied show filesystems of theirs, or new ones, each of which one shows
  pub record ShowTheirs : Type 0 where
    pub shown : (o : Mount ℕ) → Among o origins
        → Among o.filesystem (used_directly nat_eq world names) ⊎ (is_fresh o.filesystem ≡ true)
    pub unlisted : (f : Filesystem ℕ) → Among f world.filesystems → is_fresh f.number ≡ false
    pub layers : (f : Filesystem ℕ) → Among f attaching.new_ones → (layer : Layer ℕ) → Among layer
        (of_overlay [] layers_of f) → Among layer.filesystem (used_directly nat_eq world names)
    pub mounted : (f : Filesystem ℕ) → Among f attaching.new_ones → (o : Mount ℕ) × Among o origins
        × (o.filesystem ≡ f.number)

  fresh_unused : (n : ℕ) → is_fresh n ≡ true → is_among nat_eq n (used_filesystems nat_eq world names) ≡ false
  fresh_unused n is_new = grind (arith, common_steps, true≢false)

  pub copies_grow : ShowTheirs → (master : ℕ → Option ℕ) → Grows world names up all_copies attaching.new_ones master
  copies_grow it master = record {
    kept = λ x m mine. (
      push_keeps owns (λ y at. refl) x ∙ mine,
      push_keeps (λ (y : Mount ℕ). y.number) (λ y at. refl) x,
      push_keeps (λ (y : Mount ℕ). y.filesystem) (λ y at. refl) x,
    );
    others = λ x m other. (other_stays x m other, stub_stays x);
    ours = λ x m. let its = of_copies x m in ap owns its.4 ∙ copy_own its.0 its.1 its.2;
    shown = λ x m. let its = of_copies x m in
        rw (← ap (λ (y : Mount ℕ). y.filesystem) (sym its.4)) (it.shown its.2 its.3);
    located = λ l m. located_well world names attaching.is l m;
    unused = fresh_unused;
    unlisted = it.unlisted;
    layers = it.layers;
    mounted = λ f m. let o = it.mounted f m in (
      copy destination o.0,
      among-flat_map made_at at_parts destination (copy destination o.0) (inl refl) (copy_there destination o.0 o.1),
      o.2,
    );
  }
