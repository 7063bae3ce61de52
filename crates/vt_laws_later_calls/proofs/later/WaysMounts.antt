-- Where mounts of other namespaces go, with all that stands on them, steps through a task's own find the mounts that
-- they found.
use Rattle.std.proofs.Common.{◌≡◌, refl, sym, ap, subst, ◌∙◌, true≢false, ℕ, zero, suc, ◌≤◌, nat_eq, Bool, true, false, cond, List, filter, length, Option, Some, None, is_some, arith, option_map}
use Rattle.vt_spec.proofs.Common.{Among, IsWorld, Location, Mount, Stands, Task, World, among-filter, among-from_filter, among_from_all, among_from_list_all, chain, chain_ends, chain_goes_on, child_at, common_steps, hop, is_among, is_going, last_of_chain, last_or, mount_at, mount_numbered, none_is_not, number-mount_in, root_of, same_Some, same_location, stands_at, taken_away, topmost}
use Rattle.vt_laws_later_calls.proofs.Common.{AreClosed, IsFoundDirectory, IsOn, KeepsAllButMountPointAndType, chain_ends_at, detached_by_number, found_at_its_place, found_in, found_itself, found_there, is_one_of, kept_by_number, namespace_below, nowhere_parts, numbers_of, place_found, place_kept, placed_among, rank, rank_bounded, rank_child, root_stays, stands_at_its_place, stands_there, topmost_is_free, unfound}
use Rattle.vt_laws_mounts.specs.Mounts.Invariants.{OneNumberEach}
use Rattle.vt_laws_mounts.proofs.mounts.MountsKept.{taking_away_keeps_numbers}

-- Chains that agree end at one place
module _ {A : Type 0} where
  pub stops : (n : ℕ) (next : A → Option A) (a : A) → next a ≡ None → last_or a (chain n next a) ≡ a
  stops zero next a e = refl
  stops (suc n) next a e = cc (chain_ends next n a e)

  goes : (n : ℕ) (next : A → Option A) (a b : A) → next a ≡ Some b
      → last_or a (chain (suc n) next a) ≡ last_or b (chain n next b)
  goes n next a b e = cc (chain_goes_on next n a b e, last_of_chain next n b a)

  pub chains_agree : (f g : A → Option A) (Q : A → Type 0) → ((a : A) → Q a → g a ≡ f a)
      → ((a b : A) → Q a → f a ≡ Some b → Q b)
      → (m n : ℕ) (a : A) → Q a → f (last_or a (chain m f a)) ≡ None → g (last_or a (chain n g a)) ≡ None
      → last_or a (chain n g a) ≡ last_or a (chain m f a)
  chains_agree f g Q same on zero n a q ends ends_too = stops n g a (same a q ∙ ends)
  chains_agree f g Q same on (suc m) n a q ends ends_too =
      by (f a) refl n ends_too (λ k b r h l. chains_agree f g Q same on m k b r h l)
    where
      by : (o : Option A) → f a ≡ o → (n : ℕ) → g (last_or a (chain n g a)) ≡ None
          → ((k : ℕ) (b : A) → Q b → f (last_or b (chain m f b)) ≡ None → g (last_or b (chain k g b)) ≡ None
          → last_or b (chain k g b) ≡ last_or b (chain m f b)) → last_or a (chain n g a) ≡ last_or a (chain (suc m) f a)
      by None e n h rest = stops n g a (same a q ∙ e) ∙ sym (stops (suc m) f a e)
      by (Some b) e zero h rest = none_is_not (g a) b h (same a q ∙ e)
      by (Some b) e (suc k) h rest = goes k g a b (same a q ∙ e) ∙ rest k b (on a b q e) (cc (goes m f a b e))
          (cc (goes k g a b (same a q ∙ e))) ∙ sym (goes m f a b e)

-- Where `..` goes on from
module _ (world : World ℕ) (is : IsWorld nat_eq world) (task : Task ℕ) where
  pub hop_place : (a b : Location ℕ) → hop nat_eq world task a ≡ Some b → (mount_at nat_eq world a).mount_point ≡ Some b
  hop_place a b e = grind (arith, common_steps, none_is_not)

  pub hop_known : (a b : Location ℕ) → IsFoundDirectory world is task a → hop nat_eq world task a ≡ Some b
      → IsFoundDirectory world is task b
  hop_known a b found e = place_found world is task a.mount b found.0 (hop_place a b e)

  pub top_known : (here : Location ℕ) → IsFoundDirectory world is task here
      → IsFoundDirectory world is task (last_or here (chain (length world.mounts) (hop nat_eq world task) here))
  top_known here found = chain_ends_at (IsFoundDirectory world is task) (hop nat_eq world task) hop_known
      (length world.mounts) here here found

  -- hops come to an end
  abbrev deep : ℕ → ℕ
  deep number = rank world is.mounts.one_number is.mounts.standing number

  hops_end_by : (n : ℕ) (here : Location ℕ) → deep here.mount ≤ n
      → hop nat_eq world task (last_or here (chain n (hop nat_eq world task) here)) ≡ None
  hops_end_by zero here less = by (hop nat_eq world task here) refl
    where
      by : (o : Option (Location ℕ)) → hop nat_eq world task here ≡ o → hop nat_eq world task here ≡ None
      by None e = e
      by (Some b) e =
          let child = rank_child world is.mounts.one_number is.mounts.standing here.mount b (hop_place here b e) in
          absurd (omega arith)
  hops_end_by (suc n) here less = by (hop nat_eq world task here) refl (λ b h. hops_end_by n b h)
    where
      by : (o : Option (Location ℕ)) → hop nat_eq world task here ≡ o → ((b : Location ℕ) → deep b.mount ≤ n
          → hop nat_eq world task (last_or b (chain n (hop nat_eq world task) b)) ≡ None)
          → hop nat_eq world task (last_or here (chain (suc n) (hop nat_eq world task) here)) ≡ None
      by None e rest = cc (stops (suc n) (hop nat_eq world task) here e)
      by (Some b) e rest = ap (hop nat_eq world task) (goes n (hop nat_eq world task) here b e) ∙ rest b
          (let child = rank_child world is.mounts.one_number is.mounts.standing here.mount b
          (hop_place here b e) in omega arith)

  pub hops_end : (here : Location ℕ)
      → hop nat_eq world task (last_or here (chain (length world.mounts) (hop nat_eq world task) here)) ≡ None
  hops_end here =
      hops_end_by (length world.mounts) here (rank_bounded world is.mounts.one_number is.mounts.standing here.mount)

-- Mounts that are seen alike
pub record SeenAlike (before after : Mount ℕ) : Type 0 where
  pub filesystem : after.filesystem ≡ before.filesystem
  pub root : after.root ≡ before.root
  pub flags : after.flags ≡ before.flags
  pub mount_point : after.mount_point ≡ before.mount_point

-- What stands somewhere when mounts are taken away with all that stands on them, stood there.
module _ (world : World ℕ) (is : IsWorld nat_eq world) (gone : List ℕ) (closed : AreClosed world gone) where
  pub placed_before : (new : Mount ℕ) (place : Location ℕ) → Among new (taken_away nat_eq world gone).mounts
      → new.mount_point ≡ Some place → (was : Mount ℕ) × Among was world.mounts × (was.mount_point ≡ Some place)
  placed_before new place m e = by (is_going nat_eq gone new.number) refl
    where
      itself : mount_numbered nat_eq (taken_away nat_eq world gone) new.number ≡ new
      itself = found_itself (taken_away nat_eq world gone).mounts
          (taking_away_keeps_numbers world gone is.mounts.one_number) new m

      at : (mount_numbered nat_eq (taken_away nat_eq world gone) new.number).mount_point ≡ Some place
      at = cc itself

      on : is_going nat_eq gone new.number ≡ false → (before : Location ℕ)
          → (mount_numbered nat_eq world new.number).mount_point ≡ Some before
          → (b : Bool) → is_going nat_eq gone before.mount ≡ b
          → (was : Mount ℕ) × Among was world.mounts × (was.mount_point ≡ Some place)
      on keeps before f true g =
          let there = placed_among world.mounts new.number before f in
          cc (number-mount_in world.mounts new.number, closed (mount_numbered nat_eq world new.number) before there f g)
      on keeps before f false g = (
        mount_numbered nat_eq world new.number,
        placed_among world.mounts new.number before f,
        cc (same_Some before place (sym (place_kept world gone new.number before keeps f g) ∙ at)),
      )

      by_place : is_going nat_eq gone new.number ≡ false → (o : Option (Location ℕ))
          → (mount_numbered nat_eq world new.number).mount_point ≡ o
          → (was : Mount ℕ) × Among was world.mounts × (was.mount_point ≡ Some place)
      by_place keeps None f =
          none_is_not (mount_numbered nat_eq (taken_away nat_eq world gone) new.number).mount_point place
          (root_stays world gone new.number f) at
      by_place keeps (Some before) f = on keeps before f (is_going nat_eq gone before.mount) refl

      by : (b : Bool) → is_going nat_eq gone new.number ≡ b
          → (was : Mount ℕ) × Among was world.mounts × (was.mount_point ≡ Some place)
      by true f = none_is_not (mount_numbered nat_eq (taken_away nat_eq world gone) new.number).mount_point place
          (cc (detached_by_number world gone new.number f)) at
      by false f = by_place f (mount_numbered nat_eq world new.number).mount_point refl

module _ {world later : World ℕ} (is : IsWorld nat_eq world) (is_later : IsWorld nat_eq later) (task : Task ℕ)
    (gone : List ℕ) (closed : AreClosed world gone) {lives : Mount ℕ → Bool}
    (living : later.mounts ≡ filter lives (taken_away nat_eq world gone).mounts)
    (attached_live : (mount : Mount ℕ) → is_some mount.namespace ≡ true → lives mount ≡ true)
    (stays : (number : ℕ) → IsOn world is task number → is_going nat_eq gone number ≡ false) where
  abbrev taken : World ℕ
  taken = taken_away nat_eq world gone

  one_taken : OneNumberEach taken
  one_taken = taking_away_keeps_numbers world gone is.mounts.one_number

  abbrev IsListed : ℕ → Type 0
  IsListed number = is_among nat_eq number (numbers_of later.mounts) ≡ true

  from_taken : (mount : Mount ℕ) → Among mount later.mounts → Among mount taken.mounts
  from_taken mount m = (among-from_filter lives taken.mounts mount (rw (← living) m)).0

  later_mount : (number : ℕ) → IsListed number → mount_numbered nat_eq later number ≡ mount_numbered nat_eq taken number
  later_mount number listed = sym (ap (mount_numbered nat_eq taken) (sym (number-mount_in later.mounts number))
      ∙ found_itself taken.mounts one_taken (mount_numbered nat_eq later number)
      (from_taken (mount_numbered nat_eq later number) (found_there later.mounts number listed)))

  -- an own mount that is left is seen as it was
  pub own_mount : (number : ℕ) → IsOn world is task number → IsListed number
      → SeenAlike (mount_numbered nat_eq world number) (mount_numbered nat_eq later number)
  own_mount number own listed = record {
    filesystem = cc (same, kept.filesystem);
    root = cc (same, kept.root);
    flags = cc (same, kept.flags);
    mount_point = cc (same, by (mount_numbered nat_eq world number).mount_point refl);
  }
    where
      same : mount_numbered nat_eq later number ≡ mount_numbered nat_eq taken number
      same = later_mount number listed

      kept : KeepsAllButMountPointAndType (mount_numbered nat_eq world number) (mount_numbered nat_eq taken number)
      kept = kept_by_number world gone number (stays number own)

      by : (o : Option (Location ℕ)) → (mount_numbered nat_eq world number).mount_point ≡ o
          → (mount_numbered nat_eq taken number).mount_point ≡ (mount_numbered nat_eq world number).mount_point
      by None e = root_stays world gone number e ∙ sym e
      by (Some place) e = place_kept world gone number place (stays number own) e
          (stays place.mount (place_found world is task number place own e).0) ∙ sym e

  -- what stands at an own place stands there, and nothing else
  child_own : (place : Location ℕ) → IsOn world is task place.mount → (child : Mount ℕ)
      → child_at nat_eq world.mounts place ≡ Some child → IsOn world is task child.number
  child_own place own child e =
      let found = found_in (stands_at nat_eq place) world.mounts child e in
      let itself = found_itself world.mounts is.mounts.one_number child found.0 in
      let below = namespace_below world child.number place
      (among_from_all (λ (m : Mount ℕ). Stands nat_eq world m.number) world.mounts is.mounts.standing child found.0)
      (cc (itself, stands_there place child found.1)) in (
        is_one_of world.mounts child found.0,
        cc own.1,
      )

  abbrev child_root : World ℕ → Location ℕ → Option (Location ℕ)
  child_root w place = option_map root_of (child_at nat_eq w.mounts place)

  child_there : (place : Location ℕ) → IsOn world is task place.mount → (child : Mount ℕ)
      → child_at nat_eq world.mounts place ≡ Some child → child_root later place ≡ Some (root_of child)
  child_there place own child e =
      let found = found_in (stands_at nat_eq place) world.mounts child e in
      let itself = found_itself world.mounts is.mounts.one_number child found.0 in
      let at = ap (λ (m : Mount ℕ). m.mount_point) itself ∙ stands_there place child found.1 in
      let goes_not = stays child.number (child_own place own child e) in
      let kept = kept_by_number world gone child.number goes_not in
      let new : Mount ℕ = mount_numbered nat_eq taken child.number in
      let new_at = place_kept world gone child.number place goes_not at (stays place.mount own) in
      let attached : is_some child.namespace ≡ true = in_namespace child found.0 (stands_there place child found.1) in
      let still : lives new ≡ true =
      attached_live new (ap is_some (kept.namespace ∙ ap (λ (m : Mount ℕ). m.namespace) itself) ∙ attached) in
      let there : Among new later.mounts = subst (Among new) (sym living)
      (among-filter lives taken.mounts new (placed_among taken.mounts child.number place new_at) still) in
      ap (option_map root_of) (found_at_its_place later.mounts is_later.mounts.one_child new there place new_at)
      ∙ (λ i. Some (record {
        mount = (kept.number ∙ ap (λ (m : Mount ℕ). m.number) itself) i;
        node = (kept.root ∙ ap (λ (m : Mount ℕ). m.root) itself) i;
      }))
    where
      in_namespace : (mount : Mount ℕ) → Among mount world.mounts → mount.mount_point ≡ Some place
          → is_some mount.namespace ≡ true
      in_namespace mount m e = grind (arith, common_steps, true≢false, nowhere_parts, among_from_list_all)

  none_there : (place : Location ℕ) → child_at nat_eq world.mounts place ≡ None → (new : Mount ℕ)
      → child_at nat_eq later.mounts place ≡ Some new → ⊥
  none_there place none new e =
      let found = found_in (stands_at nat_eq place) later.mounts new e in
      let was = placed_before world is gone closed new place (from_taken new found.0)
      (stands_there place new found.1) in
      true≢false
      (sym (stands_at_its_place place was.0 was.2) ∙ unfound (stands_at nat_eq place) world.mounts none was.0 was.1)

  child_same : (place : Location ℕ) → IsOn world is task place.mount → child_root later place ≡ child_root world place
  child_same place own = by (child_at nat_eq world.mounts place) refl
    where
      none : child_at nat_eq world.mounts place ≡ None → (o : Option (Mount ℕ)) → child_at nat_eq later.mounts place ≡ o
          → child_root later place ≡ None
      none e None f = cc
      none e (Some new) f = absurd (none_there place e new f)

      by : (o : Option (Mount ℕ)) → child_at nat_eq world.mounts place ≡ o
          → child_root later place ≡ child_root world place
      by None e = cc (none e (child_at nat_eq later.mounts place) refl)
      by (Some child) e = cc (child_there place own child e)

  free_top : (w : World ℕ) → IsWorld nat_eq w → (place : Location ℕ)
      → child_root w (topmost nat_eq w.mounts place) ≡ None
  free_top w is_w place = cc (topmost_is_free w place is_w.mounts)

  pub topmost_same : (place : Location ℕ) → IsOn world is task place.mount
      → topmost nat_eq later.mounts place ≡ topmost nat_eq world.mounts place
  topmost_same place own = chains_agree (child_root world) (child_root later)
      (λ (here : Location ℕ). IsOn world is task here.mount) child_same own_on
      (length world.mounts) (length later.mounts) place own (free_top world is place) (free_top later is_later place)
    where
      own_on : (a b : Location ℕ) → IsOn world is task a.mount → child_root world a ≡ Some b
          → IsOn world is task b.mount
      own_on a b on e = grind (arith, common_steps, on, none_is_not, same_Some, child_own)

  -- and `..` goes on from where it went on
  module _ (reader : Task ℕ) (roots : reader.root ≡ task.root) where
    abbrev pub BothDirectories : Location ℕ → Type 0
    BothDirectories here = IsFoundDirectory world is task here × IsFoundDirectory later is_later reader here

    hop_same : (here : Location ℕ) → BothDirectories here → hop nat_eq later reader here ≡ hop nat_eq world task here
    hop_same here known =
        let alike = own_mount here.mount known.0.0 known.1.0.0 in
        λ i. cond (same_location nat_eq here (roots i)) None
        (cond (nat_eq here.node (alike.root i)) (alike.mount_point i) None)

    hop_both : (a b : Location ℕ) → BothDirectories a → hop nat_eq world task a ≡ Some b → BothDirectories b
    hop_both a b known e =
        (hop_known world is task a b known.0 e, hop_known later is_later reader a b known.1 (hop_same a known ∙ e))

    pub top_same : (here : Location ℕ) → BothDirectories here
        → last_or here (chain (length later.mounts) (hop nat_eq later reader) here)
        ≡ last_or here (chain (length world.mounts) (hop nat_eq world task) here)
    top_same here known =
        chains_agree (hop nat_eq world task) (hop nat_eq later reader) BothDirectories hop_same hop_both
        (length world.mounts) (length later.mounts) here known (hops_end world is task here)
        (hops_end later is_later reader here)
