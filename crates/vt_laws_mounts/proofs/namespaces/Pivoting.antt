-- A pivot of the root: the new root mount stands where the old one stood, and that one over it.
use Rattle.std.proofs.Common.{◌≡◌, refl, sym, ap, subst, ◌∙◌, true, false, zero, suc, nat_eq, ℕ, Bool, None, Option, Some, arith, cond, eq-eqb, eqb-true, is_some, length, true≢false, ⊎_elim, ◌<◌, ◌⊎◌, if◌then◌else◌}
use Rattle.vt_spec.proofs.Common.{Among, Location, Mount, MountInvariants, Stands, World, all_from_among, among-from_map, among-map, among_from_list_all, and_parts, any_among, any_pair, at_root, chain, chain_ends, chain_goes_on, common_steps, false_from_ne_true, found_or_none, is_nowhere_or_attached, list_all_from_among, mount_at, mount_numbered, number-mount_in, number-pivoted_mount, on_parent, pair-map, pivoted, pivoted_mount, rest_of, root_of, same_Some, share_a_mount_point, stands_at}
use Rattle.vt_laws_mounts.specs.Mounts.Namespaces.{CanPivot, NumberedMountsCanPivot, PivotKeepsMounts}
use Rattle.vt_laws_mounts.proofs.GroupsLiving.{all_live, tested_live}
use Rattle.vt_laws_mounts.proofs.GroupsKept.{pivot_keeps_groups}
use Rattle.vt_laws_mounts.proofs.mounts.MountsFound.{placed_among, unfound}
use Rattle.vt_laws_mounts.proofs.mounts.MountsKept.{pivot_keeps_numbers}
use Rattle.vt_laws_mounts.proofs.mounts.MountsNumbered.{same_number}
use Rattle.vt_laws_mounts.proofs.mounts.MountsPlaces.{one_stander, place_of_both, stands_at_its_place}
use Rattle.vt_laws_mounts.proofs.mounts.MountsReplaced.{found_itself}
use Rattle.vt_laws_mounts.proofs.mounts.Standing.{LiesIn, lies_deeper, rank, rank_child}
use Rattle.vt_laws_mounts.proofs.mounts.Standing.LiesIn.{itself, under}
use Rattle.vt_laws_mounts.proofs.namespaces.Unsharing.{parent_of, stands_itself}

-- what the places below a place are on
module _ (world : World ℕ) where
  abbrev next : Location ℕ → Option (Location ℕ)
  next here = (mount_at nat_eq world here).mount_point

  pub on_chain : (n : ℕ) (here place : Location ℕ) → Among place (chain n next here)
      → LiesIn world place.mount here.mount
  on_chain zero here place m = ⊎_elim
      (λ e. subst (λ (p : Location ℕ). LiesIn world p.mount here.mount) (sym e) (itself here.mount))
      (λ none. absurd none) m
  on_chain (suc n) here place m = by _ refl (on_chain n)
    where
      by : (found : Option (Location ℕ)) → next here ≡ found
          → ((at : Location ℕ) (p : Location ℕ) → Among p (chain n next at) → LiesIn world p.mount at.mount)
          → LiesIn world place.mount here.mount
      by None e later = ⊎_elim
          (λ same. subst (λ (p : Location ℕ). LiesIn world p.mount here.mount) (sym same) (itself here.mount))
          (λ none. absurd none) (subst (Among place) (chain_ends next n here e) m)
      by (Some at) e later = ⊎_elim
          (λ same. subst (λ (p : Location ℕ). LiesIn world p.mount here.mount) (sym same) (itself here.mount))
          (λ l. under place.mount here.mount at e (later at place l))
          (subst (Among place) (chain_goes_on next n here at e) m)

  pub after_start : (n : ℕ) (here place : Location ℕ) → Among place (rest_of (chain n next here))
      → (at : Location ℕ) × (next here ≡ Some at) × LiesIn world place.mount at.mount
  after_start zero here place m = absurd m
  after_start (suc n) here place m = grind (arith, common_steps, chain_ends, on_chain, chain_goes_on)

module _ {world : World ℕ} {namespace : ℕ} {root new : Mount ℕ} {put : Location ℕ}
    (may : CanPivot world namespace root new put) (mounts : MountInvariants nat_eq world) where
  abbrev pub after : World ℕ
  after = pivoted nat_eq world namespace root new put

  abbrev pub move : Mount ℕ → Mount ℕ
  move = pivoted_mount nat_eq root new put

  abbrev level : ℕ → ℕ
  level = rank world mounts.one_number mounts.standing

  pub inside_there : (number : ℕ) → (mount_numbered nat_eq world number).namespace ≡ Some namespace
      → Among (mount_numbered nat_eq world number) world.mounts
  inside_there number e = ⊎_elim (λ m. m) (λ none. absurd cc) (found_or_none _ number)

  pub root_among : Among root world.mounts
  root_among = subst (λ x. Among x world.mounts) may.root_there
      (inside_there _ (ap (λ x. x.namespace) may.root_there ∙ may.root_inside))

  pub new_among : Among new world.mounts
  new_among = subst (λ x. Among x world.mounts) may.new_there
      (inside_there _ (ap (λ x. x.namespace) may.new_there ∙ may.new_inside))

  put_among : Among (mount_at nat_eq world put) world.mounts
  put_among = inside_there _ may.put_inside

  -- the new root mount stands over the old one
  new_stands_over : (at : Location ℕ) × (new.mount_point ≡ Some at) × LiesIn world root.number at.mount
  new_stands_over =
      let one = any_among (λ (place : Location ℕ). nat_eq root.number place.mount)
      (rest_of (chain (length world.mounts) (next world) (root_of new))) may.new_over in
      let t = after_start world (length world.mounts) (root_of new) one.0 one.1 in (
        t.0,
        ap (λ x. x.mount_point) (sym may.new_there) ∙ t.1,
        subst (λ n. LiesIn world n t.0.mount) (sym (eqb-true root.number one.0.mount one.2)) t.2,
      )

  pub new_placed : is_some new.mount_point ≡ true
  new_placed = ap is_some new_stands_over.1

  new_higher : level root.number < level new.number
  new_higher =
      let t = new_stands_over in
      let step = rank_child world mounts.one_number mounts.standing new.number t.0
      (ap (λ x. x.mount_point) may.new_there ∙ t.1) in
      grind (arith, common_steps, lies_deeper)

  put_lies_over : LiesIn world new.number put.mount
  put_lies_over =
      let one = any_among _ (chain (length world.mounts) (next world) put) may.put_over in
      subst (λ n. LiesIn world n put.mount) (sym (eqb-true new.number one.0.mount (and_parts _ _ one.2).0))
      (on_chain world (length world.mounts) put one.0 one.1)

  pub two : nat_eq root.number new.number ≡ false
  two = false_from_ne_true _ (λ same.
      let equal : level root.number ≡ level new.number = ap level (eqb-true root.number new.number same) in
      let more = new_higher in
      absurd (omega (arith, equal, more)))

  -- a mount with the number of one of them is it
  pub is_new : (mount : Mount ℕ) → Among mount world.mounts → nat_eq mount.number new.number ≡ true → mount ≡ new
  is_new mount m e = cc (found_itself _ mounts.one_number mount m, eqb-true mount.number new.number e, may.new_there)

  pub is_root : (mount : Mount ℕ) → Among mount world.mounts → nat_eq mount.number root.number ≡ true → mount ≡ root
  is_root mount m e = cc (found_itself _ mounts.one_number mount m, eqb-true mount.number root.number e, may.root_there)

  -- what becomes of each
  abbrev moved_if : Bool → Bool → Mount ℕ → Mount ℕ
  moved_if first second mount = if first then record mount { mount_point = root.mount_point }
      else if second then record mount { mount_point = Some put } else mount

  pub moved_new : (move new).mount_point ≡ root.mount_point
  moved_new = ap (λ b. (moved_if b (nat_eq new.number root.number) new).mount_point) (eq-eqb new.number new.number refl)

  pub moved_root : (move root).mount_point ≡ Some put
  moved_root = cc (two, eq-eqb root.number root.number refl)

  pub moved_other : (mount : Mount ℕ) → nat_eq mount.number new.number ≡ false
      → nat_eq mount.number root.number ≡ false → move mount ≡ mount
  moved_other mount e f = cc

  pub moved_namespace : (mount : Mount ℕ) → (move mount).namespace ≡ mount.namespace
  moved_namespace mount = grind (arith, common_steps)

  one_after : any_pair (λ (a b : Mount ℕ). nat_eq a.number b.number) after.mounts ≡ false
  one_after = pivot_keeps_numbers world namespace root new put mounts.one_number

  found_after : (mount : Mount ℕ) → Among mount world.mounts → mount_numbered nat_eq after mount.number ≡ move mount
  found_after mount m = ap (mount_numbered nat_eq after) (sym (number-pivoted_mount root new put mount))
      ∙ found_itself _ one_after _ (among-map move _ mount m)

  -- Standing
  stand_on : (mount parent : Mount ℕ) → Among mount world.mounts → Among parent world.mounts → (place : Location ℕ)
      → (move mount).mount_point ≡ Some place → parent.number ≡ place.mount → mount.namespace ≡ parent.namespace
      → Stands nat_eq after parent.number → Stands nat_eq after mount.number
  stand_on mount parent m n place e number inside stands =
      on_parent mount.number place (ap (λ x. x.mount_point) (found_after mount m) ∙ e)
      (ap (λ x. x.namespace) (found_after mount m) ∙ moved_namespace mount ∙ inside ∙ sym (moved_namespace parent)
      ∙ ap (λ x. x.namespace) (sym (found_after parent n)) ∙ ap (λ k. (mount_numbered nat_eq after k).namespace) number)
      (subst (Stands nat_eq after) number stands)

  -- a mount that stays where it is stands where the one below does
  carry : (mount : Mount ℕ) → Among mount world.mounts → nat_eq mount.number new.number ≡ false
      → nat_eq mount.number root.number ≡ false
      → ((place : Location ℕ) → mount.mount_point ≡ Some place → Stands nat_eq after place.mount)
      → Stands nat_eq after mount.number
  carry mount m e f below = by _ refl
    where
      stays : (move mount).mount_point ≡ mount.mount_point
      stays = ap (λ x. x.mount_point) (moved_other mount e f)

      by : (found : Option (Location ℕ)) → mount.mount_point ≡ found → Stands nat_eq after mount.number
      by None g = at_root mount.number (ap (λ x. x.mount_point) (found_after mount m) ∙ stays ∙ g)
      by (Some place) g =
          let parent = parent_of world mounts mount m place g in
          stand_on mount _ m parent.there place (stays ∙ g) parent.number parent.namespace
          (subst (Stands nat_eq after) (sym parent.number) (below place g))

  -- a mount that is found under a number has the place that is found there
  found_place : (number : ℕ) (mount : Mount ℕ) → Among mount world.mounts → mount.number ≡ number
      → (mount_numbered nat_eq world number).mount_point ≡ mount.mount_point
  found_place number mount m same = cc (found_itself _ mounts.one_number mount m)

  no_place : (number : ℕ) (mount : Mount ℕ) → Among mount world.mounts → mount.number ≡ number
      → (mount_numbered nat_eq world number).mount_point ≡ None → (place : Location ℕ) → mount.mount_point ≡ Some place
      → ⊥
  no_place number mount m same e place f =
      true≢false (sym (ap is_some f) ∙ ap is_some (sym (found_place number mount m same)) ∙ ap is_some e)

  -- what is below the old root mount
  below_root : (number : ℕ) → Stands nat_eq world number → (mount : Mount ℕ) → Among mount world.mounts
      → mount.number ≡ number → level number < level root.number → Stands nat_eq after mount.number
  below_root number stands mount m same low = by number stands mount m same low
    where
      other : (mount : Mount ℕ) → level mount.number < level root.number
          → (nat_eq mount.number new.number ≡ false) × (nat_eq mount.number root.number ≡ false)
      other mount low = grind (arith, common_steps, false_from_ne_true, eqb-true, new_higher)

      by : (number : ℕ) → Stands nat_eq world number → (mount : Mount ℕ) → Among mount world.mounts
          → mount.number ≡ number → level number < level root.number → Stands nat_eq after mount.number
      by number (at_root it e) mount m same low =
          let not_these = other mount (subst (λ n. level n < level root.number) (sym same) low) in
          carry mount m not_these.0 not_these.1 (λ place f. absurd (no_place it mount m same e place f))
      by number (on_parent it at e f stands) mount m same low =
          let not_these = other mount (subst (λ n. level n < level root.number) (sym same) low) in
          let step = rank_child world mounts.one_number mounts.standing it at e in
          carry mount m not_these.0 not_these.1 (λ place g.
          let at_is : at ≡ place = same_Some at place (sym e ∙ found_place it mount m same ∙ g) in
          let parent = parent_of world mounts mount m place g in
          subst (Stands nat_eq after) parent.number (by at.mount stands parent.parent parent.there
          (parent.number ∙ ap (λ (p : Location ℕ). p.mount) (sym at_is)) (omega (arith, step, low))))

  -- so the new one stands, where the old one stood,
  new_stands : Stands nat_eq after new.number
  new_stands = by root.mount_point refl
    where
      by : (found : Option (Location ℕ)) → root.mount_point ≡ found → Stands nat_eq after new.number
      by None e = at_root new.number (ap (λ x. x.mount_point) (found_after new new_among) ∙ moved_new ∙ e)
      by (Some place) e =
          let parent = parent_of world mounts root root_among place e in
          let step = rank_child world mounts.one_number mounts.standing root.number place
          (ap (λ x. x.mount_point) may.root_there ∙ e) in
          let level_is : level parent.parent.number ≡ level place.mount = ap level parent.number in
          stand_on new parent.parent new_among parent.there place (moved_new ∙ e) parent.number
          (may.new_inside ∙ sym may.root_inside ∙ parent.namespace)
          (below_root parent.parent.number (stands_itself world mounts parent.parent parent.there) parent.parent
          parent.there refl (omega (arith, step, level_is)))

  -- and what stands over it,
  over_new : (top number : ℕ) → LiesIn world top number → top ≡ new.number → Stands nat_eq after number
  over_new top number (itself it) same = subst (Stands nat_eq after) (sym same) new_stands
  over_new top number (under above it place e way) same = by _ refl (over_new above _ way same)
    where
      mount : Mount ℕ
      mount = mount_numbered nat_eq world it

      number_is : mount.number ≡ it
      number_is = number-mount_in _ it

      higher : level new.number < level it
      higher =
          let step = rank_child world mounts.one_number mounts.standing it place e in
          let new_level : level new.number ≡ level above = ap level (sym same) in
          grind (arith, common_steps, lies_deeper)

      by : (b : Bool) → nat_eq it new.number ≡ b → Stands nat_eq after place.mount → Stands nat_eq after it
      by true f below = subst (Stands nat_eq after) (sym (eqb-true it new.number f)) new_stands
      by false f below = subst (Stands nat_eq after) number_is (carry mount (placed_among _ it place e)
          (ap (λ n. nat_eq n new.number) number_is ∙ f) (false_from_ne_true _ (λ g.
          let equal : level it ≡ level root.number = ap level (sym number_is ∙ eqb-true mount.number root.number g) in
          let more = new_higher in
          let most = higher in
          absurd (omega (arith, equal, more, most))))
          (λ at h. subst (λ (p : Location ℕ). Stands nat_eq after p.mount) (same_Some place at (sym e ∙ h)) below))

  -- and the old one,
  root_stands : Stands nat_eq after root.number
  root_stands =
      let number = number-mount_in _ _ in
      stand_on root _ root_among put_among put moved_root number (may.root_inside ∙ sym may.put_inside)
      (subst (Stands nat_eq after) (sym number) (over_new _ _ put_lies_over refl))

  -- and so all.
  either : (mount : Mount ℕ) → Among mount world.mounts
      → ((place : Location ℕ) → mount.mount_point ≡ Some place → Stands nat_eq after place.mount)
      → Stands nat_eq after mount.number
  either mount m below = grind (arith, common_steps, eqb-true, new_stands, root_stands, carry)

  rise : (number : ℕ) → Stands nat_eq world number → (mount : Mount ℕ) → Among mount world.mounts
      → mount.number ≡ number → Stands nat_eq after mount.number
  rise number (at_root it e) mount m same = either mount m (λ place f. absurd (no_place it mount m same e place f))
  rise number (on_parent it at e f stands) mount m same = either mount m (λ place g.
      let at_is : at ≡ place = same_Some at place (sym e ∙ found_place it mount m same ∙ g) in
      let parent = parent_of world mounts mount m place g in
      subst (Stands nat_eq after) parent.number
      (rise _ stands _ parent.there (parent.number ∙ ap (λ (p : Location ℕ). p.mount) (sym at_is))))

  all_stand_after : (mount : Mount ℕ) → Among mount after.mounts → Stands nat_eq after mount.number
  all_stand_after mount m =
      let from = among-from_map move _ mount m in
      subst (Stands nat_eq after) (sym (ap (λ x. x.number) from.2 ∙ number-pivoted_mount root new put from.0))
      (rise _ (stands_itself world mounts from.0 from.1) from.0 from.1 refl)

  -- Places
  abbrev swapped : ℕ → ℕ
  swapped number = cond (nat_eq number root.number) new.number number

  -- what stands at a place stood there, or was one whose place it took; or it is the old root mount
  came_from : (mount : Mount ℕ) → Among mount world.mounts → (place : Location ℕ)
      → (move mount).mount_point ≡ Some place
      → ((before : Mount ℕ) × Among before world.mounts × (before.mount_point ≡ Some place)
      × (mount.number ≡ swapped before.number)) ⊎ ((mount.number ≡ root.number) × (put ≡ place))
  came_from mount m place e = by _ refl _ refl
    where
      by : (a : Bool) → nat_eq mount.number new.number ≡ a → (b : Bool) → nat_eq mount.number root.number ≡ b
          → ((before : Mount ℕ) × Among before world.mounts × (before.mount_point ≡ Some place)
          × (mount.number ≡ swapped before.number)) ⊎ ((mount.number ≡ root.number) × (put ≡ place))
      by true f b g = grind (arith, common_steps, root_among, is_new, moved_new, eqb-true, eq-eqb)
      by false f true g = grind (arith, common_steps, eqb-true, same_Some, is_root, moved_root)
      by false f false g = grind (arith, common_steps, moved_other)

  two_after : (a b : Mount ℕ) → Among a world.mounts → Among b world.mounts → same_number a b ≡ false
      → share_a_mount_point nat_eq (move a) (move b) ≡ false
  two_after a b m n differ = false_from_ne_true (share_a_mount_point nat_eq (move a) (move b)) (λ together.
      let both = place_of_both (move a) (move b) together in
      let none_at_put : (x : Mount ℕ) → Among x world.mounts → x.mount_point ≡ Some put → ⊥ = λ x k e.
      true≢false (sym (stands_at_its_place put x e) ∙ unfound (stands_at nat_eq put) world.mounts may.put_free x k) in
      let one : a.number ≡ b.number → ⊥ = λ same. true≢false (sym (eq-eqb a.number b.number same) ∙ differ) in
      ⊎_elim (λ s.
      ⊎_elim (λ t.
      one (s.3 ∙ ap (λ (x : Mount ℕ). swapped x.number)
      (one_stander world.mounts mounts.one_child s.0 t.0 s.1 t.1 both.0 s.2 t.2) ∙ sym t.3))
      (λ t. none_at_put s.0 s.1 (s.2 ∙ ap Some (sym t.1))) (came_from b n both.0 both.2)) (λ s. ⊎_elim
      (λ t. none_at_put t.0 t.1 (t.2 ∙ ap Some (sym s.1))) (λ t. one (s.0 ∙ sym t.0)) (came_from b n both.0 both.2))
      (came_from a m both.0 both.1))

  one_child_after : any_pair (share_a_mount_point nat_eq) after.mounts ≡ false
  one_child_after = pair-map _ _ move _ two_after mounts.one_number

  -- Mounts outside every namespace are not moved
  nowhere_after : (mount : Mount ℕ) → Among mount world.mounts → is_nowhere_or_attached (move mount) ≡ true
  nowhere_after mount m =
      grind (arith, common_steps, true≢false, moved_namespace, moved_other, is_new, is_root, among_from_list_all)

pub pivot_keeps_mounts : PivotKeepsMounts
pivot_keeps_mounts world namespace root new put may mounts =
    let later = pivoted nat_eq world namespace root new put in
    record {
      one_number = pivot_keeps_numbers world namespace root new put mounts.one_number;
      one_child = one_child_after may mounts;
      standing = all_from_among (λ (mount : Mount ℕ). Stands nat_eq later mount.number) later.mounts
          (all_stand_after may mounts);
      nowhere = list_all_from_among is_nowhere_or_attached later.mounts (λ mount m.
          let from = among-from_map (pivoted_mount nat_eq root new put) world.mounts mount m in
          ap is_nowhere_or_attached from.2 ∙ nowhere_after may mounts from.0 from.1);
      groups = all_live later (pivot_keeps_groups world namespace root new put (tested_live world mounts.groups));
    }

pub numbered_mounts_can_pivot : NumberedMountsCanPivot
numbered_mounts_can_pivot world namespace root new put root_inside new_inside put_inside node_is over put_under free =
    grind (arith, common_steps, number-mount_in world.mounts root, number-mount_in world.mounts new.mount)
