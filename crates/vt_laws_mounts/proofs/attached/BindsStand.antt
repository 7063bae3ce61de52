-- Binds, new mounts and moves: each mount goes on standing, with a number of its own.
use Rattle.std.proofs.Common.{arith, ◌≡◌, refl, sym, ap, subst, true, false, nat_eq, ℕ, Bool, List, [], eq-eqb, eqb-true, filter, flat_map, inl, inr, length, suc, true≢false, zero, ⊎_elim, ◌∷◌, ◌⊎◌}
use Rattle.vt_spec.proofs.Common.{Among, Filesystem, Location, Mount, Stands, World, all_from_among, among-flat_map, among-from_filter, among-from_flat_map, among_from_all, at_root, bind_tree, bindable_children, bindable_tree, bound, children, common_steps, moved_tree, new_mount, number-mount_in, on_parent, parts_of, stands_under, with_new_filesystem, Fresh, Serves, MountFlags}
use Rattle.vt_laws_mounts.specs.Mounts.Invariants.{OneNumberEach, NowhereOrAttached}
use Rattle.vt_laws_mounts.specs.Mounts.Standing.{AllStand, BindsKeepNumbers, BindsKeepMountPoints, BindsKeepStanding, MovesKeepNumbers, NewMountsKeepNumbers, NewMountsKeepMountPoints, NewMountsKeepStanding}
use Rattle.vt_laws_mounts.proofs.attached.Attaching.{Hangs}
use Rattle.vt_laws_mounts.proofs.attached.Attaching.Hangs.{from_parent, from_top}
use Rattle.vt_laws_mounts.proofs.attached.GraftedPlaces.{two_of}
use Rattle.vt_laws_mounts.proofs.attached.TreesCopied.{CanCopy, copied_apart, copied_stand}
use Rattle.vt_laws_mounts.proofs.mounts.MountsAttached.{supplied}
use Rattle.vt_laws_mounts.proofs.mounts.MountsNumbered.{attach_keeps_numbers, supplies_serve_as_copies}
use Rattle.vt_laws_mounts.proofs.mounts.Standing.{bindable_child, binds_take_each_once, trees_have_each_once}
use Rattle.vt_laws_mounts.specs.Mounts.Attaching.{is_mount}

-- What a bind takes hangs together
module _ (world : World ℕ) (whole : List (Mount ℕ)) where
  -- a child of what hangs
  pub child_hangs : (number : ℕ) (child : Mount ℕ) → Among child (children nat_eq world.mounts number)
      → Among child whole → Hangs whole number → Hangs whole child.number
  child_hangs number child m there hung =
      grind (arith, common_steps, among-from_filter, true≢false, from_parent, eqb-true)

  first_of_tree : (fuel : ℕ) (mount : Mount ℕ) → Among mount (bindable_tree nat_eq fuel world.mounts mount)
  first_of_tree zero mount = inl refl
  first_of_tree (suc fuel) mount = inl refl

  tree_hangs : (fuel : ℕ) (mount : Mount ℕ) → Hangs whole mount.number
      → ((x : Mount ℕ) → Among x (bindable_tree nat_eq fuel world.mounts mount) → Among x whole)
      → (x : Mount ℕ) → Among x (bindable_tree nat_eq fuel world.mounts mount) → Hangs whole x.number
  tree_hangs zero mount hung all x m =
      ⊎_elim (λ e. subst (λ (y : Mount ℕ). Hangs whole y.number) (sym e) hung) (λ none. absurd none) m
  tree_hangs (suc fuel) mount hung all x m = ⊎_elim (λ e. subst (λ (y : Mount ℕ). Hangs whole y.number) (sym e) hung)
      (λ later.
      let below = bindable_children nat_eq world.mounts mount.number in
      let from = among-from_flat_map _ below x later in
      let within : (y : Mount ℕ) → Among y (bindable_tree nat_eq fuel world.mounts from.0) → Among y whole =
      λ y n. all y (inr (among-flat_map _ below from.0 y from.1 n)) in
      tree_hangs fuel from.0 (child_hangs _ from.0 (bindable_child world _ from.0 from.1)
      (within from.0 (first_of_tree fuel from.0)) hung) within x from.2) m

one_hangs : (mount x : Mount ℕ) → Among x (mount ∷ []) → Hangs (mount ∷ []) x.number
one_hangs mount x m = ⊎_elim
    (λ e. subst (λ (y : Mount ℕ). Hangs (mount ∷ []) y.number) (sym e) (from_top mount [] refl)) (λ none. absurd none) m

bind_hangs : (world : World ℕ) (source : Location ℕ) (recursive : Bool) (x : Mount ℕ)
    → Among x (bind_tree nat_eq world source recursive) → Hangs (bind_tree nat_eq world source recursive) x.number
bind_hangs world source false x m = one_hangs _ x m
bind_hangs world source true x m =
    let whole = bind_tree nat_eq world source true in
    let fuel = length world.mounts in
    let under = bindable_children nat_eq world.mounts source.mount in
    let chosen = filter (stands_under nat_eq world source) under in
    let top : Hangs whole (bound nat_eq world source).number =
    from_top (bound nat_eq world source) (flat_map (bindable_tree nat_eq fuel world.mounts) chosen) refl in
    let at_source : Hangs whole source.mount = subst (Hangs whole) (number-mount_in _ _) top in
    ⊎_elim (λ e. subst (λ (y : Mount ℕ). Hangs whole y.number) (sym e) top) (λ later.
    let from = among-from_flat_map _ chosen x later in
    let child = (among-from_filter _ under from.0 from.1).0 in
    let within : (y : Mount ℕ) → Among y (bindable_tree nat_eq fuel world.mounts from.0) → Among y whole =
    λ y n. inr (among-flat_map _ chosen from.0 y from.1 n) in
    tree_hangs world whole fuel from.0 (child_hangs world whole _ from.0 (bindable_child world _ from.0 child)
    (within from.0 (first_of_tree world whole fuel from.0)) at_source) within x from.2) m

bind_top : (world : World ℕ) (source : Location ℕ) (recursive : Bool)
    → (rest : List (Mount ℕ)) × (bind_tree nat_eq world source recursive ≡ bound nat_eq world source ∷ rest)
bind_top world source false = ([], refl)
bind_top world source true = (
  flat_map (bindable_tree nat_eq (length world.mounts) world.mounts)
      (filter (stands_under nat_eq world source) (bindable_children nat_eq world.mounts source.mount)),
  refl,
)

bind_can_copy : (world : World ℕ) (fresh : Fresh ℕ) (source place : Location ℕ) (recursive : Bool)
    → Serves nat_eq world fresh → OneNumberEach world → NowhereOrAttached world → AllStand world
    → is_mount world place.mount ≡ true → CanCopy world
    (supplied world fresh place (bind_tree nat_eq world source recursive)) place
    (bind_tree nat_eq world source recursive)
bind_can_copy world fresh source place recursive serves one nowhere all there = record {
  serve = supplies_serve_as_copies world fresh (parts_of nat_eq world place) (bind_tree nat_eq world source recursive)
      serves;
  own = binds_take_each_once world source recursive one all;
  top = bound nat_eq world source;
  rest = (bind_top world source recursive).0;
  is_tree = (bind_top world source recursive).1;
  hangs = bind_hangs world source recursive;
  one = one;
  nowhere = nowhere;
  stand = all;
  there = there;
}

pub binds_keep_standing : BindsKeepStanding
binds_keep_standing world fresh source place recursive serves one nowhere all there =
    copied_stand (bind_can_copy world fresh source place recursive serves one nowhere all there)

pub binds_keep_numbers : BindsKeepNumbers
binds_keep_numbers world fresh source place recursive serves one all =
    attach_keeps_numbers world fresh place false (bind_tree nat_eq world source recursive) serves
    (binds_take_each_once world source recursive one all) one

pub moves_keep_numbers : MovesKeepNumbers
moves_keep_numbers world fresh source place serves one all =
    attach_keeps_numbers world fresh place true (moved_tree nat_eq world source.mount) serves
    (trees_have_each_once world source.mount one all) one

-- A new mount
stands_with_filesystem : (world : World ℕ) (filesystem : Filesystem ℕ) (number : ℕ) → Stands nat_eq world number
    → Stands nat_eq (with_new_filesystem world filesystem) number
stands_with_filesystem world filesystem number (at_root it e) = at_root it e
stands_with_filesystem world filesystem number (on_parent it place e f stands) =
    on_parent it place e f (stands_with_filesystem world _ _ stands)

all_stand_with_filesystem : (world : World ℕ) (filesystem : Filesystem ℕ) → AllStand world
    → AllStand (with_new_filesystem world filesystem)
all_stand_with_filesystem world filesystem all =
    let larger = with_new_filesystem world filesystem in
    grind (arith, common_steps, all_from_among, stands_with_filesystem, among_from_all)

new_mount_can_copy : (world : World ℕ) (fresh : Fresh ℕ) (place : Location ℕ) (filesystem : Filesystem ℕ)
    (flags : MountFlags) → Serves nat_eq (with_new_filesystem world filesystem) fresh → OneNumberEach world
    → NowhereOrAttached world → AllStand world → is_mount world place.mount ≡ true
    → CanCopy (with_new_filesystem world filesystem) (supplied (with_new_filesystem world filesystem) fresh place
    (new_mount filesystem.number filesystem.files.tree.root flags ∷ [])) place
    (new_mount filesystem.number filesystem.files.tree.root flags ∷ [])
new_mount_can_copy world fresh place filesystem flags serves one nowhere all there =
    let larger = with_new_filesystem world filesystem in
    let mount = new_mount filesystem.number filesystem.files.tree.root flags in
    record {
      serve = supplies_serve_as_copies larger fresh (parts_of nat_eq larger place) (mount ∷ []) serves;
      own = refl;
      top = mount;
      rest = [];
      is_tree = refl;
      hangs = one_hangs mount;
      one = one;
      nowhere = nowhere;
      stand = all_stand_with_filesystem world filesystem all;
      there = there;
    }

pub new_mounts_keep_standing : NewMountsKeepStanding
new_mounts_keep_standing world fresh place filesystem flags serves one nowhere all there =
    copied_stand (new_mount_can_copy world fresh place filesystem flags serves one nowhere all there)

pub new_mounts_keep_numbers : NewMountsKeepNumbers
new_mounts_keep_numbers world fresh place filesystem flags serves one =
    attach_keeps_numbers (with_new_filesystem world filesystem) fresh place false
    (new_mount filesystem.number filesystem.files.tree.root flags ∷ []) serves refl one

-- What a bind takes but for its top are mounts of the world
bindable_there : (world : World ℕ) (fuel : ℕ) (mount x : Mount ℕ)
    → Among x (bindable_tree nat_eq fuel world.mounts mount) → (x ≡ mount) ⊎ Among x world.mounts
bindable_there world zero mount x m = ⊎_elim inl (λ none. absurd none) m
bindable_there world (suc fuel) mount x m = ⊎_elim inl (λ later.
    let from = among-from_flat_map _ _ x later in
    let child = bindable_child world _ from.0 from.1 in
    let there = (among-from_filter _ _ from.0 child).0 in
    inr (⊎_elim (λ e. subst (λ y. Among y world.mounts) (sym e) there) (λ l. l)
    (bindable_there world fuel from.0 x from.2))) m

not_itself : (a b : Mount ℕ) → nat_eq a.number b.number ≡ false → a ≡ b → ⊥
not_itself a b differ e = cc (eq-eqb a.number b.number (ap (λ (y : Mount ℕ). y.number) e))

-- what a bind takes is a mount of the world, or the one at the source
pub bind_there_or_source : (world : World ℕ) (source : Location ℕ) (recursive : Bool) (origin : Mount ℕ)
    → Among origin (bind_tree nat_eq world source recursive)
    → (origin ≡ bound nat_eq world source) ⊎ Among origin world.mounts
bind_there_or_source world source false origin m = ⊎_elim inl (λ none. absurd none) m
bind_there_or_source world source true origin m = ⊎_elim inl (λ later.
    let under = bindable_children nat_eq world.mounts source.mount in
    let from = among-from_flat_map _ _ origin later in
    let child = (among-from_filter _ under from.0 from.1).0 in
    let kept = bindable_child world _ from.0 child in
    let there = (among-from_filter _ _ from.0 kept).0 in
    inr (⊎_elim (λ e. subst (λ y. Among y world.mounts) (sym e) there) (λ l. l)
    (bindable_there world _ from.0 origin from.2))) m

bind_there : (world : World ℕ) (source : Location ℕ) (recursive : Bool) (x : Mount ℕ)
    → Among x (bind_tree nat_eq world source recursive)
    → nat_eq x.number (bound nat_eq world source).number ≡ false → Among x world.mounts
bind_there world source recursive x m differ = ⊎_elim (λ e. absurd (not_itself x _ differ e))
    (λ l. l) (bind_there_or_source world source _ x m)

pub binds_keep_places : BindsKeepMountPoints
unfolding bind_can_copy
binds_keep_places world fresh source place recursive serves one nowhere all there free places =
    copied_apart (bind_can_copy world fresh source place recursive serves one nowhere all there)
    (λ a b m n not_top nor_top. two_of _ places a b (bind_there world source _ a m not_top)
    (bind_there world source _ b n nor_top)) places free

pub new_mounts_keep_places : NewMountsKeepMountPoints
unfolding new_mount_can_copy
new_mounts_keep_places world fresh place filesystem flags serves one nowhere all there free places =
    copied_apart (new_mount_can_copy world fresh place filesystem flags serves one nowhere all there)
    (λ a b m n not_top nor_top differ. ⊎_elim (λ e. absurd (not_itself a _ not_top e)) (λ none. absurd none) m)
    places free
