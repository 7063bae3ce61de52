-- Where a namespace has the mounts that it had, its mounts lead up and down as they did.
use Rattle.std.proofs.Common.{◌≡◌, refl, sym, ap, subst, ◌∙◌, ◌⊎◌, inl, inr, ⊎_elim, ℕ, zero, suc, pred, nat_eq, Bool, true, cond, true≢false, List, [], ◌∷◌, Option, Some, None, map, find, filter, length, ◌≤◌, arith, option_map}
use Rattle.vt_spec.proofs.Common.{Among, Location, Mount, MountInvariants, Stands, Task, World, among-filter, among-from_filter, among-map, at_root, chain, chain_ends, chain_goes_on, child_at, common_steps, false_from_ne_true, filter_here, filter_skip, found_among, found_or_none, found_passes, holds_of, hops, last_of_chain, last_or, length-map, looks_of, mount_numbered, mounts_of, mounts_over, nat_eq_itself, none_is_some, number-mount_in, on_parent, root_of, same_Some, same_location, stands_at}
use Rattle.vt_laws_turns.proofs.Common.{Way, chains_alike, ends, find_none, goes_on, hop, length-filter_le, namespace_below, stands_there}
use Rattle.vt_laws_mounts.proofs.namespaces.Topmost.{topmost_is_free}
use Rattle.vt_laws_mounts.proofs.namespaces.Unsharing.{itself, placed_inside, stands_itself}

-- what is kept is found as before, if all that may be found is kept
find_where : {A : Type 0} (p q : A → Bool) (xs : List A) → ((x : A) → Among x xs → p x ≡ true → q x ≡ true)
    → find p (filter q xs) ≡ find p xs
find_where p q [] all = refl
find_where p q (x ∷ xs) all =
    grind (arith, common_steps, filter_here, filter_skip, true≢false, find_where p q xs (λ y m. all y (inr m)))

-- what each step of a chain keeps
module _ {A : Type 0} (P : A → Type 0) (next : A → Option A) (step : (a b : A) → P a → next a ≡ Some b → P b) where
  pub chain_each : (n : ℕ) (a : A) → P a → (x : A) → Among x (chain n next a) → P x
  chain_each zero a p x m = ⊎_elim (λ e. subst P (sym e) p) (λ none. absurd none) m
  chain_each (suc n) a p x m = by (next a) refl (λ b q y among. chain_each n b q y among)
    where
      by : (o : Option A) → next a ≡ o → ((b : A) → P b → (y : A) → Among y (chain n next b) → P y) → P x
      by None e later =
          ⊎_elim (λ f. subst P (sym f) p) (λ none. absurd none) (subst (Among x) (chain_ends next n a e) m)
      by (Some b) e later = ⊎_elim (λ f. subst P (sym f) p) (λ rest. later b (step a b p e) x rest)
          (subst (Among x) (chain_goes_on next n a b e) m)

-- a child is in the namespace of its parent
module _ (world : World ℕ) (is : MountInvariants nat_eq world) where
  child_namespace : (mount child : Mount ℕ) (here : Location ℕ) → Among mount world.mounts → mount.number ≡ here.mount
      → Among child world.mounts → stands_at nat_eq here child ≡ true → child.namespace ≡ mount.namespace
  child_namespace mount child here m number there at =
      grind (arith, common_steps, itself, namespace_below, stands_itself, stands_there)

-- Two worlds with the same mounts of a namespace
pub record SameMounts (world later : World ℕ) (namespace : ℕ) : Type 0 where
  pub was : MountInvariants nat_eq world
  pub now : MountInvariants nat_eq later
  pub same : mounts_of nat_eq later namespace ≡ mounts_of nat_eq world namespace

module _ {world later : World ℕ} {namespace : ℕ} (worlds : SameMounts world later namespace) where
  abbrev within : Mount ℕ → Bool
  within mount = holds_of (nat_eq namespace) mount.namespace

  -- a mount of the namespace, or one in none, that is there as it was
  abbrev pub IsOwn : ℕ → Type 0
  IsOwn number = (mount : Mount ℕ) × Among mount world.mounts × Among mount later.mounts × (mount.number ≡ number)
      × ((mount.namespace ≡ Some namespace) ⊎ (mount.namespace ≡ None))

  is_within : (mount : Mount ℕ) → mount.namespace ≡ Some namespace → within mount ≡ true
  is_within mount e = cc (nat_eq_itself namespace)

  pub later_too : (mount : Mount ℕ) → Among mount world.mounts → mount.namespace ≡ Some namespace
      → Among mount later.mounts
  later_too mount m e = (among-from_filter within later.mounts mount
      (subst (Among mount) (sym worlds.same) (among-filter within world.mounts mount m (is_within mount e)))).0

  pub same_mount : (number : ℕ) → IsOwn number → mount_numbered nat_eq later number ≡ mount_numbered nat_eq world number
  same_mount number own = cc (own.3, itself later worlds.now own.0 own.2, itself world worlds.was own.0 own.1)

  -- what stands at a location
  same_child : (here : Location ℕ) → IsOwn here.mount
      → child_at nat_eq later.mounts here ≡ child_at nat_eq world.mounts here
  same_child here (mount, m, n, number, kind) = ⊎_elim
      (λ e. sym (find_where (stands_at nat_eq here) within later.mounts
      (λ c there at. is_within c (below_now c there at ∙ e))) ∙ ap (find (stands_at nat_eq here)) worlds.same
      ∙ find_where (stands_at nat_eq here) within world.mounts (λ c there at. is_within c (below c there at ∙ e)))
      (λ none. find_none (stands_at nat_eq here) later.mounts (λ c there. false_from_ne_true (stands_at nat_eq here c)
      (λ at. placed_inside later worlds.now c there here (stands_there here c at) (below_now c there at ∙ none)))
      ∙ sym (find_none (stands_at nat_eq here) world.mounts (λ c there. false_from_ne_true _
      (λ at. placed_inside world worlds.was c there here (stands_there here c at) (below c there at ∙ none))))) kind
    where
      below : (c : Mount ℕ) → Among c world.mounts → stands_at nat_eq here c ≡ true → c.namespace ≡ mount.namespace
      below c there at = child_namespace world worlds.was mount c here m number there at

      below_now : (c : Mount ℕ) → Among c later.mounts → stands_at nat_eq here c ≡ true
          → c.namespace ≡ mount.namespace
      below_now c there at = child_namespace later worlds.now mount c here n number there at

  child_own : (here : Location ℕ) (child : Mount ℕ) → IsOwn here.mount → child_at nat_eq world.mounts here ≡ Some child
      → IsOwn child.number × Among child (mounts_of nat_eq world namespace)
  child_own here child (mount, m, n, number, kind) e =
      let there = found_among (stands_at nat_eq here) world.mounts child e in
      let at = found_passes (stands_at nat_eq here) world.mounts child e in
      let below = child_namespace world worlds.was mount child here m number there at in
      ⊎_elim (λ f. (
        (child, there, later_too child there (below ∙ f), refl, inl (below ∙ f)),
        among-filter within world.mounts child there (is_within child (below ∙ f)),
      )) (λ none. absurd (placed_inside world worlds.was child there here (stands_there here child at) (cc))) kind

  abbrev up : World ℕ → Location ℕ → Option (Location ℕ)
  up in_world here = option_map root_of (child_at nat_eq in_world.mounts here)

  abbrev key_of : Option (Mount ℕ) → ℕ
  key_of None = 0
  key_of (Some child) = suc child.number

  abbrev key : Location ℕ → ℕ
  key here = key_of (child_at nat_eq world.mounts here)

  abbrev there : List ℕ
  there = map (λ (mount : Mount ℕ). suc mount.number) (mounts_of nat_eq world namespace)

  few : length there ≤ length world.mounts
  few = grind (arith, common_steps, length-map, length-filter_le)

  few_later : length there ≤ length later.mounts
  few_later = grind (arith, common_steps, length-map, length-filter_le)

  by_key : (a b : Location ℕ) → key a ≡ key b → up world a ≡ up world b
  by_key a b e = by (child_at nat_eq world.mounts a) (child_at nat_eq world.mounts b) refl refl e
    where
      by : (o p : Option (Mount ℕ)) → child_at nat_eq world.mounts a ≡ o → child_at nat_eq world.mounts b ≡ p
          → key_of o ≡ key_of p → option_map root_of o ≡ option_map root_of p
      by None None f g e = refl
      by None (Some d) f g e = absurd (omega (arith, e))
      by (Some c) None f g e = absurd (omega (arith, e))
      by (Some c) (Some d) f g e = ap (λ x. Some (root_of x))
          (sym (itself world worlds.was c (found_among _ world.mounts c f))
          ∙ ap (mount_numbered nat_eq world) (ap pred e) ∙ itself world worlds.was d (found_among _ world.mounts d g))

  way : (n : ℕ) (a : Location ℕ) → IsOwn a.mount → up world (last_or a (chain n (up world) a)) ≡ None
      → Way (up world) (up later) key there a
  way zero a own e = ends a e (cc (same_child a own))
  way (suc n) a own e = by (child_at nat_eq world.mounts a) refl (λ b o f. way n b o f)
    where
      by : (o : Option (Mount ℕ)) → child_at nat_eq world.mounts a ≡ o
          → ((b : Location ℕ) → IsOwn b.mount → up world (last_or b (chain n (up world) b)) ≡ None
          → Way (up world) (up later) key there b) → Way (up world) (up later) key there a
      by None f rest =
          let none : up world a ≡ None = ap (option_map root_of) f in
          ends a none (cc (same_child a own))
      by (Some c) f rest =
          let goes : up world a ≡ Some (root_of c) = ap (option_map root_of) f in
          let child = child_own a c own f in
          goes_on a (root_of c) goes (cc (same_child a own, goes)) (subst (λ k. Among k there) (sym (ap key_of f))
          (among-map _ _ c child.1)) (rest (root_of c) child.0 (sym (ap (up world)
          (ap (last_or a) (chain_goes_on (up world) n a _ goes) ∙ last_of_chain (up world) n (root_of c) a)) ∙ e))

  -- the mounts over a location
  pub same_over : (here : Location ℕ) → IsOwn here.mount
      → mounts_over nat_eq later.mounts here ≡ mounts_over nat_eq world.mounts here
  same_over here own = sym (chains_alike (up world) (up later) key there by_key (length world.mounts) _ here
      (way (length world.mounts) here own (ap (option_map root_of) (topmost_is_free world here worlds.was))) few
      few_later)

  pub over_own : (here : Location ℕ) → IsOwn here.mount → (l : Location ℕ)
      → Among l (mounts_over nat_eq world.mounts here) → IsOwn l.mount
  over_own here own = chain_each (λ (l : Location ℕ). IsOwn l.mount) (up world)
      (λ a b at e. by a b at (child_at nat_eq world.mounts a) refl e) (length world.mounts) here own
    where
      by : (a b : Location ℕ) → IsOwn a.mount → (o : Option (Mount ℕ)) → child_at nat_eq world.mounts a ≡ o
          → option_map root_of o ≡ Some b → IsOwn b.mount
      by a b at None f e = none_is_some b e
      by a b at (Some c) f e =
          subst (λ (l : Location ℕ). IsOwn l.mount) (same_Some (root_of c) b e) (child_own a c at f).0

  -- the parent of a mount
  pub parent_own : (number : ℕ) (point : Location ℕ) → IsOwn number
      → (mount_numbered nat_eq world number).mount_point ≡ Some point → IsOwn point.mount × Among (suc number) there
  parent_own number point (mount, m, n, at, kind) e =
      let its : mount_numbered nat_eq world number ≡ mount = cc (at, itself world worlds.was mount m) in
      let placed : mount.mount_point ≡ Some point = cc (its) in
      ⊎_elim (λ f.
      let above : (mount_numbered nat_eq world point.mount).namespace ≡ Some namespace =
      sym (sym (ap (λ (x : Mount ℕ). x.namespace) (itself world worlds.was mount m))
      ∙ namespace_below world mount.number point (stands_itself world worlds.was mount m)
      (ap (λ (x : Mount ℕ). x.mount_point) (itself world worlds.was mount m) ∙ placed)) ∙ f in (
        ⊎_elim (λ found. (
          mount_numbered nat_eq world point.mount,
          found,
          later_too (mount_numbered nat_eq world point.mount) found above,
          number-mount_in world.mounts point.mount,
          inl above,
        )) (λ none. none_is_some namespace (cc)) (found_or_none _ point.mount),
        subst (λ k. Among (suc k) there) at (among-map _ _ mount (among-filter within _ mount m (is_within mount f))),
      )) (λ none. absurd (placed_inside world worlds.was mount m point placed none)) kind

  -- `..` goes on from mount points
  module _ (task : Task ℕ) where
    abbrev pub hop_in : World ℕ → Location ℕ → Option (Location ℕ)
    hop_in in_world = hop nat_eq (looks_of nat_eq in_world) task

    hop_same : (a : Location ℕ) → IsOwn a.mount → hop_in later a ≡ hop_in world a
    hop_same a own = ap (λ (m : Mount ℕ). cond (same_location nat_eq a task.root) None
        (cond (nat_eq a.node m.root) m.mount_point None)) (same_mount a.mount own)

    pub hop_point : (a b : Location ℕ) → hop_in world a ≡ Some b
        → (mount_numbered nat_eq world a.mount).mount_point ≡ Some b
    hop_point a b e = grind (arith, common_steps, none_is_some)

    abbrev hop_key_of : Option (Location ℕ) → ℕ → ℕ
    hop_key_of None number = 0
    hop_key_of (Some b) number = suc number

    abbrev hop_key : Location ℕ → ℕ
    hop_key a = hop_key_of (hop_in world a) a.mount

    by_hop_key : (a c : Location ℕ) → hop_key a ≡ hop_key c → hop_in world a ≡ hop_in world c
    by_hop_key a c e = grind (arith, common_steps, hop_point)

    hop_way : (number : ℕ) → Stands nat_eq world number → (a : Location ℕ) → a.mount ≡ number → IsOwn a.mount
        → Way (hop_in world) (hop_in later) hop_key there a
    hop_way number (at_root it e) a at own = by (hop_in world a) refl
      where
        by : (o : Option (Location ℕ)) → hop_in world a ≡ o → Way (hop_in world) (hop_in later) hop_key there a
        by None f = ends a f (hop_same a own ∙ f)
        by (Some b) f =
            none_is_some b (cc (hop_point a b f))
    hop_way number (on_parent it point e below up_stands) a at own =
        by (hop_in world a) refl (λ b same_point own_b. hop_way point.mount up_stands b same_point own_b)
      where
        by : (o : Option (Location ℕ)) → hop_in world a ≡ o → ((b : Location ℕ) → b.mount ≡ point.mount → IsOwn b.mount
            → Way (hop_in world) (hop_in later) hop_key there b) → Way (hop_in world) (hop_in later) hop_key there a
        by None f rest = ends a f (hop_same a own ∙ f)
        by (Some b) f rest =
            let placed = hop_point a b f in
            let parent = parent_own a.mount b own placed in
            let point_is : point ≡ b =
            same_Some point b (cc (placed)) in
            goes_on a b f (hop_same a own ∙ f)
            (subst (λ k. Among k there) (sym (ap (λ o. hop_key_of o a.mount) f)) parent.1)
            (rest b (ap (λ (l : Location ℕ). l.mount) (sym point_is)) parent.0)

    pub same_hops : (here : Location ℕ) → IsOwn here.mount
        → hops nat_eq (looks_of nat_eq later) task here ≡ hops nat_eq (looks_of nat_eq world) task here
    same_hops here own = sym (chains_alike (hop_in world) (hop_in later) hop_key there by_hop_key (length world.mounts)
        _ here (hop_way own.0.number (stands_itself world worlds.was own.0 own.1) here (sym own.3) own) few few_later)
