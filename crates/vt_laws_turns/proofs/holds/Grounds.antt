-- Where a task gets: to mounts of its namespace, or where it stands. These show what it sees.
use Rattle.std.proofs.Common.{arith, ◌≡◌, refl, sym, ap, subst, ◌∙◌, inl, inr, ⊎_elim, ℕ, nat_eq, Bool, true, false, List, [], ◌∷◌, ◌++◌, ◌||◌, Option, Some, None, Ok, Err, Result, flat_map, length, option_map, option_to_list}
use Rattle.vt_spec.proofs.Common.{Among, Dot, DotDot, IsWorld, LastWord, Location, Looks, Mount, Named, NoWord, Task, World, among-append, among-filter, among-from_map, and_then, any_from_among, child_at, common_steps, entered_upward, entry_location, filesystems_of, found_among, holds_of, hops, last_or, list_any, looks_of, met_at, met_by, mount_at, mount_numbered, mounts_of, nat_eq_itself, object_named, root_of, same_Some, stepped, task_called}
use Rattle.vt_laws_turns.proofs.Common.{Deny, IsGround, child_ground, entry_ground, hop, hop_ground, own_there, step_ground}
use Rattle.vt_laws_turns.proofs.walks.alike.StepsAlike.{chain_start, last_among}
use Rattle.vt_laws_turns.proofs.walks.alike.MountsAlike.{chain_each}
use Rattle.vt_laws_turns.specs.Holds.Held.{is_seen_by}

module _ (world : World ℕ) (is : IsWorld nat_eq world) (task : Task ℕ)
    (called : task_called world task.name ≡ Some task) where
  abbrev pub looks : Looks ℕ
  looks = looks_of nat_eq world

  -- the task is there
  pub there : Among task world.tasks
  there = found_among _ world.tasks task called

  abbrev pub OnGround : Location ℕ → Type 0
  OnGround location = IsGround world is task there location.mount

  abbrev pub Seen : ℕ → Type 0
  Seen filesystem = is_seen_by world task filesystem ≡ true

  -- what is shown there is seen
  pub shown_seen : (number : ℕ) → IsGround world is task there number
      → Seen (mount_numbered nat_eq world number).filesystem
  shown_seen number (inl own) =
      let mount : Mount ℕ = mount_numbered nat_eq world number in
      let own_one : holds_of (nat_eq task.namespace) mount.namespace ≡ true =
      cc (own, nat_eq_itself task.namespace) in
      let there : list_any (λ (m : Mount ℕ). nat_eq mount.filesystem m.filesystem)
      (mounts_of nat_eq world task.namespace) ≡ true =
      any_from_among (λ (m : Mount ℕ). nat_eq mount.filesystem m.filesystem) (mounts_of nat_eq world task.namespace)
      mount (among-filter (λ (m : Mount ℕ). holds_of (nat_eq task.namespace) m.namespace) world.mounts mount
      (own_there world is task there number own) own_one) (nat_eq_itself mount.filesystem) in
      ap (λ b. b || nat_eq mount.filesystem (mount_at nat_eq world task.root).filesystem
      || nat_eq mount.filesystem (mount_at nat_eq world task.directory).filesystem) there
  shown_seen number (inr (none, inl root)) =
      let f : ℕ = (mount_numbered nat_eq world number).filesystem in
      let same : nat_eq f (mount_at nat_eq world task.root).filesystem ≡ true =
      cc (root, nat_eq_itself f) in
      by (list_any (λ (m : Mount ℕ). nat_eq f m.filesystem) (mounts_of nat_eq world task.namespace))
      (nat_eq f (mount_at nat_eq world task.root).filesystem)
      (nat_eq f (mount_at nat_eq world task.directory).filesystem) same
    where
      by : (a b c : Bool) → b ≡ true → (a || b || c) ≡ true
      by true b c e = refl
      by false b c e = ap (λ x. x || c) e
  shown_seen number (inr (none, inr directory)) =
      let f : ℕ = (mount_numbered nat_eq world number).filesystem in
      let same : nat_eq f (mount_at nat_eq world task.directory).filesystem ≡ true =
      cc (directory, nat_eq_itself f) in
      by (list_any (λ (m : Mount ℕ). nat_eq f m.filesystem) (mounts_of nat_eq world task.namespace)
      || nat_eq f (mount_at nat_eq world task.root).filesystem)
      (nat_eq f (mount_at nat_eq world task.directory).filesystem) same
    where
      by : (a b : Bool) → b ≡ true → (a || b) ≡ true
      by true b e = refl
      by false b e = e

  -- the mounts over a location are on its ground
  pub over_ground : (here : Location ℕ) → OnGround here → (l : Location ℕ) → Among l (looks.mounts_over here)
      → OnGround l
  over_ground here ground l m =
      chain_each OnGround (λ at. option_map root_of (child_at nat_eq world.mounts at))
      (child_ground world is task there)
      (length world.mounts) here ground l m

  hops_ground : (here : Location ℕ) → OnGround here → (l : Location ℕ) → Among l (hops nat_eq looks task here)
      → OnGround l
  hops_ground here ground l m =
      chain_each OnGround (hop nat_eq looks task) (hop_ground world is task there) (length world.mounts) here ground l m

  abbrev top_of : Location ℕ → Location ℕ
  top_of here = last_or here (hops nat_eq looks task here)

  top_ground : (here : Location ℕ) → OnGround here → OnGround (top_of here)
  top_ground here ground = hops_ground here ground (top_of here)
      (last_among (hops nat_eq looks task here) here (chain_start _ (length world.mounts) here))

  -- What is met

  pub shown_on : (list : List (Location ℕ)) → ((l : Location ℕ) → Among l list → OnGround l) → (f : ℕ)
      → Among f (filesystems_of nat_eq looks list) → Seen f
  shown_on list ground f m =
      let from = among-from_map (λ (l : Location ℕ). (mount_at nat_eq world l).filesystem) list f m in
      subst Seen (sym from.2) (shown_seen from.0.mount (ground from.0 from.1))

  one_ground : (here : Location ℕ) → OnGround here → (l : Location ℕ) → Among l (here ∷ []) → OnGround l
  one_ground here ground l m = ⊎_elim (λ e. subst OnGround (sym e) ground) (λ none. absurd none) m

  pub object_ground : (o : Option (Location ℕ)) → ((l : Location ℕ) → o ≡ Some l → OnGround l) → (l : Location ℕ)
      → Among l (flat_map looks.mounts_over (option_to_list o)) → OnGround l
  object_ground None ground l m = absurd m
  object_ground (Some object) ground l m =
      ⊎_elim (λ n. over_ground object (ground object refl) l n) (λ none. absurd none)
      (among-append (looks.mounts_over object) [] l m)

  upward_ground : (top : Location ℕ) → OnGround top → (l : Location ℕ)
      → Among l (entered_upward nat_eq looks task top) → OnGround l
  upward_ground top ground l m = search (arith, common_steps, over_ground)

  -- each filesystem that a step meets is seen
  pub met_seen : (here : Location ℕ) (word : LastWord) → OnGround here → (f : ℕ)
      → Among f (met_by nat_eq looks task here word) → Seen f
  met_seen here NoWord ground = shown_on (here ∷ []) (one_ground here ground)
  met_seen here Dot ground = shown_on (here ∷ []) (one_ground here ground)
  met_seen here (Named name) ground =
      shown_on (here ∷ flat_map looks.mounts_over (option_to_list (entry_location nat_eq looks here name)))
      (λ l m. ⊎_elim (λ e. subst OnGround (sym e) ground)
      (λ n. object_ground (entry_location nat_eq looks here name) (entry_ground world is task there here name ground)
      l n) m)
  met_seen here DotDot ground = shown_on (hops nat_eq looks task here ++ entered_upward nat_eq looks task (top_of here))
      (λ l m. ⊎_elim (λ n. hops_ground here ground l n) (λ n. upward_ground (top_of here) (top_ground here ground) l n)
      (among-append (hops nat_eq looks task here) (entered_upward nat_eq looks task (top_of here)) l m))

  pub met_at_seen : (here : Location ℕ) (word : LastWord) → OnGround here → (f : ℕ)
      → Among f (met_at nat_eq looks task here word) → Seen f
  met_at_seen here NoWord ground = met_seen here NoWord ground
  met_at_seen here Dot ground = met_seen here Dot ground
  met_at_seen here DotDot ground = met_seen here DotDot ground
  met_at_seen here (Named name) ground = shown_on (here ∷ []) (one_ground here ground)

  -- the object of a last word
  pub named_ground : (here : Location ℕ) (word : LastWord) → OnGround here → (o : Option (Location ℕ))
      → object_named nat_eq looks task here word ≡ Ok o → (l : Location ℕ) → o ≡ Some l → OnGround l
  named_ground here NoWord ground o e l f =
      let same : Some here ≡ o = cc in subst OnGround (same_Some here l (same ∙ f)) ground
  named_ground here Dot ground o e l f =
      let same : Some here ≡ o = cc in subst OnGround (same_Some here l (same ∙ f)) ground
  named_ground here (Named name) ground o e l f =
      let same : entry_location nat_eq looks here name ≡ o = cc in
      entry_ground world is task there here name ground l (same ∙ f)
  named_ground here DotDot ground o e l f = by (stepped nat_eq looks task here DotDot) refl e
    where
      by : (r : Result (Location ℕ) Deny) → stepped nat_eq looks task here DotDot ≡ r
          → and_then r (λ parent. Ok (Some parent)) ≡ Ok o → OnGround l
      by (Ok parent) g h =
          let same : Some parent ≡ o = cc in
          subst OnGround (same_Some parent l (same ∙ f)) (step_ground world is task there here parent DotDot ground g)
      by (Err deny) g h = refused h
        where
          refused : Path (Result (Option (Location ℕ)) Deny) (Err deny) (Ok o) → OnGround l
          refused k = absurd cc
