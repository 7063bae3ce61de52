-- Where a task gets: to mounts of its namespace, or where it stands.
use Rattle.std.proofs.Common.{arith, ◌≡◌, refl, sym, ap, subst, ◌∙◌, ◌⊎◌, inl, inr, ⊎_elim, ℕ, nat_eq, true, List, Option, Some, None, Ok, Err, Result, length, eqb-true, ok_or, option_map}
use Rattle.vt_spec.proofs.Common.{Among, Dot, DotDot, IsWorld, LastWord, Location, Mount, Named, NoWord, Stands, Task, World, among_from_all, among_from_list_all, and_parts, child_at, common_steps, denial, entry_location, found_among, found_or_none, found_passes, is_directory_seen_in, last_word, looks_of, mount_at, mount_numbered, none_is_some, number-mount_in, root_of, same_Some, stands_at, start_of, stepped, topmost, up_from}
use Rattle.vt_spec.specs.declared.errors.Deny.{Deny}
use Rattle.vt_spec.specs.declared.errors.Rule.TheVariants.{W6}
use Rattle.vt_spec.specs.Machine.Walking.{hop}
use Rattle.vt_laws_mounts.proofs.namespaces.Unsharing.{placed_inside}
use Rattle.vt_laws_trees.proofs.trees.TreesEntered.{chain_ends_at}
use Rattle.vt_laws_mounts.proofs.mounts.MountsPlaces.{stands_there}
use Rattle.vt_laws_mounts.proofs.mounts.MountsReplaced.{found_itself}
use Rattle.vt_laws_worlds.proofs.worlds.Reached.{namespace_below}
use Rattle.vt_laws_trees.specs.Calls.Searched.{IsSearchedTo, Way}
use Rattle.vt_laws_trees.specs.Calls.Searched.Way.{arrives, follows, goes_on}

module _ (world : World ℕ) (is : IsWorld nat_eq world) (task : Task ℕ) (there : Among task world.tasks) where
  -- a mount of the task's namespace, or a detached one that its root or working directory is on
  abbrev pub IsGround : ℕ → Type 0
  IsGround number = ((mount_numbered nat_eq world number).namespace ≡ Some task.namespace)
      ⊎ (((mount_numbered nat_eq world number).namespace ≡ None)
      × ((number ≡ task.root.mount) ⊎ (number ≡ task.directory.mount)))

  abbrev pub OnGround : Location ℕ → Type 0
  OnGround location = IsGround location.mount

  seen : (location : Location ℕ) → is_directory_seen_in nat_eq world task.namespace location ≡ true
      → ((mount_at nat_eq world location).namespace ≡ Some task.namespace)
      ⊎ ((mount_at nat_eq world location).namespace ≡ None)
  seen location h = grind (arith, common_steps, and_parts, eqb-true)

  stood : (is_directory_seen_in nat_eq world task.namespace task.root ≡ true)
      × (is_directory_seen_in nat_eq world task.namespace task.directory ≡ true)
  stood = and_parts (is_directory_seen_in nat_eq world task.namespace task.root)
      (is_directory_seen_in nat_eq world task.namespace task.directory)
      (among_from_list_all _ _ is.tasks.directories task there)

  pub root_ground : OnGround task.root
  root_ground = ⊎_elim inl (λ none. inr (none, inl refl)) (seen _ stood.0)

  pub directory_ground : OnGround task.directory
  directory_ground = ⊎_elim inl (λ none. inr (none, inr refl)) (seen _ stood.1)

  pub start_ground : (directory : Location ℕ) (text : List ℕ) → OnGround directory
      → OnGround (start_of task directory text)
  start_ground directory text ground = grind (arith, common_steps, root_ground)

  pub own_there : (number : ℕ) → (mount_numbered nat_eq world number).namespace ≡ Some task.namespace
      → Among (mount_numbered nat_eq world number) world.mounts
  own_there number own = ⊎_elim (λ m. m)
      (λ missing. none_is_some task.namespace (sym (ap (λ (x : Mount ℕ). x.namespace) missing) ∙ own))
      (found_or_none world.mounts number)

  -- a child is on the same ground
  pub child_ground : (a b : Location ℕ) → OnGround a → option_map root_of (child_at nat_eq world.mounts a) ≡ Some b
      → OnGround b
  child_ground a b ground e = by (child_at nat_eq world.mounts a) refl e
    where
      by : (o : Option (Mount ℕ)) → child_at nat_eq world.mounts a ≡ o → option_map root_of o ≡ Some b → OnGround b
      by None f h = none_is_some b h
      by (Some child) f h =
          let m = found_among (stands_at nat_eq a) world.mounts child f in
          let itself = found_itself world.mounts is.mounts.one_number child m in
          let point = stands_there a child (found_passes (stands_at nat_eq a) world.mounts child f) in
          let same = namespace_below world child.number a
          (among_from_all (λ (x : Mount ℕ). Stands nat_eq world x.number) world.mounts is.mounts.standing child m)
          (ap (λ (x : Mount ℕ). x.mount_point) itself ∙ point) in
          subst OnGround (same_Some (root_of child) b h) (⊎_elim (λ own. inl (same ∙ own))
          (λ none. absurd (placed_inside world is.mounts child m a point
          (ap (λ (x : Mount ℕ). x.namespace) (sym itself) ∙ same ∙ none.0))) ground)

  pub topmost_ground : (location : Location ℕ) → OnGround location → OnGround (topmost nat_eq world.mounts location)
  topmost_ground location ground = chain_ends_at _ _ child_ground (length world.mounts) location _ ground

  -- so is a parent
  pub parent_ground : (number : ℕ) (point : Location ℕ) → IsGround number
      → (mount_numbered nat_eq world number).mount_point ≡ Some point → OnGround point
  parent_ground number point ground e = ⊎_elim (λ own.
      let m = own_there number own in
      inl (sym (namespace_below world number point (subst (Stands nat_eq world) (number-mount_in world.mounts number)
      (among_from_all (λ (x : Mount ℕ). Stands nat_eq world x.number) world.mounts is.mounts.standing
      (mount_numbered nat_eq world number) m)) e) ∙ own)) (λ none. ⊎_elim
      (λ m. absurd (placed_inside world is.mounts (mount_numbered nat_eq world number) m point e none.0))
      (λ missing. none_is_some point (sym (ap (λ (x : Mount ℕ). x.mount_point) missing) ∙ e))
      (found_or_none world.mounts number)) ground

  pub hop_ground : (a b : Location ℕ) → OnGround a → hop nat_eq (looks_of nat_eq world) task a ≡ Some b → OnGround b
  hop_ground a b ground e = grind (arith, common_steps, none_is_some, parent_ground)

  pub up_ground : (top next : Location ℕ) → OnGround top → up_from nat_eq (looks_of nat_eq world) task top ≡ Ok next
      → OnGround next
  up_ground top next ground e = search (arith, common_steps, topmost_ground)

  -- an entry is on the mount of its directory
  pub entry_ground : (here : Location ℕ) (name : List ℕ) → OnGround here → (l : Location ℕ)
      → entry_location nat_eq (looks_of nat_eq world) here name ≡ Some l → OnGround l
  entry_ground here name ground l e = search (arith, common_steps, none_is_some, same_Some)

  pub step_ground : (here next : Location ℕ) (word : LastWord) → OnGround here
      → stepped nat_eq (looks_of nat_eq world) task here word ≡ Ok next → OnGround next
  step_ground here next NoWord ground e = let same : here ≡ next = cc in subst OnGround same ground
  step_ground here next Dot ground e = let same : here ≡ next = cc in subst OnGround same ground
  step_ground here next DotDot ground e = up_ground _ next (chain_ends_at _ _ hop_ground (length world.mounts) here here
      ground) e
  step_ground here next (Named name) ground e = by _ refl e
    where
      by : (o : Option (Location ℕ)) → entry_location nat_eq (looks_of nat_eq world) here name ≡ o
          → ok_or (option_map (topmost nat_eq world.mounts) o) (denial W6) ≡ Ok next → OnGround next
      by None f h = refused h
        where
          refused : Path (Result (Location ℕ) Deny) (Err (denial W6)) (Ok next) → OnGround next
          refused k = absurd cc
      by (Some entry) f h = reached h
        where
          reached : Path (Result (Location ℕ) Deny) (Ok (topmost nat_eq world.mounts entry)) (Ok next) → OnGround next
          reached k =
              let same : topmost nat_eq world.mounts entry ≡ next = cc in
              subst OnGround same (topmost_ground entry (entry_ground here name ground entry f))

  -- the end of a way
  pub way_ground : (here end : Location ℕ) (path_words : List (List ℕ)) (passed : List (Location ℕ))
      → Way world task here path_words passed end → OnGround here → OnGround end
  way_ground here end path_words passed (arrives at) ground = ground
  way_ground here end path_words passed (goes_on at next last word rest walked e plain way) ground =
      way_ground next last rest walked way (step_ground at next (last_word word) ground e)
  way_ground here end path_words passed (follows at link inside last word text rest in_text walked e linked text_way
      way) ground = way_ground inside last rest walked way
      (way_ground _ inside _ _ text_way (start_ground at text ground))

  pub searched_ground : (path : List ℕ) (end : Location ℕ) → IsSearchedTo world task path end → OnGround end
  searched_ground path end searched = way_ground _ end _ _ searched.way (start_ground _ path directory_ground)
