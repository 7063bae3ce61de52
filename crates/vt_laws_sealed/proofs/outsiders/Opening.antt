-- Files that others open to read: open(2) with O_RDONLY.
use Rattle.std.proofs.Common.{arith, ◌≡◌, refl, sym, subst, ◌∙◌, ◌⊎◌, inl, inr, ⊎_elim, ℕ, zero, suc, ◌+◌, nat_eq, Bool, false, ◌||◌, List, [], ◌∷◌, map, Option, Some, None, Ok, Err, Result, reverse, option_map}
use Rattle.vt_spec.proofs.Common.{Access, Among, Call, Descriptor, Dot, DotDot, Fresh, Here, IsWorld, LastWord, Location, Named, NoWord, Permit, Place, Stop, Task, TaskName, ToOpen, World, and_then, common_steps, ends_in_slash, file_or_symlink, file_walked, final_word, followed, inserted, judge_in, looks_of, most_symlinks, new_name_rules, none_is_some, overfills, path_text, prefix_walked, same_Some, start_of, symlink_of, then_walk, topmost, walk_start, walk_unless, with_descriptor, with_task, words}
use Rattle.vt_laws_sealed.proofs.Common.{Deny, Ends, IsFront, IsGranted, IsGround, at_end, calls_are_granted, directory_ground, ends_then, ends_unless, object_ways_are_searched, opens, opens_existing, prefix_searched, searched_ground, start_ground, step_ground, topmost_ground, way_ground}
use Rattle.vt_spec.proofs.Walk.{entry_location, file_walk, follow_rules, object_named, placed, stepped, symlink_start, symlink_there}
use Rattle.vt_laws_sealed.proofs.outsiders.OthersCalls.{IsOthersCall}
use Rattle.vt_laws_trees.proofs.calls.ways.WaysSearched.{IsNamedAt, placed_step}
use Rattle.vt_laws_trees.proofs.calls.ways.WaysWalked.{path_text_same}
use Rattle.vt_laws_sealed.proofs.outsiders.Entering.{ground_outside, old_outside, task_there}
use Rattle.vt_laws_sealed.proofs.outsiders.OwnTasks.{IsOutside, replacing_leaves_apart}
use Rattle.vt_laws_sealed.proofs.outsiders.Staying.{LeavesApart}

-- a new descriptor is at its file, the others where they were
pub inserted_at : (new : Descriptor ℕ) (descriptors : List (Descriptor ℕ)) (location : Location ℕ)
    → Among location (map (λ (d : Descriptor ℕ). d.location) (inserted new descriptors))
    → (location ≡ new.location) ⊎ Among location (map (λ (d : Descriptor ℕ). d.location) descriptors)
inserted_at new [] location m = m
inserted_at new (first ∷ rest) location m = grind (arith, common_steps, inserted_at new rest location)

-- Where the file of a path is
module _ (world : World ℕ) (is : IsWorld nat_eq world) (task : Task ℕ) (there : Among task world.tasks) where
  abbrev OnGround : Location ℕ → Type 0
  OnGround location = IsGround world is task there location.mount

  -- the object of a place is on mounts where the task gets
  abbrev pub IsFileGround : Place ℕ → Type 0
  IsFileGround place = (file : Location ℕ) → place.object ≡ Some file → OnGround file

  front_ground : (start here : Location ℕ) (front : List (List ℕ)) → OnGround start
      → IsFront world task start front here → OnGround here
  front_ground start here [] ground e = subst OnGround (sym e) ground
  front_ground start here (word ∷ front) ground before = way_ground world is task there start here _ _ before.way ground

  object_ground : (here : Location ℕ) (word : LastWord) (o : Option (Location ℕ)) → OnGround here
      → object_named nat_eq world task here word ≡ Ok o → (file : Location ℕ) → o ≡ Some file → OnGround file
  object_ground here NoWord o ground e file f =
      let same : Some here ≡ o = cc in subst OnGround (same_Some here file (same ∙ f)) ground
  object_ground here Dot o ground e file f =
      let same : Some here ≡ o = cc in subst OnGround (same_Some here file (same ∙ f)) ground
  object_ground here DotDot o ground e file f = by (stepped nat_eq world task here DotDot) refl e
    where
      by : (r : Result (Location ℕ) Deny) → stepped nat_eq world task here DotDot ≡ r
          → and_then r (λ parent. Ok (Some parent)) ≡ Ok o → OnGround file
      by (Ok parent) g h =
          let same : Some parent ≡ o = cc in
          subst OnGround (same_Some parent file (same ∙ f))
          (step_ground world is task there here parent DotDot ground g)
      by (Err deny) g h = absurd cc
  object_ground here (Named name) o ground e file f =
      let same : entry_location nat_eq world here name ≡ o = cc in on_mount _ (same ∙ f)
    where
      on_mount : (entry : Option ℕ)
          → option_map (λ object. record { mount = here.mount; node = object }) entry ≡ Some file → OnGround file
      on_mount None g = none_is_some file g
      on_mount (Some object) g = subst OnGround (same_Some (record { mount = here.mount; node = object }) file g) ground

  entered_ground : (o : Option (Location ℕ)) → ((found : Location ℕ) → o ≡ Some found → OnGround found)
      → (file : Location ℕ) → option_map (topmost nat_eq world.mounts) o ≡ Some file → OnGround file
  entered_ground None ground file e = none_is_some file e
  entered_ground (Some found) ground file e = subst OnGround (same_Some (topmost nat_eq world.mounts found) file e)
      (topmost_ground world is task there found (ground found refl))

  abbrev next_text : ℕ → List ℕ → Bool → Here ℕ → Place ℕ → List ℕ → Result (Place ℕ) (Stop ℕ)
  next_text depth text slash here place inner =
      then_walk (walk_unless place.steps (follow_rules nat_eq world (symlink_of here place) inner)
      (symlink_start nat_eq world task here.location (symlink_of here place) inner))
      (λ next. file_walked nat_eq depth world task next inner (slash || ends_in_slash text))

  file_ground : (depth : ℕ) (start : Here ℕ) (text : List ℕ) (slash : Bool) → OnGround start.location
      → Ends IsFileGround (file_walked nat_eq depth world task start text slash)
  file_ground zero start text slash ground = tt
  file_ground (suc depth) start text slash ground =
      ends_then (λ here. IsFront world task start.location (reverse (words text)) here.location) IsFileGround
      (prefix_walked nat_eq world task (followed nat_eq world task) start (reverse (words text))) _
      (prefix_searched world task start (reverse (words text))) (λ here before.
      ends_then (IsNamedAt world task here.location (final_word (reverse (words text)))) IsFileGround
      (placed nat_eq world task here (final_word (reverse (words text))) (slash || ends_in_slash text)) _
      (placed_step world task here (final_word (reverse (words text))) (slash || ends_in_slash text)) (λ place named.
      by_symlink (λ next inner stood. file_ground depth next inner (slash || ends_in_slash text) stood) here
      (front_ground start.location here.location (reverse (words text)) ground before) place named
      (symlink_there nat_eq world place)))
    where
      by_symlink : ((next : Here ℕ) (inner : List ℕ) → OnGround next.location
          → Ends IsFileGround (file_walked nat_eq depth world task next inner (slash || ends_in_slash text)))
          → (here : Here ℕ) → OnGround here.location → (place : Place ℕ)
          → IsNamedAt world task here.location (final_word (reverse (words text))) place → (o : Option (List ℕ))
          → Ends IsFileGround (file_or_symlink nat_eq world place o (next_text depth text slash here place))
      by_symlink rest here stood place named None = λ file e. entered_ground place.object
          (object_ground here.location (final_word (reverse (words text))) place.object stood named.object) file e
      by_symlink rest here stood place named (Some inner) =
          ends_then (λ next. next.location ≡ start_of task here.location inner) IsFileGround
          (walk_unless place.steps (follow_rules nat_eq world (symlink_of here place) inner)
          (symlink_start nat_eq world task here.location (symlink_of here place) inner)) _
          (ends_unless (λ (next : Here ℕ). next.location ≡ start_of task here.location inner) place.steps
          (follow_rules nat_eq world (symlink_of here place) inner)
          (symlink_start nat_eq world task here.location (symlink_of here place) inner) (λ passed. refl))
          (λ next e. rest next inner
          (subst OnGround (sym e) (start_ground world is task there here.location inner stood)))

  pub file_walk_ground : (path : List ℕ) → Ends IsFileGround (file_walk nat_eq world task path)
  file_walk_ground path =
      ends_then (λ text. text ≡ path) IsFileGround (path_text path) _ (path_text_same path) (λ text e.
      ends_then IsFileGround IsFileGround
      (file_walked nat_eq (most_symlinks + 1) world task (walk_start task text) text false) _
      (file_ground (most_symlinks + 1) (walk_start task text) text false
      (start_ground world is task there task.directory text (directory_ground world is task there))) (λ place found.
      ends_unless IsFileGround place.steps (new_name_rules nat_eq world place) place (λ passed. found)))

module _ {world : World ℕ} {fresh : Fresh ℕ} {names : List TaskName} {name : TaskName} {call : Call}
    {task : Task ℕ} (outsider : IsOthersCall world fresh names name call task) where
  abbrev there : Among task world.tasks
  there = task_there outsider

  abbrev OnGroundHere : Location ℕ → Type 0
  OnGroundHere location = IsGround world outsider.is task there location.mount

  -- the file that is opened
  file_reached : (asked : Call) (permit : Permit ℕ)
      → IsGranted nat_eq (looks_of nat_eq world) (overfills nat_eq fresh world task) task asked permit
      → (file : Location ℕ) (access : Access) → permit ≡ ToOpen file access → OnGroundHere file
  file_reached asked permit (opens path wanted here few walk may) file access e =
      let same : here.location ≡ file = cc in
      subst OnGroundHere same (searched_ground world outsider.is task there path here.location
      (object_ways_are_searched world task path here walk))
  file_reached asked permit (opens_existing path wanted mode place found few walk named is_there may) file access e =
      let same : found ≡ file = cc in
      subst OnGroundHere same
      (at_end (IsFileGround world outsider.is task there) (file_walk nat_eq world task path) place
      (file_walk_ground world outsider.is task there path) walk found is_there)
  file_reached asked permit granted file access e = absurd cc

  -- a descriptor on it
  pub descriptor_leaves : (file : Location ℕ) (access : Access) → IsOutside world names file
      → LeavesApart world (with_task world (with_descriptor task file access)) names []
  descriptor_leaves file access outside =
      replacing_leaves_apart outsider (with_descriptor task file access) refl refl
      (λ location m. ⊎_elim (λ root. old_outside outsider location (inl root))
      (λ rest. ⊎_elim (λ directory. old_outside outsider location (inr (inl directory)))
      (λ open_ones. ⊎_elim (λ new. subst (IsOutside world names) (sym new) outside)
      (λ old. old_outside outsider location (inr (inr old))) (inserted_at _ task.descriptors location open_ones)) rest)
      m)

  pub open_outside : (file : Location ℕ) (access : Access)
      → judge_in nat_eq fresh world task call ≡ Ok (ToOpen file access) → IsOutside world names file
  open_outside file access judged = ground_outside outsider file (file_reached call (ToOpen file access)
      (calls_are_granted nat_eq (looks_of nat_eq world) _ task call (ToOpen file access) judged) file access refl)
