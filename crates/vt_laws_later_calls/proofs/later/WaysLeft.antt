-- In a world that a call left, in which a task's own mounts are seen as they were, one object may have lost its name,
-- and the ways up that it takes stay or are lost, walks lead where they led.
use Rattle.std.proofs.Common.{◌≡◌, refl, ap, subst, ◌∙◌, inl, inr, ◌⊎◌, ℕ, nat_eq, Bool, true, false, cond, ◌||◌, List, [], ◌∷◌, length, Option, Some, None, is_some, option_map, ok_or, Result, Ok, Err}
use Rattle.vt_spec.proofs.Common.{Dot, DotDot, IsWorld, LastWord, Location, Mount, Named, NoWord, Task, World, chain, denial, entries_in, entry_at, entry_named, execute_right, hop, is_among, is_directory_at, is_directory_node, is_lost, last_or, looks_of, may, mount_at, mount_numbered, mounter_allows, node_at, parent_in, parent_location, same_location, same_ok, symlink_text, task_called, topmost, unless}
use Rattle.vt_laws_later_calls.proofs.Common.{Deny, IsFound, IsFoundDirectory, IsOn, IsPlain, W4, W6, W8, directory_found, numbers_of, own_directory_found, plain_numbered, root_found, step_found, stepped}
use Rattle.vt_laws_later_calls.proofs.Ways.{LeadsToo}
use Rattle.vt_laws_later_calls.proofs.later.WaysMounts.{SeenAlike, top_known}
use Rattle.vt_laws_later_calls.proofs.WaysNodes.{StandsAs, node_in, tree_in}

-- What was there and still is, is of its kind, and a symlink has its text. A name leads where it led, or is missing.
pub record ObjectsStay (world later : World ℕ) (Refused : Deny → Type 0) : Type 0 where
  pub directory : (filesystem number : ℕ) → is_some (node_in world filesystem number) ≡ true
      → is_some (node_in later filesystem number) ≡ true
      → is_directory_node (node_in later filesystem number) ≡ is_directory_node (node_in world filesystem number)
  pub link : (filesystem number : ℕ) → is_some (node_in world filesystem number) ≡ true
      → is_some (node_in later filesystem number) ≡ true
      → symlink_text (node_in later filesystem number) ≡ symlink_text (node_in world filesystem number)
  pub entry : (filesystem directory : ℕ) (name : List ℕ) (number : ℕ)
      → entry_at (tree_in world filesystem) directory name ≡ Some number
      → is_some (node_in later filesystem directory) ≡ true
      → (entry_at (tree_in later filesystem) directory name ≡ Some number)
      ⊎ ((entry_at (tree_in later filesystem) directory name ≡ None) × Refused (denial W6))

module _ {world later : World ℕ} (is : IsWorld nat_eq world) (left : IsWorld nat_eq later × IsPlain later)
    (task reader : Task ℕ) where
  abbrev is_later : IsWorld nat_eq later
  is_later = left.0

  abbrev pub BothFound : Location ℕ → Type 0
  BothFound here = IsFound world is task here × IsFound later is_later reader here

  abbrev pub BothAre : Location ℕ → Type 0
  BothAre here = IsFoundDirectory world is task here × IsFoundDirectory later is_later reader here

  abbrev pub top : Location ℕ → Location ℕ
  top here = last_or here (chain (length world.mounts) (hop nat_eq world task) here)

  -- the task's own mounts are seen as they were
  pub record MountsSeen : Type 0 where
    pub own : (number : ℕ) → IsOn world is task number → is_among nat_eq number (numbers_of later.mounts) ≡ true
        → SeenAlike (mount_numbered nat_eq world number) (mount_numbered nat_eq later number)
    pub topmost_is : (place : Location ℕ) → IsOn world is task place.mount
        → topmost nat_eq later.mounts place ≡ topmost nat_eq world.mounts place
    pub top_is : (here : Location ℕ) → BothAre here
        → last_or here (chain (length later.mounts) (hop nat_eq later reader) here) ≡ top here

  -- `..` leads on as it led
  pub record GoesUp (here : Location ℕ) : Type 0 where
    pub parent : parent_in here.node (node_at nat_eq later here) ≡ parent_in here.node (node_at nat_eq world here)
    pub not_lost : is_lost nat_eq later here ≡ false

  -- locations from which ways stay: with such a one, those that its names lead to, what stands over them, and the ways
  -- up
  pub record FitsWays (Refused : Deny → Type 0) (Fits : Location ℕ → Type 0) : Type 0 where
    pub named : (here : Location ℕ) (name : List ℕ) (object : ℕ) → BothAre here → Fits here
        → entry_named name (entries_in (node_at nat_eq world here)) ≡ Some object
        → entry_named name (entries_in (node_at nat_eq later here)) ≡ Some object
        → Fits (record { mount = here.mount; node = object })
    pub over : (place : Location ℕ) → IsOn world is task place.mount → Fits place
        → Fits (topmost nat_eq world.mounts place)
    pub hopped : (here : Location ℕ) → BothAre here → Fits here → Fits (top here)
    pub up : (here : Location ℕ) → BothAre here → Fits here
        → (same_location nat_eq here task.root || nat_eq here.node (mount_at nat_eq world here).root) ≡ false
        → is_lost nat_eq world here ≡ false → (GoesUp here × Fits (parent_location nat_eq world here))
        ⊎ (Refused (denial W8) × (is_lost nat_eq later here ≡ true))

  -- the task, and a reader later who stands as it does, to whom ways from what fits stay
  pub record SeesStill (Refused : Deny → Type 0) (Fits : Location ℕ → Type 0) : Type 0 where
    pub called : task_called world task.name ≡ Some task
    pub called_later : task_called later reader.name ≡ Some reader
    pub stands : StandsAs task reader
    pub seen : MountsSeen
    pub stay : ObjectsStay world later Refused
    pub fits : FitsWays Refused Fits

  module _ {Refused : Deny → Type 0} {Fits : Location ℕ → Type 0} (it : SeesStill Refused Fits) where
    -- a location that is there in both worlds, and fits
    abbrev pub Known : Location ℕ → Type 0
    Known here = BothFound here × Fits here

    alike : (here : Location ℕ) → BothFound here → SeenAlike (mount_at nat_eq world here) (mount_at nat_eq later here)
    alike here known = it.seen.own here.mount known.0.0 known.1.0.0

    pub node_here : (here : Location ℕ) → BothFound here
        → node_at nat_eq later here ≡ node_in later (mount_at nat_eq world here).filesystem here.node
    node_here here known = cc ((alike here known).filesystem)

    pub there_later : (here : Location ℕ) → BothFound here
        → is_some (node_in later (mount_at nat_eq world here).filesystem here.node) ≡ true
    there_later here known = cc (node_here here known, known.1.1)

    directory_too : (here : Location ℕ) → BothFound here
        → is_directory_at nat_eq later here ≡ is_directory_at nat_eq world here
    directory_too here known = ap is_directory_node (node_here here known)
        ∙ it.stay.directory (mount_at nat_eq world here).filesystem here.node known.0.1 (there_later here known)

    both_are : (here : Location ℕ) → BothFound here → is_directory_at nat_eq world here ≡ true → BothAre here
    both_are here known directory = ((known.0.0, directory), (known.1.0, directory_too here known ∙ directory))

    both_found : (here : Location ℕ) → BothAre here → BothFound here
    both_found here known =
        (directory_found world is task here known.0, directory_found later is_later reader here known.1)

    next_found : (here : Location ℕ) (word : LastWord) (next : Location ℕ) → BothAre here
        → stepped nat_eq world task here word ≡ Ok next → stepped nat_eq later reader here word ≡ Ok next
        → BothFound next
    next_found here word next known e f =
        (step_found world is task here word next known.0 e, step_found later is_later reader here word next known.1 f)

    abbrev Steps : Location ℕ → LastWord → Location ℕ → Type 0
    Steps here word next = ((stepped nat_eq later reader here word ≡ Ok next) × Known next)
        ⊎ ((deny : Deny) × Refused deny × (stepped nat_eq later reader here word ≡ Err deny))

    -- Names
    abbrev named_by : List (Mount ℕ) → Location ℕ → Option ℕ → Result (Location ℕ) Deny
    named_by mounts here o = ok_or (option_map (topmost nat_eq mounts)
        (option_map (λ object. record { mount = here.mount; node = object }) o)) (denial W6)

    no_answer : (deny : Deny) (a : Location ℕ) → Path (Result (Location ℕ) Deny) (Err deny) (Ok a) → ⊥
    no_answer deny a f = cc

    name_too : (here : Location ℕ) (name : List ℕ) (next : Location ℕ) → BothAre here → Fits here
        → stepped nat_eq world task here (Named name) ≡ Ok next → Steps here (Named name) next
    name_too here name next known fit e = by (entry_named name (entries_in (node_at nat_eq world here))) refl e
      where
        at_later : (o : Option ℕ) → entry_at (tree_in later (mount_at nat_eq world here).filesystem) here.node name ≡ o
            → entry_named name (entries_in (node_at nat_eq later here)) ≡ o
        at_later o f = cc (node_here here (both_found here known))

        inside : (object : ℕ) → entry_named name (entries_in (node_at nat_eq world here)) ≡ Some object
            → named_by world.mounts here (Some object) ≡ Ok next
            → (entry_at (tree_in later (mount_at nat_eq world here).filesystem) here.node name ≡ Some object)
            ⊎ ((entry_at (tree_in later (mount_at nat_eq world here).filesystem) here.node name ≡ None)
            × Refused (denial W6)) → Steps here (Named name) next
        inside object f g (inl stays) =
            let place : Location ℕ = record { mount = here.mount; node = object } in
            let now : stepped nat_eq later reader here (Named name) ≡ Ok next =
            ap (named_by later.mounts here) (at_later (Some object) stays) ∙ ap Ok (it.seen.topmost_is place known.0.0)
            ∙ g in
            inl (
              now,
              (
                next_found here (Named name) next known e now,
                subst Fits (same_ok (topmost nat_eq world.mounts place) next g)
                    (it.fits.over place known.0.0 (it.fits.named here name object known fit f
                    (at_later (Some object) stays))),
              ),
            )
        inside object f g (inr lost) = inr (denial W6, lost.1, ap (named_by later.mounts here) (at_later None lost.0))

        by : (o : Option ℕ) → entry_named name (entries_in (node_at nat_eq world here)) ≡ o
            → named_by world.mounts here (entry_named name (entries_in (node_at nat_eq world here))) ≡ Ok next
            → Steps here (Named name) next
        by None f g = absurd (no_answer (denial W6) next (cc))
        by (Some object) f g = inside object f (cc) (it.stay.entry (mount_at nat_eq world here).filesystem here.node
            name object f (there_later here (both_found here known)))

    -- Up
    abbrev is_top_by : Location ℕ → ℕ → Location ℕ → Bool
    is_top_by root mount_root here = same_location nat_eq here root || nat_eq here.node mount_root

    abbrev up_by : List (Mount ℕ) → Bool → Bool → ℕ → Location ℕ → Result (Location ℕ) Deny
    up_by mounts ends lost parent here = cond ends (Ok here) (unless ((lost, W8) ∷ [])
        (Ok (topmost nat_eq mounts (record { mount = here.mount; node = parent }))))

    module _ (here next : Location ℕ) (known : BothAre here) (fit : Fits here) where
      abbrev above : Location ℕ
      above = top here

      above_known : BothAre above
      above_known = (
        top_known world is task here known.0,
        rw (← it.seen.top_is here known) (top_known later is_later reader here known.1),
      )

      ends_same : is_top_by reader.root (mount_at nat_eq later above).root above
          ≡ is_top_by task.root (mount_at nat_eq world above).root above
      ends_same = λ i. is_top_by (it.stands.root i) ((alike above (both_found above above_known)).root i) above

      later_up : stepped nat_eq later reader here DotDot
          ≡ up_by later.mounts (is_top_by task.root (mount_at nat_eq world above).root above)
          (is_lost nat_eq later above) (parent_in above.node (node_at nat_eq later above)) above
      later_up = ap (λ (at : Location ℕ). up_by later.mounts (is_top_by reader.root (mount_at nat_eq later at).root at)
          (is_lost nat_eq later at) (parent_in at.node (node_at nat_eq later at)) at) (it.seen.top_is here known)
          ∙ ap (λ b. up_by later.mounts b (is_lost nat_eq later above)
          (parent_in above.node (node_at nat_eq later above)) above) ends_same

      up_too : stepped nat_eq world task here DotDot ≡ Ok next → Steps here DotDot next
      up_too e =
          by (is_top_by task.root (mount_at nat_eq world above).root above) refl (is_lost nat_eq world above) refl e
        where
          found_too : stepped nat_eq later reader here DotDot ≡ Ok next → Fits next → Steps here DotDot next
          found_too f fit_next = inl (f, (next_found here DotDot next known e f, fit_next))

          on : is_top_by task.root (mount_at nat_eq world above).root above ≡ false
              → Path (Result (Location ℕ) Deny) (Ok (topmost nat_eq world.mounts (parent_location nat_eq world above)))
              (Ok next) → (GoesUp above × Fits (parent_location nat_eq world above))
              ⊎ (Refused (denial W8) × (is_lost nat_eq later above ≡ true)) → Steps here DotDot next
          on p g (inl goes) = found_too (later_up ∙ (λ i. up_by later.mounts (p i) (goes.0.not_lost i) (goes.0.parent i)
              above) ∙ ap Ok (it.seen.topmost_is (parent_location nat_eq world above) above_known.0.0) ∙ g)
              (rw (← same_ok (topmost nat_eq world.mounts (parent_location nat_eq world above)) next g)
              (it.fits.over (parent_location nat_eq world above) above_known.0.0 goes.1))
          on p g (inr lost) = inr (
            denial W8,
            lost.0,
            later_up ∙ (λ i. up_by later.mounts (p i) (lost.1 i)
                (parent_in above.node (node_at nat_eq later above)) above),
          )

          by : (p : Bool) → is_top_by task.root (mount_at nat_eq world above).root above ≡ p
              → (q : Bool) → is_lost nat_eq world above ≡ q
              → up_by world.mounts p q (parent_in above.node (node_at nat_eq world above)) above ≡ Ok next
              → Steps here DotDot next
          by true f q lost g =
              found_too (cc later_up) (subst Fits (same_ok above next g) (it.fits.hopped here known fit))
          by false f true lost g = absurd (no_answer (denial W8) next g)
          by false f false lost g = on f g (it.fits.up above above_known (it.fits.hopped here known fit) f lost)

    step_too : (here : Location ℕ) (word : LastWord) (next : Location ℕ) → BothAre here → Fits here
        → stepped nat_eq world task here word ≡ Ok next → Steps here word next
    step_too here NoWord next known fit e =
        inl (e, (next_found here NoWord next known e e, rw (← same_ok here next e) fit))
    step_too here Dot next known fit e = inl (e, (next_found here Dot next known e e, rw (← same_ok here next e) fit))
    step_too here DotDot next known fit e = up_too here next known fit e
    step_too here (Named name) next known fit e = name_too here name next known fit e

    -- So walks lead where they led, if what may be searched may be.
    pub ways_lead : ((here : Location ℕ) → Known here → is_directory_at nat_eq world here ≡ true
        → may (looks_of nat_eq world) task here execute_right ≡ true
        → (may (looks_of nat_eq later) reader here execute_right ≡ true)
        ⊎ ((may (looks_of nat_eq later) reader here execute_right ≡ false) × Refused (denial W4)))
        → Fits task.root → Fits task.directory
        → LeadsToo (looks_of nat_eq world) (looks_of nat_eq later) task reader Refused Known
    ways_lead rights root_fits directory_fits = record {
      root = it.stands.root;
      working = it.stands.directory;
      root_known = (
        both_found task.root (
          root_found world is task it.called,
          subst (IsFoundDirectory later is_later reader) it.stands.root
              (root_found later is_later reader it.called_later),
        ),
        root_fits,
      );
      working_known = (
        both_found task.directory (
          own_directory_found world is task it.called,
          subst (IsFoundDirectory later is_later reader) it.stands.directory
              (own_directory_found later is_later reader it.called_later),
        ),
        directory_fits,
      );
      directory = λ here known directory. directory_too here known.0 ∙ directory;
      search = rights;
      mounter = λ here. ap (λ o. mounter_allows o execute_right (node_at nat_eq later here))
          (plain_numbered later left.1 (mount_at nat_eq later here).filesystem);
      step = λ here word next known directory e. step_too here word next (both_are here known.0 directory) known.1 e;
      nosymfollow = λ here known. ap (λ flags. flags.nosymfollow) (alike here known.0).flags;
      link = λ here known. ap symlink_text (node_here here known.0)
          ∙ it.stay.link (mount_at nat_eq world here).filesystem here.node known.0.0.1 (there_later here known.0);
    }
