-- A granted call of theirs by which a name comes or goes through an overlay ends in the part as in the world.
use Rattle.std.proofs.Common.{arith, ◌≡◌, refl, sym, ap, ◌∙◌, ◌⊎◌, inl, inr, ⊎_elim, ℕ, nat_eq, eqb-true, Bool, true, false, true≢false, List, [], ◌∷◌, ◌++◌, Option, Some, Ok, map, option_to_list}
use Rattle.vt_spec.proofs.Common.{Among, Answer, Call, Filesystem, Fresh, Layer, Overlay, Real, Task, TaskName, World, among-append_left, among-append_right, among-flat_map, among-from_filter, among_numbers, changed_at, common_steps, filesystem_numbered, granted, is_among, is_overlay, layers_of, mount_at, numbers_raised, of_overlay, open_layer, or_cases, part_of, settled, stack_of, task_called, used_alone, used_directly, used_filesystems, wholly_locked, with_change}
use Rattle.vt_laws_members.proofs.judging.Common.{lower_view, overlay_there, sealing_of, whole_how}
use Rattle.vt_laws_members.proofs.Common.{IsSealed, layer_directory, layer_plain, used_are_free, used_directly_used, with_filesystems}
use Rattle.vt_laws_members.proofs.judging.Anywhere.{not_whole}
use Rattle.vt_laws_members.specs.Changes.Changes.{EndsAlike, IsCallOfTheirs, grown}
use Rattle.vt_laws_members.proofs.changes.Common.{Alone, OverlayChange, Retasks, alone, both_numbers, found_numbered, layer_found, lowers_in, made_of, no_others_there, numbers_in_part, numbers_in_world, one_in_part, one_in_world, overlays_stay, ran, step, step_kept, step_numbered, stepped_if_made, stepped_in_world, upper_in_use}
use Rattle.vt_laws_members.proofs.overlay_names.names.LayersAlike.{AllAlike, ViewsAlike, made_same}
use Rattle.vt_laws_members.proofs.overlay_names.names.SteppedAlike.{living_part, stepped_ends}
use Rattle.vt_laws_members.proofs.overlay_names.names.SteppedReady.{ChangesTheirs}

overlay_test : (x : Filesystem ℕ) → is_overlay x ≡ of_overlay false (λ (o : Overlay ℕ). true) x
overlay_test x = grind (arith, common_steps)

-- layers that have the same each
all_alike : (one other : World ℕ) (list : List (Layer ℕ))
    → ((l : Layer ℕ) → Among l list → ViewsAlike (open_layer nat_eq one l) (open_layer nat_eq other l))
    → AllAlike (map (open_layer nat_eq one) list) (map (open_layer nat_eq other) list)
all_alike one other [] same = tt
all_alike one other (l ∷ rest) same = (refl, same l (inl refl), all_alike one other rest (λ k m. same k (inr m)))

-- They use alone each overlay that they use, and the filesystem of its upper layer: neither is wholly locked.
module _ {world : World ℕ} {names : List TaskName} (sealing : IsSealed world names) (number : ℕ) (overlay : Overlay ℕ)
    (overlaid : (filesystem_numbered nat_eq world number).overlay ≡ Some overlay)
    (direct : Among number (used_directly nat_eq world names)) where
  free : (n : ℕ) → is_among nat_eq n (used_filesystems nat_eq world names) ≡ true
      → (wholly_locked nat_eq world names n ≡ true → ⊥) → used_alone nat_eq world names n ≡ true
  free n used whole = ⊎_elim (λ h. h) (λ locked. absurd (whole locked)) (or_cases (used_alone nat_eq world names n)
      (wholly_locked nat_eq world names n) (used_are_free world names sealing.sealed_off n (among_numbers _ n used)))

  -- an overlay is no layer
  no_layer : wholly_locked nat_eq world names number ≡ true → ⊥
  no_layer locked =
      let how = whole_how sealing number locked in
      true≢false (cc (
        how.inside,
        layer_plain world names sealing.is how.merged
            (among-from_filter is_overlay world.filesystems how.merged how.overlaid).0 how.layer how.layered,
      ))

  pub merged_alone : used_alone nat_eq world names number ≡ true
  merged_alone = free number (used_directly_used world names number direct) no_layer

  -- and an upper layer is no lower one
  pub upper_alone : (upper : Layer ℕ) → overlay.upper ≡ Some upper
      → used_alone nat_eq world names upper.filesystem ≡ true
  upper_alone upper has = free upper.filesystem (upper_in_use world names number overlay upper overlaid has direct)
      (not_whole sealing (filesystem_numbered nat_eq world number) (overlay_there world names sealing.is number overlay
      overlaid) overlaid upper (among-append_left (option_to_list overlay.upper) (option_to_list overlay.work) upper
      (rw has (inl refl))))

-- An overlay with an upper layer, in whose tree a name comes or goes
module _ {world : World ℕ} {names : List TaskName} {name : TaskName} {call : Call}
    (it : IsCallOfTheirs world names name call) (through : OverlayChange world names) where
  abbrev part : World ℕ
  part = part_of nat_eq world names

  abbrev number : ℕ
  number = (mount_at nat_eq world through.location).filesystem

  abbrev pub moved : Filesystem ℕ → Filesystem ℕ
  moved = step through

  abbrev pub numbers : List ℕ
  numbers = both_numbers through

  abbrev one : Filesystem ℕ
  one = filesystem_numbered nat_eq world number

  abbrev two : Filesystem ℕ
  two = filesystem_numbered nat_eq world through.upper.filesystem

  there : Among one world.filesystems
  there = overlay_there world names it.is number through.overlay through.can.overlay_there

  one_number : one.number ≡ number
  one_number = found_numbered number world.filesystems

  two_number : two.number ≡ through.upper.filesystem
  two_number = found_numbered through.upper.filesystem world.filesystems

  pub one_alone : used_alone nat_eq world names one.number ≡ true
  one_alone =
      cc (one_number, merged_alone (sealing_of it) number through.overlay through.can.overlay_there through.direct)

  pub two_alone : used_alone nat_eq world names two.number ≡ true
  two_alone = ap (used_alone nat_eq world names) two_number
      ∙ upper_alone (sealing_of it) number through.overlay through.can.overlay_there through.direct through.upper
      through.can.upper_there

  -- The change is one of filesystems that they use alone.
  module _ {w : World ℕ} (used : List ℕ) (one_used : is_among nat_eq one.number used ≡ true)
      (two_used : is_among nat_eq two.number used ≡ true)
      (ones : (x : Filesystem ℕ) → Among x w.filesystems → nat_eq one.number x.number ≡ true → x ≡ one)
      (twos : (x : Filesystem ℕ) → Among x w.filesystems → nat_eq two.number x.number ≡ true → x ≡ two)
      (alone_one : Alone w names one.number) (alone_two : Alone w names two.number) where
    stays : {A : Type 0} (default : A) (what : Overlay ℕ → A)
        → ((real : ℕ → Option (Real ℕ)) → what (record (through.overlay) { real = real }) ≡ what through.overlay)
        → (x : Filesystem ℕ) → Among x w.filesystems → of_overlay default what (moved x) ≡ of_overlay default what x
    stays default what same = overlays_stay through w (record { one_merged = ones; one_layer = twos }) default what
        (λ merge. same merge.real)

    kept : (x : Filesystem ℕ) → is_among nat_eq x.number used ≡ false → moved x ≡ x
    kept x unused = step_kept through x (apart one.number one_used (nat_eq one.number x.number) refl)
        (apart two.number two_used (nat_eq two.number x.number) refl)
      where
        apart : (n : ℕ) → is_among nat_eq n used ≡ true → (b : Bool) → nat_eq n x.number ≡ b → nat_eq n x.number ≡ false
        apart n is true e = cc (eqb-true n x.number e)
        apart n is false e = e

    changes : (x : Filesystem ℕ) → (a : Bool) → nat_eq one.number x.number ≡ a → (b : Bool)
        → nat_eq two.number x.number ≡ b → (moved x ≡ x) ⊎ Alone w names x.number
    changes x true e b f = inr (rw (← eqb-true one.number x.number e) alone_one)
    changes x false e true f = inr (rw (← eqb-true two.number x.number f) alone_two)
    changes x false e false f =
        inl (step_kept through x e f)

    pub theirs : ChangesTheirs w names used moved
    theirs = record {
      numbered = step_numbered through;
      layers = stays [] layers_of (λ real. refl);
      changing = stays [] (λ (o : Overlay ℕ). map (λ (l : Layer ℕ). l.filesystem)
          (option_to_list o.upper ++ option_to_list o.work)) (λ real. refl);
      lowering = stays [] (λ (o : Overlay ℕ). o.lowers) (λ real. refl);
      overlaid = λ x m. overlay_test (moved x) ∙ stays false (λ o. true) (λ real. refl) x m ∙ sym (overlay_test x);
      kept = kept;
      moved = λ x m. changes x (nat_eq one.number x.number) refl (nat_eq two.number x.number) refl;
    }

  -- lower layers show the same in the part
  lowers_same : AllAlike (map (open_layer nat_eq part) through.overlay.lowers)
      (map (open_layer nat_eq world) through.overlay.lowers)
  lowers_same = all_alike part world through.overlay.lowers (λ l m. lower_view world names it.is l
      (among-flat_map (λ n. lowers_in (filesystem_numbered nat_eq world n)) (used_directly nat_eq world names) number l
      through.direct (rw through.can.overlay_there m)) (layer_directory world names it.is one there l
      (rw through.can.overlay_there (among-append_right (option_to_list through.overlay.upper ++ option_to_list
      through.overlay.work) through.overlay.lowers l m))))

  pub changed_in_world : with_change nat_eq through.supply world through.location through.change ≡ with_filesystems
      world moved
  changed_in_world = stepped_in_world through

  pub made_in_part : made_of through
      (stack_of nat_eq part through.overlay through.upper) two ≡ made_of through
      (stack_of nat_eq world through.overlay through.upper) two
  made_in_part =
      made_same (stack_of nat_eq part through.overlay through.upper) (stack_of nat_eq world through.overlay
      through.upper) refl refl lowers_same through.supply (record {
        files = one.files;
        real = through.overlay.real;
        upper = two.files;
      }) through.change

  pub changed_in_part : with_change nat_eq through.supply part through.location through.change ≡ with_filesystems part
      moved
  changed_in_part =
      stepped_if_made through part (sym through.alike) (layer_found through) made_in_part

  pub listed_in_world : changed_at nat_eq world through.location ≡ numbers
  listed_in_world = numbers_in_world through

  pub listed_in_part : changed_at nat_eq part through.location ≡ numbers
  listed_in_part = numbers_in_part through

  -- With the tasks that a call leaves
  module _ (left : Retasks world names names)
      (direct_now : Among number (used_directly nat_eq (record world { tasks = left.tasks }) names)) where
    abbrev later : World ℕ
    later = record world { tasks = left.tasks }

    one_used_now : is_among nat_eq one.number (used_filesystems nat_eq later names) ≡ true
    one_used_now = cc (one_number, used_directly_used later names number direct_now)

    two_used_now : is_among nat_eq two.number (used_filesystems nat_eq later names) ≡ true
    two_used_now = ap (λ n. is_among nat_eq n (used_filesystems nat_eq later names)) two_number
        ∙ upper_in_use later names number through.overlay through.upper through.can.overlay_there
        through.can.upper_there direct_now

    alone_there : (n : ℕ) → Alone
        (living_part it left moved) names n
    alone_there n = record {
      itself = no_others_there left world.change part.change n;
      overlays = λ merged m has. no_others_there left world.change part.change merged.number;
    }

    numbers_used : (n : ℕ) → Among n numbers → is_among nat_eq n (used_filesystems nat_eq later names) ≡ true
    numbers_used n m =
        ⊎_elim (λ e. cc one_used_now) (λ rest. ⊎_elim (λ e. cc two_used_now) (λ none. absurd none) rest) m

    pub changed_ends : (task : Task ℕ) → task_called world name ≡ Some task → (fresh : Fresh ℕ)
        (answer : Answer) → grown names name call (Ok answer) ≡ names → ran name call world fresh (Some task)
        ≡ granted answer (numbers_raised nat_eq world name numbers
        (settled nat_eq (with_filesystems (record world { tasks = left.tasks }) moved)))
        → ran name call part fresh (Some task) ≡ granted answer (numbers_raised nat_eq part name numbers
        (settled nat_eq (with_filesystems (record part { tasks = left.tasks_too }) moved)))
        → EndsAlike world names name call fresh fresh
    changed_ends task called fresh answer same_set =
        stepped_ends it left moved (theirs (used_filesystems nat_eq later names) one_used_now
        two_used_now (one_in_world world names it.is number (used_directly_used world names number through.direct))
        (one_in_world world names it.is through.upper.filesystem
        (upper_in_use world names number through.overlay through.upper through.can.overlay_there through.can.upper_there
        through.direct)) (alone left.sealing names left.tasks world.change left.lets one.number one_alone)
        (alone left.sealing names left.tasks world.change left.lets two.number two_alone))
        (theirs (used_filesystems nat_eq later names) one_used_now two_used_now
        (one_in_part world names it.is number (used_directly_used world names number through.direct))
        (one_in_part world names it.is through.upper.filesystem (upper_in_use world names number through.overlay
        through.upper through.can.overlay_there through.can.upper_there through.direct)) (alone_there one.number)
        (alone_there two.number)) numbers numbers_used task called fresh fresh answer same_set
