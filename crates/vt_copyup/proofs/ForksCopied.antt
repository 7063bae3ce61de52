-- What a fork makes is the definitions' copies of both paths.
use Rattle.std.proofs.Common.{◌≡◌, ◌≢◌, ◌∙◌, ◌⊎◌, ◌<◌, ◌∷◌, ◌++◌, [], ⊎_elim, append-nil, append_assoc, arith, ap, Bool, bytes_eq, eqb-true, false, inl, inr, is_some, length, List, map, nat_eq, None, option_map, Option, refl, reverse, Some, subst, suc, sym, true, true≢false, unwrap_or, zero, ℕ, if◌then◌else◌}
use Rattle.vt_spec.proofs.Common.{FileTree, Fresh, Make, Merge, Node, Stack, bytes_decides, changed, copied_up, evens, map-append, map_twice, none_is_some, number_at_path, odds, odds-distinct, same_Some}
use Rattle.vt_spec.specs.Rights.{Credentials}
use Rattle.vt_spec.specs.TreeInvariant.{IsDirectory}
use Rattle.vt_laws_trees.proofs.layers.layers.ShownPaths.{length_longer, one_path}
use Rattle.vt_laws_trees.proofs.overlays.changes.WholeTogether.{is_copied, still_unused}
use Rattle.vt_laws_trees.specs.Overlays.WhatIsShown.{IsWhole}
use Rattle.vt_laws_worlds.proofs.merging.upper.Places.{copies_are_of_prefixes, path_there, prefixes_lead_to_copies}
use Rattle.vt_laws_worlds.proofs.merging.upper.UpperKinds.{even_new}
use Rattle.vt_laws_worlds.proofs.seen.copied.InTurn.{copies_in_turn}
use Rattle.vt_laws_worlds.proofs.seen.copied.Stepping.{shows_the_same}
use Rattle.vt_laws_worlds.specs.Merging.UpperChanges.{AreNew, copied_to, copy_node, led_above, node_seen}
use Rattle.vt_laws_worlds.specs.Merging.UpperChanges.Place.{Named}
use Rattle.vt_laws_worlds.specs.Seen.CopySteps.{ArePlanned, Copy, made_in_turn}
use Rattle.vt_location.specs.declared.locations.InodeRef.{InodeRef}
use Rattle.vt_location.specs.declared.numbers.FilesystemId.{FilesystemId}
use Rattle.vt_location.specs.Locations.{inode_of}
use Rattle.vt_location.specs.Numbers.{inode_number}
use Rattle.vt_fs.specs.FilesystemsValue.{Filesystems, files_at}
use Rattle.vt_overlay.specs.declared.merge.layers.LayerRef.{LayerRef}
use Rattle.vt_copyup.specs.Copied.{bare}
use Rattle.vt_copyup.specs.ForkLaws.{AreMadeOf, ForksMakeCopies, with_fork}
use Rattle.vt_copyup.specs.Forks.{HeadsDiffer, IsForkOf, pieces_in, start_in}
use Rattle.vt_copyup.specs.Laws.{AreHanded}
use Rattle.vt_copyup.specs.Made.{Made, last_made, made_copies, made_copy}
use Rattle.vt_copyup.specs.Planned.{AreCopiesFrom, IsPlanOf, names_of, stack_of}
use Rattle.vt_copyup.specs.Plans.{copies_of, in_turn}
use Rattle.vt_copyup.specs.declared.forks.Fork.{Fork}
use Rattle.vt_copyup.specs.declared.plans.Piece.{Piece}
use Rattle.vt_copyup.specs.declared.plans.Plan.{Plan}
use Rattle.vt_copyup.specs.declared.plans.PlannedCopy.{PlannedCopy}
use Rattle.vt_copyup.proofs.Copies.{made_alike, plans_make}
use Rattle.vt_copyup.proofs.ForksMade.{names_both}
use Rattle.vt_copyup.proofs.ForksReady.{none_in, same_inode}
use Rattle.vt_copyup.proofs.Grown.{not_eq}
use Rattle.vt_copyup.proofs.Parted.{EndsAt, copies_back, parted}
use Rattle.vt_copyup.proofs.Stepping.{last_filesystem, last_number, last_number_is}

abbrev names : List Copy → List (List ℕ)
names copies = map (λ (copy : Copy). copy.name) copies

abbrev made_names : List Made → List (List ℕ)
made_names made = map (λ (one : Made). one.copy.name.items) made

-- copies made in two rows
in_two : (one two : List Copy) (files : FileTree ℕ) (directory : ℕ)
    → made_in_turn files directory (one ++ two)
    ≡ made_in_turn (made_in_turn files directory one) (last_number directory one) two
in_two [] two files directory = refl
in_two (copy ∷ one) two files directory = in_two one two
    (changed nat_eq files (Make directory copy.name copy.number (copy_node directory copy.node))) copy.number

-- a path is a front of another one, or not
is_front : (front path : List (List ℕ))
    → ((rest : List (List ℕ)) × (front ++ rest ≡ path)) ⊎ ((rest : List (List ℕ)) → front ++ rest ≢ path)
is_front [] path = inl (path, refl)
is_front (name ∷ front) [] = inr (λ rest e. absurd cc)
is_front (name ∷ front) (word ∷ path) = by (bytes_eq name word) refl (is_front front path)
  where
    by : (b : Bool) → bytes_eq name word ≡ b
        → ((rest : List (List ℕ)) × (front ++ rest ≡ path)) ⊎ ((rest : List (List ℕ)) → front ++ rest ≢ path)
        → ((rest : List (List ℕ)) × ((name ∷ front) ++ rest ≡ word ∷ path))
        ⊎ ((rest : List (List ℕ)) → (name ∷ front) ++ rest ≢ word ∷ path)
    by false e later = inr (λ rest same.
        let head : name ≡ word = cc in true≢false (sym ((bytes_decides name word).1 head) ∙ e))
    by true e later = ⊎_elim
        (λ (at : (rest : List (List ℕ)) × (front ++ rest ≡ path)).
        inl (at.0, λ i. (bytes_decides name word).0 e i ∷ at.1 i))
        (λ (no : (rest : List (List ℕ)) → front ++ rest ≢ path). inr (λ rest same. no rest (cc))) later

module _ (fresh : Fresh ℕ) (stack : Stack ℕ) (files : FileTree ℕ) where
  -- the first name of what is planned leads nowhere,
  pub ends_by : (front : List (List ℕ)) (copies : List Copy) → ArePlanned fresh stack files front copies
      → EndsAt files.tree stack.directory front (names copies)
  ends_by front [] planned = tt
  ends_by front (copy ∷ copies) planned = planned.0

  -- nor does any further one
  planned_nowhere : (front : List (List ℕ)) (copies : List Copy) → ArePlanned fresh stack files front copies
      → (before : List (List ℕ)) (name : List ℕ) (after : List (List ℕ)) → before ++ name ∷ after ≡ names copies
      → led_above stack files ((front ++ before) ++ name ∷ []) ≡ None
  planned_nowhere front [] planned [] name after is = absurd cc
  planned_nowhere front [] planned (first ∷ before) name after is = absurd cc
  planned_nowhere front (copy ∷ copies) planned [] name after is =
      let head : name ≡ copy.name = cc in
      ap (λ p. led_above stack files (p ++ name ∷ [])) (append-nil front)
      ∙ ap (λ n. led_above stack files (front ++ n ∷ [])) head ∙ planned.0
  planned_nowhere front (copy ∷ copies) planned (first ∷ before) name after is =
      let head : first ≡ copy.name = cc in
      let rest : before ++ name ∷ after ≡ names copies = cc in
      ap (λ p. led_above stack files (p ++ name ∷ [])) (sym (append_assoc front (first ∷ []) before)
      ∙ ap (λ n. (front ++ n ∷ []) ++ before) head)
      ∙ planned_nowhere (front ++ copy.name ∷ []) copies planned.3 before name after rest

  -- where so many copies end
  prefix_so : (f : FilesystemId) (copies : List Copy) (shared rest : List Made) (front : List (List ℕ)) (slot : ℕ)
      → unwrap_or (led_above stack files front) (fresh (length front)) ≡ inode_number f.count slot
      → ArePlanned fresh stack files front copies → names copies ≡ made_names (shared ++ rest)
      → AreHanded fresh f.count (length front) (shared ++ rest)
      → unwrap_or (led_above stack files (front ++ made_names shared)) (fresh (length (front ++ made_names shared)))
      ≡ inode_of (last_made (record { filesystem = f; slot = slot }) shared)
  prefix_so f copies [] rest front slot is planned same handed =
      ap (λ p. unwrap_or (led_above stack files p) (fresh (length p))) (append-nil front) ∙ is
  prefix_so f [] (one ∷ shared) rest front slot is planned same handed = absurd cc
  prefix_so f (copy ∷ copies) (one ∷ shared) rest front slot is planned same handed =
      let head : one.copy.name.items ≡ copy.name = cc in
      let longer = length_longer front copy.name in
      let here : unwrap_or (led_above stack files (front ++ copy.name ∷ []))
      (fresh (length (front ++ copy.name ∷ []))) ≡ inode_number f.count one.slot =
      ap (λ o. unwrap_or o (fresh (length (front ++ copy.name ∷ [])))) planned.0 ∙ ap fresh longer ∙ sym handed.0 in
      let left : names copies ≡ made_names (shared ++ rest) = cc in
      ap (λ p. unwrap_or (led_above stack files p) (fresh (length p)))
      (sym (append_assoc front (one.copy.name.items ∷ []) (made_names shared))
      ∙ ap (λ n. (front ++ n ∷ []) ++ made_names shared) head)
      ∙ prefix_so f copies shared rest (front ++ copy.name ∷ []) one.slot here planned.3 left
      (subst (λ n. AreHanded fresh f.count n (shared ++ rest)) (sym longer) handed.1)

module _ (fresh : Fresh ℕ) (mounter : Credentials) (merge : Merge ℕ) (trees : Filesystems) (upper : LayerRef)
    (lowers : List LayerRef) (overlay : FilesystemId) (path other : List (List ℕ)) (object : ℕ) (first second : Plan)
    (fork : Fork) (shared made last : List Made)
    (is : IsPlanOf true trees upper lowers overlay path first)
    (next : IsPlanOf true trees upper lowers overlay other second) (forked : IsForkOf trees first second fork)
    (whole : IsWhole (stack_of trees upper lowers mounter) merge)
    (same_upper : merge.upper ≡ files_at trees upper.directory.filesystem.count) (new : AreNew fresh merge.upper)
    (leads : number_at_path merge.files path ≡ Some object)
    (there : 0 < length fork.shared.pieces.items → IsDirectory merge.upper.tree (inode_of fork.directory))
    (are : AreMadeOf fork shared made last)
    (handed : AreHanded (evens fresh) upper.directory.filesystem.count (length is.front) (shared ++ made))
    (last_handed : AreHanded (odds fresh) upper.directory.filesystem.count
    (length (next.front ++ names_of forked.twice)) last) where
  abbrev stack : Stack ℕ
  stack = stack_of trees upper lowers mounter

  abbrev f : FilesystemId
  f = upper.directory.filesystem

  abbrev even : Fresh ℕ
  even = evens fresh

  abbrev odd : Fresh ℕ
  odd = odds fresh

  abbrev copied : FileTree ℕ
  copied = copied_to even stack merge.upper path

  abbrev front : List (List ℕ)
  front = next.front ++ names_of forked.twice

  abbrev shared_names : List (List ℕ)
  shared_names = names_of (pieces_in fork.shared)

  abbrev first_names : List (List ℕ)
  first_names = names_of (pieces_in fork.first)

  abbrev last_names : List (List ℕ)
  last_names = names_of (pieces_in fork.second)

  abbrev here : InodeRef
  here = last_made fork.directory shared

  abbrev start : InodeRef
  start = start_in fork here

  new_even : AreNew even merge.upper
  new_even = even_new fresh merge.upper new

  some_path : is_some (number_at_path merge.files path) ≡ true
  some_path = ap is_some leads

  object_there : is_some (merge.files.tree.node object) ≡ true
  object_there = path_there stack merge whole path object leads

  first_own : fork.directory.filesystem ≡ f
  first_own = ap (λ (l : InodeRef). l.filesystem) forked.directory ∙ is.filesystem

  -- the plans, in the tree of the upper layer
  first_led : led_above stack merge.upper is.front ≡ Some (inode_of first.directory)
  first_led = ap (λ files. led_above stack files is.front) same_upper ∙ is.leads

  second_led : led_above stack merge.upper next.front ≡ Some (inode_of second.directory)
  second_led = ap (λ files. led_above stack files next.front) same_upper ∙ next.leads

  first_planned : ArePlanned even stack merge.upper is.front (is.planned even mounter).copies
  first_planned = subst (λ files. ArePlanned even stack files is.front (is.planned even mounter).copies)
      (sym same_upper) (is.planned even mounter).planned

  second_planned : ArePlanned even stack merge.upper next.front (next.planned even mounter).copies
  second_planned = subst (λ files. ArePlanned even stack files next.front (next.planned even mounter).copies)
      (sym same_upper) (next.planned even mounter).planned

  all_names : names_of (in_turn first) ≡ shared_names ++ first_names
  all_names = ap names_of forked.first_is ∙ names_both (pieces_in fork.shared) (pieces_in fork.first)

  other_names : names_of (in_turn second) ≡ names_of forked.twice ++ last_names
  other_names = ap names_of forked.second_is ∙ names_both forked.twice (pieces_in fork.second)

  path_is : path ≡ is.front ++ (shared_names ++ first_names)
  path_is = sym is.whole ∙ ap (λ l. is.front ++ l) all_names

  other_is : front ++ last_names ≡ other
  other_is = append_assoc next.front (names_of forked.twice) last_names
      ∙ ap (λ l. next.front ++ l) (sym other_names) ∙ next.whole

  -- no further path of the second object is a front of the first
  never : (name : List ℕ) (words : List (List ℕ)) → last_names ≡ name ∷ words → (more rest : List (List ℕ))
      → (front ++ name ∷ more) ++ rest ≢ path
  never name words same more rest at =
      parted merge.upper.tree stack.directory is.front next.front (inode_of first.directory) (inode_of second.directory)
      first_led second_led (names_of forked.twice) shared_names first_names forked.same
      (subst (EndsAt merge.upper.tree stack.directory is.front) ((is.planned even mounter).names ∙ all_names)
      (ends_by even stack merge.upper is.front (is.planned even mounter).copies first_planned))
      name words
      (subst (EndsAt merge.upper.tree stack.directory next.front) ((next.planned even mounter).names ∙ other_names
      ∙ ap (λ l. names_of forked.twice ++ l) same)
      (ends_by even stack merge.upper next.front (next.planned even mounter).copies second_planned))
      (λ one. subst (HeadsDiffer first_names) same (forked.differ (same_inode first.directory second.directory
      (is.filesystem ∙ sym next.filesystem) one)))
      more rest (at ∙ path_is)

  -- the first copies
  made_all : map (λ (one : Made). one.copy) (shared ++ made) ≡ copies_of (in_turn first)
  made_all = map-append (λ (one : Made). one.copy) shared made
      ∙ (λ i. are.shared_are i ++ are.made_are i)
      ∙ sym (map-append (λ (piece : Piece). piece.copy) (pieces_in fork.shared) (pieces_in fork.first))
      ∙ ap copies_of (sym forked.first_is)

  first_copied : copied ≡ made_in_turn (made_in_turn merge.upper (inode_of fork.directory) (made_copies f.count shared))
      (inode_of here) (made_copies f.count made)
  first_copied =
      plans_make even mounter merge trees upper lowers overlay path first (shared ++ made) is whole same_upper new_even
      made_all handed
      ∙ ap (λ (l : InodeRef). made_in_turn merge.upper (inode_of l) (made_copies f.count (shared ++ made)))
      (sym forked.directory)
      ∙ ap (made_in_turn merge.upper (inode_of fork.directory)) (map-append (made_copy f.count) shared made)
      ∙ in_two (made_copies f.count shared) (made_copies f.count made) merge.upper (inode_of fork.directory)
      ∙ ap (λ n. made_in_turn (made_in_turn merge.upper (inode_of fork.directory) (made_copies f.count shared)) n
      (made_copies f.count made)) (sym (subst (λ (id : FilesystemId). inode_of here
      ≡ last_number (inode_of fork.directory) (made_copies id.count shared)) first_own
      (last_number_is shared fork.directory)))

  -- the layers with them
  abbrev now : Merge ℕ
  now = copied_up nat_eq even merge object

  now_whole : IsWhole stack now
  now_whole = (is_copied fresh whole new.distinct new.unused object object_there).whole

  now_upper : now.upper ≡ copied
  now_upper = (copies_are_of_prefixes even stack merge object (Named path) whole new_even object_there leads).0

  now_new : AreNew odd now.upper
  now_new = record {
    distinct = odds-distinct fresh new.distinct;
    unused = still_unused fresh whole new.distinct new.unused object object_there;
  }

  on_front : (front rest : List (List ℕ)) → front ++ rest ≡ path
      → led_above stack copied front ≡ Some (unwrap_or (led_above stack merge.upper front) (even (length front)))
  on_front = (prefixes_lead_to_copies even stack merge whole new_even path some_path).0

  off_front : (other : List (List ℕ)) → ((rest : List (List ℕ)) → other ++ rest ≢ path)
      → led_above stack copied other ≡ led_above stack merge.upper other
  off_front = (prefixes_lead_to_copies even stack merge whole new_even path some_path).1

  -- where the second copies begin
  none_led : length fork.shared.pieces.items ≡ 0 → led_above stack copied front ≡ Some (inode_of start)
  none_led none = ap (led_above stack copied) front_is
      ∙ ⊎_elim (λ (at : (rest : List (List ℕ)) × (next.front ++ rest ≡ path)). on_front next.front at.0 at.1
      ∙ ap (λ o. Some (unwrap_or o (even (length next.front)))) second_led)
      (λ (no : (rest : List (List ℕ)) → next.front ++ rest ≢ path). off_front next.front no ∙ second_led)
      (is_front next.front path)
      ∙ ap (λ (l : InodeRef). Some (inode_of l)) (sym start_is)
    where
      no_names : names_of forked.twice ≡ []
      no_names = forked.same ∙ ap (λ l. names_of (reverse l))
          (none_in fork.shared.pieces.items none)

      front_is : front ≡ next.front
      front_is = ap (λ l. next.front ++ l) no_names ∙ append-nil next.front

      start_is : start ≡ second.directory
      start_is = ap (λ n. if nat_eq n 0 then fork.other else here) none ∙ forked.other

  some_led : 0 < length fork.shared.pieces.items → led_above stack copied front ≡ Some (inode_of start)
  some_led some = ap (led_above stack copied) front_is
      ∙ on_front (is.front ++ shared_names) first_names (append_assoc is.front shared_names first_names ∙ sym path_is)
      ∙ ap Some ends ∙ ap (λ (l : InodeRef). Some (inode_of l)) (sym start_is)
    where
      slots : first.directory ≡ second.directory
      slots =
          let own : first.directory.filesystem ≡ second.directory.filesystem = is.filesystem ∙ sym next.filesystem in
          let slot = forked.beside some in
          (λ i. record { filesystem = own i; slot = slot i })

      one_front : next.front ≡ is.front
      one_front = one_path merge.upper.tree (whole.layers 0 (record {
        tree = merge.upper.tree;
        directory = inode_of upper.directory;
      }) refl).0 stack.directory next.front is.front (inode_of fork.directory)
          (second_led ∙ ap (λ (l : InodeRef). Some (inode_of l)) (sym slots ∙ sym forked.directory))
          (first_led ∙ ap (λ (l : InodeRef). Some (inode_of l)) (sym forked.directory)) (there some)

      front_is : front ≡ is.front ++ shared_names
      front_is = λ i. one_front i ++ forked.same i

      start_is : start ≡ here
      start_is = ap (λ b. if b then fork.other else here) (not_eq (length fork.shared.pieces.items) 0
          (λ e. let no : ⊥ = omega (arith, some, e) in no))

      shared_made : shared_names ≡ made_names shared
      shared_made = sym (map_twice (λ (copy : PlannedCopy). copy.name.items) (λ (piece : Piece). piece.copy)
          (pieces_in fork.shared))
          ∙ ap (map (λ (copy : PlannedCopy). copy.name.items)) (sym are.shared_are)
          ∙ map_twice (λ (copy : PlannedCopy). copy.name.items) (λ (one : Made). one.copy) shared

      same_names : names (is.planned even mounter).copies ≡ made_names (shared ++ made)
      same_names = (is.planned even mounter).names
          ∙ sym (map_twice (λ (copy : PlannedCopy). copy.name.items) (λ (piece : Piece). piece.copy) (in_turn first))
          ∙ ap (map (λ (copy : PlannedCopy). copy.name.items)) (sym made_all)
          ∙ map_twice (λ (copy : PlannedCopy). copy.name.items) (λ (one : Made). one.copy) (shared ++ made)

      begin : unwrap_or (led_above stack merge.upper is.front) (even (length is.front))
          ≡ inode_number f.count fork.directory.slot
      begin = ap (λ o. unwrap_or o (even (length is.front))) first_led
          ∙ ap (λ (l : InodeRef). inode_of l) (sym forked.directory)
          ∙ ap (λ (id : FilesystemId). inode_number id.count fork.directory.slot) first_own

      last_is : inode_of (last_made (record { filesystem = f; slot = fork.directory.slot }) shared) ≡ inode_of here
      last_is = λ i. inode_of (last_made (record { filesystem = sym first_own i; slot = fork.directory.slot }) shared)

      ends : unwrap_or (led_above stack merge.upper (is.front ++ shared_names))
          (even (length (is.front ++ shared_names))) ≡ inode_of here
      ends = ap (λ l. unwrap_or (led_above stack merge.upper (is.front ++ l)) (even (length (is.front ++ l)))) shared_made
          ∙ prefix_so even stack merge.upper f (is.planned even mounter).copies shared made is.front fork.directory.slot
          begin first_planned same_names handed
          ∙ last_is

  start_led : led_above stack copied front ≡ Some (inode_of start)
  start_led = by (nat_eq (length fork.shared.pieces.items) 0) refl
    where
      some_so : (n : ℕ) → nat_eq n 0 ≡ false → 0 < n
      some_so zero e = absurd (true≢false e)
      some_so (suc n) e = omega arith

      by : (b : Bool) → nat_eq (length fork.shared.pieces.items) 0 ≡ b
          → led_above stack copied front ≡ Some (inode_of start)
      by true e = none_led (eqb-true (length fork.shared.pieces.items) 0 e)
      by false e = some_led (some_so (length fork.shared.pieces.items) e)

  -- the second copies, as they are planned then
  record Then (from : List (List ℕ)) (pieces : List Piece) : Type 0 where
    copies : List Copy
    planned : ArePlanned odd stack copied from copies
    same_names : names copies ≡ names_of pieces
    nodes : map (λ (copy : Copy). bare copy.node) copies ≡ map (λ (piece : Piece). piece.copy.node) pieces

  -- what is seen is copied alike
  seen_then : (way : List (List ℕ)) (node : Node ℕ) → node_seen stack merge.upper way ≡ Some node
      → (now_node : Node ℕ) × (node_seen stack copied way ≡ Some now_node) × (bare now_node ≡ bare node)
  seen_then way node e = by (node_seen stack copied way) refl
      (shows_the_same even stack merge whole new_even path way object 0 leads ∙ ap (option_map (copy_node 0)) e)
    where
      by : (o : Option (Node ℕ)) → node_seen stack copied way ≡ o
          → option_map (copy_node 0) (node_seen stack copied way) ≡ Some (copy_node 0 node)
          → (now_node : Node ℕ) × (node_seen stack copied way ≡ Some now_node) × (bare now_node ≡ bare node)
      by None o same = none_is_some (copy_node 0 node) (sym (ap (option_map (copy_node 0)) o) ∙ same)
      by (Some now_node) o same = (
        now_node,
        o,
        same_Some (copy_node 0 now_node) (copy_node 0 node)
            (sym (ap (option_map (copy_node 0)) o) ∙ same),
      )

  then_planned : (before : List (List ℕ)) (pieces : List Piece) → before ++ names_of pieces ≡ last_names
      → AreCopiesFrom true trees (upper ∷ lowers) overlay (front ++ before) pieces → Then (front ++ before) pieces
  then_planned before [] same copies = record { copies = []; planned = tt; same_names = refl; nodes = refl }
  then_planned before (piece ∷ pieces) same copies =
      let word = piece.copy.name.items in
      let way = (front ++ before) ++ word ∷ [] in
      let seen = seen_then way copies.0.inode (ap (λ files. node_seen stack files way) same_upper ∙ copies.0.shows) in
      let longer : (front ++ before) ++ word ∷ [] ≡ front ++ (before ++ word ∷ []) =
      append_assoc front before (word ∷ []) in
      let after = then_planned (before ++ word ∷ []) pieces (append_assoc before (word ∷ []) (names_of pieces) ∙ same)
      (subst (λ p. AreCopiesFrom true trees (upper ∷ lowers) overlay p pieces) longer copies.1) in
      record {
        copies = record { name = word; node = seen.0; number = odd (length way) } ∷ after.copies;
        planned = (
          none_then before word (names_of pieces) same,
          seen.1,
          refl,
          subst (λ p. ArePlanned odd stack copied p after.copies) (sym longer) after.planned,
        );
        same_names = ap (λ l. word ∷ l) after.same_names;
        nodes = λ i. (seen.2 ∙ sym copies.0.node) i ∷ after.nodes i;
      }
    where
      none_then : (before : List (List ℕ)) (word : List ℕ) (words : List (List ℕ))
          → before ++ word ∷ words ≡ last_names → led_above stack copied ((front ++ before) ++ word ∷ []) ≡ None
      none_then before word words same =
          off_front ((front ++ before) ++ word ∷ []) (λ rest at. no_front before word words same rest at)
          ∙ ap (λ p. led_above stack merge.upper (p ++ word ∷ []))
          (append_assoc next.front (names_of forked.twice) before)
          ∙ planned_nowhere even stack merge.upper next.front (next.planned even mounter).copies second_planned
          (names_of forked.twice ++ before) word words
          (append_assoc (names_of forked.twice) before (word ∷ words)
          ∙ ap (λ l. names_of forked.twice ++ l) same ∙ sym other_names ∙ sym (next.planned even mounter).names)
        where
          no_front : (before : List (List ℕ)) (word : List ℕ) (words : List (List ℕ))
              → before ++ word ∷ words ≡ last_names → (rest : List (List ℕ))
              → ((front ++ before) ++ word ∷ []) ++ rest ≢ path
          no_front [] word words same rest at = never word words (sym same) [] rest
              (ap (λ p. (p ++ word ∷ []) ++ rest) (sym (append-nil front)) ∙ at)
          no_front (name ∷ before) word words same rest at = never name (before ++ word ∷ words) (sym same)
              (before ++ word ∷ []) rest
              (ap (λ p. p ++ rest) (sym (append_assoc front (name ∷ before) (word ∷ []))) ∙ at)

  second_copies : AreCopiesFrom true trees (upper ∷ lowers) overlay front (pieces_in fork.second)
  second_copies = copies_back trees (upper ∷ lowers) overlay true next.front forked.twice
      (pieces_in fork.second)
      (subst (AreCopiesFrom true trees (upper ∷ lowers) overlay next.front) forked.second_is next.copies)

  then_all : Then front (pieces_in fork.second)
  then_all = subst (λ p. Then p (pieces_in fork.second)) (append-nil front)
      (then_planned [] (pieces_in fork.second) refl
      (subst (λ p. AreCopiesFrom true trees (upper ∷ lowers) overlay p (pieces_in fork.second))
      (sym (append-nil front)) second_copies))

  second_copied : copied_to odd stack copied other
      ≡ made_in_turn copied (inode_of start) (made_copies f.count last)
  second_copied =
      ap (copied_to odd stack copied) (sym (ap (λ l. front ++ l) then_all.same_names ∙ other_is))
      ∙ subst (λ files. copied_to odd stack files (front ++ names then_all.copies)
      ≡ made_in_turn files (inode_of start) then_all.copies) now_upper
      (copies_in_turn odd stack now now_whole now_new front (inode_of start) then_all.copies
      (ap (λ files. led_above stack files front) now_upper ∙ start_led)
      (subst (λ files. ArePlanned odd stack files front then_all.copies) (sym now_upper) then_all.planned))
      ∙ made_alike odd stack copied f.count then_all.copies last front copied (inode_of start) then_all.planned
      (then_all.same_names ∙ sym (map_twice (λ (copy : PlannedCopy). copy.name.items) (λ (piece : Piece). piece.copy)
      (pieces_in fork.second)) ∙ ap (map (λ (copy : PlannedCopy). copy.name.items)) (sym are.last_are)
      ∙ map_twice (λ (copy : PlannedCopy). copy.name.items) (λ (one : Made). one.copy) last)
      (then_all.nodes ∙ sym (map_twice (λ (copy : PlannedCopy). copy.node) (λ (piece : Piece). piece.copy)
      (pieces_in fork.second)) ∙ ap (map (λ (copy : PlannedCopy). copy.node)) (sym are.last_are)
      ∙ map_twice (λ (copy : PlannedCopy). copy.node) (λ (one : Made). one.copy) last)
      last_handed

  -- and the second path leads to the last of its copies
  pub leads_to_last : is_some (number_at_path merge.files other) ≡ true
      → led_above stack (copied_to odd stack copied other) other ≡ Some (inode_of (last_made start last))
  leads_to_last some_other = ap (λ files. led_above stack (copied_to odd stack files other) other) (sym now_upper)
      ∙ (prefixes_lead_to_copies odd stack now now_whole now_new other some_now).0 other [] (append-nil other)
      ∙ ap (λ files. Some (unwrap_or (led_above stack files other) (odd (length other)))) now_upper
      ∙ ap (λ p. Some (unwrap_or (led_above stack copied p) (odd (length p)))) (sym ends_at)
      ∙ ap Some (prefix_so odd stack copied f then_all.copies last [] front start.slot begin then_all.planned
      (then_all.same_names ∙ sym names_last ∙ ap made_names (sym (append-nil last)))
      (subst (AreHanded odd f.count (length front)) (sym (append-nil last)) last_handed))
      ∙ ap (λ (l : InodeRef). Some (inode_of (last_made l last))) start_is
    where
      some_now : is_some (number_at_path now.files other) ≡ true
      some_now = ap (λ files. is_some (number_at_path files other))
          (is_copied fresh whole new.distinct new.unused object object_there).files ∙ some_other

      names_last : made_names last ≡ last_names
      names_last = sym (map_twice (λ (copy : PlannedCopy). copy.name.items) (λ (one : Made). one.copy) last)
          ∙ ap (map (λ (copy : PlannedCopy). copy.name.items)) are.last_are
          ∙ map_twice (λ (copy : PlannedCopy). copy.name.items) (λ (piece : Piece). piece.copy) (pieces_in fork.second)

      ends_at : front ++ made_names last ≡ other
      ends_at = ap (λ l. front ++ l) names_last ∙ other_is

      start_own : start.filesystem ≡ f
      start_own = by (nat_eq (length fork.shared.pieces.items) 0)
        where
          by : (b : Bool) → (if b then fork.other else here).filesystem ≡ f
          by true = ap (λ (l : InodeRef). l.filesystem) forked.other ∙ next.filesystem
          by false = last_filesystem shared fork.directory ∙ first_own

      start_is : record { filesystem = f; slot = start.slot } ≡ start
      start_is = λ i. record { filesystem = sym start_own i; slot = start.slot }

      begin : unwrap_or (led_above stack copied front) (odd (length front)) ≡ inode_number f.count start.slot
      begin = ap (λ o. unwrap_or o (odd (length front))) start_led
          ∙ ap (λ (id : FilesystemId). inode_number id.count start.slot) start_own

  both_copied : copied_to odd stack copied other ≡ with_fork merge.upper f.count fork shared made last
  both_copied = second_copied
      ∙ ap (λ files. made_in_turn files (inode_of start) (made_copies f.count last)) first_copied

pub forks_make : ForksMakeCopies
forks_make fresh mounter merge trees upper lowers overlay path other object first second fork shared made last is next
    forked whole same_upper new leads there are handed last_handed =
    both_copied fresh mounter merge trees upper lowers overlay path other object first second fork shared made last is next
    forked whole same_upper new leads there are handed last_handed
