-- What goes when trees change, in worlds with overlays.
use Rattle.std.proofs.Common.{arith, ◌≡◌, None, refl, sym, ap, subst, ◌∙◌, ◌⊎◌, inl, inr, ⊎_elim, ℕ, nat_eq, eqb-true, eq-eqb, Bool, true, false, cond, ◌||◌, ◌&&◌, List, [], ◌∷◌, map, ◌++◌, true≢false, All}
use Rattle.vt_spec.proofs.Common.{FileTree, Filesystem, World, any_pair, common_steps, filesystem_lives, filesystem_numbered, has_layer_on, is_among, is_among_left, is_among_right, is_overlay, layers_in, layers_of, list_all, list_any, list_any-append, located_in, named_in, of_overlay, or_cases, replaced_if_numbered, settled, taken_away, with_files, without_dead_filesystems, without_dead_mounts}
use Rattle.vt_laws_mounts.specs.LettingGo.InUse.{FilesystemsInUse, HasTrees, IsListedTree, UppersArePlain, has_upper_in, is_inode_used}
use Rattle.vt_laws_mounts.specs.LettingGo.LeavingOverlays.{IsSettled, used_with_layers}
use Rattle.vt_laws_mounts.specs.LettingGo.Leaving.{with_tasks}
use Rattle.vt_laws_mounts.specs.LettingGo.Unmounting.{groups_of_mounts}
use Rattle.vt_laws_mounts.specs.LettingGo.Mounting.{places_lost}
use Rattle.vt_laws_mounts.specs.LettingGo.MountingOverlays.{used_by_gone_with_layers}
use Rattle.vt_laws_mounts.specs.LettingGo.OneByOne.{AllInUseBut, FilesystemsInUseBut, GroupsInUseBut, Inode, InodesInUseBut, Losers, is_inode_among, is_used_or_among}
use Rattle.vt_laws_mounts.specs.LettingGo.Overlays.{RealsAreThere, let_go_all_inodes, real_in}
use Rattle.vt_laws_mounts.specs.LettingGo.TreeChanges.{ChangesTree}
use Rattle.vt_laws_mounts.specs.LettingGo.TreesOverlays.{ChangedTreesKeepAll, ChangedTreesLetGo, ChangesFilesystem, LeftAndChangedLetsGo, OpenedKeepsAll, TakenAndChangedLetsGo, UnnamedGoWithOverlays, in_use_of, upper_objects, with_filesystems, with_lost}
use Rattle.vt_laws_mounts.proofs.letting_go.sweeps.InUse.{layers_stay, filesystems_stay, layers_on, mounts_stay, no_objects}
use Rattle.vt_laws_mounts.proofs.letting_go.leaving.LeftWithOverlays.{leaving_but}
use Rattle.vt_laws_mounts.proofs.letting_go.Lists.{Among, all_from_among, among-filter, among-flat_map, among-from_filter, among-from_flat_map, among-from_map, among-map, among_from_all, among_from_list_all, among_numbers, any_from_among, is_among_numbers, list_all_from_among, or_left, or_right}
use Rattle.vt_laws_mounts.proofs.letting_go.mounting.Unmounted.{event_groups}
use Rattle.vt_laws_mounts.proofs.letting_go.mounting.MountingOverlays.{all_but_those}
use Rattle.vt_laws_mounts.proofs.letting_go.mounting.MountingTaken
use Rattle.vt_laws_mounts.proofs.letting_go.mounting.MountingTaken.{hands_on, loses, taken_is}
use Rattle.vt_laws_mounts.proofs.letting_go.sweeps.OfWorlds.{found_filesystem}
use Rattle.vt_laws_mounts.proofs.letting_go.sweeps.WithOverlays.{with_overlays_all_goes}

-- a test of what is changed
pub any_changed : {A : Type 0} (change : A → A) (p q : A → Bool) (list : List A)
    → ((x : A) → Among x list → p (change x) ≡ q x) → list_any p (map change list) ≡ list_any q list
any_changed change p q [] same = refl
any_changed change p q (x ∷ xs) same = cc (same x (inl refl), any_changed change p q xs (λ y m. same y (inr m)))

-- Where filesystems keep their numbers and layers, the same are in use
module _ (world : World ℕ) (change : Filesystem ℕ → Filesystem ℕ)
    (number_kept : (f : Filesystem ℕ) → Among f world.filesystems → (change f).number ≡ f.number)
    (layers_kept : (f : Filesystem ℕ) → Among f world.filesystems
    → of_overlay [] layers_of (change f) ≡ of_overlay [] layers_of f) where
  same_layers_on : (number : ℕ) (f : Filesystem ℕ) → Among f world.filesystems
      → has_layer_on nat_eq number (change f) ≡ has_layer_on nat_eq number f
  same_layers_on number f m = cc (layers_on world number (change f), layers_kept f m, layers_on world number f)

  pub lives_alike : (f : Filesystem ℕ) → Among f world.filesystems
      → filesystem_lives nat_eq (with_filesystems world change) (change f) ≡ filesystem_lives nat_eq world f
  lives_alike f m = grind (arith, common_steps, any_changed, same_layers_on)

-- In a world in which all but some is in use, all but those and what lost its last name or overlay is in use then
module _ (world : World ℕ) (losers : Losers) (but : AllInUseBut losers world) (change : Filesystem ℕ → Filesystem ℕ)
    (lost : List Inode) (changes : All (λ f. ChangesFilesystem (in_use_of (with_filesystems world change)) lost f
    (change f)) world.filesystems) where
  abbrev after : World ℕ
  after = with_filesystems world change

  abbrev mounted : World ℕ
  mounted = without_dead_mounts nat_eq world

  abbrev living : World ℕ
  living = without_dead_filesystems nat_eq mounted

  abbrev last : World ℕ
  last = in_use_of after

  abbrev inodes : List Inode
  inodes = losers.inodes ++ lost

  changed_so : (f : Filesystem ℕ) → Among f world.filesystems → ChangesFilesystem last lost f (change f)
  changed_so f m = among_from_all (λ x. ChangesFilesystem last lost x (change x)) world.filesystems changes f m

  same_lives : (f : Filesystem ℕ) → Among f world.filesystems
      → filesystem_lives nat_eq (without_dead_mounts nat_eq after) (change f) ≡ filesystem_lives nat_eq mounted f
  same_lives f m = lives_alike mounted change (λ g n. ChangesFilesystem.number (changed_so g n))
      (λ g n. ChangesFilesystem.layers (changed_so g n)) f m

  filesystems_but : FilesystemsInUseBut losers.filesystems (without_dead_mounts nat_eq after)
  filesystems_but = list_all_from_among _ _ (λ x m. let from = among-from_map change _ x m in
      ap (λ f. is_among nat_eq f.number losers.filesystems || filesystem_lives nat_eq (without_dead_mounts nat_eq after)
      f) from.2 ∙ ap (λ b. is_among nat_eq (change from.0).number losers.filesystems || b) (same_lives from.0 from.1)
      ∙ ap (λ n. is_among nat_eq n losers.filesystems || filesystem_lives nat_eq mounted from.0)
      (ChangesFilesystem.number (changed_so from.0 from.1)) ∙ among_from_list_all _ _ but.filesystems from.0 from.1)

  -- what lives is what lived
  from_living : (f : Filesystem ℕ) → Among f living.filesystems
      → Among f world.filesystems × (filesystem_lives nat_eq mounted f ≡ true)
  from_living f m = among-from_filter _ _ f m

  lives_still : (f : Filesystem ℕ) → Among f living.filesystems → Among (change f) last.filesystems
  lives_still f m =
      let was = from_living f m in
      among-filter _ _ _ (among-map change _ f was.0) (same_lives f was.0 ∙ was.1)

  lived : (x : Filesystem ℕ) → Among x last.filesystems
      → (f : Filesystem ℕ) × Among f living.filesystems × (x ≡ change f)
  lived x m =
      let now = among-from_filter _ _ x m in
      let from = among-from_map change _ x now.0 in (
        from.0,
        among-filter _ _ from.0 from.1 (sym (same_lives from.0 from.1)
            ∙ ap (filesystem_lives nat_eq (without_dead_mounts nat_eq after)) (sym from.2) ∙ now.1),
        from.2,
      )

  so_living : (f : Filesystem ℕ) → Among f living.filesystems → ChangesFilesystem last lost f (change f)
  so_living f m = changed_so f (from_living f m).0

  layers_still : (filesystem number : ℕ) → Among number (layers_in nat_eq living filesystem)
      → Among number (layers_in nat_eq last filesystem)
  layers_still = layers_stay living last (λ f m. (change f, lives_still f m, ChangesFilesystem.layers (so_living f m)))

  -- a real object is one still, or may go
  object_left : (filesystem number : ℕ) → Among number (upper_objects living filesystem)
      → Among number (upper_objects last filesystem) ⊎ (is_inode_among filesystem number lost ≡ true)
  object_left filesystem number m =
      let one = among-from_flat_map _ _ number m in
      ⊎_elim (λ still. inl (among-flat_map _ _ _ number (lives_still one.0 one.1) (among_numbers number _ still))) inr
      (or_cases _ _ (among_from_list_all _ _ (ChangesFilesystem.objects (so_living one.0 one.1) filesystem) number
      one.2))

  module _ (f : Filesystem ℕ) (there : Among f living.filesystems) where
    abbrev now : Filesystem ℕ
    now = change f

    so : ChangesFilesystem last lost f now
    so = so_living f there

    abbrev names : List ℕ
    names = now.files.tree.root ∷ named_in now.files

    abbrev located : List ℕ
    located = located_in nat_eq living now.number

    abbrev layers : List ℕ
    layers = layers_in nat_eq last now.number

    used : (number : ℕ) → is_inode_used last now number ≡ true → is_used_or_among inodes last now number ≡ true
    used number h = or_right _ _ h

    among_losers : (number : ℕ) → is_inode_among now.number number inodes ≡ true
        → is_used_or_among inodes last now number ≡ true
    among_losers number h = or_left _ _ h

    may_go : (number : ℕ) → is_inode_among f.number number lost ≡ true → is_used_or_among inodes last now number ≡ true
    may_go number h = among_losers number
        (list_any-append (λ (inode : Inode). nat_eq now.number inode.0 && nat_eq number inode.1) losers.inodes lost
        ∙ or_right (is_inode_among now.number number losers.inodes) (is_inode_among now.number number lost)
        (cc (ChangesFilesystem.number so)))

    could_go : (number : ℕ) → is_inode_among f.number number losers.inodes ≡ true
        → is_used_or_among inodes last now number ≡ true
    could_go number h = among_losers number
        (list_any-append (λ (inode : Inode). nat_eq now.number inode.0 && nat_eq number inode.1) losers.inodes lost
        ∙ or_left (is_inode_among now.number number losers.inodes) (is_inode_among now.number number lost)
        (cc (ChangesFilesystem.number so)))

    by_name : (number : ℕ) → is_among nat_eq number names ≡ true → is_used_or_among inodes last now number ≡ true
    by_name number h = used number (is_among_left number (names ++ located ++ layers) (upper_objects last now.number)
        (is_among_left number (names ++ located) layers (is_among_left number names located h)))

    by_object : (number : ℕ) → is_among nat_eq number (upper_objects last now.number) ≡ true
        → is_used_or_among inodes last now number ≡ true
    by_object number h = used number
        (is_among_right number (names ++ located ++ layers) (upper_objects last now.number) h)

    -- what was used is used, or may go
    use_left : (number : ℕ) → is_inode_used living f number ≡ true → is_used_or_among inodes last now number ≡ true
    use_left number is = ⊎_elim (λ front. ⊎_elim (λ first. ⊎_elim (λ named. ⊎_elim
        (λ root. by_name number (or_left (nat_eq number now.files.tree.root) _
        (cc (ChangesFilesystem.root so)))) (λ name. ⊎_elim
        (λ still. by_name number (or_right (nat_eq number now.files.tree.root)
        (is_among nat_eq number (named_in now.files)) still)) (may_go number)
        (or_cases (is_among nat_eq number (named_in now.files)) (is_inode_among f.number number lost)
        (among_from_list_all (λ k. is_among nat_eq k (named_in now.files) || is_inode_among f.number k lost)
        (named_in f.files) (ChangesFilesystem.names so) number (among_numbers number (named_in f.files) name))))
        (or_cases (nat_eq number f.files.tree.root) (is_among nat_eq number (named_in f.files)) named))
        (λ at. used number (is_among_left number (names ++ located ++ layers) (upper_objects last now.number)
        (is_among_left number (names ++ located) layers (is_among_right number names located
        (cc (ChangesFilesystem.number so))))))
        (or_cases (is_among nat_eq number old_names) (is_among nat_eq number (located_in nat_eq living f.number))
        (cc (list_any-append (nat_eq number) old_names (located_in nat_eq living f.number)))))
        (λ layer. used number (is_among_left number (names ++ located ++ layers) (upper_objects last now.number)
        (is_among_right number (names ++ located) layers
        (ap (λ n. is_among nat_eq number (layers_in nat_eq last n)) (ChangesFilesystem.number so)
        ∙ is_among_numbers number (layers_in nat_eq last f.number)
        (layers_still f.number number (among_numbers number (layers_in nat_eq living f.number) layer))))))
        (or_cases (is_among nat_eq number (old_names ++ located_in nat_eq living f.number))
        (is_among nat_eq number (layers_in nat_eq living f.number))
        (sym (list_any-append (nat_eq number) (old_names ++ located_in nat_eq living f.number)
        (layers_in nat_eq living f.number)) ∙ front))) (λ object. ⊎_elim (λ still. by_object number
        (cc (ChangesFilesystem.number so, is_among_numbers number (upper_objects last f.number) still))) (may_go number)
        (object_left f.number number (among_numbers number (upper_objects living f.number) object)))
        (or_cases (is_among nat_eq number
        (old_names ++ located_in nat_eq living f.number ++ layers_in nat_eq living f.number))
        (is_among nat_eq number (upper_objects living f.number)) (sym (list_any-append (nat_eq number)
        (old_names ++ located_in nat_eq living f.number ++ layers_in nat_eq living f.number)
        (upper_objects living f.number)) ∙ is))
      where
        old_names : List ℕ
        old_names = f.files.tree.root ∷ named_in f.files

    inode_after : (number : ℕ) → Among number now.files.numbers → is_used_or_among inodes last now number ≡ true
    inode_after number m = ⊎_elim (λ first. ⊎_elim (λ was. ⊎_elim (could_go number) (use_left number)
        (or_cases (is_inode_among f.number number losers.inodes) (is_inode_used living f number)
        (among_from_list_all (is_used_or_among losers.inodes living f) f.files.numbers
        (among_from_all (λ x. list_all (is_used_or_among losers.inodes living x) x.files.numbers
        ≡ true) living.filesystems but.inodes f there) number (among_numbers number f.files.numbers was))))
        (λ named. by_name number (or_right (nat_eq number now.files.tree.root)
        (is_among nat_eq number (named_in now.files)) named))
        (or_cases (is_among nat_eq number f.files.numbers) (is_among nat_eq number (named_in now.files)) first))
        (by_object number)
        (or_cases (is_among nat_eq number f.files.numbers || is_among nat_eq number (named_in now.files))
        (is_among nat_eq number (upper_objects last now.number))
        (among_from_list_all (λ k. is_among nat_eq k f.files.numbers || is_among nat_eq k (named_in now.files)
        || is_among nat_eq k (upper_objects last now.number)) now.files.numbers (ChangesFilesystem.inodes so) number m))

  inodes_but : InodesInUseBut inodes last
  inodes_but = all_from_among _ _ (λ x m.
      let from = lived x m in
      subst (λ f. list_all (is_used_or_among inodes last f) f.files.numbers ≡ true) (sym from.2)
      (list_all_from_among _ _ (inode_after from.0 from.1)))

  pub all_but_changed : AllInUseBut (with_lost losers lost) after
  all_but_changed = grind (arith, common_steps, filesystems_but, inodes_but)

module _ {world : World ℕ} (change : Filesystem ℕ → Filesystem ℕ) (lost : List Inode)
    (settles : IsSettled world) (trees : HasTrees (with_filesystems world change))
    (uppers : UppersArePlain (with_filesystems world change)) (reals : RealsAreThere (with_filesystems world change))
    (changes : All (λ filesystem. ChangesFilesystem (with_filesystems world change) lost filesystem
    (change filesystem)) world.filesystems) where
  abbrev changed : World ℕ
  changed = with_filesystems world change

  abbrev none : Losers
  none = record { mounts = []; filesystems = []; inodes = []; groups = [] }

  so_changed : (f : Filesystem ℕ) → Among f world.filesystems → ChangesFilesystem changed lost f (change f)
  so_changed f m = among_from_all (λ x. ChangesFilesystem changed lost x (change x)) world.filesystems changes f m

  stays : without_dead_filesystems nat_eq (without_dead_mounts nat_eq world) ≡ world
  stays = cc (mounts_stay world settles.in_use.mounts, filesystems_stay world settles.in_use.filesystems)

  in_use_before : AllInUseBut none world
  in_use_before = record {
    mounts = settles.in_use.mounts;
    filesystems = subst (FilesystemsInUseBut [])
        (sym (mounts_stay world settles.in_use.mounts)) settles.in_use.filesystems;
    inodes = subst (InodesInUseBut []) (sym stays) settles.in_use.inodes;
    groups = subst (GroupsInUseBut []) (sym (mounts_stay world settles.in_use.mounts))
        (λ group among none. settles.in_use.groups group none);
  }

  filesystems_after : FilesystemsInUse changed
  filesystems_after = list_all_from_among (filesystem_lives nat_eq changed) changed.filesystems
      (λ x m. let from = among-from_map change world.filesystems x m in
      ap (filesystem_lives nat_eq changed) from.2
      ∙ lives_alike world change (λ g n. ChangesFilesystem.number (so_changed g n))
      (λ g n. ChangesFilesystem.layers (so_changed g n)) from.0 from.1
      ∙ among_from_list_all (filesystem_lives nat_eq world) world.filesystems settles.in_use.filesystems from.0 from.1)

  all_stay : in_use_of changed ≡ changed
  all_stay = cc (mounts_stay changed settles.in_use.mounts, filesystems_stay changed filesystems_after)

  trees_change : settled nat_eq changed ≡ let_go_all_inodes changed lost
  trees_change = with_overlays_all_goes changed (with_lost none lost) trees uppers reals
      (all_but_changed world none in_use_before change lost
      (subst (λ w. All (λ f. ChangesFilesystem w lost f (change f)) world.filesystems) (sym all_stay) changes))

pub changed_trees_let_go : ChangedTreesLetGo
changed_trees_let_go world change lost settles trees uppers reals changes =
    trees_change change lost settles trees uppers reals changes

pub changed_trees_keep_all : ChangedTreesKeepAll
changed_trees_keep_all world change settles trees uppers reals changes =
    trees_change change [] settles trees uppers reals changes

-- a plain filesystem has no real objects
pub no_real : (f : Filesystem ℕ) → is_overlay f ≡ false → (number : ℕ) → real_in f number ≡ None
no_real f plain number = grind (arith, common_steps, true≢false)

-- a filesystem that does not change
pub unchanged : (after : World ℕ) (lost : List Inode) (f : Filesystem ℕ) → ChangesFilesystem after lost f f
unchanged after lost f = grind (arith, common_steps, list_all_from_among, or_left, is_among_numbers)

module _ {world : World ℕ} (number : ℕ) {files : FileTree ℕ} {unnamed : List ℕ} (settles : IsSettled world)
    (one : any_pair (λ (a b : Filesystem ℕ). nat_eq a.number b.number) world.filesystems ≡ false)
    (there : is_among nat_eq number (map (λ filesystem. filesystem.number) world.filesystems) ≡ true)
    (plain : is_overlay (filesystem_numbered nat_eq world number) ≡ false)
    (changes : ChangesTree (filesystem_numbered nat_eq world number).files files unnamed) where
  abbrev old : Filesystem ℕ
  old = filesystem_numbered nat_eq world number

  abbrev new : Filesystem ℕ
  new = with_files old files

  abbrev pub swap : Filesystem ℕ → Filesystem ℕ
  swap = replaced_if_numbered nat_eq new

  abbrev then_ : World ℕ
  then_ = with_filesystems world swap

  abbrev without_name : List Inode
  without_name = map (λ inode. (number, inode)) unnamed

  -- the filesystem of the number, and its number
  is_there : (f : Filesystem ℕ) × Among f world.filesystems × (f.number ≡ number)
  is_there =
      let t = among-from_map _ _ number (among_numbers number _ there) in
      (t.0, t.1, sym t.2)

  old_is : old ≡ is_there.0
  old_is = ap (filesystem_numbered nat_eq world) (sym is_there.2) ∙ found_filesystem _ one _ is_there.1

  old_number : old.number ≡ number
  old_number = cc (old_is, is_there.2)

  old_there : Among old world.filesystems
  old_there = subst (λ f. Among f world.filesystems) (sym old_is) is_there.1

  -- each is the changed one, or as it was
  data Is (f : Filesystem ℕ) : Type 0 where
    is_the_one : f ≡ old → swap f ≡ new → Is f
    is_another : swap f ≡ f → Is f

  which : (f : Filesystem ℕ) → Among f world.filesystems → Is f
  which f m = by _ refl
    where
      by : (b : Bool) → nat_eq new.number f.number ≡ b → Is f
      by true e = is_the_one (sym (found_filesystem _ one f m) ∙ ap (filesystem_numbered nat_eq world)
          (sym (eqb-true new.number f.number e) ∙ old_number)) (ap (λ b. cond b new f) e)
      by false e = is_another (ap (λ b. cond b new f) e)

  for_each : (P : Filesystem ℕ → Type 0) → P new → ((f : Filesystem ℕ) → Among f world.filesystems → P f)
      → (f : Filesystem ℕ) → Among f world.filesystems → P (swap f)
  for_each P here others f m = grind (arith, common_steps, which f m)

  for_all : (P : Filesystem ℕ → Type 0) → P new → ((f : Filesystem ℕ) → Among f world.filesystems → P f)
      → All P then_.filesystems
  for_all P here others = all_from_among P _ (λ x m. let from = among-from_map swap _ x m in
      subst P (sym from.2) (for_each P here others from.0 from.1))

  pub trees_after : HasTrees then_
  trees_after = for_all (λ f. IsListedTree f.files) changes.tree
      (λ f m. among_from_all (λ g. IsListedTree g.files) world.filesystems settles.trees f m)

  pub reals_after : RealsAreThere then_
  reals_after = for_all (λ f. (k : ℕ) → f.files.tree.node k ≡ None → real_in f k ≡ None) (λ k e. no_real new plain k)
      (among_from_all _ _ settles.reals)

  pub uppers_after : UppersArePlain then_
  uppers_after = for_all (λ f. is_overlay f ≡ true → All (λ g. has_upper_in f.number g ≡ false) then_.filesystems)
      (λ is. absurd cc) (λ f m is.
      let was = among_from_all (λ x. is_overlay x ≡ true
      → All (λ g. has_upper_in x.number g ≡ false) world.filesystems) world.filesystems settles.uppers f m is in
      for_all (λ g. has_upper_in f.number g ≡ false)
      (among_from_all (λ g. has_upper_in f.number g ≡ false) world.filesystems was old old_there)
      (among_from_all (λ g. has_upper_in f.number g ≡ false) world.filesystems was))

  lost_name : (inode : ℕ) → is_among nat_eq inode unnamed ≡ true → is_inode_among old.number inode without_name ≡ true
  lost_name inode is = any_from_among _ _ _ (among-map _ _ inode (among_numbers inode _ is))
      (cc (eq-eqb old.number number old_number, eq-eqb inode inode refl))

  of_old : (after : World ℕ) → ChangesFilesystem after without_name old new
  of_old after = grind (
    arith,
    common_steps,
    list_all_from_among,
    or_left,
    among_from_list_all,
    or_right,
    lost_name,
    or_cases,
    no_objects,
  )

  pub all_change : (after : World ℕ) → All (λ f. ChangesFilesystem after without_name f (swap f)) world.filesystems
  all_change after = all_from_among _ _ (λ f m. by f (which f m))
    where
      by : (f : Filesystem ℕ) → Is f → ChangesFilesystem after without_name f (swap f)
      by f (is_the_one e s) = subst (λ x. ChangesFilesystem after without_name x (swap f)) (sym e)
          (subst (ChangesFilesystem after without_name old) (sym s) (of_old after))
      by f (is_another s) = subst (ChangesFilesystem after without_name f) (sym s) (unchanged after _ f)

  unnamed_goes : settled nat_eq then_ ≡ let_go_all_inodes then_ without_name
  unnamed_goes = trees_change swap without_name settles trees_after uppers_after reals_after (all_change then_)

pub unnamed_go_with_overlays : UnnamedGoWithOverlays
unnamed_go_with_overlays world number files unnamed settles one there plain changes =
    unnamed_goes number settles one there plain changes

-- Mounts that are taken away, and trees that change, at once
pub taken_and_changed_lets_go : TakenAndChangedLetsGo
taken_and_changed_lets_go world gone change lost settles trees uppers reals changes =
    with_overlays_all_goes then_ (with_lost (used_by_gone_with_layers world gone) lost) trees uppers reals
    (subst (λ w. AllInUseBut (with_lost (used_by_gone_with_layers world gone) lost) (with_filesystems w change))
    (sym (taken_is world gone)) (all_but_changed taken (used_by_gone_with_layers world gone)
    (all_but_those world taken.mounts taken.master world.filesystems world.namespaces world.tasks gone
    (places_lost world gone) (groups_of_mounts world gone)
    settles.in_use settles.mounts (loses world gone world.namespaces settles.in_use settles.mounts
    (hands_on world gone)) (subst (GroupsInUseBut (groups_of_mounts world gone)) (taken_is world gone)
    (event_groups world gone settles.in_use.groups)) (record { kept = λ f m. m; new = λ f m. inl m })) change lost
    (subst (λ w. All (λ f. ChangesFilesystem (in_use_of (with_filesystems w change)) lost f
    (change f)) world.filesystems) (taken_is world gone) changes)))
  where
    then_ : World ℕ
    then_ = with_filesystems (taken_away nat_eq world gone) change

    taken : World ℕ
    taken = MountingTaken.after world gone world.namespaces (hands_on world gone)

-- Tasks that go to other locations, and trees that change, at once
pub left_and_changed_lets_go : LeftAndChangedLetsGo
left_and_changed_lets_go world tasks left change lost settles only trees uppers reals changes =
    with_overlays_all_goes (with_filesystems (with_tasks world tasks) change)
    (with_lost (used_with_layers world left) lost) trees uppers reals
    (all_but_changed (with_tasks world tasks) (used_with_layers world left)
    (leaving_but world tasks left settles.in_use settles.mounts only) change lost changes)

pub opened_keeps_all : OpenedKeepsAll
opened_keeps_all world tasks change settles only trees uppers reals changes =
    left_and_changed_lets_go world tasks [] change [] settles only trees uppers reals changes
