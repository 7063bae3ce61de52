-- Inodes of plain trees go one by one.
use Rattle.std.proofs.Common.{arith, flat_map, ◌≡◌, refl, sym, ap, subst, ◌∙◌, ℕ, nat_eq, eqb-true, Bool, true, false, cond, not, ◌||◌, ◌&&◌, List, [], ◌∷◌, filter, map, true≢false, Option, Some, None, is_some, option_map}
use Rattle.vt_spec.proofs.Common.{All-filter, FileTree, Filesystem, ListsNumbers, Node, Overlay, World, and_parts, common_steps, filesystem_lives, filter_alike, filter_all, is_among, is_overlay, layers_in, layers_of, list_all, map_alike, map_twice, named_in, none_from_not_some, not-true, objects_of_overlay, of_overlay, only_used, only_used_by, only_used_of, overlay_or, real_among, used_in, without_dead_filesystems, without_dead_in, without_dead_inodes, without_dead_mounts}
use Rattle.vt_laws_mounts.specs.LettingGo.InUse.{HasTrees, IsListedTree, is_inode_used}
use Rattle.vt_laws_mounts.specs.LettingGo.OneByOne.{AllGoesOneByOne, Inode, InodesGoOneByOne, IsPlain, is_inode_among, is_used_or_among, let_go_inode, let_go_inode_of, let_go_inodes}
use Rattle.vt_laws_mounts.proofs.letting_go.sweeps.InUse.{UnusedAreEmpty, unused_are_empty, no_objects}
use Rattle.vt_laws_mounts.proofs.letting_go.sweeps.Merged.{named_without}
use Rattle.vt_laws_mounts.proofs.letting_go.Lists.{Among, flat_map_none, any-filter, among-from_filter, among-from_map, among_from_all, among_numbers, none_among, filter_twice, flat_map-map, map_same, none_from_among, among_from_list_all}
use Rattle.vt_laws_mounts.proofs.letting_go.sweeps.OneByOne.{filesystems_go_one_by_one, groups_go_one_by_one, mounts_go_one_by_one}
use Rattle.std.proofs.Math.Bool.{not-not}

-- a filesystem without the inodes that a test names
abbrev pub without_those : (ℕ → Bool) → Filesystem ℕ → Filesystem ℕ
without_those gone filesystem = record filesystem {
  files = record {
    tree = record {
      root = filesystem.files.tree.root;
      node = λ number. cond (gone number) None (filesystem.files.tree.node number);
    };
    numbers = filter (λ number. not (gone number)) filesystem.files.numbers;
  };
}

-- Where the test names none, the filesystem is as it was.
without_none : (filesystem : Filesystem ℕ) → without_those (λ number. false) filesystem ≡ filesystem
without_none filesystem = ap (λ numbers. record filesystem { files = record filesystem.files { numbers = numbers } })
    (filter_all _ _ (λ number m. refl))

-- a world without overlays has no objects of overlays
pub no_objects_of : (world : World ℕ) → IsPlain world → (number : ℕ)
    → flat_map (objects_of_overlay nat_eq number) world.filesystems ≡ []
no_objects_of world plain number = flat_map_none (objects_of_overlay nat_eq number) world.filesystems
    (λ f m. no_objects world number f (none_among is_overlay world.filesystems plain f m))

-- one inode is looked at
abbrev goes_here : World ℕ → Inode → Filesystem ℕ → ℕ → Bool
goes_here world inode filesystem number =
    (nat_eq filesystem.number inode.0 && not (is_inode_used world filesystem inode.1)) && nat_eq number inode.1

one_step : (world : World ℕ) (inode : Inode) (filesystem : Filesystem ℕ)
    → let_go_inode_of world inode filesystem ≡ without_those (goes_here world inode filesystem) filesystem
one_step world inode filesystem = by _
  where
    by : (b : Bool) → cond b (without_those (λ number. nat_eq number inode.1) filesystem) filesystem
        ≡ without_those (λ number. b && nat_eq number inode.1) filesystem
    by true = refl
    by false = sym (without_none _)

abbrev pub goes_of : List ℕ → List Inode → Filesystem ℕ → ℕ → Bool
goes_of used losers filesystem number =
    is_inode_among filesystem.number number losers && not (is_among nat_eq number used)

-- it goes here, or later
pub goes_on : (used : List ℕ) (inode : Inode) (rest : List Inode) (filesystem : Filesystem ℕ) (number : ℕ)
    → goes_of used (inode ∷ rest) filesystem number
    ≡ (((nat_eq filesystem.number inode.0 && not (is_among nat_eq inode.1 used)) && nat_eq number inode.1)
    || goes_of used rest filesystem number)
goes_on used inode rest filesystem number = grind (arith, common_steps, eqb-true number inode.1)

-- what goes at one step, and later
two_steps : (world : World ℕ) (inode : Inode) (rest : List Inode) (filesystem : Filesystem ℕ) (used : List ℕ)
    → used ≡ used_in nat_eq world filesystem
    → without_those (goes_of used rest filesystem) (without_those (goes_here world inode filesystem) filesystem)
    ≡ without_those (goes_of used (inode ∷ rest) filesystem) filesystem
two_steps world inode rest filesystem used same = λ i. record filesystem {
  files = record {
    tree = record { root = filesystem.files.tree.root; node = λ number. node number i };
    numbers = numbers i;
  };
}
  where
    here : ℕ → Bool
    here = goes_here world inode filesystem

    here_or_later : (number : ℕ) → goes_of used (inode ∷ rest) filesystem number
        ≡ (here number || goes_of used rest filesystem number)
    here_or_later number = cc (goes_on used inode rest filesystem number, same)

    node : (number : ℕ) → cond (goes_of used rest filesystem number) None
        (cond (here number) None (filesystem.files.tree.node number))
        ≡ cond (goes_of used (inode ∷ rest) filesystem number) None (filesystem.files.tree.node number)
    node number = grind (arith, common_steps)

    numbers : filter (λ number. not (goes_of used rest filesystem number))
        (filter (λ number. not (here number)) filesystem.files.numbers)
        ≡ filter (λ number. not (goes_of used (inode ∷ rest) filesystem number)) filesystem.files.numbers
    numbers = filter_twice _ _ _ (λ number. ap not (here_or_later number) ∙ by _ _) _
      where
        by : (a b : Bool) → not (a || b) ≡ (not a && not b)
        by true b = refl
        by false b = refl

-- One inode that goes changes no use of the others: it has no entries.
module _ (world : World ℕ) (inode : Inode) (plain : IsPlain world) where
  abbrev next : World ℕ
  next = let_go_inode world inode

  abbrev step : Filesystem ℕ → Filesystem ℕ
  step filesystem = let_go_inode_of world inode filesystem

  -- it leaves filesystems their numbers, and the world plain
  pub number-step : (filesystem : Filesystem ℕ) → (step filesystem).number ≡ filesystem.number
  number-step filesystem = ap (λ f. f.number) (one_step world inode filesystem)

  overlay-step : (filesystem : Filesystem ℕ) → (step filesystem).overlay ≡ filesystem.overlay
  overlay-step filesystem = ap (λ f. f.overlay) (one_step world inode filesystem)

  pub plain-step : IsPlain next
  plain-step = none_from_among is_overlay next.filesystems (λ filesystem m.
      let from = among-from_map step _ _ m in
      cc (from.2, overlay-step from.0, none_among is_overlay world.filesystems plain from.0 from.1))

  named-step : (filesystem : Filesystem ℕ) → UnusedAreEmpty (used_in nat_eq world filesystem) filesystem
      → named_in (step filesystem).files ≡ named_in filesystem.files
  named-step filesystem empty =
      grind (arith, common_steps, one_step world inode filesystem, named_without, and_parts, eqb-true, not-true)

  layers-step : (number : ℕ) → layers_in nat_eq next number ≡ layers_in nat_eq world number
  layers-step number =
      ap (λ layers. map (λ layer. layer.directory) (filter (λ layer. nat_eq number layer.filesystem) layers))
      (flat_map-map step (of_overlay [] layers_of) world.filesystems
      (λ filesystem. ap (overlay_or [] layers_of) (overlay-step filesystem)))

  used-step : (filesystem : Filesystem ℕ) → UnusedAreEmpty (used_in nat_eq world filesystem) filesystem
      → used_in nat_eq next (step filesystem) ≡ used_in nat_eq world filesystem
  used-step filesystem empty = grind (
    arith,
    common_steps,
    named-step filesystem empty,
    number-step filesystem,
    layers-step (step filesystem).number,
    no_objects_of next plain-step (step filesystem).number,
    no_objects_of world plain filesystem.number,
    one_step,
  )

  empty-step : (filesystem : Filesystem ℕ) → UnusedAreEmpty (used_in nat_eq world filesystem) filesystem
      → UnusedAreEmpty (used_in nat_eq next (step filesystem)) (step filesystem)
  empty-step filesystem empty number unused =
      grind (arith, common_steps, one_step world inode filesystem, used-step filesystem empty)

-- each inode that is used no more has no entries
AllUnusedAreEmpty : World ℕ → Type 0
AllUnusedAreEmpty world = (filesystem : Filesystem ℕ) → Among filesystem world.filesystems
    → UnusedAreEmpty (used_in nat_eq world filesystem) filesystem

inodes_folded : (world : World ℕ) (losers : List Inode) → IsPlain world → AllUnusedAreEmpty world
    → let_go_inodes world losers ≡ record world {
      filesystems = map (λ filesystem. without_those
          (goes_of (used_in nat_eq world filesystem) losers filesystem) filesystem) world.filesystems;
    }
unfolding AllUnusedAreEmpty
inodes_folded world [] plain empty = ap (λ filesystems. record world { filesystems = filesystems })
    (sym (map_same (λ filesystem. without_those (λ number. false) filesystem) world.filesystems
    (λ filesystem m. without_none filesystem)))
inodes_folded world (inode ∷ rest) plain empty =
    inodes_folded (let_go_inode world inode) rest (plain-step world inode plain) (λ filesystem m.
    let from = among-from_map (step world inode plain) world.filesystems filesystem m in
    subst (λ f. UnusedAreEmpty (used_in nat_eq (let_go_inode world inode) f) f) (sym from.2)
    (empty-step world inode plain from.0 (empty from.0 from.1)))
    ∙ ap (λ filesystems. record world { filesystems = filesystems })
    (map_twice (λ f. without_those (goes_of (used_in nat_eq (let_go_inode world inode) f) rest f) f)
    (step world inode plain) world.filesystems
    ∙ map_alike (λ f. without_those (goes_of (used_in nat_eq (let_go_inode world inode) (step world inode plain f)) rest
    (step world inode plain f)) (step world inode plain f))
    (λ f. without_those (goes_of (used_in nat_eq world f) (inode ∷ rest) f) f) world.filesystems (λ f m.
    (λ i. without_those (goes_by (used-step world inode plain f (empty f m) i) (number-step world inode plain f i) rest)
    (one_step world inode f i)) ∙ two_steps world inode rest f (used_in nat_eq world f) refl))
  where
    goes_by : List ℕ → ℕ → List Inode → ℕ → Bool
    goes_by used filesystem losers number = is_inode_among filesystem number losers && not (is_among nat_eq number used)

-- What the sweep leaves of a plain tree
no_real : (used : List ℕ) (o : Option (Overlay ℕ)) → is_some o ≡ false → option_map (real_among nat_eq used) o ≡ o
no_real used None e = refl
no_real used (Some overlay) e = absurd (true≢false e)

-- where all are used, what is not used is not there
node_kept : (used : List ℕ) (files : FileTree ℕ) → ListsNumbers nat_eq files
    → list_all (λ number. is_among nat_eq number used) files.numbers ≡ true
    → (number : ℕ) → files.tree.node number ≡ cond (is_among nat_eq number used) (files.tree.node number) None
node_kept used files numbers all number = by _ refl _ (numbers number)
  where
    by : (u : Bool) → is_among nat_eq number used ≡ u → (o : Option (Node ℕ))
        → is_among nat_eq number files.numbers ≡ is_some o → o ≡ cond u o None
    by true f o there = refl
    by false f None there = refl
    by false f (Some node) there = absurd (cc (among_from_list_all _ _ all number (among_numbers number _ there)))

pub left_of_plain : (used : List ℕ) (filesystem : Filesystem ℕ) → ListsNumbers nat_eq filesystem.files
    → is_overlay filesystem ≡ false
    → only_used_of nat_eq used filesystem ≡ without_those (λ number. not (is_among nat_eq number used)) filesystem
left_of_plain used filesystem numbers plain = by _ refl
  where
    node : (number : ℕ) (u : Bool)
        → cond u (filesystem.files.tree.node number) None ≡ cond (not u) None (filesystem.files.tree.node number)
    node number true = refl
    node number false = refl

    twice : filter (λ number. is_among nat_eq number used) filesystem.files.numbers
        ≡ filter (λ number. not (not (is_among nat_eq number used))) filesystem.files.numbers
    twice = filter_alike _ _ _ (λ number m. sym (not-not (is_among nat_eq number used)))

    by : (all : Bool) → list_all (λ number. is_among nat_eq number used) filesystem.files.numbers ≡ all
        → only_used_by nat_eq all used filesystem
        ≡ without_those (λ number. not (is_among nat_eq number used)) filesystem
    by true e = grind (arith, common_steps, node, node_kept, numbers, filter_all, among_from_list_all, twice)
    by false e = grind (arith, common_steps, node, numbers, twice, no_real)

-- the numbers beside a tree without some
pub numbers_without : (gone : ℕ → Bool) (filesystem : Filesystem ℕ) → ListsNumbers nat_eq filesystem.files
    → ListsNumbers nat_eq (without_those gone filesystem).files
numbers_without gone filesystem numbers number = by _ refl
  where
    missing : (b : Bool) → is_among nat_eq number (filter (λ n. not (gone n)) filesystem.files.numbers) ≡ b
        → gone number ≡ true → b ≡ false
    missing false e f = refl
    missing true e f = absurd (true≢false (sym (among-from_filter (λ n. not (gone n)) filesystem.files.numbers number
        (among_numbers number _ e)).1 ∙ ap not f))

    by : (b : Bool) → gone number ≡ b → is_among nat_eq number (filter (λ n. not (gone n)) filesystem.files.numbers)
        ≡ is_some (cond b None (filesystem.files.tree.node number))
    by b f = grind (arith, common_steps, missing, numbers, any-filter, true≢false, eqb-true)

-- the sweep of a world of plain filesystems
pub plain_sweep : (world : World ℕ) → IsPlain world → without_dead_inodes nat_eq world ≡ record world {
  filesystems = map (λ f. only_used_of nat_eq (used_in nat_eq world f) f) world.filesystems;
}
plain_sweep world plain = ap (without_dead_in nat_eq (λ filesystem. not (is_overlay filesystem)))
    (ap (λ filesystems. record world { filesystems = filesystems }) (map_same _ _
    (λ filesystem m. ap (λ b. only_used nat_eq world b filesystem) (none_among _ _ plain _ m)))) ∙ ap
    (λ filesystems. record world { filesystems = filesystems }) (map_alike _ _ _
    (λ filesystem m. ap (λ b. only_used nat_eq world (not b) filesystem) (none_among _ _ plain _ m)))

-- What the sweep leaves of a plain tree, where all other inodes are used
module _ (used : List ℕ) (losers : List Inode) (filesystem : Filesystem ℕ)
    (numbers : ListsNumbers nat_eq filesystem.files)
    (others : list_all (λ number. is_inode_among filesystem.number number losers
    || is_among nat_eq number used) filesystem.files.numbers ≡ true) where
  -- an inode that is not used, and none of these, is not there
  not_there : (number : ℕ) → is_among nat_eq number used ≡ false
      → is_inode_among filesystem.number number losers ≡ false → filesystem.files.tree.node number ≡ None
  not_there number unused other = none_from_not_some _ (sym (numbers number) ∙ missing _ refl)
    where
      missing : (b : Bool) → is_among nat_eq number filesystem.files.numbers ≡ b
          → is_among nat_eq number filesystem.files.numbers ≡ false
      missing false e = e
      missing true e = absurd (cc (among_from_list_all _ _ others number (among_numbers number _ e), other, unused))

  goes : ℕ → Bool
  goes = goes_of used losers filesystem

  -- so what is not used, of those that are there, is among these
  unused_goes : (number : ℕ) → Among number filesystem.files.numbers
      → not (not (is_among nat_eq number used)) ≡ not (goes number)
  unfolding goes
  unused_goes number m = grind (arith, common_steps, among_from_list_all, numbers, true≢false)

  node_swept : (number : ℕ) → cond (not (is_among nat_eq number used)) None (filesystem.files.tree.node number)
      ≡ cond (goes number) None (filesystem.files.tree.node number)
  unfolding goes
  node_swept number = grind (arith, common_steps, not_there)

  swept : is_overlay filesystem ≡ false → only_used_of nat_eq used filesystem ≡ without_those goes filesystem
  swept plain = left_of_plain used filesystem numbers plain ∙ (λ i. record filesystem {
    files = record {
      tree = record { root = filesystem.files.tree.root; node = λ number. node_swept number i };
      numbers = filter_alike (λ number. not (not (is_among nat_eq number used)))
          (λ number. not (goes number)) filesystem.files.numbers unused_goes i;
    };
  })

pub inodes_go_one_by_one : InodesGoOneByOne
unfolding AllUnusedAreEmpty goes
inodes_go_one_by_one world losers plain trees others = plain_sweep world plain
    ∙ ap (λ filesystems. record world { filesystems = filesystems })
    (map_alike (λ filesystem. only_used_of nat_eq (used_in nat_eq world filesystem) filesystem)
    (λ filesystem. without_those (goes_of
    (used_in nat_eq world filesystem) losers filesystem) filesystem) world.filesystems (λ filesystem m.
    let tree = among_from_all (λ f. IsListedTree f.files) world.filesystems trees filesystem m in
    swept (used_in nat_eq world filesystem) losers filesystem tree.numbers
    (among_from_all (λ f. list_all (is_used_or_among losers world f) f.files.numbers
    ≡ true) world.filesystems others filesystem m) (none_among is_overlay world.filesystems plain filesystem m)))
    ∙ sym (inodes_folded world losers plain (λ filesystem m. unused_are_empty world filesystem
    (among_from_all (λ f. IsListedTree f.files) world.filesystems trees filesystem m)))

-- The whole sweep
pub all_goes_one_by_one : AllGoesOneByOne
all_goes_one_by_one world losers plain trees others =
    let mounted = without_dead_mounts nat_eq world in
    let living = without_dead_filesystems nat_eq mounted in
    let plain_living : IsPlain living = none_from_among is_overlay living.filesystems (λ filesystem m.
    none_among is_overlay world.filesystems plain filesystem
    (among-from_filter (filesystem_lives nat_eq mounted) world.filesystems filesystem m).0) in
    let trees_living : HasTrees living = All-filter (filesystem_lives nat_eq mounted)
    (λ filesystem. IsListedTree filesystem.files) world.filesystems trees in
    let inodes = inodes_go_one_by_one living losers.inodes plain_living trees_living others.inodes in
    grind (arith, common_steps, groups_go_one_by_one, filesystems_go_one_by_one, mounts_go_one_by_one)
