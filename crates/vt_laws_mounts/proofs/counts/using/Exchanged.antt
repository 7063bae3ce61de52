-- Inodes that get some uses and lose some.
use Rattle.std.proofs.Common.{◌≡◌, refl, sym, ap, subst, ◌∙◌, ⊎_elim, inl, inr, ℕ, ◌+◌, ◌≤◌, nat_eq, eqb-true, Bool, true, false, true≢false, cond, not, ◌&&◌, ◌||◌, List, [], ◌∷◌, ◌++◌, map, filter, find, flat_map, Option, None, is_some, unwrap_or, arith}
use Rattle.vt_spec.proofs.Common.{Filesystem, Inodes, Node, World, and_parts, common_steps, eqb_tells, filesystem_numbered, folded, holds_of, is_among, is_some-node_in, layers_in, layers_of, list_all, located_in, named_in, no_filesystem, node_in, node_in-none, objects_of_overlay, or-false, overlay_or, some_from_is_some, targets_in, used_in, uses_in-none}
use Rattle.vt_spec.specs.Inodes as Trees
use Rattle.vt_laws_mounts.specs.LettingGo.Counts.{inode_uses, times}
use Rattle.vt_laws_mounts.specs.LettingGo.InUse.{HasTrees, InodesInUse, IsListedTree, has_upper_in, is_inode_used}
use Rattle.vt_laws_mounts.specs.LettingGo.OneByOne.{Inode, is_inode_among, let_go_inode, let_go_inode_of, let_go_inodes, without_inode}
use Rattle.vt_laws_mounts.proofs.letting_go.sweeps.InUse.{unused_are_empty}
use Rattle.vt_laws_mounts.proofs.letting_go.Lists.{Among, all_from_among, among-from_map, among_from_all, among_from_list_all, flat_map-filter, flat_map-map, flat_map_alike}
use Rattle.vt_laws_mounts.proofs.counts.counting.Counts
use Rattle.vt_laws_mounts.proofs.counts.counting.Counts.{counted_pinned, counted_some}
use Rattle.vt_laws_mounts.proofs.counts.counting.Entries.{one_if}
use Rattle.vt_laws_mounts.proofs.counts.counting.Times.{among_times, as_long, times_filter, times_in}
use Rattle.vt_laws_mounts.specs.Counts.BesideOverlays.{HasNoUpperIn, UsesAreExchangedBesideOverlays}
use Rattle.vt_laws_mounts.specs.Counts.Counted.{IsCounted, IsPlain}
use Rattle.vt_laws_mounts.specs.Counts.Using.{AreThere, Exchanges, ExchangesTurn, UsesAreExchanged, exchanged, is_inode, pinned_if, unpinned_if}
use Rattle.vt_laws_mounts.proofs.counts.Listed.{no_repeats}
use Rattle.vt_laws_mounts.proofs.counts.using.Swept.{found_is, found_number, no_objects_in, start_counts, there_if_counted, there_if_some}
use Rattle.vt_laws_mounts.proofs.counts.changing.TreeCounts.{other_uses, unpinned_counts}

-- one if the test passes
abbrev pub one_when : Bool → ℕ
one_when b = cond b 1 0

-- The counted inodes

module _ (k : ℕ) (node : ℕ → Option (Node ℕ)) where
  pub all_pinned : (gained : List Inode) (uses : ℕ → ℕ) (inodes : Inodes ℕ) → Counts.IsCounted uses node inodes
      → ((inode : Inode) → Among inode gained → nat_eq k inode.0 ≡ true → 1 ≤ uses inode.1)
      → Counts.IsCounted (λ n. uses n + times (is_inode k n) gained) node (folded (pinned_if k) inodes gained)
  all_pinned [] uses inodes counted used = other_uses uses _ node inodes (λ n. omega arith) counted
  all_pinned (first ∷ rest) uses inodes counted used = by _ refl (all_pinned rest)
    where
      by : (b : Bool) → nat_eq k first.0 ≡ b → ((some : ℕ → ℕ) (counts : Inodes ℕ) → Counts.IsCounted some node counts
          → ((inode : Inode) → Among inode rest → nat_eq k inode.0 ≡ true → 1 ≤ some inode.1)
          → Counts.IsCounted (λ n. some n + times (is_inode k n) rest) node (folded (pinned_if k) counts rest))
          → Counts.IsCounted (λ n. uses n +
          (cond (nat_eq k first.0 && nat_eq n first.1) 1 0 + times (is_inode k n) rest)) node
          (folded (pinned_if k) (cond b (Trees.pinned nat_eq inodes first.1) inodes) rest)
      by true e later =
          let inode = some_from_is_some _ (counted_some uses node inodes counted _ (used first (inl refl) e)) in
          other_uses _ _ node _ (λ n. let here : cond (nat_eq k first.0 && nat_eq n first.1) 1 0 ≡ one_if n first.1 = ap
          (λ b. cond (b && nat_eq n first.1) 1 0) e in omega arith) (later (λ n. one_if n first.1 + uses n)
          (Trees.pinned nat_eq inodes first.1) (counted_pinned counted first.1 inode.1)
          (λ other m same. let some = used other (inr m) same in omega arith))
      by false e later = other_uses _ _ node _ (λ n. let here : one_when (nat_eq k first.0 && nat_eq n first.1) ≡ 0 = ap
          (λ b. one_when (b && nat_eq n first.1)) e in omega arith) (later uses inodes counted
          (λ other m same. used other (inr m) same))

  pub all_unpinned : (lost : List Inode) (uses left : ℕ → ℕ) (inodes : Inodes ℕ) → Counts.IsCounted uses node inodes
      → ((n : ℕ) → left n + times (is_inode k n) lost ≡ uses n) → ((n : ℕ) → left n ≡ 0 → targets_in (node n) ≡ [])
      → Counts.IsCounted left node (folded (unpinned_if k) inodes lost)
  all_unpinned [] uses left inodes counted less empty = other_uses uses left node inodes
      (λ n. let e : left n + 0 ≡ uses n = less n in omega arith) counted
  all_unpinned (first ∷ rest) uses left inodes counted less empty = by _ refl (all_unpinned rest)
    where
      abbrev_left : ℕ → ℕ
      abbrev_left n = left n + times (is_inode k n) rest

      by : (b : Bool) → nat_eq k first.0 ≡ b
          → ((some now : ℕ → ℕ) (counts : Inodes ℕ) → Counts.IsCounted some node counts
          → ((n : ℕ) → now n + times (is_inode k n) rest ≡ some n) → ((n : ℕ) → now n ≡ 0 → targets_in (node n) ≡ [])
          → Counts.IsCounted now node (folded (unpinned_if k) counts rest))
          → Counts.IsCounted left node (folded (unpinned_if k)
          (cond b (Trees.unpinned nat_eq inodes first.1) inodes) rest)
      by true e later = later abbrev_left left (Trees.unpinned nat_eq inodes first.1)
          (unpinned_counts uses _ node inodes _ counted (λ n. let here : cond (nat_eq k first.0 && nat_eq n first.1) 1 0
          ≡ one_if n first.1 = ap (λ b. cond (b && nat_eq n first.1) 1 0) e in
          let all : left n + (cond (nat_eq k first.0 && nat_eq n first.1) 1 0 + times (is_inode k n) rest) ≡ uses n =
          less n in omega arith)
          (λ none. empty first.1 (let all : left first.1 + times (is_inode k first.1) rest ≡ 0 = none in omega arith)))
          (λ n. refl) empty
      by false e later = later uses left inodes counted (λ n. let here : one_when (nat_eq k first.0 && nat_eq n first.1)
          ≡ 0 = ap (λ b. one_when (b && nat_eq n first.1)) e in
          let all : left n + (cond (nat_eq k first.0 && nat_eq n first.1) 1 0 + times (is_inode k n) rest) ≡ uses n =
          less n in omega arith) empty

  pub root_pinned : (gained : List Inode) (inodes : Inodes ℕ) → (folded (pinned_if k) inodes gained).root ≡ inodes.root
  root_pinned [] inodes = refl
  root_pinned (first ∷ rest) inodes = grind (arith, common_steps, root_pinned rest (pinned_if k inodes first))

  pub root_unpinned : (lost : List Inode) (inodes : Inodes ℕ) → (folded (unpinned_if k) inodes lost).root ≡ inodes.root
  root_unpinned [] inodes = refl
  root_unpinned (first ∷ rest) inodes = grind (arith, common_steps, root_unpinned rest (unpinned_if k inodes first))

-- The world

-- a filesystem among others that are changed one by one, with their numbers
pub found_mapped : (step : Filesystem ℕ → Filesystem ℕ) → ((f : Filesystem ℕ) → (step f).number ≡ f.number)
    → (filesystems : List (Filesystem ℕ)) (k : ℕ) → is_among nat_eq k (map (λ f. f.number) filesystems) ≡ true
    → unwrap_or (find (λ f. nat_eq k f.number) (map step filesystems)) (no_filesystem k)
    ≡ step (unwrap_or (find (λ f. nat_eq k f.number) filesystems) (no_filesystem k))
found_mapped step same [] k there = absurd cc
found_mapped step same (first ∷ rest) k there = grind (arith, common_steps, there, found_mapped step same rest k)

pub numbers_mapped : (step : Filesystem ℕ → Filesystem ℕ) → ((f : Filesystem ℕ) → (step f).number ≡ f.number)
    → (filesystems : List (Filesystem ℕ)) → map (λ f. f.number) (map step filesystems) ≡ map (λ f. f.number) filesystems
numbers_mapped step same [] = refl
numbers_mapped step same (first ∷ rest) = λ i. same first i ∷ numbers_mapped step same rest i

-- what is left of a filesystem after some inodes were looked at
pub record IsLeft (k : ℕ) (world : World ℕ) (filesystem : Filesystem ℕ) (lost : List Inode) (after : World ℕ)
    (left : Filesystem ℕ) : Type 0 where
  pub uses : (n : ℕ) → inode_uses after left n ≡ inode_uses world filesystem n
  pub used : (n : ℕ) → 1 ≤ inode_uses world filesystem n → left.files.tree.node n ≡ filesystem.files.tree.node n
  pub gone : (n : ℕ) → inode_uses world filesystem n ≡ 0 → is_inode_among k n lost ≡ true
      → left.files.tree.node n ≡ None
  pub other : (n : ℕ) → is_inode_among k n lost ≡ false → left.files.tree.node n ≡ filesystem.files.tree.node n
  pub root : left.files.tree.root ≡ filesystem.files.tree.root
  pub once : (n : ℕ) → times_in n left.files.numbers ≡ cond (is_some (left.files.tree.node n)) 1 0

abbrev pub EmptyUnused : World ℕ → Filesystem ℕ → Type 0
EmptyUnused world filesystem = (n : ℕ) → inode_uses world filesystem n ≡ 0
    → targets_in (filesystem.files.tree.node n) ≡ []

abbrev pub StandOnce : Filesystem ℕ → Type 0
StandOnce filesystem = (n : ℕ) → times_in n filesystem.files.numbers ≡ cond (is_some (filesystem.files.tree.node n)) 1 0

-- an inode is used or counted zero
used_or_zero : (world : World ℕ) (filesystem : Filesystem ℕ) (n : ℕ) (b : Bool) → is_inode_used world filesystem n ≡ b
    → b ≡ false → inode_uses world filesystem n ≡ 0
used_or_zero world filesystem n b e none =
    Rattle.vt_laws_mounts.proofs.counts.Listed.none_times n (used_in nat_eq world filesystem) (e ∙ none)

-- One inode is looked at
module _ (world : World ℕ) (inode : Inode) where
  abbrev next : World ℕ
  next = let_go_inode world inode

  abbrev step : Filesystem ℕ → Filesystem ℕ
  step = let_go_inode_of world inode

  -- it leaves filesystems their numbers and their overlays
  number_step : (g : Filesystem ℕ) → (step g).number ≡ g.number
  number_step g = grind (arith, common_steps)

  overlay_step : (g : Filesystem ℕ) → (step g).overlay ≡ g.overlay
  overlay_step g = grind (arith, common_steps)

  no_upper_step : (k : ℕ) → HasNoUpperIn k world → HasNoUpperIn k next
  no_upper_step k apart = all_from_among (λ merged. has_upper_in k merged ≡ false) next.filesystems (λ g m.
      let from = among-from_map step world.filesystems g m in
      ap (has_upper_in k) from.2
      ∙ ap (overlay_or false (λ overlay. holds_of (λ layer. nat_eq k layer.filesystem) overlay.upper))
      (overlay_step from.0)
      ∙ among_from_all (λ merged. has_upper_in k merged ≡ false) world.filesystems apart from.0 from.1)

  layers_step : (k : ℕ) → layers_in nat_eq next k ≡ layers_in nat_eq world k
  layers_step k = ap (λ layers. map (λ layer. layer.directory) (filter (λ layer. nat_eq k layer.filesystem) layers))
      (flat_map-map step _ _ (λ g. ap (overlay_or [] layers_of) (overlay_step g)))

  module _ (k : ℕ) (f : Filesystem ℕ) (is : f.number ≡ k) (apart : HasNoUpperIn k world) (empty : EmptyUnused world f)
      (stand : StandOnce f) where
    abbrev gone_f : Filesystem ℕ
    gone_f = record f { files = without_inode inode.1 f.files }

    objects_same : flat_map (objects_of_overlay nat_eq f.number) next.filesystems
        ≡ flat_map (objects_of_overlay nat_eq f.number) world.filesystems
    objects_same = no_objects_in _ next (subst (λ m. HasNoUpperIn m next) (sym is) (no_upper_step k apart))
        ∙ sym (no_objects_in _ world (subst (λ m. HasNoUpperIn m world) (sym is) apart))

    same_uses : (n : ℕ) → inode_uses next f n ≡ inode_uses world f n
    same_uses n = λ i. times (nat_eq n) (f.files.tree.root ∷ (named_in f.files ++ located_in nat_eq world f.number
        ++ layers_step f.number i ++ objects_same i))

    among_one : (n : ℕ) → is_inode_among k n (inode ∷ []) ≡ (nat_eq k inode.0 && nat_eq n inode.1)
    among_one n = or-false (nat_eq k inode.0 && nat_eq n inode.1)

    -- it stays
    left_same : (nat_eq f.number inode.0 && not (is_inode_used world f inode.1)) ≡ false
        → IsLeft k world f (inode ∷ []) next f
    left_same e = record {
      uses = same_uses;
      used = λ n some. refl;
      gone = λ n zero_uses among. absurd (not_gone n zero_uses (sym (among_one n) ∙ among));
      other = λ n apart. refl;
      root = refl;
      once = stand;
    }
      where
        not_gone : (n : ℕ) → inode_uses world f n ≡ 0 → (nat_eq k inode.0 && nat_eq n inode.1) ≡ true → ⊥
        not_gone n zero_uses both = grind (arith, common_steps, and_parts, eqb-true, among_times, true≢false)

    -- it goes
    left_without : nat_eq k inode.0 ≡ true → inode_uses world f inode.1 ≡ 0 → IsLeft k world f (inode ∷ []) next gone_f
    left_without here zero_uses = record {
      uses = λ n. (λ i. times (nat_eq n) (f.files.tree.root ∷ (named i ++ located_in nat_eq world f.number
          ++ layers_step f.number i ++ objects_same i)));
      used = λ n some. ⊎_elim
          (λ t. absurd (let none : inode_uses world f n ≡ 0 = ap (inode_uses world f) t.1 ∙ zero_uses in omega arith))
          (λ t. ap (λ b. cond b None (f.files.tree.node n)) t.0) (eqb_tells n inode.1);
      gone = λ n none among. ap (λ b. cond b None (f.files.tree.node n))
          (and_parts (nat_eq k inode.0) (nat_eq n inode.1) (sym (among_one n) ∙ among)).1;
      other = λ n apart. ap (λ b. cond b None (f.files.tree.node n))
          (sym (ap (λ b. b && nat_eq n inode.1) here) ∙ sym (among_one n) ∙ apart);
      root = refl;
      once = λ n. times_filter (λ m. not (nat_eq m inode.1)) n f.files.numbers ∙ by n (nat_eq n inode.1);
    }
      where
        by : (n : ℕ) (b : Bool) → cond (not b) (times_in n f.files.numbers) 0
            ≡ cond (is_some (cond b None (f.files.tree.node n))) 1 0
        by n true = refl
        by n false = stand n

        bare : (d : ℕ) (b : Bool) → nat_eq d inode.1 ≡ b
            → targets_in (cond b None (f.files.tree.node d)) ≡ targets_in (f.files.tree.node d)
        bare d true e = cc (eqb-true d inode.1 e, empty inode.1 zero_uses)
        bare d false e = refl

        skipped : (d : ℕ) (b : Bool) → nat_eq d inode.1 ≡ b → not b ≡ false → targets_in (f.files.tree.node d) ≡ []
        skipped d true e h = cc (eqb-true d inode.1 e, empty inode.1 zero_uses)
        skipped d false e h = absurd (true≢false h)

        named : named_in (without_inode inode.1 f.files) ≡ named_in f.files
        named = flat_map_alike _ _ _ (λ d m. bare d _ refl) ∙ flat_map-filter _ _ _ (λ d h. skipped d _ refl h)

    one_left : IsLeft k world f (inode ∷ []) next (step f)
    one_left = grind (arith, common_steps, left_same, left_without, used_or_zero)

all_left : (k : ℕ) (world : World ℕ) (lost : List Inode) → HasNoUpperIn k world
    → is_among nat_eq k (map (λ f. f.number) world.filesystems) ≡ true
    → EmptyUnused world (filesystem_numbered nat_eq world k) → StandOnce (filesystem_numbered nat_eq world k)
    → IsLeft k world (filesystem_numbered nat_eq world k) lost (let_go_inodes world lost)
    (filesystem_numbered nat_eq (let_go_inodes world lost) k)
all_left k world [] apart there empty stand = record {
  uses = λ n. refl;
  used = λ n some. refl;
  gone = λ n zero_uses among. absurd cc;
  other = λ n apart. refl;
  root = refl;
  once = stand;
}
all_left k world (inode ∷ rest) apart there empty stand = then_left (all_left k (let_go_inode world inode) rest
    (no_upper_step world inode k apart) (ap (is_among nat_eq k) (numbers_mapped _ (number_step world inode) _) ∙ there)
    (λ n none. empty_left n (sym (first_left.uses n) ∙ none)) first_left.once)
  where
    f : Filesystem ℕ
    f = filesystem_numbered nat_eq world k

    f1 : Filesystem ℕ
    f1 = filesystem_numbered nat_eq (let_go_inode world inode) k

    first_left : IsLeft k world f (inode ∷ []) (let_go_inode world inode) f1
    first_left = subst (IsLeft k world f (inode ∷ []) (let_go_inode world inode))
        (sym (found_mapped _ (number_step world inode) _ k there))
        (one_left world inode k f (found_number _ k) apart empty stand)

    among_one : (n : ℕ) (b : Bool) → is_inode k n inode ≡ b → is_inode_among k n (inode ∷ []) ≡ b
    among_one n true e = ap (λ b. b || false) e
    among_one n false e = ap (λ b. b || false) e

    empty_left : (n : ℕ) → inode_uses world f n ≡ 0 → targets_in (f1.files.tree.node n) ≡ []
    empty_left n none = grind (arith, common_steps, first_left.gone, among_one, first_left.other, empty)

    then_left : IsLeft k (let_go_inode world inode) f1 rest (let_go_inodes (let_go_inode world inode) rest)
        (filesystem_numbered nat_eq (let_go_inodes (let_go_inode world inode) rest) k)
        → IsLeft k world f (inode ∷ rest) (let_go_inodes (let_go_inode world inode) rest)
        (filesystem_numbered nat_eq (let_go_inodes (let_go_inode world inode) rest) k)
    then_left later = record {
      uses = λ n. later.uses n ∙ first_left.uses n;
      used = λ n some. later.used n (subst (λ u. 1 ≤ u) (sym (first_left.uses n)) some) ∙ first_left.used n some;
      gone = λ n none among. by n none (is_inode k n inode) refl (is_inode_among k n rest) refl among;
      other = λ n apart. neither n (is_inode k n inode) refl apart;
      root = later.root ∙ first_left.root;
      once = later.once;
    }
      where
        by : (n : ℕ) → inode_uses world f n ≡ 0 → (a : Bool) → is_inode k n inode ≡ a → (b : Bool)
            → is_inode_among k n rest ≡ b → (is_inode k n inode || is_inode_among k n rest) ≡ true
            → (filesystem_numbered nat_eq (let_go_inodes (let_go_inode world inode) rest) k).files.tree.node n ≡ None
        by n none a e true h both = later.gone n (first_left.uses n ∙ none) h
        by n none true e false h both = later.other n h ∙ first_left.gone n none (among_one n true e)
        by n none false e false h both = absurd (true≢false (sym both ∙ (λ i. e i || h i)))

        neither : (n : ℕ) (a : Bool) → is_inode k n inode ≡ a → (is_inode k n inode || is_inode_among k n rest) ≡ false
            → (filesystem_numbered nat_eq (let_go_inodes (let_go_inode world inode) rest) k).files.tree.node n
            ≡ f.files.tree.node n
        neither n true e h = absurd cc
        neither n false e h = later.other n (sym (ap (λ b. b || is_inode_among k n rest) e) ∙ h)
            ∙ first_left.other n (among_one n false e)

-- Together

module _ {world after : World ℕ} {gained lost : List Inode} {k : ℕ} {inodes : Inodes ℕ} (trees : HasTrees world)
    (in_use : InodesInUse world) (apart : HasNoUpperIn k after) (exchange : Exchanges gained lost k world after)
    (counted : IsCounted world (filesystem_numbered nat_eq world k) inodes) (gains : AreThere k inodes gained) where
  abbrev pub f : Filesystem ℕ
  f = filesystem_numbered nat_eq world k

  there : is_among nat_eq k (map (λ g. g.number) world.filesystems) ≡ true
  there = there_if_counted world k inodes counted

  pub there_after : is_among nat_eq k (map (λ g. g.number) after.filesystems) ≡ true
  there_after = there_if_some after world k inodes (subst (λ g. IsCounted world g inodes) (sym exchange.same) counted)

  pub tree : IsListedTree f.files
  tree = among_from_all (λ g. IsListedTree g.files) world.filesystems trees f (found_is world.filesystems k there)

  start : Counts.IsCounted (inode_uses world f) f.files.tree.node inodes
  start = start_counts world f inodes tree (among_from_all (λ g. list_all (is_inode_used world g) g.files.numbers
      ≡ true) world.filesystems in_use f (found_is world.filesystems k there)) counted

  abbrev pub used_then : ℕ → ℕ
  used_then = inode_uses after f

  exchange_uses : (n : ℕ) → inode_uses world f n + times (is_inode k n) gained ≡ used_then n + times (is_inode k n) lost
  exchange_uses n = cc (exchange.uses n, exchange.same)

  pub empty_then : EmptyUnused after f
  empty_then n none = unused_are_empty after f tree n (by _ refl)
    where
      by : (b : Bool) → is_among nat_eq n (used_in nat_eq after f) ≡ b → b ≡ false
      by true e =
          let some = among_times n (used_in nat_eq after f) e in
          let zero_uses : times (nat_eq n) (used_in nat_eq after f) ≡ 0 = none in absurd (omega arith)
      by false e = refl

  pub counted_then : Counts.IsCounted used_then f.files.tree.node (exchanged k gained lost inodes)
  counted_then =
      all_unpinned k _ lost _ _ _ (all_pinned k _ gained _ inodes start (λ inode m here. let some = start.in_use inode.1
      (is_there inode m here) in let e = start.uses_are inode.1 in omega arith)) (λ n. sym (exchange_uses n)) empty_then
    where
      is_there : (inode : Inode) → Among inode gained → nat_eq k inode.0 ≡ true → is_some (inodes.inode inode.1) ≡ true
      is_there inode m here = cc (among_from_list_all _ gained gains inode m)

  abbrev last : World ℕ
  last = let_go_inodes after lost

  abbrev f_last : Filesystem ℕ
  f_last = filesystem_numbered nat_eq last k

  pub once_f : StandOnce f
  once_f n = Rattle.vt_laws_mounts.proofs.counts.Listed.once_or_none n f.files.numbers counted.once
      ∙ ap (λ b. cond b 1 0) (tree.numbers n)

  left : IsLeft k after f lost last f_last
  left = subst (λ g. IsLeft k after g lost last f_last) exchange.same (all_left k after lost apart there_after
      (subst (EmptyUnused after) (sym exchange.same) empty_then) (subst StandOnce (sym exchange.same) once_f))

  node_last : (n : ℕ) → node_in ((exchanged k gained lost inodes).inode n) ≡ f_last.files.tree.node n
  node_last n = by _ refl
    where
      not_lost : (list : List Inode) → is_inode_among k n list ≡ false → times (is_inode k n) list ≡ 0
      not_lost [] e = refl
      not_lost (first ∷ rest) e = grind (arith, common_steps, not_lost rest)

      never : (b : Bool) → is_some (inodes.inode n) ≡ b → inode_uses world f n ≡ 0 → f.files.tree.node n ≡ None
      never true e none = absurd (let some = start.in_use n e in let same = start.uses_are n in omega arith)
      never false e none = sym (counted.node n) ∙ node_in-none _ e

      by : (b : Bool) → is_some ((exchanged k gained lost inodes).inode n) ≡ b
          → node_in ((exchanged k gained lost inodes).inode n) ≡ f_last.files.tree.node n
      by true e = sym (counted_then.kept n e) ∙ sym (left.used n
          (let some = counted_then.in_use n e in let same = counted_then.uses_are n in omega arith))
      by false e = node_in-none _ e ∙ sym (gone _ refl (sym (counted_then.uses_are n) ∙ uses_in-none _ e))
        where
          gone : (b : Bool) → is_inode_among k n lost ≡ b → used_then n ≡ 0 → f_last.files.tree.node n ≡ None
          gone true h none = left.gone n none h
          gone false h none = left.other n h ∙ never _ refl
              (let all = exchange_uses n in let nothing = not_lost lost h in omega arith)

  there_last : (n : ℕ) → is_some (f_last.files.tree.node n) ≡ is_some ((exchanged k gained lost inodes).inode n)
  there_last n = sym (ap is_some (node_last n)) ∙ is_some-node_in _

  counted_last : IsCounted last f_last (exchanged k gained lost inodes)
  counted_last = record {
    root = root_unpinned k f.files.tree.node lost (folded (pinned_if k) inodes gained)
        ∙ root_pinned k f.files.tree.node gained inodes ∙ counted.root ∙ sym left.root;
    node = node_last;
    uses = λ n. counted_then.uses_are n ∙ sym (left.uses n);
    count = counted_then.as_many ∙ as_long counted_then.list f_last.files.numbers
        (λ n. counted_then.listed n ∙ ap (λ b. cond b 1 0) (sym (there_last n)) ∙ sym (left.once n));
    once = no_repeats f_last.files.numbers (λ n. few n (is_some (f_last.files.tree.node n)) (left.once n));
  }
    where
      few : (n : ℕ) (b : Bool) → times_in n f_last.files.numbers ≡ cond b 1 0 → times_in n f_last.files.numbers ≤ 1
      few n true e = omega arith
      few n false e = omega arith

pub uses_are_exchanged_beside_overlays : UsesAreExchangedBesideOverlays
uses_are_exchanged_beside_overlays world after gained lost filesystem inodes trees in_use apart exchange counted gains =
    counted_last trees in_use apart exchange counted gains

-- A world of plain filesystems has no upper layers.
pub plain_apart : (number : ℕ) (world : World ℕ) → IsPlain world → HasNoUpperIn number world
plain_apart number world plain = grind (arith, common_steps, all_from_among, among_from_all)

pub uses_are_exchanged : UsesAreExchanged
uses_are_exchanged world after gained lost filesystem inodes trees in_use plain exchange counted gains =
    counted_last trees in_use (plain_apart filesystem after plain) exchange counted gains

pub exchanges_turn : ExchangesTurn
exchanges_turn world after gained lost filesystem exchange =
    record { same = sym exchange.same; uses = λ n. sym (exchange.uses n) }
