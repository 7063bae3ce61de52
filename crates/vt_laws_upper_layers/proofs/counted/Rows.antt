-- Rows of plain changes that take no name are counted, and nothing goes.
use Rattle.std.proofs.Common.{◌≡◌, refl, sym, ap, subst, ◌∙◌, inl, inr, true≢false, ℕ, nat_eq, eqb-true, Bool, true, false, cond, List, [], ◌∷◌, map, is_some}
use Rattle.std.specs.Prelude.{All}
use Rattle.vt_spec.proofs.Common.{All-map, Among, Change, FileTree, Filesystem, Fresh, Inodes, IsWorld, Location, Overlay, World, all_from_among, among_from_all, any_pair, filesystem_at, filesystem_numbered, folded, is_directory_node, is_overlay, map_twice, nat_eq_itself, of_overlay, pair-map, settled, with_change, with_files}
use Rattle.vt_spec.proofs.Worlds.{number-replaced_if_numbered}
use Rattle.vt_spec.specs.Inodes as Counted
use Rattle.vt_spec.specs.Language.Changes.{changed}
use Rattle.vt_spec.specs.Machine.World.{replaced_if_numbered}
use Rattle.vt_laws_mounts.specs.Counts.BesideOverlays.{IsChangeInUse, OverlaysHaveNoUpper}
use Rattle.vt_laws_mounts.specs.Counts.Changing.{LinksWhatIsThere, TakesNoName, after_change, filesystem_of}
use Rattle.vt_laws_mounts.specs.Counts.Counted.{IsCounted}
use Rattle.vt_laws_mounts.specs.Counts.Rows as Swept
use Rattle.vt_laws_mounts.specs.LettingGo.InUse.{AllInUse, HasTrees, IsListedTree, UppersArePlain, has_upper_in}
use Rattle.vt_laws_mounts.specs.LettingGo.TreeChanges.{with_tree}
use Rattle.vt_laws_mounts.proofs.counts.changing.Changes.{counts_follow_changes_in_use, raw_is}
use Rattle.vt_laws_mounts.proofs.counts.changing.KeptAll.{names_keep_all_in_use}
use Rattle.vt_laws_mounts.proofs.counts.overlays.FilesystemUses.{no_upper_is_in_any}
use Rattle.vt_laws_mounts.proofs.counts.using.Swept.{found_is, there_if_counted}
use Rattle.vt_laws_mounts.proofs.letting_go.sweeps.InUse.{what_is_left_is_in_use}
use Rattle.vt_laws_mounts.proofs.letting_go.sweeps.OfWorlds.{all_in_use, found_filesystem, worlds_have_trees}
use Rattle.vt_laws_trees.specs.Trees.{IsProper}
use Rattle.vt_laws_trees.proofs.layers.layers.LowersWorld.{filesystem_there, number_of_filesystem}
use Rattle.vt_laws_trees.proofs.trees.ChangesKeepTrees.{changes_keep_numbers, changes_keep_trees}
use Rattle.vt_laws_upper_layers.specs.CountedAbove.{FitInTurn, IsCountedInUse, RowsAreCounted, UpperChangesAreCounted, UpperRowsAreCounted}
use Rattle.vt_laws_upper_layers.specs.Lowered.{ArePinned, Pins, PinsInLayers, lowered, lowered_filesystem}
use Rattle.vt_laws_upper_layers.specs.Rows.{after_row}
use Rattle.vt_laws_upper_layers.specs.UnnamedPins.{unnamed_pins}
use Rattle.vt_laws_upper_layers.proofs.lowered.Counted.{lowered-plain, numbered-lowered}
use Rattle.vt_laws_upper_layers.proofs.lowered.InUse.{lowered_are_in_use}
use Rattle.vt_laws_upper_layers.proofs.lowered.Unnamed.{unnamed_are_pinned}

-- A tree in the place of another
module _ (world : World ℕ) (number : ℕ) (files : FileTree ℕ) where
  abbrev old : Filesystem ℕ
  old = filesystem_numbered nat_eq world number

  abbrev put : Filesystem ℕ
  put = with_files old files

  abbrev placed : Filesystem ℕ → Filesystem ℕ
  placed = replaced_if_numbered nat_eq put

  -- what holds of the old ones and of the new one holds of all
  all_placed : (P : Filesystem ℕ → Type 0) → P put → All P world.filesystems
      → All P (with_tree world number files).filesystems
  all_placed P new olds = All-map P placed world.filesystems
      (all_from_among (λ f. P (placed f)) world.filesystems (λ f m. by f (nat_eq put.number f.number)
      (among_from_all P world.filesystems olds f m)))
    where
      by : (f : Filesystem ℕ) (b : Bool) → P f → P (cond b put f)
      by f true is = new
      by f false is = is

  one_placed : any_pair (λ (a b : Filesystem ℕ). nat_eq a.number b.number) world.filesystems ≡ false
      → any_pair (λ (a b : Filesystem ℕ). nat_eq a.number b.number) (with_tree world number files).filesystems ≡ false
  one_placed one = pair-map (λ (a b : Filesystem ℕ). nat_eq a.number b.number)
      (λ (a b : Filesystem ℕ). nat_eq a.number b.number) placed world.filesystems
      (λ a b m n e. (λ i. nat_eq (number-replaced_if_numbered put a i) (number-replaced_if_numbered put b i)) ∙ e) one

  -- it is found there
  found_placed : IsListedTree old.files → filesystem_numbered nat_eq (with_tree world number files) number ≡ put
  found_placed listed = filesystem_there (λ f. f ≡ put) world put number (sym (number_of_filesystem world number)) refl
      (λ none. absurd (true≢false (sym listed.tree.root_directory
      ∙ ap (λ (f : Filesystem ℕ). is_directory_node (f.files.tree.node f.files.tree.root)) none)))

  -- a tree in its own place changes nothing
  placed_itself : any_pair (λ (a b : Filesystem ℕ). nat_eq a.number b.number) world.filesystems ≡ false
      → files ≡ old.files → with_tree world number files ≡ world
  placed_itself one same = λ i. record world { filesystems = all i }
    where
      itself : put ≡ old
      itself = ap (with_files old) same

      each : (f : Filesystem ℕ) → Among f world.filesystems → placed f ≡ f
      each f m = by (nat_eq put.number f.number) refl
        where
          by : (b : Bool) → nat_eq put.number f.number ≡ b → cond b put f ≡ f
          by true e = itself
              ∙ ap (filesystem_numbered nat_eq world) (sym (number_of_filesystem world number)
              ∙ eqb-true put.number f.number e) ∙ found_filesystem world.filesystems one f m
          by false e = refl

      alike : (list : List (Filesystem ℕ)) → ((f : Filesystem ℕ) → Among f list → placed f ≡ f) → map placed list ≡ list
      alike [] stay = refl
      alike (f ∷ rest) stay = λ i. stay f (inl refl) i ∷ alike rest (λ g m. stay g (inr m)) i

      all : map placed world.filesystems ≡ world.filesystems
      all = alike world.filesystems each

-- and another in its place
placed_twice : (world : World ℕ) (number : ℕ) (one other : FileTree ℕ)
    → filesystem_numbered nat_eq (with_tree world number one) number
    ≡ with_files (filesystem_numbered nat_eq world number) one
    → with_tree (with_tree world number one) number other ≡ with_tree world number other
placed_twice world number one other found = λ i. record world { filesystems = same i }
  where
    first : Filesystem ℕ
    first = with_files (filesystem_numbered nat_eq world number) one

    last : Filesystem ℕ
    last = with_files (filesystem_numbered nat_eq world number) other

    each : (f : Filesystem ℕ) → replaced_if_numbered nat_eq last (replaced_if_numbered nat_eq first f)
        ≡ replaced_if_numbered nat_eq last f
    each f = by (nat_eq first.number f.number) refl
      where
        by : (b : Bool) → nat_eq first.number f.number ≡ b
            → replaced_if_numbered nat_eq last (cond b first f) ≡ cond b last f
        by true e = ap (λ b. cond b last first) (nat_eq_itself first.number)
        by false e = ap (λ b. cond b last f) e

    same : (with_tree (with_tree world number one) number other).filesystems ≡ (with_tree world number other).filesystems
    same = ap (λ g. map (replaced_if_numbered nat_eq (with_files g other)) (with_tree world number one).filesystems) found
        ∙ map_twice (replaced_if_numbered nat_eq last) (replaced_if_numbered nat_eq first) world.filesystems
        ∙ (λ i. map (λ f. each f i) world.filesystems)

-- One change
module _ (world : World ℕ) (location : Location ℕ) (inodes : Inodes ℕ) (change : Change ℕ)
    (is : IsCountedInUse world location inodes) (keeps : TakesNoName change)
    (proper : IsProper (filesystem_at nat_eq world location).files.tree change)
    (fits : Rattle.vt_spec.specs.Fits.Fits inodes change) (links : LinksWhatIsThere inodes change) where
  abbrev number : ℕ
  number = filesystem_of world location

  abbrev before : Filesystem ℕ
  before = filesystem_at nat_eq world location

  abbrev files_next : FileTree ℕ
  files_next = changed nat_eq before.files change

  abbrev next : World ℕ
  next = with_tree world number files_next

  abbrev some_fresh : Fresh ℕ
  some_fresh k = k

  one_change : IsChangeInUse world location inodes change
  one_change = record {
    in_use = is.in_use;
    trees = is.trees;
    one_filesystem = is.one_filesystem;
    plain = is.plain;
    counted = is.counted;
    fits = fits;
    links = links;
  }

  before_among : Among before world.filesystems
  before_among = found_is world.filesystems number (there_if_counted world number inodes is.counted)

  before_listed : IsListedTree before.files
  before_listed = among_from_all (λ (f : Filesystem ℕ). IsListedTree f.files) world.filesystems is.trees before
      before_among

  listed_next : IsListedTree files_next
  listed_next = record {
    tree = changes_keep_trees before.files change before_listed.tree proper;
    numbers = changes_keep_numbers before.files change before_listed.numbers;
  }

  found_next : filesystem_numbered nat_eq next number ≡ with_files before files_next
  found_next = found_placed world number files_next before_listed

  raw : with_change nat_eq some_fresh world location change ≡ next
  raw = raw_is some_fresh world location inodes change one_change

  stays : after_change some_fresh world location change ≡ next
  stays = names_keep_all_in_use some_fresh world location inodes change one_change keeps ∙ raw

  trees_next : HasTrees next
  trees_next = all_placed world number files_next (λ (f : Filesystem ℕ). IsListedTree f.files) listed_next is.trees

  no_upper_next : OverlaysHaveNoUpper next
  no_upper_next = all_placed world number files_next
      (λ (f : Filesystem ℕ). of_overlay false (λ (overlay : Overlay ℕ). is_some overlay.upper) f ≡ false)
      (among_from_all (λ (f : Filesystem ℕ). of_overlay false (λ (overlay : Overlay ℕ). is_some overlay.upper) f ≡ false)
      world.filesystems is.no_upper before before_among) is.no_upper

  uppers_next : UppersArePlain next
  uppers_next = all_from_among (λ (f : Filesystem ℕ). is_overlay f ≡ true
      → All (λ (merged : Filesystem ℕ). has_upper_in f.number merged ≡ false) next.filesystems) next.filesystems
      (λ f m over. no_upper_is_in_any next f.number no_upper_next)

  pub counted_next : IsCountedInUse next location (Counted.changed nat_eq inodes change)
  counted_next = record {
    in_use = subst AllInUse (ap (settled nat_eq) (sym raw) ∙ stays)
        (what_is_left_is_in_use next trees_next uppers_next);
    trees = trees_next;
    one_filesystem = one_placed world number files_next is.one_filesystem;
    no_upper = no_upper_next;
    plain = ap is_overlay found_next ∙ is.plain;
    counted = subst (λ w. IsCounted w (filesystem_at nat_eq w location) (Counted.changed nat_eq inodes change)) stays
        (counts_follow_changes_in_use some_fresh world location inodes change one_change);
  }

pub rows_are_counted : RowsAreCounted
rows_are_counted world location inodes [] is fit =
    subst (λ w. IsCountedInUse w location inodes) (sym (placed_itself world (filesystem_of world location)
    (filesystem_at nat_eq world location).files is.one_filesystem refl)) is
rows_are_counted world location inodes (change ∷ rest) is fit =
    subst (λ w. IsCountedInUse w location (folded (Counted.changed nat_eq) (Counted.changed nat_eq inodes change) rest))
    (ap (λ (g : Filesystem ℕ). with_tree then_ (filesystem_of world location) (after_row g.files rest)) found
    ∙ placed_twice world (filesystem_of world location) (changed nat_eq (filesystem_at nat_eq world location).files change)
    (after_row (changed nat_eq (filesystem_at nat_eq world location).files change) rest) found)
    (rows_are_counted then_ location (Counted.changed nat_eq inodes change) rest
    (counted_next world location inodes change is fit.0 fit.1 fit.2 fit.3)
    (subst (λ (g : Filesystem ℕ). FitInTurn g.files (Counted.changed nat_eq inodes change) rest) (sym found) fit.4))
  where
    then_ : World ℕ
    then_ = with_tree world (filesystem_of world location)
        (changed nat_eq (filesystem_at nat_eq world location).files change)

    found : filesystem_numbered nat_eq (with_tree world (filesystem_of world location)
        (changed nat_eq (filesystem_at nat_eq world location).files change)) (filesystem_of world location)
        ≡ with_files (filesystem_at nat_eq world location)
        (changed nat_eq (filesystem_at nat_eq world location).files change)
    found = found_next world location inodes change is fit.0 fit.1 fit.2 fit.3

-- In the lowered world
module _ (pins : Pins) (world : World ℕ) (is : IsWorld nat_eq world)
    (are : All (ArePinned pins world) world.filesystems) (fit : All (PinsInLayers pins) world.filesystems) where
  pub lowered_in_use : AllInUse (lowered pins world)
  lowered_in_use = lowered_are_in_use pins world (all_in_use world is) are fit

  pub lowered_trees : HasTrees (lowered pins world)
  lowered_trees = All-map (λ (f : Filesystem ℕ). IsListedTree f.files) (lowered_filesystem pins) world.filesystems
      (worlds_have_trees world is)

  lowered_one : any_pair (λ (a b : Filesystem ℕ). nat_eq a.number b.number) (lowered pins world).filesystems ≡ false
  lowered_one = pair-map (λ (a b : Filesystem ℕ). nat_eq a.number b.number)
      (λ (a b : Filesystem ℕ). nat_eq a.number b.number) (lowered_filesystem pins) world.filesystems (λ a b m n e. e)
      is.files.one_filesystem

-- a plain filesystem is there as it was
same_there : (pins : Pins) (world : World ℕ) (number : ℕ) → is_overlay (filesystem_numbered nat_eq world number) ≡ false
    → filesystem_numbered nat_eq (lowered pins world) number ≡ filesystem_numbered nat_eq world number
same_there pins world number plain =
    numbered-lowered pins world number ∙ lowered-plain pins (filesystem_numbered nat_eq world number) plain

pub upper_changes_are_counted : UpperChangesAreCounted
upper_changes_are_counted world location inodes change is plain counted fits links =
    let pins = unnamed_pins world in
    let pinned = unnamed_are_pinned world is in
    let there = same_there pins world (filesystem_of world location) plain in
    record {
      in_use = lowered_in_use pins world is pinned.0 pinned.1;
      trees = lowered_trees pins world is pinned.0 pinned.1;
      one_filesystem = lowered_one pins world is pinned.0 pinned.1;
      plain = ap is_overlay there ∙ plain;
      counted = subst (λ f. IsCounted (lowered pins world) f inodes) (sym there) counted;
      fits = fits;
      links = links;
    }

pub upper_rows_are_counted : UpperRowsAreCounted
upper_rows_are_counted pins world number inodes row is are in_layers plain counted fit =
    let there = same_there pins world number plain in
    record {
      in_use = lowered_in_use pins world is are in_layers;
      trees = lowered_trees pins world is are in_layers;
      one_filesystem = lowered_one pins world is are in_layers;
      plain = ap is_overlay there ∙ plain;
      counted = subst (λ f. IsCounted (lowered pins world) f inodes) (sym there) counted;
      fit = subst (λ (f : Filesystem ℕ). Swept.FitInTurn f.files inodes row) (sym there) fit;
    }
