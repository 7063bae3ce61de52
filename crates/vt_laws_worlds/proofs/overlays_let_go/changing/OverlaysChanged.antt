-- What goes when an overlay changes.
use Rattle.std.proofs.Common.{arith, ◌≡◌, refl, sym, ap, subst, ◌∙◌, ◌⊎◌, inl, inr, ⊎_elim, true≢false, ne_eqb, ℕ, nat_eq, eqb-true, eq-eqb, Bool, true, false, cond, not, ◌||◌, ◌&&◌, List, [], map, Option, Some, None, is_some, option_to_list, unwrap_or, filter_map, All}
use Rattle.vt_spec.proofs.Common.{All-weaker, Change, FileTree, Filesystem, Fresh, HasName, IsWorld, Layer, Location, Merge, Node, Overlay, Real, World, and_parts, cases_Bool, common_steps, filesystem_at, filesystem_changed, filesystem_numbered, holds_of, is_among, is_directory_node, is_overlay, is_plain_layer, layers_of, list_all, list_any-append, map_twice, merge_changed, merge_of, mount_at, named_in, no_filesystem, not-true, objects_of_overlay, or_cases, overlay_changed, overlay_or, replaced_if_numbered, settled, shown_layers, stack_of, upper_object, with_change, with_files, with_merge}
use Rattle.vt_laws_trees.specs.Layers.Layers.ChangesUpper.{IsFitToChange}
use Rattle.vt_laws_trees.proofs.layers.layers.LowersWorld.{number_of_filesystem}
use Rattle.vt_laws_trees.proofs.layers.layers.UpperFit.{overlays_are_fit}
use Rattle.vt_laws_trees.proofs.layers.layers.UpperWorld.{overlay_found, overlay_layers, upper_elsewhere}
use Rattle.vt_laws_mounts.specs.LettingGo.FileChanges.{names_lost}
use Rattle.vt_laws_mounts.specs.LettingGo.InUse.{HasTrees, IsListedTree, UppersArePlain, has_upper_in}
use Rattle.vt_laws_mounts.specs.LettingGo.LeavingOverlays.{IsSettled}
use Rattle.vt_laws_mounts.specs.LettingGo.OneByOne.{Inode, is_inode_among}
use Rattle.vt_laws_mounts.specs.LettingGo.Overlays.{RealsAreThere, let_go_all_inodes, real_in}
use Rattle.vt_laws_mounts.specs.LettingGo.TreeChanges.{ChangesTree}
use Rattle.vt_laws_mounts.specs.LettingGo.TreesOverlays.{ChangesFilesystem, upper_objects, with_filesystems}
use Rattle.vt_laws_mounts.proofs.letting_go.sweeps.InUse.{no_objects}
use Rattle.vt_laws_mounts.proofs.letting_go.Lists.{Among, all_from_among, among-append_left, among-filter, among-filter_map, among-flat_map, among-from_filter_map, among-from_map, among-map, among_from_all, among_from_list_all, among_numbers, any_from_among, found_in, is_among_numbers, list_all_from_among, or_left, or_right}
use Rattle.vt_laws_mounts.proofs.letting_go.leaving.NamesKept.{changes_keep_names}
use Rattle.vt_laws_mounts.proofs.letting_go.sweeps.OfWorlds.{found_filesystem, worlds_are_settled}
use Rattle.vt_laws_mounts.proofs.letting_go.Trees.{named_among}
use Rattle.vt_laws_mounts.proofs.letting_go.leaving.TreesWithOverlays.{changed_trees_let_go, no_real, unchanged}
use Rattle.vt_laws_worlds.specs.OverlaysLetGo.OverlayChanges.{CanChange, OverlayChangesLetGo, inodes_lost_with_upper, merge_after, merge_at, unnamed_by}
use Rattle.vt_laws_worlds.proofs.overlays_let_go.changing.Added.{Adds, adds}
use Rattle.vt_laws_worlds.proofs.overlays_let_go.changing.Copied.{numbers_stay}

-- an inode of a filesystem among those of one number
of_number : (number : ℕ) (list : List ℕ) (filesystem inode : ℕ) → filesystem ≡ number → Among inode list
    → is_inode_among filesystem inode (map (λ i. (number, i)) list) ≡ true
of_number number list filesystem inode same m = any_from_among _ _ (number, inode) (among-map _ list inode m)
    (cc (eq-eqb filesystem number same, eq-eqb inode inode refl))

-- inodes of a list are in another one
abbrev pub HasThese : List Inode → List Inode → Type 0
HasThese list wider = (filesystem inode : ℕ) → is_inode_among filesystem inode list ≡ true
    → is_inode_among filesystem inode wider ≡ true

-- what may have lost its last name is in a longer list, too
changes_within : (last : World ℕ) (lost wider : List Inode) → HasThese lost wider → (old new : Filesystem ℕ)
    → ChangesFilesystem last lost old new → ChangesFilesystem last wider old new
changes_within last lost wider has old new is =
    grind (arith, common_steps, list_all_from_among, or_left, or_right, or_cases, among_from_list_all)

-- the real objects of an overlay in a filesystem
abbrev objects_by : ℕ → List ℕ → Overlay ℕ → List ℕ
objects_by filesystem numbers overlay =
    cond (holds_of (λ (layer : Layer ℕ). nat_eq filesystem layer.filesystem) overlay.upper)
    (filter_map (λ number. upper_object (overlay.real number)) numbers) []

objects_stay : (filesystem : ℕ) (numbers more : List ℕ) (overlay : Overlay ℕ) (real : ℕ → Option (Real ℕ))
    → ((inode : ℕ) → Among inode numbers → Among inode more)
    → ((number object : ℕ) → upper_object (overlay.real number) ≡ Some object
    → upper_object (real number) ≡ Some object) → (object : ℕ) → Among object (objects_by filesystem numbers overlay)
    → Among object (objects_by filesystem more (record overlay { real = real }))
objects_stay filesystem numbers more overlay real stay grows object =
    grind (arith, common_steps, among-from_filter_map, among-filter_map)

module _ {fresh : Fresh ℕ} {world : World ℕ} {location : Location ℕ} {change : Change ℕ} {overlay : Overlay ℕ}
    {upper : Layer ℕ} (conditions : IsWorld nat_eq world)
    (can : CanChange fresh world location change overlay upper) where
  abbrev number : ℕ
  number = (mount_at nat_eq world location).filesystem

  abbrev pub merged : Filesystem ℕ
  merged = filesystem_at nat_eq world location

  abbrev layer : Filesystem ℕ
  layer = filesystem_numbered nat_eq world upper.filesystem

  abbrev before : Merge ℕ
  before = merge_at world location overlay upper

  abbrev later : Merge ℕ
  later = merge_after fresh world location overlay upper change

  pub settles : IsSettled world
  settles = worlds_are_settled world conditions

  pub fit : IsFitToChange fresh before
  fit = overlays_are_fit fresh world number _ upper conditions can.overlay_there can.upper_there can.distinct can.unused

  reals_there : (inode : ℕ) → is_some (overlay.real inode) ≡ true → is_some (merged.files.tree.node inode) ≡ true
  reals_there inode h = by _ refl
    where
      by : (o : Option (Node ℕ)) → merged.files.tree.node inode ≡ o → is_some o ≡ true
      by None e = sym (ap is_some
          ((conditions.overlays.overlays_merge number overlay can.overlay_there).real_there inode e)) ∙ h
      by (Some node) e = refl

  added : Adds change before later
  added = adds fresh (stack_of nat_eq world overlay upper) before fit reals_there change can.may can.named

  -- both filesystems are there
  pub merged_there : Among merged world.filesystems
  merged_there = (found_in _ _ merged (overlay_found world number _ can.overlay_there)).0

  plain_parts : (not (is_overlay layer) ≡ true) × (is_directory_node (layer.files.tree.node upper.directory) ≡ true)
  plain_parts = and_parts (not (is_overlay layer)) (is_directory_node (layer.files.tree.node upper.directory))
      (among_from_list_all (is_plain_layer nat_eq world) (shown_layers overlay)
      (overlay_layers world conditions number overlay can.overlay_there).1 upper
      (among-append_left (option_to_list overlay.upper) overlay.lowers upper
      (subst (λ o. Among upper (option_to_list o)) (sym can.upper_there) (inl refl))))

  layer_plain : is_overlay layer ≡ false
  layer_plain = not-true (is_overlay layer) plain_parts.0

  pub layer_there : Among layer world.filesystems
  layer_there = (found_in _ _ layer (by _ plain_parts.1)).0
    where
      by : (o : Option (Filesystem ℕ)) → is_directory_node
          ((unwrap_or o (no_filesystem upper.filesystem)).files.tree.node upper.directory) ≡ true
          → o ≡ Some (unwrap_or o (no_filesystem upper.filesystem))
      by None h = cc
      by (Some f) h = refl

  abbrev pub new_merged : Filesystem ℕ
  new_merged = record merged { files = later.files; overlay = Some (record overlay { real = later.real }) }

  abbrev new_layer : Filesystem ℕ
  new_layer = with_files layer later.upper

  abbrev pub swap_both : Filesystem ℕ → Filesystem ℕ
  swap_both f = replaced_if_numbered nat_eq new_layer (replaced_if_numbered nat_eq new_merged f)

  apart : nat_eq layer.number merged.number ≡ false
  apart = ne_eqb layer.number merged.number (λ e.
      upper_elsewhere world conditions number overlay can.overlay_there upper can.upper_there
      (sym (number_of_filesystem world upper.filesystem) ∙ e ∙ number_of_filesystem world number))

  -- each is the overlay, the filesystem of its upper layer, or as it was
  data Is (f : Filesystem ℕ) : Type 0 where
    is_merged : f ≡ merged → swap_both f ≡ new_merged → Is f
    is_layer : f ≡ layer → swap_both f ≡ new_layer → Is f
    is_other : swap_both f ≡ f → Is f

  which : (f : Filesystem ℕ) → Among f world.filesystems → Is f
  which f m = by (nat_eq merged.number f.number) refl (nat_eq layer.number f.number) refl
    where
      numbered : (n : ℕ) → f.number ≡ n → f ≡ filesystem_numbered nat_eq world n
      numbered n e = sym (found_filesystem world.filesystems conditions.files.one_filesystem f m)
          ∙ ap (filesystem_numbered nat_eq world) e

      by : (a : Bool) → nat_eq merged.number f.number ≡ a → (b : Bool) → nat_eq layer.number f.number ≡ b → Is f
      by true e b g =
          is_merged (numbered number (sym (eqb-true merged.number f.number e) ∙ number_of_filesystem world number))
          (ap (λ c. replaced_if_numbered nat_eq new_layer (cond c new_merged f)) e
          ∙ ap (λ c. cond c new_layer new_merged) apart)
      by false e true g = is_layer (numbered upper.filesystem
          (sym (eqb-true layer.number f.number g) ∙ number_of_filesystem world upper.filesystem))
          (ap (λ c. replaced_if_numbered nat_eq new_layer (cond c new_merged f)) e ∙ ap (λ c. cond c new_layer f) g)
      by false e false g = is_other (ap (λ c. replaced_if_numbered nat_eq new_layer (cond c new_merged f)) e
          ∙ ap (λ c. cond c new_layer f) g)

  abbrev then_ : World ℕ
  then_ = with_filesystems world swap_both

  for_all : (P : Filesystem ℕ → Type 0) → P new_merged → P new_layer
      → ((f : Filesystem ℕ) → Among f world.filesystems → P f) → All P then_.filesystems
  for_all P here there others = all_from_among P then_.filesystems (λ x m. let from = among-from_map _ _ x m in
      subst P (sym from.2) (by from.0 from.1 (which from.0 from.1)))
    where
      by : (f : Filesystem ℕ) → Among f world.filesystems → Is f → P (swap_both f)
      by f m (is_merged e s) = subst P (sym s) here
      by f m (is_layer e s) = subst P (sym s) there
      by f m (is_other s) = subst P (sym s) (others f m)

  listed_after : IsListedTree later.files
  listed_after = subst IsListedTree (sym added.files) can.tree

  pub trees_then : HasTrees then_
  trees_then = for_all (λ f. IsListedTree f.files) listed_after can.upper_tree
      (λ f m. among_from_all (λ (x : Filesystem ℕ). IsListedTree x.files) world.filesystems settles.trees f m)

  pub reals_then : RealsAreThere then_
  reals_then = for_all (λ f. (k : ℕ) → f.files.tree.node k ≡ None → real_in f k ≡ None)
      (λ k e. by k (later.real k) refl e) (λ k e. no_real new_layer layer_plain k)
      (among_from_all (λ (f : Filesystem ℕ). (k : ℕ) → f.files.tree.node k ≡ None
      → real_in f k ≡ None) world.filesystems settles.reals)
    where
      by : (k : ℕ) (o : Option (Real ℕ)) → later.real k ≡ o → later.files.tree.node k ≡ None → o ≡ None
      by k None r e = refl
      by k (Some real) r e = absurd (true≢false
          (sym (is_among_numbers k later.files.numbers (added.reals k (ap is_some r))) ∙ listed_after.numbers k
          ∙ ap is_some e))

  pub uppers_then : UppersArePlain then_
  uppers_then = for_all (λ f. is_overlay f ≡ true → All (λ g. has_upper_in f.number g ≡ false) then_.filesystems) (λ
      is. all_upper merged.number (was merged merged_there (ap is_some can.overlay_there))) (λ is. absurd (cc
      layer_plain)) (λ f m is. all_upper f.number (was f m is))
    where
      was : (f : Filesystem ℕ) → Among f world.filesystems → is_overlay f ≡ true → (g : Filesystem ℕ)
          → Among g world.filesystems → has_upper_in f.number g ≡ false
      was f m is = among_from_all (λ g. has_upper_in f.number g ≡ false) world.filesystems
          (among_from_all (λ x. is_overlay x ≡ true → All
          (λ g. has_upper_in x.number g ≡ false) world.filesystems) world.filesystems settles.uppers f m is)

      all_upper : (n : ℕ) → ((g : Filesystem ℕ) → Among g world.filesystems → has_upper_in n g ≡ false)
          → All (λ g. has_upper_in n g ≡ false) then_.filesystems
      all_upper n none = for_all (λ g. has_upper_in n g ≡ false) (sym (ap (overlay_or false (λ o.
          holds_of (λ (l : Layer ℕ). nat_eq n l.filesystem) o.upper)) can.overlay_there) ∙ none merged merged_there)
          (none layer layer_there) none

  -- names
  abbrev lost_names : List ℕ
  lost_names = names_lost merged.files change

  abbrev lost_above : List ℕ
  lost_above = unnamed_by layer.files later.upper

  abbrev lost : List Inode
  lost = inodes_lost_with_upper fresh world location overlay upper change

  names_tree : ChangesTree merged.files later.files lost_names
  names_tree = subst (λ t. ChangesTree merged.files t lost_names) (sym added.files)
      (changes_keep_names merged.files change
      (among_from_all (λ (x : Filesystem ℕ). IsListedTree x.files) world.filesystems settles.trees merged merged_there)
      can.tree can.may)

  lost_here : (inode : ℕ) → Among inode lost_names → is_inode_among merged.number inode lost ≡ true
  lost_here inode m = list_any-append (λ (loser : Inode). nat_eq merged.number loser.0 && nat_eq inode loser.1)
      (map (λ i. (number, i)) lost_names) (map (λ i. (upper.filesystem, i)) lost_above) ∙ or_left _ _
      (of_number number _ _ inode (number_of_filesystem world number) m)

  lost_there : (inode : ℕ) → Among inode lost_above → is_inode_among layer.number inode lost ≡ true
  lost_there inode m = list_any-append (λ (loser : Inode). nat_eq layer.number loser.0 && nat_eq inode loser.1)
      (map (λ i. (number, i)) lost_names) (map (λ i. (upper.filesystem, i)) lost_above)
      ∙ or_right (is_inode_among layer.number inode (map (λ i. (number, i)) lost_names)) _
      (of_number _ _ _ inode (number_of_filesystem world upper.filesystem) m)

  -- a world in which the overlay is
  module _ (last : World ℕ) (in_last : Among new_merged last.filesystems) where
    of_merged : ChangesFilesystem last lost merged new_merged
    of_merged = record {
      number = refl;
      root = names_tree.root;
      layers = sym (ap (overlay_or [] layers_of) can.overlay_there);
      inodes = list_all_from_among
          (λ k. is_among nat_eq k merged.files.numbers || is_among nat_eq k (named_in later.files)
          || is_among nat_eq k (upper_objects last merged.number)) later.files.numbers (λ k m.
          or_left (is_among nat_eq k merged.files.numbers || is_among nat_eq k (named_in later.files))
          (is_among nat_eq k (upper_objects last merged.number))
          (among_from_list_all (λ n. is_among nat_eq n merged.files.numbers || is_among nat_eq n
          (named_in later.files)) later.files.numbers names_tree.inodes k m));
      names = list_all_from_among (λ k. is_among nat_eq k (named_in later.files) || is_inode_among merged.number k lost)
          (named_in merged.files) (λ k m.
          ⊎_elim (or_left (is_among nat_eq k (named_in later.files)) (is_inode_among merged.number k lost))
          (λ gone. or_right (is_among nat_eq k (named_in later.files)) (is_inode_among merged.number k lost)
          (lost_here k (among_numbers k lost_names gone)))
          (or_cases (is_among nat_eq k (named_in later.files)) (is_among nat_eq k lost_names)
          (among_from_list_all (λ n. is_among nat_eq n (named_in later.files) || is_among nat_eq n lost_names)
          (named_in merged.files) names_tree.names k m)));
      objects = λ target. list_all_from_among (λ k. is_among nat_eq k (objects_of_overlay nat_eq target new_merged)
          || is_inode_among target k lost) (objects_of_overlay nat_eq target merged)
          (λ k m. or_left (is_among nat_eq k (objects_of_overlay nat_eq target new_merged))
          (is_inode_among target k lost) (is_among_numbers k (objects_of_overlay nat_eq target new_merged)
          (objects_stay target merged.files.numbers later.files.numbers overlay later.real
          (λ inode n. subst (λ (f : FileTree ℕ). Among inode f.numbers) (sym added.files)
          (numbers_stay merged.files change inode n)) added.grows k
          (subst (Among k) (ap (overlay_or [] (λ o. objects_by target merged.files.numbers o)) can.overlay_there) m))));
    }

    is_object : (inode object : ℕ) → Among inode later.files.numbers → upper_object (later.real inode) ≡ Some object
        → Among object (upper_objects last layer.number)
    is_object inode object m e = among-flat_map _ _ new_merged object in_last
        (subst (λ b. Among object (cond b (filter_map (λ n. upper_object (later.real n)) later.files.numbers) []))
        (sym above) (among-filter_map _ _ inode object m e))
      where
        above : holds_of (λ (l : Layer ℕ). nat_eq layer.number l.filesystem) overlay.upper ≡ true
        above = cc (eq-eqb layer.number upper.filesystem (number_of_filesystem world upper.filesystem))

    is_used : (k : ℕ) → Among k later.upper.numbers
        → (is_among nat_eq k layer.files.numbers || is_among nat_eq k (named_in later.upper)
        || is_among nat_eq k (upper_objects last layer.number)) ≡ true
    is_used k m = by _ refl _ refl (added.numbers k m)
      where
        by : (a : Bool) → is_among nat_eq k layer.files.numbers ≡ a → (b : Bool)
            → is_among nat_eq k (named_in later.upper) ≡ b → Among k layer.files.numbers
            ⊎ (((number : ℕ) × Among number later.files.numbers × (upper_object (later.real number) ≡ Some k))
            ⊎ HasName later.upper.tree k) → (a || b || is_among nat_eq k (upper_objects last layer.number)) ≡ true
        by true e b f added_so = refl
        by false e true f added_so = refl
        by false e false f (inl was) = cc (is_among_numbers k layer.files.numbers was)
        by false e false f (inr (inl object)) =
            is_among_numbers k (upper_objects last layer.number) (is_object _ k object.1 object.2)
        by false e false f (inr (inr named)) = cc (named_among later.upper can.upper_tree k named)

    of_layer : ChangesFilesystem last lost layer new_layer
    of_layer = record {
      number = refl;
      root = added.root;
      layers = refl;
      inodes = list_all_from_among
          (λ k. is_among nat_eq k layer.files.numbers || is_among nat_eq k (named_in later.upper)
          || is_among nat_eq k (upper_objects last layer.number)) later.upper.numbers is_used;
      names = list_all_from_among (λ k. is_among nat_eq k (named_in later.upper) || is_inode_among layer.number k lost)
          (named_in layer.files) (λ k m.
          ⊎_elim (or_left (is_among nat_eq k (named_in later.upper)) (is_inode_among layer.number k lost))
          (λ gone. or_right (is_among nat_eq k (named_in later.upper)) (is_inode_among layer.number k lost)
          (lost_there k (among-filter (λ n. not (is_among nat_eq n (named_in later.upper))) (named_in layer.files) k m
          (ap not gone)))) (cases_Bool (is_among nat_eq k (named_in later.upper))));
      objects = λ target. ap (list_all (λ k.
          is_among nat_eq k (objects_of_overlay nat_eq target new_layer) || is_inode_among target k lost))
          (no_objects world target layer layer_plain);
    }

    pub all_changed : All (λ f. ChangesFilesystem last lost f (swap_both f)) world.filesystems
    all_changed = all_from_among (λ f. ChangesFilesystem last lost f (swap_both f)) world.filesystems
        (λ f m. by f (which f m))
      where
        by : (f : Filesystem ℕ) → Is f → ChangesFilesystem last lost f (swap_both f)
        by f (is_merged e s) = subst (λ x. ChangesFilesystem last lost x (swap_both f)) (sym e)
            (subst (ChangesFilesystem last lost merged) (sym s) of_merged)
        by f (is_layer e s) = subst (λ x. ChangesFilesystem last lost x (swap_both f)) (sym e)
            (subst (ChangesFilesystem last lost layer) (sym s) of_layer)
        by f (is_other s) = subst (ChangesFilesystem last lost f) (sym s) (unchanged last lost f)

    -- so it is of all lists that have these
    pub all_changed_within : (wider : List Inode) → HasThese lost wider
        → All (λ f. ChangesFilesystem last wider f (swap_both f)) world.filesystems
    all_changed_within wider has = All-weaker (λ f. ChangesFilesystem last lost f (swap_both f))
        (λ f. ChangesFilesystem last wider f (swap_both f))
        (λ f is. changes_within last lost wider has f (swap_both f) is) world.filesystems all_changed

  pub becomes : swap_both merged ≡ new_merged
  becomes = ap (λ c. replaced_if_numbered nat_eq new_layer (cond c new_merged merged))
      (eq-eqb merged.number merged.number refl) ∙ ap (λ c. cond c new_layer new_merged) apart

  merged_then : Among new_merged then_.filesystems
  merged_then = subst (λ f. Among f then_.filesystems) becomes (among-map _ _ merged merged_there)

  -- so it is in every world that has these filesystems, and shows this one at the location
  pub is_swap : (other : World ℕ) → other.filesystems ≡ world.filesystems
      → (mount_at nat_eq other location).filesystem ≡ number
      → with_change nat_eq fresh other location change ≡ with_filesystems other swap_both
  is_swap other same shows = ap (λ f. filesystem_changed nat_eq fresh other f f.overlay change)
      (ap (filesystem_numbered nat_eq other) shows
      ∙ ap (λ fs. filesystem_numbered nat_eq (record other { filesystems = fs }) number) same)
      ∙ ap (λ o. filesystem_changed nat_eq fresh other merged o change) can.overlay_there
      ∙ ap (λ u. overlay_changed nat_eq fresh other merged overlay u change) can.upper_there
      ∙ ap (λ fs. record other { filesystems = merged_in fs }) same ∙ ap (λ fs. record other { filesystems = fs })
      (map_twice (replaced_if_numbered nat_eq new_layer) (replaced_if_numbered nat_eq new_merged) world.filesystems
      ∙ ap (map swap_both) (sym same))
    where
      of : List (Filesystem ℕ) → World ℕ
      of fs = record world { filesystems = fs }

      merged_in : List (Filesystem ℕ) → List (Filesystem ℕ)
      merged_in fs = (with_merge nat_eq (of fs) merged overlay upper
          (merge_changed nat_eq fresh (stack_of nat_eq (of fs) overlay upper)
          (merge_of nat_eq (of fs) merged overlay upper) change)).filesystems

  -- no overlay has the number of the upper layer's filesystem
  pub layer_plain_then : (f : Filesystem ℕ) → Among f (with_change nat_eq fresh world location change).filesystems
      → is_overlay f ≡ true → nat_eq f.number upper.filesystem ≡ false
  layer_plain_then f m is = by (nat_eq f.number upper.filesystem) refl
    where
      has_none : has_upper_in f.number new_merged ≡ false
      has_none = among_from_all (λ g. has_upper_in f.number g ≡ false) then_.filesystems
          (among_from_all (λ x. is_overlay x ≡ true → All
          (λ g. has_upper_in x.number g ≡ false) then_.filesystems) then_.filesystems uppers_then f
          (subst (λ w. Among f w.filesystems) (is_swap world refl refl) m) is) new_merged merged_then

      by : (b : Bool) → nat_eq f.number upper.filesystem ≡ b → b ≡ false
      by true e = absurd (cc (can.upper_there, has_none))
      by false e = refl

  pub goes_within : (wider : List Inode) → HasThese lost wider
      → settled nat_eq (with_change nat_eq fresh world location change)
      ≡ let_go_all_inodes (with_change nat_eq fresh world location change) wider
  goes_within wider has = subst (λ w. settled nat_eq w ≡ let_go_all_inodes w wider) (sym (is_swap world refl refl))
      (changed_trees_let_go world swap_both wider settles trees_then uppers_then reals_then
      (all_changed_within then_ merged_then wider has))

pub overlay_changes_let_go : OverlayChangesLetGo
overlay_changes_let_go fresh world location change overlay upper conditions can =
    goes_within conditions can
    (inodes_lost_with_upper fresh world location overlay upper change) (λ filesystem inode e. e)
