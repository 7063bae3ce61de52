-- Counted inodes after the sweep at the end of a call.
use Rattle.std.proofs.Common.{◌≡◌, refl, sym, ap, subst, ◌∙◌, ℕ, ◌≤◌, nat_eq, Bool, true, false, cond, not, List, [], ◌∷◌, ◌++◌, length, map, filter, flat_map, None, is_some, arith}
use Rattle.vt_spec.proofs.Common.{Filesystem, Inodes, World, any_pair, common_steps, filesystem_lives, filesystem_numbered, is_among, is_overlay, layers_in, layers_of, located_in, named_in, node_in, node_in-none, objects_of_overlay, of_overlay, only_used, only_used_by, only_used_of, settled, targets_in, used_in, uses_in, uses_in-none, without_dead_groups, without_dead_in, without_dead_mounts}
use Rattle.vt_laws_mounts.specs.LettingGo.Counts.{inode_uses, times}
use Rattle.vt_laws_mounts.specs.LettingGo.InUse.{HasTrees, InodesInUse, has_upper_in}
use Rattle.vt_laws_mounts.specs.LettingGo.OneByOne.{Inode}
use Rattle.vt_laws_mounts.proofs.letting_go.sweeps.InUse.{after_first, after_second, first_layers, layers-second, number-first, number-left, number-second, overlay-left, upper-left}
use Rattle.vt_laws_mounts.proofs.letting_go.sweeps.Inodes.{left_of_plain, without_those}
use Rattle.vt_laws_mounts.proofs.letting_go.Lists.{all_from_among, among-from_filter, among-from_map, among_from_all, flat_map-filter, flat_map-map, flat_map_alike}
use Rattle.vt_laws_mounts.proofs.counts.counting.Times.{among_times, as_long, times_among, times_filter, times_in}
use Rattle.vt_laws_mounts.specs.Counts.BesideOverlays.{HasNoUpperIn, UsesAreSweptBesideOverlays}
use Rattle.vt_laws_mounts.specs.Counts.Counted.{IsCounted}
use Rattle.vt_laws_mounts.specs.Counts.Sweeping.{UsesAreSwept}
use Rattle.vt_laws_mounts.specs.Counts.Using.{AreThere, Exchanges, exchanged}
use Rattle.vt_laws_mounts.proofs.counts.using.Exchanged
use Rattle.vt_laws_mounts.proofs.counts.using.Exchanged.{found_mapped, numbers_mapped, root_pinned, root_unpinned}
use Rattle.vt_laws_mounts.proofs.counts.Listed.{no_repeats}
use Rattle.vt_laws_mounts.proofs.counts.using.Swept.{found_number, no_objects_in}
use Rattle.vt_spec.proofs.Inodes.{node_in_is_there}
use Rattle.vt_laws_mounts.specs.LettingGo.TreesOverlays.{in_use_of}

module _ {world : World ℕ} (after : World ℕ) {gained lost : List Inode} {k : ℕ} {inodes : Inodes ℕ}
    (trees : HasTrees world) (in_use : InodesInUse world) (apart : HasNoUpperIn k after)
    (exchange : Exchanges gained lost k world (in_use_of after))
    (counted : IsCounted world (filesystem_numbered nat_eq world k) inodes) (gains : AreThere k inodes gained) where
  abbrev f : Filesystem ℕ
  f = filesystem_numbered nat_eq world k

  abbrev lives : World ℕ
  lives = in_use_of after

  apart_living : HasNoUpperIn k lives
  apart_living = all_from_among (λ g. has_upper_in k g ≡ false) lives.filesystems (λ g m.
      among_from_all (λ g. has_upper_in k g ≡ false) after.filesystems apart g
      (among-from_filter (filesystem_lives nat_eq (without_dead_mounts nat_eq after)) after.filesystems g m).0)

  abbrev used : List ℕ
  used = used_in nat_eq lives f

  -- first inodes of overlays go, then those of plain trees
  abbrev first : World ℕ
  first = without_dead_in nat_eq is_overlay lives

  abbrev swept : World ℕ
  swept = without_dead_in nat_eq (λ g. not (is_overlay g)) first

  abbrev result : Inodes ℕ
  result = exchanged k gained lost inodes

  abbrev f_last : Filesystem ℕ
  f_last = without_those (λ n. not (is_among nat_eq n used)) f

  -- no upper layer comes
  upper_used : (some : World ℕ) (chosen : Bool) (g : Filesystem ℕ)
      → has_upper_in k (only_used nat_eq some chosen g) ≡ has_upper_in k g
  upper_used some true g = upper-left _ g k _
  upper_used some false g = refl

  apart_in : (some : World ℕ) (chosen : Filesystem ℕ → Bool) → HasNoUpperIn k some
      → HasNoUpperIn k (without_dead_in nat_eq chosen some)
  apart_in some chosen so = all_from_among (λ g. has_upper_in k g ≡ false)
      (without_dead_in nat_eq chosen some).filesystems (λ g m.
      let from = among-from_map (λ h. only_used nat_eq some (chosen h) h) some.filesystems g m in
      ap (has_upper_in k) from.2 ∙ upper_used some (chosen from.0) from.0
      ∙ among_from_all (λ g. has_upper_in k g ≡ false) some.filesystems so from.0 from.1)

  -- layers stay
  layers_swept : layers_in nat_eq swept k ≡ layers_in nat_eq lives k
  layers_swept = ap (λ layers. map (λ layer. layer.directory) (filter (λ layer. nat_eq k layer.filesystem) layers))
      (flat_map-map (after_second after) (of_overlay [] layers_of) first.filesystems (layers-second after))
      ∙ first_layers after k

  -- of the filesystem are left the inodes in use
  f_number : f.number ≡ k
  f_number = found_number _ k

  used_first : used_in nat_eq first f ≡ used
  used_first = λ i. f.files.tree.root ∷ (named_in f.files ++ located_in nat_eq lives f.number
      ++ first_layers after f.number i ++ (ap (λ m. flat_map (objects_of_overlay nat_eq m) first.filesystems) f_number
      ∙ no_objects_in k first (apart_in lives is_overlay apart_living) ∙ sym (no_objects_in k lives apart_living)
      ∙ ap (λ m. flat_map (objects_of_overlay nat_eq m) lives.filesystems) (sym f_number)) i)

  left_so : after_second after (after_first after f) ≡ only_used_of nat_eq used f
  left_so = by _ refl
    where
      by : (b : Bool) → is_overlay f ≡ b → after_second after (after_first after f) ≡ only_used_of nat_eq used f
      by true e = ap (after_second after) (ap (λ b. only_used nat_eq lives b f) e) ∙ ap
          (λ b. only_used nat_eq first (not b) (only_used_of nat_eq used f)) (overlay-left used f _ ∙ e)
      by false e = ap (after_second after) (ap (λ b. only_used nat_eq lives b f) e)
          ∙ ap (λ b. only_used nat_eq first (not b) f) e ∙ ap (λ u. only_used_of nat_eq u f) used_first

  there_first : is_among nat_eq k (map (λ g. g.number) first.filesystems) ≡ true
  there_first = ap (is_among nat_eq k) (numbers_mapped _ (number-first after) _)
      ∙ Exchanged.there_after trees in_use apart_living exchange counted gains

  found : filesystem_numbered nat_eq swept k ≡ only_used_of nat_eq used f
  found = found_mapped _ (number-second after) _ k there_first ∙ ap (after_second after)
      (found_mapped _ (number-first after) _ k (Exchanged.there_after trees in_use apart_living exchange counted gains)
      ∙ ap (after_first after) exchange.same) ∙ left_so

  files_left : (only_used_of nat_eq used f).files ≡ f_last.files
  files_left = aside _ ∙ ap (λ (g : Filesystem ℕ). g.files) (left_of_plain used _
      (Exchanged.tree trees in_use apart_living exchange counted gains).numbers refl)
    where
      aside : (b : Bool)
          → (only_used_by nat_eq b used f).files ≡ (only_used_by nat_eq b used (record f { overlay = None })).files
      aside true = refl
      aside false = refl

  counts : Rattle.vt_laws_mounts.proofs.counts.counting.Counts.IsCounted (inode_uses lives f) f.files.tree.node result
  counts = Exchanged.counted_then trees in_use apart_living exchange counted gains

  used_times : (n : ℕ) → times_in n used ≡ uses_in (result.inode n)
  used_times n = sym (counts.uses_are n)

  used_there : (n : ℕ) → is_among nat_eq n used ≡ is_some (result.inode n)
  used_there n = by _ refl
    where
      none : (b : Bool) → is_among nat_eq n used ≡ b → times_in n used ≡ 0 → b ≡ false
      none true e zero_times = absurd (let some = among_times n used e in omega arith)
      none false e zero_times = refl

      by : (b : Bool) → is_some (result.inode n) ≡ b → is_among nat_eq n used ≡ b
      by true e = times_among n used (let some = counts.in_use n e in let same = used_times n in omega arith)
      by false e = none _ refl (used_times n ∙ uses_in-none _ e)

  node_last : (n : ℕ) → node_in (result.inode n) ≡ cond (not (is_among nat_eq n used)) None (f.files.tree.node n)
  node_last n = cc (by _ refl, used_there n)
    where
      by : (b : Bool) → is_some (result.inode n) ≡ b → node_in (result.inode n)
          ≡ cond (not (is_some (result.inode n))) None (f.files.tree.node n)
      by true e = cc (counts.kept n e)
      by false e = cc (node_in-none _ e)

  bare : (n : ℕ) → is_among nat_eq n used ≡ false → targets_in (f.files.tree.node n) ≡ []
  bare n e = counts.emptied n (sym (used_there n) ∙ e)

  named : named_in f_last.files ≡ named_in f.files
  named = flat_map_alike _ _ _ (λ d m. by d _ refl) ∙ flat_map-filter _ _ _ (λ d h. bare d (twice _ h))
    where
      by : (d : ℕ) (b : Bool) → is_among nat_eq d used ≡ b → targets_in (cond (not b) None (f.files.tree.node d))
          ≡ targets_in (f.files.tree.node d)
      by d true e = refl
      by d false e = sym (bare d e)

      twice : (b : Bool) → not (not b) ≡ false → b ≡ false
      twice true e = e
      twice false e = refl

  times_last : (n : ℕ) → times_in n f_last.files.numbers ≡ cond (is_some (result.inode n)) 1 0
  times_last n = times_filter (λ m. not (not (is_among nat_eq m used))) n f.files.numbers
      ∙ ap (λ b. cond (not (not b)) (times_in n f.files.numbers) 0) (used_there n) ∙ by (is_some (result.inode n)) refl
    where
      by : (b : Bool) → is_some (result.inode n) ≡ b → cond (not (not b)) (times_in n f.files.numbers) 0 ≡ cond b 1 0
      by true e = Exchanged.once_f trees in_use apart_living exchange counted gains n
          ∙ ap (λ b. cond b 1 0) (ap is_some (counts.kept n e) ∙ node_in_is_there (result.inode n) e)
      by false e = refl

  few : (n : ℕ) → times_in n f_last.files.numbers ≤ 1
  few n = grind (arith, common_steps, times_last n, times_in n f_last.files.numbers)

  counted_swept : IsCounted swept f_last result
  counted_swept = record {
    root = root_unpinned k f.files.tree.node lost
        (Rattle.vt_spec.specs.Lists.folded (Rattle.vt_laws_mounts.specs.Counts.Using.pinned_if k) inodes gained)
        ∙ root_pinned k f.files.tree.node gained inodes ∙ counted.root;
    node = node_last;
    uses = λ n. counts.uses_are n
        ∙ (λ i. times (nat_eq n) (f.files.tree.root ∷ (sym named i ++ located_in nat_eq lives f.number
        ++ (ap (layers_in nat_eq lives) f_number ∙ sym layers_swept ∙ ap (layers_in nat_eq swept) (sym f_number)) i
        ++ (ap (λ m. flat_map (objects_of_overlay nat_eq m) lives.filesystems) f_number
        ∙ no_objects_in k lives apart_living ∙ sym (no_objects_in k swept
        (apart_in first (λ g. not (is_overlay g)) (apart_in lives is_overlay apart_living)))
        ∙ ap (λ m. flat_map (objects_of_overlay nat_eq m) swept.filesystems) (sym f_number)) i)));
    count = counts.as_many ∙ as_long counts.list f_last.files.numbers (λ n. counts.listed n ∙ sym (times_last n));
    once = no_repeats f_last.files.numbers few;
  }

  -- counts are of the files
  counted_files : IsCounted swept (only_used_of nat_eq used f) result
  counted_files = record {
    root = counted_swept.root ∙ ap (λ files. files.tree.root) (sym files_left);
    node = λ n. counted_swept.node n ∙ ap (λ files. files.tree.node n) (sym files_left);
    uses = λ n. counted_swept.uses n
        ∙ (λ i. inode_uses swept (record f_last { number = numbered i; files = sym files_left i }) n);
    count = counted_swept.count ∙ ap (λ files. length files.numbers) (sym files_left);
    once = ap (λ files. any_pair nat_eq files.numbers) files_left ∙ counted_swept.once;
  }
    where
      numbered : f.number ≡ (only_used_of nat_eq used f).number
      numbered = sym (number-left used f _)

  -- groups do not use inodes
  grouped : (some : World ℕ) → IsCounted some (filesystem_numbered nat_eq some k) result
      → IsCounted (without_dead_groups nat_eq some)
      (filesystem_numbered nat_eq (without_dead_groups nat_eq some) k) result
  grouped some is = record { root = is.root; node = is.node; uses = is.uses; count = is.count; once = is.once }

  counted_settled : IsCounted (settled nat_eq after) (filesystem_numbered nat_eq (settled nat_eq after) k) result
  counted_settled = grouped swept (subst (λ g. IsCounted swept g result) (sym found) counted_files)

pub uses_are_swept_beside_overlays : UsesAreSweptBesideOverlays
uses_are_swept_beside_overlays world after gained lost filesystem inodes trees in_use apart exchange counted gains =
    counted_settled after trees in_use apart exchange counted gains

pub uses_are_swept : UsesAreSwept
uses_are_swept world after gained lost filesystem inodes trees in_use plain exchange counted gains =
    counted_settled after trees in_use (Exchanged.plain_apart filesystem after plain) exchange counted gains
