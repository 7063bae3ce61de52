-- What the sweep leaves of an overlay.
use Rattle.std.proofs.Common.{arith, ◌≡◌, refl, sym, ap, ◌∙◌, true≢false, ℕ, nat_eq, Bool, true, false, cond, List, map, filter, Option, Some, None, is_some, option_map}
use Rattle.vt_spec.proofs.Common.{Among, Filesystem, ListsNumbers, Node, Overlay, OverlayInvariants, World, among-from_filter, among_from_all, among_from_list_all, common_steps, filesystem_lives, filesystem_numbered, is_among, is_overlay, list_all, only_used, only_used_by, settled, used_in, without_dead_mounts}
use Rattle.vt_spec.proofs.Found.{filter_all}
use Rattle.vt_spec.proofs.Lists.{among_numbers}
use Rattle.vt_laws_trees.specs.Trees.{IsFileTree}
use Rattle.vt_laws_trees.proofs.layers.layers.LowersWorld.{number_of_filesystem}
use Rattle.vt_laws_mounts.specs.LettingGo.TreesOverlays.{in_use_of}
use Rattle.vt_laws_mounts.proofs.counts.using.Exchanged.{found_mapped, numbers_mapped}
use Rattle.vt_laws_mounts.proofs.counts.using.Swept.{found_is, not_found}
use Rattle.vt_laws_mounts.proofs.letting_go.sweeps.InUse.{after_first, after_second, number-first, number-second, overlay-left, second_leaves}
use Rattle.vt_laws_mounts.proofs.letting_go.sweeps.OfWorlds.{found_filesystem}
use Rattle.vt_laws_worlds.specs.Worlds.Kept.{IsUnderWay}
use Rattle.vt_laws_worlds.proofs.overlay_permits.worlds.SweptWorlds.{files_living, one_living, overlays_living}
use Rattle.vt_laws_kept.specs.Counts.{UnnamedGoWithTheirLastLocation, only_staying, real_staying, stays_in}
use Rattle.vt_laws_kept.proofs.counts.Located.{used_stays}

-- A filesystem with the inodes of a list that are those that stay
module _ (merged : Filesystem ℕ) (overlay : Overlay ℕ) (is : merged.overlay ≡ Some overlay) (used : List ℕ)
    (stays : ℕ → Bool) (same : (inode : ℕ) → is_among nat_eq inode used ≡ stays inode)
    (listed : ListsNumbers nat_eq merged.files)
    (real : (inode : ℕ) → merged.files.tree.node inode ≡ None → overlay.real inode ≡ None) where
  -- what does not stay is not there
  gone : list_all (λ inode. is_among nat_eq inode used) merged.files.numbers ≡ true → (inode : ℕ)
      → stays inode ≡ false → merged.files.tree.node inode ≡ None
  gone all inode out = by (merged.files.tree.node inode) refl
    where
      by : (o : Option (Node ℕ)) → merged.files.tree.node inode ≡ o → merged.files.tree.node inode ≡ None
      by None e = e
      by (Some node) e = absurd (true≢false (sym (among_from_list_all (λ n. is_among nat_eq n used)
          merged.files.numbers all inode (among_numbers merged.files.numbers inode (listed inode ∙ ap is_some e)))
          ∙ same inode ∙ out))

  node_stays : list_all (λ inode. is_among nat_eq inode used) merged.files.numbers ≡ true → (inode : ℕ)
      → merged.files.tree.node inode ≡ cond (stays inode) (merged.files.tree.node inode) None
  node_stays all inode = by (stays inode) refl
    where
      by : (b : Bool) → stays inode ≡ b → merged.files.tree.node inode ≡ cond b (merged.files.tree.node inode) None
      by true e = refl
      by false e = gone all inode e

  real_stays : list_all (λ inode. is_among nat_eq inode used) merged.files.numbers ≡ true → (inode : ℕ)
      → overlay.real inode ≡ cond (stays inode) (overlay.real inode) None
  real_stays all inode = by (stays inode) refl
    where
      by : (b : Bool) → stays inode ≡ b → overlay.real inode ≡ cond b (overlay.real inode) None
      by true e = refl
      by false e = real inode (gone all inode e)

  numbers_stay : list_all (λ inode. is_among nat_eq inode used) merged.files.numbers ≡ true
      → merged.files.numbers ≡ filter stays merged.files.numbers
  numbers_stay all = sym (filter_all stays merged.files.numbers (λ inode m. sym (same inode)
      ∙ among_from_list_all (λ n. is_among nat_eq n used) merged.files.numbers all inode m))

  overlay_stays : list_all (λ inode. is_among nat_eq inode used) merged.files.numbers ≡ true
      → merged.overlay ≡ option_map (real_staying stays) merged.overlay
  overlay_stays all = is ∙ ap Some (λ i. record overlay { real = λ inode. real_stays all inode i })
      ∙ sym (ap (option_map (real_staying stays)) is)

  -- if all stay, it is as it was
  all_stay : list_all (λ inode. is_among nat_eq inode used) merged.files.numbers ≡ true
      → merged ≡ only_staying stays merged
  all_stay all = λ i. record merged {
    files = record {
      tree = record { root = merged.files.tree.root; node = λ inode. node_stays all inode i };
      numbers = numbers_stay all i;
    };
    overlay = overlay_stays all i;
  }

  some_stay : only_used_by nat_eq false used merged ≡ only_staying stays merged
  some_stay = λ i. record merged {
    files = record {
      tree = record {
        root = merged.files.tree.root;
        node = λ inode. cond (same inode i) (merged.files.tree.node inode) None;
      };
      numbers = filter (λ inode. same inode i) merged.files.numbers;
    };
    overlay = option_map (λ (other : Overlay ℕ).
        record other { real = λ inode. cond (same inode i) (other.real inode) None }) merged.overlay;
  }

  pub stay : (b : Bool) → list_all (λ inode. is_among nat_eq inode used) merged.files.numbers ≡ b
      → only_used_by nat_eq b used merged ≡ only_staying stays merged
  stay true e = all_stay e
  stay false e = some_stay

module _ (world : World ℕ) (number : ℕ) (way : IsUnderWay world) (are : OverlayInvariants nat_eq world)
    (there : is_overlay (filesystem_numbered nat_eq (settled nat_eq world) number) ≡ true) where
  abbrev lives : World ℕ
  lives = in_use_of world

  abbrev f : Filesystem ℕ
  f = filesystem_numbered nat_eq lives number

  listed_numbers : map (λ (g : Filesystem ℕ). g.number) (settled nat_eq world).filesystems
      ≡ map (λ (g : Filesystem ℕ). g.number) lives.filesystems
  listed_numbers = numbers_mapped (after_second world) (number-second world) (map (after_first world)
      lives.filesystems)
      ∙ numbers_mapped (after_first world) (number-first world) lives.filesystems

  -- it is there before
  in_lives : (b : Bool) → is_among nat_eq number (map (λ (g : Filesystem ℕ). g.number) lives.filesystems) ≡ b
      → is_among nat_eq number (map (λ (g : Filesystem ℕ). g.number) lives.filesystems) ≡ true
  in_lives true e = e
  in_lives false e = absurd (true≢false (sym there ∙ ap is_overlay
      (not_found (settled nat_eq world).filesystems number (ap (is_among nat_eq number) listed_numbers ∙ e))))

  there_before : is_among nat_eq number (map (λ (g : Filesystem ℕ). g.number) lives.filesystems) ≡ true
  there_before = in_lives _ refl

  f_there : Among f lives.filesystems
  f_there = found_is lives.filesystems number there_before

  was : f ≡ filesystem_numbered nat_eq world number
  was = sym (found_filesystem world.filesystems way.files.one_filesystem f (among-from_filter
      (filesystem_lives nat_eq (without_dead_mounts nat_eq world)) world.filesystems f f_there).0)
      ∙ ap (filesystem_numbered nat_eq world) (number_of_filesystem lives number)

  swept_is : filesystem_numbered nat_eq (settled nat_eq world) number ≡ after_second world (after_first world f)
  swept_is = found_mapped (after_second world) (number-second world) (map (after_first world) lives.filesystems)
      number
      (ap (is_among nat_eq number) (numbers_mapped (after_first world) (number-first world) lives.filesystems)
      ∙ there_before)
      ∙ ap (after_second world) (found_mapped (after_first world) (number-first world) lives.filesystems number
      there_before)

  first_kind : (g : Filesystem ℕ) → is_overlay (after_first world g) ≡ is_overlay g
  first_kind g = grind (arith, common_steps, after_first, overlay-left)

  second_kind : (g : Filesystem ℕ) → is_overlay (after_second world g) ≡ is_overlay g
  second_kind g = grind (arith, common_steps, after_second, overlay-left)

  f_overlay : is_overlay f ≡ true
  f_overlay = sym (first_kind f) ∙ sym (second_kind (after_first world f)) ∙ sym (ap is_overlay swept_is) ∙ there

  left_of : (o : Option (Overlay ℕ)) → f.overlay ≡ o
      → after_first world f ≡ only_staying (stays_in (settled nat_eq world) f) f
  left_of None e = absurd (true≢false (sym f_overlay ∙ ap is_some e))
  left_of (Some overlay) e =
      ap (λ b. only_used nat_eq lives b f) f_overlay
      ∙ stay f overlay e (used_in nat_eq lives f) (stays_in (settled nat_eq world) f)
      (used_stays lives (one_living world way are) (overlays_living world way are) number overlay e)
      (among_from_all (λ (g : Filesystem ℕ). IsFileTree g.files) lives.filesystems (files_living world way are) f
      f_there).numbers
      (λ inode. ((overlays_living world way are).overlays_merge number overlay e).real_there inode)
      (list_all (λ inode. is_among nat_eq inode (used_in nat_eq lives f)) f.files.numbers) refl

  pub left_is : filesystem_numbered nat_eq (settled nat_eq world) number
      ≡ only_staying (stays_in (settled nat_eq world) (filesystem_numbered nat_eq world number))
      (filesystem_numbered nat_eq world number)
  left_is = swept_is ∙ second_leaves world (after_first world f) (first_kind f ∙ f_overlay) ∙ left_of f.overlay refl
      ∙ ap (λ g. only_staying (stays_in (settled nat_eq world) g) g) was

pub unnamed_go_with_their_last_location : UnnamedGoWithTheirLastLocation
unnamed_go_with_their_last_location world number way are there = left_is world number way are there
