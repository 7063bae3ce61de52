-- The filesystems that nothing uses are in no part.
use Rattle.std.proofs.Common.{arith, ◌≡◌, refl, sym, ap, ◌∙◌, inl, inr, ⊎_elim, ℕ, nat_eq, Bool, true, false, cond, true≢false, List, [], ◌∷◌, Some, None, filter, find, ◌&&◌, ◌||◌, eq-eqb, eqb-true, unwrap_or}
use Rattle.vt_spec.proofs.Common.{Among, FileTree, Filesystem, Layer, TaskName, World, among-append, among-from_filter, among_from_contains, among_numbers, and_from, and_parts, any_among, any_from_among, common_steps, false_from_ne_true, filesystem_lives, filesystem_numbered, has_layer_on, is_among, is_mounted, list_any, no_filesystem, only_among, or_cases, or_left, or_right, own_lowers, pair-filter, part_of, used_directly, used_filesystems, when, without_dead_filesystems}
use Rattle.vt_laws_members.proofs.Common.{SeesTheSame, among-from_each_once, changed_of, filter_map_filtered, lower_of, lowers_same, part_same, shown_of, used_same}
use Rattle.vt_laws_members.proofs.changes.letting_go.CutAgain.{lies_under}
use Rattle.vt_laws_members.proofs.changes.letting_go.Ready.{Alone, OverlaysMounted, Ready, direct_mounted}
use Rattle.vt_laws_members.proofs.judging.Common.{has_layer}

-- each world shows what it shows
pub sees_itself : (a : World ℕ) (set : List TaskName) → SeesTheSame a a set
sees_itself a set = grind (arith, common_steps)

module _ (a : World ℕ) (set : List TaskName) (used : List ℕ) (lowers : List (Layer ℕ))
    (it : Ready a set used lowers) where
  abbrev direct : List ℕ
  direct = used_directly nat_eq a set

  abbrev used_there : List ℕ
  used_there = used_filesystems nat_eq a set

  abbrev lowers_there : List (Layer ℕ)
  lowers_there = own_lowers nat_eq a set

  abbrev alive : ℕ → Bool
  alive number = is_mounted nat_eq a number
      || list_any (λ merged. has_layer_on nat_eq number merged && is_mounted nat_eq a merged.number) a.filesystems

  layer_alive : (number : ℕ) (merged : Filesystem ℕ) → Among merged a.filesystems → Among merged.number direct
      → has_layer_on nat_eq number merged ≡ true → alive number ≡ true
  layer_alive number merged m at has = or_right (is_mounted nat_eq a number) _ (any_from_among _ a.filesystems merged m
      (and_from (has_layer_on nat_eq number merged) _ has (direct_mounted a set used lowers it merged.number at)))

  lower_alive : (number : ℕ) → list_any (λ (layer : Layer ℕ). nat_eq number layer.filesystem) lowers_there ≡ true
      → alive number ≡ true
  lower_alive number h =
      let at = any_among (λ (layer : Layer ℕ). nat_eq number layer.filesystem) lowers_there h in
      let of = lower_of a a set (sees_itself a set) at.0 at.1 in
      layer_alive number of.0 of.1 of.4 (has_layer number of.0 at.0 of.3 at.2)

  direct_alive : (number : ℕ) → Among number direct → alive number ≡ true
  direct_alive number m = or_left (is_mounted nat_eq a number) _ (direct_mounted a set used lowers it number m)

  used_alive : (number : ℕ) → Among number used_there → alive number ≡ true
  used_alive number m = ⊎_elim (direct_alive number) (λ changed. let of = changed_of a set number changed in
      layer_alive number of.0 of.1 of.2 (has_layer number of.0 of.3 of.4 (eq-eqb number of.3.filesystem of.5)))
      (among-append direct _ number (among-from_each_once _ number m))

  abbrev pub living : World ℕ
  living = without_dead_filesystems nat_eq a

  found_alive : (number : ℕ) → alive number ≡ true
      → filesystem_numbered nat_eq living number ≡ filesystem_numbered nat_eq a number
  found_alive number is = ap (λ o. unwrap_or o (no_filesystem number)) (search a.filesystems)
    where
      search : (list : List (Filesystem ℕ))
          → find (λ (f : Filesystem ℕ). nat_eq number f.number) (filter (filesystem_lives nat_eq a) list)
          ≡ find (λ (f : Filesystem ℕ). nat_eq number f.number) list
      search [] = refl
      search (f ∷ rest) = grind (arith, common_steps, true≢false, eqb-true, search rest)

  abbrev lowered : FileTree ℕ → Filesystem ℕ → Filesystem ℕ
  lowered files x = record x {
    files = only_among nat_eq (filter (lies_under x.number lowers_there files) x.files.numbers) x.files;
    change = 0;
  }

  abbrev has_lower : ℕ → Bool
  has_lower number = list_any (λ (layer : Layer ℕ). nat_eq number layer.filesystem) lowers_there

  dead_not_shown : (x : Filesystem ℕ) → filesystem_lives nat_eq a x ≡ false
      → shown_of a used_there lowers_there x ≡ None
  dead_not_shown x dead = cc (
    false_from_ne_true (is_among nat_eq x.number used_there) (λ h. true≢false (sym (used_alive x.number
        (among_numbers used_there x.number h)) ∙ dead)),
    false_from_ne_true (has_lower x.number) (λ h. true≢false (sym (lower_alive x.number h) ∙ dead)),
  )

  sees_living : SeesTheSame a living set
  sees_living = record {
    tasks = refl;
    mounts = refl;
    masters = λ group e. refl;
    direct = λ number m. found_alive number (direct_alive number (among_from_contains direct number m));
    filesystems = filter_map_filtered (shown_of a used_there lowers_there) (shown_of living used_there lowers_there)
        (filesystem_lives nat_eq a) a.filesystems
        (λ x m lives. ap (λ (f : Filesystem ℕ). cond (is_among nat_eq x.number used_there) (Some x)
        (when (has_lower x.number) (lowered f.files x))) (found_alive x.number lives))
        (λ x m dead. dead_not_shown x dead);
    namespaces = refl;
  }

  pub living_part : part_of nat_eq living set ≡ part_of nat_eq a set
  living_part = part_same a living set sees_living

  there : (x : Filesystem ℕ) → Among x living.filesystems → Among x a.filesystems
  there x m = (among-from_filter (filesystem_lives nat_eq a) a.filesystems x m).0

  pub living_ready : Ready living set used lowers
  living_ready = record {
    used_are = used_same a living set sees_living ∙ it.used_are;
    lowers_are = lowers_same a living set sees_living ∙ it.lowers_are;
    one = it.one;
    lives = it.lives;
    located = it.located;
    parents = it.parents;
    stood = it.stood;
    one_filesystem = pair-filter (λ (x y : Filesystem ℕ). nat_eq x.number y.number) (filesystem_lives nat_eq a)
        a.filesystems it.one_filesystem;
    plain = λ x merged m n has. it.plain x merged (there x m) (there merged n) has;
    free = λ x m at. ⊎_elim (λ alone. inl (alone_too x.number alone)) (λ named. inr named) (it.free x (there x m) at);
    cut = λ x m unused low. it.cut x (there x m) unused low;
  }
    where
      alone_too : (number : ℕ) → Alone a set number → Alone living set number
      alone_too number alone = record {
        itself = record { mounts = alone.itself.mounts; locations = alone.itself.locations };
        overlays = λ merged m has. let none = alone.overlays merged (there merged m) has in
            record { mounts = none.mounts; locations = none.locations };
      }

  -- each overlay that is left is mounted: none is a layer
  pub living_mounted : OverlaysMounted living set
  living_mounted merged m over =
      grind (arith, common_steps, among-from_filter, any_among, true≢false, and_parts, or_cases)
