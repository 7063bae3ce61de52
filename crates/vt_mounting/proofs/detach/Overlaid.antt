-- The overlays of the code's world, and of worlds midway in an event, which leaves overlays as they are.
use Rattle.std.proofs.Common.{◌≡◌, refl, sym, ap, subst, ◌∙◌, inl, inr, ℕ, nat_eq, nat_lt, Bool, true, false, true≢false, eqb-true, not, ◌&&◌, List, [], ◌∷◌, map, filter, is_some, arith, All}
use Rattle.vt_spec.proofs.Common.{Filesystem, SameFilesystems, World, any_pair, common_steps, filesystem_lives, filesystem_numbered, is_mounted, is_overlay, list_all, of_overlay, only_used, pair-filter, settled, used_in, without_dead_mounts}
use Rattle.vt_mounting.proofs.Common.{Among, FilesystemEntry, Filesystems, HasOwnNodes, IsHeld, IsMountedSoOften, OverlaysAreNamed, OverlaysHaveNoUpper, WorldValue, WritersHaveLayers, all_from_among, among-filter, among-from_filter, among-from_map, among-map, among_from_all, are_rising, counted, filesystem_seen, filesystems_seen, filter_all, found_filesystem, has_only_named, in_use_of, layer_count, mounts_showing, overlays_seen, overlays_use_filesystems, put_in, world_of, woven, woven_lists_are_failing}
use Rattle.vt_laws_mounts.proofs.counts.overlays.Living.{overlays_are_mounted}
use Rattle.vt_laws_mounts.proofs.counts.using.Exchanged.{numbers_mapped}
use Rattle.vt_laws_mounts.proofs.letting_go.sweeps.InUse.{after_first, after_second, number-first, number-second, overlay-left}
use Rattle.vt_laws_worlds.specs.OverlaysStay.Woven.{ArePartedBy}
use Rattle.vt_laws_worlds.proofs.overlays_stay.kept.OverlaysLeft.{by_overlays, no_upper_of_plain}
use Rattle.vt_laws_worlds.proofs.overlays_stay.weaving.WovenLists.{rising_filtered, woven_lists_are_passing}
use Rattle.vt_world.specs.Held.{HoldsOverlays}

-- those that are no overlays
abbrev pub is_plain_one : Filesystem ℕ → Bool
is_plain_one filesystem = not (is_overlay filesystem)

-- The overlays of a world midway in an event are those of before it.
pub record KeepsOverlays (old : WorldValue) (world : World ℕ) : Type 0 where
  pub overlays : filter is_overlay world.filesystems ≡ overlays_seen old.overlays
  pub rise : are_rising world.filesystems ≡ true

-- mounts of the world show each overlay that was there before
abbrev pub AreStillMounted : WorldValue → World ℕ → Type 0
AreStillMounted old world = All (λ overlay. is_mounted nat_eq world overlay.number ≡ true) (overlays_seen old.overlays)

-- The code's world

-- no filesystem that code keeps by its inodes is an overlay
pub files_are_plain : (filesystems : Filesystems)
    → All (λ filesystem. is_overlay filesystem ≡ false) (filesystems_seen filesystems)
files_are_plain filesystems =
    all_from_among (λ filesystem. is_overlay filesystem ≡ false) (filesystems_seen filesystems) (λ filesystem m.
    ap is_overlay (among-from_map filesystem_seen filesystems filesystem m).2)

pub parted : (value : WorldValue) → HoldsOverlays value
    → ArePartedBy is_overlay (filesystems_seen value.filesystems) (overlays_seen value.overlays)
parted value holds = record { fail = files_are_plain value.filesystems; pass = holds.merged }

-- its overlays are those that are kept
pub overlays_are : (value : WorldValue) → HoldsOverlays value
    → filter is_overlay (world_of value).filesystems ≡ overlays_seen value.overlays
overlays_are value holds =
    woven_lists_are_passing is_overlay (filesystems_seen value.filesystems) (overlays_seen value.overlays)
    (parted value holds) holds.overlays_rise

-- and its other filesystems those that are kept by their inodes
pub plain_ones_are : (value : WorldValue) → HoldsOverlays value
    → filter is_plain_one (world_of value).filesystems ≡ filesystems_seen value.filesystems
plain_ones_are value holds =
    woven_lists_are_failing is_overlay (filesystems_seen value.filesystems) (overlays_seen value.overlays)
    (parted value holds)

-- what is kept by its inodes is among its filesystems

pub seen_one_among : (value : WorldValue)
    → All (λ filesystem. is_overlay filesystem ≡ true) (overlays_seen value.overlays) → (filesystem : Filesystem ℕ)
    → Among filesystem (filesystems_seen value.filesystems) → Among filesystem (world_of value).filesystems
seen_one_among value merged filesystem m = (among-from_filter is_plain_one (world_of value).filesystems filesystem
    (subst (Among filesystem)
    (sym (woven_lists_are_failing is_overlay (filesystems_seen value.filesystems) (overlays_seen value.overlays)
    (record { fail = files_are_plain value.filesystems; pass = merged }))) m)).0

pub plain_one_among : (value : WorldValue)
    → All (λ filesystem. is_overlay filesystem ≡ true) (overlays_seen value.overlays) → (entry : FilesystemEntry)
    → Among entry value.filesystems → Among (filesystem_seen entry) (world_of value).filesystems
plain_one_among value merged entry m =
    seen_one_among value merged (filesystem_seen entry) (among-map filesystem_seen value.filesystems entry m)

-- and found there by its number
pub found_plain_one : (value : WorldValue) → IsHeld value → (entry : FilesystemEntry) → Among entry value.filesystems
    → filesystem_numbered nat_eq (world_of value) (counted entry.count) ≡ filesystem_seen entry
found_plain_one value held entry m =
    found_filesystem (world_of value).filesystems held.in_world.files.one_filesystem (filesystem_seen entry)
    (plain_one_among value held.overlays.merged entry m)

-- no two of those that are kept by their inodes have one number
pub plain_ones_apart : (value : WorldValue) → IsHeld value
    → any_pair (λ (a b : Filesystem ℕ). nat_eq a.number b.number) (filesystems_seen value.filesystems) ≡ false
plain_ones_apart value held = subst (λ list. any_pair (λ (a b : Filesystem ℕ). nat_eq a.number b.number) list ≡ false)
    (plain_ones_are value held.overlays)
    (pair-filter (λ (a b : Filesystem ℕ). nat_eq a.number b.number) is_plain_one (world_of value).filesystems
    held.in_world.files.one_filesystem)

-- and no overlay has the number of one of them
pub overlay_apart : {value : WorldValue} → IsHeld value → (entry : FilesystemEntry) → Among entry value.filesystems
    → (overlay : Filesystem ℕ) → Among overlay (overlays_seen value.overlays)
    → nat_eq (counted entry.count) overlay.number ≡ false
overlay_apart {value} held entry m overlay n = by (nat_eq (counted entry.count) overlay.number) refl
  where
    by : (b : Bool) → nat_eq (counted entry.count) overlay.number ≡ b → b ≡ false
    by false e = refl
    by true e =
        let there = among-from_filter is_overlay (world_of value).filesystems overlay
        (subst (Among overlay) (sym (overlays_are value held.overlays)) n) in
        absurd (true≢false (sym there.1
        ∙ ap is_overlay (sym (found_filesystem (world_of value).filesystems held.in_world.files.one_filesystem overlay
        there.0)
        ∙ ap (filesystem_numbered nat_eq (world_of value)) (sym (eqb-true (counted entry.count) overlay.number e))
        ∙ found_plain_one value held entry m)))

-- A step that changes plain filesystems alone, and no number, changes them as they are kept.

put_mapped : (step : Filesystem ℕ → Filesystem ℕ) → ((f : Filesystem ℕ) → (step f).number ≡ f.number)
    → (overlay : Filesystem ℕ) → step overlay ≡ overlay → (list : List (Filesystem ℕ))
    → map step (put_in overlay list) ≡ put_in overlay (map step list)
put_mapped step numbers overlay same [] = ap (λ one. one ∷ []) same
put_mapped step numbers overlay same (first ∷ rest) =
    grind (arith, common_steps, put_mapped step numbers overlay same rest)

pub woven_mapped : (step : Filesystem ℕ → Filesystem ℕ) → ((f : Filesystem ℕ) → (step f).number ≡ f.number)
    → (plain overlays : List (Filesystem ℕ)) → ((f : Filesystem ℕ) → Among f overlays → step f ≡ f)
    → map step (woven plain overlays) ≡ woven (map step plain) overlays
woven_mapped step numbers plain [] same = refl
woven_mapped step numbers plain (overlay ∷ rest) same =
    put_mapped step numbers overlay (same overlay (inl refl)) (woven plain rest)
    ∙ ap (put_in overlay) (woven_mapped step numbers plain rest (λ f m. same f (inr m)))

-- it keeps its overlays
pub keeps_itself : (value : WorldValue) → HoldsOverlays value → KeepsOverlays value (world_of value)
keeps_itself value holds = record { overlays = overlays_are value holds; rise = holds.all_rise }

-- Worlds midway

-- the numbers of filesystems rise by themselves

abbrev rise : List ℕ → Bool
rise [] = true
rise (first ∷ rest) = list_all (nat_lt first) rest && rise rest

all_by_numbers : (test : ℕ → Bool) (list : List (Filesystem ℕ))
    → list_all (λ (f : Filesystem ℕ). test f.number) list ≡ list_all test (map (λ (f : Filesystem ℕ). f.number) list)
all_by_numbers test [] = refl
all_by_numbers test (first ∷ rest) = ap (λ b. test first.number && b) (all_by_numbers test rest)

by_numbers : (list : List (Filesystem ℕ)) → are_rising list ≡ rise (map (λ (f : Filesystem ℕ). f.number) list)
by_numbers [] = refl
by_numbers (first ∷ rest) = λ i. all_by_numbers (nat_lt first.number) rest i && by_numbers rest i

pub same_numbers_rise : (before after : List (Filesystem ℕ))
    → map (λ (f : Filesystem ℕ). f.number) after ≡ map (λ (f : Filesystem ℕ). f.number) before
    → are_rising before ≡ true → are_rising after ≡ true
same_numbers_rise before after same rising = by_numbers after ∙ ap rise same ∙ sym (by_numbers before) ∙ rising

pub same_files_rise : (before after : List (Filesystem ℕ)) → SameFilesystems before after
    → are_rising before ≡ true → are_rising after ≡ true
same_files_rise before after same = same_numbers_rise before after (numbers_same before after same)
  where
    numbers_same : (ones others : List (Filesystem ℕ)) → SameFilesystems ones others
        → map (λ (f : Filesystem ℕ). f.number) others ≡ map (λ (f : Filesystem ℕ). f.number) ones
    numbers_same [] [] same = refl
    numbers_same [] (other ∷ others) same = absurd same
    numbers_same (one ∷ ones) [] same = absurd same
    numbers_same (one ∷ ones) (other ∷ others) same = λ i. sym same.0.number i ∷ numbers_same ones others same.1 i

-- the sweep of inodes leaves the numbers of plain filesystems

kind_left : (world : World ℕ) (b : Bool) (f : Filesystem ℕ) → is_overlay (only_used nat_eq world b f) ≡ is_overlay f
kind_left world true f = overlay-left (used_in nat_eq world f) f _
kind_left world false f = refl

pub plain_numbers_left : (world : World ℕ)
    → map (λ (f : Filesystem ℕ). f.number) (filter is_plain_one (settled nat_eq world).filesystems)
    ≡ map (λ (f : Filesystem ℕ). f.number) (filter is_plain_one (in_use_of world).filesystems)
plain_numbers_left world = both (in_use_of world).filesystems
  where
    swept : Filesystem ℕ → Filesystem ℕ
    swept f = after_second world (after_first world f)

    both : (list : List (Filesystem ℕ)) → map (λ (f : Filesystem ℕ). f.number)
        (filter is_plain_one (map (after_second world) (map (after_first world) list)))
        ≡ map (λ (f : Filesystem ℕ). f.number) (filter is_plain_one list)
    both [] = refl
    both (first ∷ rest) =
        grind (
          arith,
          common_steps,
          both rest,
          swept,
          after_second,
          after_first,
          kind_left,
          number-second,
          number-first,
        )

-- a world with the same filesystems keeps the same overlays
pub same_files_keep : (old : WorldValue) (world other : World ℕ) → other.filesystems ≡ world.filesystems
    → KeepsOverlays old world → KeepsOverlays old other
same_files_keep old world other same keeps = record {
  overlays = ap (filter is_overlay) same ∙ keeps.overlays;
  rise = ap are_rising same ∙ keeps.rise;
}

-- no overlay has an upper layer midway,
pub no_upper_midway : (old : WorldValue) → HoldsOverlays old → (world : World ℕ) → KeepsOverlays old world
    → OverlaysHaveNoUpper world
no_upper_midway old holds world keeps =
    by_overlays (λ f. of_overlay false (λ overlay. is_some overlay.upper) f ≡ false) no_upper_of_plain
    (world_of old).filesystems world.filesystems (keeps.overlays ∙ sym (overlays_are old holds)) holds.read_only

-- and each inode of an overlay is the root or has a name
pub named_midway : (old : WorldValue) → HoldsOverlays old → (world : World ℕ) → KeepsOverlays old world
    → OverlaysAreNamed world
named_midway old holds world keeps =
    by_overlays (λ f. is_overlay f ≡ true → has_only_named f ≡ true) (λ f e is. absurd (true≢false (sym is ∙ e)))
    (world_of old).filesystems world.filesystems (keeps.overlays ∙ sym (overlays_are old holds)) holds.named

-- the sweep leaves filesystems in the order of their numbers
pub swept_rise : (world : World ℕ) → are_rising world.filesystems ≡ true
    → are_rising (settled nat_eq world).filesystems ≡ true
swept_rise world rise = same_numbers_rise (in_use_of world).filesystems (settled nat_eq world).filesystems
    (numbers_mapped (after_second world) (number-second world) (map (after_first world) (in_use_of world).filesystems)
    ∙ numbers_mapped (after_first world) (number-first world) (in_use_of world).filesystems)
    (rising_filtered (filesystem_lives nat_eq (without_dead_mounts nat_eq world)) world.filesystems rise)

-- as many layers are in each filesystem while the overlays stay
pub as_many_layers : (world other : World ℕ) → filter is_overlay other.filesystems ≡ filter is_overlay world.filesystems
    → (number : ℕ) → layer_count other number ≡ layer_count world number
as_many_layers world other stay number =
    let same = overlays_use_filesystems world other [] [] [] (filter is_overlay world.filesystems) number refl stay in
    omega (arith, same)

-- another value of the world with the same overlays
pub same_overlays : (old new : WorldValue) → HoldsOverlays old → overlays_seen new.overlays ≡ overlays_seen old.overlays
    → filter is_overlay (world_of new).filesystems ≡ overlays_seen old.overlays
same_overlays old new holds same =
    woven_lists_are_passing is_overlay (filesystems_seen new.filesystems) (overlays_seen new.overlays) (record {
      fail = files_are_plain new.filesystems;
      pass = subst (All (λ filesystem. is_overlay filesystem ≡ true)) (sym same) holds.merged;
    }) (ap are_rising same ∙ holds.overlays_rise) ∙ same

pub layers_kept : (old new : WorldValue) → HoldsOverlays old → overlays_seen new.overlays ≡ overlays_seen old.overlays
    → (number : ℕ) → layer_count (world_of new) number ≡ layer_count (world_of old) number
layers_kept old new holds same =
    as_many_layers (world_of old) (world_of new) (same_overlays old new holds same ∙ sym (overlays_are old holds))

-- where as many mounts show each filesystem, overlays count them still
pub overlays_counted : (old new : WorldValue) → HoldsOverlays old → new.overlays ≡ old.overlays
    → ((number : ℕ) → mounts_showing (world_of new) number ≡ mounts_showing (world_of old) number)
    → All (IsMountedSoOften (world_of new)) new.overlays
overlays_counted old new holds same showing = subst (All (IsMountedSoOften (world_of new))) (sym same)
    (all_from_among (IsMountedSoOften (world_of new)) old.overlays (λ entry m.
    among_from_all (IsMountedSoOften (world_of old)) old.overlays holds.mounts entry m ∙ sym (showing entry.number)))

-- and where mounts show what they showed, the overlays are mounted
pub still_mounted : (old : WorldValue) → IsHeld old → (world : World ℕ)
    → ((number : ℕ) → is_mounted nat_eq world number ≡ is_mounted nat_eq (world_of old) number)
    → AreStillMounted old world
still_mounted old held world same =
    all_from_among (λ (overlay : Filesystem ℕ). is_mounted nat_eq world overlay.number ≡ true)
    (overlays_seen old.overlays) (λ f m.
    let there = among-from_filter is_overlay (world_of old).filesystems f
    (subst (Among f) (sym (overlays_are old held.overlays)) m) in
    same f.number ∙ among_from_all (λ g. is_overlay g ≡ true → is_mounted nat_eq (world_of old) g.number ≡ true)
    (world_of old).filesystems (overlays_are_mounted (world_of old) held.in_world) f there.0 there.1)

-- What holds of overlays holds still of another value of the world with the same ones.
pub overlays_hold_still : {old : WorldValue} (new : WorldValue) → HoldsOverlays old
    → overlays_seen new.overlays ≡ overlays_seen old.overlays → are_rising (world_of new).filesystems ≡ true
    → All (IsMountedSoOften (world_of new)) new.overlays → WritersHaveLayers (world_of new) → HoldsOverlays new
overlays_hold_still {old} new holds same rising mounts writers = record {
  merged = subst (All (λ filesystem. is_overlay filesystem ≡ true)) (sym same) holds.merged;
  read_only = no_upper_midway old holds (world_of new) keeps;
  writers = writers;
  named = named_midway old holds (world_of new) keeps;
  overlays_rise = ap are_rising same ∙ holds.overlays_rise;
  all_rise = rising;
  mounts = mounts;
  own_nodes = subst (All HasOwnNodes) (sym same) holds.own_nodes;
}
  where
    keeps : KeepsOverlays old (world_of new)
    keeps = record { overlays = same_overlays old new holds same; rise = rising }

-- overlays of which each is shown are those that are shown
pub all_shown : (old : WorldValue) (world : World ℕ) → AreStillMounted old world → overlays_seen old.overlays
    ≡ filter (λ overlay. is_mounted nat_eq world overlay.number) (overlays_seen old.overlays)
all_shown old world mounted =
    sym (filter_all (λ (overlay : Filesystem ℕ). is_mounted nat_eq world overlay.number) (overlays_seen old.overlays)
    (among_from_all (λ (overlay : Filesystem ℕ). is_mounted nat_eq world overlay.number ≡ true)
    (overlays_seen old.overlays) mounted))

-- Another value of the world with fewer overlays
module _ {old : WorldValue} (new : WorldValue) (holds : HoldsOverlays old) (stays : Filesystem ℕ → Bool)
    (left : overlays_seen new.overlays ≡ filter stays (overlays_seen old.overlays)) where
  was_there : (f : Filesystem ℕ) → Among f (overlays_seen new.overlays) → Among f (overlays_seen old.overlays)
  was_there f m = (among-from_filter stays (overlays_seen old.overlays) f (subst (Among f) left m)).0

  fewer_are_merged : All (λ filesystem. is_overlay filesystem ≡ true) (overlays_seen new.overlays)
  fewer_are_merged = all_from_among (λ filesystem. is_overlay filesystem ≡ true) (overlays_seen new.overlays) (λ f m.
      among_from_all (λ filesystem. is_overlay filesystem ≡ true) (overlays_seen old.overlays) holds.merged f
      (was_there f m))

  fewer_have_own : All HasOwnNodes (overlays_seen new.overlays)
  fewer_have_own = all_from_among HasOwnNodes (overlays_seen new.overlays) (λ f m.
      among_from_all HasOwnNodes (overlays_seen old.overlays) holds.own_nodes f (was_there f m))

  fewer_rise : are_rising (overlays_seen new.overlays) ≡ true
  fewer_rise = ap are_rising left ∙ rising_filtered stays (overlays_seen old.overlays) holds.overlays_rise

  -- its overlays are those that are kept
  pub fewer_overlays_are : filter is_overlay (world_of new).filesystems ≡ overlays_seen new.overlays
  fewer_overlays_are =
      woven_lists_are_passing is_overlay (filesystems_seen new.filesystems) (overlays_seen new.overlays)
      (record { fail = files_are_plain new.filesystems; pass = fewer_are_merged }) fewer_rise

  overlay_before : (f : Filesystem ℕ) → Among f (world_of new).filesystems → is_overlay f ≡ true
      → Among f (world_of old).filesystems
  overlay_before f m e = (among-from_filter is_overlay (world_of old).filesystems f
      (subst (Among f) (sym (overlays_are old holds)) (was_there f (subst (Among f) fewer_overlays_are
      (among-filter is_overlay (world_of new).filesystems f m e))))).0

  -- as many layers has a world with these overlays
  pub layers_of_fewer : (world : World ℕ)
      → filter is_overlay world.filesystems ≡ filter stays (overlays_seen old.overlays)
      → (number : ℕ) → layer_count (world_of new) number ≡ layer_count world number
  layers_of_fewer world same = as_many_layers world (world_of new) (fewer_overlays_are ∙ left ∙ sym same)

  -- What holds of overlays holds of these.
  pub fewer_overlays_hold : are_rising (world_of new).filesystems ≡ true
      → All (IsMountedSoOften (world_of new)) new.overlays → WritersHaveLayers (world_of new) → HoldsOverlays new
  fewer_overlays_hold rising mounts writers = record {
    merged = fewer_are_merged;
    writers = writers;
    read_only = all_from_among (λ f. of_overlay false (λ overlay. is_some overlay.upper) f ≡ false)
        (world_of new).filesystems (λ f m. no_upper f m (is_overlay f) refl);
    named = all_from_among (λ f. is_overlay f ≡ true → has_only_named f ≡ true) (world_of new).filesystems (λ f m e.
        among_from_all (λ g. is_overlay g ≡ true → has_only_named g ≡ true) (world_of old).filesystems holds.named f
        (overlay_before f m e) e);
    overlays_rise = fewer_rise;
    all_rise = rising;
    mounts = mounts;
    own_nodes = fewer_have_own;
  }
    where
      no_upper : (f : Filesystem ℕ) → Among f (world_of new).filesystems → (b : Bool) → is_overlay f ≡ b
          → of_overlay false (λ overlay. is_some overlay.upper) f ≡ false
      no_upper f m true e = among_from_all (λ g. of_overlay false (λ overlay. is_some overlay.upper) g ≡ false)
          (world_of old).filesystems holds.read_only f (overlay_before f m e)
      no_upper f m false e = no_upper_of_plain f e
