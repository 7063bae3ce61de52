-- The numbers of filesystems rise after a permit.
use Rattle.std.proofs.Common.{◌≡◌, refl, ap, ◌∙◌, ℕ, nat_eq, nat_lt, Bool, true, false, ◌&&◌, List, [], ◌∷◌, ◌++◌, map, Option, Some, None}
use Rattle.vt_spec.proofs.Common.{Change, CopyUp, Filesystem, Fresh, Layer, Location, Make, Move, Overlay, Permit, Remove, Task, ToChange, ToEnterNamespace, ToExit, ToMake, ToMountOverlay, ToMountPlain, ToOpen, ToOpenNew, ToRemoveDirectory, ToRename, ToSetType, ToUnmount, ToUnmountLazily, ToUnshare, ToWritePart, World, and_parts, apply, evens, filesystem_at, filesystem_changed, filesystem_lives, filesystems-taken_away, filesystems-without_replaced, going, is_copied_up, list_all, mount_numbered, namespace_entered, odds, overlay_changed, plain_filesystem, pwritten, settled, unshared, with_change, with_copy, without_dead_mounts, without_mounts_on, without_replaced, without_task}
use Rattle.vt_laws_mounts.specs.LettingGo.TreesOverlays.{in_use_of}
use Rattle.vt_laws_mounts.proofs.letting_go.sweeps.InUse.{after_first, after_second, number-first, number-second}
use Rattle.vt_laws_mounts.proofs.ends.UnmountingEnds.{lazy_is_of_mounts}
use Rattle.vt_laws_mounts.proofs.mounts.MountsRetyped.{types_are_of_mounts}
use Rattle.vt_laws_mounts.proofs.counts.using.Exchanged.{numbers_mapped}
use Rattle.vt_laws_worlds.specs.Worlds.Permits.{NamesWhatIsThere}
use Rattle.vt_laws_worlds.proofs.worlds.FitPermitsNamed.{all_permits_fit}
use Rattle.vt_laws_worlds.proofs.worlds.PermitsSeen.{gone_on}
use Rattle.vt_laws_worlds.proofs.worlds.SeenTrees.{numbers-replaced}
use Rattle.vt_laws_worlds.specs.OverlaysStay.Kept.{NumbersRiseStill}
use Rattle.vt_laws_worlds.specs.OverlaysStay.Left.{MakesTheGreatest}
use Rattle.vt_laws_worlds.specs.OverlaysStay.Woven.{are_rising}
use Rattle.vt_laws_worlds.proofs.overlays_stay.weaving.WovenLists.{rising_filtered}

abbrev numbers : List (Filesystem ℕ) → List ℕ
numbers list = map (λ (f : Filesystem ℕ). f.number) list

-- they rise by their numbers alone
abbrev rise : List ℕ → Bool
rise [] = true
rise (first ∷ rest) = list_all (nat_lt first) rest && rise rest

all_by_numbers : (test : ℕ → Bool) (list : List (Filesystem ℕ))
    → list_all (λ f. test f.number) list ≡ list_all test (numbers list)
all_by_numbers test [] = refl
all_by_numbers test (first ∷ rest) = cc (all_by_numbers test rest)

by_numbers : (list : List (Filesystem ℕ)) → are_rising list ≡ rise (numbers list)
by_numbers [] = refl
by_numbers (first ∷ rest) = λ i. all_by_numbers (nat_lt first.number) rest i && by_numbers rest i

same_numbers : (before after : List (Filesystem ℕ)) → numbers after ≡ numbers before → are_rising before ≡ true
    → are_rising after ≡ true
same_numbers before after same rising = cc (by_numbers after, by_numbers before)

-- one more with a greater number
one_more : (list : List (Filesystem ℕ)) (new : Filesystem ℕ) → are_rising list ≡ true
    → list_all (λ f. nat_lt f.number new.number) list ≡ true → are_rising (list ++ (new ∷ [])) ≡ true
one_more [] new rising greater = refl
one_more (first ∷ rest) new rising greater =
    let parts = and_parts (list_all (λ f. nat_lt first.number f.number) rest) (are_rising rest) rising in
    let more = and_parts (nat_lt first.number new.number) (list_all (λ f. nat_lt f.number new.number) rest) greater in
    λ i. appended rest parts.0 more.0 i && one_more rest new parts.1 more.1 i
  where
    appended : (some : List (Filesystem ℕ)) → list_all (λ f. nat_lt first.number f.number) some ≡ true
        → nat_lt first.number new.number ≡ true
        → list_all (λ f. nat_lt first.number f.number) (some ++ (new ∷ [])) ≡ true
    appended [] all less = cc
    appended (one ∷ others) all less =
        let parts = and_parts (nat_lt first.number one.number)
        (list_all (λ f. nat_lt first.number f.number) others) all in
        λ i. parts.0 i && appended others parts.1 less i

module _ (world : World ℕ) (fresh : Fresh ℕ) (task : Task ℕ) (rising : are_rising world.filesystems ≡ true) where
  abbrev after : Permit ℕ → World ℕ
  after permit = (apply nat_eq fresh world task permit).world

  same_list : (list : List (Filesystem ℕ)) → list ≡ world.filesystems → are_rising list ≡ true
  same_list list same = cc

  -- a change keeps all numbers
  change_numbers : (supply : Fresh ℕ) (middle : World ℕ) (location : Location ℕ) (change : Change ℕ)
      → numbers (with_change nat_eq supply middle location change).filesystems ≡ numbers middle.filesystems
  change_numbers supply middle location change = by _
    where
      old : Filesystem ℕ
      old = filesystem_at nat_eq middle location

      upper : (overlay : Overlay ℕ) (u : Option (Layer ℕ))
          → numbers (overlay_changed nat_eq supply middle old overlay u change).filesystems ≡ numbers middle.filesystems
      upper overlay None = refl
      upper overlay (Some layer) = numbers-replaced _ _ ∙ numbers-replaced _ middle.filesystems

      by : (o : Option (Overlay ℕ))
          → numbers (filesystem_changed nat_eq supply middle old o change).filesystems ≡ numbers middle.filesystems
      by None = numbers-replaced _ middle.filesystems
      by (Some overlay) = upper _ _

  changing : (supply : Fresh ℕ) (middle : World ℕ) → middle.filesystems ≡ world.filesystems
      → (location : Location ℕ) (change : Change ℕ)
      → are_rising (with_change nat_eq supply middle location change).filesystems ≡ true
  changing supply middle same location change =
      same_numbers world.filesystems (with_change nat_eq supply middle location change).filesystems
      (change_numbers supply middle location change ∙ ap numbers same) rising

  copying : (b : Bool) (file : Location ℕ) → are_rising (with_copy nat_eq b fresh world file).filesystems ≡ true
  copying true file = changing fresh world refl file (CopyUp file.node)
  copying false file = rising

  writing : (file : Location ℕ) (offset : ℕ) (bytes : List ℕ)
      → are_rising (pwritten nat_eq fresh world file offset bytes).filesystems ≡ true
  writing file offset [] = rising
  writing file offset (byte ∷ bytes) = changing fresh world refl file _

  pub rising_then : (permit : Permit ℕ) → MakesTheGreatest fresh world permit → NamesWhatIsThere world task permit
      → are_rising (after permit).filesystems ≡ true
  rising_then (ToChange location change) greatest fits = changing fresh world refl location change
  rising_then (ToMake directory name node) greatest fits =
      changing (odds fresh) world refl directory (Make directory.node name (evens fresh 0) node)
  rising_then (ToRemoveDirectory parent name directory) greatest fits =
      changing fresh (without_mounts_on nat_eq world directory)
      (filesystems-taken_away world (gone_on world directory)) parent (Remove parent.node name directory.node)
  rising_then (ToRename from old to new object replaced) greatest fits =
      changing fresh (without_replaced nat_eq world replaced) (filesystems-without_replaced world replaced) from
      (Move from.node old to.node new object.node)
  rising_then (ToOpen file access) greatest fits = copying (is_copied_up nat_eq world file access) file
  rising_then (ToOpenNew directory name node access) greatest fits =
      changing (odds fresh) world refl directory (Make directory.node name (evens fresh 0) node)
  rising_then (ToWritePart file offset bytes) greatest fits = writing file offset bytes
  rising_then ToExit greatest fits =
      same_list (after ToExit).filesystems (filesystems-taken_away (without_task world task.name) _)
  rising_then ToUnshare greatest fits =
      same_list (after ToUnshare).filesystems (filesystems-taken_away (unshared nat_eq world fresh task) _)
  rising_then (ToEnterNamespace namespace) greatest fits = same_list (after (ToEnterNamespace namespace)).filesystems
      (filesystems-taken_away (namespace_entered nat_eq world task namespace) _)
  rising_then (ToMountPlain place flags) greatest fits =
      one_more world.filesystems (plain_filesystem nat_eq fresh) rising (greatest place flags refl)
  rising_then (ToMountOverlay place overlay flags) greatest fits = absurd fits
  rising_then (ToUnmount mount) greatest fits = same_list (after (ToUnmount mount)).filesystems
      (filesystems-taken_away world (going nat_eq world (mount_numbered nat_eq world mount)))
  rising_then (ToUnmountLazily mount) greatest fits =
      same_list (after (ToUnmountLazily mount)).filesystems (lazy_is_of_mounts world mount).filesystems
  rising_then (ToSetType mount word recursive) greatest fits =
      same_list (after (ToSetType mount word recursive)).filesystems
      (types_are_of_mounts world fresh mount word recursive).filesystems
  rising_then permit greatest fits = rising

pub numbers_rise_still : NumbersRiseStill
numbers_rise_still world fresh task permit is given rising greatest =
    let applied = rising_then world fresh task rising permit greatest
    (all_permits_fit world fresh task given.call permit is given.serves given.called given.no_overlay
    given.judged).names in
    (applied, swept (apply nat_eq fresh world task permit).world applied)
  where
    -- the sweep leaves some, with their numbers
    swept : (w : World ℕ) → are_rising w.filesystems ≡ true → are_rising (settled nat_eq w).filesystems ≡ true
    swept w so = same_numbers (in_use_of w).filesystems (settled nat_eq w).filesystems
        (numbers_mapped (after_second w) (number-second w) (map (after_first w) (in_use_of w).filesystems)
        ∙ numbers_mapped (after_first w) (number-first w) (in_use_of w).filesystems)
        (rising_filtered (filesystem_lives nat_eq (without_dead_mounts nat_eq w)) w.filesystems so)
