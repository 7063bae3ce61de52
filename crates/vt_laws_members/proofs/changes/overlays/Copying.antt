-- A change of an overlay by which inodes are copied up, and edited: the two filesystems that it changes, in the world
-- and in the part.
use Rattle.std.proofs.Common.{inr, arith, ◌≡◌, refl, sym, ap, subst, ◌∙◌, inl, ⊎_elim, ℕ, nat_eq, eqb-true, Bool, true, false, cond, List, [], ◌∷◌, ◌++◌, Some, flat_map, map, option_to_list}
use Rattle.vt_spec.proofs.Common.{cases_Bool, AddName, Among, Change, CopyUp, Filesystem, Fresh, IsWorld, Layer, Location, Make, Merge, Move, Overlay, Remove, SetAttr, SetBytes, SetMark, Stack, TaskName, World, among-append_left, among-append_right, among-flat_map, among-from_filter_map, among-map, among_from_all, change_layers, changed_at, common_steps, filesystem_at, filesystem_changed, filesystem_numbered, is_among, is_among_numbers, list_all, list_any, map_twice, merge_changed, mount_at, of_overlay, overlay_changed, overlay_or, part_of, part_of_filesystem, raised, raised_if_changed, replaced_if_numbered, stack_of, used_directly, used_filesystems, with_change, with_files, ⊤}
use Rattle.vt_laws_members.proofs.Common.{CanChange, ChangesFilesystem, Inode, among-each_once, found, inodes_lost_with_upper, merge_after, shown_how, unchanged, used_directly_used, with_filesystems}
use Rattle.vt_laws_worlds.proofs.overlays_let_go.changing.NamesLost.{only_these_lose_names}
use Rattle.vt_laws_worlds.proofs.overlays_let_go.changing.OverlaysChanged.{all_changed, becomes, is_swap, merged_there, new_merged, swap_both}
use Rattle.vt_laws_members.proofs.changes.files.FilesChanged.{lowers_in, part_with_layers}
use Rattle.vt_laws_members.proofs.changes.files.OneFilesystem.{old_used, one_in_part, one_in_world, there_in_part}

-- what is copied up, and perhaps edited
abbrev pub Copies : Change ℕ → Type 0
Copies (Make directory name number node) = ⊥
Copies (AddName directory name object) = ⊥
Copies (Remove directory name object) = ⊥
Copies (Move from old to new object) = ⊥
Copies (SetBytes file bytes) = ⊤
Copies (SetAttr object attr) = ⊤
Copies (SetMark directory opaque) = ⊥
Copies (CopyUp object) = ⊤

-- lower layers do not matter to it
by_no_layer : (fresh : Fresh ℕ) (one other : Stack ℕ) (merge : Merge ℕ) (change : Change ℕ) → Copies change
    → merge_changed nat_eq fresh one merge change ≡ merge_changed nat_eq fresh other merge change
by_no_layer fresh one other merge change copies = grind (arith, common_steps, other)

none_of : (list : List ℕ) → list_all (λ (k : ℕ). false) list ≡ true → list ≡ []
none_of [] e = refl
none_of (k ∷ rest) e = cc

-- an inode of the filesystem of the upper layer
abbrev inode_above : Layer ℕ → ℕ → Inode
inode_above upper inode = (upper.filesystem, inode)

none_above : (upper : Layer ℕ) (list : List ℕ) → list_all (λ (k : ℕ). false) list ≡ true
    → map (inode_above upper) list ≡ []
none_above upper list e = cc (none_of list e)

-- and no name is lost
none_lost : (fresh : Fresh ℕ) (world : World ℕ) (location : Location ℕ) (change : Change ℕ) (overlay : Overlay ℕ)
    (upper : Layer ℕ) → IsWorld nat_eq world → CanChange fresh world location change overlay upper → Copies change
    → inodes_lost_with_upper fresh world location overlay upper change ≡ []
none_lost fresh world location change overlay upper is can copies = by change can copies
  where
    by : (c : Change ℕ) → CanChange fresh world location c overlay upper → Copies c
        → inodes_lost_with_upper fresh world location overlay upper c ≡ []
    by (SetBytes file bytes) it any =
        none_above upper _ (only_these_lose_names fresh world location (SetBytes file bytes) overlay upper is it)
    by (SetAttr object attr) it any =
        none_above upper _ (only_these_lose_names fresh world location (SetAttr object attr) overlay upper is it)
    by (CopyUp object) it any =
        none_above upper _ (only_these_lose_names fresh world location (CopyUp object) overlay upper is it)
    by (Make directory name number node) it none = absurd none
    by (AddName directory name object) it none = absurd none
    by (Remove directory name object) it none = absurd none
    by (Move from old to new object) it none = absurd none
    by (SetMark directory opaque) it none = absurd none

-- the filesystem of the upper layer of an overlay in use is used
pub upper_in_use : (w : World ℕ) (names : List TaskName) (number : ℕ) (overlay : Overlay ℕ) (upper : Layer ℕ)
    → (filesystem_numbered nat_eq w number).overlay ≡ Some overlay → overlay.upper ≡ Some upper
    → Among number (used_directly nat_eq w names)
    → is_among nat_eq upper.filesystem (used_filesystems nat_eq w names) ≡ true
upper_in_use w names number overlay upper overlaid has direct = is_among_numbers (used_filesystems nat_eq w names)
    upper.filesystem (among-each_once _ upper.filesystem (among-append_right (used_directly nat_eq w names)
    (flat_map (λ n. change_layers (filesystem_numbered nat_eq w n)) (used_directly nat_eq w names)) upper.filesystem
    (among-flat_map _ (used_directly nat_eq w names) number upper.filesystem direct
    (rw overlaid (among-map (λ (l : Layer ℕ). l.filesystem) (option_to_list overlay.upper ++ option_to_list
    overlay.work) upper (among-append_left (option_to_list overlay.upper) (option_to_list overlay.work) upper
    (subst (λ o. Among upper (option_to_list o)) (sym has) (inl refl))))))))

-- A change through an overlay of theirs that has an upper layer: by these numbers it can be made.
pub record OverlayChange (world : World ℕ) (names : List TaskName) : Type 0 where
  pub is : IsWorld nat_eq world
  pub supply : Fresh ℕ
  pub location : Location ℕ
  pub change : Change ℕ
  pub overlay : Overlay ℕ
  pub upper : Layer ℕ
  pub can : CanChange supply world location change overlay upper
  pub direct : Among (mount_at nat_eq world location).filesystem (used_directly nat_eq world names)
  pub alike : filesystem_at nat_eq world location ≡ filesystem_at nat_eq (part_of nat_eq world names) location

module _ {world : World ℕ} {names : List TaskName} (it : OverlayChange world names) where
  abbrev part : World ℕ
  part = part_of nat_eq world names

  abbrev pub merged : Filesystem ℕ
  merged = filesystem_at nat_eq world it.location

  abbrev pub layer : Filesystem ℕ
  layer = filesystem_numbered nat_eq world it.upper.filesystem

  abbrev number : ℕ
  number = (mount_at nat_eq world it.location).filesystem

  abbrev pub step : Filesystem ℕ → Filesystem ℕ
  step = swap_both it.is it.can

  -- the overlay after the change
  abbrev merged_later : Filesystem ℕ
  merged_later = new_merged it.is it.can

  abbrev layer_later : Filesystem ℕ
  layer_later = with_files layer (merge_after it.supply world it.location it.overlay it.upper it.change).upper

  pub merged_used : is_among nat_eq number (used_filesystems nat_eq world names) ≡ true
  merged_used = used_directly_used world names number it.direct

  pub layer_used : is_among nat_eq it.upper.filesystem (used_filesystems nat_eq world names) ≡ true
  layer_used = upper_in_use world names number it.overlay it.upper it.can.overlay_there it.can.upper_there it.direct

  -- each keeps its number
  renumbered : (new x : Filesystem ℕ) → (replaced_if_numbered nat_eq new x).number ≡ x.number
  renumbered new x = by (nat_eq new.number x.number) refl
    where
      by : (b : Bool) → nat_eq new.number x.number ≡ b → (cond b new x).number ≡ x.number
      by true e = eqb-true new.number x.number e
      by false e = refl

  pub step_numbered : (x : Filesystem ℕ) → (step x).number ≡ x.number
  step_numbered x = renumbered layer_later (replaced_if_numbered nat_eq merged_later x) ∙ renumbered merged_later x

  -- the two, and no other
  pub record AreOnes (w : World ℕ) : Type 0 where
    pub one_merged : (x : Filesystem ℕ) → Among x w.filesystems → nat_eq merged.number x.number ≡ true → x ≡ merged
    pub one_layer : (x : Filesystem ℕ) → Among x w.filesystems → nat_eq layer.number x.number ≡ true → x ≡ layer

  pub ones_in_world : AreOnes world
  ones_in_world = grind (arith, common_steps, one_in_world, merged_used, layer_used)

  pub ones_in_part : AreOnes part
  ones_in_part = grind (arith, common_steps, one_in_part, merged_used, layer_used)

  -- what an overlay is but for its real objects stays
  pub overlays_stay : {A : Type 0} (w : World ℕ) → AreOnes w → (default : A) (what : Overlay ℕ → A)
      → ((merge : Merge ℕ) → what (record (it.overlay) { real = merge.real }) ≡ what it.overlay) → (x : Filesystem ℕ)
      → Among x w.filesystems → of_overlay default what (step x) ≡ of_overlay default what x
  overlays_stay {A} w ones default what same x m = elim (cases_Bool (nat_eq merged.number x.number)) [
    | inl e ↦ ap (λ f. of_overlay default what (step f)) (ones.one_merged x m e)
        ∙ ap (of_overlay default what) (becomes it.is
        it.can) ∙ same (merge_after it.supply world it.location it.overlay it.upper it.change)
        ∙ sym (ap (overlay_or default what) its) ∙ ap (of_overlay default what) (sym (ones.one_merged x m e))
    | inr e ↦ ap (λ b. of_overlay default what (replaced_if_numbered nat_eq layer_later (cond b merged_later x))) e
        ∙ other (nat_eq layer.number x.number) refl
  ]
    where
      its : merged.overlay ≡ Some it.overlay
      its = it.can.overlay_there

      other : (b : Bool) → nat_eq layer.number x.number ≡ b
          → of_overlay default what (cond b layer_later x) ≡ of_overlay default what x
      other true e = cc (ones.one_layer x m e)
      other false e = refl

  -- a filesystem with another number stays
  pub step_kept : (x : Filesystem ℕ) → nat_eq merged.number x.number ≡ false → nat_eq layer.number x.number ≡ false
      → step x ≡ x
  step_kept x e f =
      ap (λ b. replaced_if_numbered nat_eq layer_later (cond b merged_later x)) e ∙ ap (λ b. cond b layer_later x) f

  -- what they do not use has another number than those
  pub unused_apart : (k : ℕ) → is_among nat_eq k (used_filesystems nat_eq world names) ≡ true → (x : Filesystem ℕ)
      → is_among nat_eq x.number (used_filesystems nat_eq world names) ≡ false
      → nat_eq (filesystem_numbered nat_eq world k).number x.number ≡ false
  unused_apart k used x unused = elim (cases_Bool (nat_eq (filesystem_numbered nat_eq world k).number x.number)) [
    | inl e ↦ cc (old_used world names it.is k used, eqb-true (filesystem_numbered nat_eq world k).number x.number e)
    | inr e ↦ e
  ]

  pub unused_kept : (x : Filesystem ℕ) → is_among nat_eq x.number (used_filesystems nat_eq world names) ≡ false
      → step x ≡ x
  unused_kept x unused = step_kept x (unused_apart number merged_used x unused) (unused_apart _ layer_used x unused)

  -- the overlay is there afterwards
  is_later : (w : World ℕ) → Among merged w.filesystems → Among merged_later (with_filesystems w step).filesystems
  is_later w m = rw (← becomes it.is it.can) (among-map step w.filesystems merged m)

  changes_then : Copies it.change → (last : World ℕ) → Among merged_later last.filesystems → (x : Filesystem ℕ)
      → Among x world.filesystems → ChangesFilesystem last [] x (step x)
  changes_then copies last m = among_from_all (λ x. ChangesFilesystem last [] x (step x)) world.filesystems
      (rw (← none_lost it.supply world it.location it.change it.overlay it.upper it.is it.can copies)
      (all_changed it.is it.can last m))

  there : Among merged world.filesystems
  there = merged_there it.is it.can

  pub changes_in_world : Copies it.change → (x : Filesystem ℕ) → Among x world.filesystems
      → ChangesFilesystem (with_filesystems world step) [] x (step x)
  changes_in_world copies = changes_then copies (with_filesystems world step) (is_later world there)

  pub changes_in_part : Copies it.change → (x : Filesystem ℕ) → Among x part.filesystems
      → ChangesFilesystem (with_filesystems part step) [] x (step x)
  changes_in_part copies x m =
      let from = among-from_filter_map (part_of_filesystem nat_eq world names) world.filesystems x m in
      ⊎_elim (λ same. changes_then copies (with_filesystems part step)
      (is_later part (there_in_part world names it.is number merged_used there)) x (rw (← same.0) from.1))
      (λ low. rw (unused_kept x (ap (λ (f : Filesystem ℕ). is_among nat_eq f.number
      (used_filesystems nat_eq world names)) (sym low.0) ∙ low.1)) (unchanged (with_filesystems part step) [] x))
      (shown_how world names from.0 x from.2)

  -- the change is made
  pub stepped_in_world : with_change nat_eq it.supply world it.location it.change ≡ with_filesystems world step
  stepped_in_world = is_swap it.is it.can world refl refl

  abbrev pub made_of : Stack ℕ → Filesystem ℕ → Merge ℕ
  made_of stack f =
      merge_changed nat_eq it.supply stack (record { files = merged.files; real = it.overlay.real; upper = f.files })
      it.change

  abbrev made_by : World ℕ → Filesystem ℕ → Merge ℕ → List (Filesystem ℕ)
  made_by w f merge = map (replaced_if_numbered nat_eq (with_files f merge.upper))
      (map (replaced_if_numbered nat_eq (record merged {
        files = merge.files;
        overlay = Some (record (it.overlay) { real = merge.real });
      })) w.filesystems)

  pub layer_found : filesystem_numbered nat_eq part it.upper.filesystem ≡ layer
  layer_found = found world names it.upper.filesystem layer_used

  abbrev pub both_numbers : List ℕ
  both_numbers = merged.number ∷ layer.number ∷ []

  -- so it is in each world that shows the two, if it makes the same there
  module _ (w : World ℕ) (shows : filesystem_at nat_eq w it.location ≡ merged)
      (has : filesystem_numbered nat_eq w it.upper.filesystem ≡ layer) where
    pub stepped_if_made : made_of (stack_of nat_eq w it.overlay it.upper) layer
        ≡ made_of (stack_of nat_eq world it.overlay it.upper) layer
        → with_change nat_eq it.supply w it.location it.change ≡ with_filesystems w step
    stepped_if_made same = ap (λ f. filesystem_changed nat_eq it.supply w f f.overlay it.change) shows
        ∙ ap (λ o. filesystem_changed nat_eq it.supply w merged o it.change) it.can.overlay_there
        ∙ ap (λ u. overlay_changed nat_eq it.supply w merged it.overlay u it.change) it.can.upper_there
        ∙ ap (λ f. record w { filesystems = made_by w f (made_of (stack_of nat_eq w it.overlay it.upper) f) }) has
        ∙ ap (λ merge. record w { filesystems = made_by w layer merge }) same
        ∙ ap (λ list. record w { filesystems = list })
        (map_twice (replaced_if_numbered nat_eq layer_later) (replaced_if_numbered nat_eq merged_later) w.filesystems)

    pub numbers_if_seen : changed_at nat_eq w it.location ≡ both_numbers
    numbers_if_seen = cc (shows, it.can.overlay_there, it.can.upper_there, has)

  pub stepped_in_part : Copies it.change → with_change nat_eq it.supply part it.location it.change ≡ with_filesystems
      part step
  stepped_in_part copies = stepped_if_made part (sym it.alike) layer_found
      (by_no_layer it.supply (stack_of nat_eq part it.overlay it.upper) (stack_of nat_eq world it.overlay it.upper)
      (record { files = merged.files; real = it.overlay.real; upper = layer.files }) it.change copies)

  pub numbers_in_world : changed_at nat_eq world it.location ≡ both_numbers
  numbers_in_world = numbers_if_seen world refl refl

  pub numbers_in_part : changed_at nat_eq part it.location ≡ both_numbers
  numbers_in_part = numbers_if_seen part (sym it.alike) layer_found

  -- with their change numbers raised
  abbrev pub moved_on : Filesystem ℕ → Filesystem ℕ
  moved_on x = raised_if_changed nat_eq both_numbers (step x)

  raised_same : {A : Type 0} (what : Filesystem ℕ → A)
      → ((x : Filesystem ℕ) → what (record x { change = raised x.change }) ≡ what x)
      → (x : Filesystem ℕ) → what (moved_on x) ≡ what (step x)
  raised_same {A} what same x = by (list_any (λ n. nat_eq n (step x).number) both_numbers)
    where
      by : (b : Bool) → what (cond b (record (step x) { change = raised (step x).change }) (step x)) ≡ what (step x)
      by true = same (step x)
      by false = refl

  renumbered_on : (x : Filesystem ℕ) → (moved_on x).number ≡ x.number
  renumbered_on x = cc (raised_same (λ (f : Filesystem ℕ). f.number) (λ f. refl) x, step_numbered x)

  pub kept_on : (x : Filesystem ℕ) → is_among nat_eq x.number (used_filesystems nat_eq world names) ≡ false
      → moved_on x ≡ x
  kept_on x unused = grind (arith, common_steps, unused_kept, unused_apart, merged_used, layer_used)

  -- so the part has what changed
  pub part_moved : (w : World ℕ) → AreOnes w
      → ((x : Filesystem ℕ) → is_among nat_eq x.number (used_filesystems nat_eq w names) ≡ false → moved_on x ≡ x)
      → part_of nat_eq (with_filesystems w moved_on) names ≡ with_filesystems (part_of nat_eq w names) moved_on
  part_moved w ones unused = part_with_layers w names moved_on renumbered_on
      (λ x m. raised_same change_layers (λ f. refl) x
      ∙ overlays_stay w ones [] (λ (o : Overlay ℕ). map (λ (l : Layer ℕ). l.filesystem)
      (option_to_list o.upper ++ option_to_list o.work)) (λ merge. refl) x m)
      (λ x m. raised_same lowers_in (λ f. refl) x
      ∙ overlays_stay w ones [] (λ (o : Overlay ℕ). o.lowers) (λ merge. refl) x m) unused
