-- Nothing of the part of a sealed set is unused in it.
use Rattle.std.proofs.Common.{◌≡◌, refl, sym, ap, subst, ◌∙◌, inr, ⊎_elim, ℕ, nat_eq, Bool, true, false, cond, List, [], ◌∷◌, ◌++◌, Option, None, filter, flat_map, length, ◌≤◌, arith, eqb-true, filter_map}
use Rattle.vt_spec.proofs.Common.{Among, Filesystem, Layer, TaskName, World, all_from_among, among-append_left, among-filter, among-filter_map, among-flat_map, among-from_filter, among-from_filter_map, among-map, among_from_contains, among_numbers, and_parts, any_among, any_from_among, common_steps, filesystem_lives, filesystem_numbered, has_members, is_among, is_among_numbers, is_member_of, is_own_mount, is_under, layers_in, layers_of, lies_in_layer, lies_in_own_lower, list_all, list_all_from_among, list_any, located_in, map_same, members, mount_lives, named_in, objects_of_overlay, of_overlay, only_used, only_used_of, own_lowers, own_mounts, part_of, part_of_filesystem, part_of_lower, part_of_mount, settled, used_directly, used_filesystems, used_in, without_dead_filesystems, without_dead_groups, without_dead_in, without_dead_mounts}
use Rattle.vt_laws_members.proofs.Common.{AllInUse, IsApart, IsSealed, SeesTheSame, apart_if_sealed, dead_mounts_are_in_no_part, filesystems_swept, found, is_inode_used, keep, length-filter_le, length-filter_map, lower_of, same_lowers, same_members, same_used, sealed_by, shown_how, shown_of, used_directly_used, used_later}
use Rattle.vt_laws_sealed.proofs.outsiders.InodesUsed.{in_first, in_third, used_whole}
use Rattle.vt_laws_members.proofs.judging.Common.{own_whole, part_one_number}
use Rattle.vt_laws_members.specs.Changes.Parts.{PartIsSettled}
use Rattle.vt_laws_members.proofs.changes.part.CutTrees.{named_in_cut}
use Rattle.vt_laws_members.proofs.changes.part.PartAgain.{in_chosen, itself, listed, part_again, same_mounts, same_namespaces, same_shown, tree}

keeps_all : {A : Type 0} (p : A → Bool) (xs : List A) → length xs ≤ length (filter p xs) → filter p xs ≡ xs
keeps_all p [] l = refl
keeps_all {A} p (x ∷ xs) l = grind (arith, common_steps, length-filter_le, keeps_all p xs)

module _ {world : World ℕ} {names : List TaskName} (sealing : IsSealed world names) where
  abbrev part : World ℕ
  part = part_of nat_eq world names

  abbrev used : List ℕ
  used = used_filesystems nat_eq world names

  abbrev lowers : List (Layer ℕ)
  lowers = own_lowers nat_eq world names

  apart : IsApart world names
  apart = apart_if_sealed sealing

  pub sees : SeesTheSame world part names
  sees = record {
    tasks = same_members world names;
    mounts = same_mounts world names sealing.is;
    masters = λ group h. ap (λ b. cond b (world.master group) None) h;
    direct = λ number m. found world names number (used_directly_used world names number
        (among_from_contains (used_directly nat_eq world names) number m));
    filesystems = ap (λ u. filter_map (shown_of part u lowers) part.filesystems) (sym (same_used world names))
        ∙ ap (λ l. filter_map (shown_of part (used_filesystems nat_eq part names) l) part.filesystems)
        (sym (same_lowers world names)) ∙ same_shown world names sealing.is;
    namespaces = same_namespaces world names sealing.is;
  }

  mounts_live : filter (mount_lives nat_eq part) part.mounts ≡ part.mounts
  mounts_live =
      let same : length (part_of nat_eq (without_dead_mounts nat_eq part) names).mounts ≡ length part.mounts =
      ap (λ (w : World ℕ). length w.mounts) (dead_mounts_are_in_no_part part names ∙ part_again world names sealing.is)
      in
      let few = length-filter_map (part_of_mount nat_eq (without_dead_mounts nat_eq part) names)
      (filter (mount_lives nat_eq part) part.mounts) in
      keeps_all (mount_lives nat_eq part) part.mounts (omega (arith, same, few))

  filesystems_live : filter (filesystem_lives nat_eq part) part.filesystems ≡ part.filesystems
  filesystems_live =
      let later = filesystems_swept world part names apart sees in
      let same : length (filter_map (shown_of (without_dead_filesystems nat_eq part) used lowers)
      (filter (filesystem_lives nat_eq part) part.filesystems))
      ≡ length part.filesystems = ap length later.filesystems in
      let few = length-filter_map (shown_of (without_dead_filesystems nat_eq part) used lowers)
      (filter (filesystem_lives nat_eq part) part.filesystems) in
      keeps_all (filesystem_lives nat_eq part) part.filesystems (omega (arith, same, few))

  -- a tree that is there by lower layers alone has names and layers alone
  module _ (x : Filesystem ℕ) (m : Among x world.filesystems) (unused : is_among nat_eq x.number used ≡ false)
      (low : list_any (λ (layer : Layer ℕ). nat_eq x.number layer.filesystem) lowers ≡ true) where
    abbrev y : Filesystem ℕ
    y = part_of_lower nat_eq world names x

    abbrev of_overlays : List ℕ
    of_overlays = flat_map (objects_of_overlay nat_eq x.number) part.filesystems

    layer_used : (layer : Layer ℕ) → Among layer lowers → nat_eq x.number layer.filesystem ≡ true
        → Among layer.directory (used_in nat_eq part y)
    layer_used layer at on =
        let of = lower_of world part names sees layer at in
        inr (among-append_left (named_in y.files ++ located_in nat_eq part x.number ++ layers_in nat_eq part x.number)
        of_overlays layer.directory
        (in_third (named_in y.files) (located_in nat_eq part x.number) (layers_in nat_eq part x.number) layer.directory
        (among-map (λ (l : Layer ℕ). l.directory) (filter (λ (l : Layer ℕ). nat_eq x.number l.filesystem)
        (flat_map (of_overlay [] layers_of) part.filesystems)) layer
        (among-filter (λ (l : Layer ℕ). nat_eq x.number l.filesystem)
        (flat_map (of_overlay [] layers_of) part.filesystems) layer
        (among-flat_map (of_overlay [] layers_of) part.filesystems of.0 layer
        (used_later world part names sees of.0 of.1 of.2) of.3) on))))

    inode_used : (object : ℕ) → Among object y.files.numbers → Among object (used_in nat_eq part y)
    inode_used object n =
        let chosen = filter (lies_in_own_lower nat_eq world names x.number) x.files.numbers in
        let in_cut = among-from_filter (λ k. is_among nat_eq k chosen) x.files.numbers object n in
        let from = among-from_filter (lies_in_own_lower nat_eq world names x.number) x.files.numbers object
        (among_numbers chosen object in_cut.1) in
        let at = any_among (lies_in_layer nat_eq world x.number object) lowers from.1 in
        let both = and_parts (nat_eq x.number at.0.filesystem) (is_under nat_eq
        (filesystem_numbered nat_eq world x.number).files at.0.directory object) at.2 in
        let under : is_under nat_eq x.files at.0.directory object ≡ true = cc
        (itself world names sealing.is x m unused low, both.1) in
        by at.0 at.1 both.0 under (nat_eq at.0.directory object) refl
      where
        by : (layer : Layer ℕ) → Among layer lowers → nat_eq x.number layer.filesystem ≡ true
            → is_under nat_eq x.files layer.directory object ≡ true → (b : Bool) → nat_eq layer.directory object ≡ b
            → Among object (used_in nat_eq part y)
        by layer at on under true e =
            subst (λ k. Among k (used_in nat_eq part y)) (eqb-true layer.directory object e) (layer_used layer at on)
        by layer at on under false e =
            inr (among-append_left (named_in y.files ++ located_in nat_eq part x.number ++ layers_in nat_eq part
            x.number) of_overlays object
            (in_first (named_in y.files) (located_in nat_eq part x.number) (layers_in nat_eq part x.number) object
            (named_in_cut x.files (filter (lies_in_own_lower nat_eq world names x.number) x.files.numbers)
            (tree world names sealing.is x m unused low) (listed world names sealing.is x m unused low) layer.directory
            (in_chosen world names sealing.is x m unused low layer at on) object e under)))

    lower_whole : (chosen : Bool) → only_used nat_eq part chosen y ≡ y
    lower_whole true =
        cc (list_all_from_among (λ n. is_among nat_eq n (used_in nat_eq part y)) y.files.numbers (λ object n.
        is_among_numbers (used_in nat_eq part y) object (inode_used object n)))
    lower_whole false = refl

  whole : (chosen : Bool) (y : Filesystem ℕ) → Among y part.filesystems → only_used nat_eq part chosen y ≡ y
  whole chosen y n =
      let from = among-from_filter_map (part_of_filesystem nat_eq world names) world.filesystems y n in
      ⊎_elim (λ same. cc (
        same.0,
        used_whole apart sealing.sealed_off sees (part_one_number world names sealing.is)
            from.0 from.1 same.1 chosen,
      )) (λ low. cc (low.0, lower_whole from.0 from.1 low.1 low.2 chosen))
      (shown_how world names from.0 y from.2)

  inodes_live : (chosen : Filesystem ℕ → Bool) → without_dead_in nat_eq chosen part ≡ part
  inodes_live chosen = ap (λ list. record part { filesystems = list })
      (map_same (λ f. only_used nat_eq part (chosen f) f) part.filesystems (λ y n. whole (chosen y) y n))

  groups_live : without_dead_groups nat_eq part ≡ part
  groups_live = λ i. record part {
    master = λ group. same group (list_any (is_member_of nat_eq group) (own_mounts nat_eq world names)) refl i;
  }
    where
      none : (b : Bool) (o : Option ℕ) → o ≡ None → cond b o None ≡ o
      none true o e = refl
      none false o e = sym e

      same : (group : ℕ) (b : Bool) → list_any (is_member_of nat_eq group) (own_mounts nat_eq world names) ≡ b
          → cond (has_members nat_eq part.mounts group) (part.master group) None ≡ part.master group
      same group true e =
          let own = any_among (is_member_of nat_eq group) (own_mounts nat_eq world names) e in
          let from = among-from_filter (is_own_mount nat_eq world names) world.mounts own.0 own.1 in
          cc (any_from_among (is_member_of nat_eq group) part.mounts own.0
          (among-filter_map (keep world names (members world names)) world.mounts own.0 own.0 from.0
          (own_whole world names sealing.is own.0 from.1)) own.2)
      same group false e = none (has_members nat_eq part.mounts group) (part.master group) (cc)

  pub part_settled : settled nat_eq part ≡ part
  part_settled = grind (arith, common_steps, mounts_live, filesystems_live, inodes_live, groups_live)

-- what a filter leaves passes
all_left : {A : Type 0} (p : A → Bool) (xs : List A) → filter p xs ≡ xs → list_all p xs ≡ true
all_left p xs e = list_all_from_among p xs (λ x m. (among-from_filter p xs x (rw e m)).1)

all_used : (used : List ℕ) (y : Filesystem ℕ) → only_used_of nat_eq used y ≡ y
    → list_all (λ n. is_among nat_eq n used) y.files.numbers ≡ true
all_used used y e = grind (arith, common_steps, all_left)

module _ {world : World ℕ} {names : List TaskName} (sealing : IsSealed world names) where
  pub part_in_use : AllInUse (part_of nat_eq world names)
  part_in_use = record {
    mounts = all_left (mount_lives nat_eq (part sealing)) (part sealing).mounts
        (mounts_live sealing);
    filesystems = all_left (filesystem_lives nat_eq (part sealing))
        (part sealing).filesystems (filesystems_live sealing);
    inodes =
        all_from_among (λ (f : Filesystem ℕ). list_all (is_inode_used (part sealing) f) f.files.numbers ≡ true)
        (part sealing).filesystems (λ y n. all_used (used_in nat_eq (part sealing) y) y
        (whole sealing true y n));
    groups = λ group none. by group none (list_any (is_member_of nat_eq group) (own_mounts nat_eq world names)) refl;
  }
    where
      by : (group : ℕ) → has_members nat_eq (part_of nat_eq world names).mounts group ≡ false → (b : Bool)
          → list_any (is_member_of nat_eq group) (own_mounts nat_eq world names) ≡ b
          → (part_of nat_eq world names).master group ≡ None
      by group none true e =
          let own = any_among (is_member_of nat_eq group) (own_mounts nat_eq world names) e in
          let from = among-from_filter (is_own_mount nat_eq world names) world.mounts own.0 own.1 in
          cc (
            any_from_among (is_member_of nat_eq group) (part_of nat_eq world names).mounts own.0
                (among-filter_map (keep world names (members world names)) world.mounts own.0 own.0 from.0
                (own_whole world names sealing.is own.0 from.1)) own.2,
            none,
          )
      by group none false e = cc

pub part_is_settled : PartIsSettled
part_is_settled world names is sealed_off = part_settled (sealed_by is sealed_off)
