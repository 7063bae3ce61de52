-- An inode goes with its last use.
use Rattle.std.proofs.Common.{◌≡◌, refl, sym, ap, subst, ◌∙◌, ℕ, nat_eq, eqb-true, eq-eqb, Bool, true, false, true≢false, cond, not, ◌&&◌, ◌+◌, [], ◌∷◌, ◌++◌, find, map, Option, Some, None, is_some, option_map, unwrap_or, arith, nat_lt}
use Rattle.vt_spec.proofs.Common.{Filesystem, Overlay, World, and-false, and-true, and_parts, any_pair, common_steps, filesystem_numbered, is_overlay, list_all, map_alike, no_filesystem, of_overlay, overlay_or, without_dead_inodes}
use Rattle.vt_laws_later_calls.proofs.Common.{Among, HasTrees, Inode, InodesInUse, InodesInUseBut, RealsAreThere, UppersArePlain, all_from_among, among-from_map, among_from_all, among_from_list_all, flat_map_none, found_by, inode_is_looked_up, inode_uses, inodes_stay, is_inode, is_inode_used, is_plain, is_used_or_among, let_go_in, let_go_in_of, let_go_inode, let_go_plain, list_all_from_among, map_same, uppers_in, uppers_of, uppers_of_inode, used_while_counted, without_inode_at, without_real}
use Rattle.vt_laws_mounts.proofs.letting_go.Lists.{found_in}
use Rattle.vt_laws_mounts.proofs.letting_go.sweeps.Inodes.{inodes_go_one_by_one}
use Rattle.vt_laws_mounts.proofs.letting_go.sweeps.WithOverlays.{all_inodes_go_one_by_one}
use Rattle.vt_laws_later_calls.specs.LastUse.{ExchangeOfOneLosesOneUse, InodeBesideOverlaysGoesWithItsLastUse, InodeGoesWithItsLastUse, InodeOfOverlayGoesWithItsLastUse, LosesOneUse, without_inode_of_any, without_merged_inode}
use Rattle.vt_laws_later_calls.proofs.last_use.OneLess.{some_left}

pub exchange_of_one_loses_one_use : ExchangeOfOneLosesOneUse
exchange_of_one_loses_one_use world after inode exchange = record {
  numbers = λ filesystem. cc ((exchange filesystem).same);
  uses = λ filesystem number. alike (inode_uses world (filesystem_numbered nat_eq world filesystem) number)
      (inode_uses after (filesystem_numbered nat_eq after filesystem) number)
      (cond (is_inode filesystem number inode) 1 0) ((exchange filesystem).uses number);
}
  where
    alike : (a b c : ℕ) → a + 0 ≡ b + (c + 0) → a ≡ b + c
    alike a b c e = omega arith

-- where all inodes are used, so are those of the filesystem of a number
used_in_numbered : (world : World ℕ) → InodesInUse world → (k number : ℕ)
    → Among number (filesystem_numbered nat_eq world k).files.numbers
    → is_inode_used world (filesystem_numbered nat_eq world k) number ≡ true
used_in_numbered world in_use k number = by (find (λ (f : Filesystem ℕ). nat_eq k f.number) world.filesystems) refl
  where
    by : (o : Option (Filesystem ℕ)) → find (λ (f : Filesystem ℕ). nat_eq k f.number) world.filesystems ≡ o
        → Among number (unwrap_or o (no_filesystem k)).files.numbers
        → is_inode_used world (unwrap_or o (no_filesystem k)) number ≡ true
    by None e m = absurd m
    by (Some f) e m = among_from_list_all _ f.files.numbers
        (among_from_all (λ g. list_all (is_inode_used world g) g.files.numbers ≡ true) world.filesystems in_use f
        (found_in (λ (g : Filesystem ℕ). nat_eq k g.number) world.filesystems f e).0) number m

module _ {world after : World ℕ} {inode : Inode} (in_use : InodesInUse world)
    (loses : LosesOneUse inode world after)
    (one : any_pair (λ (a b : Filesystem ℕ). nat_eq a.number b.number) after.filesystems ≡ false) where
  -- it is used if it had more uses
  used_still : is_inode_used after (filesystem_numbered nat_eq after inode.0) inode.1
      ≡ nat_lt 1 (inode_uses world (filesystem_numbered nat_eq world inode.0) inode.1)
  used_still = used_while_counted after (filesystem_numbered nat_eq after inode.0) inode.1
      ∙ some_left (inode_uses world (filesystem_numbered nat_eq world inode.0) inode.1)
      (inode_uses after (filesystem_numbered nat_eq after inode.0) inode.1) (loses.uses inode.0 inode.1
      ∙ ap (λ b. inode_uses after (filesystem_numbered nat_eq after inode.0) inode.1 + cond b 1 0)
      (λ i. eq-eqb inode.0 inode.0 refl i && eq-eqb inode.1 inode.1 refl i))

  -- every other inode is used as before
  used_as_before : (k number : ℕ) → is_inode k number inode ≡ false
      → is_inode_used after (filesystem_numbered nat_eq after k) number
      ≡ is_inode_used world (filesystem_numbered nat_eq world k) number
  used_as_before k number differs = used_while_counted after (filesystem_numbered nat_eq after k) number
      ∙ ap (nat_lt 0) (sym (alike (inode_uses world (filesystem_numbered nat_eq world k) number)
      (inode_uses after (filesystem_numbered nat_eq after k) number) (loses.uses k number
      ∙ ap (λ b. inode_uses after (filesystem_numbered nat_eq after k) number + cond b 1 0) differs)))
      ∙ sym (used_while_counted world (filesystem_numbered nat_eq world k) number)
    where
      alike : (a b : ℕ) → a ≡ b + 0 → a ≡ b
      alike a b e = omega arith

  pub found_after : (filesystem : Filesystem ℕ) → Among filesystem after.filesystems
      → filesystem_numbered nat_eq after filesystem.number ≡ filesystem
  found_after filesystem m = found_by (λ (x : Filesystem ℕ). x.number) _ after.filesystems one filesystem m

  -- what is not this inode is used
  others_used : (filesystem : Filesystem ℕ) → Among filesystem after.filesystems → (number : ℕ)
      → Among number filesystem.files.numbers → is_inode filesystem.number number inode ≡ false
      → is_inode_used after filesystem number ≡ true
  others_used filesystem m number n differs = ap (λ f. is_inode_used after f number) (sym (found_after filesystem m))
      ∙ used_as_before filesystem.number number differs ∙ used_in_numbered world in_use filesystem.number number
      (subst (Among number) (ap (λ f. f.files.numbers) (sym (found_after filesystem m))
      ∙ loses.numbers filesystem.number) n)

  other_inodes : InodesInUseBut (inode ∷ []) after
  other_inodes =
      all_from_among (λ f. list_all (is_used_or_among (inode ∷ []) after f) f.files.numbers ≡ true) after.filesystems
      (λ f m. list_all_from_among (is_used_or_among (inode ∷ []) after f) f.files.numbers
      (λ number n. grind (arith, common_steps, others_used f m number n)))

  -- while it has another use, all are used
  all_used : nat_lt 1 (inode_uses world (filesystem_numbered nat_eq world inode.0) inode.1) ≡ true → InodesInUse after
  all_used more = all_from_among (λ f. list_all (is_inode_used after f) f.files.numbers ≡ true) after.filesystems
      (λ f m. list_all_from_among (is_inode_used after f) f.files.numbers
      (λ number n. by f m number n (is_inode f.number number inode) refl))
    where
      by : (f : Filesystem ℕ) → Among f after.filesystems → (number : ℕ) → Among number f.files.numbers → (b : Bool)
          → is_inode f.number number inode ≡ b → is_inode_used after f number ≡ true
      by f m number n true e =
          let parts = and_parts (nat_eq f.number inode.0) (nat_eq number inode.1) e in
          ap (λ g. is_inode_used after g number) (sym (found_after f m))
          ∙ (λ i. is_inode_used after (filesystem_numbered nat_eq after (eqb-true f.number inode.0 parts.0 i))
          (eqb-true number inode.1 parts.1 i)) ∙ used_still ∙ more
      by f m number n false e = others_used f m number n e

  -- the filesystem of its number
  pub its_kind : (b : Bool) → is_overlay (filesystem_numbered nat_eq after inode.0) ≡ b → (filesystem : Filesystem ℕ)
      → Among filesystem after.filesystems → nat_eq filesystem.number inode.0 ≡ true → is_overlay filesystem ≡ b
  its_kind b kind filesystem m e = cc (found_after filesystem m, eqb-true filesystem.number inode.0 e)

  looked_up : let_go_inode after inode
      ≡ cond (nat_lt 1 (inode_uses world (filesystem_numbered nat_eq world inode.0) inode.1)) after
      (without_inode_at after inode)
  looked_up = cc (inode_is_looked_up after inode one, used_still)

  -- Of a plain tree, beside overlays
  module _ (plain : is_overlay (filesystem_numbered nat_eq after inode.0) ≡ false) where
    -- no overlay is looked at
    merged_stay : let_go_in is_overlay after inode ≡ after
    merged_stay = grind (arith, common_steps, map_same, its_kind, and-false)

    no_uppers : uppers_of_inode after inode ≡ []
    no_uppers = flat_map_none _ after.filesystems (λ f m. by f m (nat_eq f.number inode.0) refl)
      where
        none : (o : Option (Overlay ℕ)) → is_some o ≡ false → overlay_or [] (uppers_in inode.1) o ≡ []
        none None e = refl
        none (Some overlay) e = cc

        by : (f : Filesystem ℕ) → Among f after.filesystems → (b : Bool) → nat_eq f.number inode.0 ≡ b
            → cond b (of_overlay [] (uppers_in inode.1) f) [] ≡ []
        by f m true e = none f.overlay (its_kind false plain f m e)
        by f m false e = refl

    -- in a plain tree it has no real object
    plain_looked_at : let_go_in is_plain after inode ≡ let_go_inode after inode
    plain_looked_at = grind (arith, common_steps, map_alike, true≢false, its_kind, and-false)

    beside_overlays : HasTrees after → UppersArePlain after → RealsAreThere after → without_dead_inodes nat_eq after
        ≡ cond (nat_lt 1 (inode_uses world (filesystem_numbered nat_eq world inode.0) inode.1)) after
        (without_inode_at after inode)
    beside_overlays trees uppers reals = all_inodes_go_one_by_one after (inode ∷ []) trees uppers reals other_inodes
        ∙ ap (λ w. let_go_plain w (inode ∷ uppers_of after (inode ∷ []))) merged_stay
        ∙ ap (λ list. let_go_plain after (inode ∷ (list ++ []))) no_uppers ∙ plain_looked_at ∙ looked_up

  -- Of an overlay
  module _ (merged : is_overlay (filesystem_numbered nat_eq after inode.0) ≡ true) where
    unused : nat_lt 1 (inode_uses world (filesystem_numbered nat_eq world inode.0) inode.1) ≡ false
        → (f : Filesystem ℕ) → Among f after.filesystems → nat_eq f.number inode.0 ≡ true
        → is_inode_used after f inode.1 ≡ false
    unused last f m e = cc (found_after f m, eqb-true f.number inode.0 e, used_still)

    -- it goes
    merged_goes : nat_lt 1 (inode_uses world (filesystem_numbered nat_eq world inode.0) inode.1) ≡ false
        → let_go_in is_overlay after inode ≡ without_merged_inode after inode
    merged_goes last = grind (arith, common_steps, map_alike, its_kind, unused, and-true, and-false)

    -- no plain tree has its number
    no_plain : let_go_in is_plain (without_merged_inode after inode) inode ≡ without_merged_inode after inode
    no_plain = cc (map_same (let_go_in_of is_plain (without_merged_inode after inode) inode)
        (map (without_inode_of_any inode) after.filesystems) (λ g m. let from = among-from_map
        (without_inode_of_any inode) after.filesystems g m in ap (let_go_in_of is_plain
        (without_merged_inode after inode) inode) from.2 ∙ by from.0 from.1 (nat_eq from.0.number inode.0) refl ∙
        sym from.2))
      where
        stays : (g : Filesystem ℕ) → (is_plain g && nat_eq g.number inode.0) ≡ false
            → let_go_in_of is_plain (without_merged_inode after inode) inode g ≡ g
        stays g e = cc

        still_merged : (o : Option (Overlay ℕ)) → is_some (option_map (without_real inode.1) o) ≡ is_some o
        still_merged None = refl
        still_merged (Some overlay) = refl

        by : (f : Filesystem ℕ) → Among f after.filesystems → (b : Bool) → nat_eq f.number inode.0 ≡ b
            → let_go_in_of is_plain (without_merged_inode after inode) inode (without_inode_of_any inode f)
            ≡ without_inode_of_any inode f
        by f m true e = stays (without_inode_of_any inode f) (cc (still_merged f.overlay, its_kind true merged f m e))
        by f m false e = stays (without_inode_of_any inode f) (cc (and-false (is_plain f)))

    pub of_overlay_left : HasTrees after → UppersArePlain after → RealsAreThere after → (more : Bool)
        → nat_lt 1 (inode_uses world (filesystem_numbered nat_eq world inode.0) inode.1) ≡ more
        → without_dead_inodes nat_eq after
        ≡ cond more after (let_go_plain (without_merged_inode after inode) (uppers_of after (inode ∷ [])))
    of_overlay_left trees uppers reals true e =
        cc (inodes_stay is_overlay after (all_used e), inodes_stay (λ f. not (is_overlay f)) after (all_used e))
    of_overlay_left trees uppers reals false e =
        cc (all_inodes_go_one_by_one after (inode ∷ []) trees uppers reals other_inodes, merged_goes e, no_plain)

pub inode_goes_with_its_last_use : InodeGoesWithItsLastUse
inode_goes_with_its_last_use world after inode in_use loses plain trees one =
    inodes_go_one_by_one after (inode ∷ []) plain trees (other_inodes in_use.inodes loses one)
    ∙ looked_up in_use.inodes loses one

pub inode_beside_overlays_goes_with_its_last_use : InodeBesideOverlaysGoesWithItsLastUse
inode_beside_overlays_goes_with_its_last_use world after inode in_use loses plain trees uppers reals one =
    beside_overlays in_use.inodes loses one plain trees uppers reals

pub inode_of_overlay_goes_with_its_last_use : InodeOfOverlayGoesWithItsLastUse
inode_of_overlay_goes_with_its_last_use world after inode in_use loses merged trees uppers reals one =
    of_overlay_left in_use.inodes loses one merged trees uppers reals
    (nat_lt 1 (inode_uses world (filesystem_numbered nat_eq world inode.0) inode.1)) refl
