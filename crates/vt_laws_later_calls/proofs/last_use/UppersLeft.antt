-- The upper inode of an inode of an overlay goes with it, where that was its last use.
use Rattle.std.proofs.Common.{◌≡◌, refl, sym, ap, ◌∙◌, ⊎_elim, ℕ, nat_eq, eqb-true, eq-eqb, Bool, true, false, true≢false, cond, not, ◌&&◌, ◌+◌, List, [], ◌∷◌, ◌++◌, find, flat_map, map, Option, Some, None, is_some, option_map, option_to_list, unwrap_or, arith, All, nat_lt, append-nil}
use Rattle.vt_spec.proofs.Common.{Filesystem, Layer, Overlay, Upper, World, and-false, and-true, any_pair, common_steps, filesystem_numbered, is_overlay, list_any, map_alike, nat_eq-swapped, no_filesystem, or_parts, upper_object}
use Rattle.vt_laws_later_calls.proofs.Common.{AllInUse, Among, Inode, UppersArePlain, among-from_map, among_from_all, flat_map_none, has_upper_in, inode_uses, is_inode_used, is_plain, let_go_in, let_go_in_of, let_go_plain, map_same, none_among, times, uppers_in, uppers_of, used_while_counted, without_inode, without_inode_at, without_inode_of, without_real}
use Rattle.vt_laws_mounts.proofs.letting_go.Lists.{found_in}
use Rattle.vt_laws_mounts.proofs.letting_go.sweeps.UpperUses.{one_upper_use_less}
use Rattle.vt_laws_later_calls.specs.LastUse.{InodeOverLowersGoesAlone, LosesOneUse, UpperInodeGoesWithItsLastUse, without_inode_of_any, without_merged_inode}
use Rattle.vt_laws_later_calls.proofs.last_use.InodesLeft.{found_after, its_kind, of_overlay_left}
use Rattle.vt_laws_later_calls.proofs.last_use.OneLess.{IsSplit, some_left, split_around}

-- no other has the number of the first
others_differ : (first : Filesystem ℕ) (rest : List (Filesystem ℕ))
    → any_pair (λ (a b : Filesystem ℕ). nat_eq a.number b.number) (first ∷ rest) ≡ false
    → (list_any (λ (b : Filesystem ℕ). nat_eq first.number b.number) rest ≡ false)
    × (any_pair (λ (a b : Filesystem ℕ). nat_eq a.number b.number) rest ≡ false)
others_differ first rest one = or_parts (list_any (λ (b : Filesystem ℕ). nat_eq first.number b.number) rest)
    (any_pair (λ (a b : Filesystem ℕ). nat_eq a.number b.number) rest) one

-- what one filesystem alone gives
given_by_one : {B : Type 0} (give : Filesystem ℕ → List B) (filesystems : List (Filesystem ℕ))
    → any_pair (λ (a b : Filesystem ℕ). nat_eq a.number b.number) filesystems ≡ false
    → (it : Filesystem ℕ) → Among it filesystems → ((f : Filesystem ℕ) → nat_eq f.number it.number ≡ false
    → give f ≡ []) → flat_map give filesystems ≡ give it
given_by_one give [] one it m none = absurd m
given_by_one give (first ∷ rest) one it m none = ⊎_elim (λ same. cc (
  flat_map_none give rest (λ f n. none f (nat_eq-swapped it.number f.number false
      (ap (λ (x : Filesystem ℕ). nat_eq x.number f.number) same ∙
      none_among (λ (b : Filesystem ℕ). nat_eq first.number b.number) rest parts.0 f n))),
  append-nil (give first),
)) (λ later. cc (
  none first (none_among (λ (b : Filesystem ℕ). nat_eq first.number b.number) rest parts.0 it later),
  given_by_one give rest parts.1 it later none,
)) m
  where
    parts : (list_any (λ (b : Filesystem ℕ). nat_eq first.number b.number) rest ≡ false)
        × (any_pair (λ (a b : Filesystem ℕ). nat_eq a.number b.number) rest ≡ false)
    parts = others_differ first rest one

-- an overlay that is found by its number is there
found_there : (world : World ℕ) (k : ℕ) → is_overlay (filesystem_numbered nat_eq world k) ≡ true
    → Among (filesystem_numbered nat_eq world k) world.filesystems
    × (nat_eq k (filesystem_numbered nat_eq world k).number ≡ true)
found_there world k = by (find (λ (f : Filesystem ℕ). nat_eq k f.number) world.filesystems) refl
  where
    by : (o : Option (Filesystem ℕ)) → find (λ (f : Filesystem ℕ). nat_eq k f.number) world.filesystems ≡ o
        → is_overlay (unwrap_or o (no_filesystem k)) ≡ true → Among (unwrap_or o (no_filesystem k)) world.filesystems
        × (nat_eq k (unwrap_or o (no_filesystem k)).number ≡ true)
    by None e h = cc
    by (Some f) e h = found_in (λ (g : Filesystem ℕ). nat_eq k g.number) world.filesystems f e

-- an upper inode in an upper layer
abbrev in_layer : Option (Layer ℕ) → Option ℕ → List Inode
in_layer upper object =
    flat_map (λ layer. map (λ number. (layer.filesystem, number)) (option_to_list object)) (option_to_list upper)

module _ (after : World ℕ) (inode : Inode) (overlay : Overlay ℕ)
    (one : any_pair (λ (a b : Filesystem ℕ). nat_eq a.number b.number) after.filesystems ≡ false)
    (is : (filesystem_numbered nat_eq after inode.0).overlay ≡ Some overlay) where
  abbrev merged : Filesystem ℕ
  merged = filesystem_numbered nat_eq after inode.0

  there : Among merged after.filesystems × (nat_eq inode.0 merged.number ≡ true)
  there = found_there after inode.0 (cc)

  -- its number is that of the inode's filesystem
  its_number : (k : ℕ) → nat_eq k merged.number ≡ nat_eq k inode.0
  its_number k = cc (eqb-true inode.0 merged.number there.1)

  uppers_are : uppers_of after (inode ∷ []) ≡ uppers_in inode.1 overlay
  uppers_are = grind (arith, common_steps, append-nil, given_by_one, there, its_number, eq-eqb)

  no_upper : upper_object (overlay.real inode.1) ≡ None → uppers_in inode.1 overlay ≡ []
  no_upper e = grind (arith, common_steps)

  module _ (layer : Layer ℕ) (object : ℕ) (upper : overlay.upper ≡ Some layer)
      (real : overlay.real inode.1 ≡ Some (Upper object)) where
    one_upper : uppers_in inode.1 overlay ≡ (layer.filesystem, object) ∷ []
    one_upper = λ i. in_layer (upper i) (upper_object (real i))

    module _ (world : World ℕ) (in_use : AllInUse world) (loses : LosesOneUse inode world after)
        (once : times (nat_eq inode.1) merged.files.numbers ≡ 1) (uppers : UppersArePlain after) where
      abbrev left : World ℕ
      left = without_merged_inode after inode

      -- the upper layer is in a plain tree
      upper_is_plain : (f : Filesystem ℕ) → Among f after.filesystems → nat_eq f.number layer.filesystem ≡ true
          → is_overlay f ≡ false
      upper_is_plain f m e = by (is_overlay f) refl
        where
          by : (b : Bool) → is_overlay f ≡ b → b ≡ false
          by false h = refl
          by true h = cc (among_from_all (λ g. has_upper_in f.number g ≡ false) after.filesystems
              (among_from_all (λ x. is_overlay x ≡ true → All (λ g. has_upper_in x.number g ≡ false) after.filesystems)
              after.filesystems uppers f m h) merged there.0)

      -- so it is not that of the inode
      apart : (f : Filesystem ℕ) → Among f after.filesystems → nat_eq f.number layer.filesystem ≡ true
          → nat_eq f.number inode.0 ≡ false
      apart f m e = grind (arith, common_steps, true≢false, its_kind, upper_is_plain)

      -- it has one use less than before
      upper_used : (f : Filesystem ℕ) → Among f after.filesystems → nat_eq f.number layer.filesystem ≡ true
          → is_inode_used left f object
          ≡ nat_lt 1 (inode_uses world (filesystem_numbered nat_eq world layer.filesystem) object)
      upper_used f m e = ap (λ filesystems. is_inode_used (record after { filesystems = filesystems }) f object)
          (changed ∙ ap (λ b. split.front ++ (cond b (without_inode_of inode.1 merged) merged ∷ split.back))
          (sym (its_number merged.number) ∙ eq-eqb merged.number merged.number refl)) ∙ used_while_counted
          (record after { filesystems = last }) f object ∙ some_left (inode_uses after f object)
          (inode_uses (record after { filesystems = last }) f object) (one_upper_use_less after split.front split.back
          merged overlay layer inode.1 object split.whole is upper real once f object ∙
          ap (λ b. inode_uses (record after { filesystems = last }) f object + cond b 1 0)
          (λ i. e i && eq-eqb object object refl i)) ∙ ap (λ g. nat_lt 1 (inode_uses after g object)) (sym found) ∙
          ap (nat_lt 1) (sym (alike (inode_uses world (filesystem_numbered nat_eq world layer.filesystem) object)
          (inode_uses after (filesystem_numbered nat_eq after layer.filesystem) object)
          (cc (loses.uses layer.filesystem object, eqb-true f.number layer.filesystem e, apart f m e))))
        where
          split : IsSplit (λ (a b : Filesystem ℕ). nat_eq a.number b.number) after.filesystems merged
          split = split_around (λ (a b : Filesystem ℕ). nat_eq a.number b.number) (λ g. eq-eqb g.number g.number refl)
              (λ a b. nat_eq-swapped a.number b.number false) after.filesystems one merged there.0

          changed : map (without_inode_of_any inode) after.filesystems
              ≡ split.front ++ (without_inode_of_any inode merged ∷ split.back)
          changed = split.changed (without_inode_of_any inode) (λ g differs. cc
              (its_number g.number, nat_eq-swapped merged.number g.number false differs))

          last : List (Filesystem ℕ)
          last = split.front ++ (without_inode_of inode.1 merged ∷ split.back)

          found : filesystem_numbered nat_eq after layer.filesystem ≡ f
          found = cc (eqb-true f.number layer.filesystem e, found_after in_use.inodes loses one f m)

          alike : (a b : ℕ) → a ≡ b + 0 → a ≡ b
          alike a b h = omega arith

      -- a filesystem that is left and has the number of the upper layer is as it was
      upper_stays : (g : Filesystem ℕ) → Among g left.filesystems → nat_eq g.number layer.filesystem ≡ true
          → Among g after.filesystems
      upper_stays g m e = grind (arith, common_steps, among-from_map, apart)

      upper_goes : (more : Bool)
          → nat_lt 1 (inode_uses world (filesystem_numbered nat_eq world layer.filesystem) object) ≡ more
          → let_go_in is_plain left (layer.filesystem, object)
          ≡ cond more left (without_inode_at left (layer.filesystem, object))
      upper_goes more e = by more e
        where
          no_real : (o : Option (Overlay ℕ)) → is_some o ≡ false → option_map (without_real object) o ≡ o
          no_real None h = refl
          no_real (Some x) h = cc

          of : (still : Bool)
              → nat_lt 1 (inode_uses world (filesystem_numbered nat_eq world layer.filesystem) object) ≡ still
              → (g : Filesystem ℕ) → Among g left.filesystems → (b : Bool) → nat_eq g.number layer.filesystem ≡ b
              → let_go_in_of is_plain left (layer.filesystem, object) g
              ≡ cond (b && not still) (record g { files = without_inode object g.files }) g
          of still k g m b h = grind (arith, common_steps, and-false, upper_stays, upper_is_plain, upper_used, no_real)

          by : (still : Bool)
              → nat_lt 1 (inode_uses world (filesystem_numbered nat_eq world layer.filesystem) object) ≡ still
              → let_go_in is_plain left (layer.filesystem, object)
              ≡ cond still left (without_inode_at left (layer.filesystem, object))
          by true k = cc (map_same _ left.filesystems (λ g m. of true k g m (nat_eq g.number layer.filesystem) refl ∙
              ap (λ b. cond b (record g { files = without_inode object g.files }) g)
              (and-false (nat_eq g.number layer.filesystem))))
          by false k = cc (map_alike _
              _ left.filesystems (λ g m. of false k g m (nat_eq g.number layer.filesystem) refl ∙
              ap (λ b. cond b (record g { files = without_inode object g.files }) g)
              (and-true (nat_eq g.number layer.filesystem))))

pub inode_over_lowers_goes_alone : InodeOverLowersGoesAlone
inode_over_lowers_goes_alone world after inode overlay in_use loses is none trees uppers reals one = cc (
  of_overlay_left in_use.inodes loses one (ap is_some is) trees uppers reals
      (nat_lt 1 (inode_uses world (filesystem_numbered nat_eq world inode.0) inode.1)) refl,
  uppers_are after inode overlay one is,
  no_upper after inode overlay one is none,
)

pub upper_inode_goes_with_its_last_use : UpperInodeGoesWithItsLastUse
upper_inode_goes_with_its_last_use world after inode overlay layer object in_use loses is upper real once trees uppers
    reals one = of_overlay_left in_use.inodes loses one (ap is_some is) trees uppers reals
    (nat_lt 1 (inode_uses world (filesystem_numbered nat_eq world inode.0) inode.1)) refl
    ∙ ap (λ list. cond (nat_lt 1 (inode_uses world (filesystem_numbered nat_eq world inode.0) inode.1)) after
    (let_go_plain (without_merged_inode after inode) list))
    (uppers_are after inode overlay one is ∙ one_upper after inode overlay one is layer object upper real)
    ∙ ap (cond (nat_lt 1 (inode_uses world (filesystem_numbered nat_eq world inode.0) inode.1)) after)
    (upper_goes after inode overlay one is layer object upper real world in_use loses once uppers
    (nat_lt 1 (inode_uses world (filesystem_numbered nat_eq world layer.filesystem) object)) refl)
