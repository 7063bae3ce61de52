-- A change of a filesystem that a set of tasks does not use leaves their part.
use Rattle.std.proofs.Common.{◌≡◌, ◌≢◌, refl, sym, ap, ◌∙◌, ℕ, nat_eq, Bool, true, false, cond, true≢false, List, Option, Some, None, filter, ◌&&◌, eq-eqb, eqb-true, arith}
use Rattle.vt_spec.proofs.Common.{Among, Filesystem, Layer, TaskName, World, among-append_left, among_from_contains, common_steps, filesystem_numbered, is_among, is_among_numbers, is_under, list_any, only_among, own_lowers, replaced_if_numbered, used_directly, used_filesystems, when, with_filesystem}
use Rattle.vt_laws_sealed.specs.Part.Parts.{SeesTheSame, UnusedFilesystemsMayChange, shown_of}
use Rattle.vt_laws_sealed.proofs.part.Kept.{among-each_once, filter_map_map, filter_map_same}
use Rattle.vt_laws_sealed.proofs.part.part.Observed.{part_same}
use Rattle.vt_laws_sealed.proofs.Common.{filesystem_elsewhere}

module _ (world : World ℕ) (names : List TaskName) (new : Filesystem ℕ)
    (unused : is_among nat_eq new.number (used_filesystems nat_eq world names) ≡ false)
    (no_lower : list_any (λ layer. nat_eq new.number layer.filesystem) (own_lowers nat_eq world names) ≡ false) where
  abbrev later : World ℕ
  later = with_filesystem nat_eq world new

  -- what is used directly is used
  directly : (number : ℕ) → Among number (used_directly nat_eq world names) → number ≢ new.number
  directly number m e =
      grind (arith, common_steps, is_among_numbers, among-each_once, among-append_left, Among, true≢false)

  found : (number : ℕ) → Among number (used_directly nat_eq world names)
      → filesystem_numbered nat_eq later number ≡ filesystem_numbered nat_eq world number
  found number m = filesystem_elsewhere world new number (directly number m)

  abbrev used : List ℕ
  used = used_filesystems nat_eq world names

  abbrev lowers : List (Layer ℕ)
  lowers = own_lowers nat_eq world names

  -- what the part has of a filesystem depends on it alone, and on itself
  abbrev lower_by : Filesystem ℕ → Filesystem ℕ → Filesystem ℕ
  lower_by there x = record x {
    files = only_among nat_eq (filter (λ object. list_any (λ layer. nat_eq x.number layer.filesystem
        && is_under nat_eq there.files layer.directory object) lowers) x.files.numbers) x.files;
    change = 0;
  }

  abbrev part_by : Filesystem ℕ → Filesystem ℕ → Option (Filesystem ℕ)
  part_by there x = cond (is_among nat_eq x.number used) (Some x)
      (when (list_any (λ layer. nat_eq x.number layer.filesystem) lowers) (lower_by there x))

  none_of_it : (there x : Filesystem ℕ) → x.number ≡ new.number → part_by there x ≡ None
  none_of_it there x e = grind (arith, common_steps)

  each : (x : Filesystem ℕ)
      → shown_of later used lowers (replaced_if_numbered nat_eq new x) ≡ shown_of world used lowers x
  each x = by (nat_eq new.number x.number) refl
    where
      by : (b : Bool) → nat_eq new.number x.number ≡ b
          → shown_of later used lowers (cond b new x) ≡ shown_of world used lowers x
      by true e = none_of_it (filesystem_numbered nat_eq later new.number) new refl
          ∙ sym (none_of_it (filesystem_numbered nat_eq world x.number) x (sym (eqb-true new.number x.number e)))
      by false e = ap (λ f. part_by f x) (filesystem_elsewhere world new x.number
          (λ same. cc (eq-eqb new.number x.number (sym same))))

  pub sees_the_same : SeesTheSame world later names
  sees_the_same = grind (arith, common_steps, found, among_from_contains, filter_map_map, filter_map_same, each)

pub unused_filesystems_may_change : UnusedFilesystemsMayChange
unused_filesystems_may_change world names new unused no_lower =
    part_same world (with_filesystem nat_eq world new) names (sees_the_same world names new unused no_lower)
