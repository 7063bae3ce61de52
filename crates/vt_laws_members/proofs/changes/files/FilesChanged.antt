-- The part of a world in which a filesystem of theirs has another tree is the part with that tree.
use Rattle.std.proofs.Common.{arith, ◌≡◌, refl, ap, ◌∙◌, inl, inr, ℕ, nat_eq, eqb-true, Bool, true, false, cond, List, [], ◌∷◌, ◌++◌, Option, Some, find, filter, flat_map, map, ◌&&◌, option_map, unwrap_or, filter_map}
use Rattle.vt_spec.proofs.Common.{Among, Filesystem, Layer, Overlay, TaskName, World, change_layers, common_steps, each_once, filesystem_numbered, is_among, is_under, list_any, no_filesystem, of_overlay, only_among, own_lowers, part_of, part_of_filesystem, part_of_lower, used_directly, used_filesystems, when}
use Rattle.vt_laws_members.proofs.Common.{with_filesystems}

-- what is kept and then changed is changed and then kept
filter_map_changed : {A : Type 0} (f g : A → Option A) (h : A → A) (xs : List A)
    → ((x : A) → f (h x) ≡ option_map h (g x)) → filter_map f (map h xs) ≡ map h (filter_map g xs)
filter_map_changed f g h [] same = refl
filter_map_changed {A} f g h (x ∷ xs) same = grind (arith, common_steps, filter_map_changed f g h xs same)

-- the lower layers of an overlay
abbrev pub lowers_in : Filesystem ℕ → List (Layer ℕ)
lowers_in = of_overlay [] (λ (overlay : Overlay ℕ). overlay.lowers)

-- Filesystems that keep their numbers
module _ (world : World ℕ) (names : List TaskName) (h : Filesystem ℕ → Filesystem ℕ)
    (numbered : (x : Filesystem ℕ) → (h x).number ≡ x.number) where
  abbrev later : World ℕ
  later = with_filesystems world h

  abbrev used : List ℕ
  used = used_filesystems nat_eq world names

  -- what is found by a number, with what depends on it
  found : {A : Type 0} (what : Filesystem ℕ → A) (k : ℕ)
      → ((x : Filesystem ℕ) → Among x world.filesystems → nat_eq k x.number ≡ true → what (h x) ≡ what x)
      → what (filesystem_numbered nat_eq later k) ≡ what (filesystem_numbered nat_eq world k)
  found {A} what k same = search world.filesystems (λ x m. m)
    where
      search : (list : List (Filesystem ℕ)) → ((x : Filesystem ℕ) → Among x list → Among x world.filesystems)
          → what (unwrap_or (find (λ (f : Filesystem ℕ). nat_eq k f.number) (map h list)) (no_filesystem k))
          ≡ what (unwrap_or (find (λ (f : Filesystem ℕ). nat_eq k f.number) list) (no_filesystem k))
      search [] all = refl
      search (x ∷ rest) all = cc (numbered x, by (nat_eq k x.number) refl (search rest (λ y m. all y (inr m))))
        where
          by : (b : Bool) → nat_eq k x.number ≡ b
              → what (unwrap_or (find (λ (f : Filesystem ℕ). nat_eq k f.number) (map h rest)) (no_filesystem k))
              ≡ what (unwrap_or (find (λ (f : Filesystem ℕ). nat_eq k f.number) rest) (no_filesystem k))
              → what (unwrap_or (cond b (Some (h x)) (find (λ (f : Filesystem ℕ). nat_eq k f.number) (map h rest)))
              (no_filesystem k))
              ≡ what (unwrap_or (cond b (Some x) (find (λ (f : Filesystem ℕ). nat_eq k f.number) rest))
              (no_filesystem k))
          by true e rest_same = same x (all x (inl refl)) e
          by false e rest_same = rest_same

  -- with their layers, the same ones are used
  pub used_later : ((x : Filesystem ℕ) → Among x world.filesystems → change_layers (h x) ≡ change_layers x)
      → used_filesystems nat_eq later names ≡ used
  used_later changing i = each_once nat_eq (used_directly nat_eq world names
      ++ flat_map (λ k. found change_layers k (λ x m e. changing x m) i) (used_directly nat_eq world names))

  pub lowers_later : ((x : Filesystem ℕ) → Among x world.filesystems → lowers_in (h x) ≡ lowers_in x)
      → own_lowers nat_eq later names ≡ own_lowers nat_eq world names
  lowers_later lowering i = flat_map (λ k. found _ k (λ x m e. lowering x m) i) (used_directly nat_eq world names)

-- The filesystems that they use keep their numbers and layers, and no other changes.
module _ (world : World ℕ) (names : List TaskName) (h : Filesystem ℕ → Filesystem ℕ)
    (numbered : (x : Filesystem ℕ) → (h x).number ≡ x.number)
    (changing : (x : Filesystem ℕ) → Among x world.filesystems → change_layers (h x) ≡ change_layers x)
    (lowering : (x : Filesystem ℕ) → Among x world.filesystems → lowers_in (h x) ≡ lowers_in x)
    (kept : (x : Filesystem ℕ) → is_among nat_eq x.number (used_filesystems nat_eq world names) ≡ false → h x ≡ x) where
  abbrev now : World ℕ
  now = with_filesystems world h

  abbrev used_now : List ℕ
  used_now = used_filesystems nat_eq world names

  unused_found : (k : ℕ) → is_among nat_eq k used_now ≡ false
      → filesystem_numbered nat_eq now k ≡ filesystem_numbered nat_eq world k
  unused_found k e =
      found world names h numbered (λ (f : Filesystem ℕ). f) k (λ x there m. kept x (cc (eqb-true k x.number m)))

  same_used : used_filesystems nat_eq now names ≡ used_now
  same_used = used_later world names h numbered changing

  same_lowers : own_lowers nat_eq now names ≡ own_lowers nat_eq world names
  same_lowers = lowers_later world names h numbered lowering

  abbrev has_lower : ℕ → Bool
  has_lower number = list_any (λ (layer : Layer ℕ). nat_eq number layer.filesystem) (own_lowers nat_eq world names)

  lower_later : (x : Filesystem ℕ) → is_among nat_eq x.number used_now ≡ false
      → part_of_lower nat_eq now names x ≡ part_of_lower nat_eq world names x
  lower_later x e i = record x {
    files = only_among nat_eq (filter (λ object. list_any (λ (layer : Layer ℕ).
        of_number (unused_found x.number e i) object layer) (same_lowers i)) x.files.numbers) x.files;
    change = 0;
  }
    where
      of_number : Filesystem ℕ → ℕ → Layer ℕ → Bool
      of_number f object layer = nat_eq x.number layer.filesystem && is_under nat_eq f.files layer.directory object

  shown_later : (x : Filesystem ℕ)
      → part_of_filesystem nat_eq now names (h x) ≡ option_map h (part_of_filesystem nat_eq world names x)
  shown_later x = ap (λ u. cond (is_among nat_eq (h x).number u) (Some (h x))
      (when (list_any (λ (layer : Layer ℕ). nat_eq (h x).number layer.filesystem) (own_lowers nat_eq now names))
      (part_of_lower nat_eq now names (h x)))) same_used
      ∙ ap (λ l. cond (is_among nat_eq (h x).number used_now) (Some (h x))
      (when (list_any (λ (layer : Layer ℕ). nat_eq (h x).number layer.filesystem) l)
      (part_of_lower nat_eq now names (h x)))) same_lowers ∙ ap (λ n. cond (is_among nat_eq n used_now) (Some (h x))
      (when (has_lower n) (part_of_lower nat_eq now names (h x)))) (numbered x)
      ∙ by (is_among nat_eq x.number used_now) refl
    where
      low : is_among nat_eq x.number used_now ≡ false → (c : Bool)
          → when c (part_of_lower nat_eq now names (h x)) ≡ option_map h (when c (part_of_lower nat_eq world names x))
      low e true = cc (kept x e, lower_later x e, kept (part_of_lower nat_eq world names x) e)
      low e false = refl

      by : (b : Bool) → is_among nat_eq x.number used_now ≡ b
          → cond b (Some (h x)) (when (has_lower x.number) (part_of_lower nat_eq now names (h x)))
          ≡ option_map h (cond b (Some x) (when (has_lower x.number) (part_of_lower nat_eq world names x)))
      by true e = refl
      by false e = low e (has_lower x.number)

  pub part_with_layers : part_of nat_eq now names ≡ with_filesystems (part_of nat_eq world names) h
  part_with_layers i = record (part_of nat_eq world names) {
    filesystems = filter_map_changed (part_of_filesystem nat_eq now names) (part_of_filesystem nat_eq world names) h
        world.filesystems shown_later i;
  }

-- so where they keep their overlays
pub part_with_files : (world : World ℕ) (names : List TaskName) (h : Filesystem ℕ → Filesystem ℕ)
    → ((x : Filesystem ℕ) → (h x).number ≡ x.number)
    → ((x : Filesystem ℕ) → Among x world.filesystems → (h x).overlay ≡ x.overlay)
    → ((x : Filesystem ℕ) → is_among nat_eq x.number (used_filesystems nat_eq world names) ≡ false → h x ≡ x)
    → part_of nat_eq (with_filesystems world h) names ≡ with_filesystems (part_of nat_eq world names) h
part_with_files world names h numbered overlaid kept = grind (arith, common_steps, part_with_layers)
