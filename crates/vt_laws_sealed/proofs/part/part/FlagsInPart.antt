-- Flags of a mount of theirs that are set in the world are set in the part.
use Rattle.std.proofs.Common.{◌≡◌, refl, sym, ap, ◌∙◌, ◌⊎◌, inl, inr, ⊎_elim, ℕ, nat_eq, Bool, true, false, cond, List, [], ◌∷◌, ◌++◌, Option, Some, None, flat_map, map, filter, ◌||◌, eq-eqb, eqb-true, arith, option_map, filter_map}
use Rattle.vt_spec.proofs.Common.{cases_Bool, Among, Filesystem, Layer, Location, Mount, MountFlags, Overlay, Task, TaskName, World, among-from_filter, among_from_contains, change_layers, common_steps, cons_option, each_once, filesystem_numbered, is_among, is_at, is_member_of, lies_in_layer, list_any, locations, map_alike, members, mount_at, mount_in, of_overlay, only_among, own_mounts, part_of, part_of_filesystem, part_of_master, replaced_if_same, roots_and_directories, seen_by_descriptor, used_directly, when, with_mount, with_mounts}
use Rattle.vt_laws_sealed.proofs.Common.{OneNumberEach, found_itself}
use Rattle.vt_laws_sealed.specs.Part.Parts.{OnlyTheirFlagsChangeThePart}
use Rattle.vt_laws_sealed.proofs.part.part.PartOfPart.{is_own, keep, kept_how}

module _ (world : World ℕ) (names : List TaskName) (one : OneNumberEach world) (old : Mount ℕ)
    (there : Among old world.mounts) (own : is_own world names (members world names) old ≡ true)
    (flags : MountFlags) where
  abbrev new : Mount ℕ
  new = record old { flags = flags }

  abbrev set : Mount ℕ → Mount ℕ
  set x = replaced_if_same nat_eq new x

  abbrev later : World ℕ
  later = with_mounts world (with_mount nat_eq world.mounts new)

  abbrev theirs : List (Task ℕ)
  theirs = members world names

  abbrev kept : Mount ℕ → Option (Mount ℕ)
  kept = keep world names theirs

  abbrev owns : Mount ℕ → Bool
  owns = is_own world names theirs

  -- a mount is the one, or is as it was
  apart : (x : Mount ℕ) → nat_eq old.number x.number ≡ false → set x ≡ x
  apart x e = ap (λ b. cond b new x) e

  which : (x : Mount ℕ) → Among x world.mounts → ((x ≡ old) × (set x ≡ new)) ⊎ (nat_eq old.number x.number ≡ false)
  which x m = grind (arith, common_steps, found_itself, eqb-true)

  set_old : set old ≡ new
  set_old = ap (λ b. cond b new old) (eq-eqb old.number old.number refl)

  whole : (x : Mount ℕ) → owns x ≡ true → kept x ≡ Some x
  whole x e = ap (λ b. cond (b || is_at nat_eq (roots_and_directories theirs) x) (Some x)
      (when (is_at nat_eq (locations theirs) x) (seen_by_descriptor x))) e

  kept_set : (x : Mount ℕ) → Among x world.mounts → kept (set x) ≡ option_map set (kept x)
  kept_set x m = grind (arith, common_steps, whole, set_old, apart, which, kept_how)

  all_of : {B : Type 0} (f : Mount ℕ → B) → f new ≡ f old → (list : List (Mount ℕ))
      → ((x : Mount ℕ) → Among x list → Among x world.mounts) → map f (map set list) ≡ map f list
  all_of f e [] h = refl
  all_of f e (x ∷ rest) h = cc (
    ⊎_elim (λ t. cc (t.1, t.0)) (λ t. ap f (apart x t)) (which x (h x (inl refl))),
    all_of f e rest (λ y m. h y (inr m)),
  )

  own_set : (list : List (Mount ℕ)) → ((x : Mount ℕ) → Among x list → Among x world.mounts)
      → filter owns (map set list) ≡ map set (filter owns list)
  own_set [] h = refl
  own_set (x ∷ rest) h = elim (cases_Bool (owns x)) [
    | inl e ↦ cc (same, e, (own_set rest (λ y m. h y (inr m))))
    | inr e ↦ cc (same, e, (own_set rest (λ y m. h y (inr m))))
  ]
    where
      same : owns (set x) ≡ owns x
      same = ⊎_elim (λ t. ap owns t.1 ∙ ap owns (sym t.0)) (λ t. ap owns (apart x t)) (which x (h x (inl refl)))

  pub own_later : own_mounts nat_eq later names ≡ map set (own_mounts nat_eq world names)
  own_later = own_set world.mounts (λ x m. m)

  mounts_set : (list : List (Mount ℕ)) → ((x : Mount ℕ) → Among x list → Among x world.mounts)
      → filter_map kept (map set list) ≡ map set (filter_map kept list)
  mounts_set [] h = refl
  mounts_set (x ∷ rest) h = cc (kept_set x (h x (inl refl)), by (kept x) (mounts_set rest (λ y m. h y (inr m))))
    where
      by : (o : Option (Mount ℕ)) → filter_map kept (map set rest) ≡ map set (filter_map kept rest)
          → cons_option (option_map set o) (filter_map kept (map set rest))
          ≡ map set (cons_option o (filter_map kept rest))
      by None later = later
      by (Some y) later = ap (λ l. set y ∷ l) later

  all_there : (x : Mount ℕ) → Among x world.mounts → Among x world.mounts
  all_there x m = m

  own_there : (x : Mount ℕ) → Among x (own_mounts nat_eq world names) → Among x world.mounts
  own_there x m = (among-from_filter owns world.mounts x m).0

  abbrev found_filesystem : ℕ → List (Mount ℕ) → ℕ
  found_filesystem number [] = number
  found_filesystem number (x ∷ rest) = cond (nat_eq number x.number) x.filesystem (found_filesystem number rest)

  found_so : (number : ℕ) (list : List (Mount ℕ))
      → (mount_in nat_eq list number).filesystem ≡ found_filesystem number list
  found_so number [] = refl
  found_so number (x ∷ rest) = grind (arith, common_steps, found_so number rest)

  found_set : (number : ℕ) (list : List (Mount ℕ)) → ((x : Mount ℕ) → Among x list → Among x world.mounts)
      → found_filesystem number (map set list) ≡ found_filesystem number list
  found_set number [] h = refl
  found_set number (x ∷ rest) h = ⊎_elim (λ t. ap (λ (f : Mount ℕ). cond (nat_eq number f.number) f.filesystem
      (found_filesystem number (map set rest))) t.1
      ∙ ap (λ (f : Mount ℕ). cond (nat_eq number f.number) f.filesystem (found_filesystem number (map set rest)))
      (sym t.0))
      (λ t. ap (λ (f : Mount ℕ). cond (nat_eq number f.number) f.filesystem (found_filesystem number (map set rest)))
      (apart x t)) (which x (h x (inl refl)))
      ∙ ap (cond (nat_eq number x.number) x.filesystem) (found_set number rest (λ y m. h y (inr m)))

  located : (location : Location ℕ)
      → (mount_at nat_eq later location).filesystem ≡ (mount_at nat_eq world location).filesystem
  located location = found_so location.mount (map set world.mounts) ∙ found_set location.mount world.mounts all_there
      ∙ sym (found_so location.mount world.mounts)

  same_directly : used_directly nat_eq later names ≡ used_directly nat_eq world names
  same_directly = search (arith, common_steps, own_later, all_of, own_there, map_alike, located)

  -- filesystems are found by what is used directly
  abbrev shown_by : List ℕ → Filesystem ℕ → Option (Filesystem ℕ)
  shown_by direct x =
      let used : List ℕ = each_once nat_eq
      (direct ++ flat_map (λ n. change_layers (filesystem_numbered nat_eq world n)) direct) in
      let lowers : List (Layer ℕ) = flat_map (λ n. of_overlay [] (λ (overlay : Overlay ℕ). overlay.lowers)
      (filesystem_numbered nat_eq world n)) direct in
      cond (is_among nat_eq x.number used) (Some x)
      (when (list_any (λ layer. nat_eq x.number layer.filesystem) lowers) (record x {
        files = only_among nat_eq
            (filter (λ object. list_any (lies_in_layer nat_eq world x.number object) lowers) x.files.numbers) x.files;
        change = 0;
      }))

  same_shown : part_of_filesystem nat_eq later names ≡ part_of_filesystem nat_eq world names
  same_shown = ap shown_by same_directly

  same_masters : part_of_master nat_eq later names ≡ part_of_master nat_eq world names
  same_masters = ap (λ l. λ (group : ℕ). cond (list_any (is_member_of nat_eq group) l) (world.master group) None)
      own_later ∙ (λ i group. cond (any_set group _ own_there i) (world.master group) None)
    where
      any_set : (group : ℕ) (list : List (Mount ℕ)) → ((x : Mount ℕ) → Among x list → Among x world.mounts)
          → list_any (is_member_of nat_eq group) (map set list) ≡ list_any (is_member_of nat_eq group) list
      any_set group [] h = refl
      any_set group (x ∷ rest) h = ap (λ b. b || list_any (is_member_of nat_eq group) (map set rest))
          (⊎_elim (λ t. ap (is_member_of nat_eq group) t.1 ∙ ap (is_member_of nat_eq group) (sym t.0))
          (λ t. ap (is_member_of nat_eq group) (apart x t)) (which x (h x (inl refl))))
          ∙ ap (λ b. is_member_of nat_eq group x || b) (any_set group rest (λ y m. h y (inr m)))

  -- the part of the world with the flags set is the part with the flags set
  pub part_with_flags : part_of nat_eq later names
      ≡ with_mounts (part_of nat_eq world names) (with_mount nat_eq (part_of nat_eq world names).mounts new)
  part_with_flags = cc (mounts_set world.mounts all_there, same_masters, same_shown)

pub only_their_flags_change_the_part : OnlyTheirFlagsChangeThePart
only_their_flags_change_the_part world names mount flags is there own =
    part_with_flags world names is.one_number mount (among_from_contains world.mounts mount there) own flags
