-- The part of a world whose unused inodes go is made from the part alone.
use Rattle.std.proofs.Common.{arith, ◌≡◌, refl, sym, ap, subst, ◌∙◌, ◌⊎◌, inl, inr, ⊎_elim, ℕ, nat_eq, Bool, true, false, cond, List, [], ◌∷◌, ◌++◌, Option, Some, None, filter, find, map, option_map, unwrap_or, filter_map}
use Rattle.vt_spec.proofs.Common.{Among, FileTree, Filesystem, Layer, Overlay, TaskName, World, among-from_map, among-map, any_pair, change_layers, common_steps, each_once, filesystem_numbered, has_layer_on, is_among, is_among_numbers, list_all, list_all_from_among, list_any, named_in, no_filesystem, number-only_used, of_overlay, only_among, only_used, only_used_by, only_used_of, own_lowers, pair-map, part_of, part_of_filesystem, used_directly, used_filesystems, used_in, when, without_dead_in}
use Rattle.vt_laws_members.proofs.Common.{OneNumberEach, filter_map_map, filter_map_same, flat_map_alike, found_filesystem, lower_of, same_used}
use Rattle.vt_laws_sealed.proofs.outsiders.InodesSwept.{cut_layers, cut_overlay}
use Rattle.vt_laws_members.proofs.changes.letting_go.CutAgain.{cut_still, cut_to, lies_under, named_there}
use Rattle.vt_laws_members.proofs.changes.letting_go.Gone.{sees_itself}
use Rattle.vt_laws_members.proofs.changes.letting_go.Ready.{AllNamed, Alone, IsCut, OverlaysMounted, Ready}
use Rattle.vt_laws_members.proofs.changes.letting_go.UsedAlike.{lower_plain, used, used_alike}
use Rattle.vt_laws_members.proofs.changes.letting_go.UsedAlike.IsUsed.{as_root, by_layer, by_name}

-- The inodes that pass a test
abbrev only_by : Bool → (ℕ → Bool) → Filesystem ℕ → Filesystem ℕ
only_by true p x = x
only_by false p x = record x {
  files = record {
    tree = record { root = x.files.tree.root; node = λ n. cond (p n) (x.files.tree.node n) None };
    numbers = filter p x.files.numbers;
  };
  overlay = option_map (λ (o : Overlay ℕ). record o { real = λ n. cond (p n) (o.real n) None }) x.overlay;
}

by_test : (b : Bool) (list : List ℕ) (x : Filesystem ℕ)
    → only_used_by nat_eq b list x ≡ only_by b (λ n. is_among nat_eq n list) x
by_test true list x = refl
by_test false list x = refl

-- by two lists with the same numbers
only_alike : (one other : List ℕ) (x : Filesystem ℕ) → ((n : ℕ) → is_among nat_eq n one ≡ is_among nat_eq n other)
    → only_used_of nat_eq one x ≡ only_used_of nat_eq other x
only_alike one other x same = by_test (list_all (λ n. is_among nat_eq n one) x.files.numbers) one x
    ∙ (λ i. only_by (list_all (λ n. same n i) x.files.numbers) (λ n. same n i) x) ∙ sym (by_test _ other x)

-- a filesystem that loses nothing
named_stays : (b : World ℕ) (x : Filesystem ℕ) → AllNamed x → only_used_of nat_eq (used_in nat_eq b x) x ≡ x
named_stays b x named =
    cc (list_all_from_among (λ n. is_among nat_eq n (used_in nat_eq b x)) x.files.numbers (λ object m.
    is_among_numbers (used_in nat_eq b x) object (⊎_elim (λ root. used b x object (as_root root)) (λ name. used b
    x object (by_name name)) (named object m))))

-- what is kept is changed
map_kept : {A B : Type 0} (g : B → B) (k : A → Option B) (xs : List A)
    → map g (filter_map k xs) ≡ filter_map (λ x. option_map g (k x)) xs
map_kept g k [] = refl
map_kept {A} {B} g k (x ∷ xs) = grind (arith, common_steps, map_kept g k xs)

-- The part loses the inodes that nothing of it uses, in the filesystems that the tasks use.
module _ (set : List TaskName) (chosen : Filesystem ℕ → Bool) where
  abbrev pub swept_at : World ℕ → Filesystem ℕ → Filesystem ℕ
  swept_at part y =
      cond (is_among nat_eq y.number (used_filesystems nat_eq part set)) (only_used nat_eq part (chosen y) y) y

  abbrev pub swept_part : World ℕ → World ℕ
  swept_part part = record part { filesystems = map (swept_at part) part.filesystems }

-- an overlay keeps its layers
layers_kept : (world : World ℕ) (chosen : Bool) (x : Filesystem ℕ)
    → of_overlay [] (λ (overlay : Overlay ℕ). overlay.lowers) (only_used nat_eq world chosen x)
    ≡ of_overlay [] (λ (overlay : Overlay ℕ). overlay.lowers) x
layers_kept world chosen x = grind (arith, common_steps)

pub changes_kept : (world : World ℕ) (chosen : Bool) (x : Filesystem ℕ)
    → change_layers (only_used nat_eq world chosen x) ≡ change_layers x
changes_kept world false x = refl
changes_kept world true x = grind (arith, common_steps)

module _ {a : World ℕ} {set : List TaskName} {used_now : List ℕ} {lowers : List (Layer ℕ)}
    (it : Ready a set used_now lowers) (one_in_part : OneNumberEach (part_of nat_eq a set))
    (mounted : OverlaysMounted a set) (chosen : Filesystem ℕ → Bool) where
  abbrev part : World ℕ
  part = part_of nat_eq a set

  abbrev sweep : Filesystem ℕ → Filesystem ℕ
  sweep x = only_used nat_eq a (chosen x) x

  abbrev pub swept : World ℕ
  swept = without_dead_in nat_eq chosen a

  abbrev uses : ℕ → Bool
  uses n = is_among nat_eq n used_now

  -- a filesystem that they use loses the same in the part
  sweep_alike : (x : Filesystem ℕ) → Among x a.filesystems → uses x.number ≡ true → (c : Bool)
      → only_used nat_eq a c x ≡ only_used nat_eq part c x
  sweep_alike x m u false = refl
  sweep_alike x m u true = ⊎_elim (λ alone. only_alike (used_in nat_eq a x) (used_in nat_eq part x) x
      (used_alike it one_in_part mounted x alone))
      (λ named. named_stays a x named ∙ sym (named_stays part x named)) (it.free x m u)

  -- What they use stays
  numbered_kept : {A : Type 0} (g : Filesystem ℕ → A) → ((x : Filesystem ℕ) → g (sweep x) ≡ g x) → (n : ℕ)
      → g (filesystem_numbered nat_eq swept n) ≡ g (filesystem_numbered nat_eq a n)
  numbered_kept {A} g same n = search a.filesystems
    where
      search : (list : List (Filesystem ℕ))
          → g (unwrap_or (find (λ (f : Filesystem ℕ). nat_eq n f.number) (map sweep list)) (no_filesystem n))
          ≡ g (unwrap_or (find (λ (f : Filesystem ℕ). nat_eq n f.number) list) (no_filesystem n))
      search [] = refl
      search (x ∷ rest) = grind (arith, common_steps, number-only_used, search rest)

  abbrev direct : List ℕ
  direct = used_directly nat_eq a set

  pub used_swept : used_filesystems nat_eq swept set ≡ used_now
  used_swept = ap (λ l. each_once nat_eq (direct ++ l))
      (flat_map_alike (λ n. change_layers (filesystem_numbered nat_eq swept n))
      (λ n. change_layers (filesystem_numbered nat_eq a n)) direct
      (λ n m. numbered_kept change_layers (λ x. changes_kept a (chosen x) x) n)) ∙ it.used_are

  abbrev lowers_at : Filesystem ℕ → List (Layer ℕ)
  lowers_at x = of_overlay [] (λ (overlay : Overlay ℕ). overlay.lowers) x

  lowers_swept : own_lowers nat_eq swept set ≡ lowers
  lowers_swept = flat_map_alike (λ n. lowers_at (filesystem_numbered nat_eq swept n))
      (λ n. lowers_at (filesystem_numbered nat_eq a n)) direct
      (λ n m. numbered_kept lowers_at (λ x. layers_kept a (chosen x) x) n) ∙ it.lowers_are

  one_swept : any_pair (λ (x y : Filesystem ℕ). nat_eq x.number y.number) swept.filesystems ≡ false
  one_swept = grind (arith, common_steps, pair-map, number-only_used)

  abbrev has_lower : List (Layer ℕ) → ℕ → Bool
  has_lower layers n = list_any (λ (layer : Layer ℕ). nat_eq n layer.filesystem) layers

  abbrev lowered : ℕ → List (Layer ℕ) → FileTree ℕ → Filesystem ℕ → Filesystem ℕ
  lowered n layers files z = record z {
    files = only_among nat_eq (filter (lies_under n layers files) z.files.numbers) z.files;
    change = 0;
  }

  abbrev shown_with : ℕ → List ℕ → List (Layer ℕ) → FileTree ℕ → Filesystem ℕ → Option (Filesystem ℕ)
  shown_with n list layers files z =
      cond (is_among nat_eq n list) (Some z) (when (has_lower layers n) (lowered n layers files z))

  shown_before : (x : Filesystem ℕ) → Among x a.filesystems
      → part_of_filesystem nat_eq a set x ≡ shown_with x.number used_now lowers x.files x
  shown_before x m =
      ap (λ (f : Filesystem ℕ). shown_with x.number (used_filesystems nat_eq a set) (own_lowers nat_eq a set) f.files x)
      (found_filesystem a.filesystems it.one_filesystem x m)
      ∙ ap (λ u. shown_with x.number u (own_lowers nat_eq a set) x.files x) it.used_are
      ∙ ap (λ l. shown_with x.number used_now l x.files x) it.lowers_are

  shown_after : (x : Filesystem ℕ) → Among x a.filesystems
      → part_of_filesystem nat_eq swept set (sweep x) ≡ shown_with x.number used_now lowers (sweep x).files (sweep x)
  shown_after x m = ap (λ (f : Filesystem ℕ). shown_with (sweep x).number (used_filesystems nat_eq swept set)
      (own_lowers nat_eq swept set) f.files (sweep x))
      (found_filesystem swept.filesystems one_swept (sweep x) (among-map sweep a.filesystems x m))
      ∙ ap (λ u. shown_with (sweep x).number u (own_lowers nat_eq swept set) (sweep x).files (sweep x)) used_swept
      ∙ ap (λ l. shown_with (sweep x).number used_now l (sweep x).files (sweep x)) lowers_swept
      ∙ ap (λ n. shown_with n used_now lowers (sweep x).files (sweep x)) (number-only_used a (chosen x) x)

  -- a tree that is shown by lower layers alone loses nothing that is shown
  module _ (x : Filesystem ℕ) (m : Among x a.filesystems) (unused : uses x.number ≡ false)
      (low : has_lower lowers x.number ≡ true) where
    abbrev cut : IsCut x.number lowers x.files
    cut = it.cut x m unused low

    abbrev all_used : List ℕ
    all_used = used_in nat_eq a x

    layer_used : (layer : Layer ℕ) → Among layer lowers → nat_eq x.number layer.filesystem ≡ true
        → Among layer.directory all_used
    layer_used layer n on =
        let of = lower_of a a set (sees_itself a set) layer (rw it.lowers_are n) in
        used a x layer.directory (by_layer of.0 layer of.1 of.3 on refl)

    shown_named : (object : ℕ) → Among object x.files.numbers → lies_under x.number lowers x.files object ≡ true
        → ((layer : Layer ℕ) × Among layer lowers × (nat_eq x.number layer.filesystem ≡ true)
        × (layer.directory ≡ object)) ⊎ Among object (named_in x.files)
    shown_named = rw (← cut.same) (named_there x.number lowers cut.whole cut.chosen cut.has)

    enough : (object : ℕ) → Among object x.files.numbers → lies_under x.number lowers x.files object ≡ true
        → is_among nat_eq object all_used ≡ true
    enough object n h = is_among_numbers all_used object
        (⊎_elim (λ top. subst (λ k. Among k all_used) top.3 (layer_used top.0 top.1 top.2))
        (λ name. used a x object (by_name name)) (shown_named object n h))

    cut_same : cut_to x.number lowers (only_among nat_eq all_used x.files) ≡ cut_to x.number lowers x.files
    cut_same = subst (λ (files : FileTree ℕ). ((object : ℕ) → Among object files.numbers
        → lies_under x.number lowers files object ≡ true → is_among nat_eq object all_used ≡ true)
        → cut_to x.number lowers (only_among nat_eq all_used files) ≡ cut_to x.number lowers files) cut.same
        (cut_still x.number lowers cut.whole cut.chosen cut.has all_used) enough

    plain : x.overlay ≡ None
    plain = lower_plain it one_in_part x m (cc it.lowers_are)

    lowered_by : (b : Bool) → lowered x.number lowers (only_used_by nat_eq b all_used x).files
        (only_used_by nat_eq b all_used x) ≡ lowered x.number lowers x.files x
    lowered_by true = refl
    lowered_by false = cc (cut_same, plain)

    lowered_same : (c : Bool) → lowered x.number lowers (only_used nat_eq a c x).files (only_used nat_eq a c x)
        ≡ lowered x.number lowers x.files x
    lowered_same false = refl
    lowered_same true = lowered_by (list_all (λ n. is_among nat_eq n all_used) x.files.numbers)

  abbrev swept_there : Filesystem ℕ → Filesystem ℕ
  swept_there = swept_at set chosen part

  used_in_part : (n : ℕ) → is_among nat_eq n (used_filesystems nat_eq part set) ≡ uses n
  used_in_part n = cc (same_used a set, it.used_are)

  shown_swept : (x : Filesystem ℕ) → Among x a.filesystems
      → part_of_filesystem nat_eq swept set (sweep x) ≡ option_map swept_there (part_of_filesystem nat_eq a set x)
  shown_swept x m = cc (shown_after x m, by (uses x.number) refl (has_lower lowers x.number) refl, shown_before x m)
    where
      by : (p : Bool) → uses x.number ≡ p → (q : Bool) → has_lower lowers x.number ≡ q
          → shown_with x.number used_now lowers (sweep x).files (sweep x)
          ≡ option_map swept_there (shown_with x.number used_now lowers x.files x)
      by true e q f = ap (λ b. cond b (Some (sweep x))
          (when (has_lower lowers x.number) (lowered x.number lowers (sweep x).files (sweep x)))) e
          ∙ ap Some (sweep_alike x m e (chosen x))
          ∙ ap Some (sym (ap (λ b. cond b (only_used nat_eq part (chosen x) x) x) (used_in_part x.number ∙ e)))
          ∙ sym (ap (λ b. option_map swept_there (cond b (Some x)
          (when (has_lower lowers x.number) (lowered x.number lowers x.files x)))) e)
      by false e true f = ap (λ b. cond b (Some (sweep x))
          (when (has_lower lowers x.number) (lowered x.number lowers (sweep x).files (sweep x)))) e
          ∙ ap (λ b. when b (lowered x.number lowers (sweep x).files (sweep x))) f
          ∙ ap Some (lowered_same x m e f (chosen x))
          ∙ ap Some (sym (ap (λ b. cond b (only_used nat_eq part (chosen (lowered x.number lowers x.files x))
          (lowered x.number lowers x.files x)) (lowered x.number lowers x.files x)) (used_in_part x.number ∙ e)))
          ∙ sym (ap (λ b. option_map swept_there (when b (lowered x.number lowers x.files x))) f)
          ∙ sym (ap (λ b. option_map swept_there (cond b (Some x)
          (when (has_lower lowers x.number) (lowered x.number lowers x.files x)))) e)
      by false e false f = cc

  pub part_of_swept : part_of nat_eq swept set ≡ swept_part set chosen part
  part_of_swept = ap (λ list. record part { filesystems = list })
      (filter_map_map (part_of_filesystem nat_eq swept set) sweep a.filesystems
      ∙ filter_map_same (λ x. part_of_filesystem nat_eq swept set (sweep x))
      (λ x. option_map swept_there (part_of_filesystem nat_eq a set x)) a.filesystems shown_swept
      ∙ sym (map_kept swept_there (part_of_filesystem nat_eq a set) a.filesystems))

  -- where plain trees stay, the world is still such a one
  module _ (plains : (x : Filesystem ℕ) → x.overlay ≡ None → chosen x ≡ false) where
    plain_stays : (x : Filesystem ℕ) → x.overlay ≡ None → sweep x ≡ x
    plain_stays x e = cc (plains x e)

    was : (y : Filesystem ℕ) → Among y swept.filesystems → (x : Filesystem ℕ) × Among x a.filesystems × (y ≡ sweep x)
    was y m = among-from_map sweep a.filesystems y m

    layered_was : (n : ℕ) (x : Filesystem ℕ) → has_layer_on nat_eq n (sweep x) ≡ true → has_layer_on nat_eq n x ≡ true
    layered_was n x h = sym (cut_layers n a (chosen x) x) ∙ h

    alone_swept : (n : ℕ) → Alone a set n → Alone swept set n
    alone_swept n alone = record {
      itself = record { mounts = alone.itself.mounts; locations = alone.itself.locations };
      overlays = λ y m has.
          let from = was y m in
          let none = alone.overlays from.0 from.1
          (layered_was n from.0 (rw (← from.2) has)) in
          let same : from.0.number ≡ y.number =
          cc (from.2, number-only_used a (chosen from.0) from.0) in
          record {
            mounts = λ k n e. none.mounts k n (cc);
            locations = λ l n e. none.locations l n (cc);
          };
    }

    free_swept : (y : Filesystem ℕ) → Among y swept.filesystems → uses y.number ≡ true → Alone swept set y.number
        ⊎ AllNamed y
    free_swept y m u =
        let from = was y m in
        let same : y.number ≡ from.0.number = cc (from.2, number-only_used a (chosen from.0) from.0) in
        ⊎_elim (λ alone. inl (rw same (alone_swept from.0.number alone)))
        (λ named. inr (rw (from.2 ∙ stays from.0 named (chosen from.0)) named)) (it.free from.0 from.1 (cc))
      where
        stays : (x : Filesystem ℕ) → AllNamed x → (c : Bool) → only_used nat_eq a c x ≡ x
        stays x named true = named_stays a x named
        stays x named false = refl

    plain_swept : (y merged : Filesystem ℕ) → Among y swept.filesystems → Among merged swept.filesystems
        → has_layer_on nat_eq y.number merged ≡ true → y.overlay ≡ None
    plain_swept y merged m n has =
        let one = was y m in
        let two = was merged n in
        let same : y.number ≡ one.0.number = cc (one.2, number-only_used a (chosen one.0) one.0) in
        let flat = it.plain one.0 two.0 one.1 two.1 (layered_was one.0.number two.0
        (rw (← two.2) (subst (λ k. has_layer_on nat_eq k merged ≡ true) same has))) in
        cc (one.2, plain_stays one.0 flat)

    cut_swept : (y : Filesystem ℕ) → Among y swept.filesystems → uses y.number ≡ false
        → has_lower lowers y.number ≡ true → IsCut y.number lowers y.files
    cut_swept y m unused low =
        let from = was y m in
        let same : y.number ≡ from.0.number =
        ap (λ (f : Filesystem ℕ). f.number) from.2 ∙ number-only_used a (chosen from.0) from.0 in
        let unused_too = ap uses (sym same) ∙ unused in
        let low_too = ap (has_lower lowers) (sym same) ∙ low in
        subst (λ (f : Filesystem ℕ). IsCut f.number lowers f.files)
        (sym (from.2 ∙ plain_stays from.0 (plain from.0 from.1 unused_too low_too)))
        (it.cut from.0 from.1 unused_too low_too)

    pub swept_ready : Ready swept set used_now lowers
    swept_ready = record {
      used_are = used_swept;
      lowers_are = lowers_swept;
      one = it.one;
      lives = it.lives;
      located = it.located;
      parents = it.parents;
      stood = it.stood;
      one_filesystem = one_swept;
      plain = plain_swept;
      free = free_swept;
      cut = cut_swept;
    }

    pub swept_mounted : OverlaysMounted swept set
    swept_mounted y m over = grind (arith, common_steps, was, number-only_used, cut_overlay)
