-- Pins of inodes without a name, before the sweep and after it.
use Rattle.std.proofs.Common.{arith, ◌≡◌, refl, sym, ap, subst, ◌∙◌, true≢false, eq-eqb, inl, inr, ℕ, ◌+◌, nat_eq, nat_lt, eqb-true, Bool, true, false, cond, not, ◌&&◌, ◌||◌, List, [], ◌∷◌, ◌++◌, map, filter, filter_map, flat_map, find, Option, Some, None, is_some, option_map, option_to_list, unwrap_or, append-nil}
use Rattle.vt_spec.proofs.Found.{found_passes}
use Rattle.vt_spec.proofs.Common.{Among, FileTree, Filesystem, IsTree, Layer, ListsNumbers, Overlay, OverlayInvariants, Real, World, among-from_filter, among_from_all, common_steps, cons_option, filesystem_lives, filesystem_numbered, found_among, is_among, is_overlay, located_in, named_in, no_filesystem, number-only_used, of_overlay, only_used, overlay_or, settled, some_from_is_some, targets_in, upper_object}
use Rattle.vt_spec.specs.Machine.Settled.{without_dead_in, without_dead_mounts}
use Rattle.vt_laws_mounts.specs.LettingGo.Counts.{times}
use Rattle.vt_laws_mounts.specs.LettingGo.InUse.{IsListedTree}
use Rattle.vt_laws_mounts.specs.LettingGo.TreesOverlays.{in_use_of}
use Rattle.vt_laws_mounts.proofs.letting_go.Trees.{unnamed_is_empty}
use Rattle.vt_laws_mounts.proofs.letting_go.sweeps.OfWorlds.{found_filesystem}
use Rattle.vt_laws_mounts.proofs.letting_go.sweeps.UpperUses.{times_append}
use Rattle.vt_laws_worlds.specs.Worlds.Kept.{IsUnderWay}
use Rattle.vt_laws_worlds.proofs.overlay_permits.worlds.SweptWorlds.{settling_leaves_every_world}
use Rattle.vt_laws_kept.specs.Counts.{locations_on, only_staying, real_staying, stays_in}
use Rattle.vt_laws_kept.specs.Kept as kept
use Rattle.vt_laws_kept.proofs.counts.Located.{located_there, no_name, no_root}
use Rattle.vt_laws_kept.proofs.counts.Swept.{unnamed_go_with_their_last_location}
use Rattle.vt_laws_upper_layers.specs.Lowered.{is_at, pins_of}
use Rattle.vt_laws_upper_layers.specs.UnnamedPins.{is_unnamed, objects_unnamed, pin_of, pins_in, unnamed_pins}
use Rattle.vt_laws_upper_layers.proofs.births.Swept.{is_overlay-only_used, numbered-map}
use Rattle.vt_laws_pins.specs.Gone.{PinsGoWithTheirInodes, is_let_go, let_go_in}

zero_first : (n : ℕ) → n ≡ 0 + n
zero_first n = omega arith

-- Pins that pass a test, of the upper objects of some inodes
module _ (test : Layer ℕ → Bool) (upper : Layer ℕ) where
  abbrev passed : (ℕ → Bool) → (ℕ → Option (Real ℕ)) → List ℕ → ℕ
  passed p real numbers =
      times test (map (pin_of upper) (filter_map (λ n. upper_object (real n)) (filter p numbers)))

  -- the share of the first one
  abbrev share : Bool → Option ℕ → ℕ
  share false object = 0
  share true None = 0
  share true (Some object) = cond (test (pin_of upper object)) 1 0

  passed-cons : (p : ℕ → Bool) (real : ℕ → Option (Real ℕ)) (n : ℕ) (rest : List ℕ)
      → passed p real (n ∷ rest) ≡ share (p n) (upper_object (real n)) + passed p real rest
  passed-cons p real n rest = by (p n)
    where
      object : (o : Option ℕ)
          → times test (map (pin_of upper) (cons_option o (filter_map (λ k. upper_object (real k)) (filter p rest))))
          ≡ share true o + passed p real rest
      object None = zero_first _
      object (Some one) = refl

      by : (b : Bool) → times test (map (pin_of upper) (filter_map (λ k. upper_object (real k))
          (cond b (n ∷ filter p rest) (filter p rest)))) ≡ share b (upper_object (real n)) + passed p real rest
      by true = object (upper_object (real n))
      by false = zero_first _

  -- some stay, and others do not
  module _ (p later stays goes : ℕ → Bool) (real real_later : ℕ → Option (Real ℕ))
      (same : (n : ℕ) → stays n ≡ true → later n ≡ p n)
      (same_real : (n : ℕ) → stays n ≡ true → real_later n ≡ real n)
      (others : (n : ℕ) → goes n ≡ (p n && not (stays n))) where
    first : (n : ℕ) (rest : List ℕ) (b : Bool) → stays n ≡ b
        → share (p n) (upper_object (real n)) + passed later real_later (filter stays rest)
        ≡ passed later real_later (cond b (n ∷ filter stays rest) (filter stays rest))
        + share (goes n) (upper_object (real n))
    first n rest true e =
        let one = passed-cons later real_later n (filter stays rest) in
        let is : share (later n) (upper_object (real_later n)) ≡ share (p n) (upper_object (real n)) =
        (λ i. share (same n e i) (upper_object (same_real n e i))) in
        let none : share (goes n) (upper_object (real n)) ≡ 0 =
        ap (λ b. share b (upper_object (real n))) (others n ∙ ap (λ b. p n && not b) e ∙ never (p n)) in
        omega (arith, one, is, none)
      where
        never : (b : Bool) → (b && not true) ≡ false
        never true = refl
        never false = refl
    first n rest false e =
        let is : share (goes n) (upper_object (real n)) ≡ share (p n) (upper_object (real n)) =
        ap (λ b. share b (upper_object (real n))) (others n ∙ ap (λ b. p n && not b) e ∙ always (p n)) in
        omega (arith, is)
      where
        always : (b : Bool) → (b && not false) ≡ b
        always true = refl
        always false = refl

    pub split : (numbers : List ℕ) → passed p real numbers
        ≡ passed later real_later (filter stays numbers) + passed goes real numbers
    split [] = refl
    split (n ∷ rest) =
        let before = passed-cons p real n rest in
        let gone = passed-cons goes real n rest in
        let one = first n rest (stays n) refl in
        let more = split rest in
        omega (arith, before, gone, one, more)

-- the names of a filesystem whose inodes that go have no entries
names_stay : (node later : ℕ → List ℕ) (stays : ℕ → Bool) → ((d : ℕ) → stays d ≡ true → later d ≡ node d)
    → ((d : ℕ) → stays d ≡ false → node d ≡ []) → (numbers : List ℕ)
    → flat_map later (filter stays numbers) ≡ flat_map node numbers
names_stay node later stays same empty [] = refl
names_stay node later stays same empty (d ∷ rest) =
    by (stays d) refl ∙ ap (λ l. node d ++ l) (names_stay node later stays same empty rest)
  where
    by : (b : Bool) → stays d ≡ b → flat_map later (cond b (d ∷ filter stays rest) (filter stays rest))
        ≡ node d ++ flat_map later (filter stays rest)
    by true e = ap (λ l. l ++ flat_map later (filter stays rest)) (same d e)
    by false e = ap (λ l. l ++ flat_map later (filter stays rest)) (sym (empty d e))

-- both say of an inode that it is unnamed
alike : (files : FileTree ℕ) (n : ℕ) → kept.is_unnamed files n ≡ is_unnamed files n
alike files n = by (nat_eq n files.tree.root) (is_among nat_eq n (named_in files))
  where
    by : (a b : Bool) → not (a || b) ≡ (not a && not b)
    by true b = refl
    by false b = refl

-- it goes if it is unnamed, and does not stay
goes_unless : (a : Bool) (n : ℕ) → (a && nat_eq n 0) ≡ (a && not (not a || nat_lt 0 n))
goes_unless false n = refl
goes_unless true n = grind (arith, common_steps)

module _ (world : World ℕ) (under : IsUnderWay world) (are : OverlayInvariants nat_eq world) where
  abbrev left : World ℕ
  left = settled nat_eq world

  abbrev living : World ℕ
  living = in_use_of world

  abbrev between : World ℕ
  between = without_dead_in nat_eq is_overlay living

  module _ (f : Filesystem ℕ) (m : Among f world.filesystems) (overlay : Overlay ℕ)
      (there : f.overlay ≡ Some overlay) where
    numbered : filesystem_numbered nat_eq world f.number ≡ f
    numbered = found_filesystem world.filesystems under.files.one_filesystem f m

    first_is : filesystem_numbered nat_eq between f.number
        ≡ only_used nat_eq living (is_overlay (filesystem_numbered nat_eq living f.number))
        (filesystem_numbered nat_eq living f.number)
    first_is = numbered-map (λ g. only_used nat_eq living (is_overlay g) g)
        (λ g. number-only_used living (is_overlay g) g) f.number refl living.filesystems

    second_is : filesystem_numbered nat_eq left f.number
        ≡ only_used nat_eq between (not (is_overlay (filesystem_numbered nat_eq between f.number)))
        (filesystem_numbered nat_eq between f.number)
    second_is = numbered-map (λ g. only_used nat_eq between (not (is_overlay g)) g)
        (λ g. number-only_used between (not (is_overlay g)) g) f.number refl between.filesystems

    kind : is_overlay (filesystem_numbered nat_eq left f.number)
        ≡ is_overlay (filesystem_numbered nat_eq living f.number)
    kind = ap is_overlay second_is
        ∙ is_overlay-only_used between (not (is_overlay (filesystem_numbered nat_eq between f.number)))
        (filesystem_numbered nat_eq between f.number)
        ∙ ap is_overlay first_is
        ∙ is_overlay-only_used living (is_overlay (filesystem_numbered nat_eq living f.number))
        (filesystem_numbered nat_eq living f.number)

    -- Where it is left no more
    module _ (out : is_overlay (filesystem_numbered nat_eq left f.number) ≡ false) where
      living_none : filesystem_numbered nat_eq living f.number ≡ no_filesystem f.number
      living_none = by (find (λ (g : Filesystem ℕ). nat_eq f.number g.number) living.filesystems) refl
        where
          by : (o : Option (Filesystem ℕ))
              → find (λ (g : Filesystem ℕ). nat_eq f.number g.number) living.filesystems ≡ o
              → unwrap_or (find (λ (g : Filesystem ℕ). nat_eq f.number g.number) living.filesystems)
              (no_filesystem f.number) ≡ no_filesystem f.number
          by None e = ap (λ o. unwrap_or o (no_filesystem f.number)) e
          by (Some g) e =
              let among = (among-from_filter (filesystem_lives nat_eq (without_dead_mounts nat_eq world))
              world.filesystems g (found_among (λ (h : Filesystem ℕ). nat_eq f.number h.number) living.filesystems g e)).0 in
              let same : f.number ≡ g.number = eqb-true f.number g.number
              (found_passes (λ (h : Filesystem ℕ). nat_eq f.number h.number) living.filesystems g e) in
              let is : g ≡ f = sym (found_filesystem world.filesystems under.files.one_filesystem g among)
              ∙ ap (filesystem_numbered nat_eq world) (sym same) ∙ numbered in
              absurd (true≢false (sym (ap is_some there) ∙ ap is_overlay (sym is)
              ∙ ap (λ o. is_overlay (unwrap_or o (no_filesystem f.number))) (sym e) ∙ sym kind ∙ out))

      absent : filesystem_numbered nat_eq left f.number ≡ no_filesystem f.number
      absent = second_is
          ∙ ap (λ g. only_used nat_eq between (not (is_overlay g)) g) (first_is
          ∙ ap (λ g. only_used nat_eq living (is_overlay g) g) living_none)

      nothing_located : located_in nat_eq left f.number ≡ []
      nothing_located = by (located_in nat_eq left f.number) refl
        where
          by : (l : List ℕ) → located_in nat_eq left f.number ≡ l → located_in nat_eq left f.number ≡ []
          by [] e = e
          by (n ∷ rest) e = absurd (true≢false (sym (located_there left (settling_leaves_every_world world under are)
              f.number n (subst (Among n) (sym e) (inl refl)))
              ∙ ap (λ (g : Filesystem ℕ). is_some (g.files.tree.node n)) absent))

      none_on : (n : ℕ) → locations_on left f.number n ≡ 0
      none_on n = ap (times (nat_eq n)) nothing_located

      all_go : let_go_in left f overlay ≡ pins_in f overlay
      all_go = ap (λ p. flat_map (λ upper. map (pin_of upper) (filter_map (λ n. upper_object (overlay.real n))
          (filter p f.files.numbers))) (option_to_list overlay.upper)) (λ i n. goes n i)
        where
          goes : (n : ℕ) → is_let_go left f n ≡ is_unnamed f.files n
          goes n = ap (λ k. is_unnamed f.files n && nat_eq k 0) (none_on n) ∙ always (is_unnamed f.files n)
            where
              always : (b : Bool) → (b && true) ≡ b
              always true = refl
              always false = refl

      out_pins : unnamed_pins left f.number ≡ []
      out_pins = ap (λ g. of_overlay [] (pins_in g) g) absent

      split_out : (test : Layer ℕ → Bool) → times test (pins_in f overlay)
          ≡ times test (unnamed_pins left f.number) + times test (let_go_in left f overlay)
      split_out test = sym (ap (times test) all_go) ∙ zero_first _
          ∙ ap (λ pins. times test pins + times test (let_go_in left f overlay)) (sym out_pins)

    -- Where it is left
    module _ (still : is_overlay (filesystem_numbered nat_eq left f.number) ≡ true) where
      abbrev stays : ℕ → Bool
      stays = stays_in left f

      swept : filesystem_numbered nat_eq left f.number ≡ only_staying stays f
      swept = unnamed_go_with_their_last_location world f.number under are still
          ∙ ap (λ g. only_staying (stays_in left g) g) numbered

      listed : IsListedTree f.files
      listed = record {
        tree = among_from_all (λ (g : Filesystem ℕ). IsTree g.files.tree) world.filesystems under.files.trees f m;
        numbers = among_from_all (λ (g : Filesystem ℕ). ListsNumbers nat_eq g.files) world.filesystems
            under.files.numbers f m;
      }

      -- what goes is unnamed, so it has no entries
      unstaying : (d : ℕ) → stays d ≡ false → kept.is_unnamed f.files d ≡ true
      unstaying d e = by (kept.is_unnamed f.files d) e
        where
          by : (b : Bool) → (not b || nat_lt 0 (locations_on left f.number d)) ≡ false → b ≡ true
          by true e = refl
          by false e = absurd (true≢false e)

      empty : (d : ℕ) → stays d ≡ false → targets_in (f.files.tree.node d) ≡ []
      empty d e = unnamed_is_empty f.files listed d
          (λ root. cc (no_root f.files d (unstaying d e), eq-eqb d f.files.tree.root root))
          (no_name f.files d (unstaying d e))

      names : named_in (only_staying stays f).files ≡ named_in f.files
      names = names_stay (λ d. targets_in (f.files.tree.node d))
          (λ d. targets_in (cond (stays d) (f.files.tree.node d) None)) stays
          (λ d e. ap (λ b. targets_in (cond b (f.files.tree.node d) None)) e) empty f.files.numbers

      objects : (test : Layer ℕ → Bool) (upper : Layer ℕ)
          → times test (map (pin_of upper) (objects_unnamed f overlay))
          ≡ times test (map (pin_of upper) (objects_unnamed (only_staying stays f) (real_staying stays overlay)))
          + times test (map (pin_of upper) (filter_map (λ n. upper_object (overlay.real n))
          (filter (is_let_go left f) f.files.numbers)))
      objects test upper = split test upper (is_unnamed f.files) (is_unnamed (only_staying stays f).files) stays
          (is_let_go left f) overlay.real (real_staying stays overlay).real
          (λ n e. ap (λ l. not (nat_eq n f.files.tree.root) && not (is_among nat_eq n l)) names)
          (λ n e. ap (λ b. cond b (overlay.real n) None) e)
          (λ n. goes_unless (is_unnamed f.files n) (locations_on left f.number n)
          ∙ ap (λ b. is_unnamed f.files n && not (not b || nat_lt 0 (locations_on left f.number n)))
          (sym (alike f.files n)))
          f.files.numbers

      in_upper : (test : Layer ℕ → Bool) (o : Option (Layer ℕ))
          → times test (flat_map (λ upper. map (pin_of upper) (objects_unnamed f overlay)) (option_to_list o))
          ≡ times test (flat_map (λ upper. map (pin_of upper)
          (objects_unnamed (only_staying stays f) (real_staying stays overlay))) (option_to_list o))
          + times test (flat_map (λ upper. map (pin_of upper) (filter_map (λ n. upper_object (overlay.real n))
          (filter (is_let_go left f) f.files.numbers))) (option_to_list o))
      in_upper test None = refl
      in_upper test (Some upper) =
          let one = map (pin_of upper) (objects_unnamed f overlay) in
          let two = map (pin_of upper) (objects_unnamed (only_staying stays f) (real_staying stays overlay)) in
          let three = map (pin_of upper) (filter_map (λ n. upper_object (overlay.real n))
          (filter (is_let_go left f) f.files.numbers)) in
          ap (times test) (append-nil one) ∙ objects test upper
          ∙ (λ i. times test (sym (append-nil two) i) + times test (sym (append-nil three) i))

      split_still : (test : Layer ℕ → Bool) → times test (pins_in f overlay)
          ≡ times test (unnamed_pins left f.number) + times test (let_go_in left f overlay)
      split_still test = in_upper test overlay.upper
          ∙ ap (λ pins. times test pins + times test (let_go_in left f overlay))
          (sym (ap (λ g. of_overlay [] (pins_in g) g) swept
          ∙ ap (λ o. overlay_or [] (pins_in (only_staying stays f)) (option_map (real_staying stays) o)) there))

    split_pins : (test : Layer ℕ → Bool) → times test (pins_in f overlay)
        ≡ times test (unnamed_pins left f.number) + times test (let_go_in left f overlay)
    split_pins test = by (is_overlay (filesystem_numbered nat_eq left f.number)) refl
      where
        by : (b : Bool) → is_overlay (filesystem_numbered nat_eq left f.number) ≡ b → times test (pins_in f overlay)
            ≡ times test (unnamed_pins left f.number) + times test (let_go_in left f overlay)
        by true e = split_still e test
        by false e = split_out e test

    -- One that is not in use is left no more, so it pins nothing
    dead : filesystem_lives nat_eq (without_dead_mounts nat_eq world) f ≡ false
        → is_overlay (filesystem_numbered nat_eq left f.number) ≡ false
    dead e = kind ∙ by (find (λ (g : Filesystem ℕ). nat_eq f.number g.number) living.filesystems) refl
      where
        by : (o : Option (Filesystem ℕ))
            → find (λ (g : Filesystem ℕ). nat_eq f.number g.number) living.filesystems ≡ o
            → is_overlay (unwrap_or o (no_filesystem f.number)) ≡ false
        by None found = refl
        by (Some g) found =
            let among = among-from_filter (filesystem_lives nat_eq (without_dead_mounts nat_eq world))
            world.filesystems g (found_among (λ (h : Filesystem ℕ). nat_eq f.number h.number) living.filesystems g found) in
            let same : f.number ≡ g.number = eqb-true f.number g.number
            (found_passes (λ (h : Filesystem ℕ). nat_eq f.number h.number) living.filesystems g found) in
            let is : g ≡ f = sym (found_filesystem world.filesystems under.files.one_filesystem g among.0)
            ∙ ap (filesystem_numbered nat_eq world) (sym same) ∙ numbered in
            absurd (true≢false (sym among.1 ∙ ap (filesystem_lives nat_eq (without_dead_mounts nat_eq world)) is ∙ e))

  pub dead_pins : (f : Filesystem ℕ) → Among f world.filesystems → is_overlay f ≡ true
      → filesystem_lives nat_eq (without_dead_mounts nat_eq world) f ≡ false → unnamed_pins left f.number ≡ []
  dead_pins f m over e =
      let overlay = some_from_is_some f.overlay over in
      out_pins f m overlay.0 overlay.1 (dead f m overlay.0 overlay.1 e)

  -- of one filesystem, overlay or not
  pub one_splits : (test : Layer ℕ → Bool) (f : Filesystem ℕ) → Among f world.filesystems
      → times test (pins_of (unnamed_pins world) f)
      ≡ times test (pins_of (unnamed_pins left) f) + times test (of_overlay [] (let_go_in left f) f)
  one_splits test f m = by f.overlay refl
    where
      found : filesystem_numbered nat_eq world f.number ≡ f
      found = found_filesystem world.filesystems under.files.one_filesystem f m

      by : (o : Option (Overlay ℕ)) → f.overlay ≡ o
          → times test (overlay_or [] (λ overlay. unnamed_pins world f.number) f.overlay)
          ≡ times test (overlay_or [] (λ overlay. unnamed_pins left f.number) f.overlay)
          + times test (overlay_or [] (let_go_in left f) f.overlay)
      by None e = subst (λ (o : Option (Overlay ℕ)).
          times test (overlay_or [] (λ overlay. unnamed_pins world f.number) o)
          ≡ times test (overlay_or [] (λ overlay. unnamed_pins left f.number) o)
          + times test (overlay_or [] (let_go_in left f) o)) (sym e) refl
      by (Some overlay) e = subst (λ (o : Option (Overlay ℕ)).
          times test (overlay_or [] (λ overlay. unnamed_pins world f.number) o)
          ≡ times test (overlay_or [] (λ overlay. unnamed_pins left f.number) o)
          + times test (overlay_or [] (let_go_in left f) o)) (sym e)
          (ap (times test) (ap (λ g. of_overlay [] (pins_in g) g) found ∙ ap (overlay_or [] (pins_in f)) e)
          ∙ split_pins f m overlay e test)

  all_split : (test : Layer ℕ → Bool) (all : List (Filesystem ℕ))
      → ((f : Filesystem ℕ) → Among f all → Among f world.filesystems)
      → times test (flat_map (pins_of (unnamed_pins world)) all)
      ≡ times test (flat_map (pins_of (unnamed_pins left)) all)
      + times test (flat_map (λ f. of_overlay [] (let_go_in left f) f) all)
  all_split test [] in_world = refl
  all_split test (f ∷ rest) in_world =
      let before = times_append test (pins_of (unnamed_pins world) f)
      (flat_map (pins_of (unnamed_pins world)) rest) in
      let after = times_append test (pins_of (unnamed_pins left) f)
      (flat_map (pins_of (unnamed_pins left)) rest) in
      let gone = times_append test (of_overlay [] (let_go_in left f) f)
      (flat_map (λ g. of_overlay [] (let_go_in left g) g) rest) in
      let here = one_splits test f (in_world f (inl refl)) in
      let there = all_split test rest (λ g m. in_world g (inr m)) in
      omega (arith, before, after, gone, here, there)

pub pins_go_with_their_inodes : PinsGoWithTheirInodes
pins_go_with_their_inodes world filesystem number under are =
    all_split world under are (is_at filesystem number) world.filesystems (λ f m. m)
