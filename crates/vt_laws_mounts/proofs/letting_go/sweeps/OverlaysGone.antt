-- An overlay that goes takes the uses of its layers and of its upper objects away.
use Rattle.std.proofs.Common.{◌≡◌, refl, sym, ap, subst, ◌∙◌, ◌⊎◌, inl, inr, ⊎_elim, ℕ, nat_eq, eq-eqb, Bool, true, cond, ◌||◌, ◌&&◌, List, [], ◌∷◌, map, flat_map, ◌++◌, Option, option_to_list}
use Rattle.vt_spec.proofs.Common.{Filesystem, Layer, World, filesystem_lives, is_among, is_among_left, is_among_right, layers_in, layers_of, list_all, list_any-append, located_in, named_in, objects_of_overlay, of_overlay, or_cases, overlay_or, without_dead_filesystems}
use Rattle.vt_laws_mounts.specs.LettingGo.InUse.{is_inode_used}
use Rattle.vt_laws_mounts.specs.LettingGo.OneByOne.{FilesystemsInUseBut, Inode, is_inode_among, is_used_or_among}
use Rattle.vt_laws_mounts.specs.LettingGo.Overlays.{FilesystemsTakeTheirUses, used_by_filesystem, used_by_filesystems, uppers_in}
use Rattle.vt_laws_mounts.proofs.letting_go.Lists.{Among, all_from_among, among-append_left, among-append_right, among-filter, among-flat_map, among-from_filter, among-from_flat_map, among-from_map, among-map, among_from_all, among_from_list_all, among_numbers, any_among, any_from_among, is_among_numbers, list_all_from_among, or_left, or_right}
use Rattle.vt_laws_mounts.proofs.letting_go.sweeps.WithOverlays.{object_parts}

module _ (world : World ℕ) (losers : List ℕ) (others : FilesystemsInUseBut losers world) where
  abbrev living : World ℕ
  living = without_dead_filesystems nat_eq world

  abbrev taken : List Inode
  taken = used_by_filesystems world losers

  -- a filesystem lives, or what it used is named
  lives_or_named : (g : Filesystem ℕ) → Among g world.filesystems
      → (filesystem_lives nat_eq world g ≡ true) ⊎ (is_among nat_eq g.number losers ≡ true)
  lives_or_named g m = ⊎_elim inr inl (or_cases _ _ (among_from_list_all _ _ others g m))

  named_use : (g : Filesystem ℕ) → Among g world.filesystems → is_among nat_eq g.number losers ≡ true
      → (filesystem number target : ℕ) → nat_eq filesystem target ≡ true → Among (target, number) (used_by_filesystem g)
      → is_inode_among filesystem number taken ≡ true
  named_use g m loses filesystem number target same used =
      let t = any_among _ losers loses in
      any_from_among _ taken _ (among-flat_map _ losers t.0 _ t.1 (among-flat_map _ _ g _ m
      (subst (λ b. Among (target, number) (cond b (used_by_filesystem g) [])) (sym t.2) used)))
      (cc (eq-eqb number number refl))

  abbrev is_on : ℕ → Layer ℕ → Bool
  is_on filesystem layer = nat_eq filesystem layer.filesystem

  layer_left : (filesystem number : ℕ) → Among number (layers_in nat_eq world filesystem)
      → Among number (layers_in nat_eq living filesystem) ⊎ (is_inode_among filesystem number taken ≡ true)
  layer_left filesystem number m =
      let one = among-from_map _ _ number m in
      let two = among-from_filter _ _ one.0 one.1 in
      let three = among-from_flat_map _ _ one.0 two.0 in
      ⊎_elim (λ lives. inl (subst (λ n. Among n (layers_in nat_eq living filesystem)) (sym one.2)
      (among-map _ _ one.0 (among-filter _ _ one.0 (among-flat_map _ _ _ one.0 (among-filter _ _ _ three.1 lives)
      three.2) two.1)))) (λ loses. inr (named_use _ three.1 loses _ number _ two.1
      (among-append_left _ _ _ (subst (λ n. Among {A = Inode} (one.0.filesystem, n)
      (map (λ (layer : Layer ℕ). (layer.filesystem, layer.directory)) (of_overlay [] layers_of three.0))) (sym one.2)
      (among-map _ _ one.0 three.2))))) (lives_or_named _ three.1)

  object_left : (filesystem number : ℕ)
      → Among number (flat_map (objects_of_overlay nat_eq filesystem) world.filesystems)
      → Among number (flat_map (objects_of_overlay nat_eq filesystem) living.filesystems)
      ⊎ (is_inode_among filesystem number taken ≡ true)
  object_left filesystem number m =
      let t = among-from_flat_map _ _ number m in
      let p = object_parts _ number t.0 t.2 in
      ⊎_elim (λ lives. inl (among-flat_map _ _ t.0 number (among-filter _ _ t.0 t.1 lives) t.2))
      (λ loses. inr (named_use t.0 t.1 loses _ number _ p.4 (among-append_right _ _ _
      (among-flat_map _ _ p.5 _ p.6 (subst (λ l. Among (p.2.filesystem, number) l)
      (sym (ap (overlay_or [] (uppers_in p.5)) p.1 ∙ (λ i. listed (p.3 i) (p.7 i)))) (inl refl))))))
      (lives_or_named t.0 t.1)
    where
      listed : Option (Layer ℕ) → Option ℕ → List Inode
      listed u o = flat_map (λ (l : Layer ℕ). map (λ x. (l.filesystem, x)) (option_to_list o)) (option_to_list u)

  still_used : (f : Filesystem ℕ) (number : ℕ) → is_inode_used world f number ≡ true
      → (is_inode_used living f number ≡ true) ⊎ (is_inode_among f.number number taken ≡ true)
  still_used f number h = ⊎_elim (λ before. ⊎_elim
      (λ a. inl (is_among_left number (front ++ layers_in nat_eq living f.number) objects
      (is_among_left number front (layers_in nat_eq living f.number) a))) (λ a. ⊎_elim
      (λ there. inl (is_among_left number (front ++ layers_in nat_eq living f.number) objects
      (is_among_right number front (layers_in nat_eq living f.number)
      (is_among_numbers number (layers_in nat_eq living f.number) there))))
      inr (layer_left f.number number (among_numbers number (layers_in nat_eq world f.number) a)))
      (or_cases (is_among nat_eq number front) (is_among nat_eq number (layers_in nat_eq world f.number))
      (cc (list_any-append (nat_eq number) front (layers_in nat_eq world f.number))))) (λ a. ⊎_elim
      (λ there. inl (is_among_right number (front ++ layers_in nat_eq living f.number) objects
      (is_among_numbers number objects there))) inr (object_left f.number number
      (among_numbers number (flat_map (objects_of_overlay nat_eq f.number) world.filesystems) a)))
      (or_cases (is_among nat_eq number (front ++ layers_in nat_eq world f.number))
      (is_among nat_eq number (flat_map (objects_of_overlay nat_eq f.number) world.filesystems))
      (sym (list_any-append (nat_eq number) (front ++ layers_in nat_eq world f.number)
      (flat_map (objects_of_overlay nat_eq f.number) world.filesystems)) ∙ h))
    where
      front : List ℕ
      front = f.files.tree.root ∷ (named_in f.files ++ located_in nat_eq world f.number)

      objects : List ℕ
      objects = flat_map (objects_of_overlay nat_eq f.number) living.filesystems

pub filesystems_take_their_uses : FilesystemsTakeTheirUses
filesystems_take_their_uses world losers inodes others used =
    all_from_among (λ f. list_all (is_used_or_among (inodes ++ used_by_filesystems world losers)
    (without_dead_filesystems nat_eq world) f) f.files.numbers ≡ true)
    (without_dead_filesystems nat_eq world).filesystems
    (λ f m. list_all_from_among (is_used_or_among (inodes ++ used_by_filesystems world losers)
    (without_dead_filesystems nat_eq world) f) f.files.numbers (λ number n. each f number
    (among_from_list_all (is_used_or_among inodes world f) f.files.numbers
    (among_from_all (λ x. list_all (is_used_or_among inodes world x) x.files.numbers ≡ true) world.filesystems used f
    (among-from_filter (filesystem_lives nat_eq world) world.filesystems f m).0) number n)))
  where
    more : (f : Filesystem ℕ) (number : ℕ) → (is_inode_among f.number number inodes
        || is_inode_among f.number number (used_by_filesystems world losers)) ≡ true
        → is_inode_among f.number number (inodes ++ used_by_filesystems world losers) ≡ true
    more f number h = list_any-append (λ inode. nat_eq f.number inode.0 && nat_eq number inode.1) inodes
        (used_by_filesystems world losers) ∙ h

    each : (f : Filesystem ℕ) (number : ℕ) → is_used_or_among inodes world f number ≡ true
        → is_used_or_among (inodes ++ used_by_filesystems world losers)
        (without_dead_filesystems nat_eq world) f number ≡ true
    each f number h = ⊎_elim (λ a. or_left _ (is_inode_used (without_dead_filesystems nat_eq world) f number)
        (more f number (or_left _ _ a))) (λ u. ⊎_elim
        (λ there. or_right (is_inode_among f.number number (inodes ++ used_by_filesystems world losers)) _ there)
        (λ named. or_left _ (is_inode_used (without_dead_filesystems nat_eq world) f number)
        (more f number (or_right (is_inode_among f.number number inodes) _ named)))
        (still_used world losers others f number u))
        (or_cases (is_inode_among f.number number inodes) (is_inode_used world f number) h)
