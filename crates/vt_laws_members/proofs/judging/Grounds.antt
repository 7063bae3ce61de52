-- Where members get: their part has these mounts as they are, and no step leads to another one.
use Rattle.std.proofs.Common.{◌≡◌, refl, sym, ap, subst, ◌∙◌, ◌⊎◌, inl, inr, ⊎_elim, ℕ, zero, suc, nat_eq, Bool, true, false, cond, true≢false, List, [], ◌∷◌, Option, Some, None, map, find, length, ◌≤◌, arith, eqb-true, option_map, filter_map}
use Rattle.vt_spec.proofs.Common.{Among, Location, Mount, MountInvariants, Stands, Task, TaskName, World, among-filter_map, among-map, among_from_all, and_from, and_parts, any_among, any_from_among, chain, chain_ends, chain_goes_on, child_at, common_steps, cons_option, found_among, found_or_none, found_passes, is_at, length-map, members, mount_numbered, mounts_over, none_is_some, number-mount_in, or_cases, or_left, or_right, part_of, root_of, roots_and_directories, same_Some, stands_at}
use Rattle.vt_laws_members.proofs.Common.{Each, IsWhole, Way, chains_alike, ends, goes_on, is_own, keep, kept_how, kept_whole, length-filter_map, namespace_below, nowhere_stands, numbered, rank, rank_bounded, rank_child, same_over, stands_there}
use Rattle.vt_laws_members.specs.Judging.{is_theirs}

-- each step of a chain is so
pub chain_each : {A : Type 0} (Q : A → Type 0) (next : A → Option A) → ((a b : A) → Q a → next a ≡ Some b → Q b)
    → (n : ℕ) (a : A) → Q a → Each Q (chain n next a)
chain_each Q next on zero a q c m = ⊎_elim (λ e. rw e q) (λ none. absurd none) m
chain_each {A} Q next on (suc n) a q c m = by (next a) refl (λ b r d l. chain_each Q next on n b r d l)
  where
    by : (o : Option A) → next a ≡ o → ((b : A) → Q b → Each Q (chain n next b)) → Q c
    by None e rest =
        ⊎_elim (λ same. subst Q (sym same) q) (λ none. absurd none) (subst (Among c) (chain_ends next n a e) m)
    by (Some b) e rest =
        ⊎_elim (λ same. subst Q (sym same) q) (rest b (on a b q e) c) (subst (Among c) (chain_goes_on next n a b e) m)

module _ (world : World ℕ) (names : List TaskName) (is : MountInvariants nat_eq world) where
  abbrev theirs : List (Task ℕ)
  theirs = members world names

  abbrev part : World ℕ
  part = part_of nat_eq world names

  abbrev kept : Mount ℕ → Option (Mount ℕ)
  kept = keep world names theirs

  -- a mount that members get to
  abbrev pub IsGround : Mount ℕ → Type 0
  IsGround mount = (is_own world names theirs mount ≡ true)
      ⊎ ((mount.namespace ≡ None) × (is_at nat_eq (roots_and_directories theirs) mount ≡ true))

  abbrev pub IsTheirs : ℕ → Type 0
  IsTheirs number = (mount : Mount ℕ) × Among mount world.mounts × (mount.number ≡ number) × IsGround mount

  -- as a test
  pub theirs_from : (number : ℕ) → is_theirs world names number ≡ true → IsTheirs number
  theirs_from number e = grind (arith, common_steps, any_among, and_parts, eqb-true, or_cases, is_own, true≢false)

  pub theirs_test : (number : ℕ) → IsTheirs number → is_theirs world names number ≡ true
  theirs_test number (mount, m, same, ground) =
      grind (arith, common_steps, any_from_among, and_from, or_left, is_own, or_right)

  ground_whole : (mount : Mount ℕ) → IsGround mount → kept mount ≡ Some mount
  ground_whole mount ground = grind (arith, common_steps, kept_whole, or_left, is_own, or_right)

  pub theirs_whole : (number : ℕ) → IsTheirs number → IsWhole world names is number
  theirs_whole number (mount, m, same, ground) =
      (mount, m, same, ground_whole mount ground, ⊎_elim inl (λ stood. inr stood.0) ground)

  -- the part has it as it is
  module _ (number : ℕ) (own : IsTheirs number) where
    search : (list : List (Mount ℕ)) → ((x : Mount ℕ) → Among x list → Among x world.mounts)
        → find (λ (m : Mount ℕ). nat_eq number m.number) (filter_map kept list)
        ≡ find (λ (m : Mount ℕ). nat_eq number m.number) list
    search [] all = refl
    search (x ∷ rest) all = by (nat_eq number x.number) refl (search rest (λ y m. all y (inr m)))
      where
        it : nat_eq number x.number ≡ true → kept x ≡ Some x
        it e =
            let same : own.0 ≡ x = cc (
              numbered world names is own.0 own.1,
              own.2,
              eqb-true number x.number e,
              numbered
                  world names is x (all x (inl refl)),
            ) in
            cc (ground_whole own.0 own.3)

        skip : (o : Option (Mount ℕ)) → kept x ≡ o → nat_eq number x.number ≡ false
            → find (λ (m : Mount ℕ). nat_eq number m.number) (cons_option o (filter_map kept rest))
            ≡ find (λ (m : Mount ℕ). nat_eq number m.number) (filter_map kept rest)
        skip None e f = refl
        skip (Some y) e f = grind (arith, common_steps, kept_how)

        by : (b : Bool) → nat_eq number x.number ≡ b
            → find (λ (m : Mount ℕ). nat_eq number m.number) (filter_map kept rest)
            ≡ find (λ (m : Mount ℕ). nat_eq number m.number) rest
            → find (λ (m : Mount ℕ). nat_eq number m.number) (cons_option (kept x) (filter_map kept rest))
            ≡ cond b (Some x) (find (λ (m : Mount ℕ). nat_eq number m.number) rest)
        by true e later = cc (it e, e)
        by false e later = skip (kept x) refl e ∙ later

    pub same_found : find (λ (m : Mount ℕ). nat_eq number m.number) part.mounts
        ≡ find (λ (m : Mount ℕ). nat_eq number m.number) world.mounts
    same_found = search world.mounts (λ x m. m)

    pub same_mount : mount_numbered nat_eq part number ≡ mount_numbered nat_eq world number
    same_mount = cc same_found

    pub its_mount : mount_numbered nat_eq world number ≡ own.0
    its_mount = cc (own.2, numbered world names is own.0 own.1)

  pub stands_itself : (mount : Mount ℕ) → Among mount world.mounts → Stands nat_eq world mount.number
  stands_itself mount m =
      among_from_all (λ (x : Mount ℕ). Stands nat_eq world x.number) world.mounts is.standing mount m

  pub own_by : (a b : Mount ℕ) → a.namespace ≡ b.namespace → is_own world names theirs b ≡ true
      → is_own world names theirs a ≡ true
  own_by a b same own = cc (same, own)

  -- what stands on such a mount is theirs
  pub child_theirs : (a : Location ℕ) (child : Mount ℕ) → IsTheirs a.mount → Among child world.mounts
      → child.mount_point ≡ Some a → is_own world names theirs child ≡ true
  child_theirs a child (mount, m, number, ground) there at =
      let same : child.namespace ≡ mount.namespace = cc (
        numbered world names is child there,
        namespace_below world child.number a (stands_itself child there) (cc (numbered world names is child there)),
        numbered world names is mount m,
      ) in
      ⊎_elim (λ own. own_by child mount same own) (λ stood. absurd (nowhere_stands world names is child a there
      (cc) at)) ground

  pub entered_theirs : (a b : Location ℕ) → IsTheirs a.mount
      → option_map root_of (child_at nat_eq world.mounts a) ≡ Some b → IsTheirs b.mount
  entered_theirs a b own e = by (child_at nat_eq world.mounts a) refl e
    where
      by : (o : Option (Mount ℕ)) → child_at nat_eq world.mounts a ≡ o → option_map root_of o ≡ Some b
          → IsTheirs b.mount
      by None f h = none_is_some b h
      by (Some child) f h =
          let m = found_among (stands_at nat_eq a) world.mounts child f in
          let at = stands_there a child (found_passes (stands_at nat_eq a) world.mounts child f) in (
            child,
            m,
            cc (same_Some (root_of child) b h),
            inl (child_theirs a child own m at),
          )

  -- so is what it stands on
  pub parent_theirs : (number : ℕ) (point : Location ℕ) → IsTheirs number
      → (mount_numbered nat_eq world number).mount_point ≡ Some point → IsTheirs point.mount
  parent_theirs number point (mount, m, same, ground) e =
      let it : mount_numbered nat_eq world number ≡ mount = cc (numbered world names is mount m) in
      let below : mount.namespace ≡ (mount_numbered nat_eq world point.mount).namespace = cc
      (it, namespace_below world number point (subst (Stands nat_eq world) same (stands_itself mount m)) e) in
      ⊎_elim (λ own. let there : is_own world names theirs (mount_numbered nat_eq world point.mount) ≡ true = own_by
      (mount_numbered nat_eq world point.mount) mount (sym below) own in ⊎_elim
      (λ found. (mount_numbered nat_eq world point.mount, found, number-mount_in world.mounts point.mount, inl there))
      (λ none. absurd (true≢false (sym there ∙ ap (is_own world names theirs) none)))
      (found_or_none world.mounts point.mount)) (λ stood. absurd (nowhere_stands world names is mount point m stood.0
      (cc it))) ground

  pub over_alike : (here : Location ℕ) → IsTheirs here.mount
      → mounts_over nat_eq part.mounts here ≡ mounts_over nat_eq world.mounts here
  over_alike here own = same_over world names is here (theirs_whole here.mount own)

  pub over_theirs : (here : Location ℕ) → IsTheirs here.mount
      → Each (λ (l : Location ℕ). IsTheirs l.mount) (mounts_over nat_eq world.mounts here)
  over_theirs here own = chain_each _ _ entered_theirs (length world.mounts) here own

  -- Chains of mount points, upwards
  module _ (next other : Location ℕ → Option (Location ℕ))
      (goes : (a b : Location ℕ) → next a ≡ Some b → (mount_numbered nat_eq world a.mount).mount_point ≡ Some b)
      (alike : (a : Location ℕ) → IsTheirs a.mount → other a ≡ next a) where
    abbrev key_by : Option (Location ℕ) → ℕ → ℕ
    key_by None number = 0
    key_by (Some b) number = suc number

    abbrev key : Location ℕ → ℕ
    key a = key_by (next a) a.mount

    by_key : (a b : Location ℕ) → key a ≡ key b → next a ≡ next b
    by_key a b e = grind (arith, common_steps)

    abbrev there : List ℕ
    there = map (λ (mount : Mount ℕ). suc mount.number) part.mounts

    up_theirs : (a b : Location ℕ) → IsTheirs a.mount → next a ≡ Some b → IsTheirs b.mount
    up_theirs a b own e = parent_theirs a.mount b own (goes a b e)

    abbrev deep : ℕ → ℕ
    deep = rank world is.one_number is.standing

    way : (n : ℕ) (a : Location ℕ) → IsTheirs a.mount → deep a.mount ≤ n → Way next other key there a
    way zero a own less = by (next a) refl
      where
        by : (o : Option (Location ℕ)) → next a ≡ o → Way next other key there a
        by None e = ends a e (alike a own ∙ e)
        by (Some b) e =
            let child = rank_child world is.one_number is.standing a.mount b (goes a b e) in
            absurd (omega (arith, child, less))
    way (suc n) a own less = by (next a) refl (λ b o l. way n b o l)
      where
        by : (o : Option (Location ℕ)) → next a ≡ o
            → ((b : Location ℕ) → IsTheirs b.mount → deep b.mount ≤ n → Way next other key there b)
            → Way next other key there a
        by None e rest = ends a e (alike a own ∙ e)
        by (Some b) e rest =
            let child = rank_child world is.one_number is.standing a.mount b (goes a b e) in
            goes_on a b e (alike a own ∙ e) (subst (λ x. Among x there) (cc own.2)
            (among-map _ part.mounts own.0 (among-filter_map kept world.mounts own.0 own.0 own.1
            (ground_whole own.0 own.3)))) (rest b (up_theirs a b own e) (omega (arith, child, less)))

    pub up_alike : (here : Location ℕ) → IsTheirs here.mount
        → chain (length part.mounts) other here ≡ chain (length world.mounts) next here
    up_alike here own =
        let size : length there ≡ length part.mounts = length-map part.mounts (λ (mount : Mount ℕ). suc mount.number) in
        let less : length part.mounts ≤ length world.mounts = length-filter_map kept world.mounts in
        sym (chains_alike next other key there by_key _ _ here (way (length world.mounts) here own
        (rank_bounded world is.one_number is.standing here.mount)) (omega (arith, size, less)) (omega (arith, size)))

    pub up_each : (here : Location ℕ) → IsTheirs here.mount
        → Each (λ (l : Location ℕ). IsTheirs l.mount) (chain (length world.mounts) next here)
    up_each here own = chain_each (λ (l : Location ℕ). IsTheirs l.mount) next up_theirs (length world.mounts) here own
