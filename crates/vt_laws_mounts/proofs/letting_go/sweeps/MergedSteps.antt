-- Inodes of one kind of filesystem go one by one, overlays among them.
use Rattle.std.proofs.Common.{arith, ◌≡◌, refl, sym, ap, subst, ◌∙◌, ⊎_elim, ℕ, nat_eq, eqb-true, Bool, true, false, cond, not, ◌||◌, ◌&&◌, List, [], ◌∷◌, filter, map, flat_map, None}
use Rattle.vt_spec.proofs.Common.{Filesystem, World, and_parts, cases_Bool, common_steps, folded, is_among, layers_in, layers_of, list_all, map_alike, map_twice, not-true, objects_of_overlay, of_overlay, only_used, targets_in, used_in, without_dead_in}
use Rattle.vt_laws_mounts.specs.LettingGo.InUse.{IsListedTree, is_inode_used}
use Rattle.vt_laws_mounts.specs.LettingGo.OneByOne.{Inode, is_inode_among, is_used_or_among}
use Rattle.vt_laws_mounts.specs.LettingGo.Overlays.{let_go_in, let_go_in_of, without_inode_of}
use Rattle.vt_laws_mounts.proofs.letting_go.sweeps.InUse.{UnusedAreEmpty}
use Rattle.vt_laws_mounts.proofs.letting_go.sweeps.Inodes.{goes_of, goes_on}
use Rattle.vt_laws_mounts.proofs.letting_go.Lists.{Among, among-from_map, among_from_list_all, among_numbers, flat_map-step, map_same}
use Rattle.vt_laws_mounts.proofs.letting_go.sweeps.Merged.{HasReals, left_of, named_without, same_without, without_all, without_both, without_nothing}

pub layers_without : (gone : ℕ → Bool) (filesystem : Filesystem ℕ)
    → of_overlay [] layers_of (without_all gone filesystem) ≡ of_overlay [] layers_of filesystem
layers_without gone filesystem = grind (arith, common_steps)

-- a kind of filesystem, which inodes that go do not change
module _ (chosen : Filesystem ℕ → Bool)
    (keeps : (gone : ℕ → Bool) (f : Filesystem ℕ) → chosen (without_all gone f) ≡ chosen f) where
  -- no filesystem of the kind has an object of one of the kind in it, before or after inodes went
  unfoldable pub Apart : World ℕ → Type 0
  Apart world = (f g : Filesystem ℕ) → Among f world.filesystems → chosen f ≡ true → Among g world.filesystems
      → chosen g ≡ true → (gone : ℕ → Bool) → objects_of_overlay nat_eq f.number (without_all gone g)
      ≡ objects_of_overlay nat_eq f.number g

  -- each inode that is used no more has no entries
  unfoldable pub ChosenAreEmpty : World ℕ → Type 0
  ChosenAreEmpty world = (f : Filesystem ℕ) → Among f world.filesystems → chosen f ≡ true
      → UnusedAreEmpty (used_in nat_eq world f) f

  abbrev goes_in : Bool → List ℕ → List Inode → Filesystem ℕ → ℕ → Bool
  goes_in kind used losers filesystem number = kind && goes_of used losers filesystem number

  abbrev here_in : Bool → List ℕ → Inode → Filesystem ℕ → ℕ → Bool
  here_in kind used inode filesystem number =
      ((kind && nat_eq filesystem.number inode.0) && not (is_among nat_eq inode.1 used)) && nat_eq number inode.1

  here_or_later : (kind : Bool) (used : List ℕ) (inode : Inode) (rest : List Inode) (filesystem : Filesystem ℕ)
      (number : ℕ) → goes_in kind used (inode ∷ rest) filesystem number
      ≡ (here_in kind used inode filesystem number || goes_in kind used rest filesystem number)
  here_or_later true used inode rest filesystem number = goes_on used inode rest filesystem number
  here_or_later false used inode rest filesystem number = refl

  module _ (world : World ℕ) (inode : Inode) where
    abbrev next : World ℕ
    next = let_go_in chosen world inode

    abbrev step : Filesystem ℕ → Filesystem ℕ
    step = let_go_in_of chosen world inode

    abbrev here : Filesystem ℕ → ℕ → Bool
    here filesystem = here_in (chosen filesystem) (used_in nat_eq world filesystem) inode filesystem

    one_step : (filesystem : Filesystem ℕ) → step filesystem ≡ without_all (here filesystem) filesystem
    one_step filesystem = by _
      where
        by : (b : Bool) → cond b (without_inode_of inode.1 filesystem) filesystem
            ≡ without_all (λ number. b && nat_eq number inode.1) filesystem
        by true = refl
        by false = sym (without_nothing _)

    number_step : (filesystem : Filesystem ℕ) → (step filesystem).number ≡ filesystem.number
    number_step filesystem = ap (λ f. f.number) (one_step _)

    chosen_step : (filesystem : Filesystem ℕ) → chosen (step filesystem) ≡ chosen filesystem
    chosen_step filesystem = cc (one_step filesystem, keeps (here filesystem) filesystem)

    other_stays : (filesystem : Filesystem ℕ) → chosen filesystem ≡ false → step filesystem ≡ filesystem
    other_stays filesystem e =
        ap (λ b. cond ((b && nat_eq filesystem.number inode.0) && not (is_inode_used world filesystem inode.1))
        (without_inode_of inode.1 filesystem) filesystem) e

    -- what goes is not used
    is_unused : (filesystem : Filesystem ℕ) (number : ℕ) → here filesystem number ≡ true
        → is_among nat_eq number (used_in nat_eq world filesystem) ≡ false
    is_unused filesystem number e = grind (arith, common_steps, and_parts, eqb-true, not-true)

    layers_step : (number : ℕ) → layers_in nat_eq next number ≡ layers_in nat_eq world number
    layers_step number =
        ap (λ layers. map (λ layer. layer.directory) (filter (λ layer. nat_eq number layer.filesystem) layers))
        (flat_map-step step (of_overlay [] layers_of) world.filesystems
        (λ filesystem m. cc (one_step filesystem, layers_without (here filesystem) filesystem)))

    objects_step : Apart world → (filesystem : Filesystem ℕ) → Among filesystem world.filesystems
        → chosen filesystem ≡ true → flat_map (objects_of_overlay nat_eq filesystem.number) next.filesystems
        ≡ flat_map (objects_of_overlay nat_eq filesystem.number) world.filesystems
    unfolding Apart
    objects_step apart filesystem m is =
        flat_map-step step _ _ (λ other n. ⊎_elim (λ e. cc (
          one_step other,
          apart filesystem other m is n e (here other),
        )) (λ e. ap (objects_of_overlay nat_eq filesystem.number) (other_stays other e)) (cases_Bool _))

    used_step : Apart world → (filesystem : Filesystem ℕ) → Among filesystem world.filesystems
        → chosen filesystem ≡ true
        → UnusedAreEmpty (used_in nat_eq world filesystem) filesystem → used_in nat_eq next (step filesystem)
        ≡ used_in nat_eq world filesystem
    used_step apart filesystem m is empty = grind (
      arith,
      common_steps,
      one_step filesystem,
      number_step filesystem,
      layers_step (step filesystem).number,
      objects_step apart filesystem m is,
      one_step,
      named_without,
      is_unused,
    )

    empty_step : Apart world → ChosenAreEmpty world → ChosenAreEmpty next
    unfolding ChosenAreEmpty
    empty_step apart empty filesystem m is =
        let from = among-from_map step world.filesystems filesystem m in
        let was : chosen from.0 ≡ true = cc (chosen_step from.0, from.2) in
        subst (λ f. UnusedAreEmpty (used_in nat_eq next f) f) (sym from.2) (each from.0 from.1 was)
      where
        by : (f : Filesystem ℕ) (number : ℕ) (b : Bool) → targets_in (f.files.tree.node number) ≡ []
            → targets_in (cond b None (f.files.tree.node number)) ≡ []
        by f number true e = refl
        by f number false e = e

        each : (f : Filesystem ℕ) → Among f world.filesystems → chosen f ≡ true
            → UnusedAreEmpty (used_in nat_eq next (step f)) (step f)
        each f n was number unused = ap (λ g. targets_in (g.files.tree.node number)) (one_step f)
            ∙ by f number (here f number)
            (empty f n was number (ap (is_among nat_eq number) (sym (used_step apart f n was (empty f n was)))
            ∙ unused))

    apart_step : Apart world → Apart next
    unfolding Apart
    apart_step apart f g m is n are gone =
        let one = among-from_map step _ f m in
        let two = among-from_map step _ g n in
        let one_is : chosen one.0 ≡ true = cc (chosen_step one.0, one.2) in
        let two_is : chosen two.0 ≡ true = cc (chosen_step two.0, two.2) in
        let number : f.number ≡ one.0.number = cc (one.2, number_step one.0) in
        let itself : g ≡ without_all (here two.0) two.0 = two.2 ∙ one_step two.0 in
        ap (λ k. objects_of_overlay nat_eq k (without_all gone g)) number ∙ ap
        (λ x. objects_of_overlay nat_eq one.0.number (without_all gone x)) itself ∙ ap
        (objects_of_overlay nat_eq one.0.number) (without_both _ gone _ (λ k. refl) two.0) ∙ apart one.0 two.0 one.1
        one_is two.1 two_is (λ k. here two.0 k || gone k) ∙ sym (apart one.0 two.0 one.1 one_is two.1 two_is
        (here two.0)) ∙ ap (objects_of_overlay nat_eq one.0.number) (sym itself) ∙ ap
        (λ k. objects_of_overlay nat_eq k g) (sym number)

  -- all that goes, one by one
  chosen_folded : (world : World ℕ) (losers : List Inode) → Apart world → ChosenAreEmpty world
      → folded (let_go_in chosen) world losers ≡ record world {
        filesystems = map (λ f. without_all (goes_in (chosen f) (used_in nat_eq world f) losers f) f) world.filesystems;
      }
  unfolding ChosenAreEmpty
  chosen_folded world [] apart empty = ap (λ filesystems. record world { filesystems = filesystems })
      (sym (map_same _ _ (λ f m. none _ f)))
    where
      none : (kind : Bool) (f : Filesystem ℕ) → without_all (λ number. kind && false) f ≡ f
      none true f = without_nothing f
      none false f = without_nothing f
  chosen_folded world (inode ∷ rest) apart empty =
      chosen_folded (let_go_in chosen world inode) rest (apart_step world inode apart)
      (empty_step world inode apart empty) ∙ ap (λ filesystems. record world { filesystems = filesystems })
      (map_twice _ _ _ ∙ map_alike _ _ _ (λ f m. ⊎_elim (by_chosen f m) (by_other f) (cases_Bool _)))
    where
      goes_by : Bool → List ℕ → ℕ → ℕ → Bool
      goes_by kind used filesystem number =
          kind && (is_inode_among filesystem number rest && not (is_among nat_eq number used))

      by_chosen : (f : Filesystem ℕ) → Among f world.filesystems → chosen f ≡ true
          → without_all (goes_in (chosen (step world inode f))
          (used_in nat_eq (let_go_in chosen world inode) (step world inode f)) rest
          (step world inode f)) (step world inode f)
          ≡ without_all (goes_in (chosen f) (used_in nat_eq world f) (inode ∷ rest) f) f
      by_chosen f m is =
          (λ i. without_all (goes_by (chosen_step world inode f i) (used_step world inode apart f m is (empty f m is) i)
          (number_step world inode f i)) (one_step world inode f i)) ∙ without_both _ _ _
          (here_or_later (chosen f) (used_in nat_eq world f) inode rest f) f

      by_other : (f : Filesystem ℕ) → chosen f ≡ false → without_all (goes_in (chosen (step world inode f))
          (used_in nat_eq (let_go_in chosen world inode) (step world inode f)) rest
          (step world inode f)) (step world inode f)
          ≡ without_all (goes_in (chosen f) (used_in nat_eq world f) (inode ∷ rest) f) f
      by_other f isnt =
          ap (λ b. without_all (goes_in b (used_in nat_eq (let_go_in chosen world inode) (step world inode f)) rest
          (step world inode f)) (step world inode f)) (chosen_step world inode f ∙ isnt)
          ∙ ap (without_all (λ number. false)) (other_stays world inode f isnt)
          ∙ ap (λ b. without_all (goes_in b (used_in nat_eq world f) (inode ∷ rest) f) f) (sym isnt)

  -- What the sweep of the kind leaves, where all other inodes of it are used
  pub chosen_go_one_by_one : (world : World ℕ) (losers : List Inode) → Apart world → ChosenAreEmpty world
      → ((f : Filesystem ℕ) → Among f world.filesystems → chosen f ≡ true → IsListedTree f.files × HasReals f
      × (list_all (is_used_or_among losers world f) f.files.numbers ≡ true))
      → without_dead_in nat_eq chosen world ≡ folded (let_go_in chosen) world losers
  chosen_go_one_by_one world losers apart empty others =
      cc (map_alike _ _ _ (λ f m. by f m _ refl), chosen_folded world losers apart empty)
    where
      same : (a u : Bool) → (a || u) ≡ true → not u ≡ (a && not u)
      same true u e = refl
      same false true e = refl
      same false false e = cc

      by : (f : Filesystem ℕ) → Among f world.filesystems → (kind : Bool) → chosen f ≡ kind
          → only_used nat_eq world kind f ≡ without_all (goes_in kind (used_in nat_eq world f) losers f) f
      by f m true is =
          let all = others f m is in
          left_of (used_in nat_eq world f) f all.0.numbers all.1 ∙ same_without _ _ f all.0.numbers all.1
          (λ number there. same _ _ (among_from_list_all _ _ all.2 number (among_numbers number _ there)))
      by f m false isnt = sym (without_nothing f)
