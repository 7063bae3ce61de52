-- Mounts of overlays are judged alike.
use Rattle.std.proofs.Common.{arith, ◌≡◌, refl, ap, ◌∙◌, inl, inr, ⊎_elim, ℕ, nat_eq, Bool, true, not, List, [], ◌∷◌, ◌++◌, Option, Some, None, Ok, Err, Result, length, is_some, ◌||◌, ◌&&◌, nat_lt, option_map, option_to_list}
use Rattle.vt_spec.proofs.Common.{Among, Rules, Here, Judgement, Layer, LayerLocations, Location, Looks, Mount, MountFlags, Overlay, OverlayWords, Permit, Stop, Task, ToMountOverlay, among-append, among-append_left, among-append_right, among-from_map, and_then, any_pair, common_steps, each_walked, has_single_lower, is_elsewhere, is_empty_list, is_overlay_at, is_read_only, layer_at, layer_locations, layer_rules, layers_walked, list_any, map_alike, most_lowers, new_mount_rules, one_under_another, overlay_at, source_walk, unless, upper_and_work, walk_end, walked_if_given, work_walked}
use Rattle.vt_laws_members.proofs.Common.{Agree, Deny, Each, O2, O3, O5, lie_apart, mount_at, upper_and_work_locations}
use Rattle.vt_laws_members.proofs.judging.Judged.{AreAt, JudgesAlike, Stands, leads_alike}
use Rattle.vt_laws_members.proofs.judging.Masks.{by_mask}
use Rattle.vt_laws_members.proofs.judging.WalksLead.{source_agrees}

-- tests that agree on a list
pub any_same : {A : Type 0} (p q : A → Bool) (xs : List A) → Each (λ x. p x ≡ q x) xs → list_any p xs ≡ list_any q xs
any_same p q [] same = refl
any_same p q (x ∷ xs) same = cc (same x (inl refl), any_same p q xs (λ y m. same y (inr m)))

pair_same : {A : Type 0} (p q : A → A → Bool) (xs : List A)
    → ((x y : A) → Among x xs → Among y xs → p x y ≡ q x y) → any_pair p xs ≡ any_pair q xs
pair_same p q [] same = refl
pair_same p q (x ∷ xs) same = cc (
  any_same (p x) (q x) xs (λ y m. same x y (inl refl) (inr m)),
  pair_same p q xs (λ y z m n. same y z (inr m) (inr n)),
)

and_agree : {A B : Type 0} (Q : A → Type 0) (R : B → Type 0) (a b : Result A Deny) (f g : A → Result B Deny)
    → Agree Q a b → ((x : A) → Q x → Agree R (f x) (g x)) → Agree R (and_then a f) (and_then b g)
and_agree Q R (Ok x) b f g (e, q) next = let n = next x q in (cc n.0, n.1)
and_agree Q R (Err deny) b f g (e, q) next = (cc, tt)

end_agrees : {A : Type 0} (Q : A → Type 0) (a b : Result A (Stop ℕ)) → Agree Q a b → Agree Q (walk_end a) (walk_end b)
end_agrees Q (Ok x) b (e, q) = (cc, q)
end_agrees Q (Err stop) b (e, q) = (cc, tt)

-- what a mount of an overlay asks of layers in these filesystems
pub record LayersAlike (one other : Looks ℕ) (uses : ℕ → Bool) : Type 0 where
  pub overlaps : (layer : Layer ℕ) → uses layer.filesystem ≡ true → (others : List (Layer ℕ))
      → one.overlaps_one_of others layer ≡ other.overlaps_one_of others layer
  pub in_use : (overlay : Overlay ℕ)
      → Each (λ (l : Layer ℕ). uses l.filesystem ≡ true) (upper_and_work overlay ++ overlay.lowers)
      → one.is_in_use overlay ≡ other.is_in_use overlay

module _ {one other : Looks ℕ} (task : Task ℕ) (own : ℕ → Bool) {uses : ℕ → Bool}
    (alike : JudgesAlike one other task own uses) (layers_alike : LayersAlike one other uses) where
  abbrev On : ℕ → Type 0
  On number = own number ≡ true

  abbrev StandsThere : Here ℕ → Type 0
  StandsThere = Stands alike

  abbrev At : Location ℕ → Type 0
  At here = On here.mount

  -- Walks of the layers

  walked_one : (path : List ℕ)
      → Agree StandsThere (walk_end (source_walk nat_eq one task path)) (walk_end (source_walk nat_eq other task path))
  walked_one path = end_agrees StandsThere (source_walk nat_eq one task path) (source_walk nat_eq other task path)
      (source_agrees (leads_alike alike) path)

  each_agrees : (paths : List (List ℕ))
      → Agree (λ list. Each At list) (each_walked nat_eq one task paths) (each_walked nat_eq other task paths)
  each_agrees [] = (refl, λ l m. absurd m)
  each_agrees (path ∷ paths) = and_agree StandsThere (λ list. Each At list) _ _ _ _ (walked_one path)
      (λ here on. and_agree (λ list. Each At list) (λ list. Each At list) (each_walked nat_eq one task paths) _ _ _
      (each_agrees paths) (λ rest all. (refl, λ l m. ⊎_elim (λ first. rw first on) (λ later. all l later) m)))

  given_agrees : (path : Option (List ℕ))
      → Agree (λ o. Each At (option_to_list o)) (walked_if_given nat_eq one task path)
      (walked_if_given nat_eq other task path)
  given_agrees None = (refl, λ l m. absurd m)
  given_agrees (Some path) = grind (arith, common_steps, and_agree, walked_one)

  pub layers_agree : (words : OverlayWords)
      → Agree (AreAt alike) (layers_walked nat_eq one task words) (layers_walked nat_eq other task words)
  layers_agree words = and_agree (λ list. Each At list) (AreAt alike) (each_walked nat_eq one task words.lowers)
      (each_walked nat_eq other task words.lowers) (after_lowers one) (after_lowers other) (each_agrees words.lowers)
      (λ lowers below.
      and_agree (λ o. Each At (option_to_list o)) (AreAt alike) (walked_if_given nat_eq one task words.upper)
      (walked_if_given nat_eq other task words.upper) (after_upper one lowers) (after_upper other lowers)
      (given_agrees words.upper) (λ upper above.
      and_agree (λ o. Each At (option_to_list o)) (AreAt alike) (walked_if_given nat_eq one task (work_walked words))
      (walked_if_given nat_eq other task (work_walked words)) (made lowers upper) (made lowers upper)
      (given_agrees (work_walked words)) (λ work beside. (
        refl,
        λ l m.
            ⊎_elim (λ some. ⊎_elim (below l) (above l) (among-append lowers (option_to_list upper) l some)) (beside l)
            (among-append (lowers ++ option_to_list upper) (option_to_list work) l m),
      ))))
    where
      made : List (Location ℕ) → Option (Location ℕ) → Option (Location ℕ) → Result (LayerLocations ℕ) Deny
      made lowers upper work = Ok (record { lowers = lowers; upper = upper; work = work })

      after_upper : Looks ℕ → List (Location ℕ) → Option (Location ℕ) → Result (LayerLocations ℕ) Deny
      after_upper looks lowers upper =
          and_then (walked_if_given nat_eq looks task (work_walked words)) (made lowers upper)

      after_lowers : Looks ℕ → List (Location ℕ) → Result (LayerLocations ℕ) Deny
      after_lowers looks lowers = and_then (walked_if_given nat_eq looks task words.upper) (after_upper looks lowers)

  -- Rules of the layers

  same_layer : (here : Location ℕ) → At here → layer_at one here ≡ layer_at other here
  same_layer here on = cc (alike.rules.mount here.mount on)

  same_given : (o : Option (Location ℕ)) → Each At (option_to_list o)
      → option_map (layer_at one) o ≡ option_map (layer_at other) o
  same_given None all = refl
  same_given (Some here) all = ap Some (same_layer here (all here (inl refl)))

  module _ (layers : LayerLocations ℕ) (all : AreAt alike layers) where
    at_lower : Each At layers.lowers
    at_lower l m = all l (among-append_left _ (option_to_list layers.work) l (among-append_left layers.lowers _ l m))

    at_upper : Each At (option_to_list layers.upper)
    at_upper l m = all l (among-append_left _ _ l (among-append_right layers.lowers (option_to_list layers.upper) l m))

    at_work : Each At (option_to_list layers.work)
    at_work l m =
        all l (among-append_right (layers.lowers ++ option_to_list layers.upper) (option_to_list layers.work) l m)

    abbrev wanted : Overlay ℕ
    wanted = overlay_at one task layers

    same_overlay : overlay_at one task layers ≡ overlay_at other task layers
    same_overlay i = record {
      upper = same_given layers.upper at_upper i;
      work = same_given layers.work at_work i;
      lowers = map_alike (layer_at one) (layer_at other) layers.lowers (λ l m. same_layer l (at_lower l m)) i;
      mounter = task.credentials;
      real = λ number. None;
    }

    abbrev IsUsed : Layer ℕ → Type 0
    IsUsed layer = uses layer.filesystem ≡ true

    used_at : (l : Location ℕ) → At l → IsUsed (layer_at one l)
    used_at l on = alike.seen l.mount on

    given_used : (o : Option (Location ℕ)) → Each At (option_to_list o)
        → Each IsUsed (option_to_list (option_map (layer_at one) o))
    given_used None at layer m = absurd m
    given_used (Some l) at layer m = ⊎_elim (λ same. rw same (used_at l (at l (inl refl)))) (λ none. absurd none) m

    lower_used : Each IsUsed wanted.lowers
    lower_used layer m =
        let from = among-from_map (layer_at one) layers.lowers layer m in
        rw from.2 (used_at from.0 (at_lower from.0 from.1))

    written_used : Each IsUsed (upper_and_work wanted)
    written_used layer m = ⊎_elim (given_used layers.upper at_upper layer) (given_used layers.work at_work layer)
        (among-append (option_to_list wanted.upper) (option_to_list wanted.work) layer m)

    all_used : Each IsUsed (upper_and_work wanted ++ wanted.lowers)
    all_used layer m =
        ⊎_elim (written_used layer) (lower_used layer) (among-append (upper_and_work wanted) wanted.lowers layer m)

    same_pair : (a b : Layer ℕ) → IsUsed a → one_under_another nat_eq one a b ≡ one_under_another nat_eq other a b
    same_pair a b used i = nat_eq a.filesystem b.filesystem
        && (alike.rules.under a.filesystem a.directory b.directory used i
        || alike.rules.under a.filesystem b.directory a.directory used i)

    same_rules : layer_rules nat_eq one layers wanted ≡ layer_rules nat_eq other layers wanted
    same_rules i = (is_empty_list layers.lowers, O2)
        ∷ (has_single_lower layers.lowers && not (is_some layers.upper), O2)
        ∷ (is_some layers.upper && not (is_some layers.work), O2) ∷ (nat_lt most_lowers (length layers.lowers), O2) ∷ (
          any_same (is_overlay_at one) (is_overlay_at other) (layer_locations layers)
              (λ l m. ap is_some (alike.rules.overlay l (all l m))) i,
          O2,
        ) ∷ (lie_apart nat_eq one wanted, O2) ∷ (
          any_same (one.overlaps_one_of (option_to_list wanted.work))
              (other.overlaps_one_of (option_to_list wanted.work)) (option_to_list wanted.upper)
              (λ layer m. layers_alike.overlaps layer (given_used layers.upper at_upper layer m)
              (option_to_list wanted.work)) i,
          O2,
        ) ∷ (
          any_same (is_read_only one) (is_read_only other) (upper_and_work_locations layers)
              (λ l m. ap (λ (mount : Mount ℕ). mount.flags.read_only)
              (alike.rules.mount l.mount (⊎_elim (at_upper l) (at_work l)
              (among-append (option_to_list layers.upper) (option_to_list layers.work) l m)))) i,
          O2,
        ) ∷ (layers_alike.in_use wanted all_used i, O3) ∷ (
          pair_same (one_under_another nat_eq one) (one_under_another nat_eq other) wanted.lowers
              (λ a b m n. same_pair a b (lower_used a m)) i,
          O5,
        ) ∷ (
          any_same (one.overlaps_one_of wanted.lowers) (other.overlaps_one_of wanted.lowers) (upper_and_work wanted)
              (λ layer m. layers_alike.overlaps layer (written_used layer m) wanted.lowers) i,
          O5,
        ) ∷ []

  -- the mount of an overlay, with the rules of its layers given
  abbrev mount_by : (Permit ℕ → Bool) → Location ℕ → MountFlags → Rules → Overlay ℕ → Looks ℕ → Judgement ℕ
  mount_by overfills here flags rules overlay looks =
      unless (rules ++ new_mount_rules nat_eq looks task here (overfills (ToMountOverlay here overlay flags)))
      (Ok (ToMountOverlay here overlay flags))

  pub overlay_alike : (overfills : Permit ℕ → Bool) (here : Location ℕ) → At here → (flags : MountFlags)
      (layers : LayerLocations ℕ) → AreAt alike layers → mount_by overfills here flags
      (layer_rules nat_eq one layers (overlay_at one task layers)) (overlay_at one task layers) one
      ≡ mount_by overfills here flags (layer_rules nat_eq other layers (overlay_at other task layers))
      (overlay_at other task layers) other
  overlay_alike overfills here on flags layers all =
      ap (λ rules. mount_by overfills here flags rules (overlay_at one task layers) one) (same_rules layers all)
      ∙ by_mask own uses one other alike.rules (mount_by overfills here flags
      (layer_rules nat_eq other layers (overlay_at one task layers)) (overlay_at one task layers))
      (λ looks. rw (is_elsewhere, mount_at, on) refl)
      ∙ ap (λ overlay. mount_by overfills here flags (layer_rules nat_eq other layers overlay) overlay other)
      (same_overlay layers all)
