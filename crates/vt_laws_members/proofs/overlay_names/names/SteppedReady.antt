-- A world of which a set sees the sweep by its part alone is still one after filesystems that the set uses alone
-- change.
use Rattle.std.proofs.Common.{arith, ◌≡◌, sym, ap, subst, ◌∙◌, ◌⊎◌, inl, inr, ⊎_elim, ℕ, nat_eq, true, false, List, [], None}
use Rattle.vt_spec.proofs.Common.{Among, Filesystem, Layer, TaskName, World, among-from_map, change_layers, common_steps, has_layer_on, is_among, is_overlay, layers_of, list_any, none_from_not_some, of_overlay, pair-map}
use Rattle.vt_laws_members.proofs.Common.{layers_on, with_filesystems}
use Rattle.vt_laws_members.proofs.changes.files.FilesChanged.{lowers_in, lowers_later, used_later}
use Rattle.vt_laws_members.proofs.changes.letting_go.Ready.{AllNamed, Alone, IsCut, NoOthers, Ready}

-- Filesystems keep their numbers and layers. What the set does not use stays, and what changes it uses alone.
pub record ChangesTheirs (a : World ℕ) (set : List TaskName) (used : List ℕ) (step : Filesystem ℕ → Filesystem ℕ)
    : Type 0 where
  pub numbered : (x : Filesystem ℕ) → (step x).number ≡ x.number
  pub layers : (x : Filesystem ℕ) → Among x a.filesystems → of_overlay [] layers_of (step x) ≡ of_overlay [] layers_of x
  pub changing : (x : Filesystem ℕ) → Among x a.filesystems → change_layers (step x) ≡ change_layers x
  pub lowering : (x : Filesystem ℕ) → Among x a.filesystems → lowers_in (step x) ≡ lowers_in x
  pub overlaid : (x : Filesystem ℕ) → Among x a.filesystems → is_overlay (step x) ≡ is_overlay x
  pub kept : (x : Filesystem ℕ) → is_among nat_eq x.number used ≡ false → step x ≡ x
  pub moved : (x : Filesystem ℕ) → Among x a.filesystems → (step x ≡ x) ⊎ Alone a set x.number

module _ {a : World ℕ} {set : List TaskName} {used : List ℕ} {lowers : List (Layer ℕ)}
    (it : Ready a set used lowers) {step : Filesystem ℕ → Filesystem ℕ} (theirs : ChangesTheirs a set used step) where
  abbrev later : World ℕ
  later = with_filesystems a step

  was : (y : Filesystem ℕ) → Among y later.filesystems → (x : Filesystem ℕ) × Among x a.filesystems × (y ≡ step x)
  was y m = among-from_map step a.filesystems y m

  number_was : (y x : Filesystem ℕ) → y ≡ step x → y.number ≡ x.number
  number_was y x e = cc (theirs.numbered x)

  layered_was : (n : ℕ) (x : Filesystem ℕ) → Among x a.filesystems → has_layer_on nat_eq n (step x) ≡ true
      → has_layer_on nat_eq n x ≡ true
  layered_was n x m h = cc (layers_on a n x, theirs.layers x m, layers_on a n (step x))

  nobody_still : (n k : ℕ) → n ≡ k → NoOthers a set n → NoOthers later set k
  nobody_still n k same none = grind (arith, common_steps)

  alone_still : (n k : ℕ) → n ≡ k → Alone a set n → Alone later set k
  alone_still n k same alone = record {
    itself = nobody_still n k same alone.itself;
    overlays = λ y m has.
        let from = was y m in
        nobody_still from.0.number y.number (sym (number_was y from.0 from.2)) (alone.overlays from.0 from.1
        (layered_was n from.0 from.1 (rw (← from.2) (subst (λ i. has_layer_on nat_eq i y ≡ true) (sym same) has))));
  }

  plain_still : (y merged : Filesystem ℕ) → Among y later.filesystems → Among merged later.filesystems
      → has_layer_on nat_eq y.number merged ≡ true → y.overlay ≡ None
  plain_still y merged m n has =
      let one = was y m in
      let two = was merged n in
      let flat = it.plain one.0 two.0 one.1 two.1 (layered_was one.0.number two.0 two.1
      (rw (← two.2) (subst (λ k. has_layer_on nat_eq k merged ≡ true) (number_was y one.0 one.2) has))) in
      none_from_not_some y.overlay (cc (one.2, theirs.overlaid one.0 one.1))

  free_still : (y : Filesystem ℕ) → Among y later.filesystems → is_among nat_eq y.number used ≡ true
      → Alone later set y.number ⊎ AllNamed y
  free_still y m u =
      let from = was y m in
      let same : from.0.number ≡ y.number = sym (number_was y from.0 from.2) in
      ⊎_elim (λ stays. ⊎_elim (λ alone. inl (alone_still from.0.number y.number same alone))
      (λ named. inr (subst AllNamed (sym (from.2 ∙ stays)) named))
      (it.free from.0 from.1 (ap (λ n. is_among nat_eq n used) same ∙ u)))
      (λ alone. inl (alone_still from.0.number y.number same alone)) (theirs.moved from.0 from.1)

  cut_still : (y : Filesystem ℕ) → Among y later.filesystems → is_among nat_eq y.number used ≡ false
      → list_any (λ (layer : Layer ℕ). nat_eq y.number layer.filesystem) lowers ≡ true → IsCut y.number lowers y.files
  cut_still y m unused low =
      let from = was y m in
      let same : from.0.number ≡ y.number = sym (number_was y from.0 from.2) in
      let none : is_among nat_eq from.0.number used ≡ false = cc in
      rw (from.2 ∙ theirs.kept from.0 none) (it.cut from.0 from.1 none
      (ap (λ n. list_any (λ (layer : Layer ℕ). nat_eq n layer.filesystem) lowers) same ∙ low))

  pub stepped_ready : Ready later set used lowers
  stepped_ready = record {
    used_are = used_later a set step theirs.numbered theirs.changing ∙ it.used_are;
    lowers_are = lowers_later a set step theirs.numbered theirs.lowering ∙ it.lowers_are;
    one = it.one;
    lives = it.lives;
    located = it.located;
    parents = it.parents;
    stood = it.stood;
    one_filesystem = pair-map (λ (x y : Filesystem ℕ). nat_eq x.number y.number)
        (λ (x y : Filesystem ℕ). nat_eq x.number y.number) step a.filesystems
        (λ x y m n e. cc (theirs.numbered x, theirs.numbered y)) it.one_filesystem;
    plain = plain_still;
    free = free_still;
    cut = cut_still;
  }
