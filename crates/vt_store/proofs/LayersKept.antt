-- The layers of all overlays, as overlays come, change and go.
use Rattle.std.proofs.Common.{Option, ◌≡◌, ◌<◌, ◌^◌, arith, is_some, lt-ltb, ne_eqb, refl, sym, ap, ◌∙◌, ℕ, Bool, true, false, cond, not, nat_eq, List, [], ◌∷◌, ◌++◌, append_assoc, None, Some, option_map, T, subst, IsPermutation, count_by, min, nat_lt, eqb-true, ltb-true, ⊎_elim}
use Rattle.vt_spec.proofs.Common.{AllByRecursion, All-filter, all_from_among, among-append, among-from_map, among_from_all, IsPermutation-append_left, IsPermutation-append_right, IsPermutation-trans, T_and_left, T_and_right, keys_of, list_all, list_any, list_any-append, lookup, same_Some, sum_by-IsPermutation, common_steps}
use Rattle.std.proofs.lemmas.List.Sorted.{All-permutation, IsPermutation-append_comm, length_permutation}
use Rattle.indexmap.specs.IndexMap.{IndexMap, WritesThrough, get_by}
use Rattle.vt_location.proofs.OrderLemmas.{apart-below, rises, rises-in_order, same_by}
use Rattle.vt_location.specs.declared.numbers.FilesystemId.{FilesystemId}
use Rattle.vt_overlay.specs.declared.merge.layers.LayerRef.{LayerRef}
use Rattle.vt_store.proofs.KeptOverlays.{added, count_of, entry_kept-entries, entry_kept-kept, in_order, is_key, key_eq, of_count, own_added, own_removed, own_written, removed, writes}
use Rattle.vt_store.proofs.OverlaysGo.{absent_removed}
use Rattle.vt_store.specs.LayerTests.{stands_at, stands_in}
use Rattle.vt_store.specs.LayersAt.{AreCounted}
use Rattle.vt_store.specs.OverlaysValue.{AreKept, KeepTheirOwn, OverlayEntry, Overlays, all_layers, entries_kept, entry_kept, kept_overlay, kept_overlays, layers_held, with_overlay_changed, without_overlay}
use Rattle.vt_layered.specs.LayeredValue.{KeepsItsOwn}
use Rattle.vt_store.specs.declared.layer_counts.LayerCounts.{LayerCounts}
use Rattle.vt_store.specs.declared.overlays.KeptOverlay.{KeptOverlay}

-- what an overlay keeps is its own
abbrev KeepsIts : OverlayEntry → Type 0
KeepsIts entry = KeepsItsOwn entry.overlay entry.above

-- some layer of all passes where one of some overlay does
pub any_layers : (test : LayerRef → Bool) (overlays : Overlays) → list_any test (all_layers overlays)
    ≡ list_any (λ (entry : OverlayEntry). list_any test (layers_held entry)) overlays
any_layers test [] = refl
any_layers test (entry ∷ rest) = grind (arith, common_steps, any_layers test rest, list_any-append)

-- a new overlay is the last
pub layers_with : (overlays : Overlays) (entry : OverlayEntry)
    → all_layers (overlays ++ entry ∷ []) ≡ all_layers overlays ++ layers_held entry
layers_with overlays entry = grind (arith, common_steps)

-- an overlay that changes keeps its layers
pub layers_changed : (f : ℕ) (change : OverlayEntry → OverlayEntry)
    → ((entry : OverlayEntry) → layers_held (change entry) ≡ layers_held entry) → (overlays : Overlays)
    → all_layers (with_overlay_changed f change overlays) ≡ all_layers overlays
layers_changed f change keeps [] = refl
layers_changed f change keeps (entry ∷ rest) = λ i. by (nat_eq f entry.count) i ++ layers_changed f change keeps rest i
  where
    by : (b : Bool) → layers_held (cond b (change entry) entry) ≡ layers_held entry
    by true = keeps entry
    by false = refl

-- Where one goes, its layers go

pub no_key : (k : FilesystemId) (kept : List (FilesystemId × KeptOverlay))
    → AllByRecursion (λ other. same_by count_of k other ≡ false) (keys_of kept) → lookup (is_key k.count) kept ≡ None
no_key k [] apart = refl
no_key k (e ∷ kept) apart = ap (λ b. cond b (Some e.1) (lookup (is_key k.count) kept)) apart.0 ∙ no_key k kept apart.1

module _ (f : ℕ) (entry : OverlayEntry) where
  entries_without : (kept : List (FilesystemId × KeptOverlay)) → T (rises count_of kept)
      → entry_kept (entries_kept kept) f ≡ Some entry → IsPermutation (all_layers (entries_kept kept))
      (layers_held entry ++ all_layers (without_overlay f (entries_kept kept)))
  entries_without [] risen found = absurd cc
  entries_without (e ∷ kept) risen found =
      by (nat_eq f e.0.count) (eqb-true f e.0.count) found (entries_without kept (T_and_right _ _ risen))
    where
      rest : Overlays
      rest = entries_kept kept

      by : (b : Bool) → (b ≡ true → f ≡ e.0.count) → cond b (Some (kept_overlay e)) (entry_kept rest f) ≡ Some entry
          → (entry_kept rest f ≡ Some entry
          → IsPermutation (all_layers rest) (layers_held entry ++ all_layers (without_overlay f rest)))
          → IsPermutation (layers_held (kept_overlay e) ++ all_layers rest) (layers_held entry
          ++ all_layers (cond (not b) (kept_overlay e ∷ without_overlay f rest) (without_overlay f rest)))
      by true here there later =
          grind (
            arith,
            common_steps,
            entry_kept,
            entry_kept-entries,
            no_key,
            apart-below,
            T_and_left,
            same_Some,
            absent_removed,
          )
      by false here there later =
          let own = layers_held (kept_overlay e) in
          let its = layers_held entry in
          let left = all_layers (without_overlay f rest) in
          IsPermutation-trans (own ++ all_layers rest) (own ++ (its ++ left)) (its ++ (own ++ left))
          (IsPermutation-append_right own (all_layers rest) (its ++ left) (later there))
          (subst (λ layers. IsPermutation layers (its ++ (own ++ left))) (append_assoc own its left)
          (subst (λ layers. IsPermutation ((own ++ its) ++ left) layers) (append_assoc its own left)
          (IsPermutation-append_left left (own ++ its) (its ++ own) (IsPermutation-append_comm own its))))

  pub layers_without : (es : List (FilesystemId × KeptOverlay)) → entry_kept (kept_overlays es) f ≡ Some entry
      → IsPermutation (all_layers (kept_overlays es))
      (layers_held entry ++ all_layers (without_overlay f (kept_overlays es)))
  layers_without es found = entries_without (in_order es) (rises-in_order count_of es) found

-- layers are counted in any order
pub counted_in_any_order : (old new : List LayerRef) (counts : LayerCounts) → IsPermutation old new
    → AreCounted old counts → AreCounted new counts
counted_in_any_order old new counts same is = record {
  filesystems = λ q. is.filesystems q ∙ sym (counts_same (stands_in q.count));
  directories = λ q. is.directories q ∙ sym (counts_same (stands_at q));
  small = All-permutation (λ (layer : LayerRef). layer.directory.slot < 2 ^ 64) old new same is.small;
  total = is.total ∙ sym (length_permutation old new same);
}
  where
    counts_same : (test : LayerRef → Bool) → count_by test new ≡ count_by test old
    counts_same test = sum_by-IsPermutation (λ layer. cond (test layer) 1 0) old new same

-- What is kept is so still where an overlay is put in,
pub kept_added : (es new : List (FilesystemId × KeptOverlay)) (k : FilesystemId) (x : KeptOverlay)
    (lowers : List LayerRef) (before after : LayerCounts) (oldest : ℕ) → AreKept es before oldest
    → x.overlay.overlay.number ≡ k → layers_held (kept_overlay (k, x)) ≡ lowers
    → KeepsItsOwn x.overlay.overlay x.overlay.above
    → list_all (λ (entry : OverlayEntry). nat_lt entry.count k.count) (kept_overlays es) ≡ true
    → ((q : FilesystemId) → lookup (key_eq q) new ≡ cond (key_eq k q) (Some x) (lookup (key_eq q) es))
    → ((all : List LayerRef) → AreCounted all before → AreCounted (all ++ lowers) after)
    → AreKept new after (min oldest k.count)
kept_added es new k x lowers before after oldest is number layers nodes above comes counts = record {
  own = own_added es new k x is.own number comes;
  older = λ q less.
      let below : q.count < min oldest k.count = ltb-true q.count (min oldest k.count) less in
      comes q ∙ (λ i. cond (ne_eqb k.count q.count (λ same. omega (arith, same, below)) i) (Some x)
      (is.older q (lt-ltb q.count oldest (omega (arith, below))) i));
  layers = subst (λ all. AreCounted all after) (ap (λ more. all_layers (kept_overlays es) ++ more) (sym layers)
      ∙ sym (layers_with (kept_overlays es) (kept_overlay (k, x)))
      ∙ sym (ap all_layers (added es new (kept_overlays es) k x refl above comes)))
      (counts (all_layers (kept_overlays es)) is.layers);
  nodes = subst KeepTheirOwn (sym (added es new (kept_overlays es) k x refl above comes))
      (all_from_among KeepsIts (kept_overlays es ++ kept_overlay (k, x) ∷ []) (λ entry m. ⊎_elim
      (λ there. among_from_all KeepsIts (kept_overlays es) is.nodes entry there)
      (λ last. ⊎_elim (λ same. subst KeepsIts (sym same) nodes) (λ none. absurd none) last)
      (among-append (kept_overlays es) (kept_overlay (k, x) ∷ []) entry m)));
}

-- where one is taken out,
pub kept_removed : (f : ℕ) (es new : List (FilesystemId × KeptOverlay)) (x : KeptOverlay)
    (before after : LayerCounts) (oldest : ℕ) → AreKept es before oldest → Some x ≡ lookup (is_key f) es
    → ((q : FilesystemId) → lookup (key_eq q) new ≡ cond (nat_eq f q.count) None (lookup (key_eq q) es))
    → ((left : List LayerRef) → AreCounted (layers_held (of_count f x) ++ left) before → AreCounted left after)
    → AreKept new after oldest
kept_removed f es new x before after oldest is there goes counts = record {
  own = own_removed f es new is.own goes;
  older = λ q less. goes q ∙ nothing (nat_eq f q.count) (lookup (key_eq q) es) (is.older q less);
  layers = subst (λ all. AreCounted (all_layers all) after) (sym (removed f es new goes))
      (counts (all_layers (without_overlay f (kept_overlays es))) (counted_in_any_order (all_layers (kept_overlays es))
      (layers_held (of_count f x) ++ all_layers (without_overlay f (kept_overlays es))) before
      (layers_without f (of_count f x) es (entry_kept-kept f es ∙ ap (option_map (of_count f)) (sym there)))
      is.layers));
  nodes = subst KeepTheirOwn (sym (removed f es new goes))
      (All-filter (λ (entry : OverlayEntry). not (nat_eq f entry.count)) KeepsIts (kept_overlays es) is.nodes);
}
  where
    nothing : (b : Bool) (o : Option KeptOverlay) → o ≡ None → cond b None o ≡ None
    nothing true o e = refl
    nothing false o e = e

-- and where the mounts of one change
pub kept_written : {S : Type 0} (f : ℕ) (change : ℕ → ℕ) (m n : IndexMap FilesystemId KeptOverlay S)
    (x w : KeptOverlay) (counts : LayerCounts) (oldest : ℕ) → AreKept m.entries counts oldest
    → get_by (is_key f) m ≡ Some x
    → w ≡ record x { mounts = change x.mounts } → WritesThrough key_eq (is_key f) m w n
    → AreKept n.entries counts oldest
kept_written f change m n x w counts oldest is there so through = record {
  own = own_written f m n x w is.own there (ap (λ (one : KeptOverlay). one.overlay.overlay.number) so) through;
  older = λ q less. by q less (nat_eq f q.count) (eqb-true f q.count) (((through.3 (ap is_some there)).0 q));
  layers = subst (λ layers. AreCounted layers counts)
      (sym (ap all_layers (writes f (λ one. record one { mounts = change one.mounts })
      (λ entry. record entry { mounts = change entry.mounts }) m n (kept_overlays m.entries) x w refl there so
      (λ k one. refl) through)
      ∙ layers_changed f (λ entry. record entry { mounts = change entry.mounts }) (λ entry. refl)
      (kept_overlays m.entries))) is.layers;
  nodes = subst KeepTheirOwn (sym (writes f (λ one. record one { mounts = change one.mounts })
      (λ entry. record entry { mounts = change entry.mounts }) m n (kept_overlays m.entries) x w refl there so
      (λ k one. refl) through))
      (all_from_among KeepsIts (with_overlay_changed f (λ entry. record entry { mounts = change entry.mounts })
      (kept_overlays m.entries)) (λ entry a.
      let was = among-from_map (λ (one : OverlayEntry).
      cond (nat_eq f one.count) (record one { mounts = change one.mounts }) one) (kept_overlays m.entries) entry a in
      subst KeepsIts (sym was.2) (changed was.0 (nat_eq f was.0.count)
      (among_from_all KeepsIts (kept_overlays m.entries) is.nodes was.0 was.1))));
}
  where
    changed : (entry : OverlayEntry) (b : Bool) → KeepsIts entry
        → KeepsIts (cond b (record entry { mounts = change entry.mounts }) entry)
    changed entry true own = own
    changed entry false own = own

    by : (q : FilesystemId) → nat_lt q.count oldest ≡ true → (b : Bool) → (b ≡ true → f ≡ q.count)
        → lookup (is_key q.count) n.entries ≡ cond b (Some w) (lookup (is_key q.count) m.entries)
        → lookup (is_key q.count) n.entries ≡ None
    by q less b here written = grind (arith, common_steps)
