-- A world that is ready to be swept for a set is ready still, where mounts of theirs change and more come.
use Rattle.std.proofs.Common.{arith, ◌≡◌, refl, sym, ap, ◌∙◌, ◌⊎◌, inl, inr, ⊎_elim, ℕ, nat_eq, Bool, true, false, true≢false, List, [], ◌++◌, Option, Some, None, filter, is_some, map, ◌&&◌}
use Rattle.vt_spec.proofs.Common.{Among, Filesystem, Layer, Location, Mount, Stands, TaskName, World, all_locations, among-append, among-append_left, among-from_map, among-map, among_from_all, common_steps, filter_all, found_or_none, is_among, is_at, is_nowhere_or_attached, is_under, list_all, list_any, locations, members, mount_at, mount_lives, number-mount_in, or_left, own_lowers, part_of, roots_and_directories, settled, used_filesystems}
use Rattle.vt_laws_members.proofs.Common.{AllStand, OneNumberEach, among_from_list_all, found_itself, is_own, namespace_below}
use Rattle.vt_laws_mounts.proofs.letting_go.leaving.PlacesLeft.{placed_is_attached}
use Rattle.vt_laws_members.proofs.changes.Common.{Alone, IsCut, NoOthers, Ready, part_of_settled, swept_of}
use Rattle.vt_laws_members.proofs.attached.CopiesAlike.{no_new_ones}
use Rattle.vt_laws_members.proofs.attached.GrownPart.{Grows, as_before, grown_world, lowers_stay, shows_still, used_same}

module _ {v : World ℕ} {names : List TaskName} {change : Mount ℕ → Mount ℕ} {added : List (Mount ℕ)}
    {master : ℕ → Option ℕ} {used : List ℕ} {lowers : List (Layer ℕ)} (ready : Ready v names used lowers)
    (grows : Grows v names change added [] master) where
  -- the world with these mounts and masters
  abbrev pub grown : World ℕ
  grown = record v { mounts = map change v.mounts ++ added; master = master }

  abbrev owns : Mount ℕ → Bool
  owns = is_own v names (members v names)

  abbrev larger : World ℕ
  larger = grown_world v names change added [] master

  pub without_new : larger ≡ grown
  without_new = sym (no_new_ones grown)

  used_now : (n : ℕ) → is_among nat_eq n (used_filesystems nat_eq grown names) ≡ is_among nat_eq n used
  used_now n = cc (without_new, used_same grows n refl, ready.used_are)

  lowers_now : (test : Layer ℕ → Bool) → list_any test (own_lowers nat_eq grown names) ≡ list_any test lowers
  lowers_now test = cc (without_new, lowers_stay grows (λ f m. m) test, ready.lowers_are)

  -- a mount afterwards is theirs, or as it was
  grown_how : (y : Mount ℕ) → Among y grown.mounts → (owns y ≡ true) ⊎ (Among y v.mounts × (owns y ≡ false))
  grown_how y m = ⊎_elim (λ old. let from = among-from_map change v.mounts y old in by from.0 from.1 from.2 _ refl)
      (λ more. inl (grows.ours y more)) (among-append (map change v.mounts) added y m)
    where
      by : (x : Mount ℕ) → Among x v.mounts → y ≡ change x → (b : Bool) → owns x ≡ b
          → (owns y ≡ true) ⊎ (Among y v.mounts × (owns y ≡ false))
      by x n e b own = grind (arith, common_steps)

  own_placed : (y : Mount ℕ) → owns y ≡ true → is_some y.namespace ≡ true
  own_placed y = grind (arith, common_steps)

  lives_now : (y : Mount ℕ) → Among y grown.mounts → mount_lives nat_eq grown y ≡ true
  lives_now y m = ⊎_elim (λ own. or_left _ _ (own_placed y own)) (λ still. ready.lives y still.0) (grown_how y m)

  located_now : (l : Location ℕ) → Among l (locations (members v names))
      → (y : Mount ℕ) × Among y grown.mounts × (l.mount ≡ y.number)
  located_now l m =
      let x = ready.located l m in (
        change x.0,
        among-append_left (map change v.mounts) added (change x.0) (among-map change v.mounts x.0 x.1),
        x.2 ∙ sym (as_before grows x.0 x.1).0,
      )

  stood_now : (y : Mount ℕ) → Among y grown.mounts
      → is_at nat_eq (roots_and_directories (members v names)) y ≡ true → (owns y ≡ true) ⊎ (y.mount_point ≡ None)
  stood_now y m at = ⊎_elim inl (λ still. ready.stood y still.0 at) (grown_how y m)

  -- Others
  module _ (placed : (l : Location ℕ) → Among l (all_locations v)
      → is_among nat_eq l.mount (map (λ (m : Mount ℕ). m.number) v.mounts) ≡ true) where
    none_now : (n : ℕ) → NoOthers v names n → NoOthers grown names n
    none_now n none = record {
      mounts = λ y m e. ⊎_elim inl (λ still. none.mounts y still.0 e) (grown_how y m);
      locations = λ l m e. none.locations l m
          (sym (shows_still grows l.mount (placed l m)) ∙ e);
    }

    alone_now : (n : ℕ) → Alone v names n → Alone grown names n
    alone_now n alone = record {
      itself = none_now n alone.itself;
      overlays = λ merged m has. none_now merged.number (alone.overlays merged m has);
    }

    cut_now : (x : Filesystem ℕ) → IsCut x.number lowers x.files
        → IsCut x.number (own_lowers nat_eq grown names) x.files
    cut_now x cut = record {
      whole = cut.whole;
      chosen = cut.chosen;
      has = record {
        tree = cut.has.tree;
        listed = cut.has.listed;
        all = λ object there under. cut.has.all object there
            (sym (lowers_now (λ (layer : Layer ℕ). nat_eq x.number layer.filesystem
            && is_under nat_eq cut.whole layer.directory object)) ∙ under);
      };
      same = cut.same;
    }

    -- and it stands
    module _ (one : OneNumberEach grown) (stands : AllStand grown)
        (nowhere : list_all is_nowhere_or_attached grown.mounts ≡ true) where
      parents_now : (y : Mount ℕ) (l : Location ℕ) → Among y grown.mounts → y.mount_point ≡ Some l
          → (n : ℕ) × (y.namespace ≡ Some n) × (k : Mount ℕ) × Among k grown.mounts × (l.mount ≡ k.number)
          × (k.namespace ≡ Some n)
      parents_now y l m point = by y.namespace refl
        where
          below : y.namespace ≡ (mount_at nat_eq grown l).namespace
          below = ap (λ (z : Mount ℕ). z.namespace) (sym (found_itself grown.mounts one y m))
              ∙ namespace_below grown y.number l (among_from_all (λ (z : Mount ℕ). Stands nat_eq grown z.number)
              grown.mounts stands y m) (ap (λ (z : Mount ℕ). z.mount_point) (found_itself grown.mounts one y m) ∙ point)

          attached : is_some y.namespace ≡ true
          attached = placed_is_attached y (among_from_list_all is_nowhere_or_attached grown.mounts nowhere y m) l point

          by : (o : Option ℕ) → y.namespace ≡ o
              → (n : ℕ) × (y.namespace ≡ Some n) × (k : Mount ℕ) × Among k grown.mounts × (l.mount ≡ k.number)
              × (k.namespace ≡ Some n)
          by o e = grind (arith, common_steps, true≢false, attached, below, found_or_none, number-mount_in)

      grown_ready : Ready grown names (used_filesystems nat_eq grown names) (own_lowers nat_eq grown names)
      grown_ready = record {
        used_are = refl;
        lowers_are = refl;
        one = one;
        lives = lives_now;
        located = located_now;
        parents = parents_now;
        stood = stood_now;
        one_filesystem = ready.one_filesystem;
        plain = ready.plain;
        free = λ x m is. ⊎_elim (λ alone. inl (alone_now x.number alone)) inr
            (ready.free x m (sym (used_now x.number) ∙ is));
        cut = λ x m unused low. cut_now x (ready.cut x m (cc (used_now x.number))
            (sym (lowers_now (λ (layer : Layer ℕ). nat_eq x.number layer.filesystem)) ∙ low));
      }

      -- nothing is taken away of mounts
      pub all_live : filter (mount_lives nat_eq grown) grown.mounts ≡ grown.mounts
      all_live = filter_all (mount_lives nat_eq grown) grown.mounts lives_now

      pub grown_settled : part_of nat_eq (settled nat_eq grown) names ≡ swept_of names (part_of nat_eq grown names)
      grown_settled = part_of_settled grown names (used_filesystems nat_eq grown names) (own_lowers nat_eq grown names)
          (rw all_live grown_ready)
