-- A step is the same in two worlds that show the same where it meets filesystems.
use Rattle.std.proofs.Common.{arith, append-nil, ◌≡◌, refl, sym, ap, subst, inl, inr, ℕ, nat_eq, Bool, true, false, cond, List, [], ◌∷◌, ◌++◌, Option, Ok, Err, Result, flat_map, ◌&&◌, ◌||◌, IfOk, ok_or, option_map, option_to_list}
use Rattle.vt_spec.proofs.Common.{Among, Dot, DotDot, LastWord, Location, Looks, Mount, Named, NoWord, Task, among-append_left, among-append_right, among-map, among_from_contains, and_from, common_steps, contains_from_among, denial, entered_upward, entries_in, entry_named, filesystems_of, hops, last_or, map-append, met_by, parent_in, same_location, stepped, unless, up_from}
use Rattle.vt_laws_sealed.proofs.Common.{Deny, W6, W8, is_lost, is_top, mount_at, parent_location, topmost}
use Rattle.vt_laws_sealed.proofs.part.walks.WalksAgree.{Agree, Each, each_from, last_each}
use Rattle.vt_laws_sealed.specs.Part.Walks.{ShowAlikeWhereSeen, StepsAgree}

-- What they have to show alike through some mounts, where filesystems are seen
pub record AlikeWhereSeen (one other : Looks ℕ) (task : Task ℕ) (Own : ℕ → Type 0) (Seen : ℕ → Type 0) : Type 0 where
  pub alike_mount : (here : Location ℕ) → Own here.mount → mount_at one here ≡ mount_at other here
  pub over : (here : Location ℕ) → Own here.mount → one.mounts_over here ≡ other.mounts_over here
  pub entered : (here : Location ℕ) → Own here.mount → Each (λ (l : Location ℕ). Own l.mount) (one.mounts_over here)
  pub hops_alike : (here : Location ℕ) → Own here.mount → hops nat_eq one task here ≡ hops nat_eq other task here
  pub hopped : (here : Location ℕ) → Own here.mount → Each (λ (l : Location ℕ). Own l.mount) (hops nat_eq one task here)
  -- a chain begins with its start
  pub hops_start : (here : Location ℕ) → Among here (hops nat_eq one task here)
  pub over_start : (here : Location ℕ) → Among here (one.mounts_over here)
  pub node : (here : Location ℕ) → Own here.mount → Seen (mount_at one here).filesystem
      → one.node here ≡ other.node here
  pub lost : (here : Location ℕ) → Own here.mount → Seen (mount_at one here).filesystem
      → is_lost nat_eq one here ≡ is_lost nat_eq other here

module _ {one other : Looks ℕ} {task : Task ℕ} {Own : ℕ → Type 0} {Seen : ℕ → Type 0}
    (alike : AlikeWhereSeen one other task Own Seen) where
  abbrev Fs : Location ℕ → ℕ
  Fs here = (mount_at one here).filesystem

  abbrev OnOwn : Location ℕ → Type 0
  OnOwn here = Own here.mount

  abbrev Good : Location ℕ → Type 0
  Good here = Own here.mount × Seen (Fs here)

  -- filesystems of these are seen
  seen_of : (list : List (Location ℕ)) → Each Seen (filesystems_of nat_eq one list) → (l : Location ℕ) → Among l list
      → Seen (Fs l)
  seen_of list h l m = h (Fs l) (among-map Fs list l m)

  last_among : (list : List (Location ℕ)) (a : Location ℕ) → Among a list → Among (last_or a list) list
  last_among [] a m = absurd m
  last_among (b ∷ list) a m = by list b
    where
      by : (rest : List (Location ℕ)) (b : Location ℕ) → Among (last_or b rest) (b ∷ rest)
      by [] b = inl refl
      by (c ∷ rest) b = inr (by rest c)

  good_over : (here : Location ℕ) → Own here.mount → Each Seen (filesystems_of nat_eq one (one.mounts_over here))
      → Good (topmost one here)
  good_over here own seen = search (arith, common_steps, last_each, seen_of, last_among)

  same_topmost : (here : Location ℕ) → Own here.mount → topmost one here ≡ topmost other here
  same_topmost here own = ap (last_or here) (alike.over here own)

  same_top : (here : Location ℕ) → Own here.mount → is_top nat_eq one task here ≡ is_top nat_eq other task here
  same_top here own =
      ap (λ (m : Mount ℕ). same_location nat_eq here task.root || nat_eq here.node m.root) (alike.alike_mount here own)

  same_parent : (here : Location ℕ) → Good here → parent_location nat_eq one here ≡ parent_location nat_eq other here
  same_parent here good =
      ap (λ n. record { mount = here.mount; node = parent_in here.node n }) (alike.node here good.0 good.1)

  up_by : (t l : Bool) (here there : Location ℕ) → Good here → (t ≡ false → Good there)
      → IfOk (cond t (Ok here) (unless ((l, W8) ∷ []) (Ok there))) Good
  up_by true l here there good after = good
  up_by false true here there good after = tt
  up_by false false here there good after = after refl

  up_agrees : (here : Location ℕ) → Good here
      → Each Seen (filesystems_of nat_eq one (entered_upward nat_eq one task here))
      → Agree Good (up_from nat_eq one task here) (up_from nat_eq other task here)
  up_agrees here good seen = search (arith, common_steps, same_top, same_topmost, same_parent, up_by, good_over)

  named_by : (here : Location ℕ) → Own here.mount → (o : Option ℕ) → Each Seen (filesystems_of nat_eq one
      (flat_map one.mounts_over
      (option_to_list (option_map (λ object. record { mount = here.mount; node = object }) o)))) → Agree Good
      (ok_or (option_map (topmost one) (option_map (λ object. record { mount = here.mount; node = object }) o))
      (denial W6))
      (ok_or (option_map (topmost other) (option_map (λ object. record { mount = here.mount; node = object }) o))
      (denial W6))
  named_by here own o seen = grind (arith, common_steps, same_topmost, good_over, append-nil)

  head_seen : (here : Location ℕ) (list : List (Location ℕ)) → Each Seen (filesystems_of nat_eq one (here ∷ list))
      → Seen (Fs here)
  head_seen here list h = h (Fs here) (inl refl)

  -- a step meets where it begins and where it leads
  stepped_agrees : (here : Location ℕ) → Own here.mount → (word : LastWord)
      → Each Seen (met_by nat_eq one task here word)
      → Agree Good (stepped nat_eq one task here word) (stepped nat_eq other task here word)
  stepped_agrees here own NoWord seen = (refl, (own, head_seen here [] seen))
  stepped_agrees here own Dot seen = (refl, (own, head_seen here [] seen))
  stepped_agrees here own DotDot seen =
      let way : List (Location ℕ) = hops nat_eq one task here in
      let top : Location ℕ = last_or here way in
      let split : filesystems_of nat_eq one (way ++ entered_upward nat_eq one task top)
      ≡ filesystems_of nat_eq one way ++ filesystems_of nat_eq one (entered_upward nat_eq one task top) =
      map-append Fs way (entered_upward nat_eq one task top) in
      let good : Good top = (
        last_each OnOwn way here own (alike.hopped here own),
        seen (Fs top) (subst (Among (Fs top)) (sym split) (among-append_left (filesystems_of nat_eq one way) _ (Fs top)
            (among-map Fs way top (last_among way here (alike.hops_start here))))),
      ) in
      let up = up_agrees top good (λ f m. seen f (subst (Among f) (sym split)
      (among-append_right (filesystems_of nat_eq one way)
      (filesystems_of nat_eq one (entered_upward nat_eq one task top)) f m))) in
      (cc (up.0, alike.hops_alike here own), up.1)
  stepped_agrees here own (Named name) seen =
      let by = named_by here own (entry_named name (entries_in (one.node here))) (λ f m. seen f (inr m)) in (
        cc (by.0, alike.node here own (head_seen here _ seen)),
        by.1,
      )

module _ {one other : Looks ℕ} {task : Task ℕ} {own seen : ℕ → Bool}
    (alike : ShowAlikeWhereSeen one other task own seen) where
  all_alike : AlikeWhereSeen one other task (λ number. own number ≡ true) (λ filesystem. seen filesystem ≡ true)
  all_alike = record {
    alike_mount = alike.mount;
    over = alike.over;
    entered = λ here is. each_from own (one.mounts_over here) (alike.entered here is);
    hops_alike = alike.hops_alike;
    hopped = λ here is. each_from own (hops nat_eq one task here) (alike.hopped here is);
    hops_start = λ here. among_from_contains (hops nat_eq one task here) here (alike.hops_start here);
    over_start = λ here. among_from_contains (one.mounts_over here) here (alike.over_start here);
    node = alike.node;
    lost = alike.lost;
  }

  both_pass : (found : Result (Location ℕ) Deny)
      → IfOk found (Good all_alike)
      → IfOk found (λ there. (own there.mount && seen (mount_at one there).filesystem) ≡ true)
  both_pass (Ok there) good = and_from (own there.mount) (seen (mount_at one there).filesystem) good.0 good.1
  both_pass (Err deny) good = tt

pub steps_lead_alike : StepsAgree
steps_lead_alike one other task own seen alike here word is met =
    let step = stepped_agrees
    (all_alike alike) here is word
    (λ filesystem m. met filesystem (contains_from_among (met_by nat_eq one task here word) filesystem m)) in
    (step.0, both_pass alike (stepped nat_eq one task here word) step.1)
