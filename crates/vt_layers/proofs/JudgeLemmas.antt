-- Layers that options name, and mounts of overlays judged by them.
use Rattle.std.proofs.Common.{◌≡◌, ◌≤◌, ℕ, Bool, true, false, [], ◌∷◌, Result, Ok, Err, Option, None, Some, length, take, nat_eq, refl, sym, ap, ◌∙◌, arith, length-take-le, List, ◌++◌, is_some, nat_lt, not, ◌&&◌, take_all}
use Rattle.vt_spec.proofs.Common.{Call, Here, Judgement, LayerLocations, Location, Looks, MountFlags, MountOverlay, OverlayWords, Permit, Rules, Task, ToMountOverlay, and_then, cap_sys_admin, denial, destination_walk, has_single_lower, is_empty_list, judge, judging, lacks, layer_rules, layers_walked, most_lowers, nat_tests, new_mount_rules, overlay_at, rest_of, run, unless, unless-let_through, unless-refused, walk_end}
use Rattle.vt_spec.specs.declared.errors.Deny.{Deny}
use Rattle.vt_spec.specs.declared.errors.Rule.TheVariants.{K1, O2, S5}
use Rattle.vt_spec.proofs.Given.{joined_tables}
use Rattle.vt_spec.specs.Machine.Judging.{mounts_overlay_at}
use Rattle.vt_permits.specs.Memory.{JudgesByReceivers}
use Rattle.vt_rules.proofs.Rows.{skipped, stopped}
use Rattle.vt_walk.specs.WalkValue.{location_end}
use Rattle.vt_layers.specs.LayersValue.{first_layers, with_first_lowers}
use Rattle.vt_layers.specs.MountValue.{layers_named}
use Rattle.vt_layers.specs.declared.walks.TheConstants.{KEPT_LOWERS}

-- O2 by the fourth row
fourth_row : {A : Type 0} (e1 e2 e3 e4 : Bool) (rows : Rules) (answer : Result A Deny) → e4 ≡ true
    → unless ((e1, O2) ∷ (e2, O2) ∷ (e3, O2) ∷ (e4, O2) ∷ rows) answer ≡ Err (denial O2)
fourth_row true e2 e3 e4 rows answer e = refl
fourth_row false true e3 e4 rows answer e = refl
fourth_row false false true e4 rows answer e = refl
fourth_row false false false true rows answer e = refl
fourth_row false false false false rows answer e = absurd cc

too_long : (n : ℕ) → nat_lt most_lowers n ≡ true → KEPT_LOWERS ≤ n
too_long n e = grind (arith, nat_tests)

short_enough : (n : ℕ) → nat_lt most_lowers n ≡ false → n ≤ KEPT_LOWERS
short_enough n e = grind (arith, nat_tests)

module _ (looks : Looks ℕ) (task : Task ℕ) where
  abbrev Layers : Type 0
  Layers = LayerLocations ℕ

  -- the rules of layers
  abbrev pub ruled : {A : Type 0} → Layers → Result A Deny → Result A Deny
  ruled layers answer = unless (layer_rules nat_eq looks layers (overlay_at looks task layers)) answer

  too_many : {A : Type 0} (layers : Layers) (answer : Result A Deny)
      → nat_lt most_lowers (length layers.lowers) ≡ true → ruled layers answer ≡ Err (denial O2)
  too_many layers answer e =
      fourth_row (is_empty_list layers.lowers) (has_single_lower layers.lowers && not (is_some layers.upper))
      (is_some layers.upper && not (is_some layers.work)) (nat_lt most_lowers (length layers.lowers))
      (rest_of (rest_of (rest_of (rest_of (layer_rules nat_eq looks layers (overlay_at looks task layers)))))) answer e

  -- the first lower layers are ruled as all are
  ruled-first : (layers : Layers) {A : Type 0} (answer : Result A Deny)
      → ruled (with_first_lowers layers) answer ≡ ruled layers answer
  ruled-first layers answer = by_length (nat_lt most_lowers (length layers.lowers)) refl where
    by_length : (long : Bool) → nat_lt most_lowers (length layers.lowers) ≡ long
        → ruled (with_first_lowers layers) answer ≡ ruled layers answer
    by_length true e =
        let size : length (take KEPT_LOWERS layers.lowers) ≡ KEPT_LOWERS = length-take-le KEPT_LOWERS layers.lowers
        (too_long (length layers.lowers) e) in
        let long : nat_lt most_lowers (length (take KEPT_LOWERS layers.lowers)) ≡ true = rw size refl in
        too_many (with_first_lowers layers) answer long ∙ sym (too_many layers answer e)
    by_length false e = ap (λ lowers. ruled (record layers { lowers = lowers }) answer)
        (take_all KEPT_LOWERS layers.lowers (short_enough (length layers.lowers) e))

  -- and those that pass are all
  first-all : (layers : Layers) → Ok tt ≡ ruled {A = Unit {0}} layers (Ok tt) → with_first_lowers layers ≡ layers
  first-all layers e = by_length (nat_lt most_lowers (length layers.lowers)) refl where
    by_length : (long : Bool) → nat_lt most_lowers (length layers.lowers) ≡ long → with_first_lowers layers ≡ layers
    by_length true h =
        let refused : ruled {A = Unit {0}} layers (Ok tt) ≡ Err (denial O2) = too_many layers (Ok tt) h in absurd cc
    by_length false h = ap (λ lowers. record layers { lowers = lowers })
        (take_all KEPT_LOWERS layers.lowers (short_enough (length layers.lowers) h))

  -- what is answered of options
  pub named-refused : (words : OverlayWords) (deny : Deny)
      → Err deny ≡ first_layers (layers_walked nat_eq looks task words)
      → Err deny ≡ layers_named looks task (Some words)
  named-refused words deny e = by_walk (layers_walked nat_eq looks task words) e where
    by_walk : (walked : Result Layers Deny) → Err deny ≡ first_layers walked
        → Err deny ≡ and_then walked (λ layers. ruled layers (Ok layers))
    by_walk (Ok layers) e = absurd cc
    by_walk (Err other) e = cc

  pub named-ruled_out : (words : OverlayWords) (first : Layers) (deny : Deny)
      → Ok first ≡ first_layers (layers_walked nat_eq looks task words) → Err deny ≡ ruled {A = Unit {0}} first (Ok tt)
      → Err deny ≡ layers_named looks task (Some words)
  named-ruled_out words first deny e refused = by_walk (layers_walked nat_eq looks task words) e where
    by_walk : (walked : Result Layers Deny) → Ok first ≡ first_layers walked
        → Err deny ≡ and_then walked (λ layers. ruled layers (Ok layers))
    by_walk (Ok layers) e =
        let same : first ≡ with_first_lowers layers = cc in
        sym (unless-refused (layer_rules nat_eq looks layers (overlay_at looks task layers)) tt (Ok layers) deny
        (sym (ruled-first layers (Ok tt)) ∙ ap (λ all. ruled all (Ok tt)) (sym same) ∙ sym refused))
    by_walk (Err other) e = absurd cc

  pub named-passed : (words : OverlayWords) (first : Layers)
      → Ok first ≡ first_layers (layers_walked nat_eq looks task words) → Ok tt ≡ ruled {A = Unit {0}} first (Ok tt)
      → Ok first ≡ layers_named looks task (Some words)
  named-passed words first e passes = by_walk (layers_walked nat_eq looks task words) e where
    by_walk : (walked : Result Layers Deny) → Ok first ≡ first_layers walked
        → Ok first ≡ and_then walked (λ layers. ruled layers (Ok layers))
    by_walk (Ok layers) e =
        let same : first ≡ with_first_lowers layers = cc in
        let all : Ok tt ≡ ruled {A = Unit {0}} layers (Ok tt) =
        passes ∙ ap (λ first. ruled first (Ok tt)) same ∙ ruled-first layers (Ok tt) in
        let rows = layer_rules nat_eq looks layers (overlay_at looks task layers) in
        ap Ok (same ∙ first-all layers all) ∙ sym (unless-let_through rows (Ok layers) all)
    by_walk (Err other) e = absurd cc

  -- what a mount of an overlay is asked, once it is known where
  module _ (overfills : Permit ℕ → Bool) (path : List ℕ) (options : Option OverlayWords) (flags : MountFlags) where
    abbrev judged : Judgement ℕ
    judged = judge nat_eq looks overfills task (MountOverlay path options flags)

    abbrev asked : Location ℕ → Layers → Judgement ℕ
    asked place layers =
        let permit = ToMountOverlay place (overlay_at looks task layers) flags in
        unless (new_mount_rules nat_eq looks task place (overfills permit)) (Ok permit)

    -- what is asked at the destination
    abbrev mounted_at : Location ℕ → Option OverlayWords → Judgement ℕ
    mounted_at place options = run nat_eq looks task overfills (mounts_overlay_at nat_eq looks task place options flags)

    by_layers : (place : Location ℕ) (options : Option OverlayWords) → mounted_at place options ≡ and_then (layers_named looks task options) (asked place)
    by_layers place None = refl
    by_layers place (Some words) = by_walk (layers_walked nat_eq looks task words) where
      by_rules : {A B : Type 0} (rows : Rules) (a : A) (next : A → Result B Deny)
          → unless rows (next a) ≡ and_then (unless rows (Ok a)) next
      by_rules [] a next = refl
      by_rules ((true, rule) ∷ rows) a next = refl
      by_rules ((false, rule) ∷ rows) a next = by_rules rows a next

      by_walk : (walked : Result Layers Deny) → and_then walked (λ layers.
          let permit = ToMountOverlay place (overlay_at looks task layers) flags in
          unless (layer_rules nat_eq looks layers (overlay_at looks task layers)
          ++ new_mount_rules nat_eq looks task place (overfills permit)) (Ok permit))
          ≡ and_then (and_then walked (λ layers. ruled layers (Ok layers))) (asked place)
      by_walk (Ok layers) =
          let rules = layer_rules nat_eq looks layers (overlay_at looks task layers) in
          let permit = ToMountOverlay place (overlay_at looks task layers) flags in
          sym (joined_tables rules (new_mount_rules nat_eq looks task place (overfills permit)) (Ok permit))
          ∙ by_rules rules layers (asked place)
      by_walk (Err deny) = refl

    pub without_capability : lacks task cap_sys_admin ≡ true → judged ≡ Err (denial K1)
    unfolding judging
    without_capability e = stopped _ K1 [] _ e

    abbrev destined : Result (Here ℕ) Deny
    destined = walk_end (destination_walk nat_eq looks task path)

    pub nowhere : (deny : Deny) → lacks task cap_sys_admin ≡ false → Err deny ≡ location_end destined
        → judged ≡ Err deny
    unfolding judging
    nowhere deny e refused = skipped _ K1 [] _ e ∙ by_end destined refused where
      by_end : (end : Result (Here ℕ) Deny) → Err deny ≡ location_end end
          → and_then end (λ here. mounted_at here.location options) ≡ Err deny
      by_end (Ok here) refused = absurd cc
      by_end (Err other) refused = cc

    placed : (place : Location ℕ) → lacks task cap_sys_admin ≡ false → Ok place ≡ location_end destined
        → judged ≡ and_then (layers_named looks task options) (asked place)
    unfolding judging
    placed place e there = skipped _ K1 [] _ e ∙ by_end destined there ∙ by_layers place options where
      by_end : (end : Result (Here ℕ) Deny) → Ok place ≡ location_end end
          → and_then end (λ here. mounted_at here.location options)
          ≡ mounted_at place options
      by_end (Ok here) there =
          let same : here.location ≡ place = cc in
          ap (λ at. mounted_at at options) same
      by_end (Err other) there = absurd cc

    pub without_layers : (place : Location ℕ) (deny : Deny) → lacks task cap_sys_admin ≡ false
        → Ok place ≡ location_end destined → Err deny ≡ layers_named looks task options → judged ≡ Err deny
    without_layers place deny e there refused =
        placed place e there ∙ ap (λ named. and_then named (asked place)) (sym refused)

    pub left : (place : Location ℕ) (layers : Layers) → lacks task cap_sys_admin ≡ false
        → Ok place ≡ location_end destined → Ok layers ≡ layers_named looks task options → judged ≡ asked place layers
    left place layers e there named = placed place e there ∙ ap (λ named. and_then named (asked place)) (sym named)

-- want of memory for the list of layers
pub no_list : (call : Call) (task : Task ℕ) (judged : Judgement ℕ) (permit : Permit ℕ) (deny : Deny)
    → judged ≡ Ok permit → deny ≡ denial S5 → JudgesByReceivers call task judged (Err deny)
no_list call task (Ok other) permit deny e memory = memory
no_list call task (Err refusal) permit deny e memory = absurd cc
