-- What a change of an overlay hides does not show again while the overlay lives.
use Rattle.std.proofs.Common.{arith, ◌≡◌, ◌≢◌, refl, sym, ap, subst, ◌∙◌, true≢false, inl, inr, ℕ, zero, suc, ◌+◌, ◌&&◌, nat_eq, eqb-true, eq-eqb, Bool, true, false, not, List, [], ◌∷◌, ◌++◌, map, Option, Some, None, Ok, is_some, length, nat_lt, option_to_list}
use Rattle.vt_spec.proofs.Common.{Among, Call, Change, Filesystem, Fresh, Grammar, IsWorld, Layer, Location, Merge, OpenLayer, Overlay, Permit, Request, Serves, Shown, Stack, Task, TaskName, Tree, World, call_outcome, common_steps, contains_from_among, filesystem_at, filesystem_changed, filesystem_numbered, finished_unless, is_silent, judge_in, layers_of, line_step, line_step_by, longest_line, merge_changed, merge_of, mount_at, open_layer, opening, overlay_changed, policy, request_of, requested, same_Some, settled, shown, shown_layers, stack_of, step_world, task_called, view_of, with_change}
use Rattle.vt_laws_rules.proofs.denials.Unchanged.{directive_changes_nothing, refused_memory_changes_nothing}
use Rattle.vt_laws_trees.specs.Trees.Calls.{mounts_overlay}
use Rattle.vt_laws_trees.specs.Trees.Limits.{names_few_groups}
use Rattle.vt_laws_trees.specs.Layers.Layers.Locked.{AreNoInodes, LeadsAsBefore}
use Rattle.vt_laws_trees.specs.Layers.Layers.Views.{AllLeadAlike}
use Rattle.vt_laws_trees.proofs.layers.layers.LowersCalls.{same_filesystem}
use Rattle.vt_laws_trees.proofs.layers.views.Fronts.{shown_by_views}
use Rattle.vt_laws_trees.proofs.layers.views.Names.{alike_kept, alike_same}
use Rattle.vt_laws_trees.specs.Overlays.WhatIsShown.{layers_under}
use Rattle.vt_laws_trees.specs.Overlays.WholeChanges.{IsAskedWell}
use Rattle.vt_laws_trees.proofs.overlays.changes.WholeHidden.{hidden_stays_hidden}
use Rattle.vt_laws_trees.proofs.overlays.changes.WholeLater.{changing}
use Rattle.vt_laws_trees.proofs.overlays.changes.WholeLater
use Rattle.vt_laws_trees.proofs.overlays.changes.WholeWorlds.{overlays_are_whole}
use Rattle.vt_laws_worlds.proofs.merging.mounted.Again.{files_raised}
use Rattle.vt_laws_worlds.proofs.worlds.CallsKept.{name_found}
use Rattle.vt_laws_worlds.proofs.opening.OpeningWorld.{opening_is_a_world}
use Rattle.vt_laws_worlds.proofs.worlds.WordsFew.{lines_name_few, request_names_few}
use Rattle.vt_laws_worlds.specs.OverlayPermits.Asked.{change_asked}
use Rattle.vt_laws_worlds.specs.OverlayPermits.Changed.{numbers_left}
use Rattle.vt_laws_worlds.specs.OverlayPermits.HiddenOverScripts.{EveryCallUncoversNothing, HiddenOverScripts, UncoversNothing, is_lower, shown_in}
use Rattle.vt_laws_worlds.specs.OverlayPermits.LockedOverScripts.{LeadsLive, LowersStay, is_live}
use Rattle.vt_laws_worlds.proofs.overlay_permits.asked.AskedOverlays.{permits_ask_overlays_well}
use Rattle.vt_laws_worlds.proofs.overlay_permits.through.CallsThrough.{as_permitted}
use Rattle.vt_laws_worlds.proofs.overlay_permits.changed.ChangedOverlays.{are_left}
use Rattle.vt_laws_worlds.proofs.overlay_permits.worlds.EveryScript.{line_keeps, lines_keep}
use Rattle.vt_laws_worlds.proofs.overlay_permits.kept.KeptOverlays.{permits_make_their_change}
use Rattle.vt_laws_worlds.proofs.overlay_permits.through.LayersLater.{left_leads, swept_granted}
use Rattle.vt_laws_worlds.proofs.overlay_permits.worlds.LowersAfterCalls.{call_stays, every_call_leaves_lowers}
use Rattle.vt_laws_worlds.proofs.overlay_permits.worlds.LowersGoOn.{leads_both, leads_by_files, raised_overlay}
use Rattle.vt_laws_worlds.proofs.overlay_permits.worlds.LowersOverScripts.{line_stays}
use Rattle.vt_laws_worlds.proofs.overlay_permits.worlds.PolicyLeads.{named_leads}
use Rattle.vt_laws_worlds.proofs.overlay_permits.worlds.SweptOverlays.{leads_same, shown_among}

-- Layers that lead alike show the same
module _ (world later : World ℕ) where
  all_alike : (layers : List (Layer ℕ)) → ((layer : Layer ℕ) → Among layer layers → LeadsAsBefore world later layer)
      → AllLeadAlike (map view_of (map (open_layer nat_eq world) layers))
      (map view_of (map (open_layer nat_eq later) layers))
  all_alike [] leads = tt
  all_alike (layer ∷ layers) leads = (
    record {
      leads = λ path. (leads layer (inl refl) path).0;
      inodes = λ path. alike_kept _ _ (leads layer (inl refl) path).1;
    },
    all_alike layers (λ l m. leads l (inr m)),
  )

  shown_alike : (overlay : Overlay ℕ)
      → ((layer : Layer ℕ) → Among layer (layers_of overlay) → LeadsAsBefore world later layer)
      → (path : List (List ℕ)) → shown_in later overlay path ≡ shown_in world overlay path
  shown_alike overlay leads path = shown_by_views (map view_of (map (open_layer nat_eq world) (shown_layers overlay)))
      (map view_of (map (open_layer nat_eq later) (shown_layers overlay)))
      (all_alike (shown_layers overlay) (λ layer m. leads layer (shown_among overlay layer m))) path

  -- one of which a lower layer shows nothing that it did not show
  abbrev Hides : Overlay ℕ → Type 0
  Hides overlay = (path : List (List ℕ)) (seen : Shown ℕ) → is_lower overlay seen.layer ≡ true
      → shown_in later overlay path ≡ Some seen → shown_in world overlay path ≡ Some seen

  alike_hides : (overlay : Overlay ℕ)
      → ((layer : Layer ℕ) → Among layer (layers_of overlay) → LeadsAsBefore world later layer) → Hides overlay
  alike_hides overlay leads path seen low e = sym (shown_alike overlay leads path) ∙ e

-- A change through the overlay
module _ (fresh : Fresh ℕ) (world : World ℕ) (location : Location ℕ) (change : Change ℕ) (overlay : Overlay ℕ)
    (upper : Layer ℕ) (is : IsWorld nat_eq world)
    (was : (filesystem_at nat_eq world location).overlay ≡ Some overlay) (has : overlay.upper ≡ Some upper)
    (distinct : (j k : ℕ) → fresh j ≡ fresh k → j ≡ k) (none : (filesystem : ℕ) → AreNoInodes fresh world filesystem)
    (asked : IsAskedWell (stack_of nat_eq world overlay upper)
    (merge_of nat_eq world (filesystem_at nat_eq world location) overlay upper) change)
    (lowers_lead : (lower : Layer ℕ) → Among lower overlay.lowers
    → LeadsAsBefore world (with_change nat_eq fresh world location change) lower) where
  abbrev stack : Stack ℕ
  stack = stack_of nat_eq world overlay upper

  abbrev before : Merge ℕ
  before = merge_of nat_eq world (filesystem_at nat_eq world location) overlay upper

  abbrev merge : Merge ℕ
  merge = merge_changed nat_eq fresh stack before change

  abbrev changed_world : World ℕ
  changed_world = with_change nat_eq fresh world location change

  upper_changed : filesystem_numbered nat_eq changed_world upper.filesystem
      ≡ WholeLater.changed_upper (changing fresh world location change overlay upper is was has distinct none asked)
  upper_changed = ap (λ w. filesystem_numbered nat_eq w upper.filesystem)
      (WholeLater.later_is (changing fresh world location change overlay upper is was has distinct none asked))
      ∙ WholeLater.upper_later (changing fresh world location change overlay upper is was has distinct none asked)

  abbrev over : Tree ℕ → World ℕ → List (OpenLayer ℕ)
  over tree which = record { tree = tree; directory = upper.directory } ∷ map (open_layer nat_eq which) overlay.lowers

  shown_changed : (path : List (List ℕ)) → shown_in changed_world overlay path ≡ shown (layers_under stack merge) path
  shown_changed path =
      ap (λ u. shown (map (open_layer nat_eq changed_world) (option_to_list u ++ overlay.lowers)) path) has
      ∙ ap (λ (f : Filesystem ℕ). shown (over f.files.tree changed_world) path) upper_changed
      ∙ shown_by_views (map view_of (over merge.upper.tree world)) (map view_of (over merge.upper.tree changed_world)) (
        record { leads = λ p. refl; inodes = λ p. alike_same _ _ refl },
        all_alike world changed_world overlay.lowers lowers_lead,
      ) path

  change_hides : Hides world changed_world overlay
  change_hides path seen low e = by seen.layer refl
    where
      by : (k : ℕ) → seen.layer ≡ k → shown_in world overlay path ≡ Some seen
      by zero f = absurd (cc (low, has))
      by (suc j) f =
          let same : seen ≡ record { layer = j + 1; object = seen.object } =
          λ i. record { layer = (f ∙ one_more j) i; object = seen.object } in
          ap (λ u. shown (map (open_layer nat_eq world) (option_to_list u ++ overlay.lowers)) path) has
          ∙ hidden_stays_hidden fresh stack before change path j seen.object
          (overlays_are_whole world (mount_at nat_eq world location).filesystem overlay upper is was has) distinct
          (λ k. none upper.filesystem k) asked (sym (shown_changed path) ∙ e ∙ ap Some same) ∙ ap Some (sym same)
        where
          one_more : (n : ℕ) → suc n ≡ n + 1
          one_more n = omega arith

-- A granted call, before what nothing uses is gone, and after
module _ {world : World ℕ} (is : IsWorld nat_eq world) (number : ℕ) {overlay : Overlay ℕ}
    (was : (filesystem_numbered nat_eq world number).overlay ≡ Some overlay) {fresh : Fresh ℕ}
    (serves : Serves nat_eq world fresh) {task : Task ℕ} (call : Call) {permit : Permit ℕ}
    (called : task_called world task.name ≡ Some task)
    (granted : judge_in nat_eq fresh world task call ≡ Ok permit) where
  abbrev called_world : World ℕ
  called_world = (call_outcome nat_eq fresh world task call).world

  abbrev last : TaskName → List ℕ → World ℕ
  last name changed = (finished_unless nat_eq false world name changed (call_outcome nat_eq fresh world task call)).world

  -- of a change through the overlay
  through : (location : Location ℕ) (change : Change ℕ) → change_asked fresh world permit ≡ Some (location, change)
      → number ≡ (mount_at nat_eq world location).filesystem → Hides world called_world overlay
  through location change asks same = by overlay.upper refl
    where
      here : (filesystem_at nat_eq world location).overlay ≡ Some overlay
      here = cc (same, was)

      made : called_world.filesystems
          ≡ (with_change nat_eq (numbers_left fresh permit) world location change).filesystems
      made = as_permitted world fresh task call permit granted
          ∙ permits_make_their_change world fresh task permit location change asks

      by : (o : Option (Layer ℕ)) → overlay.upper ≡ o → Hides world called_world overlay
      by None e =
          let as_it_was : with_change nat_eq (numbers_left fresh permit) world location change ≡ world =
          ap (λ o. filesystem_changed nat_eq (numbers_left fresh permit) world
          (filesystem_at nat_eq world location) o change) here
          ∙ ap (λ o. overlay_changed nat_eq (numbers_left fresh permit) world
          (filesystem_at nat_eq world location) overlay o change) e in
          alike_hides world called_world overlay (λ layer m.
          leads_same world called_world layer (same_filesystem world called_world layer.filesystem
          (made ∙ ap (λ (w : World ℕ). w.filesystems) as_it_was)))
      by (Some upper) e = λ path seen low f.
          change_hides (numbers_left fresh permit) world location change overlay upper is here e
          (are_left world fresh is serves permit).0 (are_left world fresh is serves permit).1
          (permits_ask_overlays_well world fresh task call permit location change overlay upper is serves called granted
          asks here e) (λ lower m. leads_both world called_world
          (with_change nat_eq (numbers_left fresh permit) world location change) lower
          ((call_stays world is number overlay was fresh serves task call permit called granted).leads lower m)
          (leads_by_files called_world (with_change nat_eq (numbers_left fresh permit) world location change) lower
          (ap (λ (f : Filesystem ℕ). f.files)
          (same_filesystem called_world (with_change nat_eq (numbers_left fresh permit) world location change)
          lower.filesystem (sym made))))) path seen low
          (sym (ap (λ fs. shown_in (record world { filesystems = fs }) overlay path) made) ∙ f)

  elsewhere : ((location : Location ℕ) (change : Change ℕ) → change_asked fresh world permit ≡ Some (location, change)
      → number ≢ (mount_at nat_eq world location).filesystem) → Hides world called_world overlay
  elsewhere other = alike_hides world called_world overlay (λ layer m.
      left_leads world is number overlay was layer (contains_from_among (layers_of overlay) layer m) fresh serves task
      call permit called granted other)

  left_hides : Hides world called_world overlay
  left_hides = by (change_asked fresh world permit) refl
    where
      at : (made : Location ℕ × Change ℕ) → change_asked fresh world permit ≡ Some made → (b : Bool)
          → nat_eq number (mount_at nat_eq world made.0).filesystem ≡ b → Hides world called_world overlay
      at made e true f = through made.0 made.1 e (eqb-true number (mount_at nat_eq world made.0).filesystem f)
      at made e false f = elsewhere (λ location change g same.
          true≢false (sym (eq-eqb number (mount_at nat_eq world made.0).filesystem
          (same ∙ ap (λ (m : Location ℕ × Change ℕ). (mount_at nat_eq world m.0).filesystem)
          (same_Some (location, change) made (sym g ∙ e)))) ∙ f))

      by : (o : Option (Location ℕ × Change ℕ)) → change_asked fresh world permit ≡ o → Hides world called_world overlay
      by None e = elsewhere (λ location change g. absurd cc)
      by (Some made) e = at made e (nat_eq number (mount_at nat_eq world made.0).filesystem) refl

  finished_hides : names_few_groups call ≡ true → (name : TaskName) (changed : List ℕ)
      → is_live (last name changed) number ≡ true → Hides world (last name changed) overlay
  finished_hides few name changed live =
      by (filesystem_numbered nat_eq (settled nat_eq called_world) number).overlay refl
    where
      by : (o : Option (Overlay ℕ)) → (filesystem_numbered nat_eq (settled nat_eq called_world) number).overlay ≡ o
          → Hides world (last name changed) overlay
      by None e = absurd (true≢false
          (sym live ∙ ap is_some (raised_overlay world name changed (settled nat_eq called_world) number ∙ e)))
      by (Some now) e = λ path seen low f. left_hides path seen low
          (sym (shown_alike called_world (last name changed) overlay (λ layer m.
          leads_both called_world (settled nat_eq called_world) (last name changed) layer
          (swept_granted world is number overlay was layer (contains_from_among (layers_of overlay) layer m) fresh
          serves task call permit called granted few (mounts_overlay call) refl now e)
          (leads_by_files (settled nat_eq called_world) (last name changed) layer
          (files_raised changed layer.filesystem (settled nat_eq called_world).filesystems))) path) ∙ f)

-- Of two overlays with the same layers
same_shown : (world : World ℕ) (one other : Overlay ℕ) → other.upper ≡ one.upper → other.lowers ≡ one.lowers
    → (path : List (List ℕ)) → shown_in world other path ≡ shown_in world one path
same_shown world one other upper lowers path =
    λ i. shown (map (open_layer nat_eq world) (option_to_list (upper i) ++ lowers i)) path

pub every_call_uncovers_nothing : EveryCallUncoversNothing
every_call_uncovers_nothing world fresh name call number overlay is serves few was live after path seen now low e =
    let stays = every_call_leaves_lowers world fresh name call number overlay is serves few was live in
    let later = (policy nat_eq fresh world name call).world in
    let same = same_Some after stays.after (sym now ∙ stays.is) in
    named_leads (λ w. is_live w number ≡ true → Hides world w overlay) world fresh name call
    (λ there. alike_hides world world overlay (λ layer m. leads_by_files world world layer refl))
    (λ task found permit changed granted. finished_hides is number was serves call
    (ap (task_called world) (sym (name_found world name task found)) ∙ found) granted few name changed)
    live path seen low (sym (same_shown later overlay after (ap (λ (o : Overlay ℕ). o.upper) same ∙ stays.upper)
    (ap (λ (o : Overlay ℕ). o.lowers) same ∙ stays.lowers) path) ∙ e)

-- Over lines

uncovers_itself : (world : World ℕ) (number : ℕ) (overlay : Overlay ℕ)
    → (filesystem_numbered nat_eq world number).overlay ≡ Some overlay → UncoversNothing world world number overlay
uncovers_itself world number overlay was after path seen now low e = cc (same_Some overlay after (sym was ∙ now))

uncovers_both : (a b c : World ℕ) (number : ℕ) (overlay : Overlay ℕ) (stays : LowersStay a b number overlay)
    → UncoversNothing a b number overlay → UncoversNothing b c number stays.after → UncoversNothing a c number overlay
uncovers_both a b c number overlay stays first second after path seen now low e =
    first stays.after path seen stays.is low
    (second after path seen now (ap (λ u. not (is_some u && nat_eq seen.layer 0)) stays.upper ∙ low) e)

module _ (world : World ℕ) (is : IsWorld nat_eq world) (number : ℕ) (overlay : Overlay ℕ)
    (was : (filesystem_numbered nat_eq world number).overlay ≡ Some overlay) where
  request_uncovers : (fresh : Fresh ℕ) → Serves nat_eq world fresh → (request : Option Request)
      → request_names_few request ≡ true → is_live (requested nat_eq world request fresh).world number ≡ true
      → UncoversNothing world (requested nat_eq world request fresh).world number overlay
  request_uncovers fresh serves request few live =
      grind (arith, common_steps, uncovers_itself, every_call_uncovers_nothing, directive_changes_nothing)

  line_uncovers : (long silent : Bool) (grammar : Grammar) (line : List ℕ) (fresh : Fresh ℕ) → Serves nat_eq world fresh
      → is_live (step_world world (line_step_by nat_eq long silent grammar world line (Some fresh))) number ≡ true
      → UncoversNothing world (step_world world
      (line_step_by nat_eq long silent grammar world line (Some fresh))) number overlay
  line_uncovers true silent grammar line fresh serves live = uncovers_itself world number overlay was
  line_uncovers false true grammar line fresh serves live = uncovers_itself world number overlay was
  line_uncovers false false grammar line fresh serves live =
      request_uncovers fresh serves (request_of grammar line) (lines_name_few grammar line) live

lines_uncover : (grammar : Grammar) (number : ℕ) (world : World ℕ) (lines : List (List ℕ)) (refused : List Bool)
    (left : World ℕ)
    (overlay : Overlay ℕ) → IsWorld nat_eq world → (filesystem_numbered nat_eq world number).overlay ≡ Some overlay
    → LeadsLive grammar number world lines refused left → UncoversNothing world left number overlay
lines_uncover grammar number world [] refused left overlay is was leads =
    subst (λ w. UncoversNothing world w number overlay) (sym leads) (uncovers_itself world number overlay was)
lines_uncover grammar number world (line ∷ lines) [] left overlay is was leads = absurd leads
lines_uncover grammar number world (line ∷ lines) (true ∷ refused) left overlay is was leads =
    let same = refused_memory_changes_nothing grammar world line in
    lines_uncover grammar number world lines refused left overlay is was
    (subst (λ w. LeadsLive grammar number w lines refused left) same leads.1)
lines_uncover grammar number world (line ∷ lines) (false ∷ refused) left overlay is was leads =
    let next = step_world world (line_step nat_eq grammar world line (Some leads.0)) in
    let stays : LowersStay world next number overlay =
    line_stays world is number overlay was (nat_lt longest_line (length line))
    (is_silent line) grammar line leads.0 leads.1 leads.2 in
    uncovers_both world next left number overlay stays
    (line_uncovers world is number overlay was (nat_lt longest_line (length line))
    (is_silent line) grammar line leads.0 leads.1 leads.2)
    (lines_uncover grammar number next lines refused left stays.after (line_keeps (nat_lt longest_line (length line))
    (is_silent line) grammar world line leads.0 is leads.1) stays.is leads.3)

pub hidden_over_scripts : HiddenOverScripts
hidden_over_scripts grammar first next refused refused_next fresh mounted left number overlay apart leads was live =
    lines_uncover grammar number mounted next refused_next left overlay
    (lines_keep grammar (opening nat_eq fresh) first refused mounted (opening_is_a_world fresh apart).0 leads) was live
