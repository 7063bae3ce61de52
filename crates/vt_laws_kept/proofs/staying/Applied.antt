-- A permit that changes nothing through an overlay leaves it as it was, before the sweep and after it.
use Rattle.std.proofs.Common.{◌≡◌, ◌≢◌, refl, sym, ap, subst, ◌∙◌, true≢false, ℕ, nat_eq, true, not, [], ◌∷◌, ◌++◌, Option, Some, None, is_some, option_map}
use Rattle.vt_spec.proofs.Common.{Change, Filesystem, Fresh, IsWorld, Layer, Location, Overlay, Permit, Task, World, and_true_left, apply, call_outcome, directory_used, filesystem_numbered, is_overlay, mount_at, plain_filesystem, settled}
use Rattle.vt_laws_rules.proofs.judged.CallsJudged.{call_is_judged_then_applied}
use Rattle.vt_laws_trees.specs.Layers.Layers.Locked.{LeadsAsBefore}
use Rattle.vt_laws_trees.specs.Trees.Calls.{mounts_overlay}
use Rattle.vt_laws_trees.proofs.layers.layers.LowersCalls.{same_filesystem}
use Rattle.vt_laws_trees.proofs.layers.layers.UpperWorld.{overlay_tree}
use Rattle.vt_laws_trees.proofs.layers.locked.Apart.{layer_plain, upper_in_layers}
use Rattle.vt_laws_worlds.specs.Given.LeftWorlds.{IsGivenToTask}
use Rattle.vt_laws_worlds.specs.OverlayPermits.Asked.{change_asked}
use Rattle.vt_laws_worlds.specs.Permits.Left.{left_by}
use Rattle.vt_laws_worlds.proofs.given.left.Permits.{given_permits_are_under_way_anywhere}
use Rattle.vt_laws_worlds.proofs.overlay_permits.through.CallsThrough.{as_permitted, calls_go_through_their_location}
use Rattle.vt_laws_worlds.proofs.overlay_permits.through.LayersLater.{left_leads, swept_granted}
use Rattle.vt_laws_worlds.proofs.overlay_permits.worlds.EveryCall.{LeavesFilesystems, unchanged}
use Rattle.vt_laws_worlds.proofs.overlay_permits.worlds.EveryCall.LeavesFilesystems.{as_they_were, with_overlay, with_plain}
use Rattle.vt_laws_worlds.proofs.overlay_permits.worlds.LowersAfterCalls.{shown_still}
use Rattle.vt_laws_worlds.proofs.overlay_permits.worlds.LowersGoOn.{leads_both}
use Rattle.vt_laws_kept.specs.Counts.{only_staying, real_staying, stays_in}
use Rattle.vt_laws_kept.specs.Staying.{LayersAreLeft, LeavesAlone, TreesAreLeft}
use Rattle.vt_laws_kept.proofs.counts.Swept.{unnamed_go_with_their_last_location}

module _ (world : World ℕ) (fresh : Fresh ℕ) (task : Task ℕ) (permit : Permit ℕ) (number : ℕ) (overlay : Overlay ℕ)
    (is : IsWorld nat_eq world) (given : IsGivenToTask fresh world task permit)
    (was : (filesystem_numbered nat_eq world number).overlay ≡ Some overlay)
    (alone : LeavesAlone fresh world permit number) where
  abbrev applied : World ℕ
  applied = (apply nat_eq fresh world task permit).world

  abbrev called : World ℕ
  called = (call_outcome nat_eq fresh world task given.call).world

  -- it is no upper layer's filesystem
  no_upper : (other : ℕ) (over : Overlay ℕ) (upper : Layer ℕ) → (filesystem_numbered nat_eq world other).overlay
      ≡ Some over
      → over.upper ≡ Some upper → number ≢ upper.filesystem
  no_upper other over upper e has same = true≢false
      (sym (and_true_left (not (is_overlay (filesystem_numbered nat_eq world upper.filesystem))) _
      (layer_plain world is other over e upper (upper_in_layers world is other over e upper has)))
      ∙ ap (λ n. not (is_overlay (filesystem_numbered nat_eq world n))) (sym same) ∙ ap (λ o. not (is_some o)) was)

  root_there : is_some ((filesystem_numbered nat_eq world number).files.tree.node
      (filesystem_numbered nat_eq world number).files.tree.root) ≡ true
  root_there = directory_used (filesystem_numbered nat_eq world number).files.tree
      (filesystem_numbered nat_eq world number).files.tree.root (overlay_tree world is number overlay
      was).root_directory

  -- before the sweep it is as it was
  as_it_was : filesystem_numbered nat_eq applied number ≡ filesystem_numbered nat_eq world number
  as_it_was = by (change_asked fresh world permit) refl
    where
      grown : (new : Filesystem ℕ) → applied.filesystems ≡ world.filesystems ++ (new ∷ [])
          → filesystem_numbered nat_eq applied number ≡ filesystem_numbered nat_eq world number
      grown new more = shown_still world applied new more number
          (filesystem_numbered nat_eq world number).files.tree.root root_there

      left : LeavesFilesystems world fresh task permit
          → filesystem_numbered nat_eq applied number ≡ filesystem_numbered nat_eq world number
      left (as_they_were same) = same_filesystem world applied number same
      left (with_plain more) = grown (plain_filesystem nat_eq fresh) more
      left (with_overlay not_named new more) = grown new more

      by : (o : Option (Location ℕ × Change ℕ)) → change_asked fresh world permit ≡ o
          → filesystem_numbered nat_eq applied number ≡ filesystem_numbered nat_eq world number
      by None e = left (unchanged world fresh task permit e)
      by (Some made) e =
          same_filesystem called applied number
          (sym (as_permitted world fresh task given.call permit given.judged))
          ∙ (calls_go_through_their_location world fresh task given.call permit made.0 made.1 is given.serves
          given.called
          given.judged e).elsewhere number (alone made.0 made.1 e)
          (λ over upper. no_upper (mount_at nat_eq world made.0).filesystem over upper)

  module _ (there : is_overlay (filesystem_numbered nat_eq (left_by fresh world task permit) number) ≡ true) where
    -- and after it has the inodes that stay
    pub tree_left : filesystem_numbered nat_eq (left_by fresh world task permit) number
        ≡ only_staying (stays_in (left_by fresh world task permit) (filesystem_numbered nat_eq world number))
        (filesystem_numbered nat_eq world number)
    tree_left =
        let way = given_permits_are_under_way_anywhere world fresh task permit is given in
        unnamed_go_with_their_last_location applied number way.0 way.1 there
        ∙ ap (λ f. only_staying (stays_in (left_by fresh world task permit) f) f) as_it_was

    pub overlay_left : (filesystem_numbered nat_eq (left_by fresh world task permit) number).overlay
        ≡ Some (real_staying (stays_in (left_by fresh world task permit) (filesystem_numbered nat_eq world number))
        overlay)
    overlay_left = ap (λ (f : Filesystem ℕ). f.overlay) tree_left ∙ ap (option_map (real_staying
        (stays_in (left_by fresh world task permit) (filesystem_numbered nat_eq world number)))) was

    called_is : called ≡ applied
    called_is = cc (call_is_judged_then_applied fresh world task given.call, given.judged)

pub trees_are_left : TreesAreLeft
trees_are_left world fresh task permit number overlay is given was alone there =
    tree_left world fresh task permit number overlay is given was alone there

pub layers_are_left : LayersAreLeft
layers_are_left world fresh task permit number overlay is given was alone there =
    let now = overlay_left world fresh task permit number overlay is given was alone there in
    let same = called_is world fresh task permit number overlay is given was alone there in
    record {
      after = real_staying (stays_in (left_by fresh world task permit) (filesystem_numbered nat_eq world number))
          overlay;
      is = now;
      upper = refl;
      work = refl;
      lowers = refl;
      paths = λ layer contains.
          subst (λ w. LeadsAsBefore world (settled nat_eq w) layer) same
          (leads_both world (call_outcome nat_eq fresh world task given.call).world
          (settled nat_eq (call_outcome nat_eq fresh world task given.call).world) layer
          (left_leads world is number overlay was layer contains fresh given.serves task given.call permit
          given.called
          given.judged alone)
          (swept_granted world is number overlay was layer contains fresh given.serves task given.call permit
          given.called given.judged given.few_groups (mounts_overlay given.call) refl
          (real_staying (stays_in (left_by fresh world task permit) (filesystem_numbered nat_eq world number))
          overlay)
          (ap (λ w. (filesystem_numbered nat_eq (settled nat_eq w) number).overlay) same ∙ now)));
    }
