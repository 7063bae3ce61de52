-- A grant that mounts no overlay is given to no call that does.
use Rattle.std.proofs.Common.{◌≡◌, false, nat_eq, refl, subst, true, ℕ, Bool, List, [], ◌++◌, ◌∷◌, Result, Ok, Err, Option, None, Some}
use Rattle.vt_spec.proofs.Common.{Fresh, Here, Judgement, LayerLocations, Location, Looks, MountFlags, MountOverlay, OverlayWords, Permit, Rules, Task, ToMountOverlay, World, admin_rules, and_then, destination_walk, judge, judge_in, judging, layer_rules, layers_walked, looks_of, new_mount_rules, overfills, overlay_at, run, unless, walk_end}
use Rattle.vt_spec.specs.Machine.Judging.{mounts_overlay_at}
use Rattle.vt_spec.specs.declared.errors.Deny.{Deny}
use Rattle.vt_spec.specs.Language.Calls as spec
use Rattle.vt_laws_trees.specs.Trees.Calls.{mounts_overlay}
use Rattle.vt_permits.specs.GrantValue.{permit_of}
use Rattle.vt_permits.specs.declared.grant.Attachment.TheVariants as attachment
use Rattle.vt_permits.specs.declared.grant.DescriptorGrant.TheVariants as descriptor
use Rattle.vt_permits.specs.declared.grant.Grant.{Grant}
use Rattle.vt_permits.specs.declared.grant.Grant.TheVariants as granted
use Rattle.vt_permits.specs.declared.grant.LookGrant.TheVariants as look
use Rattle.vt_permits.specs.declared.grant.MakeGrant.TheVariants as make
use Rattle.vt_permits.specs.declared.grant.MountGrant.TheVariants as mount
use Rattle.vt_permits.specs.declared.grant.RemoveGrant.TheVariants as remove
use Rattle.vt_permits.specs.declared.grant.TaskGrant.TheVariants as task
use Rattle.vt_permits.specs.declared.grant.WriteGrant.TheVariants as write

-- the permit is to mount an overlay
abbrev merges : Permit ℕ → Bool
merges (ToMountOverlay destination overlay flags) = true
merges permit = false

-- if a call is permitted, it is permitted to mount an overlay
abbrev Merging : Judgement ℕ → Type 0
Merging (Ok permit) = merges permit ≡ true
Merging (Err deny) = Unit {0}

unless_merging : (rows : Rules) (judged : Judgement ℕ) → Merging judged → Merging (unless rows judged)
unless_merging [] judged merging = merging
unless_merging ((true, rule) ∷ rows) judged merging = tt
unless_merging ((false, rule) ∷ rows) judged merging = unless_merging rows judged merging

then_merging : {A : Type 0} (found : Result A Deny) (next : A → Judgement ℕ) → ((a : A) → Merging (next a))
    → Merging (and_then found next)
then_merging (Ok a) next merging = merging a
then_merging (Err deny) next merging = tt

module _ (looks : Looks ℕ) (overfills : Permit ℕ → Bool) (who : Task ℕ) where
  by_options : (place : Location ℕ) (options : Option OverlayWords) (flags : MountFlags)
      → Merging (run nat_eq looks who overfills (mounts_overlay_at nat_eq looks who place options flags))
  by_options place None flags = tt
  by_options place (Some words) flags = then_merging (layers_walked nat_eq looks who words)
      (λ layers. unless (rules layers) (Ok (permit layers)))
      (λ layers. unless_merging (rules layers) (Ok (permit layers)) refl)
    where
      permit : LayerLocations ℕ → Permit ℕ
      permit layers = ToMountOverlay place (overlay_at looks who layers) flags

      rules : LayerLocations ℕ → Rules
      rules layers = layer_rules nat_eq looks layers (overlay_at looks who layers)
          ++ new_mount_rules nat_eq looks who place (overfills (permit layers))

  mounting_merges : (path : List ℕ) (options : Option OverlayWords) (flags : MountFlags)
      → Merging (judge nat_eq looks overfills who (MountOverlay path options flags))
  unfolding judging
  mounting_merges path options flags =
      let mounts : Here ℕ → Judgement ℕ = λ here.
      run nat_eq looks who overfills (mounts_overlay_at nat_eq looks who here.location options flags) in
      unless_merging (admin_rules who) (and_then (walk_end (destination_walk nat_eq looks who path)) mounts)
      (then_merging (walk_end (destination_walk nat_eq looks who path)) mounts
      (λ here. by_options here.location options flags))

  permit_merges : (asked : spec.Call) (permit : Permit ℕ) → judge nat_eq looks overfills who asked ≡ Ok permit
      → merges permit ≡ false → mounts_overlay asked ≡ false
  permit_merges (MountOverlay path options flags) permit is plain =
      let merging : merges permit ≡ true = subst Merging is (mounting_merges path options flags) in absurd cc
  permit_merges asked permit is plain = refl

-- the grant is to mount an overlay
abbrev pub mounts_layers : Grant → Bool
mounts_layers (granted.Overlay new) = true
mounts_layers grant = false

other_grant : (who : Task ℕ) (grant : Grant) → mounts_layers grant ≡ false → merges (permit_of who grant) ≡ false
other_grant who (granted.Overlay new) plain = absurd cc
other_grant who (granted.Look look.Nothing) plain = refl
other_grant who (granted.Make (make.Node new)) plain = refl
other_grant who (granted.Remove (remove.Unlink gone)) plain = refl
other_grant who (granted.Write (write.Part part)) plain = refl
other_grant who (granted.Descriptor (descriptor.Close number)) plain = refl
other_grant who (granted.Task task.Exit) plain = refl
other_grant who (granted.Mount (mount.Attach (attachment.Bind bind))) plain = refl
other_grant who grant plain = refl

-- so the call mounts none
pub granted_plain : (fresh : Fresh ℕ) (world : World ℕ) (who : Task ℕ) (asked : spec.Call) (grant : Grant)
    → judge_in nat_eq fresh world who asked ≡ Ok (permit_of who grant) → mounts_layers grant ≡ false
    → mounts_overlay asked ≡ false
granted_plain fresh world who asked grant is plain =
    permit_merges (looks_of nat_eq world) (overfills nat_eq fresh world who) who asked (permit_of who grant) is
    (other_grant who grant plain)
