-- The mounts of a tree are those of one namespace; a mount that is in no namespace is a tree by itself.
use Rattle.std.proofs.Common.{◌≡◌, refl, sym, ap, subst, ◌∙◌, ⊎_elim, ℕ, zero, suc, nat_eq, eqb-true, Bool, true, false, true≢false, List, [], ◌∷◌, length, Option, Some, None, is_some, flat_map, option_to_list}
use Rattle.vt_spec.proofs.Common.{Among, Location, Mount, Stands, World, among_from_list_all, and_parts, at_root, children, filter_none, holds_of, list_all, mount_at, mount_numbered, mount_tree, none_from_among, on_parent, same_Some, stands_on, tree_from}
use Rattle.vt_mounting.proofs.Common.{IsHeld, WorldValue, mounts_in, mounts_of_worlds_stand, stands_on_attached, world_of}
use Rattle.vt_laws_mounts.proofs.mounts.MountsFound.{found_or_none, number-mount_in}
use Rattle.vt_laws_mounts.proofs.mounts.MountsReplaced.{found_itself, tree_among}
use Rattle.vt_laws_mounts.proofs.mounts.Standing.{LiesIn, lies_in_tree, stand}
use Rattle.vt_laws_mounts.proofs.mounts.Standing.LiesIn.{itself, under}

module _ (value : WorldValue) (held : IsHeld value) where
  abbrev world : World ℕ
  world = world_of value

  abbrev mounts : List (Mount ℕ)
  mounts = mounts_in value.mounts

  abbrev tree : ℕ → List (Mount ℕ)
  tree top = mount_tree nat_eq (mounts_in value.mounts) (mount_numbered nat_eq (world_of value) top)

  -- what lies on a mount is in its namespace
  pub same_namespace : (above number : ℕ) → LiesIn (world_of value) above number
      → (mount_numbered nat_eq (world_of value) number).namespace
      ≡ (mount_numbered nat_eq (world_of value) above).namespace
  same_namespace above number (itself it) = refl
  same_namespace above number (under top it place e way) =
      by (stand world held.in_world.mounts.one_number held.in_world.mounts.standing number)
      ∙ same_namespace above place.mount way
    where
      by : Stands nat_eq (world_of value) it → (mount_numbered nat_eq (world_of value) it).namespace
          ≡ (mount_numbered nat_eq (world_of value) place.mount).namespace
      by (at_root one f) = absurd (true≢false (sym (ap is_some e) ∙ ap is_some f))
      by (on_parent one at f g x) = g
          ∙ ap (λ (p : Location ℕ). (mount_numbered nat_eq (world_of value) p.mount).namespace)
          (same_Some at place (sym f ∙ e))

  module _ (top namespace : ℕ) (is : (mount_numbered nat_eq (world_of value) top).namespace ≡ Some namespace) where
    -- the mounts of the tree are mounts of that namespace, each under its own number
    pub in_tree : (other : Mount ℕ) → Among other (tree top)
        → Among other (mounts_in value.mounts) × (mount_numbered nat_eq (world_of value) other.number ≡ other)
        × (other.namespace ≡ Some namespace)
    in_tree other m =
        let there : Among other mounts = ⊎_elim (λ e. subst (λ x. Among x mounts) (sym e) top_there) (λ l. l)
        (tree_among (length mounts) mounts (mount_numbered nat_eq world top) other m) in
        let own = found_itself mounts held.in_world.mounts.one_number other there in (
          there,
          own,
          sym (ap (λ (x : Mount ℕ). x.namespace) own)
              ∙ same_namespace (mount_numbered nat_eq world top).number other.number
              (lies_in_tree world held.in_world.mounts.one_number held.in_world.mounts.standing (length mounts)
              (mount_numbered nat_eq world top) other m)
              ∙ ap (λ n. (mount_numbered nat_eq world n).namespace) (number-mount_in mounts top) ∙ is,
        )
      where
        top_there : Among (mount_numbered nat_eq (world_of value) top) (mounts_in value.mounts)
        top_there = ⊎_elim (λ l. l)
            (λ none. absurd (true≢false (sym (ap is_some is) ∙ ap (λ (x : Mount ℕ). is_some x.namespace) none)))
            (found_or_none mounts top)

  -- on what is in no namespace nothing stands
  module _ (top : ℕ) (nowhere : (mount_numbered nat_eq (world_of value) top).namespace ≡ None) where
    pub no_children : children nat_eq (mounts_in value.mounts) (mount_numbered nat_eq (world_of value) top).number ≡ []
    no_children =
        filter_none (stands_on nat_eq number) mounts (none_from_among (stands_on nat_eq number) mounts (λ child m.
        by child.mount_point (among_from_list_all (stands_on_attached world) mounts
        (mounts_of_worlds_stand world held.in_world).on_attached child m)))
      where
        number : ℕ
        number = (mount_numbered nat_eq (world_of value) top).number

        by : (o : Option (Location ℕ))
            → list_all (λ place. is_some (mount_at nat_eq (world_of value) place).namespace) (option_to_list o) ≡ true
            → holds_of (λ place. nat_eq number place.mount) o ≡ false
        by None e = refl
        by (Some place) e = on (nat_eq number place.mount) refl
          where
            on : (b : Bool) → nat_eq number place.mount ≡ b → b ≡ false
            on false t = refl
            on true t = absurd (true≢false (sym (and_parts (is_some (mount_at nat_eq world place).namespace) true e).0
                ∙ ap (λ n. is_some (mount_numbered nat_eq world n).namespace)
                (sym (eqb-true number place.mount t) ∙ number-mount_in mounts top) ∙ ap is_some nowhere))

    pub alone_in_tree : (depth : ℕ)
        → tree_from nat_eq depth (mounts_in value.mounts) (mount_numbered nat_eq (world_of value) top)
        ≡ mount_numbered nat_eq (world_of value) top ∷ []
    alone_in_tree zero = refl
    alone_in_tree (suc depth) =
        ap (λ below. mount_numbered nat_eq world top ∷ flat_map (tree_from nat_eq depth mounts) below) no_children
