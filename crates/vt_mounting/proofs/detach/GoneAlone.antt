-- Mounts in no peer group are detached: the groups stay as they are.
use Rattle.std.proofs.Common.{◌≡◌, refl, sym, ap, subst, ◌∙◌, inl, inr, ℕ, nat_eq, Bool, true, false, cond, List, [], ◌∷◌, map}
use Rattle.vt_spec.proofs.Common.{HasLivingGroups, Lives, Mount, World, cons_option, detached, is_among, regrouped}
use Rattle.vt_mounting.proofs.Common.{AllGroupsLive, Among, Grouping, Has, all_from_among, among-from_map, among_from_all, is_ungrouped, peer_of, peers_of, regrouped_living}
use Rattle.vt_mounting.proofs.detach.DetachingBegins.{detached_world}
use Rattle.vt_mounting.proofs.detach.Grouped.{alike_has, members_alike, no_peer, rising_mapped}
use Rattle.vt_mounting.proofs.detach.Keeping.{detached_in}
use Rattle.vt_mounting.proofs.detach.MountsGone.{pending_number}

module _ {world : World ℕ} {groups : Grouping} (has : Has world groups) (live : AllGroupsLive world) (gone : List ℕ)
    (free : (mount : Mount ℕ) → Among mount world.mounts → is_among nat_eq mount.number gone ≡ true
    → is_ungrouped mount.propagation ≡ true) where
  abbrev start : World ℕ
  start = detached_world gone world

  peers_stay : (mounts : List (Mount ℕ)) → ((mount : Mount ℕ) → Among mount mounts → Among mount world.mounts)
      → peers_of (map (detached_in gone) mounts) ≡ peers_of mounts
  peers_stay [] within = refl
  peers_stay (mount ∷ rest) within = by (is_among nat_eq mount.number gone) refl
      (peers_stay rest (λ other m. within other (inr m)))
    where
      by : (b : Bool) → is_among nat_eq mount.number gone ≡ b → peers_of (map (detached_in gone) rest) ≡ peers_of rest
          → cons_option (peer_of (cond b (detached mount) mount)) (peers_of (map (detached_in gone) rest))
          ≡ peers_of (mount ∷ rest)
      by true e later = later ∙ sym (no_peer mount (peers_of rest) (free mount (within mount (inl refl)) e))
      by false e later = ap (cons_option (peer_of mount)) later

  same_peers : peers_of start.mounts ≡ peers_of world.mounts
  same_peers = peers_stay world.mounts (λ mount m. m)

  pub alone_has : Has start groups
  alone_has = alike_has start has (rising_mapped (detached_in gone) (pending_number gone) world.mounts has.order)
      same_peers (λ group. refl)

  still_live : AllGroupsLive start
  still_live = all_from_among (HasLivingGroups nat_eq start) start.mounts (λ mount m.
      let from = among-from_map (detached_in gone) world.mounts mount m in
      subst (HasLivingGroups nat_eq start) (sym from.2) (by from.0 from.1 (is_among nat_eq from.0.number gone)))
    where
      by : (mount : Mount ℕ) → Among mount world.mounts → (b : Bool)
          → HasLivingGroups nat_eq start (cond b (detached mount) mount)
      by mount m true = λ group e. absurd cc
      by mount m false = λ group e. subst (λ members. Lives members world.master group)
          (λ i. λ one. members_alike world.mounts start.mounts (sym same_peers) one i)
          (among_from_all (HasLivingGroups nat_eq world) world.mounts live mount m group e)

  pub alone_regroups : regrouped nat_eq start ≡ start
  alone_regroups = regrouped_living start still_live
