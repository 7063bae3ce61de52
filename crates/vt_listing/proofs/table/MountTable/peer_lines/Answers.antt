use Rattle.std.proofs.Common.{ap, nat_eq, ◌∙◌, ℕ, filter_map, flat_map}
use Rattle.vt_spec.proofs.Common.{IfOk-weaker, Propagation, World, each_once, groups_in_type, peer_lines}
use Rattle.vt_location.specs.Numbers.{counted}
use Rattle.vt_listing.specs.GroupsListed.{all_seen, group_numbers, member_place, placed_from, slave_place}
use Rattle.vt_listing.proofs.ListedPeers.{all_namespaces, lines_kept, lines_so}
use Rattle.vt_listing.proofs.ShownWorlds.{beside, same_world}
use Rattle.vt_listing.proofs.table.MountTable.peer_lines.Goals as goal

pub returns : goal.returns
returns c = record {
  ok = let items = c.in_ok-placed.placed.items in
      let numbers = group_numbers c.in_ok-groups.groups.keys in
      IfOk-weaker c.lines_of.result _ _ (λ lines told world is named.
      let shown : World ℕ = beside c.args.self.now world is in
      let placed = c.in_ok-placed.ensures.ok ∙ ap (placed_from shown 1) named
      ∙ all_namespaces shown 1 world.namespaces in
      let seen = c.in_ok-groups.ensures.ok ∙ ap (λ some. each_once nat_eq
      (flat_map (λ (one : ℕ × ℕ × Propagation ℕ). groups_in_type shown one.2) (all_seen some))) c.deref.ensures.value in
      told ∙ lines_kept shown numbers c.in_ok-members.members c.in_ok-slaves.slaves (all_seen items)
      (λ group. c.in_ok-members.ensures group
      ∙ ap (λ some. filter_map (member_place (counted group.count)) (all_seen some)) c.deref-2.ensures.value)
      (λ group. c.in_ok-slaves.ensures group
      ∙ ap (λ some. filter_map (slave_place (counted group.count)) (all_seen some)) c.deref-3.ensures.value)
      c.in_ok-groups.groups.keys ∙ lines_so shown (all_seen items) numbers placed seen
      ∙ ap (peer_lines nat_eq) (same_world c.args.self.now world is)) c.lines_of.ensures.ok;
}
