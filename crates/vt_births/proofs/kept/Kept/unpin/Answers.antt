use Rattle.std.proofs.Common.{IsSome, None, Some, ap, arith, cond, nat_lt, lt-ltb, refl, subst, sym, ◌-◌, ◌<◌, ◌∙◌, ◌≡◌}
use Rattle.std.proofs.lemmas.Bool.{le-ltb}
use Rattle.std.specs.Map.{keys_of}
use Rattle.std.specs.List.{list_any}
use Rattle.vt_spec.proofs.Common.{option_copied_mut}
use Rattle.vt_location.specs.SameNodes.{same_node}
use Rattle.vt_births.specs.Kept.{KeptValue, is_kept, uses_of}
use Rattle.vt_births.proofs.Uses.{count-updated, found, kept-updated, updated-absent, updated-twice, used-without}
use Rattle.vt_births.proofs.kept.Kept.unpin.Goals as goal

-- the last use is counted down, and then the node is forgotten
pub returns-clause-uses : goal.returns-clause-uses
returns-clause-uses c = λ other.
    let node = c.args.node in
    let old = c.self.inside.by_node.entries in
    let uses = c.in-Some.uses.now in
    let there : found old node ≡ Some uses = sym c.get_mut.ensures.value ∙ ap option_copied_mut c.in-Some.is in
    let written = (c.get_mut.follows.holds (uses - 1)).3 (subst IsSome (sym there) refl) in
    let last : 0 ≡ uses - 1 = omega arith in
    count-updated node (Some uses) None (λ n. n - 1) old c.swap_remove.new.self.entries there last
    (updated-twice node (Some (uses - 1)) None old _ c.swap_remove.new.self.entries written.0
    c.swap_remove.ensures.updates.0) other
    ∙ ap (λ (kept : KeptValue). cond (same_node node other) (uses_of kept other - 1) (uses_of kept other))
    c.self.view_is

-- what is kept then, by what contracts see of what was kept
pub returns-in_default-clause-kept : goal.returns-in_default-clause-kept
returns-in_default-clause-kept c = λ other.
    let node = c.args.node in
    let old = c.self.inside.by_node.entries in
    let absent : found old node ≡ None = sym c.get_mut.ensures.value ∙ ap option_copied_mut c.in_default.is in
    ap (λ entries. list_any (same_node other) (keys_of entries)) (ap (λ map. map.entries) c.get_mut.follows.holds-at-none)
    ∙ kept-updated node None None old old absent refl (updated-absent node old absent) other
    ∙ ap (λ (kept : KeptValue). cond (same_node node other) (nat_lt 1 (uses_of kept other)) (is_kept kept other))
    c.self.view_is

pub returns-then-uses-gt0-clause-kept : goal.returns-then-uses-gt0-clause-kept
returns-then-uses-gt0-clause-kept c = λ other.
    let node = c.args.node in
    let old = c.self.inside.by_node.entries in
    let uses = c.in-Some.uses.now in
    let there : found old node ≡ Some uses = sym c.get_mut.ensures.value ∙ ap option_copied_mut c.in-Some.is in
    let written = (c.get_mut.follows.holds (uses - 1)).3 (subst IsSome (sym there) refl) in
    let more : 0 < uses - 1 = omega arith in
    kept-updated node (Some uses) (Some (uses - 1)) old _ there (sym (lt-ltb 1 uses (omega (arith, more)))) written.0
    other
    ∙ ap (λ (kept : KeptValue). cond (same_node node other) (nat_lt 1 (uses_of kept other)) (is_kept kept other))
    c.self.view_is

pub returns-clause-kept : goal.returns-clause-kept
returns-clause-kept c = λ other.
    let node = c.args.node in
    let old = c.self.inside.by_node.entries in
    let uses = c.in-Some.uses.now in
    let there : found old node ≡ Some uses = sym c.get_mut.ensures.value ∙ ap option_copied_mut c.in-Some.is in
    let written = (c.get_mut.follows.holds (uses - 1)).3 (subst IsSome (sym there) refl) in
    let last : 0 ≡ uses - 1 = omega arith in
    kept-updated node (Some uses) None old c.swap_remove.new.self.entries there
    (sym (le-ltb 1 uses (omega (arith, last))))
    (updated-twice node (Some (uses - 1)) None old _ c.swap_remove.new.self.entries written.0
    c.swap_remove.ensures.updates.0) other
    ∙ ap (λ (kept : KeptValue). cond (same_node node other) (nat_lt 1 (uses_of kept other)) (is_kept kept other))
    c.self.view_is

pub invariant_of-self-2 : goal.invariant_of-self-2
invariant_of-self-2 c =
    let node = c.args.node in
    let old = c.self.inside.by_node.entries in
    let uses = c.in-Some.uses.now in
    let there : found old node ≡ Some uses = sym c.get_mut.ensures.value ∙ ap option_copied_mut c.in-Some.is in
    let held = c.get_mut.follows.holds (uses - 1) in
    let written = held.3 (subst IsSome (sym there) refl) in
    let room = c.self.invariant.room in
    let same = held.6 in
    let more = c.swap_remove.ensures.room.0 in
    record {
      used = used-without node old c.swap_remove.new.self.entries c.self.invariant.used (updated-twice node
          (Some (uses - 1)) None old _ c.swap_remove.new.self.entries written.0 c.swap_remove.ensures.updates.0);
      room = omega (arith, room, same, more);
    }
