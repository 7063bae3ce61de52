use Rattle.std.proofs.Common.{◌≡◌, ◌∙◌, ◌||◌, Bool, Some, ap, eq-eqb, false, nat_eq, refl, subst, sym, true, ℕ, eqb-true}
use Rattle.vt_location.specs.Numbers.{counted}
use Rattle.vt_group.specs.Receiving.{Reaches, is_noted, receivers_from, receives_from}
use Rattle.vt_group.proofs.groups.Found.{reaches_first}
use Rattle.vt_group.proofs.groups.Relatives.{receivers_noted}
use Rattle.vt_group.proofs.groups.Groups.receiving_alone.Goals as goal

or_none : (b : Bool) → (b || false) ≡ b
or_none true = refl
or_none false = refl

pub returns : goal.returns
returns c =
    let groups = c.args.self.now in
    let group = counted c.args.group.count in
    let found : ℕ → Bool = nat_eq group in (
      found,
      record {
        first = eq-eqb group group refl;
        lower = λ one upper is inside. absurd (c.requires one (is ∙ ap Some (sym (eqb-true group upper inside))));
        reaches = λ one is. subst (Reaches groups group) (eqb-true group one is) (reaches_first groups group);
      },
      receivers_noted found c.self.inside.mounts.kinds.entries c.put_in_order.new.mounts.items
          c.self.invariant.ordered c.put_in_order.ensures.ordered (λ count.
          c.put_in_order.ensures.same count ∙ c.in_ok-add_relatives.ensures count
          ∙ ap (λ list. receives_from groups found (counted count) || is_noted list count) c.new-mounts.ensures.items
          ∙ or_none (receives_from groups found (counted count))
          ∙ ap (λ groups. receives_from groups found (counted count)) (sym c.self.view_is))
          ∙ ap (λ groups. receivers_from found groups.peers) c.self.view_is,
    )
