use Rattle.std.proofs.Common.{◌≡◌, ◌∙◌, ◌∷◌, [], List, None, Option, Some, ap, false, is_some, not, sym, true≢false, MatchOption}
use Rattle.vt_location.specs.declared.numbers.GroupId.{GroupId}
use Rattle.vt_group.specs.Receiving.{is_in}
use Rattle.vt_group.proofs.groups.Groups.is_lowest.Goals as goal

-- where nothing comes, nothing was left
none_left : (first : Option GroupId) (old new : List GroupId)
    → MatchOption first ((old ≡ []) × (new ≡ [])) (λ one. old ≡ one ∷ new) → is_some first ≡ false → old ≡ []
none_left None old new steps none = steps.0
none_left (Some one) old new steps none = absurd (true≢false none)

pub returns : goal.returns
returns c none one is =
    let empty = none_left c.next.result c.lowers.result c.next.new.self c.next.ensures.steps
    (c.is_none.ensures ∙ ap not none) in
    true≢false (sym (c.lowers.ensures one is) ∙ ap (λ list. is_in list one) empty)
