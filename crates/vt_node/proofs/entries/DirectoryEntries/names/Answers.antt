use Rattle.std.proofs.Common.{map, sym, ap, ◌∙◌, true≢false}
use Rattle.vt_spec.proofs.Common.{keys_of}
use Rattle.vt_node.proofs.ListedLemmas.{none-listed}
use Rattle.vt_node.proofs.SortedNames.{sorted_names}
use Rattle.vt_node.proofs.entries.DirectoryEntries.names.Goals as goal

-- the copies in order are the names of the entries
pub returns-clause-ok : goal.returns-clause-ok
returns-clause-ok c =
    let keys = c.as_slice.ensures ∙ c.keys.ensures.rest in
    sorted_names c.self.inside.by_name.entries c.in_ok-names.names.items c.sort_unstable.new.self.items
    (c.in_ok-names.ensures.ok ∙ ap (map (λ key. key.items)) keys)
    c.sort_unstable.ensures.permutation c.sort_unstable.ensures.sorted c.keys.ensures.unique
    ∙ ap (map (λ entry. entry.0)) c.self.view_is

-- where nothing is listed nothing is kept, and copied
pub returns-in_err-names-clause-empty : goal.returns-in_err-names-clause-empty
returns-in_err-names-clause-empty c = λ none.
    let kept = none-listed c.self.inside.by_name.entries (c.self.view_is ∙ none) in
    let keys = c.as_slice.ensures ∙ c.keys.ensures.rest ∙ ap keys_of kept in
    absurd (true≢false (sym (c.in_err-names.ensures.empty keys)))
