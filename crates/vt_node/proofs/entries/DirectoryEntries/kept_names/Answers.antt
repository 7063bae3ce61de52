use Rattle.std.proofs.Common.{map, subst, sym, ℕ, ◌∙◌, IsPermutation}
use Rattle.vt_spec.proofs.Common.{Entries, keys_of}
use Rattle.vt_node.proofs.KeptNames.{names-listed}
use Rattle.vt_node.proofs.entries.DirectoryEntries.kept_names.Goals as goal

pub returns : goal.returns
returns c =
    let kept = c.self.inside.by_name.entries in
    subst (λ names. IsPermutation (map (λ name. name.items) names) (map (λ entry. entry.0) c.args.self.now))
    (sym (c.as_slice.ensures ∙ c.keys.ensures.rest))
    (subst (λ (entries : Entries ℕ). IsPermutation (map (λ name. name.items) (keys_of kept))
    (map (λ entry. entry.0) entries)) c.self.view_is (names-listed kept c.keys.ensures.unique))
