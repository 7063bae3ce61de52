use Rattle.std.proofs.Common.{Some, None, ap, inl, inr, option_map, refl, sym, ◌∙◌}
use Rattle.vt_spec.proofs.Common.{option_copied_mut}
use Rattle.vt_fs.specs.FilesystemsValue.{entry_of, held, held_with_tree}
use Rattle.vt_fs.proofs.Entries.{first_is, first_there, found_first, held_apart, tree_of-held, writes, writes_first}
use Rattle.vt_fs.proofs.filesystems.Filesystems.get_mut.Goals as goal

pub returns-in-Some : goal.returns-in-Some
returns-in-Some c =
    let f = c.args.filesystem.count in
    let map = c.self.inside.by_number in
    let found = c.in-Some.found.now in
    let there = ap option_copied_mut (sym c.in-Some.is) ∙ c.get_index_mut.ensures.value in
    let first = first_is c.args.filesystem map.entries (sym c.is_first.ensures ∙ c.if-is_first.true) in (
      λ i. inl (
        c.tree_mut.result.ghost_name,
        λ tree. writes_first c.args.filesystem (λ one. held_with_tree one tree) (λ entry. record entry { tree = tree })
            map.entries _ c.args.self.now found _ c.self.view_is first there refl (λ k one. refl) refl i,
      ),
      record {
        writes_back = tt;
        value = ap Some c.tree_mut.ensures.value
            ∙ tree_of-held f map.entries (Some found) (found_first c.args.filesystem found map.entries first there)
            ∙ ap (λ fs. option_map (λ entry. entry.tree) (entry_of fs f)) c.self.view_is;
        apart = held_apart map.entries c.args.self.now c.self.view_is;
      },
    )

pub returns-in-None : goal.returns-in-None
returns-in-None c = first_there c.args.filesystem c.self.inside.by_number.entries
    (first_is c.args.filesystem c.self.inside.by_number.entries (sym c.is_first.ensures ∙ c.if-is_first.true))
    (ap option_copied_mut (sym c.in-None.is) ∙ c.get_index_mut.ensures.value)

pub returns-in-Some-get_mut : goal.returns-in-Some-get_mut
returns-in-Some-get_mut c =
    let f = c.args.filesystem.count in
    let map = c.self.inside.by_number in
    let found = c.in-Some-get_mut.found.now in
    let there = sym c.get_mut.ensures.value ∙ ap option_copied_mut c.in-Some-get_mut.is in (
      λ i. inl (
        c.tree_mut-in-Some-get_mut.result.ghost_name,
        λ tree. writes f (λ one. held_with_tree one tree) (λ entry. record entry { tree = tree }) map _ c.args.self.now
            found _ c.self.view_is there refl (λ k one. refl) (c.get_mut.follows.holds (held_with_tree found tree)) i,
      ),
      record {
        writes_back = tt;
        value = ap Some c.tree_mut-in-Some-get_mut.ensures.value ∙ tree_of-held f map.entries (Some found) (sym there)
            ∙ ap (λ fs. option_map (λ entry. entry.tree) (entry_of fs f)) c.self.view_is;
        apart = held_apart map.entries c.args.self.now c.self.view_is;
      },
    )

pub returns-in-None-get_mut : goal.returns-in-None-get_mut
returns-in-None-get_mut c =
    let f = c.args.filesystem.count in
    let map = c.self.inside.by_number in
    let absent = sym c.get_mut.ensures.value ∙ ap option_copied_mut c.in-None-get_mut.is in (
      λ i. inr ((ap (λ map. held map.entries) c.get_mut.follows.holds-at-none ∙ c.self.view_is) i),
      record {
        writes_back = tt;
        value = tree_of-held f map.entries None (sym absent)
            ∙ ap (λ fs. option_map (λ entry. entry.tree) (entry_of fs f)) c.self.view_is;
        apart = held_apart map.entries c.args.self.now c.self.view_is;
      },
    )
