use Rattle.std.proofs.Common.{rules, ◌≡◌, ◌∙◌, ◌<◌, ◌≤◌, ◌++◌, ◌∷◌, [], All, ap, arith, get_or, IsSome, length, List, map, refl, Some, subst, sym, take, ℕ}
use Rattle.std.proofs.lemmas.List.{get_or-map, take_all, take_more}
use Rattle.std.specs.Global.{Vec}
use Rattle.vt_spec.proofs.Common.{All-push, Entries, entries_in, entry_named, length-map, map-append, same_Some, uses_in}
use Rattle.vt_spec.specs.Tree.{names_in}
use Rattle.vt_fs.specs.FilesystemsValue.{Filesystems, files_at, inodes_at}
use Rattle.vt_location.specs.declared.births.Birth.TheVariants.{Here}
use Rattle.vt_location.specs.declared.locations.InodeRef.{InodeRef}
use Rattle.vt_location.specs.declared.locations.NodeRef.{NodeRef}
use Rattle.vt_location.specs.declared.numbers.FilesystemId.{FilesystemId}
use Rattle.vt_location.specs.Locations.{inode_of, number_of}
use Rattle.vt_location.specs.Numbers.{most_counted}
use Rattle.vt_upper.proofs.NamesListed.{IsEntryAt, alike_at, as_long, named_at}
use Rattle.vt_upper.proofs.leaving.Leaving.of.Goals as goal
use Rattle.vt_upper.proofs.leaving.Leaving.of.Goals.{After-deref}

-- the names that were listed
listed_names : (trees : Filesystems) (object : InodeRef) (node : NodeRef) (names : List (Vec ℕ))
    → node ≡ record { filesystem = object.filesystem; slot = object.slot; birth = Here }
    → map (λ (name : Vec ℕ). name.items) names
    ≡ names_in ((files_at trees node.filesystem.count).tree.node (number_of node))
    → map (λ (name : Vec ℕ). name.items) names
    ≡ map (λ (e : List ℕ × ℕ). e.0) (entries_in ((files_at trees object.filesystem.count).tree.node (inode_of object)))
listed_names trees object node names is same =
    same ∙ ap (λ (n : NodeRef). names_in ((files_at trees n.filesystem.count).tree.node (number_of n))) is

-- the next of them
module _ (c : After-deref) where
  abbrev f : ℕ
  f = c.args.object.filesystem.count

  abbrev listed : Entries ℕ
  listed = entries_in ((files_at c.args.trees.now f).tree.node (inode_of c.args.object))

  abbrev k : ℕ
  k = c.loop-index.index

  abbrev number : ℕ
  number = (get_or listed k ([], 0)).1

  names_are : map (λ (name : Vec ℕ). name.items) c.in_ok-names.names.items ≡ map (λ (e : List ℕ × ℕ). e.0) listed
  names_are = listed_names c.args.trees.now c.args.object c.node_ref.result c.in_ok-names.names.items
      c.node_ref.ensures.value c.in_ok-names.ensures.ok

  within : k < length listed
  within =
      let many = as_long (λ (name : Vec ℕ). name.items) (λ (e : List ℕ × ℕ). e.0) c.in_ok-names.names.items listed
      names_are in
      let counted = c.in_ok-names.names.ok.0 in
      let test = c.loop-index-test.true in
      let end = c.len-index-end.ensures in omega (arith, many, counted, test, end)

  within_names : k < length c.in_ok-names.names.items
  within_names =
      let counted = c.in_ok-names.names.ok.0 in
      let test = c.loop-index-test.true in
      let end = c.len-index-end.ensures in omega (arith, counted, test, end)

  at : IsEntryAt listed k c.index.result.now.items number
  at = record {
    within = within;
    word_is = alike_at (λ (name : Vec ℕ). name.items) (λ (e : List ℕ × ℕ). e.0) c.in_ok-names.names.items listed k
        c.index.result.now ([], 0) names_are within_names c.index.ensures;
    number_is = refl;
  }

  leads : entry_named c.deref.result.now listed ≡ Some number
  leads = ap (λ word. entry_named word listed) c.deref.ensures.value
      ∙ named_at listed k c.index.result.now.items number at c.requires.order

pub held_at-requires : goal.held_at-requires
held_at-requires c =
    let at = (goal.at.held_at-requires c).After-deref in
    record { named = subst IsSome (sym (leads at)) refl }

pub loop-index-preserved : goal.loop-index-preserved
loop-index-preserved c =
    let at = (goal.at.loop-index-preserved c).After-deref in
    let all = listed at in
    let items = c.loop-index.inodes.items in
    let inode = c.in_ok-inode.inode in
    let pushed : c.push.new.self.items ≡ items ++ inode ∷ [] = search rules in
    let number_is : number at ≡ inode_of inode =
    same_Some (number at) (inode_of inode) (sym (leads at) ∙ c.in_ok-inode.ensures.leads) in
    let many = length-map all (λ (e : List ℕ × ℕ). e.1) in
    let few = within at in
    let there : k at < length (map (λ (e : List ℕ × ℕ). e.1) all) = omega (arith, many, few) in
    record {
      inodes = ap (map inode_of) pushed ∙ map-append inode_of items (inode ∷ [])
          ∙ ap (λ l. l ++ inode_of inode ∷ []) c.loop-index.invariant.inodes
          ∙ sym (take_more (map (λ (e : List ℕ × ℕ). e.1) all) (k at) 0 there
          ∙ ap (λ n. take (k at) (map (λ (e : List ℕ × ℕ). e.1) all) ++ n ∷ [])
          (get_or-map (λ (e : List ℕ × ℕ). e.1) all (k at) ([], 0) 0 few ∙ number_is));
      own = subst (All (λ (one : InodeRef). one.filesystem ≡ c.args.object.filesystem)) (sym pushed)
          (All-push (λ (one : InodeRef). one.filesystem ≡ c.args.object.filesystem) items inode c.loop-index.invariant.own
          c.in_ok-inode.ensures.filesystem);
      few = subst (All (λ n. uses_in ((inodes_at c.args.trees.now (f at)).inode n) < most_counted))
          (sym (ap (map inode_of) pushed ∙ map-append inode_of items (inode ∷ [])))
          (All-push (λ n. uses_in ((inodes_at c.args.trees.now (f at)).inode n) < most_counted)
          (map inode_of items) (inode_of inode) c.loop-index.invariant.few
          (subst (λ (id : FilesystemId). uses_in ((inodes_at c.args.trees.now id.count).inode (inode_of inode))
          < most_counted) c.in_ok-inode.ensures.filesystem c.in_ok-inode.ensures.few));
    }

pub returns-clause-few : goal.returns-clause-few
returns-clause-few c =
    let trees = c.args.trees.now in
    let f = c.args.object.filesystem.count in
    let h = inode_of c.args.object in
    let all = entries_in ((files_at trees f).tree.node h) in
    let names = as_long (λ (name : Vec ℕ). name.items) (λ (e : List ℕ × ℕ). e.0) c.in_ok-names.names.items all
    (listed_names trees c.args.object c.node_ref.result c.in_ok-names.names.items c.node_ref.ensures.value
    c.in_ok-names.ensures.ok) in
    let many = length-map all (λ (e : List ℕ × ℕ). e.1) in
    let counted = c.in_ok-names.names.ok.0 in
    let test = c.loop-index-test.false in
    let end = c.len-index-end.ensures in
    let past : length (map (λ (e : List ℕ × ℕ). e.1) all) ≤ c.loop-index.index =
    omega (arith, names, many, counted, test, end) in
    All-push (λ n. uses_in ((inodes_at trees f).inode n) < most_counted) (map (λ (e : List ℕ × ℕ). e.1) all) h
    (subst (All (λ n. uses_in ((inodes_at trees f).inode n) < most_counted))
    (c.loop-index.invariant.inodes ∙ take_all c.loop-index.index (map (λ (e : List ℕ × ℕ). e.1) all) past)
    c.loop-index.invariant.few) c.in_ok-may_be_held.ensures
