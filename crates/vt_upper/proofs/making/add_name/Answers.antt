use Rattle.std.proofs.Common.{◌≡◌, ◌<◌, ◌∙◌, ap, is_some, length, map, nat_eq, None, subst, sym, true, false, ℕ}
use Rattle.vt_spec.proofs.Common.{AddName, IsDirectory, entries_in, entry_at, is_directory_node, uses_in}
use Rattle.vt_spec.specs.Inodes.{changed}
use Rattle.vt_fs.specs.FilesystemsValue.{ChangesInodes, Filesystems, files_at, inodes_at}
use Rattle.vt_fs.specs.Trees.Names.{IsNamed, ListsNames}
use Rattle.vt_location.specs.declared.locations.NodeRef.{NodeRef}
use Rattle.vt_location.specs.Locations.{inode_of, number_of}
use Rattle.vt_location.specs.Numbers.{exchanged, most_counted}
use Rattle.vt_upper.proofs.making.add_name.Goals as goal
use Rattle.vt_upper.proofs.making.add_name.Goals.{After-node_ref-named}

-- what is said of both inodes is said of their nodes
module _ (c : After-node_ref-named) where
  abbrev trees : Filesystems
  trees = c.args.trees.now

  abbrev f : ℕ
  f = c.args.directory.filesystem.count

  abbrev d : ℕ
  d = inode_of c.args.directory

  abbrev o : ℕ
  o = inode_of c.args.linked.object

  of_nodes : (Says : ℕ → ℕ → ℕ → Type 0) → Says f d o
      → Says c.node_ref-above.result.filesystem.count (number_of c.node_ref-above.result)
      (number_of c.node_ref-named.result)
  of_nodes Says says =
      subst (λ (n : NodeRef). Says n.filesystem.count (number_of n) (number_of c.node_ref-named.result))
      (sym c.node_ref-above.ensures.value)
      (subst (λ (n : NodeRef). Says f d (number_of n)) (sym c.node_ref-named.ensures.value) says)

  of_inodes : (Says : ℕ → ℕ → ℕ → Type 0)
      → Says c.node_ref-above.result.filesystem.count (number_of c.node_ref-above.result)
      (number_of c.node_ref-named.result) → Says f d o
  of_inodes Says says =
      subst (λ (n : NodeRef). Says f d (number_of n)) c.node_ref-named.ensures.value
      (subst (λ (n : NodeRef). Says n.filesystem.count (number_of n) (number_of c.node_ref-named.result))
      c.node_ref-above.ensures.value says)

pub link_promised-requires : goal.link_promised-requires
link_promised-requires c =
    let at = (goal.at.link_promised-requires c).After-node_ref-named in
    let may = c.requires.linkable in
    let all = trees at in
    record {
      one_filesystem = ap (λ (n : NodeRef). n.filesystem) c.node_ref-named.ensures.value ∙ may.beside
          ∙ sym (ap (λ (n : NodeRef). n.filesystem) c.node_ref-above.ensures.value);
      directory = of_nodes at (λ count n m. IsDirectory (files_at all count).tree n) c.requires.directory;
      free = of_nodes at (λ count n m. entry_at (files_at all count).tree n c.args.name.items ≡ None) c.requires.free;
      there = of_nodes at (λ count n m. is_some ((files_at all count).tree.node m) ≡ true) may.there;
      object = of_nodes at (λ count n m. is_directory_node ((files_at all count).tree.node m) ≡ false) may.plain;
      named = of_nodes at (λ count n m. IsNamed (files_at all count).tree m) may.named;
      uses = of_nodes at (λ count n m. uses_in ((inodes_at all count).inode m) < most_counted) may.few;
      room = of_nodes at (λ count n m. length (entries_in ((files_at all count).tree.node n)) < c.args.room.now)
          may.has_room;
      names = of_nodes at (λ count n m. ListsNames (files_at all count).tree m
          (map (exchanged count) c.args.linked.links.items)) may.lists;
      place = may.place;
    }

pub returns : goal.returns
returns c =
    let at = (goal.at.returns c).After-node_ref-named in
    of_inodes at (λ count n m. ChangesInodes count (λ inodes. changed nat_eq inodes (AddName n c.args.name.items m))
    c.args.trees.now c.link_promised.new.self) c.link_promised.ensures.linked
