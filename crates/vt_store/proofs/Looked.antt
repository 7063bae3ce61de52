-- What is found in a filesystem of a store, through an overlay or in a plain tree.
use Rattle.std.proofs.Common.{◌≡◌, ◌∙◌, ap, Bool, false, None, option_map, Option, refl, Some, subst, sym, true, true≢false, ℕ, IfSome, IsSome}
use Rattle.vt_spec.proofs.Common.{FileTree, Node, among_from_all, is_directory_node, none_is_some, parent_in, same_Some, when}
use Rattle.vt_location.specs.declared.locations.NodeRef.{NodeRef}
use Rattle.vt_location.specs.Locations.{number_of}
use Rattle.vt_fs.specs.FilesystemsValue.{Filesystems, files_at, node_seen}
use Rattle.vt_layered.specs.LayeredTree.{StandsLayered, layered_files, layered_lent}
use Rattle.vt_layered.specs.LayeredValue.{LayeredValue}
use Rattle.vt_store.specs.StoreValue.{StandOnLayers, StandsOnLayers, StoreValue, files_in, layered_in, lent_by, lent_in}
use Rattle.vt_store.proofs.Lending.{its_own_parent}
use Rattle.vt_store.proofs.Woven.{files_over, files_plain, is_over}

-- the parent of a directory, or what is no directory itself
pub when_is : (b : Bool) (a m : ℕ) → Some m ≡ when b a → m ≡ a
when_is true a m e = same_Some m a e
when_is false a m e = none_is_some m (sym e)

pub no_directory : (own : ℕ) (node : Option (Node ℕ))
    → None ≡ when (is_directory_node node) (parent_in own node) → own ≡ parent_in own node
no_directory own node e = by (is_directory_node node) refl e
  where
    by : (b : Bool) → is_directory_node node ≡ b → None ≡ when b (parent_in own node) → own ≡ parent_in own node
    by true is e = none_is_some (parent_in own node) e
    by false isnt e = its_own_parent own node isnt

module _ (store : StoreValue) (plain : Filesystems) (same : plain ≡ store.plain) (count : ℕ) where
  module _ (layered : LayeredValue) (is : layered_in store count ≡ Some layered) where
    pub over_files : layered_files plain layered.overlay layered.above ≡ files_in store count
    over_files = ap (λ p. layered_files p layered.overlay layered.above) same ∙ files_over store count layered is

    pub over_node : (number : ℕ) → (layered_files plain layered.overlay layered.above).tree.node number
        ≡ (files_in store count).tree.node number
    over_node number = ap (λ (files : FileTree ℕ). files.tree.node number) over_files

    pub over_lent : (number : ℕ) → layered_lent plain layered.overlay layered.above number ≡ lent_in store count number
    over_lent number = ap (λ p. layered_lent p layered.overlay layered.above number) same
        ∙ ap (lent_by store.plain count number) (sym is)

    pub over_stands : StandOnLayers store → StandsLayered plain layered.overlay layered.above
    over_stands standing =
        let over = is_over store count layered is in
        subst (λ p. StandsLayered p layered.overlay layered.above) (sym same)
        (subst (λ (one : LayeredValue). StandsLayered store.plain one.overlay one.above) over.holds
        (among_from_all (StandsOnLayers store.plain) store.overlays standing over.entry over.among))

  module _ (none : layered_in store count ≡ None) where
    pub plain_files : files_at plain count ≡ files_in store count
    plain_files = ap (λ p. files_at p count) same ∙ files_plain store count none

    pub plain_node : (number : ℕ) → (files_at plain count).tree.node number ≡ (files_in store count).tree.node number
    plain_node number = ap (λ (files : FileTree ℕ). files.tree.node number) plain_files

    pub plain_lent : (number : ℕ)
        → option_map (node_seen count) ((files_at plain count).tree.node number) ≡ lent_in store count number
    plain_lent number = cc (same, none)

    -- what is lent is the inode by its slots
    pub plain_seen : (number : ℕ)
        → option_map (node_seen count) ((files_in store count).tree.node number) ≡ lent_in store count number
    plain_seen number = ap (option_map (node_seen count)) (sym (plain_node number)) ∙ plain_lent number

-- a root that is there, by its number
pub root_there : (root : Option NodeRef) (number : ℕ) → IsSome root → IfSome root (λ one. number_of one ≡ number)
    → option_map number_of root ≡ Some number
root_there None number some is = absurd (true≢false (sym some))
root_there (Some root) number some is = ap Some is
