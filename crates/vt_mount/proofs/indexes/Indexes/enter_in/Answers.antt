use Rattle.std.proofs.Common.{[], subst, ◌++◌, option_to_list}
use Rattle.vt_location.specs.declared.numbers.NamespaceId.{NamespaceId}
use Rattle.vt_mount.specs.Reserved.{Reserves}
use Rattle.vt_mount.specs.Indexes.{same_namespace}
use Rattle.vt_mount.proofs.ReservedLemmas.{reserves-less, is-reserved, same_namespace-itself}
use Rattle.vt_mount.proofs.indexes.Indexes.enter_in.Goals as goal

pub put_in-requires : goal.put_in-requires
put_in-requires c =
    let has = subst (λ namespace. Reserves c.args.self.now (option_to_list namespace) []) c.in-Some.is c.requires in
    is-reserved same_namespace (λ (namespace : NamespaceId). namespace) c.in-Some.namespace []
    c.args.self.now.by_namespace.lists (same_namespace-itself c.in-Some.namespace) has.namespace

pub returns-in-Some-clause-reserves : goal.returns-in-Some-clause-reserves
returns-in-Some-clause-reserves c namespaces places has =
    let has = subst (λ namespace. Reserves c.args.self.now (option_to_list namespace ++ namespaces) places)
    c.in-Some.is has in
    record {
      namespace = reserves-less same_namespace (λ (namespace : NamespaceId). namespace) c.in-Some.namespace namespaces
          c.args.self.now.by_namespace.lists c.put_in.new.self.lists c.put_in.ensures.reserved has.namespace;
      parent = has.parent;
      inode = has.inode;
    }
