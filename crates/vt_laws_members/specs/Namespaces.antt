pub mod NamespaceChanges
