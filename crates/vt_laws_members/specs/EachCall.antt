pub mod EachCall
