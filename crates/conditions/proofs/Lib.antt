pub mod KindLists
