pub mod SyzygyLists
