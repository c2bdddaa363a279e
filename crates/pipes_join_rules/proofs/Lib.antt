pub mod PairLists
