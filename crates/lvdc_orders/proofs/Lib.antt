pub mod Permutations
