pub mod WorkedGrowths
