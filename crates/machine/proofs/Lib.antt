-- Laws that belong to no one function.
pub mod Holding
pub mod Rowing
pub mod Copying
pub mod Opening
pub mod Restoring
pub mod Stacked
pub mod Padding
pub mod Turning
pub mod Going
pub mod Fairness
pub mod Noting
pub mod Standing
